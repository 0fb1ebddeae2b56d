-- What is known before a line of a script is sound: the steps so far are well formed, and the said lines go with them.
use Rattle.std.proofs.Common.{◌≡◌, ℕ, suc, ◌+◌, ◌<◌, ◌≤◌, true, false, List, [], ◌∷◌, ◌++◌, length, Some, refl, sym, subst, ◌∙◌, append_assoc, arith}
use Rattle.std.specs.Prelude.{nat_le, nat_lt}
use Rattle.std.specs.List.{list_all}
use Rattle.std.proofs.lemmas.Bool.{and_from, and_parts, lt-ltb, le-leb, ltb-true}
use Rattle.std.proofs.lemmas.List.{append-nil, length-append}
use Rattle.std.proofs.lemmas.List.Folds.{list_all-append}
use Rattle.rec_words.specs.Words.{most_variables}
use Rattle.bool_tables.specs.Plans.{may_follow, all_may_follow}
use Rattle.bool_tables.specs.declared.steps.Planned.{Planned}
use Rattle.script_reader.specs.declared.plan.LineEnd.{LineEnd}
use Rattle.script_reader.specs.Lines.{rise_from, shows_past, AreLines}
use Rattle.script_reader.specs.Names.{State, nothing}
use Rattle.script_reader.proofs.NamedSteps.{NamesLive, none_live}

-- steps that may follow each other, and one more
pub follow_more : (n : ℕ) (text : List ℕ) (before steps : List Planned) (s : Planned) → all_may_follow n text before steps ≡ true → may_follow n text (before ++ steps) s ≡ true → all_may_follow n text before (steps ++ s ∷ []) ≡ true
follow_more n text before [] s h m = and_from _ _ (subst (λ b. may_follow n text b s ≡ true) (append-nil before) m) refl
follow_more n text before (first ∷ steps) s h m =
    let p = and_parts (may_follow n text before first) (all_may_follow n text (before ++ first ∷ []) steps) h in
    and_from _ _ p.0 (follow_more n text (before ++ first ∷ []) steps s p.1 (subst (λ b. may_follow n text b s ≡ true) (sym (append_assoc before (first ∷ []) steps)) m))

-- lines in order, and one that isn't before them
rise_more : (from : ℕ) (lines : List LineEnd) (l : LineEnd) → rise_from from lines ≡ true → list_all (shows_past (suc l.last)) lines ≡ true → from ≤ l.last → rise_from from (lines ++ l ∷ []) ≡ true
rise_more from [] l rise shows first = and_from _ _ (le-leb _ _ first) refl
rise_more from (x ∷ lines) l rise shows first =
    let p = and_parts (nat_le from x.last) (rise_from x.last lines) rise in
    let q = and_parts (shows_past (suc l.last) x) (list_all (shows_past (suc l.last)) lines) shows in
    let last : x.last < suc l.last = ltb-true _ _ (and_parts (nat_le x.shows x.last) (nat_lt x.last (suc l.last)) q.0).1 in
    and_from _ _ p.0 (rise_more x.last lines l p.1 q.1 (omega (arith, last)))

-- lines of some steps are lines of more
shows_more : (count more : ℕ) (lines : List LineEnd) → list_all (shows_past count) lines ≡ true → count ≤ more → list_all (shows_past more) lines ≡ true
shows_more count more [] shows up = refl
shows_more count more (x ∷ lines) shows up =
    let q = and_parts (shows_past count x) (list_all (shows_past count) lines) shows in
    let p = and_parts (nat_le x.shows x.last) (nat_lt x.last count) q.0 in
    let last : x.last < count = ltb-true _ _ p.1 in
    and_from _ _ (and_from _ _ p.0 (lt-ltb _ _ (omega (arith, last, up)))) (shows_more count more lines q.1 up)

-- they go with further steps
pub lines_stay : (steps more : List Planned) (lines : List LineEnd) → AreLines steps lines → length steps ≤ length more → AreLines more lines
lines_stay steps more lines h up = record { in_order = h.in_order; show_past = shows_more (length steps) (length more) lines h.show_past up }

-- one more line, behind the last step
pub line_put : (steps : List Planned) (lines : List LineEnd) (l : LineEnd) → AreLines steps lines → suc l.last ≡ length steps → l.shows ≤ l.last → AreLines steps (lines ++ l ∷ [])
line_put steps lines l h last shows =
    let past : list_all (shows_past (suc l.last)) lines ≡ true = subst (λ n. list_all (shows_past n) lines ≡ true) (sym last) h.show_past in
    let here : list_all (shows_past (length steps)) (l ∷ []) ≡ true = and_from _ _ (and_from _ _ (le-leb _ _ shows) (lt-ltb _ _ (omega (arith, last)))) refl in
    record {
      in_order = rise_more 0 lines l h.in_order past (omega arith);
      show_past = list_all-append (shows_past (length steps)) lines (l ∷ []) ∙ and_from _ _ h.show_past here;
    }

-- the line of one step more
pub lines_more : (steps : List Planned) (lines : List LineEnd) (number : ℕ) (p : Planned) → AreLines steps lines
    → AreLines (steps ++ p ∷ []) (lines ++ record { line = number; last = length steps; shows = length steps } ∷ [])
lines_more steps lines number p h =
    let more : length (steps ++ p ∷ []) ≡ length steps + 1 = length-append steps (p ∷ []) in
    line_put (steps ++ p ∷ []) lines (record { line = number; last = length steps; shows = length steps })
    (lines_stay steps (steps ++ p ∷ []) lines h (omega (arith, more))) (omega (arith, more)) (omega arith)

-- what is known before a line: the steps are well formed over the text, the names name live diagrams, levels are those of
-- variables, there is no step before the first line with words, and the said lines go with the steps
pub record Stands (text : List ℕ) (s : State) : Type 0 where
  pub few_variables : s.n ≤ most_variables
  pub few_steps : length s.steps ≤ 1048576
  pub fresh : s.begun ≡ false → s.steps ≡ []
  pub levels : (name : List ℕ) (level : ℕ) → s.level name ≡ Some level → level < s.n
  pub names : NamesLive s.steps s.named
  pub in_order : all_may_follow s.n text [] s.steps ≡ true
  pub lines : AreLines s.steps s.lines

pub nothing_stands : (text : List ℕ) → Stands text nothing
nothing_stands text = record {
  few_variables = omega arith;
  few_steps = omega arith;
  fresh = λ e. refl;
  levels = λ name level e. absurd cc;
  names = none_live;
  in_order = refl;
  lines = record { in_order = refl; show_past = refl };
}
