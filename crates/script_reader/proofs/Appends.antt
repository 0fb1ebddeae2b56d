-- Each line of a script behind the first puts its steps and its said lines behind those so far.
use Rattle.std.proofs.Common.{◌≡◌, ℕ, zero, suc, ◌+◌, ◌<◌, ◌≤◌, Bool, true, false, List, [], ◌∷◌, ◌++◌, length, get_or, refl, sym, ap, subst, ◌∙◌, append_assoc, arith}
use Rattle.std.specs.Prelude.{Ok, if◌then◌else◌}
use Rattle.std.specs.List.{Contains}
use Rattle.std.proofs.lemmas.List.{append-nil, length-append, get_or_append_left, get_or-set_same, get_or-set_other}
use Rattle.bool_tables.specs.declared.steps.Planned.{Planned}
use Rattle.bool_tables.specs.declared.steps.Step.{Step}
use Rattle.bool_tables.specs.declared.steps.Step.TheVariants as step
use Rattle.net_plan.specs.Values.{steps_of}
use Rattle.text_words.specs.Text.{Word}
use Rattle.script_reader.specs.declared.fault.ScriptKind.TheVariants as kind
use Rattle.script_reader.specs.declared.keyword.Keyword.{Keyword}
use Rattle.script_reader.specs.declared.plan.LineEnd.{LineEnd}
use Rattle.script_reader.specs.Results.{check}
use Rattle.script_reader.specs.Keywords.{word_at, gives_name}
use Rattle.script_reader.specs.Names.{State}
use Rattle.script_reader.specs.Nets.{nameless, name_step, give_name, give_names}
use Rattle.script_reader.specs.Requests.{step_of, name_fits, has_room, planned_of, with_named, name_behind, with_planned, plan_step}
use Rattle.script_reader.proofs.MadeSteps.{then_ok, same_ok}
use Rattle.script_reader.proofs.Pairs.{step_named, length-named}

-- steps and said lines stand behind those so far, and the variables stay
pub record Appends (s t : State) : Type 0 where
  pub more : List Planned
  pub steps : t.steps ≡ s.steps ++ more
  pub said : List LineEnd
  pub lines : t.lines ≡ s.lines ++ said
  pub n : t.n ≡ s.n
  pub begun : t.begun ≡ s.begun

pub appends_none : (s : State) → Appends s s
appends_none s = record { more = []; steps = sym (append-nil s.steps); said = []; lines = sym (append-nil s.lines); n = refl; begun = refl }

pub appends_on : (s t u : State) → Appends s t → Appends t u → Appends s u
appends_on s t u a b = record {
  more = a.more ++ b.more;
  steps = b.steps ∙ ap (λ xs. xs ++ b.more) a.steps ∙ append_assoc s.steps a.more b.more;
  said = a.said ++ b.said;
  lines = b.lines ∙ ap (λ xs. xs ++ b.said) a.lines ∙ append_assoc s.lines a.said b.said;
  n = b.n ∙ a.n;
  begun = b.begun ∙ a.begun;
}

-- a name changes neither steps nor lines
record OnlyNames (s t : State) : Type 0 where
  steps : t.steps ≡ s.steps
  lines : t.lines ≡ s.lines
  n : t.n ≡ s.n
  begun : t.begun ≡ s.begun

only_names : (s : State) (k : Keyword) (words : List Word) (made : Step) → OnlyNames s (name_behind s k words made)
only_names s k words made = by made
  where
    given : (b : Bool) → OnlyNames s (if b then with_named s (word_at 1 words) (record { step = length s.steps; dropped = false }) else s)
    given true = record { steps = refl; lines = refl; n = refl; begun = refl }
    given false = record { steps = refl; lines = refl; n = refl; begun = refl }

    by : (made : Step) → OnlyNames s (name_behind s k words made)
    by (step.Drop gone) = record { steps = refl; lines = refl; n = refl; begun = refl }
    by (step.Const value) = given (gives_name k)
    by (step.Var level) = given (gives_name k)
    by (step.Pair op left right) = given (gives_name k)
    by (step.Ite test if_one if_zero) = given (gives_name k)
    by (step.Quantify quant of level) = given (gives_name k)
    by (step.Restrict of level value) = given (gives_name k)
    by (step.Same left right) = given (gives_name k)
    by (step.Leq left right) = given (gives_name k)
    by (step.Eval of at) = given (gives_name k)
    by (step.Size of) = given (gives_name k)

-- a line that is one step
pub step_appends : (s t : State) (number : ℕ) (k : Keyword) (words : List Word) → plan_step s number k words ≡ Ok t → Appends s t
step_appends s t number k words e =
    then_ok (step_of s k words) _ t e (λ made is next.
    then_ok (name_fits s k words) _ t next (λ u fits more.
    then_ok (check kind.TooManySteps (has_room (length s.steps + 1))) _ t more (λ v room last.
    subst (Appends s) (same_ok _ _ last) (behind made))))
  where
    behind : (made : Step) → Appends s (with_planned (name_behind s k words made) number (planned_of k words made))
    behind made =
        let only = only_names s k words made in
        let count : ℕ = length (name_behind s k words made).steps in
        let end : LineEnd = record { line = number; last = count; shows = count } in
        record {
          more = planned_of k words made ∷ [];
          steps = ap (λ xs. xs ++ planned_of k words made ∷ []) only.steps;
          said = end ∷ [];
          lines = ap (λ xs. xs ++ end ∷ []) only.lines;
          n = only.n;
          begun = only.begun;
        }

-- a name for one of the last steps leaves those in front
pub record Behind (base : List Planned) (planned : List Step) (steps : List Planned) : Type 0 where
  pub rest : List Planned
  pub is : steps ≡ base ++ rest
  pub same : steps_of rest ≡ planned

name_keeps : (base more : List Planned) (number : ℕ) (name : Word) → length base ≤ number → Behind base (steps_of more) (name_step number name (base ++ more))
name_keeps [] more number name late = record { rest = name_step number name more; is = refl; same = step_named number name more }
name_keeps (b ∷ base) more zero name late = absurd (omega arith)
name_keeps (b ∷ base) more (suc number) name late =
    let r = name_keeps base more number name (omega arith) in
    record { rest = r.rest; is = ap (λ xs. b ∷ xs) r.is; same = r.same }

-- the names of a line are those of its own steps
pub names_keep : (base : List Planned) (planned : List Step) (s : State) (number last : ℕ) (names : List Word) (made : List ℕ) → Behind base planned s.steps
    → ((i : ℕ) → i < length made → length base ≤ get_or made i 0) → Behind base planned (give_names s number last names made).steps
names_keep base planned s number last [] made is late = is
names_keep base planned s number last (w ∷ names) [] is late = is
names_keep base planned s number last (w ∷ names) (m ∷ made) is late =
    names_keep base planned (give_name s number last w m) number last names made
    (record { rest = here.rest; is = ap (name_step m w) is.is ∙ here.is; same = here.same ∙ is.same })
    (λ i b. late (suc i) (omega arith))
  where
    here : Behind base (steps_of is.rest) (name_step m w (base ++ is.rest))
    here = name_keeps base is.rest m w (late 0 (omega arith))

-- each pair says a line, and the variables stay
pub record Says (s t : State) : Type 0 where
  pub said : List LineEnd
  pub lines : t.lines ≡ s.lines ++ said
  pub n : t.n ≡ s.n
  pub begun : t.begun ≡ s.begun

pub names_say : (s : State) (number last : ℕ) (names : List Word) (made : List ℕ) → Says s (give_names s number last names made)
names_say s number last [] made = record { said = []; lines = sym (append-nil s.lines); n = refl; begun = refl }
names_say s number last (w ∷ names) [] = record { said = []; lines = sym (append-nil s.lines); n = refl; begun = refl }
names_say s number last (w ∷ names) (m ∷ made) =
    let rest = names_say (give_name s number last w m) number last names made in
    let end : LineEnd = record { line = number; last = last; shows = m } in
    record { said = end ∷ rest.said; lines = rest.lines ∙ append_assoc s.lines (end ∷ []) rest.said; n = rest.n; begun = rest.begun }

-- what a list has, it has with more behind it
pub contains_more : {A : Type 0} (xs ys : List A) (x : A) → Contains xs x → Contains (xs ++ ys) x
contains_more xs ys x (k, below, is) = (k, omega (arith, below, length-append xs ys), get_or_append_left xs ys x k below ∙ is)

contains_last : {A : Type 0} (xs : List A) (x : A) → Contains (xs ++ x ∷ []) x
contains_last {A = A} xs x = (length xs, omega (arith, length-append xs (x ∷ [])), by xs)
  where
    by : (ys : List A) → get_or (ys ++ x ∷ []) (length ys) x ≡ x
    by [] = refl
    by (y ∷ ys) = by ys

-- past the last step
abbrev pub no_step : Planned
no_step = nameless (step.Const false)

-- a pair's said line, and the name of its step
pub record PairGiven (number last : ℕ) (name : Word) (made : ℕ) (t : State) : Type 0 where
  pub said : Contains t.lines (record { line = number; last = last; shows = made })
  pub name_at : (get_or t.steps made no_step).name_at ≡ name.at
  pub name_len : (get_or t.steps made no_step).name_len ≡ length name.bytes

-- a step that is none of those with a name stays
others_stay : (s : State) (number last : ℕ) (names : List Word) (made : List ℕ) (k : ℕ) → ((i : ℕ) → i < length made → get_or made i 0 ≡ k → ⊥)
    → get_or (give_names s number last names made).steps k no_step ≡ get_or s.steps k no_step
others_stay s number last [] made k other = refl
others_stay s number last (w ∷ names) [] k other = refl
others_stay s number last (w ∷ names) (m ∷ made) k other =
    others_stay (give_name s number last w m) number last names made k (λ i b e. other (suc i) (omega arith) e)
    ∙ get_or-set_other s.steps m k _ no_step (λ e. other 0 (omega arith) (sym e))

pub pair_given : (s : State) (number last : ℕ) (names : List Word) (made : List ℕ) (i : ℕ) (d : Word) → i < length names → i < length made
    → ((j : ℕ) → j < length made → get_or made j 0 < length s.steps) → ((j k : ℕ) → j < length made → k < length made → get_or made j 0 ≡ get_or made k 0 → j ≡ k)
    → PairGiven number last (get_or names i d) (get_or made i 0) (give_names s number last names made)
pair_given s number last [] made i d b c below apart = absurd (omega arith)
pair_given s number last (w ∷ names) [] i d b c below apart = absurd (omega arith)
pair_given s number last (w ∷ names) (m ∷ made) zero d b c below apart =
    let next : State = give_name s number last w m in
    let end : LineEnd = record { line = number; last = last; shows = m } in
    let says = names_say next number last names made in
    let stays = others_stay next number last names made m
    (λ j b e. let same : 0 ≡ suc j = apart 0 (suc j) (omega arith) (omega arith) (sym e) in omega (arith, same)) in
    let here : get_or (name_step m w s.steps) m no_step ≡ _ = get_or-set_same s.steps m _ no_step (below 0 (omega arith)) in
    record {
      said = subst (λ xs. Contains xs end) (sym says.lines) (contains_more (s.lines ++ end ∷ []) says.said end (contains_last s.lines end));
      name_at = ap (λ (p : Planned). p.name_at) (stays ∙ here);
      name_len = ap (λ (p : Planned). p.name_len) (stays ∙ here);
    }
pair_given s number last (w ∷ names) (m ∷ made) (suc i) d b c below apart =
    pair_given (give_name s number last w m) number last names made i d (omega arith) (omega arith)
    (λ j b. let less : get_or made j 0 < length s.steps = below (suc j) (omega arith) in omega (arith, less, length-named m w s.steps))
    (λ j k b c e. let more : suc j ≡ suc k = apart (suc j) (suc k) (omega arith) (omega arith) e in omega (arith, more))
