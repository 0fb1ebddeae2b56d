-- The pairs of a line give their names to live diagrams that have none.
use Rattle.std.proofs.Common.{◌≡◌, ℕ, zero, suc, ◌<◌, ◌≤◌, Bool, true, false, cond, List, [], ◌∷◌, ◌++◌, length, get_or, Some, refl, sym, ap, ◌∙◌, arith}
use Rattle.std.specs.Prelude.{Ok, ◌&&◌, nat_lt}
use Rattle.std.specs.List.{AllByRecursion, list_all}
use Rattle.std.specs.Str.{bytes_eq}
use Rattle.std.proofs.lemmas.Bool.{and_from, and_parts, le-leb, leb-true}
use Rattle.std.proofs.lemmas.List.{length-map}
use Rattle.bool_tables.specs.Plans.{is_live, operands, levels_of, has_bits, has_name, may_follow, all_may_follow}
use Rattle.bool_tables.specs.declared.steps.Planned.{Planned}
use Rattle.net_plan.specs.Values.{steps_of}
use Rattle.net_plan.proofs.Follows.{follow_from, may_from, all_follow}
use Rattle.text_words.specs.Text.{Word}
use Rattle.text_words.specs.Places.{StandsIn}
use Rattle.script_reader.specs.Names.{State, live_of}
use Rattle.script_reader.specs.Nets.{name_step, give_name, give_names}
use Rattle.script_reader.specs.Requests.{is_short}
use Rattle.script_reader.proofs.NamedSteps.{live_below, live_same, name_live, names_same}
use Rattle.script_reader.proofs.Stands.{Stands, lines_stay, line_put}

-- no pair
pub none_made : (s : State) (number last : ℕ) (names : List Word) → give_names s number last names [] ≡ s
none_made s number last [] = refl
none_made s number last (w ∷ names) = refl

-- one pair, and those that are left
pub one_given : (s : State) (number last : ℕ) (names : List Word) (made : List ℕ) (w : Word) (ws : List Word) (m : ℕ) (ms : List ℕ) → names ≡ w ∷ ws → made ≡ m ∷ ms
    → give_names (give_name s number last w m) number last ws ms ≡ give_names s number last names made
one_given s number last names made w ws m ms a b = sym (ap (λ (v : List Word). give_names s number last v made) a ∙ ap (λ (v : List ℕ). give_names s number last (w ∷ ws) v) b)

-- a name changes no step
pub step_named : (number : ℕ) (name : Word) (steps : List Planned) → steps_of (name_step number name steps) ≡ steps_of steps
step_named number name [] = refl
step_named zero name (p ∷ steps) = refl
step_named (suc number) name (p ∷ steps) = ap (λ xs. p.step ∷ xs) (step_named number name steps)

pub length-named : (number : ℕ) (name : Word) (steps : List Planned) → length (name_step number name steps) ≡ length steps
length-named number name steps =
    sym (length-map (name_step number name steps) (λ (s : Planned). s.step)) ∙ ap length (step_named number name steps) ∙ length-map steps (λ (s : Planned). s.step)

-- the names of steps that may follow stand in the text
pub names_from : (n : ℕ) (text : List ℕ) (before steps : List Planned) → all_may_follow n text before steps ≡ true → list_all (has_name text) steps ≡ true
names_from n text before [] h = refl
names_from n text before (s ∷ steps) h =
    let p = and_parts (may_follow n text before s) (all_may_follow n text (before ++ s ∷ []) steps) h in
    let q = and_parts (list_all (is_live before) (operands s.step) && list_all (λ level. nat_lt level n) (levels_of s.step)) (has_bits n text s.step && has_name text s) p.0 in
    and_from _ _ (and_parts (has_bits n text s.step) (has_name text s) q.1).1 (names_from n text (before ++ s ∷ []) steps p.1)

-- a word that is short stands in the text as a name
has_word : List ℕ → Word → Planned → Bool
has_word text name p = has_name text (record p { name_at = name.at; name_len = length name.bytes })

named_stand : (text : List ℕ) (number : ℕ) (name : Word) (steps : List Planned) → StandsIn text name.at name.bytes → length name.bytes ≤ 63 → list_all (has_name text) steps ≡ true → list_all (has_name text) (name_step number name steps) ≡ true
named_stand text number name [] stands short h = refl
named_stand text zero name (p ∷ steps) stands short h =
    let q = and_parts (has_name text p) (list_all (has_name text) steps) h in
    and_from _ _ (and_from _ _ (le-leb _ _ stands.within) (le-leb _ _ short)) q.1
named_stand text (suc number) name (p ∷ steps) stands short h =
    let q = and_parts (has_name text p) (list_all (has_name text) steps) h in
    and_from _ _ q.0 (named_stand text number name steps stands short q.1)

-- one pair
pair_stands : (text : List ℕ) (s : State) (number last : ℕ) (name : Word) (made : ℕ) → Stands text s → s.begun ≡ true → suc last ≡ length s.steps → StandsIn text name.at name.bytes → length name.bytes ≤ 63
    → is_live s.steps made ≡ true → ((a : List ℕ) → live_of (s.named a) ≡ Ok made → ⊥) → Stands text (give_name s number last name made)
pair_stands text s number last name made h begun ends stands short live fresh =
    let steps : List Planned = name_step made name s.steps in
    let same = step_named made name s.steps in
    let count : length steps ≡ length s.steps = length-named made name s.steps in
    let below : made < length s.steps = live_below s.steps made live in
    record {
      few_variables = h.few_variables;
      few_steps = omega (arith, count, h.few_steps);
      fresh = λ fresh. absurd (let wrong = sym begun ∙ fresh in cc);
      levels = h.levels;
      names = name_live steps s.named name.bytes made (names_same s.steps steps s.named same h.names) (live_same s.steps steps made same ∙ live) fresh;
      in_order = may_from s.n text [] steps (ap (all_follow s.n text []) same ∙ follow_from s.n text [] s.steps h.in_order) (named_stand text made name s.steps stands short (names_from s.n text [] s.steps h.in_order));
      lines = line_put steps s.lines (record { line = number; last = last; shows = made }) (lines_stay s.steps steps s.lines h.lines (omega (arith, count))) (ends ∙ sym count) (omega (arith, below, ends));
    }

-- all pairs, of which no two show one step
pub pairs_stand : (text : List ℕ) (s : State) (number last : ℕ) (names : List Word) (made : List ℕ) → Stands text s → s.begun ≡ true → (0 < length made → suc last ≡ length s.steps)
    → AllByRecursion (λ (w : Word). StandsIn text w.at w.bytes) names → list_all is_short names ≡ true
    → ((i : ℕ) → i < length made → is_live s.steps (get_or made i 0) ≡ true) → ((i : ℕ) (a : List ℕ) → i < length made → live_of (s.named a) ≡ Ok (get_or made i 0) → ⊥)
    → ((i j : ℕ) → i < length made → j < length made → get_or made i 0 ≡ get_or made j 0 → i ≡ j) → Stands text (give_names s number last names made)
pairs_stand text s number last [] made h begun ends stand short live fresh apart = h
pairs_stand text s number last (w ∷ names) [] h begun ends stand short live fresh apart = h
pairs_stand text s number last (w ∷ names) (m ∷ made) h begun ends stand short live fresh apart =
    let q = and_parts (is_short w) (list_all is_short names) short in
    let end : suc last ≡ length s.steps = ends (omega arith) in
    let next : State = give_name s number last w m in
    pairs_stand text next number last names made
    (pair_stands text s number last w m h begun end stand.0 (leb-true _ _ q.0) (live 0 (omega arith)) (λ a e. fresh 0 a (omega arith) e))
    begun (λ some. end ∙ sym (length-named m w s.steps)) stand.1 q.1
    (λ i b. live_same s.steps (name_step m w s.steps) (get_or made i 0) (step_named m w s.steps) ∙ live (suc i) (omega arith))
    (λ i a b e. still i a b (bytes_eq w.bytes a) refl e)
    (λ i j b c e. let more : suc i ≡ suc j = apart (suc i) (suc j) (omega arith) (omega arith) e in omega (arith, more))
  where
    same_number : (a b : ℕ) → live_of (Some (record { step = a; dropped = false })) ≡ Ok b → a ≡ b
    same_number a b e = cc

    still : (i : ℕ) (a : List ℕ) → i < length made → (same : Bool) → bytes_eq w.bytes a ≡ same
        → live_of (cond (bytes_eq w.bytes a) (Some (record { step = m; dropped = false })) (s.named a)) ≡ Ok (get_or made i 0) → ⊥
    still i a b true same e =
        let is : m ≡ get_or made i 0 = same_number _ _ (sym (ap (λ t. live_of (cond t (Some (record { step = m; dropped = false })) (s.named a))) same) ∙ e) in
        let wrong : 0 ≡ suc i = apart 0 (suc i) (omega arith) (omega arith) is in
        omega (arith, wrong)
    still i a b false other e =
        fresh (suc i) a (omega arith) (sym (ap (λ t. live_of (cond t (Some (record { step = m; dropped = false })) (s.named a))) other) ∙ e)
