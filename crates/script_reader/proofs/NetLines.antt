-- A line that asks for the signals of a netlist keeps what is known sound.
use Rattle.std.proofs.Common.{◌≡◌, ℕ, zero, suc, ◌+◌, ◌-◌, ◌<◌, ◌≤◌, Bool, true, false, cond, List, [], ◌∷◌, ◌++◌, length, drop, map, get_or, Option, Some, None, refl, sym, ap, subst, ◌∙◌, append_assoc, arith}
use Rattle.std.specs.Prelude.{IfSome, Ok, not, nat_lt}
use Rattle.std.specs.List.{AllByRecursion, list_all, list_any, position_from}
use Rattle.std.specs.Str.{bytes_eq}
use Rattle.std.proofs.lemmas.Bool.{and_from, and_parts, or_parts, lt-ltb, ltb-true, le-leb, leb-true, not-true}
use Rattle.std.proofs.lemmas.List.{append-nil, length-append, length-map, length-take}
use Rattle.std.proofs.lemmas.Option.{same_Some}
use Rattle.std.proofs.lemmas.Slice.Eq.{bytes_eq-Decides}
use Rattle.bool_tables.specs.Plans.{has_name, may_follow, all_may_follow}
use Rattle.bool_tables.specs.declared.steps.Planned.{Planned}
use Rattle.bool_tables.specs.declared.steps.Step.{Step}
use Rattle.blif_reader.specs.Index as index
use Rattle.blif_reader.specs.Netlist.{Net, IsNet}
use Rattle.net_plan.specs.Plan.{plan_steps, plan_made}
use Rattle.net_plan.specs.Values.{steps_of}
use Rattle.net_plan.specs.WellFormed.{GoesOn}
use Rattle.net_plan.proofs.GoingOn.{each_passes, steps_go_on}
use Rattle.text_words.specs.Text.{Word}
use Rattle.text_words.specs.Places.{StandsIn}
use Rattle.script_reader.specs.declared.fault.ScriptKind.{ScriptKind}
use Rattle.script_reader.specs.declared.fault.ScriptKind.TheVariants as kind
use Rattle.script_reader.specs.Results.{check}
use Rattle.script_reader.specs.Names.{State, all_differ}
use Rattle.script_reader.specs.Nets.{every_second, names_in, signals_in, signals_named, inputs_of, or_fault, all_found, wanted_of, levels_of, names_fit, nameless, with_steps, give_names, plan_signals, plan_net}
use Rattle.script_reader.specs.Requests.{is_short, has_room}
use Rattle.script_reader.proofs.MadeSteps.{then_ok, passed, same_ok}
use Rattle.script_reader.proofs.NamedSteps.{live_below, earlier_on}
use Rattle.script_reader.proofs.Stands.{Stands, lines_stay}
use Rattle.script_reader.proofs.Pairs.{pairs_stand}

-- the inputs are as many as the netlist says
pub inputs_length : (net : Net) → IsNet net → length (inputs_of net) ≡ net.inputs
inputs_length net sound = let all = sound.tables.blocks in omega (arith, all, length-take net.inputs net.names)

-- what is found for names

pub found : (o : Option ℕ) (k : ScriptKind) (x : ℕ) → or_fault k o ≡ Ok x → o ≡ Some x
found None k x e = absurd cc
found (Some y) k x e = ap Some (same_ok _ _ e)

module _ (k : ScriptKind) (find : List ℕ → Option ℕ) where
  pub found_length : (names : List (List ℕ)) (xs : List ℕ) → all_found k find names ≡ Ok xs → length xs ≡ length names
  found_length [] xs e = sym (ap length (same_ok _ _ e))
  found_length (name ∷ names) xs e =
      then_ok (or_fault k (find name)) _ xs e (λ x is rest.
      then_ok (all_found k find names) _ xs rest (λ ys are last.
      sym (ap length (same_ok _ _ last)) ∙ ap suc (found_length names ys are)))

  found_all : (p : ℕ → Bool) → ((name : List ℕ) (x : ℕ) → find name ≡ Some x → p x ≡ true) → (names : List (List ℕ)) (xs : List ℕ) → all_found k find names ≡ Ok xs → list_all p xs ≡ true
  found_all p holds [] xs e = subst (λ ys. list_all p ys ≡ true) (same_ok _ _ e) refl
  found_all p holds (name ∷ names) xs e =
      then_ok (or_fault k (find name)) _ xs e (λ x is rest.
      then_ok (all_found k find names) _ xs rest (λ ys are last.
      subst (λ zs. list_all p zs ≡ true) (same_ok _ _ last) (and_from _ _ (holds name x (found (find name) k x is)) (found_all p holds names ys are))))

  module _ (one : (a b : List ℕ) (x : ℕ) → find a ≡ Some x → find b ≡ Some x → a ≡ b) where
    -- a number isn't found again for names without this one
    not_again : (name : List ℕ) (x : ℕ) → find name ≡ Some x → (names : List (List ℕ)) (xs : List ℕ) → list_any (bytes_eq name) names ≡ false → all_found k find names ≡ Ok xs
        → (i : ℕ) → i < length xs → get_or xs i 0 ≡ x → ⊥
    not_again name x is [] xs none e i b same = let count : length xs ≡ 0 = sym (ap length (same_ok _ _ e)) in omega (arith, b, count)
    not_again name x is (other ∷ names) xs none e i b same =
        then_ok (or_fault k (find other)) _ xs e (λ y found_y rest.
        then_ok (all_found k find names) _ xs rest (λ ys are last.
        let q = or_parts (bytes_eq name other) (list_any (bytes_eq name) names) none in
        at y ys (found (find other) k y found_y) q.0 (not_again name x is names ys q.1 are) i (subst (λ zs. i < length zs) (sym (same_ok _ _ last)) b) (ap (λ zs. get_or zs i 0) (same_ok _ _ last) ∙ same)))
      where
        at : (y : ℕ) (ys : List ℕ) → find other ≡ Some y → bytes_eq name other ≡ false → ((i : ℕ) → i < length ys → get_or ys i 0 ≡ x → ⊥)
            → (i : ℕ) → i < suc (length ys) → get_or (y ∷ ys) i 0 ≡ x → ⊥
        at y ys there apart later zero b same =
            let yes : bytes_eq name other ≡ true = (bytes_eq-Decides name other).1 (one name other x is (there ∙ ap Some same)) in
            absurd cc
        at y ys there apart later (suc i) b same = later i (omega arith) same

    -- names that differ are found at different numbers
    found_apart : (names : List (List ℕ)) (xs : List ℕ) → all_differ names ≡ true → all_found k find names ≡ Ok xs → (i j : ℕ) → i < length xs → j < length xs → get_or xs i 0 ≡ get_or xs j 0 → i ≡ j
    found_apart [] xs differ e i j b c same = let count : length xs ≡ 0 = sym (ap length (same_ok _ _ e)) in absurd (omega (arith, b, count))
    found_apart (name ∷ names) xs differ e i j b c same =
        then_ok (or_fault k (find name)) _ xs e (λ x is rest.
        then_ok (all_found k find names) _ xs rest (λ ys are last.
        let q = and_parts (not (list_any (bytes_eq name) names)) (all_differ names) differ in
        let xs_are = same_ok _ _ last in
        at x ys (not_again name x (found (find name) k x is) names ys (not-true _ q.0) are) (found_apart names ys q.1 are) i j (subst (λ zs. i < length zs) (sym xs_are) b) (subst (λ zs. j < length zs) (sym xs_are) c)
        (ap (λ zs. get_or zs i 0) xs_are ∙ same ∙ sym (ap (λ zs. get_or zs j 0) xs_are))))
      where
        at : (x : ℕ) (ys : List ℕ) → ((i : ℕ) → i < length ys → get_or ys i 0 ≡ x → ⊥) → ((i j : ℕ) → i < length ys → j < length ys → get_or ys i 0 ≡ get_or ys j 0 → i ≡ j)
            → (i j : ℕ) → i < suc (length ys) → j < suc (length ys) → get_or (x ∷ ys) i 0 ≡ get_or (x ∷ ys) j 0 → i ≡ j
        at x ys first rest zero zero b c same = refl
        at x ys first rest zero (suc j) b c same = absurd (first j (omega arith) (sym same))
        at x ys first rest (suc i) zero b c same = absurd (first i (omega arith) same)
        at x ys first rest (suc i) (suc j) b c same = ap suc (rest i j (omega arith) (omega arith) same)

-- the place of a name is one of the names', and that of no other

pub place_low : (t : List ℕ → Bool) (from : ℕ) (names : List (List ℕ)) (x : ℕ) → position_from t from names ≡ Some x → from ≤ x
place_low t from [] x e = absurd cc
place_low t from (name ∷ names) x e = by (t name) refl (place_low t (from + 1) names x)
  where
    by : (b : Bool) → t name ≡ b → (position_from t (from + 1) names ≡ Some x → from + 1 ≤ x) → from ≤ x
    by true here later = omega (arith, same_Some _ _ (sym (ap (λ b. cond b (Some from) (position_from t (from + 1) names)) here) ∙ e))
    by false other later = omega (arith, later (sym (ap (λ b. cond b (Some from) (position_from t (from + 1) names)) other) ∙ e))

place_inside : (t : List ℕ → Bool) (from : ℕ) (names : List (List ℕ)) (x : ℕ) → position_from t from names ≡ Some x → x < from + length names
place_inside t from [] x e = absurd cc
place_inside t from (name ∷ names) x e = by (t name) refl (place_inside t (from + 1) names x)
  where
    by : (b : Bool) → t name ≡ b → (position_from t (from + 1) names ≡ Some x → x < (from + 1) + length names) → x < from + suc (length names)
    by true here later = omega (arith, same_Some _ _ (sym (ap (λ b. cond b (Some from) (position_from t (from + 1) names)) here) ∙ e))
    by false other later = omega (arith, later (sym (ap (λ b. cond b (Some from) (position_from t (from + 1) names)) other) ∙ e))

one_place : (from : ℕ) (names : List (List ℕ)) (a b : List ℕ) (x : ℕ) → position_from (bytes_eq a) from names ≡ Some x → position_from (bytes_eq b) from names ≡ Some x → a ≡ b
one_place from [] a b x e k = absurd cc
one_place from (name ∷ names) a b x e k = by (bytes_eq a name) (bytes_eq b name) refl refl (one_place (from + 1) names a b x)
  where
    behind : (c : List ℕ) (t : Bool) → bytes_eq c name ≡ t → position_from (bytes_eq c) from (name ∷ names) ≡ Some x → cond t (Some from) (position_from (bytes_eq c) (from + 1) names) ≡ Some x
    behind c t is e = sym (ap (λ b. cond b (Some from) (position_from (bytes_eq c) (from + 1) names)) is) ∙ e

    by : (s t : Bool) → bytes_eq a name ≡ s → bytes_eq b name ≡ t → (position_from (bytes_eq a) (from + 1) names ≡ Some x → position_from (bytes_eq b) (from + 1) names ≡ Some x → a ≡ b) → a ≡ b
    by true true is_a is_b later = (bytes_eq-Decides a name).0 is_a ∙ sym ((bytes_eq-Decides b name).0 is_b)
    by true false is_a is_b later = absurd (omega (arith, same_Some _ _ (behind a true is_a e), place_low (bytes_eq b) (from + 1) names x (behind b false is_b k)))
    by false true is_a is_b later = absurd (omega (arith, same_Some _ _ (behind b true is_b k), place_low (bytes_eq a) (from + 1) names x (behind a false is_a e)))
    by false false is_a is_b later = later (behind a false is_a e) (behind b false is_b k)

-- the signals of a line are the netlist's
pub wanted_inside : (net : Net) (signals : List (List ℕ)) (wanted : List ℕ) → wanted_of net signals ≡ Ok wanted → (i : ℕ) → i < length wanted → get_or wanted i 0 < length net.names
wanted_inside net signals wanted e i b =
    ltb-true _ _ (each_passes (λ s. nat_lt s (length net.names)) wanted
    (found_all kind.UnknownName (index.place_of net.names) (λ s. nat_lt s (length net.names)) (λ name x is. lt-ltb _ _ (omega (arith, place_inside (bytes_eq name) 0 net.names x is))) signals wanted e) i b)

-- steps without names

pub plain_steps : (steps : List Step) → steps_of (map nameless steps) ≡ steps
plain_steps [] = refl
plain_steps (s ∷ steps) = ap (λ xs. s ∷ xs) (plain_steps steps)

plain_names : (text : List ℕ) (steps : List Step) → list_all (has_name text) (map nameless steps) ≡ true
plain_names text [] = refl
plain_names text (s ∷ steps) = and_from _ _ (and_from _ _ (le-leb 0 (length text) (omega arith)) refl) (plain_names text steps)

follow_on : (n : ℕ) (text : List ℕ) (before steps more : List Planned) → all_may_follow n text before steps ≡ true → all_may_follow n text (before ++ steps) more ≡ true → all_may_follow n text before (steps ++ more) ≡ true
follow_on n text before [] more h m = subst (λ b. all_may_follow n text b more ≡ true) (append-nil before) m
follow_on n text before (s ∷ steps) more h m =
    let p = and_parts (may_follow n text before s) (all_may_follow n text (before ++ s ∷ []) steps) h in
    and_from _ _ p.0 (follow_on n text (before ++ s ∷ []) steps more p.1 (subst (λ b. all_may_follow n text b more ≡ true) (sym (append_assoc before (s ∷ []) steps)) m))

-- steps that go on with those so far
steps_stand : (text : List ℕ) (s : State) (steps : List Step) (wanted made : List ℕ) → Stands text s → s.begun ≡ true → length s.steps + length steps ≤ 1048576
    → GoesOn s.n text s.steps (map nameless steps) wanted made → Stands text (with_steps s steps)
steps_stand text s steps wanted made h begun room on =
    let count : length (s.steps ++ map nameless steps) ≡ length s.steps + length steps = length-append s.steps (map nameless steps) ∙ ap (λ n. length s.steps + n) (length-map steps nameless) in
    let whole : all_may_follow s.n text [] (s.steps ++ map nameless steps) ≡ true = follow_on s.n text [] s.steps (map nameless steps) h.in_order on.in_order in
    record {
      few_variables = h.few_variables;
      few_steps = omega (arith, count, room);
      fresh = λ fresh. absurd (let wrong = sym begun ∙ fresh in cc);
      levels = h.levels;
      names = record {
        earlier = earlier_on s.n text [] (s.steps ++ map nameless steps) (λ number late. refl) whole;
        live = λ name number e. on.stays number (h.names.live name number e);
        apart = h.names.apart;
      };
      in_order = whole;
      lines = lines_stay s.steps (s.steps ++ map nameless steps) s.lines h.lines (omega (arith, count));
    }

-- the names of a line stand where its words do

all_drop : (P : Word → Type 0) (n : ℕ) (words : List Word) → AllByRecursion P words → AllByRecursion P (drop n words)
all_drop P zero words all = all
all_drop P (suc n) [] all = tt
all_drop P (suc n) (w ∷ words) all = all_drop P n words all.1

pub all_seconds : (P : Word → Type 0) (words : List Word) → AllByRecursion P words → AllByRecursion P (every_second words)
all_seconds P [] all = tt
all_seconds P (w ∷ []) all = (all.0, tt)
all_seconds P (w ∷ other ∷ words) all = (all.0, all_seconds P words all.1.1)

-- the steps of some signals go on with those so far
pub signals_go_on : (text : List ℕ) (s : State) (net : Net) (signals : List (List ℕ)) (levels wanted : List ℕ) → IsNet net → Stands text s → wanted_of net signals ≡ Ok wanted → levels_of s net ≡ Ok levels
    → GoesOn s.n text s.steps (map nameless (plan_steps net levels wanted (length s.steps))) wanted (plan_made net levels wanted (length s.steps))
signals_go_on text s net signals levels wanted sound h wants has =
    let steps : List Step = plan_steps net levels wanted (length s.steps) in
    steps_go_on net levels wanted (length s.steps) sound (found_length kind.Variable s.level (inputs_of net) levels has ∙ inputs_length net sound) (wanted_inside net signals wanted wants)
    s.n text s.steps (map nameless steps) refl h.in_order (plain_steps steps) (plain_names text steps)
    (found_all kind.Variable s.level (λ level. nat_lt level s.n) (λ name level is. lt-ltb _ _ (h.levels name level is)) (inputs_of net) levels has)

-- signals that differ are made by steps that differ
pub made_apart : (n : ℕ) (text : List ℕ) (before planned : List Planned) (net : Net) (signals : List (List ℕ)) (wanted made : List ℕ) → all_differ signals ≡ true → wanted_of net signals ≡ Ok wanted
    → GoesOn n text before planned wanted made → length made ≡ length wanted → (i j : ℕ) → i < length made → j < length made → get_or made i 0 ≡ get_or made j 0 → i ≡ j
made_apart n text before planned net signals wanted made differ wants on as_many i j b c same =
    found_apart kind.UnknownName (index.place_of net.names) (λ a b x. one_place 0 net.names a b x) signals wanted differ wants i j (omega (arith, b, as_many)) (omega (arith, c, as_many)) (on.apart i j b c same)

-- a line with these signals
signals_stand : (text : List ℕ) (s t : State) (number : ℕ) (names : List Word) (net : Net) (signals : List (List ℕ)) (levels wanted : List ℕ) → IsNet net → Stands text s → s.begun ≡ true
    → AllByRecursion (λ (w : Word). StandsIn text w.at w.bytes) names → all_differ signals ≡ true → wanted_of net signals ≡ Ok wanted → levels_of s net ≡ Ok levels
    → plan_signals s number names net levels wanted ≡ Ok t → Stands text t
signals_stand text s t number names net signals levels wanted sound h begun stand differ wants has e =
    then_ok (names_fit s names) _ t e (λ u fits rest.
    then_ok (check kind.NameLength (list_all is_short names)) _ tt (fits ∙ ap Ok (unit_is u)) (λ v short more.
    then_ok (check kind.TooManySteps (has_room (length s.steps + length steps))) _ t rest (λ w room last.
    subst (Stands text) (same_ok _ _ last)
    (behind (passed kind.NameLength _ short) (leb-true _ _ (passed kind.TooManySteps _ room))))))
  where
    unit_is : (u : Unit {0}) → u ≡ tt
    unit_is tt = refl

    steps : List Step
    steps = plan_steps net levels wanted (length s.steps)

    made : List ℕ
    made = plan_made net levels wanted (length s.steps)

    on : GoesOn s.n text s.steps (map nameless steps) wanted made
    on = signals_go_on text s net signals levels wanted sound h wants has

    count : length (s.steps ++ map nameless steps) ≡ length s.steps + length steps
    count = length-append s.steps (map nameless steps) ∙ ap (λ n. length s.steps + n) (length-map steps nameless)

    as_many : length made ≡ length wanted
    as_many = length-map wanted _

    apart : (i j : ℕ) → i < length made → j < length made → get_or made i 0 ≡ get_or made j 0 → i ≡ j
    apart = made_apart s.n text s.steps (map nameless steps) net signals wanted made differ wants on as_many

    behind : list_all is_short names ≡ true → length s.steps + length steps ≤ 1048576 → Stands text (give_names (with_steps s steps) number (length s.steps + length steps - 1) names made)
    behind short room =
        pairs_stand text (with_steps s steps) number (length s.steps + length steps - 1) names made (steps_stand text s steps wanted made h begun room on) begun
        (λ some. let below = live_below (s.steps ++ map nameless steps) (get_or made 0 0) (on.live 0 some) in omega (arith, below, count))
        stand short on.live
        (λ i a b e. let old : get_or made i 0 < length s.steps = live_below s.steps (get_or made i 0) (h.names.live a (get_or made i 0) e) in omega (arith, old, on.new i b))
        apart

-- a line that asks for signals
pub net_stands : (text : List ℕ) (netlist : Option Net) (s t : State) (number : ℕ) (words : List Word) → IfSome netlist IsNet → Stands text s → s.begun ≡ true
    → AllByRecursion (λ (w : Word). StandsIn text w.at w.bytes) words → plan_net netlist s number words ≡ Ok t → Stands text t
net_stands text None s t number words sound h begun stand e = then_ok (signals_named words) _ t e (λ signals named rest. absurd cc)
net_stands text (Some net) s t number words sound h begun stand e =
    then_ok (signals_named words) _ t e (λ signals named rest.
    then_ok (check kind.Word (all_differ (signals_in words))) _ signals named (λ u differ is.
    then_ok (wanted_of net signals) _ t rest (λ wanted wants more.
    then_ok (levels_of s net) _ t more (λ levels has last.
    signals_stand text s t number (names_in words) net signals levels wanted sound h begun
    (all_seconds (λ (w : Word). StandsIn text w.at w.bytes) (drop 1 words) (all_drop (λ (w : Word). StandsIn text w.at w.bytes) 1 words stand))
    (subst (λ names. all_differ names ≡ true) (same_ok _ _ is) (passed kind.Word _ differ)) wants has last))))
