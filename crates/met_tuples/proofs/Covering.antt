-- The tuples of pointers that a step's tuples of pieces stand for, level by level, are all that an operation meets.
use Rattle.std.specs.Prelude.{◌≡◌, ◌⊎◌, ℕ, zero, suc, ◌+◌, ◌<◌, ◌≤◌, Bool, true, false, cond, ◌&&◌, ◌||◌, List, [], ◌∷◌, ◌++◌, length, filter}
use Rattle.std.specs.List.{list_any, flat_map}
use Rattle.std.proofs.Common.{refl, sym, ◌∙◌, subst, inl, inr, true≢false, arith}
use Rattle.std.proofs.lemmas.List.{length-append}
use Rattle.std.proofs.Math.Nat.{eq-or-lt_of_le}
use Rattle.bool_tables.specs.Tables.{same_bits}
use Rattle.bool_tables.specs.declared.steps.Step.{Step}
use Rattle.list_laws.specs.Members.{Has}
use Rattle.list_laws.proofs.MemberLaws.{has_left, has_right, has_filter}
use Rattle.canon_file.specs.Pieces.{splits}
use Rattle.canon_file.proofs.PieceLaws.{same_from_bits}
use Rattle.step_work.specs.Tuples.{joins, tuples_below, same_tuple, distinct, tuples_from, tuple_count}
use Rattle.top_down.specs.declared.tuple.Tuple.{Tuple}
use Rattle.top_down.specs.declared.tuple.Goal.{Goal}
use Rattle.top_down.specs.declared.tuple.Goal.TheVariants.{End, Go}
use Rattle.top_down.specs.Tuples.{Targets, AreFrom, level_of_tuple}
use Rattle.top_down.specs.Rules.{Rule, IsAsked, IsRule, below_on}
use Rattle.top_down.specs.Verdicts.{asked_tuples}
use Rattle.top_down_laws.specs.Readings.{Diagrams, targets_in}
use Rattle.top_down_laws.specs.Remains.{IsMet}
use Rattle.top_down_laws.specs.Remains.IsMet.{AtRoot, Below}
use Rattle.met_tuples.specs.Few.{MeetsFew}

-- the tuples that are asked for, where the goal of each tuple of pieces is given
abbrev pub asked_among : (List (List Bool) → Goal) → List (List (List Bool)) → List Tuple
asked_among goal tuples = flat_map (λ l. asked_tuples (goal l)) tuples

-- they are no more than the tuples of pieces
length-asked_among : (goal : List (List Bool) → Goal) (tuples : List (List (List Bool)))
    → length (asked_among goal tuples) ≤ length tuples
length-asked_among goal [] = omega arith
length-asked_among goal (l ∷ tuples) = by (goal l) (length-asked_among goal tuples)
  where
    by : (g : Goal) → length (asked_among goal tuples) ≤ length tuples
        → length (asked_tuples g ++ asked_among goal tuples) ≤ suc (length tuples)
    by (End value) rest = omega arith
    by (Go x) rest = omega arith

-- a member's list is part of the whole
pub has_flat_map : {X Y : Type 0} (f : X → List Y) (x : X) (y : Y) (xs : List X) → Has x xs → Has y (f x)
    → Has y (flat_map f xs)
has_flat_map f x y [] member there = absurd member
has_flat_map f x y (z ∷ xs) (inl same) there =
    has_left y (f z) (flat_map f xs) (subst (λ w. Has y (f w)) (sym same) there)
has_flat_map f x y (z ∷ xs) (inr member) there =
    has_right y (f z) (flat_map f xs) (has_flat_map f x y xs member there)

-- what a member's goal asks for is asked for
has_asked : (goal : List (List Bool) → Goal) (l : List (List Bool)) (x : Tuple) (tuples : List (List (List Bool)))
    → Has l tuples → goal l ≡ Go x → Has x (asked_among goal tuples)
has_asked goal l x tuples member goes =
    has_flat_map (λ m. asked_tuples (goal m)) l x tuples member (subst (λ g. Has x (asked_tuples g)) (sym goes) (inl refl))

-- one that passes the test is among the members
any_has : {X : Type 0} (test : X → Bool) (xs : List X) → list_any test xs ≡ true
    → (x : X) × Has x xs × (test x ≡ true)
any_has test [] any = absurd (true≢false (sym any))
any_has {X} test (x ∷ xs) any = by (test x) refl (any_has test xs) any
  where
    by : (b : Bool) → test x ≡ b → (list_any test xs ≡ true → (y : X) × Has y xs × (test y ≡ true))
        → (b || list_any test xs) ≡ true → (y : X) × Has y (x ∷ xs) × (test y ≡ true)
    by true here rest any = (x, inl refl, here)
    by false here rest any = let (y, member, passes) = rest any in (y, inr member, passes)

-- a member is among the members that are left where each stands once
pub distinct_has : {X : Type 0} (same : X → X → Bool) → ((x y : X) → same x y ≡ true → x ≡ y) → (x : X) (xs : List X)
    → Has x xs → Has x (distinct same xs)
distinct_has same equal x [] member = member
distinct_has {X} same equal x (y ∷ xs) member =
    by (list_any (same y) xs) refl (distinct_has same equal x xs) member
  where
    again : list_any (same y) xs ≡ true → y ≡ x → Has x xs
    again any here =
        let (z, there, alike) = any_has (same y) xs any in
        subst (λ w. Has w xs) (sym (equal y z alike) ∙ here) there

    by : (b : Bool) → list_any (same y) xs ≡ b → (Has x xs → Has x (distinct same xs)) → Has x (y ∷ xs)
        → Has x (cond b (distinct same xs) (y ∷ distinct same xs))
    by true any rest (inl here) = rest (again any here)
    by true any rest (inr later) = rest later
    by false any rest (inl here) = inl here
    by false any rest (inr later) = inr (rest later)

-- tuples that are the same by the test are equal
pub same_from_tuple : (ps qs : List (List Bool)) → same_tuple ps qs ≡ true → ps ≡ qs
same_from_tuple [] [] e = refl
same_from_tuple [] (q ∷ qs) e = absurd (true≢false (sym e))
same_from_tuple (p ∷ ps) [] e = absurd (true≢false (sym e))
same_from_tuple (p ∷ ps) (q ∷ qs) e = by (same_bits p q) refl (same_from_tuple ps qs) e
  where
    by : (b : Bool) → same_bits p q ≡ b → (same_tuple ps qs ≡ true → ps ≡ qs) → (b && same_tuple ps qs) ≡ true
        → (p ∷ ps) ≡ (q ∷ qs)
    by true first rest e =
        let head : p ≡ q = same_from_bits p q first in
        let tail : ps ≡ qs = rest e in
        λ j. head j ∷ tail j
    by false first rest e = absurd (true≢false (sym e))

-- which tuple of pointers a tuple of pieces of level i has, where h levels follow
abbrev pub View : Type 0
View = ℕ → ℕ → List (List Bool) → Tuple

-- which tuples of pieces stand on level i, where h levels follow
abbrev pub Family : Type 1
Family = ℕ → ℕ → List (List Bool) → Type 0

-- the pieces stand on level i, and the rule asks for x where it is given their pointers
pub record Gives (rule : Rule) (view : View) (AreOn : Family) (i h : ℕ) (l : List (List Bool)) (x : Tuple)
    : Type 0 where
  pub are : AreOn i h l
  pub goes : rule.goal (view i h l) ≡ Go x

-- of the tuples of the next level to which the step leads from the pieces, one gives x
pub record LeadsTo (rule : Rule) (step : Step) (view : View) (AreOn : Family) (i h : ℕ) (l : List (List Bool))
    (x : Tuple) : Type 0 where
  pub next : List (List Bool)
  pub led : Has next (tuples_below step i h l)
  pub gives : Gives rule view AreOn (suc i) h next x

-- the step's tuples of pieces lead to all tuples that the rule asks for
pub record Covers (n : ℕ) (rule : Rule) (targets : Targets) (step : Step) (view : View) (AreOn : Family)
    : Type 0 where
  -- the tuple of their pointers may be asked for
  pub asked : (i h : ℕ) (l : List (List Bool)) → i + h ≡ n → AreOn i h l → IsAsked n rule i (view i h l)
  -- a tuple that is deeper than its pieces is given on the next level too
  pub passes : (i h : ℕ) (l : List (List Bool)) (x : Tuple) → i + suc h ≡ n → Gives rule view AreOn i (suc h) l x
      → i < level_of_tuple x → LeadsTo rule step view AreOn i h l x
  -- so is what is asked for on a side of one that isn't deeper
  pub sides : (i h : ℕ) (l : List (List Bool)) (x y : Tuple) (side : Bool) → i + suc h ≡ n
      → Gives rule view AreOn i (suc h) l x → level_of_tuple x ≡ i
      → rule.goal (below_on rule targets side x) ≡ Go y → LeadsTo rule step view AreOn i h l y
  -- a piece of such a tuple splits
  pub split : (i h : ℕ) (l : List (List Bool)) (x : Tuple) → i + suc h ≡ n → Gives rule view AreOn i (suc h) l x
      → level_of_tuple x ≡ i → list_any (splits h) l ≡ true

module _ (n : ℕ) (rule : Rule) (targets : Targets) (step : Step) (view : View) (AreOn : Family)
    (is_rule : IsRule n rule targets) (covers : Covers n rule targets step view AreOn) where
  -- the tuples that the rule asks for, where it is given the pointers of the step's tuples of level i and of each
  -- deeper one that have a piece that splits
  abbrev met_from : ℕ → ℕ → List (List (List Bool)) → List Tuple
  met_from i zero tuples = []
  met_from i (suc h) tuples =
      asked_among (λ l. rule.goal (view i (suc h) l)) (distinct same_tuple (filter (list_any (splits h)) tuples))
      ++ met_from (suc i) h (flat_map (tuples_below step i h) tuples)

  -- they are no more than the step's tuples
  length-met_from : (i h : ℕ) (tuples : List (List (List Bool)))
      → length (met_from i h tuples) ≤ tuples_from step i h tuples
  length-met_from i zero tuples = omega arith
  length-met_from i (suc h) tuples =
      let here : List (List (List Bool)) = distinct same_tuple (filter (list_any (splits h)) tuples) in
      let asked : List Tuple = asked_among (λ l. rule.goal (view i (suc h) l)) here in
      let deeper : List (List (List Bool)) = flat_map (tuples_below step i h) tuples in
      let few : length asked ≤ length here = length-asked_among (λ l. rule.goal (view i (suc h) l)) here in
      let rest : length (met_from (suc i) h deeper) ≤ tuples_from step (suc i) h deeper =
      length-met_from (suc i) h deeper in
      omega (arith, length-append asked (met_from (suc i) h deeper), few, rest)

  -- one of the tuples of pieces gives x
  record IsGiven (i h : ℕ) (tuples : List (List (List Bool))) (x : Tuple) : Type 0 where
    pieces : List (List Bool)
    among : Has pieces tuples
    gives : Gives rule view AreOn i h pieces x

  -- one of these or of the tuples that they lead to gives x, on the level of x
  abbrev IsReached : ℕ → ℕ → List (List (List Bool)) → Tuple → Type 0
  IsReached i zero tuples x = ⊥
  IsReached i (suc h) tuples x =
      (IsGiven i (suc h) tuples x × (level_of_tuple x ≡ i))
      ⊎ IsReached (suc i) h (flat_map (tuples_below step i h) tuples) x

  -- what is given is of the level of the pieces or deeper, and not below all levels
  given_from : (i h : ℕ) (l : List (List Bool)) (x : Tuple) → i + h ≡ n → Gives rule view AreOn i h l x
      → (i ≤ level_of_tuple x) × (level_of_tuple x < n)
  given_from i h l x end gives =
      let asked : IsAsked n rule i (view i h l) = covers.asked i h l end gives.are in
      let from : AreFrom n i x = (is_rule.goes_asked i (view i h l) x (omega arith) asked gives.goes).from in
      let low : level_of_tuple x < n = is_rule.goes_low i (view i h l) x (omega arith) asked gives.goes in
      (omega (arith, from.first.deep, from.second.deep, from.third.deep), low)

  -- what one leads to is given on the next level
  led_given : (i h : ℕ) (tuples : List (List (List Bool))) (l : List (List Bool)) (x : Tuple) → Has l tuples
      → LeadsTo rule step view AreOn i h l x → IsGiven (suc i) h (flat_map (tuples_below step i h) tuples) x
  led_given i h tuples l x among leads = record {
    pieces = leads.next;
    among = has_flat_map (tuples_below step i h) l leads.next tuples among leads.led;
    gives = leads.gives;
  }

  -- what is given is reached
  given_reached : (i h : ℕ) (tuples : List (List (List Bool))) (x : Tuple) → i + h ≡ n → IsGiven i h tuples x
      → IsReached i h tuples x
  given_reached i zero tuples x end given =
      let from = given_from i zero given.pieces x end given.gives in
      absurd (omega (arith, from.0, from.1))
  given_reached i (suc h) tuples x end given =
      let from = given_from i (suc h) given.pieces x end given.gives in
      elim (eq-or-lt_of_le from.0) [
        | inl here ↦ inl (given, sym here)
        | inr past ↦
            inr (given_reached (suc i) h (flat_map (tuples_below step i h) tuples) x (omega arith)
            (led_given i h tuples given.pieces x given.among
            (covers.passes i h given.pieces x end given.gives past)))
      ]

  -- what is asked for on a side of what is reached is reached
  side_reached : (i h : ℕ) (tuples : List (List (List Bool))) (x y : Tuple) (side : Bool) → i + h ≡ n
      → IsReached i h tuples x → rule.goal (below_on rule targets side x) ≡ Go y → IsReached i h tuples y
  side_reached i zero tuples x y side end reached asks = absurd reached
  side_reached i (suc h) tuples x y side end (inl (given, here)) asks =
      inr (given_reached (suc i) h (flat_map (tuples_below step i h) tuples) y (omega arith)
      (led_given i h tuples given.pieces y given.among
      (covers.sides i h given.pieces x y side end given.gives here asks)))
  side_reached i (suc h) tuples x y side end (inr deeper) asks =
      inr (side_reached (suc i) h (flat_map (tuples_below step i h) tuples) x y side (omega arith) deeper asks)

  -- what is reached is among the tuples
  reached_has : (i h : ℕ) (tuples : List (List (List Bool))) (x : Tuple) → i + h ≡ n → IsReached i h tuples x
      → Has x (met_from i h tuples)
  reached_has i zero tuples x end reached = reached
  reached_has i (suc h) tuples x end (inl (given, here)) =
      let goal : List (List Bool) → Goal = λ l. rule.goal (view i (suc h) l) in
      let passing : List (List (List Bool)) = filter (list_any (splits h)) tuples in
      has_left x (asked_among goal (distinct same_tuple passing))
      (met_from (suc i) h (flat_map (tuples_below step i h) tuples))
      (has_asked goal given.pieces x (distinct same_tuple passing)
      (distinct_has same_tuple same_from_tuple given.pieces passing
      (has_filter (list_any (splits h)) given.pieces tuples given.among
      (covers.split i h given.pieces x end given.gives here)))
      given.gives.goes)
  reached_has i (suc h) tuples x end (inr deeper) =
      has_right x
      (asked_among (λ l. rule.goal (view i (suc h) l)) (distinct same_tuple (filter (list_any (splits h)) tuples)))
      (met_from (suc i) h (flat_map (tuples_below step i h) tuples))
      (reached_has (suc i) h (flat_map (tuples_below step i h) tuples) x (omega arith) deeper)

  -- where the roots are the pointers of the tables, what is met is reached
  met_reached : (tables : List (List Bool)) (x : Tuple) → AreOn 0 n tables
      → IsMet rule targets (view 0 n tables) x → IsReached 0 n (tables ∷ []) x
  met_reached tables x are (AtRoot y goes) =
      given_reached 0 n (tables ∷ []) y (omega arith)
      (record { pieces = tables; among = inl refl; gives = record { are = are; goes = goes } })
  met_reached tables x are (Below y z side met asks) =
      side_reached 0 n (tables ∷ []) y z side (omega arith) (met_reached tables y are met) asks

-- so the rule meets no more tuples of pointers than the step joins tuples of pieces
pub meets_few : (n : ℕ) (rule : Rule) (d : Diagrams) (roots : Tuple) (step : Step) (tables : List (List Bool))
    (view : View) (AreOn : Family) → IsRule n rule (targets_in d) → Covers n rule (targets_in d) step view AreOn
    → AreOn 0 n tables → view 0 n tables ≡ roots → joins step ≡ true
    → MeetsFew rule d roots (tuple_count n step tables)
unfolding tuple_count
meets_few n rule d roots step tables view AreOn is_rule covers are at_roots joining = record {
  tuples = met_from n rule (targets_in d) step view AreOn is_rule covers 0 n (tables ∷ []);
  all_met = λ x met.
      reached_has n rule (targets_in d) step view AreOn is_rule covers 0 n (tables ∷ []) x (omega arith)
      (met_reached n rule (targets_in d) step view AreOn is_rule covers tables x are
      (subst (λ r. IsMet rule (targets_in d) r x) (sym at_roots) met));
  few =
      subst
      (λ b. length (met_from n rule (targets_in d) step view AreOn is_rule covers 0 n (tables ∷ []))
      ≤ cond b (tuples_from step 0 n (tables ∷ [])) 0)
      (sym joining)
      (length-met_from n rule (targets_in d) step view AreOn is_rule covers 0 n (tables ∷ []));
}
