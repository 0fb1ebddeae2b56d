-- the turns of a sweep that answers whether a table is 1 at each place
use Rattle.std.specs.Prelude.{◌≡◌, ◌+◌, ◌-◌, ◌^◌, ◌<◌, ◌≤◌, ℕ, zero, suc, Bool, true, false, replicate}
use Rattle.std.proofs.Common.{refl, sym, ap, subst, inl, inr, arith}
use Rattle.bool_tables.proofs.Halves.{twice}
use Rattle.canon_file.specs.Members.{Has}
use Rattle.list_laws.proofs.MemberLaws.{has_append, has_left, has_right}
use Rattle.top_down.specs.declared.tuple.Tuple.{Tuple}
use Rattle.top_down.specs.Tuples.{Targets, level_of_tuple}
use Rattle.top_down.specs.declared.tuple.Goal.{Goal}
use Rattle.top_down.specs.declared.tuple.Goal.TheVariants.{End, Go}
use Rattle.top_down.specs.Rules.{Rule, IsAsked, IsRule, below_on, table_for}
use Rattle.top_down.specs.Verdicts.{HasNoZero, IsOne, asked_tuples, tuples_below, FirstAwaits, KnownAwaits, NewAwaits, RefutesAtZero, HoldsAtLast}
use Rattle.top_down.proofs.PointwiseLaws.{are_later}
use Rattle.top_down.proofs.TurnLaws.{asked_at, tuple_deep}

-- a constant table has its value alone
ones_only : (k : ℕ) → Has false (replicate k true) → ⊥
ones_only zero m = absurd m
ones_only (suc k) (inl e) = apart e
  where
    apart : true ≡ false → ⊥
    apart wrong = cc
ones_only (suc k) (inr m) = ones_only k m

has_zero : (h : ℕ) → Has false (replicate (2 ^ h) false)
has_zero zero = inl refl
has_zero (suc h) = subst (λ k. Has false (replicate k false)) (sym (twice h)) (more (2 ^ h) (2 ^ h) (has_zero h))
  where
    more : (k m : ℕ) → Has false (replicate k false) → Has false (replicate (k + m) false)
    more k zero m = let same : k ≡ k + 0 = omega arith in subst (λ l. Has false (replicate l false)) same m
    more k (suc l) m =
        let next : suc (k + l) ≡ k + suc l = omega arith in
        subst (λ i. Has false (replicate i false)) next (inr (more k l m))

module _ (n : ℕ) (rule : Rule) (targets : Targets) (laws : IsRule n rule targets) where
  abbrev OneFrom : ℕ → Tuple → Type 0
  OneFrom i x = (h : ℕ) → i + h ≡ n → HasNoZero (table_for rule targets h i x)

  -- a function is 1 everywhere on a level above the tuple's own exactly where it is there
  to_own : (k i : ℕ) (x : Tuple) → i + k ≡ level_of_tuple x → level_of_tuple x < n → IsAsked n rule i x → OneFrom i x → IsOne n rule targets x
  to_own zero i x end low asked one = let here : i ≡ level_of_tuple x = omega arith in subst (λ l. OneFrom l x) here one
  to_own (suc k) i x end low asked one =
      to_own k (suc i) x (omega arith) low (record { from = are_later n i x asked.from (omega arith); may = laws.later i x asked (omega arith) })
      (λ h rest zero_there.
      one (suc h) (omega arith) (subst (Has false) (sym (laws.passes h i x asked (omega arith) (omega arith)))
      (has_left false (table_for rule targets h (suc i) x) (table_for rule targets h (suc i) x) zero_there)))

  from_own : (k i : ℕ) (x : Tuple) → i + k ≡ level_of_tuple x → level_of_tuple x < n → IsAsked n rule i x → IsOne n rule targets x → OneFrom i x
  from_own zero i x end low asked one = let here : level_of_tuple x ≡ i = omega arith in subst (λ l. OneFrom l x) here one
  from_own (suc k) i x end low asked one =
      by (from_own k (suc i) x (omega arith) low (record { from = are_later n i x asked.from (omega arith); may = laws.later i x asked (omega arith) }) one)
    where
      by : OneFrom (suc i) x → OneFrom i x
      by later zero rest zero_there = absurd (omega arith)
      by later (suc h) rest zero_there =
          elim (has_append false (table_for rule targets h (suc i) x) (table_for rule targets h (suc i) x)
          (subst (Has false) (laws.passes h i x asked (omega arith) (omega arith)) zero_there)) [
            | inl m ↦ later h (omega arith) m
            | inr m ↦ later h (omega arith) m
          ]

  -- what the rule says for a tuple, where it may be asked for from a level on
  goes_one : (i : ℕ) (x y : Tuple) → i ≤ n → IsAsked n rule i x → rule.goal x ≡ Go y → OneFrom i x → IsOne n rule targets y
  goes_one i x y within asked goes one =
      let there : IsAsked n rule i y = laws.goes_asked i x y within asked goes in
      let deep : i ≤ level_of_tuple y = tuple_deep n i y there.from in
      to_own (level_of_tuple y - i) i y (omega arith) (laws.goes_low i x y within asked goes) there
      (λ h rest zero_there. one h rest (subst (Has false) (sym (laws.goes h i x y rest asked goes)) zero_there))

  one_goes : (i : ℕ) (x y : Tuple) → i ≤ n → IsAsked n rule i x → rule.goal x ≡ Go y → IsOne n rule targets y → OneFrom i x
  one_goes i x y within asked goes one h rest zero_there =
      let there : IsAsked n rule i y = laws.goes_asked i x y within asked goes in
      let deep : i ≤ level_of_tuple y = tuple_deep n i y there.from in
      from_own (level_of_tuple y - i) i y (omega arith) (laws.goes_low i x y within asked goes) there one h rest
      (subst (Has false) (laws.goes h i x y rest asked goes) zero_there)

  one_ends : (i : ℕ) (x : Tuple) → IsAsked n rule i x → rule.goal x ≡ End true → OneFrom i x
  one_ends i x asked ends h rest zero_there = ones_only (2 ^ h) (subst (Has false) (laws.ends h i x true rest asked ends) zero_there)

  -- the two sides of a tuple
  side_asked : (x : Tuple) (side : Bool) → IsAsked n rule (level_of_tuple x) x → level_of_tuple x < n → IsAsked n rule (suc (level_of_tuple x)) (below_on rule targets side x)
  side_asked x side asked low = laws.sides_asked x side low asked

  both_sides : (x : Tuple) → IsAsked n rule (level_of_tuple x) x
      → OneFrom (suc (level_of_tuple x)) (below_on rule targets false x) → OneFrom (suc (level_of_tuple x)) (below_on rule targets true x)
      → level_of_tuple x < n → IsOne n rule targets x
  both_sides x asked low_one high_one low zero rest zero_there = absurd (omega arith)
  both_sides x asked low_one high_one low (suc h) rest zero_there =
      elim (has_append false (table_for rule targets h (suc (level_of_tuple x)) (below_on rule targets false x))
      (table_for rule targets h (suc (level_of_tuple x)) (below_on rule targets true x))
      (subst (Has false) (laws.splits h x asked (omega arith)) zero_there)) [
        | inl m ↦ low_one h (omega arith) m
        | inr m ↦ high_one h (omega arith) m
      ]

  one_side : (x : Tuple) (side : Bool) → IsAsked n rule (level_of_tuple x) x → IsOne n rule targets x → OneFrom (suc (level_of_tuple x)) (below_on rule targets side x)
  one_side x false asked one h rest zero_there =
      one (suc h) (omega arith) (subst (Has false) (sym (laws.splits h x asked (omega arith)))
      (has_left false (table_for rule targets h (suc (level_of_tuple x)) (below_on rule targets false x))
      (table_for rule targets h (suc (level_of_tuple x)) (below_on rule targets true x)) zero_there))
  one_side x true asked one h rest zero_there =
      one (suc h) (omega arith) (subst (Has false) (sym (laws.splits h x asked (omega arith)))
      (has_right false (table_for rule targets h (suc (level_of_tuple x)) (below_on rule targets false x))
      (table_for rule targets h (suc (level_of_tuple x)) (below_on rule targets true x)) zero_there))

  -- which tuples are asked for on the sides of one
  which_side : (x y : Tuple) → Has y (tuples_below rule targets x) → (side : Bool) × (rule.goal (below_on rule targets side x) ≡ Go y)
  which_side x y m = elim (has_append y (asked_tuples (rule.goal (below_on rule targets false x))) (asked_tuples (rule.goal (below_on rule targets true x))) m) [
    | inl k ↦ (false, is_asked (rule.goal (below_on rule targets false x)) k)
    | inr k ↦ (true, is_asked (rule.goal (below_on rule targets true x)) k)
  ]
    where
      is_asked : (goal : Goal) → Has y (asked_tuples goal) → goal ≡ Go y
      is_asked (End value) k = absurd k
      is_asked (Go z) (inl e) = ap Go e
      is_asked (Go z) (inr k) = absurd k

  side_there : (x y : Tuple) (side : Bool) → rule.goal (below_on rule targets side x) ≡ Go y → Has y (tuples_below rule targets x)
  side_there x y false goes = has_left y (asked_tuples (rule.goal (below_on rule targets false x))) (asked_tuples (rule.goal (below_on rule targets true x)))
      (subst (λ g. Has y (asked_tuples g)) (sym goes) (inl refl))
  side_there x y true goes = has_right y (asked_tuples (rule.goal (below_on rule targets false x))) (asked_tuples (rule.goal (below_on rule targets true x)))
      (subst (λ g. Has y (asked_tuples g)) (sym goes) (inl refl))

  -- where the tuples on the sides of one are 1 everywhere, and no side ends in 0, it is
  sides_make : (x : Tuple) → IsAsked n rule (level_of_tuple x) x → level_of_tuple x < n → ((side : Bool) → rule.goal (below_on rule targets side x) ≡ End false → ⊥)
      → ((y : Tuple) → Has y (tuples_below rule targets x) → IsOne n rule targets y) → IsOne n rule targets x
  sides_make x asked low no_zero one = both_sides x asked (by false) (by true) low
    where
      by : (side : Bool) → OneFrom (suc (level_of_tuple x)) (below_on rule targets side x)
      by side = on (rule.goal (below_on rule targets side x)) refl
        where
          on : (goal : Goal) → rule.goal (below_on rule targets side x) ≡ goal → OneFrom (suc (level_of_tuple x)) (below_on rule targets side x)
          on (End true) says = one_ends (suc (level_of_tuple x)) (below_on rule targets side x) (side_asked x side asked low) says
          on (End false) says = absurd (no_zero side says)
          on (Go y) says = one_goes (suc (level_of_tuple x)) (below_on rule targets side x) y (omega arith) (side_asked x side asked low) says (one y (side_there x y side says))

  -- a tuple on a side of one
  below_is : (x y : Tuple) → IsAsked n rule (level_of_tuple x) x → level_of_tuple x < n → Has y (tuples_below rule targets x)
      → IsAsked n rule (level_of_tuple y) y × (level_of_tuple y < n) × (level_of_tuple x < level_of_tuple y)
  below_is x y asked low m =
      let (side, goes) = which_side x y m in
      let next = side_asked x side asked low in
      let above : IsAsked n rule (suc (level_of_tuple x)) y = laws.goes_asked (suc (level_of_tuple x)) (below_on rule targets side x) y (omega arith) next goes in
      let deep : suc (level_of_tuple x) ≤ level_of_tuple y = tuple_deep n (suc (level_of_tuple x)) y above.from in
      let rest : suc (level_of_tuple x) + (level_of_tuple y - suc (level_of_tuple x)) ≡ level_of_tuple y = omega arith in (
        asked_at n rule targets laws (level_of_tuple y - suc (level_of_tuple x)) (suc (level_of_tuple x)) y rest above,
        laws.goes_low (suc (level_of_tuple x)) (below_on rule targets side x) y (omega arith) next goes,
        omega arith,
      )

  pub first_awaits : FirstAwaits n rule targets
  first_awaits roots x asked goes =
      let there : IsAsked n rule 0 x = laws.goes_asked 0 roots x (omega arith) asked goes in
      record {
        asked = λ y m. elim m [
          | inl is_x ↦ subst (λ z. IsAsked n rule (level_of_tuple z) z × (level_of_tuple z < n)) is_x
              (asked_at n rule targets laws (level_of_tuple x) 0 x (omega arith) there, laws.goes_low 0 roots x (omega arith) asked goes)
          | inr none ↦ absurd none
        ];
        needs = λ one y m. elim m [
          | inl is_x ↦ subst (IsOne n rule targets) is_x (goes_one 0 roots x (omega arith) asked goes
              (λ h rest zero_there. one (subst (λ k. Has false (table_for rule targets k 0 roots)) (whole h rest) zero_there)))
          | inr none ↦ absurd none
        ];
        follows = λ all. one_goes 0 roots x (omega arith) asked goes (all x (inl refl)) n (omega arith);
        was_answered = λ y m. absurd m;
      }
    where
      whole : (h : ℕ) → 0 + h ≡ n → h ≡ n
      whole h rest = omega arith

  pub known_awaits : KnownAwaits n rule targets
  known_awaits roots x asks done g answered =
      let one_x : ((y : Tuple) → Has y asks → level_of_tuple x < level_of_tuple y → IsOne n rule targets y) → IsOne n rule targets x =
      λ deeper. g.was_answered x answered (λ y m less. elim m [ inl is_x ↦ absurd (apart y is_x less) | inr k ↦ deeper y k less ]) in
      record {
        asked = λ y m. g.asked y (inr m);
        needs = λ one y m. g.needs one y (inr m);
        follows = λ all. g.follows (λ y m. elim m [
          | inl is_x ↦ subst (IsOne n rule targets) is_x (one_x (λ z k less. all z k))
          | inr k ↦ all y k
        ]);
        was_answered = λ z k deeper. g.was_answered z k (λ y m less. elim m [
          | inl is_x ↦ subst (IsOne n rule targets) is_x (one_x (λ w l below. deeper w l (further z y w is_x less below)))
          | inr l ↦ deeper y l less
        ]);
      }
    where
      apart : (y : Tuple) → x ≡ y → level_of_tuple x < level_of_tuple y → ⊥
      apart y is_x less = omega (arith, ap level_of_tuple is_x)

      further : (z y w : Tuple) → x ≡ y → level_of_tuple z < level_of_tuple y → level_of_tuple x < level_of_tuple w → level_of_tuple z < level_of_tuple w
      further z y w is_x less below = omega (arith, ap level_of_tuple is_x)

  pub new_awaits : NewAwaits n rule targets
  new_awaits roots x asks done g no_zero =
      let (asked, low) = g.asked x (inl refl) in
      let one_x : ((y : Tuple) → Has y (tuples_below rule targets x) → IsOne n rule targets y) → IsOne n rule targets x = sides_make x asked low no_zero in
      record {
        asked = λ y m. elim (has_append y (tuples_below rule targets x) asks m) [
          | inl k ↦ (let (own, below, _) = below_is x y asked low k in (own, below))
          | inr k ↦ g.asked y (inr k)
        ];
        needs = λ one y m. elim (has_append y (tuples_below rule targets x) asks m) [
          | inl k ↦
              let (side, goes) = which_side x y k in
              goes_one (suc (level_of_tuple x)) (below_on rule targets side x) y (omega arith) (side_asked x side asked low) goes
              (one_side x side asked (g.needs one x (inl refl)))
          | inr k ↦ g.needs one y (inr k)
        ];
        follows = λ all. g.follows (λ y m. elim m [
          | inl is_x ↦ subst (IsOne n rule targets) is_x (one_x (λ z k. all z (has_left z (tuples_below rule targets x) asks k)))
          | inr k ↦ all y (has_right y (tuples_below rule targets x) asks k)
        ]);
        was_answered = λ z m deeper. elim m [
          | inl is_x ↦ subst (IsOne n rule targets) is_x (one_x (λ w k.
              deeper w (has_left w (tuples_below rule targets x) asks k) (let (_, _, less) = below_is x w asked low k in omega (arith, ap level_of_tuple is_x))))
          | inr k ↦ g.was_answered z k (λ y l less. elim l [
            | inl is_x ↦ subst (IsOne n rule targets) is_x (one_x (λ w k.
                deeper w (has_left w (tuples_below rule targets x) asks k) (let (_, _, below) = below_is x w asked low k in omega (arith, ap level_of_tuple is_x))))
            | inr k ↦ deeper y (has_right y (tuples_below rule targets x) asks k) less
          ])
        ];
      }

  pub refutes : RefutesAtZero n rule targets
  refutes roots x asks done side g ends one =
      let (asked, low) = g.asked x (inl refl) in
      let h : ℕ = n - suc (level_of_tuple x) in
      let rest : suc (level_of_tuple x) + h ≡ n = omega arith in
      one_side x side asked (g.needs one x (inl refl)) h rest
      (subst (Has false) (sym (laws.ends h (suc (level_of_tuple x)) (below_on rule targets side x) false rest (side_asked x side asked low) ends)) (has_zero h))

  pub holds_at_last : HoldsAtLast n rule targets
  holds_at_last roots done g = g.follows (λ x m. absurd m)
