-- A quantifier of a canonical diagram meets the pointers of the pieces that its step joins.
use Rattle.std.specs.Prelude.{◌≡◌, ℕ, suc, ◌+◌, ◌<◌, ◌≤◌, ◌==◌, ◌||◌, nat_lt, Bool, true, false, cond, List, [], ◌∷◌}
use Rattle.std.specs.List.{list_any}
use Rattle.std.proofs.Common.{refl, sym, ◌∙◌, ap, subst, inl, inr, true≢false, arith}
use Rattle.std.proofs.lemmas.Bool.{cases_Bool, lt-ltb, le-ltb, eq-eqb, ne_eqb}
use Rattle.std.proofs.lemmas.Bool.Decides.{nat_tests}
use Rattle.bool_tables.specs.Tables.{half_where}
use Rattle.bool_tables.specs.declared.steps.Quant.{Quant}
use Rattle.bool_tables.specs.declared.steps.Step.TheVariants.{Quantify}
use Rattle.rec_words.specs.Words.{level_of}
use Rattle.list_laws.specs.Members.{Has}
use Rattle.canon_file.specs.declared.row.Row.{Row}
use Rattle.canon_file.specs.Pieces.{splits, halves, pieces}
use Rattle.canon_file.specs.Laws.{HasForm}
use Rattle.arc_diagrams.specs.Arcs.{onward}
use Rattle.step_work.specs.Tuples.{side_of, both_sides, tuples_below}
use Rattle.top_down.specs.declared.tuple.Tuple.{Tuple}
use Rattle.top_down.specs.declared.tuple.Goal.TheVariants.{Go}
use Rattle.top_down.specs.Tuples.{Targets, unused, canon_targets, level_of_tuple, parts, AreFrom}
use Rattle.top_down.specs.Rules.{Rule, IsAsked, IsRule, below_on}
use Rattle.top_down.specs.Operations.{is_end, two, quantify_goal, quantify_rule}
use Rattle.top_down.specs.Laws.{root_twice}
use Rattle.top_down.proofs.TupleLaws.{from_terminal, onward-past, canon-deep}
use Rattle.top_down.proofs.VariableLaws.{At, Above, Below, place_of_level}
use Rattle.top_down.proofs.QuantifyLaws.{may_one, quantify_is_rule}
use Rattle.top_down_laws.specs.Operations.{canon_diagrams}
use Rattle.top_down_laws.specs.Readings.{targets_in}
use Rattle.met_tuples.specs.Few.{QuantifyMeetsFew}
use Rattle.met_tuples.proofs.PointerLaws.{piece_pointer, root_pointer, whole_piece, half_piece, piece_from, piece_splits, piece_onward}
use Rattle.met_tuples.proofs.DeeperPointers.{half_kept}
use Rattle.met_tuples.proofs.Covering.{View, Family, Gives, LeadsTo, Covers, meets_few}
use Rattle.met_tuples.proofs.QuantifyGoals.{asks_twice, asks_two, asked_level, goal_moved}

-- the pointers of two pieces, or that of one piece twice
abbrev pointers_of : List Bool → View
pointers_of t i h [] = two unused unused
pointers_of t i h (p ∷ []) = two (piece_pointer t i h p) (piece_pointer t i h p)
pointers_of t i h (p ∷ q ∷ more) = two (piece_pointer t i h p) (piece_pointer t i h q)

-- there are two pieces of the table below the variable, and one down to it
abbrev AreOf : List Bool → Bool → Family
AreOf t false i h [] = ⊥
AreOf t false i h (p ∷ []) = Has p (pieces i h t)
AreOf t false i h (p ∷ q ∷ more) = ⊥
AreOf t true i h [] = ⊥
AreOf t true i h (p ∷ []) = ⊥
AreOf t true i h (p ∷ q ∷ []) = Has p (pieces i h t) × Has q (pieces i h t)
AreOf t true i h (p ∷ q ∷ r ∷ more) = ⊥

abbrev ArePieces : List Bool → ℕ → Family
ArePieces t variable i h l = AreOf t (nat_lt variable i) i h l

-- from a level a tuple of two pointers leads to where these lead
parts_two : (rows : ℕ → Row) (i : ℕ) (side : Bool) (a b : ℕ) → i ≤ 65535
    → parts (record { first = rows; second = rows; third = rows }) i side (two a b)
    ≡ two (onward rows i side a) (onward rows i side b)
parts_two rows i side a b top =
    let third : onward rows i side unused ≡ unused = onward-past rows i unused side (omega arith) in
    λ j. record { first = onward rows i side a; second = onward rows i side b; third = third j }

-- truth values lead to themselves
end_stays : (rows : ℕ → Row) (i : ℕ) (side : Bool) (w : ℕ) → i ≤ 65535 → is_end w ≡ true → onward rows i side w ≡ w
end_stays rows i side w top ended =
    let deep : 65536 ≤ level_of w = grind (arith, nat_tests) in
    onward-past rows i w side (omega arith)

module _ (n variable : ℕ) (kind : Quant) (t : List Bool) (form : HasForm n t) (below : variable < n) where
  -- the rule, and the nodes of the diagram
  abbrev rule : Rule
  rule = quantify_rule kind variable

  abbrev targets : Targets
  targets = targets_in (canon_diagrams n t t t)

  -- at the variable the step leads to both halves, and elsewhere to those on each side
  has_halves : (i h : ℕ) (l : List (List Bool)) → i ≡ variable
      → Has (halves h l) (tuples_below (Quantify kind 0 variable) i h l)
  has_halves i h l same =
      subst (λ b. Has (halves h l) (cond b (halves h l ∷ []) (both_sides h l))) (sym (eq-eqb i variable same))
      (inl refl)

  has_side : (i h : ℕ) (side : Bool) (l : List (List Bool)) → (i ≡ variable → ⊥)
      → Has (side_of h side l) (tuples_below (Quantify kind 0 variable) i h l)
  has_side i h side l other =
      subst (λ b. Has (side_of h side l) (cond b (halves h l ∷ []) (both_sides h l)))
      (sym (ne_eqb i variable other)) (by side)
    where
      by : (side : Bool) → Has (side_of h side l) (both_sides h l)
      by true = inr (inl refl)
      by false = inl refl

  -- and so does the rule
  below_halves : (side : Bool) (x : Tuple) → level_of_tuple x ≡ variable
      → below_on rule targets side x
      ≡ two (parts targets (level_of_tuple x) false x).first (parts targets (level_of_tuple x) true x).first
  below_halves side x same =
      ap (λ b. cond b
      (two (parts targets (level_of_tuple x) false x).first (parts targets (level_of_tuple x) true x).first)
      (cond side (parts targets (level_of_tuple x) true x) (parts targets (level_of_tuple x) false x)))
      (eq-eqb (level_of_tuple x) variable same)

  below_side : (side : Bool) (x : Tuple) → (level_of_tuple x ≡ variable → ⊥)
      → below_on rule targets side x ≡ parts targets (level_of_tuple x) side x
  below_side side x other =
      ap (λ b. cond b
      (two (parts targets (level_of_tuple x) false x).first (parts targets (level_of_tuple x) true x).first)
      (cond side (parts targets (level_of_tuple x) true x) (parts targets (level_of_tuple x) false x)))
      (ne_eqb (level_of_tuple x) variable other)
      ∙ by side
    where
      on : Bool → Tuple
      on d = parts targets (level_of_tuple x) d x

      by : (d : Bool) → cond d (on true) (on false) ≡ on d
      by true = refl
      by false = refl

  -- the pointers may be asked for
  pointers_asked : (i h : ℕ) (l : List (List Bool)) → i + h ≡ n → ArePieces t variable i h l
      → IsAsked n rule i (pointers_of t i h l)
  pointers_asked i h l end are = by (nat_lt variable i) refl l are
    where
      from : (p q : List Bool) → AreFrom n i (two (piece_pointer t i h p) (piece_pointer t i h q))
      from p q = record {
        first = piece_from n t form i h p end;
        second = piece_from n t form i h q end;
        third = from_terminal n i false (omega arith) form.few;
      }

      by : (b : Bool) → nat_lt variable i ≡ b → (l : List (List Bool)) → AreOf t b i h l
          → IsAsked n rule i (pointers_of t i h l)
      by false e [] are = absurd are
      by false e (p ∷ []) are = record {
        from = from p p;
        may = may_one n variable kind below form.few (canon_targets n t) (canon_targets n t) i
            (two (piece_pointer t i h p) (piece_pointer t i h p)) refl;
      }
      by false e (p ∷ q ∷ more) are = absurd are
      by true e [] are = absurd are
      by true e (p ∷ []) are = absurd are
      by true e (p ∷ q ∷ []) are = record {
        from = from p q;
        may = ap (λ b. b || (piece_pointer t i h p == piece_pointer t i h q)) e;
      }
      by true e (p ∷ q ∷ r ∷ more) are = absurd are

  -- one piece stands down to the variable, and two below it
  one_piece : (i h : ℕ) (l : List (List Bool)) → i ≤ variable → ArePieces t variable i h l → AreOf t false i h l
  one_piece i h l most are = subst (λ b. AreOf t b i h l) (le-ltb variable i most) are

  two_pieces : (i h : ℕ) (l : List (List Bool)) → variable < i → ArePieces t variable i h l → AreOf t true i h l
  two_pieces i h l more are = subst (λ b. AreOf t b i h l) (lt-ltb variable i more) are

  are_one : (i h : ℕ) (l : List (List Bool)) → i ≤ variable → AreOf t false i h l → ArePieces t variable i h l
  are_one i h l most are = subst (λ b. AreOf t b i h l) (sym (le-ltb variable i most)) are

  are_two : (i h : ℕ) (l : List (List Bool)) → variable < i → AreOf t true i h l → ArePieces t variable i h l
  are_two i h l more are = subst (λ b. AreOf t b i h l) (sym (lt-ltb variable i more)) are

  -- the next level gives the tuple
  abbrev Leads : ℕ → ℕ → List (List Bool) → Tuple → Type 0
  Leads i h l x = LeadsTo rule (Quantify kind 0 variable) (pointers_of t) (ArePieces t variable) i h l x

  -- it gives a tuple that is deeper than its pieces
  passes_above : (i h : ℕ) (l : List (List Bool)) (x : Tuple) → i + suc h ≡ n → i < variable → AreOf t false i (suc h) l
      → rule.goal (pointers_of t i (suc h) l) ≡ Go x → i < level_of_tuple x → Leads i h l x
  passes_above i h [] x end less are goes past = absurd are
  passes_above i h (p ∷ []) x end less are goes past =
      let w : ℕ = piece_pointer t i (suc h) p in
      let level : level_of_tuple x ≡ level_of_tuple (two w w) = asked_level kind w w x goes in
      let stays = half_kept n t form i h false p end are (omega arith) in
      record {
        next = side_of h false (p ∷ []);
        led = has_side i h false (p ∷ []) (λ same. omega arith);
        gives = record {
          are = are_one (suc i) h (side_of h false (p ∷ [])) (omega arith) (half_piece t i h false p are);
          goes = (λ j. rule.goal (two (sym stays j) (sym stays j))) ∙ goes;
        };
      }
  passes_above i h (p ∷ q ∷ more) x end less are goes past = absurd are

  passes_at : (i h : ℕ) (l : List (List Bool)) (x : Tuple) → i + suc h ≡ n → i ≡ variable → AreOf t false i (suc h) l
      → rule.goal (pointers_of t i (suc h) l) ≡ Go x → i < level_of_tuple x → Leads i h l x
  passes_at i h [] x end same are goes past = absurd are
  passes_at i h (p ∷ []) x end same are goes past =
      let w : ℕ = piece_pointer t i (suc h) p in
      let level : level_of_tuple x ≡ level_of_tuple (two w w) = asked_level kind w w x goes in
      let low = half_kept n t form i h false p end are (omega arith) in
      let high = half_kept n t form i h true p end are (omega arith) in
      record {
        next = halves h (p ∷ []);
        led = has_halves i h (p ∷ []) same;
        gives = record {
          are = are_two (suc i) h (halves h (p ∷ [])) (omega arith)
              (half_piece t i h false p are, half_piece t i h true p are);
          goes = (λ j. rule.goal (two (sym low j) (sym high j))) ∙ goes;
        };
      }
  passes_at i h (p ∷ q ∷ more) x end same are goes past = absurd are

  passes_below : (i h : ℕ) (l : List (List Bool)) (x : Tuple) → i + suc h ≡ n → variable < i → AreOf t true i (suc h) l
      → rule.goal (pointers_of t i (suc h) l) ≡ Go x → i < level_of_tuple x → Leads i h l x
  passes_below i h [] x end more are goes past = absurd are
  passes_below i h (p ∷ []) x end more are goes past = absurd are
  passes_below i h (p ∷ q ∷ []) x end more are goes past =
      let a : ℕ = piece_pointer t i (suc h) p in
      let b : ℕ = piece_pointer t i (suc h) q in
      let level : level_of_tuple x ≡ level_of_tuple (two a b) = asked_level kind a b x goes in
      let first = half_kept n t form i h false p end are.0 (omega arith) in
      let second = half_kept n t form i h false q end are.1 (omega arith) in
      record {
        next = side_of h false (p ∷ q ∷ []);
        led = has_side i h false (p ∷ q ∷ []) (λ same. omega arith);
        gives = record {
          are = are_two (suc i) h (side_of h false (p ∷ q ∷ [])) (omega arith)
              (half_piece t i h false p are.0, half_piece t i h false q are.1);
          goes = (λ j. rule.goal (two (sym first j) (sym second j))) ∙ goes;
        };
      }
  passes_below i h (p ∷ q ∷ r ∷ others) x end more are goes past = absurd are

  pointers_pass : (i h : ℕ) (l : List (List Bool)) (x : Tuple) → i + suc h ≡ n
      → Gives rule (pointers_of t) (ArePieces t variable) i (suc h) l x → i < level_of_tuple x → Leads i h l x
  pointers_pass i h l x end gives past = elim (place_of_level variable i) [
    | Above less ↦ passes_above i h l x end less (one_piece i (suc h) l (omega arith) gives.are) gives.goes past
    | At same ↦ passes_at i h l x end same (one_piece i (suc h) l (omega arith) gives.are) gives.goes past
    | Below more ↦ passes_below i h l x end more (two_pieces i (suc h) l more gives.are) gives.goes past
  ]

  -- and what is asked for on a side of one that isn't deeper
  sides_above : (i h : ℕ) (l : List (List Bool)) (x y : Tuple) (side : Bool) → i + suc h ≡ n → i < variable
      → AreOf t false i (suc h) l → rule.goal (pointers_of t i (suc h) l) ≡ Go x → level_of_tuple x ≡ i
      → rule.goal (below_on rule targets side x) ≡ Go y → Leads i h l y
  sides_above i h [] x y side end less are goes here asks = absurd are
  sides_above i h (p ∷ []) x y side end less are goes here asks =
      let w : ℕ = piece_pointer t i (suc h) p in
      let same : two w w ≡ x = asks_twice kind w x goes in
      let half = piece_onward n t form i h side p end are in
      let led_to : below_on rule targets side x
      ≡ two (piece_pointer t (suc i) h (half_where h side p)) (piece_pointer t (suc i) h (half_where h side p)) =
      below_side side x (λ level. omega arith)
      ∙ ap (λ l. parts targets l side x) here
      ∙ ap (parts targets i side) (sym same)
      ∙ parts_two (canon_targets n t) i side w w (omega (arith, form.few))
      ∙ (λ j. two (half j) (half j)) in
      record {
        next = side_of h side (p ∷ []);
        led = has_side i h side (p ∷ []) (λ level. omega arith);
        gives = record {
          are = are_one (suc i) h (side_of h side (p ∷ [])) (omega arith) (half_piece t i h side p are);
          goes = subst (λ z. rule.goal z ≡ Go y) led_to asks;
        };
      }
  sides_above i h (p ∷ q ∷ more) x y side end less are goes here asks = absurd are

  sides_at : (i h : ℕ) (l : List (List Bool)) (x y : Tuple) (side : Bool) → i + suc h ≡ n → i ≡ variable
      → AreOf t false i (suc h) l → rule.goal (pointers_of t i (suc h) l) ≡ Go x → level_of_tuple x ≡ i
      → rule.goal (below_on rule targets side x) ≡ Go y → Leads i h l y
  sides_at i h [] x y side end at are goes here asks = absurd are
  sides_at i h (p ∷ []) x y side end at are goes here asks =
      let w : ℕ = piece_pointer t i (suc h) p in
      let same : two w w ≡ x = asks_twice kind w x goes in
      let low = piece_onward n t form i h false p end are in
      let high = piece_onward n t form i h true p end are in
      let led_to : below_on rule targets side x
      ≡ two (piece_pointer t (suc i) h (half_where h false p)) (piece_pointer t (suc i) h (half_where h true p)) =
      below_halves side x (here ∙ at)
      ∙ ap (λ l. two (parts targets l false x).first (parts targets l true x).first) here
      ∙ ap (λ z. two (parts targets i false z).first (parts targets i true z).first) (sym same)
      ∙ (λ j. two (low j) (high j)) in
      record {
        next = halves h (p ∷ []);
        led = has_halves i h (p ∷ []) at;
        gives = record {
          are = are_two (suc i) h (halves h (p ∷ [])) (omega arith)
              (half_piece t i h false p are, half_piece t i h true p are);
          goes = subst (λ z. rule.goal z ≡ Go y) led_to asks;
        };
      }
  sides_at i h (p ∷ q ∷ more) x y side end at are goes here asks = absurd are

  sides_below : (i h : ℕ) (l : List (List Bool)) (x y : Tuple) (side : Bool) → i + suc h ≡ n → variable < i
      → AreOf t true i (suc h) l → rule.goal (pointers_of t i (suc h) l) ≡ Go x → level_of_tuple x ≡ i
      → rule.goal (below_on rule targets side x) ≡ Go y → Leads i h l y
  sides_below i h [] x y side end more are goes here asks = absurd are
  sides_below i h (p ∷ []) x y side end more are goes here asks = absurd are
  sides_below i h (p ∷ q ∷ []) x y side end more are goes here asks =
      let a : ℕ = piece_pointer t i (suc h) p in
      let b : ℕ = piece_pointer t i (suc h) q in
      let top : i ≤ 65535 = omega (arith, form.few) in
      let f : ℕ → ℕ = onward (canon_targets n t) i side in
      let first = piece_onward n t form i h side p end are.0 in
      let second = piece_onward n t form i h side q end are.1 in
      let led_to : below_on rule targets side x ≡ two (f x.first) (f x.second) =
      below_side side x (λ level. omega arith)
      ∙ ap (λ l. parts targets l side x) here
      ∙ ap (parts targets i side) (sym (asks_two kind a b x goes))
      ∙ parts_two (canon_targets n t) i side x.first x.second top in
      let moved : quantify_goal kind (two (f x.first) (f x.second)) ≡ quantify_goal kind (two (f a) (f b)) =
      goal_moved kind f a b x (λ w. end_stays (canon_targets n t) i side w top) goes in
      record {
        next = side_of h side (p ∷ q ∷ []);
        led = has_side i h side (p ∷ q ∷ []) (λ level. omega arith);
        gives = record {
          are = are_two (suc i) h (side_of h side (p ∷ q ∷ [])) (omega arith)
              (half_piece t i h side p are.0, half_piece t i h side q are.1);
          goes = (λ j. rule.goal (two (sym first j) (sym second j))) ∙ sym moved ∙ ap rule.goal (sym led_to) ∙ asks;
        };
      }
  sides_below i h (p ∷ q ∷ r ∷ others) x y side end more are goes here asks = absurd are

  pointers_side : (i h : ℕ) (l : List (List Bool)) (x y : Tuple) (side : Bool) → i + suc h ≡ n
      → Gives rule (pointers_of t) (ArePieces t variable) i (suc h) l x → level_of_tuple x ≡ i
      → rule.goal (below_on rule targets side x) ≡ Go y → Leads i h l y
  pointers_side i h l x y side end gives here asks = elim (place_of_level variable i) [
    | Above less ↦
        sides_above i h l x y side end less (one_piece i (suc h) l (omega arith) gives.are) gives.goes here asks
    | At same ↦
        sides_at i h l x y side end same (one_piece i (suc h) l (omega arith) gives.are) gives.goes here asks
    | Below more ↦
        sides_below i h l x y side end more (two_pieces i (suc h) l more gives.are) gives.goes here asks
  ]

  -- a piece of such a tuple splits
  split_one : (i h : ℕ) (l : List (List Bool)) (x : Tuple) → i + suc h ≡ n → AreOf t false i (suc h) l
      → rule.goal (pointers_of t i (suc h) l) ≡ Go x → level_of_tuple x ≡ i → list_any (splits h) l ≡ true
  split_one i h [] x end are goes here = absurd are
  split_one i h (p ∷ []) x end are goes here =
      let w : ℕ = piece_pointer t i (suc h) p in
      let level : level_of_tuple x ≡ level_of_tuple (two w w) = asked_level kind w w x goes in
      ap (λ b. b || false) (piece_splits n t form i h p end (omega (arith, form.few)))
  split_one i h (p ∷ q ∷ more) x end are goes here = absurd are

  split_two : (i h : ℕ) (l : List (List Bool)) (x : Tuple) → i + suc h ≡ n → AreOf t true i (suc h) l
      → rule.goal (pointers_of t i (suc h) l) ≡ Go x → level_of_tuple x ≡ i → list_any (splits h) l ≡ true
  split_two i h [] x end are goes here = absurd are
  split_two i h (p ∷ []) x end are goes here = absurd are
  split_two i h (p ∷ q ∷ []) x end are goes here =
      let a : ℕ = piece_pointer t i (suc h) p in
      let b : ℕ = piece_pointer t i (suc h) q in
      let level : level_of_tuple x ≡ level_of_tuple (two a b) = asked_level kind a b x goes in
      elim (cases_Bool (splits h p)) [
        | inl split ↦ ap (λ d. d || (splits h q || false)) split
        | inr unsplit ↦
            let past : level_of a ≡ i → ⊥ = λ same. true≢false (sym (piece_splits n t form i h p end same) ∙ unsplit) in
            let split : splits h q ≡ true = piece_splits n t form i h q end (omega (arith, form.few)) in
            (λ j. unsplit j || (split j || false))
      ]
  split_two i h (p ∷ q ∷ r ∷ more) x end are goes here = absurd are

  pointers_split : (i h : ℕ) (l : List (List Bool)) (x : Tuple) → i + suc h ≡ n
      → Gives rule (pointers_of t) (ArePieces t variable) i (suc h) l x → level_of_tuple x ≡ i
      → list_any (splits h) l ≡ true
  pointers_split i h l x end gives here = elim (place_of_level variable i) [
    | Above less ↦ split_one i h l x end (one_piece i (suc h) l (omega arith) gives.are) gives.goes here
    | At same ↦ split_one i h l x end (one_piece i (suc h) l (omega arith) gives.are) gives.goes here
    | Below more ↦ split_two i h l x end (two_pieces i (suc h) l more gives.are) gives.goes here
  ]

  -- the pointers are all that the quantifier meets
  covers : Covers n rule targets (Quantify kind 0 variable) (pointers_of t) (ArePieces t variable)
  covers = record { asked = pointers_asked; passes = pointers_pass; sides = pointers_side; split = pointers_split }

  -- the rule keeps the laws of rules
  is_rule : IsRule n rule targets
  is_rule =
      quantify_is_rule n variable kind below form.few (canon_targets n t) (canon_targets n t)
      (record { first = canon-deep n t form; second = canon-deep n t form; third = canon-deep n t form })

-- a quantifier of a canonical diagram meets no more tuples than its step joins
pub quantify_meets_few : (n : ℕ) → QuantifyMeetsFew n
quantify_meets_few n kind variable t form below =
    meets_few n (quantify_rule kind variable) (canon_diagrams n t t t) (root_twice n t) (Quantify kind 0 variable)
    (t ∷ []) (pointers_of t) (ArePieces t variable) (is_rule n variable kind t form below)
    (covers n variable kind t form below)
    (are_one n variable kind t form below 0 n (t ∷ []) (omega arith) (whole_piece n t form))
    (λ j. two (root_pointer n t form j) (root_pointer n t form j)) refl
