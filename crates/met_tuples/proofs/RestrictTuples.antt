-- A restriction of a canonical diagram meets the pointers of the pieces that its step joins.
use Rattle.std.specs.Prelude.{◌≡◌, ℕ, suc, ◌+◌, ◌<◌, ◌≤◌, ◌==◌, ◌||◌, Bool, true, false, cond, List, [], ◌∷◌}
use Rattle.std.specs.List.{list_any}
use Rattle.std.proofs.Common.{refl, sym, ◌∙◌, ap, subst, inl, inr, arith}
use Rattle.bool_tables.specs.Tables.{half_where}
use Rattle.bool_tables.specs.declared.steps.Step.TheVariants.{Restrict}
use Rattle.rec_words.specs.Words.{level_of}
use Rattle.list_laws.specs.Members.{Has}
use Rattle.canon_file.specs.Pieces.{splits, pieces}
use Rattle.canon_file.specs.Laws.{HasForm}
use Rattle.arc_diagrams.specs.Arcs.{onward}
use Rattle.step_work.specs.Tuples.{side_of, tuples_below}
use Rattle.top_down.specs.declared.tuple.Tuple.{Tuple}
use Rattle.top_down.specs.declared.tuple.Goal.TheVariants.{Go}
use Rattle.top_down.specs.Tuples.{Targets, unused, level_of_tuple, parts}
use Rattle.top_down.specs.Rules.{Rule, IsAsked, IsRule, below_on}
use Rattle.top_down.specs.Operations.{ends_or, restrict_rule}
use Rattle.top_down.specs.Laws.{roots_of_one}
use Rattle.top_down.proofs.GoalLaws.{ends_or-go}
use Rattle.top_down.proofs.TupleLaws.{from_terminal, onward-past, canon-deep}
use Rattle.top_down.proofs.RestrictLaws.{restrict_is_rule}
use Rattle.top_down_laws.specs.Operations.{canon_diagrams}
use Rattle.top_down_laws.specs.Readings.{targets_in}
use Rattle.met_tuples.specs.Few.{RestrictMeetsFew}
use Rattle.met_tuples.proofs.PointerLaws.{piece_pointer, root_pointer, whole_piece, half_piece, piece_from, piece_splits, piece_onward}
use Rattle.met_tuples.proofs.DeeperPointers.{half_kept}
use Rattle.met_tuples.proofs.Covering.{View, Family, Gives, LeadsTo, Covers, meets_few}

-- the tuple of one pointer
abbrev one : ℕ → Tuple
one w = record { first = w; second = unused; third = unused }

-- the pointer of the one piece
abbrev pointer_of : List Bool → View
pointer_of t i h [] = one unused
pointer_of t i h (p ∷ more) = one (piece_pointer t i h p)

-- there is one piece, a piece of the table
abbrev IsPiece : List Bool → Family
IsPiece t i h [] = ⊥
IsPiece t i h (p ∷ []) = Has p (pieces i h t)
IsPiece t i h (p ∷ q ∷ more) = ⊥

-- from a level a tuple of one pointer leads to where that pointer leads
parts_one : (targets : Targets) (i : ℕ) (side : Bool) (w : ℕ) → i ≤ 65535
    → parts targets i side (one w) ≡ one (onward targets.first i side w)
parts_one targets i side w top =
    let past : i < level_of unused = omega arith in
    let second : onward targets.second i side unused ≡ unused = onward-past targets.second i unused side past in
    let third : onward targets.third i side unused ≡ unused = onward-past targets.third i unused side past in
    λ j. record { first = onward targets.first i side w; second = second j; third = third j }

module _ (n variable : ℕ) (value : Bool) (t : List Bool) (form : HasForm n t) (below : variable < n) where
  -- the rule, and the nodes of the diagram
  abbrev rule : Rule
  rule = restrict_rule variable value

  abbrev targets : Targets
  targets = targets_in (canon_diagrams n t t t)

  -- the side to which a level leads
  abbrev side_on : ℕ → Bool → Bool
  side_on i side = cond (i == variable) value side

  -- the step leads to the halves on that side
  has_side : (i h : ℕ) (side : Bool) (l : List (List Bool))
      → Has (side_of h (side_on i side) l) (tuples_below (Restrict 0 variable value) i h l)
  has_side i h side l = by (i == variable) side
    where
      by : (b side : Bool) → Has (side_of h (cond b value side) l)
          (cond b (side_of h value l ∷ []) (side_of h false l ∷ side_of h true l ∷ []))
      by true side = inl refl
      by false true = inr (inl refl)
      by false false = inl refl

  -- and so does the rule
  below_side : (side : Bool) (x : Tuple)
      → below_on rule targets side x ≡ parts targets (level_of_tuple x) (side_on (level_of_tuple x) side) x
  below_side side x = by (level_of_tuple x == variable) value side
    where
      on : Bool → Tuple
      on d = parts targets (level_of_tuple x) d x

      by : (b c d : Bool) → cond b (cond c (on true) (on false)) (cond d (on true) (on false)) ≡ on (cond b c d)
      by true true d = refl
      by true false d = refl
      by false c true = refl
      by false c false = refl

  -- from a piece's own level its pointer leads to that of the half on the side
  sided : (i h : ℕ) (side : Bool) (p : List Bool) (x : Tuple) → i + suc h ≡ n → Has p (pieces i (suc h) t)
      → one (piece_pointer t i (suc h) p) ≡ x → level_of_tuple x ≡ i
      → below_on rule targets side x ≡ one (piece_pointer t (suc i) h (half_where h (side_on i side) p))
  sided i h side p x end member same here =
      below_side side x
      ∙ ap (λ l. parts targets l (side_on l side) x) here
      ∙ ap (parts targets i (side_on i side)) (sym same)
      ∙ parts_one targets i (side_on i side) (piece_pointer t i (suc h) p) (omega (arith, form.few))
      ∙ ap one (piece_onward n t form i h (side_on i side) p end member)

  -- the pointer may be asked for
  pointer_asked : (i h : ℕ) (l : List (List Bool)) → i + h ≡ n → IsPiece t i h l → IsAsked n rule i (pointer_of t i h l)
  pointer_asked i h [] end are = absurd are
  pointer_asked i h (p ∷ []) end are = record {
    from = record {
      first = piece_from n t form i h p end;
      second = from_terminal n i false (omega arith) form.few;
      third = from_terminal n i false (omega arith) form.few;
    };
    may = refl;
  }
  pointer_asked i h (p ∷ q ∷ more) end are = absurd are

  -- where it is deeper than its piece, it is given on the next level too
  pointer_passes : (i h : ℕ) (l : List (List Bool)) (x : Tuple) → i + suc h ≡ n
      → Gives rule (pointer_of t) (IsPiece t) i (suc h) l x → i < level_of_tuple x
      → LeadsTo rule (Restrict 0 variable value) (pointer_of t) (IsPiece t) i h l x
  pointer_passes i h [] x end gives past = absurd gives.are
  pointer_passes i h (p ∷ []) x end gives past =
      let w : ℕ = piece_pointer t i (suc h) p in
      let (node, same) = ends_or-go w (one w) x gives.goes in
      let deep : level_of_tuple (one w) ≡ level_of_tuple x = ap level_of_tuple same in
      let stays = half_kept n t form i h (side_on i false) p end gives.are (omega arith) in
      record {
        next = side_of h (side_on i false) (p ∷ []);
        led = has_side i h false (p ∷ []);
        gives = record {
          are = half_piece t i h (side_on i false) p gives.are;
          goes = subst (λ v. ends_or v (one v) ≡ Go x) stays gives.goes;
        };
      }
  pointer_passes i h (p ∷ q ∷ more) x end gives past = absurd gives.are

  -- and so is what is asked for on a side of one that isn't deeper
  pointer_sides : (i h : ℕ) (l : List (List Bool)) (x y : Tuple) (side : Bool) → i + suc h ≡ n
      → Gives rule (pointer_of t) (IsPiece t) i (suc h) l x → level_of_tuple x ≡ i
      → rule.goal (below_on rule targets side x) ≡ Go y
      → LeadsTo rule (Restrict 0 variable value) (pointer_of t) (IsPiece t) i h l y
  pointer_sides i h [] x y side end gives here asks = absurd gives.are
  pointer_sides i h (p ∷ []) x y side end gives here asks =
      let w : ℕ = piece_pointer t i (suc h) p in
      let (node, same) = ends_or-go w (one w) x gives.goes in
      record {
        next = side_of h (side_on i side) (p ∷ []);
        led = has_side i h side (p ∷ []);
        gives = record {
          are = half_piece t i h (side_on i side) p gives.are;
          goes = subst (λ z. rule.goal z ≡ Go y) (sided i h side p x end gives.are same here) asks;
        };
      }
  pointer_sides i h (p ∷ q ∷ more) x y side end gives here asks = absurd gives.are

  -- the piece of such a pointer splits
  pointer_split : (i h : ℕ) (l : List (List Bool)) (x : Tuple) → i + suc h ≡ n
      → Gives rule (pointer_of t) (IsPiece t) i (suc h) l x → level_of_tuple x ≡ i → list_any (splits h) l ≡ true
  pointer_split i h [] x end gives here = absurd gives.are
  pointer_split i h (p ∷ []) x end gives here =
      let w : ℕ = piece_pointer t i (suc h) p in
      let (node, same) = ends_or-go w (one w) x gives.goes in
      let level : level_of_tuple (one w) ≡ level_of_tuple x = ap level_of_tuple same in
      ap (λ b. b || false) (piece_splits n t form i h p end (omega (arith, form.few)))
  pointer_split i h (p ∷ q ∷ more) x end gives here = absurd gives.are

  -- the pointers are all that the restriction meets
  covers : Covers n rule targets (Restrict 0 variable value) (pointer_of t) (IsPiece t)
  covers = record { asked = pointer_asked; passes = pointer_passes; sides = pointer_sides; split = pointer_split }

  -- the rule keeps the laws of rules
  is_rule : IsRule n rule targets
  is_rule =
      restrict_is_rule n variable value below form.few targets
      (record { first = canon-deep n t form; second = canon-deep n t form; third = canon-deep n t form })

-- a restriction of a canonical diagram meets no more tuples than its step joins
pub restrict_meets_few : (n : ℕ) → RestrictMeetsFew n
restrict_meets_few n variable value t form below =
    meets_few n (restrict_rule variable value) (canon_diagrams n t t t) (roots_of_one n t) (Restrict 0 variable value)
    (t ∷ []) (pointer_of t) (IsPiece t) (is_rule n variable value t form below)
    (covers n variable value t form below) (whole_piece n t form) (ap one (root_pointer n t form)) refl
