-- An operation on two canonical diagrams meets no more tuples than its step joins.
use Rattle.std.specs.Prelude.{◌≡◌, ℕ, suc, ◌+◌, Bool, true, false, List, [], ◌∷◌}
use Rattle.std.specs.List.{list_any}
use Rattle.std.proofs.Common.{refl, sym, ◌∙◌, ap, inl, inr, arith}
use Rattle.bool_tables.specs.declared.steps.Bin.{Bin}
use Rattle.bool_tables.specs.declared.steps.Step.TheVariants.{Pair}
use Rattle.list_laws.specs.Members.{Has}
use Rattle.canon_file.specs.Pieces.{splits, pieces}
use Rattle.canon_file.specs.Laws.{HasForm}
use Rattle.top_down.specs.declared.tuple.Tuple.{Tuple}
use Rattle.top_down.specs.declared.tuple.Goal.TheVariants.{Go}
use Rattle.top_down.specs.Tuples.{unused, canon_targets, level_of_tuple, parts}
use Rattle.top_down.specs.Rules.{IsAsked}
use Rattle.top_down.specs.Operations.{product_goal, product_rule}
use Rattle.top_down.specs.Laws.{roots_of_two, targets_of_two}
use Rattle.top_down.proofs.ProductLaws.{product_goes}
use Rattle.top_down.proofs.TupleLaws.{from_terminal, onward-past}
use Rattle.top_down_laws.specs.Operations.{canon_diagrams}
use Rattle.top_down_laws.proofs.CanonTasks.{product_is_task}
use Rattle.met_tuples.specs.Few.{ProductMeetsFew}
use Rattle.met_tuples.proofs.SideTuples.{has_side, member_at, any_splits, LeadsToHalves, AsksAlike, TurnsTo, TurnsToSides, same_side-parts, covers_sides}
use Rattle.met_tuples.proofs.PointerLaws.{piece_pointer, half_piece, whole_piece, root_pointer, piece_from, piece_splits, piece_onward}
use Rattle.met_tuples.proofs.Covering.{View, Family, meets_few}

module _ (n : ℕ) (op : Bin) (t u : List Bool) (form_t : HasForm n t) (form_u : HasForm n u) where
  -- the pointers of a piece of each table
  abbrev view : View
  view i h [] = record { first = unused; second = unused; third = unused }
  view i h (p ∷ []) = record { first = unused; second = unused; third = unused }
  view i h (p ∷ q ∷ []) = record {
    first = piece_pointer t i h p;
    second = piece_pointer u i h q;
    third = unused;
  }
  view i h (p ∷ q ∷ r ∷ l) = record { first = unused; second = unused; third = unused }

  -- a piece of each table
  abbrev AreOn : Family
  AreOn i h [] = ⊥
  AreOn i h (p ∷ []) = ⊥
  AreOn i h (p ∷ q ∷ []) = Has p (pieces i h t) × Has q (pieces i h u)
  AreOn i h (p ∷ q ∷ r ∷ l) = ⊥

  -- the pointers of two pieces may be asked for
  asked : (i h : ℕ) (l : List (List Bool)) → i + h ≡ n → AreOn i h l → IsAsked n (product_rule op) i (view i h l)
  asked i h [] end are = absurd are
  asked i h (p ∷ []) end are = absurd are
  asked i h (p ∷ q ∷ []) end are = record {
    from = record {
      first = piece_from n t form_t i h p end;
      second = piece_from n u form_u i h q end;
      third = from_terminal n i false (omega arith) form_t.few;
    };
    may = refl;
  }
  asked i h (p ∷ q ∷ r ∷ l) end are = absurd are

  -- they lead to those of the halves
  halves : (i h : ℕ) (l : List (List Bool)) → i + suc h ≡ n → AreOn i (suc h) l
      → LeadsToHalves (targets_of_two n t u) view AreOn i h l
  halves i h [] end are = absurd are
  halves i h (p ∷ []) end are = absurd are
  halves i h (p ∷ q ∷ []) end are = record {
    are = λ side. (half_piece t i h side p are.0, half_piece u i h side q are.1);
    onward = λ side j. record {
      first = piece_onward n t form_t i h side p end are.0 j;
      second = piece_onward n u form_u i h side q end are.1 j;
      third = onward-past (canon_targets n u) i unused side (omega (arith, form_t.few)) j;
    };
  }
  halves i h (p ∷ q ∷ r ∷ l) end are = absurd are

  -- where they are of their level, one of the pieces splits
  split : (i h : ℕ) (l : List (List Bool)) → i + suc h ≡ n → AreOn i (suc h) l
      → level_of_tuple (view i (suc h) l) ≡ i → list_any (splits h) l ≡ true
  split i h [] end are here = absurd are
  split i h (p ∷ []) end are here = absurd are
  split i h (p ∷ q ∷ []) end are here =
      elim (member_at (view i (suc h) (p ∷ q ∷ [])) i here) [
        | inl first ↦ any_splits h p (p ∷ q ∷ []) (inl refl) (piece_splits n t form_t i h p end first)
        | inr (inl second) ↦
            any_splits h q (p ∷ q ∷ []) (inr (inl refl)) (piece_splits n u form_u i h q end second)
        | inr (inr third) ↦ absurd (omega (arith, third, form_t.few))
      ]
  split i h (p ∷ q ∷ r ∷ l) end are here = absurd are

  -- an operation asks for the very tuple
  asks : (i : ℕ) (v x : Tuple) → product_goal op v ≡ Go x → AsksAlike (product_rule op) (targets_of_two n t u) i v x
  asks i v x goes =
      let same : v ≡ x = (product_goes op v x goes).0 in
      record {
        again = ap (product_goal op) (sym same) ∙ goes;
        alike = λ side. ap (λ w. product_goal op (parts (targets_of_two n t u) i side w)) same;
        level = λ here. ap level_of_tuple same ∙ here;
      }

  -- on each side it turns to that side's pointers
  turns : (i h : ℕ) (l : List (List Bool)) (side : Bool)
      → TurnsTo (product_rule op) (targets_of_two n t u) (Pair op 0 1) i h l side
  turns i h l side = record {
    to = side;
    led = has_side h side l;
    below = same_side-parts (targets_of_two n t u) i side;
  }

  -- on each level it and its step turn to the halves of a side
  turns_to_sides : TurnsToSides n (product_rule op) (targets_of_two n t u) (Pair op 0 1) view AreOn
  turns_to_sides = record {
    asked = asked;
    halves = halves;
    asks = λ i h l x end gives. asks i (view i (suc h) l) x gives.goes;
    turns = turns;
    split = split;
  }

-- so it meets no more tuples than its step joins
pub product_meets_few : (n : ℕ) → ProductMeetsFew n
product_meets_few n op t u form_t form_u =
    meets_few n (product_rule op) (canon_diagrams n t u u) (roots_of_two n t u) (Pair op 0 1) (t ∷ u ∷ [])
    (view n op t u form_t form_u) (AreOn n op t u form_t form_u)
    (product_is_task n op t u form_t form_u).is_task.is_rule
    (covers_sides n (product_rule op) (targets_of_two n t u) (Pair op 0 1) (view n op t u form_t form_u)
    (AreOn n op t u form_t form_u) (turns_to_sides n op t u form_t form_u))
    (whole_piece n t form_t, whole_piece n u form_u)
    (λ j. record {
      first = root_pointer n t form_t j;
      second = root_pointer n u form_u j;
      third = unused;
    })
    refl
