-- A choice of three canonical diagrams meets no more tuples than its step joins.
use Rattle.std.specs.Prelude.{◌≡◌, ◌⊎◌, ℕ, suc, ◌+◌, ◌<◌, ◌≤◌, Bool, true, false, cond, List, [], ◌∷◌}
use Rattle.std.specs.List.{list_any}
use Rattle.std.proofs.Common.{refl, sym, ◌∙◌, ap, subst, inl, inr, arith}
use Rattle.std.proofs.lemmas.Bool.Decides.{nat_tests}
use Rattle.bool_tables.specs.declared.steps.Step.TheVariants.{Ite}
use Rattle.rec_words.specs.Words.{level_of}
use Rattle.list_laws.specs.Members.{Has}
use Rattle.canon_file.specs.declared.row.Row.{Row}
use Rattle.canon_file.specs.Pieces.{pieces, splits}
use Rattle.canon_file.specs.Laws.{HasForm}
use Rattle.arc_diagrams.specs.Arcs.{onward}
use Rattle.top_down.specs.declared.tuple.Tuple.{Tuple}
use Rattle.top_down.specs.declared.tuple.Goal.TheVariants.{End, Go}
use Rattle.top_down.specs.Tuples.{Targets, AreFrom, unused, level_of_tuple, parts}
use Rattle.top_down.specs.Rules.{IsAsked}
use Rattle.top_down.specs.Operations.{is_end, is_one, ends_or, choice_goal, choice_rule}
use Rattle.top_down.specs.Laws.{roots_of_three, targets_of_three}
use Rattle.top_down.proofs.TupleLaws.{onward-past}
use Rattle.top_down.proofs.ChoiceLaws.{left_by, says_of, same_ends}
use Rattle.top_down.proofs.GoalLaws.{go_tuple, end_go, ends_or-go}
use Rattle.top_down_laws.specs.Operations.{canon_diagrams}
use Rattle.top_down_laws.proofs.CanonTasks.{choice_is_task}
use Rattle.met_tuples.specs.Few.{ChoiceMeetsFew}
use Rattle.met_tuples.proofs.PointerLaws.{piece_pointer, half_piece, whole_piece, root_pointer, piece_from, piece_splits, piece_onward}
use Rattle.met_tuples.proofs.Covering.{View, Family, meets_few}
use Rattle.met_tuples.proofs.SideTuples.{has_side, member_at, any_splits, LeadsToHalves, AsksAlike, TurnsTo, TurnsToSides, same_side-parts, covers_sides}

-- the branch that a test leaves
abbrev branch : Bool → Tuple → ℕ
branch value x = cond value x.second x.third

-- the test is a truth value, that one
record Decides (value : Bool) (x : Tuple) : Type 0 where
  ends : is_end x.first ≡ true
  one : is_one x.first ≡ value

-- where the test decides, the rule speaks of the branch that is left
decided : (value : Bool) (x : Tuple) → Decides value x → choice_goal x ≡ ends_or (branch value x) (left_by value x)
decided true x d = λ j. says_of (d.ends j) (d.one j) (same_ends x) x
decided false x d = λ j. says_of (d.ends j) (d.one j) (same_ends x) x

-- the test leaves a branch that isn't a truth value
record Leaves (v x : Tuple) : Type 0 where
  value : Bool
  decides : Decides value v
  node : is_end (branch value v) ≡ false
  left : left_by value v ≡ x

-- a choice asks for the very tuple, or for one with the branch alone that the test leaves
choice_asks : (v x : Tuple) → choice_goal v ≡ Go x → (v ≡ x) ⊎ Leaves v x
choice_asks v x e = by (is_end v.first) (is_one v.first) (same_ends v) refl refl e
  where
    by : (b d s : Bool) → is_end v.first ≡ b → is_one v.first ≡ d → says_of b d s v ≡ Go x → (v ≡ x) ⊎ Leaves v x
    by true true s ends one says =
        let (node, left) = ends_or-go v.second (left_by true v) x says in
        inr (record { value = true; decides = record { ends = ends; one = one }; node = node; left = left })
    by true false s ends one says =
        let (node, left) = ends_or-go v.third (left_by false v) x says in
        inr (record { value = false; decides = record { ends = ends; one = one }; node = node; left = left })
    by false d true ends one says = absurd (end_go (is_one v.second) x says)
    by false d false ends one says = inl (go_tuple v x says)

module _ (n : ℕ) (targets : Targets) (i : ℕ) (below : i < n) (top : n ≤ 65535) where
  -- a truth value is of no level, and leads to itself
  end_deep : (w : ℕ) → is_end w ≡ true → i < level_of w
  end_deep w ends = grind (arith, nat_tests)

  onward-end : (rows : ℕ → Row) (side : Bool) (w : ℕ) → is_end w ≡ true → onward rows i side w ≡ w
  onward-end rows side w ends = onward-past rows i w side (end_deep w ends)

  -- a test that decides does so on each side
  decides_on : (side value : Bool) (x : Tuple) → Decides value x → Decides value (parts targets i side x)
  decides_on side value x d =
      let stays : onward targets.first i side x.first ≡ x.first = onward-end targets.first side x.first d.ends in
      record { ends = ap is_end stays ∙ d.ends; one = ap is_one stays ∙ d.one }

  -- the tuple with the branch alone that the test leaves has the same goal on each side
  left_alike : (v : Tuple) (value : Bool) → AreFrom n i v → Decides value v → is_end (branch value v) ≡ false
      → AsksAlike choice_rule targets i v (left_by value v)
  left_alike v true from d node = record {
    again = decided true (left_by true v) (record { ends = d.ends; one = d.one })
        ∙ (λ j. cond (node j) (End (is_one v.second)) (Go (left_by true v)));
    alike = λ side.
        decided true (parts targets i side v) (decides_on side true v d)
        ∙ sym (decided true (parts targets i side (left_by true v))
        (decides_on side true (left_by true v) (record { ends = d.ends; one = d.one })));
    level = λ here. omega (arith, from.first.deep, from.second.deep, from.third.deep, here);
  }
  left_alike v false from d node = record {
    again = decided false (left_by false v) (record { ends = d.ends; one = d.one })
        ∙ (λ j. cond (node j) (End (is_one v.third)) (Go (left_by false v)));
    alike = λ side.
        decided false (parts targets i side v) (decides_on side false v d)
        ∙ sym (decided false (parts targets i side (left_by false v))
        (decides_on side false (left_by false v) (record { ends = d.ends; one = d.one })));
    level = λ here. omega (arith, from.first.deep, from.second.deep, from.third.deep, here);
  }

  -- what a choice asks for has the same goal on each side
  asks_alike : (v x : Tuple) → AreFrom n i v → choice_goal v ≡ Go x → AsksAlike choice_rule targets i v x
  asks_alike v x from goes =
      elim (choice_asks v x goes) [
        | inl same ↦ record {
          again = ap choice_goal (sym same) ∙ goes;
          alike = λ side. ap (λ w. choice_goal (parts targets i side w)) same;
          level = λ here. ap level_of_tuple same ∙ here;
        }
        | inr leaves ↦
            subst (AsksAlike choice_rule targets i v) leaves.left
            (left_alike v leaves.value from leaves.decides leaves.node)
      ]

module _ (n : ℕ) (t u v : List Bool) (form_t : HasForm n t) (form_u : HasForm n u) (form_v : HasForm n v) where
  -- the pointers of a piece of each table
  abbrev view : View
  view i h [] = record { first = unused; second = unused; third = unused }
  view i h (p ∷ []) = record { first = unused; second = unused; third = unused }
  view i h (p ∷ q ∷ []) = record { first = unused; second = unused; third = unused }
  view i h (p ∷ q ∷ r ∷ []) = record {
    first = piece_pointer t i h p;
    second = piece_pointer u i h q;
    third = piece_pointer v i h r;
  }
  view i h (p ∷ q ∷ r ∷ s ∷ l) = record { first = unused; second = unused; third = unused }

  -- a piece of each table
  abbrev AreOn : Family
  AreOn i h [] = ⊥
  AreOn i h (p ∷ []) = ⊥
  AreOn i h (p ∷ q ∷ []) = ⊥
  AreOn i h (p ∷ q ∷ r ∷ []) = Has p (pieces i h t) × Has q (pieces i h u) × Has r (pieces i h v)
  AreOn i h (p ∷ q ∷ r ∷ s ∷ l) = ⊥

  -- the pointers of three pieces may be asked for
  asked : (i h : ℕ) (l : List (List Bool)) → i + h ≡ n → AreOn i h l → IsAsked n choice_rule i (view i h l)
  asked i h [] end are = absurd are
  asked i h (p ∷ []) end are = absurd are
  asked i h (p ∷ q ∷ []) end are = absurd are
  asked i h (p ∷ q ∷ r ∷ []) end are = record {
    from = record {
      first = piece_from n t form_t i h p end;
      second = piece_from n u form_u i h q end;
      third = piece_from n v form_v i h r end;
    };
    may = refl;
  }
  asked i h (p ∷ q ∷ r ∷ s ∷ l) end are = absurd are

  -- they lead to those of the halves
  halves : (i h : ℕ) (l : List (List Bool)) → i + suc h ≡ n → AreOn i (suc h) l
      → LeadsToHalves (targets_of_three n t u v) view AreOn i h l
  halves i h [] end are = absurd are
  halves i h (p ∷ []) end are = absurd are
  halves i h (p ∷ q ∷ []) end are = absurd are
  halves i h (p ∷ q ∷ r ∷ []) end are = record {
    are = λ side. (half_piece t i h side p are.0, half_piece u i h side q are.1, half_piece v i h side r are.2);
    onward = λ side j. record {
      first = piece_onward n t form_t i h side p end are.0 j;
      second = piece_onward n u form_u i h side q end are.1 j;
      third = piece_onward n v form_v i h side r end are.2 j;
    };
  }
  halves i h (p ∷ q ∷ r ∷ s ∷ l) end are = absurd are

  -- where they are of their level, one of the pieces splits
  split : (i h : ℕ) (l : List (List Bool)) → i + suc h ≡ n → AreOn i (suc h) l
      → level_of_tuple (view i (suc h) l) ≡ i → list_any (splits h) l ≡ true
  split i h [] end are here = absurd are
  split i h (p ∷ []) end are here = absurd are
  split i h (p ∷ q ∷ []) end are here = absurd are
  split i h (p ∷ q ∷ r ∷ []) end are here =
      elim (member_at (view i (suc h) (p ∷ q ∷ r ∷ [])) i here) [
        | inl first ↦ any_splits h p (p ∷ q ∷ r ∷ []) (inl refl) (piece_splits n t form_t i h p end first)
        | inr (inl second) ↦
            any_splits h q (p ∷ q ∷ r ∷ []) (inr (inl refl)) (piece_splits n u form_u i h q end second)
        | inr (inr third) ↦
            any_splits h r (p ∷ q ∷ r ∷ []) (inr (inr (inl refl))) (piece_splits n v form_v i h r end third)
      ]
  split i h (p ∷ q ∷ r ∷ s ∷ l) end are here = absurd are

  -- on each side a choice turns to that side's pointers
  turns : (i h : ℕ) (l : List (List Bool)) (side : Bool)
      → TurnsTo choice_rule (targets_of_three n t u v) (Ite 0 1 2) i h l side
  turns i h l side = record {
    to = side;
    led = has_side h side l;
    below = same_side-parts (targets_of_three n t u v) i side;
  }

  -- on each level a choice and its step turn to the halves of a side
  turns_to_sides : TurnsToSides n choice_rule (targets_of_three n t u v) (Ite 0 1 2) view AreOn
  turns_to_sides = record {
    asked = asked;
    halves = halves;
    asks = λ i h l x end gives.
        asks_alike n (targets_of_three n t u v) i (omega arith) form_t.few (view i (suc h) l) x
        (asked i (suc h) l end gives.are).from gives.goes;
    turns = turns;
    split = split;
  }

-- so it meets no more tuples than its step joins
pub choice_meets_few : (n : ℕ) → ChoiceMeetsFew n
choice_meets_few n t u v form_t form_u form_v =
    meets_few n choice_rule (canon_diagrams n t u v) (roots_of_three n t u v) (Ite 0 1 2) (t ∷ u ∷ v ∷ [])
    (view n t u v form_t form_u form_v) (AreOn n t u v form_t form_u form_v)
    (choice_is_task n t u v form_t form_u form_v).is_task.is_rule
    (covers_sides n choice_rule (targets_of_three n t u v) (Ite 0 1 2) (view n t u v form_t form_u form_v)
    (AreOn n t u v form_t form_u form_v) (turns_to_sides n t u v form_t form_u form_v))
    (whole_piece n t form_t, whole_piece n u form_u, whole_piece n v form_v)
    (λ j. record {
      first = root_pointer n t form_t j;
      second = root_pointer n u form_u j;
      third = root_pointer n v form_v j;
    })
    refl
