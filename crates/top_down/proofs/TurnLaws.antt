-- turns that answer an ask: by the newest identifier, or by a new one
use Rattle.std.specs.Prelude.{◌≡◌, ◌⊎◌, ◌+◌, ◌-◌, ◌^◌, ◌<◌, ◌≤◌, ℕ, zero, suc, Bool, false, List, [], ◌∷◌, ◌++◌, length}
use Rattle.std.specs.Ordering.{is_lt}
use Rattle.std.specs.List.Sorted.{IsPermutation}
use Rattle.std.proofs.Common.{refl, sym, ◌∙◌, ap, subst, inl, inr, arith}
use Rattle.std.proofs.lemmas.List.{length-append}
use Rattle.std.proofs.lemmas.List.Sorted.{length_permutation}
use Rattle.rec_words.specs.Words.{node_word, level_of}
use Rattle.canon_file.specs.Members.{Has}
use Rattle.canon_file.proofs.StandLaws.{has_append}
use Rattle.arc_file.specs.declared.arc.Arc.{Arc}
use Rattle.arc_file.specs.Files.{end_cmp}
use Rattle.arc_diagrams.proofs.RowPlaces.{has_left, has_right}
use Rattle.arc_diagrams.proofs.ListViews.{same_permuted}
use Rattle.top_down.specs.declared.tuple.Tuple.{Tuple}
use Rattle.top_down.specs.Tuples.{Targets, level_of_tuple, AreFrom}
use Rattle.top_down.specs.declared.tuple.Goal.TheVariants.{Go}
use Rattle.top_down.specs.Rules.{Rule, IsAsked, IsRule, below_on}
use Rattle.top_down.specs.Asks.{Ask, IsServed, IsUpTo, AreNumbered, next_identifier, Grows, answer, new_arcs, new_asks, with_tuple}
use Rattle.top_down.proofs.PointwiseLaws.{are_later}
use Rattle.top_down.proofs.NewIdentifiers.{with-new, with-other, new_arc, new_ask, new_side, new_two}
use Rattle.top_down.proofs.NumberLaws.{newest_above, next_above, next_level, next_numbered, first_level, first_numbered}
use Rattle.top_down.proofs.OrderLaws.{inner_pushed, ends_pushed, none_in_order}

-- a tuple may be asked for on its own level, where it may on one above
pub asked_at : (n : ℕ) (rule : Rule) (targets : Targets) → IsRule n rule targets → (k i : ℕ) (x : Tuple) → i + k ≡ level_of_tuple x → IsAsked n rule i x
    → IsAsked n rule (level_of_tuple x) x
asked_at n rule targets laws zero i x end asked = let here : i ≡ level_of_tuple x = omega arith in subst (λ l. IsAsked n rule l x) here asked
asked_at n rule targets laws (suc k) i x end asked =
    asked_at n rule targets laws k (suc i) x (omega arith)
    (record { from = are_later n i x asked.from (omega arith); may = laws.later i x asked (omega arith) })

pub tuple_deep : (n i : ℕ) (x : Tuple) → AreFrom n i x → i ≤ level_of_tuple x
tuple_deep n i x from = omega (arith, from.first.deep, from.second.deep, from.third.deep)

-- what the rule says for a side of an identifier
pub record Below (n : ℕ) (rule : Rule) (l : ℕ) (y : Tuple) : Type 0 where
  pub above : IsAsked n rule (suc l) y
  pub asked : IsAsked n rule (level_of_tuple y) y
  pub deeper : l < level_of_tuple y
  pub low : level_of_tuple y < n

module _ (n root : ℕ) (rule : Rule) (targets : Targets) (laws : IsRule n rule targets) (inner ends : List Arc) (used : List ℕ) (tuple : ℕ → Tuple) where
  -- a tuple that an identifier goes to may be asked for, lies deeper, and has a node
  pub goes_below : (asks : List Ask) → Grows n root rule targets inner ends asks used tuple → (s : ℕ) (side : Bool) (y : Tuple) → Has s used
      → rule.goal (below_on rule targets side (tuple s)) ≡ Go y → Below n rule (level_of s) y
  goes_below asks g s side y k goes =
      let (at, low) = g.levels s k in
      let here : IsAsked n rule (level_of_tuple (tuple s)) (tuple s) = subst (λ l. IsAsked n rule l (tuple s)) at (g.asked s k) in
      let next : IsAsked n rule (suc (level_of_tuple (tuple s))) (below_on rule targets side (tuple s)) = laws.sides_asked (tuple s) side (omega arith) here in
      let above : IsAsked n rule (suc (level_of_tuple (tuple s))) y = laws.goes_asked (suc (level_of_tuple (tuple s))) (below_on rule targets side (tuple s)) y (omega arith) next goes in
      let deep : suc (level_of_tuple (tuple s)) ≤ level_of_tuple y = tuple_deep n (suc (level_of_tuple (tuple s))) y above.from in
      let rest : suc (level_of_tuple (tuple s)) + (level_of_tuple y - suc (level_of_tuple (tuple s))) ≡ level_of_tuple y = omega arith in
      record {
        above = subst (λ l. IsAsked n rule (suc l) y) (sym at) above;
        asked = asked_at n rule targets laws (level_of_tuple y - suc (level_of_tuple (tuple s))) (suc (level_of_tuple (tuple s))) y rest above;
        deeper = omega arith;
        low = laws.goes_low (suc (level_of_tuple (tuple s))) (below_on rule targets side (tuple s)) y (omega arith) next goes;
      }

  -- the asks may stand in any order
  pub asks_permuted : (asks others : List Ask) → IsPermutation asks others → Grows n root rule targets inner ends asks used tuple
      → Grows n root rule targets inner ends others used tuple
  asks_permuted asks others moved g =
      let same = same_permuted asks others moved in
      record {
        begins = g.begins;
        met = g.met;
        levels = g.levels;
        asked = g.asked;
        differ = g.differ;
        numbered = g.numbered;
        sides = λ s k side. elim (g.sides s k side) [ inl found ↦ inl found | inr (e, m, source, high) ↦ inr (e, same.there e m, source, high) ];
        count = omega (arith, g.count, length_permutation asks others moved);
        inner_right = g.inner_right;
        end_right = g.end_right;
        ask_right = λ e m. g.ask_right e (same.back e m);
        inner_order = g.inner_order;
        end_order = g.end_order;
      }

  module _ (asks : List Ask) (e : Ask) (s : ℕ) (g : Grows n root rule targets inner ends (e ∷ asks) used tuple) where
    -- an arc to a node is an earlier one or the answer
    which_arc : (a : Arc) → Has a (inner ++ answer e s ∷ []) → Has a inner ⊎ (answer e s ≡ a)
    which_arc a m = elim (has_append a inner (answer e s ∷ []) m) [ inl k ↦ inl k | inr (inl same) ↦ inr same | inr (inr none) ↦ absurd none ]

    answer_there : Has (answer e s) (inner ++ answer e s ∷ [])
    answer_there = has_right (answer e s) inner (answer e s ∷ []) (inl refl)

    arc_there : (a : Arc) → Has a inner → Has a (inner ++ answer e s ∷ [])
    arc_there a m = has_left a inner (answer e s ∷ []) m

    -- with an ask answered, its source has that side's arc
    answered_side : (t : ℕ) (side : Bool) → IsServed inner ends (e ∷ asks) t side → IsServed (inner ++ answer e s ∷ []) ends asks t side
    answered_side t side served = elim served [
      | inl (a, inl m, source, high) ↦ inl (a, inl (arc_there a m), source, high)
      | inl (a, inr m, source, high) ↦ inl (a, inr m, source, high)
      | inr (f, inl is_e, source, high) ↦
          inl (answer e s, inl answer_there, ap (λ (h : Ask). h.source) is_e ∙ source, ap (λ (h : Ask). h.high) is_e ∙ high)
      | inr (f, inr m, source, high) ↦ inr (f, m, source, high)
    ]

  -- an ask is answered by the newest identifier, whose tuple it is
  pub turn_known : (asks : List Ask) (e : Ask) (s : ℕ) (earlier : List ℕ) → used ≡ s ∷ earlier → Grows n root rule targets inner ends (e ∷ asks) used tuple → tuple s ≡ e.tuple
      → ((a : Arc) → Has a inner → a.target ≡ s → is_lt (end_cmp (answer e s) a) ≡ false)
      → Grows n root rule targets (inner ++ answer e s ∷ []) ends asks used tuple
  turn_known asks e s earlier newest g same after =
      let (asker, goes) = g.ask_right e (inl refl) in
      let there : Has s used = subst (Has s) (sym newest) (inl refl) in
      let right : Has e.source used × Has s used × (rule.goal (below_on rule targets e.high (tuple e.source)) ≡ Go (tuple s)) =
      (asker, there, goes ∙ ap Go (sym same)) in
      record {
        begins = g.begins;
        met = λ t k. elim (g.met t k) [ inl first ↦ inl first | inr (a, m, target) ↦ inr (a, arc_there asks e s g a m, target) ];
        levels = g.levels;
        asked = g.asked;
        differ = g.differ;
        numbered = g.numbered;
        sides = λ t k side. answered_side asks e s g t side (g.sides t k side);
        count = omega (arith, g.count, length-append inner (answer e s ∷ []));
        inner_right = λ a m. elim (which_arc asks e s g a m) [
          | inl k ↦ g.inner_right a k
          | inr is_a ↦ subst (λ (b : Arc). Has b.source used × Has b.target used × (rule.goal (below_on rule targets b.high (tuple b.source)) ≡ Go (tuple b.target))) is_a right
        ];
        end_right = g.end_right;
        ask_right = λ f m. g.ask_right f (inr m);
        inner_order = inner_pushed inner (answer e s) g.inner_order (λ b m. at_most b m);
        end_order = g.end_order;
      }
    where
      at_most : (b : Arc) → Has b inner → (b.target < s) ⊎ ((b.target ≡ s) × (is_lt (end_cmp (answer e s) b) ≡ false))
      at_most b m = elim (subst (Has b.target) newest (g.inner_right b m).1) [
        | inl is_s ↦ inr (sym is_s, after b m (sym is_s))
        | inr k ↦ inl (newest_above s earlier (subst AreNumbered newest g.numbered) b.target k)
      ]

  -- an ask is answered by a new identifier, whose two sides are ends or are asked for
  module _ (asks : List Ask) (e : Ask) (g : Grows n root rule targets inner ends (e ∷ asks) used tuple)
      (up : IsUpTo used (level_of_tuple e.tuple)) (few : length used < 2 ^ 47) (other : (t : ℕ) → Has t used → tuple t ≡ e.tuple → ⊥) where
    abbrev pub new_is : ℕ
    new_is = next_identifier used (level_of_tuple e.tuple)

    abbrev pub tuples : ℕ → Tuple
    tuples = with_tuple new_is e.tuple tuple

    above_used : (t : ℕ) → Has t used → t < new_is
    above_used t k = next_above used (level_of_tuple e.tuple) g.numbered up t k

    at_level : level_of new_is ≡ level_of_tuple e.tuple
    at_level = next_level used (level_of_tuple e.tuple) g.numbered few

    kept : (v : ℕ) → Has v used → tuples v ≡ tuple v
    kept v k = with-other new_is e.tuple tuple v (λ same. omega (arith, above_used v k))

    is_new : tuples new_is ≡ e.tuple
    is_new = with-new new_is e.tuple tuple

    below_e : Below n rule (level_of e.source) e.tuple
    below_e = let (asker, goes) = g.ask_right e (inl refl) in goes_below (e ∷ asks) g e.source e.high e.tuple asker goes

    -- what the rule says for the source of an arc or an ask, old or new
    old_goal : (t : ℕ) (side : Bool) → Has t used → rule.goal (below_on rule targets side (tuples t)) ≡ rule.goal (below_on rule targets side (tuple t))
    old_goal t side k = ap (λ x. rule.goal (below_on rule targets side x)) (kept t k)

    new_goal : (t : ℕ) (side : Bool) → t ≡ new_is → rule.goal (below_on rule targets side (tuples t)) ≡ rule.goal (below_on rule targets side e.tuple)
    new_goal t side is_t = ap (λ x. rule.goal (below_on rule targets side x)) (ap tuples is_t ∙ is_new)

    grown_side : (t : ℕ) (side : Bool) → IsServed (inner ++ answer e new_is ∷ []) ends asks t side
        → IsServed (inner ++ answer e new_is ∷ []) (ends ++ new_arcs rule targets new_is e.tuple) (new_asks rule targets new_is e.tuple ++ asks) t side
    grown_side t side served = elim served [
      | inl (a, inl m, source, high) ↦ inl (a, inl m, source, high)
      | inl (a, inr m, source, high) ↦ inl (a, inr (has_left a ends (new_arcs rule targets new_is e.tuple) m), source, high)
      | inr (f, m, source, high) ↦ inr (f, has_right f (new_asks rule targets new_is e.tuple) asks m, source, high)
    ]

    fresh_side : (t : ℕ) (side : Bool) → new_is ≡ t
        → IsServed (inner ++ answer e new_is ∷ []) (ends ++ new_arcs rule targets new_is e.tuple) (new_asks rule targets new_is e.tuple ++ asks) t side
    fresh_side t side is_t = elim (new_side rule targets new_is e.tuple side) [
      | inl (a, m, source, high) ↦ inl (a, inr (has_right a ends (new_arcs rule targets new_is e.tuple) m), source ∙ is_t, high)
      | inr (f, m, source, high) ↦ inr (f, has_left f (new_asks rule targets new_is e.tuple) asks m, source ∙ is_t, high)
    ]

    differ_new : (t v : ℕ) → Has t (new_is ∷ used) → Has v (new_is ∷ used) → tuples t ≡ tuples v → t ≡ v
    differ_new t v (inl is_t) (inl is_v) same = sym is_t ∙ is_v
    differ_new t v (inl is_t) (inr k) same = absurd (other v k (sym (kept v k) ∙ sym same ∙ ap tuples (sym is_t) ∙ is_new))
    differ_new t v (inr k) (inl is_v) same = absurd (other t k (sym (kept t k) ∙ same ∙ ap tuples (sym is_v) ∙ is_new))
    differ_new t v (inr k) (inr l) same = g.differ t v k l (sym (kept t k) ∙ same ∙ kept v l)

    pub turn_new : Grows n root rule targets (inner ++ answer e new_is ∷ []) (ends ++ new_arcs rule targets new_is e.tuple)
        (new_asks rule targets new_is e.tuple ++ asks) (new_is ∷ used) tuples
    turn_new =
        let (asker, goes) = g.ask_right e (inl refl) in
        record {
          begins = inr g.begins;
          met = λ v k. elim k [
            | inl same ↦ inr (answer e new_is, answer_there asks e new_is g, same)
            | inr m ↦ elim (g.met v m) [ inl first ↦ inl first | inr (a, l, target) ↦ inr (a, arc_there asks e new_is g a l, target) ]
          ];
          levels = λ v k. elim k [
            | inl same ↦
                (ap level_of (sym same) ∙ at_level ∙ ap level_of_tuple (sym is_new) ∙ (λ j. level_of_tuple (tuples (same j))), omega (arith, ap level_of same, at_level, below_e.low))
            | inr m ↦ (let (is_at, is_low) = g.levels v m in (is_at ∙ ap level_of_tuple (sym (kept v m)), is_low))
          ];
          asked = λ v k. elim k [
            | inl same ↦ subst (λ t. IsAsked n rule (level_of t) (tuples t)) same
                (subst (λ x. IsAsked n rule (level_of new_is) x) (sym is_new) (subst (λ l. IsAsked n rule l e.tuple) (sym at_level) below_e.asked))
            | inr m ↦ subst (λ x. IsAsked n rule (level_of v) x) (sym (kept v m)) (g.asked v m)
          ];
          differ = differ_new;
          numbered = next_numbered used (level_of_tuple e.tuple) g.numbered up few;
          sides = λ v k side. elim k [
            | inl same ↦ fresh_side v side same
            | inr m ↦ grown_side v side (answered_side asks e new_is g v side (g.sides v m side))
          ];
          count = omega (
            arith,
            g.count,
            length-append inner (answer e new_is ∷ []),
            length-append ends (new_arcs rule targets new_is e.tuple),
            length-append (new_asks rule targets new_is e.tuple) asks,
            new_two rule targets new_is e.tuple,
          );
          inner_right = λ a m. elim (which_arc asks e new_is g a m) [
            | inl k ↦
                let (source, target, says) = g.inner_right a k in
                (inr source, inr target, old_goal a.source a.high source ∙ says ∙ ap Go (sym (kept a.target target)))
            | inr is_a ↦ subst (λ (b : Arc). Has b.source (new_is ∷ used) × Has b.target (new_is ∷ used)
                × (rule.goal (below_on rule targets b.high (tuples b.source)) ≡ Go (tuples b.target))) is_a
                (inr asker, inl refl, old_goal e.source e.high asker ∙ goes ∙ ap Go (sym is_new))
          ];
          end_right = λ a m. elim (has_append a ends (new_arcs rule targets new_is e.tuple) m) [
            | inl k ↦ (let (value, source, target, says) = g.end_right a k in (value, inr source, target, old_goal a.source a.high source ∙ says))
            | inr k ↦ (let (value, says, source, target) = new_arc rule targets new_is e.tuple a k in (value, inl (sym source), target, new_goal a.source a.high source ∙ says))
          ];
          ask_right = λ f m. elim (has_append f (new_asks rule targets new_is e.tuple) asks m) [
            | inl k ↦ (let (says, source) = new_ask rule targets new_is e.tuple f k in (inl (sym source), new_goal f.source f.high source ∙ says))
            | inr k ↦ (let (source, says) = g.ask_right f (inr k) in (inr source, old_goal f.source f.high source ∙ says))
          ];
          inner_order = inner_pushed inner (answer e new_is) g.inner_order (λ b m. inl (above_used b.target (g.inner_right b m).1));
          end_order = ends_pushed rule targets new_is e.tuple ends g.end_order (λ b m. above_used b.source (g.end_right b m).1);
        }

-- at the beginning the root answers its tuple, and its two sides are ends or are asked for
pub turn_first : (n : ℕ) (rule : Rule) (targets : Targets) → IsRule n rule targets → (x : Tuple) → IsAsked n rule 0 x → level_of_tuple x < n
    → (let root : ℕ = node_word (level_of_tuple x) 0 in Grows n root rule targets [] (new_arcs rule targets root x) (new_asks rule targets root x) (root ∷ []) (λ v. x))
turn_first n rule targets laws x asked low =
    let root : ℕ = node_word (level_of_tuple x) 0 in
    let at : level_of root ≡ level_of_tuple x = first_level (level_of_tuple x) in
    let own : IsAsked n rule (level_of_tuple x) x = asked_at n rule targets laws (level_of_tuple x) 0 x (omega arith) asked in
    record {
      begins = inl refl;
      met = λ s k. elim k [ inl same ↦ inl same | inr none ↦ absurd none ];
      levels = λ s k. elim k [ inl same ↦ (ap level_of (sym same) ∙ at, omega (arith, ap level_of same)) | inr none ↦ absurd none ];
      asked = λ s k. elim k [ inl same ↦ subst (λ l. IsAsked n rule l x) (sym at ∙ ap level_of same) own | inr none ↦ absurd none ];
      differ = λ s t k l same. elim k [ inl is_s ↦ elim l [ inl is_t ↦ sym is_s ∙ is_t | inr none ↦ absurd none ] | inr none ↦ absurd none ];
      numbered = first_numbered (level_of_tuple x);
      sides = λ s k side. elim k [
        | inl same ↦ elim (new_side rule targets root x side) [
          | inl (a, m, source, high) ↦ inl (a, inr m, source ∙ same, high)
          | inr (f, m, source, high) ↦ inr (f, m, source ∙ same, high)
        ]
        | inr none ↦ absurd none
      ];
      count = omega (arith, new_two rule targets root x);
      inner_right = λ a m. absurd m;
      end_right = λ a m. let (value, says, source, target) = new_arc rule targets root x a m in (value, inl (sym source), target, says);
      ask_right = λ f m. let (says, source) = new_ask rule targets root x f m in (inl (sym source), says);
      inner_order = λ k d from below. absurd (omega (arith, below));
      end_order = ends_pushed rule targets root x [] none_in_order (λ b m. absurd m);
    }
