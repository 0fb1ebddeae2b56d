-- How the pair of a slot gets its source.
use Rattle.std.specs.Prelude.{◌≡◌, ℕ, suc, ◌+◌, ◌-◌, ◌<◌, ◌≤◌, Bool, true, false, List, [], ◌∷◌, length}
use Rattle.std.proofs.Common.{◌∙◌, sym, ap, subst, inl, inr, arith}
use Rattle.std.proofs.lemmas.Bool.{cases_lt}
use Rattle.rec_words.specs.Words.{level_of}
use Rattle.rec_words.specs.declared.rec.Rec.{Rec}
use Rattle.bool_tables.specs.declared.steps.Bin.{Bin}
use Rattle.run_files.specs.Items.{record_at}
use Rattle.arc_diagrams.specs.Arcs.{onward}
use Rattle.top_down.specs.declared.tuple.Tuple.{Tuple}
use Rattle.top_down.specs.Operations.{two, product_rule, product_goal}
use Rattle.top_down.specs.Tuples.{Targets, unused, level_of_tuple, parts}
use Rattle.top_down.specs.Rules.{IsRule, IsAsked, below_on}
use Rattle.top_down.proofs.TupleLaws.{onward-past}
use Rattle.room_reduction.specs.Records.{word}
use Rattle.room_products.specs.Slots.{pair_at, id_at, AreSlots, KeepsSlots}
use Rattle.room_products.specs.Joining.{IsAnswer, IsSourceOf, AreSourcesOf, IsTarget, IsJoining}
use Rattle.room_products.proofs.KeptSlots.{keeps_both, answer_kept}

-- the pair to which a pair leads on a side of a level
abbrev pub pair_on : Targets → ℕ → Bool → ℕ → ℕ → Tuple
pair_on targets level side a b = two (onward targets.first level side a) (onward targets.second level side b)

-- the pair to which that of a slot leads on a side of its level
abbrev pub slot_side : Targets → List Rec → ℕ → Bool → Tuple
slot_side targets slots place side =
    pair_on targets (level_of (id_at slots place)) side (word 0 (record_at slots place))
    (word 1 (record_at slots place))

-- a pair's members lead to a pair on each level of a node: what isn't used leads to itself
parts-two : (targets : Targets) (level a b : ℕ) (side : Bool) → level < 65536
    → parts targets level side (two a b) ≡ pair_on targets level side a b
parts-two targets level a b side low =
    let past : level < level_of unused = omega (arith, low) in
    ap (λ w. record {
      first = onward targets.first level side a;
      second = onward targets.second level side b;
      third = w;
    }) (onward-past targets.third level unused side past)

-- so it does on both sides of its level
below-two : (op : Bin) (targets : Targets) (level a b : ℕ) (side : Bool) → level ≡ level_of_tuple (two a b)
    → level < 65536 → below_on (product_rule op) targets side (two a b) ≡ pair_on targets level side a b
below-two op targets level a b true same low =
    ap (λ i. parts targets i true (two a b)) (sym same) ∙ parts-two targets level a b true low
below-two op targets level a b false same low =
    ap (λ i. parts targets i false (two a b)) (sym same) ∙ parts-two targets level a b false low

-- the pairs on both sides of a slot's pair are asked for below its level
side_asked : (op : Bin) (n count place : ℕ) (targets : Targets) (slots firsts : List Rec) (side : Bool)
    → n ≤ 65535 → place < count → IsRule n (product_rule op) targets → AreSlots n (product_rule op) slots firsts count
    → IsAsked n (product_rule op) (suc (level_of (id_at slots place))) (slot_side targets slots place side)
side_asked op n count place targets slots firsts side top below rule are =
    let level = level_of (id_at slots place) in
    let x = pair_at slots place in
    let same : level ≡ level_of_tuple x = are.levels place below in
    let low : level < n = are.low place below in
    let asked : IsAsked n (product_rule op) (level_of_tuple x) x =
    subst (λ i. IsAsked n (product_rule op) i x) same (are.asked place below) in
    let sides : IsAsked n (product_rule op) (suc (level_of_tuple x)) (below_on (product_rule op) targets side x) =
    rule.sides_asked x side (omega (arith, low, same)) asked in
    subst (λ i. IsAsked n (product_rule op) (suc i) (slot_side targets slots place side)) (sym same)
    (subst (IsAsked n (product_rule op) (suc (level_of_tuple x)))
    (below-two op targets level (word 0 (record_at slots place)) (word 1 (record_at slots place)) side same
    (omega (arith, low, top))) sides)

-- a record with the answers to both pairs is the slot's source, also once more slots are used
is_source : (op : Bin) (n count first second place : ℕ) (targets : Targets) (old mid new firsts : List Rec)
    (r : Rec) → n ≤ 65535 → place < count → AreSlots n (product_rule op) old firsts count
    → KeepsSlots count first old mid → KeepsSlots first second mid new → word 0 r ≡ id_at old place
    → IsAnswer (product_goal op (slot_side targets old place false)) mid first (word 1 r)
    → IsAnswer (product_goal op (slot_side targets old place true)) new second (word 2 r)
    → IsSourceOf (product_rule op) targets new second place r
is_source op n count first second place targets old mid new firsts r top below are kept more source low high =
    let level = level_of (id_at old place) in
    let a = word 0 (record_at old place) in
    let b = word 1 (record_at old place) in
    let both : KeepsSlots count second old new = keeps_both count first second old mid new kept more in
    let same : level ≡ level_of_tuple (two a b) = are.levels place below in
    let above : level < n = are.low place below in
    let pair : pair_at new place ≡ two a b = both.pairs place below in
    let leads : (side : Bool) → below_on (product_rule op) targets side (pair_at new place)
    ≡ pair_on targets level side a b = λ side. ap (below_on (product_rule op) targets side) pair
    ∙ below-two op targets level a b side same (omega (arith, above, top)) in
    record {
      source_is = source ∙ sym (both.ids place below);
      low = subst (λ x. IsAnswer (product_goal op x) new second (word 1 r)) (sym (leads false))
          (answer_kept (product_goal op (pair_on targets level false a b)) first second mid new (word 1 r) more low);
      high = subst (λ x. IsAnswer (product_goal op x) new second (word 2 r)) (sym (leads true)) high;
    }

-- a source is put behind those that are done
pub record IsPut (source low high : ℕ) (old new : List Rec) (done : ℕ) : Type 0 where
  pub within : done < length new
  pub source_is : word 0 (record_at new done) ≡ source
  pub low_is : word 1 (record_at new done) ≡ low
  pub high_is : word 2 (record_at new done) ≡ high
  pub others : (k : ℕ) → k < done → record_at new k ≡ record_at old k
  pub greater : 0 < done → word 0 (record_at old (done - 1)) < source

-- it makes its two targets
module _ (op : Bin) (n root : ℕ) (roots : Tuple) (targets : Targets) (slots firsts : List Rec) (count place : ℕ)
    (old new : List Rec) (done source low high : ℕ) (put : IsPut source low high old new done) where
  -- a target is one still
  still_target : (w : ℕ) → IsTarget (high ∷ low ∷ []) old done w → IsTarget [] new (done + 1) w
  still_target w (inl (inl here)) = inr (done, omega arith, inr (put.high_is ∙ here))
  still_target w (inl (inr (inl here))) = inr (done, omega arith, inl (put.low_is ∙ here))
  still_target w (inl (inr (inr nothing))) = absurd nothing
  still_target w (inr (k, below, inl here)) = inr (k, omega arith, inl (ap (word 1) (put.others k below) ∙ here))
  still_target w (inr (k, below, inr here)) = inr (k, omega arith, inr (ap (word 2) (put.others k below) ∙ here))

  -- the new source is greater than all before it
  all_less : AreSourcesOf (product_rule op) targets slots count old done → (j : ℕ) → j < done
      → word 0 (record_at new j) < word 0 (record_at new done)
  all_less are j below =
      let last : word 0 (record_at old (done - 1)) < source = put.greater (omega (arith, below)) in
      let stays : word 0 (record_at new j) ≡ word 0 (record_at old j) = ap (word 0) (put.others j below) in
      let less : word 0 (record_at old j) < source = elim (cases_lt j (done - 1)) [
        | inl before ↦
            let rises = are.ascend j (done - 1) before (omega (arith, below)) in
            omega (arith, rises, last)
        | inr behind ↦
            let same : done - 1 ≡ j = omega (arith, below, behind) in
            subst (λ k. word 0 (record_at old k) < source) same last
      ] in
      omega (arith, stays, less, put.source_is)

  source_more : place < count → IsSourceOf (product_rule op) targets slots count place (record_at new done)
      → IsJoining n root roots (product_rule op) targets (high ∷ low ∷ []) slots firsts count old done
      → IsJoining n root roots (product_rule op) targets [] slots firsts count new (done + 1)
  source_more below own joining = record {
    slots_are = joining.slots_are;
    sources_are = record {
      within = omega (arith, put.within);
      each = λ k early. elim (cases_lt k done) [
        | inl before ↦
            let (at, used, is) = joining.sources_are.each k before in
            (at, used, subst (IsSourceOf (product_rule op) targets slots count at) (sym (put.others k before)) is)
        | inr last ↦
            let same : done ≡ k = omega (arith, early, last) in (
              place,
              below,
              subst (λ i. IsSourceOf (product_rule op) targets slots count place (record_at new i)) same own,
            )
      ];
      ascend = λ j k before early. elim (cases_lt k done) [
        | inl earlier ↦
            let first = ap (word 0) (put.others j (omega (arith, before, earlier))) in
            let second = ap (word 0) (put.others k earlier) in
            let rises = joining.sources_are.ascend j k before earlier in
            omega (arith, first, second, rises)
        | inr last ↦
            let same : done ≡ k = omega (arith, early, last) in
            subst (λ i. word 0 (record_at new j) < word 0 (record_at new i)) same
            (all_less joining.sources_are j (omega (arith, before, same)))
      ];
    };
    some = joining.some;
    begins = joining.begins;
    root_is = joining.root_is;
    met = λ k used. elim (joining.met k used) [
      | inl first ↦ inl first
      | inr target ↦ inr (still_target (id_at slots k) target)
    ];
  }

-- a pair is answered by a word: where it is asked for, what the room holds stays right with that word
abbrev pub IsAnswered : Bin → Tuple → ℕ → List Rec → List Rec → ℕ → List Rec → List Rec → ℕ → Type 0
IsAnswered op x w old_slots old_firsts count new_slots new_firsts more =
    (n root i : ℕ) (roots : Tuple) (targets : Targets) (owed : List ℕ) (sources : List Rec) (done : ℕ) → i ≤ n
    → IsRule n (product_rule op) targets → IsAsked n (product_rule op) i x
    → IsJoining n root roots (product_rule op) targets owed old_slots old_firsts count sources done
    → IsJoining n root roots (product_rule op) targets (w ∷ owed) new_slots new_firsts more sources done

-- both pairs on the sides of a slot's pair are answered, and the slot gets its source
pub slot_joined : (op : Bin) (n root : ℕ) (roots : Tuple) (targets : Targets) (old mid new : List Rec)
    (old_firsts mid_firsts new_firsts : List Rec) (count first second : ℕ) (sources made : List Rec)
    (done place low high : ℕ) (lows highs : Tuple)
    → n ≤ 65535 → IsRule n (product_rule op) targets → place < count
    → lows ≡ slot_side targets old place false → highs ≡ slot_side targets old place true
    → KeepsSlots count first old mid → KeepsSlots first second mid new
    → IsAnswered op lows low old old_firsts count mid mid_firsts first
    → IsAnswered op highs high mid mid_firsts first new new_firsts second
    → IsAnswer (product_goal op lows) mid first low → IsAnswer (product_goal op highs) new second high
    → IsPut (id_at old place) low high sources made done
    → IsJoining n root roots (product_rule op) targets [] old old_firsts count sources done
    → IsJoining n root roots (product_rule op) targets [] new new_firsts second made (done + 1)
slot_joined op n root roots targets old mid new old_firsts mid_firsts new_firsts count first second sources made
    done place low high lows highs top rule below lows_are highs_are kept more low_answered high_answered low_is
    high_is put joining =
    let asked = product_rule op in
    let are = joining.slots_are in
    let level = level_of (id_at old place) in
    let above : level < n = are.low place below in
    let on : (side : Bool) → IsAsked n asked (suc level) (slot_side targets old place side) = λ side.
    side_asked op n count place targets old old_firsts side top below rule are in
    let with_low : IsJoining n root roots asked targets (low ∷ []) mid mid_firsts first sources done =
    low_answered n root (suc level) roots targets [] sources done (omega (arith, above)) rule
    (subst (IsAsked n asked (suc level)) (sym lows_are) (on false)) joining in
    let with_both : IsJoining n root roots asked targets (high ∷ low ∷ []) new new_firsts second sources done =
    high_answered n root (suc level) roots targets (low ∷ []) sources done (omega (arith, above)) rule
    (subst (IsAsked n asked (suc level)) (sym highs_are) (on true)) with_low in
    let used : place < second = omega (arith, below, kept.later, more.later) in
    source_more op n root roots targets new new_firsts second place sources made done (id_at old place) low high put
    used
    (is_source op n count first second place targets old mid new old_firsts (record_at made done) top below are kept
    more put.source_is
    (subst (λ w. IsAnswer (product_goal op (slot_side targets old place false)) mid first w) (sym put.low_is)
    (subst (λ x. IsAnswer (product_goal op x) mid first low) lows_are low_is))
    (subst (λ w. IsAnswer (product_goal op (slot_side targets old place true)) new second w) (sym put.high_is)
    (subst (λ x. IsAnswer (product_goal op x) new second high) highs_are high_is)))
    with_both
