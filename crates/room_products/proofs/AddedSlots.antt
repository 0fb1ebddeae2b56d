-- What is known of packed slots while one more is put behind them.
use Rattle.std.specs.Prelude.{◌≡◌, ◌≢◌, ℕ, ◌+◌, ◌*◌, ◌/◌, ◌^◌, ◌<◌, ◌≤◌, min, List, length}
use Rattle.std.proofs.Common.{◌∙◌, sym, ap, subst, inl, inr, arith}
use Rattle.std.proofs.lemmas.Bool.{cases_lt}
use Rattle.std.proofs.lemmas.Bool.Decides.{eqb_tells}
use Rattle.rec_words.specs.Words.{level_numbers, node_word, level_of}
use Rattle.rec_words.specs.declared.rec.Rec.{Rec}
use Rattle.run_files.specs.Items.{record_at}
use Rattle.packed_records.specs.Numbers.{number_in}
use Rattle.packed_records.specs.Packed.{packed}
use Rattle.packed_records.proofs.PackedLaws.{length-packed, packed_same_at, packed_same_word}
use Rattle.top_down.specs.declared.tuple.Tuple.{Tuple}
use Rattle.top_down.specs.Operations.{two}
use Rattle.top_down.specs.Tuples.{level_of_tuple}
use Rattle.top_down.specs.Rules.{Rule, IsAsked}
use Rattle.room_reduction.specs.Records.{word}
use Rattle.room_products.specs.Slots.{pair_at, id_at, used_at, AreSlots, KeepsSlots}

-- where the number in the last column of a slot is written, the other words stay
pub words_linked : (old new : List Rec) (place : ℕ) → length new ≡ length old → place < 4 * length old
    → ((c : ℕ) → c < 4 → c ≢ 3 → number_in new place c ≡ number_in old place c)
    → ((k c : ℕ) → c < 4 → k ≢ place → number_in new k c ≡ number_in old k c)
    → (k c : ℕ) → c < 3 → word c (record_at (packed new) k) ≡ word c (record_at (packed old) k)
words_linked old new place long within columns others k c front = elim (eqb_tells k place) [
  | inl same ↦
      subst (λ p. word c (record_at (packed new) p) ≡ word c (record_at (packed old) p)) (sym same.1)
      (packed_same_word old new place c long within (λ few. columns c few (λ e. absurd (omega (arith, front, e)))))
  | inr other ↦ ap (word c) (packed_same_at old new k long (λ d few. others k d few other.1))
]

-- where a slot is put behind others, and then no pair and no identifier changes, those are kept
pub slots_added : (old mid new : List Rec) (count : ℕ) → length mid ≡ length old → length new ≡ length mid
    → ((k : ℕ) → k ≢ count → record_at (packed mid) k ≡ record_at (packed old) k)
    → ((k : ℕ) → pair_at (packed new) k ≡ pair_at (packed mid) k)
    → ((k : ℕ) → id_at (packed new) k ≡ id_at (packed mid) k)
    → KeepsSlots count (count + 1) (packed old) (packed new)
slots_added old mid new count long still others pairs ids = record {
  many = omega (arith, long, still, length-packed old, length-packed new);
  later = omega arith;
  pairs = λ k below. pairs k ∙ ap (λ r. two (word 0 r) (word 1 r)) (stays k below);
  ids = λ k below. ids k ∙ ap (word 2) (stays k below);
}
  where
    stays : (k : ℕ) → k < count → record_at (packed mid) k ≡ record_at (packed old) k
    stays k below = others k (λ e. absurd (omega (arith, below, e)))

-- the level of a pair of which one is a node's
pub level_of_two : (a b : ℕ) → min a b / level_numbers ≤ 65534 → min a b / level_numbers ≡ level_of_tuple (two a b)
level_of_two a b low = omega (arith, low)

-- a slot with the next identifier of its level is put behind others
module _ (n : ℕ) (rule : Rule) (old new firsts later : List Rec) (count level : ℕ) (pair : Tuple)
    (kept : KeepsSlots count (count + 1) old new) (pair_is : pair_at new count ≡ pair)
    (id_is : id_at new count ≡ node_word level (used_at firsts level)) (level_is : level ≡ level_of_tuple pair)
    (few : used_at firsts level < 2 ^ 17) (used : used_at later level ≡ used_at firsts level + 1)
    (others : (i : ℕ) → i ≢ level → used_at later i ≡ used_at firsts i) where
  -- no fewer identifiers are used
  used_more : (i : ℕ) → used_at firsts i ≤ used_at later i
  used_more i = elim (eqb_tells i level) [
    | inl same ↦ subst (λ l. used_at firsts l ≤ used_at later l) (sym same.1) (omega (arith, used))
    | inr other ↦ let stays = others i other.1 in omega (arith, stays)
  ]

  -- its level is that of the identifier
  id_level : level_of (id_at new count) ≡ level
  id_level = omega (arith, id_is, few)

  -- what is known of a slot with this identifier and this pair
  abbrev IsSlot : List Rec → ℕ → Tuple → Type 0
  IsSlot known w x = IsAsked n rule (level_of w) x × (level_of w ≡ level_of_tuple x) × (level_of w < n)
      × (w < node_word (level_of w) (used_at known (level_of w)))

  still_slot : (w : ℕ) (x : Tuple) → IsSlot firsts w x → IsSlot later w x
  still_slot w x (asked, is, low, number) =
      let more = used_more (level_of w) in (asked, is, low, omega (arith, number, more))

  own_slot : IsAsked n rule (level_of_tuple pair) pair → level_of_tuple pair < n
      → IsSlot later (id_at new count) (pair_at new count)
  own_slot asked low =
      let at : level_of (id_at new count) ≡ level_of_tuple pair = id_level ∙ level_is in
      let last : used_at later (level_of (id_at new count)) ≡ used_at firsts level + 1 =
      ap (used_at later) id_level ∙ used in (
        subst (λ v. v) (λ j. IsAsked n rule (sym at j) (sym pair_is j)) asked,
        at ∙ ap level_of_tuple (sym pair_is),
        omega (arith, at, low),
        omega (arith, last, id_is, id_level),
      )

  each_slot : IsAsked n rule (level_of_tuple pair) pair → level_of_tuple pair < n → AreSlots n rule old firsts count
      → (k : ℕ) → k < count + 1 → IsSlot later (id_at new k) (pair_at new k)
  each_slot asked low are k below = elim (cases_lt k count) [
    | inl before ↦
        subst (λ v. v) (λ j. IsSlot later (sym (kept.ids k before) j) (sym (kept.pairs k before) j))
        (still_slot (id_at old k) (pair_at old k)
        (are.asked k before, are.levels k before, are.low k before, are.numbers k before))
    | inr behind ↦
        let last : count ≡ k = omega (arith, below, behind) in
        subst (λ i. IsSlot later (id_at new i) (pair_at new i)) last (own_slot asked low)
  ]

  -- the identifier is a new one
  is_new : AreSlots n rule old firsts count → (k : ℕ) → k < count → id_at new k ≢ id_at new count
  is_new are k before same =
      let is : id_at old k ≡ id_at new count = sym (kept.ids k before) ∙ same in
      let number : id_at old k < node_word level (used_at firsts level) =
      subst (λ l. id_at old k < node_word l (used_at firsts l)) (ap level_of is ∙ id_level) (are.numbers k before) in
      absurd (omega (arith, number, is, id_is))

  one_place : AreSlots n rule old firsts count → (j k : ℕ) → j < count + 1 → k < count + 1
      → id_at new j ≡ id_at new k → j ≡ k
  one_place are j k first second same = elim (cases_lt j count) [
    | inl before ↦ elim (cases_lt k count) [
      | inl also ↦ are.differ j k before also (sym (kept.ids j before) ∙ same ∙ kept.ids k also)
      | inr behind ↦
          let last : k ≡ count = omega (arith, second, behind) in
          absurd (is_new are j before (same ∙ ap (id_at new) last))
    ]
    | inr behind ↦ elim (cases_lt k count) [
      | inl before ↦
          let last : j ≡ count = omega (arith, first, behind) in
          absurd (is_new are k before (sym same ∙ ap (id_at new) last))
      | inr also ↦ omega (arith, first, second, behind, also)
    ]
  ]

  pub more_slots : count < length old → IsAsked n rule (level_of_tuple pair) pair → level_of_tuple pair < n
      → AreSlots n rule old firsts count → AreSlots n rule new later (count + 1)
  more_slots room asked low are =
      let each = each_slot asked low are in
      let many = kept.many in
      record {
        within = omega (arith, room, many);
        asked = λ k below. (each k below).0;
        levels = λ k below. (each k below).1;
        low = λ k below. (each k below).2;
        numbers = λ k below. (each k below).3;
        differ = one_place are;
      }
