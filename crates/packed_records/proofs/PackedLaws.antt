-- What stands at a place of the packed records of a room.
use Rattle.std.proofs.Common.{◌≡◌, ℕ, zero, suc, ◌*◌, ◌/◌, ◌%◌, ◌<◌, ◌≤◌, List, [], ◌∷◌, length, slice_index}
use Rattle.std.proofs.Common.{refl, ap, ap₂, sym, ◌∙◌, inl, inr, arith}
use Rattle.std.proofs.lemmas.List.{get_or_past, ext_get_or}
use Rattle.std.proofs.lemmas.Bool.{cases_lt}
use Rattle.rec_words.specs.declared.rec.Rec.{Rec}
use Rattle.run_files.specs.Items.{record_at}
use Rattle.packed_records.specs.Numbers.{widened, in_quarter, number_in}
use Rattle.packed_records.specs.Packed.{quarter_of, packed}

pub length-packed : (room : List Rec) → length (packed room) ≡ 4 * length room
length-packed [] = refl
length-packed (r ∷ rs) = omega (arith, length-packed rs)

-- a packed record is a quarter of a record of the room
pub packed_at : (room : List Rec) (k : ℕ) → k < 4 * length room
    → record_at (packed room) k ≡ quarter_of (record_at room (k / 4)) (k % 4)
packed_at [] k within = absurd (omega (arith, within))
packed_at (r ∷ rs) zero within = refl
packed_at (r ∷ rs) (suc zero) within = refl
packed_at (r ∷ rs) (suc (suc zero)) within = refl
packed_at (r ∷ rs) (suc (suc (suc zero))) within = refl
packed_at (r ∷ rs) (suc (suc (suc (suc k)))) within =
    let next : suc (suc (suc (suc k))) / 4 ≡ suc (k / 4) = omega arith in
    let same : suc (suc (suc (suc k))) % 4 ≡ k % 4 = omega arith in
    packed_at rs k (omega (arith, within)) ∙ sym (ap₂ (λ (i q : ℕ). quarter_of (record_at (r ∷ rs) i) q) next same)

-- behind the room there is none
pub packed_beyond : (room : List Rec) (k : ℕ) → 4 * length room ≤ k → record_at (packed room) k ≡ record { w = [] }
packed_beyond room k past = get_or_past (packed room) k _ (omega (arith, length-packed room, past))

-- each word of a quarter stands there as a number
pub word_of_quarter : (r : Rec) (q c : ℕ) → c < 4 → slice_index (quarter_of r q).w c ≡ widened (in_quarter r q c)
word_of_quarter r q zero few = refl
word_of_quarter r q (suc zero) few = refl
word_of_quarter r q (suc (suc zero)) few = refl
word_of_quarter r q (suc (suc (suc zero))) few = refl
word_of_quarter r q (suc (suc (suc (suc c)))) few = absurd (omega (arith, few))

-- the other words of a quarter are zero
pub rest_of_quarter : (r : Rec) (q c : ℕ) → 4 ≤ c → slice_index (quarter_of r q).w c ≡ 0
rest_of_quarter r q zero past = absurd (omega (arith, past))
rest_of_quarter r q (suc zero) past = absurd (omega (arith, past))
rest_of_quarter r q (suc (suc zero)) past = absurd (omega (arith, past))
rest_of_quarter r q (suc (suc (suc zero))) past = absurd (omega (arith, past))
rest_of_quarter r q (suc (suc (suc (suc zero)))) past = refl
rest_of_quarter r q (suc (suc (suc (suc (suc zero))))) past = refl
rest_of_quarter r q (suc (suc (suc (suc (suc (suc zero)))))) past = refl
rest_of_quarter r q (suc (suc (suc (suc (suc (suc (suc zero))))))) past = refl
rest_of_quarter r q (suc (suc (suc (suc (suc (suc (suc (suc c)))))))) past = refl

-- quarters with the same numbers are the same
pub same_quarter : (r s : Rec) (p q : ℕ) → ((c : ℕ) → c < 4 → in_quarter r p c ≡ in_quarter s q c)
    → quarter_of r p ≡ quarter_of s q
same_quarter r s p q same =
    let first : widened (in_quarter r p 0) ≡ widened (in_quarter s q 0) = ap widened (same 0 (omega arith)) in
    let second : widened (in_quarter r p 1) ≡ widened (in_quarter s q 1) = ap widened (same 1 (omega arith)) in
    let third : widened (in_quarter r p 2) ≡ widened (in_quarter s q 2) = ap widened (same 2 (omega arith)) in
    let fourth : widened (in_quarter r p 3) ≡ widened (in_quarter s q 3) = ap widened (same 3 (omega arith)) in
    λ i. record { w = first i ∷ second i ∷ third i ∷ fourth i ∷ 0 ∷ 0 ∷ 0 ∷ 0 ∷ [] }

-- a quarter is made of its first four words
pub quarter_is : (r : Rec) (q : ℕ) (words : List ℕ)
    → ((c : ℕ) → c < 4 → slice_index (quarter_of r q).w c ≡ slice_index words c)
    → quarter_of r q ≡ record {
      w = slice_index words 0 ∷ slice_index words 1 ∷ slice_index words 2
          ∷ slice_index words 3 ∷ 0 ∷ 0 ∷ 0 ∷ 0 ∷ [];
    }
quarter_is r q words are =
    let first : widened (in_quarter r q 0) ≡ slice_index words 0 = are 0 (omega arith) in
    let second : widened (in_quarter r q 1) ≡ slice_index words 1 = are 1 (omega arith) in
    let third : widened (in_quarter r q 2) ≡ slice_index words 2 = are 2 (omega arith) in
    let fourth : widened (in_quarter r q 3) ≡ slice_index words 3 = are 3 (omega arith) in
    λ i. record { w = first i ∷ second i ∷ third i ∷ fourth i ∷ 0 ∷ 0 ∷ 0 ∷ 0 ∷ [] }

-- the words of a packed record
pub word_packed : (room : List Rec) (k c : ℕ) → k < 4 * length room → c < 4
    → slice_index (record_at (packed room) k).w c ≡ widened (number_in room k c)
word_packed room k c within few =
    ap (λ (r : Rec). slice_index r.w c) (packed_at room k within)
    ∙ word_of_quarter (record_at room (k / 4)) (k % 4) c few

-- its other words are zero
pub rest_packed : (room : List Rec) (k c : ℕ) → k < 4 * length room → 4 ≤ c
    → slice_index (record_at (packed room) k).w c ≡ 0
rest_packed room k c within past =
    ap (λ (r : Rec). slice_index r.w c) (packed_at room k within)
    ∙ rest_of_quarter (record_at room (k / 4)) (k % 4) c past

-- a packed record is made of its first four words
pub record_packed : (room : List Rec) (k : ℕ) (words : List ℕ) → k < 4 * length room
    → ((c : ℕ) → c < 4 → slice_index (record_at (packed room) k).w c ≡ slice_index words c)
    → record_at (packed room) k ≡ record {
      w = slice_index words 0 ∷ slice_index words 1 ∷ slice_index words 2
          ∷ slice_index words 3 ∷ 0 ∷ 0 ∷ 0 ∷ 0 ∷ [];
    }
record_packed room k words within are =
    let at = packed_at room k within in
    at ∙ quarter_is (record_at room (k / 4)) (k % 4) words
    (λ c few. sym (ap (λ (r : Rec). slice_index r.w c) at) ∙ are c few)

-- where the numbers stay, so does the packed record, whether or not there is one
pub packed_same_at : (old new : List Rec) (k : ℕ) → length new ≡ length old
    → ((c : ℕ) → c < 4 → number_in new k c ≡ number_in old k c) → record_at (packed new) k ≡ record_at (packed old) k
packed_same_at old new k long same = elim (cases_lt k (4 * length old)) [
  | inl within ↦
      packed_at new k (omega (arith, within, long))
      ∙ same_quarter (record_at new (k / 4)) (record_at old (k / 4)) (k % 4) (k % 4) same
      ∙ sym (packed_at old k within)
  | inr past ↦ packed_beyond new k (omega (arith, past, long)) ∙ sym (packed_beyond old k past)
]

-- where all numbers stay, so do the packed records
pub packed_same : (old new : List Rec) → length new ≡ length old
    → ((k c : ℕ) → c < 4 → number_in new k c ≡ number_in old k c) → packed new ≡ packed old
packed_same old new long same =
    let as_many : length (packed new) ≡ length (packed old) =
    omega (arith, length-packed new, length-packed old, long) in
    ext_get_or (record { w = [] }) (packed new) (packed old) as_many
    (λ k within. packed_same_at old new k long (same k))

-- where the number of a column stays, so does the word there
pub packed_same_word : (old new : List Rec) (k c : ℕ) → length new ≡ length old → k < 4 * length old
    → (c < 4 → number_in new k c ≡ number_in old k c)
    → slice_index (record_at (packed new) k).w c ≡ slice_index (record_at (packed old) k).w c
packed_same_word old new k c long within same =
    let within_new : k < 4 * length new = omega (arith, within, long) in
    elim (cases_lt c 4) [
      | inl few ↦
          word_packed new k c within_new few ∙ ap widened (same few) ∙ sym (word_packed old k c within few)
      | inr past ↦ rest_packed new k c within_new past ∙ sym (rest_packed old k c within past)
    ]

-- what holds of each of four columns
pub by_column : (P : ℕ → Type 0) → P 0 → P 1 → P 2 → P 3 → (c : ℕ) → c < 4 → P c
by_column P first second third fourth zero few = first
by_column P first second third fourth (suc zero) few = second
by_column P first second third fourth (suc (suc zero)) few = third
by_column P first second third fourth (suc (suc (suc zero))) few = fourth
by_column P first second third fourth (suc (suc (suc (suc c)))) few = absurd (omega (arith, few))
