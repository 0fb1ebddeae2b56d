-- Words and records: one more of them, and how long their bytes are.
use Rattle.std.proofs.Common.{◌≡◌, ℕ, zero, suc, ◌+◌, ◌-◌, ◌*◌, ◌<◌, ◌≤◌, List, [], ◌∷◌, ◌++◌, length, take, drop, replicate, set, get_or, refl, sym, ap, ◌∙◌, arith}
use Rattle.std.specs.List.{flat_map}
use Rattle.std.specs.Int.{w64, to_be_bytes, from_be_bytes}
use Rattle.std.proofs.Math.Nat.{mul-le-mul_right}
use Rattle.std.proofs.lemmas.List.{append_assoc, drop-drop, set_at, length-drop, length-take-le, take-append-le, drop-append-le}
use Rattle.rec_words.specs.declared.rec.Rec.{Rec}
use Rattle.block_stream.specs.Records.{words_of, record_of, records_of, record_bytes}

pub length-words_of : (k : ℕ) (bytes : List ℕ) → length (words_of k bytes) ≡ k
length-words_of zero bytes = refl
length-words_of (suc k) bytes = ap suc (length-words_of k (drop 8 bytes))

pub length-records_of : (k n : ℕ) (bytes : List ℕ) → length (records_of k n bytes) ≡ n
length-records_of k zero bytes = refl
length-records_of k (suc n) bytes = ap suc (length-records_of k n (drop (8 * k) bytes))

-- one word more
words_suc : (k : ℕ) (bytes : List ℕ) → words_of (suc k) bytes ≡ words_of k bytes ++ (from_be_bytes w64 (take 8 (drop (8 * k) bytes)) ∷ [])
words_suc zero bytes = refl
words_suc (suc k) bytes =
    let far : 8 * suc k ≡ 8 + 8 * k = omega arith in
    let behind : drop (8 * k) (drop 8 bytes) ≡ drop (8 * suc k) bytes = drop-drop (8 * k) 8 bytes ∙ ap (λ m. drop m bytes) (sym far) in
    ap (λ ws. from_be_bytes w64 (take 8 bytes) ∷ ws) (words_suc k (drop 8 bytes))
    ∙ ap (λ rest. from_be_bytes w64 (take 8 bytes) ∷ (words_of k (drop 8 bytes) ++ (from_be_bytes w64 (take 8 rest) ∷ []))) behind

zeros : (k : ℕ) → k < 8 → replicate {A = ℕ} (8 - k) 0 ≡ 0 ∷ replicate (8 - suc k) 0
zeros k below = let more : 8 - k ≡ suc (8 - suc k) = omega arith in ap (λ n. replicate n 0) more

-- the record whose next word is set
pub set_word : (k : ℕ) (bytes : List ℕ) → k < 8
    → set (words_of k bytes ++ replicate (8 - k) 0) k (from_be_bytes w64 (take 8 (drop (8 * k) bytes))) ≡ words_of (k + 1) bytes ++ replicate (8 - (k + 1)) 0
set_word k bytes below =
    let word : ℕ = from_be_bytes w64 (take 8 (drop (8 * k) bytes)) in
    let next : k + 1 ≡ suc k = omega arith in
    ap (λ zs. set (words_of k bytes ++ zs) k word) (zeros k below)
    ∙ set_at (words_of k bytes) 0 (replicate (8 - suc k) 0) word k (length-words_of k bytes)
    ∙ sym (append_assoc (words_of k bytes) (word ∷ []) (replicate (8 - suc k) 0))
    ∙ ap (λ ws. ws ++ replicate (8 - suc k) 0) (sym (words_suc k bytes))
    ∙ ap (λ m. words_of m bytes ++ replicate (8 - m) 0) (sym next)

-- one record more
records_suc : (k n : ℕ) (bytes : List ℕ) → records_of k (suc n) bytes ≡ records_of k n bytes ++ (record_of k (drop (n * (8 * k)) bytes) ∷ [])
records_suc k zero bytes = let none : 0 * (8 * k) ≡ 0 = omega arith in ap (λ m. record_of k (drop m bytes) ∷ []) (sym none)
records_suc k (suc n) bytes =
    let far : suc n * (8 * k) ≡ 8 * k + n * (8 * k) = omega arith in
    let behind : drop (n * (8 * k)) (drop (8 * k) bytes) ≡ drop (suc n * (8 * k)) bytes =
    drop-drop (n * (8 * k)) (8 * k) bytes ∙ ap (λ m. drop m bytes) (sym far) in
    ap (λ rs. record_of k bytes ∷ rs) (records_suc k n (drop (8 * k) bytes))
    ∙ ap (λ rest. record_of k bytes ∷ (records_of k n (drop (8 * k) bytes) ++ (record_of k rest ∷ []))) behind

pub records_more : (k n : ℕ) (bytes : List ℕ) → records_of k (n + 1) bytes ≡ records_of k n bytes ++ (record_of k (drop (n * (8 * k)) bytes) ∷ [])
records_more k n bytes = let next : n + 1 ≡ suc n = omega arith in ap (λ m. records_of k m bytes) next ∙ records_suc k n bytes

-- words have eight bytes each
pub length-word_bytes : (xs : List ℕ) → length (flat_map (to_be_bytes w64) xs) ≡ 8 * length xs
length-word_bytes [] = refl
length-word_bytes (x ∷ xs) = omega (arith, length-word_bytes xs)

-- a record's first k words have eight bytes each
pub length-record_bytes : (k : ℕ) (r : Rec) → k ≤ length r.w → length (record_bytes k r) ≡ 8 * k
length-record_bytes k r long = length-word_bytes (take k r.w) ∙ ap (λ m. 8 * m) (length-take-le k r.w long)

-- what stands behind the bytes doesn't matter
words_append : (k : ℕ) (xs ys : List ℕ) → 8 * k ≤ length xs → words_of k (xs ++ ys) ≡ words_of k xs
words_append zero xs ys long = refl
words_append (suc k) xs ys long =
    let eight : 8 ≤ length xs = omega arith in
    let rest : 8 * k ≤ length (drop 8 xs) = omega (arith, length-drop 8 xs) in
    (λ i. from_be_bytes w64 (take-append-le 8 xs ys eight i) ∷ words_of k (drop-append-le 8 xs ys eight i))
    ∙ ap (λ ws. from_be_bytes w64 (take 8 xs) ∷ ws) (words_append k (drop 8 xs) ys rest)

pub record_append : (k : ℕ) (xs ys : List ℕ) → 8 * k ≤ length xs → record_of k (xs ++ ys) ≡ record_of k xs
record_append k xs ys long = ap (λ (ws : List ℕ). let r : Rec = record { w = ws ++ replicate (8 - k) 0 } in r) (words_append k xs ys long)

pub records_append : (k n : ℕ) (xs ys : List ℕ) → n * (8 * k) ≤ length xs → records_of k n (xs ++ ys) ≡ records_of k n xs
records_append k zero xs ys long = refl
records_append k (suc n) xs ys long =
    let first : 8 * k ≤ length xs = omega arith in
    let rest : n * (8 * k) ≤ length (drop (8 * k) xs) = omega (arith, length-drop (8 * k) xs) in
    (λ i. record_append k xs ys first i ∷ records_of k n (drop-append-le (8 * k) xs ys first i))
    ∙ ap (λ rs. record_of k xs ∷ rs) (records_append k n (drop (8 * k) xs) ys rest)

-- fewer of the records
pub take-records_of : (k m n : ℕ) (bytes : List ℕ) → m ≤ n → take m (records_of k n bytes) ≡ records_of k m bytes
take-records_of k zero n bytes below = refl
take-records_of k (suc m) zero bytes below = absurd (omega arith)
take-records_of k (suc m) (suc n) bytes below = ap (λ rs. record_of k bytes ∷ rs) (take-records_of k m n (drop (8 * k) bytes) (omega arith))

-- one of the records
pub nth_record : (k n i : ℕ) (bytes : List ℕ) (d : Rec) → i < n → get_or (records_of k n bytes) i d ≡ record_of k (drop (i * (8 * k)) bytes)
nth_record k zero i bytes d below = absurd (omega arith)
nth_record k (suc n) zero bytes d below = let none : 0 * (8 * k) ≡ 0 = omega arith in ap (λ m. record_of k (drop m bytes)) (sym none)
nth_record k (suc n) (suc i) bytes d below =
    let far : suc i * (8 * k) ≡ 8 * k + i * (8 * k) = omega arith in
    nth_record k n i (drop (8 * k) bytes) d (omega arith)
    ∙ ap (record_of k) (drop-drop (i * (8 * k)) (8 * k) bytes ∙ ap (λ m. drop m bytes) (sym far))

-- a product grows with its factor
pub scaled : (a b w : ℕ) → a ≤ b → a * w ≤ b * w
scaled a b w le = mul-le-mul_right w le
