-- A record that is gathered from the next words, and zeros behind them.
use Rattle.std.specs.Prelude.{◌≡◌, ℕ, suc, ◌+◌, ◌-◌, ◌<◌, ◌≤◌, List, [], ◌∷◌, ◌++◌, length, take, drop, replicate}
use Rattle.std.specs.Prelude.{slice_set, Bool}
use Rattle.std.specs.Bool.{Decides}
use Rattle.std.proofs.Common.{refl, sym, ap, ◌∙◌, arith}
use Rattle.std.proofs.lemmas.List.{length-append, length-take, set_at, append_assoc, replicate-append-replicate}
use Rattle.std.proofs.lemmas.List.{take_at, take-replicate}
use Rattle.std.proofs.lemmas.Bool.Decides.{Decides-like}
use Rattle.saved_words.specs.Places.{next_words, moved}
use Rattle.saved_words.specs.declared.words.Words.{Words}
use Rattle.saved_words.proofs.Placing.{next_both}

module _ (k : ℕ) (o p : Words) (after : p ≡ moved k o) where
  -- one more of the next words
  pub next_one : (word : ℕ) → word ∷ [] ≡ next_words 1 p → next_words (k + 1) o ≡ next_words k o ++ word ∷ []
  next_one word one = sym (next_both (next_words k o) (word ∷ []) k 1 o p refl after one)

  -- and one place on
  pub moved_on : (q : Words) → q ≡ moved 1 p → q ≡ moved (k + 1) o
  moved_on q next =
      let on : o.at + k + 1 ≡ o.at + (k + 1) = omega arith in
      next ∙ ap (moved 1) after ∙ (λ i. record { w = o.w; at = on i })

  -- so one more of them is there
  pub long_on : (word : ℕ) → word ∷ [] ≡ next_words 1 p → length (next_words k o) ≡ k
      → length (next_words (k + 1) o) ≡ k + 1
  long_on word one long =
      let all = ap length (next_one word one) ∙ length-append (next_words k o) (word ∷ []) in
      omega (arith, all, long)

  -- where no word follows, they end before the n-th
  pub ends_before : (n : ℕ) → k < n → next_words 1 p ≡ [] → length (next_words n o) < n
  ends_before n few none =
      let all : length (next_words (k + 1) o) ≡ length (next_words k o) =
      sym (ap length (next_both (next_words k o) [] k 1 o p refl after (sym none)))
      ∙ length-append (next_words k o) [] ∙ omega arith in
      let more = length-take (k + 1) (drop o.at o.w) in
      let front = length-take k (drop o.at o.w) in
      let whole = length-take n (drop o.at o.w) in
      omega (arith, all, more, front, whole, few)

-- the k-th word set, and zeros behind it
pub set_next : (ws xs : List ℕ) (k word : ℕ) → k < 8 → length xs ≡ k → ws ≡ xs ++ replicate (8 - k) 0
    → slice_set ws k word ≡ (xs ++ word ∷ []) ++ replicate (8 - (k + 1)) 0
set_next ws xs k word few long is =
    let more : 8 - k ≡ suc (8 - (k + 1)) = omega arith in
    ap (λ l. slice_set l k word) (is ∙ ap (λ m. xs ++ replicate m 0) more)
    ∙ set_at xs 0 (replicate (8 - (k + 1)) 0) word k long
    ∙ sym (append_assoc xs (word ∷ []) (replicate (8 - (k + 1)) 0))

-- n words and zeros are eight zeros where the n words are zeros
pub all_zeros : (xs : List ℕ) (n : ℕ) → n ≤ 8 → xs ≡ replicate n 0 → xs ++ replicate (8 - n) 0 ≡ replicate 8 0
all_zeros xs n few zeros =
    let eight : n + (8 - n) ≡ 8 = omega arith in
    ap (λ l. l ++ replicate (8 - n) 0) zeros ∙ replicate-append-replicate n (8 - n) 0 ∙ ap (λ m. replicate m 0) eight

-- and they are zeros where all eight are
pub front_zeros : (xs : List ℕ) (n : ℕ) → n ≤ 8 → length xs ≡ n → xs ++ replicate (8 - n) 0 ≡ replicate 8 0
    → xs ≡ replicate n 0
front_zeros xs n few long zeros = sym (take_at xs (replicate (8 - n) 0) n long) ∙ ap (take n) zeros
    ∙ take-replicate n 8 0 few

-- so a test of the eight is one of the n
pub zeros_told : (told : Bool) (ws xs : List ℕ) (n : ℕ) → n ≤ 8 → length xs ≡ n → ws ≡ xs ++ replicate (8 - n) 0
    → Decides told (ws ≡ replicate 8 0) → Decides told (xs ≡ replicate n 0)
zeros_told told ws xs n few long is =
    Decides-like told (λ all. front_zeros xs n few long (sym is ∙ all)) (λ front. is ∙ all_zeros xs n few front)
