-- Words of a line from a place on.
use Rattle.std.proofs.Common.{◌≡◌, Option, Some, None, MatchOption, Bor, ℕ, zero, suc, ◌+◌, ◌-◌, ◌<◌, List, [], ◌∷◌, ◌++◌, length, take, drop, map, refl, sym, ap, ◌∙◌, arith, length-drop}
use Rattle.std.proofs.lemmas.List.{take_all, drop-drop}
use Rattle.blif_reader.specs.Parts.{Use, on_each}

-- the words behind the keyword
pub takes_rest : (words : List (List ℕ)) (n : ℕ) → length words ≡ n → take (n - 1) (drop 1 words) ≡ drop 1 words
takes_rest words n e = take_all (n - 1) (drop 1 words) (omega (arith, length-drop 1 words))

-- the last word of a line
pub takes_last : (words : List (List ℕ)) (n : ℕ) → 0 < n → length words ≡ n → take 1 (drop (n - 1) words) ≡ drop (length words - 1) words
takes_last words n some e = take_all 1 (drop (n - 1) words) (omega (arith, length-drop (n - 1) words)) ∙ ap (λ k. drop (k - 1) words) (sym e)

-- the words of uses on one line
pub words_on_each : (n : ℕ) (ws : List (List ℕ)) → map (λ (u : Use). u.word) (on_each n ws) ≡ ws
words_on_each n [] = refl
words_on_each n (w ∷ ws) = ap (λ vs. w ∷ vs) (words_on_each n ws)

-- the next word of a line, of which so many are left
pub takes_here : (r : Option (Bor (List ℕ))) (line left : ℕ) (ws vs : List (List ℕ)) (rest : List Use) → 0 < left → MatchOption r ((ws ≡ []) × (vs ≡ [])) (λ w. ws ≡ w.now ∷ vs)
    → MatchOption r ((on_each line (take left ws) ++ rest ≡ rest) × (on_each line (take (left - 1) vs) ++ rest ≡ rest)) (λ w. on_each line (take left ws) ++ rest ≡ record { line = line; word = w.now } ∷ (on_each line (take (left - 1) vs) ++ rest))
takes_here None line left ws vs rest some ends = (ap (λ us. on_each line us ++ rest) (ap (take left) ends.0 ∙ take_nil left), ap (λ us. on_each line us ++ rest) (ap (take (left - 1)) ends.1 ∙ take_nil (left - 1))) where
  take_nil : (n : ℕ) → ◌≡◌ {A = List (List ℕ)} (take n []) []
  take_nil n = take_all n [] (omega arith)
takes_here (Some w) line zero ws vs rest some one = absurd (omega (arith, some))
takes_here (Some w) line (suc k) ws vs rest some one = ap (λ us. on_each line (take (suc k) us) ++ rest) one ∙ ap (λ n. record { line = line; word = w.now } ∷ (on_each line (take n vs) ++ rest)) (omega arith)

-- one word more was passed
pub skips_one : (r : Option (Bor (List ℕ))) (k : ℕ) (ws vs all : List (List ℕ)) → ws ≡ drop k all → MatchOption r ((ws ≡ []) × (vs ≡ [])) (λ w. ws ≡ w.now ∷ vs) → vs ≡ drop (k + 1) all
skips_one r k ws vs all so_far one = by_answer r one ∙ ap (drop 1) so_far ∙ drop-drop 1 k all ∙ ap (λ n. drop n all) (omega arith) where
  by_answer : (r : Option (Bor (List ℕ))) → MatchOption r ((ws ≡ []) × (vs ≡ [])) (λ w. ws ≡ w.now ∷ vs) → vs ≡ drop 1 ws
  by_answer None ends = ends.1 ∙ sym (ap (drop 1) ends.0)
  by_answer (Some w) e = sym (ap (drop 1) e)
