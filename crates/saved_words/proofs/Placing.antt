-- What is put behind what was put, and what is got behind what was got.
use Rattle.std.specs.Prelude.{◌≡◌, ◌≢◌, ℕ, ◌+◌, List, [], ◌∷◌, ◌++◌, length, take, drop, replicate, Option, Some, None}
use Rattle.std.specs.Prelude.{IfNone, Bool, IsTrue, ◌↔◌, false}
use Rattle.std.proofs.Common.{refl, sym, ap, ◌∙◌, arith}
use Rattle.std.proofs.lemmas.List.{take-take, take_at, drop_at, drop-take, drop-drop, take-append-drop}
use Rattle.std.proofs.lemmas.List.{length-replicate, replicate-append-replicate}
use Rattle.std.proofs.lemmas.Bool.{true≢false}
use Rattle.saved_words.specs.Places.{put_in, next_words, moved, pushed}
use Rattle.saved_words.specs.declared.words.Words.{Words}

-- words put behind words
pub put_in-append : (xs ys : List ℕ) (o : Words) → put_in (xs ++ ys) o ≡ put_in ys (put_in xs o)
put_in-append [] ys o = refl
put_in-append (x ∷ xs) ys o = put_in-append xs ys (pushed x o)

-- zeros put behind zeros
pub put_in-replicate : (n m : ℕ) (o : Words)
    → put_in (replicate (n + m) 0) o ≡ put_in (replicate m 0) (put_in (replicate n 0) o)
put_in-replicate n m o = ap (λ xs. put_in xs o) (sym (replicate-append-replicate n m 0))
    ∙ put_in-append (replicate n 0) (replicate m 0) o

-- the first n of the next words
pub first_words : (n m : ℕ) (o : Words) → take n (next_words (n + m) o) ≡ next_words n o
first_words n m o = take-take n (n + m) (drop o.at o.w) (omega arith)

-- the m behind them
pub later_words : (n m : ℕ) (o : Words) → drop n (next_words (n + m) o) ≡ next_words m (moved n o)
later_words n m o = drop-take n m (drop o.at o.w) ∙ ap (take m) (drop-drop n o.at o.w)

-- the next words are these two
pub next_more : (n m : ℕ) (o : Words) → next_words (n + m) o ≡ next_words n o ++ next_words m (moved n o)
next_more n m o = sym (take-append-drop n (next_words (n + m) o)) ∙ (λ i. first_words n m o i ++ later_words n m o i)

-- where words of that length stand, so do those behind them
pub split_words : (xs ys : List ℕ) (n m : ℕ) (o : Words) → length xs ≡ n → xs ++ ys ≡ next_words (n + m) o
    → (xs ≡ next_words n o) × (ys ≡ next_words m (moved n o))
split_words xs ys n m o long same = (
  sym (take_at xs ys n long) ∙ ap (take n) same ∙ first_words n m o,
  sym (drop_at xs ys n long) ∙ ap (drop n) same ∙ later_words n m o,
)

-- zeros and zeros behind them stand there
pub next_zeros : (n m : ℕ) (o : Words) → next_words n o ≡ replicate n 0 → next_words m (moved n o) ≡ replicate m 0
    → next_words (n + m) o ≡ replicate (n + m) 0
next_zeros n m o front rest = next_more n m o ∙ (λ i. front i ++ rest i) ∙ replicate-append-replicate n m 0

-- where zeros stand, so do fewer, and the zeros behind them
pub split_zeros : (n m : ℕ) (o : Words) → next_words (n + m) o ≡ replicate (n + m) 0
    → (next_words n o ≡ replicate n 0) × (next_words m (moved n o) ≡ replicate m 0)
split_zeros n m o zeros =
    let halves = split_words (replicate n 0) (replicate m 0) n m o (length-replicate n 0)
    (replicate-append-replicate n m 0 ∙ sym zeros) in
    (sym halves.0, sym halves.1)

-- behind zeros, those that follow tell whether all are
pub zeros_behind : (n m : ℕ) (o p : Words) (second : Bool) → next_words n o ≡ replicate n 0 → p ≡ moved n o
    → IsTrue second ↔ (next_words m p ≡ replicate m 0) → IsTrue second ↔ (next_words (n + m) o ≡ replicate (n + m) 0)
zeros_behind n m o p second front after rest = (
  λ yes. next_zeros n m o front (ap (next_words m) (sym after) ∙ rest.0 yes),
  λ zeros. rest.1 (ap (next_words m) after ∙ (split_zeros n m o zeros).1),
)

-- where the first ones aren't zeros, not all are
pub zeros_missing : (n m : ℕ) (o : Words) (first : Bool) → first ≡ false
    → IsTrue first ↔ (next_words n o ≡ replicate n 0)
    → IsTrue first ↔ (next_words (n + m) o ≡ replicate (n + m) 0)
zeros_missing n m o first other front =
    (λ yes. absurd (true≢false (sym yes ∙ other)), λ zeros. front.1 (split_zeros n m o zeros).0)

-- where no such words stand behind words of that length, neither do both
pub no_later : (xs ys : List ℕ) (n m : ℕ) (o p : Words) → length xs ≡ n → p ≡ moved n o → ys ≢ next_words m p
    → xs ++ ys ≢ next_words (n + m) o
no_later xs ys n m o p long after other same =
    other ((split_words xs ys n m o long same).1 ∙ ap (next_words m) (sym after))

-- words that stand behind words stand there with them
pub next_both : (xs ys : List ℕ) (n m : ℕ) (o p : Words) → xs ≡ next_words n o → p ≡ moved n o → ys ≡ next_words m p
    → xs ++ ys ≡ next_words (n + m) o
next_both xs ys n m o p front after rest = (λ i. front i ++ (rest ∙ ap (next_words m) after) i) ∙ sym (next_more n m o)

-- what holds is what a clause says where there is no value
pub if_none : {X : Type 0} {P : Type 0} (o : Option X) → P → IfNone o P
if_none None is = is
if_none (Some x) is = tt
