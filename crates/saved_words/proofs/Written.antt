-- The words where others were put, and there is room for them.
use Rattle.std.specs.Prelude.{◌≡◌, ◌≢◌, ℕ, nat_lt, ◌+◌, ◌-◌, ◌≤◌, ◌<◌, Option, Some, None, IfSome, IfNone, List, []}
use Rattle.std.specs.Prelude.{◌∷◌}
use Rattle.std.specs.Prelude.{◌++◌, length, take, drop, slice_set, replicate}
use Rattle.std.proofs.Common.{sym, ap, ◌∙◌, arith}
use Rattle.std.proofs.lemmas.List.{take-append-drop, take_more_set, drop-set-lt, append_assoc, length-set}
use Rattle.std.proofs.lemmas.List.{length-take-le, take_at, drop_at, length-replicate, drop-replicate}
use Rattle.std.proofs.lemmas.Bool.{lt-ltb, cond-true}
use Rattle.saved_words.specs.Places.{most_words, put_in, pushed, next_words}
use Rattle.saved_words.specs.declared.words.Words.{Words}

-- with words written at the place, and the place behind them
abbrev pub written : List ℕ → Words → Words
written xs o = record { w = take o.at o.w ++ (xs ++ drop (o.at + length xs) o.w); at = o.at + length xs }

-- a word written where there is room
pushed_is : (x : ℕ) (o : Words) → o.at + 1 ≤ most_words
    → pushed x o ≡ record { w = slice_set o.w o.at x; at = o.at + 1 }
pushed_is x o room = cond-true (nat_lt o.at most_words) _ _ (lt-ltb o.at most_words (omega (arith, room)))

-- what is put is written
pub put_in_is : (xs : List ℕ) (o : Words) → length o.w ≡ most_words → o.at + length xs ≤ most_words
    → put_in xs o ≡ written xs o
put_in_is [] o all room =
    let on : o.at ≡ o.at + 0 = omega arith in
    λ i. record { w = (sym (take-append-drop o.at o.w) ∙ ap (λ n. take o.at o.w ++ drop n o.w) on) i; at = on i }
put_in_is (x ∷ xs) o all room =
    let one : o.at + 1 ≤ most_words = omega (arith, room) in
    let before : o.at < length o.w = omega (arith, room, all) in
    let ws = slice_set o.w o.at x in
    let next : Words = record { w = ws; at = o.at + 1 } in
    let on : o.at + 1 + length xs ≡ o.at + length (x ∷ xs) = omega arith in
    let front : take (o.at + 1) ws ≡ take o.at o.w ++ x ∷ [] = take_more_set o.w o.at x before in
    let rest : drop (o.at + 1 + length xs) ws ≡ drop (o.at + length (x ∷ xs)) o.w =
    drop-set-lt (o.at + 1 + length xs) o.w o.at x (omega arith) ∙ ap (λ n. drop n o.w) on in
    let words : take (o.at + 1) ws ++ (xs ++ drop (o.at + 1 + length xs) ws)
    ≡ take o.at o.w ++ (x ∷ xs ++ drop (o.at + length (x ∷ xs)) o.w) =
    (λ i. front i ++ (xs ++ rest i)) ∙ append_assoc (take o.at o.w) (x ∷ [])
    (xs ++ drop (o.at + length (x ∷ xs)) o.w) in
    ap (put_in xs) (pushed_is x o one) ∙ put_in_is xs next (length-set o.w o.at x ∙ all) (omega (arith, room))
    ∙ (λ i. record { w = words i; at = on i })

-- and stands there
pub stands : (xs : List ℕ) (o : Words) (n : ℕ) → length o.w ≡ most_words → o.at + n ≤ most_words → length xs ≡ n
    → (p : Words) → p.w ≡ (put_in xs o).w → p.at ≡ o.at → xs ≡ next_words n p
stands xs o n all room long p same place =
    let here : o.at + length xs ≤ most_words = omega (arith, room, long) in
    let words : p.w ≡ take o.at o.w ++ (xs ++ drop (o.at + length xs) o.w) = same
    ∙ ap (λ (q : Words). q.w) (put_in_is xs o all here) in
    let front : length (take o.at o.w) ≡ o.at = length-take-le o.at o.w (omega (arith, room, all)) in
    sym ((λ i. take n (drop (place i) (words i))) ∙ ap (take n) (drop_at (take o.at o.w) _ o.at front)
    ∙ take_at xs _ n long)

-- behind what is put into words 0 from the first place on all words are 0
pub zeros_behind : (xs : List ℕ) (o : Words) (n : ℕ) → o.w ≡ replicate most_words 0 → o.at ≡ 0 → n ≤ most_words
    → length xs ≡ n → drop n (put_in xs o).w ≡ replicate (most_words - n) 0
zeros_behind xs o n blank first room long =
    let all : length o.w ≡ most_words = ap length blank ∙ length-replicate {A = ℕ} most_words 0 in
    let here : o.at + length xs ≤ most_words = omega (arith, room, long, first) in
    let count : o.at + length xs ≡ n = omega (arith, long, first) in
    let words : (put_in xs o).w ≡ xs ++ drop n (replicate most_words 0) =
    ap (λ (q : Words). q.w) (put_in_is xs o all here) ∙ (λ i. take (first i) (blank i) ++ (xs ++ drop (count i) (blank i))) in
    ap (drop n) words ∙ drop_at xs _ n long ∙ drop-replicate n most_words 0

-- what is got where the words of a value stand is that value
pub got : {A : Type 0} (words : A → List ℕ) (is_value : A → Type 0)
    → ((x y : A) → is_value x → is_value y → words x ≡ words y → x ≡ y)
    → (x : A) (ws : List ℕ) → is_value x → words x ≡ ws
    → (r : Option A) → IfSome r (λ y. words y ≡ ws) → IfSome r is_value
    → IfNone r ((y : A) → is_value y → words y ≢ ws) → r ≡ Some x
got words is_value differ x ws is there None found value none = absurd (none x is there)
got words is_value differ x ws is there (Some y) found value none = ap Some (differ y x value is (found ∙ sym there))
