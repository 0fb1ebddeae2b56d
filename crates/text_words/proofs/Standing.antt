-- Where lines and words stand in their text.
use Rattle.std.proofs.Common.{◌≡◌, ℕ, suc, ◌+◌, ◌<◌, ◌≤◌, Bool, true, false, List, [], ◌∷◌, length, get_or, take, drop, refl, sym, ap, ◌∙◌, arith, add-zero, subst}
use Rattle.std.proofs.Math.Logic.{⊎_elim}
use Rattle.std.proofs.lemmas.Bool.{cases_lt}
use Rattle.std.proofs.lemmas.List.{take_all, drop_more, length-take-le, take-take}
use Rattle.std.proofs.lemmas.List.Elements.{All-from_recursion, All-filter}
use Rattle.std.proofs.lemmas.List.Splits.{slice_split-cons_yes, slice_split-cons_no}
use Rattle.std.specs.List.{All, AllByRecursion, slice_split, onto_first}
use Rattle.text_words.specs.Text.{Line, Word, placed, numbered, lines_of, words_in, code_of, is_feed, is_blank, has_bytes}
use Rattle.text_words.specs.Places.{StandsIn}

-- a byte that stands in front of others
pub head_is : (text : List ℕ) (at x : ℕ) (xs : List ℕ) → StandsIn text at (x ∷ xs) → (get_or text at 0 ≡ x) × StandsIn text (at + 1) xs
head_is text at x xs s =
    let lt : at < length text = omega (arith, s.within) in
    let split : get_or text at 0 ∷ take (length xs) (drop (at + 1) text) ≡ x ∷ xs = sym (ap (take (suc (length xs))) (drop_more text at 0 lt)) ∙ s.same in
    (cc, record { within = omega (arith, s.within); same = cc })

-- bytes behind one that stands in front of them
pub onto_stands : (text : List ℕ) (at x : ℕ) (q : List ℕ) → at < length text → get_or text at 0 ≡ x → StandsIn text (at + 1) q → StandsIn text at (x ∷ q)
onto_stands text at x q lt e s = record {
  within = omega (arith, s.within);
  same = ap (take (suc (length q))) (drop_more text at 0 lt) ∙ ap (λ y. y ∷ take (length q) (drop (at + 1) text)) e ∙ ap (λ r. x ∷ r) s.same;
}

-- no bytes
pub none_stand : (text : List ℕ) (at : ℕ) → at ≤ length text → StandsIn text at []
none_stand text at le = record { within = omega arith; same = refl }

-- pieces of which the first begins one byte earlier
onto_placed : (text : List ℕ) (at x : ℕ) (ps : List (List ℕ)) → at < length text → get_or text at 0 ≡ x → AllByRecursion (λ w. StandsIn text w.at w.bytes) (placed (at + 1) ps) → AllByRecursion (λ w. StandsIn text w.at w.bytes) (placed at (onto_first x ps))
onto_placed text at x [] lt e all = (onto_stands text at x [] lt e (none_stand text (at + 1) (omega arith)), tt)
onto_placed text at x (q ∷ qs) lt e all =
    let place : at + 1 + length q + 1 ≡ at + length (x ∷ q) + 1 = omega arith in
    (onto_stands text at x q lt e all.0, subst (λ m. AllByRecursion (λ w. StandsIn text w.at w.bytes) (placed m qs)) place all.1)

-- the pieces of bytes that stand in a text stand in it
pub pieces_stand : (p : ℕ → Bool) (text : List ℕ) (at : ℕ) (xs : List ℕ) → StandsIn text at xs → AllByRecursion (λ w. StandsIn text w.at w.bytes) (placed at (slice_split p xs))
pieces_stand p text at [] s = (s, tt)
pieces_stand p text at (x ∷ xs) s = pieces_by p text at x xs (p x) refl s (pieces_stand p text (at + 1) xs (head_is text at x xs s).1) where
  pieces_by : (p : ℕ → Bool) (text : List ℕ) (at x : ℕ) (xs : List ℕ) (v : Bool) → p x ≡ v → StandsIn text at (x ∷ xs) → AllByRecursion (λ w. StandsIn text w.at w.bytes) (placed (at + 1) (slice_split p xs))
      → AllByRecursion (λ w. StandsIn text w.at w.bytes) (placed at (slice_split p (x ∷ xs)))
  pieces_by p text at x xs true e s all =
      let here : StandsIn text at [] = none_stand text at (omega (arith, s.within)) in
      let later : AllByRecursion (λ w. StandsIn text w.at w.bytes) (placed (at + 0 + 1) (slice_split p xs)) = subst (λ m. AllByRecursion (λ w. StandsIn text w.at w.bytes) (placed (m + 1) (slice_split p xs))) (sym (add-zero at)) all in
      subst (λ ps. AllByRecursion (λ w. StandsIn text w.at w.bytes) (placed at ps)) (sym (slice_split-cons_yes p x xs e)) (here, later)
  pieces_by p text at x xs false e s all =
      subst (λ ps. AllByRecursion (λ w. StandsIn text w.at w.bytes) (placed at ps)) (sym (slice_split-cons_no p x xs e))
      (onto_placed text at x (slice_split p xs) (omega (arith, s.within)) (head_is text at x xs s).0 all)

-- the same of lines
lines_stand : (text : List ℕ) (n at : ℕ) (ps : List (List ℕ)) → AllByRecursion (λ w. StandsIn text w.at w.bytes) (placed at ps) → AllByRecursion (λ l. StandsIn text l.at l.bytes) (numbered n at ps)
lines_stand text n at [] all = tt
lines_stand text n at (p ∷ ps) all = (all.0, lines_stand text (n + 1) (at + length p + 1) ps all.1)

-- a text stands in itself
whole_stands : (text : List ℕ) → StandsIn text 0 text
whole_stands text = record { within = omega arith; same = take_all (length text) text (omega arith) }

pub each_line : (text : List ℕ) → All (λ (l : Line). StandsIn text l.at l.bytes) (lines_of text)
each_line text = All-from_recursion (λ (l : Line). StandsIn text l.at l.bytes) (lines_of text) (lines_stand text 1 0 (slice_split is_feed text) (pieces_stand is_feed text 0 text (whole_stands text)))

-- the bytes in front
front_stands : (text : List ℕ) (at m : ℕ) (bs : List ℕ) → StandsIn text at bs → StandsIn text at (take m bs)
front_stands text at m bs s = ⊎_elim
    (λ (lt : m < length bs).
    let size : length (take m bs) ≡ m = length-take-le m bs (omega arith) in
    record {
      within = omega (arith, s.within);
      same = ap (λ k. take k (drop at text)) size ∙ sym (take-take m (length bs) (drop at text) (omega arith)) ∙ ap (take m) s.same;
    })
    (λ (le : length bs ≤ m). subst (StandsIn text at) (sym (take_all m bs le)) s)
    (cases_lt m (length bs))

pub each_word : (text : List ℕ) (l : Line) → StandsIn text l.at l.bytes → All (λ (w : Word). StandsIn text w.at w.bytes) (words_in l)
each_word text l s =
    All-filter has_bytes (λ (w : Word). StandsIn text w.at w.bytes) (placed l.at (slice_split is_blank (code_of l.bytes)))
    (All-from_recursion (λ (w : Word). StandsIn text w.at w.bytes) (placed l.at (slice_split is_blank (code_of l.bytes))) (pieces_stand is_blank text l.at (code_of l.bytes) (front_stands text l.at _ l.bytes s)))
