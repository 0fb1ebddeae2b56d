-- Every second word of a line, one after the other.
use Rattle.std.specs.Prelude.{◌≡◌, ℕ, ◌+◌, ◌<◌, ◌≤◌, List, [], ◌∷◌, ◌++◌, length, drop, slice_index_or}
use Rattle.std.proofs.Common.{refl, ap, sym, ◌∙◌, arith, append_assoc, get_or}
use Rattle.std.proofs.lemmas.List.{drop_more, drop_all, drop-drop, length-map, map-append, append-nil, get_or-map}
use Rattle.text_words.specs.Text.{Word}
use Rattle.text_words.specs.Left.{word_of}
use Rattle.text_words.specs.declared.words.Word as shown
use Rattle.script_reader.specs.Nets.{every_second}
use Rattle.script_reader.specs.Views.{words_of}

-- the first and every second of those behind the next
pub second_next : (x : Word) (xs : List Word) → every_second (x ∷ xs) ≡ x ∷ every_second (drop 1 xs)
second_next x [] = refl
second_next x (y ∷ xs) = refl

-- the word at a place, and every second behind it
seconds_at : (words : List shown.Word) (k : ℕ) (d : shown.Word) → k < length words
    → every_second (drop k (words_of words)) ≡ word_of (slice_index_or words k d) ∷ every_second (drop (k + 2) (words_of words))
seconds_at words k d below =
    let ws = words_of words in
    let x : Word = word_of d in
    let here : drop k ws ≡ get_or ws k x ∷ drop (k + 1) ws = drop_more ws k x (omega (arith, length-map words word_of)) in
    ap every_second here ∙ second_next (get_or ws k x) (drop (k + 1) ws)
    ∙ ap (λ (v : List Word). get_or ws k x ∷ every_second v) (drop-drop 1 (k + 1) ws ∙ ap (λ (n : ℕ). drop n ws) (omega arith))
    ∙ ap (λ (w : Word). w ∷ every_second (drop (k + 2) ws)) (get_or-map word_of words k d x below)

-- one more of them is read
pub seconds_more : (read : List shown.Word) (w : shown.Word) (words : List shown.Word) (k : ℕ) (d : shown.Word) (all : List Word) → k < length words → w ≡ slice_index_or words k d
    → words_of read ++ every_second (drop k (words_of words)) ≡ all → words_of (read ++ w ∷ []) ++ every_second (drop (k + 2) (words_of words)) ≡ all
seconds_more read w words k d all below is so_far =
    ap (λ (t : List Word). t ++ every_second (drop (k + 2) (words_of words))) (map-append word_of read (w ∷ []))
    ∙ append_assoc (words_of read) (word_of w ∷ []) _
    ∙ ap (λ (v : shown.Word). words_of read ++ word_of v ∷ every_second (drop (k + 2) (words_of words))) is
    ∙ sym (ap (λ (v : List Word). words_of read ++ v) (seconds_at words k d below)) ∙ so_far

-- all of them are read
pub seconds_done : (read words : List shown.Word) (k : ℕ) (all : List Word) → length words ≤ k → words_of read ++ every_second (drop k (words_of words)) ≡ all → words_of read ≡ all
seconds_done read words k all above so_far =
    let none : drop k (words_of words) ≡ [] = drop_all k (words_of words) (omega (arith, length-map words word_of)) in
    sym (append-nil (words_of read)) ∙ ap (λ (v : List Word). words_of read ++ every_second v) (sym none) ∙ so_far
