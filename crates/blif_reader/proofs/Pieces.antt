-- How many lines and words a text has.
use Rattle.std.proofs.Common.{◌≡◌, ℕ, ◌+◌, ◌<◌, ◌≤◌, Bool, List, suc, [], ◌∷◌, length, refl, ap, arith}
use Rattle.std.proofs.lemmas.List.Splits.{length-slice_split}
use Rattle.std.proofs.lemmas.List.Sums.{count_by-le-length, length-filter}
use Rattle.std.specs.List.{slice_split}
use Rattle.text_words.specs.Text.{Line, is_feed, is_blank, has_bytes, numbered, placed, words_from}
use Rattle.text_words.specs.Places.{IsRest}

length-numbered : (n at : ℕ) (ps : List (List ℕ)) → length (numbered n at ps) ≡ length ps
length-numbered n at [] = refl
length-numbered n at (p ∷ ps) = ap suc (length-numbered (n + 1) (at + length p + 1) ps)

-- each piece has its place
pub length-placed : (at : ℕ) (ps : List (List ℕ)) → length (placed at ps) ≡ length ps
length-placed at [] = refl
length-placed at (p ∷ ps) = ap suc (length-placed (at + length p + 1) ps)

-- a text has at most one piece more than bytes
pieces_few : (p : ℕ → Bool) (text : List ℕ) → length (slice_split p text) ≤ length text + 1
pieces_few p text = let n = length-slice_split p text in let m = count_by-le-length p text in omega (arith, n, m)

-- and one
pub pieces_some : (text : List ℕ) → 0 < length (slice_split is_feed text)
pieces_some text = let n = length-slice_split is_feed text in omega (arith, n)

-- so few words
pub words_few : (at : ℕ) (text : List ℕ) → length (words_from at text) ≤ length text + 1
words_few at text =
    let a = length-filter has_bytes (placed at (slice_split is_blank text)) in
    let d = count_by-le-length has_bytes (placed at (slice_split is_blank text)) in
    let b = length-placed at (slice_split is_blank text) in
    omega (arith, a, b, d, pieces_few is_blank text)

-- and lines
pub lines_few : (n : ℕ) (text : List ℕ) (ls : List Line) → IsRest ls n text → length ls ≤ length text + 1
lines_few n text ls rest = let a = ap length rest.same in omega (arith, a, length-numbered n rest.at (slice_split is_feed text), pieces_few is_feed text)

-- and a line
pub lines_some : (n : ℕ) (text : List ℕ) (ls : List Line) → IsRest ls n text → 0 < length ls
lines_some n text ls rest = let a = ap length rest.same in omega (arith, a, length-numbered n rest.at (slice_split is_feed text), pieces_some text)
