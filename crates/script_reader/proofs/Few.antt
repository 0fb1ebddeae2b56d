-- How many words a line has at most.
use Rattle.std.specs.Prelude.{◌≡◌, ℕ, ◌+◌, ◌≤◌, List, length, min}
use Rattle.std.specs.List.{slice_split, count_by, position_or_len}
use Rattle.std.proofs.Math.Nat.{min-le_right}
use Rattle.std.proofs.Common.{ap, arith}
use Rattle.std.proofs.lemmas.List.{length-take, length-map}
use Rattle.std.proofs.lemmas.List.Sums.{length-filter, count_by-le-length}
use Rattle.std.proofs.lemmas.List.Splits.{length-slice_split}
use Rattle.text_words.specs.Text.{Line, placed, words_in, code_of, is_blank, is_hash, has_bytes}
use Rattle.text_words.specs.Left.{line_of, word_of}
use Rattle.text_words.specs.declared.lines.Line as shown_line
use Rattle.text_words.specs.declared.words.Word as shown
use Rattle.blif_reader.proofs.Pieces.{length-placed}
use Rattle.script_reader.specs.Views.{words_of}

-- at most one word more than bytes
few_in : (l : Line) → length (words_in l) ≤ length l.bytes + 1
few_in l =
    let ps = slice_split is_blank (code_of l.bytes) in
    let words : length (words_in l) ≡ count_by has_bytes (placed l.at ps) = length-filter has_bytes (placed l.at ps) in
    let some : count_by has_bytes (placed l.at ps) ≤ length (placed l.at ps) = count_by-le-length has_bytes (placed l.at ps) in
    let pieces : length ps ≡ count_by is_blank (code_of l.bytes) + 1 = length-slice_split is_blank (code_of l.bytes) in
    let blanks : count_by is_blank (code_of l.bytes) ≤ length (code_of l.bytes) = count_by-le-length is_blank (code_of l.bytes) in
    let n : ℕ = position_or_len is_hash l.bytes in
    let cut : length (code_of l.bytes) ≡ min n (length l.bytes) = length-take n l.bytes in
    let code : length (code_of l.bytes) ≤ length l.bytes = omega (arith, cut, min-le_right n (length l.bytes)) in
    omega (arith, words, some, length-placed l.at ps, pieces, blanks, code)

-- of a line in memory
pub few_words : (l : shown_line.Line) (words : List shown.Word) → words_of words ≡ words_in (line_of l) → length l.bytes.now ≤ 1048576 → length words ≤ 1048577
few_words l words are short =
    let same : length words ≡ length (words_in (line_of l)) = omega (arith, length-map words word_of, ap length are) in
    omega (arith, same, few_in (line_of l), short)
