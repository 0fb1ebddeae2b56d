-- Numbers of 32 bits: the words for which they stand, and where they stand in a room.
use Rattle.std.specs.Prelude.{ℕ, ◌+◌, ◌*◌, ◌-◌, ◌/◌, ◌%◌, ◌^◌, ◌==◌, nat_lt, cond, List, slice_index}
use Rattle.rec_words.specs.Words.{level_numbers, node_word}
use Rattle.rec_words.specs.declared.rec.Rec.{Rec}
use Rattle.run_files.specs.Items.{record_at}

-- the numbers in the two halves of a word
abbrev pub lower : ℕ → ℕ
lower w = w % 2 ^ 32

abbrev pub upper : ℕ → ℕ
upper w = w / 2 ^ 32

-- the number among those of its level for which the lower 16 bits of a number stand: one of the first 32,768, or of
-- the last
abbrev pub place_in_level : ℕ → ℕ
place_in_level place = cond (nat_lt place (2 ^ 15)) place (place + (level_numbers - 2 ^ 16))

-- the word for which a number stands: a level is in its upper 16 bits, and that of the truth values is 65,535
abbrev pub widened : ℕ → ℕ
widened number = cond (number / 2 ^ 16 == 65535) (2 ^ 63 + number % 2 ^ 16)
    (node_word (number / 2 ^ 16) (place_in_level (number % 2 ^ 16)))

-- the number of a column in a quarter of a record's words
abbrev pub number_of : List ℕ → ℕ → ℕ → ℕ
number_of words quarter column = let word = slice_index words (2 * quarter + column / 2) in
    cond (column % 2 == 0) (lower word) (upper word)

-- the number of a column in a quarter of a record
abbrev pub in_quarter : Rec → ℕ → ℕ → ℕ
in_quarter r = number_of r.w

-- the number of a column in the packed record at a place
abbrev pub number_in : List Rec → ℕ → ℕ → ℕ
number_in room place column = in_quarter (record_at room (place / 4)) (place % 4) column
