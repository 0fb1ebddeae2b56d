-- What a checkpoint keeps of a copy, and its words.
use Rattle.std.specs.Prelude.{◌≡◌, ℕ, ◌<◌, ◌^◌, List, All, length}
use Rattle.shelf_model.specs.declared.file_no.FileNo.{FileNo}
use Rattle.saved_words.specs.Singles.{one_word, IsWord, word_long, word_fits, word_differs}
use Rattle.saved_words.specs.Singles.{file_words, IsFileNo, file_long, file_fits, file_differs}
use Rattle.saved_words.specs.Joined.{pair_words, IsPair, pair_long, pair_fits, pair_differs}
use Rattle.copy_sweep.specs.declared.saved.Saved.{Saved}

-- two words for each of its files, and one for each of its three numbers
abbrev pub words_count : ℕ
words_count = 7

-- its files, and its numbers
abbrev pub Files : Type 0
Files = FileNo × FileNo

abbrev pub Numbers : Type 0
Numbers = ℕ × (ℕ × ℕ)

abbrev pub parts_of : Saved → Files × Numbers
parts_of s = ((s.task.from, s.task.to), (s.task.pieces, (s.turns, s.kept)))

-- the words of two files
abbrev pub files_words : Files → List ℕ
files_words = pair_words file_words file_words

abbrev pub AreFiles : Files → Type 0
AreFiles = IsPair IsFileNo IsFileNo

-- the words of three numbers
abbrev pub numbers_words : Numbers → List ℕ
numbers_words = pair_words one_word (pair_words one_word one_word)

abbrev pub AreNumbers : Numbers → Type 0
AreNumbers = IsPair IsWord (IsPair IsWord IsWord)

abbrev pub saved_words : Saved → List ℕ
saved_words s = pair_words files_words numbers_words (parts_of s)

abbrev pub IsSaved : Saved → Type 0
IsSaved s = IsPair AreFiles AreNumbers (parts_of s)

files_long : (p : Files) → AreFiles p → length (files_words p) ≡ 4
files_long = pair_long 2 2 file_words file_words IsFileNo IsFileNo file_long file_long

numbers_long : (p : Numbers) → AreNumbers p → length (numbers_words p) ≡ 3
numbers_long = pair_long 1 2 one_word (pair_words one_word one_word) IsWord (IsPair IsWord IsWord) word_long
    (pair_long 1 1 one_word one_word IsWord IsWord word_long word_long)

files_differ : (p q : Files) → AreFiles p → AreFiles q → files_words p ≡ files_words q → p ≡ q
files_differ = pair_differs 2 2 file_words file_words IsFileNo IsFileNo file_long file_long file_differs file_differs

numbers_differ : (p q : Numbers) → AreNumbers p → AreNumbers q → numbers_words p ≡ numbers_words q → p ≡ q
numbers_differ = pair_differs 1 2 one_word (pair_words one_word one_word) IsWord (IsPair IsWord IsWord) word_long
    (pair_long 1 1 one_word one_word IsWord IsWord word_long word_long) word_differs
    (pair_differs 1 1 one_word one_word IsWord IsWord word_long word_long word_differs word_differs)

pub saved_long : (s : Saved) → IsSaved s → length (saved_words s) ≡ words_count
saved_long s is = pair_long 4 3 files_words numbers_words AreFiles AreNumbers files_long numbers_long (parts_of s) is

pub saved_fits : (s : Saved) → IsSaved s → All (λ word. word < 2 ^ 64) (saved_words s)
saved_fits s is = pair_fits 4 3 files_words numbers_words AreFiles AreNumbers files_long numbers_long
    (pair_fits 2 2 file_words file_words IsFileNo IsFileNo file_long file_long file_fits file_fits)
    (pair_fits 1 2 one_word (pair_words one_word one_word) IsWord (IsPair IsWord IsWord) word_long
    (pair_long 1 1 one_word one_word IsWord IsWord word_long word_long) word_fits
    (pair_fits 1 1 one_word one_word IsWord IsWord word_long word_long word_fits word_fits)) (parts_of s) is

-- the one of these files and numbers
abbrev saved_by : Files → Numbers → Saved
saved_by (from, to) (pieces, (turns, kept)) = record {
  task = record { from = from; to = to; pieces = pieces };
  turns = turns;
  kept = kept;
}

pub saved_differs : (s t : Saved) → IsSaved s → IsSaved t → saved_words s ≡ saved_words t → s ≡ t
saved_differs s t a b same =
    let one : parts_of s ≡ parts_of t = pair_differs 4 3 files_words numbers_words AreFiles AreNumbers files_long
    numbers_long files_differ numbers_differ (parts_of s) (parts_of t) a b same in
    λ i. saved_by (one i).0 (one i).1
