-- What is put into the words of a checkpoint, and what is got from them.
use Rattle.std.specs.Prelude.{◌≡◌, ℕ, ◌+◌, nat_lt, if◌then◌else◌, List, [], ◌∷◌, length, take, drop, slice_set}
use Rattle.saved_words.specs.declared.words.Words.{Words}

-- how many words a checkpoint carries
abbrev pub most_words : ℕ
most_words = 250

-- the words are all there
pub record IsRoom (o : Words) : Type 0 where
  pub all : length o.w ≡ most_words

-- a word put at the place, if that isn't the end
abbrev pub pushed : ℕ → Words → Words
pushed word o = if nat_lt o.at most_words then (record { w = slice_set o.w o.at word; at = o.at + 1 }) else o

-- words put one behind the other, as far as there is room
abbrev pub put_in : List ℕ → Words → Words
put_in [] o = o
put_in (word ∷ words) o = put_in words (pushed word o)

-- the next n words, or fewer where they end
abbrev pub next_words : ℕ → Words → List ℕ
next_words n o = take n (drop o.at o.w)

-- n words on
abbrev pub moved : ℕ → Words → Words
moved n o = record { w = o.w; at = o.at + n }
