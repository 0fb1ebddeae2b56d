-- Where the parts of a text stand.
use Rattle.std.specs.Prelude.{◌≡◌, ℕ, ◌+◌, ◌<◌, ◌≤◌, ◌^◌, List, length, take, drop}
use Rattle.std.specs.List.{slice_split}
use Rattle.text_words.specs.Text.{Line, numbered, is_feed}

-- bytes stand in a text from a place on
pub record StandsIn (text : List ℕ) (at : ℕ) (bytes : List ℕ) : Type 0 where
  pub within : at + length bytes ≤ length text
  pub same : take (length bytes) (drop at text) ≡ bytes

-- lines are those of a text that begins with line n, and that is no longer than lines can be numbered
pub record IsRest (lines : List Line) (n : ℕ) (text : List ℕ) : Type 0 where
  pub at : ℕ
  pub same : lines ≡ numbered n at (slice_split is_feed text)
  pub few : n + length text + 1 < 2 ^ 32
