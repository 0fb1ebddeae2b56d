-- The turns that a checkpoint's bytes show.
use Rattle.std.proofs.Common.{◌≡◌, ◌^◌, ◌<◌, take, drop, refl, ap, ◌∙◌, arith}
use Rattle.std.specs.Prelude.{Some}
use Rattle.std.specs.Int.{w64, to_be_bytes, from_be_bytes}
use Rattle.std.proofs.lemmas.Nat.{from_be_bytes-to_be_bytes_8}
use Rattle.sweep_core.specs.declared.checkpoint.Checkpoint.{Checkpoint}
use Rattle.sweep_checkpoint.specs.Points.{used_bytes, point_bytes, Fits}
use Rattle.sweep_checkpoint.specs.Stops.{turns_in}

-- the third of its words are its turns, where they are a word
pub word_turns : (c : Checkpoint) → c.turns < 2 ^ 64 → turns_in (Some (point_bytes c)) ≡ c.turns
unfolding point_bytes used_bytes
word_turns c word =
    let third : take 8 (drop 16 (point_bytes c)) ≡ to_be_bytes w64 c.turns = refl in
    ap (from_be_bytes w64) third ∙ from_be_bytes-to_be_bytes_8 c.turns word

-- as they are in one that fits its place
pub point_turns : (c : Checkpoint) → Fits c → turns_in (Some (point_bytes c)) ≡ c.turns
point_turns c fits = word_turns c (fits.words 2 0 (omega arith))
