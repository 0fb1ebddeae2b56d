-- The part numbers of a step that sweeps.
use Rattle.std.specs.Prelude.{ℕ}
use Rattle.file_numbers.specs.Files.{inner_part}
use Rattle.run_tiers.specs.declared.parts.Parts.{Parts}

-- those of a step from its first arcs on
abbrev pub parts_of : ℕ → Parts
parts_of number = record { step = number; next = inner_part }
