-- Which calls are to fail.
use Rattle.std.specs.Prelude.{ℕ, Bool, false, ◌||◌, length, Option, None, Some}
use Rattle.std.specs.Bool.{nat_le}
use Rattle.std.specs.Option.{option_map_or}
use Rattle.std.specs.Ordering.{nat_cmp}
use Rattle.std.specs.BTreeSet.{contains}
use Rattle.shelf_model.specs.declared.file_no.FileNo.{FileNo}
use Rattle.shelf_model.specs.File.{File}
use Rattle.shelf_memory.specs.declared.failures.Failures.{Failures}
use Rattle.shelf_memory.specs.declared.failures.Watch.{Watch}

-- the call of that number is to fail by its number
abbrev pub is_listed : Failures → ℕ → Bool
is_listed failures n = option_map_or (λ from. nat_le from n) failures.from false || contains nat_cmp failures.at n

-- the watched file was long enough at some moment since it is watched
abbrev pub is_met : Option Watch → Bool
is_met watch = option_map_or (λ (w : Watch). w.met) watch false

-- the watch after a look at the files
abbrev pub seen : Option Watch → (FileNo → File) → Option Watch
seen None stored = None
seen (Some w) stored = Some (record w { met = w.met || (nat_le w.size (length (stored w.file).bytes)) })
