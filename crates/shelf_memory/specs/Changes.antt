-- What a change does to a file.
use Rattle.std.specs.Prelude.{◌+◌, ◌≤◌, min, max, length}
use Rattle.shelf_model.specs.File.{File, firm_file, appended, cut_to}
use Rattle.shelf_model.specs.Calls.{longest}
use Rattle.shelf_memory.specs.declared.change.Change.{Change}
use Rattle.shelf_memory.specs.declared.change.Change.TheVariants.{Appended, Torn, Cut, Loosened, Synced}
use Rattle.shelf_memory.specs.declared.change.Stored.{Stored}

-- the file that is stored
abbrev pub file_of : Stored → File
file_of stored = record { bytes = stored.bytes.items; firm = stored.firm; reach = stored.reach }

-- the file after a change: what failed puts no bytes and cuts none
abbrev pub changed : Change → File → File
changed (Appended piece) file = appended piece.items file
changed (Torn count) file = record {
  bytes = file.bytes;
  firm = file.firm;
  reach = max file.reach
      (length file.bytes + count);
}
changed (Cut to) file = cut_to to file
changed (Loosened to) file = record { bytes = file.bytes; firm = min file.firm to; reach = file.reach }
changed Synced file = firm_file file.bytes

-- the change makes the file no longer than a file may be
abbrev pub FitsIn : Change → File → Type 0
FitsIn (Appended piece) file = length file.bytes + length piece.items ≤ longest
FitsIn (Torn count) file = length file.bytes + count ≤ longest
FitsIn (Cut to) file = Unit {0}
FitsIn (Loosened to) file = Unit {0}
FitsIn Synced file = Unit {0}
