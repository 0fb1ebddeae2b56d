-- Which lines list a folder's diagrams, from the bytes of its catalogue.
use Rattle.std.specs.Prelude.{ℕ, Bool, ◌&&◌, not, ◌==◌, List, [], ◌∷◌, ◌++◌, get_or, take, drop, decimal, nat_lt}
use Rattle.std.specs.Prelude.{if◌then◌else◌}
use Rattle.std.specs.List.{flat_map, list_any, range_with_len}
use Rattle.byteorder.specs.Endian.{big_number}
use Rattle.shelf_model.specs.declared.file_no.FileNo.{FileNo}
use Rattle.catalogue.specs.declared.layout.Entry.{Entry}
use Rattle.catalogue.specs.Counts.{count_in, entry_at}

-- the fields of an entry, at their places among its 128 bytes
abbrev pub entry_read : List ℕ → Entry
entry_read bytes = record {
  number = big_number 4 (take 4 (drop 0 bytes));
  kind = get_or bytes 4 0;
  answer = get_or bytes 5 0;
  name_len = get_or bytes 6 0;
  count = big_number 8 (take 8 (drop 8 bytes));
  turns = big_number 8 (take 8 (drop 16 bytes));
  parts = big_number 8 (take 8 (drop 24 bytes));
  name = take 63 (drop 32 bytes);
}

-- the entry that stands at a step's place
unfoldable pub entry_in : (FileNo → List ℕ) → ℕ → Entry
entry_in r k = entry_read (entry_at k r)

-- the numbers of the first so many steps
abbrev pub first_steps : ℕ → List ℕ
first_steps n = range_with_len 0 n

-- a drop, and the step whose diagram it gave up
abbrev pub drops : ℕ → Entry → Bool
drops k e = (e.kind == 2) && (e.count == k)

-- one of the first n steps drops the diagram of step k
abbrev pub is_dropped : (FileNo → List ℕ) → ℕ → ℕ → Bool
is_dropped r n k = list_any (λ j. drops k (entry_in r j)) (first_steps n)

-- a diagram that a line of the script named
abbrev pub is_named : Entry → Bool
is_named e = (e.kind == 1) && nat_lt 0 e.name_len

-- its name, a blank, its number of nodes, and a line feed
abbrev pub diagram_line : Entry → List ℕ
diagram_line e = take e.name_len e.name ++ (32 ∷ (decimal e.count ++ 10 ∷ []))

-- a step has a line where it made a named diagram that none of the committed steps drops
abbrev pub step_line : (FileNo → List ℕ) → ℕ → ℕ → List ℕ
step_line r n k = if is_named (entry_in r k) && not (is_dropped r n k) then diagram_line (entry_in r k) else []

-- the lines of the committed steps, in their order
abbrev pub listing : (FileNo → List ℕ) → List ℕ
listing r = flat_map (step_line r (count_in r)) (first_steps (count_in r))
