-- How many calls read files again up to where they were read.
use Rattle.std.proofs.Common.{◌≡◌, ℕ, ◌+◌, ◌-◌, ◌/◌, ◌^◌, ◌≤◌, List, ap, arith}
use Rattle.shelf_model.specs.declared.file_no.FileNo.{FileNo}
use Rattle.node_file.specs.Readers.{loads_of}
use Rattle.node_reading.specs.declared.resuming.Unread.{Unread}
use Rattle.node_reading.specs.Reading.{count_of}

-- a file
pub calls_once : (f : FileNo) (unread : Unread) (r : FileNo → List ℕ) (old new : ℕ) → f ≡ unread.file
    → new ≤ old + 3 + loads_of (count_of (r unread.file) - unread.place) → new + 1 ≤ old + 12 + count_of (r f) / 8
calls_once f unread r old new is few =
    let count : count_of (r f) ≡ count_of (r unread.file) = ap (λ g. count_of (r g)) is in
    omega (arith, few, count)

-- and then another one, of the same folder
pub calls_twice : (f g : FileNo) (one two : Unread) (r q : FileNo → List ℕ) (old mid new : ℕ) → f ≡ one.file → g ≡ two.file
    → q ≡ r → mid ≤ old + 3 + loads_of (count_of (r one.file) - one.place)
    → new ≤ mid + 3 + loads_of (count_of (q two.file) - two.place)
    → new + 1 ≤ old + 24 + (count_of (r f) + count_of (r g)) / 8
calls_twice f g one two r q old mid new first second same few more =
    let count : count_of (r f) ≡ count_of (r one.file) = ap (λ h. count_of (r h)) first in
    let other : count_of (r g) ≡ count_of (r two.file) = ap (λ h. count_of (r h)) second in
    let then : count_of (q two.file) ≡ count_of (r two.file) = ap (λ (s : FileNo → List ℕ). count_of (s two.file)) same in
    omega (arith, few, more, count, other, then)
