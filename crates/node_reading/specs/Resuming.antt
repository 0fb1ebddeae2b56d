-- A reading of a node file that begins at a place that was saved, and why it can't.
use Rattle.std.specs.Prelude.{◌≡◌, ◌⊎◌, ℕ, ◌<◌, List}
use Rattle.shelf_model.specs.declared.file_no.FileNo.{FileNo}
use Rattle.shelf_model.specs.declared.fault.StreamFault.TheVariants as stream
use Rattle.shelf_model.specs.declared.sort_fault.SortFault.{SortFault}
use Rattle.shelf_model.specs.declared.sort_fault.SortFault.TheVariants.{Shelf, Damaged, RunsSpent}
use Rattle.file_numbers.specs.Files.{checkpoint_file}
use Rattle.node_file.specs.Nodes.{IsTrailerDamage, IsMetBetween}
use Rattle.node_reading.specs.declared.resuming.Unread.{Unread}
use Rattle.node_reading.specs.Reading.{count_of}
use Rattle.sweep_core.specs.Resting.{checkpoint_place}

-- the trailer of the file is damaged, or a node at the place or behind it
pub record IsFileDamaged (n : ℕ) (unread : Unread) (r : FileNo → List ℕ) (f : FileNo) (at : ℕ) : Type 0 where
  pub file_is : f ≡ unread.file
  pub damaged : IsTrailerDamage n (r unread.file) (stream.Damaged f at)
      ⊎ IsMetBetween n unread.place (count_of (r unread.file)) (r unread.file) (stream.Damaged f at)

-- the file has fewer nodes than the last checkpoint of the step says, whose place is named
pub record IsBeyond (step : ℕ) (unread : Unread) (r : FileNo → List ℕ) (f : FileNo) (at : ℕ) : Type 0 where
  pub file_is : f ≡ checkpoint_file step
  pub place_is : at ≡ checkpoint_place step r
  pub beyond : count_of (r unread.file) < unread.place

-- why a reading can't begin
abbrev pub IsPlaceFault : ℕ → ℕ → Unread → (FileNo → List ℕ) → SortFault → Type 0
IsPlaceFault n step unread r Shelf = Unit
IsPlaceFault n step unread r (Damaged f at) = IsFileDamaged n unread r f at ⊎ IsBeyond step unread r f at
IsPlaceFault n step unread r RunsSpent = ⊥
