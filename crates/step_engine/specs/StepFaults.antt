-- Why a step can't be run.
use Rattle.std.specs.Prelude.{◌≡◌, ◌≢◌, ◌⊎◌, ℕ, ◌*◌, ◌^◌, ◌≤◌, List, [], ◌∷◌, IsTrue}
use Rattle.bool_tables.specs.declared.steps.Step.{Step}
use Rattle.bool_tables.specs.declared.steps.Step.TheVariants.{Const, Var, Pair, Ite, Quantify, Restrict, Drop, Same}
use Rattle.bool_tables.specs.declared.steps.Step.TheVariants.{Leq, Eval, Size}
use Rattle.shelf_model.specs.declared.file_no.FileNo.{FileNo}
use Rattle.shelf_model.specs.declared.fault.StreamFault.{StreamFault}
use Rattle.shelf_model.specs.declared.fault.StreamFault.TheVariants as stream
use Rattle.shelf_model.specs.declared.sort_fault.SortFault.{SortFault}
use Rattle.shelf_model.specs.declared.sort_fault.SortFault.TheVariants as sort
use Rattle.shelf_model.specs.World.{World, now, file}
use Rattle.shelf_model.specs.SortFaults.{handed_on}
use Rattle.catalogue.specs.declared.layout.Entry.{Entry}
use Rattle.catalogue.specs.Counts.{present}
use Rattle.catalogue.specs.Files.{catalogue}
use Rattle.catalogue.specs.Entries.{IsEntryOf}
use Rattle.step_work.specs.Tuples.{joins, sweeps}
use Rattle.step_sweeps.specs.Damage.{IsDamagedBy}
pub use Rattle.step_sweeps.specs.Damage.{MissesNone, MissesNamed}
use Rattle.sound_image.specs.Files.{node_file, checkpoint_gate}

-- the entry of step k is damaged where no entry of that step and of that kind stands whole at its place
abbrev pub IsKindFault : ℕ → ℕ → (FileNo → List ℕ) → StreamFault → Type 0
IsKindFault k kind r stream.Shelf = Unit
IsKindFault k kind r (stream.Damaged f at) = (f ≡ catalogue) × (at ≡ 128 * k)
    × ((e : Entry) → IsEntryOf k r e → e.kind ≢ kind)

-- the node file of one of these steps is damaged for n variables, to a reader that misses nodes in that way
abbrev pub IsDamagedAmong : (List ℕ → ℕ → Type 0) → ℕ → List ℕ → World → FileNo → ℕ → Type 0
IsDamagedAmong Misses n [] world f at = ⊥
IsDamagedAmong Misses n (k ∷ ks) world f at =
    IsDamagedBy Misses n (node_file k) world f at ⊎ IsDamagedAmong Misses n ks world f at

-- a fault of a step that reads these operands: a call of the folder failed, or one of them is damaged
abbrev pub IsReadingFault : (List ℕ → ℕ → Type 0) → ℕ → List ℕ → World → SortFault → Type 0
IsReadingFault Misses n operands world sort.Shelf = Unit
IsReadingFault Misses n operands world (sort.Damaged f at) = IsDamagedAmong Misses n operands world f at
IsReadingFault Misses n operands world sort.RunsSpent = ⊥

-- a fault of a step that makes arcs of them: a call of the folder failed, one of them was damaged as the step began, or
-- the step has no part number left
abbrev pub IsMakingFault : ℕ → List ℕ → World → SortFault → Type 0
IsMakingFault n operands world sort.Shelf = Unit
IsMakingFault n operands world (sort.Damaged f at) = IsDamagedAmong MissesNamed n operands world f at
IsMakingFault n operands world sort.RunsSpent = Unit

-- a size finds the entry of its diagram damaged, and where nothing is read a call of the folder failed
abbrev pub IsStepFault : ℕ → Step → World → SortFault → Type 0
IsStepFault n (Const value) world fault = fault ≡ sort.Shelf
IsStepFault n (Var level) world fault = fault ≡ sort.Shelf
IsStepFault n (Pair op left right) world fault = IsMakingFault n (left ∷ right ∷ []) world fault
IsStepFault n (Ite test if_one if_zero) world fault = IsMakingFault n (test ∷ if_one ∷ if_zero ∷ []) world fault
IsStepFault n (Quantify kind operand level) world fault = IsMakingFault n (operand ∷ []) world fault
IsStepFault n (Restrict operand level value) world fault = IsMakingFault n (operand ∷ []) world fault
IsStepFault n (Drop gone) world fault = fault ≡ sort.Shelf
IsStepFault n (Same left right) world fault = IsReadingFault MissesNone n (left ∷ right ∷ []) world fault
IsStepFault n (Leq left right) world fault = IsMakingFault n (left ∷ right ∷ []) world fault
IsStepFault n (Eval operand at) world fault = IsReadingFault MissesNamed n (operand ∷ []) world fault
IsStepFault n (Size operand) world fault =
    (found : StreamFault) × (fault ≡ handed_on found) × IsKindFault operand 1 (present (now world).folder) found

-- so a step is refused that begins anew. Where it has a gated checkpoint any place may be named: it went on from bytes
-- of which nothing is known
abbrev pub IsRunFault : ℕ → ℕ → Step → World → SortFault → Type 0
IsRunFault n number step world fault = IsStepFault n step world fault
    ⊎ (IsTrue (sweeps step) × ((file world (checkpoint_gate number)).bytes ≢ []))

-- where the folder holds the steps before: a call of it failed, or a step of much work has no part number left
abbrev pub IsSoundFault : Step → ℕ → SortFault → Type 0
IsSoundFault step work sort.Shelf = Unit
IsSoundFault step work (sort.Damaged f at) = ⊥
IsSoundFault step work sort.RunsSpent = IsTrue (joins step) × (2 ^ 35 ≤ work)

-- only a step that joins pieces has no part number left
abbrev pub IsOfKind : Step → SortFault → Type 0
IsOfKind step sort.Shelf = Unit
IsOfKind step (sort.Damaged f at) = Unit
IsOfKind step sort.RunsSpent = IsTrue (joins step)
