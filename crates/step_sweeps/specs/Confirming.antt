-- What is handed on where a sweep was refused, once the operand in which it found damage was read whole.
use Rattle.std.specs.Prelude.{◌≡◌, ◌≢◌, ◌⊎◌, ℕ, Bool, IsTrue, Err}
use Rattle.shelf_model.specs.declared.file_no.FileNo.{FileNo}
use Rattle.shelf_model.specs.declared.sort_fault.SortFault.{SortFault}
use Rattle.shelf_model.specs.declared.sort_fault.SortFault.TheVariants.{Shelf, Damaged, RunsSpent}
use Rattle.shelf_model.specs.Calls.{Told}
use Rattle.shelf_model.specs.Faults.{Faults}
use Rattle.shelf_model.specs.Moments.{Ran, Stays}
use Rattle.shelf_model.specs.World.{World, now, file}
use Rattle.run_tiers.specs.Faults.{OnlySortShelf}
use Rattle.node_reading.specs.Missing.{IsWhole, IsWholeFault}
use Rattle.top_down_sweep.specs.declared.beginning.OperandFiles.{OperandFiles}

-- the file is one of the operands'
abbrev pub IsOneOf : OperandFiles → FileNo → Type 0
IsOneOf operands f = (f ≡ operands.first) ⊎ ((f ≡ operands.second) ⊎ (f ≡ operands.third))

-- a place in one of them is named
abbrev pub NamesOperand : OperandFiles → SortFault → Type 0
NamesOperand operands Shelf = ⊥
NamesOperand operands (Damaged f at) = IsOneOf operands f
NamesOperand operands RunsSpent = ⊥

-- where none is, nothing is read
pub record HandsOn {S : Type 0} (operands : OperandFiles) (before after : S) (fault result : SortFault) : Type 0 where
  pub other : ¬ NamesOperand operands fault
  pub same : after ≡ before
  pub fault_is : result ≡ fault

-- else all nodes of that file are: the place is handed on where they and the trailer are as they have to be, and else
-- what of them is damaged
pub record ReadsAgain {S : Type 0} (tells : S → Bool) (world : S → World) (counts : S → Faults) (n : ℕ)
    (operands : OperandFiles) (before after : S) (fault result : SortFault) : Type 0 where
  pub read : FileNo
  pub operand : IsOneOf operands read
  pub at : ℕ
  pub names : fault ≡ Damaged read at
  pub found : IsTrue (tells after) → ((result ≡ fault) × IsWhole n (file (world before) read).bytes)
      ⊎ IsWholeFault n read (world before) result
  pub kind : result ≢ RunsSpent
  pub content : Told tells before after (Ran (Stays (now (world before))) (world before) (world after))
  pub faults : OnlySortShelf {T = Unit} (counts before) (counts after) (Err result)

-- the fault that is handed on in place of one that a sweep found
abbrev pub Confirms : {S : Type 0} → (S → Bool) → (S → World) → (S → Faults) → ℕ → OperandFiles → S → S → SortFault
    → SortFault → Type 0
Confirms tells world counts n operands before after fault result = HandsOn operands before after fault result
    ⊎ ReadsAgain tells world counts n operands before after fault result
