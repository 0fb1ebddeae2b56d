-- What is seen of a copy under way, and what a turn of it does.
use Rattle.std.specs.Prelude.{◌≡◌, ◌≢◌, ℕ, ◌+◌, ◌-◌, ◌*◌, ◌<◌, ◌≤◌, min, Bool, IsTrue, List, length, take, Result, OnOk, IfErr}
use Rattle.shelf_model.specs.declared.file_no.FileNo.{FileNo}
use Rattle.shelf_model.specs.declared.sort_fault.SortFault.{SortFault}
use Rattle.shelf_model.specs.declared.sort_fault.SortFault.TheVariants.{Shelf}
use Rattle.shelf_model.specs.Calls.{longest, most_piece}
use Rattle.shelf_model.specs.Faults.{Faults}
use Rattle.shelf_model.specs.World.{World, file}
use Rattle.sweep_core.specs.Accounts.{Accounts, Leaves}
use Rattle.sweep_core.specs.Sweeps.{Falls, MovesOn, AtEnd, IsFirm}
use Rattle.sweep_core.specs.declared.turn.Turn.{Turn}
use Rattle.copy_sweep.specs.declared.copy.CopySweep.{CopySweep}

-- it makes its file, and takes no part
abbrev pub accounts : Accounts CopySweep
accounts = record {
  makes = λ s f. f ≡ s.task.to;
  step = λ s. s.parts.step;
  next = λ s. s.parts.next;
  credit = λ s. 0;
  stock = λ s. 0;
}

-- the turns that remain: one for each piece, and one more
abbrev pub fuel_of : CopySweep → ℕ
fuel_of s = s.task.pieces + 1 - s.turns

-- those that don't end it
abbrev pub left_of : CopySweep → ℕ
left_of s = s.task.pieces - s.turns

-- another file is made, within the longest
pub record IsReady (s : CopySweep) : Type 0 where
  pub apart : s.task.from ≢ s.task.to
  pub few : s.task.pieces * most_piece ≤ longest
  pub within : s.turns ≤ s.task.pieces + 1

-- where the file that is read has more, what was copied ends where the next piece is put; and once a turn more was
-- made than there are pieces, it stands there whatever a stop leaves
pub record IsInStep (s : CopySweep) (world : World) : Type 0 where
  pub at_end : s.turns < s.task.pieces → s.turns * most_piece < length (file world s.task.from).bytes
      → length (file world s.task.to).bytes ≡ s.turns * most_piece
  pub firm : s.task.pieces < s.turns → IsFirm (file world s.task.to)

-- a piece stands for each turn
abbrev pub HasCopied : CopySweep → World → Type 0
HasCopied s world = (file world s.task.to).bytes
    ≡ take (min s.turns s.task.pieces * most_piece) (file world s.task.from).bytes

-- these bytes are copied, and a piece of them stands for each turn
pub record Copies (s : CopySweep) (world : World) (bytes : List ℕ) : Type 0 where
  pub bytes_are : (file world s.task.from).bytes ≡ bytes
  pub copied : HasCopied s world

-- the folder failed, which is the only cause of a refusal
abbrev pub IsFailure : SortFault → Type 0
IsFailure e = e ≡ Shelf

-- what a turn does, leaves and costs, and why it is refused
pub record Turned {S : Type 0} (tells : S → Bool) (world : S → World) (counts : S → Faults)
    (before after : S) (old new : CopySweep) (result : Result Turn SortFault) : Type 0 where
  pub ready : OnOk result (IsReady new)
  pub in_step : OnOk result (IsTrue (tells after) → IsInStep new (world after))
  pub trusts : OnOk result (IsTrue (tells after) → HasCopied old (world before) → HasCopied new (world after))
  pub falls : Falls (fuel_of old) (fuel_of new) result
  pub firm : AtEnd result (IsTrue (tells after) → (f : FileNo) → f ≡ new.task.to → IsFirm (file (world after) f))
  pub keeps : OnOk result (IsTrue (tells after) → (bytes : List ℕ) → Copies old (world before) bytes →
      Copies new (world after) bytes)
  pub fewer : MovesOn 1 (left_of old) (left_of new) result
  pub refused : IfErr result IsFailure
  pub leaves : Leaves tells world counts accounts 224 12 before after old new result
  pub same : new.task ≡ old.task
  pub parts_are : new.parts ≡ old.parts
