-- Where an operand's file is damaged.
use Rattle.std.specs.Prelude.{◌≡◌, ◌⊎◌, ℕ, Some}
use Rattle.rec_words.specs.Words.{IsNodeWord}
use Rattle.file_numbers.specs.Files.{checkpoint_file}
use Rattle.shelf_model.specs.declared.file_no.FileNo.{FileNo}
use Rattle.shelf_model.specs.declared.sort_fault.SortFault.{SortFault}
use Rattle.shelf_model.specs.declared.sort_fault.SortFault.TheVariants.{Shelf, Damaged, RunsSpent}
use Rattle.shelf_model.specs.World.{World}
use Rattle.level_queue.specs.Queues as queues
use Rattle.sweep_core.specs.Resting.{checkpoint_place}
use Rattle.sweep_core.specs.Saving.{reads_of}
use Rattle.top_down.specs.declared.tuple.Tuple.{Tuple}
use Rattle.top_down.specs.Rules.{Rule}
use Rattle.tuple_asks.specs.declared.ask.Ask.{Ask}
use Rattle.top_down_sweep.specs.declared.machine.Machine.{Machine}
use Rattle.top_down_sweep.specs.declared.sweep.TopDownSweep.{TopDownSweep}
use Rattle.top_down_sweep.specs.Knowing.{bytes_in}
use Rattle.tuple_asks.specs.Knowing.{KnowsMembers, StaysKnown}
use Rattle.top_down_sweep.specs.Sweeps.{files_in}
use Rattle.top_down_sweep.specs.Waiting.{AreApart}
use Rattle.tuple_asks.specs.Damage.{IsOperandDamage}

-- an operand is damaged, in which the first ask wants a node; the operands' files know what that ask names, where the
-- operation makes of pointers that they know such pointers alone
pub record IsAskDamage (rule : Rule) (begins : Tuple → Tuple) (m : Machine) (world : World) (f : FileNo) (at : ℕ)
    : Type 0 where
  pub ask : Ask
  pub node : IsNodeWord ask.key
  pub shown_is : queues.shown m.queue ≡ Some ask
  pub known : StaysKnown rule begins (bytes_in m world) → KnowsMembers (bytes_in m world) ask.members
  pub damaged :
      IsOperandDamage m.place.variables m.operands.first ask.key ask.members.first world f at
      ⊎ (IsOperandDamage m.place.variables m.operands.second ask.key ask.members.second world f at
      ⊎ IsOperandDamage m.place.variables m.operands.third ask.key ask.members.third world f at)

-- damage is that of an operand, where they are apart from what the sweep writes
abbrev pub IsMachineDamage : Rule → (Tuple → Tuple) → Machine → World → SortFault → Type 0
IsMachineDamage rule begins m world Shelf = Unit
IsMachineDamage rule begins m world (Damaged f at) = AreApart (files_in m) m.parts.step
    → IsAskDamage rule begins m world f at
IsMachineDamage rule begins m world RunsSpent = Unit

-- the fault is a failed call, or damage of the file of a step's checkpoints
abbrev pub IsOfCheckpoint : ℕ → SortFault → Type 0
IsOfCheckpoint step Shelf = Unit
IsOfCheckpoint step (Damaged f at) = f ≡ checkpoint_file step
IsOfCheckpoint step RunsSpent = ⊥

-- it names the first byte of the last checkpoint that the step's gate counts, or of the file where it counts none
abbrev pub IsCheckpointDamage : ℕ → World → SortFault → Type 0
IsCheckpointDamage step world Shelf = Unit
IsCheckpointDamage step world (Damaged f at) = (f ≡ checkpoint_file step)
    × (at ≡ checkpoint_place step (reads_of world))
IsCheckpointDamage step world RunsSpent = ⊥

abbrev pub IsDamage : {O : Type 0} → (O → Rule) → (O → Tuple → Tuple) → TopDownSweep O → World → SortFault → Type 0
IsDamage rule begins s world e = IsMachineDamage (rule s.operation) (begins s.operation) s.machine world e
