-- What a step that makes a diagram makes, leaves and costs, from its beginning or from its last checkpoint.
use Rattle.std.specs.Prelude.{◌≡◌, ℕ, ◌+◌, ◌-◌, ◌*◌, ◌^◌, ◌<◌, ◌≤◌, Bool, IsTrue, List, [], Result, IfOk, IfErr}
use Rattle.std.specs.Prelude.{IsErrOf}
use Rattle.std.specs.Prelude.{None}
use Rattle.shelf_model.specs.declared.file_no.FileNo.{FileNo}
use Rattle.shelf_model.specs.declared.sort_fault.SortFault.{SortFault}
use Rattle.shelf_model.specs.declared.sort_fault.SortFault.TheVariants.{RunsSpent}
use Rattle.shelf_model.specs.Calls.{Told}
use Rattle.shelf_model.specs.Faults.{Faults}
use Rattle.shelf_model.specs.Moments.{Ran, Throughout}
use Rattle.shelf_model.specs.World.{Moment, World, now, file}
use Rattle.file_numbers.specs.Files.{checkpoint_gate}
use Rattle.run_tiers.specs.Faults.{OnlySortShelf}
use Rattle.run_tiers.specs.Syncs.{IsFirm}
use Rattle.step_going.specs.Standing.{AreSafe, IsStanding}
use Rattle.sweep_checkpoint.specs.Stops.{StopsCost}
use Rattle.sweep_checkpoint.specs.declared.going.Going.{Going}
use Rattle.sweep_core.specs.Accounts.{NoneFilled}
use Rattle.sweep_core.specs.Saving.{reads_of}
use Rattle.sweep_core.specs.Sweeps.{IsNoDamage}
use Rattle.node_file.specs.Canonical.{IsMade}
use Rattle.node_reading.specs.Reading.{count_of}
use Rattle.resumable.specs.Diagrams.{DiagramGoesOn, diagram_rests}
use Rattle.step_sweeps.specs.declared.diagram.MadeDiagram.{MadeDiagram}
use Rattle.step_sweeps.specs.declared.task.Making.{Making}
use Rattle.step_sweeps.specs.Damage.{IsArcsFault}
use Rattle.step_sweeps.specs.Given.{Tables, AreGiven, made_by, nodes_by, work_by}
use Rattle.step_sweeps.specs.Going.{next_of, rest_calls}
use Rattle.step_sweeps.specs.Stops.{shown_by, step_stop}
use Rattle.step_sweeps.specs.Made.{node_file, OnlyStep, IsCounted, FewAnew}

-- the step's operands are the canonical files of these tables
abbrev pub IsGiven : Making → World → Tables → Type 0
IsGiven making world g = AreGiven making.operation making.n making.operands world g

-- the table that it makes of them, how many nodes they have, and the turns that this may take
abbrev pub table_by : Making → Tables → List Bool
table_by making g = made_by making.operation making.n g

abbrev pub nodes_for : Making → Tables → ℕ
nodes_for making g = nodes_by making.operation making.n g

abbrev pub work_for : Making → Tables → ℕ
work_for making g = work_by making.operation making.n g

-- in a reading the step goes on with them from its last gated checkpoint
abbrev pub goes_on_by : Making → Tables → (FileNo → List ℕ) → Type 0
goes_on_by making g = DiagramGoesOn making.operation making.n making.operands making.number g

-- the files of the operands are their own only images
pub record AreFirm (making : Making) (world : World) : Type 0 where
  pub first : IsFirm (file world making.operands.first)
  pub second : IsFirm (file world making.operands.second)
  pub third : IsFirm (file world making.operands.third)

-- the operands are the canonical files of these tables, and the step begins, or goes on with them from its last
-- checkpoint, whatever a stop leaves
pub record IsGivenFor (making : Making) (going : Going) (world : World) (g : Tables) : Type 0 where
  pub given : IsGiven making world g
  pub firm : AreFirm making world
  pub standing : IsStanding (goes_on_by making g) diagram_rests making.number
      (next_of going.last) (now world).folder going.last

-- how many nodes the files of the operands have
abbrev pub operand_nodes : Making → (FileNo → List ℕ) → ℕ
operand_nodes making r = count_of (r making.operands.first) + count_of (r making.operands.second)
    + count_of (r making.operands.third)

-- no checkpoint of the step is gated, as the gate is read
abbrev pub HasNoGate : ℕ → World → Type 0
HasNoGate number world = reads_of world (checkpoint_gate number) ≡ []

-- the node file is the canonical one of the table, and the turns are within the step's work
pub record IsDiagramOf (making : Making) (g : Tables) (m : MadeDiagram) (world : World) : Type 0 where
  pub made : IsMade making.n (table_by making g) (node_file making.number) m.nodes world
  pub few : m.turns ≤ work_for making g

-- a step makes its diagram, or is refused
pub record Makes {S : Type 0} (tells : S → Bool) (world : S → World) (counts : S → Faults) (making : Making)
    (going : Going) (before after : S) (result : Result MadeDiagram SortFault) : Type 0 where
  -- of canonical files the operation's diagram is made, within the step's work, and none of them is damaged; what a
  -- stop leaves at any moment can be begun or gone on with
  pub made : IfOk result (λ m. IsTrue (tells after) → (g : Tables) → IsGivenFor making going (world before) g
      → IsDiagramOf making g m (world after))
  pub undamaged : IfErr result (λ e. IsTrue (tells after) → (g : Tables) → IsGivenFor making going (world before) g
      → IsNoDamage e)
  pub spent : IsErrOf result RunsSpent → IsTrue (tells after) → (g : Tables)
      → IsGivenFor making going (world before) g → 2 ^ 35 ≤ work_for making g
  pub few_calls : IsTrue (tells after) → (g : Tables) → IsGivenFor making going (world before) g
      → (world after).clock ≤ (world before).clock
      + (229 * work_for making g + 11 + rest_calls going.last (operand_nodes making (reads_of (world before))))
  pub images : IsTrue (tells after) → (g : Tables) → IsGivenFor making going (world before) g
      → Throughout (world before) (world after)
      (λ (m : Moment). AreSafe (goes_on_by making g) making.number m.folder)
  -- whatever the files hold: where the step began anew a place is named only where an operand is damaged, and only
  -- files of the step are changed
  pub damaged : IfErr result (λ e. IsTrue (tells after) → going.last ≡ None → HasNoGate making.number (world before)
      → IsArcsFault making.operation making.n making.operands (world before) e)
  pub content : Told tells before after
      (Ran (OnlyStep making.number (now (world before))) (world before) (world after))
  -- no file of the step is filled whose part wasn't taken
  pub untaken : IfOk result (λ m. IsTrue (tells after) → NoneFilled making.number m.next (world before) (world after))
  pub counted : IfOk result (λ m. IsCounted m.turns m.next)
  pub few_anew : IfOk result (λ m. going.last ≡ None → FewAnew m.turns m.next)
  pub calls : IfOk result (λ m. IsTrue (tells after) → m.turns < 2 ^ 64 - 1 → (world after).clock
      ≤ (world before).clock + (229 * (m.turns - going.turns) + 11
      + rest_calls going.last (operand_nodes making (reads_of (world before)))))
  pub grew : IfOk result (λ m. going.turns ≤ m.turns)
  -- what a stop costs at any moment
  pub stops : IsTrue (tells after) → (g : Tables) → IsGivenFor making going (world before) g
      → work_for making g < 2 ^ 61 → StopsCost making.number (shown_by going.last) ((world before).clock
      + (step_stop + rest_calls going.last (operand_nodes making (reads_of (world before)))))
      (world before) (world after)
  pub faults : OnlySortShelf (counts before) (counts after) result
