-- A step that makes its diagram by sweeps, begun or gone on with: its arcs, and their reduction.
use Rattle.std.specs.Prelude.{◌≡◌, ◌≢◌, ◌⊎◌, ℕ, ◌+◌, ◌-◌, ◌*◌, ◌^◌, ◌<◌, ◌≤◌, max, Bool, IsTrue, List, Option, Some}
use Rattle.std.specs.Prelude.{None, length}
use Rattle.std.specs.Prelude.{Result, IfOk, IfErr, IsErrOf, OnOk}
use Rattle.shelf_model.specs.declared.file_no.FileNo.{FileNo}
use Rattle.shelf_model.specs.declared.sort_fault.SortFault.{SortFault}
use Rattle.shelf_model.specs.declared.sort_fault.SortFault.TheVariants.{RunsSpent}
use Rattle.shelf_model.specs.Calls.{Told}
use Rattle.shelf_model.specs.Faults.{Faults}
use Rattle.shelf_model.specs.Moments.{Ran, Throughout}
use Rattle.shelf_model.specs.World.{Moment, World, now, file}
use Rattle.file_numbers.specs.Files.{checkpoint_file}
use Rattle.run_tiers.specs.declared.parts.Parts.{Parts}
use Rattle.run_tiers.specs.Faults.{OnlySortShelf}
use Rattle.run_tiers.specs.Syncs.{IsFirm}
use Rattle.step_going.specs.Standing.{AreSafe, IsStanding}
use Rattle.sweep_checkpoint.specs.Going.{SameGoing, IsPaid, interval_of, first_owed}
use Rattle.sweep_checkpoint.specs.Rules.{KeepsRules}
use Rattle.sweep_checkpoint.specs.Saves.{gated_size}
use Rattle.sweep_checkpoint.specs.Stops.{StopsCost}
use Rattle.sweep_checkpoint.specs.declared.going.Going.{Going}
use Rattle.sweep_core.specs.declared.checkpoint.Checkpoint.{Checkpoint}
use Rattle.sweep_core.specs.Accounts.{NoneFilled}
use Rattle.sweep_core.specs.Saving.{reads_of}
use Rattle.sweep_core.specs.Sweeps.{IsNoDamage}
use Rattle.node_file.specs.Canonical.{IsMade}
use Rattle.copy_sweep.specs.declared.copy.CopyTask.{CopyTask}
use Rattle.copy_sweep.specs.Resumes.{Names}
use Rattle.reduce_sweep.specs.Resumes as reductions
use Rattle.resumable.specs.Diagrams.{diagram_rests}
use Rattle.top_down_sweep.specs.Ordered.{AreOrdered}
use Rattle.top_down_sweep.specs.Tasks.{AreArcFiles}
use Rattle.step_sweeps.specs.declared.arcs.MadeArcs.{MadeArcs}
use Rattle.step_sweeps.specs.declared.diagram.MadeDiagram.{MadeDiagram}
use Rattle.step_sweeps.specs.declared.diagram.Stage.{Stage}
use Rattle.step_sweeps.specs.declared.diagram.Stage.TheVariants.{Anew, Copying, MakingArcs, Reducing}
use Rattle.step_sweeps.specs.declared.task.Making.{Making}
use Rattle.step_sweeps.specs.Damage.{MissesAsked, AsksOwn, MissesIn, IsOperandsFault, IsArcsFault}
use Rattle.step_sweeps.specs.Given.{Tables, tuples_by}
use Rattle.step_sweeps.specs.Going.{rest_calls}
use Rattle.step_sweeps.specs.Stops.{shown_by, arcs_stop, sweeps_stop, IsSaidOf}
use Rattle.step_sweeps.specs.Made.{node_file, OnlyStep, HasArcFiles, HasSources, IsCounted, FewAnew}
use Rattle.step_sweeps.specs.Makes.{IsGiven, IsGivenFor, HasNoGate, table_by, nodes_for, work_for, goes_on_by}
use Rattle.step_sweeps.specs.Makes.{operand_nodes}

-- the step goes on from this checkpoint: it is of the first sweep or the second one, and keeps the rules; and the turns
-- are those that it shows
pub record IsAtPoint (going : Going) (c : Checkpoint) : Type 0 where
  pub last_is : going.last ≡ Some c
  pub rules : KeepsRules going.step c
  pub turns_are : going.turns ≡ c.turns
  pub sweep_is : going.sweep ≡ c.sweep
  pub paid : IsPaid c

-- where a step stands: nothing was done of it, or by its last checkpoint it is at a copy, which is a first sweep
-- without tables, at the sweep that makes arcs, which has some, or at the reduction, which is the second sweep
abbrev pub IsAtStage : Going → Stage → Type 0
IsAtStage going Anew = going.last ≡ None
IsAtStage going Copying = (c : Checkpoint) × (going.last ≡ Some c) × (c.sweep ≢ 1) × (c.tables ≡ 0)
IsAtStage going MakingArcs = (c : Checkpoint) × (going.last ≡ Some c) × (c.sweep ≢ 1) × (0 < c.tables)
IsAtStage going Reducing = (c : Checkpoint) × (going.last ≡ Some c) × (c.sweep ≡ 1)

-- the file is that of one of an operator's operands
abbrev pub IsOperand : Making → FileNo → Type 0
IsOperand making f = (f ≡ making.operands.first) ⊎ (f ≡ making.operands.second)

-- the checkpoint says that it is copied to the step's node file
pub record IsCopyFor (making : Making) (c : Checkpoint) : Type 0 where
  pub task : CopyTask
  pub names : Names c task
  pub operand : IsOperand making task.from
  pub to_is : task.to ≡ node_file making.number

-- the checkpoint says that arcs in files of the step are reduced to its node file
pub record IsReductionFor (making : Making) (c : Checkpoint) : Type 0 where
  pub makes : reductions.Makes c (node_file making.number) making.n
  pub own : reductions.ReadsArcsOf c making.number

-- a step of that number goes on from a checkpoint, and another is due after no fewer turns than the least room has
-- records
pub record MayResume (number : ℕ) (going : Going) : Type 0 where
  pub step_is : going.step ≡ number
  pub budget : 16384 ≤ going.budget
  pub shown_is : going.shown ≡ going.turns
  pub point : Checkpoint
  pub at_point : IsAtPoint going point

-- the sweep that makes a step's arcs begins, whatever turns were made before, or it goes on from a checkpoint of it
abbrev pub IsComeToArcs : Option Checkpoint → Going → Type 0
IsComeToArcs None going = Unit
IsComeToArcs (Some c) going = IsAtPoint going c × (0 < c.tables)

pub record MaySweep (number : ℕ) (going : Going) : Type 0 where
  pub step_is : going.step ≡ number
  pub budget : 16384 ≤ going.budget
  pub shown_is : going.shown ≡ going.turns
  pub sweep_is : going.sweep ≡ 0
  pub come_to : IsComeToArcs going.last going

-- where it begins, no more turns were made than two for each node of the operands, and one
abbrev pub IsEarly : {S : Type 0} → (S → Bool) → (S → World) → Making → Going → S → Type 0
IsEarly tells world making going before = IsTrue (tells before) → (g : Tables) → IsGiven making (world before) g
    → going.last ≡ None → going.turns ≤ 2 * nodes_for making g + 1

-- the most turns of the step when the sweeps have ended: of those that began the turns before, sixteen for each tuple
-- that is joined, three for each node and fifteen; and else its work
abbrev pub most_turns : Option Checkpoint → Making → Going → Tables → ℕ
most_turns None making going g = going.turns
    + (16 * tuples_by making.operation making.n g + 3 * nodes_for making g + 15)
most_turns (Some c) making going g = work_for making g

-- the most that the sweep that makes arcs leaves of them: ten for each tuple, and ten, may follow
abbrev pub arcs_most : Making → Going → Tables → ℕ
arcs_most making going g = most_turns going.last making going g - (10 * tuples_by making.operation making.n g + 10)

-- a step goes on to its diagram by sweeps, or is refused
pub record Sweeps {S : Type 0} (tells : S → Bool) (world : S → World) (counts : S → Faults) (making : Making)
    (going : Going) (before after : S) (result : Result MadeDiagram SortFault) : Type 0 where
  pub made : IfOk result (λ m. IsTrue (tells after) → (g : Tables) → IsGivenFor making going (world before) g
      → IsMade making.n (table_by making g) (node_file making.number) m.nodes (world after)
      × (m.turns ≤ most_turns going.last making going g))
  pub undamaged : IfErr result (λ e. IsTrue (tells after) → (g : Tables) → IsGivenFor making going (world before) g
      → IsNoDamage e)
  pub spent : IsErrOf result RunsSpent → IsTrue (tells after) → (g : Tables)
      → IsGivenFor making going (world before) g → 2 ^ 35 ≤ work_for making g
  pub few_calls : IsTrue (tells after) → (g : Tables) → IsGivenFor making going (world before) g
      → (world after).clock + 229 * going.turns ≤ (world before).clock
      + (229 * most_turns going.last making going g + 11
      + rest_calls going.last (operand_nodes making (reads_of (world before))))
  pub images : IsTrue (tells after) → (g : Tables) → IsGivenFor making going (world before) g
      → Throughout (world before) (world after)
      (λ (m : Moment). AreSafe (goes_on_by making g) making.number m.folder)
  pub damaged : IfErr result (λ e. IsTrue (tells after) → going.last ≡ None → HasNoGate making.number (world before)
      → IsArcsFault making.operation making.n making.operands (world before) e)
  pub content : Told tells before after
      (Ran (OnlyStep making.number (now (world before))) (world before) (world after))
  -- no file of the step is filled whose part wasn't taken
  pub untaken : IfOk result (λ m. IsTrue (tells after) → NoneFilled making.number m.next (world before) (world after))
  pub counted : IfOk result (λ m. (going.turns ≤ m.turns) × IsCounted m.turns m.next)
  pub few_anew : IfOk result (λ m. going.last ≡ None → FewAnew m.turns m.next)
  pub calls : IfOk result (λ m. IsTrue (tells after) → m.turns < 2 ^ 64 - 1
      → (world after).clock + 229 * going.turns ≤ (world before).clock
      + (229 * m.turns + 11 + rest_calls going.last (operand_nodes making (reads_of (world before)))))
  -- what a stop costs at any moment
  pub stops : IsTrue (tells after) → (g : Tables) → IsGivenFor making going (world before) g
      → work_for making g < 2 ^ 61 → StopsCost making.number (shown_by going.last) ((world before).clock
      + (sweeps_stop + rest_calls going.last (operand_nodes making (reads_of (world before)))))
      (world before) (world after)
  pub faults : OnlySortShelf (counts before) (counts after) result

-- the file of a step's checkpoints has all that the gate counts
abbrev pub IsCovered : ℕ → World → Type 0
IsCovered number world = gated_size number (now world).folder ≤ length (reads_of world (checkpoint_file number))

-- few part numbers were taken from the first ones on, so that the next checkpoint is paid for
pub record IsPaidUp (going : Going) (next : ℕ) : Type 0 where
  pub interval : 16384 ≤ interval_of going.budget
  pub shown : going.shown ≤ going.turns
  pub paid : 256 * next ≤ 131072 + 16 * going.shown + 12 * (going.turns - going.shown) + 60928

-- a step that began anew took them from 5 on, where 256 pay for each: a turn pays 12, and a save 4,608, which shows
-- 16,384 turns or more, so nine of 32 for each turn that is shown
abbrev pub IsTakenFor : Going → ℕ → Type 0
IsTakenFor going next = 32 * (256 * next) ≤ 32 * (1280 + 12 * going.turns) + 9 * going.shown

-- the arcs of a step of that number may be reduced: the parts are the step's, behind the first ones, and few were taken
pub record MayReduce (number : ℕ) (going : Going) (parts : Parts) : Type 0 where
  pub step_is : going.step ≡ number
  pub of_step : parts.step ≡ number
  pub past : 5 ≤ parts.next
  pub below : parts.next ≤ 2 ^ 32
  pub paid : IsPaidUp going parts.next

-- turns, with the parts that they took and as many as were paid for before, and saves, each behind 16,384 of so many
-- turns that no checkpoint showed
pub record Takes (turns unshown before : ℕ) : Type 0 where
  pub saves : ℕ
  pub parts : ℕ
  pub few_saves : 16384 * saves ≤ unshown
  pub few_parts : 256 * parts ≤ 256 * before + (12 * turns + 4608 * saves)

-- what they cost in calls of the folder: 224 for each turn, 66,126 for each save, and one for each part
abbrev pub calls_of : {turns unshown before : ℕ} → Takes turns unshown before → ℕ
calls_of {turns} t = 224 * turns + 66126 * t.saves + t.parts

-- the most parts that turns before the last checkpoint paid for, and that weren't taken
abbrev pub owed_parts : Option Checkpoint → ℕ
owed_parts None = 0
owed_parts (Some c) = 198

-- the arcs are those of a diagram of the table, with no more sources than the tuples that are joined, and sure; and the
-- step stands with its last checkpoint, which doesn't rest on its node file
pub record HasArcsOf (making : Making) (g : Tables) (m : MadeArcs) (world : World) : Type 0 where
  pub arcs : AreArcFiles making.n (table_by making g) m.arcs world
  pub sources : ℕ
  pub has_sources : HasSources m.arcs sources
  pub inner_firm : IsFirm (file world m.arcs.inner)
  pub ends_firm : IsFirm (file world m.arcs.ends)
  pub last : Option Checkpoint
  pub standing : IsStanding (goes_on_by making g) diagram_rests making.number m.parts.next
      (now world).folder last
  pub apart : (c : Checkpoint) → last ≡ Some c → (f : FileNo) (n : ℕ)
      → diagram_rests c f n → f ≢ node_file making.number

-- so they were made: the most turns of the step leave ten for each source, and nine
pub record AreArcsOf (making : Making) (old new : Going) (g : Tables) (m : MadeArcs) (world : World) : Type 0 where
  pub has : HasArcsOf making g m world
  pub few_sources : has.sources ≤ tuples_by making.operation making.n g
  pub few : new.turns + (10 * tuples_by making.operation making.n g + 9) ≤ most_turns old.last making old g
  pub said : IsSaidOf old new has.last

-- what the sweep that makes them takes, where so many turns are left: a turn for each, and one, which leave ten for
-- each tuple, and nine, of the most that the step may take
pub record TakesFew (making : Making) (going : Going) (g : Tables) : Type 0 where
  pub left : ℕ
  pub few : going.turns + left + (10 * tuples_by making.operation making.n g + 10)
      ≤ most_turns going.last making going g
  pub takes : Takes (left + 1) left (owed_parts going.last)

-- a step's arcs are made, or that is refused by one who misses nodes of the operands in that way
pub record ComesToArcs (Misses : List ℕ → ℕ → Type 0) {S : Type 0} (tells : S → Bool) (world : S → World)
    (counts : S → Faults) (making : Making) (old new : Going) (before after : S) (result : Result MadeArcs SortFault)
    : Type 0 where
  pub going : SameGoing old new
  pub files : IfOk result (λ m. HasArcFiles making.number m.arcs)
  pub parts : IfOk result (λ m. (m.parts.step ≡ making.number) × ((5 ≤ m.parts.next) × (m.parts.next ≤ 2 ^ 32)))
  pub made : IfOk result (λ m. IsTrue (tells after) → (g : Tables) → IsGivenFor making old (world before) g
      → AreArcsOf making old new g m (world after))
  pub undamaged : IfErr result (λ e. IsTrue (tells after) → (g : Tables) → IsGivenFor making old (world before) g
      → IsNoDamage e)
  pub spent : IsErrOf result RunsSpent → IsTrue (tells after) → (g : Tables)
      → IsGivenFor making old (world before) g → 2 ^ 35 ≤ work_for making g
  pub images : IsTrue (tells after) → (g : Tables) → IsGivenFor making old (world before) g
      → Throughout (world before) (world after)
      (λ (m : Moment). AreSafe (goes_on_by making g) making.number m.folder)
  pub damaged : IfErr result (λ e. IsTrue (tells after) → old.last ≡ None → HasNoGate making.number (world before)
      → IsOperandsFault Misses making.n making.operands (world before) e)
  pub ordered : IfOk result (λ m. IsTrue (tells after) → old.last ≡ None → HasNoGate making.number (world before)
      → AreOrdered m.arcs (world after) × IsCovered making.number (world after))
  pub content : Told tells before after
      (Ran (OnlyStep making.number (now (world before))) (world before) (world after))
  -- no file of the step is filled whose part wasn't taken
  pub untaken : IfOk result (λ m. IsTrue (tells after)
      → NoneFilled making.number m.parts.next (world before) (world after))
  -- the turns grew, and few parts were taken for them
  pub grew : OnOk result (old.turns ≤ new.turns)
  pub paid : IfOk result (λ m. IsPaidUp new m.parts.next)
  pub taken : IfOk result (λ m. old.last ≡ None → IsTakenFor new m.parts.next)
  pub recent : OnOk result (new.turns < 2 ^ 61 → new.turns - new.shown ≤ interval_of old.budget)
  -- what it cost, and how many parts a save may have to cut from then on
  pub calls : IfOk result (λ m. new.turns < 2 ^ 64 - 1 → (old.shown ≤ new.shown)
      × (t : Takes (new.turns - old.turns) (new.shown - old.shown) (owed_parts old.last))
      × (m.parts.next ≤ first_owed new.last m.parts.next + t.parts)
      × (IsTrue (tells after) → (world after).clock + 2 * owed_parts old.last ≤ (world before).clock
      + (calls_of t + 8 + rest_calls old.last (operand_nodes making (reads_of (world before))))))
  pub few_calls : IsTrue (tells after) → (g : Tables) → IsGivenFor making old (world before) g
      → (few : TakesFew making old g)
      × IfOk result (λ m. (16384 * few.takes.saves + old.shown ≤ new.shown)
      × (m.parts.next ≤ first_owed new.last m.parts.next + few.takes.parts))
      × ((world after).clock + 2 * owed_parts old.last ≤ (world before).clock
      + (calls_of few.takes + 8 + rest_calls old.last (operand_nodes making (reads_of (world before)))))
  -- what a stop costs at any moment
  pub stops : IsTrue (tells after) → (g : Tables) → IsGivenFor making old (world before) g
      → work_for making g < 2 ^ 61 → StopsCost making.number (shown_by old.last) ((world before).clock
      + (arcs_stop + rest_calls old.last (operand_nodes making (reads_of (world before)))))
      (world before) (world after)
  pub faults : OnlySortShelf (counts before) (counts after) result

-- so the sweep makes them, or is refused
abbrev pub SweepsArcs : {S : Type 0} → (S → Bool) → (S → World) → (S → Faults) → Making → Going → Going → S → S
    → Result MadeArcs SortFault → Type 0
SweepsArcs tells world counts making = ComesToArcs (MissesAsked (AsksOwn making.operation making.operands)) tells world
    counts making

-- and so they are made once an operand in which it found damage was read whole
abbrev pub MakesArcs : {S : Type 0} → (S → Bool) → (S → World) → (S → Faults) → Making → Going → Going → S → S
    → Result MadeArcs SortFault → Type 0
MakesArcs tells world counts making = ComesToArcs (MissesIn making.operation making.operands) tells world counts making

-- the arcs are such, and with so many turns for each source and nine the turns are within the step's work
pub record AreReducible (making : Making) (going : Going) (g : Tables) (each : ℕ) (m : MadeArcs) (world : World)
    : Type 0 where
  pub has : HasArcsOf making g m world
  pub few : going.turns + (each * has.sources + 9) ≤ work_for making g

-- a step's arcs are reduced to its node file, behind the turns that made them, with so many more for each source; a
-- stop costs so many calls at most beyond those for turns that it leaves shown
pub record Reduces {S : Type 0} (tells : S → Bool) (world : S → World) (counts : S → Faults) (making : Making)
    (arcs : MadeArcs) (going : Going) (each stop : ℕ) (before after : S)
    (result : Result MadeDiagram SortFault) : Type 0
  where
    pub made : IfOk result (λ m. IsTrue (tells after) → (g : Tables)
        → (are : AreReducible making going g each arcs (world before))
        → IsMade making.n (table_by making g) (node_file making.number) m.nodes (world after)
        × (m.turns ≤ going.turns + (each * are.has.sources + 9)))
    pub spent : IsErrOf result RunsSpent → IsTrue (tells after) → (g : Tables)
        → AreReducible making going g each arcs (world before) → 2 ^ 35 ≤ work_for making g
    pub images : IsTrue (tells after) → (g : Tables) → AreReducible making going g each arcs (world before)
        → Throughout (world before) (world after)
        (λ (m : Moment). AreSafe (goes_on_by making g) making.number m.folder)
    -- of arcs in the order of their files
    pub undamaged : IfErr result (λ e. IsTrue (tells after) → AreOrdered arcs.arcs (world before)
        → IsCovered making.number (world before) → IsNoDamage e)
    pub content : Told tells before after
        (Ran (OnlyStep making.number (now (world before))) (world before) (world after))
    -- parts were taken in turn, and no file of the step is filled whose part wasn't
    pub untaken : IfOk result (λ m. (arcs.parts.next ≤ m.next)
        × (IsTrue (tells after) → NoneFilled making.number m.next (world before) (world after)))
    pub counted : IfOk result (λ m. (going.turns ≤ m.turns) × IsCounted m.turns m.next)
    pub taken : IfOk result (λ m. IsTakenFor going arcs.parts.next → FewAnew m.turns m.next)
    -- what that cost, where so many parts may have to be cut that were taken before
    pub calls : IfOk result (λ m. m.turns < 2 ^ 64 - 1 → (t : Takes (m.turns - going.turns) (m.turns - going.shown) 0)
        × (IsTrue (tells after) → (world after).clock ≤ (world before).clock
        + (calls_of t + 3 + (arcs.parts.next - first_owed going.last arcs.parts.next))))
    pub few_calls : IsTrue (tells after) → (g : Tables) → (are : AreReducible making going g each arcs (world before))
        → (t : Takes (each * are.has.sources + 9)
        (max going.shown (going.turns + (each * are.has.sources + 8)) - going.shown) 0)
        × ((world after).clock ≤ (world before).clock
        + (calls_of t + 3 + (arcs.parts.next - first_owed going.last arcs.parts.next)))
    -- what a stop costs at any moment, where the last checkpoint shows no more than is said
    pub stops : IsTrue (tells after) → (g : Tables) → (are : AreReducible making going g each arcs (world before))
        → work_for making g < 2 ^ 61 → shown_by are.has.last ≤ going.shown
        → StopsCost making.number (shown_by are.has.last) ((world before).clock + stop) (world before) (world after)
    pub faults : OnlySortShelf (counts before) (counts after) result
