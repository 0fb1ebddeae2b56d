-- What is still to be made of a step's table, and sweeps that are seen as a sweep from the root down.
use Rattle.std.proofs.Common.{◌≡◌, ℕ, ◌+◌, ◌*◌, ◌≤◌, List, Bool, sym, subst, arith}
use Rattle.std.specs.Prelude.{Result, Option, Some, None, OnOk, IfErr, IfSome, length}
use Rattle.std.proofs.lemmas.Result.{on_ok_weaker}
use Rattle.shelf_model.specs.declared.sort_fault.SortFault.{SortFault}
use Rattle.shelf_model.specs.World.{World}
use Rattle.arc_file.specs.declared.unreduced.Unreduced.{Unreduced}
use Rattle.bool_tables.specs.declared.steps.Step.{Step}
use Rattle.step_work.specs.Tuples.{tuple_count}
use Rattle.step_work.specs.Works.{work_for}
use Rattle.sweep_core.specs.Sweeps.{Falls, MovesOn, IsNoDamage}
use Rattle.sweep_core.specs.declared.turn.Turn.{Turn}
use Rattle.top_down.specs.declared.tuple.Tuple.{Tuple}
use Rattle.top_down.specs.Rules.{Rule}
use Rattle.tuple_asks.specs.declared.files.Files.{Files}
use Rattle.top_down_sweep.specs.declared.sweep.TopDownSweep.{TopDownSweep}
use Rattle.top_down_sweep.specs.Fuel.{fuel_of}
use Rattle.top_down_sweep.specs.Meaning.{Task, IsTaskOn, IsMadeWhere, Remains}
use Rattle.top_down_sweep.specs.Sweeps.{made_in}
use Rattle.top_down_sweep.specs.Turns.{Work, AllMet, nodes_of, left_of}
use Rattle.top_down_sweep.proofs.Holding.{if_err_map}
use Rattle.top_down_sweep.proofs.Makings.{gives}
use Rattle.top_down_sweep.proofs.TurnKeeps.{made_where}
use Rattle.table_work.specs.Works.{IsWorkOn}
use Rattle.table_work.specs.Jobs.{TableWork, work_of_step, MakesWithin, turns_of, arcs_turns, HasFewSources, GivesWithin}
use Rattle.table_work.proofs.Sources.{sources_are, sources_few}
use Rattle.table_work.proofs.Turns.{left_of_more, moves_of_more}

-- what was made of a task has few sources
few_where : (t : Task) (world : World) (o : Option Unreduced) (tuples : List Tuple) (most : ℕ) → AllMet t tuples
    → length tuples ≤ most → IsMadeWhere t world o → IfSome o (HasFewSources most)
few_where t world None tuples most all few made = tt
few_where t world (Some x) tuples most all few made =
    let within : length made.whole.tuples ≤ length tuples = sources_few t world x made tuples all in
    record {
      sources = length made.whole.tuples;
      two_each = sources_are t world x made;
      few = omega (arith, within, few);
    }

module _ {O : Type 0} (rule : O → Rule) (begins : O → Tuple → Tuple) where
  -- what is told of the arcs that a sweep has made
  pub gives_within : (s : TopDownSweep O) (o : Option Unreduced) → o ≡ made_in s → GivesWithin rule begins s o
  gives_within s o is = record {
    gives = gives rule begins s o is;
    few_sources = λ world job is_made. subst (λ (x : Option Unreduced). IfSome x (HasFewSources job.tuples)) (sym is)
        (few_where is_made.makes.task world (made_in s) is_made.tuples job.tuples is_made.all_met is_made.few
        (made_where is_made.makes.task (begins s.operation) s.machine.place.phase s.machine world
        is_made.makes.remains.left));
  }

  -- of a task on files, of which few tuples are met, the step's table remains to be made
  pub makes_within : (operation : O) (s : TopDownSweep O) (n number : ℕ) (files : Files) (step : Step)
      (tables : List (List Bool)) (old new : World) → ((t : Task) → IsTaskOn t (rule operation)
      (begins operation) n files number old → Remains rule begins s new t)
      → IsWorkOn (rule operation) (begins operation) n files number old step tables
      → MakesWithin rule begins s new (work_of_step n step tables)
  makes_within operation s n number files step tables old new remains is = record {
    makes = record {
      task = is.work.task;
      variables_are = is.on_files.variables_are;
      table_is = is.table_is;
      remains = remains is.work.task is.on_files;
    };
    tuples = is.work.tuples;
    all_met = is.work.all_met;
    few = is.few_tuples;
  }

  -- and few turns remain of it
  pub few_left : (operation : O) (s : TopDownSweep O) (n number : ℕ) (files : Files) (step : Step)
      (tables : List (List Bool)) (old new : World) → ((w : Work) → IsTaskOn w.task (rule operation)
      (begins operation) n files number old
      → left_of s new w ≡ 6 * length w.tuples + nodes_of w.task.diagrams + 5)
      → IsWorkOn (rule operation) (begins operation) n files number old step tables
      → turns_of s new (work_of_step n step tables) ≤ arcs_turns n step tables
  few_left operation s n number files step tables old new left is =
      let more = left_of_more s.machine.place.phase s.machine new (length is.work.tuples)
      (tuple_count n step tables) is.few_tuples in
      omega (arith, more, left is.work is.on_files, is.few_tuples, is.few_nodes)

  -- what keeps each task keeps each table
  pub keeps_within : {T : Type 0} (told : Type 0) (r : Result T SortFault) (p q : TopDownSweep O)
      (old new : World) → OnOk r (told → (t : Task) → Remains rule begins p old t
      → Remains rule begins q new t) → OnOk r (told → (job : TableWork)
      → MakesWithin rule begins p old job → MakesWithin rule begins q new job)
  keeps_within told r p q old new = on_ok_weaker r (λ keeps is job within. record {
    makes = record {
      task = within.makes.task;
      variables_are = within.makes.variables_are;
      table_is = within.makes.table_is;
      remains = keeps is within.makes.task within.makes.remains;
    };
    tuples = within.tuples;
    all_met = within.all_met;
    few = within.few;
  })

  -- no file is damaged while a table is to be made
  pub undamaged_within : {T : Type 0} (told : Type 0) (r : Result T SortFault)
      (p : TopDownSweep O) (old : World) → IfErr r (λ e. told → (t : Task)
      → Remains rule begins p old t → IsNoDamage e) → IfErr r (λ e. told → (job : TableWork)
      → MakesWithin rule begins p old job → IsNoDamage e)
  undamaged_within told r p old = if_err_map r (λ e none is job within. none is within.makes.task
      within.makes.remains)

  -- a turn less remains of each table
  pub fewer_within : (told : Type 0) (r : Result Turn SortFault) (p q : TopDownSweep O) (old new : World)
      → Falls (fuel_of p) (fuel_of q) r
      → (told → (w : Work) → Remains rule begins p old w.task → MovesOn 1 (left_of p old w) (left_of q new w) r)
      → told → (job : TableWork) → MakesWithin rule begins p old job
      → MovesOn 1 (turns_of p old job) (turns_of q new job) r
  fewer_within told r p q old new falls moves is job within =
      moves_of_more p.machine.place.phase q.machine.place.phase p.machine q.machine old new (length within.tuples)
      job.tuples (fuel_of p) _ r within.few falls
      (moves is (record { task = within.makes.task; tuples = within.tuples; all_met = within.all_met })
      within.makes.remains)

-- so many turns are less than half of the step's work
pub half_of_work : (n : ℕ) (step : Step) (tables : List (List Bool)) (turns : ℕ) → turns ≤ arcs_turns n step tables
    → 2 * turns ≤ work_for n step tables
half_of_work n step tables turns few = omega (arith, few)
