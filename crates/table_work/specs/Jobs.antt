-- What a sweep is still to make of a step's table, and how many turns remain of that.
use Rattle.std.specs.Prelude.{◌≡◌, ◌≤◌, ℕ, ◌+◌, ◌*◌, Bool, List, length, Option, IfSome}
use Rattle.shelf_model.specs.World.{World}
use Rattle.bool_tables.specs.Steps.{step_table}
use Rattle.bool_tables.specs.declared.steps.Step.{Step}
use Rattle.arc_file.specs.declared.unreduced.Unreduced.{Unreduced}
use Rattle.step_work.specs.Tuples.{tuple_count}
use Rattle.step_work.specs.Works.{nodes_of}
use Rattle.top_down.specs.declared.tuple.Tuple.{Tuple}
use Rattle.top_down.specs.Rules.{Rule}
use Rattle.top_down_sweep.specs.declared.sweep.TopDownSweep.{TopDownSweep}
use Rattle.top_down_sweep.specs.Making.{TableJob, Makes, Gives}
use Rattle.top_down_sweep.specs.Turns.{AllMet, turns_left}

-- a table of n variables of which a diagram is to be made, and how many tuples may be met for it
pub record TableWork : Type 0 where
  pub n : ℕ
  pub table : List Bool
  pub tuples : ℕ

abbrev pub table_job : TableWork → TableJob
table_job job = record { n = job.n; table = job.table }

-- the table of a step whose operands have these tables, and the tuples of pieces that the step joins
abbrev pub work_of_step : ℕ → Step → List (List Bool) → TableWork
work_of_step n step tables = record {
  n = n;
  table = step_table n tables step;
  tuples = tuple_count n step tables;
}

-- a task of that table remains, which meets no more tuples than so many
pub record MakesWithin {O : Type 0} (rule : O → Rule) (begins : O → Tuple → Tuple) (s : TopDownSweep O)
    (world : World) (job : TableWork) : Type 0 where
  pub makes : Makes rule begins s world (table_job job)
  pub tuples : List Tuple
  pub all_met : AllMet makes.task tuples
  pub few : length tuples ≤ job.tuples

-- no more turns than these remain
abbrev pub turns_of : {O : Type 0} → TopDownSweep O → World → TableWork → ℕ
turns_of s world job = turns_left s.machine world job.tuples

-- six turns for each tuple that a step joins, three for each node of its operands, and five: less than half of the
-- step's work
abbrev pub arcs_turns : ℕ → Step → List (List Bool) → ℕ
arcs_turns n step tables = 6 * tuple_count n step tables + 3 * nodes_of n tables + 5

-- the arcs have sources, two arcs for each, and these are no more than so many
pub record HasFewSources (most : ℕ) (arcs : Unreduced) : Type 0 where
  pub sources : ℕ
  pub two_each : arcs.inner_count + arcs.ends_count ≡ 2 * sources
  pub few : sources ≤ most

-- what is told of the arcs that were made: they have no more sources than tuples may be met
pub record GivesWithin {O : Type 0} (rule : O → Rule) (begins : O → Tuple → Tuple) (s : TopDownSweep O)
    (made : Option Unreduced) : Type 0 where
  pub gives : Gives rule begins s made
  pub few_sources : (world : World) (job : TableWork) → MakesWithin rule begins s world job
      → IfSome made (HasFewSources job.tuples)
