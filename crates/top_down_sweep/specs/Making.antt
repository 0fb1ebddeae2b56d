-- What a sweep is still to make, by the table alone.
use Rattle.std.specs.Prelude.{◌≡◌, ◌↔◌, ℕ, List, Bool, Option, IsSome, IfSome}
use Rattle.shelf_model.specs.World.{World}
use Rattle.arc_file.specs.declared.unreduced.Unreduced.{Unreduced}
use Rattle.sweep_core.specs.Accounts.{Accounts}
use Rattle.top_down.specs.declared.tuple.Tuple.{Tuple}
use Rattle.top_down.specs.Rules.{Rule}
use Rattle.top_down_sweep.specs.declared.sweep.TopDownSweep.{TopDownSweep}
use Rattle.top_down_sweep.specs.Beginning.{IsReady}
use Rattle.top_down_sweep.specs.Fuel.{fuel_of}
use Rattle.top_down_sweep.specs.Meaning.{Task, table_of, Remains}
use Rattle.top_down_sweep.specs.Sweeps.{files_of, made_in, HasMade}
use Rattle.top_down_sweep.specs.Tasks.{AreArcFiles}

-- a table of n variables, of which a diagram is to be made
pub record TableJob : Type 0 where
  pub n : ℕ
  pub table : List Bool

-- a task of that table remains
pub record Makes {O : Type 0} (rule : O → Rule) (begins : O → Tuple → Tuple) (s : TopDownSweep O)
    (world : World) (job : TableJob) : Type 0 where
  pub task : Task
  pub variables_are : task.n ≡ job.n
  pub table_is : table_of task ≡ job.table
  pub remains : Remains rule begins s world task

-- arcs are there exactly once the sweep has ended; they stand in its two files, and are a diagram of
-- the table that was to be made
pub record Gives {O : Type 0} (rule : O → Rule) (begins : O → Tuple → Tuple) (s : TopDownSweep O)
    (made : Option Unreduced) : Type 0 where
  pub made_is : made ≡ made_in s
  pub at_end : IsSome made ↔ (fuel_of s ≡ 0)
  pub in_files : IsReady s → IfSome made (HasMade (files_of s).inner (files_of s).ends)
  pub of_table : (world : World) (job : TableJob) → Makes rule begins s world job
      → IfSome made (λ arcs. AreArcFiles job.n job.table arcs world)

-- the accounts of what is seen as a sweep
abbrev pub accounts_along : {P Q : Type 0} → (Q → P) → Accounts P → Accounts Q
accounts_along view accounts = record {
  makes = λ q f. accounts.makes (view q) f;
  step = λ q. accounts.step (view q);
  next = λ q. accounts.next (view q);
  credit = λ q. accounts.credit (view q);
  stock = λ q. accounts.stock (view q);
}
