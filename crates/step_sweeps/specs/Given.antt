-- The diagrams that an operation is given: canonical files of tables.
use Rattle.std.specs.Prelude.{ℕ, ◌<◌}
use Rattle.top_down_sweep.specs.declared.beginning.OperandFiles.{OperandFiles}
pub use Rattle.resumable.specs.Diagrams.{made_by, tuples_by, nodes_by, work_by}
pub use Rattle.table_work.specs.Given.{Tables, used_by, AreRepeated, AreGiven}

-- the operands' files are of earlier steps than that one
pub record AreEarlier (number : ℕ) (operands : OperandFiles) : Type 0 where
  pub first : operands.first.step < number
  pub second : operands.second.step < number
  pub third : operands.third.step < number
