-- The operation that a step is, and the files that it is made of.
use Rattle.std.specs.Prelude.{Option, Some, None}
use Rattle.bool_tables.specs.declared.steps.Step.{Step}
use Rattle.bool_tables.specs.declared.steps.Step.TheVariants.{Const, Var, Pair, Ite, Quantify, Restrict, Drop, Same}
use Rattle.bool_tables.specs.declared.steps.Step.TheVariants.{Leq, Eval, Size}
use Rattle.sweep_operations.specs.declared.steps.StepOperation.TheVariants as operations
pub use Rattle.resumable.specs.Kinds.{files_of}
use Rattle.step_engine.specs.declared.sweeping.Sweeping.{Sweeping}

-- a step that makes a diagram of others is an operation on their files: the last one stands for those that aren't used
abbrev pub sweeping_of : Step → Option Sweeping
sweeping_of (Const value) = None
sweeping_of (Var level) = None
sweeping_of (Pair op left right) =
    Some (record { operation = operations.Operator op; operands = files_of left right right })
sweeping_of (Ite test if_one if_zero) =
    Some (record { operation = operations.Choice; operands = files_of test if_one if_zero })
sweeping_of (Quantify kind operand level) =
    Some (record { operation = operations.Quantifier kind level; operands = files_of operand operand operand })
sweeping_of (Restrict operand level value) =
    Some (record { operation = operations.Restriction level value; operands = files_of operand operand operand })
sweeping_of (Drop gone) = None
sweeping_of (Same left right) = None
sweeping_of (Leq left right) = None
sweeping_of (Eval operand at) = None
sweeping_of (Size operand) = None
