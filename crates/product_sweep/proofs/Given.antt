-- The files of two operands, as those that an operator is given.
use Rattle.std.proofs.Common.{ℕ, Bool, List, refl}
use Rattle.shelf_model.specs.declared.file_no.FileNo.{FileNo}
use Rattle.shelf_model.specs.World.{World}
use Rattle.bool_tables.specs.declared.steps.Bin.{Bin}
use Rattle.sweep_core.specs.Accounts.{CanBeTaken}
use Rattle.sweep_operations.specs.declared.steps.StepOperation.TheVariants.{Operator}
use Rattle.node_file.specs.Canonical.{IsCanonicalFile}
use Rattle.table_work.specs.Given.{Tables}
use Rattle.table_work.specs.Tables.{operand_files, AreGivenTo}

-- two tables, of which the second one also stands third
abbrev pub two_tables : List Bool → List Bool → Tables
two_tables t u = record { first = t; second = u; third = u }

pub given_two : (step n : ℕ) (op : Bin) (f g : FileNo) (world : World) (t u : List Bool)
    → IsCanonicalFile n t f world → IsCanonicalFile n u g world → ¬ CanBeTaken step 3 f → ¬ CanBeTaken step 3 g
    → AreGivenTo step (Operator op) n (operand_files f g g) world (two_tables t u)
given_two step n op f g world t u first second first_stays second_stays = record {
  files = record { first = first; second = second; third = second; repeated = refl };
  first_stays = first_stays;
  second_stays = second_stays;
  third_stays = second_stays;
}
