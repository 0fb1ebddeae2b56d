-- What an operator's sweep is still to make.
use Rattle.shelf_model.specs.World.{World}
use Rattle.top_down.specs.declared.tuple.Tuple.{Tuple}
use Rattle.top_down.specs.Operations.{product_rule}
use Rattle.top_down.specs.Rules.{Rule}
use Rattle.top_down.specs.Tuples.{unused}
use Rattle.sweep_operations.specs.declared.product.Product.{Product}
use Rattle.table_work.specs.declared.sweep.TableSweep.{TableSweep}
use Rattle.table_work.specs.Jobs.{TableWork, MakesWithin}
use Rattle.table_work.specs.Tables.{sweep_of}

-- what the operator says of pairs of pointers, and the pair of the roots
abbrev pub rule_of : Product → Rule
rule_of o = product_rule o.op

abbrev pub begins_of : Product → Tuple → Tuple
begins_of o roots = record { first = roots.first; second = roots.second; third = unused }

-- a diagram of the table is still to be made, for which no more than so many tuples are met
abbrev pub MakesTable : TableSweep Product → World → TableWork → Type 0
MakesTable s world job = MakesWithin rule_of begins_of (sweep_of s) world job
