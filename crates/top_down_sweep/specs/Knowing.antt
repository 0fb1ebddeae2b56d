-- Which pointers the operands' files know, and which asks name such pointers alone.
use Rattle.shelf_model.specs.World.{World, file}
use Rattle.top_down_sweep.specs.declared.machine.Machine.{Machine}
use Rattle.tuple_asks.specs.Knowing.{FileBytes}

abbrev pub bytes_in : Machine → World → FileBytes
bytes_in m world = record {
  first = (file world m.operands.first.file).bytes;
  second = (file world m.operands.second.file).bytes;
  third = (file world m.operands.third.file).bytes;
}
