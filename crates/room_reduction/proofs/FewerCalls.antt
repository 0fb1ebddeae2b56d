-- How many calls a write takes at most.
use Rattle.std.proofs.Common.{ℕ, ◌≤◌, arith}
use Rattle.shelf_model.specs.declared.file_no.FileNo.{FileNo}
use Rattle.shelf_model.specs.World.{World}
use Rattle.block_stream.specs.Writes.{Wrote}

-- fewer calls are no more
pub wrote_within : (m n : ℕ) (f : FileNo) (old new : World) → m ≤ n → Wrote m f old new → Wrote n f old new
wrote_within m n f old new within wrote = record {
  run = wrote.run;
  few = let few = wrote.few in omega (arith, few, within);
}
