use Rattle.std.proofs.Common.{arith}
use Rattle.std.proofs.lemmas.Grind.{common_steps}
use Rattle.host_station.proofs.handle.Handle.write_again.Goals as goal

pub slice_bounds-piece-end-2 : goal.slice_bounds-piece-end-2
slice_bounds-piece-end-2 g c = grind (arith, common_steps)

pub slice_bounds-write_all_at-end : goal.slice_bounds-write_all_at-end
slice_bounds-write_all_at-end g c = grind (arith, common_steps)
