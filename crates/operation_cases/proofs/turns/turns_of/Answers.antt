use Rattle.std.proofs.Common.{refl}
use Rattle.operation_cases.proofs.turns.turns_of.Goals as goal

-- the sweep that was started may be driven
pub run_to_end-requires : goal.run_to_end-requires
run_to_end-requires g c κs = ((refl, tt), (c.in_ok-sweep.ensures.ready, c.in_ok-sweep.ensures.in_step))
