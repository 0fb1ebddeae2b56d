use Rattle.std.proofs.Common.{arith}
use Rattle.room_reduction.proofs.RowOrder.{rising_by_next}
use Rattle.room_reduction.proofs.rows.are_rising.Goals as goal

pub returns : goal.returns
returns c rises = rising_by_next c.args.rows.now (λ k d below. c.loop-place.invariant k d (omega (arith, below)))
