use Rattle.reduce_sweep.proofs.reduce.ReduceSweep.pass.Goals as goal

-- the first arc of the queue was taken
pub returns-then-queued-clause-passed : goal.returns-then-queued-clause-passed
returns-then-queued-clause-passed g c = rw c.if-queued.true c.take.ensures.taken

-- the arc to a truth value before it is the next one
pub returns-clause-passed : goal.returns-clause-passed
returns-clause-passed g c = rw c.if-queued.false c.read_end.ensures.passed
