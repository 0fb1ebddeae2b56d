use Rattle.std.proofs.Common.{subst, sym, arith}
use Rattle.reduce_lists.specs.Changes.{ComesNext}
use Rattle.reduce_lists.proofs.NextArcs.{shown_comes}
use Rattle.reduce_sweep.specs.Sweeps.{held_of}
use Rattle.reduce_sweep.proofs.reduce.ReduceSweep.next_arc.Goals as goal
use Rattle.std.proofs.lemmas.Grind.{common_steps}

-- the arc with the greater source comes next
pub returns-clause-first : goal.returns-clause-first
returns-clause-first g c = λ told k holds.
    subst (ComesNext k) (sym c.greatest.ensures)
    (shown_comes (held_of c.first_queued.new.self) _ k c.in_ok-queued.queued
    (c.in_ok-queued.ensures.shown told k holds))

pub returns-clause-shown : goal.returns-clause-shown
returns-clause-shown g c = grind (arith, common_steps)
