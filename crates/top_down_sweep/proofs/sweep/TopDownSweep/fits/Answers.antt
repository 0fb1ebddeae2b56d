use Rattle.std.proofs.Common.{refl}
use Rattle.top_down_sweep.proofs.Begun.{rules_of}
use Rattle.top_down_sweep.proofs.sweep.TopDownSweep.fits.Goals as goal

-- its words are those of a machine
pub returns-then-has_queue : goal.returns-then-has_queue
returns-then-has_queue g c = (
  λ keeps. record {
    queue = c.if-has_queue.ensures.0 refl;
    saved = c.in-Some.saved;
    operation = c.in-Some._operation;
    holds = c.in-Some.ensures.found;
    rules = c.keeps_rules.ensures.0 keeps;
  },
  λ fits. c.keeps_rules.ensures.1 (rules_of g.O.Carried c.args.point.now c.in-Some.saved c.in-Some._operation
      c.in-Some.ensures.found fits),
)

-- or of none
pub returns-in-None : goal.returns-in-None
returns-in-None g c = (
  λ t. absurd (cc),
  λ fits. absurd (c.in-None.ensures.none (fits.saved, fits.operation)
      fits.holds),
)
