use Rattle.std.proofs.lemmas.Result.{on_ok_weaker}
use Rattle.top_down_sweep.specs.Turns.{Work}
use Rattle.top_down_sweep.proofs.Doing.{refused_spent}
use Rattle.top_down_sweep.proofs.Holding.{if_err_map}
use Rattle.top_down_sweep.proofs.sweep.TopDownSweepSweep.turn.Goals as goal

-- what remains of the work's task is kept
pub returns-clause-keeps : goal.returns-clause-keeps
returns-clause-keeps g c = on_ok_weaker c.turn.result
    (λ keeps told (w : Work) remains. keeps told w.task remains) c.turn.ensures.keeps

pub returns-clause-undamaged : goal.returns-clause-undamaged
returns-clause-undamaged g c = if_err_map c.turn.result
    (λ e none told (w : Work) remains. none told w.task remains) c.turn.ensures.undamaged

-- it is refused for want of a part number where none is left
pub returns-clause-spent : goal.returns-clause-spent
returns-clause-spent g c = refused_spent c.turn.new.self c.turn.result
    c.turn.ensures.refused
