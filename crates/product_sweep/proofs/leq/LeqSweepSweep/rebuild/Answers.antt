use Rattle.top_down.specs.Operations.{implies}
use Rattle.std.specs.Prelude.{IsTrue}
use Rattle.run_tiers.proofs.FaultLaws.{on_fault}
use Rattle.sweep_core.specs.Saving.{reads_of}
use Rattle.product_sweep.proofs.LeqResumes.{leq_ready, leq_step, leq_remains, leq_undamaged}
use Rattle.product_sweep.proofs.leq.LeqSweepSweep.rebuild.Goals as goal

-- it is as far as the sweep that makes its arcs
pub returns-clause-ready : goal.returns-clause-ready
returns-clause-ready g c = leq_ready c.in_ok-product.product c.phase_of-phase.result c.phase_of-phase.ensures
    c.in_ok-product.ensures.ready

pub returns-clause-in_step : goal.returns-clause-in_step
returns-clause-in_step g c told = leq_step c.in_ok-product.product c.phase_of-phase.result
    (g.S.Shelf.world c.rebuild.new.shelf) c.phase_of-phase.ensures (c.in_ok-product.ensures.in_step told)

-- what the checkpoint stood for remains
pub returns-clause-remains : goal.returns-clause-remains
returns-clause-remains g c = leq_remains c.in_ok-product.product c.phase_of-phase.result c.args.from.now c.args.text.now
    (reads_of (g.S.Shelf.world c.args.shelf.now)) (IsTrue (g.S.Shelf.tells c.rebuild.new.shelf))
    (g.S.Shelf.world c.rebuild.new.shelf) c.phase_of-phase.ensures c.in_ok-product.ensures.remains

-- and no file is damaged then
pub returns-in_err-product-clause-undamaged : goal.returns-in_err-product-clause-undamaged
returns-in_err-product-clause-undamaged g c = on_fault c.from_residual.result c.in_err-product.field-0.0 _
    c.from_residual.ensures.1 (leq_undamaged c.args.from.now c.args.text.now
    (reads_of (g.S.Shelf.world c.args.shelf.now)) (IsTrue (g.S.Shelf.tells c.rebuild.new.shelf))
    c.in_err-product.field-0.0 c.in_err-product.ensures.undamaged)

-- it never lacks a part number
pub returns-in_err-product-clause-kind : goal.returns-in_err-product-clause-kind
returns-in_err-product-clause-kind g c = on_fault c.from_residual.result c.in_err-product.field-0.0 _
    c.from_residual.ensures.1 c.in_err-product.ensures.kind

-- whatever the operator, it reads as much again
pub returns-in_err-product-clause-calls : goal.returns-in_err-product-clause-calls
returns-in_err-product-clause-calls g c told task names = c.rebuild.ensures.calls told (task, record { op = implies }) names

pub returns-clause-calls : goal.returns-clause-calls
returns-clause-calls g c told task names = c.rebuild.ensures.calls told (task, record { op = implies }) names
