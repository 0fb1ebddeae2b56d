use Rattle.std.specs.Prelude.{IsTrue}
use Rattle.run_tiers.proofs.FaultLaws.{on_fault}
use Rattle.sweep_core.specs.Saving.{reads_of}
use Rattle.top_down_sweep.specs.Resumes.{top_saving}
use Rattle.table_work.proofs.TableResumes.{ready_rebuilt, rebuilt_tables, undamaged_stands}
use Rattle.table_work.proofs.sweep.TableSweepSweep.rebuild.Goals as goal

-- the two files that the checkpoint names are two
pub returns-clause-ready : goal.returns-clause-ready
returns-clause-ready g c = ready_rebuilt g.O.Carried c.args.from.now c.in_ok-sweep.sweep c.requires.fits
    c.in_ok-sweep.ensures.names c.in_ok-sweep.ensures.ready

-- what the checkpoint stood for remains
pub returns-clause-remains : goal.returns-clause-remains
returns-clause-remains g c = rebuilt_tables g.O.Operation.rule g.O.Operation.begins
    (top_saving g.O.Carried g.O.Operation.rule g.O.Operation.begins) c.args.from.now c.args.text.now
    (reads_of (g.S.Shelf.world c.args.shelf.now)) (IsTrue (g.S.Shelf.tells c.rebuild.new.shelf)) c.in_ok-sweep.sweep
    (g.S.Shelf.world c.rebuild.new.shelf) c.in_ok-sweep.ensures.remains

-- and no file is damaged then
pub returns-in_err-sweep-clause-undamaged : goal.returns-in_err-sweep-clause-undamaged
returns-in_err-sweep-clause-undamaged g c = on_fault c.from_residual.result c.in_err-sweep.field-0.0 _
    c.from_residual.ensures.1 (undamaged_stands g.O.Operation.rule g.O.Operation.begins
    (top_saving g.O.Carried g.O.Operation.rule g.O.Operation.begins) c.args.from.now c.args.text.now
    (reads_of (g.S.Shelf.world c.args.shelf.now)) (IsTrue (g.S.Shelf.tells c.rebuild.new.shelf))
    c.in_err-sweep.field-0.0 c.in_err-sweep.ensures.undamaged)

-- it never lacks a part number
pub returns-in_err-sweep-clause-kind : goal.returns-in_err-sweep-clause-kind
returns-in_err-sweep-clause-kind g c = on_fault c.from_residual.result c.in_err-sweep.field-0.0 _
    c.from_residual.ensures.1 c.in_err-sweep.ensures.kind
