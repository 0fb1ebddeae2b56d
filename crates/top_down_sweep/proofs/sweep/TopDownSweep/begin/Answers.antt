use Rattle.std.proofs.Common.{◌≡◌, ◌+◌, ◌*◌, ap, subst, arith, IfOk, IfErr, IsTrue}
use Rattle.shelf_model.specs.declared.file_no.FileNo.{FileNo}
use Rattle.std.specs.Prelude.{length}
use Rattle.sweep_core.specs.Sweeps.{IsNoDamage}
use Rattle.top_down_sweep.specs.Meaning.{Task, IsTaskOn, Remains}
use Rattle.top_down_sweep.specs.Turns.{Work, nodes_of, left_of}
use Rattle.top_down_sweep.proofs.BegunSweeps.{begun_of}
use Rattle.top_down_sweep.proofs.sweep.TopDownSweep.begin.Goals as goal

-- the files are the operands' and the next two parts, and the parts are those of the same step
pub returns-clause-remains : goal.returns-clause-remains
returns-clause-remains g c = subst (λ v. v) (λ j. IfOk c.start.result (λ s.
    IsTrue (g.S.Shelf.tells c.start.new.shelf) → (t : Task) → IsTaskOn t
    (g.O.Operation.rule c.args.operation) (g.O.Operation.begins c.args.operation) c.args.n
    (c.in_ok-files.ensures.files j) (c.in_ok-files.ensures.after j).step
    (g.S.Shelf.world c.args.shelf.now) → Remains g.O.Operation.rule g.O.Operation.begins s
    (g.S.Shelf.world c.start.new.shelf) t)) c.start.ensures.remains

pub returns-clause-undamaged : goal.returns-clause-undamaged
returns-clause-undamaged g c = subst (λ v. v) (λ j. IfErr c.start.result (λ e.
    IsTrue (g.S.Shelf.tells c.start.new.shelf) → (t : Task) → IsTaskOn t
    (g.O.Operation.rule c.args.operation) (g.O.Operation.begins c.args.operation) c.args.n
    (c.in_ok-files.ensures.files j) (c.in_ok-files.ensures.after j).step
    (g.S.Shelf.world c.args.shelf.now) → IsNoDamage e)) c.start.ensures.undamaged

-- so many turns remain as after a start
pub returns-clause-left : goal.returns-clause-left
returns-clause-left g c = subst (λ v. v) (λ j. IfOk c.start.result (λ s.
    IsTrue (g.S.Shelf.tells c.start.new.shelf) → (w : Work) → IsTaskOn w.task
    (g.O.Operation.rule c.args.operation) (g.O.Operation.begins c.args.operation) c.args.n
    (c.in_ok-files.ensures.files j) (c.in_ok-files.ensures.after j).step
    (g.S.Shelf.world c.args.shelf.now) → left_of s (g.S.Shelf.world c.start.new.shelf) w
    ≡ 6 * length w.tuples + nodes_of w.task.diagrams + 5)) c.start.ensures.left

pub returns-clause-begun : goal.returns-clause-begun
returns-clause-begun g c = begun_of g.O.Operation.rule g.O.Operation.begins g.S.Shelf.tells g.S.Shelf.world _ _ _ _ _ _
    c.start.result c.in_ok-files.ensures.files c.in_ok-files.ensures.after
    (λ same. let part : c.args.parts.next ≡ c.args.parts.next + 1 = ap (λ (f : FileNo). f.part) same in
    absurd (omega (arith, part)))
    c.start.ensures.ready c.start.ensures.in_step c.start.ensures.trusts c.start.ensures.files c.start.ensures.parts
    c.start.ensures.made c.start.ensures.stock c.start.ensures.calls
