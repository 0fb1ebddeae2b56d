use Rattle.std.proofs.Common.{refl}
use Rattle.sweep_checkpoint.proofs.Loaded.{synced_first, asked_on, reads_on, load_some, load_fails}
use Rattle.sweep_checkpoint.proofs.loading.load.Goals as goal

pub returns-in_err-count-clause-content : goal.returns-in_err-count-clause-content
returns-in_err-count-clause-content g c =
    let synced = synced_first g.S.Shelf.tells g.S.Shelf.world c.args.step c.checkpoint_gate-gate.result _ _ _ c.checkpoint_gate-gate.ensures g.met.S.Shelf.files_are c.in_ok-sync.ensures.content in
    asked_on g.S.Shelf.tells g.S.Shelf.world c.args.step c.checkpoint_gate-gate.result _ _ _ _ synced c.in_err-count.ensures.content

pub returns-in-Err-clause-content : goal.returns-in-Err-clause-content
returns-in-Err-clause-content g c =
    let synced = synced_first g.S.Shelf.tells g.S.Shelf.world c.args.step c.checkpoint_gate-gate.result _ _ _ c.checkpoint_gate-gate.ensures g.met.S.Shelf.files_are c.in_ok-sync.ensures.content in
    let asked = asked_on g.S.Shelf.tells g.S.Shelf.world c.args.step c.checkpoint_gate-gate.result _ _ _ _ synced c.in_ok-count.ensures.content in
    reads_on g.S.Shelf.tells g.S.Shelf.world c.args.step _ _ _ asked c.in-Err.ensures.content

pub returns-in-Err-clause-err : goal.returns-in-Err-clause-err
returns-in-Err-clause-err g c =
    load_fails g.S.Shelf.tells g.S.Shelf.world c.args.step c.checkpoint_gate-gate.result c.in_ok-count.count _ _ _ _ _ _ c.checkpoint_gate-gate.ensures c.if-count-eq0.false refl g.met.S.Shelf.files_are
    c.in_ok-sync.ensures.content c.in_ok-count.ensures.content c.in-Err.ensures.content c.in-Err.ensures.err

pub returns-in-Ok-clause-content : goal.returns-in-Ok-clause-content
returns-in-Ok-clause-content g c =
    let synced = synced_first g.S.Shelf.tells g.S.Shelf.world c.args.step c.checkpoint_gate-gate.result _ _ _ c.checkpoint_gate-gate.ensures g.met.S.Shelf.files_are c.in_ok-sync.ensures.content in
    let asked = asked_on g.S.Shelf.tells g.S.Shelf.world c.args.step c.checkpoint_gate-gate.result _ _ _ _ synced c.in_ok-count.ensures.content in
    reads_on g.S.Shelf.tells g.S.Shelf.world c.args.step _ _ _ asked c.in-Ok.ensures.content

pub returns-in-Ok-clause-ok : goal.returns-in-Ok-clause-ok
returns-in-Ok-clause-ok g c =
    load_some g.S.Shelf.tells g.S.Shelf.world c.args.step c.checkpoint_gate-gate.result c.in_ok-count.count _ _ _ _ _ _ c.checkpoint_gate-gate.ensures c.if-count-eq0.false refl
    c.in_ok-sync.ensures.content c.in_ok-count.ensures.content c.in-Ok.ensures.content c.in-Ok.ensures.ok
