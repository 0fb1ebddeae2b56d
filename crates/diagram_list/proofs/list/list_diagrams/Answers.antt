use Rattle.std.proofs.Common.{subst, sym}
use Rattle.shelf_model.specs.Calls.{Told}
use Rattle.diagram_list.specs.Faults.{list_fault}
use Rattle.diagram_list.specs.Lists.{Lists}
use Rattle.diagram_list.proofs.Saying.{err_is}
use Rattle.diagram_list.proofs.Listed.{lists_none, lists_said}
use Rattle.diagram_list.proofs.list.list_diagrams.Goals as goal

pub returns-in_err-mark_dropped-clause-content : goal.returns-in_err-mark_dropped-clause-content
returns-in_err-mark_dropped-clause-content g c =
    let old = g.W.Shelf.world c.args.station.now in
    let mid = g.W.Shelf.world c.look.new.shelf in
    let new = g.W.Shelf.world c.mark_dropped.new.shelf in
    let fault = c.in_err-mark_dropped.field-0.0 in
    subst (λ r. Told g.W.Shelf.tells c.args.station.now c.mark_dropped.new.shelf (Lists r old new))
    (sym (err_is c.from_residual-in_err-mark_dropped.result (list_fault fault) c.from_residual-in_err-mark_dropped.ensures.1))
    (record {
      before = λ tells. c.in_ok-standing.ensures.content.before (c.in_err-mark_dropped.ensures.content.before tells);
      did = λ tells.
          let tells_mid = c.in_err-mark_dropped.ensures.content.before tells in
          lists_none fault c.in_ok-standing.standing.done old mid new (c.in_ok-standing.ensures.content.did tells_mid) (c.in_err-mark_dropped.ensures.content.did tells)
          (sym (c.in_ok-standing.ensures.ok tells_mid).reads.count) (c.in_err-mark_dropped.ensures.err tells);
    })

pub returns-clause-content : goal.returns-clause-content
returns-clause-content g c =
    let old = g.W.Shelf.world c.args.station.now in
    let mid = g.W.Shelf.world c.look.new.shelf in
    let late = g.W.Shelf.world c.mark_dropped.new.shelf in
    let new = g.W.Shelf.world c.say_lines.new.station in
    record {
      before = λ tells. c.in_ok-standing.ensures.content.before (c.in_ok-mark_dropped.ensures.content.before (c.say_lines.ensures.content.before tells));
      did = λ tells.
          let tells_late = c.say_lines.ensures.content.before tells in
          let tells_mid = c.in_ok-mark_dropped.ensures.content.before tells_late in
          lists_said c.say_lines.result c.in_ok-standing.standing.done c.mark_dropped.new.dropped old mid late new (c.in_ok-standing.ensures.content.did tells_mid) (c.in_ok-mark_dropped.ensures.content.did tells_late)
          (sym (c.in_ok-standing.ensures.ok tells_mid).reads.count) (c.in_ok-mark_dropped.ensures.ok tells_late) (c.say_lines.ensures.content.did tells);
    }
