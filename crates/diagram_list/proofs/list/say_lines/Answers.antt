use Rattle.std.proofs.Common.{◌∙◌, subst, sym, arith}
use Rattle.std.specs.Prelude.{Result, Ok, Err}
use Rattle.shelf_model.specs.World.{now}
use Rattle.shelf_model.specs.Calls.{Told}
use Rattle.catalogue.specs.Counts.{present}
use Rattle.diagram_list.specs.declared.fault.ListFault.{ListFault}
use Rattle.diagram_list.specs.Listing.{listing}
use Rattle.diagram_list.specs.Lists.{SaysText}
use Rattle.diagram_list.proofs.Saying.{err_is}
use Rattle.diagram_list.proofs.Loops.{lines_on, lines_stopped}
use Rattle.diagram_list.proofs.list.say_lines.Goals as goal

pub returns-in_err-say_step-clause-content : goal.returns-in_err-say_step-clause-content
returns-in_err-say_step-clause-content g c =
    let old = g.W.Shelf.world c.args.station.now in
    let mid = g.W.Shelf.world c.loop-k.station in
    let new = g.W.Shelf.world c.say_step.new.station in
    let fault = c.in_err-say_step.field-0.0 in
    subst (λ r. Told g.W.Shelf.tells c.args.station.now c.say_step.new.station (SaysText (listing (present (now old).folder)) r old new))
    (sym (err_is c.from_residual.result fault c.from_residual.ensures.1))
    (record {
      before = λ tells. c.loop-k.invariant.said.before (c.in_err-say_step.ensures.content.before tells);
      did = λ tells.
          let tells_mid = c.in_err-say_step.ensures.content.before tells in
          let tells_old = c.loop-k.invariant.said.before tells_mid in
          lines_stopped c.loop-k.k c.args.done fault old new (c.requires.committed tells_old) c.loop-k-test.true
          (lines_on c.loop-k.k (let r : Result Unit ListFault = Err fault in r) old mid new (c.loop-k.invariant.said.did tells_mid) (c.in_err-say_step.ensures.content.did tells));
    })

pub loop-k-preserved : goal.loop-k-preserved
loop-k-preserved g c =
    let old = g.W.Shelf.world c.args.station.now in
    let mid = g.W.Shelf.world c.loop-k.station in
    let new = g.W.Shelf.world c.say_step.new.station in
    let before = c.loop-k.invariant.causes in
    let after = c.in_ok-say_step.ensures.causes in
    record {
      said = record {
        before = λ tells. c.loop-k.invariant.said.before (c.in_ok-say_step.ensures.content.before tells);
        did = λ tells.
            lines_on c.loop-k.k (let r : Result Unit ListFault = Ok tt in r) old mid new (c.loop-k.invariant.said.did (c.in_ok-say_step.ensures.content.before tells)) (c.in_ok-say_step.ensures.content.did tells);
      };
      calls = λ tells.
          let so_far = c.loop-k.invariant.calls (c.in_ok-say_step.ensures.content.before tells) in
          let more = c.in_ok-say_step.ensures.calls tells in
          omega (arith, so_far, more);
      causes = record {
        folder_later = let a = before.folder_later in let b = after.folder_later in omega (arith, a, b);
        say_later = let a = before.say_later in let b = after.say_later in omega (arith, a, b);
        folder_fault = λ is. cc;
        say_fault = λ is. cc;
        text_is = λ path. after.text_is path ∙ before.text_is path;
      };
    }
