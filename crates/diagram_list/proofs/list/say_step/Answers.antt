use Rattle.std.proofs.Common.{◌∙◌, subst, sym}
use Rattle.std.specs.Prelude.{Result, Ok, Err}
use Rattle.shelf_model.specs.declared.fault.Failed.{Failed}
use Rattle.shelf_model.specs.World.{now}
use Rattle.shelf_model.specs.Calls.{Said}
use Rattle.catalogue.specs.Counts.{present}
use Rattle.diagram_list.proofs.Steps.{no_line, its_line}
use Rattle.diagram_list.proofs.Saying.{says_empty, says_line, says_part}
use Rattle.diagram_list.proofs.list.say_step.Goals as goal

pub returns-then-not-is_listed-clause-content : goal.returns-then-not-is_listed-clause-content
returns-then-not-is_listed-clause-content g c = record {
  before = c.in_ok-made.ensures.content.before;
  did = λ tells.
      let r = present (now (g.W.Shelf.world c.args.station.now)).folder in
      let next = c.requires.next (c.in_ok-made.ensures.content.before tells) in
      says_empty _ _ _ (c.in_ok-made.ensures.content.did tells)
      (no_line r c.args.k c.in_ok-made.made c.args.dropped c.is_listed.result next (c.in_ok-made.ensures.ok tells) c.is_listed.ensures c.if-not-is_listed.true);
}

pub returns-in-Ok-clause-content : goal.returns-in-Ok-clause-content
returns-in-Ok-clause-content g c = record {
  before = λ tells. c.in_ok-made.ensures.content.before (c.in-Ok.ensures.content.before tells);
  did = λ tells.
      let tells_read = c.in-Ok.ensures.content.before tells in
      let r = present (now (g.W.Shelf.world c.args.station.now)).folder in
      let next = c.requires.next (c.in_ok-made.ensures.content.before tells_read) in
      let line = its_line r c.args.k c.in_ok-made.made c.args.dropped c.is_listed.result next (c.in_ok-made.ensures.ok tells_read) c.is_listed.ensures c.if-not-is_listed.false in
      says_line _ (g.W.Shelf.world c.args.station.now) (g.W.Shelf.world c.entry.new.shelf) (g.W.Shelf.world c.say.new.self) (c.in_ok-made.ensures.content.did tells_read)
      (subst (λ bytes. Said bytes (let x : Result Unit Failed = Ok tt in x) (g.W.Shelf.world c.entry.new.shelf) (g.W.Shelf.world c.say.new.self)) (c.as_slice.ensures.value ∙ c.diagram_line-line.ensures.text ∙ sym line) (c.in-Ok.ensures.content.did tells));
}

pub returns-in-Err-clause-content : goal.returns-in-Err-clause-content
returns-in-Err-clause-content g c = record {
  before = λ tells. c.in_ok-made.ensures.content.before (c.in-Err.ensures.content.before tells);
  did = λ tells.
      let tells_read = c.in-Err.ensures.content.before tells in
      let r = present (now (g.W.Shelf.world c.args.station.now)).folder in
      let next = c.requires.next (c.in_ok-made.ensures.content.before tells_read) in
      let line = its_line r c.args.k c.in_ok-made.made c.args.dropped c.is_listed.result next (c.in_ok-made.ensures.ok tells_read) c.is_listed.ensures c.if-not-is_listed.false in
      says_part _ c.in-Err.field-0 (g.W.Shelf.world c.args.station.now) (g.W.Shelf.world c.entry.new.shelf) (g.W.Shelf.world c.say.new.self) (c.in_ok-made.ensures.content.did tells_read)
      (subst (λ bytes. Said bytes (let x : Result Unit Failed = Err c.in-Err.field-0 in x) (g.W.Shelf.world c.entry.new.shelf) (g.W.Shelf.world c.say.new.self)) (c.as_slice.ensures.value ∙ c.diagram_line-line.ensures.text ∙ sym line) (c.in-Err.ensures.content.did tells));
}
