use Rattle.std.proofs.Common.{arith}
use Rattle.std.specs.Prelude.{IsTrue}
use Rattle.shelf_model.specs.World.{now}
use Rattle.shelf_model.specs.Moments.{Stays}
use Rattle.shelf_model.proofs.Runs.{ran_end}
use Rattle.catalogue.proofs.Synced.{reads_next}
use Rattle.catalogue.proofs.Looked.{look_ok}
use Rattle.catalogue.proofs.looking.look.Goals as goal

pub returns-clause-content : goal.returns-clause-content
returns-clause-content g c = reads_next g.S.Shelf.tells g.S.Shelf.world _ _ _ c.in_ok-make_gates_sure.ensures.content c.count_at_most.ensures.content

pub returns-clause-ok : goal.returns-clause-ok
returns-clause-ok g c =
    let mid = g.S.Shelf.world c.make_gates_sure.new.shelf in
    look_ok (IsTrue (g.S.Shelf.tells c.count_at_most.new.shelf)) c.count_at_most.result (now mid).folder (now (g.S.Shelf.world c.count_at_most.new.shelf)).folder (λ tells.
    let gates = c.in_ok-make_gates_sure.ensures.ok (c.count_at_most.ensures.content.before tells) in
    record {
      sure = gates.1;
      stored = (let some = c.if-branch-eq0.false in let length_is = gates.0 in omega arith);
      stays = ran_end mid _ (Stays (now mid)) (c.count_at_most.ensures.content.did tells);
      answer = c.count_at_most.ensures.answer tells;
    })
