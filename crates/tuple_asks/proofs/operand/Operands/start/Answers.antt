use Rattle.tuple_asks.proofs.StartKeeps.{moved_file}
use Rattle.tuple_asks.proofs.Staying.{read_still}
use Rattle.node_reading.proofs.NodeReading.{if_handed, trailer_before}
use Rattle.tuple_asks.proofs.Staying.{looked_same}
use Rattle.std.proofs.Common.{◌∙◌, inl, inr, arith}
use Rattle.block_stream.proofs.WriteRuns.{looked_on}
use Rattle.tuple_asks.proofs.StartLeaves.{still_after, looked_few}
use Rattle.tuple_asks.proofs.operand.Operands.start.Goals as goal

-- each was looked at after the others
pub returns-clause-reading : goal.returns-clause-reading
returns-clause-reading g c told =
    let before = c.start-3.ensures.content.before told in
    let first = c.start-2.ensures.content.before before in
    record {
      first = still_after 2 _ _ _ (c.start-3.ensures.content.did told)
          (still_after 2 _ _ _ (c.start-2.ensures.content.did before)
          (c.in_ok-first.ensures.reading first));
      second = still_after 2 _ _ _ (c.start-3.ensures.content.did told)
          (c.in_ok-second.ensures.reading before);
      third = c.in_ok-third.ensures.reading told;
    }

pub returns-in_err-second-clause-content : goal.returns-in_err-second-clause-content
returns-in_err-second-clause-content g c = looked_few g.S.Shelf.tells g.S.Shelf.world 4 6 _ _
    (omega arith) (looked_on g.S.Shelf.tells g.S.Shelf.world 2 2 _ _ _ c.start.ensures.content
    c.start-2.ensures.content)

pub returns-in_err-third-clause-content : goal.returns-in_err-third-clause-content
returns-in_err-third-clause-content g c = looked_on g.S.Shelf.tells g.S.Shelf.world 4 2 _ _ _
    (looked_on g.S.Shelf.tells g.S.Shelf.world 2 2 _ _ _ c.start.ensures.content
    c.start-2.ensures.content) c.start-3.ensures.content

pub returns-clause-content : goal.returns-clause-content
returns-clause-content g c = looked_on g.S.Shelf.tells g.S.Shelf.world 4 2 _ _ _
    (looked_on g.S.Shelf.tells g.S.Shelf.world 2 2 _ _ _ c.start.ensures.content
    c.start-2.ensures.content) c.start-3.ensures.content

-- one of the files has no trailer where it had to stand
pub returns-in_err-first-clause-trailer : goal.returns-in_err-first-clause-trailer
returns-in_err-first-clause-trailer g c = if_handed _ c.from_residual.result _
    c.from_residual.ensures.1 (λ told. inl (c.in_err-first.ensures.trailer told))

pub returns-in_err-second-clause-trailer : goal.returns-in_err-second-clause-trailer
returns-in_err-second-clause-trailer g c = if_handed _ c.from_residual-in_err-second.result _
    c.from_residual-in_err-second.ensures.1 (λ told.
    let f = c.args.files.now.second in
    let old = g.S.Shelf.world c.args.shelf.now in
    let mid = g.S.Shelf.world c.start.new.shelf in
    let looked = c.start.ensures.content.did (c.start-2.ensures.content.before told) in
    inr (inl (trailer_before f c.args.n old mid _ (looked_same old mid looked.run f)
    (c.in_err-second.ensures.trailer told))))

pub returns-in_err-third-clause-trailer : goal.returns-in_err-third-clause-trailer
returns-in_err-third-clause-trailer g c = if_handed _ c.from_residual-in_err-third.result _
    c.from_residual-in_err-third.ensures.1 (λ told.
    let f = c.args.files.now.third in
    let old = g.S.Shelf.world c.args.shelf.now in
    let mid = g.S.Shelf.world c.start.new.shelf in
    let last = g.S.Shelf.world c.start-2.new.shelf in
    let before = c.start-3.ensures.content.before told in
    let first = c.start.ensures.content.did (c.start-2.ensures.content.before before) in
    let second = c.start-2.ensures.content.did before in
    inr (inr (trailer_before f c.args.n old last _
    (looked_same mid last second.run f ∙ looked_same old mid first.run f)
    (c.in_err-third.ensures.trailer told))))

-- of each all nodes are left
pub returns-clause-nodes : goal.returns-clause-nodes
returns-clause-nodes g c told roots d files =
    let old = g.S.Shelf.world c.args.shelf.now in
    let one = g.S.Shelf.world c.start.new.shelf in
    let two = g.S.Shelf.world c.start-2.new.shelf in
    let three = g.S.Shelf.world c.start-3.new.shelf in
    let before = c.start-3.ensures.content.before told in
    let early = c.start-2.ensures.content.before before in
    let on_one = looked_same old one (c.start.ensures.content.did early).run in
    let on_two = looked_same one two (c.start-2.ensures.content.did before).run in
    let on_three = looked_same two three (c.start-3.ensures.content.did told).run in
    let first = c.in_ok-first.ensures.nodes early roots.first d.first files.first in
    let second = c.in_ok-second.ensures.nodes before roots.second d.second
    (moved_file c.args.files.now.second c.args.n roots.second d.second old one (on_one _) files.second) in
    let third = c.in_ok-third.ensures.nodes told roots.third d.third
    (moved_file c.args.files.now.third c.args.n roots.third d.third old two (on_two _ ∙ on_one _) files.third) in
    record {
      roots_are = λ i. record {
        first = first.root_is i;
        second = second.root_is i;
        third = third.root_is i;
      };
      read = record {
        first = read_still c.args.n _ one three _ c.in_ok-first.ensures.is (on_three _ ∙ on_two _) first.read;
        second = read_still c.args.n _ two three _ c.in_ok-second.ensures.is (on_three _) second.read;
        third = third.read;
      };
    }

-- so none of them is damaged
pub returns-in_err-first-clause-undamaged : goal.returns-in_err-first-clause-undamaged
returns-in_err-first-clause-undamaged g c = if_handed _ c.from_residual.result _
    c.from_residual.ensures.1 (λ told roots d files.
    c.in_err-first.ensures.undamaged told roots.first d.first files.first)

pub returns-in_err-second-clause-undamaged : goal.returns-in_err-second-clause-undamaged
returns-in_err-second-clause-undamaged g c = if_handed _ c.from_residual-in_err-second.result _
    c.from_residual-in_err-second.ensures.1 (λ told roots d files.
    let old = g.S.Shelf.world c.args.shelf.now in
    let one = g.S.Shelf.world c.start.new.shelf in
    let looked = c.start.ensures.content.did (c.start-2.ensures.content.before told) in
    c.in_err-second.ensures.undamaged told roots.second d.second
    (moved_file c.args.files.now.second c.args.n roots.second d.second old one
    (looked_same old one looked.run _) files.second))

pub returns-in_err-third-clause-undamaged : goal.returns-in_err-third-clause-undamaged
returns-in_err-third-clause-undamaged g c = if_handed _ c.from_residual-in_err-third.result _
    c.from_residual-in_err-third.ensures.1 (λ told roots d files.
    let old = g.S.Shelf.world c.args.shelf.now in
    let one = g.S.Shelf.world c.start.new.shelf in
    let two = g.S.Shelf.world c.start-2.new.shelf in
    let before = c.start-3.ensures.content.before told in
    let first = c.start.ensures.content.did (c.start-2.ensures.content.before before) in
    let second = c.start-2.ensures.content.did before in
    c.in_err-third.ensures.undamaged told roots.third d.third
    (moved_file c.args.files.now.third c.args.n roots.third d.third old two
    (looked_same one two second.run _ ∙ looked_same old one first.run _) files.third))
