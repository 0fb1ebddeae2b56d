use Rattle.top_down_sweep.proofs.TurnKeeps.{answered, unasked}
use Rattle.top_down_sweep.specs.Meaning.{StandsFor}
use Rattle.arc_file.specs.Writers.{HoldsArcs}
use Rattle.tuple_asks.specs.declared.sound.Source.{Source}
use Rattle.arc_file.specs.declared.arc.Arc.{Arc}
use Rattle.std.proofs.lemmas.Result.{on_ok_weaker}
use Rattle.std.proofs.Common.{ap, arith}
use Rattle.top_down_sweep.proofs.MetOnes.{only_written}
use Rattle.top_down_sweep.proofs.Idle.{does_none}
use Rattle.top_down_sweep.proofs.machine.Machine.put_inner.Goals as goal

-- nobody asked
pub returns-in_default-clause-written : goal.returns-in_default-clause-written
returns-in_default-clause-written g c told k stands =
    unasked (λ xs. StandsFor c.args.self.now (g.S.Shelf.world c.args.shelf.now) (record k { inner = xs })) k.inner
    c.args.ask.now.asker c.args.target c.in_default.ensures stands

pub returns-in_default-clause-arcs : goal.returns-in_default-clause-arcs
returns-in_default-clause-arcs g c told xs ys held =
    unasked (λ zs. HoldsArcs c.args.self.now.writer (g.S.Shelf.world c.args.shelf.now) zs ys) xs
    c.args.ask.now.asker c.args.target c.in_default.ensures held

-- a node did, whose arc leads to a node
pub returns-clause-rest : goal.returns-clause-rest
returns-clause-rest g c = only_written c.args.self.now c.put.new.self (record {
  source = c.in-Some.source.uid;
  high = c.in-Some.source.high;
  target = c.ptr.result;
}) c.put.ensures.rest c.put.ensures.one (let node = c.ptr.ensures.node in omega (arith, node))

pub returns-clause-written : goal.returns-clause-written
returns-clause-written g c = on_ok_weaker c.put.result (λ put told k stands.
    let source = c.in-Some.ensures.1 in
    let arc : Arc = record {
      source = c.in-Some.source.uid;
      high = c.in-Some.source.high;
      target = c.ptr.result;
    } in
    answered (λ xs ys. StandsFor c.put.new.self (g.S.Shelf.world c.put.new.shelf)
    (record k { inner = xs; ends = ys })) k.inner k.ends c.args.ask.now.asker c.args.target arc
    c.in-Some.ensures.0 (let node = c.ptr.ensures.node in let same = c.ptr.ensures.value in omega (arith, node, same))
    (λ i. record {
      source = ap (λ (s : Source). s.uid) source i;
      high = ap (λ (s : Source). s.high) source i;
      target = c.ptr.ensures.value i;
    }) (put told k stands)) c.put.ensures.written

pub returns-clause-arcs : goal.returns-clause-arcs
returns-clause-arcs g c = on_ok_weaker c.put.result (λ put told xs ys held.
    let source = c.in-Some.ensures.1 in
    let arc : Arc = record {
      source = c.in-Some.source.uid;
      high = c.in-Some.source.high;
      target = c.ptr.result;
    } in
    answered (HoldsArcs c.put.new.self.writer (g.S.Shelf.world c.put.new.shelf)) xs ys
    c.args.ask.now.asker c.args.target arc c.in-Some.ensures.0
    (let node = c.ptr.ensures.node in let same = c.ptr.ensures.value in omega (arith, node, same))
    (λ i. record {
      source = ap (λ (s : Source). s.uid) source i;
      high = ap (λ (s : Source). s.high) source i;
      target = c.ptr.ensures.value i;
    }) (put told xs ys held)) c.put.ensures.arcs

-- nothing was done, or what putting the arc does
pub returns-in_default-clause-does : goal.returns-in_default-clause-does
returns-in_default-clause-does g c = does_none g.S.Shelf.tells g.S.Shelf.world g.S.Shelf.faults 1 0 _ _ _

pub returns-clause-does : goal.returns-clause-does
returns-clause-does g c = c.put.ensures.does
