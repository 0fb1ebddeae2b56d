use Rattle.tuple_asks.specs.declared.place.Place.{Place}
use Rattle.top_down_sweep.proofs.StandingOn.{stands_placed}
use Rattle.top_down_sweep.specs.Meaning.{StandsFor}
use Rattle.tuple_asks.specs.declared.place.Phase.TheVariants as phases
use Rattle.top_down_laws.specs.Remains.{answer_arcs}
use Rattle.std.specs.Prelude.{Some}
use Rattle.std.proofs.Common.{ℕ, ◌++◌, ◌≡◌, ◌≤◌, ◌<◌, ◌∙◌, ap, sym, subst, arith, refl}
use Rattle.top_down_sweep.proofs.Holding.{holds_placed}
use Rattle.rec_words.specs.Words.{level_of, level_numbers}
use Rattle.arc_file.specs.Writers.{inner_count, HoldsArcs}
use Rattle.tuple_asks.specs.declared.place.Numbered.{Numbered}
use Rattle.tuple_asks.specs.Soundness.{identifier}
use Rattle.top_down_sweep.proofs.Numbers.{number_fits, few_arcs, level_of_node}
use Rattle.top_down_sweep.proofs.Doing.{does_err}
use Rattle.top_down_sweep.proofs.machine.Machine.number.Goals as goal

-- the number is among those that the arcs allow
pub returns-clause-fit : goal.returns-clause-fit
returns-clause-fit g c =
    let s = c.args.self.now in
    let fit = c.in_ok-put_inner.ensures.fit in
    let fits = number_fits s.writer c.put_inner.new.self.writer _ s.place.phase c.args.asking.now
    c.args.ask.now c.requires.phase c.requires.fit.sound.phase c.requires.due
    c.in_ok-put_inner.ensures.count in
    record {
      sound = record {
        served = record {
          values = fit.sound.served.values;
          serves = fit.sound.served.serves;
          inner_made = fit.sound.served.inner_made;
          ends_made = fit.sound.served.ends_made;
          inner_apart = fit.sound.served.inner_apart;
          ends_apart = fit.sound.served.ends_apart;
        };
        operands = fit.sound.operands;
        phase = subst (λ (x : Numbered). x.number ≤ inner_count c.put_inner.new.self.writer)
            (sym c.next-next.ensures) fits;
      };
      at_work = fit.at_work;
    }

-- it is that of the ask's key
pub returns-clause-level : goal.returns-clause-level
returns-clause-level g c =
    let same : level_of c.uid-uid.result ≡ level_of (identifier c.next-next.result) = ap level_of
    c.uid-uid.ensures in
    let s = c.args.self.now in
    let fits = number_fits s.writer c.put_inner.new.self.writer _ s.place.phase c.args.asking.now
    c.args.ask.now c.requires.phase c.requires.fit.sound.phase c.requires.due
    c.in_ok-put_inner.ensures.count in
    let few : c.next-next.result.number < level_numbers =
    let number = ap (λ (x : Numbered). x.number) c.next-next.ensures in
    let arcs = few_arcs c.put_inner.new.self.writer in
    omega (arith, number, arcs, fits) in
    same ∙ level_of_node (level_of c.next-next.result.key) c.next-next.result.number few ∙ ap
    (λ (x : Numbered). level_of x.key) c.next-next.ensures

-- asks wait as before
pub returns-clause-holds : goal.returns-clause-holds
returns-clause-holds g c told bytes holds = holds_placed bytes c.put_inner.new.self _ _ _ refl
    (c.in_ok-put_inner.ensures.holds told bytes holds)

-- it is the tuple that was numbered last
pub returns-clause-placed : goal.returns-clause-placed
returns-clause-placed g c = λ i. phases.Asking (record {
  root = c.args.asking.now.root;
  last = Some (c.next-next.ensures i);
})

-- the arc to it is put
pub returns-clause-written : goal.returns-clause-written
returns-clause-written g c told k stands =
    let m = c.put_inner.new.self in
    let place : Place = record m.place {
      phase = phases.Asking (record {
        root = c.args.asking.now.root;
        last = Some c.next-next.result;
      });
    } in
    let world = g.S.Shelf.world c.put_inner.new.shelf in
    let asker = c.args.ask.now.asker in
    subst (λ (w : ℕ). StandsFor (record m { place = place }) world
    (record k { inner = k.inner ++ answer_arcs asker w }))
    (c.uid-uid.ensures ∙ ap identifier c.next-next.ensures)
    (stands_placed m (record m { place = place }) place world
    (record k { inner = k.inner ++ answer_arcs asker c.uid-uid.result }) refl refl
    (c.in_ok-put_inner.ensures.written told k stands))

pub returns-clause-arcs : goal.returns-clause-arcs
returns-clause-arcs g c told xs ys held =
    subst (λ (w : ℕ). HoldsArcs c.put_inner.new.self.writer (g.S.Shelf.world c.put_inner.new.shelf)
    (xs ++ answer_arcs c.args.ask.now.asker w) ys) (c.uid-uid.ensures ∙ ap identifier c.next-next.ensures)
    (c.in_ok-put_inner.ensures.arcs told xs ys held)

-- its arc couldn't be put
pub returns-in_err-put_inner-clause-does : goal.returns-in_err-put_inner-clause-does
returns-in_err-put_inner-clause-does g c = does_err g.S.Shelf.tells g.S.Shelf.world g.S.Shelf.faults 1 0 _ _ _ _
    c.from_residual.result c.put_inner.result c.in_err-put_inner.field-0.0 c.from_residual.ensures.1
    c.in_err-put_inner.was c.put_inner.ensures.does
