use Rattle.top_down_sweep.specs.Meaning.{AreFilesOf}
use Rattle.arc_file.specs.declared.unreduced.Unreduced.{Unreduced}
use Rattle.std.proofs.Common.{◌∙◌, sym, subst, refl, rules}
use Rattle.top_down_sweep.proofs.Doing.{does_wrote}
use Rattle.top_down_sweep.proofs.machine.Machine.end.Goals as goal

-- only the files of arcs were written to
pub returns-in_err-made-clause-does : goal.returns-in_err-made-clause-does
returns-in_err-made-clause-does g c = does_wrote g.S.Shelf.tells g.S.Shelf.world g.S.Shelf.faults 4 _ _ c.args.self.now c.args.self.now.place c.settle.new.self
    c.from_residual.result refl
    c.settle.ensures.same c.settle.ensures.content (search rules) (search rules)

pub returns-clause-does : goal.returns-clause-does
returns-clause-does g c = does_wrote g.S.Shelf.tells g.S.Shelf.world g.S.Shelf.faults 4 _ _ c.args.self.now _ c.settle.new.self
    _ refl
    c.settle.ensures.same c.settle.ensures.content (search rules) tt

-- the files are the arcs that were put
pub returns-clause-files : goal.returns-clause-files
returns-clause-files g c told k stands =
    let held = c.in_ok-made.ensures.arcs told k.inner k.ends stands.written in
    subst (λ (made : Unreduced). AreFilesOf made (g.S.Shelf.world c.settle.new.shelf) k.inner k.ends)
    (c.in_ok-made.ensures.made ∙ sym c.in_ok-made.ensures.counts)
    (record { inner_file = held.1; ends_file = held.2 })

-- they stay, and where they were in order they are so
pub returns-clause-trusts : goal.returns-clause-trusts
returns-clause-trusts g c told rule begins o =
    let held = c.in_ok-made.ensures.arcs told o.inner o.ends o.held in
    record {
      inner = o.inner;
      ends = o.ends;
      inner_has = record { begin = held.1.begin; lead = o.inner_lead; ordered = o.inner_order };
      ends_has = record { begin = held.2.begin; lead = o.ends_lead; ordered = o.ends_order };
    }
