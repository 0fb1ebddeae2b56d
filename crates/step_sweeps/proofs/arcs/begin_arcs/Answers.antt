use Rattle.std.proofs.Common.{◌∙◌, sym, true≢false}
use Rattle.top_down_sweep.specs.Resumes.{Fits, Names}
use Rattle.resumable.specs.Diagrams.{arcs_of, step_words}
use Rattle.step_sweeps.proofs.ArcsStart.{start_covered}
use Rattle.step_sweeps.proofs.Running.{if_ok}
use Rattle.step_sweeps.proofs.ArcsBegun.{IsBegunBy, IsTakenUp, begun_anew, begun_again, begun_foreign}
use Rattle.step_sweeps.proofs.arcs.begin_arcs.Goals as goal
use Rattle.step_sweeps.proofs.arcs.begin_arcs.Goals.{After-begin, After-rebuild}
use Rattle.step_sweeps.proofs.arcs.begin_arcs.Goals.{then-not-is_of-via-then-not-is_of, then-not-is_of-via-else-not-is_of+then-not-fits}
use Rattle.step_sweeps.proofs.arcs.begin_arcs.Given as given

-- from its beginning on
anew : (g : given.Over) (c : After-begin g) → IsBegunBy g.S.Shelf.tells g.S.Shelf.world g.S.Shelf.faults c.args.making
    c.requires.earlier c.args.shelf.now c.begin.new.shelf c.begin.result c.args.going.now
anew g c = begun_anew g.S.Shelf.tells g.S.Shelf.world g.S.Shelf.faults c.args.making c.requires.earlier c.args.shelf.now
    c.begin.new.shelf c.begin.result c.args.going.now c.in_default.is c.requires.going c.requires.early c.begin.ensures.starts

pub returns-in_default-clause-starts : goal.returns-in_default-clause-starts
returns-in_default-clause-starts g c = (anew g c).0

pub returns-in_default-clause-refused : goal.returns-in_default-clause-refused
returns-in_default-clause-refused g c = (anew g c).1

pub returns-in_default-clause-covered : goal.returns-in_default-clause-covered
returns-in_default-clause-covered g c = if_ok c.begin.result _ (λ s told none gate. start_covered g.S.Shelf.tells
    g.S.Shelf.world g.S.Shelf.faults c.args.making c.args.going.now c.args.shelf.now c.begin.new.shelf
    c.begin.ensures.starts.leaves.content told gate)

-- from a checkpoint that is none of such a sweep
pub returns-then-not-is_of-clause-refused : goal.returns-then-not-is_of-clause-refused
returns-then-not-is_of-clause-refused g c = begun_foreign g.S.Shelf.tells g.S.Shelf.world g.S.Shelf.faults c.args.making
    c.in-Some.point c.args.shelf.now c.foreign_point.new.shelf c.args.going.now c.in-Some.is c.requires.going
    (λ fits names. elim c.then-not-is_of.branch [
      | then-not-is_of-via-then-not-is_of w ↦ true≢false (sym (c.is_of.ensures.1 names) ∙ w.if-not-is_of.true)
      | then-not-is_of-via-else-not-is_of+then-not-fits w ↦
          true≢false (sym (w.fits.ensures.1 fits) ∙ w.if-not-fits.true)
    ])
    c.foreign_point.result c.foreign_point.ensures.kind c.foreign_point.ensures.content c.foreign_point.ensures.faults

fits_it : (g : given.Over) (c : After-rebuild g) → Fits step_words c.in-Some.point
fits_it g c = c.fits.ensures.0 c.if-not-fits.false

names_it : (g : given.Over) (c : After-rebuild g)
    → Names step_words c.in-Some.point (arcs_of c.args.making.n c.args.making.operands c.args.making.number)
names_it g c = c.is_of.ensures.0 c.if-not-is_of.false

-- from its checkpoint on
again : (g : given.Over) (c : After-rebuild g) → IsTakenUp g.S.Shelf.tells g.S.Shelf.world g.S.Shelf.faults c.args.making
    c.requires.earlier c.in-Some.point c.args.shelf.now c.rebuild.new.shelf (fits_it g c) (names_it g c)
    (g.met.S.Shelf.files_are c.args.shelf.now) c.args.going.now c.rebuild.result
again g c = begun_again g.S.Shelf.tells g.S.Shelf.world g.S.Shelf.faults c.args.making c.requires.earlier c.in-Some.point
    c.args.shelf.now c.rebuild.new.shelf (fits_it g c) (names_it g c) (g.met.S.Shelf.files_are c.args.shelf.now)
    c.args.going.now c.in-Some.is c.requires.going c.rebuild.result (record {
      ready = c.rebuild.ensures.ready;
      in_step = c.rebuild.ensures.in_step;
      parts = c.rebuild.ensures.parts;
      files = c.rebuild.ensures.files;
      names_it = c.rebuild.ensures.names;
      remains = c.rebuild.ensures.remains;
      damage = c.rebuild.ensures.damage;
      undamaged = c.rebuild.ensures.undamaged;
      content = c.rebuild.ensures.content;
      calls = λ told task names. c.rebuild.ensures.calls told (task, c.args.making.operation) names;
      credit = c.rebuild.ensures.credit;
      stock = c.rebuild.ensures.stock;
      faults = c.rebuild.ensures.faults;
    })

pub returns-clause-starts : goal.returns-clause-starts
returns-clause-starts g c = (again g c).0

pub returns-clause-task : goal.returns-clause-task
returns-clause-task g c = (again g c).1

pub returns-clause-refused : goal.returns-clause-refused
returns-clause-refused g c = (again g c).2
