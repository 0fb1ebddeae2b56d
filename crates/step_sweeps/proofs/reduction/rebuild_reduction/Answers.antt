use Rattle.std.proofs.Common.{◌∙◌, sym, subst, true≢false}
use Rattle.run_tiers.specs.Faults.{OnlySortShelf}
use Rattle.reduce_sweep.specs.Resumes.{Fits}
use Rattle.reduce_sweep.specs.Sweeps.{task_of}
use Rattle.step_sweeps.specs.Sweeping.{IsReductionFor}
use Rattle.step_sweeps.proofs.ReductionRebuilt.{WasRebuilt, WasRefused, starts_of, task_made, task_own, foreign_refused, rebuild_refused}
use Rattle.step_sweeps.proofs.Running.{of_ok, ok_more, one_point}
use Rattle.step_sweeps.proofs.reduction.rebuild_reduction.Goals as goal
use Rattle.step_sweeps.proofs.reduction.rebuild_reduction.Goals.{then-not-is_of-via-then-not-is_of, then-not-is_of-via-else-not-is_of+then-not-fits}

-- the checkpoint is none of such a reduction
pub returns-then-not-is_of-clause-refused : goal.returns-then-not-is_of-clause-refused
returns-then-not-is_of-clause-refused g c =
    let same = one_point _ c.in-Some.point _ c.requires.going.at_point.last_is c.in-Some.is in
    foreign_refused c.args.making c.args.going.now c.requires.going c.requires.second g.S.Shelf.tells g.S.Shelf.world
    g.S.Shelf.faults c.args.shelf.now c.foreign_point.new.shelf
    (λ fits is. elim c.then-not-is_of.branch [
      | then-not-is_of-via-then-not-is_of w ↦
          true≢false (sym (c.is_of.ensures.1 (subst (IsReductionFor c.args.making) (sym same) is))
          ∙ w.if-not-is_of.true)
      | then-not-is_of-via-else-not-is_of+then-not-fits w ↦
          true≢false (sym (w.fits.ensures.1 (subst Fits (sym same) fits)) ∙ w.if-not-fits.true)
    ])
    c.foreign_point.result c.foreign_point.ensures.kind c.foreign_point.ensures.content c.foreign_point.ensures.faults

-- it is rebuilt
pub returns-clause-starts : goal.returns-clause-starts
returns-clause-starts g c =
    let said = c.rebuild.ensures in
    let r = c.rebuild.result in
    starts_of c.args.making c.args.going.now c.requires.going c.requires.second g.S.Shelf.tells g.S.Shelf.world
    g.S.Shelf.faults c.args.shelf.now c.rebuild.new.shelf (λ told f. g.met.S.Shelf.files_are _ told f) r
    (λ s is. subst (λ p. WasRebuilt g.S.Shelf.tells g.S.Shelf.world g.S.Shelf.faults p s c.args.shelf.now
    c.rebuild.new.shelf)
    (one_point _ c.in-Some.point _ c.requires.going.at_point.last_is c.in-Some.is) (record {
      ready = of_ok r s _ is said.ready;
      in_step = of_ok r s _ is said.in_step;
      parts = of_ok r s _ is said.parts;
      files = of_ok r s _ is said.files;
      operands = of_ok r s _ is said.operands;
      names = of_ok r s _ is said.names;
      remains = of_ok r s _ is said.remains;
      content = said.content;
      calls = said.calls;
      credit = of_ok r s _ is said.credit;
      stock = of_ok r s _ is said.stock;
      faults = subst (λ q. OnlySortShelf (g.S.Shelf.faults c.args.shelf.now) (g.S.Shelf.faults c.rebuild.new.shelf) q) is said.faults;
    }))

-- as the reduction of the step's arcs to its node file
pub returns-clause-task : goal.returns-clause-task
returns-clause-task g c = ok_more c.rebuild.result _ _ (λ s names. task_made c.args.making c.in-Some.point (task_of s)
    names (c.is_of.ensures.0 c.if-not-is_of.false)) c.rebuild.ensures.names

pub returns-clause-own : goal.returns-clause-own
returns-clause-own g c = ok_more c.rebuild.result _ _ (λ s names. task_own c.args.making c.in-Some.point (task_of s)
    names (c.is_of.ensures.0 c.if-not-is_of.false)) c.rebuild.ensures.names

-- or that is refused
pub returns-clause-refused : goal.returns-clause-refused
returns-clause-refused g c =
    let said = c.rebuild.ensures in
    let r = c.rebuild.result in
    rebuild_refused c.args.making c.args.going.now c.requires.going c.requires.second g.S.Shelf.tells g.S.Shelf.world
    g.S.Shelf.faults c.args.shelf.now c.rebuild.new.shelf (λ told f. g.met.S.Shelf.files_are _ told f) r
    (subst (λ p. WasRefused g.S.Shelf.tells g.S.Shelf.world g.S.Shelf.faults p r c.args.shelf.now c.rebuild.new.shelf)
    (one_point _ c.in-Some.point _ c.requires.going.at_point.last_is c.in-Some.is) (record {
      not_spent = said.kind;
      undamaged = said.undamaged;
      content = said.content;
      calls = said.calls;
      faults = said.faults;
    }))
