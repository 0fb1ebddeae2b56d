use Rattle.std.proofs.Common.{◌≡◌, ◌∙◌, refl, sym, subst, true≢false}
use Rattle.std.specs.Prelude.{Ok, Err}
use Rattle.copy_sweep.specs.declared.copy.CopySweep.{CopySweep}
use Rattle.copy_sweep.specs.Resumes.{Fits}
use Rattle.run_tiers.specs.Faults.{OnlySortShelf}
use Rattle.run_tiers.proofs.FaultLaws.{sort_shelf_on}
use Rattle.step_sweeps.specs.Sweeping.{IsCopyFor}
use Rattle.step_sweeps.proofs.CopyRebuilt.{WasRebuilt, WasRefused, copy_foreign, starts_of, tasks_of, refused_of}
use Rattle.step_sweeps.proofs.Running.{of_ok, one_point}
use Rattle.step_sweeps.proofs.copy.rebuild_copy.Goals as goal
use Rattle.step_sweeps.proofs.copy.rebuild_copy.Given.{Over}
use Rattle.step_sweeps.proofs.copy.rebuild_copy.Goals.{After-rebuild, then-not-is_of-via-then-not-is_of, then-not-is_of-via-else-not-is_of+then-not-fits}

-- how it was rebuilt from the step's last checkpoint
rebuilt : (g : Over) (c : After-rebuild g) (s : CopySweep) → c.rebuild.result ≡ Ok s
    → WasRebuilt g.S.Shelf.tells g.S.Shelf.world g.S.Shelf.faults c.requires.going.point s c.args.shelf.now
    c.rebuild.new.shelf
rebuilt g c s is =
    let said = c.rebuild.ensures in
    let r = c.rebuild.result in
    subst (λ p. WasRebuilt g.S.Shelf.tells g.S.Shelf.world g.S.Shelf.faults p s c.args.shelf.now c.rebuild.new.shelf)
    (one_point _ c.in-Some.point _ c.requires.going.at_point.last_is c.in-Some.is) (record {
      ready = of_ok r s _ is said.ready;
      in_step = of_ok r s _ is said.in_step;
      parts = of_ok r s _ is said.parts;
      files = of_ok r s _ is said.files;
      operands = of_ok r s _ is said.operands;
      names = of_ok r s _ is said.names;
      remains = of_ok r s _ is said.remains;
      content = said.content;
      calls = said.calls;
      faults = subst (OnlySortShelf (g.S.Shelf.faults c.args.shelf.now) (g.S.Shelf.faults c.rebuild.new.shelf)) is
          said.faults;
    })

-- the checkpoint is none of such a copy
pub returns-then-not-is_of-clause-refused : goal.returns-then-not-is_of-clause-refused
returns-then-not-is_of-clause-refused g c =
    let may = c.requires.going in
    let same = one_point _ c.in-Some.point _ may.at_point.last_is c.in-Some.is in
    copy_foreign c.args.making c.args.going.now may c.requires.first (c.requires.tables may.point may.at_point.last_is)
    g.S.Shelf.tells g.S.Shelf.world g.S.Shelf.faults c.args.shelf.now c.foreign_point.new.shelf
    (λ fits is. elim c.then-not-is_of.branch [
      | then-not-is_of-via-then-not-is_of w ↦
          true≢false (sym (c.is_of.ensures.1 (subst (IsCopyFor c.args.making) (sym same) is)) ∙ w.if-not-is_of.true)
      | then-not-is_of-via-else-not-is_of+then-not-fits w ↦
          true≢false (sym (w.fits.ensures.1 (subst Fits (sym same) fits)) ∙ w.if-not-fits.true)
    ])
    c.foreign_point.result c.foreign_point.ensures.kind c.foreign_point.ensures.content
    (sort_shelf_on _ _ c.foreign_point.result (Err c.foreign_point.result) refl c.foreign_point.ensures.faults)

-- it is rebuilt
pub returns-clause-starts : goal.returns-clause-starts
returns-clause-starts g c =
    let may = c.requires.going in
    starts_of c.args.making c.args.going.now may c.requires.first (c.requires.tables may.point may.at_point.last_is)
    g.S.Shelf.tells g.S.Shelf.world g.S.Shelf.faults c.args.shelf.now c.rebuild.new.shelf
    (λ told f. g.met.S.Shelf.files_are _ told f) c.rebuild.result
    (rebuilt g (goal.at.returns-clause-starts g c).After-rebuild)

-- as the copy that the checkpoint names
pub returns-clause-task : goal.returns-clause-task
returns-clause-task g c =
    let may = c.requires.going in
    let same = one_point _ c.in-Some.point _ may.at_point.last_is c.in-Some.is in
    tasks_of c.args.making c.args.going.now may c.requires.first (c.requires.tables may.point may.at_point.last_is)
    g.S.Shelf.tells g.S.Shelf.world g.S.Shelf.faults c.args.shelf.now c.rebuild.new.shelf
    (λ told f. g.met.S.Shelf.files_are _ told f) c.rebuild.result
    (rebuilt g (goal.at.returns-clause-task g c).After-rebuild)
    (subst (IsCopyFor c.args.making) same (c.is_of.ensures.0 c.if-not-is_of.false))

-- or that is refused
pub returns-clause-refused : goal.returns-clause-refused
returns-clause-refused g c =
    let may = c.requires.going in
    let said = c.rebuild.ensures in
    let r = c.rebuild.result in
    refused_of c.args.making c.args.going.now may c.requires.first (c.requires.tables may.point may.at_point.last_is)
    g.S.Shelf.tells g.S.Shelf.world g.S.Shelf.faults c.args.shelf.now c.rebuild.new.shelf
    (λ told f. g.met.S.Shelf.files_are _ told f) r
    (subst (λ p. WasRefused g.S.Shelf.tells g.S.Shelf.world g.S.Shelf.faults p r c.args.shelf.now c.rebuild.new.shelf)
    (one_point _ c.in-Some.point _ may.at_point.last_is c.in-Some.is) (record {
      kind = said.kind;
      undamaged = said.undamaged;
      content = said.content;
      calls = said.calls;
      faults = said.faults;
    }))
