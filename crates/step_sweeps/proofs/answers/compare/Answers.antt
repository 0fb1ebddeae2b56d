use Rattle.std.proofs.Common.{◌∙◌, sym, ap, arith}
use Rattle.std.specs.Prelude.{Err}
use Rattle.resumable.specs.Answers.{two_tables, comparison_of}
use Rattle.restrict_eval.specs.Same.{Compared}
use Rattle.restrict_eval.specs.contracts.same.SameSweepSweep.TheImpl as sweeps
use Rattle.step_sweeps.specs.Answers.{comparing}
use Rattle.step_sweeps.proofs.AnswerComparing.{compared_by, compared_fault}
use Rattle.step_sweeps.proofs.AnswerRuns.{Went, earlier_stays, refused, answered, answers_on}
use Rattle.step_sweeps.proofs.AnswersValues.{same_answer}
use Rattle.step_sweeps.proofs.answers.compare.Goals as goal
use Rattle.step_sweeps.proofs.answers.compare.Goals.{After-run_saved}
use Rattle.step_sweeps.proofs.answers.compare.Given.{Over}

-- how the turns and the saves went
went : (g : Over) (c : After-run_saved g) → Went g.S.Shelf.tells g.S.Shelf.world sweeps.ghosts c.args.going.now
    c.begin_comparison.new.shelf c.run_saved.new.shelf c.in_ok-sweep.sweep c.run_saved.new.sweep
went g c = record {
  content = c.run_saved.ensures.changes;
  took = λ told job remains.
      let few = c.run_saved.ensures.few_calls told job remains in
      record { saves = few.0; few = few.1; parts = few.2; calls = few.3 };
  images = c.run_saved.ensures.images;
  stops = c.run_saved.ensures.stops;
}

-- it was refused
pub returns-in_err-run_saved-clause-answers : goal.returns-in_err-run_saved-clause-answers
returns-in_err-run_saved-clause-answers g c =
    let e = c.in_err-run_saved.field-0.0 in
    let ended = c.in_err-run_saved.ensures in
    let going = c.args.going.now in
    let q = comparing c.args.n c.args.left c.args.right in
    let task = comparison_of c.args.n c.args.left c.args.right going.step in
    let by = compared_by c.args.n c.args.left c.args.right going.step in
    let begun = c.in_ok-sweep.ensures.begun in
    let went_here = went g (goal.at.returns-in_err-run_saved-clause-answers g c).After-run_saved in
    let task_is = ended.same ∙ begun.task_is in
    let stays = earlier_stays g.S.Shelf.tells g.S.Shelf.world g.S.Shelf.faults sweeps.ghosts q
    (λ g. two_tables c.args.n g.left g.right) task going c.requires.going by c.args.shelf.now
    c.begin_comparison.new.shelf c.run_saved.new.shelf c.in_ok-sweep.sweep c.run_saved.new.sweep begun went_here in
    answers_on g.S.Shelf.tells g.S.Shelf.world g.S.Shelf.faults q going c.args.shelf.now c.run_saved.new.shelf e
    c.from_residual-in_err-run_saved.result c.from_residual-in_err-run_saved.ensures.1
    (refused g.S.Shelf.tells g.S.Shelf.world g.S.Shelf.faults sweeps.ghosts q (λ g. two_tables c.args.n g.left g.right)
    task going c.requires.going by c.args.shelf.now c.begin_comparison.new.shelf c.run_saved.new.shelf
    c.in_ok-sweep.sweep c.run_saved.new.sweep begun went_here e
    (g.met.S.Shelf.files_are c.begin_comparison.new.shelf) (record {
      undamaged = ended.undamaged;
      covered = ended.covered;
      spent = λ spent. ended.spent (ap Err spent);
      faults = ended.faults;
    })
    (λ told found. compared_fault c.args.n c.args.left c.args.right going.step c.run_saved.new.sweep
    (g.S.Shelf.world c.run_saved.new.shelf) (g.S.Shelf.world c.args.shelf.now) e task_is
    (stays told c.args.left c.requires.earlier.0) (stays told c.args.right c.requires.earlier.1)
    (λ spent. let next = ap (λ (t : Compared). t.parts.next) task_is in
    let many = ended.spent (ap Err spent) in absurd (omega (arith, next, many))) found))

-- it has ended with the answer that remained
pub returns-clause-answers : goal.returns-clause-answers
returns-clause-answers g c =
    let ended = c.in_ok-run_saved.ensures in
    let going = c.args.going.now in
    let q = comparing c.args.n c.args.left c.args.right in
    let made = ended.made in
    answered g.S.Shelf.tells g.S.Shelf.world g.S.Shelf.faults sweeps.ghosts q (λ g. two_tables c.args.n g.left g.right)
    (comparison_of c.args.n c.args.left c.args.right going.step) going c.requires.going
    (compared_by c.args.n c.args.left c.args.right going.step) c.args.shelf.now
    c.begin_comparison.new.shelf c.run_saved.new.shelf c.in_ok-sweep.sweep c.run_saved.new.sweep
    c.in_ok-sweep.ensures.begun (went g (goal.at.returns-clause-answers g c).After-run_saved)
    (record { answer = c.in-Some.answer; turns = c.run_saved.new.going.turns; next = 3 }) (record {
      keeps = ended.keeps;
      few = ended.few;
      cost = λ below.
          let counted = ended.counted below in
          let shown = counted.1 in
          let late = ended.late c.in_ok-sweep.ensures.begun.paid.shown in
          record { saves = counted.0; few = omega (arith, shown, late); parts = counted.2; calls = counted.3 };
      grew = ended.grew.0;
      more = ended.later;
      untaken = ended.untaken;
      faults = ended.faults;
    })
    (record { some = omega (arith, made); from = omega arith; below = omega arith; few = omega arith })
    (let next = ap (λ (t : Compared). t.parts.next) (ended.same ∙ c.in_ok-sweep.ensures.begun.task_is) in
    omega (arith, next))
    (λ told d remains. same_answer c.run_saved.new.sweep (g.S.Shelf.world c.run_saved.new.shelf)
    (two_tables c.args.n d.left d.right) c.in-Some.answer (sym c.answer.ensures ∙ c.in-Some.is) remains)
