use Rattle.std.proofs.Common.{◌∙◌, sym, ap, arith}
use Rattle.std.specs.Prelude.{Err}
use Rattle.resumable.specs.Answers.{one_table, evaluation_of}
use Rattle.restrict_eval.specs.Eval.{Evaluated}
use Rattle.restrict_eval.specs.contracts.eval.EvalSweepSweep.TheImpl as sweeps
use Rattle.step_sweeps.specs.Answers.{evaluating}
use Rattle.step_sweeps.proofs.AnswerEvaluating.{evaluated_by, evaluated_fault}
use Rattle.step_sweeps.proofs.AnswerRuns.{Went, earlier_stays, refused, answered, answers_on}
use Rattle.step_sweeps.proofs.AnswersValues.{eval_answer}
use Rattle.step_sweeps.proofs.answers.evaluate.Goals as goal
use Rattle.step_sweeps.proofs.answers.evaluate.Goals.{After-run_saved}
use Rattle.step_sweeps.proofs.answers.evaluate.Given.{Over}

-- how the turns and the saves went
went : (g : Over) (c : After-run_saved g) → Went g.S.Shelf.tells g.S.Shelf.world sweeps.ghosts c.args.going.now
    c.begin_evaluation.new.shelf c.run_saved.new.shelf c.in_ok-sweep.sweep c.run_saved.new.sweep
went g c = record {
  content = c.run_saved.ensures.changes;
  took = λ told job remains.
      let few = c.run_saved.ensures.few_calls told job remains in
      record { saves = few.0; few = few.1; parts = few.2; calls = few.3 };
  images = c.run_saved.ensures.images;
  stops = c.run_saved.ensures.stops;
}

-- it was refused
pub returns-in_err-run_saved-clause-answers : goal.returns-in_err-run_saved-clause-answers
returns-in_err-run_saved-clause-answers g c =
    let e = c.in_err-run_saved.field-0.0 in
    let ended = c.in_err-run_saved.ensures in
    let going = c.args.going.now in
    let q = evaluating c.args.n c.args.file c.args.text.now c.args.at in
    let task = evaluation_of c.args.n c.args.file c.args.text.now c.args.at going.step in
    let by = evaluated_by c.args.n c.args.file c.args.text.now c.args.at going.step in
    let begun = c.in_ok-sweep.ensures.begun in
    let went_here = went g (goal.at.returns-in_err-run_saved-clause-answers g c).After-run_saved in
    let task_is = ended.same ∙ begun.task_is in
    let stays = earlier_stays g.S.Shelf.tells g.S.Shelf.world g.S.Shelf.faults sweeps.ghosts q
    (one_table c.args.n) task going c.requires.going by c.args.shelf.now
    c.begin_evaluation.new.shelf c.run_saved.new.shelf c.in_ok-sweep.sweep c.run_saved.new.sweep begun went_here in
    answers_on g.S.Shelf.tells g.S.Shelf.world g.S.Shelf.faults q going c.args.shelf.now c.run_saved.new.shelf e
    c.from_residual-in_err-run_saved.result c.from_residual-in_err-run_saved.ensures.1
    (refused g.S.Shelf.tells g.S.Shelf.world g.S.Shelf.faults sweeps.ghosts q (one_table c.args.n)
    task going c.requires.going by c.args.shelf.now c.begin_evaluation.new.shelf c.run_saved.new.shelf
    c.in_ok-sweep.sweep c.run_saved.new.sweep begun went_here e
    (g.met.S.Shelf.files_are c.begin_evaluation.new.shelf) (record {
      undamaged = ended.undamaged;
      covered = ended.covered;
      spent = λ spent. ended.spent (ap Err spent);
      faults = ended.faults;
    })
    (λ told found. evaluated_fault c.args.n c.args.file c.args.text.now c.args.at going.step c.run_saved.new.sweep
    (g.S.Shelf.world c.run_saved.new.shelf) (g.S.Shelf.world c.args.shelf.now) e task_is
    (stays told c.args.file c.requires.earlier)
    (λ spent. let next = ap (λ (t : Evaluated). t.parts.next) task_is in
    let many = ended.spent (ap Err spent) in absurd (omega (arith, next, many))) found))

-- it has ended with the answer that remained
pub returns-clause-answers : goal.returns-clause-answers
returns-clause-answers g c =
    let ended = c.in_ok-run_saved.ensures in
    let going = c.args.going.now in
    let q = evaluating c.args.n c.args.file c.args.text.now c.args.at in
    let made = ended.made in
    answered g.S.Shelf.tells g.S.Shelf.world g.S.Shelf.faults sweeps.ghosts q (one_table c.args.n)
    (evaluation_of c.args.n c.args.file c.args.text.now c.args.at going.step) going c.requires.going
    (evaluated_by c.args.n c.args.file c.args.text.now c.args.at going.step) c.args.shelf.now
    c.begin_evaluation.new.shelf c.run_saved.new.shelf c.in_ok-sweep.sweep c.run_saved.new.sweep
    c.in_ok-sweep.ensures.begun (went g (goal.at.returns-clause-answers g c).After-run_saved)
    (record { answer = c.in-Some.answer; turns = c.run_saved.new.going.turns; next = 3 }) (record {
      keeps = ended.keeps;
      few = ended.few;
      cost = λ below.
          let counted = ended.counted below in
          let shown = counted.1 in
          let late = ended.late c.in_ok-sweep.ensures.begun.paid.shown in
          record { saves = counted.0; few = omega (arith, shown, late); parts = counted.2; calls = counted.3 };
      grew = ended.grew.0;
      more = ended.later;
      untaken = ended.untaken;
      faults = ended.faults;
    })
    (record { some = omega (arith, made); from = omega arith; below = omega arith; few = omega arith })
    (let next = ap (λ (t : Evaluated). t.parts.next) (ended.same ∙ c.in_ok-sweep.ensures.begun.task_is) in
    omega (arith, next))
    (λ told t remains. let task_is = ended.same ∙ c.in_ok-sweep.ensures.begun.task_is in
    eval_answer c.run_saved.new.sweep (g.S.Shelf.world c.run_saved.new.shelf) (one_table c.args.n t) c.args.n c.args.at
    c.args.text.now c.in-Some.answer (sym c.answer.ensures ∙ c.in-Some.is)
    (ap (λ (x : Evaluated). x.variables) task_is) (ap (λ (x : Evaluated). x.text) task_is)
    (ap (λ (x : Evaluated). x.at) task_is) remains)
