use Rattle.std.proofs.Common.{◌∙◌, ◌^◌, ◌≡◌, ap, arith}
use Rattle.std.specs.Prelude.{Err, min}
use Rattle.run_tiers.specs.declared.parts.Parts.{Parts}
use Rattle.product_sweep.specs.Implications.{accounts}
use Rattle.resumable.specs.Answers.{two_files}
use Rattle.resumable.specs.Diagrams.{arcs_of}
use Rattle.product_sweep.specs.contracts.leq.LeqSweepSweep.TheImpl as sweeps
use Rattle.step_sweeps.specs.Answers.{refuting, refutation_of}
use Rattle.step_sweeps.proofs.AnswerImplying.{implied_by, implied_fault}
use Rattle.step_sweeps.proofs.AnswerRuns.{Went, earlier_stays, refused, answered, answers_on}
use Rattle.step_sweeps.proofs.AnswerSums.{counted_of}
use Rattle.step_sweeps.proofs.implication.refute.Goals as goal
use Rattle.step_sweeps.proofs.implication.refute.Goals.{After-run_saved}
use Rattle.step_sweeps.proofs.implication.refute.Given.{Over}

-- how the turns and the saves went
went : (g : Over) (c : After-run_saved g) → Went g.S.Shelf.tells g.S.Shelf.world sweeps.ghosts c.args.going.now
    c.begin_implication.new.shelf c.run_saved.new.shelf c.in_ok-sweep.sweep c.run_saved.new.sweep
went g c = record {
  content = c.run_saved.ensures.changes;
  took = λ told job remains.
      let few = c.run_saved.ensures.few_calls told job remains in
      record { saves = few.0; few = few.1; parts = few.2; calls = few.3 };
  images = c.run_saved.ensures.images;
  stops = c.run_saved.ensures.stops;
}

-- it was refused
pub returns-in_err-run_saved : goal.returns-in_err-run_saved
returns-in_err-run_saved g c =
    let e = c.in_err-run_saved.field-0.0 in
    let ended = c.in_err-run_saved.ensures in
    let going = c.args.going.now in
    let q = refuting c.args.n c.args.left c.args.right in
    let task = arcs_of c.args.n (two_files c.args.left c.args.right) going.step in
    let by = implied_by c.args.n c.args.left c.args.right going.step in
    let begun = c.in_ok-sweep.ensures.begun in
    let went_here = went g (goal.at.returns-in_err-run_saved g c).After-run_saved in
    let task_is = ended.same ∙ begun.task_is in
    let stays = earlier_stays g.S.Shelf.tells g.S.Shelf.world g.S.Shelf.faults sweeps.ghosts q
    (refutation_of c.args.n) task going c.requires.going by c.args.shelf.now
    c.begin_implication.new.shelf c.run_saved.new.shelf c.in_ok-sweep.sweep c.run_saved.new.sweep begun went_here in
    record {
      answers = answers_on g.S.Shelf.tells g.S.Shelf.world g.S.Shelf.faults q going c.args.shelf.now c.run_saved.new.shelf e
          c.from_residual-in_err-run_saved.result c.from_residual-in_err-run_saved.ensures.1
          (refused g.S.Shelf.tells g.S.Shelf.world g.S.Shelf.faults sweeps.ghosts q (refutation_of c.args.n)
          task going c.requires.going by c.args.shelf.now c.begin_implication.new.shelf c.run_saved.new.shelf
          c.in_ok-sweep.sweep c.run_saved.new.sweep begun went_here e
          (g.met.S.Shelf.files_are c.begin_implication.new.shelf) (record {
            undamaged = ended.undamaged;
            covered = ended.covered;
            spent = λ spent. ended.spent (ap Err spent);
            faults = ended.faults;
          })
          (λ told found. implied_fault c.args.n c.args.left c.args.right going.step c.run_saved.new.sweep
          (g.S.Shelf.world c.run_saved.new.shelf) (g.S.Shelf.world c.args.shelf.now) e c.requires.earlier task_is
          (ended.step ∙ begun.step_is)
          (stays told c.args.left c.requires.earlier.0) (stays told c.args.right c.requires.earlier.1) found));
    }

-- it has ended with the answer that remained
pub returns : goal.returns
returns g c =
    let ended = c.in_ok-run_saved.ensures in
    let going = c.args.going.now in
    let q = refuting c.args.n c.args.left c.args.right in
    let made = ended.made in
    let begun = c.in_ok-sweep.ensures.begun.files.parts in
    let later = ended.later in
    let next : c.min.result ≡ min (accounts.next c.run_saved.new.sweep) (2 ^ 32) =
    c.min.ensures ∙ ap (λ (p : Parts). min p.next (2 ^ 32)) c.parts.ensures in
    record {
      answers = answered g.S.Shelf.tells g.S.Shelf.world g.S.Shelf.faults sweeps.ghosts q (refutation_of c.args.n)
          (arcs_of c.args.n (two_files c.args.left c.args.right) going.step) going c.requires.going
          (implied_by c.args.n c.args.left c.args.right going.step) c.args.shelf.now
          c.begin_implication.new.shelf c.run_saved.new.shelf c.in_ok-sweep.sweep c.run_saved.new.sweep
          c.in_ok-sweep.ensures.begun (went g (goal.at.returns g c).After-run_saved)
          (record { answer = c.in-Some.answer; turns = c.run_saved.new.going.turns; next = c.min.result }) (record {
            keeps = ended.keeps;
            few = ended.few;
            cost = λ below.
                let counted = ended.counted below in
                let shown = counted.1 in
                let late = ended.late c.in_ok-sweep.ensures.begun.paid.shown in
                record { saves = counted.0; few = omega (arith, shown, late); parts = counted.2; calls = counted.3 };
            grew = ended.grew.0;
            more = ended.later;
            untaken = ended.untaken;
            faults = ended.faults;
          })
          (counted_of c.run_saved.new.going.turns c.min.result (accounts.stock c.run_saved.new.sweep) (omega (arith, made))
          (omega (arith, begun, later, next)) (omega (arith, next)) (λ below.
          let paid_to = ended.paid below c.in_ok-sweep.ensures.begun.paid in
          let paid = paid_to.paid in
          let shown = paid_to.shown in
          omega (arith, paid, shown, next)))
          (let within = ended.within c.in_ok-sweep.ensures.begun.within in omega (arith, next, within))
          (λ told d remains. c.in-Some.ensures.is_right (g.S.Shelf.world c.run_saved.new.shelf) (refutation_of c.args.n d)
          remains);
    }
