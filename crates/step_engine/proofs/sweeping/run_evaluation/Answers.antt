use Rattle.std.proofs.Common.{length, ap, arith}
use Rattle.bool_tables.specs.Plans.{operands}
use Rattle.step_engine.proofs.Questions.{bits_within, earlier_one, eval_asks, eval_asked, question_refused, question_answered}
use Rattle.step_engine.proofs.RunFaults.{not_spent_kind}
use Rattle.step_engine.proofs.Runs.{handed_runs, first_refused}
use Rattle.step_engine.proofs.sweeping.run_evaluation.Goals as goal

pub evaluate-requires-clause-going : goal.evaluate-requires-clause-going
evaluate-requires-clause-going g c = c.in_ok-going.ensures.finds.going.1

pub evaluate-requires-clause-earlier : goal.evaluate-requires-clause-earlier
evaluate-requires-clause-earlier g c =
    earlier_one c.args.number c.args.of _ c.in_ok-going.going c.args.planned.now.step c.node_file-of.ensures
    (ap operands c.requires.kind) c.in_ok-going.ensures.finds.going.0 c.requires.step.operands_are

pub evaluate-requires-clause-bits : goal.evaluate-requires-clause-bits
evaluate-requires-clause-bits g c =
    bits_within c.args.n c.args.of c.args.at c.args.text.now c.args.planned.now.step c.requires.kind c.requires.step.bits_are

pub returns-in_err-going : goal.returns-in_err-going
returns-in_err-going g c =
    let p = c.args.planned.now in
    record {
      runs = handed_runs g.S.Shelf.tells g.S.Shelf.world g.S.Shelf.faults c.args.n c.args.text.now c.args.number p _ _
          c.in_err-going.field-0.0 c.from_residual.result c.from_residual.ensures.1
          (first_refused g.S.Shelf.tells g.S.Shelf.world g.S.Shelf.faults c.args.n c.args.text.now c.args.number p
          (eval_asks c.args.n c.args.number c.args.of c.args.at c.args.text.now _ c.node_file-of.ensures p.step c.requires.kind).sweeps_is _ _ c.in_err-going.field-0.0 c.in_err-going.ensures.finds);
    }

pub returns-in_err-answered : goal.returns-in_err-answered
returns-in_err-answered g c =
    let p = c.args.planned.now in
    record {
      runs = handed_runs g.S.Shelf.tells g.S.Shelf.world g.S.Shelf.faults c.args.n c.args.text.now c.args.number p _ _
          c.in_err-answered.field-0.0 c.from_residual-in_err-answered.result c.from_residual-in_err-answered.ensures.1
          (question_refused g.S.Shelf.tells g.S.Shelf.world g.S.Shelf.faults c.args.n c.args.text.now c.args.number p _
          (eval_asks c.args.n c.args.number c.args.of c.args.at c.args.text.now _ c.node_file-of.ensures p.step c.requires.kind) c.requires.step g.met.S.Shelf.files_are _ _ _ c.in_ok-going.going c.in_ok-going.ensures.finds
          (eval_asked c.args.n c.args.number c.args.of c.args.at c.args.text.now _ c.node_file-of.ensures p (g.S.Shelf.world c.going_in.new.shelf) c.requires.kind)
          c.in_err-answered.field-0.0 c.in_err-answered.ensures.answers (not_spent_kind p.step c.in_err-answered.field-0.0 c.in_err-answered.ensures.kind));
    }

pub returns : goal.returns
returns g c =
    let p = c.args.planned.now in
    record {
      runs = question_answered g.S.Shelf.tells g.S.Shelf.world g.S.Shelf.faults c.args.n c.args.text.now c.args.number p _
          (eval_asks c.args.n c.args.number c.args.of c.args.at c.args.text.now _ c.node_file-of.ensures p.step c.requires.kind) c.requires.step g.met.S.Shelf.files_are _ _ _ c.in_ok-going.going c.in_ok-going.ensures.finds
          (eval_asked c.args.n c.args.number c.args.of c.args.at c.args.text.now _ c.node_file-of.ensures p (g.S.Shelf.world c.going_in.new.shelf) c.requires.kind)
          c.in_ok-answered.answered c.answer_entry.result c.answer_entry.ensures (search arith) c.in_ok-answered.ensures.answers;
    }
