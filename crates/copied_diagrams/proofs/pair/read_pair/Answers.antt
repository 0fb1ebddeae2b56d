use Rattle.std.proofs.Common.{inl, inr}
use Rattle.list_laws.proofs.AnswerLaws.{on_fault}
use Rattle.copied_diagrams.proofs.PairRuns.{damaged_before, file_before}
use Rattle.copied_diagrams.proofs.pair.read_pair.Goals as goal

-- the first trailer
pub returns-in_err-first-clause-sound : goal.returns-in_err-first-clause-sound
returns-in_err-first-clause-sound g c = on_fault c.from_residual.result c.in_err-first.field-0.0 _ c.from_residual.ensures.1
    (λ told t u pair. c.in_err-first.ensures.sound told t pair.first)

pub returns-in_err-first-clause-damaged : goal.returns-in_err-first-clause-damaged
returns-in_err-first-clause-damaged g c = on_fault c.from_residual.result c.in_err-first.field-0.0 _ c.from_residual.ensures.1
    (λ told. inl (c.in_err-first.ensures.damaged told))

-- the second
pub returns-in_err-second-clause-sound : goal.returns-in_err-second-clause-sound
returns-in_err-second-clause-sound g c = on_fault c.from_residual-in_err-second.result c.in_err-second.field-0.0 _
    c.from_residual-in_err-second.ensures.1
    (λ told t u pair. c.in_err-second.ensures.sound told u (file_before c.args.n 2 u c.args.right _ _
    (c.in_ok-first.ensures.content.did (c.in_err-second.ensures.content.before told)) pair.second))

pub returns-in_err-second-clause-damaged : goal.returns-in_err-second-clause-damaged
returns-in_err-second-clause-damaged g c = on_fault c.from_residual-in_err-second.result c.in_err-second.field-0.0 _
    c.from_residual-in_err-second.ensures.1
    (λ told. inr (damaged_before c.args.n 2 c.args.right _ _ c.in_err-second.field-0.0
    (c.in_ok-first.ensures.content.did (c.in_err-second.ensures.content.before told)) (c.in_err-second.ensures.damaged told)))

pub returns-clause-trailers : goal.returns-clause-trailers
returns-clause-trailers g c told t u pair =
    let mid = c.in_ok-second.ensures.content.before told in (
      c.in_ok-first.ensures.of mid t pair.first,
      c.in_ok-second.ensures.of told u
          (file_before c.args.n 2 u c.args.right _ _ (c.in_ok-first.ensures.content.did mid) pair.second),
    )
