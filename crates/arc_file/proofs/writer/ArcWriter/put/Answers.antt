use Rattle.std.proofs.Common.{sym, refl, arith}
use Rattle.std.proofs.lemmas.Grind.{common_steps}
use Rattle.arc_file.proofs.PairLaws.{wrote_leaves}
use Rattle.list_laws.proofs.AnswerLaws.{on_ok_both}
use Rattle.arc_file.proofs.WriterLaws.{files_apart, put_inner, put_end}
use Rattle.arc_file.proofs.writer.ArcWriter.put.Goals as goal

pub returns-in-Some-clause-in_step : goal.returns-in-Some-clause-in_step
returns-in-Some-clause-in_step g c = grind (arith, common_steps)

pub returns-in-Some-clause-arcs : goal.returns-in-Some-clause-arcs
returns-in-Some-clause-arcs g c =
    let w = c.args.self.now in
    on_ok_both c.put.result (λ count items t xs ys held.
    let stays = wrote_leaves _ _ w.ends.filling.file _ _ (λ same. files_apart w (sym same)) (c.put.ensures.content.did t) in
    put_inner w _ _ _ xs ys c.args.arc c.in-Some.ensures.level.0 refl stays (items t w.inner_width xs held.inner_are) count held)
    c.put.ensures.count c.put.ensures.items

pub returns-in-Some-clause-content : goal.returns-in-Some-clause-content
returns-in-Some-clause-content g c = grind (arith, common_steps)

pub returns-in-None-clause-in_step : goal.returns-in-None-clause-in_step
returns-in-None-clause-in_step g c = grind (arith, common_steps)

pub returns-in-None-clause-arcs : goal.returns-in-None-clause-arcs
returns-in-None-clause-arcs g c =
    let w = c.args.self.now in
    on_ok_both c.put-in-None.result (λ count items t xs ys held.
    let stays = wrote_leaves _ _ w.inner.filling.file _ _ (files_apart w) (c.put-in-None.ensures.content.did t) in
    put_end w _ _ _ xs ys c.args.arc (omega (arith, c.in-None.ensures.level)) refl stays (items t w.ends_width ys held.ends_are) count held)
    c.put-in-None.ensures.count c.put-in-None.ensures.items

pub returns-in-Some-clause-calls : goal.returns-in-Some-clause-calls
returns-in-Some-clause-calls g c t space = c.put.ensures.calls t (space.inner c.in-Some.ensures.level.0)

pub returns-in-None-clause-calls : goal.returns-in-None-clause-calls
returns-in-None-clause-calls g c t space = c.put-in-None.ensures.calls t (space.ends (omega (arith, c.in-None.ensures.level)))

pub returns-in-None-clause-content : goal.returns-in-None-clause-content
returns-in-None-clause-content g c = grind (arith, common_steps)
