use Rattle.std.proofs.Common.{◌≡◌, ℕ, ◌+◌, ◌<◌, List, length, take, get_or, subst, rules, arith}
use Rattle.std.proofs.lemmas.List.{take_all, get_or_default}
use Rattle.run_tiers.specs.declared.run.Run.{Run}
use Rattle.sweep_checkpoint.specs.Retires.{NamedAmong, Emptied}
use Rattle.step_engine.specs.LeftBehind.{IsRunOf}
use Rattle.step_engine.proofs.Cutting.{tidied_none, tidied_then}
use Rattle.step_engine.proofs.Emptying.{emptied_none, emptied_then, among_more}
use Rattle.step_engine.proofs.last_runs.empty_table.Goals as goal

pub loop-k-init : goal.loop-k-init
loop-k-init g c = record {
  so_far = tidied_none g.S.Shelf.tells g.S.Shelf.world c.args.step c.args.number c.args.until c.args.shelf.now;
  emptied = λ tells. emptied_none _ _ (λ f is. absurd (omega (arith, is.one_of.2)));
  calls = λ tells. omega arith;
  faults = search rules;
}

pub loop-k-preserved : goal.loop-k-preserved
loop-k-preserved g c =
    let table : List Run = c.args.table.now in
    let k : ℕ = c.loop-k.k in
    let within : k < length table = c.loop-k-test.true in
    let d : Run = record { part = 0; next = 0; end = 0 } in
    let run : Run = get_or table k d in
    let is : get_or table k run ≡ run = get_or_default table k run d within in
    record {
      so_far = tidied_then g.S.Shelf.tells g.S.Shelf.world c.args.step c.args.number c.args.until _ _ _ c.loop-k.invariant.so_far c.in_ok-empty_run.ensures.content;
      emptied = λ tells. emptied_then (IsRunOf c.args.number c.args.until (λ p. NamedAmong p (take k table))) (IsRunOf c.args.number c.args.until (λ p. p ≡ run.part))
          (IsRunOf c.args.number c.args.until (λ p. NamedAmong p (take (k + 1) table))) _ _ _ (among_more c.args.number c.args.until table k run within is)
          (c.loop-k.invariant.emptied (c.in_ok-empty_run.ensures.content.before tells)) (c.in_ok-empty_run.ensures.ok tells);
      calls = λ tells.
          let before = c.loop-k.invariant.calls (c.in_ok-empty_run.ensures.content.before tells) in
          let call = c.in_ok-empty_run.ensures.calls tells in
          omega arith;
      faults = search rules;
    }

pub returns-in_err-empty_run-clause-content : goal.returns-in_err-empty_run-clause-content
returns-in_err-empty_run-clause-content g c =
    tidied_then g.S.Shelf.tells g.S.Shelf.world c.args.step c.args.number c.args.until _ _ _ c.loop-k.invariant.so_far c.in_err-empty_run.ensures.content

pub returns-clause-ok : goal.returns-clause-ok
returns-clause-ok g c = λ tells.
    subst (λ xs. Emptied (IsRunOf c.args.number c.args.until (λ p. NamedAmong p xs)) (g.S.Shelf.world c.args.shelf.now) (g.S.Shelf.world c.loop-k.shelf))
    (take_all c.loop-k.k c.args.table.now c.loop-k-test.false) (c.loop-k.invariant.emptied tells)
