use Rattle.std.proofs.Common.{◌≡◌, ℕ, ◌+◌, ◌<◌, List, [], length, take, get_or, subst, rules, arith}
use Rattle.std.proofs.lemmas.List.{take_all, get_or_default}
use Rattle.run_tiers.specs.declared.run.Run.{Run}
use Rattle.sweep_checkpoint.specs.Retires.{NamedAmong, NamedIn, Emptied}
use Rattle.step_engine.specs.LeftBehind.{IsRunOf}
use Rattle.step_engine.proofs.Cutting.{tidied_none, tidied_then}
use Rattle.step_engine.proofs.Emptying.{emptied_none, emptied_then, in_more}
use Rattle.step_engine.proofs.last_runs.empty_tables.Goals as goal

pub loop-k-init : goal.loop-k-init
loop-k-init g c = record {
  so_far = tidied_none g.S.Shelf.tells g.S.Shelf.world c.args.step c.args.number c.args.until c.args.shelf.now;
  emptied = λ tells. emptied_none _ _ (λ f is. absurd (omega (arith, is.one_of.2)));
  calls = λ tells. omega arith;
  faults = search rules;
}

pub loop-k-preserved : goal.loop-k-preserved
loop-k-preserved g c =
    let tables : List (List Run) = c.args.tables.now in
    let k : ℕ = c.loop-k.k in
    let within : k < length tables = c.loop-k-test.true in
    let table : List Run = get_or tables k [] in
    let is : get_or tables k table ≡ table = get_or_default tables k table [] within in
    record {
      so_far = tidied_then g.S.Shelf.tells g.S.Shelf.world c.args.step c.args.number c.args.until _ _ _ c.loop-k.invariant.so_far c.in_ok-empty_table.ensures.content;
      emptied = λ tells. emptied_then (IsRunOf c.args.number c.args.until (λ p. NamedIn p (take k tables))) (IsRunOf c.args.number c.args.until (λ p. NamedAmong p table))
          (IsRunOf c.args.number c.args.until (λ p. NamedIn p (take (k + 1) tables))) _ _ _ (in_more c.args.number c.args.until tables k table within is)
          (c.loop-k.invariant.emptied (c.in_ok-empty_table.ensures.content.before tells)) (c.in_ok-empty_table.ensures.ok tells);
      calls = λ tells.
          let before = c.loop-k.invariant.calls (c.in_ok-empty_table.ensures.content.before tells) in
          let call = c.in_ok-empty_table.ensures.calls tells in
          let each : length table ≡ 64 = c.told-tables k within in
          omega arith;
      faults = search rules;
    }

pub returns-in_err-empty_table-clause-content : goal.returns-in_err-empty_table-clause-content
returns-in_err-empty_table-clause-content g c =
    tidied_then g.S.Shelf.tells g.S.Shelf.world c.args.step c.args.number c.args.until _ _ _ c.loop-k.invariant.so_far c.in_err-empty_table.ensures.content

pub returns-clause-ok : goal.returns-clause-ok
returns-clause-ok g c = λ tells.
    subst (λ xs. Emptied (IsRunOf c.args.number c.args.until (λ p. NamedIn p xs)) (g.S.Shelf.world c.args.shelf.now) (g.S.Shelf.world c.loop-k.shelf))
    (take_all c.loop-k.k c.args.tables.now c.loop-k-test.false) (c.loop-k.invariant.emptied tells)
