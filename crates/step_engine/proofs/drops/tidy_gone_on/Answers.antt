use Rattle.std.proofs.Common.{◌≡◌, ◌+◌, ◌-◌, ◌≤◌, min, cond, true, sym, subst}
use Rattle.step_work.specs.Tuples.{sweeps}
use Rattle.sound_image.specs.Steps.{parts_end}
use Rattle.step_engine.specs.LeftBehind.{most_cut}
use Rattle.step_engine.proofs.Written.{then}
use Rattle.step_engine.proofs.Emptying.{sweeps_else}
use Rattle.step_engine.proofs.drops.tidy_gone_on.Goals as goal

pub returns-in_default : goal.returns-in_default
returns-in_default g c = record {
  content = c.empty_gone_on.ensures.content;
  calls = λ told.
      let swept : sweeps c.args.planned.now.step ≡ true =
      sweeps_else c.args.planned.now.step c.in_default.not-Const c.in_default.not-Var c.in_default.not-Drop c.in_default.not-Size in
      subst (λ b. (g.S.Shelf.world c.empty_gone_on.new.shelf).clock
      ≤ (g.S.Shelf.world c.args.shelf.now).clock + cond b (591 + min (parts_end c.args.entry.now.parts - 5) most_cut) 1) (sym swept)
      (c.empty_gone_on.ensures.calls told);
  empty = then c.empty_gone_on.result (λ behind told gone is. absurd (c.in_default.not-Drop gone is)) c.empty_gone_on.ensures.behind;
  behind = then c.empty_gone_on.result (λ behind told swept. behind told) c.empty_gone_on.ensures.behind;
  faults = c.empty_gone_on.ensures.faults;
}
