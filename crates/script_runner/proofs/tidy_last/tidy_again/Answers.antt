use Rattle.std.proofs.Common.{◌≤◌, ◌+◌, true, cond, sym, subst}
use Rattle.std.proofs.lemmas.Bool.{lt-ltb, le-ltb}
use Rattle.step_work.specs.Tuples.{sweeps}
use Rattle.file_numbers.specs.Files.{first_run_part}
use Rattle.step_engine.specs.LeftBehind.{IsLeftBehind}
use Rattle.script_runner.specs.Calls.{cut_calls}
use Rattle.script_runner.proofs.LastTidied.{ok_then}
use Rattle.script_runner.proofs.tidy_last.tidy_again.Goals as goal

pub returns-then-entry-ge16-clause-calls : goal.returns-then-entry-ge16-clause-calls
returns-then-entry-ge16-clause-calls g c told =
    subst (λ b. (g.S.Shelf.world c.tidy_gone_on.new.shelf).clock ≤ (g.S.Shelf.world c.args.shelf.now).clock
    + cond b (cond (sweeps c.args.planned.now.step) 4 1) (cut_calls true c.args.planned.now.step c.args.entry.now.parts))
    (sym (le-ltb c.args.entry.now.turns 16 c.if-entry-ge16.true)) (c.tidy_gone_on.ensures.calls told)

pub returns-clause-calls : goal.returns-clause-calls
returns-clause-calls g c told =
    subst (λ b. (g.S.Shelf.world c.tidy.new.shelf).clock ≤ (g.S.Shelf.world c.args.shelf.now).clock
    + cond b (cond (sweeps c.args.planned.now.step) 4 1) (cut_calls true c.args.planned.now.step c.args.entry.now.parts))
    (sym (lt-ltb c.args.entry.now.turns 16 c.if-entry-ge16.false)) (c.tidy.ensures.calls told)

pub returns-then-entry-ge16-clause-behind : goal.returns-then-entry-ge16-clause-behind
returns-then-entry-ge16-clause-behind g c =
    ok_then c.tidy_gone_on.result c.tidy_gone_on.ensures.behind (λ behind told swept last is f left. behind told swept last is f
    (subst (λ b. IsLeftBehind c.args.entry.now.number (cond b first_run_part c.args.entry.now.parts) last f) (le-ltb c.args.entry.now.turns 16 c.if-entry-ge16.true) left))

pub returns-clause-behind : goal.returns-clause-behind
returns-clause-behind g c =
    ok_then c.tidy.result c.tidy.ensures.behind (λ behind told swept last is f left. behind told swept f
    (subst (λ b. IsLeftBehind c.args.entry.now.number (cond b first_run_part c.args.entry.now.parts) last f) (lt-ltb c.args.entry.now.turns 16 c.if-entry-ge16.false) left).behind)
