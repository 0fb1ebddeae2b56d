use Rattle.std.proofs.Common.{◌<◌, ◌≤◌, ◌+◌, ◌-◌, ◌*◌, get_or, length, refl, sym, subst, arith}
use Rattle.std.specs.Prelude.{Ok, Err}
use Rattle.step_work.specs.Plans.{no_step}
use Rattle.shelf_model.specs.World.{now}
use Rattle.step_engine.specs.Simple.{MayRun}
use Rattle.step_engine.proofs.PlanLaws.{may_run}
use Rattle.script_runner.specs.declared.finish.Finish.TheVariants.{FolderFault}
use Rattle.script_runner.specs.Calls.{calls_before}
use Rattle.script_runner.specs.JobOf.{job_in}
use Rattle.script_runner.specs.Lean.{IsLean}
use Rattle.script_runner.proofs.Leaning.{lean_steps}
use Rattle.script_runner.proofs.StepPaying.{stopped_pays, commit_stopped, tidy_stopped, took_pays}
use Rattle.script_runner.proofs.Taking.{stopped_calls, committing_calls, together_calls, was_stopped, commit_failed, tidy_failed, took}
use Rattle.script_runner.proofs.step.take_steps.Goals as goal

pub returns-in-Err-clause-content : goal.returns-in-Err-clause-content
returns-in-Err-clause-content g c =
    let here : c.args.number < length c.args.job.now.steps.now = omega (arith, c.requires.within.0, c.requires.within.1) in
    let may : MayRun c.args.job.now.n c.args.job.now.text.now c.args.number (get_or c.args.job.now.steps.now c.args.number no_step) =
    may_run c.args.job.now.n c.args.job.now.text.now c.args.job.now.steps.now c.args.number no_step here c.args.job.now.well_formed in
    was_stopped g.S.Shelf.tells g.S.Shelf.world g.S.Shelf.faults (λ s told f. g.met.S.Shelf.files_are s told f) (job_in c.args.job.now) c.args.number
    c.args.job.now.well_formed here (get_or c.args.job.now.steps.now c.args.number no_step) refl may.operands_are c.args.until (omega (arith, c.requires.within.0)) c.in-Err.fault _ _ c.in-Err.ensures.makes _ c.stopped_by.ensures c.requires.ready

pub returns-in_default-clause-content : goal.returns-in_default-clause-content
returns-in_default-clause-content g c =
    let here : c.args.number < length c.args.job.now.steps.now = omega (arith, c.requires.within.0, c.requires.within.1) in
    let may : MayRun c.args.job.now.n c.args.job.now.text.now c.args.number (get_or c.args.job.now.steps.now c.args.number no_step) =
    may_run c.args.job.now.n c.args.job.now.text.now c.args.job.now.steps.now c.args.number no_step here c.args.job.now.well_formed in
    commit_failed g.S.Shelf.tells g.S.Shelf.world g.S.Shelf.faults (λ s told f. g.met.S.Shelf.files_are s told f) (job_in c.args.job.now) c.args.number
    c.args.job.now.well_formed here (get_or c.args.job.now.steps.now c.args.number no_step) refl may.operands_are c.args.until c.drops_end-end.result c.drops_end-end.ensures.behind.0 c.drops_end-end.ensures.behind.1 c.requires.within.1 c.in-Ok.entry _ _ c.in-Ok.ensures.makes c.requires.ready c.drops_end-end.ensures.drops _ c.in_default.ensures.content

pub returns-in_default-tidy_together-clause-content : goal.returns-in_default-tidy_together-clause-content
returns-in_default-tidy_together-clause-content g c =
    let here : c.args.number < length c.args.job.now.steps.now = omega (arith, c.requires.within.0, c.requires.within.1) in
    let may : MayRun c.args.job.now.n c.args.job.now.text.now c.args.number (get_or c.args.job.now.steps.now c.args.number no_step) =
    may_run c.args.job.now.n c.args.job.now.text.now c.args.job.now.steps.now c.args.number no_step here c.args.job.now.well_formed in
    tidy_failed g.S.Shelf.tells g.S.Shelf.world g.S.Shelf.faults (λ s told f. g.met.S.Shelf.files_are s told f) (job_in c.args.job.now) c.args.number
    c.args.job.now.well_formed here (get_or c.args.job.now.steps.now c.args.number no_step) refl may.operands_are c.args.until c.drops_end-end.result c.drops_end-end.ensures.behind.0 c.drops_end-end.ensures.behind.1 c.requires.within.1 c.in-Ok.entry _ _ c.in-Ok.ensures.makes c.requires.ready c.drops_end-end.ensures.drops _ _
    c.in-Ok-commit_together.ensures.content c.in-Ok-commit_together.ensures.ok c.in_default-tidy_together.ensures.content

pub returns-clause-content : goal.returns-clause-content
returns-clause-content g c =
    let here : c.args.number < length c.args.job.now.steps.now = omega (arith, c.requires.within.0, c.requires.within.1) in
    let may : MayRun c.args.job.now.n c.args.job.now.text.now c.args.number (get_or c.args.job.now.steps.now c.args.number no_step) =
    may_run c.args.job.now.n c.args.job.now.text.now c.args.job.now.steps.now c.args.number no_step here c.args.job.now.well_formed in
    took g.S.Shelf.tells g.S.Shelf.world g.S.Shelf.faults (λ s told f. g.met.S.Shelf.files_are s told f) (job_in c.args.job.now) c.args.number
    c.args.job.now.well_formed here (get_or c.args.job.now.steps.now c.args.number no_step) refl may.operands_are c.args.until c.drops_end-end.result c.drops_end-end.ensures.behind.0 c.drops_end-end.ensures.behind.1 c.requires.within.1 c.in-Ok.entry _ _ c.in-Ok.ensures.makes c.requires.ready c.drops_end-end.ensures.drops _ _
    c.in-Ok-commit_together.ensures.content c.in-Ok-commit_together.ensures.ok c.in-Ok-tidy_together.ensures.content
    c.in-Ok-commit_together.last c.in-Ok-commit_together.ensures.last c.in-Ok-tidy_together.ensures.empty

-- behind them the folder is lean where it was
pub returns-clause-lean : goal.returns-clause-lean
returns-clause-lean g c tells_u holds gated lean =
    subst (λ n. IsLean (job_in c.args.job.now) n (now (g.S.Shelf.world c.tidy_together.new.shelf)).folder) (sym c.in-Ok-commit_together.ensures.last.0)
    (lean_steps g.S.Shelf.tells g.S.Shelf.world g.S.Shelf.faults (job_in c.args.job.now)
    c.args.job.now.well_formed c.args.number c.drops_end-end.result c.drops_end-end.ensures.behind.0
    (omega (arith, c.drops_end-end.ensures.behind.1, c.requires.within.1)) (get_or c.args.job.now.steps.now c.args.number no_step) refl
    c.in-Ok.entry c.args.gone_on _ _ _ _ c.drops_end-end.ensures.drops c.in-Ok.ensures.makes c.in-Ok-commit_together.ensures.content
    c.in-Ok-tidy_together.ensures.content c.in-Ok-tidy_together.ensures.empty c.in-Ok-tidy_together.ensures.behind tells_u holds gated lean)

-- the calls, wherever it stops

pub returns-in-Err-clause-calls : goal.returns-in-Err-clause-calls
returns-in-Err-clause-calls g c tells_s rest counted =
    let here : c.args.number < length c.args.job.now.steps.now = omega (arith, c.requires.within.0, c.requires.within.1) in
    let may : MayRun c.args.job.now.n c.args.job.now.text.now c.args.number (get_or c.args.job.now.steps.now c.args.number no_step) =
    may_run c.args.job.now.n c.args.job.now.text.now c.args.job.now.steps.now c.args.number no_step here c.args.job.now.well_formed in
    let few = stopped_calls g.S.Shelf.tells g.S.Shelf.world g.S.Shelf.faults (λ s told f. g.met.S.Shelf.files_are s told f) (job_in c.args.job.now) c.args.number
    c.args.job.now.well_formed here (get_or c.args.job.now.steps.now c.args.number no_step) refl may.operands_are c.args.until c.requires.within.0 c.requires.within.1 _ _ (Err c.in-Err.fault) c.in-Err.ensures.makes tells_s c.args.gone_on rest counted in
    omega (arith, few)

pub returns-in_default-clause-calls : goal.returns-in_default-clause-calls
returns-in_default-clause-calls g c tells_t rest counted =
    let here : c.args.number < length c.args.job.now.steps.now = omega (arith, c.requires.within.0, c.requires.within.1) in
    let may : MayRun c.args.job.now.n c.args.job.now.text.now c.args.number (get_or c.args.job.now.steps.now c.args.number no_step) =
    may_run c.args.job.now.n c.args.job.now.text.now c.args.job.now.steps.now c.args.number no_step here c.args.job.now.well_formed in
    let few = committing_calls g.S.Shelf.tells g.S.Shelf.world g.S.Shelf.faults (λ s told f. g.met.S.Shelf.files_are s told f) (job_in c.args.job.now) c.args.number
    c.args.job.now.well_formed here (get_or c.args.job.now.steps.now c.args.number no_step) refl may.operands_are c.drops_end-end.result c.args.until c.drops_end-end.ensures.behind.0 c.drops_end-end.ensures.behind.1 c.requires.within.1 c.in-Ok.entry _ _ c.in-Ok.ensures.makes (c.in_default.ensures.content.before tells_t) c.args.gone_on rest counted _ (c.in_default.ensures.calls tells_t) in
    omega (arith, few)

pub returns-in_default-tidy_together-clause-calls : goal.returns-in_default-tidy_together-clause-calls
returns-in_default-tidy_together-clause-calls g c tells_u rest counted =
    let here : c.args.number < length c.args.job.now.steps.now = omega (arith, c.requires.within.0, c.requires.within.1) in
    let may : MayRun c.args.job.now.n c.args.job.now.text.now c.args.number (get_or c.args.job.now.steps.now c.args.number no_step) =
    may_run c.args.job.now.n c.args.job.now.text.now c.args.job.now.steps.now c.args.number no_step here c.args.job.now.well_formed in
    let tells_t = c.in_default-tidy_together.ensures.content.before tells_u in
    let few = together_calls g.S.Shelf.tells g.S.Shelf.world g.S.Shelf.faults (λ s told f. g.met.S.Shelf.files_are s told f) (job_in c.args.job.now) c.args.number
    c.args.job.now.well_formed here (get_or c.args.job.now.steps.now c.args.number no_step) refl may.operands_are c.drops_end-end.result c.args.until c.drops_end-end.ensures.behind.0 c.drops_end-end.ensures.behind.1 c.requires.within.1 c.in-Ok.entry _ _ c.in-Ok.ensures.makes (c.in-Ok-commit_together.ensures.content.before tells_t) c.args.gone_on rest counted _ _
    (c.in-Ok-commit_together.ensures.calls tells_t) (c.in_default-tidy_together.ensures.calls tells_u) in
    omega (arith, few)

pub returns-clause-calls : goal.returns-clause-calls
returns-clause-calls g c tells_u rest counted =
    let here : c.args.number < length c.args.job.now.steps.now = omega (arith, c.requires.within.0, c.requires.within.1) in
    let may : MayRun c.args.job.now.n c.args.job.now.text.now c.args.number (get_or c.args.job.now.steps.now c.args.number no_step) =
    may_run c.args.job.now.n c.args.job.now.text.now c.args.job.now.steps.now c.args.number no_step here c.args.job.now.well_formed in
    let tells_t = c.in-Ok-tidy_together.ensures.content.before tells_u in
    let last_is = c.in-Ok-commit_together.ensures.last.0 in
    let few = together_calls g.S.Shelf.tells g.S.Shelf.world g.S.Shelf.faults (λ s told f. g.met.S.Shelf.files_are s told f) (job_in c.args.job.now) c.args.number
    c.args.job.now.well_formed here (get_or c.args.job.now.steps.now c.args.number no_step) refl may.operands_are c.drops_end-end.result c.drops_end-end.result c.drops_end-end.ensures.behind.0 (omega arith) (omega (arith, c.drops_end-end.ensures.behind.1, c.requires.within.1)) c.in-Ok.entry _ _ c.in-Ok.ensures.makes (c.in-Ok-commit_together.ensures.content.before tells_t) c.args.gone_on rest counted _ _
    (c.in-Ok-commit_together.ensures.calls tells_t) (c.in-Ok-tidy_together.ensures.calls tells_u) in
    subst (λ n. (g.S.Shelf.world c.tidy_together.new.shelf).clock + 5 * (c.in-Ok-commit_together.last.number - c.args.number)
    + calls_before (job_in c.args.job.now) c.args.number
    ≤ (g.S.Shelf.world c.args.shelf.now).clock + (calls_before (job_in c.args.job.now) n + rest)) (sym last_is) (omega (arith, few, last_is))

-- what a stop costs, wherever it stops
pub returns-in-Err-clause-stops : goal.returns-in-Err-clause-stops
returns-in-Err-clause-stops g c tells_s paid rest is =
    let here : c.args.number < length c.args.job.now.steps.now = omega (arith, c.requires.within.0, c.requires.within.1) in
    let may : MayRun c.args.job.now.n c.args.job.now.text.now c.args.number (get_or c.args.job.now.steps.now c.args.number no_step) =
    may_run c.args.job.now.n c.args.job.now.text.now c.args.job.now.steps.now c.args.number no_step here c.args.job.now.well_formed in
    stopped_pays g.S.Shelf.tells g.S.Shelf.world g.S.Shelf.faults (λ s told f. g.met.S.Shelf.files_are s told f) (job_in c.args.job.now) c.args.number
    c.args.job.now.well_formed here (get_or c.args.job.now.steps.now c.args.number no_step) refl may.operands_are _ _ (Err c.in-Err.fault) c.in-Err.ensures.makes tells_s c.args.gone_on paid rest is c.stopped_by.result

pub returns-in_default-clause-stops : goal.returns-in_default-clause-stops
returns-in_default-clause-stops g c tells_t paid rest is =
    let here : c.args.number < length c.args.job.now.steps.now = omega (arith, c.requires.within.0, c.requires.within.1) in
    let may : MayRun c.args.job.now.n c.args.job.now.text.now c.args.number (get_or c.args.job.now.steps.now c.args.number no_step) =
    may_run c.args.job.now.n c.args.job.now.text.now c.args.job.now.steps.now c.args.number no_step here c.args.job.now.well_formed in
    commit_stopped g.S.Shelf.tells g.S.Shelf.world g.S.Shelf.faults (λ s told f. g.met.S.Shelf.files_are s told f) (job_in c.args.job.now) c.args.number
    c.args.job.now.well_formed here (get_or c.args.job.now.steps.now c.args.number no_step) refl may.operands_are _ _ (Ok c.in-Ok.entry) c.in-Ok.ensures.makes (c.in_default.ensures.content.before tells_t) c.args.gone_on paid rest is
    c.in-Ok.entry refl c.drops_end-end.result c.drops_end-end.ensures.behind.0 c.drops_end-end.ensures.few
    (omega (arith, c.drops_end-end.ensures.behind.1, c.requires.within.1)) c.drops_end-end.ensures.drops FolderFault _ (c.in_default.ensures.content.did tells_t) (c.in_default.ensures.calls tells_t)

pub returns-in_default-tidy_together-clause-stops : goal.returns-in_default-tidy_together-clause-stops
returns-in_default-tidy_together-clause-stops g c tells_u paid rest is =
    let here : c.args.number < length c.args.job.now.steps.now = omega (arith, c.requires.within.0, c.requires.within.1) in
    let may : MayRun c.args.job.now.n c.args.job.now.text.now c.args.number (get_or c.args.job.now.steps.now c.args.number no_step) =
    may_run c.args.job.now.n c.args.job.now.text.now c.args.job.now.steps.now c.args.number no_step here c.args.job.now.well_formed in
    let tells_t = c.in_default-tidy_together.ensures.content.before tells_u in
    tidy_stopped g.S.Shelf.tells g.S.Shelf.world g.S.Shelf.faults (λ s told f. g.met.S.Shelf.files_are s told f) (job_in c.args.job.now) c.args.number
    c.args.job.now.well_formed here (get_or c.args.job.now.steps.now c.args.number no_step) refl may.operands_are _ _ (Ok c.in-Ok.entry) c.in-Ok.ensures.makes (c.in-Ok-commit_together.ensures.content.before tells_t) c.args.gone_on paid rest is
    c.in-Ok.entry refl c.drops_end-end.result c.drops_end-end.ensures.behind.0 c.drops_end-end.ensures.few
    (omega (arith, c.drops_end-end.ensures.behind.1, c.requires.within.1)) c.drops_end-end.ensures.drops _ _ (c.in-Ok-commit_together.ensures.content.did tells_t) (c.in-Ok-commit_together.ensures.calls tells_t) (c.in-Ok-commit_together.ensures.ok tells_t)
    (c.in_default-tidy_together.ensures.content.did tells_u) (c.in_default-tidy_together.ensures.calls tells_u) FolderFault

pub returns-clause-stops : goal.returns-clause-stops
returns-clause-stops g c tells_u paid rest is =
    let here : c.args.number < length c.args.job.now.steps.now = omega (arith, c.requires.within.0, c.requires.within.1) in
    let may : MayRun c.args.job.now.n c.args.job.now.text.now c.args.number (get_or c.args.job.now.steps.now c.args.number no_step) =
    may_run c.args.job.now.n c.args.job.now.text.now c.args.job.now.steps.now c.args.number no_step here c.args.job.now.well_formed in
    let tells_t = c.in-Ok-tidy_together.ensures.content.before tells_u in
    took_pays g.S.Shelf.tells g.S.Shelf.world g.S.Shelf.faults (λ s told f. g.met.S.Shelf.files_are s told f) (job_in c.args.job.now) c.args.number
    c.args.job.now.well_formed here (get_or c.args.job.now.steps.now c.args.number no_step) refl may.operands_are _ _ (Ok c.in-Ok.entry) c.in-Ok.ensures.makes (c.in-Ok-commit_together.ensures.content.before tells_t) c.args.gone_on paid rest is
    c.in-Ok.entry refl c.drops_end-end.result c.drops_end-end.ensures.behind.0 c.drops_end-end.ensures.few
    (omega (arith, c.drops_end-end.ensures.behind.1, c.requires.within.1)) c.drops_end-end.ensures.drops _ _ (c.in-Ok-commit_together.ensures.content.did tells_t) (c.in-Ok-commit_together.ensures.calls tells_t) (c.in-Ok-commit_together.ensures.ok tells_t)
    (c.in-Ok-tidy_together.ensures.content.did tells_u) (c.in-Ok-tidy_together.ensures.calls tells_u) c.in-Ok-commit_together.last c.in-Ok-commit_together.ensures.last.0
