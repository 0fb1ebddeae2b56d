use Rattle.std.proofs.Common.{◌+◌, subst, arith}
use Rattle.std.specs.Prelude.{Some, None, Ok}
use Rattle.script_runner.specs.AtOnce.{TakesAtOnce}
use Rattle.script_runner.specs.JobOf.{job_in}
use Rattle.script_runner.proofs.TakingNext.{next_failed, failed_calls, failed_stops, next_taken, taken_calls, taken_stops, taken_lean, taken_within, none_left, stops_so, cause_failed, cause_none}
use Rattle.script_runner.proofs.step.take_next.Goals as goal

pub take_at_once-requires-clause-within : goal.take_at_once-requires-clause-within
take_at_once-requires-clause-within g c =
    let reached = c.in_ok-entry.ensures.reached.1 in
    (omega (arith, reached), c.requires.within.1)

pub take_at_once-requires-clause-ready : goal.take_at_once-requires-clause-ready
take_at_once-requires-clause-ready g c = λ t. (c.in_ok-entry.ensures.content.did t).ready

-- the first step, or one behind it, couldn't be taken
pub returns-in_err-entry-clause-calls : goal.returns-in_err-entry-clause-calls
returns-in_err-entry-clause-calls g c t rest counted =
    none_left c.from_residual.result c.from_residual.ensures.0 (job_in c.args.job.now) c.args.until _ _ _ _ _ _ (c.in_err-entry.ensures.calls t rest counted)

pub returns-in_err-entry-clause-stops : goal.returns-in_err-entry-clause-stops
returns-in_err-entry-clause-stops g c t paid rest is =
    stops_so c.from_residual.result c.from_residual.ensures.0 (job_in c.args.job.now) paid rest _ _ _ _ _ (c.in_err-entry.ensures.stops t paid rest is)

pub returns-in-Err-clause-content : goal.returns-in-Err-clause-content
returns-in-Err-clause-content g c =
    next_failed g.S.Shelf.tells g.S.Shelf.world g.S.Shelf.faults (λ s told f. g.met.S.Shelf.files_are s told f) (job_in c.args.job.now)
    c.args.job.now.well_formed c.args.number c.args.until c.requires.within.1 c.in_ok-entry.entry c.args.spare.now _ _ _ _ _ c.in_ok-entry.ensures.content
    _ c.in-Err.ensures.takes

pub returns-in-Err-clause-calls : goal.returns-in-Err-clause-calls
returns-in-Err-clause-calls g c t rest counted =
    let few = failed_calls g.S.Shelf.tells g.S.Shelf.world g.S.Shelf.faults (λ s told f. g.met.S.Shelf.files_are s told f) (job_in c.args.job.now)
    c.args.job.now.well_formed c.args.number c.args.until c.requires.within.1 c.in_ok-entry.entry c.args.spare.now _ _ _ _ _ c.in_ok-entry.ensures.content
    _ c.in-Err.ensures.takes t c.args.gone_on rest counted c.spared.ensures.more
    (c.in_ok-entry.ensures.calls (c.in-Err.ensures.takes.content.before t) rest counted) in
    omega (arith, few)

pub returns-in-Err-clause-stops : goal.returns-in-Err-clause-stops
returns-in-Err-clause-stops g c t paid rest is =
    failed_stops g.S.Shelf.tells g.S.Shelf.world g.S.Shelf.faults (λ s told f. g.met.S.Shelf.files_are s told f) (job_in c.args.job.now)
    c.args.job.now.well_formed c.args.number c.args.until c.requires.within.1 c.in_ok-entry.entry c.args.spare.now _ _ _ _ _ c.in_ok-entry.ensures.content
    _ c.in-Err.ensures.takes t c.args.gone_on paid rest is c.spared.ensures.more
    (c.in_ok-entry.ensures.stops (c.in-Err.ensures.takes.content.before t) paid rest is)

pub returns-in-Err-clause-causes : goal.returns-in-Err-clause-causes
returns-in-Err-clause-causes g c = cause_failed _ _ _ c.in_ok-entry.entry _ c.in_ok-entry.ensures.causes c.in-Err.ensures.takes.faults

-- steps were made at once behind them, or none
pub returns-in-Ok-Some-clause-content : goal.returns-in-Ok-Some-clause-content
returns-in-Ok-Some-clause-content g c =
    let takes = subst (λ o. TakesAtOnce g.S.Shelf.tells g.S.Shelf.world g.S.Shelf.faults (job_in c.args.job.now) (c.in_ok-entry.entry.number + 1)
    c.args.until c.spared.result c.take_at_once.new.spare c.take_steps.new.shelf c.take_at_once.new.shelf (Ok o)) c.in-Ok-Some.field-0-is c.in-Ok-Some.ensures.takes in
    next_taken g.S.Shelf.tells g.S.Shelf.world g.S.Shelf.faults (λ s told f. g.met.S.Shelf.files_are s told f) (job_in c.args.job.now)
    c.args.job.now.well_formed c.args.number c.args.until c.requires.within.1 c.in_ok-entry.entry c.args.spare.now c.spared.result c.take_at_once.new.spare
    _ _ _ c.in_ok-entry.ensures.content
    (Some c.in-Ok-Some.last) takes

pub returns-in-Ok-Some-clause-calls : goal.returns-in-Ok-Some-clause-calls
returns-in-Ok-Some-clause-calls g c t rest counted =
    let takes = subst (λ o. TakesAtOnce g.S.Shelf.tells g.S.Shelf.world g.S.Shelf.faults (job_in c.args.job.now) (c.in_ok-entry.entry.number + 1)
    c.args.until c.spared.result c.take_at_once.new.spare c.take_steps.new.shelf c.take_at_once.new.shelf (Ok o)) c.in-Ok-Some.field-0-is c.in-Ok-Some.ensures.takes in
    taken_calls g.S.Shelf.tells g.S.Shelf.world g.S.Shelf.faults (λ s told f. g.met.S.Shelf.files_are s told f) (job_in c.args.job.now)
    c.args.job.now.well_formed c.args.number c.args.until c.requires.within.1 c.in_ok-entry.entry c.args.spare.now c.spared.result c.take_at_once.new.spare
    _ _ _ c.in_ok-entry.ensures.content
    (Some c.in-Ok-Some.last) takes t c.args.gone_on rest counted c.spared.ensures.more (c.in_ok-entry.ensures.calls (takes.content.before t) rest counted)

pub returns-in-Ok-Some-clause-stops : goal.returns-in-Ok-Some-clause-stops
returns-in-Ok-Some-clause-stops g c t paid rest is =
    let takes = subst (λ o. TakesAtOnce g.S.Shelf.tells g.S.Shelf.world g.S.Shelf.faults (job_in c.args.job.now) (c.in_ok-entry.entry.number + 1)
    c.args.until c.spared.result c.take_at_once.new.spare c.take_steps.new.shelf c.take_at_once.new.shelf (Ok o)) c.in-Ok-Some.field-0-is c.in-Ok-Some.ensures.takes in
    taken_stops g.S.Shelf.tells g.S.Shelf.world g.S.Shelf.faults (λ s told f. g.met.S.Shelf.files_are s told f) (job_in c.args.job.now)
    c.args.job.now.well_formed c.args.number c.args.until c.requires.within.1 c.in_ok-entry.entry c.args.spare.now c.spared.result c.take_at_once.new.spare
    _ _ _ c.in_ok-entry.ensures.content
    (Some c.in-Ok-Some.last) takes t c.args.gone_on paid rest is c.spared.ensures.more (c.in_ok-entry.ensures.stops (takes.content.before t) paid rest is)

pub returns-in-Ok-Some-clause-lean : goal.returns-in-Ok-Some-clause-lean
returns-in-Ok-Some-clause-lean g c t holds gated lean =
    let takes = subst (λ o. TakesAtOnce g.S.Shelf.tells g.S.Shelf.world g.S.Shelf.faults (job_in c.args.job.now) (c.in_ok-entry.entry.number + 1)
    c.args.until c.spared.result c.take_at_once.new.spare c.take_steps.new.shelf c.take_at_once.new.shelf (Ok o)) c.in-Ok-Some.field-0-is c.in-Ok-Some.ensures.takes in
    taken_lean g.S.Shelf.tells g.S.Shelf.world g.S.Shelf.faults (λ s told f. g.met.S.Shelf.files_are s told f) (job_in c.args.job.now)
    c.args.job.now.well_formed c.args.number c.args.until c.requires.within.1 c.in_ok-entry.entry c.args.spare.now c.spared.result c.take_at_once.new.spare
    _ _ _ c.in_ok-entry.ensures.content
    (Some c.in-Ok-Some.last) takes t holds (c.in_ok-entry.ensures.lean (takes.content.before t) holds gated lean)

pub returns-in-Ok-Some-clause-reached : goal.returns-in-Ok-Some-clause-reached
returns-in-Ok-Some-clause-reached g c =
    let takes = subst (λ o. TakesAtOnce g.S.Shelf.tells g.S.Shelf.world g.S.Shelf.faults (job_in c.args.job.now) (c.in_ok-entry.entry.number + 1)
    c.args.until c.spared.result c.take_at_once.new.spare c.take_steps.new.shelf c.take_at_once.new.shelf (Ok o)) c.in-Ok-Some.field-0-is c.in-Ok-Some.ensures.takes in
    taken_within g.S.Shelf.tells g.S.Shelf.world g.S.Shelf.faults (λ s told f. g.met.S.Shelf.files_are s told f) (job_in c.args.job.now)
    c.args.job.now.well_formed c.args.number c.args.until c.requires.within.1 c.in_ok-entry.entry c.args.spare.now c.spared.result c.take_at_once.new.spare
    _ _ _ c.in_ok-entry.ensures.content
    (Some c.in-Ok-Some.last) takes c.in_ok-entry.ensures.reached

pub returns-in-Ok-Some-clause-causes : goal.returns-in-Ok-Some-clause-causes
returns-in-Ok-Some-clause-causes g c =
    let takes = subst (λ o. TakesAtOnce g.S.Shelf.tells g.S.Shelf.world g.S.Shelf.faults (job_in c.args.job.now) (c.in_ok-entry.entry.number + 1)
    c.args.until c.spared.result c.take_at_once.new.spare c.take_steps.new.shelf c.take_at_once.new.shelf (Ok o)) c.in-Ok-Some.field-0-is c.in-Ok-Some.ensures.takes in
    cause_none _ _ _ c.in_ok-entry.entry _ (Some c.in-Ok-Some.last) c.in_ok-entry.ensures.causes takes.faults

pub returns-in-Ok-None-clause-content : goal.returns-in-Ok-None-clause-content
returns-in-Ok-None-clause-content g c =
    let takes = subst (λ o. TakesAtOnce g.S.Shelf.tells g.S.Shelf.world g.S.Shelf.faults (job_in c.args.job.now) (c.in_ok-entry.entry.number + 1)
    c.args.until c.spared.result c.take_at_once.new.spare c.take_steps.new.shelf c.take_at_once.new.shelf (Ok o)) c.in-Ok-None.field-0-is c.in-Ok-None.ensures.takes in
    next_taken g.S.Shelf.tells g.S.Shelf.world g.S.Shelf.faults (λ s told f. g.met.S.Shelf.files_are s told f) (job_in c.args.job.now)
    c.args.job.now.well_formed c.args.number c.args.until c.requires.within.1 c.in_ok-entry.entry c.args.spare.now c.spared.result c.take_at_once.new.spare
    _ _ _ c.in_ok-entry.ensures.content
    None takes

pub returns-in-Ok-None-clause-calls : goal.returns-in-Ok-None-clause-calls
returns-in-Ok-None-clause-calls g c t rest counted =
    let takes = subst (λ o. TakesAtOnce g.S.Shelf.tells g.S.Shelf.world g.S.Shelf.faults (job_in c.args.job.now) (c.in_ok-entry.entry.number + 1)
    c.args.until c.spared.result c.take_at_once.new.spare c.take_steps.new.shelf c.take_at_once.new.shelf (Ok o)) c.in-Ok-None.field-0-is c.in-Ok-None.ensures.takes in
    taken_calls g.S.Shelf.tells g.S.Shelf.world g.S.Shelf.faults (λ s told f. g.met.S.Shelf.files_are s told f) (job_in c.args.job.now)
    c.args.job.now.well_formed c.args.number c.args.until c.requires.within.1 c.in_ok-entry.entry c.args.spare.now c.spared.result c.take_at_once.new.spare
    _ _ _ c.in_ok-entry.ensures.content
    None takes t c.args.gone_on rest counted c.spared.ensures.more (c.in_ok-entry.ensures.calls (takes.content.before t) rest counted)

pub returns-in-Ok-None-clause-stops : goal.returns-in-Ok-None-clause-stops
returns-in-Ok-None-clause-stops g c t paid rest is =
    let takes = subst (λ o. TakesAtOnce g.S.Shelf.tells g.S.Shelf.world g.S.Shelf.faults (job_in c.args.job.now) (c.in_ok-entry.entry.number + 1)
    c.args.until c.spared.result c.take_at_once.new.spare c.take_steps.new.shelf c.take_at_once.new.shelf (Ok o)) c.in-Ok-None.field-0-is c.in-Ok-None.ensures.takes in
    taken_stops g.S.Shelf.tells g.S.Shelf.world g.S.Shelf.faults (λ s told f. g.met.S.Shelf.files_are s told f) (job_in c.args.job.now)
    c.args.job.now.well_formed c.args.number c.args.until c.requires.within.1 c.in_ok-entry.entry c.args.spare.now c.spared.result c.take_at_once.new.spare
    _ _ _ c.in_ok-entry.ensures.content
    None takes t c.args.gone_on paid rest is c.spared.ensures.more (c.in_ok-entry.ensures.stops (takes.content.before t) paid rest is)

pub returns-in-Ok-None-clause-lean : goal.returns-in-Ok-None-clause-lean
returns-in-Ok-None-clause-lean g c t holds gated lean =
    let takes = subst (λ o. TakesAtOnce g.S.Shelf.tells g.S.Shelf.world g.S.Shelf.faults (job_in c.args.job.now) (c.in_ok-entry.entry.number + 1)
    c.args.until c.spared.result c.take_at_once.new.spare c.take_steps.new.shelf c.take_at_once.new.shelf (Ok o)) c.in-Ok-None.field-0-is c.in-Ok-None.ensures.takes in
    taken_lean g.S.Shelf.tells g.S.Shelf.world g.S.Shelf.faults (λ s told f. g.met.S.Shelf.files_are s told f) (job_in c.args.job.now)
    c.args.job.now.well_formed c.args.number c.args.until c.requires.within.1 c.in_ok-entry.entry c.args.spare.now c.spared.result c.take_at_once.new.spare
    _ _ _ c.in_ok-entry.ensures.content
    None takes t holds (c.in_ok-entry.ensures.lean (takes.content.before t) holds gated lean)

pub returns-in-Ok-None-clause-reached : goal.returns-in-Ok-None-clause-reached
returns-in-Ok-None-clause-reached g c =
    let takes = subst (λ o. TakesAtOnce g.S.Shelf.tells g.S.Shelf.world g.S.Shelf.faults (job_in c.args.job.now) (c.in_ok-entry.entry.number + 1)
    c.args.until c.spared.result c.take_at_once.new.spare c.take_steps.new.shelf c.take_at_once.new.shelf (Ok o)) c.in-Ok-None.field-0-is c.in-Ok-None.ensures.takes in
    taken_within g.S.Shelf.tells g.S.Shelf.world g.S.Shelf.faults (λ s told f. g.met.S.Shelf.files_are s told f) (job_in c.args.job.now)
    c.args.job.now.well_formed c.args.number c.args.until c.requires.within.1 c.in_ok-entry.entry c.args.spare.now c.spared.result c.take_at_once.new.spare
    _ _ _ c.in_ok-entry.ensures.content
    None takes c.in_ok-entry.ensures.reached

pub returns-in-Ok-None-clause-causes : goal.returns-in-Ok-None-clause-causes
returns-in-Ok-None-clause-causes g c =
    let takes = subst (λ o. TakesAtOnce g.S.Shelf.tells g.S.Shelf.world g.S.Shelf.faults (job_in c.args.job.now) (c.in_ok-entry.entry.number + 1)
    c.args.until c.spared.result c.take_at_once.new.spare c.take_steps.new.shelf c.take_at_once.new.shelf (Ok o)) c.in-Ok-None.field-0-is c.in-Ok-None.ensures.takes in
    cause_none _ _ _ c.in_ok-entry.entry _ None c.in_ok-entry.ensures.causes takes.faults
