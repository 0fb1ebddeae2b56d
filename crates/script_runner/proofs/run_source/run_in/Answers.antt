use Rattle.std.proofs.Common.{◌∙◌, length, arith}
use Rattle.sound_image.specs.Jobs.{Job}
use Rattle.script_runner.specs.declared.finish.Finish.TheVariants.{Done, FolderFault, SayFault}
use Rattle.script_runner.specs.declared.ending.Ending.TheVariants as ending
use Rattle.script_runner.specs.JobOf.{job_in}
use Rattle.script_runner.proofs.EnteredRuns.{enter_failed, entered_runs, entered_other, entered_damage, entered_spent, entered_calls, said_or, whole_line}
use Rattle.script_runner.proofs.RunPaying.{enter_stops, entered_stops, refused_stops}
use Rattle.script_runner.proofs.run_source.run_in.Goals as goal

pub returns-in_default-clause-content : goal.returns-in_default-clause-content
returns-in_default-clause-content g c =
    let job : Job = job_in c.args.job.now in
    enter_failed g.W.Shelf.tells g.W.Shelf.world c.args.folder.now job c.args.job.now.lines.now _ _ _ c.in_default.ensures.content

pub returns-in-Done-clause-content : goal.returns-in-Done-clause-content
returns-in-Done-clause-content g c =
    let job : Job = job_in c.args.job.now in
    entered_runs g.W.Shelf.tells g.W.Shelf.world c.args.folder.now job c.args.job.now.lines.now Done c.in-Ok.field-0 _ _ _ tt c.in-Ok.ensures.content c.in-Done.ensures.content

pub returns-in-FolderFault-clause-content : goal.returns-in-FolderFault-clause-content
returns-in-FolderFault-clause-content g c =
    let job : Job = job_in c.args.job.now in
    entered_runs g.W.Shelf.tells g.W.Shelf.world c.args.folder.now job c.args.job.now.lines.now FolderFault c.in-Ok.field-0 _ _ _ tt c.in-Ok.ensures.content c.in-FolderFault.ensures.content

pub returns-in-SayFault-clause-content : goal.returns-in-SayFault-clause-content
returns-in-SayFault-clause-content g c =
    let job : Job = job_in c.args.job.now in
    entered_runs g.W.Shelf.tells g.W.Shelf.world c.args.folder.now job c.args.job.now.lines.now SayFault c.in-Ok.field-0 _ _ _ tt c.in-Ok.ensures.content c.in-SayFault.ensures.content

pub returns-in-OtherJob-clause-content : goal.returns-in-OtherJob-clause-content
returns-in-OtherJob-clause-content g c =
    let job : Job = job_in c.args.job.now in
    entered_other g.W.Shelf.tells g.W.Shelf.world c.args.folder.now job c.args.job.now.lines.now c.in-OtherJob.at _ c.as_bytes.result.now c.in-Ok.field-0 _ _ _ _
    (said_or ending.OtherJob c.say_refusal.result c.say_refusal.ensures.which) (c.as_bytes.ensures.value ∙ c.as_str.ensures.value ∙ c.other_job_line.ensures.text)
    c.in-Ok.ensures.content c.in-OtherJob.ensures.content c.say_refusal.ensures.content
    (λ five. c.say_refusal.ensures.whole (whole_line ending.OtherJob c.say_refusal.result (λ x. omega (arith, x)) c.say_refusal.ensures.which five))

pub returns-in-Damaged-clause-content : goal.returns-in-Damaged-clause-content
returns-in-Damaged-clause-content g c =
    let job : Job = job_in c.args.job.now in
    entered_damage g.W.Shelf.tells g.W.Shelf.world c.args.folder.now job c.args.job.now.lines.now c.in-Damaged.file c.in-Damaged.at _ c.as_bytes-in-Damaged.result.now c.in-Ok.field-0 _ _ _ _
    (said_or ending.Damaged c.say_refusal-in-Damaged.result c.say_refusal-in-Damaged.ensures.which) (c.as_bytes-in-Damaged.ensures.value ∙ c.as_str-in-Damaged.ensures.value ∙ c.damaged_line.ensures.text)
    c.in-Ok.ensures.content c.in-Damaged.ensures.content c.say_refusal-in-Damaged.ensures.content
    (λ ten. c.say_refusal-in-Damaged.ensures.whole (whole_line ending.Damaged c.say_refusal-in-Damaged.result (λ x. omega (arith, x)) c.say_refusal-in-Damaged.ensures.which ten))

pub returns-in-RunsSpent-clause-content : goal.returns-in-RunsSpent-clause-content
returns-in-RunsSpent-clause-content g c =
    let job : Job = job_in c.args.job.now in
    entered_spent g.W.Shelf.tells g.W.Shelf.world c.args.folder.now job c.args.job.now.lines.now c.in-RunsSpent.step _
    c.as_bytes-in-RunsSpent.result.now c.in-Ok.field-0 _ _ _ _
    (said_or ending.RunsSpent c.say_refusal-in-RunsSpent.result c.say_refusal-in-RunsSpent.ensures.which)
    (c.as_bytes-in-RunsSpent.ensures.value ∙ c.as_str-in-RunsSpent.ensures.value ∙ c.runs_spent_line.ensures.text)
    c.in-Ok.ensures.content c.in-RunsSpent.ensures.content c.say_refusal-in-RunsSpent.ensures.content
    (λ eleven. c.say_refusal-in-RunsSpent.ensures.whole (whole_line ending.RunsSpent
    c.say_refusal-in-RunsSpent.result (λ x. omega (arith, x)) c.say_refusal-in-RunsSpent.ensures.which eleven))

pub returns-in-Done-clause-calls : goal.returns-in-Done-clause-calls
returns-in-Done-clause-calls g c t rest counted =
    let run = entered_calls (job_in c.args.job.now) c.args.job.now.lines.now c.args.folder.now _ _ _ _
    (c.in-Ok.ensures.content.did (c.in-Done.ensures.content.before t)) (c.in-Done.ensures.calls t) rest counted in
    omega (arith, run)

pub returns-in-FolderFault-clause-calls : goal.returns-in-FolderFault-clause-calls
returns-in-FolderFault-clause-calls g c t rest counted =
    let run = entered_calls (job_in c.args.job.now) c.args.job.now.lines.now c.args.folder.now _ _ _ _
    (c.in-Ok.ensures.content.did (c.in-FolderFault.ensures.content.before t))
    (c.in-FolderFault.ensures.calls t) rest counted in
    omega (arith, run)

pub returns-in-SayFault-clause-calls : goal.returns-in-SayFault-clause-calls
returns-in-SayFault-clause-calls g c t rest counted =
    let run = entered_calls (job_in c.args.job.now) c.args.job.now.lines.now c.args.folder.now _ _ _ _
    (c.in-Ok.ensures.content.did (c.in-SayFault.ensures.content.before t)) (c.in-SayFault.ensures.calls t) rest counted in
    omega (arith, run)

pub returns-in-OtherJob-clause-calls : goal.returns-in-OtherJob-clause-calls
returns-in-OtherJob-clause-calls g c t rest counted =
    let told = c.say_refusal.ensures.content.before t in
    let run = entered_calls (job_in c.args.job.now) c.args.job.now.lines.now c.args.folder.now _ _ _ _
    (c.in-Ok.ensures.content.did (c.in-OtherJob.ensures.content.before told))
    (c.in-OtherJob.ensures.calls told) rest counted in
    let said = c.say_refusal.ensures.calls t in
    omega (arith, run, said)

pub returns-in-Damaged-clause-calls : goal.returns-in-Damaged-clause-calls
returns-in-Damaged-clause-calls g c t rest counted =
    let told = c.say_refusal-in-Damaged.ensures.content.before t in
    let run = entered_calls (job_in c.args.job.now) c.args.job.now.lines.now c.args.folder.now _ _ _ _
    (c.in-Ok.ensures.content.did (c.in-Damaged.ensures.content.before told))
    (c.in-Damaged.ensures.calls told) rest counted in
    let said = c.say_refusal-in-Damaged.ensures.calls t in
    omega (arith, run, said)

pub returns-in-RunsSpent-clause-calls : goal.returns-in-RunsSpent-clause-calls
returns-in-RunsSpent-clause-calls g c t rest counted =
    let told = c.say_refusal-in-RunsSpent.ensures.content.before t in
    let run = entered_calls (job_in c.args.job.now) c.args.job.now.lines.now c.args.folder.now _ _ _ _
    (c.in-Ok.ensures.content.did (c.in-RunsSpent.ensures.content.before told))
    (c.in-RunsSpent.ensures.calls told) rest counted in
    let said = c.say_refusal-in-RunsSpent.ensures.calls t in
    omega (arith, run, said)

pub returns-in_default-clause-calls : goal.returns-in_default-clause-calls
returns-in_default-clause-calls g c t rest counted =
    let entered = (c.in_default.ensures.content.did t).ticks.clock_is in omega (arith, entered)

-- what a stop costs
pub returns-in_default-clause-stops : goal.returns-in_default-clause-stops
returns-in_default-clause-stops g c t = enter_stops (job_in c.args.job.now) (length c.args.job.now.lines.now) c.args.folder.now _ _ _ (c.in_default.ensures.content.did t)

pub returns-in-Done-clause-stops : goal.returns-in-Done-clause-stops
returns-in-Done-clause-stops g c t =
    entered_stops (job_in c.args.job.now) (length c.args.job.now.lines.now) c.args.folder.now _ _ _ _
    (c.in-Ok.ensures.content.did (c.in-Done.ensures.content.before t)) _ (c.in-Done.ensures.content.did t).moments (c.in-Done.ensures.stops t)

pub returns-in-FolderFault-clause-stops : goal.returns-in-FolderFault-clause-stops
returns-in-FolderFault-clause-stops g c t =
    entered_stops (job_in c.args.job.now) (length c.args.job.now.lines.now) c.args.folder.now _ _ _ _
    (c.in-Ok.ensures.content.did (c.in-FolderFault.ensures.content.before t)) _ (c.in-FolderFault.ensures.content.did t).moments (c.in-FolderFault.ensures.stops t)

pub returns-in-SayFault-clause-stops : goal.returns-in-SayFault-clause-stops
returns-in-SayFault-clause-stops g c t =
    entered_stops (job_in c.args.job.now) (length c.args.job.now.lines.now) c.args.folder.now _ _ _ _
    (c.in-Ok.ensures.content.did (c.in-SayFault.ensures.content.before t)) _ (c.in-SayFault.ensures.content.did t).moments (c.in-SayFault.ensures.stops t)

pub returns-in-OtherJob-clause-stops : goal.returns-in-OtherJob-clause-stops
returns-in-OtherJob-clause-stops g c t =
    let told = c.say_refusal.ensures.content.before t in
    refused_stops (job_in c.args.job.now) (length c.args.job.now.lines.now) c.args.folder.now _ _ _ _
    (c.in-Ok.ensures.content.did (c.in-OtherJob.ensures.content.before told)) _ (c.in-OtherJob.ensures.content.did told).moments (c.in-OtherJob.ensures.stops told)
    _ _ (c.say_refusal.ensures.content.did t) (c.say_refusal.ensures.calls t)

pub returns-in-Damaged-clause-stops : goal.returns-in-Damaged-clause-stops
returns-in-Damaged-clause-stops g c t =
    let told = c.say_refusal-in-Damaged.ensures.content.before t in
    refused_stops (job_in c.args.job.now) (length c.args.job.now.lines.now) c.args.folder.now _ _ _ _
    (c.in-Ok.ensures.content.did (c.in-Damaged.ensures.content.before told)) _ (c.in-Damaged.ensures.content.did told).moments (c.in-Damaged.ensures.stops told)
    _ _ (c.say_refusal-in-Damaged.ensures.content.did t) (c.say_refusal-in-Damaged.ensures.calls t)

pub returns-in-RunsSpent-clause-stops : goal.returns-in-RunsSpent-clause-stops
returns-in-RunsSpent-clause-stops g c t =
    let told = c.say_refusal-in-RunsSpent.ensures.content.before t in
    refused_stops (job_in c.args.job.now) (length c.args.job.now.lines.now) c.args.folder.now _ _ _ _
    (c.in-Ok.ensures.content.did (c.in-RunsSpent.ensures.content.before told)) _ (c.in-RunsSpent.ensures.content.did told).moments (c.in-RunsSpent.ensures.stops told)
    _ _ (c.say_refusal-in-RunsSpent.ensures.content.did t) (c.say_refusal-in-RunsSpent.ensures.calls t)
