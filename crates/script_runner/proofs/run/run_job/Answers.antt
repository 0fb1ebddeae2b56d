use Rattle.std.proofs.Common.{◌≡◌, ◌≤◌, ◌+◌, ◌-◌, ◌∙◌, ℕ, nat_le, List, [], length, take, drop, arith, sym, ap, subst, refl}
use Rattle.std.proofs.lemmas.List.{length-take-le, length-drop}
use Rattle.std.specs.Prelude.{IsTrue, Ok, Err}
use Rattle.std.specs.List.{list_all}
use Rattle.shelf_model.specs.World.{now}
use Rattle.shelf_model.specs.Calls.{Told}
use Rattle.shelf_model.specs.Folder.{file_in}
use Rattle.shelf_model.specs.Moments.{Stays}
use Rattle.shelf_model.proofs.Runs.{at_end}
use Rattle.catalogue.specs.Counts.{present}
use Rattle.catalogue.proofs.Budget.{length-without_budget}
use Rattle.sound_image.specs.Files.{node_file}
use Rattle.sound_image.specs.Jobs.{Job}
use Rattle.sound_image.proofs.AttachLaws.{none_behind_first}
use Rattle.script_reader.specs.declared.plan.LineEnd.{LineEnd}
use Rattle.script_reader.specs.Lines.{rise_from, shows_past}
use Rattle.script_runner.specs.JobOf.{job_in}
use Rattle.script_runner.specs.Lean.{IsLean}
use Rattle.script_runner.specs.Text.{done_line}
use Rattle.script_runner.specs.StepRuns.{SaysLines}
use Rattle.script_runner.specs.Tidied.{may_wait}
use Rattle.script_runner.proofs.Standing.{IsStanding, standing_says}
use Rattle.script_runner.proofs.Tests.{rest_passes}
use Rattle.script_runner.proofs.LineOrder.{rises_earlier, none_left, shown_in_front, front_passes}
use Rattle.script_runner.proofs.Shown.{below_next}
use Rattle.script_runner.proofs.RunSteps.{done_at, plan_in}
use Rattle.script_runner.proofs.Paying.{unpaid, unpaid_few, none_unpaid, gated_now}
use Rattle.script_runner.proofs.Leaning.{lean_begun, lean_whole}
use Rattle.script_runner.proofs.Beginning.{begun_gated}
use Rattle.script_runner.proofs.Saying.{told_second}
use Rattle.script_runner.proofs.Turns.{Turn, not_attached, refuses_job, refuses_damage, says_banner, stopped_saying, tidies_last, stops_tidying, tidying_calls, stops_step, takes_step, is_ready, made_stands, stops_lines, said_lines, says_done, is_done, emptied_at_first, emptied_on, is_counted, calls_before_all}
use Rattle.script_runner.proofs.RunPaying.{PaysSoFar, spent_at, rest_few, attach_stops, banner_so_far, tidied_so_far, stopped_step, taken_step, lines_said, ends_so}
use Rattle.script_runner.proofs.run.run_job.Goals as goal

pub returns-in-Err-Shelf-clause-content : goal.returns-in-Err-Shelf-clause-content
returns-in-Err-Shelf-clause-content g c =
    let job : Job = job_in c.args.job.now in
    let plan = plan_in c.args.job.now in
    not_attached g.W.Shelf.tells g.W.Shelf.world (λ s told f. g.met.W.Shelf.files_are s told f) job c.args.job.now.lines.now plan c.args.job.now.bytes.now _ _ refl c.in-Err-Shelf.ensures.content

pub returns-in-Err-Damaged-clause-content : goal.returns-in-Err-Damaged-clause-content
returns-in-Err-Damaged-clause-content g c =
    let job : Job = job_in c.args.job.now in
    let plan = plan_in c.args.job.now in
    refuses_damage g.W.Shelf.tells g.W.Shelf.world (λ s told f. g.met.W.Shelf.files_are s told f) job c.args.job.now.lines.now plan c.args.job.now.bytes.now c.in-Err-Damaged.field-0 _ c.in-Err-Damaged.file c.in-Err-Damaged.at _ _ refl c.in-Err-Damaged.field-0-is refl
    c.in-Err-Damaged.ensures.content (λ t. c.in-Err-Damaged.ensures.refused t (λ e. let fault = c.in-Err-Damaged.field-0-is in cc))

pub returns-in-Err-OtherJob-clause-content : goal.returns-in-Err-OtherJob-clause-content
returns-in-Err-OtherJob-clause-content g c =
    let job : Job = job_in c.args.job.now in
    let plan = plan_in c.args.job.now in
    refuses_job g.W.Shelf.tells g.W.Shelf.world (λ s told f. g.met.W.Shelf.files_are s told f) job c.args.job.now.lines.now plan c.args.job.now.bytes.now c.in-Err-OtherJob.field-0 _ c.in-Err-OtherJob.at _ _ refl c.in-Err-OtherJob.field-0-is refl
    c.in-Err-OtherJob.ensures.content (λ t. c.in-Err-OtherJob.ensures.refused t (λ e. let fault = c.in-Err-OtherJob.field-0-is in cc))

pub returns-in_default-clause-content : goal.returns-in_default-clause-content
returns-in_default-clause-content g c =
    let job : Job = job_in c.args.job.now in
    let plan = plan_in c.args.job.now in
    stopped_saying g.W.Shelf.tells g.W.Shelf.world (λ s told f. g.met.W.Shelf.files_are s told f) job c.args.job.now.lines.now plan _ _
    (says_banner g.W.Shelf.tells g.W.Shelf.world (λ s told f. g.met.W.Shelf.files_are s told f) job c.args.job.now.lines.now plan c.args.job.now.bytes.now c.in-Ok.begun.standing c.count_before-before.result c.as_bytes.result.now _ _ _ _ refl
    c.in-Ok.ensures.content c.in-Ok.ensures.answer c.in-Ok.ensures.ok
    c.count_before-before.ensures.within c.count_before-before.ensures.front c.count_before-before.ensures.rest
    (c.as_bytes.ensures.value ∙ c.as_str.ensures.value ∙ c.banner_line-banner.ensures.text) c.in_default.ensures.content)

pub loop-step-init : goal.loop-step-init
loop-step-init g c =
    let job : Job = job_in c.args.job.now in
    let plan = plan_in c.args.job.now in
    let turn = told_second g.W.Shelf.tells g.W.Shelf.world _ _ _ _ (says_banner g.W.Shelf.tells g.W.Shelf.world (λ s told f. g.met.W.Shelf.files_are s told f) job c.args.job.now.lines.now plan c.args.job.now.bytes.now c.in-Ok.begun.standing c.count_before-before.result c.as_bytes.result.now _ _ _ _ refl
    c.in-Ok.ensures.content c.in-Ok.ensures.answer c.in-Ok.ensures.ok
    c.count_before-before.ensures.within c.count_before-before.ensures.front c.count_before-before.ensures.rest
    (c.as_bytes.ensures.value ∙ c.as_str.ensures.value ∙ c.banner_line-banner.ensures.text) c.in-Ok-say.ensures.content) in
    let attach_faults = c.in-Ok.ensures.faults in
    let say_faults = c.in-Ok-say.ensures.faults in
    let tidy_faults = c.in-Ok-tidy_last.ensures.faults in
    let rest : c.split_at.result.1.now ≡ drop c.count_before-before.result c.args.job.now.lines.now = c.split_at.ensures.back in
    record {
      so_far = subst (λ (ls : List LineEnd). Told g.W.Shelf.tells c.args.station.now c.tidy_last.new.shelf (Turn job c.args.job.now.lines.now c.in-Ok.begun.standing.done ls (g.W.Shelf.world c.args.station.now) (g.W.Shelf.world c.tidy_last.new.shelf))) (sym rest)
          (tidies_last g.W.Shelf.tells g.W.Shelf.world (λ s told f. g.met.W.Shelf.files_are s told f) job c.args.job.now.lines.now plan c.in-Ok.begun.standing.done
          (drop c.count_before-before.result c.args.job.now.lines.now) _ _ _ turn c.in-Ok-tidy_last.ensures.content);
      calls = λ t paid counted.
          let told_say = c.in-Ok-tidy_last.ensures.content.before t in
          let few = unpaid_few (done_at (g.W.Shelf.world c.args.station.now)) c.in-Ok.begun.standing.done paid in
          let clock = (c.in-Ok-say.ensures.content.did told_say).elsewhere.ticks.clock_is in
          let attached = c.in-Ok.ensures.calls (c.in-Ok-say.ensures.content.before told_say) in
          let tidied = tidying_calls g.W.Shelf.tells g.W.Shelf.world (λ s told f. g.met.W.Shelf.files_are s told f) job c.args.job.now.lines.now plan c.in-Ok.begun.standing.done paid
          (drop c.count_before-before.result c.args.job.now.lines.now) _ _ _ turn told_say counted (c.in-Ok-tidy_last.ensures.calls t) in
          let left : length c.split_at.result.1.now ≡ length c.args.job.now.lines.now - c.count_before-before.result =
          ap length rest ∙ length-drop c.count_before-before.result c.args.job.now.lines.now in
          let size = length-without_budget c.args.job.now.bytes.now in
          omega (arith, clock, attached, tidied, left, few, size);
      paid = λ t paid rest_calls is.
          let told_say = c.in-Ok-tidy_last.ensures.content.before t in
          let said = (c.in-Ok-say.ensures.content.did told_say).elsewhere in
          let told_mid = c.in-Ok-say.ensures.content.before told_say in
          let at = (turn.did told_say).0 in
          tidied_so_far g.W.Shelf.tells g.W.Shelf.world (λ s told f. g.met.W.Shelf.files_are s told f) job (length c.args.job.now.lines.now) plan.well_formed c.in-Ok.begun.standing.done
          (length c.split_at.result.1.now) _ _ _ (turn.before told_say) at.upto (λ sound. (at.sound sound).holds) c.in-Ok-tidy_last.ensures.content t (c.in-Ok-tidy_last.ensures.calls t).most paid rest_calls is
          (banner_so_far g.W.Shelf.tells g.W.Shelf.world (λ s told f. g.met.W.Shelf.files_are s told f) job (length c.args.job.now.lines.now) c.args.job.now.bytes.now _ _ _
          (sym (length-without_budget c.args.job.now.bytes.now)) c.in-Ok.ensures.content told_mid (c.in-Ok.ensures.calls told_mid) said.ticks said.folder_is paid rest_calls is);
      gated = λ t sound within.
          begun_gated g.W.Shelf.tells g.W.Shelf.world (λ s told f. g.met.W.Shelf.files_are s told f) job plan.well_formed c.args.job.now.bytes.now c.in-Ok.begun _ _ refl
          c.in-Ok.ensures.content c.in-Ok.ensures.answer c.in-Ok.ensures.asked (c.in-Ok-say.ensures.content.before (c.in-Ok-tidy_last.ensures.content.before t)) sound within;
      emptied = λ t sound.
          let told_say = c.in-Ok-tidy_last.ensures.content.before t in
          let told_mid = c.in-Ok-say.ensures.content.before told_say in
          let says : IsStanding job.bytes (length job.steps) c.in-Ok.begun.standing (present (now (g.W.Shelf.world c.args.station.now)).folder) =
          standing_says c.args.job.now.bytes.now job.bytes refl (length job.steps) (present (now (g.W.Shelf.world c.args.station.now)).folder) (Ok c.in-Ok.begun.standing)
          (c.in-Ok.ensures.answer told_mid) in
          emptied_at_first g.W.Shelf.tells g.W.Shelf.world (λ s told f. g.met.W.Shelf.files_are s told f) job c.args.job.now.lines.now plan c.in-Ok.begun.standing.done
          (drop c.count_before-before.result c.args.job.now.lines.now) _ _ _ turn told_say says.done (c.in-Ok-tidy_last.ensures.empty t) sound;
      lean = λ t sound.
          let told_say = c.in-Ok-tidy_last.ensures.content.before t in
          let told_mid = c.in-Ok-say.ensures.content.before told_say in
          let says : IsStanding job.bytes (length job.steps) c.in-Ok.begun.standing (present (now (g.W.Shelf.world c.args.station.now)).folder) =
          standing_says c.args.job.now.bytes.now job.bytes refl (length job.steps) (present (now (g.W.Shelf.world c.args.station.now)).folder) (Ok c.in-Ok.begun.standing)
          (c.in-Ok.ensures.answer told_mid) in
          lean_begun job c.args.job.now.bytes.now c.in-Ok.begun.standing.done _ _ _ _ says.done (c.in-Ok.ensures.content.did told_mid)
          (c.in-Ok-say.ensures.content.did told_say).elsewhere.folder_is (c.in-Ok-tidy_last.ensures.content.did t);
      spare_few = omega arith;
      rise = subst (λ (ls : List LineEnd). IsTrue (rise_from c.in-Ok.begun.standing.done ls)) (sym rest) c.count_before-before.ensures.rest;
      shown = subst (λ (ls : List LineEnd). IsTrue (list_all (shows_past (length c.args.job.now.steps.now)) ls)) (sym rest)
          (rest_passes (shows_past (length c.args.job.now.steps.now)) c.args.job.now.lines.now c.count_before-before.result c.args.job.now.are_lines.show_past);
      folder_later = let a = attach_faults.later in let b = say_faults.folder_is in let e = tidy_faults.later in omega (arith, a, b, e);
      say_later = let a = attach_faults.say_is in let b = say_faults.later in let e = tidy_faults.say_is in omega (arith, a, b, e);
      text_is = λ path. tidy_faults.text_is path ∙ say_faults.text_is path ∙ attach_faults.text_is path;
    }

-- the last committed step couldn't be tidied up
pub returns-in_default-tidy_last-clause-content : goal.returns-in_default-tidy_last-clause-content
returns-in_default-tidy_last-clause-content g c =
    let job : Job = job_in c.args.job.now in
    let plan = plan_in c.args.job.now in
    let turn = told_second g.W.Shelf.tells g.W.Shelf.world _ _ _ _ (says_banner g.W.Shelf.tells g.W.Shelf.world (λ s told f. g.met.W.Shelf.files_are s told f) job c.args.job.now.lines.now plan c.args.job.now.bytes.now c.in-Ok.begun.standing c.count_before-before.result c.as_bytes.result.now _ _ _ _ refl
    c.in-Ok.ensures.content c.in-Ok.ensures.answer c.in-Ok.ensures.ok
    c.count_before-before.ensures.within c.count_before-before.ensures.front c.count_before-before.ensures.rest
    (c.as_bytes.ensures.value ∙ c.as_str.ensures.value ∙ c.banner_line-banner.ensures.text) c.in-Ok-say.ensures.content) in
    stops_tidying g.W.Shelf.tells g.W.Shelf.world (λ s told f. g.met.W.Shelf.files_are s told f) job c.args.job.now.lines.now plan c.in-Ok.begun.standing.done
    (drop c.count_before-before.result c.args.job.now.lines.now) _ _
    (tidies_last g.W.Shelf.tells g.W.Shelf.world (λ s told f. g.met.W.Shelf.files_are s told f) job c.args.job.now.lines.now plan c.in-Ok.begun.standing.done
    (drop c.count_before-before.result c.args.job.now.lines.now) _ _ _ turn c.in_default-tidy_last.ensures.content)

pub returns-in_default-tidy_last-clause-calls : goal.returns-in_default-tidy_last-clause-calls
returns-in_default-tidy_last-clause-calls g c t paid counted =
    let job : Job = job_in c.args.job.now in
    let plan = plan_in c.args.job.now in
    let turn = told_second g.W.Shelf.tells g.W.Shelf.world _ _ _ _ (says_banner g.W.Shelf.tells g.W.Shelf.world (λ s told f. g.met.W.Shelf.files_are s told f) job c.args.job.now.lines.now plan c.args.job.now.bytes.now c.in-Ok.begun.standing c.count_before-before.result c.as_bytes.result.now _ _ _ _ refl
    c.in-Ok.ensures.content c.in-Ok.ensures.answer c.in-Ok.ensures.ok
    c.count_before-before.ensures.within c.count_before-before.ensures.front c.count_before-before.ensures.rest
    (c.as_bytes.ensures.value ∙ c.as_str.ensures.value ∙ c.banner_line-banner.ensures.text) c.in-Ok-say.ensures.content) in
    let told_say = c.in_default-tidy_last.ensures.content.before t in
    let clock = (c.in-Ok-say.ensures.content.did told_say).elsewhere.ticks.clock_is in
    let attached = c.in-Ok.ensures.calls (c.in-Ok-say.ensures.content.before told_say) in
    let tidied = tidying_calls g.W.Shelf.tells g.W.Shelf.world (λ s told f. g.met.W.Shelf.files_are s told f) job c.args.job.now.lines.now plan c.in-Ok.begun.standing.done paid
    (drop c.count_before-before.result c.args.job.now.lines.now) _ _ _ turn told_say counted (c.in_default-tidy_last.ensures.calls t) in
    let no_more = calls_before_all job c.in-Ok.begun.standing.done in
    let size = length-without_budget c.args.job.now.bytes.now in
    omega (arith, clock, attached, tidied, no_more, size)

pub returns-in_default-tidy_last-clause-stops : goal.returns-in_default-tidy_last-clause-stops
returns-in_default-tidy_last-clause-stops g c t paid rest_calls is =
    let job : Job = job_in c.args.job.now in
    let plan = plan_in c.args.job.now in
    let turn = told_second g.W.Shelf.tells g.W.Shelf.world _ _ _ _ (says_banner g.W.Shelf.tells g.W.Shelf.world (λ s told f. g.met.W.Shelf.files_are s told f) job c.args.job.now.lines.now plan c.args.job.now.bytes.now c.in-Ok.begun.standing c.count_before-before.result c.as_bytes.result.now _ _ _ _ refl
    c.in-Ok.ensures.content c.in-Ok.ensures.answer c.in-Ok.ensures.ok
    c.count_before-before.ensures.within c.count_before-before.ensures.front c.count_before-before.ensures.rest
    (c.as_bytes.ensures.value ∙ c.as_str.ensures.value ∙ c.banner_line-banner.ensures.text) c.in-Ok-say.ensures.content) in
    (let told_say = c.in_default-tidy_last.ensures.content.before t in
    let said = (c.in-Ok-say.ensures.content.did told_say).elsewhere in
    let told_mid = c.in-Ok-say.ensures.content.before told_say in
    let at = (turn.did told_say).0 in
    tidied_so_far g.W.Shelf.tells g.W.Shelf.world (λ s told f. g.met.W.Shelf.files_are s told f) job (length c.args.job.now.lines.now) plan.well_formed c.in-Ok.begun.standing.done
    0 _ _ _ (turn.before told_say) at.upto (λ sound. (at.sound sound).holds) c.in_default-tidy_last.ensures.content t (c.in_default-tidy_last.ensures.calls t).most paid rest_calls is
    (banner_so_far g.W.Shelf.tells g.W.Shelf.world (λ s told f. g.met.W.Shelf.files_are s told f) job (length c.args.job.now.lines.now) c.args.job.now.bytes.now _ _ _
    (sym (length-without_budget c.args.job.now.bytes.now)) c.in-Ok.ensures.content told_mid (c.in-Ok.ensures.calls told_mid) said.ticks said.folder_is paid rest_calls is)).stops

pub take_next-requires-clause-spare : goal.take_next-requires-clause-spare
take_next-requires-clause-spare g c = c.loop-step.invariant.spare_few

pub take_next-requires-clause-ready : goal.take_next-requires-clause-ready
take_next-requires-clause-ready g c =
    let job : Job = job_in c.args.job.now in
    let plan = plan_in c.args.job.now in
    is_ready g.W.Shelf.tells g.W.Shelf.world (λ s told f. g.met.W.Shelf.files_are s told f) job c.args.job.now.lines.now plan c.loop-step.step c.loop-step.rest.now _ _ c.loop-step.invariant.so_far

pub returns-in-Err-clause-content : goal.returns-in-Err-clause-content
returns-in-Err-clause-content g c =
    let job : Job = job_in c.args.job.now in
    let plan = plan_in c.args.job.now in
    let within = c.next_end-until.ensures.within in
    stops_step g.W.Shelf.tells g.W.Shelf.world (λ s told f. g.met.W.Shelf.files_are s told f) job c.args.job.now.lines.now plan c.loop-step.step c.next_end-until.result c.loop-step.rest.now _ _ _
    within.0 within.1 c.next_end-until.ensures.none c.loop-step.invariant.so_far c.in-Err.finish c.in-Err.ensures.content

pub count_before-requires : goal.count_before-requires
count_before-requires g c = rises_earlier 0 c.loop-step.step c.loop-step.rest.now (omega arith) c.loop-step.invariant.rise

pub say_lines-requires-clause-within : goal.say_lines-requires-clause-within
say_lines-requires-clause-within g c =
    let within = c.next_end-until.ensures.within in
    let reached = c.in-Ok-take_next.ensures.reached in
    omega (arith, within, reached)

pub say_lines-requires-clause-stands : goal.say_lines-requires-clause-stands
say_lines-requires-clause-stands g c =
    made_stands g.W.Shelf.tells g.W.Shelf.world (job_in c.args.job.now) c.loop-step.step c.next_end-until.result c.in-Ok-take_next.entry _ _
    c.in-Ok-take_next.ensures.content

pub say_lines-requires-clause-shown : goal.say_lines-requires-clause-shown
say_lines-requires-clause-shown g c =
    let k : ℕ = c.in-Ok-take_next.entry.number in
    let first : List LineEnd = take c.count_before.result c.loop-step.rest.now in
    subst (λ (ls : List LineEnd). IsTrue (list_all (λ (l : LineEnd). nat_le l.shows k) ls)) (sym c.split_at-in-loop-step.ensures.front)
    (shown_in_front (length c.args.job.now.steps.now) k first
    (front_passes (shows_past (length c.args.job.now.steps.now)) c.loop-step.rest.now c.count_before.result c.loop-step.invariant.shown)
    c.count_before.ensures.front)

pub returns-in-Err-say_lines-clause-content : goal.returns-in-Err-say_lines-clause-content
returns-in-Err-say_lines-clause-content g c =
    let job : Job = job_in c.args.job.now in
    let plan = plan_in c.args.job.now in
    let e = c.in-Ok-take_next.entry in
    let within = c.next_end-until.ensures.within in
    let taken = takes_step g.W.Shelf.tells g.W.Shelf.world (λ s told f. g.met.W.Shelf.files_are s told f) job c.args.job.now.lines.now plan c.loop-step.step c.next_end-until.result c.loop-step.rest.now _ _ _
    within.0 within.1 c.next_end-until.ensures.none c.loop-step.invariant.so_far e c.in-Ok-take_next.ensures.content in
    let ending : c.split_at-in-loop-step.result.0.now ≡ take c.count_before.result c.loop-step.rest.now = c.split_at-in-loop-step.ensures.front in
    let shows = below_next e.number (take c.count_before.result c.loop-step.rest.now)
    (shown_in_front (length c.args.job.now.steps.now) e.number (take c.count_before.result c.loop-step.rest.now)
    (front_passes (shows_past (length c.args.job.now.steps.now)) c.loop-step.rest.now c.count_before.result c.loop-step.invariant.shown) c.count_before.ensures.front) in
    stops_lines g.W.Shelf.tells g.W.Shelf.world (λ s told f. g.met.W.Shelf.files_are s told f) job c.args.job.now.lines.now plan c.count_before.result c.loop-step.rest.now e _ _ _ c.count_before.ensures.within c.count_before.ensures.front shows taken c.in-Err-say_lines.finish
    (subst (λ (ls : List LineEnd). Told g.W.Shelf.tells c.take_next.new.shelf c.say_lines.new.station
    (SaysLines c.args.job.now.steps.now (e.number + 1) ls e (Err c.in-Err-say_lines.finish) (g.W.Shelf.world c.take_next.new.shelf) (g.W.Shelf.world c.say_lines.new.station))) ending c.in-Err-say_lines.ensures.content)

pub loop-step-preserved : goal.loop-step-preserved
loop-step-preserved g c =
    let job : Job = job_in c.args.job.now in
    let plan = plan_in c.args.job.now in
    let e = c.in-Ok-take_next.entry in
    let within = c.next_end-until.ensures.within in
    let taken = takes_step g.W.Shelf.tells g.W.Shelf.world (λ s told f. g.met.W.Shelf.files_are s told f) job c.args.job.now.lines.now plan c.loop-step.step c.next_end-until.result c.loop-step.rest.now _ _ _
    within.0 within.1 c.next_end-until.ensures.none c.loop-step.invariant.so_far e c.in-Ok-take_next.ensures.content in
    let ending : c.split_at-in-loop-step.result.0.now ≡ take c.count_before.result c.loop-step.rest.now = c.split_at-in-loop-step.ensures.front in
    let shows = below_next e.number (take c.count_before.result c.loop-step.rest.now)
    (shown_in_front (length c.args.job.now.steps.now) e.number (take c.count_before.result c.loop-step.rest.now)
    (front_passes (shows_past (length c.args.job.now.steps.now)) c.loop-step.rest.now c.count_before.result c.loop-step.invariant.shown) c.count_before.ensures.front) in
    let take_faults = c.in-Ok-take_next.ensures.causes in
    let say_faults = c.in-Ok-say_lines.ensures.causes in
    let invariant = c.loop-step.invariant in
    let rest : c.split_at-in-loop-step.result.1.now ≡ drop c.count_before.result c.loop-step.rest.now = c.split_at-in-loop-step.ensures.back in
    record {
      so_far = subst (λ (ls : List LineEnd). Told g.W.Shelf.tells c.args.station.now c.say_lines.new.station (Turn job c.args.job.now.lines.now (e.number + 1) ls (g.W.Shelf.world c.args.station.now) (g.W.Shelf.world c.say_lines.new.station))) (sym rest)
          (said_lines g.W.Shelf.tells g.W.Shelf.world (λ s told f. g.met.W.Shelf.files_are s told f) job c.args.job.now.lines.now plan c.count_before.result c.loop-step.rest.now e _ _ _ c.count_before.ensures.within c.count_before.ensures.front shows taken _
          (subst (λ (ls : List LineEnd). Told g.W.Shelf.tells c.take_next.new.shelf c.say_lines.new.station
          (SaysLines c.args.job.now.steps.now (e.number + 1) ls e (Ok c.in-Ok-say_lines.field-0) (g.W.Shelf.world c.take_next.new.shelf) (g.W.Shelf.world c.say_lines.new.station))) ending c.in-Ok-say_lines.ensures.content));
      calls = λ t paid counted.
          let told_take = c.in-Ok-say_lines.ensures.content.before t in
          let told_before = c.in-Ok-take_next.ensures.content.before told_take in
          let before = invariant.calls told_before paid counted in
          let took = c.in-Ok-take_next.ensures.calls told_take (unpaid (done_at (g.W.Shelf.world c.args.station.now)) c.loop-step.step paid)
          (is_counted g.W.Shelf.tells g.W.Shelf.world (λ s told f. g.met.W.Shelf.files_are s told f) job c.args.job.now.lines.now plan c.loop-step.step c.loop-step.rest.now c.loop-step.gone_on _ _ paid
          c.loop-step-test.true invariant.so_far told_before (λ sound. invariant.gated told_before sound c.loop-step-test.true) counted) in
          let reached = (invariant.so_far.did told_before).0.reached in
          let from = c.in-Ok-take_next.ensures.reached in
          let paid_all = none_unpaid (done_at (g.W.Shelf.world c.args.station.now)) e.number paid (omega (arith, reached, from)) in
          let said_them = c.in-Ok-say_lines.ensures.calls t in
          let spoken : length c.split_at-in-loop-step.result.0.now ≡ c.count_before.result =
          ap length ending ∙ length-take-le c.count_before.result c.loop-step.rest.now c.count_before.ensures.within in
          let left : length c.split_at-in-loop-step.result.1.now ≡ length c.loop-step.rest.now - c.count_before.result =
          ap length rest ∙ length-drop c.count_before.result c.loop-step.rest.now in
          let few = c.count_before.ensures.within in
          omega (arith, before, took, said_them, spoken, left, few, paid_all);
      paid = λ t paid rest_calls is.
          let told_take = c.in-Ok-say_lines.ensures.content.before t in
          let told_before = c.in-Ok-take_next.ensures.content.before told_take in
          let at = (invariant.so_far.did told_before).0 in
          let left_few : length c.loop-step.rest.now ≤ length c.args.job.now.lines.now = rest_few at.place c.args.job.now.lines.now c.loop-step.rest.now at.rest_is in
          let spoken : length c.split_at-in-loop-step.result.0.now ≡ c.count_before.result =
          ap length ending ∙ length-take-le c.count_before.result c.loop-step.rest.now c.count_before.ensures.within in
          let left : length c.split_at-in-loop-step.result.1.now ≡ length c.loop-step.rest.now - c.count_before.result =
          ap length rest ∙ length-drop c.count_before.result c.loop-step.rest.now in
          let taken_so = taken_step g.W.Shelf.tells g.W.Shelf.world (λ s told f. g.met.W.Shelf.files_are s told f) job (length c.args.job.now.lines.now) plan.well_formed c.loop-step.step
          (length c.loop-step.rest.now) c.loop-step-test.true _ _ _ (invariant.so_far.before told_before) at.reached at.made.keeps at.made.later
          (λ sound. (at.sound sound).holds) c.loop-step.gone_on (λ sound. invariant.gated told_before sound c.loop-step-test.true) (c.in-Ok-take_next.ensures.content.did told_take).run.moments.past paid rest_calls is _ _ (invariant.paid told_before paid rest_calls is)
          (Ok e) (c.in-Ok-take_next.ensures.stops told_take) e refl c.in-Ok-take_next.ensures.reached.0 in
          subst (λ n. PaysSoFar job paid (spent_at (length job.bytes) (length c.args.job.now.lines.now) n (done_at (g.W.Shelf.world c.args.station.now)) (e.number + 1) rest_calls)
          rest_calls c.take_next.new.spare (g.W.Shelf.world c.args.station.now) (g.W.Shelf.world c.say_lines.new.station)) (sym left)
          (lines_said g.W.Shelf.tells g.W.Shelf.world (λ s told f. g.met.W.Shelf.files_are s told f) job (length c.args.job.now.lines.now) (e.number + 1) (length c.loop-step.rest.now) c.count_before.result
          (done_at (g.W.Shelf.world c.args.station.now)) _ _ _ _ (invariant.so_far.before told_before) (c.in-Ok-say_lines.ensures.content.did t).files
          (let few = c.in-Ok-say_lines.ensures.calls t in omega (arith, few, spoken)) c.count_before.ensures.within left_few paid rest_calls is taken_so);
      gated = λ t sound behind.
          let told_before = c.in-Ok-take_next.ensures.content.before (c.in-Ok-say_lines.ensures.content.before t) in
          let reached = (invariant.so_far.did told_before).0.reached in
          let from = c.in-Ok-take_next.ensures.reached in
          none_behind_first job (now (g.W.Shelf.world c.args.station.now)).folder (λ f. g.met.W.Shelf.files_are c.args.station.now (invariant.so_far.before told_before) f) sound
          (e.number + 1) (omega (arith, reached, from)) behind;
      emptied = λ t sound.
          let told_take = c.in-Ok-say_lines.ensures.content.before t in
          let told_before = c.in-Ok-take_next.ensures.content.before told_take in
          emptied_on g.W.Shelf.tells g.W.Shelf.world (λ s told f. g.met.W.Shelf.files_are s told f) job c.args.job.now.lines.now plan
          (may_wait (done_at (g.W.Shelf.world c.args.station.now))) c.loop-step.step c.next_end-until.result e _ _ _ within.1 (c.in-Ok-take_next.ensures.content.did told_take)
          (c.in-Ok-say_lines.ensures.content.did t).files (invariant.emptied told_before sound);
      lean = λ t sound first.
          let told_take = c.in-Ok-say_lines.ensures.content.before t in
          let told_before = c.in-Ok-take_next.ensures.content.before told_take in
          let at = (invariant.so_far.did told_before).0 in
          subst (IsLean job (e.number + 1))
          (sym (at_end _ _ (Stays (now (g.W.Shelf.world c.take_next.new.shelf))) (c.in-Ok-say_lines.ensures.content.did t).files))
          (c.in-Ok-take_next.ensures.lean told_take (at.sound sound).holds
          (gated_now job c.loop-step.gone_on c.loop-step.step (now (g.W.Shelf.world c.args.station.now)).folder _ plan.well_formed c.loop-step-test.true
          at.made.later (invariant.gated told_before sound c.loop-step-test.true)) (invariant.lean told_before sound first));
      spare_few = c.in-Ok-take_next.ensures.spare;
      rise = subst (λ (ls : List LineEnd). IsTrue (rise_from (e.number + 1) ls)) (sym rest) c.count_before.ensures.rest;
      shown = subst (λ (ls : List LineEnd). IsTrue (list_all (shows_past (length c.args.job.now.steps.now)) ls)) (sym rest)
          (rest_passes (shows_past (length c.args.job.now.steps.now)) c.loop-step.rest.now c.count_before.result invariant.shown);
      folder_later = let a = take_faults.folder_later in let b = say_faults.folder_later in let e = invariant.folder_later in omega (arith, a, b, e);
      say_later = let a = take_faults.say_later in let b = say_faults.say_later in let e = invariant.say_later in omega (arith, a, b, e);
      text_is = λ path. say_faults.text_is path ∙ take_faults.text_is path ∙ invariant.text_is path;
    }

pub returns-in_default-say-clause-content : goal.returns-in_default-say-clause-content
returns-in_default-say-clause-content g c =
    let job : Job = job_in c.args.job.now in
    let plan = plan_in c.args.job.now in
    let all_made : length c.args.job.now.steps.now ≤ c.loop-step.step = c.loop-step-test.false in
    let none : c.loop-step.rest.now ≡ [] =
    none_left (length c.args.job.now.steps.now) c.loop-step.rest.now (rises_earlier (length c.args.job.now.steps.now) c.loop-step.step c.loop-step.rest.now all_made c.loop-step.invariant.rise) c.loop-step.invariant.shown in
    stopped_saying g.W.Shelf.tells g.W.Shelf.world (λ s told f. g.met.W.Shelf.files_are s told f) job c.args.job.now.lines.now plan _ _ (says_done g.W.Shelf.tells g.W.Shelf.world (λ s told f. g.met.W.Shelf.files_are s told f) job c.args.job.now.lines.now plan c.loop-step.step c.loop-step.rest.now done_line _ _ _ _ all_made none refl c.loop-step.invariant.so_far c.in_default-say.ensures.content)

pub returns-clause-content : goal.returns-clause-content
returns-clause-content g c =
    let job : Job = job_in c.args.job.now in
    let plan = plan_in c.args.job.now in
    let all_made : length c.args.job.now.steps.now ≤ c.loop-step.step = c.loop-step-test.false in
    let none : c.loop-step.rest.now ≡ [] =
    none_left (length c.args.job.now.steps.now) c.loop-step.rest.now (rises_earlier (length c.args.job.now.steps.now) c.loop-step.step c.loop-step.rest.now all_made c.loop-step.invariant.rise) c.loop-step.invariant.shown in
    is_done g.W.Shelf.tells g.W.Shelf.world (λ s told f. g.met.W.Shelf.files_are s told f) job c.args.job.now.lines.now plan _ _ (says_done g.W.Shelf.tells g.W.Shelf.world (λ s told f. g.met.W.Shelf.files_are s told f) job c.args.job.now.lines.now plan c.loop-step.step c.loop-step.rest.now done_line _ _ _ _ all_made none refl c.loop-step.invariant.so_far c.in-Ok-say-2.ensures.content)
    (λ t sound k from until gone drops_it.
    let said = (c.in-Ok-say-2.ensures.content.did t).elsewhere in
    subst (λ folder. (file_in folder (node_file gone)).bytes ≡ []) (sym said.folder_is)
    (c.loop-step.invariant.emptied (c.in-Ok-say-2.ensures.content.before t) sound k from (omega (arith, until, all_made)) gone drops_it))
    (λ t sound first.
    let told_before = c.in-Ok-say-2.ensures.content.before t in
    lean_whole job c.loop-step.step _ _ (c.loop-step.invariant.so_far.did told_before).0.upto all_made
    (c.in-Ok-say-2.ensures.content.did t).elsewhere.folder_is (c.loop-step.invariant.lean told_before sound first))

-- the calls of a run that stops before its end, and of one that comes to it
pub returns-in-Err-Shelf-clause-calls : goal.returns-in-Err-Shelf-clause-calls
returns-in-Err-Shelf-clause-calls g c t paid counted =
    let attached = c.in-Err-Shelf.ensures.calls t in
    let size = length-without_budget c.args.job.now.bytes.now in
    omega (arith, attached, size)

pub returns-in-Err-Damaged-clause-calls : goal.returns-in-Err-Damaged-clause-calls
returns-in-Err-Damaged-clause-calls g c t paid counted =
    let attached = c.in-Err-Damaged.ensures.calls t in
    let size = length-without_budget c.args.job.now.bytes.now in
    omega (arith, attached, size)

pub returns-in-Err-OtherJob-clause-calls : goal.returns-in-Err-OtherJob-clause-calls
returns-in-Err-OtherJob-clause-calls g c t paid counted =
    let attached = c.in-Err-OtherJob.ensures.calls t in
    let size = length-without_budget c.args.job.now.bytes.now in
    omega (arith, attached, size)

pub returns-in_default-clause-calls : goal.returns-in_default-clause-calls
returns-in_default-clause-calls g c t paid counted =
    let clock = (c.in_default.ensures.content.did t).elsewhere.ticks.clock_is in
    let attached = c.in-Ok.ensures.calls (c.in_default.ensures.content.before t) in
    let size = length-without_budget c.args.job.now.bytes.now in
    omega (arith, clock, attached, size)

pub returns-in-Err-clause-calls : goal.returns-in-Err-clause-calls
returns-in-Err-clause-calls g c t paid counted =
    let job : Job = job_in c.args.job.now in
    let plan = plan_in c.args.job.now in
    let told_before = c.in-Err.ensures.content.before t in
    let before = c.loop-step.invariant.calls told_before paid counted in
    let took = c.in-Err.ensures.calls t (unpaid (done_at (g.W.Shelf.world c.args.station.now)) c.loop-step.step paid)
    (is_counted g.W.Shelf.tells g.W.Shelf.world (λ s told f. g.met.W.Shelf.files_are s told f) job c.args.job.now.lines.now plan c.loop-step.step c.loop-step.rest.now c.loop-step.gone_on _ _ paid
    c.loop-step-test.true c.loop-step.invariant.so_far told_before (λ sound. c.loop-step.invariant.gated told_before sound c.loop-step-test.true) counted) in
    let no_more = calls_before_all job c.next_end-until.result in
    omega (arith, before, took, no_more)

pub returns-in-Err-say_lines-clause-calls : goal.returns-in-Err-say_lines-clause-calls
returns-in-Err-say_lines-clause-calls g c t paid counted =
    let job : Job = job_in c.args.job.now in
    let plan = plan_in c.args.job.now in
    let told_take = c.in-Err-say_lines.ensures.content.before t in
    let told_before = c.in-Ok-take_next.ensures.content.before told_take in
    let before = c.loop-step.invariant.calls told_before paid counted in
    let took = c.in-Ok-take_next.ensures.calls told_take (unpaid (done_at (g.W.Shelf.world c.args.station.now)) c.loop-step.step paid)
    (is_counted g.W.Shelf.tells g.W.Shelf.world (λ s told f. g.met.W.Shelf.files_are s told f) job c.args.job.now.lines.now plan c.loop-step.step c.loop-step.rest.now c.loop-step.gone_on _ _ paid
    c.loop-step-test.true c.loop-step.invariant.so_far told_before (λ sound. c.loop-step.invariant.gated told_before sound c.loop-step-test.true) counted) in
    let no_more = calls_before_all job (c.in-Ok-take_next.entry.number + 1) in
    let said_them = c.in-Err-say_lines.ensures.calls t in
    let spoken : length c.split_at-in-loop-step.result.0.now ≡ c.count_before.result =
    ap length c.split_at-in-loop-step.ensures.front ∙ length-take-le c.count_before.result c.loop-step.rest.now c.count_before.ensures.within in
    let few = c.count_before.ensures.within in
    omega (arith, before, took, no_more, said_them, spoken, few)

pub returns-in_default-say-clause-calls : goal.returns-in_default-say-clause-calls
returns-in_default-say-clause-calls g c t paid counted =
    let job : Job = job_in c.args.job.now in
    let before = c.loop-step.invariant.calls (c.in_default-say.ensures.content.before t) paid counted in
    let no_more = calls_before_all job c.loop-step.step in
    let clock = (c.in_default-say.ensures.content.did t).elsewhere.ticks.clock_is in
    omega (arith, before, no_more, clock)

pub returns-clause-calls : goal.returns-clause-calls
returns-clause-calls g c t paid counted =
    let job : Job = job_in c.args.job.now in
    let before = c.loop-step.invariant.calls (c.in-Ok-say-2.ensures.content.before t) paid counted in
    let no_more = calls_before_all job c.loop-step.step in
    let clock = (c.in-Ok-say-2.ensures.content.did t).elsewhere.ticks.clock_is in
    omega (arith, before, no_more, clock)

-- what a stop costs, wherever the run ends
pub returns-in-Err-Shelf-clause-stops : goal.returns-in-Err-Shelf-clause-stops
returns-in-Err-Shelf-clause-stops g c t =
    attach_stops g.W.Shelf.tells g.W.Shelf.world (λ s told f. g.met.W.Shelf.files_are s told f) (job_in c.args.job.now) (length c.args.job.now.lines.now)
    c.args.job.now.bytes.now _ _ (sym (length-without_budget c.args.job.now.bytes.now)) c.in-Err-Shelf.ensures.content t (c.in-Err-Shelf.ensures.calls t)

pub returns-in-Err-Damaged-clause-stops : goal.returns-in-Err-Damaged-clause-stops
returns-in-Err-Damaged-clause-stops g c t =
    attach_stops g.W.Shelf.tells g.W.Shelf.world (λ s told f. g.met.W.Shelf.files_are s told f) (job_in c.args.job.now) (length c.args.job.now.lines.now)
    c.args.job.now.bytes.now _ _ (sym (length-without_budget c.args.job.now.bytes.now)) c.in-Err-Damaged.ensures.content t (c.in-Err-Damaged.ensures.calls t)

pub returns-in-Err-OtherJob-clause-stops : goal.returns-in-Err-OtherJob-clause-stops
returns-in-Err-OtherJob-clause-stops g c t =
    attach_stops g.W.Shelf.tells g.W.Shelf.world (λ s told f. g.met.W.Shelf.files_are s told f) (job_in c.args.job.now) (length c.args.job.now.lines.now)
    c.args.job.now.bytes.now _ _ (sym (length-without_budget c.args.job.now.bytes.now)) c.in-Err-OtherJob.ensures.content t (c.in-Err-OtherJob.ensures.calls t)

pub returns-in_default-clause-stops : goal.returns-in_default-clause-stops
returns-in_default-clause-stops g c t paid rest_calls is =
    let said = (c.in_default.ensures.content.did t).elsewhere in
    let told_mid = c.in_default.ensures.content.before t in
    (banner_so_far g.W.Shelf.tells g.W.Shelf.world (λ s told f. g.met.W.Shelf.files_are s told f) (job_in c.args.job.now) (length c.args.job.now.lines.now)
    c.args.job.now.bytes.now _ _ _ (sym (length-without_budget c.args.job.now.bytes.now)) c.in-Ok.ensures.content told_mid (c.in-Ok.ensures.calls told_mid) said.ticks said.folder_is paid rest_calls is).stops

pub returns-in-Err-clause-stops : goal.returns-in-Err-clause-stops
returns-in-Err-clause-stops g c t paid rest_calls is =
    let job : Job = job_in c.args.job.now in
    let plan = plan_in c.args.job.now in
    let told_before = c.in-Err.ensures.content.before t in
    let at = (c.loop-step.invariant.so_far.did told_before).0 in
    stopped_step g.W.Shelf.tells g.W.Shelf.world (λ s told f. g.met.W.Shelf.files_are s told f) job (length c.args.job.now.lines.now) plan.well_formed c.loop-step.step
    (length c.loop-step.rest.now) c.loop-step-test.true _ _ _ (c.loop-step.invariant.so_far.before told_before) at.reached at.made.keeps at.made.later
    (λ sound. (at.sound sound).holds) c.loop-step.gone_on (λ sound. c.loop-step.invariant.gated told_before sound c.loop-step-test.true) (c.in-Err.ensures.content.did t).run.moments.past paid rest_calls is _ _ (c.loop-step.invariant.paid told_before paid rest_calls is)
    (Err c.in-Err.finish) (c.in-Err.ensures.stops t)

pub returns-in-Err-say_lines-clause-stops : goal.returns-in-Err-say_lines-clause-stops
returns-in-Err-say_lines-clause-stops g c t paid rest_calls is =
    let job : Job = job_in c.args.job.now in
    let plan = plan_in c.args.job.now in
    let e = c.in-Ok-take_next.entry in
    let invariant = c.loop-step.invariant in
    let told_take = c.in-Err-say_lines.ensures.content.before t in
    let told_before = c.in-Ok-take_next.ensures.content.before told_take in
    let at = (invariant.so_far.did told_before).0 in
    let left_few : length c.loop-step.rest.now ≤ length c.args.job.now.lines.now = rest_few at.place c.args.job.now.lines.now c.loop-step.rest.now at.rest_is in
    let spoken : length c.split_at-in-loop-step.result.0.now ≡ c.count_before.result =
    ap length c.split_at-in-loop-step.ensures.front ∙ length-take-le c.count_before.result c.loop-step.rest.now c.count_before.ensures.within in
    let taken_so = taken_step g.W.Shelf.tells g.W.Shelf.world (λ s told f. g.met.W.Shelf.files_are s told f) job (length c.args.job.now.lines.now) plan.well_formed c.loop-step.step
    (length c.loop-step.rest.now) c.loop-step-test.true _ _ _ (invariant.so_far.before told_before) at.reached at.made.keeps at.made.later
    (λ sound. (at.sound sound).holds) c.loop-step.gone_on (λ sound. invariant.gated told_before sound c.loop-step-test.true) (c.in-Ok-take_next.ensures.content.did told_take).run.moments.past paid rest_calls is _ _ (invariant.paid told_before paid rest_calls is)
    (Ok e) (c.in-Ok-take_next.ensures.stops told_take) e refl c.in-Ok-take_next.ensures.reached.0 in
    (lines_said g.W.Shelf.tells g.W.Shelf.world (λ s told f. g.met.W.Shelf.files_are s told f) job (length c.args.job.now.lines.now) (e.number + 1) (length c.loop-step.rest.now) c.count_before.result
    (done_at (g.W.Shelf.world c.args.station.now)) _ _ _ _ (invariant.so_far.before told_before) (c.in-Err-say_lines.ensures.content.did t).files
    (let few = c.in-Err-say_lines.ensures.calls t in omega (arith, few, spoken)) c.count_before.ensures.within left_few paid rest_calls is taken_so).stops

pub returns-in_default-say-clause-stops : goal.returns-in_default-say-clause-stops
returns-in_default-say-clause-stops g c t paid rest_calls is =
    let said = (c.in_default-say.ensures.content.did t).elsewhere in
    let told_before = c.in_default-say.ensures.content.before t in
    ends_so g.W.Shelf.tells g.W.Shelf.world (λ s told f. g.met.W.Shelf.files_are s told f) (job_in c.args.job.now) (length c.args.job.now.lines.now) c.loop-step.step
    (length c.loop-step.rest.now) (done_at (g.W.Shelf.world c.args.station.now)) _ _ _ _ (c.loop-step.invariant.so_far.before told_before) said.ticks said.folder_is
    paid rest_calls is (c.loop-step.invariant.paid told_before paid rest_calls is)

pub returns-clause-stops : goal.returns-clause-stops
returns-clause-stops g c t paid rest_calls is =
    let said = (c.in-Ok-say-2.ensures.content.did t).elsewhere in
    let told_before = c.in-Ok-say-2.ensures.content.before t in
    ends_so g.W.Shelf.tells g.W.Shelf.world (λ s told f. g.met.W.Shelf.files_are s told f) (job_in c.args.job.now) (length c.args.job.now.lines.now) c.loop-step.step
    (length c.loop-step.rest.now) (done_at (g.W.Shelf.world c.args.station.now)) _ _ _ _ (c.loop-step.invariant.so_far.before told_before) said.ticks said.folder_is
    paid rest_calls is (c.loop-step.invariant.paid told_before paid rest_calls is)
