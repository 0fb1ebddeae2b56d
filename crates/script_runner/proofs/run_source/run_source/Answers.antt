use Rattle.std.proofs.Common.{◌≡◌, ◌∙◌, length, sym, ap, inl, inr, arith, refl}
use Rattle.script_reader.proofs.PlanReads.{text_is_short}
use Rattle.script_reader.specs.Views.{given}
use Rattle.shelf_model.specs.World.{now}
use Rattle.script_runner.specs.JobOf.{source_of, budget_in, job_bytes}
use Rattle.script_runner.specs.Netlists.{netlist_text}
use Rattle.script_runner.specs.Outcome.{IsStatus}
use Rattle.script_runner.specs.Source.{Source, Plans}
use Rattle.script_runner.specs.Status.{status_of}
use Rattle.script_runner.specs.declared.ending.Ending.TheVariants as ending
use Rattle.script_runner.proofs.Endings.{not_memory}
use Rattle.script_runner.proofs.Sources.{budget_of_job}
use Rattle.script_runner.proofs.SourceRuns.{short_there, plans_of, faulty_of, calls_of, stops_of, one_of_two, refused_source, ran_source}
use Rattle.script_runner.proofs.StopLaws.{says_old}
use Rattle.script_runner.proofs.run_source.run_source.Goals as goal

pub returns-in_default : goal.returns-in_default
returns-in_default g c =
    let source : Source = source_of c.args.script.now (netlist_text c.args.netlist.now) in
    record {
      content = refused_source g.W.Shelf.tells g.W.Shelf.world c.args.folder.now source c.as_bytes.result.now c.in-Err.fault
          c.say_refusal.result _ _
          (faulty_of c.args.script.now c.args.netlist.now (given c.net_in-net.result) c.in-Err.fault
          c.net_in-net.ensures c.requires.spelled
          (not_memory (given c.net_in-net.result) c.args.script.now c.in-Err.fault c.in_default.not-Memory
          c.in-Err.ensures.refused))
          (c.as_bytes.ensures.value ∙ c.as_str.ensures.value ∙ c.refused_line.ensures.text)
          c.say_refusal.ensures.which c.say_refusal.ensures.content c.say_refusal.ensures.whole;
      calls = λ t. inl (
        let few = c.say_refusal.ensures.calls t in omega (arith, few),
        says_old _ _ _ (c.say_refusal.ensures.content.did t),
      );
      which = record {
        known = one_of_two IsStatus c.say_refusal.result ending.Script c.say_refusal.ensures.which refl refl;
        not_usage = one_of_two (λ s. ¬ (s ≡ 2)) c.say_refusal.result ending.Script c.say_refusal.ensures.which
            (λ x. omega (arith, x)) (λ x. omega (arith, x));
        not_text = one_of_two (λ s. ¬ (s ≡ 6)) c.say_refusal.result ending.Script c.say_refusal.ensures.which
            (λ x. omega (arith, x)) (λ x. omega (arith, x));
      };
      cause = c.say_refusal.ensures.cause;
    }

pub job_bytes-requires-clause-short : goal.job_bytes-requires-clause-short
job_bytes-requires-clause-short g c =
    text_is_short (given c.net_in-net.result) c.args.script.now c.in-Ok.plan c.in-Ok.ensures.read

pub job_bytes-requires-clause-short_netlist : goal.job_bytes-requires-clause-short_netlist
job_bytes-requires-clause-short_netlist g c =
    short_there c.args.netlist.now _ c.text_in-text.ensures c.requires.spelled

pub run_in-requires-clause-own : goal.run_in-requires-clause-own
run_in-requires-clause-own g c =
    let source : Source = source_of c.args.script.now (netlist_text c.args.netlist.now) in
    let few = c.requires.budget.1 in
    ap length c.deref_mut.ensures.value ∙ c.in-Ok-take_room.ensures
    ∙ sym (ap budget_in (c.deref.ensures.value ∙ c.in-Ok-job_bytes.ensures
    ∙ ap (λ text. job_bytes c.args.budget (source_of c.args.script.now text)) c.text_in-text.ensures)
    ∙ budget_of_job c.args.budget source (omega (arith, few)))

pub returns-clause-content : goal.returns-clause-content
returns-clause-content g c =
    let source : Source = source_of c.args.script.now (netlist_text c.args.netlist.now) in
    ran_source g.W.Shelf.tells g.W.Shelf.world c.args.folder.now source c.in-Ok.plan c.items.result.now _ c.items-2.result.now
    c.deref.result.now (status_of c.run_in.result) _ _
    (plans_of c.args.script.now c.args.netlist.now (given c.net_in-net.result) c.in-Ok.plan c.net_in-net.ensures
    c.requires.spelled c.in-Ok.ensures.read) c.items.ensures c.items-2.ensures
    (c.deref.ensures.value ∙ c.in-Ok-job_bytes.ensures
    ∙ ap (λ text. job_bytes c.args.budget (source_of c.args.script.now text)) c.text_in-text.ensures)
    c.run_in.ensures.content

pub returns-clause-calls : goal.returns-clause-calls
returns-clause-calls g c t =
    let source : Source = source_of c.args.script.now (netlist_text c.args.netlist.now) in
    let plans : Plans source c.in-Ok.plan =
    plans_of c.args.script.now c.args.netlist.now (given c.net_in-net.result) c.in-Ok.plan c.net_in-net.ensures
    c.requires.spelled c.in-Ok.ensures.read in
    inr (
      c.in-Ok.plan,
      plans,
      calls_of source c.in-Ok.plan c.items.result.now _ c.items-2.result.now c.deref.result.now
          (now (g.W.Shelf.world c.args.station.now)).folder (g.W.Shelf.world c.args.station.now)
          (g.W.Shelf.world c.run_in.new.station) c.items.ensures c.items-2.ensures
          (c.deref.ensures.value ∙ c.in-Ok-job_bytes.ensures
          ∙ ap (λ text. job_bytes c.args.budget (source_of c.args.script.now text)) c.text_in-text.ensures)
          (c.run_in.ensures.calls t),
      stops_of source c.in-Ok.plan c.items.result.now _ c.items-2.result.now c.deref.result.now (g.W.Shelf.world c.args.station.now)
          (g.W.Shelf.world c.run_in.new.station) c.items.ensures c.items-2.ensures
          (c.deref.ensures.value ∙ c.in-Ok-job_bytes.ensures
          ∙ ap (λ text. job_bytes c.args.budget (source_of c.args.script.now text)) c.text_in-text.ensures)
          (c.run_in.ensures.stops t),
    )
