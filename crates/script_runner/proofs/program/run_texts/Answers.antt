use Rattle.std.proofs.Common.{◌≡◌, ◌∙◌, sym, ap, subst, inl, inr, arith, refl}
use Rattle.std.specs.Prelude.{Err, IsTrue, Some}
use Rattle.command_words.specs.Readings.{run}
use Rattle.command_words.specs.Views.{text_of}
use Rattle.script_runner.specs.Fetching.{IsText}
use Rattle.script_runner.specs.Netlists.{netlist_text, IsFaultyAs}
use Rattle.script_runner.specs.Outcome.{IsStatus}
use Rattle.script_runner.specs.Source.{HasFaultyText}
use Rattle.script_runner.specs.Status.{status_of}
use Rattle.script_runner.specs.Text.{netlist_line}
use Rattle.script_runner.specs.declared.ending.Ending.TheVariants as ending
use Rattle.script_runner.proofs.SourceRuns.{one_of_two, has_cause, cause_since, rose_later, words_run, faulty_netlist, ran_texts, calls_texts}
use Rattle.script_runner.proofs.Sources.{read_is_good}
use Rattle.script_runner.proofs.SilentEndings.{fetched_both, answers_no_memory, answers_no_text}
use Rattle.script_runner.proofs.StopLaws.{fetched_old, says_old, old_then}
use Rattle.script_runner.proofs.program.run_texts.Goals as goal

pub returns-in-Err-Faulty : goal.returns-in-Err-Faulty
returns-in-Err-Faulty g c = record {
  answers = record {
    content = faulty_netlist g.W.Shelf.tells g.W.Shelf.world c.args.folder.now c.args.script.now (text_of c.args.netlist)
        c.args.budget c.as_bytes.result.now c.in-Err-Faulty.fault c.say_refusal.result _ _ _
        (λ t. subst (IsFaultyAs (HasFaultyText (g.W.Shelf.world c.args.station.now) (text_of c.args.netlist)))
        c.in-Err-Faulty.field-0-is (c.in-Err-Faulty.ensures.faulty t))
        (c.as_bytes.ensures.value ∙ c.as_str.ensures.value ∙ c.netlist_line.ensures.text ∙ ap netlist_line c.in-Err-Faulty.fault-is)
        c.say_refusal.ensures.which c.in-Err-Faulty.ensures.content c.say_refusal.ensures.content
        c.say_refusal.ensures.whole;
    calls = λ t.
        let fetched = c.in-Err-Faulty.ensures.calls (c.say_refusal.ensures.content.before t) in
        let said = c.say_refusal.ensures.calls t in
        inl (
          omega (arith, fetched, said),
          old_then (g.W.Shelf.world c.args.station.now) _ _
              (fetched_old (g.W.Shelf.world c.args.station.now) _ (c.in-Err-Faulty.ensures.content.did (c.say_refusal.ensures.content.before t)))
              (says_old _ _ _ (c.say_refusal.ensures.content.did t)),
        );
    by_words = words_run c.args.folder.now c.args.script.now (text_of c.args.netlist) c.args.budget
        (status_of c.say_refusal.result)
        (one_of_two IsStatus c.say_refusal.result ending.Netlist c.say_refusal.ensures.which refl refl)
        (one_of_two (λ s. ¬ (s ≡ 2)) c.say_refusal.result ending.Netlist c.say_refusal.ensures.which
        (λ x. omega (arith, x)) (λ x. omega (arith, x)));
    causes = has_cause _ c.say_refusal.result _ _
        (one_of_two (λ s. ¬ (s ≡ 6)) c.say_refusal.result ending.Netlist c.say_refusal.ensures.which
        (λ x. omega (arith, x)) (λ x. omega (arith, x)))
        (cause_since c.say_refusal.result _ _ _ c.in-Err-Faulty.ensures.faults c.say_refusal.ensures.cause);
    in_order = λ _ six. absurd (one_of_two (λ s. ¬ (s ≡ 6)) c.say_refusal.result ending.Netlist
        c.say_refusal.ensures.which (λ x. omega (arith, x)) (λ x. omega (arith, x)) six);
  };
}

pub returns-in-Err-Memory : goal.returns-in-Err-Memory
returns-in-Err-Memory g c = record {
  answers = answers_no_memory g.W.Shelf.tells g.W.Shelf.world g.W.Shelf.faults
      (Some (run c.args.folder.now c.args.script.now (text_of c.args.netlist) c.args.budget)) c.args.station.now
      c.fetch_netlist.new.station c.in-Err-Memory.ensures.content
      (λ t. let few = c.in-Err-Memory.ensures.calls t in omega (arith, few));
}

pub returns-in-Err-Text : goal.returns-in-Err-Text
returns-in-Err-Text g c =
    let named = c.in-Err-Text.ensures.cause (ap Err c.in-Err-Text.field-0-is) in
    record {
      answers = answers_no_text g.W.Shelf.tells g.W.Shelf.world g.W.Shelf.faults c.args.folder.now c.args.script.now
          (text_of c.args.netlist) c.args.budget named.0 c.args.station.now c.fetch_netlist.new.station (inr named.1) named.2
          c.in-Err-Text.ensures.content
          (λ t. let few = c.in-Err-Text.ensures.calls t in omega (arith, few))
          (λ _. inl (named.0, named.1, named.2));
    }

pub returns-in-Err-Memory-fetch_text : goal.returns-in-Err-Memory-fetch_text
returns-in-Err-Memory-fetch_text g c =
    let said = c.in-Err-Memory-fetch_text.ensures in
    record {
      answers = answers_no_memory g.W.Shelf.tells g.W.Shelf.world g.W.Shelf.faults
          (Some (run c.args.folder.now c.args.script.now (text_of c.args.netlist) c.args.budget)) c.args.station.now
          c.fetch_text.new.station (fetched_both g.W.Shelf.tells g.W.Shelf.world _ _ _ c.in-Ok.ensures.content said.content)
          (λ t.
          let first = c.in-Ok.ensures.calls (said.content.before t) in
          let second = said.calls t in
          omega (arith, first, second));
    }

pub returns-in-Err-Text-fetch_text : goal.returns-in-Err-Text-fetch_text
returns-in-Err-Text-fetch_text g c =
    let said = c.in-Err-Text-fetch_text.ensures in
    record {
      answers = answers_no_text g.W.Shelf.tells g.W.Shelf.world g.W.Shelf.faults c.args.folder.now c.args.script.now
          (text_of c.args.netlist) c.args.budget c.args.script.now c.args.station.now c.fetch_text.new.station (inl refl)
          (rose_later c.args.script.now (g.W.Shelf.faults c.args.station.now)
          (g.W.Shelf.faults c.fetch_netlist.new.station) (g.W.Shelf.faults c.fetch_text.new.station) c.in-Ok.ensures.faults
          (said.cause (ap Err c.in-Err-Text-fetch_text.field-0-is)))
          (fetched_both g.W.Shelf.tells g.W.Shelf.world _ _ _ c.in-Ok.ensures.content said.content)
          (λ t.
          let first = c.in-Ok.ensures.calls (said.content.before t) in
          let second = said.calls t in
          omega (arith, first, second))
          (λ t. inr (λ fault. read_is_good (g.W.Shelf.world c.args.station.now) (text_of c.args.netlist) c.in-Ok.netlist fault
          (c.in-Ok.ensures.there (said.content.before t)) c.in-Ok.ensures.spelled));
    }

pub returns : goal.returns
returns g c =
    let text : IsTrue (g.W.Shelf.tells c.fetch_text.new.station)
    → IsText c.args.script.now 1048576 c.deref.result.now (g.W.Shelf.world c.fetch_netlist.new.station) =
    λ t. subst (λ b. IsText c.args.script.now 1048576 b (g.W.Shelf.world c.fetch_netlist.new.station))
    (sym c.deref.ensures.value) (c.in-Ok-fetch_text.ensures.text t) in
    record {
      answers = record {
        content = ran_texts g.W.Shelf.tells g.W.Shelf.world c.args.folder.now c.args.script.now (text_of c.args.netlist)
            c.args.budget c.deref.result.now (netlist_text c.in-Ok.netlist) _ _ _ _ c.in-Ok.ensures.there text
            c.in-Ok.ensures.content c.in-Ok-fetch_text.ensures.content (status_of c.run_source.result)
            c.run_source.ensures.content;
        calls = calls_texts g.W.Shelf.tells g.W.Shelf.world c.args.folder.now c.args.script.now (text_of c.args.netlist)
            c.args.budget c.deref.result.now (netlist_text c.in-Ok.netlist) _ _ _ _ c.in-Ok.ensures.there text
            c.in-Ok.ensures.content c.in-Ok-fetch_text.ensures.content c.run_source.ensures.content.before
            c.in-Ok.ensures.calls c.in-Ok-fetch_text.ensures.calls c.run_source.ensures.calls;
        by_words = words_run c.args.folder.now c.args.script.now (text_of c.args.netlist) c.args.budget
            (status_of c.run_source.result) c.run_source.ensures.which.known c.run_source.ensures.which.not_usage;
        causes = has_cause _ c.run_source.result _ _ c.run_source.ensures.which.not_text
            (cause_since c.run_source.result (g.W.Shelf.faults c.args.station.now)
            (g.W.Shelf.faults c.fetch_netlist.new.station) (g.W.Shelf.faults c.run_source.new.station) c.in-Ok.ensures.faults
            (cause_since c.run_source.result (g.W.Shelf.faults c.fetch_netlist.new.station)
            (g.W.Shelf.faults c.fetch_text.new.station) (g.W.Shelf.faults c.run_source.new.station)
            c.in-Ok-fetch_text.ensures.faults c.run_source.ensures.cause));
        in_order = λ _ six. absurd (c.run_source.ensures.which.not_text six);
      };
    }
