-- The endings of a call that did no more than fetch texts and say why it ends.
use Rattle.std.proofs.Common.{◌≡◌, ◌⊎◌, ℕ, ◌+◌, ◌≤◌, Bool, List, ◌++◌, refl, subst, inl, inr, arith}
use Rattle.std.specs.Prelude.{IsTrue, Option, Some, None}
use Rattle.shelf_model.specs.Calls.{Told}
use Rattle.shelf_model.specs.Faults.{Faults, Rose}
use Rattle.shelf_model.specs.World.{Moment, World, now, said}
use Rattle.shelf_model.proofs.Runs.{stands}
use Rattle.command_words.specs.Readings.{Reading, run}
use Rattle.script_runner.specs.declared.ending.Ending.{Ending}
use Rattle.script_runner.specs.declared.ending.Ending.TheVariants as ending
use Rattle.script_runner.specs.declared.ending.Ending.TheVariants.{SayFault}
use Rattle.script_runner.specs.Entered.{EndingHasCause}
use Rattle.script_runner.specs.Fetching.{OnlyFetched}
use Rattle.script_runner.specs.Outcome.{SaysLine, ByWords, IsStatus, PassesNetlist, Answers, texts_calls}
use Rattle.script_runner.specs.Running.{SaysOnly}
use Rattle.script_runner.specs.Source.{NamesText}
use Rattle.script_runner.specs.Status.{status_of}
use Rattle.script_runner.specs.Text.{usage_line}
use Rattle.script_runner.proofs.Endings.{fetched_then, same_reading, ends_texts, ends_unread, ends_without_memory}
use Rattle.script_runner.proofs.StopLaws.{fetched_old, says_old}
use Rattle.script_runner.proofs.SourceRuns.{one_of_two, line_said, has_cause, words_run}

-- nothing was called
nothing_fetched : (w : World) → OnlyFetched w w
nothing_fetched w = record {
  moments = stands w (λ (m : Moment). m ≡ now w) refl;
  texts_are = refl;
  home_is = refl;
  inside_is = refl;
  strays_are = refl;
}

-- words without a reading end with one of two statuses
by_usage : (asked : Option Reading) (e : Ending) → asked ≡ None → (e ≡ ending.Usage) ⊎ (e ≡ SayFault) → ByWords asked (status_of e)
by_usage asked e none which = record {
  usage = λ two. none;
  unread = λ _. one_of_two (λ s. (s ≡ 2) ⊎ (s ≡ 8) ⊎ (s ≡ 9)) e ending.Usage which (inl refl) (inr (inl refl));
  listed = λ folder is. absurd cc;
  known = one_of_two IsStatus e ending.Usage which refl refl;
}

-- one text was fetched, and then another
pub fetched_both : {S : Type 0} (tells : S → Bool) (world : S → World) (old mid new : S)
    → Told tells old mid (OnlyFetched (world old) (world mid)) → Told tells mid new (OnlyFetched (world mid) (world new))
    → Told tells old new (OnlyFetched (world old) (world new))
fetched_both tells world old mid new first second = record {
  before = λ tells_t. first.before (second.before tells_t);
  did = λ tells_t. fetched_then (world old) (world mid) (world new) (first.did (second.before tells_t)) (second.did tells_t);
}

module _ {S : Type 0} (tells : S → Bool) (world : S → World) (counts : S → Faults) where
  -- there was no memory
  pub answers_no_memory : (asked : Option Reading) (s t : S) → Told tells s t (OnlyFetched (world s) (world t))
      → (IsTrue (tells t) → (world t).clock ≤ (world s).clock + texts_calls) → Answers tells world counts asked 9 s t
  answers_no_memory asked s t looked calls = record {
    content = record {
      before = looked.before;
      did = λ tells_t. ends_without_memory asked (world s) (world t) (looked.did tells_t);
    };
    calls = λ tells_t. let few = calls tells_t in inl (omega (arith, few), fetched_old (world s) (world t) (looked.did tells_t));
    by_words = record {
      usage = λ two. absurd (omega (arith, two));
      unread = λ none. inr (inr refl);
      listed = λ folder is. refl;
      known = refl;
    };
    causes = record {
      text_fault = λ six. absurd (omega (arith, six));
      folder_fault = λ seven. absurd (omega (arith, seven));
      say_fault = λ eight. absurd (omega (arith, eight));
    };
    in_order = λ _ six. absurd (omega (arith, six));
  }

  -- and nothing was called
  pub answers_at_once : (asked : Option Reading) (s : S) → Answers tells world counts asked 9 s s
  answers_at_once asked s = answers_no_memory asked s s
      (record { before = λ tells_s. tells_s; did = λ _. nothing_fetched (world s) })
      (λ _. omega arith)

  -- a text that the words name couldn't be fetched
  pub answers_no_text : (folder script : List ℕ) (netlist : Option (List ℕ)) (budget : ℕ) (path : List ℕ) (s t : S)
      → NamesText (run folder script netlist budget) path → Rose ((counts s).text path) ((counts t).text path)
      → Told tells s t (OnlyFetched (world s) (world t))
      → (IsTrue (tells t) → (world t).clock ≤ (world s).clock + texts_calls)
      → (IsTrue (tells t) → PassesNetlist (run folder script netlist budget) (world s) (counts s) (counts t))
      → Answers tells world counts (Some (run folder script netlist budget)) 6 s t
  answers_no_text folder script netlist budget path s t names rose looked calls passes = record {
    content = record {
      before = looked.before;
      did = λ tells_t. ends_texts folder script netlist budget 6 (world s) (world t) (inr (inl (refl, looked.did tells_t)));
    };
    calls = λ tells_t. let few = calls tells_t in inl (omega (arith, few), fetched_old (world s) (world t) (looked.did tells_t));
    by_words = words_run folder script netlist budget 6 refl (λ x. omega (arith, x));
    causes = record {
      text_fault = λ six. (run folder script netlist budget, refl, (path, names, rose));
      folder_fault = λ seven. absurd (omega (arith, seven));
      say_fault = λ eight. absurd (omega (arith, eight));
    };
    in_order = λ tells_t six reading is. subst (λ r. PassesNetlist r (world s) (counts s) (counts t))
        (same_reading (run folder script netlist budget) reading is) (passes tells_t);
  }

  -- the words have no reading, and the usage was said
  pub answers_usage : (asked : Option Reading) (line : List ℕ) (e : Ending) (s t : S) → asked ≡ None → line ≡ usage_line
      → (e ≡ ending.Usage) ⊎ (e ≡ SayFault) → Told tells s t (SaysOnly line (world s) (world t))
      → (e ≡ ending.Usage → IsTrue (tells t) → said (world t) ≡ said (world s) ++ line)
      → (IsTrue (tells t) → (world t).clock ≤ (world s).clock + 1) → EndingHasCause (counts s) (counts t) e
      → Answers tells world counts asked (status_of e) s t
  answers_usage asked line e s t none line_is which says whole calls cause = record {
    content = record {
      before = says.before;
      did = λ tells_t. ends_unread asked (status_of e) (world s) (world t) none
          (subst (λ l. SaysLine l 2 (status_of e) (world s) (world t)) line_is
          (line_said line e ending.Usage (world s) (world t) which (λ x. omega (arith, x)) (says.did tells_t)
          (λ is. whole is tells_t)));
    };
    calls = λ tells_t. let few = calls tells_t in inl (omega (arith, few), says_old line (world s) (world t) (says.did tells_t));
    by_words = by_usage asked e none which;
    causes = has_cause asked e (counts s) (counts t)
        (one_of_two (λ s. ¬ (s ≡ 6)) e ending.Usage which (λ x. omega (arith, x)) (λ x. omega (arith, x))) cause;
    in_order = λ _ six. absurd (one_of_two (λ s. ¬ (s ≡ 6)) e ending.Usage which (λ x. omega (arith, x))
        (λ x. omega (arith, x)) six);
  }
