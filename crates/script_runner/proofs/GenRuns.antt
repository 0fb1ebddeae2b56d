-- The run of the script of a size.
use Rattle.std.proofs.Common.{◌≡◌, ℕ, ◌+◌, Bool, List, length, refl, subst, inl, inr, arith}
use Rattle.std.specs.Prelude.{Some, None}
use Rattle.command_words.specs.Readings.{gen}
use Rattle.example_script.specs.Script.{script_of}
use Rattle.shelf_model.specs.Calls.{Told}
use Rattle.shelf_model.specs.World.{World}
use Rattle.script_runner.specs.JobOf.{source_of, job_of}
use Rattle.script_runner.specs.Outcome.{EndsSource, Ends, RunsInCalls, MakesFewCalls, texts_calls}
use Rattle.script_runner.specs.Source.{Source}
use Rattle.script_runner.proofs.Endings.{ends_size}
use Rattle.script_runner.proofs.RunPaying.{stops_besides}

module _ {S : Type 0} (tells : S → Bool) (world : S → World) where
  pub ran_size : (folder : List ℕ) (size budget : ℕ) (script : List ℕ) (status : ℕ) (s t : S) → script ≡ script_of size
      → Told tells s t (EndsSource folder (source_of script None) status (world s) (world t))
      → Told tells s t (Ends (Some (gen folder size budget)) status (world s) (world t))
  ran_size folder size budget script status s t is runs = record {
    before = runs.before;
    did = λ tells_t. ends_size folder size budget status (world s) (world t) (record {
      source = source_of (script_of size) None;
      source_is = refl;
      ends = subst (λ text. EndsSource folder (source_of text None) status (world s) (world t)) is (runs.did tells_t);
    });
  }

-- its calls are fewer than where texts are fetched
later : (source : Source) (most : ℕ) (old new : World) → RunsInCalls 0 source old new → RunsInCalls most source old new
later source most old new (inl (few, still)) = inl (omega (arith, few), still)
later source most old new (inr (plan, plans, calls, stops)) = inr (
  plan,
  plans,
  λ rest counted. let few = calls rest counted in omega (arith, few),
  stops_besides (job_of source plan) (length plan.lines) 2 (most + 2) old new (omega arith) stops,
)

pub calls_size : (folder : List ℕ) (size budget : ℕ) (script : List ℕ) (old new : World) → script ≡ script_of size
    → RunsInCalls 0 (source_of script None) old new
    → MakesFewCalls (Some (gen folder size budget)) old new
calls_size folder size budget script old new is runs = inr (inl (
  source_of (script_of size) None,
  record { reading = gen folder size budget; asked_is = refl; source_is = refl },
  later (source_of (script_of size) None) texts_calls old new
      (subst (λ text. RunsInCalls 0 (source_of text None) old new) is runs),
))
