-- A job that is attached, of which it is asked whether a run goes on with its first step that isn't committed.
use Rattle.std.proofs.Common.{◌≡◌, ◌∙◌, ℕ, ◌<◌, Bool, true, false, not, List, length, refl, sym, ap, subst, arith}
use Rattle.std.specs.Prelude.{IsTrue, Ok}
use Rattle.bool_tables.specs.Plans.{IsWellFormed}
use Rattle.shelf_model.specs.Folder.{file_in, IsImage, AreFiles}
use Rattle.shelf_model.specs.World.{Moment, World, now}
use Rattle.shelf_model.specs.Calls.{Told}
use Rattle.shelf_model.specs.Moments.{Ran, Stays}
use Rattle.shelf_model.proofs.Runs.{told_then, ran_joins, ran_weakens, ran_end}
use Rattle.catalogue.specs.Counts.{present, is_stored}
use Rattle.catalogue.specs.Standings.{without_budget, standing_of, DuringAttach}
use Rattle.sound_image.specs.Files.{checkpoint_gate}
use Rattle.sound_image.specs.Jobs.{Job}
use Rattle.sound_image.specs.Holds.{AreSound}
use Rattle.sound_image.proofs.Numbers.{IsOfStep, gate_of_step, not_job_file, not_job_gate, not_step_gate}
use Rattle.script_runner.specs.declared.begin.Begun.{Begun}
use Rattle.script_runner.specs.Begun.{IsAsked}
use Rattle.script_runner.specs.Calls.{IsGated}
use Rattle.script_runner.proofs.Standing.{IsStanding, standing_says}
use Rattle.script_runner.proofs.Paying.{gated_same, none_unstored}

-- a moment with the same files
as_then : (given : List ℕ) (old m n : Moment) → n.folder ≡ m.folder → DuringAttach given old m → DuringAttach given old n
as_then given old m n same during = record {
  others = λ q no_job no_gate no_steps. ap (λ folder. file_in folder q) same ∙ during.others q no_job no_gate no_steps;
  images = λ image is_image. during.images image (subst (λ folder. IsImage folder image) same is_image);
}

module _ {S : Type 0} (tells : S → Bool) (world : S → World) where
  -- the length of a gate was asked behind that
  pub asked_then : (given : List ℕ) (old s t : S) → Told tells old s (Ran (DuringAttach given (now (world old))) (world old) (world s))
      → Told tells s t (Ran (Stays (now (world s))) (world s) (world t)) → Told tells old t (Ran (DuringAttach given (now (world old))) (world old) (world t))
  asked_then given old s t attached asked = told_then tells old s t _ _ _ attached asked (λ _ ran stays.
      let P : Moment → Type 0 = DuringAttach given (now (world old)) in
      ran_joins (world old) (world s) (world t) P ran
      (ran_weakens (world s) (world t) (Stays (now (world s))) P (λ m same. as_then given (now (world old)) (now (world s)) m same (ran_end (world old) (world s) P ran)) stays))

  -- so it is known of the folder as it was at first whether something was gated of that step, where it was sound
  pub begun_gated : (law : (s : S) → IsTrue (tells s) → AreFiles (now (world s)).folder) (job : Job) (plan : IsWellFormed job.n job.text job.steps) (given : List ℕ)
      (begun : Begun) (old s : S) → without_budget given ≡ job.bytes → Told tells old s (Ran (DuringAttach given (now (world old))) (world old) (world s))
      → (IsTrue (tells s) → Ok begun.standing ≡ standing_of given (length job.steps) (present (now (world old)).folder))
      → (IsTrue (tells s) → IsAsked begun (length job.steps) (now (world s)).folder) → IsTrue (tells s) → AreSound job (now (world old)).folder
      → begun.standing.done < length job.steps → IsGated begun.gone_on begun.standing.done (now (world old)).folder
  begun_gated law job plan given begun old s of_job run answer asked told sound within = by_fresh begun.standing.fresh refl
    where
      says : IsStanding job.bytes (length job.steps) begun.standing (present (now (world old)).folder)
      says = standing_says given job.bytes of_job (length job.steps) (present (now (world old)).folder) (Ok begun.standing) (answer told)

      not_stored : (b : Bool) → not b ≡ true → b ≡ false
      not_stored true is = sym is
      not_stored false is = refl

      of_step : IsOfStep (checkpoint_gate begun.standing.done)
      of_step = gate_of_step begun.standing.done (let few = plan.few_steps in omega (arith, within, few))

      gate : file_in (now (world s)).folder (checkpoint_gate begun.standing.done) ≡ file_in (now (world old)).folder (checkpoint_gate begun.standing.done)
      gate = (ran_end (world old) (world s) (DuringAttach given (now (world old))) (run.did told)).others (checkpoint_gate begun.standing.done)
          (not_job_file (checkpoint_gate begun.standing.done) of_step) (not_job_gate (checkpoint_gate begun.standing.done) of_step)
          (not_step_gate (checkpoint_gate begun.standing.done) of_step)

      by_fresh : (b : Bool) → begun.standing.fresh ≡ b → IsGated begun.gone_on begun.standing.done (now (world old)).folder
      by_fresh true is = subst (λ gated. IsGated gated begun.standing.done (now (world old)).folder) (sym ((asked told).anew is))
          (none_unstored job begun.standing.done (now (world old)).folder (law old (run.before told)) sound
          (not_stored (is_stored (present (now (world old)).folder)) (sym says.fresh ∙ is)) within)
      by_fresh false is = gated_same begun.gone_on begun.standing.done (now (world s)).folder (now (world old)).folder (sym gate)
          ((asked told).asked is within)
