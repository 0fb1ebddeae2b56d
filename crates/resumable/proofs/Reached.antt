-- A plan may be gone on with where its step goes on, and none behind it has a checkpoint.
use Rattle.std.specs.Prelude.{◌≡◌, ℕ, ◌<◌, List, length}
use Rattle.std.proofs.Common.{sym, subst, ◌∙◌, inl, inr, arith}
use Rattle.bool_tables.specs.declared.steps.Planned.{Planned}
use Rattle.bool_tables.specs.declared.steps.Step.{Step}
use Rattle.shelf_model.specs.declared.file_no.FileNo.{FileNo}
use Rattle.step_work.specs.Plans.{step_at}
use Rattle.resumable.specs.Kinds.{StepGoesOn}
use Rattle.resumable.specs.Resumable.{NoneBehind, StartsOrGoesOn, ShowsTheSame, IsResumable}
use Rattle.resumable.proofs.StepPoints.{at_local, at_last}

pub step_resumes : (n : ℕ) (text : List ℕ) (steps : List Planned) (j : ℕ) (step : Step) (r : FileNo → List ℕ)
    → step_at steps j ≡ step → NoneBehind steps j r → StepGoesOn n text steps j step r
    → IsResumable n text steps j r
step_resumes n text steps j step r is none goes = record {
  behind = none;
  this_step = λ within. inr (subst (λ s. StepGoesOn n text steps j s r) (sym is) goes);
}

module _ (n : ℕ) (text : List ℕ) (steps : List Planned) (j : ℕ) (old new : FileNo → List ℕ)
    (same : ShowsTheSame steps j old new) where
  starts_still : j < length steps → StartsOrGoesOn n text steps j old → StartsOrGoesOn n text steps j new
  starts_still within (inl none) = inl (same.gates j (omega arith) within ∙ none)
  starts_still within (inr goes) =
      let last = at_last n text steps j old goes in
      inr (at_local n text steps j last.0 old new last.1 same.last (same.fronts last.0 last.1) goes)

  -- and still, where the last checkpoint and what it rests on are the same
  pub still_resumable : IsResumable n text steps j old → IsResumable n text steps j new
  still_resumable is = record {
    behind = λ k behind within. same.gates k (omega (arith, behind)) within ∙ is.behind k behind within;
    this_step = λ within. starts_still within (is.this_step within);
  }
