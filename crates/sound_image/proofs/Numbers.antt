-- The files of steps are none of the job's, and those of different kinds differ.
use Rattle.std.proofs.Common.{◌≡◌, ◌≢◌, ℕ, ◌<◌, ap, arith}
use Rattle.shelf_model.specs.declared.file_no.FileNo.{FileNo}
use Rattle.catalogue.specs.Files.{job_step, job_file, job_gate, catalogue, step_gate}
use Rattle.sound_image.specs.Files.{node_file, checkpoint_gate}

-- a file of a step that isn't the job's
pub record IsOfStep (f : FileNo) : Type 0 where
  pub early : f.step ≢ job_step

pub node_of_step : (s : ℕ) → s < job_step → IsOfStep (node_file s)
node_of_step s below = record { early = λ e. omega (arith, e, below) }

pub gate_of_step : (s : ℕ) → s < job_step → IsOfStep (checkpoint_gate s)
gate_of_step s below = record { early = λ e. omega (arith, e, below) }

pub not_job_file : (f : FileNo) → IsOfStep f → f ≢ job_file
not_job_file f of_step e = of_step.early (ap (λ (q : FileNo). q.step) e)

pub not_job_gate : (f : FileNo) → IsOfStep f → f ≢ job_gate
not_job_gate f of_step e = of_step.early (ap (λ (q : FileNo). q.step) e)

pub not_catalogue : (f : FileNo) → IsOfStep f → f ≢ catalogue
not_catalogue f of_step e = of_step.early (ap (λ (q : FileNo). q.step) e)

pub not_step_gate : (f : FileNo) → IsOfStep f → f ≢ step_gate
not_step_gate f of_step e = of_step.early (ap (λ (q : FileNo). q.step) e)

pub gate_not_node : (s k : ℕ) → checkpoint_gate s ≢ node_file k
gate_not_node s k e = let parts : 2 ≡ 0 = ap (λ (q : FileNo). q.part) e in omega (arith, parts)

pub other_node : (s k : ℕ) → s < k → node_file s ≢ node_file k
other_node s k below e = let steps : s ≡ k = ap (λ (q : FileNo). q.step) e in omega (arith, steps, below)
