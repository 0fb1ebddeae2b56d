-- How far a step has come, where the steps before it are held.
use Rattle.std.proofs.Common.{◌≡◌, ◌≢◌, ◌⊎◌, ◌∙◌, ℕ, zero, suc, ◌+◌, ◌≤◌, Bool, List, [], ◌∷◌, length, take, min, replicate, refl, sym, ap, subst, inl, inr, arith}
use Rattle.std.specs.Prelude.{Any, IsTrue, Option, Some, None, Result, Ok, Err}
use Rattle.std.specs.Result.{IsErrAnd}
use Rattle.std.specs.List.{list_all}
use Rattle.std.proofs.lemmas.Bool.{and_parts}
use Rattle.std.proofs.lemmas.List.{length-take, length-append, length-replicate}
use Rattle.std.proofs.lemmas.Option.{same_Some}
use Rattle.bool_tables.specs.Plans.{is_live, operands}
use Rattle.shelf_model.specs.declared.file_no.FileNo.{FileNo}
use Rattle.shelf_model.specs.declared.fault.StreamFault.{StreamFault}
use Rattle.shelf_model.specs.declared.fault.StreamFault.TheVariants as stream
use Rattle.shelf_model.specs.declared.sort_fault.SortFault.{SortFault}
use Rattle.shelf_model.specs.declared.sort_fault.SortFault.TheVariants as sort
use Rattle.shelf_model.specs.SortFaults.{handed_on}
use Rattle.shelf_model.specs.File.{File, firm_file}
use Rattle.shelf_model.specs.Folder.{Folder, file_in, AreFiles}
use Rattle.shelf_model.specs.Faults.{Faults}
use Rattle.shelf_model.specs.Moments.{Throughout, Ran, Quiet}
use Rattle.shelf_model.specs.World.{Moment, World, now}
use Rattle.shelf_model.proofs.Runs.{weakens}
use Rattle.run_tiers.specs.Syncs.{IsFirm}
use Rattle.step_work.specs.Plans.{no_step}
use Rattle.step_work.specs.Plans as plans
use Rattle.sweep_core.specs.declared.checkpoint.Checkpoint.{Checkpoint}
use Rattle.sweep_checkpoint.specs.Points.{point_bytes, used_bytes, Fits}
use Rattle.sweep_checkpoint.specs.Rules.{IsPointOf}
use Rattle.sweep_checkpoint.specs.Gated.{present, last_gated}
use Rattle.sweep_checkpoint.specs.Loads.{Tells}
use Rattle.sweep_checkpoint.specs.declared.going.Going.{Going}
use Rattle.step_going.specs.Found.{IsGoingOf, IsFound, DuringFind, IsFindFault}
use Rattle.step_sweeps.specs.Going.{MayGoOn}
use Rattle.step_going.specs.Standing.{IsLastOf}
use Rattle.step_going.proofs.LastFound.{OthersSure, goes_on_read, standing_searched}
use Rattle.step_going.proofs.Telling.{told_point, used_first}
use Rattle.resumable.proofs.StepPoints.{at_last, at_near}
use Rattle.sound_image.specs.Files.{node_file, checkpoint_gate}
use Rattle.sound_image.specs.Jobs.{Job, step_at, file_of}
use Rattle.sound_image.specs.Holds.{Holds}
use Rattle.sound_image.proofs.StepLaws.{holds_while_made}
use Rattle.step_engine.specs.Finding.{IsOfJob, JobGoesOn, JobRests, JobStands, FindsGoing}
use Rattle.step_engine.proofs.PlanLaws.{follows_at, operands_live}
use Rattle.step_engine.proofs.JobPaid.{HasPaid, job_paid}
use Rattle.step_engine.proofs.Told.{IsTold, is_told, gate_filled}
use Rattle.step_engine.proofs.Resuming.{safe_step}

-- where all steps of a list are so, and the file is the node file of one of them, that one is so
node_of : (p : ℕ → Bool) (ks : List ℕ) (f : FileNo) → IsTrue (list_all p ks) → Any (λ k. f ≡ node_file k) ks → (k : ℕ) × IsTrue (p k) × (f ≡ node_file k)
node_of p [] f all (place, x, within, at, is) = absurd (omega (arith, within))
node_of p (k ∷ ks) f all (zero, x, within, at, is) = (x, subst (λ y. IsTrue (p y)) at (and_parts (p k) (list_all p ks) all).0, is)
node_of p (k ∷ ks) f all (suc place, x, within, at, is) =
    node_of p ks f (and_parts (p k) (list_all p ks) all).1 (place, x, omega (arith, within), at, is)

-- a checkpoint has so many bytes: of them those before the unused ones are its own
pub point_whole : (c : Checkpoint) → Fits c → length (point_bytes c) ≡ 16384
unfolding point_bytes
point_whole c fits =
    let cut : length (take 15872 (point_bytes c)) ≡ min 15872 (length (point_bytes c)) = length-take 15872 (point_bytes c) in
    let used : length (take 15872 (point_bytes c)) ≡ length (used_bytes c) = ap length (used_first c fits) in
    let rest : length (replicate {A = ℕ} 512 0) ≡ 512 = length-replicate {A = ℕ} 512 0 in
    let all : length (point_bytes c) ≡ length (used_bytes c) + length (replicate {A = ℕ} 512 0) = length-append (used_bytes c) (replicate {A = ℕ} 512 0) in
    omega (arith, cut, used, rest, all)

module _ (job : Job) (number : ℕ) (of_job : IsOfJob job number) where
  -- the operands of the step are live
  live : IsTrue (list_all (is_live (take number job.steps)) (operands (plans.step_at job.steps number)))
  live = operands_live job.n job.text (take number job.steps) (step_at job number)
      (follows_at job.n job.text job.steps number no_step of_job.within of_job.well_formed)

  -- so what a checkpoint rests on of other steps is sure
  others_firm : (folder : Folder) (c : Checkpoint) → AreFiles folder → Holds job number folder → IsTold number (last_gated number (present folder)) c
      → (f : FileNo) (n : ℕ) → JobRests job number c f n → f.step ≢ number → IsFirm (file_in folder f)
  others_firm folder c files holds told f n rests differ =
      let goes : JobGoesOn job number (present folder) =
      goes_on_read (JobGoesOn job number) (JobRests job number) number folder told.bytes files (safe_step job number folder of_job.within holds.resumable) told.last_is in
      let its = at_last job.n job.text job.steps number (present folder) goes in
      let d : Checkpoint = its.0 in
      let last : IsLastOf number (present folder) d = its.1 in
      let same : d ≡ c = told_point number told.bytes d c (same_Some told.bytes (point_bytes d) (sym told.last_is ∙ last.last)) last.words told.point in
      elim (at_near job.n job.text job.steps number (present folder) c goes (subst (IsLastOf number (present folder)) same last) f n rests) [
        | inl own ↦ absurd (differ own)
        | inr operand ↦
            let found = node_of (is_live (take number job.steps)) (operands (plans.step_at job.steps number)) f live operand in
            let held : file_in folder (node_file found.0) ≡ firm_file (file_of job found.0) = holds.files found.0 found.1 in
            subst (λ g. IsFirm (file_in folder g)) (sym found.2) (held ∙ ap (λ (x : File). firm_file x.bytes) (sym held))
      ]

  others_sure : (folder : Folder) (last : Option Checkpoint) → AreFiles folder → Holds job number folder → Tells number (last_gated number (present folder)) last
      → OthersSure (JobRests job number) number folder last
  others_sure folder None files holds told = tt
  others_sure folder (Some c) files holds told = others_firm folder c files holds (is_told number (last_gated number (present folder)) c told)

  -- while the last checkpoint is found the steps before are held
  pub holds_during : (old m : Moment) → Holds job number old.folder → DuringFind number old m → Holds job number m.folder
  holds_during old m holds during =
      holds_while_made job number old.folder m.folder (let few = of_job.well_formed.few_steps in omega (arith, few)) of_job.within holds during.others
      (λ image is_image. holds.resumable image (during.images image is_image))

  pub holds_throughout : (old new : World) → Holds job number (now old).folder → Ran (DuringFind number (now old)) old new
      → Throughout old new (λ (m : Moment). Holds job number m.folder)
  holds_throughout old new holds run =
      weakens old new (Quiet (now old).said (DuringFind number (now old))) (λ m. Holds job number m.folder)
      (λ m quiet. holds_during (now old) m holds quiet.holds) run.moments

  -- and then the step stands with what was found
  pub stands_found : (old new : World) (last : Option Checkpoint) → AreFiles (now old).folder → AreFiles (now new).folder → Holds job number (now old).folder
      → Ran (DuringFind number (now old)) old new → Tells number (last_gated number (present (now old).folder)) last
      → IsFound number (now new).folder last → JobStands job number last (now new).folder
  stands_found old new None files new_files holds run told found =
      standing_searched (JobGoesOn job number) (JobRests job number) number old new None (at_last job.n job.text job.steps number) new_files
      (safe_step job number (now old).folder of_job.within holds.resumable) run found tt
  stands_found old new (Some c) files new_files holds run told found =
      standing_searched (JobGoesOn job number) (JobRests job number) number old new (Some c) (at_last job.n job.text job.steps number) new_files
      (safe_step job number (now old).folder of_job.within holds.resumable) run found (others_sure (now old).folder (Some c) files holds told)

  -- no damage is found
  pub find_is_sound : (folder : Folder) (fault : StreamFault) → AreFiles folder → Holds job number folder
      → IsFindFault number (present folder) fault → handed_on fault ≡ sort.Shelf
  find_is_sound folder stream.Shelf files holds is = refl
  find_is_sound folder (stream.Damaged f at) files holds is =
      let goes : JobGoesOn job number (present folder) =
      goes_on_read (JobGoesOn job number) (JobRests job number) number folder is.2.0 files (safe_step job number folder of_job.within holds.resumable) is.2.1 in
      let its : HasPaid number (present folder) = job_paid job number (present folder) goes in
      let whole : is.2.0 ≡ point_bytes its.point = same_Some is.2.0 (point_bytes its.point) (sym is.2.1 ∙ its.last.last) in
      absurd (is.2.2 its.point (subst (λ bytes. IsPointOf number bytes its.point) (sym whole) (record {
        whole = point_whole its.point its.last.words;
        used = used_first its.point its.last.words;
        fits = its.last.words;
        rules = its.last.rules;
      })) its.paid)

-- without a gated checkpoint none is found
pub find_damage : (number : ℕ) (r : FileNo → List ℕ) (fault : StreamFault) → IsFindFault number r fault
    → (handed_on fault ≡ sort.Shelf) ⊎ (r (checkpoint_gate number) ≢ [])
find_damage number r stream.Shelf is = inl refl
find_damage number r (stream.Damaged f at) is = inr (gate_filled number r is.2.0 is.2.1)

pub never_spent : (fault : StreamFault) → handed_on fault ≢ sort.RunsSpent
never_spent stream.Shelf is = cc
never_spent (stream.Damaged f at) is = cc

-- what reads give is what they gave
pub told_before : (number : ℕ) (old m : Moment) (last : Option Checkpoint) → DuringFind number old m
    → Tells number (last_gated number (present m.folder)) last → Tells number (last_gated number (present old.folder)) last
told_before number old m last during told = subst (λ r. Tells number (last_gated number r) last) (λ i f. during.reads f i) told

-- and a sweep may go on from it
pub may_go_on : (number budget : ℕ) (going : Going) → 16384 ≤ budget → IsGoingOf number budget going
    → (going.step ≡ number) × MayGoOn going
may_go_on number budget going enough is = (
  is.step_is,
  record {
    going_of = record { step_is = refl; budget_is = refl; shown_is = is.shown_is; come_to = is.come_to };
    budget = subst (λ b. 16384 ≤ b) (sym is.budget_is) enough;
  },
)

-- a search that is refused, for a fault that is handed on
pub handed_finds : {S : Type 0} (tells : S → Bool) (world : S → World) (counts : S → Faults) (number : ℕ) (before after : S) (e : SortFault)
    (r : Result Going SortFault) → IsErrAnd r (λ f. f ≡ e) → FindsGoing tells world counts number before after (Err e)
    → FindsGoing tells world counts number before after r
handed_finds tells world counts number before after e (Ok x) is finds = absurd is
handed_finds tells world counts number before after e (Err f) is finds =
    subst (λ x. FindsGoing tells world counts number before after (Err x)) (sym is) finds
