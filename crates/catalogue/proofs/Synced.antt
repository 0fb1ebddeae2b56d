-- What holds while the files of a job are made sure and read.
use Rattle.std.proofs.Common.{◌≡◌, ◌≢◌, ℕ, Bool, List, length, refl, sym, ap, subst, ◌∙◌, inl, inr, arith}
use Rattle.std.specs.Prelude.{IsTrue, Result}
use Rattle.shelf_model.specs.declared.file_no.FileNo.{FileNo}
use Rattle.shelf_model.specs.declared.fault.Failed.{Failed}
use Rattle.shelf_model.specs.File.{File}
use Rattle.shelf_model.specs.Folder.{file_in, bytes_in, IsImage, AreFiles}
use Rattle.shelf_model.specs.World.{Moment, World, now, file}
use Rattle.shelf_model.specs.Calls.{Told, Synced, Measured}
use Rattle.shelf_model.specs.Moments.{Ran, Stays}
use Rattle.shelf_model.proofs.Images.{sync_images}
use Rattle.shelf_model.proofs.Runs.{told, told_then, ran_call, ran_on, ran_joins, ran_weakens, ran_end}
use Rattle.file_writes.proofs.Sure.{synced_reads}
use Rattle.catalogue.specs.Files.{job_file, job_gate, step_gate}
use Rattle.catalogue.specs.Counts.{present}
use Rattle.catalogue.specs.Standings.{DuringSyncs, DuringStore, DuringAttach, AreGatesSure, IsBeginning}
use Rattle.catalogue.proofs.Stored.{not_stored}

-- a file of the job or of a gate
pub record IsFileOfJob (f : FileNo) : Type 0 where
  pub one_of : (q : FileNo) → q ≢ job_file → q ≢ job_gate → q ≢ step_gate → q ≢ f

pub is_job_file : IsFileOfJob job_file
is_job_file = record { one_of = λ q not_job not_gate not_steps. not_job }

pub is_job_gate : IsFileOfJob job_gate
is_job_gate = record { one_of = λ q not_job not_gate not_steps. not_gate }

pub is_step_gate : IsFileOfJob step_gate
is_step_gate = record { one_of = λ q not_job not_gate not_steps. not_steps }

-- nothing was made sure yet
pub syncs_here : (m : Moment) → DuringSyncs m m
syncs_here m = record { others = λ q not_job not_gate not_steps. refl; reads = λ q. refl; images = λ image is_image. is_image }

-- one file more is made sure
syncs_on : (f : FileNo) (result : Result Unit Failed) (w v u : World) → IsFileOfJob f → AreFiles (now v).folder → DuringSyncs (now w) (now v) → Synced f result v u → DuringSyncs (now w) (now u)
syncs_on f result w v u job are_files so_far did = record {
  others = λ q not_job not_gate not_steps. did.others q (job.one_of q not_job not_gate not_steps) ∙ so_far.others q not_job not_gate not_steps;
  reads = λ q. synced_reads f q result v u did ∙ so_far.reads q;
  images = λ image is_image. so_far.images image (sync_images f result v u image are_files did is_image);
}

-- the files stay
pub syncs_stay : (old mid m : Moment) → Stays mid m → DuringSyncs old mid → DuringSyncs old m
syncs_stay old mid m stays so_far = record {
  others = λ q not_job not_gate not_steps. ap (λ folder. file_in folder q) stays ∙ so_far.others q not_job not_gate not_steps;
  reads = λ q. ap (λ folder. (file_in folder q).bytes) stays ∙ so_far.reads q;
  images = λ image is_image. so_far.images image (subst (λ folder. IsImage folder image) stays is_image);
}

-- a sync, the first call
pub sync_first : {S : Type 0} (tells : S → Bool) (world : S → World) (f : FileNo) (result : Result Unit Failed) (old s : S) → IsFileOfJob f → ((x : S) → IsTrue (tells x) → AreFiles (now (world x)).folder)
    → Told tells old s (Synced f result (world old) (world s)) → Told tells old s (Ran (DuringSyncs (now (world old))) (world old) (world s))
sync_first tells world f result old s job files call =
    told tells old s (Synced f result (world old) (world s)) (Ran (DuringSyncs (now (world old))) (world old) (world s)) call
    (λ tells_old did. ran_call (world old) (world s) (DuringSyncs (now (world old))) did.shelf (syncs_here (now (world old)))
    (syncs_on f result (world old) (world old) (world s) job (files old tells_old) (syncs_here (now (world old))) did))

-- and one more
pub sync_next : {S : Type 0} (tells : S → Bool) (world : S → World) (f : FileNo) (result : Result Unit Failed) (old s t : S) → IsFileOfJob f → ((x : S) → IsTrue (tells x) → AreFiles (now (world x)).folder)
    → Told tells old s (Ran (DuringSyncs (now (world old))) (world old) (world s)) → Told tells s t (Synced f result (world s) (world t)) → Told tells old t (Ran (DuringSyncs (now (world old))) (world old) (world t))
sync_next tells world f result old s t job files so_far call = record {
  before = λ tells_new. so_far.before (call.before tells_new);
  did = λ tells_new.
      let tells_mid : IsTrue (tells s) = call.before tells_new in
      let run = so_far.did tells_mid in
      let did = call.did tells_new in
      ran_on (world old) (world s) (world t) (DuringSyncs (now (world old))) run did.shelf
      (syncs_on f result (world old) (world s) (world t) job (files s tells_mid) (ran_end (world old) (world s) (DuringSyncs (now (world old))) run) did);
}

-- a length is asked
pub len_next : {S : Type 0} (tells : S → Bool) (world : S → World) (f : FileNo) (result : Result ℕ Failed) (old s t : S)
    → Told tells old s (Ran (DuringSyncs (now (world old))) (world old) (world s)) → Told tells s t (Measured f result (world s) (world t)) → Told tells old t (Ran (DuringSyncs (now (world old))) (world old) (world t))
len_next tells world f result old s t so_far call =
    told_then tells old s t (Ran (DuringSyncs (now (world old))) (world old) (world s)) (Measured f result (world s) (world t)) (Ran (DuringSyncs (now (world old))) (world old) (world t)) so_far call
    (λ tells_old run did. ran_on (world old) (world s) (world t) (DuringSyncs (now (world old))) run did.shelf
    (syncs_stay (now (world old)) (now (world s)) (now (world t)) (ap (λ (m : Moment). m.folder) did.same) (ran_end (world old) (world s) (DuringSyncs (now (world old))) run)))

-- a run that only reads
pub reads_next : {S : Type 0} (tells : S → Bool) (world : S → World) (old s t : S)
    → Told tells old s (Ran (DuringSyncs (now (world old))) (world old) (world s)) → Told tells s t (Ran (Stays (now (world s))) (world s) (world t)) → Told tells old t (Ran (DuringSyncs (now (world old))) (world old) (world t))
reads_next tells world old s t so_far reads =
    told_then tells old s t (Ran (DuringSyncs (now (world old))) (world old) (world s)) (Ran (Stays (now (world s))) (world s) (world t)) (Ran (DuringSyncs (now (world old))) (world old) (world t)) so_far reads
    (λ tells_old run did. ran_joins (world old) (world s) (world t) (DuringSyncs (now (world old))) run
    (ran_weakens (world s) (world t) (Stays (now (world s))) (DuringSyncs (now (world old)))
    (λ m stays. syncs_stay (now (world old)) (now (world s)) m stays (ran_end (world old) (world s) (DuringSyncs (now (world old))) run)) did))

-- making files sure is part of an attach
attach_syncs : (job : List ℕ) (old m : Moment) → DuringSyncs old m → DuringAttach job old m
attach_syncs job old m syncs = record { others = syncs.others; images = λ image is_image. inl (syncs.images image is_image) }

syncs_joined : (old mid m : Moment) → DuringSyncs old mid → DuringSyncs mid m → DuringSyncs old m
syncs_joined old mid m first second = record {
  others = λ q not_job not_gate not_steps. second.others q not_job not_gate not_steps ∙ first.others q not_job not_gate not_steps;
  reads = λ q. second.reads q ∙ first.reads q;
  images = λ image is_image. first.images image (second.images image is_image);
}

-- and so is storing the job where there is none
attach_stores : (job : List ℕ) (old mid m : Moment) → DuringSyncs old mid → AreGatesSure mid.folder → length (file_in mid.folder job_gate).bytes ≡ 0 → DuringStore job (file_in mid.folder step_gate).reach mid m → DuringAttach job old m
attach_stores job old mid m syncs sure none storing =
    let gate : length (present old.folder job_gate) ≡ 0 = sym (ap length (syncs.reads job_gate)) ∙ none in
    let reach : (file_in mid.folder step_gate).reach ≡ length (present old.folder step_gate) = ap (λ (x : File). x.reach) sure.steps ∙ ap length (syncs.reads step_gate) in
    record {
      others = λ q not_job not_gate not_steps. storing.others q not_job not_gate not_steps ∙ syncs.others q not_job not_gate not_steps;
      images = λ image is_image. inr (not_stored (present old.folder) (omega arith), subst (λ n. IsBeginning job n (bytes_in image)) reach (storing.images image is_image));
    }

pub attach_refused : {S : Type 0} (tells : S → Bool) (world : S → World) (job : List ℕ) (old s : S)
    → Told tells old s (Ran (DuringSyncs (now (world old))) (world old) (world s)) → Told tells old s (Ran (DuringAttach job (now (world old))) (world old) (world s))
attach_refused tells world job old s so_far =
    told tells old s (Ran (DuringSyncs (now (world old))) (world old) (world s)) (Ran (DuringAttach job (now (world old))) (world old) (world s)) so_far
    (λ tells_old run. ran_weakens (world old) (world s) (DuringSyncs (now (world old))) (DuringAttach job (now (world old))) (λ m syncs. attach_syncs job (now (world old)) m syncs) run)

pub attach_resumed : {S : Type 0} (tells : S → Bool) (world : S → World) (job : List ℕ) (old s t : S)
    → Told tells old s (Ran (DuringSyncs (now (world old))) (world old) (world s)) → Told tells s t (Ran (DuringSyncs (now (world s))) (world s) (world t)) → Told tells old t (Ran (DuringAttach job (now (world old))) (world old) (world t))
attach_resumed tells world job old s t so_far resumes =
    told_then tells old s t (Ran (DuringSyncs (now (world old))) (world old) (world s)) (Ran (DuringSyncs (now (world s))) (world s) (world t)) (Ran (DuringAttach job (now (world old))) (world old) (world t)) so_far resumes
    (λ tells_old run next.
    let end : DuringSyncs (now (world old)) (now (world s)) = ran_end (world old) (world s) (DuringSyncs (now (world old))) run in
    ran_joins (world old) (world s) (world t) (DuringAttach job (now (world old)))
    (ran_weakens (world old) (world s) (DuringSyncs (now (world old))) (DuringAttach job (now (world old))) (λ m syncs. attach_syncs job (now (world old)) m syncs) run)
    (ran_weakens (world s) (world t) (DuringSyncs (now (world s))) (DuringAttach job (now (world old))) (λ m syncs. attach_syncs job (now (world old)) m (syncs_joined (now (world old)) (now (world s)) m end syncs)) next))

pub attach_stored : {S : Type 0} (tells : S → Bool) (world : S → World) (job : List ℕ) (n : ℕ) (old s t : S) → n ≡ 0
    → Told tells old s (Ran (DuringSyncs (now (world old))) (world old) (world s)) → (IsTrue (tells s) → (n ≡ length (file (world s) job_gate).bytes) × AreGatesSure (now (world s)).folder)
    → Told tells s t (Ran (DuringStore job (file (world s) step_gate).reach (now (world s))) (world s) (world t)) → Told tells old t (Ran (DuringAttach job (now (world old))) (world old) (world t))
attach_stored tells world job n old s t none so_far gates stores = record {
  before = λ tells_new. so_far.before (stores.before tells_new);
  did = λ tells_new.
      let tells_mid : IsTrue (tells s) = stores.before tells_new in
      let run = so_far.did tells_mid in
      let sure = gates tells_mid in
      let end : DuringSyncs (now (world old)) (now (world s)) = ran_end (world old) (world s) (DuringSyncs (now (world old))) run in
      ran_joins (world old) (world s) (world t) (DuringAttach job (now (world old)))
      (ran_weakens (world old) (world s) (DuringSyncs (now (world old))) (DuringAttach job (now (world old))) (λ m syncs. attach_syncs job (now (world old)) m syncs) run)
      (ran_weakens (world s) (world t) (DuringStore job (file (world s) step_gate).reach (now (world s))) (DuringAttach job (now (world old)))
      (λ m storing. attach_stores job (now (world old)) (now (world s)) m end sure.1 (sym sure.0 ∙ none) storing) (stores.did tells_new));
}
