-- The images of a folder while a new job is stored in it.
use Rattle.std.proofs.Common.{◌≡◌, ◌≢◌, ◌⊎◌, ℕ, ◌+◌, ◌≤◌, max, Bool, false, List, [], ◌∷◌, ◌++◌, length, refl, sym, ap, ◌∙◌, inl, inr, arith}
use Rattle.std.specs.Prelude.{IsTrue, Result, Ok, Err, OnOk}
use Rattle.std.proofs.lemmas.Bool.{cases_lt, le-ltb}
use Rattle.shelf_model.specs.declared.file_no.FileNo.{FileNo}
use Rattle.shelf_model.specs.declared.fault.Failed.{Failed}
use Rattle.shelf_model.specs.File.{File, firm_file, IsLeft}
use Rattle.shelf_model.specs.Folder.{Folder, Image, file_in, bytes_in, IsImage}
use Rattle.shelf_model.specs.World.{Moment, World, now, file}
use Rattle.shelf_model.specs.Calls.{Told}
use Rattle.shelf_model.specs.Moments.{Ran}
use Rattle.shelf_model.proofs.Numbers.{other_part}
use Rattle.shelf_model.proofs.Runs.{run_on, ran_weakens, ran_end}
use Rattle.catalogue.specs.Files.{job_file, job_gate, catalogue, step_gate}
use Rattle.catalogue.specs.Counts.{is_stored}
use Rattle.file_writes.specs.Writes.{Growing, Replacing}
use Rattle.file_writes.proofs.Sure.{sure_bytes}
use Rattle.catalogue.specs.Commits.{IsReady}
use Rattle.catalogue.specs.Standings.{without_budget, IsJobFile, IsStored, IsUnstored, OnlyJobFiles, DuringStore, IsAttached}
use Rattle.catalogue.proofs.Counted.{has_count, ready_counts, job_gate_not_step_gate}

pub job_gate_not_job_file : job_gate ≢ job_file
job_gate_not_job_file = other_part job_gate job_file (λ e. omega (arith, e))

pub step_gate_not_job_file : step_gate ≢ job_file
step_gate_not_job_file = other_part step_gate job_file (λ e. omega (arith, e))

pub step_gate_not_job_gate : step_gate ≢ job_gate
step_gate_not_job_gate = other_part step_gate job_gate (λ e. omega (arith, e))

pub job_file_not_job_gate : job_file ≢ job_gate
job_file_not_job_gate = other_part job_file job_gate (λ e. omega (arith, e))

pub catalogue_not_job_file : catalogue ≢ job_file
catalogue_not_job_file = other_part catalogue job_file (λ e. omega (arith, e))

-- an empty gate stores nothing
pub not_stored : (r : FileNo → List ℕ) → length (r job_gate) ≤ 0 → is_stored r ≡ false
not_stored r short = le-ltb 0 (length (r job_gate)) short

-- where the job gate is empty for sure, no image has a job
unstored_image : (most : ℕ) (folder : Folder) (image : Image) → file_in folder job_gate ≡ firm_file [] → (file_in folder step_gate).reach ≤ most → IsImage folder image → IsUnstored most (bytes_in image)
unstored_image most folder image gate reach is_image = record {
  unstored = let none : length (bytes_in image job_gate) ≡ 0 = ap length (sure_bytes job_gate [] folder image gate is_image) in not_stored (bytes_in image) (omega arith);
  gate = let left : IsLeft (file_in folder step_gate) (bytes_in image step_gate) = is_image step_gate in
      let no_longer : length (bytes_in image step_gate) ≤ (file_in folder step_gate).reach = left.no_longer in
      omega arith;
}

-- the gate of steps was emptied, and the job gate is empty
pub record IsCleared (old m : Moment) : Type 0 where
  pub others : OnlyJobFiles old m
  pub gate : file_in m.folder job_gate ≡ firm_file []
  pub steps : file_in m.folder step_gate ≡ firm_file []

-- the job is sure, and both gates are empty
pub record IsWritten (job : List ℕ) (old m : Moment) : Type 0 where
  pub cleared : IsCleared old m
  pub job_is : file_in m.folder job_file ≡ firm_file job

-- while the gate of steps is emptied
clearing : (job : List ℕ) (old m : Moment) → file_in old.folder job_gate ≡ firm_file [] → Replacing step_gate 0 0 old m → DuringStore job (file_in old.folder step_gate).reach old m
clearing job old m unstored replacing = record {
  others = λ q not_job not_gate not_steps. replacing.others q not_steps;
  images = λ image is_image. inl (unstored_image (file_in old.folder step_gate).reach m.folder image
      (replacing.others job_gate job_gate_not_step_gate ∙ unstored)
      (let reach : (file_in m.folder step_gate).reach ≤ max (file_in old.folder step_gate).reach (0 + 0) = replacing.reach in omega arith) is_image);
}

-- while the job is written
writing : (job : List ℕ) (most n : ℕ) (old mid m : Moment) → IsCleared old mid → Replacing job_file 0 n mid m → DuringStore job most old m
writing job most n old mid m cleared replacing = record {
  others = λ q not_job not_gate not_steps. replacing.others q not_job ∙ cleared.others q not_job not_gate not_steps;
  images = λ image is_image. inl (unstored_image most m.folder image (replacing.others job_gate job_gate_not_job_file ∙ cleared.gate)
      (let reach : (file_in m.folder step_gate).reach ≡ 0 = ap (λ (x : File). x.reach) (replacing.others step_gate step_gate_not_job_file ∙ cleared.steps) in omega arith) is_image);
}

-- while the job gate grows
opening_image : (job : List ℕ) (most : ℕ) (old mid m : Moment) (image : Image) → IsWritten job old mid → Growing job_gate 1 mid m → IsImage m.folder image
    → IsUnstored most (bytes_in image) ⊎ IsStored job 0 (bytes_in image)
opening_image job most old mid m image written growing is_image =
    let steps : bytes_in image step_gate ≡ [] = sure_bytes step_gate [] m.folder image (growing.others step_gate step_gate_not_job_gate ∙ written.cleared.steps) is_image in
    let none : length (bytes_in image step_gate) ≡ 0 = ap length steps in
    elim (cases_lt 0 (length (bytes_in image job_gate))) [
      | inl stored ↦ inr (record {
        job_is = ap without_budget (sure_bytes job_file job m.folder image (growing.others job_file job_file_not_job_gate ∙ written.job_is) is_image);
        counts = has_count 0 (bytes_in image) stored none;
      })
      | inr short ↦ inl (record { unstored = not_stored (bytes_in image) short; gate = omega arith })
    ]

opening : (job : List ℕ) (most : ℕ) (old mid m : Moment) → IsWritten job old mid → Growing job_gate 1 mid m → DuringStore job most old m
opening job most old mid m written growing = record {
  others = λ q not_job not_gate not_steps. growing.others q not_gate ∙ written.cleared.others q not_job not_gate not_steps;
  images = λ image is_image. opening_image job most old mid m image written growing is_image;
}

-- a folder whose job is sure and that is ready for step n has both in every image
pub attached : (job bytes : List ℕ) (n : ℕ) (folder : Folder) → IsReady n folder → file_in folder job_file ≡ firm_file bytes → IsJobFile job bytes → IsAttached job n folder
attached job bytes n folder ready sure is = record {
  ready = ready;
  job_sure = sure ∙ ap (λ (x : File). firm_file x.bytes) (sym sure);
  job_is = ap (λ (x : File). without_budget x.bytes) sure ∙ is;
  images = λ image is_image. record { job_is = ap without_budget (sure_bytes job_file bytes folder image sure is_image) ∙ is; counts = ready_counts n folder image ready is_image };
}

-- the job gate is sure with one byte
stored_whole : (job : List ℕ) (old mid m : Moment) → IsWritten job old mid → Growing job_gate 1 mid m → file_in m.folder job_gate ≡ firm_file ((file_in mid.folder job_gate).bytes ++ 0 ∷ []) → IsAttached job 0 m.folder
stored_whole job old mid m written growing gate =
    let steps : file_in m.folder step_gate ≡ firm_file [] = growing.others step_gate step_gate_not_job_gate ∙ written.cleared.steps in
    let gate_is : file_in m.folder job_gate ≡ firm_file (0 ∷ []) = gate ∙ ap (λ (x : File). firm_file (x.bytes ++ 0 ∷ [])) written.cleared.gate in
    attached job job 0 m.folder (record {
      stored = let firm : (file_in m.folder job_gate).firm ≡ 1 = ap (λ (x : File). x.firm) gate_is in omega arith;
      gate = steps ∙ ap (λ (x : File). firm_file x.bytes) (sym steps);
      count = ap (λ (x : File). length x.bytes) steps;
      covers = omega arith;
    }) (growing.others job_file job_file_not_job_gate ∙ written.job_is) refl

-- the run up to the emptied gate of steps
pub cleared_so_far : {S : Type 0} (tells : S → Bool) (world : S → World) (job : List ℕ) (old s : S) → (IsTrue (tells old) → file (world old) job_gate ≡ firm_file [])
    → Told tells old s (Ran (Replacing step_gate 0 0 (now (world old))) (world old) (world s)) → (IsTrue (tells s) → file (world s) step_gate ≡ firm_file [])
    → Told tells old s (Ran (DuringStore job (file (world old) step_gate).reach (now (world old))) (world old) (world s) × IsCleared (now (world old)) (now (world s)))
cleared_so_far tells world job old s unstored cut is = record {
  before = cut.before;
  did = λ tells_new.
      let none : file (world old) job_gate ≡ firm_file [] = unstored (cut.before tells_new) in
      let run = cut.did tells_new in
      let end : Replacing step_gate 0 0 (now (world old)) (now (world s)) = ran_end (world old) (world s) (Replacing step_gate 0 0 (now (world old))) run in (
        ran_weakens (world old) (world s) (Replacing step_gate 0 0 (now (world old))) (DuringStore job (file (world old) step_gate).reach (now (world old))) (λ m replacing. clearing job (now (world old)) m none replacing) run,
        record {
          others = λ q not_job not_gate not_steps. end.others q not_steps;
          gate = end.others job_gate job_gate_not_step_gate ∙ none;
          steps = is tells_new;
        },
      );
}

-- up to the written job, whether it was all written or not
pub writing_so_far : {S : Type 0} (tells : S → Bool) (world : S → World) (job : List ℕ) (most n : ℕ) (old s t : S)
    → Told tells old s (Ran (DuringStore job most (now (world old))) (world old) (world s) × IsCleared (now (world old)) (now (world s)))
    → Told tells s t (Ran (Replacing job_file 0 n (now (world s))) (world s) (world t))
    → Told tells old t (Ran (DuringStore job most (now (world old))) (world old) (world t) × IsCleared (now (world old)) (now (world t)))
writing_so_far tells world job most n old s t so_far writes =
    run_on tells world (DuringStore job most (now (world old))) (Replacing job_file 0 n (now (world s)))
    (λ w. IsCleared (now (world old)) (now w)) (λ w. IsCleared (now (world old)) (now w)) old s t so_far writes
    (λ tells_old cleared m replacing. writing job most n (now (world old)) (now (world s)) m cleared replacing)
    (λ tells_old cleared replacing. record {
      others = λ q not_job not_gate not_steps. replacing.others q not_job ∙ cleared.others q not_job not_gate not_steps;
      gate = replacing.others job_gate job_gate_not_job_file ∙ cleared.gate;
      steps = replacing.others step_gate step_gate_not_job_file ∙ cleared.steps;
    })

written_so_far : {S : Type 0} (tells : S → Bool) (world : S → World) (job : List ℕ) (P : Type 0) (old t : S) → Told tells old t (P × IsCleared (now (world old)) (now (world t)))
    → (IsTrue (tells t) → file (world t) job_file ≡ firm_file job) → Told tells old t (P × IsWritten job (now (world old)) (now (world t)))
written_so_far tells world job P old t so_far is = record {
  before = so_far.before;
  did = λ tells_new. let both = so_far.did tells_new in (both.0, record { cleared = both.1; job_is = is tells_new });
}

-- up to the job gate
pub stores : {S : Type 0} (tells : S → Bool) (world : S → World) (job : List ℕ) (most : ℕ) (old s t : S)
    → Told tells old s (Ran (DuringStore job most (now (world old))) (world old) (world s) × IsCleared (now (world old)) (now (world s)))
    → (IsTrue (tells s) → file (world s) job_file ≡ firm_file job)
    → Told tells s t (Ran (Growing job_gate 1 (now (world s))) (world s) (world t))
    → Told tells old t (Ran (DuringStore job most (now (world old))) (world old) (world t) × Growing job_gate 1 (now (world s)) (now (world t)))
stores tells world job most old s t so_far is grows =
    run_on tells world (DuringStore job most (now (world old))) (Growing job_gate 1 (now (world s)))
    (λ w. IsWritten job (now (world old)) (now (world s))) (λ w. Growing job_gate 1 (now (world s)) (now w)) old s t
    (written_so_far tells world job (Ran (DuringStore job most (now (world old))) (world old) (world s)) old s so_far is) grows
    (λ tells_old written m growing. opening job most (now (world old)) (now (world s)) m written growing)
    (λ tells_old written growing. growing)

pub store_ok : {S : Type 0} (tells : S → Bool) (world : S → World) (job : List ℕ) (P : Type 0) (result : Result Unit Failed) (old s t : S)
    → Told tells old s (P × IsCleared (now (world old)) (now (world s))) → (IsTrue (tells s) → file (world s) job_file ≡ firm_file job)
    → Told tells s t (Ran (Growing job_gate 1 (now (world s))) (world s) (world t))
    → OnOk result (IsTrue (tells t) → file (world t) job_gate ≡ firm_file ((file (world s) job_gate).bytes ++ 0 ∷ []))
    → OnOk result (IsTrue (tells t) → IsAttached job 0 (now (world t)).folder)
store_ok tells world job P (Ok x) old s t so_far is grows gate = λ tells_new.
    let tells_mid : IsTrue (tells s) = grows.before tells_new in
    let written = written_so_far tells world job P old s so_far is in
    stored_whole job (now (world old)) (now (world s)) (now (world t)) (written.did tells_mid).1
    (ran_end (world s) (world t) (Growing job_gate 1 (now (world s))) (grows.did tells_new)) (gate tells_new)
store_ok tells world job P (Err e) old s t so_far is grows gate = tt
