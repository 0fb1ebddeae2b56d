-- What is known of a folder that was looked at.
use Rattle.std.proofs.Common.{◌≡◌, ◌≢◌, ℕ, ◌<◌, ◌≤◌, true, false, cond, List, length, refl, sym, ap, subst, arith}
use Rattle.std.specs.Prelude.{Result, Ok, Err, IfOk}
use Rattle.shelf_model.specs.declared.file_no.FileNo.{FileNo}
use Rattle.shelf_model.specs.declared.fault.StreamFault.{StreamFault}
use Rattle.shelf_model.specs.declared.fault.StreamFault.TheVariants.{Shelf, Damaged}
use Rattle.shelf_model.specs.Folder.{Folder, file_in, bytes_in}
use Rattle.file_writes.proofs.Sure.{sure_bytes}
use Rattle.catalogue.specs.declared.standing.Standing.{Standing}
use Rattle.catalogue.specs.Files.{job_gate, catalogue, step_gate}
use Rattle.catalogue.specs.Counts.{present, is_stored}
use Rattle.catalogue.specs.Standings.{counted_or, most_steps, AreGatesSure, ShowsStanding, IsLooked}
use Rattle.catalogue.proofs.Counted.{has_count}
use Rattle.catalogue.proofs.Stored.{not_stored}
use Rattle.catalogue.proofs.Resumed.{counted_ok}

-- no job is stored
shows_none : (r : FileNo → List ℕ) → length (r job_gate) ≤ 0 → ShowsStanding (record { fresh = true; done = 0 }) r
shows_none r short =
    let none : is_stored r ≡ false = not_stored r short in
    record { stored = none; count = ap (λ b. cond b (length (r step_gate)) 0) none }

-- a job is stored, and so many steps are committed
shows_count : (done : ℕ) (r : FileNo → List ℕ) → 0 < length (r job_gate) → length (r step_gate) ≡ done → ShowsStanding (record { fresh = false; done = done }) r
shows_count done r stored count = let has = has_count done r stored count in record { stored = has.stored; count = has.count }

-- a folder without a job
pub looked_fresh : (folder : Folder) → AreGatesSure folder → length (file_in folder job_gate).bytes ≡ 0 → IsLooked (record { fresh = true; done = 0 }) folder
looked_fresh folder sure none = record {
  reads = shows_none (present folder) (omega arith);
  covers = omega arith;
  images = λ image is_image. shows_none (bytes_in image) (let gate : length (bytes_in image job_gate) ≡ length (file_in folder job_gate).bytes = ap length (sure_bytes job_gate (file_in folder job_gate).bytes folder image sure.job is_image) in omega arith);
}

-- and one with a job, whose steps were counted
looked_counted : (folder : Folder) (s : Standing) → AreGatesSure folder → 0 < length (file_in folder job_gate).bytes
    → Ok s ≡ counted_or Damaged most_steps (length (file_in folder step_gate).bytes) (length (file_in folder catalogue).bytes) → IsLooked s folder
looked_counted folder s sure stored answer =
    let done : ℕ = length (file_in folder step_gate).bytes in
    let both = counted_ok Damaged most_steps done (length (file_in folder catalogue).bytes) s answer in
    subst (λ x. IsLooked x folder) (sym both.0) (record {
      reads = shows_count done (present folder) stored refl;
      covers = both.1;
      images = λ image is_image.
          let gate : length (bytes_in image job_gate) ≡ length (file_in folder job_gate).bytes = ap length (sure_bytes job_gate (file_in folder job_gate).bytes folder image sure.job is_image) in
          let steps : length (bytes_in image step_gate) ≡ done = ap length (sure_bytes step_gate (file_in folder step_gate).bytes folder image sure.steps is_image) in
          shows_count done (bytes_in image) (omega arith) steps;
    })

-- the gates are sure, a job is stored, and its steps were counted
pub record HasCounted (result : Result Standing StreamFault) (old new : Folder) : Type 0 where
  pub sure : AreGatesSure old
  pub stored : 0 < length (file_in old job_gate).bytes
  pub stays : new ≡ old
  pub answer : result ≢ Err Shelf → result ≡ counted_or Damaged most_steps (length (file_in old step_gate).bytes) (length (file_in old catalogue).bytes)

pub look_ok : (told : Type 0) (result : Result Standing StreamFault) (old new : Folder) → (told → HasCounted result old new) → IfOk result (λ s. told → IsLooked s new)
look_ok told (Ok s) old new counted = λ tells.
    let has : HasCounted (Ok s) old new = counted tells in
    subst (IsLooked s) (sym has.stays) (looked_counted old s has.sure has.stored (has.answer (λ e. cc)))
look_ok told (Err e) old new counted = tt
