-- What is answered of a job that is stored.
use Rattle.std.proofs.Common.{◌≡◌, ◌≢◌, ◌⊎◌, ℕ, ◌*◌, ◌/◌, ◌<◌, ◌≤◌, Bool, true, false, cond, ltb, List, length, refl, sym, ap, ap₂, subst, ◌∙◌, inl, inr, arith}
use Rattle.std.specs.Prelude.{IsTrue, Result, Ok, Err, IfOk, nat_eq, bytes_eq}
use Rattle.std.specs.List.{common_prefix_len}
use Rattle.std.proofs.lemmas.Bool.{lt-ltb, ltb-false}
use Rattle.std.proofs.lemmas.Slice.Eq.{bytes_eq-Decides}
use Rattle.shelf_model.specs.declared.file_no.FileNo.{FileNo}
use Rattle.shelf_model.specs.File.{File, firm_file}
use Rattle.shelf_model.specs.Folder.{Folder, file_in}
use Rattle.shelf_model.specs.World.{Moment, World, now, file}
use Rattle.shelf_model.specs.Calls.{Synced, Measured}
use Rattle.shelf_model.specs.Moments.{Stays}
use Rattle.file_writes.proofs.Sure.{synced_reads}
use Rattle.catalogue.specs.declared.fault.AttachFault.{AttachFault}
use Rattle.catalogue.specs.declared.fault.AttachFault.TheVariants.{Shelf, Damaged, OtherJob}
use Rattle.catalogue.specs.declared.standing.Standing.{Standing}
use Rattle.catalogue.specs.Files.{job_file, job_gate, catalogue, step_gate}
use Rattle.catalogue.specs.Counts.{present, is_stored}
use Rattle.catalogue.specs.Standings.{without_budget, IsJobFile, standing_of, counted_standing, counted_or, AreGatesSure, IsAttached}
use Rattle.catalogue.proofs.Budget.{length-without_budget}
use Rattle.catalogue.proofs.Shared.{same_from_shared, shared_self}
use Rattle.catalogue.proofs.Stored.{attached, job_gate_not_job_file, step_gate_not_job_file, catalogue_not_job_file}

-- the answer where a job is stored
of_stored : (job : List ℕ) (steps : ℕ) (r : FileNo → List ℕ) (same : Bool) → is_stored r ≡ true → bytes_eq (without_budget (r job_file)) (without_budget job) ≡ same
    → standing_of job steps r ≡ cond same (counted_standing steps (length (r step_gate)) (length (r catalogue))) (Err (OtherJob (common_prefix_len nat_eq (without_budget (r job_file)) (without_budget job))))
of_stored job steps r same stored is =
    ap (λ b. cond b (cond (bytes_eq (without_budget (r job_file)) (without_budget job)) (counted_standing steps (length (r step_gate)) (length (r catalogue)))
    (Err (OtherJob (common_prefix_len nat_eq (without_budget (r job_file)) (without_budget job))))) (Ok (record { fresh = true; done = 0 }))) stored
    ∙ ap (λ b. cond b (counted_standing steps (length (r step_gate)) (length (r catalogue))) (Err (OtherJob (common_prefix_len nat_eq (without_budget (r job_file)) (without_budget job))))) is

-- another job
differs : (xs job : List ℕ) (same size : ℕ) → size ≡ length xs → same ≡ common_prefix_len nat_eq xs job → (same ≢ size) ⊎ ((same ≡ size) × (size ≢ length job)) → (b : Bool) → bytes_eq xs job ≡ b → bytes_eq xs job ≡ false
differs xs job same size all is other true e =
    let equal : xs ≡ job = (bytes_eq-Decides xs job).0 e in
    let whole : common_prefix_len nat_eq xs job ≡ length xs = ap (common_prefix_len nat_eq xs) (sym equal) ∙ shared_self xs in
    let even : length xs ≡ length job = ap length equal in
    elim other [
      | inl shorter ↦ absurd (shorter (omega arith))
      | inr longer ↦ absurd (longer.1 (omega arith))
    ]
differs xs job same size all is other false e = e

pub refused : (job : List ℕ) (steps same size : ℕ) (r : FileNo → List ℕ) → IsTrue (is_stored r) → size ≡ length (r job_file) → same ≡ common_prefix_len nat_eq (without_budget (r job_file)) (without_budget job) → (same ≢ size) ⊎ ((same ≡ size) × (size ≢ length job))
    → ◌≡◌ {A = Result Standing AttachFault} (Err (OtherJob same)) (standing_of job steps r)
refused job steps same size r stored all is other =
    let long : length (without_budget (r job_file)) ≡ length (r job_file) = length-without_budget (r job_file) in
    let job_long : length (without_budget job) ≡ length job = length-without_budget job in
    let other_lists : (same ≢ size) ⊎ ((same ≡ size) × (size ≢ length (without_budget job))) = subst (λ n. (same ≢ size) ⊎ ((same ≡ size) × (size ≢ n))) (sym job_long) other in
    ap (λ n. Err (OtherJob n)) is ∙ sym (of_stored job steps r false stored
    (differs (without_budget (r job_file)) (without_budget job) same size (all ∙ sym long) is other_lists (bytes_eq (without_budget (r job_file)) (without_budget job)) refl))

-- this job
pub this_job : (job xs : List ℕ) (same size : ℕ) → size ≡ length xs → same ≡ common_prefix_len nat_eq (without_budget xs) (without_budget job) → same ≡ size → size ≡ length job → IsJobFile job xs
this_job job xs same size all is whole even =
    let long : length (without_budget xs) ≡ length xs = length-without_budget xs in
    same_from_shared (without_budget xs) (without_budget job) (omega arith) (length-without_budget job ∙ sym even ∙ all ∙ sym long)

pub resumes : (job : List ℕ) (steps : ℕ) (r : FileNo → List ℕ) → IsTrue (is_stored r) → IsJobFile job (r job_file) → standing_of job steps r ≡ counted_standing steps (length (r step_gate)) (length (r catalogue))
resumes job steps r stored same = of_stored job steps r true stored ((bytes_eq-Decides (without_budget (r job_file)) (without_budget job)).1 same)

-- where the answer is Ok it is the count, and the catalogue covers it
covered : {E : Type 0} (damaged : FileNo → ℕ → E) (done size : ℕ) (s : Standing) (short : Bool) → ltb size (128 * done) ≡ short
    → ◌≡◌ {A = Result Standing E} (Ok s) (cond short (Err (damaged catalogue (128 * (size / 128)))) (Ok (record { fresh = false; done = done }))) → (s ≡ record { fresh = false; done = done }) × (128 * done ≤ size)
covered damaged done size s true is answer = absurd cc
covered damaged done size s false is answer = (cc, ltb-false size (128 * done) is)

counted : {E : Type 0} (damaged : FileNo → ℕ → E) (steps done size : ℕ) (s : Standing) (past : Bool)
    → ◌≡◌ {A = Result Standing E} (Ok s) (cond past (Err (damaged step_gate steps)) (cond (ltb size (128 * done)) (Err (damaged catalogue (128 * (size / 128)))) (Ok (record { fresh = false; done = done }))))
    → (s ≡ record { fresh = false; done = done }) × (128 * done ≤ size)
counted damaged steps done size s true answer = absurd cc
counted damaged steps done size s false answer = covered damaged done size s (ltb size (128 * done)) refl answer

pub counted_ok : {E : Type 0} (damaged : FileNo → ℕ → E) (steps done size : ℕ) (s : Standing) → Ok s ≡ counted_or damaged steps done size → (s ≡ record { fresh = false; done = done }) × (128 * done ≤ size)
counted_ok damaged steps done size s answer = counted damaged steps done size s (ltb steps done) answer

-- the folder after the job was made sure
pub resumed_ready : (job : List ℕ) (n : ℕ) (w v : World) → AreGatesSure (now w).folder → 0 < length (file w job_gate).bytes → Synced job_file (Ok tt) w v → IsJobFile job (file w job_file).bytes
    → n ≡ length (file w step_gate).bytes → 128 * n ≤ length (file w catalogue).bytes → IsAttached job n (now v).folder
resumed_ready job n w v sure stored did same count covers =
    let gate : file v job_gate ≡ firm_file (file w job_gate).bytes = did.others job_gate job_gate_not_job_file ∙ sure.job in
    let steps : file v step_gate ≡ firm_file (file w step_gate).bytes = did.others step_gate step_gate_not_job_file ∙ sure.steps in
    attached job (file w job_file).bytes n (now v).folder (record {
      stored = let firm : (file v job_gate).firm ≡ length (file w job_gate).bytes = ap (λ (x : File). x.firm) gate in omega arith;
      gate = steps ∙ ap (λ (x : File). firm_file x.bytes) (sym steps);
      count = ap (λ (x : File). length x.bytes) steps ∙ sym count;
      covers = subst (λ (x : File). 128 * n ≤ length x.bytes) (sym (did.others catalogue catalogue_not_job_file)) covers;
    }) did.ok same

-- the stored job is this one and was made sure, and its steps were counted
pub record HasResumed (job : List ℕ) (steps : ℕ) (result : Result Standing AttachFault) (w v x : World) : Type 0 where
  pub sure : AreGatesSure (now w).folder
  pub stored : 0 < length (file w job_gate).bytes
  pub synced : Synced job_file (Ok tt) w v
  pub same : IsJobFile job (file w job_file).bytes
  pub stays : (now x).folder ≡ (now v).folder
  pub answer : result ≢ Err Shelf → result ≡ counted_standing steps (length (file w step_gate).bytes) (length (file w catalogue).bytes)

pub resume_ok : (job : List ℕ) (steps : ℕ) (told : Type 0) (result : Result Standing AttachFault) (w v x : World) → (told → HasResumed job steps result w v x)
    → IfOk result (λ s. told → IsAttached job s.done (now x).folder)
resume_ok job steps told (Ok s) w v x resumed = λ tells.
    let has : HasResumed job steps (Ok s) w v x = resumed tells in
    let both = counted_ok Damaged steps (length (file w step_gate).bytes) (length (file w catalogue).bytes) s (has.answer (λ e. cc)) in
    let count : s.done ≡ length (file w step_gate).bytes = ap (λ (x : Standing). x.done) both.0 in
    let covers : 128 * length (file w step_gate).bytes ≤ length (file w catalogue).bytes = both.1 in
    subst (IsAttached job s.done) (sym has.stays) (resumed_ready job s.done w v has.sure has.stored has.synced has.same count (omega arith))
resume_ok job steps told (Err e) w v x resumed = tt

-- a folder as it is read, from its start: the job was made sure and measured, and then only read
pub record HasRead (w u : World) (size : ℕ) : Type 0 where
  pub reads : (q : FileNo) → (file u q).bytes ≡ (file w q).bytes
  pub measured : size ≡ length (file w job_file).bytes

pub has_read : (w v t u : World) (size : ℕ) → Synced job_file (Ok tt) w v → Measured job_file (Ok size) v t → Stays (now t) (now u) → HasRead w u size
has_read w v t u size synced measured stays = record {
  reads = λ q. ap (λ folder. (file_in folder q).bytes) stays ∙ ap (λ (m : Moment). (file_in m.folder q).bytes) measured.same ∙ synced_reads job_file q (Ok tt) w v synced;
  measured = measured.ok ∙ ap length (synced_reads job_file job_file (Ok tt) w v synced);
}

pub still_shared : (w v t : World) (same size : ℕ) (job : List ℕ) → Synced job_file (Ok tt) w v → Measured job_file (Ok size) v t → same ≡ common_prefix_len nat_eq (without_budget (file t job_file).bytes) (without_budget job)
    → same ≡ common_prefix_len nat_eq (without_budget (file w job_file).bytes) (without_budget job)
still_shared w v t same size job synced measured is =
    is ∙ ap (λ xs. common_prefix_len nat_eq (without_budget xs) (without_budget job)) (ap (λ (m : Moment). (file_in m.folder job_file).bytes) measured.same ∙ synced_reads job_file job_file (Ok tt) w v synced)

pub is_gated : (folder : Folder) → 0 < length (file_in folder job_gate).bytes → IsTrue (is_stored (present folder))
is_gated folder stored = lt-ltb 0 (length (file_in folder job_gate).bytes) stored

-- the answer of a folder whose files read as they did
pub resumed_answer : (job : List ℕ) (steps size : ℕ) (w u : World) → IsTrue (is_stored (present (now w).folder)) → IsJobFile job (file w job_file).bytes → HasRead w u size
    → counted_standing steps (length (file u step_gate).bytes) (length (file u catalogue).bytes) ≡ standing_of job steps (present (now w).folder)
resumed_answer job steps size w u stored same read =
    ap₂ (λ xs ys. counted_standing steps (length xs) (length ys)) (read.reads step_gate) (read.reads catalogue) ∙ sym (resumes job steps (present (now w).folder) stored same)

pub counted_before : (steps size : ℕ) (w u : World) → HasRead w u size
    → counted_standing steps (length (file u step_gate).bytes) (length (file u catalogue).bytes) ≡ counted_standing steps (length (file w step_gate).bytes) (length (file w catalogue).bytes)
counted_before steps size w u read = ap₂ (λ xs ys. counted_standing steps (length xs) (length ys)) (read.reads step_gate) (read.reads catalogue)
