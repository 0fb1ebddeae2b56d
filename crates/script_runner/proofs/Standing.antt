-- What the answer of an attach says of the files.
use Rattle.std.proofs.Common.{◌≡◌, ℕ, ◌*◌, ◌/◌, ◌<◌, ◌≤◌, Bool, true, false, not, cond, List, length, refl, sym, ap, subst, inl, inr, arith}
use Rattle.std.specs.Prelude.{IsTrue, Result, Ok, Err, nat_eq, nat_lt, bytes_eq}
use Rattle.std.specs.List.{common_prefix_len}
use Rattle.std.proofs.lemmas.Slice.Eq.{bytes_eq-Decides}
use Rattle.shelf_model.specs.declared.file_no.FileNo.{FileNo}
use Rattle.catalogue.specs.declared.fault.AttachFault.{AttachFault}
use Rattle.catalogue.specs.declared.fault.AttachFault.TheVariants.{Shelf, Damaged, OtherJob}
use Rattle.catalogue.specs.declared.standing.Standing.{Standing}
use Rattle.catalogue.specs.Files.{job_file, catalogue, step_gate}
use Rattle.catalogue.specs.Counts.{is_stored, count_in}
use Rattle.catalogue.specs.Standings.{without_budget, standing_of, counted_standing}
use Rattle.script_runner.specs.Running.{HasOtherJob, IsDamage}

-- the job that is stored is this one, and so many steps are committed
pub record IsStanding (job : List ℕ) (steps : ℕ) (s : Standing) (r : FileNo → List ℕ) : Type 0 where
  pub fresh : s.fresh ≡ not (is_stored r)
  pub done : s.done ≡ count_in r
  pub few : s.done ≤ steps
  pub same : IsTrue (is_stored r) → without_budget (r job_file) ≡ job

-- the folder stores this job, and is damaged
pub record IsDamaged (job : List ℕ) (steps : ℕ) (f : FileNo) (at : ℕ) (r : FileNo → List ℕ) : Type 0 where
  pub damage : IsDamage steps f at r
  pub same : without_budget (r job_file) ≡ job

-- what each answer says
abbrev pub Says : List ℕ → ℕ → (FileNo → List ℕ) → Result Standing AttachFault → Type 0
Says job steps r (Ok s) = IsStanding job steps s r
Says job steps r (Err Shelf) = Unit
Says job steps r (Err (Damaged f at)) = IsDamaged job steps f at r
Says job steps r (Err (OtherJob at)) = HasOtherJob job at r

counted_says : (job : List ℕ) (steps : ℕ) (r : FileNo → List ℕ) → IsTrue (is_stored r) → without_budget (r job_file) ≡ job
    → Says job steps r (counted_standing steps (length (r step_gate)) (length (r catalogue)))
counted_says job steps r stored same =
    by_gate (nat_lt steps (length (r step_gate))) refl
  where
    count : length (r step_gate) ≡ count_in r
    count = ap (λ b. cond b (length (r step_gate)) 0) (sym stored)

    by_size : length (r step_gate) ≤ steps → (b : Bool) → nat_lt (length (r catalogue)) (128 * length (r step_gate)) ≡ b
        → Says job steps r (cond b (Err (Damaged catalogue (128 * (length (r catalogue) / 128)))) (Ok (record { fresh = false; done = length (r step_gate) })))
    by_size short true e = record {
      damage = record { stored = stored; place = inr (refl, refl, lacks (length (r catalogue)) (length (r step_gate)) e) };
      same = same;
    }
      where
        lacks : (a b : ℕ) → nat_lt a (128 * b) ≡ true → a < 128 * b
        lacks a b h = search (arith, h)
    by_size short false e = record { fresh = ap not (sym stored); done = count; few = short; same = λ _. same }

    by_gate : (b : Bool) → nat_lt steps (length (r step_gate)) ≡ b
        → Says job steps r (cond b (Err (Damaged step_gate steps))
        (cond (nat_lt (length (r catalogue)) (128 * length (r step_gate))) (Err (Damaged catalogue (128 * (length (r catalogue) / 128)))) (Ok (record { fresh = false; done = length (r step_gate) }))))
    by_gate true e = record {
      damage = record { stored = stored; place = inl (refl, refl, longer steps (length (r step_gate)) e) };
      same = same;
    }
      where
        longer : (a b : ℕ) → nat_lt a b ≡ true → a < b
        longer a b h = search (arith, h)
    by_gate false e = by_size (no_longer steps (length (r step_gate)) e) (nat_lt (length (r catalogue)) (128 * length (r step_gate))) refl
      where
        no_longer : (a b : ℕ) → nat_lt a b ≡ false → b ≤ a
        no_longer a b h = search (arith, h)

-- the answer of an attach with these bytes, by the job that they are without their budget
pub standing_says : (given job : List ℕ) → without_budget given ≡ job → (steps : ℕ) (r : FileNo → List ℕ) (result : Result Standing AttachFault)
    → result ≡ standing_of given steps r → Says job steps r result
standing_says given job of_job steps r result answer =
    subst (λ bytes. Says bytes steps r result) of_job (subst (Says (without_budget given) steps r) (sym answer) (by_stored (is_stored r) refl))
  where
    file : List ℕ
    file = without_budget (r job_file)

    this : List ℕ
    this = without_budget given

    by_job : IsTrue (is_stored r) → (b : Bool) → bytes_eq file this ≡ b
        → Says this steps r (cond b (counted_standing steps (length (r step_gate)) (length (r catalogue))) (Err (OtherJob (common_prefix_len nat_eq file this))))
    by_job stored true e = counted_says this steps r stored ((bytes_eq-Decides file this).0 e)
    by_job stored false e = record { is_other = record { stored = stored; other = λ same. (let equal : bytes_eq file this ≡ true = (bytes_eq-Decides file this).1 same in no_both (bytes_eq file this) equal e) }; place = refl }
      where
        no_both : (b : Bool) → b ≡ true → b ≡ false → ⊥
        no_both b x y = cc

    by_stored : (b : Bool) → is_stored r ≡ b
        → Says this steps r (cond b (cond (bytes_eq file this) (counted_standing steps (length (r step_gate)) (length (r catalogue))) (Err (OtherJob (common_prefix_len nat_eq file this))))
        (Ok (record { fresh = true; done = 0 })))
    by_stored true e = by_job e (bytes_eq file this) refl
    by_stored false e = record { fresh = ap not (sym e); done = ap (λ b. cond b (length (r step_gate)) 0) (sym e); few = omega arith; same = λ stored. absurd (no stored e) }
      where
        no : IsTrue (is_stored r) → is_stored r ≡ false → ⊥
        no a b = cc
