-- What is made sure while it is found how far a step has come, and what that leaves.
use Rattle.std.proofs.Common.{◌≡◌, ℕ, ◌+◌, ◌-◌, ◌*◌, ◌/◌, ◌^◌, ◌<◌, ◌≤◌, Bool, List, length, take, drop, get_or, refl, sym, ap, subst, ◌∙◌, inl, inr, arith}
use Rattle.std.specs.Prelude.{IsTrue, All, Result, Ok, Option, Some, None, IfSome}
use Rattle.std.specs.Int.{w64, to_be_bytes, from_be_bytes}
use Rattle.std.proofs.lemmas.Nat.{from_be_bytes-to_be_bytes_8}
use Rattle.shelf_model.specs.declared.file_no.FileNo.{FileNo}
use Rattle.shelf_model.specs.declared.fault.Failed.{Failed}
use Rattle.shelf_model.specs.declared.fault.StreamFault.TheVariants.{Damaged}
use Rattle.shelf_model.specs.File.{IsLeft}
use Rattle.shelf_model.specs.Folder.{file_in, bytes_in, IsImage, AreFiles}
use Rattle.shelf_model.specs.World.{Moment, World, now}
use Rattle.shelf_model.specs.Calls.{Told, Synced}
use Rattle.shelf_model.specs.Moments.{Ran, Stays}
use Rattle.shelf_model.proofs.Images.{sure_left, length_is_all}
use Rattle.shelf_model.proofs.Runs.{told, told_then, ran_end, ran_joins, ran_weakens}
use Rattle.file_numbers.specs.Files.{checkpoint_file, checkpoint_gate}
use Rattle.file_writes.proofs.Sure.{sure_bytes}
use Rattle.run_tiers.specs.declared.run.Run.{Run}
use Rattle.run_tiers.specs.Syncs.{IsFirm, OnlySynced, RunsSynced}
use Rattle.run_tiers.proofs.SyncLaws.{same_or_firm_bytes, firm_stays, synced_one, synced_then, synced_more}
use Rattle.sweep_core.specs.declared.checkpoint.Checkpoint.{Checkpoint}
use Rattle.sweep_checkpoint.specs.Points.{used_bytes, Fits}
use Rattle.sweep_checkpoint.specs.Rules.{KeepsRules, IsPointOf}
use Rattle.sweep_checkpoint.specs.Gated.{present, last_of, last_gated, gated_place}
use Rattle.sweep_checkpoint.specs.Loads.{DuringLoad, Tells, IsLoaded}
use Rattle.sweep_checkpoint.specs.Saves.{IsGateSure}
use Rattle.step_going.specs.Found.{IsPaid, IsOf, IsSurePart, IsSureRun, AreSecured, IsSecuredFor, IsFound, DuringFind, IsFindFault}

-- too many parts were taken for the turns, as it is computed
many_parts : (c : Checkpoint) → 512 + c.turns / 16 < c.next_part → ¬ (IsPaid c)
many_parts c many paid = omega (arith, many, paid)

-- the bytes of a checkpoint tell its turns and its next part, and so whether few parts were taken
turns_in : (c : Checkpoint) → take 8 (drop 16 (used_bytes c)) ≡ to_be_bytes w64 c.turns
unfolding used_bytes
turns_in c = refl

next_in : (c : Checkpoint) → take 8 (drop 24 (used_bytes c)) ≡ to_be_bytes w64 c.next_part
unfolding used_bytes
next_in c = refl

same_word : (x y : ℕ) → x < 2 ^ 64 → y < 2 ^ 64 → to_be_bytes w64 x ≡ to_be_bytes w64 y → x ≡ y
same_word x y a b same = sym (from_be_bytes-to_be_bytes_8 x a) ∙ ap (from_be_bytes w64) same ∙ from_be_bytes-to_be_bytes_8 y b

same_paid : (c d : Checkpoint) → Fits c → Fits d → used_bytes c ≡ used_bytes d → IsPaid c → IsPaid d
same_paid c d fits_c fits_d same paid =
    let turns : c.turns ≡ d.turns = same_word c.turns d.turns (fits_c.words 2 0 (omega arith)) (fits_d.words 2 0 (omega arith))
    (sym (turns_in c) ∙ ap (λ bytes. take 8 (drop 16 bytes)) same ∙ turns_in d) in
    let next : c.next_part ≡ d.next_part = same_word c.next_part d.next_part (fits_c.words 3 0 (omega arith)) (fits_d.words 3 0 (omega arith))
    (sym (next_in c) ∙ ap (λ bytes. take 8 (drop 24 bytes)) same ∙ next_in d) in
    omega (arith, turns, next, paid)

-- what was sure of a file stays so while files are made sure
sure_on : (step part n : ℕ) (old new : World) → RunsSynced n (IsOf step) old new → IsSurePart step old part → IsSurePart step new part
sure_on step part n old new done sure =
    let f : FileNo = record { step = step; part = part } in
    firm_stays (IsOf step) f (now old) (now new) (ran_end old new (OnlySynced (IsOf step) (now old)) done.run f) sure

pub all_sure_on : (step n : ℕ) (parts : List ℕ) (old new : World) → RunsSynced n (IsOf step) old new → All (IsSurePart step old) parts → All (IsSurePart step new) parts
all_sure_on step n parts old new done sure k d within = sure_on step (get_or parts k d) n old new done (sure k d within)

pub runs_sure_on : (step n : ℕ) (table : List Run) (old new : World) → RunsSynced n (IsOf step) old new → All (IsSureRun step old) table → All (IsSureRun step new) table
runs_sure_on step n table old new done sure k d within from = sure_on step (get_or table k d).part n old new done (sure k d within from)

pub tables_sure_on : (step n : ℕ) (tables : List (List Run)) (old new : World) → RunsSynced n (IsOf step) old new → All (All (IsSureRun step old)) tables → All (All (IsSureRun step new)) tables
tables_sure_on step n tables old new done sure k d within = runs_sure_on step n (get_or tables k d) old new done (sure k d within)

-- a file that was synced is sure
pub sure_one : (step part : ℕ) (old new : World) → Synced (record { step = step; part = part }) (Ok tt) old new → IsSurePart step new part
sure_one step part old new did = subst IsFirm (sym did.ok) refl

-- synced files of the step
module _ {S : Type 0} (tells : S → Bool) (world : S → World) (step : ℕ) where
  pub some_synced : (m n : ℕ) (old s t : S) → Told tells old s (RunsSynced m (IsOf step) (world old) (world s)) → Told tells s t (RunsSynced n (IsOf step) (world s) (world t))
      → Told tells old t (RunsSynced (m + n) (IsOf step) (world old) (world t))
  some_synced m n old s t so_far call =
      told_then tells old s t _ _ _ so_far call (λ _ first second. synced_then (IsOf step) (IsOf step) m n (world old) (world s) (world t) (λ f is. is) first second)

  pub one_synced : (part : ℕ) (result : Result Unit Failed) (s t : S) → Told tells s t (Synced (record { step = step; part = part }) result (world s) (world t))
      → Told tells s t (RunsSynced 1 (IsOf step) (world s) (world t))
  one_synced part result s t call =
      told tells s t _ _ call (λ _ did. synced_one (IsOf step) (record { step = step; part = part }) result (world s) (world t) refl did)

  pub at_most : (m n : ℕ) (old s : S) → m ≤ n → Told tells old s (RunsSynced m (IsOf step) (world old) (world s)) → Told tells old s (RunsSynced n (IsOf step) (world old) (world s))
  at_most m n old s few so_far = told tells old s _ _ so_far (λ _ done. synced_more (IsOf step) m n (world old) (world s) few done)

  -- a table more
  pub table_synced : (k : ℕ) (table : List Run) (old s t : S) → length table ≡ 64 → Told tells old s (RunsSynced (64 * k) (IsOf step) (world old) (world s))
      → Told tells s t (RunsSynced (length table) (IsOf step) (world s) (world t)) → Told tells old t (RunsSynced (64 * (k + 1)) (IsOf step) (world old) (world t))
  table_synced k table old s t whole so_far call =
      at_most (64 * k + length table) (64 * (k + 1)) old t (omega (arith, whole)) (some_synced (64 * k) (length table) old s t so_far call)

-- the same of moments: files of the step are made sure
find_synced : (step : ℕ) (old m : Moment) → AreFiles old.folder → OnlySynced (IsOf step) old m → DuringFind step old m
find_synced step old m are_files only = record {
  others = λ f differ. elim (only f) [
    | inl same ↦ same
    | inr (is, firm) ↦ absurd (differ is)
  ];
  reads = λ f. same_or_firm_bytes (IsOf step) f old m (only f);
  images = λ image is_image f. elim (only f) [
    | inl same ↦ subst (λ x. IsLeft x (bytes_in image f)) same (is_image f)
    | inr (is, firm) ↦ sure_left (file_in old.folder f) (bytes_in image f) (are_files f) (subst (λ x. IsLeft x (bytes_in image f)) firm (is_image f))
  ];
}

-- while the last checkpoint is loaded
find_loading : (step : ℕ) (old m : Moment) → DuringLoad step old m → DuringFind step old m
find_loading step old m during = record {
  others = λ f differ. during.others f (λ same. differ (ap (λ (g : FileNo). g.step) same));
  reads = during.reads;
  images = during.images;
}

-- while the files stay
find_staying : (step : ℕ) (old m : Moment) → Stays old m → DuringFind step old m
find_staying step old m stays = record {
  others = λ f differ. ap (λ folder. file_in folder f) stays;
  reads = λ f. ap (λ folder. (file_in folder f).bytes) stays;
  images = λ image is_image. subst (λ folder. IsImage folder image) stays is_image;
}

find_then : (step : ℕ) (old mid m : Moment) → DuringFind step old mid → DuringFind step mid m → DuringFind step old m
find_then step old mid m first second = record {
  others = λ f differ. second.others f differ ∙ first.others f differ;
  reads = λ f. second.reads f ∙ first.reads f;
  images = λ image is_image. first.images image (second.images image is_image);
}

-- the gate that was sure stays so
gate_stays : (step : ℕ) (old m : Moment) → AreFiles m.folder → DuringFind step old m → IsGateSure step old.folder → IsGateSure step m.folder
gate_stays step old m are_files during sure =
    let gate : FileNo = checkpoint_gate step in
    (length_is_all m.folder gate (length (file_in old.folder gate).bytes) are_files
    (λ image is_image. ap length (sure_bytes gate (file_in old.folder gate).bytes old.folder image sure (during.images image is_image)))).0

-- and so is what is gated last
last_stays : (step : ℕ) (old new : FileNo → List ℕ) → ((f : FileNo) → new f ≡ old f) → last_gated step new ≡ last_gated step old
last_stays step old new same = λ i. last_of (length (same (checkpoint_gate step) i)) (same (checkpoint_file step) i)

-- what was loaded is found, where it is sure now
found_then : (step : ℕ) (old m : Moment) (found : Option Checkpoint) → AreFiles m.folder → DuringFind step old m → IsLoaded step old.folder found
    → IsSecuredFor step m.folder found → IsFound step m.folder found
found_then step old m found are_files during loaded sure = record {
  gate = gate_stays step old m are_files during loaded.sure;
  last = subst (λ bytes. Tells step bytes found) (sym (last_stays step (present old.folder) (present m.folder) during.reads)) loaded.last;
  secured = sure;
}

-- what was loaded stands in its bytes
loaded_bytes : (step : ℕ) (o : Option (List ℕ)) (c : Checkpoint) → Tells step o (Some c) → (bytes : List ℕ) × (o ≡ Some bytes) × IsPointOf step bytes c
loaded_bytes step None c told = absurd told
loaded_bytes step (Some bytes) c told = (bytes, refl, told)

-- too many parts were taken for the turns
part_fault : (step : ℕ) (r : FileNo → List ℕ) (f : FileNo) (at : ℕ) (c : Checkpoint) → f ≡ checkpoint_file step → at ≡ gated_place step r → Tells step (last_gated step r) (Some c)
    → ¬ (IsPaid c) → IsFindFault step r (Damaged f at)
part_fault step r f at c file place told many =
    let stands = loaded_bytes step (last_gated step r) c told in (
      file,
      place,
      (stands.0, stands.1, λ d is paid. many (same_paid d c is.fits stands.2.fits (sym is.used ∙ stands.2.used) paid)),
    )

-- a checkpoint that was loaded is of the step
loaded_step : (step : ℕ) (found : Option Checkpoint) (c : Checkpoint) → found ≡ Some c → IfSome found (KeepsRules step) → c.step ≡ step
loaded_step step found c is rules = (subst (λ o. IfSome o (KeepsRules step)) is rules).step_is

module _ {S : Type 0} (tells : S → Bool) (world : S → World) (step : ℕ) where
  -- the last checkpoint was loaded
  pub find_loaded : (old s : S) → Told tells old s (Ran (DuringLoad step (now (world old))) (world old) (world s)) → Told tells old s (Ran (DuringFind step (now (world old))) (world old) (world s))
  find_loaded old s call = told tells old s _ _ call (λ _ run.
      ran_weakens (world old) (world s) (DuringLoad step (now (world old))) (DuringFind step (now (world old))) (find_loading step (now (world old))) run)

  -- one after the other
  find_on : (old s t : S) → Told tells old s (Ran (DuringFind step (now (world old))) (world old) (world s)) → Told tells s t (Ran (DuringFind step (now (world s))) (world s) (world t))
      → Told tells old t (Ran (DuringFind step (now (world old))) (world old) (world t))
  find_on old s t so_far call = told_then tells old s t _ _ _ so_far call (λ _ first second.
      ran_joins (world old) (world s) (world t) (DuringFind step (now (world old))) first
      (ran_weakens (world s) (world t) (DuringFind step (now (world s))) (DuringFind step (now (world old)))
      (λ m. find_then step (now (world old)) (now (world s)) m (ran_end (world old) (world s) (DuringFind step (now (world old))) first)) second))

  -- then the files stayed
  pub find_stayed : (old s t : S) → Told tells old s (Ran (DuringFind step (now (world old))) (world old) (world s)) → Told tells s t (Ran (Stays (now (world s))) (world s) (world t))
      → Told tells old t (Ran (DuringFind step (now (world old))) (world old) (world t))
  find_stayed old s t so_far call = find_on old s t so_far (told tells s t _ _ call (λ _ run.
      ran_weakens (world s) (world t) (Stays (now (world s))) (DuringFind step (now (world s))) (find_staying step (now (world s))) run))

  -- the files of a checkpoint that was loaded are made sure
  pub find_secured : (found : Option Checkpoint) (c : Checkpoint) (old s t : S) → found ≡ Some c → IfSome found (KeepsRules step)
      → Told tells old s (Ran (DuringFind step (now (world old))) (world old) (world s))
      → Told tells s t (Ran (DuringFind c.step (now (world s))) (world s) (world t)) → Told tells old t (Ran (DuringFind step (now (world old))) (world old) (world t))
  find_secured found c old s t is rules so_far call =
      find_on old s t so_far (subst (λ k. Told tells s t (Ran (DuringFind k (now (world s))) (world s) (world t))) (loaded_step step found c is rules) call)

  -- what was loaded has too many parts
  pub too_many : (f : FileNo) (at : ℕ) (found : Option Checkpoint) (c : Checkpoint) (old s t : S) → found ≡ Some c → Told tells old s (Ran (DuringLoad step (now (world old))) (world old) (world s))
      → (IsTrue (tells s) → IsLoaded step (now (world s)).folder found) → f ≡ checkpoint_file step → Told tells s t (Ran (Stays (now (world s))) (world s) (world t))
      → (IsTrue (tells t) → at ≡ gated_place step (present (now (world s)).folder)) → 512 + c.turns / 16 < c.next_part → IsTrue (tells t)
      → IsFindFault step (present (now (world old)).folder) (Damaged f at)
  too_many f at found c old s t is run loaded file asked place many tells_new =
      let tells_mid : IsTrue (tells s) = asked.before tells_new in
      let during : DuringLoad step (now (world old)) (now (world s)) = ran_end (world old) (world s) (DuringLoad step (now (world old))) (run.did tells_mid) in
      let before : FileNo → List ℕ = present (now (world old)).folder in
      let after : FileNo → List ℕ = present (now (world s)).folder in
      part_fault step before f at c file
      (place tells_new ∙ ap (λ bytes. 16384 * (length bytes - 1)) (during.reads (checkpoint_gate step)))
      (subst (λ o. Tells step o (Some c)) (last_stays step before after during.reads) (subst (λ o. Tells step (last_gated step after) o) is (loaded tells_mid).last))
      (many_parts c many)

module _ {S : Type 0} (tells : S → Bool) (world : S → World) (step : ℕ) (files : (x : S) → IsTrue (tells x) → AreFiles (now (world x)).folder) where
  -- files of the step were made sure
  pub find_sure : (n : ℕ) (old s : S) → Told tells old s (RunsSynced n (IsOf step) (world old) (world s)) → Told tells old s (Ran (DuringFind step (now (world old))) (world old) (world s))
  find_sure n old s call = told tells old s _ _ call (λ tells_old done.
      ran_weakens (world old) (world s) (OnlySynced (IsOf step) (now (world old))) (DuringFind step (now (world old)))
      (λ m only. find_synced step (now (world old)) m (files old tells_old) only) done.run)

  -- and what was loaded is found
  pub found_secured : (found : Option Checkpoint) (c : Checkpoint) (s t : S) → found ≡ Some c → IfSome found (KeepsRules step)
      → (IsTrue (tells s) → IsLoaded step (now (world s)).folder found)
      → Told tells s t (Ran (DuringFind c.step (now (world s))) (world s) (world t)) → (IsTrue (tells t) → AreSecured c.step (now (world t)).folder c)
      → IsTrue (tells t) → IsFound step (now (world t)).folder (Some c)
  found_secured found c s t is rules loaded call sure tells_new =
      let same : c.step ≡ step = loaded_step step found c is rules in
      found_then step (now (world s)) (now (world t)) (Some c) (files t tells_new)
      (subst (λ k. DuringFind k (now (world s)) (now (world t))) same (ran_end (world s) (world t) (DuringFind c.step (now (world s))) (call.did tells_new)))
      (subst (IsLoaded step (now (world s)).folder) is (loaded (call.before tells_new))) (subst (λ k. AreSecured k (now (world t)).folder c) same (sure tells_new))
