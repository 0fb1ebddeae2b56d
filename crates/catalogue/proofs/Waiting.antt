-- Entries that are put behind the committed steps, and the commit of all that wait.
use Rattle.std.proofs.Common.{◌≡◌, ℕ, ◌+◌, ◌*◌, ◌<◌, ◌≤◌, min, Bool, List, ◌++◌, length, take, replicate, refl, sym, ap, subst, ◌∙◌, arith}
use Rattle.std.specs.Prelude.{IsTrue, Result, Ok, Err, OnOk}
use Rattle.std.proofs.lemmas.List.{length-take, length-append, length-replicate}
use Rattle.shelf_model.specs.declared.fault.Failed.{Failed}
use Rattle.shelf_model.specs.File.{File, firm_file, IsKept}
use Rattle.shelf_model.specs.Folder.{Folder, Image, file_in, bytes_in, IsImage}
use Rattle.shelf_model.specs.World.{Moment, World, now, file}
use Rattle.shelf_model.specs.Calls.{Told, Appended, WasCut, Synced}
use Rattle.shelf_model.specs.Moments.{Ran}
use Rattle.shelf_model.proofs.Files.{kept_sync}
use Rattle.shelf_model.proofs.Runs.{told, told_then, ran_call, ran_joins, ran_weakens, ran_end}
use Rattle.file_writes.specs.Writes.{Growing, Replacing}
use Rattle.file_writes.proofs.Sure.{GrewAtMost, synced_reads, sure_bytes, grown_image}
use Rattle.file_writes.proofs.Written.{CutAway, not_cut, replaced_so_far, grown_once, grown_sure}
use Rattle.catalogue.specs.declared.layout.Entry.{Entry}
use Rattle.catalogue.specs.Entries.{entry_bytes}
use Rattle.catalogue.specs.Files.{job_gate, catalogue, step_gate}
use Rattle.catalogue.specs.Counts.{present, entry_at}
use Rattle.catalogue.specs.Commits.{IsReady, DuringPut, IsPut, IsCountedWithin, DuringCommits, AreCommitted}
use Rattle.catalogue.proofs.Counted.{job_gate_not_catalogue, job_gate_not_step_gate, step_gate_not_catalogue, catalogue_not_step_gate, has_count, sure_stored, gates_count, ready_counts, entry_placed}

-- while an entry is put the gates stand
putting : (committed : ℕ) (e : Entry) (old m : Moment) → IsReady committed old.folder → Replacing catalogue (128 * e.number) 128 old m → DuringPut committed e old m
putting committed e old m ready replacing = record {
  others = replacing.others;
  images = λ image is_image. gates_count committed old.folder m.folder image ready
      (replacing.others job_gate job_gate_not_catalogue) (replacing.others step_gate step_gate_not_catalogue) is_image;
  kept = replacing.kept;
  reads = replacing.reads;
}

-- an entry whose bytes stand in its place is put
is_put : (committed : ℕ) (e : Entry) (old m : Moment) → committed ≤ e.number → 128 * e.number ≤ length (file_in old.folder catalogue).bytes → length (entry_bytes e) ≡ 128
    → IsReady committed old.folder → DuringPut committed e old m → (file_in m.folder catalogue).bytes ≡ take (128 * e.number) (file_in old.folder catalogue).bytes ++ entry_bytes e → IsPut committed e old.folder m.folder
is_put committed e old m behind within whole ready during stands =
    let front : length (take (128 * e.number) (file_in old.folder catalogue).bytes) ≡ min (128 * e.number) (length (file_in old.folder catalogue).bytes) = length-take (128 * e.number) (file_in old.folder catalogue).bytes in
    let both : length (file_in m.folder catalogue).bytes ≡ length (take (128 * e.number) (file_in old.folder catalogue).bytes) + length (entry_bytes e) =
    ap length stands ∙ length-append (take (128 * e.number) (file_in old.folder catalogue).bytes) (entry_bytes e) in
    let long : length (file_in m.folder catalogue).bytes ≡ 128 * (e.number + 1) = omega arith in
    record {
      ready = record {
        stored = subst (λ (x : File). 0 < x.firm) (sym (during.others job_gate job_gate_not_catalogue)) ready.stored;
        gate = subst (λ (x : File). x ≡ firm_file x.bytes) (sym (during.others step_gate step_gate_not_catalogue)) ready.gate;
        count = ap (λ (x : File). length x.bytes) (during.others step_gate step_gate_not_catalogue) ∙ ready.count;
        covers = omega arith;
      };
      catalogue_is = stands;
      size = long;
    }

-- an entry that is put has its 128 bytes
whole_entry : (committed : ℕ) (e : Entry) (old new : Folder) → 128 * e.number ≤ length (file_in old catalogue).bytes → IsPut committed e old new → length (entry_bytes e) ≡ 128
whole_entry committed e old new covers put =
    let front : length (take (128 * e.number) (file_in old catalogue).bytes) ≡ min (128 * e.number) (length (file_in old catalogue).bytes) = length-take (128 * e.number) (file_in old catalogue).bytes in
    let both : length (file_in new catalogue).bytes ≡ length (take (128 * e.number) (file_in old catalogue).bytes) + length (entry_bytes e) =
    ap length put.catalogue_is ∙ length-append (take (128 * e.number) (file_in old catalogue).bytes) (entry_bytes e) in
    let size : length (file_in new catalogue).bytes ≡ 128 * (e.number + 1) = put.size in
    omega arith

-- and is read in its place
pub put_entry_at : (committed : ℕ) (e : Entry) (old new : Folder) → 128 * e.number ≤ length (file_in old catalogue).bytes → IsPut committed e old new → entry_at e.number (present new) ≡ entry_bytes e
put_entry_at committed e old new covers put =
    entry_placed e.number (file_in old catalogue).bytes (entry_bytes e) (present new) covers (whole_entry committed e old new covers put) put.catalogue_is

-- the cut of the catalogue failed
pub put_failed : {S : Type 0} (tells : S → Bool) (world : S → World) (committed : ℕ) (e : Entry) (f : Failed) (old s : S) → (IsTrue (tells old) → IsReady committed (now (world old)).folder)
    → Told tells old s (WasCut catalogue (128 * e.number) (Err f) (world old) (world s)) → Told tells old s (Ran (DuringPut committed e (now (world old))) (world old) (world s))
put_failed tells world committed e f old s ready cut =
    told tells old s _ _ (not_cut tells world catalogue (128 * e.number) 128 f old s cut)
    (λ tells_old run. ran_weakens (world old) (world s) (Replacing catalogue (128 * e.number) 128 (now (world old))) (DuringPut committed e (now (world old)))
    (λ m replacing. putting committed e (now (world old)) m (ready tells_old) replacing) run)

-- a cut, and the entry put behind it
pub put_so_far : {S : Type 0} (tells : S → Bool) (world : S → World) (committed : ℕ) (e : Entry) (bytes : List ℕ) (old s t : S) → length bytes ≡ 128
    → (IsTrue (tells old) → IsReady committed (now (world old)).folder) → (IsTrue (tells old) → 128 * e.number ≤ length (file (world old) catalogue).bytes)
    → Told tells old s (WasCut catalogue (128 * e.number) (Ok tt) (world old) (world s)) → Told tells s t (Ran (Growing catalogue (length bytes) (now (world s))) (world s) (world t))
    → Told tells old t (Ran (DuringPut committed e (now (world old))) (world old) (world t) × CutAway catalogue (128 * e.number) (world old) (world s))
put_so_far tells world committed e bytes old s t whole ready within cut grown =
    told tells old t _ _ (replaced_so_far tells world catalogue (128 * e.number) 128 old s t within cut
    (subst (λ n. Told tells s t (Ran (Growing catalogue n (now (world s))) (world s) (world t))) whole grown))
    (λ tells_old both. (
      ran_weakens (world old) (world t) (Replacing catalogue (128 * e.number) 128 (now (world old))) (DuringPut committed e (now (world old)))
          (λ m replacing. putting committed e (now (world old)) m (ready tells_old) replacing) both.0,
      both.1,
    ))

pub put_ok : {S : Type 0} (tells : S → Bool) (world : S → World) (committed : ℕ) (e : Entry) (bytes : List ℕ) (result : Result Unit Failed) (old s t : S) → bytes ≡ entry_bytes e → length bytes ≡ 128 → committed ≤ e.number
    → (IsTrue (tells old) → IsReady committed (now (world old)).folder) → (IsTrue (tells old) → 128 * e.number ≤ length (file (world old) catalogue).bytes)
    → Told tells old t (Ran (DuringPut committed e (now (world old))) (world old) (world t) × CutAway catalogue (128 * e.number) (world old) (world s))
    → OnOk result (IsTrue (tells t) → (file (world t) catalogue).bytes ≡ (file (world s) catalogue).bytes ++ bytes)
    → OnOk result (IsTrue (tells t) → IsPut committed e (now (world old)).folder (now (world t)).folder)
put_ok tells world committed e bytes (Ok x) old s t same whole behind ready within so_far stands = λ tells_new.
    let tells_old : IsTrue (tells old) = so_far.before tells_new in
    let both = so_far.did tells_new in
    is_put committed e (now (world old)) (now (world t)) behind (within tells_old) (sym (ap length same) ∙ whole) (ready tells_old)
    (ran_end (world old) (world t) (DuringPut committed e (now (world old))) both.0)
    (stands tells_new ∙ ap (λ xs. xs ++ bytes) both.1.bytes_are ∙ ap (λ xs. take (128 * e.number) (file (world old) catalogue).bytes ++ xs) same)
put_ok tells world committed e bytes (Err f) old s t same whole behind ready within so_far stands = tt

-- an image that counts no step that waits
none_more : (committed waiting : ℕ) (old new : Folder) (image : Image) → IsReady committed old → file_in new job_gate ≡ file_in old job_gate → file_in new step_gate ≡ file_in old step_gate → IsImage new image
    → IsCountedWithin committed waiting (file_in old catalogue).bytes (bytes_in image)
none_more committed waiting old new image ready job steps is_image = record {
  count = committed;
  least = omega arith;
  most = omega arith;
  counts = gates_count committed old new image ready job steps is_image;
  placed = λ more. absurd (omega (arith, more));
}

-- before the first call
waiting_here : (committed waiting : ℕ) (m : Moment) → IsReady committed m.folder → DuringCommits committed waiting m m
waiting_here committed waiting m ready = record {
  others = λ q not_catalogue not_gate. refl;
  images = λ image is_image. none_more committed waiting m.folder m.folder image ready refl refl is_image;
  kept = λ front kept. kept;
  reads = refl;
}

-- while the entries are made sure
entries_synced : (committed waiting : ℕ) (result : Result Unit Failed) (w v : World) → IsReady committed (now w).folder → Synced catalogue result w v → DuringCommits committed waiting (now w) (now v)
entries_synced committed waiting result w v ready did = record {
  others = λ q not_catalogue not_gate. did.others q not_catalogue;
  images = λ image is_image. none_more committed waiting (now w).folder (now v).folder image ready
      (did.others job_gate job_gate_not_catalogue) (did.others step_gate step_gate_not_catalogue) is_image;
  kept = λ front kept. kept_sync catalogue result w v front did kept;
  reads = synced_reads catalogue catalogue result w v did;
}

pub waiting_synced : {S : Type 0} (tells : S → Bool) (world : S → World) (committed waiting : ℕ) (result : Result Unit Failed) (old s : S) → (IsTrue (tells old) → IsReady committed (now (world old)).folder)
    → Told tells old s (Synced catalogue result (world old) (world s)) → Told tells old s (Ran (DuringCommits committed waiting (now (world old))) (world old) (world s))
waiting_synced tells world committed waiting result old s ready synced =
    told tells old s _ _ synced (λ tells_old did.
    ran_call (world old) (world s) (DuringCommits committed waiting (now (world old))) did.shelf (waiting_here committed waiting (now (world old)) (ready tells_old))
    (entries_synced committed waiting result (world old) (world s) (ready tells_old) did))

-- while the gate grows all entries are sure
gate_grows : (committed waiting : ℕ) (w v : World) (m : Moment) → IsReady committed (now w).folder → Synced catalogue (Ok tt) w v → Growing step_gate waiting (now v) m → DuringCommits committed waiting (now w) m
gate_grows committed waiting w v m ready did growing = record {
  others = λ q not_catalogue not_gate. growing.others q not_gate ∙ did.others q not_catalogue;
  images = λ image is_image.
      let grew : GrewAtMost waiting (length (file w step_gate).bytes) (length (bytes_in image step_gate)) =
      grown_image step_gate waiting (file w step_gate).bytes (now v) m image (did.others step_gate step_gate_not_catalogue ∙ ready.gate) growing is_image in
      let count : length (file w step_gate).bytes ≡ committed = ready.count in
      let no_shorter : length (file w step_gate).bytes ≤ length (bytes_in image step_gate) = grew.no_shorter in
      let no_longer : length (bytes_in image step_gate) ≤ length (file w step_gate).bytes + waiting = grew.no_longer in
      record {
        count = length (bytes_in image step_gate);
        least = omega arith;
        most = omega arith;
        counts = has_count (length (bytes_in image step_gate)) (bytes_in image)
            (sure_stored job_gate (file w job_gate) m.folder image (growing.others job_gate job_gate_not_step_gate ∙ did.others job_gate job_gate_not_catalogue) ready.stored is_image) refl;
        placed = λ more. ap (take (128 * length (bytes_in image step_gate))) (sure_bytes catalogue (file w catalogue).bytes m.folder image (growing.others catalogue catalogue_not_step_gate ∙ did.ok) is_image);
      };
  kept = λ front kept. subst (IsKept front) (sym (growing.others catalogue catalogue_not_step_gate)) (kept_sync catalogue (Ok tt) w v front did kept);
  reads = ap (λ (x : File). x.bytes) (growing.others catalogue catalogue_not_step_gate) ∙ synced_reads catalogue catalogue (Ok tt) w v did;
}

waiting_grows : {S : Type 0} (tells : S → Bool) (world : S → World) (committed waiting : ℕ) (bytes : List ℕ) (old s t : S) → length bytes ≡ waiting → (IsTrue (tells old) → IsReady committed (now (world old)).folder)
    → Told tells old s (Synced catalogue (Ok tt) (world old) (world s)) → Told tells s t (Ran (Growing step_gate (length bytes) (now (world s))) (world s) (world t))
    → Told tells old t (Ran (DuringCommits committed waiting (now (world old))) (world old) (world t))
waiting_grows tells world committed waiting bytes old s t many ready synced grown =
    let P : Moment → Type 0 = DuringCommits committed waiting (now (world old)) in
    told_then tells old s t (Synced catalogue (Ok tt) (world old) (world s)) (Ran (Growing step_gate waiting (now (world s))) (world s) (world t)) (Ran P (world old) (world t)) synced
    (subst (λ n. Told tells s t (Ran (Growing step_gate n (now (world s))) (world s) (world t))) many grown)
    (λ tells_old did run. ran_joins (world old) (world s) (world t) P
    (ran_call (world old) (world s) P did.shelf (waiting_here committed waiting (now (world old)) (ready tells_old)) (entries_synced committed waiting (Ok tt) (world old) (world s) (ready tells_old) did))
    (ran_weakens (world s) (world t) (Growing step_gate waiting (now (world s))) P (λ m growing. gate_grows committed waiting (world old) (world s) m (ready tells_old) did growing) run))

-- so many bytes 0 are as many as the steps that wait
pub as_many : (waiting : ℕ) → waiting ≤ 1024 → length (take waiting (replicate {A = ℕ} 1024 0)) ≡ waiting
as_many waiting few =
    let front : length (take waiting (replicate {A = ℕ} 1024 0)) ≡ min waiting (length (replicate {A = ℕ} 1024 0)) = length-take waiting (replicate 1024 0) in
    let all : length (replicate {A = ℕ} 1024 0) ≡ 1024 = length-replicate {A = ℕ} 1024 0 in
    omega arith

-- the gate grew, or it didn't
pub waiting_grown : {S : Type 0} (tells : S → Bool) (world : S → World) (committed waiting : ℕ) (bytes : List ℕ) (result : Result Unit Failed) (old s t : S) → length bytes ≡ waiting → (IsTrue (tells old) → IsReady committed (now (world old)).folder)
    → Told tells old s (Synced catalogue (Ok tt) (world old) (world s)) → Told tells s t (Appended step_gate bytes result (world s) (world t))
    → Told tells old t (Ran (DuringCommits committed waiting (now (world old))) (world old) (world t))
waiting_grown tells world committed waiting bytes result old s t many ready synced call =
    waiting_grows tells world committed waiting bytes old s t many ready synced (grown_once tells world step_gate bytes result s t call)

-- and it is made sure
pub waiting_counted : {S : Type 0} (tells : S → Bool) (world : S → World) (committed waiting : ℕ) (bytes : List ℕ) (result : Result Unit Failed) (old s t u : S) → length bytes ≡ waiting → (IsTrue (tells old) → IsReady committed (now (world old)).folder)
    → Told tells old s (Synced catalogue (Ok tt) (world old) (world s)) → Told tells s t (Appended step_gate bytes (Ok tt) (world s) (world t)) → Told tells t u (Synced step_gate result (world t) (world u))
    → Told tells old u (Ran (DuringCommits committed waiting (now (world old))) (world old) (world u))
waiting_counted tells world committed waiting bytes result old s t u many ready synced call sure =
    waiting_grows tells world committed waiting bytes old s u many ready synced (grown_sure tells world step_gate bytes result s t u call sure)

-- then all of them are committed
all_committed : (committed waiting : ℕ) (bytes : List ℕ) (w v x u : World) → length bytes ≡ waiting → IsReady committed (now w).folder → 128 * (committed + waiting) ≤ length (file w catalogue).bytes
    → Synced catalogue (Ok tt) w v → Appended step_gate bytes (Ok tt) v x → Synced step_gate (Ok tt) x u → AreCommitted committed waiting (now w).folder (now u).folder
all_committed committed waiting bytes w v x u many ready within synced call sure =
    let entries : file u catalogue ≡ firm_file (file w catalogue).bytes = sure.others catalogue catalogue_not_step_gate ∙ call.others catalogue catalogue_not_step_gate ∙ synced.ok in
    let job : file u job_gate ≡ file w job_gate = sure.others job_gate job_gate_not_step_gate ∙ call.others job_gate job_gate_not_step_gate ∙ synced.others job_gate job_gate_not_catalogue in
    let before : length (file v step_gate).bytes ≡ committed = ap (λ (y : File). length y.bytes) (synced.others step_gate step_gate_not_catalogue) ∙ ready.count in
    let grown : length (file x step_gate).bytes ≡ length (file v step_gate).bytes + length bytes = ap (λ (y : File). length y.bytes) call.ok ∙ length-append (file v step_gate).bytes bytes in
    let gate : length (file u step_gate).bytes ≡ length (file x step_gate).bytes = ap (λ (y : File). length y.bytes) sure.ok in
    let size : length (file u catalogue).bytes ≡ length (file w catalogue).bytes = ap (λ (y : File). length y.bytes) entries in
    let now_ready : IsReady (committed + waiting) (now u).folder = record {
      stored = subst (λ (y : File). 0 < y.firm) (sym job) ready.stored;
      gate = sure.ok ∙ ap (λ (y : File). firm_file y.bytes) (sym sure.ok);
      count = omega arith;
      covers = omega arith;
    } in
    record {
      ready = now_ready;
      catalogue_is = entries;
      images = λ image is_image. (
        ready_counts (committed + waiting) (now u).folder image now_ready is_image,
        sure_bytes catalogue (file w catalogue).bytes (now u).folder image entries is_image,
      );
    }

pub waiting_ok : {S : Type 0} (tells : S → Bool) (world : S → World) (committed waiting : ℕ) (bytes : List ℕ) (result : Result Unit Failed) (old s t u : S) → length bytes ≡ waiting
    → (IsTrue (tells old) → IsReady committed (now (world old)).folder) → (IsTrue (tells old) → 128 * (committed + waiting) ≤ length (file (world old) catalogue).bytes)
    → Told tells old s (Synced catalogue (Ok tt) (world old) (world s)) → Told tells s t (Appended step_gate bytes (Ok tt) (world s) (world t)) → Told tells t u (Synced step_gate result (world t) (world u))
    → OnOk result (IsTrue (tells u) → AreCommitted committed waiting (now (world old)).folder (now (world u)).folder)
waiting_ok tells world committed waiting bytes (Ok x) old s t u many ready within synced call sure = λ tells_new.
    let tells_two : IsTrue (tells t) = sure.before tells_new in
    let tells_one : IsTrue (tells s) = call.before tells_two in
    let tells_old : IsTrue (tells old) = synced.before tells_one in
    all_committed committed waiting bytes (world old) (world s) (world t) (world u) many (ready tells_old) (within tells_old) (synced.did tells_one) (call.did tells_two) (sure.did tells_new)
waiting_ok tells world committed waiting bytes (Err f) old s t u many ready within synced call sure = tt
