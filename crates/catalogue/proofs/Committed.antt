-- The commit of one step: its entry is put, and it alone waits.
use Rattle.std.proofs.Common.{◌≡◌, ◌⊎◌, ℕ, ◌+◌, ◌*◌, ◌≤◌, Bool, List, ◌++◌, length, take, drop, sym, ap, subst, ◌∙◌, inl, inr, arith}
use Rattle.std.specs.Prelude.{IsTrue, Result, Ok, Err, OnOk}
use Rattle.std.proofs.lemmas.Bool.{cases_lt}
use Rattle.shelf_model.specs.declared.file_no.FileNo.{FileNo}
use Rattle.shelf_model.specs.declared.fault.Failed.{Failed}
use Rattle.shelf_model.specs.File.{firm_file, IsKept}
use Rattle.shelf_model.specs.Folder.{Folder, file_in, bytes_in}
use Rattle.shelf_model.specs.World.{Moment, World, now}
use Rattle.shelf_model.specs.Calls.{Told}
use Rattle.shelf_model.specs.Moments.{Ran}
use Rattle.shelf_model.proofs.Files.{kept_all}
use Rattle.shelf_model.proofs.Runs.{told, ran_joins, ran_weakens, ran_end}
use Rattle.catalogue.specs.declared.layout.Entry.{Entry}
use Rattle.catalogue.specs.Entries.{entry_bytes}
use Rattle.catalogue.specs.Files.{catalogue}
use Rattle.catalogue.specs.Counts.{HasCount}
use Rattle.catalogue.specs.Commits.{IsReady, IsCounted, DuringCommit, IsCommitted, DuringPut, IsPut, IsCountedWithin, DuringCommits, AreCommitted}
use Rattle.catalogue.proofs.Counted.{same_entries}
use Rattle.catalogue.proofs.Waiting.{put_entry_at}

-- while the entry is put the step isn't committed
pub putting_commits : (e : Entry) (old m : Moment) → DuringPut e.number e old m → DuringCommit e old m
putting_commits e old m during = record {
  others = λ q not_catalogue not_gate. during.others q not_catalogue;
  images = λ image is_image. inl (during.images image is_image);
  kept = during.kept;
  reads = during.reads;
}

-- an image in which the entry that waits is counted has it in its place
counted_one : (e : Entry) (old : Moment) (mid : Moment) (r : FileNo → List ℕ) → 128 * e.number ≤ length (file_in old.folder catalogue).bytes → IsPut e.number e old.folder mid.folder
    → IsCountedWithin e.number 1 (file_in mid.folder catalogue).bytes r → HasCount e.number r ⊎ IsCounted e r
counted_one e old mid r covers put counted = elim (cases_lt e.number counted.count) [
  | inl more ↦
      let one : counted.count ≡ e.number + 1 = let most : counted.count ≤ e.number + 1 = counted.most in omega (arith, more, most) in
      inr (record {
        counts = subst (λ n. HasCount n r) one counted.counts;
        placed = same_entries e.number counted.count (r catalogue) (file_in mid.folder catalogue).bytes more (counted.placed more)
            ∙ put_entry_at e.number e old.folder mid.folder covers put;
      })
  | inr same ↦
      let none : counted.count ≡ e.number = let least : e.number ≤ counted.count = counted.least in omega (arith, same, least) in
      inl (subst (λ n. HasCount n r) none counted.counts)
]

-- while the gate grows
pub counting_commits : (e : Entry) (old mid m : Moment) → IsReady e.number old.folder → DuringPut e.number e old mid → IsPut e.number e old.folder mid.folder → DuringCommits e.number 1 mid m → DuringCommit e old m
counting_commits e old mid m ready putting put during = record {
  others = λ q not_catalogue not_gate. during.others q not_catalogue not_gate ∙ putting.others q not_catalogue;
  images = λ image is_image. counted_one e old mid (bytes_in image) ready.covers put (during.images image is_image);
  kept = λ front behind kept. during.kept front (putting.kept front behind kept);
  reads = ap (take (128 * e.number)) during.reads ∙ putting.reads;
}

-- then it is committed
one_committed : (e : Entry) (old mid new : Folder) → 128 * e.number ≤ length (file_in old catalogue).bytes → IsPut e.number e old mid → AreCommitted e.number 1 mid new → IsCommitted e old new
one_committed e old mid new covers put done =
    let entries : file_in new catalogue ≡ firm_file (take (128 * e.number) (file_in old catalogue).bytes ++ entry_bytes e) = done.catalogue_is ∙ ap firm_file put.catalogue_is in
    record {
      ready = done.ready;
      images = λ image is_image. record {
        counts = (done.images image is_image).0;
        placed = ap (λ bytes. take 128 (drop (128 * e.number) bytes)) (done.images image is_image).1 ∙ put_entry_at e.number e old mid covers put;
      };
      catalogue_is = entries;
      kept = λ front long kept.
          let same : take (128 * e.number) (file_in old catalogue).bytes ≡ front = ap (λ k. take k (file_in old catalogue).bytes) (sym long) ∙ kept.same in
          subst (IsKept (front ++ entry_bytes e)) (ap (λ xs. firm_file (xs ++ entry_bytes e)) (sym same) ∙ sym entries) (kept_all (front ++ entry_bytes e));
    }

module _ {S : Type 0} (tells : S → Bool) (world : S → World) (e : Entry) where
  pub commit_put : (old s : S) → Told tells old s (Ran (DuringPut e.number e (now (world old))) (world old) (world s)) → Told tells old s (Ran (DuringCommit e (now (world old))) (world old) (world s))
  commit_put old s put =
      told tells old s _ _ put
      (λ _ run. ran_weakens (world old) (world s) (DuringPut e.number e (now (world old))) (DuringCommit e (now (world old))) (putting_commits e (now (world old))) run)

  pub commit_counted : (old s t : S) → (IsTrue (tells old) → IsReady e.number (now (world old)).folder) → Told tells old s (Ran (DuringPut e.number e (now (world old))) (world old) (world s))
      → (IsTrue (tells s) → IsPut e.number e (now (world old)).folder (now (world s)).folder) → Told tells s t (Ran (DuringCommits e.number 1 (now (world s))) (world s) (world t))
      → Told tells old t (Ran (DuringCommit e (now (world old))) (world old) (world t))
  commit_counted old s t ready put is_put counts = record {
    before = λ tells_new. put.before (counts.before tells_new);
    did = λ tells_new.
        let tells_mid : IsTrue (tells s) = counts.before tells_new in
        let run = put.did tells_mid in
        ran_joins (world old) (world s) (world t) (DuringCommit e (now (world old)))
        (ran_weakens (world old) (world s) (DuringPut e.number e (now (world old))) (DuringCommit e (now (world old))) (putting_commits e (now (world old))) run)
        (ran_weakens (world s) (world t) (DuringCommits e.number 1 (now (world s))) (DuringCommit e (now (world old)))
        (λ m during. counting_commits e (now (world old)) (now (world s)) m (ready (put.before tells_mid)) (ran_end (world old) (world s) (DuringPut e.number e (now (world old))) run) (is_put tells_mid) during)
        (counts.did tells_new));
  }

  pub commit_ok : (result : Result Unit Failed) (old s t : S) → (IsTrue (tells old) → IsReady e.number (now (world old)).folder) → Told tells old s (Ran (DuringPut e.number e (now (world old))) (world old) (world s))
      → (IsTrue (tells s) → IsPut e.number e (now (world old)).folder (now (world s)).folder) → Told tells s t (Ran (DuringCommits e.number 1 (now (world s))) (world s) (world t))
      → OnOk result (IsTrue (tells t) → AreCommitted e.number 1 (now (world s)).folder (now (world t)).folder)
      → OnOk result (IsTrue (tells t) → IsCommitted e (now (world old)).folder (now (world t)).folder)
  commit_ok (Ok x) old s t ready put is_put counts done = λ tells_new.
      let tells_mid : IsTrue (tells s) = counts.before tells_new in
      one_committed e (now (world old)).folder (now (world s)).folder (now (world t)).folder (ready (put.before tells_mid)).covers (is_put tells_mid) (done tells_new)
  commit_ok (Err f) old s t ready put is_put counts done = tt
