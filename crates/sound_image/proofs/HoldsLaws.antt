-- A folder that holds a job's first steps has only sound images, and the other way round.
use Rattle.std.proofs.Common.{◌≡◌, ◌∙◌, ℕ, zero, suc, ◌+◌, ◌-◌, ◌*◌, ◌<◌, ◌≤◌, min, List, length, take, drop, refl, sym, ap, subst, inl, inr, arith}
use Rattle.std.specs.Prelude.{IsTrue}
use Rattle.std.proofs.lemmas.List.{take-take, length-take, length-take-le, length-drop, drop-take}
use Rattle.bool_tables.specs.Plans.{is_live}
use Rattle.shelf_model.specs.declared.file_no.FileNo.{FileNo}
use Rattle.shelf_model.specs.File.{File, firm_file, IsLeft, IsKept}
use Rattle.shelf_model.specs.Folder.{Folder, Image, file_in, bytes_in, IsImage, AreFiles}
use Rattle.shelf_model.proofs.Files.{only_image, same_image, kept_left}
use Rattle.shelf_model.proofs.Images.{chosen, each_left, shortest_left, standing_left, standing_image}
use Rattle.catalogue.specs.declared.layout.Entry.{Entry}
use Rattle.catalogue.specs.Files.{job_file, catalogue}
use Rattle.catalogue.specs.Counts.{entry_at, HasCount}
use Rattle.catalogue.specs.Commits.{IsReady}
use Rattle.catalogue.specs.Entries.{entry_bytes}
use Rattle.catalogue.specs.Standings.{without_budget}
use Rattle.catalogue.proofs.Counted.{ready_counts}
use Rattle.catalogue.proofs.Places.{length_entry}
use Rattle.sound_image.specs.Files.{node_file}
use Rattle.canon_file.specs.Laws.{HasForm}
use Rattle.sound_image.specs.Jobs.{Job, table_at, file_of}
use Rattle.sound_image.specs.Entries.{IsEntryOfStep}
use Rattle.sound_image.specs.Sound.{ShowsSteps, IsSound, IsResumableAt}
use Rattle.sound_image.proofs.Resuming.{all_sure}
use Rattle.sound_image.specs.Holds.{KeepsEntries, Holds, AreSound, HaveCount}

-- what stands at an entry's place is what its front has there
pub entry_in_front : (k count : ℕ) (front bytes : List ℕ) → length front ≡ 128 * count → k < count → take (length front) bytes ≡ front
    → take 128 (drop (128 * k) bytes) ≡ take 128 (drop (128 * k) front)
entry_in_front k count front bytes size within begins =
    let room : 128 * k + 128 ≤ length front = omega (arith, size, within) in
    sym (drop-take (128 * k) 128 bytes) ∙ ap (drop (128 * k)) (sym (take-take (128 * k + 128) (length front) bytes room))
    ∙ ap (λ xs. drop (128 * k) (take (128 * k + 128) xs)) begins ∙ drop-take (128 * k) 128 front

-- each image has the bytes of a file that is sure
pub sure_image : (folder : Folder) (image : Image) (f : FileNo) (x : File) → file_in folder f ≡ x → x ≡ firm_file x.bytes → IsImage folder image
    → bytes_in image f ≡ x.bytes
sure_image folder image f x is sure is_image =
    only_image x.bytes (bytes_in image f) (same_image folder image f (firm_file x.bytes) (is ∙ sure) is_image)

-- each image of a folder that holds so many steps has their count
pub holds_count : (job : Job) (count : ℕ) (folder : Folder) → Holds job count folder → HaveCount count folder
holds_count job count folder holds image is_image = (ready_counts count folder image holds.ready is_image).count

-- an image with so many steps is sound, where it has their entries, their diagrams are sure, and a run can go on
pub sound_with : (job : Job) (count : ℕ) (folder : Folder) (image : Image) → IsImage folder image → file_in folder job_file ≡ firm_file (file_in folder job_file).bytes
    → without_budget (file_in folder job_file).bytes ≡ job.bytes → HasCount count (bytes_in image) → count ≤ length job.steps → IsResumableAt job count (bytes_in image)
    → ((k : ℕ) → k < count → (e : Entry) × IsEntryOfStep job k e × (entry_at k (bytes_in image) ≡ entry_bytes e))
    → ((s : ℕ) → IsTrue (is_live (take count job.steps) s) → (file_in folder (node_file s) ≡ firm_file (file_of job s)) × HasForm job.n (table_at job s))
    → IsSound job (bytes_in image)
sound_with job count folder image is_image job_sure job_is counted few resumes entries diagrams = record {
  shown = inr (record {
    stored = counted.stored;
    job_is = ap without_budget (sure_image folder image job_file (file_in folder job_file) refl job_sure is_image) ∙ job_is;
    few = subst (λ c. c ≤ length job.steps) (sym counted.count) few;
    entries = λ k within. entries k (subst (λ c. k < c) counted.count within);
    files = λ s live. only_image (file_of job s) (bytes_in image (node_file s))
        (same_image folder image (node_file s) (firm_file (file_of job s)) (diagrams s (subst (λ c. IsTrue (is_live (take c job.steps) s)) counted.count live)).0 is_image);
    forms = λ s live. (diagrams s (subst (λ c. IsTrue (is_live (take c job.steps) s)) counted.count live)).1;
  });
  resumable = record {
    unstored = λ none. absurd (let stored = counted.stored in cc);
    goes_on = subst (λ c. IsResumableAt job c (bytes_in image)) (sym counted.count) resumes;
  };
}

-- an image of a folder that keeps the entries of so many steps has each of them
pub kept_entries : (job : Job) (count k : ℕ) (old m : Folder) (image : Image) (keeps : KeepsEntries job count old) → IsKept keeps.front (file_in m catalogue) → IsImage m image → k < count
    → (e : Entry) × IsEntryOfStep job k e × (entry_at k (bytes_in image) ≡ entry_bytes e)
kept_entries job count k old m image keeps kept is_image within =
    let found : (e : Entry) × IsEntryOfStep job k e × (take 128 (drop (128 * k) keeps.front) ≡ entry_bytes e) = keeps.each k within in
    let begins : take (length keeps.front) (bytes_in image catalogue) ≡ keeps.front = kept_left keeps.front (file_in m catalogue) (bytes_in image catalogue) kept (is_image catalogue) in
    (found.0, found.1, entry_in_front k count keeps.front (bytes_in image catalogue) keeps.size within begins ∙ found.2)

-- and each image is sound
pub holds_sound : (job : Job) (count : ℕ) (folder : Folder) → Holds job count folder → AreSound job folder
holds_sound job count folder holds image is_image =
    sound_with job count folder image is_image holds.job_sure holds.job_is (ready_counts count folder image holds.ready is_image) holds.few (holds.resumable image is_image)
    (λ k within. kept_entries job count k folder folder image holds.entries holds.entries.kept is_image within)
    (λ s live. (holds.files s live, holds.forms s live))

-- the other way: where each image is sound and has one count, and the job is attached, the folder holds so many steps
module _ (job : Job) (count : ℕ) (folder : Folder) (files : AreFiles folder) (ready : IsReady count folder) (sound : AreSound job folder) where
  counts : HaveCount count folder
  counts image is_image = (ready_counts count folder image ready is_image).count

  shows : (image : Image) → IsImage folder image → ShowsSteps job (bytes_in image)
  shows image is_image = elim (sound image is_image).shown [
    | inl unstored ↦ absurd (let stored = (ready_counts count folder image ready is_image).stored in let none = unstored.0 in cc)
    | inr shown ↦ shown
  ]

  -- the entries that a stop leaves at least
  front_is : List ℕ
  front_is = take (128 * count) (file_in folder catalogue).bytes

  entry_there : (bytes : List ℕ) (k : ℕ) → (e : Entry) × IsEntryOfStep job k e × (take 128 (drop (128 * k) bytes) ≡ entry_bytes e) → 128 * (k + 1) ≤ length bytes
  entry_there bytes k found =
      let long : length (take 128 (drop (128 * k) bytes)) ≡ 128 = ap length found.2 ∙ length_entry found.0 found.1.entry_is.fits in
      let counted : length (take 128 (drop (128 * k) bytes)) ≡ min 128 (length bytes - 128 * k) = simp (length-take, length-drop) in
      omega (arith, long, counted)

  -- what a stop leaves of the catalogue has every entry
  abbrev EntriesIn : List ℕ → Type 0
  EntriesIn left = (k : ℕ) → k < count → (e : Entry) × IsEntryOfStep job k e × (take 128 (drop (128 * k) left) ≡ entry_bytes e)

  each_catalogue : (left : List ℕ) → IsLeft (file_in folder catalogue) left → EntriesIn left
  each_catalogue = each_left folder catalogue EntriesIn files (λ image is_image k within.
      (shows image is_image).entries k (subst (λ c. k < c) (sym (counts image is_image)) within))

  firm_covers : 128 * count ≤ (file_in folder catalogue).firm
  firm_covers =
      let shortest : List ℕ = take (file_in folder catalogue).firm (file_in folder catalogue).bytes in
      let there : EntriesIn shortest = each_catalogue shortest (shortest_left (file_in folder catalogue) (files catalogue)) in
      let short : length shortest ≡ (file_in folder catalogue).firm =
      length-take-le (file_in folder catalogue).firm (file_in folder catalogue).bytes (files catalogue).firm_within in
      covered count shortest there ((file_in folder catalogue).firm) short
    where
      covered : (n : ℕ) (xs : List ℕ) → ((k : ℕ) → k < n → (e : Entry) × IsEntryOfStep job k e × (take 128 (drop (128 * k) xs) ≡ entry_bytes e))
          → (firm : ℕ) → length xs ≡ firm → 128 * n ≤ firm
      covered zero xs there firm size = omega arith
      covered (suc n) xs there firm size = let long : 128 * (n + 1) ≤ length xs = entry_there xs n (there n (omega arith)) in omega (arith, long, size)

  keeps : KeepsEntries job count folder
  unfolding front_is
  keeps =
      let x : File = file_in folder catalogue in
      let within : 128 * count ≤ length x.bytes = let a = firm_covers in let b = (files catalogue).firm_within in omega (arith, a, b) in
      let size : length (take (128 * count) x.bytes) ≡ 128 * count = length-take-le (128 * count) x.bytes within in
      let there : EntriesIn x.bytes = each_catalogue x.bytes (standing_left x (files catalogue)) in
      record {
        front = take (128 * count) x.bytes;
        size = size;
        kept = record {
          sure = subst (λ c. c ≤ x.firm) (sym size) firm_covers;
          same = ap (λ c. take c x.bytes) size;
        };
        each = λ k below.
            let found : (e : Entry) × IsEntryOfStep job k e × (take 128 (drop (128 * k) x.bytes) ≡ entry_bytes e) = there k below in
            (found.0, found.1, sym (entry_in_front k count (take (128 * count) x.bytes) x.bytes size below (ap (λ c. take c x.bytes) size)) ∙ found.2);
      }

  pub held : file_in folder job_file ≡ firm_file (file_in folder job_file).bytes → without_budget (file_in folder job_file).bytes ≡ job.bytes
      → Holds job count folder
  held job_sure job_is = record {
    job_sure = job_sure;
    job_is = job_is;
    ready = ready;
    few = let image : Image = chosen (λ _ x. x.bytes) folder in
        subst (λ c. c ≤ length job.steps) (counts image (standing_image folder files)) (shows image (standing_image folder files)).few;
    entries = keeps;
    files = λ s live. all_sure folder files (node_file s) (file_of job s) (λ image is_image.
        (shows image is_image).files s (subst (λ c. IsTrue (is_live (take c job.steps) s)) (sym (counts image is_image)) live));
    forms = λ s live. let image : Image = chosen (λ _ x. x.bytes) folder in
        (shows image (standing_image folder files)).forms s
        (subst (λ c. IsTrue (is_live (take c job.steps) s)) (sym (counts image (standing_image folder files))) live);
    resumable = λ image is_image. subst (λ c. IsResumableAt job c (bytes_in image)) (counts image is_image) (sound image is_image).resumable.goes_on;
  }
