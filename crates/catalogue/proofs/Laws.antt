-- What the layers above need of a folder that has a job: when it is ready for a step, and that its entries stay.
use Rattle.std.proofs.Common.{◌≡◌, ℕ, ◌+◌, ◌*◌, ◌<◌, ◌≤◌, min, true, false, cond, ltb, List, length, take, drop, sym, ap, subst, ◌∙◌, inl, inr, arith}
use Rattle.std.specs.Prelude.{IsTrue}
use Rattle.std.proofs.lemmas.Bool.{ltb-true, true≢false}
use Rattle.std.proofs.lemmas.List.{length-take, take-take, drop-take}
use Rattle.shelf_model.specs.declared.file_no.FileNo.{FileNo}
use Rattle.shelf_model.specs.File.{File, firm_file, IsFile, IsLeft, IsKept}
use Rattle.shelf_model.specs.Folder.{Folder, Image, file_in, bytes_in, IsImage, AreFiles}
use Rattle.shelf_model.specs.World.{Moment}
use Rattle.shelf_model.proofs.Files.{kept_left}
use Rattle.shelf_model.proofs.Images.{chosen, bytes_in-chosen, standing_left, standing_image, shortest_left, each_left, length_is_all}
use Rattle.catalogue.specs.Files.{job_gate, catalogue, step_gate}
use Rattle.catalogue.specs.Counts.{count_in, present, is_stored, entry_at, HasCount}
use Rattle.catalogue.specs.declared.layout.Entry.{Entry}
use Rattle.catalogue.specs.Commits.{IsReady, DuringPut, IsCountedWithin, AreCommitted}
use Rattle.catalogue.specs.Standings.{DuringAttach}
use Rattle.catalogue.proofs.Counted.{has_count, same_entries}

-- a folder that has n committed steps in every image, and room for their entries, is ready for the next
pub ready_from_images : (n : ℕ) (folder : Folder) → AreFiles folder → ((image : Image) → IsImage folder image → HasCount n (bytes_in image)) → 128 * n ≤ length (file_in folder catalogue).bytes → IsReady n folder
ready_from_images n folder are_files all covers =
    let gate = length_is_all folder step_gate n are_files (λ image is_image. gate_length n (bytes_in image) (all image is_image)) in
    let shortest : IsLeft (file_in folder job_gate) (take (file_in folder job_gate).firm (file_in folder job_gate).bytes) = shortest_left (file_in folder job_gate) (are_files job_gate) in
    let stored : 0 < length (take (file_in folder job_gate).firm (file_in folder job_gate).bytes) =
    each_left folder job_gate (λ left. 0 < length left) are_files (λ image is_image. ltb-true 0 (length (bytes_in image job_gate)) (all image is_image).stored) _ shortest in
    let firm : length (take (file_in folder job_gate).firm (file_in folder job_gate).bytes) ≡ min (file_in folder job_gate).firm (length (file_in folder job_gate).bytes) = length-take (file_in folder job_gate).firm (file_in folder job_gate).bytes in
    record { stored = omega arith; gate = gate.0; count = gate.1; covers = covers }
  where
    gate_length : (n : ℕ) (r : FileNo → List ℕ) → HasCount n r → length (r step_gate) ≡ n
    gate_length n r has = sym (ap (λ b. cond b (length (r step_gate)) 0) has.stored) ∙ has.count

-- a folder in which the gates and the catalogue stand is as ready as before
pub ready_stays : (n : ℕ) (old new : Folder) → file_in new job_gate ≡ file_in old job_gate → file_in new step_gate ≡ file_in old step_gate → file_in new catalogue ≡ file_in old catalogue → IsReady n old → IsReady n new
ready_stays n old new job steps entries ready = record {
  stored = subst (λ (x : File). 0 < x.firm) (sym job) ready.stored;
  gate = subst (λ (x : File). x ≡ firm_file x.bytes) (sym steps) ready.gate;
  count = ap (λ (x : File). length x.bytes) steps ∙ ready.count;
  covers = subst (λ (x : File). 128 * n ≤ length x.bytes) (sym entries) ready.covers;
}

-- an entry that lies in the front is that of the front
pub entry_in_front : (k : ℕ) (front : List ℕ) (r : FileNo → List ℕ) → 128 * k + 128 ≤ length front → take (length front) (r catalogue) ≡ front → entry_at k r ≡ take 128 (drop (128 * k) front)
entry_in_front k front r within same =
    sym (drop-take (128 * k) 128 (r catalogue)) ∙ ap (drop (128 * k)) (sym (take-take (128 * k + 128) (length front) (r catalogue) within) ∙ ap (take (128 * k + 128)) same)
    ∙ drop-take (128 * k) 128 front

-- so each entry that is kept stands as it is read, and in every image
pub kept_entry : (k : ℕ) (front : List ℕ) (folder : Folder) → 128 * k + 128 ≤ length front → IsKept front (file_in folder catalogue) → entry_at k (present folder) ≡ take 128 (drop (128 * k) front)
kept_entry k front folder within kept = entry_in_front k front (present folder) within kept.same

pub left_entry : (k : ℕ) (front : List ℕ) (folder : Folder) (image : Image) → 128 * k + 128 ≤ length front → IsKept front (file_in folder catalogue) → IsImage folder image → entry_at k (bytes_in image) ≡ take 128 (drop (128 * k) front)
left_entry k front folder image within kept is_image = entry_in_front k front (bytes_in image) within (kept_left front (file_in folder catalogue) (bytes_in image catalogue) kept (is_image catalogue))

-- where every image at the start has a job, an attach leaves no other image
pub attach_keeps : (job : List ℕ) (old m : Moment) (image : Image) → AreFiles old.folder → ((first : Image) → IsImage old.folder first → IsTrue (is_stored (bytes_in first))) → DuringAttach job old m → IsImage m.folder image → IsImage old.folder image
attach_keeps job old m image are_files all during is_image = elim (during.images image is_image) [
  | inl same ↦ same
  | inr begins ↦
      let stood : is_stored (bytes_in (chosen (λ _ x. x.bytes) old.folder)) ≡ true = all (chosen (λ _ x. x.bytes) old.folder) (standing_image old.folder are_files) in
      let gate : bytes_in (chosen (λ _ x. x.bytes) old.folder) job_gate ≡ present old.folder job_gate = bytes_in-chosen (λ _ x. x.bytes) old.folder job_gate (standing_left (file_in old.folder job_gate) (are_files job_gate)) in
      let stored : is_stored (present old.folder) ≡ true = sym (ap (λ bytes. ltb 0 (length bytes)) gate) ∙ stood in
      let not_stored : is_stored (present old.folder) ≡ false = begins.0 in
      absurd (true≢false (sym stored ∙ not_stored))
]

-- what a read gives of a folder that is ready has that count too
pub ready_count : (n : ℕ) (folder : Folder) → IsFile (file_in folder job_gate) → IsReady n folder → count_in (present folder) ≡ n
ready_count n folder is_file ready =
    let within : (file_in folder job_gate).firm ≤ length (file_in folder job_gate).bytes = is_file.firm_within in
    let sure : 0 < (file_in folder job_gate).firm = ready.stored in
    (has_count n (present folder) (omega arith) ready.count).count

-- a put leaves the entries before its own as they are read
pub entry_stays : (committed k : ℕ) (e : Entry) (old m : Moment) → k < e.number → DuringPut committed e old m → entry_at k (present m.folder) ≡ entry_at k (present old.folder)
entry_stays committed k e old m before during = same_entries k e.number (file_in m.folder catalogue).bytes (file_in old.folder catalogue).bytes before during.reads

-- where an image counts a step that waited, each entry that it counts is the one that was read before
pub counted_entry : (committed waiting k : ℕ) (entries : List ℕ) (r : FileNo → List ℕ) (counted : IsCountedWithin committed waiting entries r) → committed < counted.count → k < counted.count
    → entry_at k r ≡ take 128 (drop (128 * k) entries)
counted_entry committed waiting k entries r counted more below = same_entries k counted.count (r catalogue) entries below (counted.placed more)

-- and so it is of all of them once they are committed
pub committed_entry : (committed waiting k : ℕ) (old new : Folder) (image : Image) → AreCommitted committed waiting old new → IsImage new image → entry_at k (bytes_in image) ≡ entry_at k (present old)
committed_entry committed waiting k old new image are is_image = ap (λ bytes. take 128 (drop (128 * k) bytes)) (are.images image is_image).1
