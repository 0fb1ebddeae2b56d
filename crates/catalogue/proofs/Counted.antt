-- The count of committed steps in the images of a folder, and the entries that it covers.
use Rattle.std.proofs.Common.{◌≡◌, ◌≢◌, ℕ, ◌+◌, ◌*◌, ◌<◌, ◌≤◌, min, true, cond, ltb, List, ◌++◌, length, take, drop, refl, sym, ap, ◌∙◌, arith}
use Rattle.std.proofs.lemmas.Bool.{lt-ltb}
use Rattle.std.proofs.lemmas.List.{length-take, take-take, drop-take, take_all, drop_at}
use Rattle.shelf_model.specs.declared.file_no.FileNo.{FileNo}
use Rattle.shelf_model.specs.File.{File, IsLeft}
use Rattle.shelf_model.specs.Folder.{Folder, Image, file_in, bytes_in, IsImage}
use Rattle.shelf_model.proofs.Files.{same_image}
use Rattle.shelf_model.proofs.Numbers.{other_part}
use Rattle.catalogue.specs.Files.{job_gate, catalogue, step_gate}
use Rattle.catalogue.specs.Counts.{entry_at, HasCount}
use Rattle.file_writes.proofs.Sure.{sure_bytes}
use Rattle.catalogue.specs.Commits.{IsReady}

pub job_gate_not_catalogue : job_gate ≢ catalogue
job_gate_not_catalogue = other_part job_gate catalogue (λ e. omega (arith, e))

pub job_gate_not_step_gate : job_gate ≢ step_gate
job_gate_not_step_gate = other_part job_gate step_gate (λ e. omega (arith, e))

pub step_gate_not_catalogue : step_gate ≢ catalogue
step_gate_not_catalogue = other_part step_gate catalogue (λ e. omega (arith, e))

pub catalogue_not_step_gate : catalogue ≢ step_gate
catalogue_not_step_gate = other_part catalogue step_gate (λ e. omega (arith, e))

-- gates of these lengths
pub has_count : (n : ℕ) (r : FileNo → List ℕ) → 0 < length (r job_gate) → length (r step_gate) ≡ n → HasCount n r
has_count n r stored count =
    let gated : ltb 0 (length (r job_gate)) ≡ true = lt-ltb 0 (length (r job_gate)) stored in
    record { stored = gated; count = ap (λ b. cond b (length (r step_gate)) 0) gated ∙ count }

-- no image of a gate is shorter than what is sure of it
pub sure_stored : (f : FileNo) (before : File) (folder : Folder) (image : Image) → file_in folder f ≡ before → 0 < before.firm → IsImage folder image → 0 < length (bytes_in image f)
sure_stored f before folder image same stored is_image =
    let left : IsLeft before (bytes_in image f) = same_image folder image f before same is_image in
    let long : before.firm ≤ length (bytes_in image f) = left.no_shorter in
    omega arith

-- where the gates are those of a folder that is ready for step n, every image has n committed steps
pub gates_count : (n : ℕ) (old new : Folder) (image : Image) → IsReady n old → file_in new job_gate ≡ file_in old job_gate → file_in new step_gate ≡ file_in old step_gate → IsImage new image → HasCount n (bytes_in image)
gates_count n old new image ready job steps is_image =
    has_count n (bytes_in image) (sure_stored job_gate (file_in old job_gate) new image job ready.stored is_image)
    (ap length (sure_bytes step_gate (file_in old step_gate).bytes new image (steps ∙ ready.gate) is_image) ∙ ready.count)

-- so has every image of that folder itself
pub ready_counts : (n : ℕ) (folder : Folder) (image : Image) → IsReady n folder → IsImage folder image → HasCount n (bytes_in image)
ready_counts n folder image ready is_image = gates_count n folder folder image ready refl refl is_image

-- the entry stands behind the first 128 * n bytes
pub entry_placed : (n : ℕ) (before entry : List ℕ) (r : FileNo → List ℕ) → 128 * n ≤ length before → length entry ≡ 128 → r catalogue ≡ take (128 * n) before ++ entry → entry_at n r ≡ entry
entry_placed n before entry r covers whole same =
    let front : length (take (128 * n) before) ≡ min (128 * n) (length before) = length-take (128 * n) before in
    let long : length (take (128 * n) before) ≡ 128 * n = omega arith in
    ap (λ bytes. take 128 (drop (128 * n) bytes)) same ∙ ap (take 128) (drop_at (take (128 * n) before) entry (128 * n) long)
    ∙ take_all 128 entry (omega arith)

-- entries that are the same up to a count are so each
pub same_entries : (k count : ℕ) (xs ys : List ℕ) → k < count → take (128 * count) xs ≡ take (128 * count) ys → take 128 (drop (128 * k) xs) ≡ take 128 (drop (128 * k) ys)
same_entries k count xs ys below same =
    let room : 128 * k + 128 ≤ 128 * count = omega arith in
    let front : (zs : List ℕ) → take 128 (drop (128 * k) zs) ≡ drop (128 * k) (take (128 * k + 128) (take (128 * count) zs)) =
    (λ zs. sym (ap (drop (128 * k)) (take-take (128 * k + 128) (128 * count) zs room) ∙ drop-take (128 * k) 128 zs)) in
    front xs ∙ ap (λ zs. drop (128 * k) (take (128 * k + 128) zs)) same ∙ sym (front ys)
