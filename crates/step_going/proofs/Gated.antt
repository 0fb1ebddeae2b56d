-- The last gated checkpoint of readings, and what is sure of a folder in each image of it.
use Rattle.std.proofs.Common.{◌≡◌, ℕ, zero, suc, ◌+◌, ◌*◌, ◌≤◌, List, [], ◌∷◌, length, take, drop, refl, sym, ap, subst, ◌∙◌, arith}
use Rattle.std.specs.Prelude.{Some, None}
use Rattle.std.proofs.lemmas.List.{take-take, drop-take}
use Rattle.shelf_model.specs.declared.file_no.FileNo.{FileNo}
use Rattle.shelf_model.specs.File.{IsLeft}
use Rattle.shelf_model.specs.Folder.{Folder, Image, file_in, bytes_in, IsImage}
use Rattle.shelf_model.proofs.Files.{only_image}
use Rattle.file_numbers.specs.Files.{checkpoint_file, checkpoint_gate}
use Rattle.run_tiers.specs.Syncs.{IsFirm}
use Rattle.sweep_core.specs.declared.checkpoint.Checkpoint.{Checkpoint}
use Rattle.sweep_checkpoint.specs.Gated.{present, last_of, last_gated}
use Rattle.step_going.specs.Standing.{IsLastOf}

-- the last checkpoint, as far as they are gated
pub last_of-take : (n : ℕ) (xs ys : List ℕ) → take (16384 * n) xs ≡ take (16384 * n) ys → last_of n xs ≡ last_of n ys
last_of-take zero xs ys same = refl
last_of-take (suc n) xs ys same =
    let all : 16384 * suc n ≡ 16384 * n + 16384 = omega arith in
    let whole : take (16384 * n + 16384) xs ≡ take (16384 * n + 16384) ys = ap (λ k. take k xs) (sym all) ∙ same ∙ ap (λ k. take k ys) all in
    ap Some (sym (drop-take (16384 * n) 16384 xs) ∙ ap (drop (16384 * n)) whole ∙ drop-take (16384 * n) 16384 ys)

-- readings with the same gate, and the same checkpoints as far as it counts them, have the same last one
pub same_gated : (step : ℕ) (r q : FileNo → List ℕ) → r (checkpoint_gate step) ≡ q (checkpoint_gate step)
    → take (16384 * length (q (checkpoint_gate step))) (r (checkpoint_file step)) ≡ take (16384 * length (q (checkpoint_gate step))) (q (checkpoint_file step))
    → last_gated step r ≡ last_gated step q
same_gated step r q gate points =
    (λ i. last_of (length (gate i)) (r (checkpoint_file step)))
    ∙ last_of-take (length (q (checkpoint_gate step))) (r (checkpoint_file step)) (q (checkpoint_file step)) points

-- the gate is empty exactly where none is gated
pub none_gated : (step : ℕ) (r : FileNo → List ℕ) → r (checkpoint_gate step) ≡ [] → last_gated step r ≡ None
none_gated step r empty = ap (λ gate. last_of (length gate) (r (checkpoint_file step))) empty

no_last : (gate points : List ℕ) → last_of (length gate) points ≡ None → gate ≡ []
no_last [] points none = refl
no_last (x ∷ gate) points none = cc

pub gate_empty : (step : ℕ) (r : FileNo → List ℕ) → last_gated step r ≡ None → r (checkpoint_gate step) ≡ []
gate_empty step r none = no_last (r (checkpoint_gate step)) (r (checkpoint_file step)) none

-- the last checkpoint of a reading is that of each one that has the same
pub last_as : (step : ℕ) (r q : FileNo → List ℕ) (c : Checkpoint) → last_gated step q ≡ last_gated step r → IsLastOf step r c → IsLastOf step q c
last_as step r q c same is = record { last = same ∙ is.last; rules = is.rules; words = is.words }

-- what is sure of a file is there in each image
pub sure_front : (folder : Folder) (image : Image) (f : FileNo) (n : ℕ) → IsImage folder image → n ≤ (file_in folder f).firm
    → take n (bytes_in image f) ≡ take n (present folder f)
sure_front folder image f n is_image few =
    sym (take-take n (file_in folder f).firm (bytes_in image f) few) ∙ ap (take n) (is_image f).same
    ∙ take-take n (file_in folder f).firm (file_in folder f).bytes few

-- and all of a file of which all is sure
pub firm_left : (folder : Folder) (image : Image) (f : FileNo) → IsImage folder image → IsFirm (file_in folder f) → bytes_in image f ≡ present folder f
firm_left folder image f is_image firm =
    only_image (file_in folder f).bytes (bytes_in image f) (subst (λ x. IsLeft x (bytes_in image f)) firm (is_image f))
