-- What a sync leaves, and what stops leave of a file that was sure.
use Rattle.std.proofs.Common.{◌≡◌, ℕ, ◌+◌, ◌≤◌, max, List, length, sym, ap, subst, ◌∙◌, inl, inr, arith}
use Rattle.std.specs.Prelude.{Result, Ok, Err}
use Rattle.shelf_model.specs.declared.file_no.FileNo.{FileNo}
use Rattle.shelf_model.specs.declared.fault.Failed.{Failed}
use Rattle.shelf_model.specs.File.{File, firm_file, IsLeft, IsKept}
use Rattle.shelf_model.specs.Folder.{Folder, Image, file_in, bytes_in, IsImage}
use Rattle.shelf_model.specs.World.{Moment, World, now, file}
use Rattle.shelf_model.specs.Calls.{Synced}
use Rattle.shelf_model.proofs.Files.{only_image, same_image, kept_all}
use Rattle.shelf_model.proofs.Numbers.{cases_file}
use Rattle.file_writes.specs.Present.{present}
use Rattle.file_writes.specs.Writes.{Growing}

-- a sync leaves what reads give
pub synced_reads : (f q : FileNo) (result : Result Unit Failed) (old new : World) → Synced f result old new → present (now new).folder q ≡ present (now old).folder q
synced_reads f q (Ok x) old new did = elim (cases_file q f) [
  | inl same ↦ ap (λ g. (file new g).bytes) same ∙ ap (λ (y : File). y.bytes) did.ok ∙ ap (λ g. (file old g).bytes) (sym same)
  | inr differ ↦ ap (λ (y : File). y.bytes) (did.others q differ)
]
synced_reads f q (Err e) old new did = ap (λ (m : Moment). (file_in m.folder q).bytes) did.failed

-- a file that is sure is in each image as it is read
pub sure_bytes : (f : FileNo) (bytes : List ℕ) (folder : Folder) (image : Image) → file_in folder f ≡ firm_file bytes → IsImage folder image → bytes_in image f ≡ bytes
sure_bytes f bytes folder image sure is_image = only_image bytes (bytes_in image f) (same_image folder image f (firm_file bytes) sure is_image)

-- a length is no less than it was, and by n greater at the most
pub record GrewAtMost (n before after : ℕ) : Type 0 where
  pub no_shorter : before ≤ after
  pub no_longer : after ≤ before + n

-- so is the length of what a stop leaves of a file that was sure, while n bytes are put at its end
pub grown_image : (f : FileNo) (n : ℕ) (bytes : List ℕ) (old m : Moment) (image : Image) → file_in old.folder f ≡ firm_file bytes → Growing f n old m → IsImage m.folder image
    → GrewAtMost n (length bytes) (length (bytes_in image f))
grown_image f n bytes old m image sure growing is_image =
    let left : IsLeft (file_in m.folder f) (bytes_in image f) = is_image f in
    let kept : IsKept bytes (file_in m.folder f) = growing.kept bytes (subst (IsKept bytes) (sym sure) (kept_all bytes)) in
    let firm : length bytes ≤ (file_in m.folder f).firm = kept.sure in
    let long : (file_in m.folder f).firm ≤ length (bytes_in image f) = left.no_shorter in
    let short : length (bytes_in image f) ≤ (file_in m.folder f).reach = left.no_longer in
    let reach : (file_in m.folder f).reach ≤ max (file_in old.folder f).reach (length (file_in old.folder f).bytes + n) = growing.reach in
    let reach_was : (file_in old.folder f).reach ≡ length bytes = ap (λ (x : File). x.reach) sure in
    let length_was : length (file_in old.folder f).bytes ≡ length bytes = ap (λ (x : File). length x.bytes) sure in
    record { no_shorter = omega (arith, firm, long); no_longer = omega (arith, short, reach, reach_was, length_was) }
