-- What a folder has at a number after a change.
use Rattle.std.proofs.Common.{◌≡◌, ◌≢◌, ℕ, cond, List, [], ap, ◌∙◌}
use Rattle.std.specs.Prelude.{Some, unwrap_or}
use Rattle.std.specs.FinMap.{get, insert, empty, get-insert, get-empty}
use Rattle.shelf_model.specs.declared.file_no.FileNo.{FileNo}
use Rattle.shelf_model.specs.File.{File, no_file}
use Rattle.shelf_model.specs.Folder.{file_cmp, Folder, Image, file_in, bytes_in}
use Rattle.shelf_model.proofs.Numbers.{file_cmp_total, tied, apart}

pub file_in-insert : (folder : Folder) (f : FileNo) (x : File) → file_in (insert folder f x) f ≡ x
file_in-insert folder f x =
    ap (λ o. unwrap_or o no_file) (get-insert file_cmp_total folder f x f ∙ ap (λ b. cond b (Some x) (get folder f)) (tied f))

pub file_in-insert_other : (folder : Folder) (f q : FileNo) (x : File) → q ≢ f → file_in (insert folder f x) q ≡ file_in folder q
file_in-insert_other folder f q x differ =
    ap (λ o. unwrap_or o no_file) (get-insert file_cmp_total folder f x q ∙ ap (λ b. cond b (Some x) (get folder q)) (apart f q differ))

pub file_in-empty : (f : FileNo) → file_in empty f ≡ no_file
file_in-empty f = ap (λ o. unwrap_or o no_file) (get-empty file_cmp f)

pub bytes_in-insert : (image : Image) (f : FileNo) (bytes : List ℕ) → bytes_in (insert image f bytes) f ≡ bytes
bytes_in-insert image f bytes =
    ap (λ o. unwrap_or o []) (get-insert file_cmp_total image f bytes f ∙ ap (λ b. cond b (Some bytes) (get image f)) (tied f))

pub bytes_in-insert_other : (image : Image) (f q : FileNo) (bytes : List ℕ) → q ≢ f → bytes_in (insert image f bytes) q ≡ bytes_in image q
bytes_in-insert_other image f q bytes differ =
    ap (λ o. unwrap_or o []) (get-insert file_cmp_total image f bytes q ∙ ap (λ b. cond b (Some bytes) (get image q)) (apart f q differ))

pub bytes_in-empty : (f : FileNo) → bytes_in empty f ≡ []
bytes_in-empty f = ap (λ o. unwrap_or o []) (get-empty file_cmp f)
