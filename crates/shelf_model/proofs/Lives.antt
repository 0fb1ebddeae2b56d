-- How what holds of an image goes over to the next life, which begins with it.
use Rattle.std.proofs.Common.{◌≡◌, List, ℕ, sym, subst}
use Rattle.shelf_model.specs.declared.file_no.FileNo.{FileNo}
use Rattle.shelf_model.specs.File.{firm_file, IsLeft}
use Rattle.shelf_model.specs.Folder.{Folder, Image, file_in, bytes_in, IsImage}
use Rattle.shelf_model.proofs.Files.{only_image}

-- what holds of the reading of an image holds of each image that reads alike
pub same_reading : (P : (FileNo → List ℕ) → Type 0) (a b : Image) → ((f : FileNo) → bytes_in a f ≡ bytes_in b f) → P (bytes_in a) → P (bytes_in b)
same_reading P a b same here = subst P (λ i f. same f i) here

-- a folder entered on an image has no image that reads otherwise
pub entered_image : (folder : Folder) (image left : Image) → ((f : FileNo) → file_in folder f ≡ firm_file (bytes_in image f)) → IsImage folder left → (f : FileNo) → bytes_in left f ≡ bytes_in image f
entered_image folder image left entered is_image f = only_image (bytes_in image f) (bytes_in left f) (subst (λ x. IsLeft x (bytes_in left f)) (entered f) (is_image f))

-- what held of the image holds of each image of the folder that was entered on it
pub next_life : (P : (FileNo → List ℕ) → Type 0) (folder : Folder) (image left : Image) → ((f : FileNo) → file_in folder f ≡ firm_file (bytes_in image f)) → P (bytes_in image) → IsImage folder left → P (bytes_in left)
next_life P folder image left entered here is_image = same_reading P image left (λ f. sym (entered_image folder image left entered is_image f)) here
