-- What a stop may leave of a folder, and what is known of a file from all of its images.
use Rattle.std.proofs.Common.{◌≡◌, ℕ, ◌+◌, ◌-◌, ◌≤◌, min, Bool, true, false, cond, List, [], ◌∷◌, ◌++◌, length, take, replicate, Option, option_map, refl, sym, ap, subst, ◌∙◌, inl, inr, arith}
use Rattle.std.specs.Prelude.{Result, Ok, Err, Some, None, unwrap_or}
use Rattle.std.specs.Ordering.{is_eq}
use Rattle.std.specs.FinMap.{get, insert, find, entries, from_entries, get-entries, get-from_entries}
use Rattle.std.proofs.lemmas.List.{length-take, length-append, length-replicate, take-take, take_at}
use Rattle.shelf_model.specs.declared.file_no.FileNo.{FileNo}
use Rattle.shelf_model.specs.declared.fault.Failed.{Failed}
use Rattle.shelf_model.specs.File.{File, no_file, firm_file, IsFile, IsLeft, IsKept}
use Rattle.shelf_model.specs.Folder.{file_cmp, Folder, Image, file_in, bytes_in, IsImage, AreFiles}
use Rattle.shelf_model.specs.World.{Moment, World, now, file}
use Rattle.shelf_model.specs.Calls.{Synced}
use Rattle.shelf_model.proofs.Numbers.{file_cmp_total, from_tie, cases_file}
use Rattle.shelf_model.proofs.Maps.{bytes_in-insert, bytes_in-insert_other}
use Rattle.shelf_model.proofs.Files.{same_file, only_image}

-- the bytes chosen of each file that the list names
abbrev chosen_entries : (FileNo → File → List ℕ) → List (FileNo × File) → List (FileNo × List ℕ)
chosen_entries choice [] = []
chosen_entries choice (e ∷ es) = (e.0, choice e.0 e.1) ∷ chosen_entries choice es

-- the bytes chosen of each file of a folder
abbrev pub chosen : (FileNo → File → List ℕ) → Folder → Image
chosen choice folder = from_entries (chosen_entries choice (entries folder))

-- what is found of the list, chosen
found_chosen : (choice : FileNo → File → List ℕ) (q : FileNo) (e : FileNo × File) (es : List (FileNo × File)) (tie : Bool) → is_eq (file_cmp q e.0) ≡ tie
    → find file_cmp q (chosen_entries choice es) ≡ option_map (choice q) (find file_cmp q es)
    → cond tie (Some (choice e.0 e.1)) (find file_cmp q (chosen_entries choice es)) ≡ option_map (choice q) (cond tie (Some e.1) (find file_cmp q es))
found_chosen choice q e es true tie rest = ap (λ (f : FileNo). Some (choice f e.1)) (sym (from_tie q e.0 tie))
found_chosen choice q e es false tie rest = rest

find-chosen : (choice : FileNo → File → List ℕ) (q : FileNo) (es : List (FileNo × File)) → find file_cmp q (chosen_entries choice es) ≡ option_map (choice q) (find file_cmp q es)
find-chosen choice q [] = refl
find-chosen choice q (e ∷ es) = found_chosen choice q e es (is_eq (file_cmp q e.0)) refl (find-chosen choice q es)

get-chosen : (choice : FileNo → File → List ℕ) (folder : Folder) (q : FileNo) → get (chosen choice folder) q ≡ option_map (choice q) (get folder q)
get-chosen choice folder q =
    get-from_entries file_cmp_total (chosen_entries choice (entries folder)) q ∙ find-chosen choice q (entries folder)
    ∙ ap (option_map (choice q)) (sym (get-entries folder q))

-- nothing but no bytes is left of the empty file
pub left_of_none : (left : List ℕ) → IsLeft no_file left → left ≡ []
left_of_none left h = only_image [] left h

read_chosen : (choice : File → List ℕ) (o : Option File) → IsLeft (unwrap_or o no_file) (choice (unwrap_or o no_file)) → unwrap_or (option_map choice o) [] ≡ choice (unwrap_or o no_file)
read_chosen choice None h = sym (left_of_none (choice no_file) h)
read_chosen choice (Some x) h = refl

-- what the choice has at a file, where it is one that a stop may leave
pub bytes_in-chosen : (choice : FileNo → File → List ℕ) (folder : Folder) (q : FileNo) → IsLeft (file_in folder q) (choice q (file_in folder q)) → bytes_in (chosen choice folder) q ≡ choice q (file_in folder q)
bytes_in-chosen choice folder q h = ap (λ o. unwrap_or o []) (get-chosen choice folder q) ∙ read_chosen (choice q) (get folder q) h

-- every file chooses by itself
pub chosen_image : (choice : FileNo → File → List ℕ) (folder : Folder) → ((q : FileNo) → IsLeft (file_in folder q) (choice q (file_in folder q))) → IsImage folder (chosen choice folder)
chosen_image choice folder each = λ q. subst (IsLeft (file_in folder q)) (sym (bytes_in-chosen choice folder q (each q))) (each q)

-- a stop may leave only what is sure
pub shortest_left : (x : File) → IsFile x → IsLeft x (take x.firm x.bytes)
shortest_left x is_file =
    let within : x.firm ≤ length x.bytes = is_file.firm_within in
    let beyond : length x.bytes ≤ x.reach = is_file.reach_beyond in
    let long : length (take x.firm x.bytes) ≡ min x.firm (length x.bytes) = length-take x.firm x.bytes in
    record {
      no_shorter = omega arith;
      no_longer = omega arith;
      same = take-take x.firm x.firm x.bytes (omega arith);
    }

-- or as much as it ever may
pub longest_left : (x : File) (byte : ℕ) → IsFile x → IsLeft x (take x.firm x.bytes ++ replicate (x.reach - x.firm) byte)
longest_left x byte is_file =
    let within : x.firm ≤ length x.bytes = is_file.firm_within in
    let beyond : length x.bytes ≤ x.reach = is_file.reach_beyond in
    let front : length (take x.firm x.bytes) ≡ min x.firm (length x.bytes) = length-take x.firm x.bytes in
    let rest : length (replicate (x.reach - x.firm) byte) ≡ x.reach - x.firm = length-replicate (x.reach - x.firm) byte in
    let long : length (take x.firm x.bytes ++ replicate (x.reach - x.firm) byte) ≡ length (take x.firm x.bytes) + length (replicate (x.reach - x.firm) byte) = length-append _ _ in
    let whole : length (take x.firm x.bytes) ≡ x.firm = omega arith in
    record {
      no_shorter = omega arith;
      no_longer = omega arith;
      same = take_at (take x.firm x.bytes) (replicate (x.reach - x.firm) byte) x.firm whole;
    }

pub length_longest : (x : File) (byte : ℕ) → IsFile x → length (take x.firm x.bytes ++ replicate (x.reach - x.firm) byte) ≡ x.reach
length_longest x byte is_file =
    let within : x.firm ≤ length x.bytes = is_file.firm_within in
    let beyond : length x.bytes ≤ x.reach = is_file.reach_beyond in
    let front : length (take x.firm x.bytes) ≡ min x.firm (length x.bytes) = length-take x.firm x.bytes in
    let rest : length (replicate (x.reach - x.firm) byte) ≡ x.reach - x.firm = length-replicate (x.reach - x.firm) byte in
    let long : length (take x.firm x.bytes ++ replicate (x.reach - x.firm) byte) ≡ length (take x.firm x.bytes) + length (replicate (x.reach - x.firm) byte) = length-append _ _ in
    omega arith

-- or what a read gives
pub standing_left : (x : File) → IsFile x → IsLeft x x.bytes
standing_left x is_file = record { no_shorter = is_file.firm_within; no_longer = is_file.reach_beyond; same = refl }

-- a folder as it is read is an image of it
pub standing_image : (folder : Folder) → AreFiles folder → IsImage folder (chosen (λ _ x. x.bytes) folder)
standing_image folder are_files = chosen_image (λ _ x. x.bytes) folder (λ q. standing_left (file_in folder q) (are_files q))

-- bytes that a stop may leave of one file stand in an image
pub one_left : (folder : Folder) (f : FileNo) (left : List ℕ) → AreFiles folder → IsLeft (file_in folder f) left → IsImage folder (insert (chosen (λ _ x. x.bytes) folder) f left)
one_left folder f left are_files h = λ q. elim (cases_file q f) [
  | inl same ↦ subst (IsLeft (file_in folder q)) (sym (ap (bytes_in (insert (chosen (λ _ x. x.bytes) folder) f left)) same ∙ bytes_in-insert (chosen (λ _ x. x.bytes) folder) f left))
      (subst (λ g. IsLeft (file_in folder g) left) (sym same) h)
  | inr differ ↦ subst (IsLeft (file_in folder q)) (sym (bytes_in-insert_other (chosen (λ _ x. x.bytes) folder) f q left differ)) (standing_image folder are_files q)
]

-- what all images have in a file, all bytes that may be left of it have
pub each_left : (folder : Folder) (f : FileNo) (P : List ℕ → Type 0) → AreFiles folder → ((image : Image) → IsImage folder image → P (bytes_in image f)) → (left : List ℕ) → IsLeft (file_in folder f) left → P left
each_left folder f P are_files all left h =
    subst P (bytes_in-insert (chosen (λ _ x. x.bytes) folder) f left) (all (insert (chosen (λ _ x. x.bytes) folder) f left) (one_left folder f left are_files h))

-- where a file has one length in all images, it is sure and can't be longer
pub length_is_firm : (folder : Folder) (f : FileNo) (n : ℕ) → AreFiles folder → ((image : Image) → IsImage folder image → length (bytes_in image f) ≡ n) → ((file_in folder f).firm ≡ n) × ((file_in folder f).reach ≡ n)
length_is_firm folder f n are_files all =
    let x : File = file_in folder f in
    let is_file : IsFile x = are_files f in
    let within : x.firm ≤ length x.bytes = is_file.firm_within in
    let each = each_left folder f (λ left. length left ≡ n) are_files all in
    let shortest : length (take x.firm x.bytes) ≡ n = each _ (shortest_left x is_file) in
    let front : length (take x.firm x.bytes) ≡ min x.firm (length x.bytes) = length-take x.firm x.bytes in
    (omega arith, sym (length_longest x 0 is_file) ∙ each _ (longest_left x 0 is_file))

-- so it is its own only image
pub length_is_all : (folder : Folder) (f : FileNo) (n : ℕ) → AreFiles folder → ((image : Image) → IsImage folder image → length (bytes_in image f) ≡ n) → (file_in folder f ≡ firm_file (file_in folder f).bytes) × (length (file_in folder f).bytes ≡ n)
length_is_all folder f n are_files all =
    let x : File = file_in folder f in
    let is_file : IsFile x = are_files f in
    let within : x.firm ≤ length x.bytes = is_file.firm_within in
    let beyond : length x.bytes ≤ x.reach = is_file.reach_beyond in
    let both = length_is_firm folder f n are_files all in
    let firm : x.firm ≡ n = both.0 in
    let reach : x.reach ≡ n = both.1 in
    let whole : length x.bytes ≡ n = omega arith in
    (same_file x (firm_file x.bytes) refl (firm ∙ sym whole) (reach ∙ sym whole), whole)

-- where all images begin with these bytes, they are kept
pub all_kept : (folder : Folder) (f : FileNo) (front : List ℕ) → AreFiles folder → ((image : Image) → IsImage folder image → take (length front) (bytes_in image f) ≡ front) → IsKept front (file_in folder f)
all_kept folder f front are_files all =
    let x : File = file_in folder f in
    let is_file : IsFile x = are_files f in
    let each = each_left folder f (λ left. take (length front) left ≡ front) are_files all in
    let shortest : take (length front) (take x.firm x.bytes) ≡ front = each _ (shortest_left x is_file) in
    let counted : length (take (length front) (take x.firm x.bytes)) ≡ length front = ap length shortest in
    let outer : length (take (length front) (take x.firm x.bytes)) ≡ min (length front) (length (take x.firm x.bytes)) = length-take (length front) (take x.firm x.bytes) in
    let inner : length (take x.firm x.bytes) ≡ min x.firm (length x.bytes) = length-take x.firm x.bytes in
    record { sure = omega arith; same = each x.bytes (standing_left x is_file) }

-- where nothing changed, no image is new
pub still_images : (old new : World) (image : Image) → now new ≡ now old → IsImage (now new).folder image → IsImage (now old).folder image
still_images old new image same is_image = subst (λ (m : Moment). IsImage m.folder image) same is_image

-- what a stop may leave of a file that was made sure, it might have left before
pub sure_left : (x : File) (left : List ℕ) → IsFile x → IsLeft (firm_file x.bytes) left → IsLeft x left
sure_left x left is_file h = subst (IsLeft x) (sym (only_image x.bytes left h)) (standing_left x is_file)

sync_left : (f : FileNo) (result : Result Unit Failed) (old new : World) (left : List ℕ) → IsFile (file old f) → Synced f result old new → IsLeft (file new f) left → IsLeft (file old f) left
sync_left f (Ok x) old new left is_file did h = sure_left (file old f) left is_file (subst (λ y. IsLeft y left) did.ok h)
sync_left f (Err e) old new left is_file did h = subst (λ (m : Moment). IsLeft (file_in m.folder f) left) did.failed h

-- a sync leaves no new image
pub sync_images : (f : FileNo) (result : Result Unit Failed) (old new : World) (image : Image) → AreFiles (now old).folder → Synced f result old new → IsImage (now new).folder image → IsImage (now old).folder image
sync_images f result old new image are_files did is_image = λ q. elim (cases_file q f) [
  | inl same ↦ subst (λ g. IsLeft (file old g) (bytes_in image g)) (sym same) (sync_left f result old new (bytes_in image f) (are_files f) did (is_image f))
  | inr differ ↦ subst (λ y. IsLeft y (bytes_in image q)) (did.others q differ) (is_image q)
]
