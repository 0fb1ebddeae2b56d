-- One file: what is kept of it over each call, whatever the answer, and what a stop leaves.
use Rattle.std.proofs.Common.{◌≡◌, ◌⊎◌, ℕ, ◌+◌, ◌≤◌, min, List, ◌++◌, length, take, refl, sym, ap, subst, ◌∙◌, inl, inr, arith}
use Rattle.std.specs.Prelude.{Result, Ok, Err}
use Rattle.std.proofs.Math.Seq.{take-length}
use Rattle.std.proofs.lemmas.List.{length-take, take_all, take-take, take-append-le}
use Rattle.std.proofs.lemmas.Bool.{cases_lt}
use Rattle.shelf_model.specs.declared.file_no.FileNo.{FileNo}
use Rattle.shelf_model.specs.declared.fault.Failed.{Failed}
use Rattle.shelf_model.specs.File.{File, firm_file, appended, cut_to, IsLeft, IsKept, TornAppend, TornCut}
use Rattle.shelf_model.specs.Folder.{Folder, Image, file_in, bytes_in, IsImage}
use Rattle.shelf_model.specs.World.{World, now, file}
use Rattle.shelf_model.specs.Calls.{longest, Appended, WasCut, Synced}

-- what is sure of all of a file is all that a stop leaves
pub only_image : (bytes left : List ℕ) → IsLeft (firm_file bytes) left → left ≡ bytes
only_image bytes left h =
    let no_shorter : length bytes ≤ length left = h.no_shorter in
    let no_longer : length left ≤ length bytes = h.no_longer in
    sym (take_all (length bytes) left no_longer) ∙ h.same ∙ take-length bytes

-- files of the same bytes, firm length and reach are one
pub same_file : (a b : File) → a.bytes ≡ b.bytes → a.firm ≡ b.firm → a.reach ≡ b.reach → a ≡ b
same_file a b bytes firm reach = λ i. record { bytes = bytes i; firm = firm i; reach = reach i }

-- what a stop leaves of a file that is as before
pub same_image : (folder : Folder) (image : Image) (f : FileNo) (before : File) → file_in folder f ≡ before → IsImage folder image → IsLeft before (bytes_in image f)
same_image folder image f before same is_image = subst (λ x. IsLeft x (bytes_in image f)) same (is_image f)

-- the front is no longer than the bytes
pub kept_within : (front : List ℕ) (x : File) → IsKept front x → length front ≤ length x.bytes
kept_within front x kept =
    let counted : min (length front) (length x.bytes) ≡ length front = sym (length-take (length front) x.bytes) ∙ ap length kept.same in
    omega arith

-- what more stands behind the bytes doesn't matter to the front
pub kept_more : (front extra : List ℕ) (old new : File) → new.bytes ≡ old.bytes ++ extra → new.firm ≡ old.firm → IsKept front old → IsKept front new
kept_more front extra old new bytes firm kept = record {
  sure = let within : length front ≤ old.firm = kept.sure in omega arith;
  same = let within : length front ≤ length old.bytes = kept_within front old kept in
      ap (take (length front)) bytes ∙ take-append-le (length front) old.bytes extra within ∙ kept.same;
}

-- a cut behind the front keeps it
pub kept_shorter : (front : List ℕ) (to : ℕ) (old new : File) → length front ≤ to → new.bytes ≡ take to old.bytes → new.firm ≡ min old.firm to → IsKept front old → IsKept front new
kept_shorter front to old new behind bytes firm kept = record {
  sure = let within : length front ≤ old.firm = kept.sure in omega arith;
  same = ap (take (length front)) bytes ∙ take-take (length front) to old.bytes behind ∙ kept.same;
}

kept_torn_cut : (front : List ℕ) (to : ℕ) (old new : File) → length front ≤ to → TornCut to old new → IsKept front old → IsKept front new
kept_torn_cut front to old new behind torn kept = elim torn.which [
  | inl same ↦ record {
    sure = let within : length front ≤ old.firm = kept.sure in let firm : new.firm ≡ min old.firm to = torn.firm_is in omega arith;
    same = ap (take (length front)) same ∙ kept.same;
  }
  | inr cut ↦ kept_shorter front to old new behind cut torn.firm_is kept
]

-- all of a file that was synced is sure
pub kept_firm : (front : List ℕ) (old : File) → IsKept front old → IsKept front (firm_file old.bytes)
kept_firm front old kept = record { sure = kept_within front old kept; same = kept.same }

kept_along : (front : List ℕ) (a b : File) → a ≡ b → IsKept front b → IsKept front a
kept_along front a b same kept = subst (IsKept front) (sym same) kept

-- the files that stand at two moments with one folder are the same
pub same_files : (f : FileNo) (old new : World) → now new ≡ now old → file new f ≡ file old f
same_files f old new same = ap (λ m. file_in m.folder f) same

-- after an append that failed the file is as it was, or some bytes more stand at its end
pub append_failed : (f : FileNo) (piece : List ℕ) (e : Failed) (old new : World) → Appended f piece (Err e) old new
    → TornAppend (length piece) (file old f) (file new f) ⊎ (now new ≡ now old)
append_failed f piece e old new did = elim (cases_lt longest (length (file old f).bytes + length piece)) [
  | inl past ↦ inr (did.refused past)
  | inr fits ↦ inl (did.failed fits)
]

-- what a file keeps it keeps over an append
pub kept_append : (f : FileNo) (piece : List ℕ) (result : Result Unit Failed) (old new : World) (front : List ℕ) → Appended f piece result old new → IsKept front (file old f) → IsKept front (file new f)
kept_append f piece (Ok x) old new front did kept =
    kept_along front _ _ did.ok (kept_more front piece (file old f) (appended piece (file old f)) refl refl kept)
kept_append f piece (Err e) old new front did kept = elim (append_failed f piece e old new did) [
  | inl torn ↦ kept_more front torn.piece (file old f) (file new f) torn.bytes_are torn.firm_is kept
  | inr same ↦ kept_along front _ _ (same_files f old new same) kept
]

-- and over a cut behind it
pub kept_cut : (f : FileNo) (to : ℕ) (result : Result Unit Failed) (old new : World) (front : List ℕ) → length front ≤ to → WasCut f to result old new → IsKept front (file old f) → IsKept front (file new f)
kept_cut f to (Ok x) old new front behind did kept =
    kept_along front _ _ did.ok (kept_shorter front to (file old f) (cut_to to (file old f)) behind refl refl kept)
kept_cut f to (Err e) old new front behind did kept = kept_torn_cut front to (file old f) (file new f) behind did.failed kept

-- and over a sync
pub kept_sync : (f : FileNo) (result : Result Unit Failed) (old new : World) (front : List ℕ) → Synced f result old new → IsKept front (file old f) → IsKept front (file new f)
kept_sync f (Ok x) old new front did kept = kept_along front _ _ did.ok (kept_firm front (file old f) kept)
kept_sync f (Err e) old new front did kept = kept_along front _ _ (same_files f old new did.failed) kept

-- whatever a stop leaves begins with what is kept
pub kept_left : (front : List ℕ) (x : File) (left : List ℕ) → IsKept front x → IsLeft x left → take (length front) left ≡ front
kept_left front x left kept h =
    sym (take-take (length front) x.firm left kept.sure) ∙ ap (take (length front)) h.same
    ∙ take-take (length front) x.firm x.bytes kept.sure ∙ kept.same

-- a file that is sure keeps all its bytes
pub kept_all : (bytes : List ℕ) → IsKept bytes (firm_file bytes)
kept_all bytes = record { sure = omega arith; same = take-length bytes }
