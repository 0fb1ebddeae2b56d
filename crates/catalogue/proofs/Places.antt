-- What a read at an entry's place gives.
use Rattle.std.proofs.Common.{◌≡◌, ◌≢◌, ℕ, ◌+◌, ◌-◌, ◌*◌, ◌<◌, ◌≤◌, min, List, [], ◌++◌, length, take, drop, replicate, refl, sym, ap, ◌∙◌, arith}
use Rattle.std.specs.Prelude.{Option, Some, None}
use Rattle.std.proofs.lemmas.List.{append-nil, length-take, length-drop, length-append, drop_all}
use Rattle.shelf_model.specs.declared.file_no.FileNo.{FileNo}
use Rattle.shelf_model.specs.Calls.{Copied}
use Rattle.catalogue.specs.declared.layout.Entry.{Entry}
use Rattle.catalogue.specs.Files.{catalogue}
use Rattle.catalogue.specs.Counts.{entry_at}
use Rattle.catalogue.specs.Entries.{entry_bytes, Fits, IsEntry, IsEntryOf}

-- an entry has 128 bytes
pub length_entry : (e : Entry) → Fits e → length (entry_bytes e) ≡ 128
unfolding entry_bytes
length_entry e fits =
    let name : length e.name ≡ 63 = fits.name in
    let both : length (e.name ++ replicate {A = ℕ} 33 0) ≡ length e.name + length (replicate {A = ℕ} 33 0) = length-append e.name (replicate 33 0) in
    let zeros : length (replicate {A = ℕ} 33 0) ≡ 33 = refl in
    omega arith

-- a read of 128 bytes gives those at the place
pub whole_read : (k got : ℕ) (r : FileNo → List ℕ) (before after : List ℕ) → length before ≡ 128 → 128 ≤ got → Copied (r catalogue) (128 * k) before after got → entry_at k r ≡ after
whole_read k got r before after room whole did =
    let count : got ≡ min (length before) (length (r catalogue) - 128 * k) = did.count in
    let all : got ≡ 128 = omega arith in
    let rest : drop got before ≡ [] = drop_all got before (omega arith) in
    sym (did.bytes_are ∙ ap (λ xs. take got (drop (128 * k) (r catalogue)) ++ xs) rest ∙ append-nil (take got (drop (128 * k) (r catalogue)))
    ∙ ap (λ n. take n (drop (128 * k) (r catalogue))) all)

-- where fewer are read there is no entry
pub no_entry : (k got : ℕ) (r : FileNo → List ℕ) (before after : List ℕ) → length before ≡ 128 → got < 128 → Copied (r catalogue) (128 * k) before after got → (e : Entry) → ¬ (IsEntryOf k r e)
no_entry k got r before after room short did e is =
    let count : got ≡ min (length before) (length (r catalogue) - 128 * k) = did.count in
    let there : length (entry_at k r) ≡ min 128 (length (drop (128 * k) (r catalogue))) = length-take 128 (drop (128 * k) (r catalogue)) in
    let behind : length (drop (128 * k) (r catalogue)) ≡ length (r catalogue) - 128 * k = length-drop (128 * k) (r catalogue) in
    let long : length (entry_at k r) ≡ 128 = ap length is.bytes ∙ length_entry e is.entry.fits in
    omega arith

abbrev nothing : Option Entry
nothing = None

-- where the bytes there are no entry there is none
pub none_there : (k : ℕ) (r : FileNo → List ℕ) (bytes : List ℕ) → entry_at k r ≡ bytes → ((e : Entry) → IsEntry e → entry_bytes e ≡ bytes → nothing ≡ Some e) → (e : Entry) → ¬ (IsEntryOf k r e)
none_there k r bytes read only e is = let differ : nothing ≡ Some e = only e is.entry (sym is.bytes ∙ read) in cc

-- where they are the entry of another step there is none of this one
pub other_entry : (k : ℕ) (r : FileNo → List ℕ) (f : Entry) (bytes : List ℕ) → entry_at k r ≡ bytes → ((e : Entry) → IsEntry e → entry_bytes e ≡ bytes → Some f ≡ Some e) → f.number ≢ k → (e : Entry) → ¬ (IsEntryOf k r e)
other_entry k r f bytes read only other e is =
    let found : Some f ≡ Some e = only e is.entry (sym is.bytes ∙ read) in
    let same : f ≡ e = cc in
    other (ap (λ (x : Entry). x.number) same ∙ is.number)
