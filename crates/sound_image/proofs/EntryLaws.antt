-- What is read of the entries of committed steps, where the folder holds them.
use Rattle.std.proofs.Common.{◌≡◌, ◌∙◌, ℕ, ◌<◌, List, refl, sym, subst}
use Rattle.shelf_model.specs.declared.fault.StreamFault.{StreamFault}
use Rattle.shelf_model.specs.declared.fault.StreamFault.TheVariants.{Shelf, Damaged}
use Rattle.shelf_model.specs.Folder.{Folder, file_in}
use Rattle.catalogue.specs.declared.layout.Entry.{Entry}
use Rattle.catalogue.specs.Files.{catalogue}
use Rattle.catalogue.specs.Counts.{present, entry_at}
use Rattle.catalogue.specs.Entries.{entry_bytes, IsEntryOf, IsEntryFault}
use Rattle.catalogue.proofs.Fields.{same_entry}
use Rattle.sound_image.specs.Jobs.{Job}
use Rattle.sound_image.specs.Entries.{IsEntryOfStep}
use Rattle.sound_image.specs.Holds.{Holds}
use Rattle.sound_image.proofs.HoldsLaws.{entry_in_front}

-- the entry of a step stands at its place
pub entry_stands : (job : Job) (count k : ℕ) (folder : Folder) → Holds job count folder → k < count
    → (e : Entry) × IsEntryOfStep job k e × (entry_at k (present folder) ≡ entry_bytes e)
entry_stands job count k folder holds within =
    let front : List ℕ = holds.entries.front in
    let found : (e : Entry) × IsEntryOfStep job k e × (_ ≡ entry_bytes e) = holds.entries.each k within in
    (found.0, found.1, entry_in_front k count front (file_in folder catalogue).bytes holds.entries.size within holds.entries.kept.same ∙ found.2)

-- so what is read there is the entry of the step
pub held_entry : (job : Job) (count k : ℕ) (folder : Folder) (e : Entry) → Holds job count folder → k < count → IsEntryOf k (present folder) e → IsEntryOfStep job k e
held_entry job count k folder e holds within is =
    let found = entry_stands job count k folder holds within in
    subst (IsEntryOfStep job k) (sym (same_entry e found.0 is.entry.fits found.1.entry_is.fits (sym is.bytes ∙ found.2))) found.1

-- and it isn't damaged
pub held_sound : (job : Job) (count k : ℕ) (folder : Folder) (fault : StreamFault) → Holds job count folder → k < count → IsEntryFault k (present folder) fault → fault ≡ Shelf
held_sound job count k folder Shelf holds within is = refl
held_sound job count k folder (Damaged f at) holds within is =
    let found = entry_stands job count k folder holds within in
    absurd (is.2 found.0 (record { entry = found.1.entry_is; number = found.1.number_is; bytes = found.2 }))
