-- Drops that are committed together with the step before them: their entries, and what holds while that is done.
use Rattle.std.specs.Prelude.{◌≡◌, ◌≢◌, ◌⊎◌, ℕ, ◌+◌, ◌*◌, ◌<◌, ◌≤◌, List, [], length, take, get_or}
use Rattle.bool_tables.specs.declared.steps.Step.TheVariants.{Drop}
use Rattle.bool_tables.specs.declared.steps.Planned.{Planned}
use Rattle.shelf_model.specs.declared.file_no.FileNo.{FileNo}
use Rattle.shelf_model.specs.File.{firm_file, no_file, IsKept}
use Rattle.shelf_model.specs.Folder.{Folder, Image, file_in, bytes_in, IsImage, OnlyChanges}
use Rattle.shelf_model.specs.World.{Moment}
use Rattle.catalogue.specs.declared.layout.Entry.{Entry}
use Rattle.catalogue.specs.Entries.{entry_bytes}
use Rattle.catalogue.specs.Files.{catalogue, step_gate}
use Rattle.catalogue.specs.Counts.{present, entry_at, HasCount}
use Rattle.catalogue.specs.Commits.{IsReady}
use Rattle.step_work.specs.Plans.{no_step}
use Rattle.sound_image.specs.Files.{node_file}
use Rattle.sound_image.specs.Steps.{IsCutBy}
use Rattle.step_engine.specs.StepEntries.{nameless_entry, one_turn}

-- each step from one up to another drops a diagram
abbrev pub AreDrops : List Planned → ℕ → ℕ → Type 0
AreDrops steps from until = (k : ℕ) → from ≤ k → k < until
    → (gone : ℕ) × ((get_or steps k no_step).step ≡ Drop gone)

-- the entry of a step that is committed together with the one that this entry is of: this, or that of a drop behind it
abbrev pub IsEntryWith : List Planned → Entry → ℕ → Entry → Type 0
IsEntryWith steps e k x = ((k ≡ e.number) × (x ≡ e))
    ⊎ ((e.number < k) × ((gone : ℕ) × ((get_or steps k no_step).step ≡ Drop gone)
    × (x ≡ nameless_entry k 2 0 gone one_turn)))

-- the entries from that one on up to the other place stand in theirs
abbrev pub ArePlaced : List Planned → Entry → ℕ → (FileNo → List ℕ) → Type 0
ArePlaced steps e until r = (k : ℕ) → e.number ≤ k → k < until
    → (x : Entry) × IsEntryWith steps e k x × (entry_at k r ≡ entry_bytes x)

-- the entries stand behind those of the committed steps, which are as many as before
pub record ArePutTogether (steps : List Planned) (e : Entry) (until : ℕ) (folder : Folder) : Type 0 where
  pub ready : IsReady e.number folder
  pub placed : ArePlaced steps e until (present folder)
  pub size : length (file_in folder catalogue).bytes ≡ 128 * until

-- so many steps are committed, of these the entries from that one on stand in their places
pub record IsCountedTo (steps : List Planned) (e : Entry) (until : ℕ) (r : FileNo → List ℕ) : Type 0 where
  pub count : ℕ
  pub no_fewer : e.number ≤ count
  pub no_more : count ≤ until
  pub counts : HasCount count r
  pub placed : ArePlaced steps e count r

-- at each moment each image has the old count, or a greater one with the entries that it covers; other files and
-- earlier entries stay, as they are sure and as they are read
pub record DuringTogether (steps : List Planned) (e : Entry) (until : ℕ) (old m : Moment) : Type 0 where
  pub others : (q : FileNo) → q ≢ catalogue → q ≢ step_gate → file_in m.folder q ≡ file_in old.folder q
  pub images : (image : Image) → IsImage m.folder image → IsCountedTo steps e until (bytes_in image)
  pub kept : (front : List ℕ) → length front ≤ 128 * e.number
      → IsKept front (file_in old.folder catalogue) → IsKept front (file_in m.folder catalogue)
  pub reads : take (128 * e.number) (file_in m.folder catalogue).bytes
      ≡ take (128 * e.number) (file_in old.folder catalogue).bytes

-- after that they are all committed: each entry stands in its place, and is sure
pub record AreTogether (steps : List Planned) (e : Entry) (until : ℕ) (new : Folder) : Type 0 where
  pub ready : IsReady until new
  pub placed : ArePlaced steps e until (present new)
  pub sure : file_in new catalogue ≡ firm_file (file_in new catalogue).bytes

-- some of these files were emptied, or may have been: no other file changed; what was empty is empty, and what held no
-- byte holds none
pub record OnlyEmptied (these : FileNo → Type 0) (old m : Moment) : Type 0 where
  pub only : OnlyChanges these old.folder m.folder
  pub empty : (f : FileNo) → file_in old.folder f ≡ no_file → file_in m.folder f ≡ no_file
  pub stays : (f : FileNo) → (file_in old.folder f).bytes ≡ [] → (file_in m.folder f).bytes ≡ []

-- the file of a diagram that one of these steps drops
abbrev pub IsDropped : List Planned → ℕ → ℕ → FileNo → Type 0
IsDropped steps from until f = (k : ℕ) × (from ≤ k) × (k < until)
    × ((gone : ℕ) × ((get_or steps k no_step).step ≡ Drop gone) × (f ≡ node_file gone))

-- a file that is cut once they are committed: one that the first of them leaves behind, or one that the others drop
abbrev pub IsCutTogether : List Planned → Entry → ℕ → FileNo → Type 0
IsCutTogether steps e until f = IsCutBy (get_or steps e.number no_step).step e.number e.parts f
    ⊎ IsDropped steps (e.number + 1) until f

-- while they are cut no other file changes
abbrev pub TidiedTogether : List Planned → Entry → ℕ → Moment → Moment → Type 0
TidiedTogether steps e until = OnlyEmptied (IsCutTogether steps e until)
