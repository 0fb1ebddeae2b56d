-- Which files runs of calls change: nothing was done, one run after another, and more files.
use Rattle.std.proofs.Common.{◌∙◌, Bool, refl}
use Rattle.shelf_model.specs.declared.file_no.FileNo.{FileNo}
use Rattle.shelf_model.specs.Folder.{Folder, OnlyChanges}
use Rattle.shelf_model.specs.World.{World, now}
use Rattle.shelf_model.specs.Calls.{Told}
use Rattle.shelf_model.specs.Moments.{Ran, OnlyChanged}
use Rattle.shelf_model.proofs.Runs.{told, told_then, told_here, ran_stands, ran_joins, ran_weakens, ran_end}

pub changes_none : (these : FileNo → Type 0) (d : Folder) → OnlyChanges these d d
changes_none these d f outside = refl

pub changes_then : (these : FileNo → Type 0) (old mid new : Folder) → OnlyChanges these old mid → OnlyChanges these mid new → OnlyChanges these old new
changes_then these old mid new first second f outside = second f outside ∙ first f outside

pub changes_more : (these more : FileNo → Type 0) (old new : Folder) → ((f : FileNo) → these f → more f) → OnlyChanges these old new → OnlyChanges more old new
changes_more these more old new wider only f outside = only f (λ is. outside (wider f is))

-- no call was made
pub changed_none : (these : FileNo → Type 0) (w : World) → Ran (OnlyChanged these (now w)) w w
changed_none these w = ran_stands w (OnlyChanged these (now w)) (changes_none these (now w).folder)

-- a run after another, which changed none but some of these
pub changed_then : (these some : FileNo → Type 0) (old mid new : World) → ((f : FileNo) → some f → these f)
    → Ran (OnlyChanged these (now old)) old mid → Ran (OnlyChanged some (now mid)) mid new → Ran (OnlyChanged these (now old)) old new
changed_then these some old mid new fewer first second =
    ran_joins old mid new (OnlyChanged these (now old)) first
    (ran_weakens mid new (OnlyChanged some (now mid)) (OnlyChanged these (now old))
    (λ m only. changes_then these (now old).folder (now mid).folder m.folder (ran_end old mid (OnlyChanged these (now old)) first)
    (changes_more some these (now mid).folder m.folder fewer only)) second)

pub changed_more : (these more : FileNo → Type 0) (old new : World) → ((f : FileNo) → these f → more f)
    → Ran (OnlyChanged these (now old)) old new → Ran (OnlyChanged more (now old)) old new
changed_more these more old new wider run =
    ran_weakens old new (OnlyChanged these (now old)) (OnlyChanged more (now old)) (λ m only. changes_more these more (now old).folder m.folder wider only) run

-- the same of stations that tell
module _ {S : Type 0} (tells : S → Bool) (world : S → World) where
  pub told_changed_none : (these : FileNo → Type 0) (s : S) → Told tells s s (Ran (OnlyChanged these (now (world s))) (world s) (world s))
  told_changed_none these s = told_here tells s (Ran (OnlyChanged these (now (world s))) (world s) (world s)) (λ _. changed_none these (world s))

  pub told_changed_then : (these some : FileNo → Type 0) (old mid new : S) → ((f : FileNo) → some f → these f)
      → Told tells old mid (Ran (OnlyChanged these (now (world old))) (world old) (world mid))
      → Told tells mid new (Ran (OnlyChanged some (now (world mid))) (world mid) (world new))
      → Told tells old new (Ran (OnlyChanged these (now (world old))) (world old) (world new))
  told_changed_then these some old mid new fewer first second =
      told_then tells old mid new _ _ _ first second (λ _ a b. changed_then these some (world old) (world mid) (world new) fewer a b)

  pub told_changed_more : (these more : FileNo → Type 0) (old new : S) → ((f : FileNo) → these f → more f)
      → Told tells old new (Ran (OnlyChanged these (now (world old))) (world old) (world new))
      → Told tells old new (Ran (OnlyChanged more (now (world old))) (world old) (world new))
  told_changed_more these more old new wider did =
      told tells old new _ _ did (λ _ run. changed_more these more (world old) (world new) wider run)
