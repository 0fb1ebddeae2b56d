-- What held at every moment of a run of calls, and what a stop may have left at one of them.
use Rattle.std.specs.Prelude.{◌≡◌, ℕ, ◌≤◌, List}
use Rattle.shelf_model.specs.declared.file_no.FileNo.{FileNo}
use Rattle.shelf_model.specs.Folder.{Image, IsImage, OnlyChanges}
use Rattle.shelf_model.specs.World.{Moment, World, now}
use Rattle.shelf_model.specs.Calls.{SameStation}

-- at some moment since clock t, at which these bytes were said, a stop may leave this image
pub record Left (w : World) (t : ℕ) (bytes : List ℕ) (image : Image) : Type 0 where
  pub at : ℕ
  pub since : t ≤ at
  pub until : at ≤ w.clock
  pub said_then : (w.moment at).said ≡ bytes
  pub image_then : IsImage (w.moment at).folder image

-- P holds at each moment from old to new, and what was before old stays
pub record Throughout (old new : World) (P : Moment → Type 0) : Type 0 where
  pub later : old.clock ≤ new.clock
  pub past : (k : ℕ) → k ≤ old.clock → new.moment k ≡ old.moment k
  pub each : (k : ℕ) → old.clock ≤ k → k ≤ new.clock → P (new.moment k)

-- P holds of what was said and of each image that a stop may leave
abbrev pub InEveryImage : (List ℕ → Image → Type 0) → Moment → Type 0
InEveryImage P m = (image : Image) → IsImage m.folder image → P m.said image

-- the files are as they were then
abbrev pub Stays : Moment → Moment → Type 0
Stays old m = m.folder ≡ old.folder

-- at that moment every file outside these is as it was then; `proofs/Changing` joins runs of it and widens it, so that
-- a crate's own relation is an instance, as `OnlyFile f = OnlyChanged (λ q. q ≡ f)` or `OnlyTaken before after =
-- OnlyChanged (IsTaken before after)`
abbrev pub OnlyChanged : (FileNo → Type 0) → Moment → Moment → Type 0
OnlyChanged these old m = OnlyChanges these old.folder m.folder

-- each image that a stop may leave was one that it might have left then
abbrev pub OnlyOldImages : Moment → Moment → Type 0
OnlyOldImages old m = (image : Image) → IsImage m.folder image → IsImage old.folder image

-- these bytes were said, and P holds
pub record Quiet (bytes : List ℕ) (P : Moment → Type 0) (m : Moment) : Type 0 where
  pub said_is : m.said ≡ bytes
  pub holds : P m

-- a run of calls of the shelf: P held at each moment, nothing was said, and but for its files the station is as it was
pub record Ran (P : Moment → Type 0) (old new : World) : Type 0 where
  pub moments : Throughout old new (Quiet (now old).said P)
  pub station : SameStation old new
