-- What each call of a station leaves, after either answer.
use Rattle.std.specs.Prelude.{◌≡◌, ◌≢◌, ℕ, ◌+◌, ◌-◌, ◌^◌, ◌<◌, ◌≤◌, Bool, IsTrue, min, List, ◌++◌, length, take, drop, Result, Some, OnOk, OnErr, IfOk}
use Rattle.shelf_model.specs.declared.file_no.FileNo.{FileNo}
use Rattle.shelf_model.specs.declared.fault.Failed.{Failed}
use Rattle.shelf_model.specs.File.{firm_file, appended, cut_to, TornAppend, TornCut}
use Rattle.shelf_model.specs.Folder.{OnlyChanges}
use Rattle.shelf_model.specs.World.{World, now, file}

-- a station that tells its content after a call told it before, and the call did this
pub record Told {S : Type 0} (tells : S → Bool) (old new : S) (Did : Type 0) : Type 0 where
  pub before : IsTrue (tells new) → IsTrue (tells old)
  pub did : IsTrue (tells new) → Did

-- one call more was made, and the past stays what it was
pub record Ticks (old new : World) : Type 0 where
  pub clock_is : new.clock ≡ old.clock + 1
  pub past : (k : ℕ) → k ≤ old.clock → new.moment k ≡ old.moment k

-- but for its files the station is as it was; it strays no more where it is inside its folder
pub record SameStation (old new : World) : Type 0 where
  pub said_is : (now new).said ≡ (now old).said
  pub texts_are : new.texts ≡ old.texts
  pub home_is : new.home ≡ old.home
  pub inside_is : new.inside ≡ old.inside
  pub strays_are : IsTrue old.inside → new.strays ≡ old.strays

-- a call that reaches for a file: outside the station's folder it strays
pub record OnShelf (old new : World) : Type 0 where
  pub ticks : Ticks old new
  pub station : SameStation old new
  pub astray : ¬ (IsTrue old.inside) → old.strays < new.strays

-- every file but this one is as it was
abbrev pub SameBut : FileNo → World → World → Type 0
SameBut f old new = OnlyChanges (λ q. q ≡ f) (now old).folder (now new).folder

-- the longest file
abbrev pub longest : ℕ
longest = 2 ^ 50

-- the most bytes that one call reads, appends or says
abbrev pub most_piece : ℕ
most_piece = 2048

-- the first k bytes after are those of the source from that place on, as many as there are; the others stay
pub record Copied (source : List ℕ) (at : ℕ) (before after : List ℕ) (k : ℕ) : Type 0 where
  pub count : k ≡ min (length before) (length source - at)
  pub bytes_are : after ≡ take k (drop at source) ++ drop k before

pub record Measured (f : FileNo) (result : Result ℕ Failed) (old new : World) : Type 0 where
  pub shelf : OnShelf old new
  pub same : now new ≡ now old
  pub ok : IfOk result (λ n. n ≡ length (file old f).bytes)

pub record DidRead (f : FileNo) (at : ℕ) (before after : List ℕ) (result : Result ℕ Failed)
    (old new : World) : Type 0 where
  pub shelf : OnShelf old new
  pub same : now new ≡ now old
  pub ok : IfOk result (Copied (file old f).bytes at before after)

-- an append that would pass the longest file changes nothing
pub record Appended (f : FileNo) (piece : List ℕ) (result : Result Unit Failed) (old new : World) : Type 0 where
  pub shelf : OnShelf old new
  pub others : SameBut f old new
  pub ok : OnOk result (file new f ≡ appended piece (file old f))
  pub failed : OnErr result (length (file old f).bytes + length piece ≤ longest
      → TornAppend (length piece) (file old f) (file new f))
  pub refused : longest < length (file old f).bytes + length piece → now new ≡ now old

pub record WasCut (f : FileNo) (to : ℕ) (result : Result Unit Failed) (old new : World) : Type 0 where
  pub shelf : OnShelf old new
  pub others : SameBut f old new
  pub ok : OnOk result (file new f ≡ cut_to to (file old f))
  pub failed : OnErr result (TornCut to (file old f) (file new f))

pub record Synced (f : FileNo) (result : Result Unit Failed) (old new : World) : Type 0 where
  pub shelf : OnShelf old new
  pub others : SameBut f old new
  pub ok : OnOk result (file new f ≡ firm_file (file old f).bytes)
  pub failed : OnErr result (now new ≡ now old)

-- the folder of that path is the one that the calls mean from now on
pub record Entered (path : List ℕ) (result : Result Unit Failed) (old new : World) : Type 0 where
  pub ticks : Ticks old new
  pub same : now new ≡ now old
  pub texts_are : new.texts ≡ old.texts
  pub home_is : new.home ≡ old.home
  pub at_home : path ≡ old.home → new.strays ≡ old.strays
  pub ok : path ≡ old.home → OnOk result (IsTrue new.inside)
  pub astray : path ≢ old.home → old.strays < new.strays
  pub away : path ≢ old.home → ¬ (IsTrue new.inside)

-- what a call that reaches for no folder leaves
pub record Elsewhere (old new : World) : Type 0 where
  pub ticks : Ticks old new
  pub folder_is : (now new).folder ≡ (now old).folder
  pub texts_are : new.texts ≡ old.texts
  pub home_is : new.home ≡ old.home
  pub inside_is : new.inside ≡ old.inside
  pub strays_are : new.strays ≡ old.strays

-- a path without a text can't be fetched
pub record Fetched (path : List ℕ) (at : ℕ) (before after : List ℕ) (result : Result ℕ Failed)
    (old new : World) : Type 0 where
  pub elsewhere : Elsewhere old new
  pub said_is : (now new).said ≡ (now old).said
  pub ok : IfOk result (λ k. (text : List ℕ) × (old.texts path ≡ Some text) × Copied text at before after k)

-- these bytes were said, and no others
pub record Said (piece : List ℕ) (result : Result Unit Failed) (old new : World) : Type 0 where
  pub elsewhere : Elsewhere old new
  pub ok : OnOk result ((now new).said ≡ (now old).said ++ piece)
  pub failed : OnErr result ((front : List ℕ) × (rest : List ℕ) × (piece ≡ front ++ rest)
      × ((now new).said ≡ (now old).said ++ front))
