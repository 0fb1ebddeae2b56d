-- The counts of faults, and which call may raise which of them.
use Rattle.std.specs.Prelude.{◌≡◌, ◌≢◌, ℕ, ◌+◌, ◌-◌, ◌^◌, ◌≤◌, min, List, Result, OnErr, IsErrOf, is_some, IsTrue}
use Rattle.shelf_model.specs.declared.fault.Failed.{Failed}
use Rattle.shelf_model.specs.declared.fault.StreamFault.{StreamFault}
use Rattle.shelf_model.specs.declared.fault.StreamFault.TheVariants.{Shelf}
use Rattle.shelf_model.specs.World.{World}

-- how often the folder, the saying and the text at each path failed; no count falls
pub record Faults : Type 0 where
  pub folder : ℕ
  pub say : ℕ
  pub text : List ℕ → ℕ

-- the count rose, or stands at the last value of 64 bits
abbrev pub Rose : ℕ → ℕ → Type 0
Rose old new = min (old + 1) (2 ^ 64 - 1) ≤ new

-- a call failed only where the folder's count rose, and no other count changed
pub record OnlyFolder {T : Type 0} (old new : Faults) (result : Result T Failed) : Type 0 where
  pub later : old.folder ≤ new.folder
  pub cause : OnErr result (Rose old.folder new.folder)
  pub say_is : new.say ≡ old.say
  pub text_is : (path : List ℕ) → new.text path ≡ old.text path

-- a call answered Shelf only where the folder's count rose, and no other count changed
pub record OnlyShelf {T : Type 0} (old new : Faults) (result : Result T StreamFault) : Type 0 where
  pub later : old.folder ≤ new.folder
  pub cause : IsErrOf result Shelf → Rose old.folder new.folder
  pub say_is : new.say ≡ old.say
  pub text_is : (path : List ℕ) → new.text path ≡ old.text path

-- a call failed only where the count of saying rose, and no other count changed
pub record OnlySay {T : Type 0} (old new : Faults) (result : Result T Failed) : Type 0 where
  pub later : old.say ≤ new.say
  pub cause : OnErr result (Rose old.say new.say)
  pub folder_is : new.folder ≡ old.folder
  pub text_is : (path : List ℕ) → new.text path ≡ old.text path

-- a call failed only where the count of that path's text rose, and only counts of texts changed
pub record OnlyText {T : Type 0} (path : List ℕ) (old new : Faults) (result : Result T Failed) : Type 0 where
  pub later : (q : List ℕ) → old.text q ≤ new.text q
  pub cause : OnErr result (Rose (old.text path) (new.text path))
  pub folder_is : new.folder ≡ old.folder
  pub say_is : new.say ≡ old.say

-- the counts of the other texts that are there stay
abbrev pub OtherTextsSame : List ℕ → World → Faults → Faults → Type 0
OtherTextsSame path w old new = (q : List ℕ) → q ≢ path → IsTrue (is_some (w.texts q)) → new.text q ≡ old.text q
