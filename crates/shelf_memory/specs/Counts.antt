-- What the end of a call does to the counts.
use Rattle.std.specs.Prelude.{◌≡◌, ◌≤◌, Bool, ◌||◌, ◌&&◌, not, Result, is_err}
use Rattle.shelf_model.specs.declared.fault.Failed.{Failed}
use Rattle.shelf_memory.specs.declared.counts.Counts.{Counts}
use Rattle.shelf_memory.specs.Texts.{raised}

-- a call of the folder failed where it is to fail or memory was refused, and went astray outside
pub record EndsFolderCall (fails refused : Bool) (result : Result Unit Failed) (old new : Counts) : Type 0 where
  pub answer_is : is_err result ≡ (fails || refused)
  pub inside_is : new.inside ≡ old.inside
  pub strays_are : new.strays ≡ raised (not old.inside) old.strays
  pub starved_is : new.starved ≡ raised refused old.starved
  pub starved_later : old.starved ≤ new.starved
  pub folder_is : new.folder ≡ raised (fails || refused) old.folder
  pub folder_later : old.folder ≤ new.folder
  pub say_is : new.say ≡ old.say
  pub pathless_is : new.pathless ≡ old.pathless

-- a folder was entered, where that didn't fail; another one than the station's own is astray
pub record EndsEntry (home fails refused : Bool) (result : Result Unit Failed) (old new : Counts) : Type 0 where
  pub answer_is : is_err result ≡ (fails || refused)
  pub inside_is : new.inside ≡ (home && (old.inside || not (fails || refused)))
  pub strays_are : new.strays ≡ raised (not home) old.strays
  pub starved_is : new.starved ≡ raised refused old.starved
  pub starved_later : old.starved ≤ new.starved
  pub folder_is : new.folder ≡ raised (fails || refused) old.folder
  pub folder_later : old.folder ≤ new.folder
  pub say_is : new.say ≡ old.say
  pub pathless_is : new.pathless ≡ old.pathless

-- a piece was said, where that didn't fail
pub record EndsSaying (fails refused : Bool) (result : Result Unit Failed) (old new : Counts) : Type 0 where
  pub answer_is : is_err result ≡ (fails || refused)
  pub inside_is : new.inside ≡ old.inside
  pub strays_are : new.strays ≡ old.strays
  pub starved_is : new.starved ≡ raised refused old.starved
  pub starved_later : old.starved ≤ new.starved
  pub folder_is : new.folder ≡ old.folder
  pub say_is : new.say ≡ raised (fails || refused) old.say
  pub say_later : old.say ≤ new.say
  pub pathless_is : new.pathless ≡ old.pathless
