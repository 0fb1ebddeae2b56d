-- Which counts of faults an attach may raise.
use Rattle.std.specs.Prelude.{◌≡◌, ℕ, ◌≤◌, List, Result, IsErrOf}
use Rattle.shelf_model.specs.Faults.{Faults, Rose}
use Rattle.shelf_model.specs.declared.fault.StreamFault.{StreamFault}
use Rattle.shelf_model.specs.declared.fault.StreamFault.TheVariants as stream
use Rattle.catalogue.specs.declared.fault.AttachFault.{AttachFault}
use Rattle.catalogue.specs.declared.fault.AttachFault.TheVariants.{Shelf, Damaged}

-- the fault that says the same
abbrev pub attach_fault : StreamFault → AttachFault
attach_fault stream.Shelf = Shelf
attach_fault (stream.Damaged file at) = Damaged file at

-- it answered Shelf only where the folder's count rose, and no other count changed
pub record OnlyAttach {T : Type 0} (old new : Faults) (result : Result T AttachFault) : Type 0 where
  pub later : old.folder ≤ new.folder
  pub cause : IsErrOf result Shelf → Rose old.folder new.folder
  pub say_is : new.say ≡ old.say
  pub text_is : (path : List ℕ) → new.text path ≡ old.text path
