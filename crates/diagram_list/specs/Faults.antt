-- Why a list ended, and which counts of faults it may raise.
use Rattle.std.specs.Prelude.{◌≡◌, ℕ, ◌≤◌, List, Result, IsErrOf}
use Rattle.shelf_model.specs.Faults.{Faults, Rose}
use Rattle.shelf_model.specs.declared.fault.StreamFault.{StreamFault}
use Rattle.shelf_model.specs.declared.fault.StreamFault.TheVariants as stream
use Rattle.diagram_list.specs.declared.fault.ListFault.{ListFault}
use Rattle.diagram_list.specs.declared.fault.ListFault.TheVariants.{Shelf, Say, Damaged}

-- the fault that says the same
abbrev pub list_fault : StreamFault → ListFault
list_fault stream.Shelf = Shelf
list_fault (stream.Damaged file at) = Damaged file at

-- each fault has its count, no count fell, and no text was fetched
pub record ListHasCause (old new : Faults) (result : Result Unit ListFault) : Type 0 where
  pub folder_later : old.folder ≤ new.folder
  pub say_later : old.say ≤ new.say
  pub folder_fault : IsErrOf result Shelf → Rose old.folder new.folder
  pub say_fault : IsErrOf result Say → Rose old.say new.say
  pub text_is : (path : List ℕ) → new.text path ≡ old.text path
