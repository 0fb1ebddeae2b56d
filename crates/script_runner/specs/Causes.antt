-- Why a run ended as it did.
use Rattle.std.specs.Prelude.{◌≡◌, ℕ, ◌≤◌, List, Result, IfErr}
use Rattle.shelf_model.specs.Faults.{Faults, Rose}
use Rattle.script_runner.specs.declared.finish.Finish.{Finish}
use Rattle.script_runner.specs.declared.finish.Finish.TheVariants.{FolderFault, SayFault}

-- each fault has its count, and no text was fetched
pub record FinishHasCause (old new : Faults) (finish : Finish) : Type 0 where
  pub folder_later : old.folder ≤ new.folder
  pub say_later : old.say ≤ new.say
  pub folder_fault : finish ≡ FolderFault → Rose old.folder new.folder
  pub say_fault : finish ≡ SayFault → Rose old.say new.say
  pub text_is : (path : List ℕ) → new.text path ≡ old.text path

-- no count fell, no text was fetched, and what stopped a part of a run has its count
pub record StopHasCause {T : Type 0} (old new : Faults) (result : Result T Finish) : Type 0 where
  pub folder_later : old.folder ≤ new.folder
  pub say_later : old.say ≤ new.say
  pub text_is : (path : List ℕ) → new.text path ≡ old.text path
  pub folder_fault : IfErr result (λ finish. finish ≡ FolderFault → Rose old.folder new.folder)
  pub say_fault : IfErr result (λ finish. finish ≡ SayFault → Rose old.say new.say)
