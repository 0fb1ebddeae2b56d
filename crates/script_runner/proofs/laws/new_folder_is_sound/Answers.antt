use Rattle.script_runner.proofs.Lives.{new_folder_is_sound}
use Rattle.script_runner.proofs.laws.new_folder_is_sound.Goals as goal

pub returns : goal.returns
returns c = record { sound = new_folder_is_sound }
