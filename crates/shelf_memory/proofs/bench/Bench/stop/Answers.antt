use Rattle.std.proofs.Common.{sym, ap, ◌∙◌}
use Rattle.shelf_model.specs.declared.file_no.FileNo.{FileNo}
use Rattle.shelf_model.specs.File.{File, firm_file}
use Rattle.shelf_model.specs.World.{now, file}
use Rattle.shelf_model.proofs.Images.{chosen, chosen_image, bytes_in-chosen}
use Rattle.shelf_memory.specs.Benches.{world_of}
use Rattle.shelf_memory.specs.Choices.{chosen_of}
use Rattle.shelf_memory.specs.Laws.{all_are_files}
use Rattle.shelf_memory.proofs.Answered.{present}
use Rattle.shelf_memory.proofs.Stops.{chosen_left}
use Rattle.shelf_memory.proofs.bench.Bench.stop.Goals as goal

pub returns-clause-files : goal.returns-clause-files
returns-clause-files c = λ f. present c.take_files.new.self c.in_ok-take_files.ensures.fresh.tells f ∙ c.in_ok-take_files.ensures.files f

pub returns-clause-told : goal.returns-clause-told
returns-clause-told c = λ tells f.
    present c.take_files.new.self c.in_ok-take_files.ensures.fresh.tells f ∙ c.in_ok-take_files.ensures.files f
    ∙ ap (λ (x : File). firm_file (chosen_of c.args.choice f x)) (sym (present c.args.self tells f))

pub returns-clause-image : goal.returns-clause-image
returns-clause-image c = λ tells.
    let folder = (now (world_of c.args.self)).folder in
    let left = λ (f : FileNo). chosen_left c.args.choice f (file (world_of c.args.self) f) (all_are_files c.args.self tells f) in (
      chosen (chosen_of c.args.choice) folder,
      chosen_image (chosen_of c.args.choice) folder left,
      λ f. present c.take_files.new.self c.in_ok-take_files.ensures.fresh.tells f ∙ c.in_ok-take_files.ensures.files f
          ∙ ap (λ (x : File). firm_file (chosen_of c.args.choice f x)) (sym (present c.args.self tells f))
          ∙ ap firm_file (sym (bytes_in-chosen (chosen_of c.args.choice) folder f (left f))),
    )
