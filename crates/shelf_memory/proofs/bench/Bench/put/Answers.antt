use Rattle.shelf_model.specs.File.{appended}
use Rattle.shelf_memory.proofs.Reached.{reached, told_before}
use Rattle.shelf_memory.proofs.bench.Bench.put.Goals as goal

pub returns-clause-content : goal.returns-clause-content
returns-clause-content c = record {
  before = told_before c.args.self.now c.append.new.self c.append.ensures.past;
  did = reached c.args.self.now c.append.new.self c.end_folder_call.new.self c.args.f (appended c.args.piece.now) c.append.result c.append.ensures.clock c.append.ensures.past
      c.append.ensures.ok c.append.ensures.others c.end_folder_call.ensures.inside_is c.end_folder_call.ensures.strays_are;
}
