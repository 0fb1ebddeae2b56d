use Rattle.shelf_memory.proofs.Reached.{said_so, told_before}
use Rattle.shelf_memory.proofs.station.BenchStation.say.Goals as goal

pub returns-clause-content : goal.returns-clause-content
returns-clause-content c = record {
  before = told_before c.args.self.now c.say.new.self c.say.ensures.past;
  did = said_so c.args.self.now c.say.new.self c.end_saying.new.self c.args.bytes.now c.say.result c.end_saying.result c.say.ensures.clock c.say.ensures.past
      c.say.ensures.folder c.say.ensures.ok c.end_saying.ensures.inside_is c.end_saying.ensures.strays_are;
}
