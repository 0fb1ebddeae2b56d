use Rattle.std.proofs.Common.{ap, length}
use Rattle.shelf_memory.proofs.Answered.{measured}
use Rattle.shelf_memory.proofs.shelf.BenchShelf.len.Goals as goal

pub returns-clause-content : goal.returns-clause-content
returns-clause-content c = measured c.args.self.now c.look.new.self c.args.f _ (ap length c.bytes_of.ensures.value) c.look.ensures.content
