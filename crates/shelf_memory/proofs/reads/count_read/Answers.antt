use Rattle.shelf_memory.proofs.Lookups.{counts_stay}
use Rattle.shelf_memory.proofs.reads.count_read.Goals as goal

pub returns-clause-others : goal.returns-clause-others
returns-clause-others c = counts_stay c.args.reads.now c.insert.new.self c.args.f _ c.in_ok-insert.ensures.updates
