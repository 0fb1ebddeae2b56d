use Rattle.shelf_memory.proofs.Lookups.{others_stay}
use Rattle.shelf_memory.proofs.files.put_stored.Goals as goal

pub returns-clause-others : goal.returns-clause-others
returns-clause-others c = others_stay c.args.files.now c.insert.new.self c.args.f _ c.in_ok-insert.ensures.updates
