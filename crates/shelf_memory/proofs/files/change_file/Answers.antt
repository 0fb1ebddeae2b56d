use Rattle.std.proofs.Common.{rules, ap, ◌∙◌}
use Rattle.shelf_memory.specs.Files.{stored_in}
use Rattle.shelf_memory.proofs.Lookups.{others_stay}
use Rattle.shelf_memory.proofs.files.change_file.Goals as goal

pub returns-in-Some-clause-others : goal.returns-in-Some-clause-others
returns-in-Some-clause-others c =
    others_stay c.args.files.now (c.get_mut.follows.lender c.apply.new.self) c.args.f _ ((c.get_mut.follows.holds c.apply.new.self).3 (search rules))

pub returns-clause-others : goal.returns-clause-others
returns-clause-others c = λ q differ. others_stay c.get_mut.follows.lender-at-none c.insert.new.self c.args.f _ c.in_ok-insert.ensures.updates q differ ∙ ap (λ m. stored_in m q) c.get_mut.follows.holds-at-none
