use Rattle.std.proofs.Common.{sym, ◌∙◌}
use Rattle.shelf_model.proofs.Maps.{file_in-empty}
use Rattle.shelf_memory.proofs.Events.{agrees_empty}
use Rattle.shelf_memory.proofs.Lookups.{none_stored}
use Rattle.shelf_memory.proofs.disk.Disk.empty.Goals as goal

pub invariant_of-result : goal.invariant_of-result
invariant_of-result c = record { agrees = λ _. agrees_empty _ _ _ (λ q. none_stored c.new.result c.new.ensures.empty q ∙ sym (file_in-empty q)) c.new-2.ensures.items c.new-3.ensures.items }
