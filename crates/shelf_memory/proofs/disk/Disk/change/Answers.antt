use Rattle.std.proofs.Common.{◌≡◌, ◌+◌, ◌++◌, ◌∷◌, [], ap, ◌∙◌, arith}
use Rattle.shelf_memory.proofs.Events.{agrees_changed, ticked}
use Rattle.shelf_memory.specs.Files.{stored_in}
use Rattle.shelf_memory.specs.declared.event.Event.TheVariants.{Called}
use Rattle.shelf_memory.specs.declared.event.Call.TheVariants.{Changed}
use Rattle.shelf_memory.proofs.disk.Disk.change.Goals as goal

pub note-requires-clause-agrees : goal.note-requires-clause-agrees
note-requires-clause-agrees c = λ counts. rw c.reserve.ensures.items
    (agrees_changed _ (stored_in c.args.self.now.files) _ _ _ c.args.f c.args.change (c.args.self.now.agrees (omega (arith, counts)))
    c.in_ok-change_file.ensures.ok c.change_file.ensures.others)

pub returns-clause-past : goal.returns-clause-past
returns-clause-past c = λ counts.
    let clock : c.note.new.self.clock ≡ c.args.self.now.clock + 1 = omega (arith, counts, c.note.ensures.clock) in
    let events : c.note.new.self.events.items ≡ c.args.self.now.events.items ++ Called (Changed c.args.f c.args.change) ∷ [] =
    c.note.ensures.events counts ∙ ap (λ es. es ++ Called (Changed c.args.f c.args.change) ∷ []) c.reserve.ensures.items in
    let before = c.args.self.now.agrees (omega (arith, counts, clock)) in
    ticked c.args.self.now c.note.new.self (Changed c.args.f c.args.change) before.calls_are clock events
