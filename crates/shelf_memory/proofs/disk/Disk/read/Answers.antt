use Rattle.std.proofs.Common.{◌≡◌, ◌+◌, ◌++◌, ◌∷◌, [], ap, ◌∙◌, arith}
use Rattle.shelf_memory.proofs.Events.{agrees_kept, ticked, called_moment}
use Rattle.shelf_memory.specs.declared.event.Event.TheVariants.{Called}
use Rattle.shelf_memory.specs.declared.event.Call.TheVariants.{Nothing}
use Rattle.shelf_memory.proofs.disk.Disk.read.Goals as goal

pub note-requires-clause-agrees : goal.note-requires-clause-agrees
note-requires-clause-agrees c = λ counts. rw c.reserve.ensures.items (agrees_kept _ _ _ _ (c.args.self.now.agrees (omega (arith, counts))))

pub returns-clause-past : goal.returns-clause-past
returns-clause-past c = λ counts.
    let clock : c.note.new.self.clock ≡ c.args.self.now.clock + 1 = omega (arith, counts, c.note.ensures.clock) in
    let events : c.note.new.self.events.items ≡ c.args.self.now.events.items ++ Called Nothing ∷ [] =
    c.note.ensures.events counts ∙ ap (λ es. es ++ Called Nothing ∷ []) c.reserve.ensures.items in
    let before = c.args.self.now.agrees (omega (arith, counts, clock)) in
    ticked c.args.self.now c.note.new.self Nothing before.calls_are clock events

pub returns-clause-same : goal.returns-clause-same
returns-clause-same c = λ counts.
    let clock : c.note.new.self.clock ≡ c.args.self.now.clock + 1 = omega (arith, counts, c.note.ensures.clock) in
    let events : c.note.new.self.events.items ≡ c.args.self.now.events.items ++ Called Nothing ∷ [] =
    c.note.ensures.events counts ∙ ap (λ es. es ++ Called Nothing ∷ []) c.reserve.ensures.items in
    called_moment _ _ _ _ _ _ _ _ Nothing (c.args.self.now.agrees (omega (arith, counts, clock))) (c.note.new.self.agrees counts) events
