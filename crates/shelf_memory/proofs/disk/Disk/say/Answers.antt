use Rattle.std.proofs.Common.{◌≡◌, ◌+◌, ◌++◌, ◌∷◌, [], sym, ap, ◌∙◌, arith}
use Rattle.shelf_model.specs.World.{Moment}
use Rattle.shelf_memory.proofs.Events.{agrees_said, ticked, called_moment}
use Rattle.shelf_memory.specs.declared.event.Event.TheVariants.{Called}
use Rattle.shelf_memory.specs.declared.event.Call.TheVariants.{Said}
use Rattle.shelf_memory.proofs.disk.Disk.say.Goals as goal

pub note-requires-clause-agrees : goal.note-requires-clause-agrees
note-requires-clause-agrees c = λ counts.
    let piece : c.in_ok-copy.copy.items ≡ c.args.piece.now = c.in_ok-copy.ensures.items in
    let more : c.extend_from_slice.new.self.items ≡ c.args.self.now.said.items ++ c.in_ok-copy.copy.items =
    c.in_ok-extend_from_slice.ensures.items ∙ ap (λ piece. c.args.self.now.said.items ++ piece) (sym piece) in
    rw c.reserve.ensures.items (agrees_said _ _ _ _ _ c.in_ok-copy.copy (c.args.self.now.agrees (omega (arith, counts))) more)

pub returns-clause-past : goal.returns-clause-past
returns-clause-past c = λ counts.
    let clock : c.note.new.self.clock ≡ c.args.self.now.clock + 1 = omega (arith, counts, c.note.ensures.clock) in
    let events : c.note.new.self.events.items ≡ c.args.self.now.events.items ++ Called (Said c.in_ok-copy.copy) ∷ [] =
    c.note.ensures.events counts ∙ ap (λ es. es ++ Called (Said c.in_ok-copy.copy) ∷ []) c.reserve.ensures.items in
    let before = c.args.self.now.agrees (omega (arith, counts, clock)) in
    ticked c.args.self.now c.note.new.self (Said c.in_ok-copy.copy) before.calls_are clock events

pub returns-clause-folder : goal.returns-clause-folder
returns-clause-folder c = λ counts.
    let clock : c.note.new.self.clock ≡ c.args.self.now.clock + 1 = omega (arith, counts, c.note.ensures.clock) in
    let events : c.note.new.self.events.items ≡ c.args.self.now.events.items ++ Called (Said c.in_ok-copy.copy) ∷ [] =
    c.note.ensures.events counts ∙ ap (λ es. es ++ Called (Said c.in_ok-copy.copy) ∷ []) c.reserve.ensures.items in
    ap (λ (m : Moment). m.folder)
    (called_moment _ _ _ _ _ _ _ _ (Said c.in_ok-copy.copy) (c.args.self.now.agrees (omega (arith, counts, clock))) (c.note.new.self.agrees counts) events)
