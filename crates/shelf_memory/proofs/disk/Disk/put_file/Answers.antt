use Rattle.std.proofs.Common.{◌≡◌, ◌++◌, ◌∷◌, [], sym, ap, ◌∙◌, arith}
use Rattle.shelf_model.specs.File.{firm_file}
use Rattle.shelf_memory.specs.Events.{moment_of}
use Rattle.shelf_memory.specs.Files.{stored_in}
use Rattle.shelf_memory.specs.declared.event.Event.TheVariants.{Put}
use Rattle.shelf_memory.proofs.Events.{agrees_put, moment_of-put}
use Rattle.shelf_memory.proofs.disk.Disk.put_file.Goals as goal

pub invariant_of-self-2 : goal.invariant_of-self-2
invariant_of-self-2 c = record {
  agrees = λ counts. rw c.push_reserved.ensures.items (rw c.reserve.ensures.items
      (agrees_put _ (stored_in c.args.self.now.files) _ _ _ c.args.f c.in_ok-copy.copy (c.args.self.now.agrees counts)
      (c.in_ok-put_stored.ensures.ok ∙ c.in_ok-stored.ensures ∙ ap firm_file (sym c.in_ok-copy.ensures.items)) c.put_stored.ensures.others));
}

pub returns-clause-past : goal.returns-clause-past
returns-clause-past c = λ counts k before.
    let events : c.push_reserved.new.self.items ≡ c.args.self.now.events.items ++ Put c.args.f c.in_ok-copy.copy ∷ [] =
    c.push_reserved.ensures.items ∙ ap (λ es. es ++ Put c.args.f c.in_ok-copy.copy ∷ []) c.reserve.ensures.items in
    let agrees = c.args.self.now.agrees counts in
    ap (λ es. moment_of es k) events ∙ moment_of-put k c.args.self.now.events.items c.args.f c.in_ok-copy.copy (omega (arith, before, agrees.calls_are))
