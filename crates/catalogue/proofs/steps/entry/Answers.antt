use Rattle.std.proofs.Common.{refl, sym, ◌∙◌}
use Rattle.shelf_model.specs.World.{now}
use Rattle.catalogue.specs.Counts.{present}
use Rattle.catalogue.proofs.Places.{whole_read, no_entry, other_entry, none_there}
use Rattle.catalogue.proofs.steps.entry.Goals as goal

pub returns-then-got-lt-ENTRY_SIZE-clause-err : goal.returns-then-got-lt-ENTRY_SIZE-clause-err
returns-then-got-lt-ENTRY_SIZE-clause-err g c = λ tells. (refl, refl, no_entry c.args.k c.in_ok-got.got (present (now (g.S.Shelf.world c.args.shelf.now)).folder) _ _ refl c.if-got-lt-ENTRY_SIZE.true (c.in_ok-got.ensures.content.did tells).ok)

pub returns-in_default-clause-err : goal.returns-in_default-clause-err
returns-in_default-clause-err g c = λ tells.
    let read = whole_read c.args.k c.in_ok-got.got (present (now (g.S.Shelf.world c.args.shelf.now)).folder) _ _ refl c.if-got-lt-ENTRY_SIZE.false (c.in_ok-got.ensures.content.did tells).ok in
    (refl, refl, none_there c.args.k (present (now (g.S.Shelf.world c.args.shelf.now)).folder) _ read c.in_default.ensures.only)

pub returns-then-entry-k-clause-err : goal.returns-then-entry-k-clause-err
returns-then-entry-k-clause-err g c = λ tells.
    let read = whole_read c.args.k c.in_ok-got.got (present (now (g.S.Shelf.world c.args.shelf.now)).folder) _ _ refl c.if-got-lt-ENTRY_SIZE.false (c.in_ok-got.ensures.content.did tells).ok in
    (refl, refl, other_entry c.args.k (present (now (g.S.Shelf.world c.args.shelf.now)).folder) c.in-Some.entry _ read c.in-Some.ensures.only c.if-entry-k.true)

pub returns-clause-ok : goal.returns-clause-ok
returns-clause-ok g c = λ tells.
    let read = whole_read c.args.k c.in_ok-got.got (present (now (g.S.Shelf.world c.args.shelf.now)).folder) _ _ refl c.if-got-lt-ENTRY_SIZE.false (c.in_ok-got.ensures.content.did tells).ok in
    record { entry = c.in-Some.ensures.found.0; number = c.if-entry-k.false; bytes = read ∙ sym c.in-Some.ensures.found.1 }
