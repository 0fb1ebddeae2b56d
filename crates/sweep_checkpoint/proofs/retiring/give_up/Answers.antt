use Rattle.std.proofs.Common.{◌≡◌, true, refl, sym, subst, ◌∙◌}
use Rattle.std.proofs.lemmas.Bool.{false≢true}
use Rattle.shelf_model.proofs.Changing.{told_changed_none}
use Rattle.sweep_checkpoint.specs.Retires.{NamedIn, Names, IsDropped}
use Rattle.sweep_checkpoint.proofs.Dropped.{emptied_none, cut_one, emptied_one, none_early, none_named}
use Rattle.sweep_checkpoint.proofs.retiring.give_up.Goals as goal

pub returns-then-part-lt-FIRST_RUN_PART-clause-content : goal.returns-then-part-lt-FIRST_RUN_PART-clause-content
returns-then-part-lt-FIRST_RUN_PART-clause-content g c = told_changed_none g.S.Shelf.tells g.S.Shelf.world (IsDropped c.args.new.now (λ p. p ≡ c.args.part)) c.args.shelf.now

pub returns-then-part-lt-FIRST_RUN_PART-clause-ok : goal.returns-then-part-lt-FIRST_RUN_PART-clause-ok
returns-then-part-lt-FIRST_RUN_PART-clause-ok g c = λ tells. emptied_none (IsDropped c.args.new.now (λ p. p ≡ c.args.part)) (g.S.Shelf.world c.args.shelf.now) (none_early g.S.Shelf.tells g.S.Shelf.world c.args.new.now c.args.part c.if-part-lt-FIRST_RUN_PART.true)

pub returns-then-is_named_in-clause-content : goal.returns-then-is_named_in-clause-content
returns-then-is_named_in-clause-content g c = told_changed_none g.S.Shelf.tells g.S.Shelf.world (IsDropped c.args.new.now (λ p. p ≡ c.args.part)) c.args.shelf.now

pub returns-then-is_named_in-clause-ok : goal.returns-then-is_named_in-clause-ok
returns-then-is_named_in-clause-ok g c = λ tells.
    let named : Names c.args.new.now c.args.part = subst (NamedIn c.args.part) c.tables_of.ensures.tables (c.is_named_in.ensures.0 c.if-is_named_in.true) in
    emptied_none (IsDropped c.args.new.now (λ p. p ≡ c.args.part)) (g.S.Shelf.world c.args.shelf.now) (none_named g.S.Shelf.tells g.S.Shelf.world c.args.new.now c.args.part named)

pub returns-clause-content : goal.returns-clause-content
returns-clause-content g c =
    let unnamed : ¬ (Names c.args.new.now c.args.part) = λ named.
    let yes : c.is_named_in.result ≡ true = c.is_named_in.ensures.1 (subst (NamedIn c.args.part) (sym c.tables_of.ensures.tables) named) in
    false≢true (sym c.if-is_named_in.false ∙ yes) in
    cut_one g.S.Shelf.tells g.S.Shelf.world c.args.new.now c.args.part _ _ _ _ refl refl c.if-part-lt-FIRST_RUN_PART.false unnamed c.cut.ensures.content

pub returns-clause-ok : goal.returns-clause-ok
returns-clause-ok g c = emptied_one g.S.Shelf.tells g.S.Shelf.world c.args.new.now c.args.part _ _ _ _ refl refl c.cut.ensures.content
