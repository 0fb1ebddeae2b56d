use Rattle.shelf_model.proofs.Runs.{told}
use Rattle.catalogue.proofs.Stored.{cleared_so_far, writing_so_far, stores, store_ok}
use Rattle.catalogue.proofs.job.store.Goals as goal

pub returns-in_err-replace_from-2-clause-content : goal.returns-in_err-replace_from-2-clause-content
returns-in_err-replace_from-2-clause-content g c =
    let cleared = cleared_so_far g.S.Shelf.tells g.S.Shelf.world c.args.job.now _ _ c.requires.unstored c.in_ok-replace_from.ensures.content c.in_ok-replace_from.ensures.ok in
    told g.S.Shelf.tells _ _ _ _ (writing_so_far g.S.Shelf.tells g.S.Shelf.world c.args.job.now _ _ _ _ _ cleared c.in_err-replace_from-2.ensures.content) (λ _ both. both.0)

pub returns-clause-content : goal.returns-clause-content
returns-clause-content g c =
    let cleared = cleared_so_far g.S.Shelf.tells g.S.Shelf.world c.args.job.now _ _ c.requires.unstored c.in_ok-replace_from.ensures.content c.in_ok-replace_from.ensures.ok in
    let written = writing_so_far g.S.Shelf.tells g.S.Shelf.world c.args.job.now _ _ _ _ _ cleared c.in_ok-replace_from-2.ensures.content in
    told g.S.Shelf.tells _ _ _ _ (stores g.S.Shelf.tells g.S.Shelf.world c.args.job.now _ _ _ _ written c.in_ok-replace_from-2.ensures.ok c.lengthen.ensures.content) (λ _ both. both.0)

pub returns-clause-ok : goal.returns-clause-ok
returns-clause-ok g c =
    let cleared = cleared_so_far g.S.Shelf.tells g.S.Shelf.world c.args.job.now _ _ c.requires.unstored c.in_ok-replace_from.ensures.content c.in_ok-replace_from.ensures.ok in
    let written = writing_so_far g.S.Shelf.tells g.S.Shelf.world c.args.job.now _ _ _ _ _ cleared c.in_ok-replace_from-2.ensures.content in
    store_ok g.S.Shelf.tells g.S.Shelf.world c.args.job.now _ _ _ _ _ written c.in_ok-replace_from-2.ensures.ok c.lengthen.ensures.content c.lengthen.ensures.ok
