use Rattle.std.proofs.Common.{length}
use Rattle.shelf_model.proofs.Runs.{told}
use Rattle.file_writes.proofs.Written.{replaced_so_far, replaced, not_cut}
use Rattle.file_writes.proofs.writes.replace_from.Goals as goal

pub returns-in_err-append_all-clause-content : goal.returns-in_err-append_all-clause-content
returns-in_err-append_all-clause-content g c =
    told g.S.Shelf.tells _ _ _ _ (replaced_so_far g.S.Shelf.tells g.S.Shelf.world c.args.f c.args.at _ _ _ _ c.requires.within c.in_ok-cut.ensures.content c.in_err-append_all.ensures.content) (λ _ both. both.0)

pub returns-clause-content : goal.returns-clause-content
returns-clause-content g c = replaced g.S.Shelf.tells g.S.Shelf.world c.args.f c.args.at c.args.bytes.now _ _ _ _ _ c.requires.within c.in_ok-cut.ensures.content c.in_ok-append_all.ensures.content c.in_ok-append_all.ensures.ok c.sync.ensures.content

pub returns-in_err-cut-clause-content : goal.returns-in_err-cut-clause-content
returns-in_err-cut-clause-content g c = not_cut g.S.Shelf.tells g.S.Shelf.world c.args.f c.args.at (length c.args.bytes.now) _ _ _ c.in_err-cut.ensures.content
