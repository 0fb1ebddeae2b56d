use Rattle.shelf_model.proofs.Runs.{told}
use Rattle.catalogue.proofs.Waiting.{put_failed, put_so_far, put_ok}
use Rattle.catalogue.proofs.steps.put_entry.Goals as goal

pub returns-in_err-cut-clause-content : goal.returns-in_err-cut-clause-content
returns-in_err-cut-clause-content g c = put_failed g.S.Shelf.tells g.S.Shelf.world c.args.committed c.args.entry.now _ _ _ c.requires.ready c.in_err-cut.ensures.content

pub returns-clause-content : goal.returns-clause-content
returns-clause-content g c =
    let so_far = put_so_far g.S.Shelf.tells g.S.Shelf.world c.args.committed c.args.entry.now c.to_bytes.result _ _ _ c.to_bytes.ensures.len c.requires.ready c.requires.within c.in_ok-cut.ensures.content c.append_all.ensures.content in
    told g.S.Shelf.tells _ _ _ _ so_far (λ _ both. both.0)

pub returns-clause-ok : goal.returns-clause-ok
returns-clause-ok g c =
    let so_far = put_so_far g.S.Shelf.tells g.S.Shelf.world c.args.committed c.args.entry.now c.to_bytes.result _ _ _ c.to_bytes.ensures.len c.requires.ready c.requires.within c.in_ok-cut.ensures.content c.append_all.ensures.content in
    put_ok g.S.Shelf.tells g.S.Shelf.world c.args.committed c.args.entry.now c.to_bytes.result _ _ _ _ c.to_bytes.ensures.bytes c.to_bytes.ensures.len c.requires.behind c.requires.ready c.requires.within so_far c.append_all.ensures.ok
