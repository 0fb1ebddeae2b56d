use Rattle.block_stream.proofs.WriteRuns.{sync_on}
use Rattle.block_stream.proofs.filling.settle_records.Goals as goal

pub returns-in_err-sync-clause-content : goal.returns-in_err-sync-clause-content
returns-in_err-sync-clause-content g c =
    sync_on g.S.Shelf.tells g.S.Shelf.world _ _ _ _ _ c.in_ok-flush_records.ensures.content c.sync.ensures.content

pub returns-clause-content : goal.returns-clause-content
returns-clause-content g c =
    sync_on g.S.Shelf.tells g.S.Shelf.world _ _ _ _ _ c.in_ok-flush_records.ensures.content c.sync.ensures.content
