use Rattle.catalogue.proofs.Synced.{is_job_gate, is_step_gate, sync_first, sync_next, len_next}
use Rattle.catalogue.proofs.job.make_gates_sure.Goals as goal

pub returns-in_err-sync-2-clause-content : goal.returns-in_err-sync-2-clause-content
returns-in_err-sync-2-clause-content g c =
    let one = sync_first g.S.Shelf.tells g.S.Shelf.world _ _ _ _ is_job_gate g.met.S.Shelf.files_are c.in_ok-sync.ensures.content in
    sync_next g.S.Shelf.tells g.S.Shelf.world _ _ _ _ _ is_step_gate g.met.S.Shelf.files_are one c.in_err-sync-2.ensures.content

pub returns-clause-content : goal.returns-clause-content
returns-clause-content g c =
    let one = sync_first g.S.Shelf.tells g.S.Shelf.world _ _ _ _ is_job_gate g.met.S.Shelf.files_are c.in_ok-sync.ensures.content in
    let two = sync_next g.S.Shelf.tells g.S.Shelf.world _ _ _ _ _ is_step_gate g.met.S.Shelf.files_are one c.in_ok-sync-2.ensures.content in
    len_next g.S.Shelf.tells g.S.Shelf.world _ _ _ _ _ two c.len.ensures.content
