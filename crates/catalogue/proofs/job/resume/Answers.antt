use Rattle.std.proofs.Common.{◌∙◌, ap}
use Rattle.std.specs.Prelude.{IsTrue}
use Rattle.shelf_model.specs.World.{now, file}
use Rattle.shelf_model.specs.Moments.{Stays}
use Rattle.shelf_model.proofs.Runs.{ran_end}
use Rattle.catalogue.specs.Files.{job_file}
use Rattle.catalogue.specs.Counts.{present}
use Rattle.catalogue.proofs.Resumed.{has_read, still_shared, is_gated, refused, this_job, resumed_answer, counted_before, resume_ok}
use Rattle.catalogue.proofs.Synced.{is_job_file, sync_first, len_next, reads_next}
use Rattle.catalogue.proofs.job.resume.Goals as goal

pub returns-in_err-size-clause-content : goal.returns-in_err-size-clause-content
returns-in_err-size-clause-content g c =
    let one = sync_first g.S.Shelf.tells g.S.Shelf.world _ _ c.args.shelf.now c.sync.new.self is_job_file g.met.S.Shelf.files_are c.in_ok-sync.ensures.content in
    len_next g.S.Shelf.tells g.S.Shelf.world _ _ c.args.shelf.now c.sync.new.self c.len.new.self one c.in_err-size.ensures.content

pub returns-in_err-same-clause-content : goal.returns-in_err-same-clause-content
returns-in_err-same-clause-content g c =
    let one = sync_first g.S.Shelf.tells g.S.Shelf.world _ _ c.args.shelf.now c.sync.new.self is_job_file g.met.S.Shelf.files_are c.in_ok-sync.ensures.content in
    let two = len_next g.S.Shelf.tells g.S.Shelf.world _ _ c.args.shelf.now c.sync.new.self c.len.new.self one c.in_ok-size.ensures.content in
    reads_next g.S.Shelf.tells g.S.Shelf.world c.args.shelf.now c.len.new.self c.shared_with_stored.new.shelf two c.in_err-same.ensures.content

pub returns-then-same-size-clause-content : goal.returns-then-same-size-clause-content
returns-then-same-size-clause-content g c =
    let one = sync_first g.S.Shelf.tells g.S.Shelf.world _ _ c.args.shelf.now c.sync.new.self is_job_file g.met.S.Shelf.files_are c.in_ok-sync.ensures.content in
    let two = len_next g.S.Shelf.tells g.S.Shelf.world _ _ c.args.shelf.now c.sync.new.self c.len.new.self one c.in_ok-size.ensures.content in
    reads_next g.S.Shelf.tells g.S.Shelf.world c.args.shelf.now c.len.new.self c.shared_with_stored.new.shelf two c.in_ok-same.ensures.content

pub returns-then-same-size-clause-answer : goal.returns-then-same-size-clause-answer
returns-then-same-size-clause-answer g c = λ tells_read not_shelf.
    let tells_size = c.in_ok-same.ensures.content.before tells_read in
    let tells_sync = c.in_ok-size.ensures.content.before tells_size in
    let tells_old = c.in_ok-sync.ensures.content.before tells_sync in
    let w = g.S.Shelf.world c.args.shelf.now in
    let v = g.S.Shelf.world c.sync.new.self in
    let t = g.S.Shelf.world c.len.new.self in
    let u = g.S.Shelf.world c.shared_with_stored.new.shelf in
    let synced = c.in_ok-sync.ensures.content.did tells_sync in
    let measured = c.in_ok-size.ensures.content.did tells_size in
    let stays = ran_end t u (Stays (now t)) (c.in_ok-same.ensures.content.did tells_read) in
    let read = has_read w v t u c.in_ok-size.size synced measured stays in
    let shared = still_shared w v t c.in_ok-same.same c.in_ok-size.size c.args.job.now synced measured (c.in_ok-same.ensures.ok tells_read) in
    refused c.args.job.now c.args.steps c.in_ok-same.same c.in_ok-size.size (present (now w).folder) (is_gated (now w).folder (c.requires.stored tells_old)) read.measured shared c.then-same-size.either

pub returns-clause-content : goal.returns-clause-content
returns-clause-content g c =
    let one = sync_first g.S.Shelf.tells g.S.Shelf.world _ _ c.args.shelf.now c.sync.new.self is_job_file g.met.S.Shelf.files_are c.in_ok-sync.ensures.content in
    let two = len_next g.S.Shelf.tells g.S.Shelf.world _ _ c.args.shelf.now c.sync.new.self c.len.new.self one c.in_ok-size.ensures.content in
    let three = reads_next g.S.Shelf.tells g.S.Shelf.world c.args.shelf.now c.len.new.self c.shared_with_stored.new.shelf two c.in_ok-same.ensures.content in
    reads_next g.S.Shelf.tells g.S.Shelf.world c.args.shelf.now c.shared_with_stored.new.shelf c.count_steps.new.shelf three c.count_steps.ensures.content

pub returns-clause-answer : goal.returns-clause-answer
returns-clause-answer g c = λ tells not_shelf.
    let tells_read = c.count_steps.ensures.content.before tells in
    let tells_size = c.in_ok-same.ensures.content.before tells_read in
    let tells_sync = c.in_ok-size.ensures.content.before tells_size in
    let tells_old = c.in_ok-sync.ensures.content.before tells_sync in
    let w = g.S.Shelf.world c.args.shelf.now in
    let v = g.S.Shelf.world c.sync.new.self in
    let t = g.S.Shelf.world c.len.new.self in
    let u = g.S.Shelf.world c.shared_with_stored.new.shelf in
    let synced = c.in_ok-sync.ensures.content.did tells_sync in
    let measured = c.in_ok-size.ensures.content.did tells_size in
    let stays = ran_end t u (Stays (now t)) (c.in_ok-same.ensures.content.did tells_read) in
    let read = has_read w v t u c.in_ok-size.size synced measured stays in
    let shared = still_shared w v t c.in_ok-same.same c.in_ok-size.size c.args.job.now synced measured (c.in_ok-same.ensures.ok tells_read) in
    let same = this_job c.args.job.now (file w job_file).bytes c.in_ok-same.same c.in_ok-size.size read.measured shared c.if-same-size.false c.if-size-job.false in
    c.count_steps.ensures.answer tells not_shelf ∙ resumed_answer c.args.job.now c.args.steps c.in_ok-size.size w u (is_gated (now w).folder (c.requires.stored tells_old)) same read

pub returns-clause-ok : goal.returns-clause-ok
returns-clause-ok g c = resume_ok c.args.job.now c.args.steps (IsTrue (g.S.Shelf.tells c.count_steps.new.shelf)) c.count_steps.result
    (g.S.Shelf.world c.args.shelf.now) (g.S.Shelf.world c.sync.new.self) (g.S.Shelf.world c.count_steps.new.shelf) (λ tells.
    let tells_read = c.count_steps.ensures.content.before tells in
    let tells_size = c.in_ok-same.ensures.content.before tells_read in
    let tells_sync = c.in_ok-size.ensures.content.before tells_size in
    let tells_old = c.in_ok-sync.ensures.content.before tells_sync in
    let w = g.S.Shelf.world c.args.shelf.now in
    let v = g.S.Shelf.world c.sync.new.self in
    let t = g.S.Shelf.world c.len.new.self in
    let u = g.S.Shelf.world c.shared_with_stored.new.shelf in
    let synced = c.in_ok-sync.ensures.content.did tells_sync in
    let measured = c.in_ok-size.ensures.content.did tells_size in
    let stays = ran_end t u (Stays (now t)) (c.in_ok-same.ensures.content.did tells_read) in
    let read = has_read w v t u c.in_ok-size.size synced measured stays in
    let shared = still_shared w v t c.in_ok-same.same c.in_ok-size.size c.args.job.now synced measured (c.in_ok-same.ensures.ok tells_read) in
    let x = g.S.Shelf.world c.count_steps.new.shelf in
    record {
      sure = c.requires.sure tells_old;
      stored = c.requires.stored tells_old;
      synced = synced;
      same = this_job c.args.job.now (file w job_file).bytes c.in_ok-same.same c.in_ok-size.size read.measured shared c.if-same-size.false c.if-size-job.false;
      stays = ran_end u x (Stays (now u)) (c.count_steps.ensures.content.did tells) ∙ stays ∙ ap (λ m. m.folder) measured.same;
      answer = λ not_shelf. c.count_steps.ensures.answer tells not_shelf ∙ counted_before c.args.steps c.in_ok-size.size w u read;
    })
