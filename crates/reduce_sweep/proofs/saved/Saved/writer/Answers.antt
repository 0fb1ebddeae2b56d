use Rattle.std.proofs.Common.{◌*◌, sym, subst}
use Rattle.rec_words.specs.Words.{node_size}
use Rattle.shelf_model.specs.Calls.{Told}
use Rattle.shelf_model.specs.Moments.{Ran}
use Rattle.shelf_model.specs.World.{now}
use Rattle.shelf_model.proofs.Runs.{told_then}
use Rattle.block_stream.specs.Writes.{DuringCut}
use Rattle.reduce_lists.proofs.Beginning.{was_cut}
use Rattle.reduce_sweep.proofs.Rebuilding.{cut_synced}
use Rattle.reduce_sweep.proofs.saved.Saved.writer.Goals.{in-Ended+in_ok-sync, in_default}
use Rattle.reduce_sweep.proofs.saved.Saved.writer.Goals as goal

-- a sync leaves the bytes
pub returns-clause-content : goal.returns-clause-content
returns-clause-content g c =
    let tells = g.S.Shelf.tells in
    let world = g.S.Shelf.world in
    let out = c.args.self.now.out in
    let to = c.args.self.now.kept * node_size in
    let was = was_cut tells world out to 2 c.args.shelf.now c.resume.new.shelf c.resume.ensures.content in
    elim c.match-phase.branch [
      | in-Ended+in_ok-sync w ↦ subst
          (λ s. Told tells c.args.shelf.now s
          (Ran (DuringCut out to (now (world c.args.shelf.now))) (world c.args.shelf.now) (world s))) (sym w.shelf-is)
          (told_then tells c.args.shelf.now c.resume.new.shelf w.sync.new.self _ _ _ was w.sync.ensures.content
          (λ _ ran did. cut_synced out to w.sync.result (world c.args.shelf.now) (world c.resume.new.shelf)
          (world w.sync.new.self) ran did))
      | in_default w ↦ subst
          (λ s. Told tells c.args.shelf.now s
          (Ran (DuringCut out to (now (world c.args.shelf.now))) (world c.args.shelf.now) (world s))) (sym w.shelf-is)
          was
    ]
