use Rattle.std.proofs.Common.{◌*◌, take}
use Rattle.std.specs.Prelude.{IsTrue, All, Ok}
use Rattle.shelf_model.specs.Calls.{Told}
use Rattle.shelf_model.specs.Faults.{OnlyFolder}
use Rattle.run_tiers.specs.Syncs.{RunsSynced}
use Rattle.step_going.specs.Found.{IsOf, IsSureRun}
use Rattle.step_going.proofs.finding.secure_tables.Given as goal

-- only files of the step were made sure, and the runs of the tables so far are
abbrev pub invariant-loop-k : goal.invariant-loop-k
invariant-loop-k g l = record {
  content : Told g.S.Shelf.tells l.fn.shelf l.shelf (RunsSynced (64 * l.k) (IsOf l.step) (g.S.Shelf.world l.fn.shelf) (g.S.Shelf.world l.shelf));
  sure : IsTrue (g.S.Shelf.tells l.shelf) → All (All (IsSureRun l.step (g.S.Shelf.world l.shelf))) (take l.k l.tables);
  faults : OnlyFolder {T = Unit} (g.S.Shelf.faults l.fn.shelf) (g.S.Shelf.faults l.shelf) (Ok tt);
}
