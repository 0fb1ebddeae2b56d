use Rattle.std.proofs.Common.{◌+◌, ◌*◌, ◌≤◌, take}
use Rattle.std.specs.Prelude.{IsTrue, Ok, Result}
use Rattle.shelf_model.specs.World.{now}
use Rattle.shelf_model.specs.Calls.{Told}
use Rattle.catalogue.specs.Counts.{present}
use Rattle.catalogue.specs.Entries.{IsEntryOf}
use Rattle.script_runner.specs.declared.finish.Finish.{Finish}
use Rattle.script_runner.specs.StepRuns.{SaysLines}
use Rattle.script_runner.specs.Causes.{StopHasCause}
use Rattle.script_runner.proofs.say.say_lines.Given as goal

-- the lines so far were said
abbrev pub invariant-loop-line : goal.invariant-loop-line
invariant-loop-line g l = record {
  said : Told g.W.Shelf.tells l.fn.station l.station
      (SaysLines l.steps (l.made.number + 1) (take l.line-index l.lines) l.made (let r : Result Unit Finish = Ok tt in r) (g.W.Shelf.world l.fn.station) (g.W.Shelf.world l.station));
  stands : IsTrue (g.W.Shelf.tells l.station) → IsEntryOf l.made.number (present (now (g.W.Shelf.world l.station)).folder) l.made;
  calls : IsTrue (g.W.Shelf.tells l.station) → (g.W.Shelf.world l.station).clock ≤ (g.W.Shelf.world l.fn.station).clock + 2 * l.line-index;
  causes : StopHasCause (g.W.Shelf.faults l.fn.station) (g.W.Shelf.faults l.station) (let r : Result Unit Finish = Ok tt in r);
}
