use Rattle.std.proofs.Common.{◌+◌, ◌*◌, ◌≤◌}
use Rattle.std.specs.Prelude.{IsTrue, Ok, Result}
use Rattle.std.specs.List.{flat_map}
use Rattle.shelf_model.specs.World.{now}
use Rattle.shelf_model.specs.Calls.{Told}
use Rattle.catalogue.specs.Counts.{present, count_in}
use Rattle.diagram_list.specs.declared.fault.ListFault.{ListFault}
use Rattle.diagram_list.specs.Faults.{ListHasCause}
use Rattle.diagram_list.specs.Listing.{step_line, first_steps}
use Rattle.diagram_list.specs.Lists.{SaysText}
use Rattle.diagram_list.proofs.list.say_lines.Given as goal

-- the lines of the first steps were said
abbrev pub invariant-loop-k : goal.invariant-loop-k
invariant-loop-k g l = record {
  said : Told g.W.Shelf.tells l.fn.station l.station
      (SaysText (flat_map (step_line (present (now (g.W.Shelf.world l.fn.station)).folder) (count_in (present (now (g.W.Shelf.world l.fn.station)).folder))) (first_steps l.k))
      (let r : Result Unit ListFault = Ok tt in r) (g.W.Shelf.world l.fn.station) (g.W.Shelf.world l.station));
  calls : IsTrue (g.W.Shelf.tells l.station) → (g.W.Shelf.world l.station).clock ≤ (g.W.Shelf.world l.fn.station).clock + 2 * l.k;
  causes : ListHasCause (g.W.Shelf.faults l.fn.station) (g.W.Shelf.faults l.station) (let r : Result Unit ListFault = Ok tt in r);
}
