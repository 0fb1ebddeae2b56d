-- Where something remains of a diagram, the lists of its reduction exist.
use Rattle.shelf_model.specs.World.{World}
use Rattle.reduce_lists.specs.AtWork.{AreListed}
use Rattle.reduce_sweep.specs.declared.phase.Phase.{Phase}
use Rattle.reduce_sweep.specs.declared.phase.Phase.TheVariants.{Between, Collect, Number, Forward, Ended}
use Rattle.reduce_sweep.specs.declared.reduce.ReduceSweep.{ReduceSweep}
use Rattle.reduce_sweep.specs.Calls.{HasListsAt, HasLists}
use Rattle.reduce_sweep.specs.Remaining.{Diagram, IsWorking, RemainsIn, RemainsOf}

-- while it works they are those that it holds
pub working_lists : (s : ReduceSweep) (world : World) (d : Diagram) → IsWorking s world d
    → AreListed s.ahead s.lists world
working_lists s world d working = record {
  queue_listed = (working.contents.queue, working.holds.queue_is);
  rows_listed = (working.contents.rows, working.holds.rows_is);
  names_listed = (working.contents.names, working.holds.names_is);
}

lists_at : (p : Phase) (s : ReduceSweep) (world : World) (d : Diagram) → RemainsIn p s world d → HasListsAt p s world
lists_at Between s world d working = working_lists s world d working
lists_at (Collect source) s world d working = working_lists s world d working
lists_at (Number numbered) s world d working = working_lists s world d working
lists_at Forward s world d working = working_lists s world d working
lists_at (Ended count) s world d reduced = tt

pub lists_remain : (s : ReduceSweep) (world : World) (d : Diagram) → RemainsOf s world d → HasLists s world
lists_remain s world d remains = lists_at s.place.phase s world d remains
