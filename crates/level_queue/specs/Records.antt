-- The records of the items that wait in a queue, wherever they stand.
use Rattle.std.specs.Prelude.{List}
use Rattle.rec_words.specs.declared.rec.Rec.{Rec}
use Rattle.shelf_model.specs.World.{World}
use Rattle.run_merge.specs.Places.{all_of}
use Rattle.run_merge.specs.Sorters.{store_of}
use Rattle.level_queue.specs.declared.queue.LevelQueue.{LevelQueue}

-- the records that wait in that world: those of the room, and those that are left of the runs
unfoldable pub records_of : {T : Type 0} → LevelQueue T → World → List Rec
records_of q world = all_of (store_of q.sorter) world
