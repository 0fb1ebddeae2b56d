-- The records that wait in a queue are those of its list.
use Rattle.std.proofs.Common.{ℕ, List}
use Rattle.std.specs.Prelude.{map}
use Rattle.std.specs.declared.cmp.Ordering.{Ordering}
use Rattle.shelf_model.specs.World.{World}
use Rattle.run_files.specs.Items.{record_of}
use Rattle.record_room.specs.Members.{SameMembers}
use Rattle.level_queue.specs.declared.queue.LevelQueue.{LevelQueue}
use Rattle.level_queue.specs.Queues.{Lists}
use Rattle.level_queue.specs.Records.{records_of}

pub queue_records : {T : Type 0} (is_value : T → Type 0) (words : T → List ℕ)
    (cmp : T → T → Ordering) (q : LevelQueue T) (world : World) (xs : List T)
    → Lists is_value words cmp q world xs
    → SameMembers (map (record_of words) xs) (records_of q world)
unfolding records_of
queue_records is_value words cmp q world xs list = list.sorter.members
