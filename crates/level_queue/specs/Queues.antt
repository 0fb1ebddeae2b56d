-- What is seen of a queue.
use Rattle.std.specs.Prelude.{◌≡◌, ℕ, ◌⊎◌, true, false, List, All, Result, Option, Ok, Err, Some, None, IfSome}
use Rattle.std.specs.Ordering.{is_lt}
use Rattle.std.specs.declared.cmp.Ordering.{Ordering}
use Rattle.shelf_model.specs.declared.file_no.FileNo.{FileNo}
use Rattle.shelf_model.specs.declared.sort_fault.SortFault.{SortFault}
use Rattle.shelf_model.specs.declared.sort_fault.SortFault.TheVariants.{Shelf, Damaged, RunsSpent}
use Rattle.shelf_model.specs.World.{World}
use Rattle.run_files.specs.Items.{record_of}
use Rattle.run_tiers.specs.declared.parts.Parts.{Parts}
use Rattle.run_merge.specs.declared.sorter.Sorter.{Sorter}
use Rattle.run_merge.specs.Sorters as sorters
use Rattle.level_queue.specs.declared.queue.LevelQueue.{LevelQueue}

-- how many items it holds
unfoldable pub held : {T : Type 0} → LevelQueue T → ℕ
held q = sorters.held q.sorter

-- the first item of its list, where it was shown and still is the first
unfoldable pub shown : {T : Type 0} → LevelQueue T → Option T
shown q = sorters.shown q.sorter

-- how many calls are paid for that weren't made yet
unfoldable pub credit : {T : Type 0} → LevelQueue T → ℕ
credit q = sorters.credit q.sorter

-- what is paid for parts that weren't taken yet, 256 for each part
unfoldable pub stock : {T : Type 0} → LevelQueue T → ℕ
stock q = sorters.stock q.sorter

-- the file is that of one of its runs
unfoldable pub IsRunOf : {T : Type 0} → LevelQueue T → FileNo → Type 0
IsRunOf q f = sorters.IsRunOf q.sorter f

-- its room is full: a push makes a run of what is in it
unfoldable pub IsFull : {T : Type 0} → LevelQueue T → Type 0
IsFull q = sorters.IsFull q.sorter

-- no record stands in its room
unfoldable pub IsCleared : {T : Type 0} → LevelQueue T → Type 0
IsCleared q = sorters.IsCleared q.sorter

-- its windows hold what the files of its runs do
unfoldable pub IsInStep : {T : Type 0} → LevelQueue T → World → Type 0
IsInStep q world = sorters.IsInStep q.sorter world

-- the last item that was taken from it
abbrev pub last_of : {T : Type 0} → LevelQueue T → Option T
last_of q = q.last

-- the item isn't less than the last one taken
abbrev pub IsNoLess : {T : Type 0} → (T → T → Ordering) → Option T → T → Type 0
IsNoLess cmp last x = IfSome last (λ l. is_lt (cmp x l) ≡ false)

-- the item is less than the last one taken
abbrev pub IsOutOfOrder : {T : Type 0} → (T → T → Ordering) → Option T → Option T → Type 0
IsOutOfOrder cmp (Some l) (Some x) = is_lt (cmp x l) ≡ true
IsOutOfOrder cmp last item = ⊥

-- the parts can serve the queue: the first three are taken, and so are those of its runs
unfoldable pub Serves : {T : Type 0} → Parts → LevelQueue T → Type 0
Serves parts q = sorters.Serves parts q.sorter

-- a value than whose record none in the sorter's room is less
pub record IsReached {T : Type 0} (is_value : T → Type 0) (words : T → List ℕ) (s : Sorter T) (x : T) : Type 0 where
  pub value : is_value x
  pub above : sorters.IsAbove (record_of words x) s

-- each of its records at hand is that of a value, and none of the room is less than that of the last item taken
pub record HoldsValues {T : Type 0} (is_value : T → Type 0) (words : T → List ℕ) (q : LevelQueue T) : Type 0 where
  pub sorter : sorters.HoldsValues is_value words q.sorter
  pub reached : IfSome q.last (IsReached is_value words q.sorter)

-- in that world the queue stands for these values, which ascend, and none of which is less than the last one taken
pub record Lists {T : Type 0} (is_value : T → Type 0) (words : T → List ℕ) (cmp : T → T → Ordering) (q : LevelQueue T)
    (world : World) (xs : List T) : Type 0 where
  pub sorter : sorters.Lists is_value words cmp q.sorter world xs
  pub reached : All (IsNoLess cmp q.last) xs

-- an item that is answered isn't less than the last one taken
abbrev pub AnswersNoLess : {T : Type 0} → (T → T → Ordering) → Option T → Result (Option T) SortFault → Type 0
AnswersNoLess cmp last (Ok (Some x)) = IsNoLess cmp last x
AnswersNoLess cmp last (Ok None) = Unit
AnswersNoLess cmp last (Err e) = Unit

-- an item that is taken is the last one from then on
abbrev pub Reaches : {T : Type 0} → Option T → Option T → Result (Option T) SortFault → Type 0
Reaches old new (Ok (Some x)) = new ≡ Some x
Reaches old new (Ok None) = new ≡ old
Reaches old new (Err e) = new ≡ old

-- at that place of a run stands the record of a value that is less than the last item taken
abbrev pub IsBelow : {T : Type 0} → (T → Type 0) → (T → List ℕ) → (T → T → Ordering) → Option T → Sorter T → World
    → FileNo → ℕ → Type 0
IsBelow {T} is_value words cmp last s world f at = (x l : T) × is_value x × (last ≡ Some l) × (is_lt (cmp x l) ≡ true)
    × sorters.IsNextRecord s world (record_of words x) (f, at)

-- damage is that of the sorter, or a run's next record is less than the last item taken, which none that was written is
abbrev pub IsQueueFault : {T : Type 0} → (T → Type 0) → (T → List ℕ) → (T → T → Ordering) → LevelQueue T → LevelQueue T
    → World → World → SortFault → Type 0
IsQueueFault is_value words cmp old new before after Shelf = Unit
IsQueueFault is_value words cmp old new before after (Damaged f at) =
    sorters.IsReadFault is_value words old.sorter before (Damaged f at)
    ⊎ IsBelow is_value words cmp old.last new.sorter after f at
IsQueueFault is_value words cmp old new before after RunsSpent = ⊥

-- whatever the folder holds: damage is at the place of the record that is next of a run, before the call or after it
abbrev pub IsQueueCause : {T : Type 0} → LevelQueue T → LevelQueue T → SortFault → Type 0
IsQueueCause old new Shelf = Unit
IsQueueCause old new (Damaged f at) = sorters.IsReadCause old.sorter (Damaged f at)
    ⊎ (sorters.first_place_of new.sorter ≡ Some (f, at))
IsQueueCause old new RunsSpent = ⊥
