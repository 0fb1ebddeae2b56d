-- Why the calls of the queue, of the rows and of the names are refused: none of their runs is damaged where they stand
-- for lists, and else damage is in a file whose part was taken.
use Rattle.std.proofs.Common.{◌≡◌, ◌∙◌, ℕ, List, ap, sym, subst, inl, inr}
use Rattle.std.specs.Prelude.{Result, Ok, Err, Option, IfErr, IsErrAnd}
use Rattle.shelf_model.specs.declared.sort_fault.SortFault.{SortFault}
use Rattle.shelf_model.specs.declared.sort_fault.SortFault.TheVariants.{Shelf, Damaged, RunsSpent}
use Rattle.shelf_model.specs.declared.fault.StreamFault.{StreamFault}
use Rattle.shelf_model.specs.declared.fault.StreamFault.TheVariants as stream
use Rattle.shelf_model.specs.SortFaults.{handed_on}
use Rattle.shelf_model.specs.World.{World}
use Rattle.run_tiers.specs.declared.parts.Parts.{Parts}
use Rattle.run_tiers.specs.Parts.{Took}
use Rattle.run_merge.specs.Lists.{Joins, Shows, Gives}
use Rattle.run_merge.specs.declared.sorter.Sorter.{Sorter}
use Rattle.run_merge.specs.Sorters as sorters
use Rattle.run_merge.proofs.SorterLaws.{serves_on}
use Rattle.level_queue.specs.declared.queue.LevelQueue.{LevelQueue}
use Rattle.level_queue.specs.Queues as queues
use Rattle.arc_file.specs.declared.reader.ArcReader.{ArcReader}
use Rattle.run_merge.proofs.RunFiles.{push_taken, read_taken, first_taken}
use Rattle.reduce_lists.specs.declared.held.Ahead.{Ahead}
use Rattle.reduce_lists.specs.declared.held.Lists.{Lists}
use Rattle.reduce_lists.specs.AtWork.{AreListed}
use Rattle.reduce_lists.specs.Damage.{IsDamageOf, IsListCause}

-- what follows from a fact about why a call was refused
pub if_err_weaker : {T E : Type 0} {P Q : E → Type 0} (result : Result T E) → ((e : E) → P e → Q e) → IfErr result P
    → IfErr result Q
if_err_weaker (Ok x) weaker p = tt
if_err_weaker (Err e) weaker p = weaker e p

-- what is damaged whatever the lists stand for is so where they stand for some
pub damaged_anyhow : {T : Type 0} (told listed : Type 0) (r : ArcReader) (world : World) (result : Result T SortFault)
    → IfErr result (λ e. told → IsDamageOf r world e) → IfErr result (λ e. told → listed → IsDamageOf r world e)
damaged_anyhow told listed r world result = if_err_weaker result (λ e damage tell list. damage tell)

-- a list that some item joins exists: no damage is found
pub none_joined : {T : Type 0} (Old New : List T
    → Type 0) (told : Type 0) (a : Ahead) (l : Lists) (world : World) (x : T) (result : Result Unit SortFault)
    → (AreListed a l world → (xs : List T) × Old xs) → (told → (xs : List T) → Old xs → Joins New x xs result)
    → IfErr result (λ e. told → AreListed a l world → IsDamageOf a.reader world e)
none_joined Old New told a l world x (Ok u) list joins = tt
none_joined Old New told a l world x (Err Shelf) list joins = λ tell listed. tt
none_joined Old New told a l world x (Err (Damaged f at)) list joins =
    λ tell listed. absurd (joins tell (list listed).0 (list listed).1)
none_joined Old New told a l world x (Err RunsSpent) list joins = λ tell listed. tt

-- nor where its first item is shown or given
pub none_shown : {T : Type 0} (Old New : List T
    → Type 0) (told : Type 0) (a : Ahead) (l : Lists) (world : World) (result : Result (Option T) SortFault)
    → (AreListed a l world → (xs : List T) × Old xs) → (told → (xs : List T) → Old xs → Shows New xs result)
    → IfErr result (λ e. told → AreListed a l world → IsDamageOf a.reader world e)
none_shown Old New told a l world (Ok o) list shows = tt
none_shown Old New told a l world (Err Shelf) list shows = λ tell listed. tt
none_shown Old New told a l world (Err (Damaged f at)) list shows =
    λ tell listed. absurd (shows tell (list listed).0 (list listed).1)
none_shown Old New told a l world (Err RunsSpent) list shows = λ tell listed. tt

pub none_given : {T : Type 0} (Old New : List T
    → Type 0) (told : Type 0) (a : Ahead) (l : Lists) (world : World) (result : Result (Option T) SortFault)
    → (AreListed a l world → (xs : List T) × Old xs) → (told → (xs : List T) → Old xs → Gives New xs result)
    → IfErr result (λ e. told → AreListed a l world → IsDamageOf a.reader world e)
none_given Old New told a l world (Ok o) list gives = tt
none_given Old New told a l world (Err Shelf) list gives = λ tell listed. tt
none_given Old New told a l world (Err (Damaged f at)) list gives =
    λ tell listed. absurd (gives tell (list listed).0 (list listed).1)
none_given Old New told a l world (Err RunsSpent) list gives = λ tell listed. tt

-- a push is refused where a run of its own is damaged, or no part number is left
pub push_refuses : {T : Type 0} (s : Sorter T) (before after : Parts) (e : SortFault) → sorters.Serves before s
    → Took before after → sorters.IsPushCause after s e → IsListCause after e
unfolding sorters.Serves sorters.IsPushCause
push_refuses s before after Shelf serves took cause = tt
push_refuses s before after (Damaged f at) serves took cause =
    push_taken after s f at (serves_on s before after serves took) cause
push_refuses s before after RunsSpent serves took cause = cause

-- a read is refused where a run is damaged
pub read_refuses : {T : Type 0} (s : Sorter T) (parts : Parts) (e : SortFault) → sorters.Serves parts s
    → sorters.IsReadCause s e → IsListCause parts e
unfolding sorters.Serves sorters.IsReadCause
read_refuses s parts Shelf serves cause = tt
read_refuses s parts (Damaged f at) serves cause = read_taken parts s f at serves cause
read_refuses s parts RunsSpent serves cause = absurd cause

-- the same of the queue
pub queue_push_refuses : {T : Type 0} (q : LevelQueue T) (before after : Parts) (e : SortFault)
    → queues.Serves before q → Took before after → sorters.IsPushCause after q.sorter e → IsListCause after e
unfolding queues.Serves
queue_push_refuses q before after e serves took cause = push_refuses q.sorter before after e serves took cause

pub queue_read_refuses : {T : Type 0} (is_value : T → Type 0) (words : T → List ℕ) (old new : LevelQueue T)
    (parts : Parts) (e : SortFault) → queues.Serves parts old → queues.Serves parts new
    → queues.HoldsValues is_value words new → queues.IsQueueCause old new e → IsListCause parts e
unfolding queues.Serves
queue_read_refuses is_value words old new parts Shelf before serves values cause = tt
queue_read_refuses is_value words old new parts (Damaged f at) before serves values cause = elim cause [
  | inl read ↦ read_refuses old.sorter parts (Damaged f at) before read
  | inr is ↦ first_taken is_value words parts new.sorter f at serves values.sorter is
]
queue_read_refuses is_value words old new parts RunsSpent before serves values cause = absurd cause

-- a write that is refused shows no damage
pub write_undamaged : {T : Type 0} (told : Type 0) (r : ArcReader) (world : World) (result : Result T SortFault)
    (fault : StreamFault) → IsErrAnd result (λ e. e ≡ handed_on fault) → fault ≡ stream.Shelf
    → IfErr result (λ e. told → IsDamageOf r world e)
write_undamaged told r world (Ok x) fault is shelf = tt
write_undamaged told r world (Err e) fault is shelf =
    λ tell. subst (IsDamageOf r world) (sym (is ∙ ap handed_on shelf)) tt
