-- What is held stays while runs are made sure, and what a freeze of the queue, of the rows or of the names leaves.
use Rattle.std.proofs.Common.{◌≡◌, ◌∙◌, List, ap, sym, subst}
use Rattle.std.specs.Prelude.{Result, Ok, Err, OnOk, IfOk, IfErr, length}
use Rattle.shelf_model.specs.declared.file_no.FileNo.{FileNo}
use Rattle.shelf_model.specs.declared.sort_fault.SortFault.{SortFault}
use Rattle.shelf_model.specs.declared.sort_fault.SortFault.TheVariants.{Shelf, Damaged, RunsSpent}
use Rattle.shelf_model.specs.World.{World, now}
use Rattle.shelf_model.specs.Moments.{Ran}
use Rattle.shelf_model.proofs.Runs.{ran_end}
use Rattle.run_tiers.specs.declared.parts.Parts.{Parts}
use Rattle.run_tiers.specs.Syncs.{Froze}
use Rattle.run_tiers.proofs.SyncLaws.{same_or_firm_bytes}
use Rattle.run_merge.specs.Lists.{Freezes}
use Rattle.run_merge.specs.declared.sorter.Sorter.{Sorter}
use Rattle.run_merge.specs.Sorters as sorters
use Rattle.level_queue.specs.declared.queue.LevelQueue.{LevelQueue}
use Rattle.level_queue.specs.Queues as queues
use Rattle.arc_file.specs.declared.kind.Kind.TheVariants.{Inner, End}
use Rattle.arc_file.specs.Readers.{inner_of, ends_of}
use Rattle.arc_file.specs.Streams as streams
use Rattle.arc_diagrams.specs.declared.final_arc.FinalArc.{FinalArc}
use Rattle.arc_diagrams.specs.declared.source_row.SourceRow.{SourceRow}
use Rattle.arc_diagrams.specs.declared.name.Name.{Name}
use Rattle.sweep_core.specs.Accounts.{CanBeTaken}
use Rattle.sweep_core.specs.Sweeps.{IsNoDamage}
use Rattle.reduce_lists.specs.Held.{Held, AreServed}
use Rattle.reduce_lists.specs.AtWork.{AreListed, IsAtWork}
use Rattle.reduce_lists.specs.Contents.{Contents, Holds, QueueLists, RowLists, NameLists}
use Rattle.reduce_lists.proofs.Holding.{BytesStay, Undisturbed, run_made, holds_still}
use Rattle.reduce_lists.proofs.Holding as held
use Rattle.reduce_lists.proofs.Listing.{in_step_still, listed_still, with_queue, with_rows, with_names, could_be}

-- the bytes of each file but those whose parts can be taken are as they were
abbrev pub BytesUntaken : Parts → World → World → Type 0
BytesUntaken parts old new = (f : FileNo) → (¬ CanBeTaken parts.step parts.next f) → BytesStay old new f

-- so they are where runs were frozen
pub bytes_frozen : (these : FileNo → Type 0) (before after : Parts) (old new : World)
    → Ran (Froze these before after (now old)) old new → BytesUntaken before old new
bytes_frozen these before after old new ran f apart =
    same_or_firm_bytes these f (now old) (now new) (ran_end old new (Froze these before after (now old)) ran f
    (λ taken. apart (could_be before after f taken)))

-- what follows from a freeze of a list
pub frozen_on : {T U : Type 0} (Old New : List T → Type 0) (Stands : U → List T → Type 0) (told : Type 0)
    (result : Result U SortFault) → (told → (xs : List T) → Old xs → Freezes New Stands xs result)
    → OnOk result (told → (xs : List T) → Old xs → New xs)
frozen_on Old New Stands told (Ok table) freezes = λ tell xs list. (freezes tell xs list).0
frozen_on Old New Stands told (Err e) freezes = tt

pub frozen_stands : {T U : Type 0} (Old New : List T → Type 0) (Stands : U → List T → Type 0) (told : Type 0)
    (result : Result U SortFault) → (told → (xs : List T) → Old xs → Freezes New Stands xs result)
    → IfOk result (λ table. told → (xs : List T) → Old xs → Stands table xs)
frozen_stands Old New Stands told (Ok table) freezes = λ tell xs list. (freezes tell xs list).1
frozen_stands Old New Stands told (Err e) freezes = tt

-- a list that is frozen exists: no damage is found
pub none_frozen : {T U : Type 0} (Old New : List T → Type 0) (Stands : U → List T → Type 0) (told listed : Type 0)
    (result : Result U SortFault) → (listed → (xs : List T) × Old xs)
    → (told → (xs : List T) → Old xs → Freezes New Stands xs result)
    → IfErr result (λ e. told → listed → IsNoDamage e)
none_frozen Old New Stands told listed (Ok table) list freezes = tt
none_frozen Old New Stands told listed (Err Shelf) list freezes = λ tell are. tt
none_frozen Old New Stands told listed (Err (Damaged f at)) list freezes =
    λ tell are. absurd (freezes tell (list are).0 (list are).1)
none_frozen Old New Stands told listed (Err RunsSpent) list freezes = λ tell are. tt

module _ (s : Held) (served : AreServed s.ahead s.lists s.writer s.parts) (old new : World)
    (same : BytesUntaken s.parts old new) where
  still : Undisturbed s.ahead s.lists old new
  still = record {
    inner = same _ served.inner_made;
    ends = same _ served.ends_made;
    runs = λ f run. same f (run_made s.ahead s.lists s.writer s.parts f served run);
  }

  -- what it knows of its files is so, and its lists are
  pub work_bytes : IsAtWork s.ahead s.lists s.writer old → IsAtWork s.ahead s.lists s.writer new
  work_bytes work = record {
    writes = ap length (same _ served.out_made) ∙ work.writes;
    reads_inner = λ some. subst (λ bytes. streams.Reads Inner (inner_of s.ahead.reader) bytes) (sym still.inner)
        (work.reads_inner some);
    reads_ends = λ some. subst (λ bytes. streams.Reads End (ends_of s.ahead.reader) bytes) (sym still.ends)
        (work.reads_ends some);
    lists = in_step_still s.ahead s.lists old new still work.lists;
  }

  pub listed_bytes : AreListed s.ahead s.lists old → AreListed s.ahead s.lists new
  listed_bytes = listed_still s.ahead s.lists old new still

  pub holds_bytes : (k : Contents) → Holds s.ahead s.lists s.writer old k → Holds s.ahead s.lists s.writer new k
  holds_bytes k = holds_still s.ahead s.lists s.writer old new k still (same _ served.out_made)

  -- the queue was frozen
  module _ (q : LevelQueue FinalArc) where
    pub queue_froze_works : (queues.IsInStep s.ahead.queue old → queues.IsInStep q new)
        → IsAtWork s.ahead s.lists s.writer old → IsAtWork (record s.ahead { queue = q }) s.lists s.writer new
    queue_froze_works step work =
        with_queue s.ahead s.lists s.writer new q (step work.lists.queue_in_step) (work_bytes work)

    pub queue_froze_listed : ((xs : List FinalArc) → QueueLists s.ahead.queue old xs → QueueLists q new xs)
        → AreListed s.ahead s.lists old → AreListed (record s.ahead { queue = q }) s.lists new
    queue_froze_listed kept was =
        let listed = listed_bytes was in
        record {
          queue_listed = (was.queue_listed.0, kept was.queue_listed.0 was.queue_listed.1);
          rows_listed = listed.rows_listed;
          names_listed = listed.names_listed;
        }

    pub queue_froze_holds : queues.last_of q ≡ queues.last_of s.ahead.queue
        → ((xs : List FinalArc) → QueueLists s.ahead.queue old xs → QueueLists q new xs)
        → (k : Contents) → Holds s.ahead s.lists s.writer old k
        → Holds (record s.ahead { queue = q }) s.lists s.writer new k
    queue_froze_holds last kept k holds =
        held.with_queue s.ahead s.lists s.writer new k q k.queue k.last (kept k.queue holds.queue_is)
        (last ∙ holds.last_is) (holds_bytes k holds)

  -- the rows were
  module _ (rows : Sorter SourceRow) where
    pub rows_froze_work : (sorters.IsInStep s.lists.rows old → sorters.IsInStep rows new)
        → IsAtWork s.ahead s.lists s.writer old → IsAtWork s.ahead (record s.lists { rows = rows }) s.writer new
    rows_froze_work step work =
        with_rows s.ahead s.lists s.writer new rows (step work.lists.rows_in_step) (work_bytes work)

    pub rows_froze_listed : ((xs : List SourceRow) → RowLists s.lists.rows old xs → RowLists rows new xs)
        → AreListed s.ahead s.lists old → AreListed s.ahead (record s.lists { rows = rows }) new
    rows_froze_listed kept was =
        let listed = listed_bytes was in
        record {
          queue_listed = listed.queue_listed;
          rows_listed = (was.rows_listed.0, kept was.rows_listed.0 was.rows_listed.1);
          names_listed = listed.names_listed;
        }

    pub rows_froze_hold : ((xs : List SourceRow) → RowLists s.lists.rows old xs → RowLists rows new xs)
        → (k : Contents) → Holds s.ahead s.lists s.writer old k
        → Holds s.ahead (record s.lists { rows = rows }) s.writer new k
    rows_froze_hold kept k holds =
        held.with_rows s.ahead s.lists s.writer new k rows k.rows (kept k.rows holds.rows_is) (holds_bytes k holds)

  -- the names were
  module _ (names : Sorter Name) where
    pub names_froze_work : (sorters.IsInStep s.lists.names old → sorters.IsInStep names new)
        → IsAtWork s.ahead s.lists s.writer old → IsAtWork s.ahead (record s.lists { names = names }) s.writer new
    names_froze_work step work =
        with_names s.ahead s.lists s.writer new names (step work.lists.names_in_step) (work_bytes work)

    pub names_froze_listed : ((xs : List Name) → NameLists s.lists.names old xs → NameLists names new xs)
        → AreListed s.ahead s.lists old → AreListed s.ahead (record s.lists { names = names }) new
    names_froze_listed kept was =
        let listed = listed_bytes was in
        record {
          queue_listed = listed.queue_listed;
          rows_listed = listed.rows_listed;
          names_listed = (was.names_listed.0, kept was.names_listed.0 was.names_listed.1);
        }

    pub names_froze_hold : ((xs : List Name) → NameLists s.lists.names old xs → NameLists names new xs)
        → (k : Contents) → Holds s.ahead s.lists s.writer old k
        → Holds s.ahead (record s.lists { names = names }) s.writer new k
    names_froze_hold kept k holds =
        held.with_names s.ahead s.lists s.writer new k names k.names (kept k.names holds.names_is)
        (holds_bytes k holds)
