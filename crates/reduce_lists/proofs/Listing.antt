-- What is known of the queue, of the rows and of the names, and that they stand for lists, stays so while calls change
-- other files, and what a call of one of them leaves.
use Rattle.std.proofs.Common.{◌≡◌, ◌≤◌, ◌⊎◌, List, arith, refl, ap, sym, subst, ◌∙◌, inl, inr}
use Rattle.std.specs.Prelude.{Bool, IsTrue, Result, Ok, Err, Option, Some, None, OnOk, length}
use Rattle.shelf_model.specs.declared.sort_fault.SortFault.{SortFault}
use Rattle.shelf_model.specs.declared.file_no.FileNo.{FileNo}
use Rattle.shelf_model.specs.File.{File, IsKept}
use Rattle.shelf_model.specs.Folder.{Folder, file_in}
use Rattle.shelf_model.specs.Calls.{Told}
use Rattle.shelf_model.specs.World.{World, now, file}
use Rattle.shelf_model.specs.Moments.{Ran, Stays}
use Rattle.shelf_model.proofs.Runs.{told, ran_end, ran_weakens}
use Rattle.run_tiers.specs.declared.parts.Parts.{Parts}
use Rattle.run_tiers.specs.Parts.{Took, IsTaken, OnlyTaken, Spilled}
use Rattle.run_merge.specs.Lists.{Joins, Shows, Gives}
use Rattle.run_merge.specs.declared.sorter.Sorter.{Sorter}
use Rattle.run_merge.specs.Sorters as sorters
use Rattle.run_merge.proofs.SorterLaws.{in_step_kept, list_kept, serves_on}
use Rattle.level_queue.specs.declared.queue.LevelQueue.{LevelQueue}
use Rattle.level_queue.specs.Queues as queues
use Rattle.level_queue.proofs.QueueLaws.{queue_in_step_kept, queue_kept, queue_serves_on}
use Rattle.node_file.specs.declared.writer.NodeWriter.{NodeWriter}
use Rattle.node_file.specs.Writers as writers
use Rattle.arc_file.specs.declared.arc.Arc.{Arc}
use Rattle.arc_file.specs.declared.reader.ArcReader.{ArcReader}
use Rattle.arc_file.specs.declared.kind.Kind.TheVariants.{Inner, End}
use Rattle.arc_file.specs.Readers.{inner_of, ends_of}
use Rattle.arc_file.specs.Streams as streams
use Rattle.arc_diagrams.specs.Items.{final_arc_words, IsFinalArc, final_arc_cmp, source_row_words, IsSourceRow, source_row_cmp, name_words, IsName, name_cmp}
use Rattle.arc_diagrams.specs.declared.final_arc.FinalArc.{FinalArc}
use Rattle.arc_diagrams.specs.declared.source_row.SourceRow.{SourceRow}
use Rattle.arc_diagrams.specs.declared.name.Name.{Name}
use Rattle.sweep_core.specs.Accounts.{CanBeTaken, OnlyOwn}
use Rattle.reduce_lists.specs.declared.held.Ahead.{Ahead}
use Rattle.reduce_lists.specs.declared.held.Lists.{Lists}
use Rattle.reduce_lists.specs.Held.{Held, AreServed}
use Rattle.reduce_lists.specs.AtWork.{AreListed, AreInStep, IsAtWork}
use Rattle.reduce_lists.specs.Contents.{QueueLists, RowLists, NameLists}
use Rattle.reduce_lists.proofs.Holding.{BytesStay, Undisturbed, Untaken, untaken_stays, untaken_spilled, undisturbed_untaken}

-- the windows of all lists hold what the files of their runs do where nothing disturbs them
pub in_step_still : (a : Ahead) (l : Lists) (old new : World) → Undisturbed a l old new → AreInStep a l old
    → AreInStep a l new
in_step_still a l old new still lists = record {
  queue_in_step = queue_in_step_kept a.queue old new (λ f run. still.runs f (inl run)) lists.queue_in_step;
  rows_in_step = in_step_kept l.rows old new (λ f run. still.runs f (inr (inl run))) lists.rows_in_step;
  names_in_step = in_step_kept l.names old new (λ f run. still.runs f (inr (inr run))) lists.names_in_step;
}

-- and the lists exist still
pub listed_still : (a : Ahead) (l : Lists) (old new : World) → Undisturbed a l old new → AreListed a l old
    → AreListed a l new
listed_still a l old new still listed = record {
  queue_listed = (
    listed.queue_listed.0,
    queue_kept IsFinalArc final_arc_words final_arc_cmp a.queue old new listed.queue_listed.0
        (λ f run. still.runs f (inl run)) listed.queue_listed.1,
  );
  rows_listed = (
    listed.rows_listed.0,
    list_kept IsSourceRow source_row_words source_row_cmp l.rows old new listed.rows_listed.0
        (λ f run. still.runs f (inr (inl run))) listed.rows_listed.1,
  );
  names_listed = (
    listed.names_listed.0,
    list_kept IsName name_words name_cmp l.names old new listed.names_listed.0 (λ f run. still.runs f (inr (inr run)))
        listed.names_listed.1,
  );
}

-- where parts are taken, what it knows of its files is so
pub work_untaken : (a : Ahead) (l : Lists) (w : NodeWriter) (parts : Parts) (old new : World) → AreServed a l w parts
    → Untaken parts old new → IsAtWork a l w old → IsAtWork a l w new
work_untaken a l w parts old new served same work =
    let still = undisturbed_untaken a l w parts old new served same in
    let out : BytesStay old new (writers.filling_of w).file = ap (λ (x : File). x.bytes) (same _ served.out_made) in
    record {
      writes = ap length out ∙ work.writes;
      reads_inner = λ some. subst (λ bytes. streams.Reads Inner (inner_of a.reader) bytes) (sym still.inner)
          (work.reads_inner some);
      reads_ends = λ some. subst (λ bytes. streams.Reads End (ends_of a.reader) bytes) (sym still.ends)
          (work.reads_ends some);
      lists = in_step_still a l old new still work.lists;
    }

pub work_stays : (a : Ahead) (l : Lists) (w : NodeWriter) (parts : Parts) (old new : World) → AreServed a l w parts
    → Ran (Stays (now old)) old new → IsAtWork a l w old → IsAtWork a l w new
work_stays a l w parts old new served ran = work_untaken a l w parts old new served (untaken_stays parts old new ran)

-- and its lists exist
pub listed_stays : (a : Ahead) (l : Lists) (w : NodeWriter) (parts : Parts) (old new : World) → AreServed a l w parts
    → Ran (Stays (now old)) old new → AreListed a l old → AreListed a l new
listed_stays a l w parts old new served ran =
    listed_still a l old new (undisturbed_untaken a l w parts old new served (untaken_stays parts old new ran))

-- one of the lists is another
pub with_queue : (a : Ahead) (l : Lists) (w : NodeWriter) (world : World) (q : LevelQueue FinalArc)
    → queues.IsInStep q world → IsAtWork a l w world → IsAtWork (record a { queue = q }) l w world
with_queue a l w world q step work = record {
  writes = work.writes;
  reads_inner = work.reads_inner;
  reads_ends = work.reads_ends;
  lists = record {
    queue_in_step = step;
    rows_in_step = work.lists.rows_in_step;
    names_in_step = work.lists.names_in_step;
  };
}

pub with_rows : (a : Ahead) (l : Lists) (w : NodeWriter) (world : World) (rows : Sorter SourceRow)
    → sorters.IsInStep rows world → IsAtWork a l w world → IsAtWork a (record l { rows = rows }) w world
with_rows a l w world rows step work = record {
  writes = work.writes;
  reads_inner = work.reads_inner;
  reads_ends = work.reads_ends;
  lists = record {
    queue_in_step = work.lists.queue_in_step;
    rows_in_step = step;
    names_in_step = work.lists.names_in_step;
  };
}

pub with_names : (a : Ahead) (l : Lists) (w : NodeWriter) (world : World) (names : Sorter Name)
    → sorters.IsInStep names world → IsAtWork a l w world → IsAtWork a (record l { names = names }) w world
with_names a l w world names step work = record {
  writes = work.writes;
  reads_inner = work.reads_inner;
  reads_ends = work.reads_ends;
  lists = record {
    queue_in_step = work.lists.queue_in_step;
    rows_in_step = work.lists.rows_in_step;
    names_in_step = step;
  };
}

-- the bytes of a file while none changes
pub bytes_stay : (old new : World) (f g : FileNo) → g ≡ f → Ran (Stays (now old)) old new
    → (file old f).bytes ≡ (file new g).bytes
bytes_stay old new f g same ran =
    ap (λ (d : Folder). (file_in d f).bytes) (sym (ran_end old new (Stays (now old)) ran))
    ∙ ap (λ h. (file new h).bytes) (sym same)

-- one arc more was read of a file, and none changed
pub work_read_inner : (a : Ahead) (l : Lists) (w : NodeWriter) (parts : Parts) (old new : World) (r : ArcReader)
    (next : Option Arc) → AreServed a l w parts → Ran (Stays (now old)) old new
    → ends_of r ≡ ends_of a.reader → streams.file_of (inner_of r) ≡ streams.file_of (inner_of a.reader)
    → streams.Reads Inner (inner_of r) (file old (streams.file_of (inner_of a.reader))).bytes → IsAtWork a l w old
    → IsAtWork (record a { reader = r; inner = next }) l w new
work_read_inner a l w parts old new r next served ran ends place reads was =
    let work = work_stays a l w parts old new served ran was in
    record {
      writes = work.writes;
      reads_inner = λ some. subst (λ b. streams.Reads Inner (inner_of r) b)
          (bytes_stay old new (streams.file_of (inner_of a.reader)) (streams.file_of (inner_of r)) place ran) reads;
      reads_ends = λ some. subst (λ s. streams.Reads End s (file new (streams.file_of s)).bytes) (sym ends)
          (work.reads_ends some);
      lists = record {
        queue_in_step = work.lists.queue_in_step;
        rows_in_step = work.lists.rows_in_step;
        names_in_step = work.lists.names_in_step;
      };
    }

pub work_read_end : (a : Ahead) (l : Lists) (w : NodeWriter) (parts : Parts) (old new : World) (r : ArcReader)
    (next : Option Arc) → AreServed a l w parts → Ran (Stays (now old)) old new
    → inner_of r ≡ inner_of a.reader → streams.file_of (ends_of r) ≡ streams.file_of (ends_of a.reader)
    → streams.Reads End (ends_of r) (file old (streams.file_of (ends_of a.reader))).bytes → IsAtWork a l w old
    → IsAtWork (record a { reader = r; end = next }) l w new
work_read_end a l w parts old new r next served ran inner place reads was =
    let work = work_stays a l w parts old new served ran was in
    record {
      writes = work.writes;
      reads_inner = λ some. subst (λ s. streams.Reads Inner s (file new (streams.file_of s)).bytes) (sym inner)
          (work.reads_inner some);
      reads_ends = λ some. subst (λ b. streams.Reads End (ends_of r) b)
          (bytes_stay old new (streams.file_of (ends_of a.reader)) (streams.file_of (ends_of r)) place ran) reads;
      lists = record {
        queue_in_step = work.lists.queue_in_step;
        rows_in_step = work.lists.rows_in_step;
        names_in_step = work.lists.names_in_step;
      };
    }

-- the lists don't read the arc files
pub listed_read : (a : Ahead) (l : Lists) (w : NodeWriter) (parts : Parts) (old new : World) (r : ArcReader)
    (inner end : Option Arc) → AreServed a l w parts → Ran (Stays (now old)) old new → AreListed a l old
    → AreListed (record a { reader = r; inner = inner; end = end }) l new
listed_read a l w parts old new r inner end served ran was =
    let listed = listed_stays a l w parts old new served ran was in
    record {
      queue_listed = listed.queue_listed;
      rows_listed = listed.rows_listed;
      names_listed = listed.names_listed;
    }

-- a list that an item joined, or whose first item was shown or given, exists still
pub joins_known : {T : Type 0} (Old New : List T → Type 0) (told : Type 0) (x : T) (result : Result Unit SortFault)
    → (told → (xs : List T) → Old xs → Joins New x xs result)
    → OnOk result (told → (xs : List T) → Old xs → (ys : List T) × New ys)
joins_known Old New told x (Ok u) joins = λ tell xs list. (let joined = joins tell xs list in (joined.0, joined.2))
joins_known Old New told x (Err e) joins = tt

pub shows_known : {T : Type 0} (Old New : List T → Type 0) (told : Type 0) (result : Result (Option T) SortFault)
    → (told → (xs : List T) → Old xs → Shows New xs result)
    → OnOk result (told → (xs : List T) → Old xs → (ys : List T) × New ys)
shows_known Old New told (Ok None) shows = λ tell xs list. (xs, (shows tell xs list).1)
shows_known Old New told (Ok (Some x)) shows = λ tell xs list. (xs, (shows tell xs list).2)
shows_known Old New told (Err e) shows = tt

pub gives_known : {T : Type 0} (Old New : List T → Type 0) (told : Type 0) (result : Result (Option T) SortFault)
    → (told → (xs : List T) → Old xs → Gives New xs result)
    → OnOk result (told → (xs : List T) → Old xs → (ys : List T) × New ys)
gives_known Old New told (Ok None) gives = λ tell xs list. (xs, (gives tell xs list).1)
gives_known Old New told (Ok (Some x)) gives = λ tell xs list. (let given = gives tell xs list in (given.0, given.2))
gives_known Old New told (Err e) gives = tt

-- no part was taken
pub took_none : (parts : Parts) → Took parts parts
took_none parts = record { step_is = refl; later = omega arith; within = λ few. few }

-- so where no file changed only the files of parts that were taken did
pub stays_spilled : {S : Type 0} (tells : S → Bool) (world : S → World) (old new : S) (parts : Parts)
    → Told tells old new (Ran (Stays (now (world old))) (world old) (world new))
    → Told tells old new (Spilled parts parts (world old) (world new))
stays_spilled tells world old new parts stays = told tells old new _ _ stays (λ _ ran.
    ran_weakens (world old) (world new) (Stays (now (world old))) (OnlyTaken parts parts (now (world old)))
    (λ m same f apart. ap (λ (d : Folder). file_in d f) same) ran)

-- what can't be taken still can't be when some parts were
made_on : (before after : Parts) (f : FileNo) → Took before after → ¬ CanBeTaken before.step before.next f
    → ¬ CanBeTaken after.step after.next f
made_on before after f took not can = not (record {
  step_is = can.step_is ∙ took.step_is;
  from = let later : before.next ≤ after.next = took.later in let from : after.next ≤ f.part =
      can.from in omega (arith, later, from);
})

-- a part that was taken could be taken
pub could_be : (before after : Parts) (f : FileNo) → IsTaken before after f → CanBeTaken before.step before.next f
could_be before after f taken = record { step_is = taken.step_is; from = taken.from }

-- parts that were taken are no files that it makes
spilled_own : (a : Ahead) (l : Lists) (w : NodeWriter) (before after : Parts) (old new : World) → AreServed a l w before
    → Spilled before after old new
    → Ran (OnlyOwn (λ f. f ≡ (writers.filling_of w).file) before.step before.next (now old)) old new
spilled_own a l w before after old new served spilled =
    ran_weakens old new (OnlyTaken before after (now old))
    (OnlyOwn (λ f. f ≡ (writers.filling_of w).file) before.step before.next (now old)) (λ m only. record {
      others = λ f other apart. only f (λ taken. apart (could_be before after f taken));
      kept = λ f mine front kept. subst (IsKept front)
          (sym (only f (λ taken. served.out_made
          (subst (CanBeTaken before.step before.next) mine (could_be before after f taken))))) kept;
    }) spilled

-- where parts were taken, what is true of the lists stays so when one of them is another
module _ (s : Held) (served : AreServed s.ahead s.lists s.writer s.parts) (after : Parts) (took : Took s.parts after)
  where
    pub serves_queue : (q : LevelQueue FinalArc) → queues.HoldsValues IsFinalArc final_arc_words q
        → queues.Serves after q
        → ((f : FileNo) → queues.IsRunOf q f → queues.IsRunOf s.ahead.queue f ⊎ IsTaken s.parts after f)
        → AreServed (record s.ahead { queue = q }) s.lists s.writer after
    serves_queue q values serves runs = record {
      queue_values = values;
      row_values = served.row_values;
      name_values = served.name_values;
      queue_served = serves;
      rows_served = serves_on s.lists.rows s.parts after served.rows_served took;
      names_served = serves_on s.lists.names s.parts after served.names_served took;
      out_made = made_on s.parts after _ took served.out_made;
      inner_made = made_on s.parts after _ took served.inner_made;
      ends_made = made_on s.parts after _ took served.ends_made;
      out_inner = served.out_inner;
      out_ends = served.out_ends;
      no_run = λ run. elim run [
        | inl mine ↦ elim (runs _ mine)
            [ inl was ↦ served.no_run (inl was) | inr taken ↦ served.out_made (could_be s.parts after _ taken) ]
        | inr other ↦ served.no_run (inr other)
      ];
    }

    pub serves_rows : (rows : Sorter SourceRow) → sorters.HoldsValues IsSourceRow source_row_words rows
        → sorters.Serves after rows
        → ((f : FileNo) → sorters.IsRunOf rows f → sorters.IsRunOf s.lists.rows f ⊎ IsTaken s.parts after f)
        → AreServed s.ahead (record s.lists { rows = rows }) s.writer after
    serves_rows rows values serves runs = record {
      queue_values = served.queue_values;
      row_values = values;
      name_values = served.name_values;
      queue_served = queue_serves_on s.ahead.queue s.parts after served.queue_served took;
      rows_served = serves;
      names_served = serves_on s.lists.names s.parts after served.names_served took;
      out_made = made_on s.parts after _ took served.out_made;
      inner_made = made_on s.parts after _ took served.inner_made;
      ends_made = made_on s.parts after _ took served.ends_made;
      out_inner = served.out_inner;
      out_ends = served.out_ends;
      no_run = λ run. elim run [
        | inl first ↦ served.no_run (inl first)
        | inr other ↦ elim other [
          | inl mine ↦ elim (runs _ mine)
              [ inl was ↦ served.no_run (inr (inl was)) | inr taken ↦ served.out_made (could_be s.parts after _ taken) ]
          | inr last ↦ served.no_run (inr (inr last))
        ]
      ];
    }

    pub serves_names : (names : Sorter Name) → sorters.HoldsValues IsName name_words names → sorters.Serves after names
        → ((f : FileNo) → sorters.IsRunOf names f → sorters.IsRunOf s.lists.names f ⊎ IsTaken s.parts after f)
        → AreServed s.ahead (record s.lists { names = names }) s.writer after
    serves_names names values serves runs = record {
      queue_values = served.queue_values;
      row_values = served.row_values;
      name_values = values;
      queue_served = queue_serves_on s.ahead.queue s.parts after served.queue_served took;
      rows_served = serves_on s.lists.rows s.parts after served.rows_served took;
      names_served = serves;
      out_made = made_on s.parts after _ took served.out_made;
      inner_made = made_on s.parts after _ took served.inner_made;
      ends_made = made_on s.parts after _ took served.ends_made;
      out_inner = served.out_inner;
      out_ends = served.out_ends;
      no_run = λ run. elim run [
        | inl first ↦ served.no_run (inl first)
        | inr other ↦ elim other [
          | inl middle ↦ served.no_run (inr (inl middle))
          | inr mine ↦ elim (runs _ mine)
              [ inl was ↦ served.no_run (inr (inr was)) | inr taken ↦ served.out_made (could_be s.parts after _ taken) ]
        ]
      ];
    }

module _ {S : Type 0} (tells : S → Bool) (world : S → World) (old new : S) (s : Held)
    (served : AreServed s.ahead s.lists s.writer s.parts) (after : Parts)
    (content : Told tells old new (Spilled s.parts after (world old) (world new))) where
  -- the files that it may have changed
  pub own_content : Told tells old new (Ran (OnlyOwn (λ f. f ≡ (writers.filling_of s.writer).file)
      s.parts.step s.parts.next (now (world old))) (world old) (world new))
  own_content = told tells old new _ _ content (λ _ spilled.
      spilled_own s.ahead s.lists s.writer s.parts after (world old) (world new) served spilled)

  -- it is at work while the lists are the old ones
  module _ (was : IsTrue (tells old) → IsAtWork s.ahead s.lists s.writer (world old)) (tell : IsTrue (tells new)) where
    work_before : IsAtWork s.ahead s.lists s.writer (world old)
    work_before = was (content.before tell)

    work_after : IsAtWork s.ahead s.lists s.writer (world new)
    work_after = work_untaken s.ahead s.lists s.writer s.parts (world old) (world new) served
        (untaken_spilled s.parts after (world old) (world new) (content.did tell)) work_before

    -- and with one that is another
    pub queue_works : (q : LevelQueue FinalArc)
        → (queues.IsInStep s.ahead.queue (world old) → queues.IsInStep q (world new))
        → IsAtWork (record s.ahead { queue = q }) s.lists s.writer (world new)
    queue_works q step =
        with_queue s.ahead s.lists s.writer (world new) q (step work_before.lists.queue_in_step) work_after

    pub rows_work : (rows : Sorter SourceRow)
        → (sorters.IsInStep s.lists.rows (world old) → sorters.IsInStep rows (world new))
        → IsAtWork s.ahead (record s.lists { rows = rows }) s.writer (world new)
    rows_work rows step =
        with_rows s.ahead s.lists s.writer (world new) rows (step work_before.lists.rows_in_step) work_after

    pub names_work : (names : Sorter Name)
        → (sorters.IsInStep s.lists.names (world old) → sorters.IsInStep names (world new))
        → IsAtWork s.ahead (record s.lists { names = names }) s.writer (world new)
    names_work names step =
        with_names s.ahead s.lists s.writer (world new) names (step work_before.lists.names_in_step) work_after

  -- the lists exist while they are the old ones
  module _ (tell : IsTrue (tells new)) (was : AreListed s.ahead s.lists (world old)) where
    listed_after : AreListed s.ahead s.lists (world new)
    listed_after = listed_still s.ahead s.lists (world old) (world new)
        (undisturbed_untaken s.ahead s.lists s.writer s.parts (world old) (world new) served
        (untaken_spilled s.parts after (world old) (world new) (content.did tell))) was

    -- and with one that is another
    pub queue_listed : (q : LevelQueue FinalArc) → ((xs : List FinalArc) → QueueLists s.ahead.queue (world old) xs
        → (ys : List FinalArc) × QueueLists q (world new) ys)
        → AreListed (record s.ahead { queue = q }) s.lists (world new)
    queue_listed q known = record {
      queue_listed = known was.queue_listed.0 was.queue_listed.1;
      rows_listed = listed_after.rows_listed;
      names_listed = listed_after.names_listed;
    }

    pub rows_listed : (rows : Sorter SourceRow) → ((xs : List SourceRow) → RowLists s.lists.rows (world old) xs
        → (ys : List SourceRow) × RowLists rows (world new) ys)
        → AreListed s.ahead (record s.lists { rows = rows }) (world new)
    rows_listed rows known = record {
      queue_listed = listed_after.queue_listed;
      rows_listed = known was.rows_listed.0 was.rows_listed.1;
      names_listed = listed_after.names_listed;
    }

    pub names_listed : (names : Sorter Name) → ((xs : List Name) → NameLists s.lists.names (world old) xs
        → (ys : List Name) × NameLists names (world new) ys)
        → AreListed s.ahead (record s.lists { names = names }) (world new)
    names_listed names known = record {
      queue_listed = listed_after.queue_listed;
      rows_listed = listed_after.rows_listed;
      names_listed = known was.names_listed.0 was.names_listed.1;
    }
