-- What the calls of the lists, of the readers and of the writer leave of what is held.
use Rattle.std.proofs.Common.{◌≡◌, ℕ, ◌+◌, ◌-◌, ap, sym, subst, ◌∙◌, inl, inr, List, ◌++◌}
use Rattle.std.proofs.lemmas.Bool.{false≢true}
use Rattle.std.specs.Prelude.{◌∷◌, [], true, false, IsSome, Option, Some, None, Result, Ok, Err, OnOk, IfOk, IfErr, IsErrAnd, Bool}
use Rattle.rec_words.specs.Words.{level_of}
use Rattle.shelf_model.specs.declared.fault.StreamFault.{StreamFault}
use Rattle.shelf_model.specs.declared.fault.StreamFault.TheVariants.{Shelf, Damaged}
use Rattle.shelf_model.specs.declared.sort_fault.SortFault.{SortFault}
use Rattle.shelf_model.specs.SortFaults.{handed_on}
use Rattle.shelf_model.specs.declared.file_no.FileNo.{FileNo}
use Rattle.shelf_model.specs.World.{World, now, file}
use Rattle.shelf_model.specs.Moments.{Ran, Stays}
use Rattle.block_stream.specs.Items.{GivesLast}
use Rattle.block_stream.specs.Writes.{Wrote, InStep, DuringWrite}
use Rattle.run_merge.specs.Lists.{Joins, Shows, Gives}
use Rattle.run_tiers.specs.declared.parts.Parts.{Parts}
use Rattle.run_tiers.specs.Parts.{Spilled}
use Rattle.run_merge.specs.declared.sorter.Sorter.{Sorter}
use Rattle.level_queue.specs.declared.queue.LevelQueue.{LevelQueue}
use Rattle.level_queue.specs.Queues.{Reaches, last_of}
use Rattle.node_file.specs.declared.writer.NodeWriter.{NodeWriter}
use Rattle.node_file.specs.Writers as writers
use Rattle.arc_file.specs.declared.arc.Arc.{Arc}
use Rattle.arc_file.specs.declared.kind.Kind.{Kind}
use Rattle.arc_file.specs.declared.kind.Kind.TheVariants.{Inner, End}
use Rattle.arc_file.specs.declared.reader.ArcReader.{ArcReader}
use Rattle.arc_file.specs.declared.stream.ArcStream.{ArcStream}
use Rattle.arc_file.specs.Files.{IsDamagedArc}
use Rattle.arc_file.specs.Streams as streams
use Rattle.arc_file.specs.Streams.{file_of, left_of, given_of}
use Rattle.arc_file.specs.Readers.{inner_of, ends_of}
use Rattle.arc_diagrams.specs.Items.{as_arc}
use Rattle.arc_diagrams.specs.declared.final_arc.FinalArc.{FinalArc}
use Rattle.arc_diagrams.specs.declared.source_row.SourceRow.{SourceRow}
use Rattle.arc_diagrams.specs.declared.name.Name.{Name}
use Rattle.sweep_core.specs.Accounts.{CanBeTaken, StayEmpty, OnlyOwn}
use Rattle.shelf_model.specs.File.{File, IsKept}
use Rattle.shelf_model.specs.Folder.{file_in}
use Rattle.shelf_model.specs.Calls.{Told}
use Rattle.shelf_model.proofs.Runs.{told, ran_weakens, ran_end}
use Rattle.reduce_lists.specs.declared.held.Ahead.{Ahead}
use Rattle.reduce_lists.specs.declared.held.Lists.{Lists}
use Rattle.reduce_lists.specs.Held.{Held, AreServed, IsRun}
use Rattle.reduce_lists.specs.AtWork.{AreListed, IsAtWork}
use Rattle.reduce_lists.specs.Damage.{IsDamagedIn, IsDamageOf}
use Rattle.reduce_lists.specs.Contents.{Contents, Holds, IsUnread, IsTakenTo, QueueLists, RowLists, NameLists}
use Rattle.reduce_lists.specs.Changes.{JoinsQueue, JoinsRows, JoinsNames, GivesRow, ShowsName, ShowsQueued, IsAt, Passes, PassesInner}
use Rattle.reduce_lists.proofs.Holding.{undisturbed_wrote, untaken_stays, untaken_spilled, holds_untaken, with_queue, with_rows, with_names, with_inner, with_ends}
use Rattle.reduce_lists.proofs.Listing.{bytes_stay, in_step_still, listed_still}
use Rattle.reduce_lists.proofs.NextArcs.{rest_is, first_reached, read_on, last_same}

-- what is held stays while parts are taken, and while no file changes
spilled_holds : (s : Held) (after : Parts) (old new : World) (k : Contents) → AreServed s.ahead s.lists s.writer s.parts
    → Spilled s.parts after old new
    → Holds s.ahead s.lists s.writer old k → Holds s.ahead s.lists s.writer new k
spilled_holds s after old new k served spilled =
    holds_untaken s.ahead s.lists s.writer s.parts old new k served (untaken_spilled s.parts after old new spilled)

stays_holds : (s : Held) (old new : World) (k : Contents) → AreServed s.ahead s.lists s.writer s.parts
    → Ran (Stays (now old)) old new
    → Holds s.ahead s.lists s.writer old k → Holds s.ahead s.lists s.writer new k
stays_holds s old new k served ran =
    holds_untaken s.ahead s.lists s.writer s.parts old new k served (untaken_stays s.parts old new ran)

-- a row was pushed
pub rows_join : (s : Held) (rows : Sorter SourceRow) (after : Parts) (told : Type 0) (old new : World) (r : SourceRow)
    (result : Result Unit SortFault) → AreServed s.ahead s.lists s.writer s.parts
    → (told → Spilled s.parts after old new)
    → (told → (xs : List SourceRow) → RowLists s.lists.rows old xs → Joins (RowLists rows new) r xs result)
    → OnOk result (told → (k : Contents) → Holds s.ahead s.lists s.writer old k
    → JoinsRows (record s { lists = record s.lists { rows = rows }; parts = after }) new k r)
rows_join s rows after told old new r (Err e) served spilled joins = tt
rows_join s rows after told old new r (Ok u) served spilled joins = λ tell k holds.
    let joined = joins tell k.rows holds.rows_is in (
      joined.0,
      joined.1,
      with_rows s.ahead s.lists s.writer new k rows joined.0 joined.2
          (spilled_holds s after old new k served (spilled tell) holds),
    )

-- a name was pushed
pub names_join : (s : Held) (names : Sorter Name) (after : Parts) (told : Type 0) (old new : World) (m : Name)
    (result : Result Unit SortFault) → AreServed s.ahead s.lists s.writer s.parts
    → (told → Spilled s.parts after old new)
    → (told → (xs : List Name) → NameLists s.lists.names old xs → Joins (NameLists names new) m xs result)
    → OnOk result (told → (k : Contents) → Holds s.ahead s.lists s.writer old k
    → JoinsNames (record s { lists = record s.lists { names = names }; parts = after }) new k m)
names_join s names after told old new m (Err e) served spilled joins = tt
names_join s names after told old new m (Ok u) served spilled joins = λ tell k holds.
    let joined = joins tell k.names holds.names_is in (
      joined.0,
      joined.1,
      with_names s.ahead s.lists s.writer new k names joined.0 joined.2
          (spilled_holds s after old new k served (spilled tell) holds),
    )

-- an arc was pushed
pub queue_joins : (s : Held) (queue : LevelQueue FinalArc) (after : Parts) (told : Type 0) (old new : World)
    (a : FinalArc) (result : Result Unit SortFault) → AreServed s.ahead s.lists s.writer s.parts
    → last_of queue ≡ last_of s.ahead.queue
    → (told → Spilled s.parts after old new)
    → (told → (xs : List FinalArc) → QueueLists s.ahead.queue old xs → Joins (QueueLists queue new) a xs result)
    → OnOk result (told → (k : Contents) → Holds s.ahead s.lists s.writer old k
    → IsTakenTo (level_of a.source + 1) k.last
    → JoinsQueue (record s { ahead = record s.ahead { queue = queue }; parts = after }) new k a)
queue_joins s queue after told old new a (Err e) served last spilled joins = tt
queue_joins s queue after told old new a (Ok u) served last spilled joins = λ tell k holds _.
    let joined = joins tell k.queue holds.queue_is in (
      joined.0,
      joined.1,
      with_queue s.ahead s.lists s.writer new k queue joined.0 k.last joined.2 (last ∙ holds.last_is)
          (spilled_holds s after old new k served (spilled tell) holds),
    )

-- the first row was asked for
pub rows_given : (s : Held) (rows : Sorter SourceRow) (told : Type 0) (old new : World)
    (result : Result (Option SourceRow) SortFault) → AreServed s.ahead s.lists s.writer s.parts
    → (told → Ran (Stays (now old)) old new)
    → (told → (xs : List SourceRow) → RowLists s.lists.rows old xs → Gives (RowLists rows new) xs result)
    → IfOk result (λ row. told → (k : Contents) → Holds s.ahead s.lists s.writer old k
    → GivesRow (record s { lists = record s.lists { rows = rows } }) new k row)
rows_given s rows told old new (Err e) served stays gives = tt
rows_given s rows told old new (Ok None) served stays gives = λ tell k holds.
    let given = gives tell k.rows holds.rows_is in (
      given.0,
      with_rows s.ahead s.lists s.writer new k rows k.rows given.1
          (stays_holds s old new k served (stays tell) holds),
    )
rows_given s rows told old new (Ok (Some r)) served stays gives = λ tell k holds.
    let given = gives tell k.rows holds.rows_is in (
      given.0,
      given.1,
      with_rows s.ahead s.lists s.writer new k rows given.0 given.2
          (stays_holds s old new k served (stays tell) holds),
    )

-- the first name was looked at
pub names_shown : (s : Held) (names : Sorter Name) (told : Type 0) (old new : World)
    (result : Result (Option Name) SortFault) → AreServed s.ahead s.lists s.writer s.parts
    → (told → Ran (Stays (now old)) old new)
    → (told → (xs : List Name) → NameLists s.lists.names old xs → Shows (NameLists names new) xs result)
    → IfOk result (λ name. told → (k : Contents) → Holds s.ahead s.lists s.writer old k
    → ShowsName (record s { lists = record s.lists { names = names } }) new k name)
names_shown s names told old new (Err e) served stays shows = tt
names_shown s names told old new (Ok None) served stays shows = λ tell k holds.
    let shown = shows tell k.names holds.names_is in (
      shown.0,
      with_names s.ahead s.lists s.writer new k names k.names shown.1
          (stays_holds s old new k served (stays tell) holds),
    )
names_shown s names told old new (Ok (Some m)) served stays shows = λ tell k holds.
    let shown = shows tell k.names holds.names_is in (
      shown.0,
      shown.1,
      with_names s.ahead s.lists s.writer new k names k.names shown.2
          (stays_holds s old new k served (stays tell) holds),
    )

-- the first arc of the queue was looked at
pub queue_shown : (s : Held) (queue : LevelQueue FinalArc) (told : Type 0) (old new : World)
    (result : Result (Option FinalArc) SortFault) → AreServed s.ahead s.lists s.writer s.parts
    → last_of queue ≡ last_of s.ahead.queue
    → (told → Ran (Stays (now old)) old new)
    → (told → (xs : List FinalArc) → QueueLists s.ahead.queue old xs → Shows (QueueLists queue new) xs result)
    → IfOk result (λ found. told → (k : Contents) → Holds s.ahead s.lists s.writer old k
    → ShowsQueued (record s { ahead = record s.ahead { queue = queue } }) new k found)
queue_shown s queue told old new (Err e) served last stays shows = tt
queue_shown s queue told old new (Ok None) served last stays shows = λ tell k holds.
    let shown = shows tell k.queue holds.queue_is in (
      shown.0,
      with_queue s.ahead s.lists s.writer new k queue k.queue k.last shown.1 (last ∙ holds.last_is)
          (stays_holds s old new k served (stays tell) holds),
    )
queue_shown s queue told old new (Ok (Some a)) served last stays shows = λ tell k holds.
    let shown = shows tell k.queue holds.queue_is in (
      shown.0,
      shown.1,
      with_queue s.ahead s.lists s.writer new k queue k.queue k.last shown.2 (last ∙ holds.last_is)
          (stays_holds s old new k served (stays tell) holds),
    )

-- the first name was taken
pub names_left : (s : Held) (names : Sorter Name) (old new : World) (k : Contents) (m : Name) (rest : List Name)
    (o : Option Name) → AreServed s.ahead s.lists s.writer s.parts
    → Ran (Stays (now old)) old new → Gives (NameLists names new) k.names (Ok o) → k.names ≡ m ∷ rest
    → Holds s.ahead s.lists s.writer old k
    → Holds s.ahead (record s.lists { names = names }) s.writer new (record k { names = rest })
names_left s names old new k m rest o served stays gives is holds =
    with_names s.ahead s.lists s.writer new k names rest (rest_is (NameLists names new) k.names rest m o is gives)
    (stays_holds s old new k served stays holds)

-- the first arc of the queue was taken
pub queue_taken : (s : Held) (queue : LevelQueue FinalArc) (after : Parts) (old new : World) (k : Contents)
    (a : FinalArc) (o : Option FinalArc) → AreServed s.ahead s.lists s.writer s.parts
    → Spilled s.parts after old new → Gives (QueueLists queue new) k.queue (Ok o)
    → Reaches (last_of s.ahead.queue) (last_of queue) (Ok o) → IsAt true k a → Holds s.ahead s.lists s.writer old k
    → Passes true (record s { ahead = record s.ahead { queue = queue }; parts = after }) new k a
queue_taken s queue after old new k a o served spilled gives reaches at holds = (
  at.0,
  at.1,
  with_queue s.ahead s.lists s.writer new k queue at.0 (Some a)
      (rest_is (QueueLists queue new) k.queue at.0 a o at.1 gives)
      (first_reached (QueueLists queue new) k.queue at.0 a (last_of s.ahead.queue) (last_of queue) o at.1 gives reaches)
      (spilled_holds s after old new k served spilled holds),
)

-- the next arc to a truth value was passed over
pub end_passes : (s : Held) (r : ArcReader) (next end : Option Arc) (old new : World) (k : Contents) (a : FinalArc)
    → s.ahead.end ≡ end → IsSome end → AreServed s.ahead s.lists s.writer s.parts
    → Ran (Stays (now old)) old new → inner_of r ≡ inner_of s.ahead.reader
    → file_of (ends_of r) ≡ file_of (ends_of s.ahead.reader)
    → streams.GoesUp End (ends_of s.ahead.reader) (ends_of r) (Ok next)
    → ((ys : List Arc) → streams.AreLeft End (ends_of s.ahead.reader)
    (file old (file_of (ends_of s.ahead.reader))).bytes ys
    → GivesLast (streams.AreLeft End (ends_of r) (file old (file_of (ends_of s.ahead.reader))).bytes) ys (Ok next))
    → IsAt false k a → Holds s.ahead s.lists s.writer old k
    → Passes false (record s { ahead = record s.ahead { reader = r; end = next } }) new k a
end_passes s r next None old new k a is some served ran inner place up left at holds = absurd (false≢true some)
end_passes s r next (Some e) old new k a is some served ran inner place up left at holds =
    let bytes = (file old (file_of (ends_of s.ahead.reader))).bytes in
    let (front, split, unread) = read_on End (ends_of s.ahead.reader) (ends_of r) bytes k.ends next e up left
    (subst (λ (o : Option Arc). IsUnread End o (ends_of s.ahead.reader) bytes k.ends) is holds.ends_is) in
    let last : e ≡ as_arc a = last_same front at.0 e (as_arc a) (sym split ∙ at.1) in (
      front,
      split ∙ ap (λ (x : Arc). front ++ x ∷ []) last,
      with_ends s.ahead s.lists s.writer new k r next front inner
          (subst (λ b. IsUnread End next (ends_of r) b front)
          (bytes_stay old new (file_of (ends_of s.ahead.reader)) (file_of (ends_of r)) place ran) unread)
          (stays_holds s old new k served ran holds),
    )

-- the next arc to a node was passed over
pub inner_passes : (s : Held) (r : ArcReader) (next inner : Option Arc) (old new : World) (k : Contents)
    → s.ahead.inner ≡ inner → IsSome inner → AreServed s.ahead s.lists s.writer s.parts
    → Ran (Stays (now old)) old new → ends_of r ≡ ends_of s.ahead.reader
    → file_of (inner_of r) ≡ file_of (inner_of s.ahead.reader)
    → streams.GoesUp Inner (inner_of s.ahead.reader) (inner_of r) (Ok next)
    → ((ys : List Arc) → streams.AreLeft Inner (inner_of s.ahead.reader)
    (file old (file_of (inner_of s.ahead.reader))).bytes ys
    → GivesLast (streams.AreLeft Inner (inner_of r) (file old (file_of (inner_of s.ahead.reader))).bytes) ys (Ok next))
    → Holds s.ahead s.lists s.writer old k
    → PassesInner inner (record s { ahead = record s.ahead { reader = r; inner = next } }) new k
inner_passes s r next None old new k is some served ran ends place up left holds = absurd (false≢true some)
inner_passes s r next (Some e) old new k is some served ran ends place up left holds =
    let bytes = (file old (file_of (inner_of s.ahead.reader))).bytes in
    let (front, split, unread) = read_on Inner (inner_of s.ahead.reader) (inner_of r) bytes k.inner next e up left
    (subst (λ (o : Option Arc). IsUnread Inner o (inner_of s.ahead.reader) bytes k.inner) is holds.inner_is) in (
      front,
      split,
      with_inner s.ahead s.lists s.writer new k r next front ends
          (subst (λ b. IsUnread Inner next (inner_of r) b front)
          (bytes_stay old new (file_of (inner_of s.ahead.reader)) (file_of (inner_of r)) place ran) unread)
          (stays_holds s old new k served ran holds),
    )

-- what a reader finds damaged is the next record
damaged_next : (kind : Kind) (s : ArcStream) (world : World) (f : FileNo) (at : ℕ)
    → streams.GoesUp kind s s (Err (Damaged f at))
    → IsDamagedArc kind (left_of s - 1) (file world (file_of s)).bytes (given_of s) → IsDamagedIn kind s world f at
damaged_next kind s world f at place answer = record {
  file_is = place.1.0;
  some = place.0;
  at_is = place.1.1;
  damaged = subst (λ (g : FileNo). IsDamagedArc kind (left_of s - 1) (file world g).bytes (given_of s)) (sym place.1.0)
      answer;
}

-- so it is where the fault is handed on
pub end_damaged : {T : Type 0} (r : ArcReader) (world : World) (told : Type 0) (result : Result T SortFault)
    (fault : StreamFault) → IsErrAnd result (λ e. e ≡ handed_on fault)
    → streams.GoesUp End (ends_of r) (ends_of r) (Err fault)
    → (told → streams.IsArcAnswer End (ends_of r) (file world (file_of (ends_of r))).bytes (Err fault))
    → IfErr result (λ e. told → IsDamageOf r world e)
end_damaged r world told (Ok x) fault is up answer = tt
end_damaged r world told (Err e) fault is up answer =
    λ tell. subst (IsDamageOf r world) (sym is) (by fault up (answer tell))
  where
    by : (f : StreamFault) → streams.GoesUp End (ends_of r) (ends_of r) (Err f)
        → streams.IsArcAnswer End (ends_of r) (file world (file_of (ends_of r))).bytes (Err f)
        → IsDamageOf r world (handed_on f)
    by Shelf up answer = tt
    by (Damaged f at) up answer = inr (damaged_next End (ends_of r) world f at up answer)

pub inner_damaged : {T : Type 0} (r : ArcReader) (world : World) (told : Type 0) (result : Result T SortFault)
    (fault : StreamFault) → IsErrAnd result (λ e. e ≡ handed_on fault)
    → streams.GoesUp Inner (inner_of r) (inner_of r) (Err fault)
    → (told → streams.IsArcAnswer Inner (inner_of r) (file world (file_of (inner_of r))).bytes (Err fault))
    → IfErr result (λ e. told → IsDamageOf r world e)
inner_damaged r world told (Ok x) fault is up answer = tt
inner_damaged r world told (Err e) fault is up answer =
    λ tell. subst (IsDamageOf r world) (sym is) (by fault up (answer tell))
  where
    by : (f : StreamFault) → streams.GoesUp Inner (inner_of r) (inner_of r) (Err f)
        → streams.IsArcAnswer Inner (inner_of r) (file world (file_of (inner_of r))).bytes (Err f)
        → IsDamageOf r world (handed_on f)
    by Shelf up answer = tt
    by (Damaged f at) up answer = inl (damaged_next Inner (inner_of r) world f at up answer)

-- a writer that goes on with its file leaves the others
pub served_put : (a : Ahead) (l : Lists) (w v : NodeWriter) (parts : Parts)
    → (writers.filling_of v).file ≡ (writers.filling_of w).file → AreServed a l w parts → AreServed a l v parts
served_put a l w v parts same served = record {
  queue_values = served.queue_values;
  row_values = served.row_values;
  name_values = served.name_values;
  queue_served = served.queue_served;
  rows_served = served.rows_served;
  names_served = served.names_served;
  out_made = λ free. served.out_made (subst (CanBeTaken parts.step parts.next) same free);
  inner_made = served.inner_made;
  ends_made = served.ends_made;
  out_inner = λ e. served.out_inner (e ∙ same);
  out_ends = λ e. served.out_ends (e ∙ same);
  no_run = λ run. served.no_run (subst (IsRun a l) same run);
}

-- what was read is as the bytes say, and the windows of the lists hold what their runs do
pub work_put : (a : Ahead) (l : Lists) (w v : NodeWriter) (parts : Parts) (n : ℕ) (old new : World)
    → AreServed a l w parts → Wrote n (writers.filling_of w).file old new → InStep (writers.filling_of v) new
    → IsAtWork a l w old → IsAtWork a l v new
work_put a l w v parts n old new served wrote step work =
    let still = undisturbed_wrote a l w parts n old new served wrote in
    record {
      writes = step;
      reads_inner = λ some. subst (λ bytes. streams.Reads Inner (inner_of a.reader) bytes) (sym still.inner)
          (work.reads_inner some);
      reads_ends = λ some. subst (λ bytes. streams.Reads End (ends_of a.reader) bytes) (sym still.ends)
          (work.reads_ends some);
      lists = in_step_still a l old new still work.lists;
    }

-- and the lists exist
pub listed_put : (a : Ahead) (l : Lists) (w : NodeWriter) (parts : Parts) (n : ℕ) (old new : World)
    → AreServed a l w parts → Wrote n (writers.filling_of w).file old new → AreListed a l old → AreListed a l new
listed_put a l w parts n old new served wrote =
    listed_still a l old new (undisturbed_wrote a l w parts n old new served wrote)

-- a write to the file that is made
pub own_wrote : {S : Type 0} (tells : S → Bool) (world : S → World) (out : FileNo) (step next n : ℕ) (s t : S)
    → Told tells s t (Wrote n out (world s) (world t))
    → Told tells s t (Ran (OnlyOwn (λ f. f ≡ out) step next (now (world s))) (world s) (world t))
own_wrote tells world out step next n s t did = told tells s t _ _ did (λ _ wrote.
    ran_weakens (world s) (world t) (DuringWrite out (now (world s))) (OnlyOwn (λ f. f ≡ out) step next (now (world s)))
    (λ m during. record {
      others = λ f other apart. during.others f other;
      kept = λ f mine front kept. subst (λ g. IsKept front (file_in m.folder g)) (sym mine)
          (during.kept front (subst (λ g. IsKept front (file_in (now (world s)).folder g)) mine kept));
    }) wrote.run)

-- in every other file what was empty stays so
pub wrote_empty : (out : FileNo) (step next n : ℕ) (old new : World) → Wrote n out old new
    → StayEmpty (λ f. f ≡ out) step next old new
wrote_empty out step next n old new wrote f other free empty =
    ap (λ (x : File). x.bytes) ((ran_end old new (DuringWrite out (now old)) wrote.run).others f other) ∙ empty
