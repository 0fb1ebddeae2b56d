-- What a reduction holds stays while calls change other files.
use Rattle.std.proofs.Common.{◌≡◌, ◌≢◌, ℕ, ◌≤◌, ◌<◌, arith, ap, sym, subst, ◌∙◌, inl, inr, List, ◌++◌}
use Rattle.std.specs.Prelude.{Option, length, take}
use Rattle.shelf_model.specs.declared.file_no.FileNo.{FileNo}
use Rattle.shelf_model.specs.File.{File}
use Rattle.shelf_model.specs.Folder.{Folder, file_in}
use Rattle.shelf_model.specs.World.{World, now, file}
use Rattle.shelf_model.specs.Moments.{Ran, Stays}
use Rattle.shelf_model.proofs.Runs.{ran_end}
use Rattle.block_stream.specs.Records.{records_bytes}
use Rattle.block_stream.specs.Writes.{count_of, DuringWrite, Wrote}
use Rattle.run_tiers.specs.declared.parts.Parts.{Parts}
use Rattle.run_merge.specs.declared.sorter.Sorter.{Sorter}
use Rattle.run_tiers.specs.Parts.{OnlyTaken, Spilled, WasTaken}
use Rattle.run_merge.proofs.SorterLaws.{list_kept}
use Rattle.level_queue.specs.declared.queue.LevelQueue.{LevelQueue}
use Rattle.level_queue.specs.Queues as queues
use Rattle.level_queue.proofs.QueueLaws.{queue_kept, queue_taken}
use Rattle.node_file.specs.declared.writer.NodeWriter.{NodeWriter}
use Rattle.node_file.specs.Writers as writers
use Rattle.rec_words.specs.declared.node.Node.{Node}
use Rattle.canon_file.specs.Canon.{node_bytes}
use Rattle.arc_file.specs.declared.arc.Arc.{Arc}
use Rattle.arc_file.specs.declared.kind.Kind.TheVariants.{Inner, End}
use Rattle.arc_file.specs.declared.stream.ArcStream.{ArcStream}
use Rattle.arc_file.specs.declared.reader.ArcReader.{ArcReader}
use Rattle.arc_file.specs.Readers.{inner_of, ends_of}
use Rattle.arc_file.specs.Streams.{file_of}
use Rattle.arc_diagrams.specs.Items.{final_arc_words, IsFinalArc, final_arc_cmp, source_row_words, IsSourceRow, source_row_cmp, name_words, IsName, name_cmp}
use Rattle.arc_diagrams.specs.declared.final_arc.FinalArc.{FinalArc}
use Rattle.arc_diagrams.specs.declared.source_row.SourceRow.{SourceRow}
use Rattle.arc_diagrams.specs.declared.name.Name.{Name}
use Rattle.sweep_core.specs.Accounts.{CanBeTaken}
use Rattle.run_merge.proofs.RunFiles.{sorter_taken}
use Rattle.reduce_lists.specs.declared.held.Ahead.{Ahead}
use Rattle.reduce_lists.specs.declared.held.Lists.{Lists}
use Rattle.reduce_lists.specs.Held.{IsRun, AreServed}
use Rattle.reduce_lists.specs.Contents.{Contents, Holds, IsUnread, QueueLists, RowLists, NameLists}

-- the bytes of a file are as they were
abbrev pub BytesStay : World → World → FileNo → Type 0
BytesStay old new f = (file new f).bytes ≡ (file old f).bytes

-- the bytes of the arc files and of the runs are as they were
pub record Undisturbed (a : Ahead) (l : Lists) (old new : World) : Type 0 where
  pub inner : BytesStay old new (file_of (inner_of a.reader))
  pub ends : BytesStay old new (file_of (ends_of a.reader))
  pub runs : (f : FileNo) → IsRun a l f → BytesStay old new f

-- a file whose part was taken can't be taken
pub made : (parts : Parts) (f : FileNo) → WasTaken parts f → ¬ CanBeTaken parts.step parts.next f
made parts f was free =
    let below : f.part < parts.next = was.below in
    let from : parts.next ≤ f.part = free.from in
    omega (arith, below, from)

-- nor can the file of a run
pub run_made : (a : Ahead) (l : Lists) (w : NodeWriter) (parts : Parts) (f : FileNo) → AreServed a l w parts → IsRun a l f
    → ¬ CanBeTaken parts.step parts.next f
run_made a l w parts f served run = elim run [
  | inl q ↦ made parts f (queue_taken a.queue parts f served.queue_served q)
  | inr other ↦ elim other [
    | inl q ↦ made parts f (sorter_taken l.rows parts f served.rows_served q)
    | inr q ↦ made parts f (sorter_taken l.names parts f served.names_served q)
  ]
]

-- each file but those whose parts can be taken is as it was
abbrev pub Untaken : Parts → World → World → Type 0
Untaken parts old new = (f : FileNo) → (¬ CanBeTaken parts.step parts.next f) → file new f ≡ file old f

pub untaken_stays : (parts : Parts) (old new : World) → Ran (Stays (now old)) old new → Untaken parts old new
untaken_stays parts old new ran = λ f _. ap (λ (d : Folder). file_in d f) (ran_end old new (Stays (now old)) ran)

pub untaken_spilled : (before after : Parts) (old new : World) → Spilled before after old new → Untaken before old new
untaken_spilled before after old new spilled = λ f apart.
    ran_end old new (OnlyTaken before after (now old)) spilled f
    (λ taken. apart (record { step_is = taken.step_is; from = taken.from }))

-- so the arc files and the runs are
pub undisturbed_untaken : (a : Ahead) (l : Lists) (w : NodeWriter) (parts : Parts) (old new : World)
    → AreServed a l w parts → Untaken parts old new → Undisturbed a l old new
undisturbed_untaken a l w parts old new served same = record {
  inner = ap (λ (x : File). x.bytes) (same _ served.inner_made);
  ends = ap (λ (x : File). x.bytes) (same _ served.ends_made);
  runs = λ f run. ap (λ (x : File). x.bytes) (same f (run_made a l w parts f served run));
}

-- and where the file of the nodes was written to
pub undisturbed_wrote : (a : Ahead) (l : Lists) (w : NodeWriter) (parts : Parts) (n : ℕ) (old new : World)
    → AreServed a l w parts → Wrote n (writers.filling_of w).file old new → Undisturbed a l old new
undisturbed_wrote a l w parts n old new served wrote =
    let others : (f : FileNo) → f ≢ (writers.filling_of w).file → BytesStay old new f = λ f other.
    ap (λ (x : File). x.bytes) ((ran_end old new (DuringWrite (writers.filling_of w).file (now old)) wrote.run).others f
    other) in
    record {
      inner = others _ served.out_inner;
      ends = others _ served.out_ends;
      runs = λ f run. others f (λ is. served.no_run (subst (IsRun a l) is run));
    }

-- a writer holds the same while the bytes of its file stay
pub writer_kept : (w : NodeWriter) (old new : World) (bytes : List ℕ) → BytesStay old new (writers.filling_of w).file
    → writers.Holds w old bytes → writers.Holds w new bytes
writer_kept w old new bytes same holds = record {
  in_step = ap length same ∙ holds.in_step;
  bytes_are = ap (λ front. front ++ records_bytes (writers.filling_of w).words
      (take (writers.filling_of w).waiting w.window.now)) same ∙ holds.bytes_are;
}

-- what is held stays, where nothing disturbs it and the file of the nodes stays
pub holds_still : (a : Ahead) (l : Lists) (w : NodeWriter) (old new : World) (k : Contents) → Undisturbed a l old new
    → BytesStay old new (writers.filling_of w).file → Holds a l w old k → Holds a l w new k
holds_still a l w old new k still out holds = record {
  queue_is = queue_kept IsFinalArc final_arc_words final_arc_cmp a.queue old new k.queue
      (λ f run. still.runs f (inl run)) holds.queue_is;
  last_is = holds.last_is;
  inner_is = subst (λ bytes. IsUnread Inner a.inner (inner_of a.reader) bytes k.inner) (sym still.inner) holds.inner_is;
  ends_is = subst (λ bytes. IsUnread End a.end (ends_of a.reader) bytes k.ends) (sym still.ends) holds.ends_is;
  rows_is = list_kept IsSourceRow source_row_words source_row_cmp l.rows old new k.rows
      (λ f run. still.runs f (inr (inl run))) holds.rows_is;
  names_is = list_kept IsName name_words name_cmp l.names old new k.names (λ f run. still.runs f (inr (inr run)))
      holds.names_is;
  nodes_is = writer_kept w old new (node_bytes k.nodes) out holds.nodes_is;
  nodes_many = holds.nodes_many;
}

pub holds_untaken : (a : Ahead) (l : Lists) (w : NodeWriter) (parts : Parts) (old new : World) (k : Contents)
    → AreServed a l w parts → Untaken parts old new → Holds a l w old k → Holds a l w new k
holds_untaken a l w parts old new k served same holds =
    holds_still a l w old new k (undisturbed_untaken a l w parts old new served same)
    (ap (λ (x : File). x.bytes) (same _ served.out_made)) holds

-- one part of what is held is another
pub with_queue : (a : Ahead) (l : Lists) (w : NodeWriter) (world : World) (k : Contents) (q : LevelQueue FinalArc)
    (xs : List FinalArc) (last : Option FinalArc)
    → QueueLists q world xs → queues.last_of q ≡ last → Holds a l w world k
    → Holds (record a { queue = q }) l w world (record k { queue = xs; last = last })
with_queue a l w world k q xs last list is_last holds = record {
  queue_is = list;
  last_is = is_last;
  inner_is = holds.inner_is;
  ends_is = holds.ends_is;
  rows_is = holds.rows_is;
  names_is = holds.names_is;
  nodes_is = holds.nodes_is;
  nodes_many = holds.nodes_many;
}

pub with_rows : (a : Ahead) (l : Lists) (w : NodeWriter) (world : World) (k : Contents) (rows : Sorter SourceRow)
    (xs : List SourceRow)
    → RowLists rows world xs → Holds a l w world k → Holds a (record l { rows = rows }) w world (record k { rows = xs })
with_rows a l w world k rows xs list holds = record {
  queue_is = holds.queue_is;
  last_is = holds.last_is;
  inner_is = holds.inner_is;
  ends_is = holds.ends_is;
  rows_is = list;
  names_is = holds.names_is;
  nodes_is = holds.nodes_is;
  nodes_many = holds.nodes_many;
}

pub with_names : (a : Ahead) (l : Lists) (w : NodeWriter) (world : World) (k : Contents) (names : Sorter Name)
    (xs : List Name)
    → NameLists names world xs → Holds a l w world k
    → Holds a (record l { names = names }) w world (record k { names = xs })
with_names a l w world k names xs list holds = record {
  queue_is = holds.queue_is;
  last_is = holds.last_is;
  inner_is = holds.inner_is;
  ends_is = holds.ends_is;
  rows_is = holds.rows_is;
  names_is = list;
  nodes_is = holds.nodes_is;
  nodes_many = holds.nodes_many;
}

pub with_inner : (a : Ahead) (l : Lists) (w : NodeWriter) (world : World) (k : Contents) (r : ArcReader)
    (next : Option Arc) (xs : List Arc)
    → ends_of r ≡ ends_of a.reader → IsUnread Inner next (inner_of r) (file world (file_of (inner_of r))).bytes xs
    → Holds a l w world k
    → Holds (record a { reader = r; inner = next }) l w world (record k { inner = xs })
with_inner a l w world k r next xs ends unread holds = record {
  queue_is = holds.queue_is;
  last_is = holds.last_is;
  inner_is = unread;
  ends_is = subst (λ (s : ArcStream). IsUnread End a.end s (file world (file_of s)).bytes k.ends) (sym ends)
      holds.ends_is;
  rows_is = holds.rows_is;
  names_is = holds.names_is;
  nodes_is = holds.nodes_is;
  nodes_many = holds.nodes_many;
}

pub with_ends : (a : Ahead) (l : Lists) (w : NodeWriter) (world : World) (k : Contents) (r : ArcReader)
    (next : Option Arc) (xs : List Arc)
    → inner_of r ≡ inner_of a.reader → IsUnread End next (ends_of r) (file world (file_of (ends_of r))).bytes xs
    → Holds a l w world k
    → Holds (record a { reader = r; end = next }) l w world (record k { ends = xs })
with_ends a l w world k r next xs inner unread holds = record {
  queue_is = holds.queue_is;
  last_is = holds.last_is;
  inner_is = subst (λ (s : ArcStream). IsUnread Inner a.inner s (file world (file_of s)).bytes k.inner) (sym inner)
      holds.inner_is;
  ends_is = unread;
  rows_is = holds.rows_is;
  names_is = holds.names_is;
  nodes_is = holds.nodes_is;
  nodes_many = holds.nodes_many;
}

-- the file of the nodes is written to
pub with_nodes : (a : Ahead) (l : Lists) (w v : NodeWriter) (parts : Parts) (n : ℕ) (old new : World) (k : Contents)
    (nodes : List Node) → AreServed a l w parts
    → Wrote n (writers.filling_of w).file old new → writers.Holds v new (node_bytes nodes)
    → length nodes ≡ count_of (writers.filling_of v) → Holds a l w old k
    → Holds a l v new (record k { nodes = nodes })
with_nodes a l w v parts n old new k nodes served wrote written many holds =
    let still = undisturbed_wrote a l w parts n old new served wrote in
    record {
      queue_is = queue_kept IsFinalArc final_arc_words final_arc_cmp a.queue old new k.queue
          (λ f run. still.runs f (inl run)) holds.queue_is;
      last_is = holds.last_is;
      inner_is = subst (λ bytes. IsUnread Inner a.inner (inner_of a.reader) bytes k.inner) (sym still.inner)
          holds.inner_is;
      ends_is = subst (λ bytes. IsUnread End a.end (ends_of a.reader) bytes k.ends) (sym still.ends) holds.ends_is;
      rows_is = list_kept IsSourceRow source_row_words source_row_cmp l.rows old new k.rows
          (λ f run. still.runs f (inr (inl run))) holds.rows_is;
      names_is = list_kept IsName name_words name_cmp l.names old new k.names (λ f run. still.runs f (inr (inr run)))
          holds.names_is;
      nodes_is = written;
      nodes_many = many;
    }
