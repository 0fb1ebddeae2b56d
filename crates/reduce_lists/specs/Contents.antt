-- What a reduction holds, as lists.
use Rattle.std.specs.Prelude.{◌≡◌, ℕ, ◌≤◌, List, [], ◌∷◌, ◌++◌, map, length, Option, Some, None, IfSome}
use Rattle.rec_words.specs.Words.{level_of}
use Rattle.rec_words.specs.declared.node.Node.{Node}
use Rattle.shelf_model.specs.World.{World, file}
use Rattle.canon_file.specs.Canon.{node_bytes}
use Rattle.arc_file.specs.declared.arc.Arc.{Arc}
use Rattle.arc_file.specs.declared.kind.Kind.{Kind}
use Rattle.arc_file.specs.declared.kind.Kind.TheVariants.{Inner, End}
use Rattle.arc_file.specs.declared.stream.ArcStream.{ArcStream}
use Rattle.arc_file.specs.Streams as streams
use Rattle.arc_file.specs.Readers.{inner_of, ends_of}
use Rattle.arc_diagrams.specs.Items.{as_arc, final_arc_words, IsFinalArc, final_arc_cmp, source_row_words, IsSourceRow, source_row_cmp, name_words, IsName, name_cmp}
use Rattle.arc_diagrams.specs.declared.final_arc.FinalArc.{FinalArc}
use Rattle.arc_diagrams.specs.declared.source_row.SourceRow.{SourceRow}
use Rattle.arc_diagrams.specs.declared.name.Name.{Name}
use Rattle.run_merge.specs.declared.sorter.Sorter.{Sorter}
use Rattle.run_merge.specs.Sorters as sorters
use Rattle.level_queue.specs.declared.queue.LevelQueue.{LevelQueue}
use Rattle.level_queue.specs.Queues as queues
use Rattle.block_stream.specs.Writes.{count_of}
use Rattle.node_file.specs.declared.writer.NodeWriter.{NodeWriter}
use Rattle.node_file.specs.Writers as writers
use Rattle.reduce_lists.specs.declared.held.Ahead.{Ahead}
use Rattle.reduce_lists.specs.declared.held.Lists.{Lists}

-- what the queue and the sorters hold, the last arc that was taken from the queue, which arcs of either file aren't
-- handled, and which nodes were put
pub record Contents : Type 0 where
  pub queue : List FinalArc
  pub last : Option FinalArc
  pub inner : List Arc
  pub ends : List Arc
  pub rows : List SourceRow
  pub names : List Name
  pub nodes : List Node

-- the arcs that are to be collected: those of the queue with their final targets, and those to truth values that
-- aren't handled
abbrev pub to_collect : Contents → List Arc
to_collect k = map as_arc k.queue ++ k.ends

-- what was taken last is of that level or a deeper one
abbrev pub IsTakenTo : ℕ → Option FinalArc → Type 0
IsTakenTo level last = IfSome last (λ a. level ≤ level_of a.source)

-- the arc was read last, and these stand before it
pub record IsReading (kind : Kind) (s : ArcStream) (bytes : List ℕ) (front : List Arc) (a : Arc) : Type 0 where
  pub given : streams.given_of s ≡ Some a
  pub left : streams.AreLeft kind s bytes front

-- the arcs that aren't handled: the one that was read last, and those before it
abbrev pub IsUnread : Kind → Option Arc → ArcStream → List ℕ → List Arc → Type 0
IsUnread kind None s bytes xs = (xs ≡ []) × (streams.left_of s ≡ 0)
IsUnread kind (Some a) s bytes xs = (front : List Arc) × (xs ≡ front ++ a ∷ []) × IsReading kind s bytes front a

-- the lists of the queue, of the rows and of the names
abbrev pub QueueLists : LevelQueue FinalArc → World → List FinalArc → Type 0
QueueLists q world xs = queues.Lists IsFinalArc final_arc_words final_arc_cmp q world xs

abbrev pub RowLists : Sorter SourceRow → World → List SourceRow → Type 0
RowLists s world xs = sorters.Lists IsSourceRow source_row_words source_row_cmp s world xs

abbrev pub NameLists : Sorter Name → World → List Name → Type 0
NameLists s world xs = sorters.Lists IsName name_words name_cmp s world xs

-- in that world they hold these
pub record Holds (a : Ahead) (l : Lists) (w : NodeWriter) (world : World) (k : Contents) : Type 0 where
  pub queue_is : QueueLists a.queue world k.queue
  pub last_is : queues.last_of a.queue ≡ k.last
  pub inner_is : IsUnread Inner a.inner (inner_of a.reader)
      (file world (streams.file_of (inner_of a.reader))).bytes k.inner
  pub ends_is : IsUnread End a.end (ends_of a.reader) (file world (streams.file_of (ends_of a.reader))).bytes k.ends
  pub rows_is : RowLists l.rows world k.rows
  pub names_is : NameLists l.names world k.names
  pub nodes_is : writers.Holds w world (node_bytes k.nodes)
  pub nodes_many : length k.nodes ≡ count_of (writers.filling_of w)
