-- What a reduction knows of its files, and that its lists exist.
use Rattle.std.specs.Prelude.{List, IsSome}
use Rattle.shelf_model.specs.World.{World, file}
use Rattle.block_stream.specs.Writes.{InStep}
use Rattle.node_file.specs.declared.writer.NodeWriter.{NodeWriter}
use Rattle.node_file.specs.Writers as nodes
use Rattle.arc_file.specs.declared.kind.Kind.TheVariants.{Inner, End}
use Rattle.arc_file.specs.Streams.{file_of, Reads}
use Rattle.arc_file.specs.Readers.{inner_of, ends_of}
use Rattle.arc_diagrams.specs.declared.final_arc.FinalArc.{FinalArc}
use Rattle.arc_diagrams.specs.declared.source_row.SourceRow.{SourceRow}
use Rattle.arc_diagrams.specs.declared.name.Name.{Name}
use Rattle.run_merge.specs.Sorters as sorters
use Rattle.level_queue.specs.Queues as queues
use Rattle.reduce_lists.specs.declared.held.Ahead.{Ahead}
use Rattle.reduce_lists.specs.declared.held.Lists.{Lists}
use Rattle.reduce_lists.specs.Contents.{QueueLists, RowLists, NameLists}

-- the queue stands for some list, and so do the rows and the names
pub record AreListed (a : Ahead) (l : Lists) (world : World) : Type 0 where
  pub queue_listed : (xs : List FinalArc) × QueueLists a.queue world xs
  pub rows_listed : (xs : List SourceRow) × RowLists l.rows world xs
  pub names_listed : (xs : List Name) × NameLists l.names world xs

-- the windows of the queue, of the rows and of the names hold what the files of their runs do
pub record AreInStep (a : Ahead) (l : Lists) (world : World) : Type 0 where
  pub queue_in_step : queues.IsInStep a.queue world
  pub rows_in_step : sorters.IsInStep l.rows world
  pub names_in_step : sorters.IsInStep l.names world

-- its writer is in step with the file of the nodes, what it has read of an arc file is as its bytes say while an arc is
-- at hand, and the windows of its lists hold what the files of their runs do, whatever else stands there
pub record IsAtWork (a : Ahead) (l : Lists) (w : NodeWriter) (world : World) : Type 0 where
  pub writes : InStep (nodes.filling_of w) world
  pub reads_inner : IsSome a.inner → Reads Inner (inner_of a.reader) (file world (file_of (inner_of a.reader))).bytes
  pub reads_ends : IsSome a.end → Reads End (ends_of a.reader) (file world (file_of (ends_of a.reader))).bytes
  pub lists : AreInStep a l world
