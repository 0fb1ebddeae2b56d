-- What a reduction holds, and what is true of it whatever the folder holds.
use Rattle.std.specs.Prelude.{◌≡◌, ◌≢◌, ◌⊎◌, ℕ, ◌≤◌, ◌<◌, Bool, true, false, Option, Some, None, IsSome, IfSome}
use Rattle.shelf_model.specs.declared.file_no.FileNo.{FileNo}
use Rattle.node_file.specs.declared.writer.NodeWriter.{NodeWriter}
use Rattle.node_file.specs.Writers as nodes
use Rattle.arc_file.specs.declared.reader.ArcReader.{ArcReader}
use Rattle.arc_file.specs.declared.stream.ArcStream.{ArcStream}
use Rattle.arc_file.specs.declared.unreduced.Unreduced.{Unreduced}
use Rattle.arc_file.specs.Streams.{file_of, left_of, given_of}
use Rattle.arc_file.specs.Readers.{inner_of, ends_of}
use Rattle.arc_diagrams.specs.Items.{final_arc_words, IsFinalArc, source_row_words, IsSourceRow, name_words, IsName}
use Rattle.arc_diagrams.specs.declared.final_arc.FinalArc.{FinalArc}
use Rattle.run_tiers.specs.declared.parts.Parts.{Parts}
use Rattle.run_merge.specs.Sorters as sorters
use Rattle.level_queue.specs.Queues as queues
use Rattle.sweep_core.specs.Accounts.{CanBeTaken}
use Rattle.reduce_lists.specs.declared.held.Ahead.{Ahead}
use Rattle.reduce_lists.specs.declared.held.Lists.{Lists}

-- the arcs that come next, the rows and the names of the level at hand, the writer of nodes, and the part numbers that
-- weren't taken
pub record Held : Type 0 where
  pub ahead : Ahead
  pub lists : Lists
  pub writer : NodeWriter
  pub parts : Parts

-- the file is a run of one of the lists
abbrev pub IsRun : Ahead → Lists → FileNo → Type 0
IsRun a l f = queues.IsRunOf a.queue f ⊎ (sorters.IsRunOf l.rows f ⊎ sorters.IsRunOf l.names f)

-- the lists hold values, their runs have parts that were taken, and the other files differ from these and from each
-- other
pub record AreServed (a : Ahead) (l : Lists) (w : NodeWriter) (parts : Parts) : Type 0 where
  pub queue_values : queues.HoldsValues IsFinalArc final_arc_words a.queue
  pub row_values : sorters.HoldsValues IsSourceRow source_row_words l.rows
  pub name_values : sorters.HoldsValues IsName name_words l.names
  pub queue_served : queues.Serves parts a.queue
  pub rows_served : sorters.Serves parts l.rows
  pub names_served : sorters.Serves parts l.names
  pub out_made : ¬ CanBeTaken parts.step parts.next (nodes.filling_of w).file
  pub inner_made : ¬ CanBeTaken parts.step parts.next (file_of (inner_of a.reader))
  pub ends_made : ¬ CanBeTaken parts.step parts.next (file_of (ends_of a.reader))
  pub out_inner : file_of (inner_of a.reader) ≢ (nodes.filling_of w).file
  pub out_ends : file_of (ends_of a.reader) ≢ (nodes.filling_of w).file
  pub no_run : ¬ IsRun a l (nodes.filling_of w).file

-- so many arcs of a file are read from its end on: no more of them are left, and fewer once one was given
pub record IsWithin (f : FileNo) (count : ℕ) (s : ArcStream) : Type 0 where
  pub file_is : file_of s ≡ f
  pub left : left_of s ≤ count
  pub given : IfSome (given_of s) (λ a. left_of s < count)

-- these arcs are read, of both files
pub record AreWithin (arcs : Unreduced) (r : ArcReader) : Type 0 where
  pub inner_within : IsWithin arcs.inner arcs.inner_count (inner_of r)
  pub ends_within : IsWithin arcs.ends arcs.ends_count (ends_of r)

-- the arc that comes next is there to be taken
abbrev pub IsThere : Ahead → Bool → Type 0
IsThere a true = 1 ≤ queues.held a.queue
IsThere a false = IsSome a.end

abbrev pub IsNext : Ahead → Option (FinalArc × Bool) → Type 0
IsNext a None = Unit
IsNext a (Some next) = IsThere a next.1
