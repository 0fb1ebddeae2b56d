-- What the calls leave by which all that a reduction made is made sure.
use Rattle.std.specs.Prelude.{◌≡◌, ℕ, Bool, IsTrue, List, Result, OnOk, IfErr, length}
use Rattle.std.specs.declared.cmp.Ordering.{Ordering}
use Rattle.shelf_model.specs.declared.file_no.FileNo.{FileNo}
use Rattle.shelf_model.specs.declared.sort_fault.SortFault.{SortFault}
use Rattle.shelf_model.specs.Faults.{Faults}
use Rattle.shelf_model.specs.File.{firm_file}
use Rattle.shelf_model.specs.World.{World, file}
use Rattle.canon_file.specs.Canon.{node_bytes}
use Rattle.block_stream.specs.Writes.{count_of}
use Rattle.node_file.specs.Writers as nodes
use Rattle.arc_diagrams.specs.Items.{final_arc_words, IsFinalArc, final_arc_cmp, source_row_words, IsSourceRow, source_row_cmp, name_words, IsName, name_cmp}
use Rattle.run_tiers.specs.declared.run.RunTable.{RunTable}
use Rattle.run_tiers.specs.Tables as runs
use Rattle.run_merge.specs.Sorters as sorters
use Rattle.run_merge.specs.Tables.{TableLists}
use Rattle.level_queue.specs.Queues as queues
use Rattle.level_queue.specs.Tables.{table_at}
use Rattle.sweep_core.specs.Carries.{Carries}
use Rattle.sweep_core.specs.Sweeps.{IsNoDamage}
use Rattle.reduce_lists.specs.AtWork.{AreListed}
use Rattle.reduce_lists.specs.Contents.{Contents, Holds}
use Rattle.reduce_lists.specs.Damage.{IsListCause}
use Rattle.reduce_sweep.specs.declared.reduce.ReduceSweep.{ReduceSweep}
use Rattle.reduce_sweep.specs.Sweeps.{out_of, accounts}
use Rattle.reduce_sweep.specs.Calls.{IsFit, SameTask}

-- all that it holds stays, and so does its place
pub record KeepsAll {S : Type 0} (tells : S → Bool) (world : S → World) (before after : S) (old new : ReduceSweep)
    : Type 0 where
  pub fit : IsFit tells world after new
  pub place_is : new.place ≡ old.place
  pub reader_is : new.ahead.reader ≡ old.ahead.reader
  pub inner_is : new.ahead.inner ≡ old.ahead.inner
  pub end_is : new.ahead.end ≡ old.ahead.end
  pub queue_held : queues.held new.ahead.queue ≡ queues.held old.ahead.queue
  pub rows_held : sorters.held new.lists.rows ≡ sorters.held old.lists.rows
  pub names_held : sorters.held new.lists.names ≡ sorters.held old.lists.names
  pub nodes_many : count_of (nodes.filling_of new.writer) ≡ count_of (nodes.filling_of old.writer)
  pub listed : IsTrue (tells after) → AreListed old.ahead old.lists (world before) →
      AreListed new.ahead new.lists (world after)
  pub holds : IsTrue (tells after) → (k : Contents) → Holds old.ahead old.lists old.writer (world before) k →
      Holds new.ahead new.lists new.writer (world after) k

-- what such a call leaves and costs, and why it is refused: no file is damaged where its lists exist
pub record Settles {S T : Type 0} (tells : S → Bool) (world : S → World) (counts : S → Faults)
    (most_calls most_parts : ℕ) (before after : S) (old new : ReduceSweep) (result : Result T SortFault) : Type 0 where
  pub carries : Carries tells world counts accounts most_calls most_parts before after old new result
  pub same : SameTask old new
  pub refused : IfErr result (IsListCause new.parts)
  pub spared : IfErr result (λ e. IsTrue (tells after) → AreListed old.ahead old.lists (world before) → IsNoDamage e)
  pub keeps : OnOk result (KeepsAll tells world before after old new)

-- the file of the nodes has them all, whatever a stop leaves
abbrev pub HasNodes : {S : Type 0} → (S → Bool) → (S → World) → S → S → ReduceSweep → ReduceSweep → Type 0
HasNodes tells world before after old new = IsTrue (tells after) → (k : Contents) →
    Holds old.ahead old.lists old.writer (world before) k →
    file (world after) (out_of new) ≡ firm_file (node_bytes k.nodes)

-- a table names the runs of a list, of so many items: its slots are lawful, and parts that were taken serve it
pub record IsTableOf (s : ReduceSweep) (is_run : FileNo → Type 0) (count : ℕ) (table : RunTable) : Type 0 where
  pub read : runs.IsTable table
  pub tidy : runs.IsTidyTable table
  pub served : runs.ServeTable s.parts table
  pub counted : runs.table_left table ≡ count
  pub named : (f : FileNo) → is_run f → runs.Names s.parts.step table f
  pub only : (f : FileNo) → runs.Names s.parts.step table f → is_run f

-- it stands for what that list held before, and its runs are their own only images
abbrev pub StandsForList : {S T : Type 0} → (T → Type 0) → (T → List ℕ) → (T → T → Ordering) → (S → Bool) → (S → World)
    → S → S → ReduceSweep → ReduceSweep → (Contents → List T) → RunTable → Type 0
StandsForList is_value words cmp tells world before after old new list_of table = IsTrue (tells after) → (k : Contents) →
    Holds old.ahead old.lists old.writer (world before) k → runs.IsFirmTable new.parts.step table (world after)
    × TableLists is_value words cmp new.parts.step table (world after) (list_of k)

-- so it is with the table of the queue, with that of the rows, and with that of the names
pub record QueueFroze {S : Type 0} (tells : S → Bool) (world : S → World) (before after : S) (old new : ReduceSweep)
    (table : RunTable) : Type 0 where
  pub is : IsTableOf new (queues.IsRunOf new.ahead.queue) (queues.held new.ahead.queue) table
  pub stands : StandsForList IsFinalArc final_arc_words final_arc_cmp tells world before after old new
      (λ k. k.queue) table

pub record RowsFroze {S : Type 0} (tells : S → Bool) (world : S → World) (before after : S) (old new : ReduceSweep)
    (table : RunTable) : Type 0 where
  pub is : IsTableOf new (sorters.IsRunOf new.lists.rows) (sorters.held new.lists.rows) table
  pub stands : StandsForList IsSourceRow source_row_words source_row_cmp tells world before after old new
      (λ k. k.rows) table

pub record NamesFroze {S : Type 0} (tells : S → Bool) (world : S → World) (before after : S) (old new : ReduceSweep)
    (table : RunTable) : Type 0 where
  pub is : IsTableOf new (sorters.IsRunOf new.lists.names) (sorters.held new.lists.names) table
  pub stands : StandsForList IsName name_words name_cmp tells world before after old new (λ k. k.names) table

-- five tables: that of the queue and two without runs, that of the rows, and that of the names; and the file of the
-- nodes has them all
pub record AllFroze {S : Type 0} (tells : S → Bool) (world : S → World) (before after : S) (old new : ReduceSweep)
    (tables : List RunTable) : Type 0 where
  pub queue : QueueFroze tells world before after old new (table_at tables 0)
  pub second : runs.IsBareTable (table_at tables 1)
  pub third : runs.IsBareTable (table_at tables 2)
  pub rows : RowsFroze tells world before after old new (table_at tables 3)
  pub names : NamesFroze tells world before after old new (table_at tables 4)
  pub nodes_are : HasNodes tells world before after old new
  pub many : length tables ≡ 5
