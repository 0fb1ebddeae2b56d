-- The rules of the checkpoints of reductions, what these rest on, and what they stand for.
use Rattle.std.specs.Prelude.{◌≡◌, ◌≢◌, ◌⊎◌, ℕ, ◌+◌, ◌*◌, ◌/◌, ◌<◌, ◌≤◌, ◌^◌, List, [], length, take, Option, Some, None}
use Rattle.rec_words.specs.Words.{node_size}
use Rattle.shelf_model.specs.declared.file_no.FileNo.{FileNo}
use Rattle.shelf_model.specs.declared.sort_fault.SortFault.{SortFault}
use Rattle.shelf_model.specs.declared.sort_fault.SortFault.TheVariants.{Shelf, Damaged, RunsSpent}
use Rattle.shelf_model.specs.World.{World}
use Rattle.file_numbers.specs.Files.{inner_part}
use Rattle.canon_file.specs.Canon.{canon_nodes, canon_bytes, node_bytes}
use Rattle.arc_file.specs.declared.kind.Kind.TheVariants.{Inner, End}
use Rattle.arc_file.specs.Files.{HasArcs}
use Rattle.arc_diagrams.specs.Items.{final_arc_words, IsFinalArc, final_arc_cmp, source_row_words, IsSourceRow, source_row_cmp, name_words, IsName, name_cmp}
use Rattle.arc_diagrams.specs.declared.final_arc.FinalArc.{FinalArc}
use Rattle.run_tiers.specs.Tables.{table_left}
use Rattle.run_merge.specs.Tables.{TableShows}
use Rattle.level_queue.specs.Tables.{TablesShow, table_at, tables_left}
use Rattle.saved_words.specs.declared.item.Item.{Item}
use Rattle.saved_words.specs.Fronts.{IsFront}
use Rattle.sweep_core.specs.declared.checkpoint.Checkpoint.{Checkpoint}
use Rattle.sweep_core.specs.Accounts.{CanBeTaken}
use Rattle.sweep_core.specs.Saving.{Saving, IsMadePart, IsReadPart, reads_of}
use Rattle.reduce_lists.specs.Contents.{Contents}
use Rattle.reduce_lists.specs.Damage.{IsDamageAtStart}
use Rattle.reduce_sweep.specs.declared.phase.Phase.{Phase}
use Rattle.reduce_sweep.specs.declared.phase.Phase.TheVariants.{Between, Collect, Number, Forward, Ended}
use Rattle.reduce_sweep.specs.declared.place.Place.{Place}
use Rattle.reduce_sweep.specs.declared.saved.Saved.{Saved}
use Rattle.reduce_sweep.specs.Sweeps.{Task, IsPhaseAt, fuel_at}
use Rattle.reduce_sweep.specs.Remaining.{Diagram, IsLeft}
use Rattle.reduce_sweep.specs.SavedPhase.{phase_of}
use Rattle.reduce_sweep.specs.SavedReduction.{saved_count, saved_words, IsSaved}
use Rattle.reduce_sweep.specs.SavedTables.{tables_of, AreSavedTables, IsRunFront}

-- the first words of the checkpoint are those of a reduction
abbrev pub HasWords : Checkpoint → Saved → Type 0
HasWords c x = IsFront saved_count saved_words IsSaved x c.carry

-- where it has ended with so many nodes these are kept, with the trailer, and nothing else is
pub record IsKeptAtEnd (c : Checkpoint) (x : Saved) (count : ℕ) : Type 0 where
  pub kept_is : x.kept ≡ count + 1
  pub no_inner : x.arcs.inner_count ≡ 0
  pub no_ends : x.arcs.ends_count ≡ 0
  pub no_tables : c.tables ≡ 0

-- and else the tables of its queue, of its rows and of its names
abbrev pub IsKeptAt : Phase → Checkpoint → Saved → Type 0
IsKeptAt Between c x = AreSavedTables c x.out.part
IsKeptAt (Collect source) c x = AreSavedTables c x.out.part
IsKeptAt (Number numbered) c x = AreSavedTables c x.out.part
IsKeptAt Forward c x = AreSavedTables c x.out.part
IsKeptAt (Ended count) c x = IsKeptAtEnd c x count

-- arcs of the file may be left: no sweep takes its part, where arcs are left the step may read it, and they are no more
-- than the longest file has
pub record IsArcFile (c : Checkpoint) (f : FileNo) (count : ℕ) : Type 0 where
  pub made : ¬ CanBeTaken c.step c.next_part f
  pub read : 0 < count → IsReadPart c.step c.next_part f
  pub few : count ≤ 2 ^ 46

-- a file of the step is made, which is no run, of arcs in other files; and what is kept is that of the phase
pub record KeepsRules (c : Checkpoint) (x : Saved) (phase : Phase) : Type 0 where
  pub parts : inner_part ≤ c.next_part
  pub made : IsMadePart c.step c.next_part x.out
  pub inner_apart : x.arcs.inner ≢ x.out
  pub ends_apart : x.arcs.ends ≢ x.out
  pub inner : IsArcFile c x.arcs.inner x.arcs.inner_count
  pub ends : IsArcFile c x.arcs.ends x.arcs.ends_count
  pub phase_at : IsPhaseAt x.level x.kept phase
  pub kept_at : IsKeptAt phase c x

-- its words are those of a reduction in some phase, by these rules
pub record Fits (c : Checkpoint) : Type 0 where
  pub saved : Saved
  pub holds : HasWords c saved
  pub phase : Phase
  pub phase_is : phase_of saved.phase ≡ Some phase
  pub rules : KeepsRules c saved phase

-- a reduction rests on the arc files of which arcs are left, on the nodes that are kept, and on the runs that its
-- tables name, up to where they end
abbrev pub IsArcRest : Saved → FileNo → Type 0
IsArcRest x f = ((f ≡ x.arcs.inner) × (0 < x.arcs.inner_count)) ⊎ ((f ≡ x.arcs.ends) × (0 < x.arcs.ends_count))

abbrev pub IsRest : Checkpoint → Saved → FileNo → ℕ → Type 0
IsRest c x f n = IsArcRest x f ⊎ (((f ≡ x.out) × (n ≤ node_size * x.kept)) ⊎ IsRunFront c f n)

pub record RestsOn (c : Checkpoint) (f : FileNo) (n : ℕ) : Type 0 where
  pub saved : Saved
  pub holds : HasWords c saved
  pub rests : IsRest c saved f n

-- the place at which it stands
abbrev pub place_of : Saved → Phase → Place
place_of x phase = record {
  variables = x.variables;
  arcs = x.arcs;
  known = x.known;
  level = x.level;
  phase = phase;
}

-- the last arc that was taken of the queue
abbrev pub arc_at : Option (Item FinalArc) → Option FinalArc
arc_at None = None
arc_at (Some x) = Some x.value

-- what weighs on the turns to come
abbrev pub weight_of : Checkpoint → Saved → ℕ
weight_of c x = 4 * x.arcs.inner_count + 3 * x.arcs.ends_count + 3 * tables_left (tables_of c)
    + (2 * table_left (table_at (tables_of c) 3) + table_left (table_at (tables_of c) 4))

-- where files have these bytes, what is kept is what remains from its place on; and no more turns than these do
pub record GoesOn (c : Checkpoint) (x : Saved) (phase : Phase) (r : FileNo → List ℕ) (d : Diagram) (turns : ℕ)
    : Type 0 where
  pub contents : Contents
  pub queue_shown : TablesShow IsFinalArc final_arc_words final_arc_cmp c.step (tables_of c) (arc_at x.last) r
      contents.queue
  pub last_is : contents.last ≡ arc_at x.last
  pub inner_has : HasArcs Inner contents.inner x.arcs.inner_count (r x.arcs.inner)
  pub ends_has : HasArcs End contents.ends x.arcs.ends_count (r x.arcs.ends)
  pub rows_shown : TableShows IsSourceRow source_row_words source_row_cmp c.step (table_at (tables_of c) 3) r
      contents.rows
  pub names_shown : TableShows IsName name_words name_cmp c.step (table_at (tables_of c) 4) r contents.names
  pub nodes_are : take (node_size * x.kept) (r x.out) ≡ node_bytes contents.nodes
  pub nodes_many : length contents.nodes ≡ x.kept
  pub left : IsLeft (place_of x phase) d contents
  pub few : fuel_at phase (weight_of c x) ≤ turns

-- where it has ended, the file begins with the canonical bytes of the table, and its nodes are counted
pub record HasEnded (x : Saved) (count : ℕ) (r : FileNo → List ℕ) (d : Diagram) : Type 0 where
  pub bytes_are : take (node_size * (count + 1)) (r x.out) ≡ canon_bytes x.variables d.table
  pub count_is : count ≡ length (canon_nodes x.variables d.table)

abbrev pub StandsAt : Phase → Checkpoint → Saved → (FileNo → List ℕ) → Diagram → ℕ → Type 0
StandsAt Between c x r d turns = GoesOn c x Between r d turns
StandsAt (Collect source) c x r d turns = GoesOn c x (Collect source) r d turns
StandsAt (Number numbered) c x r d turns = GoesOn c x (Number numbered) r d turns
StandsAt Forward c x r d turns = GoesOn c x Forward r d turns
StandsAt (Ended count) c x r d turns = HasEnded x count r d

pub record StandsFor (c : Checkpoint) (r : FileNo → List ℕ) (d : Diagram) (turns : ℕ) : Type 0 where
  pub saved : Saved
  pub holds : HasWords c saved
  pub phase : Phase
  pub phase_is : phase_of saved.phase ≡ Some phase
  pub stands : StandsAt phase c saved r d turns

-- its words say that this is reduced; of how many arcs is left open
pub record Names (c : Checkpoint) (task : Task) : Type 0 where
  pub saved : Saved
  pub holds : HasWords c saved
  pub out_is : saved.out ≡ task.out
  pub inner_is : saved.arcs.inner ≡ task.inner
  pub ends_are : saved.arcs.ends ≡ task.ends
  pub root_is : saved.arcs.root ≡ task.arcs.root
  pub variables_are : saved.variables ≡ task.variables

-- its words say that the nodes of a diagram of so many variables are put into that file
pub record Makes (c : Checkpoint) (out : FileNo) (n : ℕ) : Type 0 where
  pub saved : Saved
  pub holds : HasWords c saved
  pub out_is : saved.out ≡ out
  pub variables_are : saved.variables ≡ n

-- its words say that the arcs which are reduced stand in two files of that step
pub record ReadsArcsOf (c : Checkpoint) (step : ℕ) : Type 0 where
  pub saved : Saved
  pub holds : HasWords c saved
  pub inner_own : saved.arcs.inner.step ≡ step
  pub ends_own : saved.arcs.ends.step ≡ step

-- its arc files, where it began with some arcs
abbrev pub IsOperand : Task → FileNo → Type 0
IsOperand task f = ((f ≡ task.arcs.inner) × (0 < task.arcs.inner_count))
    ⊎ ((f ≡ task.arcs.ends) × (0 < task.arcs.ends_count))

abbrev pub reduce_saving : Saving Task Diagram
reduce_saving = record {
  operands = IsOperand;
  text = λ task. [];
  names = Names;
  fits = λ c text. Fits c;
  rests = RestsOn;
  reading = λ task r. 0;
  stands = λ c text r d turns. StandsFor c r d turns;
}

-- the first node that isn't whole, where fewer are there than were kept
pub record IsShort (x : Saved) (r : FileNo → List ℕ) (f : FileNo) (at : ℕ) : Type 0 where
  pub file_is : f ≡ x.out
  pub place_is : at ≡ length (r x.out) / node_size * node_size
  pub short : length (r x.out) < x.kept * node_size

abbrev pub IsShortFault : Saved → (FileNo → List ℕ) → SortFault → Type 0
IsShortFault x r Shelf = Unit
IsShortFault x r (Damaged f at) = IsShort x r f at
IsShortFault x r RunsSpent = ⊥

-- the cause that a reduction isn't rebuilt is a file of nodes that is too short, or the last arc of a file
pub record Blames (c : Checkpoint) (world : World) (e : SortFault) : Type 0 where
  pub saved : Saved
  pub holds : HasWords c saved
  pub cause : IsShortFault saved (reads_of world) e ⊎ IsDamageAtStart saved.arcs world e
