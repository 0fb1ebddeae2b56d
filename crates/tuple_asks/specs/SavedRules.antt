-- The rules of what a checkpoint keeps of a sweep from the root down.
use Rattle.std.specs.Prelude.{◌≡◌, ◌≢◌, ℕ, ◌*◌, ◌^◌, ◌≤◌, List, [], slice_index_or, Option, Some, None, IfSome}
use Rattle.std.specs.List.{Any}
use Rattle.rec_words.specs.Words.{node_size}
use Rattle.shelf_model.specs.declared.file_no.FileNo.{FileNo}
use Rattle.shelf_model.specs.Calls.{longest}
use Rattle.file_numbers.specs.Files.{inner_part}
use Rattle.run_tiers.specs.declared.run.Run.{Run}
use Rattle.run_tiers.specs.declared.run.RunTable.{RunTable}
use Rattle.run_tiers.specs.Tables.{IsInUse}
use Rattle.sweep_core.specs.declared.checkpoint.Checkpoint.{Checkpoint}
use Rattle.sweep_core.specs.Saving.{IsMadePart, IsReadPart}
use Rattle.tuple_asks.specs.declared.ask.Ask.{Ask}
use Rattle.tuple_asks.specs.declared.place.Asking.{Asking}
use Rattle.tuple_asks.specs.declared.saved.SavedOperand.{SavedOperand}
use Rattle.tuple_asks.specs.declared.saved.SavedArcs.{SavedArcs}
use Rattle.tuple_asks.specs.declared.saved.SavedMachine.{SavedMachine}

-- the first three tables of the checkpoint, which are the queue's
abbrev pub table_in : Checkpoint → ℕ → RunTable
table_in c k = record { runs = slice_index_or c.runs k [] }

-- the operand is a file that the step may read, of no more nodes than the longest file has, and none of the files of
-- arcs
pub record IsSavedOperand (c : Checkpoint) (a : SavedArcs) (o : SavedOperand) : Type 0 where
  pub other : IsReadPart c.step c.next_part o.file
  pub not_inner : o.file ≢ a.inner
  pub not_ends : o.file ≢ a.ends
  pub few : IfSome o.read (λ place. place * node_size ≤ longest)

-- before the root is asked for, no ask was taken; and the numbers of a level are no more than the arcs to nodes
abbrev pub IsSavedPhase : SavedArcs → Option Ask → Option Asking → Type 0
IsSavedPhase a taken None = taken ≡ None
IsSavedPhase a taken (Some s) = IfSome s.last (λ x. x.number ≤ a.inner_count)

-- two files of the step are made, which are no runs, and neither has more arcs than the longest file
pub record AreSavedArcs (c : Checkpoint) (a : SavedArcs) : Type 0 where
  pub parts : inner_part ≤ c.next_part
  pub inner_made : IsMadePart c.step c.next_part a.inner
  pub ends_made : IsMadePart c.step c.next_part a.ends
  pub two_files : a.inner ≢ a.ends
  pub inner_few : a.inner_count ≤ 2 ^ 46
  pub ends_few : a.ends_count ≤ 2 ^ 46

-- the file is that of a run of a step of which records are left, and of one of several
abbrev pub IsOfRun : ℕ → FileNo → Run → Type 0
IsOfRun step f r = IsInUse r × (f ≡ record { step = step; part = r.part })

abbrev pub IsOfRuns : ℕ → List Run → FileNo → Type 0
IsOfRuns step runs f = Any (IsOfRun step f) runs

-- no file of arcs is a run of the queue
pub record AreNoRuns (c : Checkpoint) (a : SavedArcs) : Type 0 where
  pub inner : ¬ IsOfRuns c.step (table_in c 0).runs a.inner
  pub ends : ¬ IsOfRuns c.step (table_in c 0).runs a.ends

-- these are the files of arcs, the operands and where the sweep stands
pub record KeepsRules (c : Checkpoint) (m : SavedMachine) : Type 0 where
  pub arcs : AreSavedArcs c m.arcs
  pub no_runs : AreNoRuns c m.arcs
  pub first : IsSavedOperand c m.arcs m.first
  pub second : IsSavedOperand c m.arcs m.second
  pub third : IsSavedOperand c m.arcs m.third
  pub phase : IsSavedPhase m.arcs m.taken m.asking
