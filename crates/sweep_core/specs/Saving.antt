-- What is seen of the checkpoints of a sweep: what they rest on, and what they stand for.
use Rattle.std.specs.Prelude.{◌≡◌, ◌≢◌, ◌⊎◌, ℕ, ◌<◌, ◌≤◌, List}
use Rattle.shelf_model.specs.declared.file_no.FileNo.{FileNo}
use Rattle.shelf_model.specs.World.{World, file}
use Rattle.file_numbers.specs.Files.{nodes_part, inner_part, ends_part, first_run_part, checkpoint_file, checkpoint_gate}
use Rattle.sweep_core.specs.declared.checkpoint.Checkpoint.{Checkpoint}
use Rattle.sweep_core.specs.Accounts.{CanBeTaken}
use Rattle.sweep_core.specs.Tables.{Names, HasTables}

-- what is seen of the checkpoints of the sweeps of a kind
pub record Saving (Task Job : Type 0) : Type 1 where
  -- the files that a sweep reads and doesn't write: its checkpoints rest on all of each
  pub operands : Task → FileNo → Type 0
  -- the text that it reads
  pub text : Task → List ℕ
  -- a checkpoint says that this is the task: which files are read and made, and of how many variables they are
  pub names : Checkpoint → Task → Type 0
  -- with a text, it keeps the rules of the kind
  pub fits : Checkpoint → List ℕ → Type 0
  -- it rests on so many first bytes of the file
  pub rests : Checkpoint → FileNo → ℕ → Type 0
  -- with what the files hold, no more calls than these read the operands again
  pub reading : Task → (FileNo → List ℕ) → ℕ
  -- with a text, and with what the files hold, it does the job, and no more turns than these remain
  pub stands : Checkpoint → List ℕ → (FileNo → List ℕ) → Job → ℕ → Type 0

-- what a read gives of each file
abbrev pub reads_of : World → FileNo → List ℕ
reads_of w f = (file w f).bytes

-- the file is one that a sweep of the step makes: its nodes, or one of its two files of arcs, whose parts were taken
pub record IsMadePart (step next : ℕ) (f : FileNo) : Type 0 where
  pub step_is : f.step ≡ step
  pub part : (f.part ≡ nodes_part) ⊎ ((inner_part ≤ f.part) × (f.part ≤ ends_part) × (f.part < next))

-- the file is one that a sweep of the step may read without making it: one of another step, or one of those that the
-- sweeps of the step make
abbrev pub IsReadPart : ℕ → ℕ → FileNo → Type 0
IsReadPart step next f = (f.step ≢ step) ⊎ IsMadePart step next f

-- a sweep of the step makes files of the step, and its operands are of other steps, or were made before it began
pub record IsOfStep (makes operands : FileNo → Type 0) (step next : ℕ) : Type 0 where
  pub parts : inner_part ≤ next
  pub made : (f : FileNo) → makes f → IsMadePart step next f
  pub others : (f : FileNo) → operands f → IsReadPart step next f
  pub apart : (f : FileNo) → operands f → ¬ (makes f)

-- the file isn't one that a sweep may take from the checkpoint on, nor one that holds or counts checkpoints; and where
-- it is a run of the step, the checkpoint names it
pub record IsRestingPlace (c : Checkpoint) (f : FileNo) : Type 0 where
  pub taken : ¬ CanBeTaken c.step c.next_part f
  pub no_points : f ≢ checkpoint_file c.step
  pub no_gate : f ≢ checkpoint_gate c.step
  pub named : f.step ≡ c.step → first_run_part ≤ f.part → Names c f.part

-- the step, the sweep, the turns and the budget are the same
pub record SameHead (old new : Checkpoint) : Type 0 where
  pub step_is : new.step ≡ old.step
  pub sweep_is : new.sweep ≡ old.sweep
  pub turns_are : new.turns ≡ old.turns
  pub budget_is : new.budget ≡ old.budget

-- a checkpoint that a sweep filled: parts are taken from the same number on, and its tables are lawful
pub record IsFilled (next : ℕ) (c : Checkpoint) : Type 0 where
  pub next_is : c.next_part ≡ next
  pub tables : HasTables c

-- the file is an operand; or so many first bytes are sure, of a file that is made or of one that isn't
abbrev pub IsSure : (FileNo → Type 0) → (FileNo → Type 0) → World → FileNo → ℕ → Type 0
IsSure makes operands w f n = operands f ⊎ ((makes f ⊎ (¬ (makes f))) × (n ≤ (file w f).firm))
