-- What tidying up the steps of the last commit changes once more as a run begins, and what it costs.
use Rattle.std.specs.Prelude.{◌≡◌, ◌⊎◌, ℕ, ◌+◌, ◌-◌, ◌<◌, ◌≤◌, true, cond, nat_lt, IsTrue, Option, List, []}
use Rattle.std.specs.Prelude.{length, get_or}
use Rattle.bool_tables.specs.declared.steps.Step.{Step}
use Rattle.bool_tables.specs.declared.steps.Step.TheVariants.{Drop}
use Rattle.bool_tables.specs.declared.steps.Planned.{Planned}
use Rattle.shelf_model.specs.declared.file_no.FileNo.{FileNo}
use Rattle.shelf_model.specs.Folder.{Folder, file_in}
use Rattle.shelf_model.specs.World.{Moment, World, now}
use Rattle.step_work.specs.Tuples.{sweeps}
use Rattle.step_work.specs.Plans.{no_step}
use Rattle.file_numbers.specs.Files.{first_run_part}
use Rattle.catalogue.specs.declared.layout.Entry.{Entry}
use Rattle.catalogue.specs.Counts.{present}
use Rattle.catalogue.specs.Entries.{IsEntryOf}
use Rattle.sound_image.specs.Files.{node_file}
use Rattle.sound_image.specs.Entries.{kind_of}
use Rattle.sound_image.specs.Steps.{IsCutBy}
use Rattle.sweep_core.specs.declared.checkpoint.Checkpoint.{Checkpoint}
use Rattle.step_engine.specs.LeftBehind.{IsLastPoint, IsLeftBehind}
use Rattle.script_runner.specs.Calls.{cut_calls}
use Rattle.script_runner.specs.Together.{AreDrops, OnlyEmptied, IsDropped}

-- step k of the plan
abbrev pub planned_step : List Planned → ℕ → Step
planned_step steps k = (get_or steps k no_step).step

-- the last commit may have been that of step k and the drops behind it: the committed steps behind it are drops, and
-- with it they are 1,024 at most
pub record MayBeLast (steps : List Planned) (done k : ℕ) : Type 0 where
  pub planned : done ≤ length steps
  pub within : k < done
  pub few : done ≤ k + 1024
  pub drops : AreDrops steps (k + 1) done

-- a file that is cut where step k is tidied up, with some next part
abbrev pub IsCutOf : List Planned → ℕ → FileNo → Type 0
IsCutOf steps k f = (next : ℕ) × IsCutBy (planned_step steps k) k next f

-- the first of the steps that the last commit may have had, 1,024 at most
abbrev pub may_wait : ℕ → ℕ
may_wait done = done - 1024

-- a file that is cut where the steps of the last commit are tidied up: one of such a step k, or of a diagram that one of
-- 1,024 steps dropped, as these may have been committed together too
abbrev pub IsCutLast : List Planned → ℕ → FileNo → Type 0
IsCutLast steps done f = ((k : ℕ) × MayBeLast steps done k × IsCutOf steps k f)
    ⊎ IsDropped steps (may_wait done) done f

-- no other file changed, and what held no byte holds none
abbrev pub TidiedLast : List Planned → ℕ → Moment → Moment → Type 0
TidiedLast steps done = OnlyEmptied (IsCutLast steps done)

-- the next part up to which a step is tidied up once more: of fewer than sixteen turns it took no part of a run
abbrev pub tidied_to : Entry → ℕ
tidied_to e = cond (nat_lt e.turns 16) first_run_part e.parts

-- the calls of these cuts: four at most of a step of fewer than sixteen turns, and else those of one that went on
abbrev pub last_calls : Step → Entry → ℕ
last_calls step e = cond (nat_lt e.turns 16) (cond (sweeps step) 4 1) (cut_calls true step e.parts)

-- the calls that tidy up step k and cut so many files besides: one that reads its entry, and those of the cuts where
-- that stands whole at its place
abbrev pub TidiesFor : List Planned → ℕ → ℕ → World → World → Type 0
TidiesFor steps k besides old new = (new.clock ≤ old.clock + (1 + besides))
    ⊎ ((e : Entry) × IsEntryOf k (present (now old).folder) e
    × (new.clock ≤ old.clock + (1 + last_calls (planned_step steps k) e + besides)))

-- the calls are 67,152 at most: none where no step is committed, and else those of such a step k, and one for each step
-- that the last commit may have had
pub record TidyCosts (steps : List Planned) (done : ℕ) (old new : World) : Type 0 where
  pub most : new.clock ≤ old.clock + 67152
  pub none : done ≡ 0 → new.clock ≤ old.clock
  pub few : 0 < done → done ≤ length steps
      → (k : ℕ) × MayBeLast steps done k × TidiesFor steps k (done - may_wait done) old new

-- what is emptied by the entry of step k: the file of the diagram that it drops, or of a step that swept what one
-- leaves behind that went on from its last gated checkpoint
pub record IsEmptiedBy (steps : List Planned) (k : ℕ) (e : Entry) (old new : Folder) : Type 0 where
  pub dropped : (gone : ℕ) → planned_step steps k ≡ Drop gone → (file_in new (node_file gone)).bytes ≡ []
  pub swept : IsTrue (sweeps (planned_step steps k))
      → (last : Option Checkpoint) → IsLastPoint k (present old) last
      → (f : FileNo) → IsLeftBehind k (tidied_to e) last f → (file_in new f).bytes ≡ []

-- so it is where such an entry stands whole at its place
abbrev pub EmptiesBy : List Planned → ℕ → Folder → Folder → Type 0
EmptiesBy steps k old new = (e : Entry) → IsEntryOf k (present old) e → e.kind ≡ kind_of (planned_step steps k)
    → IsEmptiedBy steps k e old new

-- what such a step k left behind is empty, and so are the files of the diagrams that the steps which the last commit may
-- have had dropped
pub record EmptiesLast (steps : List Planned) (done : ℕ) (old new : Folder) : Type 0 where
  pub first : (k : ℕ) → MayBeLast steps done k → EmptiesBy steps k old new
  pub dropped : done ≤ length steps → (k gone : ℕ) → may_wait done ≤ k → k < done → planned_step steps k ≡ Drop gone
      → (file_in new (node_file gone)).bytes ≡ []
