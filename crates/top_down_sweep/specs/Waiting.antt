-- The asks that wait, and what was read of the operands, where a folder tells its content.
use Rattle.std.specs.Prelude.{◌≡◌, ◌≢◌, ℕ, ◌<◌, List, ◌∷◌, All, Option, IfSome}
use Rattle.shelf_model.specs.declared.file_no.FileNo.{FileNo}
use Rattle.shelf_model.specs.World.{World}
use Rattle.level_queue.specs.declared.queue.LevelQueue.{LevelQueue}
use Rattle.level_queue.specs.Queues as queues
use Rattle.tuple_asks.specs.declared.ask.Ask.{Ask}
use Rattle.top_down_sweep.specs.declared.machine.Machine.{Machine}
use Rattle.tuple_asks.specs.declared.files.Files.{Files}
use Rattle.tuple_asks.specs.Items.{ask_words, IsAsk, ask_cmp}
use Rattle.tuple_asks.specs.Knowing.{FileBytes, KnowsMembers, KnowsHands}
use Rattle.top_down_sweep.specs.Knowing.{bytes_in}
use Rattle.top_down_sweep.specs.Sweeps.{files_in, IsMade}
use Rattle.tuple_asks.specs.Operands.{Fits, AreReading}

-- in that world these asks wait, and they ascend
abbrev pub Waits : LevelQueue Ask → World → List Ask → Type 0
Waits q world asks = queues.Lists IsAsk ask_words ask_cmp q world asks

-- the file is none of those that the sweep makes, and none of the parts that it may take
pub record IsApart (files : Files) (step : ℕ) (f : FileNo) : Type 0 where
  pub not_inner : f ≢ files.inner
  pub not_ends : f ≢ files.ends
  pub no_part : f.step ≡ step → f.part < 3

-- so are all operands
pub record AreApart (files : Files) (step : ℕ) : Type 0 where
  pub first : IsApart files step files.first
  pub second : IsApart files step files.second
  pub third : IsApart files step files.third

-- where files are given, they are the operands' ones, which are apart
abbrev pub AreBytesOf : Option FileBytes → Machine → World → Type 0
AreBytesOf bytes m world = IfSome bytes (λ b. (b ≡ bytes_in m world) × AreApart (files_in m) m.parts.step)

-- where files are given, they know the pointers that the ask names
abbrev pub KnowsAsk : Option FileBytes → Ask → Type 0
KnowsAsk bytes a = IfSome bytes (λ b. KnowsMembers b a.members)

-- those asks wait, and all fit; where files are given, they know what the asks and the nodes at hand name; none stands
-- in a file that the sweep makes; and the operands are read as their files say, where they are apart
pub record Holds (bytes : Option FileBytes) (m : Machine) (world : World) (asks : List Ask) : Type 0 where
  pub wait : Waits m.queue world asks
  pub fit : All (Fits m.operands) asks
  pub known : All (KnowsAsk bytes) asks
  pub hands : IfSome bytes (λ b. KnowsHands b m.operands)
  pub no_run : (f : FileNo) → IsMade (files_in m) f → ¬ queues.IsRunOf m.queue f
  pub reading : AreApart (files_in m) m.parts.step → AreReading m.operands world

-- some asks wait so
abbrev pub HoldsSome : Option FileBytes → Machine → World → Type 0
HoldsSome bytes m world = (asks : List Ask) × Holds bytes m world asks

-- that ask is the first of those that wait
abbrev pub HoldsFirst : Option FileBytes → Ask → Machine → World → Type 0
HoldsFirst bytes a m world = (rest : List Ask) × Holds bytes m world (a ∷ rest)
