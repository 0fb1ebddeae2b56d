-- What the calls leave by which a machine is made sure, so that it can be saved, and what they answer.
use Rattle.std.specs.Prelude.{◌≡◌, ℕ, ◌≤◌, ◌^◌, Bool, false, IsTrue, List, Option, Result, OnOk, IfErr}
use Rattle.rec_words.specs.Words.{terminal}
use Rattle.shelf_model.specs.declared.file_no.FileNo.{FileNo}
use Rattle.shelf_model.specs.declared.sort_fault.SortFault.{SortFault}
use Rattle.shelf_model.specs.Faults.{Faults}
use Rattle.shelf_model.specs.World.{World}
use Rattle.arc_file.specs.declared.arc.Arc.{Arc}
use Rattle.arc_file.specs.declared.unreduced.Unreduced.{Unreduced}
use Rattle.arc_file.specs.Writers.{made_of, HoldsArcs}
use Rattle.run_tiers.specs.declared.run.RunTable.{RunTable}
use Rattle.level_queue.specs.Queues.{last_of, held, IsRunOf}
use Rattle.level_queue.specs.Tables.{AreTables, AreTidyTables, ServeTables, AreFirmTables, NamesAny, TablesList}
use Rattle.sweep_core.specs.Carries.{Carries}
use Rattle.sweep_core.specs.Sweeps.{IsNoDamage}
use Rattle.top_down_sweep.specs.declared.machine.Machine.{Machine}
use Rattle.tuple_asks.specs.Items.{ask_words, IsAsk, ask_cmp}
use Rattle.top_down_sweep.specs.Sweeps.{machine_accounts, Refuses}
use Rattle.tuple_asks.specs.Knowing.{FileBytes}
use Rattle.top_down_sweep.specs.Waiting.{HoldsSome}
use Rattle.top_down_sweep.specs.Ordered.{KeepsArcs}
use Rattle.top_down_sweep.specs.Meaning.{Contents, StandsFor, AreFilesOf}
use Rattle.top_down_sweep.specs.Calls.{IsFit, KeepsAsks, SameTask}

-- what waits, was read and was put stays, and so does the place
pub record KeepsAll {S : Type 0} (tells : S → Bool) (world : S → World) (before after : S) (old new : Machine) : Type 0
  where
    pub fit : IsFit tells world after new
    pub load : held new.queue ≡ held old.queue
    pub asks : IsTrue (tells after) → (bytes : Option FileBytes) → KeepsAsks bytes old (world before) new (world after)
    pub arcs : IsTrue (tells after) → KeepsArcs old (world before) new (world after)
    pub stands : IsTrue (tells after) → (k : Contents) → StandsFor old (world before) k → StandsFor new (world after) k

-- what such a call leaves and costs, and why it is refused: no file is damaged where it is known what waits
pub record Saves {S T : Type 0} (tells : S → Bool) (world : S → World) (counts : S → Faults)
    (most_calls most_parts : ℕ) (before after : S) (old new : Machine) (result : Result T SortFault) : Type 0 where
  pub carries : Carries tells world counts machine_accounts most_calls most_parts before after old new result
  pub same : SameTask old new
  pub place_is : new.place ≡ old.place
  pub operands_are : new.operands ≡ old.operands
  pub last_is : last_of new.queue ≡ last_of old.queue
  pub refused : IfErr result (Refuses new)
  pub undamaged : IfErr result (λ e. IsTrue (tells after) → (bytes : Option FileBytes)
      → HoldsSome bytes old (world before) → IsNoDamage e)
  pub keeps : OnOk result (KeepsAll tells world before after old new)

-- these are the arcs that were put, with any root: few, and whatever a stop leaves the two files are they
pub record HasSettled {S : Type 0} (tells : S → Bool) (world : S → World) (before after : S) (old new : Machine)
    (made : Unreduced) : Type 0 where
  pub made_is : made ≡ made_of new.writer (terminal false)
  pub inner_few : made.inner_count ≤ 2 ^ 46
  pub ends_few : made.ends_count ≤ 2 ^ 46
  pub files : IsTrue (tells after) → (inner ends : List Arc) → HoldsArcs old.writer (world before) inner ends
      → AreFilesOf made (world after) inner ends

-- these are the tables of the queue: of its runs and no others, which are sure; they stand for the asks that wait
pub record HasTables {S : Type 0} (tells : S → Bool) (world : S → World) (before after : S) (old new : Machine)
    (tables : List RunTable) : Type 0 where
  pub are : AreTables tables
  pub tidy : AreTidyTables tables
  pub served : ServeTables new.parts tables
  pub named : (f : FileNo) → IsRunOf new.queue f → NamesAny new.parts.step tables f
  pub only : (f : FileNo) → NamesAny new.parts.step tables f → IsRunOf new.queue f
  pub firm : IsTrue (tells after) → AreFirmTables new.parts.step tables (world after)
  pub list : IsTrue (tells after) → (k : Contents) → StandsFor old (world before) k
      → TablesList IsAsk ask_words ask_cmp new.parts.step tables (last_of new.queue) (world after) k.asks
