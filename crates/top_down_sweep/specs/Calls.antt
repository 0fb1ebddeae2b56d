-- What every call within a turn leaves and costs.
use Rattle.std.specs.Prelude.{◌≡◌, ℕ, Bool, IsTrue, [], Result, IfErr, Option, Some, None}
use Rattle.shelf_model.specs.declared.sort_fault.SortFault.{SortFault}
use Rattle.shelf_model.specs.Faults.{Faults}
use Rattle.shelf_model.specs.World.{World, file}
use Rattle.arc_file.specs.Writers.{inner_file, ends_file, AreInStep, HoldsArcs}
use Rattle.level_queue.specs.Queues.{shown, last_of, IsNoLess}
use Rattle.sweep_core.specs.Accounts.{Leaves}
use Rattle.sweep_core.specs.Sweeps.{IsFirm}
use Rattle.top_down.specs.declared.tuple.Tuple.{Tuple}
use Rattle.top_down.specs.Rules.{Rule}
use Rattle.tuple_asks.specs.declared.ask.Ask.{Ask}
use Rattle.tuple_asks.specs.declared.place.Phase.{Phase}
use Rattle.tuple_asks.specs.declared.place.Phase.TheVariants.{Fresh, Asking, Ended}
use Rattle.top_down_sweep.specs.declared.machine.Machine.{Machine}
use Rattle.top_down_sweep.specs.declared.sweep.TopDownSweep.{TopDownSweep}
use Rattle.tuple_asks.specs.Items.{IsAsk, ask_cmp}
use Rattle.tuple_asks.specs.Knowing.{FileBytes, StaysKnown}
use Rattle.top_down_sweep.specs.Knowing.{bytes_in}
use Rattle.top_down_sweep.specs.Waiting.{AreApart, HoldsSome, HoldsFirst}
use Rattle.tuple_asks.specs.Operands.{HasNoHands}
use Rattle.top_down_sweep.specs.Ordered.{AreOrdered, HoldsPut}
use Rattle.top_down_sweep.specs.Sweeps.{files_in, machine_accounts, IsSoundMachine, Refuses}

-- its files of arcs end behind the arcs that were put; once it has ended, they stay whatever a stop
-- leaves
abbrev pub IsStepAt : Phase → Machine → World → Type 0
IsStepAt Fresh m world = AreInStep m.writer world
IsStepAt (Asking s) m world = AreInStep m.writer world
IsStepAt (Ended made) m world = IsFirm (file world (inner_file m.writer)) × IsFirm
    (file world (ends_file m.writer))

abbrev pub IsMachineInStep : Machine → World → Type 0
IsMachineInStep m world = IsStepAt m.place.phase m world

abbrev pub IsInStep : {O : Type 0} → TopDownSweep O → World → Type 0
IsInStep s world = IsMachineInStep s.machine world

-- asks that fit wait; and where the operands are apart and the operation makes of pointers that their files know such
-- pointers alone, the files know all that the asks name
pub record HoldsAsks (rule : Rule) (begins : Tuple → Tuple) (m : Machine) (world : World) : Type 0 where
  pub some : HoldsSome None m world
  pub known : AreApart (files_in m) m.parts.step → StaysKnown rule begins (bytes_in m world)
      → HoldsSome (Some (bytes_in m world)) m world

-- so they do, and that ask is the first of them
pub record HoldsAskFirst (rule : Rule) (begins : Tuple → Tuple) (a : Ask) (m : Machine) (world : World) : Type 0 where
  pub some : HoldsFirst None a m world
  pub known : AreApart (files_in m) m.parts.step → StaysKnown rule begins (bytes_in m world)
      → HoldsFirst (Some (bytes_in m world)) a m world

-- what its turns put stands in its files: asks that fit wait, and the arcs are in order; before the root
-- is asked for, nothing was read or put
abbrev pub IsTrustedAt : Rule → (Tuple → Tuple) → Phase → Machine → World → Type 0
IsTrustedAt rule begins Fresh m world =
    HoldsAsks rule begins m world × HasNoHands m.operands × HoldsArcs m.writer world [] []
IsTrustedAt rule begins (Asking s) m world = HoldsAsks rule begins m world × HoldsPut s m world
IsTrustedAt rule begins (Ended made) m world = AreOrdered made world

abbrev pub IsMachineTrusted : Rule → (Tuple → Tuple) → Machine → World → Type 0
IsMachineTrusted rule begins m world = IsTrustedAt rule begins m.place.phase m world

abbrev pub IsTrusted : {O : Type 0} → (O → Rule) → (O → Tuple → Tuple) → TopDownSweep O → World → Type 0
IsTrusted rule begins s world = IsMachineTrusted (rule s.operation) (begins s.operation) s.machine world

-- within a turn it is sound, and its files hold what it takes them to hold
pub record IsFit {S : Type 0} (tells : S → Bool) (world : S → World) (shelf : S) (m : Machine) :
    Type 0 where
  pub sound : IsSoundMachine m
  pub at_work : IsTrue (tells shelf) → AreInStep m.writer (world shelf)

-- where asks that fit waited, such asks wait still
abbrev pub KeepsAsks : Option FileBytes → Machine → World → Machine → World → Type 0
KeepsAsks bytes m old q new = HoldsSome bytes m old → HoldsSome bytes q new

-- what no call changes
pub record SameTask (old new : Machine) : Type 0 where
  pub files_are : files_in new ≡ files_in old
  pub variables_are : new.place.variables ≡ old.place.variables

-- what a call leaves and costs, and why it is refused
pub record Does {S T : Type 0} (tells : S → Bool) (world : S → World) (counts : S → Faults)
    (most_calls most_parts : ℕ) (before after : S) (old new : Machine) (result : Result T SortFault)
    : Type 0 where
  pub leaves : Leaves tells world counts machine_accounts most_calls most_parts before after old new
      result
  pub same : SameTask old new
  pub refused : IfErr result (Refuses new)

-- the ask is shown as the first one: it is a value that isn't less than the last one taken
pub record IsFirst (m : Machine) (a : Ask) : Type 0 where
  pub shown_is : shown m.queue ≡ Some a
  pub value : IsAsk a
  pub no_less : IsNoLess ask_cmp (last_of m.queue) a
