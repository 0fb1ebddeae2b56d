-- What is true in a phase stays while asks are answered.
use Rattle.std.proofs.Common.{◌≡◌, ◌∙◌, ap, subst, sym}
use Rattle.std.specs.Prelude.{Option}
use Rattle.arc_file.specs.declared.writer.ArcWriter.{ArcWriter}
use Rattle.tuple_asks.specs.declared.ask.Ask.{Ask}
use Rattle.tuple_asks.specs.declared.place.Phase.{Phase}
use Rattle.tuple_asks.specs.declared.place.Place.{Place}
use Rattle.top_down_sweep.specs.declared.machine.Machine.{Machine}
use Rattle.tuple_asks.specs.declared.place.Phase.TheVariants.{Fresh, Asking, Ended}
use Rattle.shelf_model.specs.World.{World}
use Rattle.arc_file.specs.Writers.{AreInStep}
use Rattle.top_down_sweep.specs.Sweeps.{IsPhaseAt, IsAsking}
use Rattle.top_down.specs.declared.tuple.Tuple.{Tuple}
use Rattle.top_down.specs.Rules.{Rule}
use Rattle.top_down_sweep.specs.Ordered.{IsOrdered, IsOrderedAt}
use Rattle.top_down_sweep.specs.Calls.{HoldsAsks, IsStepAt, IsMachineInStep, IsTrustedAt, IsMachineTrusted}

-- whatever was taken
pub phase_taken : (w : ArcWriter) (last now : Option Ask) (phase : Phase) → IsAsking phase → IsPhaseAt w last phase → IsPhaseAt w now phase
phase_taken w last now Fresh is at = absurd is
phase_taken w last now (Asking s) is at = at
phase_taken w last now (Ended made) is at = absurd is

-- asks are answered in that phase
pub is_asking : (phase : Phase) (s : _) → phase ≡ Asking s → IsAsking phase
is_asking phase s same = subst IsAsking (sym same) tt

-- they are where the place stays
pub still_asking : (p q : Machine) (s : _) → p.place.phase ≡ Asking s → q.place ≡ p.place → IsAsking q.place.phase
still_asking p q s is same = is_asking q.place.phase s (ap (λ (place : Place). place.phase) same ∙ is)

-- what a folder holds while asks are answered
pub step_at : (m : Machine) (world : World) → IsAsking m.place.phase → AreInStep m.writer world
    → IsMachineInStep m world
step_at m world is writes = by m.place.phase is
  where
    by : (phase : Phase) → IsAsking phase → IsStepAt phase m world
    by Fresh is = absurd is
    by (Asking s) is = writes
    by (Ended made) is = absurd is

-- and what its turns put there
pub trusted_at : (rule : Rule) (begins : Tuple → Tuple) (m : Machine) (world : World) → IsAsking m.place.phase
    → HoldsAsks rule begins m world → IsOrdered m world → IsMachineTrusted rule begins m world
trusted_at rule begins m world is holds put = by m.place.phase is put
  where
    by : (phase : Phase) → IsAsking phase → IsOrderedAt phase m world → IsTrustedAt rule begins phase m world
    by Fresh is put = absurd is
    by (Asking s) is put = (holds, put)
    by (Ended made) is put = absurd is

-- what is trusted in a phase
pub trusts_in : (rule : Rule) (begins : Tuple → Tuple) (m : Machine) (world : World) (p : Phase)
    → m.place.phase ≡ p → IsMachineTrusted rule begins m world → IsTrustedAt rule begins p m world
trusts_in rule begins m world p is trusts = subst (λ q. IsTrustedAt rule begins q m world) is trusts
