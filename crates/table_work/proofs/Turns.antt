-- How many turns remain where more tuples may be met than are listed.
use Rattle.std.proofs.Common.{◌≡◌, ℕ, ◌+◌, ◌-◌, ◌*◌, ◌≤◌, refl, arith}
use Rattle.std.specs.Prelude.{Result, Ok, Err}
use Rattle.shelf_model.specs.declared.sort_fault.SortFault.{SortFault}
use Rattle.shelf_model.specs.World.{World}
use Rattle.sweep_core.specs.Sweeps.{Falls, MovesOn}
use Rattle.sweep_core.specs.declared.turn.Turn.{Turn}
use Rattle.sweep_core.specs.declared.turn.Turn.TheVariants.{More, Ended}
use Rattle.top_down_sweep.specs.declared.machine.Machine.{Machine}
use Rattle.tuple_asks.specs.declared.place.Phase.{Phase}
use Rattle.tuple_asks.specs.declared.place.Phase.TheVariants as phases
use Rattle.top_down_sweep.specs.Fuel.{fuel_at}
use Rattle.top_down_sweep.specs.Turns.{left_at}

-- six more for each tuple more
pub left_of_more : (p : Phase) (m : Machine) (world : World) (few many : ℕ) → few ≤ many
    → left_at p m world many ≤ left_at p m world few + 6 * (many - few)
left_of_more phases.Fresh m world few many more = omega (arith, more)
left_of_more (phases.Asking s) m world few many more = omega (arith, more)
left_of_more (phases.Ended made) m world few many more = omega (arith, more)

-- where one turn less remains of few tuples, one less remains of many
fewer_of_more : (p q : Phase) (m k : Machine) (old new : World) (few many : ℕ) → few ≤ many
    → left_at q k new few + 1 ≤ left_at p m old few → left_at q k new many + 1 ≤ left_at p m old many
fewer_of_more phases.Fresh phases.Fresh m k old new few many more less = omega (arith, more, less)
fewer_of_more phases.Fresh (phases.Asking s) m k old new few many more less = omega (arith, more, less)
fewer_of_more phases.Fresh (phases.Ended made) m k old new few many more less = omega (arith, more, less)
fewer_of_more (phases.Asking s) phases.Fresh m k old new few many more less = omega (arith, more, less)
fewer_of_more (phases.Asking s) (phases.Asking r) m k old new few many more less = omega (arith, more, less)
fewer_of_more (phases.Asking s) (phases.Ended made) m k old new few many more less = omega (arith, more, less)
fewer_of_more (phases.Ended x) q m k old new few many more less = absurd (omega (arith, less))

-- none remains of any number of tuples where no fuel is left
none_of_more : (q : Phase) (k : Machine) (new : World) (many fuel : ℕ) → fuel_at q fuel ≡ 0 → left_at q k new many ≡ 0
none_of_more phases.Fresh k new many fuel none = absurd (omega (arith, none))
none_of_more (phases.Asking s) k new many fuel none = absurd (omega (arith, none))
none_of_more (phases.Ended made) k new many fuel none = refl

-- so it is after a turn
pub moves_of_more : (p q : Phase) (m k : Machine) (old new : World) (few many before after : ℕ)
    (result : Result Turn SortFault) → few ≤ many → Falls before (fuel_at q after) result
    → MovesOn 1 (left_at p m old few) (left_at q k new few) result
    → MovesOn 1 (left_at p m old many) (left_at q k new many) result
moves_of_more p q m k old new few many before after (Ok More) more falls moves =
    fewer_of_more p q m k old new few many more moves
moves_of_more p q m k old new few many before after (Ok Ended) more falls moves =
    none_of_more q k new many after falls
moves_of_more p q m k old new few many before after (Err e) more falls moves = tt
