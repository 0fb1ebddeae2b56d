-- The phases within a turn: what is true in each, and what goes on from one to the next.
use Rattle.std.proofs.Common.{◌≡◌, ◌≢◌, ℕ, ◌≤◌, ◌<◌, arith, refl, ◌∙◌}
use Rattle.std.proofs.lemmas.Bool.{false≢true}
use Rattle.std.specs.Prelude.{Bool, true, false, None, Result, Ok, Err, OnOk, IfOk}
use Rattle.shelf_model.specs.World.{World, file}
use Rattle.shelf_model.specs.declared.sort_fault.SortFault.{SortFault}
use Rattle.sweep_core.specs.declared.turn.Turn.{Turn}
use Rattle.sweep_core.specs.declared.turn.Turn.TheVariants as turn
use Rattle.sweep_core.specs.Sweeps.{Falls, AtEnd, IsFirm}
use Rattle.reduce_lists.specs.AtWork.{AreListed, IsAtWork}
use Rattle.reduce_sweep.specs.declared.source.Source.{Source}
use Rattle.reduce_sweep.specs.declared.phase.Numbered.{Numbered}
use Rattle.reduce_sweep.specs.declared.phase.Phase.{Phase}
use Rattle.reduce_sweep.specs.declared.phase.Phase.TheVariants.{Between, Collect, Number, Forward, Ended}
use Rattle.reduce_sweep.specs.declared.reduce.ReduceSweep.{ReduceSweep}
use Rattle.reduce_sweep.specs.Sweeps.{out_of, IsGoing, count_at, count_in, fuel_at, turns_left, CountsAtEnd, Handles}
use Rattle.reduce_sweep.specs.Calls.{IsStepAt, IsInStep, HasListsAt}
use Rattle.reduce_sweep.specs.Remaining.{Diagram, IsWorking, RemainsIn, RemainsOf}
use Rattle.reduce_sweep.specs.Changes.{IsDoneAt}

-- until it has ended, it works on what remains
pub going_works : (p : Phase) (s : ReduceSweep) (world : World) (d : Diagram) → IsGoing p → RemainsIn p s world d
    → IsWorking s world d
going_works Between s world d going remains = remains
going_works (Collect x) s world d going remains = remains
going_works (Number x) s world d going remains = remains
going_works Forward s world d going remains = remains
going_works (Ended n) s world d going remains = absurd (going n refl)

-- and its lists exist
pub going_lists : (p : Phase) (s : ReduceSweep) (world : World) → IsGoing p → HasListsAt p s world
    → AreListed s.ahead s.lists world
going_lists Between s world going lists = lists
going_lists (Collect x) s world going lists = lists
going_lists (Number x) s world going lists = lists
going_lists Forward s world going lists = lists
going_lists (Ended n) s world going lists = absurd (going n refl)

-- then turns are left
pub going_left : (p : Phase) (n : ℕ) → IsGoing p → 0 < fuel_at p n
going_left Between n going = omega arith
going_left (Collect x) n going = omega arith
going_left (Number x) n going = omega arith
going_left Forward n going = omega arith
going_left (Ended count) n going = absurd (going count refl)

-- and the other way round
pub left_step : (p : Phase) (n : ℕ) (s : ReduceSweep) (world : World) → 0 < fuel_at p n
    → IsAtWork s.ahead s.lists s.writer world → IsStepAt p s world
left_step Between n s world left work = work
left_step (Collect x) n s world left work = work
left_step (Number x) n s world left work = work
left_step Forward n s world left work = work
left_step (Ended count) n s world left work = absurd (omega (arith, left))

pub lists_in : (p : Phase) (s : ReduceSweep) (world : World) → AreListed s.ahead s.lists world → HasListsAt p s world
lists_in Between s world lists = lists
lists_in (Collect x) s world lists = lists
lists_in (Number x) s world lists = lists
lists_in Forward s world lists = lists
lists_in (Ended count) s world lists = tt

pub left_remains : (p : Phase) (n : ℕ) (s : ReduceSweep) (world : World) (d : Diagram) → 0 < fuel_at p n
    → IsWorking s world d → RemainsIn p s world d
left_remains Between n s world d left working = working
left_remains (Collect x) n s world d left working = working
left_remains (Number x) n s world d left working = working
left_remains Forward n s world d left working = working
left_remains (Ended count) n s world d left working = absurd (omega (arith, left))

pub left_counts : (p : Phase) (n : ℕ) → 0 < fuel_at p n → count_at p ≡ None
left_counts Between n left = refl
left_counts (Collect x) n left = refl
left_counts (Number x) n left = refl
left_counts Forward n left = refl
left_counts (Ended count) n left = absurd (omega (arith, left))

-- once the count of nodes is known, it has ended
done_in : (p : Phase) (t : Turn) (s : ReduceSweep) (world : World) (d : Diagram) → p ≡ s.place.phase
    → CountsAtEnd t (count_at p) → RemainsIn p s world d → IsDoneAt t s world d
done_in p turn.More s world d is counts remains = tt
done_in Between turn.Ended s world d is counts remains = absurd (false≢true counts)
done_in (Collect x) turn.Ended s world d is counts remains = absurd (false≢true counts)
done_in (Number x) turn.Ended s world d is counts remains = absurd (false≢true counts)
done_in Forward turn.Ended s world d is counts remains = absurd (false≢true counts)
done_in (Ended n) turn.Ended s world d is counts remains = remains

firm_in : (p : Phase) (s : ReduceSweep) (world : World) → CountsAtEnd turn.Ended (count_at p) → IsStepAt p s world
    → IsFirm (file world (out_of s))
firm_in Between s world counts step = absurd (false≢true counts)
firm_in (Collect x) s world counts step = absurd (false≢true counts)
firm_in (Number x) s world counts step = absurd (false≢true counts)
firm_in Forward s world counts step = absurd (false≢true counts)
firm_in (Ended n) s world counts step = step

-- so a turn that ends it leaves the canonical file, which stays whatever a stop leaves
pub turn_reduces : (told : Type 0) (s t : ReduceSweep) (old new : World) (result : Result Turn SortFault)
    → IfOk result (λ turn. CountsAtEnd turn (count_in t))
    → OnOk result (told → (d : Diagram) → RemainsOf s old d → RemainsOf t new d)
    → IfOk result (λ turn. told → (d : Diagram) → RemainsOf s old d → IsDoneAt turn t new d)
turn_reduces told s t old new (Ok x) counts keeps = λ tell d remains. done_in t.place.phase x t new d refl counts
    (keeps tell d remains)
turn_reduces told s t old new (Err e) counts keeps = tt

pub turn_firm : (told : Type 0) (t : ReduceSweep) (new : World) (result : Result Turn SortFault)
    → IfOk result (λ turn. CountsAtEnd turn (count_in t)) → OnOk result (told → IsInStep t new)
    → AtEnd result (told → IsFirm (file new (out_of t)))
turn_firm told t new (Ok turn.More) counts step = tt
turn_firm told t new (Ok turn.Ended) counts step = λ tell. firm_in t.place.phase t new counts (step tell)
turn_firm told t new (Err e) counts step = tt

-- where the phase is over, the next one handles an item or is over too
pub handles_then : (middle after : Phase) (s t u : ReduceSweep) (result : Result Bool SortFault)
    → Handles middle s t false → IfOk result (Handles after t u) → IfOk result (Handles after s u)
handles_then middle after s t u (Ok true) first next = let one : turns_left t ≤ turns_left s = first.1 in let two :
    turns_left u < turns_left t = next.1 in (next.0, omega (arith, one, two))
handles_then middle after s t u (Ok false) first next =
    let one : turns_left t ≤ turns_left s = first.1 in
    let two : turns_left u ≤ turns_left t = next.1 in
    (next.0, omega (arith, one, two), next.2 ∙ first.2)
handles_then middle after s t u (Err e) first next = tt

-- and then the next level opens, or all is done
pub falls_then : (middle : Phase) (s t u : ReduceSweep) (result : Result Turn SortFault) → Handles middle s t false
    → Falls (turns_left t) (turns_left u) result → Falls (turns_left s) (turns_left u) result
falls_then middle s t u (Ok turn.More) first next = let one : turns_left t ≤ turns_left s = first.1 in let two :
    turns_left u < turns_left t = next.1 in (next.0, omega (arith, one, two))
falls_then middle s t u (Ok turn.Ended) first next = next
falls_then middle s t u (Err e) first next = tt

-- a phase that is none of these is the one between levels
pub between_where : (p : Phase) → ((x : Source) → p ≢ Collect x) → ((x : Numbered) → p ≢ Number x) → p ≢ Forward
    → IsGoing p → p ≡ Between
between_where Between collect number forward going = refl
between_where (Collect x) collect number forward going = absurd (collect x refl)
between_where (Number x) collect number forward going = absurd (number x refl)
between_where Forward collect number forward going = absurd (forward refl)
between_where (Ended n) collect number forward going = absurd (going n refl)
