-- What both sweeps of a step that makes a diagram take together, in turns and in calls of the folder.
use Rattle.std.proofs.Common.{◌≡◌, ℕ, ◌+◌, ◌-◌, ◌*◌, ◌≤◌, max, refl, arith}
use Rattle.std.specs.Prelude.{Option, Some, None}
use Rattle.sweep_core.specs.declared.checkpoint.Checkpoint.{Checkpoint}
use Rattle.sweep_checkpoint.specs.declared.going.Going.{Going}
use Rattle.step_sweeps.specs.declared.task.Making.{Making}
use Rattle.step_sweeps.specs.Given.{Tables}
use Rattle.step_sweeps.specs.Makes.{nodes_for, work_for}
use Rattle.step_sweeps.specs.Sweeping.{Takes, calls_of, most_turns}

-- the calls of the first sweep alone, of which so many turns were left
pub first_paid : (first left after most owed rest old new : ℕ) (t : Takes (left + 1) left owed)
    → first + left + (after + 10) ≤ most → new + 2 * owed ≤ old + (calls_of t + 8 + rest)
    → new + 229 * first ≤ old + (229 * most + 11 + rest)
first_paid first left after most owed rest old new t within calls =
    let saves = t.few_saves in
    let parts = t.few_parts in
    omega (arith, within, calls, saves, parts)

-- those of both, where so many turns were left to each. What the first one didn't show counts for the second one, and
-- its parts may have to be cut again
pub both_paid : (first mid shown left after most owed next from rest old at new : ℕ) (t : Takes (left + 1) left owed)
    (u : Takes (after + 9) (max shown (mid + (after + 8)) - shown) 0)
    → first + left + (after + 10) ≤ most → mid + (after + 9) ≤ most → shown ≤ mid → 16384 * t.saves + first ≤ shown
    → next ≤ from + t.parts → at + 2 * owed ≤ old + (calls_of t + 8 + rest)
    → new ≤ at + (calls_of u + 3 + (next - from)) → new + 229 * first ≤ old + (229 * most + 11 + rest)
both_paid first mid shown left after most owed next from rest old at new t u within few late saved again one two =
    let parts = t.few_parts in
    let more_saves = u.few_saves in
    let more_parts = u.few_parts in
    omega (arith, within, few, late, saved, again, one, two, parts, more_saves, more_parts)

-- those of both, where so many turns were made and shown
pub both_made : (first before mid last shown owed next from rest old at new : ℕ)
    (t : Takes (mid - first) (shown - before) owed) (u : Takes (last - mid) (last - shown) 0) → before ≡ first
    → first ≤ mid → mid ≤ last → before ≤ shown → shown ≤ mid → next ≤ from + t.parts
    → at + 2 * owed ≤ old + (calls_of t + 8 + rest) → new ≤ at + (calls_of u + 3 + (next - from))
    → new + 229 * first ≤ old + (229 * last + 11 + rest)
both_made first before mid last shown owed next from rest old at new t u is grew grew_more shows late again one two =
    let saves = t.few_saves in
    let parts = t.few_parts in
    let more_saves = u.few_saves in
    let more_parts = u.few_parts in
    omega (arith, is, grew, grew_more, shows, late, again, one, two, saves, parts, more_saves, more_parts)

-- the most turns of the step are within its work, where few were made before it began
pub most_within : (making : Making) (going : Going) (g : Tables) (last : Option Checkpoint)
    → (last ≡ None → going.turns ≤ 2 * nodes_for making g + 1) → most_turns last making going g ≤ work_for making g
most_within making going g None early = let few = early refl in omega (arith, few)
most_within making going g (Some c) early = omega arith
