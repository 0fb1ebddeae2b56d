-- What a stop costs in a step whose checkpoints stay meanwhile, or whose sweep is saved at times.
use Rattle.std.proofs.Common.{◌≡◌, ℕ, ◌+◌, ◌-◌, ◌*◌, ◌/◌, ◌^◌, ◌≤◌, ◌⊎◌, ap, inl, inr, arith}
use Rattle.std.specs.Prelude.{Option, Some, None}
use Rattle.shelf_model.specs.declared.file_no.FileNo.{FileNo}
use Rattle.shelf_model.specs.Folder.{Image, IsImage, bytes_in}
use Rattle.shelf_model.specs.Moments.{Ran, Throughout, Quiet, OnlyChanged}
use Rattle.shelf_model.specs.World.{World, now}
use Rattle.shelf_model.proofs.Runs.{weakens}
use Rattle.file_numbers.specs.Files.{checkpoint_file, checkpoint_gate}
use Rattle.step_going.specs.Found.{IsComeTo}
use Rattle.step_going.specs.Standing.{HasNone}
use Rattle.step_going.proofs.Shown.{ShowsSurely, image_shows, none_shows, points_stay, quiet_stops}
use Rattle.sweep_core.specs.declared.checkpoint.Checkpoint.{Checkpoint}
use Rattle.sweep_checkpoint.specs.Going.{interval_of, first_owed}
use Rattle.sweep_checkpoint.specs.Stops.{SamePoints, ShowsAsBefore, shown_turns, StopsCost}
use Rattle.sweep_checkpoint.specs.declared.going.Going.{Going}
use Rattle.step_sweeps.specs.Going.{MayGoOn}
use Rattle.step_sweeps.specs.Made.{node_file}
use Rattle.step_sweeps.specs.Stops.{shown_by}

-- an interval has 65,536 turns at most
pub interval_few : (budget : ℕ) → interval_of budget ≤ 65536
interval_few budget = omega arith

-- a sweep that is begun within so many calls, with what is paid for, and is then run and saved
pub run_within : (going : Going) (credit next stock old mid start most : ℕ) → mid + (credit + stock / 256) ≤ old + start
    → next ≤ first_owed going.last next → start + 224 * 65536 + 2 ^ 17 ≤ most
    → mid + (credit + ((next - first_owed going.last next) + stock / 256)
    + 224 * (interval_of going.budget - (going.turns - going.shown)) + 2 ^ 17) ≤ old + most
run_within going credit next stock old mid start most begun owed few =
    let interval = interval_few going.budget in
    omega (arith, begun, owed, few, interval)

-- the checkpoints and the gate stay at each moment of a run that changes other files alone
pub held_points : (these : FileNo → Type 0) (step : ℕ) (old new : World) → ¬ (these (checkpoint_file step))
    → ¬ (these (checkpoint_gate step)) → Ran (OnlyChanged these (now old)) old new
    → Throughout old new (λ m. SamePoints step (now old).folder m.folder)
held_points these step old new no_points no_gate run =
    weakens old new (Quiet (now old).said (OnlyChanged these (now old)))
    (λ m. SamePoints step (now old).folder m.folder)
    (λ m quiet. points_stay these step (now old) m no_points no_gate quiet.holds) run.moments

-- the last checkpoint shows no more than is said
come_within : (last : Option Checkpoint) (going : Going) → IsComeTo last going → shown_by last ≤ going.turns
come_within None going come = omega arith
come_within (Some c) going come = let turns = come.0 in omega (arith, turns)

pub shown_within : {going : Going} → MayGoOn going → shown_by going.last ≤ going.shown
shown_within {going} may =
    let come = come_within going.last going may.going_of.come_to in
    let shown = may.going_of.shown_is in
    omega (arith, come, shown)

-- of a step that begins anew, while only its node file is changed
pub stops_anew : (step most : ℕ) (old new : World) → HasNone step (now old).folder
    → Ran (OnlyChanged (λ q. q ≡ node_file step) (now old)) old new → new.clock ≤ most → StopsCost step 0 most old new
stops_anew step most old new none run few = quiet_stops step 0 most old new (none_shows step (now old).folder none)
    (held_points (λ q. q ≡ node_file step) step old new
    (λ same. let part : 1 ≡ 0 = ap (λ (f : FileNo). f.part) same in absurd (omega (arith, part)))
    (λ same. let part : 2 ≡ 0 = ap (λ (f : FileNo). f.part) same in absurd (omega (arith, part))) run) few

-- while a checkpoint of so many turns is saved, where each image showed no more before
pub kept_stops : (step before turns most : ℕ) (old new : World) → ShowsSurely step before (now old).folder
    → before ≤ turns → Throughout old new (λ m. (image : Image) → IsImage m.folder image
    → ShowsAsBefore step (now old).folder (bytes_in image) ⊎ (shown_turns step (bytes_in image) ≡ turns))
    → new.clock ≤ most → StopsCost step before most old new
kept_stops step before turns most old new sure less shows few k from to image is_image =
    elim (shows.each k from to image is_image) [
      | inl as_before ↦
          let same = as_before.same in
          let was = image_shows step before (now old).folder as_before.before sure as_before.is_image in
          record { no_fewer = omega (arith, same, was); few = omega (arith, few, to) }
      | inr saved ↦ record { no_fewer = omega (arith, saved, less); few = omega (arith, few, to) }
    ]
