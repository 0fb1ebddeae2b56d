-- What a stop costs in the middle of a step that sweeps: while it is found how far it has come, and behind that.
use Rattle.std.proofs.Common.{◌≡◌, ℕ, ◌+◌, ◌≤◌, List, refl, sym, subst, arith}
use Rattle.std.specs.Prelude.{Option, Some, None}
use Rattle.bool_tables.specs.declared.steps.Step.{Step}
use Rattle.shelf_model.specs.declared.file_no.FileNo.{FileNo}
use Rattle.shelf_model.specs.Folder.{Folder, Image, bytes_in, AreFiles}
use Rattle.shelf_model.specs.Moments.{Ran}
use Rattle.shelf_model.specs.World.{World, now}
use Rattle.shelf_model.proofs.Images.{chosen, standing_image}
use Rattle.shelf_model.proofs.Runs.{ran_end}
use Rattle.file_numbers.specs.Files.{checkpoint_file, checkpoint_gate}
use Rattle.sweep_core.specs.declared.checkpoint.Checkpoint.{Checkpoint}
use Rattle.sweep_checkpoint.specs.Gated.{last_gated}
use Rattle.sweep_checkpoint.specs.Loads.{Tells}
use Rattle.sweep_checkpoint.specs.Stops.{turns_in, shown_turns, shown_by, StopsCost, ShowAtLeast}
use Rattle.sweep_checkpoint.specs.declared.going.Going.{Going}
use Rattle.sweep_checkpoint.proofs.AsBefore.{same_last}
use Rattle.step_going.specs.Found.{IsComeTo}
use Rattle.step_going.proofs.Shown.{ShowsSurely, image_shows}
use Rattle.step_sweeps.specs.Going.{rest_calls}
use Rattle.step_sweeps.specs.Stops.{step_stop}
use Rattle.step_engine.specs.Finding.{AgreesBefore, DuringGoing}
use Rattle.step_engine.specs.Running.{run_stop, nodes_read, PaysRest}

-- where an image agrees with one of before, it shows as many turns
agrees_shows : (number shown : ℕ) (old : Folder) (image : Image) → ShowAtLeast number shown old → AgreesBefore number old image
    → shown ≤ shown_turns number (bytes_in image)
agrees_shows number shown old image shows agrees =
    let least = shows agrees.before agrees.is_image in
    let same : last_gated number (bytes_in image) ≡ last_gated number (bytes_in agrees.before) =
    same_last number (bytes_in image) (bytes_in agrees.before)
    (agrees.same (checkpoint_file number) (λ taken. let from = taken.from in absurd (omega (arith, from))))
    (agrees.same (checkpoint_gate number) (λ taken. let from = taken.from in absurd (omega (arith, from)))) in
    subst (λ last. shown ≤ turns_in last) (sym same) least

-- while it is found how far a step has come, each image shows what one of before did
pub found_stops : (number shown most : ℕ) (old new : World) → ShowAtLeast number shown (now old).folder
    → Ran (DuringGoing number (now old)) old new → new.clock ≤ most → StopsCost number shown most old new
found_stops number shown most old new shows run few k from to image is_image =
    let least = agrees_shows number shown (now old).folder image shows ((run.moments.each k from to).holds.images image is_image) in
    record { no_fewer = least; few = omega (arith, few, to) }

-- and the last checkpoint no less than was shown
pub found_shows : (number shown turns : ℕ) (old new : World) → AreFiles (now new).folder
    → ShowAtLeast number shown (now old).folder → Ran (DuringGoing number (now old)) old new
    → ShowsSurely number turns (now new).folder → shown ≤ turns
found_shows number shown turns old new files shows run sure =
    let image : Image = chosen (λ _ x. x.bytes) (now new).folder in
    let is_image = standing_image (now new).folder files in
    let least = agrees_shows number shown (now old).folder image shows
    ((ran_end old new (DuringGoing number (now old)) run).images image is_image) in
    let same = image_shows number turns (now new).folder image sure is_image in
    omega (arith, least, same)

-- it shows the turns that the step has come to
pub shown_turns_of : (last : Option Checkpoint) (going : Going) → IsComeTo last going → shown_by last ≡ going.turns
shown_turns_of None going come = sym come.0
shown_turns_of (Some c) going come = sym come.0

-- what going on costs pays for finding that too, and two calls find that nothing is gated
pub stop_paid : (step : Step) (number : ℕ) (r : FileNo → List ℕ) (last : Option Checkpoint) (rest before mid nodes : ℕ)
    → nodes ≤ nodes_read step r → Tells number (last_gated number r) last → PaysRest step number r rest
    → mid ≤ before + 3890 → (last ≡ None → mid ≤ before + 2)
    → mid + (step_stop + rest_calls last nodes) ≤ before + (run_stop + rest)
stop_paid step number r None rest before mid nodes fewer told pays most least =
    let begun : mid ≤ before + 2 = least refl in omega (arith, begun)
stop_paid step number r (Some c) rest before mid nodes fewer told pays most least =
    let paid = pays c told in omega (arith, fewer, most, paid)
