-- What a stop costs where a step stands: while its checkpoints and their gate stay, and while a sweep is saved at times.
use Rattle.std.proofs.Common.{◌≡◌, ◌⊎◌, ◌∙◌, ℕ, ◌+◌, ◌-◌, ◌*◌, ◌^◌, ◌<◌, ◌≤◌, List, [], ◌++◌, length, take, drop, sym, ap, subst, refl, inl, inr, arith}
use Rattle.std.specs.Prelude.{Option, Some, None}
use Rattle.std.proofs.lemmas.Bool.{cases_lt}
use Rattle.shelf_model.specs.declared.file_no.FileNo.{FileNo}
use Rattle.shelf_model.specs.File.{File}
use Rattle.shelf_model.specs.Folder.{Folder, Image, file_in, bytes_in, IsImage}
use Rattle.shelf_model.specs.Moments.{Throughout, OnlyChanged}
use Rattle.shelf_model.specs.World.{Moment, World, now}
use Rattle.file_numbers.specs.Files.{checkpoint_file, checkpoint_gate}
use Rattle.run_tiers.specs.Syncs.{IsFirm}
use Rattle.sweep_core.specs.declared.checkpoint.Checkpoint.{Checkpoint}
use Rattle.sweep_checkpoint.specs.Gated.{present, last_gated}
use Rattle.sweep_checkpoint.specs.Saves.{gated_size, IsGateSure}
use Rattle.sweep_checkpoint.specs.Stops.{turns_in, shown_turns, shown_by, SamePoints, ShowsAsBefore, IsStop, AreStops, StopsCostAt, StopsCost}
use Rattle.sweep_checkpoint.proofs.PointTurns.{point_turns}
use Rattle.step_going.specs.Standing.{HasNone, IsStanding, StandsIn}
use Rattle.step_going.proofs.Gated.{same_gated, none_gated, sure_front, firm_left}

-- the gate is sure, and so are the checkpoints that it counts, of which the last one shows so many turns
pub record ShowsSurely (step turns : ℕ) (folder : Folder) : Type 0 where
  pub gate : IsGateSure step folder
  pub points : gated_size step folder ≤ (file_in folder (checkpoint_file step)).firm
  pub shows : shown_turns step (present folder) ≡ turns

-- so each image shows them
pub image_shows : (step turns : ℕ) (folder : Folder) (image : Image) → ShowsSurely step turns folder
    → IsImage folder image → shown_turns step (bytes_in image) ≡ turns
image_shows step turns folder image sure is_image =
    ap turns_in (same_gated step (bytes_in image) (present folder)
    (firm_left folder image (checkpoint_gate step) is_image sure.gate)
    (sure_front folder image (checkpoint_file step) (gated_size step folder) is_image sure.points)) ∙ sure.shows

-- and a folder with the same checkpoints and the same gate does
pub shows_still : (step turns : ℕ) (old new : Folder) → SamePoints step old new → ShowsSurely step turns old
    → ShowsSurely step turns new
shows_still step turns old new same sure =
    let gate : (file_in new (checkpoint_gate step)).bytes ≡ (file_in old (checkpoint_gate step)).bytes =
    ap (λ (x : File). x.bytes) same.gate in
    let points : (file_in new (checkpoint_file step)).bytes ≡ (file_in old (checkpoint_file step)).bytes =
    ap (λ (x : File). x.bytes) same.points in
    let size : gated_size step new ≡ gated_size step old = ap (λ bytes. 16384 * length bytes) gate in
    let firm : (file_in new (checkpoint_file step)).firm ≡ (file_in old (checkpoint_file step)).firm =
    ap (λ (x : File). x.firm) same.points in
    record {
      gate = subst IsFirm (sym same.gate) sure.gate;
      points = let within = sure.points in omega (arith, within, size, firm);
      shows = ap turns_in (same_gated step (present new) (present old) gate
          (ap (take (16384 * length (present old (checkpoint_gate step)))) points)) ∙ sure.shows;
    }

-- none are shown where no checkpoint is gated
pub none_shows : (step : ℕ) (folder : Folder) → HasNone step folder → ShowsSurely step 0 folder
none_shows step folder none =
    let empty : (file_in folder (checkpoint_gate step)).bytes ≡ [] = ap (λ (x : File). x.bytes) none in
    let size : gated_size step folder ≡ 0 = ap (λ bytes. 16384 * length bytes) empty in
    record {
      gate = subst IsFirm (sym none) refl;
      points = omega (arith, size);
      shows = ap turns_in (none_gated step (present folder) empty);
    }

-- where a step stands its last checkpoint shows them
pub standing_shows : (Q : (FileNo → List ℕ) → Type 0) (rests : Checkpoint → FileNo → ℕ → Type 0)
    (step next : ℕ) (folder : Folder) (last : Option Checkpoint)
    → IsStanding Q rests step next folder last → ShowsSurely step (shown_by last) folder
standing_shows Q rests step next folder None none = none_shows step folder none
standing_shows Q rests step next folder (Some c) stands = record {
  gate = stands.gate;
  points = stands.points;
  shows = ap turns_in stands.last.last ∙ point_turns c stands.last.words;
}

-- where only other files are changed the checkpoints and the gate stay
pub points_stay : (these : FileNo → Type 0) (step : ℕ) (old m : Moment) → ¬ (these (checkpoint_file step))
    → ¬ (these (checkpoint_gate step)) → OnlyChanged these old m → SamePoints step old.folder m.folder
points_stay these step old m no_points no_gate only = record {
  points = only (checkpoint_file step) no_points;
  gate = only (checkpoint_gate step) no_gate;
}

-- fewer calls than are allowed
pub stops_more : (step shown most more : ℕ) (old new : World) → most ≤ more → StopsCost step shown most old new
    → StopsCost step shown more old new
stops_more step shown most more old new less stops k from to image is_image =
    let stop = stops k from to image is_image in
    record {
      no_fewer = stop.no_fewer;
      few = let few = stop.few in omega (arith, few, less);
    }

-- more turns were shown than is asked for
pub stops_fewer : (step fewer shown most : ℕ) (old new : World) → fewer ≤ shown → StopsCost step shown most old new
    → StopsCost step fewer most old new
stops_fewer step fewer shown most old new less stops k from to image is_image =
    let stop = stops k from to image is_image in
    let no_fewer = stop.no_fewer in
    record {
      no_fewer = omega (arith, no_fewer, less);
      few = let few = stop.few in omega (arith, few, less, no_fewer);
    }

-- two runs of calls, one behind the other
pub stops_join : (step shown most : ℕ) (old mid new : World) → ((k : ℕ) → k ≤ mid.clock → new.moment k ≡ mid.moment k)
    → StopsCost step shown most old mid → StopsCost step shown most mid new → StopsCost step shown most old new
stops_join step shown most old mid new past first second k from to image is_image = elim (cases_lt mid.clock k) [
  | inl beyond ↦ second k (omega (arith, beyond)) to image is_image
  | inr until ↦ first k from until image (subst (λ (m : Moment). IsImage m.folder image) (past k until) is_image)
]

-- while the checkpoints and the gate stay, so many calls are made at most
pub quiet_stops : (step turns most : ℕ) (old new : World) → ShowsSurely step turns (now old).folder
    → Throughout old new (λ m. SamePoints step (now old).folder m.folder) → new.clock ≤ most
    → StopsCost step turns most old new
quiet_stops step turns most old new sure same few k from to image is_image =
    let shows = image_shows step turns (new.moment k).folder image
    (shows_still step turns (now old).folder (new.moment k).folder (same.each k from to) sure) is_image in
    record {
      no_fewer = omega (arith, shows);
      few = omega (arith, few, to);
    }

-- while a sweep is saved at times
pub saved_stops : (step turns shown most : ℕ) (old new : World) → ShowsSurely step turns (now old).folder
    → turns ≤ shown → AreStops step shown most old new → StopsCost step turns most old new
saved_stops step turns shown most old new sure less stops k from to image is_image =
    elim (stops k from to image is_image) [
      | inl before ↦
          let same = before.0.same in
          let shows = image_shows step turns (now old).folder before.0.before sure before.0.is_image in
          let few = before.1 in
          record { no_fewer = omega (arith, same, shows); few = omega (arith, few) }
      | inr after ↦
          let no_fewer = after.0 in
          let few = after.1 in
          record { no_fewer = omega (arith, no_fewer, less); few = omega (arith, few, no_fewer, less) }
    ]
