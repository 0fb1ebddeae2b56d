-- How many turns of a step a stop leaves shown, and how many calls that costs.
use Rattle.std.specs.Prelude.{◌≡◌, ◌⊎◌, ℕ, ◌+◌, ◌-◌, ◌*◌, ◌/◌, ◌^◌, ◌≤◌, List, take, drop, Option, Some, None}
use Rattle.std.specs.Int.{w64, from_be_bytes}
use Rattle.shelf_model.specs.declared.file_no.FileNo.{FileNo}
use Rattle.shelf_model.specs.Folder.{Folder, Image, file_in, bytes_in, IsImage}
use Rattle.shelf_model.specs.World.{World, now}
use Rattle.file_numbers.specs.Files.{checkpoint_file, checkpoint_gate}
use Rattle.sweep_core.specs.declared.checkpoint.Checkpoint.{Checkpoint}
use Rattle.sweep_core.specs.Accounts.{Accounts}
use Rattle.sweep_checkpoint.specs.Gated.{last_gated}
use Rattle.sweep_checkpoint.specs.Going.{interval_of, first_owed}
use Rattle.sweep_checkpoint.specs.declared.going.Going.{Going}

-- the turns that the bytes of a checkpoint show: the third of its words
abbrev pub turns_in : Option (List ℕ) → ℕ
turns_in None = 0
turns_in (Some bytes) = from_be_bytes w64 (take 8 (drop 16 bytes))

-- the turns that the last gated checkpoint of a step shows, and none where nothing is gated
abbrev pub shown_turns : ℕ → (FileNo → List ℕ) → ℕ
shown_turns step r = turns_in (last_gated step r)

-- the turns that a step's last checkpoint shows, and none where it has none
abbrev pub shown_by : Option Checkpoint → ℕ
shown_by None = 0
shown_by (Some c) = c.turns

-- the checkpoints of the step and their gate are as they were
pub record SamePoints (step : ℕ) (old new : Folder) : Type 0 where
  pub points : file_in new (checkpoint_file step) ≡ file_in old (checkpoint_file step)
  pub gate : file_in new (checkpoint_gate step) ≡ file_in old (checkpoint_gate step)

-- as many turns are shown as some image of the old folder shows
pub record ShowsAsBefore (step : ℕ) (old : Folder) (r : FileNo → List ℕ) : Type 0 where
  pub before : Image
  pub is_image : IsImage old before
  pub same : shown_turns step r ≡ shown_turns step (bytes_in before)

-- k calls were made in all when a stop leaves this: it shows as many turns as one of before did, and they are no more
-- than so many; or it shows no fewer than were shown then, and for each turn beyond them there are 229 more
abbrev pub IsStop : ℕ → Folder → ℕ → ℕ → ℕ → (FileNo → List ℕ) → Type 0
IsStop step old shown most k r = (ShowsAsBefore step old r × (k ≤ most))
    ⊎ ((shown ≤ shown_turns step r) × (k ≤ most + 229 * (shown_turns step r - shown)))

-- so it is at each moment
abbrev pub AreStops : ℕ → ℕ → ℕ → World → World → Type 0
AreStops step shown most old new = (k : ℕ) → old.clock ≤ k → k ≤ new.clock → (image : Image)
    → IsImage (new.moment k).folder image → IsStop step (now old).folder shown most k (bytes_in image)

-- each image shows as many turns as one of before did, and what is said of them is the same; or as many as are said now
abbrev pub ImagesShow : ℕ → ℕ → ℕ → Folder → Folder → Type 0
ImagesShow step before after old new = (image : Image) → IsImage new image
    → (ShowsAsBefore step old (bytes_in image) × (after ≡ before))
    ⊎ ((shown_turns step (bytes_in image) ≡ after) × (before ≤ after))

-- the calls that a sweep which is saved at times may make beyond those for turns that it shows: what was paid for
-- before, in calls and in parts; 224 for each turn of an interval, less those that no checkpoint showed before; and
-- what saving it takes
abbrev pub stop_calls : {P : Type 0} → Accounts P → Going → P → ℕ
stop_calls accounts going p = accounts.credit p
    + ((accounts.next p - first_owed going.last (accounts.next p)) + accounts.stock p / 256)
    + 224 * (interval_of going.budget - (going.turns - going.shown)) + 2 ^ 17

-- a stop at a moment leaves no fewer turns of the step shown than so many, and for each more no more calls were made
-- than 229, and so many
pub record StopsCostAt (step shown most k : ℕ) (r : FileNo → List ℕ) : Type 0 where
  pub no_fewer : shown ≤ shown_turns step r
  pub few : k ≤ most + 229 * (shown_turns step r - shown)

-- so it is at each moment of the calls
abbrev pub StopsCost : ℕ → ℕ → ℕ → World → World → Type 0
StopsCost step shown most old new = (k : ℕ) → old.clock ≤ k → k ≤ new.clock → (image : Image)
    → IsImage (new.moment k).folder image → StopsCostAt step shown most k (bytes_in image)

-- each image of the folder shows that many turns of the step or more
abbrev pub ShowAtLeast : ℕ → ℕ → Folder → Type 0
ShowAtLeast step shown folder = (image : Image) → IsImage folder image → shown ≤ shown_turns step (bytes_in image)
