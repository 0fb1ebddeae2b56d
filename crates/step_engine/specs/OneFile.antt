-- Which files a run of calls changes.
use Rattle.std.specs.Prelude.{◌≡◌, ◌⊎◌, ℕ, IsTrue}
use Rattle.bool_tables.specs.Plans.{makes_diagram}
use Rattle.bool_tables.specs.declared.steps.Step.{Step}
use Rattle.shelf_model.specs.declared.file_no.FileNo.{FileNo}
use Rattle.shelf_model.specs.World.{Moment}
use Rattle.shelf_model.specs.Moments.{OnlyChanged}
use Rattle.step_work.specs.Tuples.{sweeps}
use Rattle.sound_image.specs.Files.{node_file}
use Rattle.sound_image.specs.Steps.{IsTidied}

-- at each moment every file but this one is as it was
abbrev pub OnlyFile : FileNo → Moment → Moment → Type 0
OnlyFile f = OnlyChanged (λ q. q ≡ f)

-- a step changes its node file where it makes a diagram, and any file of its own where it sweeps
abbrev pub ChangesFile : Step → ℕ → FileNo → Type 0
ChangesFile step number q =
    (IsTrue (makes_diagram step) × (q ≡ node_file number)) ⊎ (IsTrue (sweeps step) × (q.step ≡ number))

-- at each moment every other file is as it was
abbrev pub OnlyMade : Step → ℕ → Moment → Moment → Type 0
OnlyMade step number = OnlyChanged (ChangesFile step number)

-- at each moment every file is as it was, but that of a dropped diagram, and where the step sweeps its checkpoints,
-- their gate, its arcs and its runs up to its next part; and what was empty is empty
abbrev pub OnlyTidied : Step → ℕ → ℕ → Moment → Moment → Type 0
OnlyTidied step number next old m = IsTidied step number next old.folder m.folder
