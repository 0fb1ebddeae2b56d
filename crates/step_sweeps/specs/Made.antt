-- What a step that sweeps makes, leaves and costs.
use Rattle.std.specs.Prelude.{◌≡◌, ℕ, ◌+◌, ◌*◌, ◌/◌, ◌^◌, ◌<◌, ◌≤◌, Bool}
pub use Rattle.file_numbers.specs.Files.{inner_part, node_file, inner_file, ends_file}
use Rattle.shelf_model.specs.Moments.{OnlyChanged}
use Rattle.shelf_model.specs.World.{Moment}
use Rattle.arc_file.specs.declared.unreduced.Unreduced.{Unreduced}
use Rattle.step_sweeps.specs.declared.answers.Answered.{Answered}

-- at a moment every file is as it was, but those of the step
abbrev pub OnlyStep : ℕ → Moment → Moment → Type 0
OnlyStep number = OnlyChanged (λ q. q.step ≡ number)

-- the arcs stand in the step's two files of arcs, and are few
pub record HasArcFiles (number : ℕ) (arcs : Unreduced) : Type 0 where
  pub inner_is : arcs.inner ≡ inner_file number
  pub ends_are : arcs.ends ≡ ends_file number
  pub inner_few : arcs.inner_count ≤ 2 ^ 46
  pub ends_few : arcs.ends_count ≤ 2 ^ 46

-- how many they are
abbrev pub arc_count : Unreduced → ℕ
arc_count arcs = arcs.inner_count + arcs.ends_count

-- they have so many sources, two arcs each
abbrev pub HasSources : Unreduced → ℕ → Type 0
HasSources arcs sources = arc_count arcs ≡ 2 * sources

-- at least one turn was made, and parts were taken from that of the first arcs on, few for so many turns
pub record IsCounted (turns next : ℕ) : Type 0 where
  pub some : 0 < turns
  pub from : inner_part ≤ next
  pub below : next ≤ 2 ^ 32
  pub few : next ≤ 1024 + turns / 16

-- of a step that began anew: they were taken from that of its first run on, few for so many turns
abbrev pub FewAnew : ℕ → ℕ → Type 0
FewAnew turns next = next ≤ 5 + turns / 16

-- the answer is that value, and the turns are within the work
pub record IsAnswer (value : Bool) (work : ℕ) (a : Answered) : Type 0 where
  pub answer_is : a.answer ≡ value
  pub few : a.turns ≤ work
