-- Where the last checkpoint of a step stands, and the files that checkpoints of sweeps rest on.
use Rattle.std.specs.Prelude.{◌≡◌, ◌≢◌, ◌⊎◌, ℕ, ◌+◌, ◌-◌, ◌*◌, ◌<◌, ◌≤◌, List, length, take}
use Rattle.std.proofs.Common.{sym, ap, ◌∙◌, arith, inl, inr}
use Rattle.std.proofs.lemmas.List.{take_all}
use Rattle.shelf_model.specs.declared.file_no.FileNo.{FileNo}
use Rattle.file_numbers.specs.Files.{nodes_part, inner_part, ends_part, first_run_part, checkpoint_gate}
use Rattle.sweep_core.specs.declared.checkpoint.Checkpoint.{Checkpoint}
use Rattle.sweep_core.specs.Saving.{IsMadePart, IsReadPart, IsRestingPlace}

-- how many bytes a checkpoint has
abbrev pub point_size : ℕ
point_size = 16384

-- where the last checkpoint of the step that is gated stands in its file, and 0 where none is gated
abbrev pub checkpoint_place : ℕ → (FileNo → List ℕ) → ℕ
checkpoint_place step r = point_size * (length (r (checkpoint_gate step)) - 1)

-- of two lists each front is that of the other only where they are the same
pub same_fronts : {A : Type 0} (xs ys : List A) → ((n : ℕ) → take n xs ≡ take n ys) → xs ≡ ys
same_fronts xs ys same =
    let n = length xs + length ys in
    sym (take_all n xs (omega arith)) ∙ same n ∙ take_all n ys (omega arith)

-- a file of another step is one that a checkpoint may rest on
pub other_rests : (c : Checkpoint) (f : FileNo) → f.step ≢ c.step → IsRestingPlace c f
other_rests c f other = record {
  taken = λ can. other can.step_is;
  no_points = λ same. other (ap (λ (g : FileNo). g.step) same);
  no_gate = λ same. other (ap (λ (g : FileNo). g.step) same);
  named = λ same. absurd (other same);
}

-- it can't be taken, it holds and counts no checkpoints, and it is no run
record IsOther (part next : ℕ) : Type 0 where
  below : part < next
  no_points : part ≢ 1
  no_gate : part ≢ 2
  no_run : part < first_run_part

-- so it is with each part of a step that is made
made_part : (part next : ℕ) → inner_part ≤ next
    → (part ≡ nodes_part) ⊎ ((inner_part ≤ part) × (part ≤ ends_part) × (part < next)) → IsOther part next
made_part part next parts (inl nodes) = record {
  below = omega (arith, parts, nodes);
  no_points = λ e. omega (arith, nodes, e);
  no_gate = λ e. omega (arith, nodes, e);
  no_run = omega (arith, nodes);
}
made_part part next parts (inr (from, to, below)) = record {
  below = below;
  no_points = λ e. omega (arith, from, e);
  no_gate = λ e. omega (arith, from, e);
  no_run = omega (arith, to);
}

-- and so is one that is made
pub made_rests : (c : Checkpoint) (f : FileNo) → inner_part ≤ c.next_part → IsMadePart c.step c.next_part f
    → IsRestingPlace c f
made_rests c f parts made =
    let other = made_part f.part c.next_part parts made.part in
    record {
      taken = λ can. let from : c.next_part ≤ f.part = can.from in let below : f.part < c.next_part = other.below in
          omega (arith, from, below);
      no_points = λ same. other.no_points (ap (λ (g : FileNo). g.part) same);
      no_gate = λ same. other.no_gate (ap (λ (g : FileNo). g.part) same);
      named = λ step run. let below : f.part < first_run_part = other.no_run in absurd (omega (arith, run, below));
    }

-- and so is one that is read
pub read_rests : (c : Checkpoint) (f : FileNo) → inner_part ≤ c.next_part → IsReadPart c.step c.next_part f
    → IsRestingPlace c f
read_rests c f parts (inl other) = other_rests c f other
read_rests c f parts (inr made) = made_rests c f parts made
