-- A sweep of a step that is rebuilt from its last checkpoint: what was sure of the files that it makes is sure still.
use Rattle.std.proofs.Common.{◌≡◌, ◌⊎◌, ℕ, ◌+◌, ◌≤◌, min, List, length, take, ap, inl, inr, arith}
use Rattle.std.proofs.lemmas.List.{length-take}
use Rattle.shelf_model.specs.declared.file_no.FileNo.{FileNo}
use Rattle.shelf_model.specs.File.{File}
use Rattle.shelf_model.specs.Folder.{Folder, file_in}
use Rattle.shelf_model.specs.World.{Moment, World, file}
use Rattle.run_tiers.specs.Syncs.{IsFirm}
use Rattle.step_going.specs.Standing.{StandsIn}
use Rattle.step_going.proofs.Kept.{MadeSure}
use Rattle.sweep_checkpoint.specs.Gated.{present}
use Rattle.sweep_core.specs.declared.checkpoint.Checkpoint.{Checkpoint}
use Rattle.sweep_core.specs.Carries.{OnlyCutBehind}
use Rattle.sweep_core.specs.Saving.{IsMadePart}

-- what is sure of a file, as far as it has bytes
pub sure_there : (x : File) (n : ℕ) → IsFirm x ⊎ (n ≤ x.firm) → n ≤ length x.bytes → n ≤ x.firm
sure_there x n (inl firm) there =
    let all : x.firm ≡ length x.bytes = ap (λ (y : File). y.firm) firm in
    omega (arith, all, there)
sure_there x n (inr sure) there = sure

-- a file of which all is sure that may be asked for is its own only image
pub all_sure : (world : World) (f : FileNo) → ((n : ℕ) → IsFirm (file world f) ⊎ (n ≤ (file world f).firm))
    → IsFirm (file world f)
all_sure world f sure = elim (sure ((file world f).firm + 1)) [
  | inl firm ↦ firm
  | inr less ↦ absurd (omega (arith, less))
]

-- where a file gives so much of what it gave it has as many bytes
still_there : (n : ℕ) (old new : List ℕ) → take n new ≡ take n old → n ≤ length old → n ≤ length new
still_there n old new same there =
    let before : length (take n old) ≡ min n (length old) = length-take n old in
    let after : length (take n new) ≡ min n (length new) = length-take n new in
    let long = ap length same in
    omega (arith, before, after, long, there)

module _ (Q : (FileNo → List ℕ) → Type 0) (rests : Checkpoint → FileNo → ℕ → Type 0) (step next : ℕ)
    (held : FileNo → ℕ → Type 0) (c : Checkpoint) where
  -- of each file that is made as many bytes are there as the checkpoint rests on, or it rests on all of it
  pub made_sure : (folder : Folder) → StandsIn Q rests step next folder c
      → ((f : FileNo) (n : ℕ) → rests c f n → IsMadePart c.step c.next_part f
      → (n ≤ length (present folder f)) ⊎ ((k : ℕ) → held f k)) → MadeSure rests held folder c
  made_sure folder s there f n on made = elim (there f n on made) [
    | inl long ↦ inl (sure_there (file_in folder f) n (s.sure f n on) long)
    | inr all ↦ inr all
  ]

  -- and they are sure once the sweep is rebuilt
  pub sure_still : (makes : FileNo → Type 0) (old m : Moment) → OnlyCutBehind c held old m
      → StandsIn Q rests step next m.folder c → ((f : FileNo) (n : ℕ) → rests c f n → held f n)
      → ((f : FileNo) (n : ℕ) → rests c f n → makes f → n ≤ length (present old.folder f))
      → (f : FileNo) (n : ℕ) → rests c f n → makes f → n ≤ (file_in m.folder f).firm
  sure_still makes old m only s within there f n on mine = sure_there (file_in m.folder f) n (s.sure f n on)
      (still_there n (file_in old.folder f).bytes (file_in m.folder f).bytes (only.reads f n (within f n on))
      (there f n on mine))
