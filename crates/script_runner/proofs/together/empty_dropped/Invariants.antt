use Rattle.std.proofs.Common.{◌≡◌, ℕ, ◌+◌, ◌<◌, ◌≤◌, [], get_or}
use Rattle.std.specs.Prelude.{IsTrue, Ok}
use Rattle.bool_tables.specs.declared.steps.Step.TheVariants.{Drop}
use Rattle.shelf_model.specs.World.{now, file}
use Rattle.shelf_model.specs.Calls.{Told}
use Rattle.shelf_model.specs.Moments.{Ran}
use Rattle.shelf_model.specs.Faults.{OnlyFolder}
use Rattle.step_work.specs.Plans.{no_step}
use Rattle.sound_image.specs.Files.{node_file}
use Rattle.script_runner.specs.Together.{OnlyEmptied, IsDropped}
use Rattle.script_runner.proofs.together.empty_dropped.Given as goal

-- the files that the steps so far drop were emptied
abbrev pub invariant-loop-k : goal.invariant-loop-k
invariant-loop-k g l = record {
  so_far : Told g.S.Shelf.tells l.fn.shelf l.shelf
      (Ran (OnlyEmptied (IsDropped l.steps l.from l.until) (now (g.S.Shelf.world l.fn.shelf))) (g.S.Shelf.world l.fn.shelf) (g.S.Shelf.world l.shelf));
  within : (l.from ≤ l.k) × (l.k ≤ l.until);
  calls : IsTrue (g.S.Shelf.tells l.shelf) → (g.S.Shelf.world l.shelf).clock + l.from ≤ (g.S.Shelf.world l.fn.shelf).clock + l.k;
  empty : IsTrue (g.S.Shelf.tells l.shelf) → (j gone : ℕ) → l.from ≤ j → j < l.k → (get_or l.steps j no_step).step ≡ Drop gone
      → (file (g.S.Shelf.world l.shelf) (node_file gone)).bytes ≡ [];
  faults : OnlyFolder {T = Unit} (g.S.Shelf.faults l.fn.shelf) (g.S.Shelf.faults l.shelf) (Ok tt);
}
