-- Calls that change no file, one after the other.
use Rattle.std.proofs.Common.{◌∙◌, ℕ, Bool}
use Rattle.shelf_model.specs.Calls.{Told}
use Rattle.shelf_model.specs.Moments.{Ran, Stays}
use Rattle.shelf_model.specs.World.{World, now}
use Rattle.shelf_model.proofs.Runs.{told, told_then, ran_joins, ran_weakens, ran_end}
use Rattle.block_stream.specs.Reads.{Looked}

module _ {S : Type 0} (tells : S → Bool) (world : S → World) where
  -- a look changes none
  pub looked_stays : (n : ℕ) (old new : S) → Told tells old new (Looked n (world old) (world new))
      → Told tells old new (Ran (Stays (now (world old))) (world old) (world new))
  looked_stays n old new looked = told tells old new _ _ looked (λ _ did. did.run)

  pub stays_on : (old mid new : S) → Told tells old mid (Ran (Stays (now (world old))) (world old) (world mid))
      → Told tells mid new (Ran (Stays (now (world mid))) (world mid) (world new))
      → Told tells old new (Ran (Stays (now (world old))) (world old) (world new))
  stays_on old mid new first second =
      told_then tells old mid new _ _ _ first second
      (λ _ one two. let P = Stays (now (world old)) in
      ran_joins (world old) (world mid) (world new) P one
      (ran_weakens (world mid) (world new) (Stays (now (world mid))) P
      (λ m same. same ∙ ran_end (world old) (world mid) P one) two))
