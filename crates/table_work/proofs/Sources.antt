-- The arcs of a diagram have no more sources than tuples are joined.
use Rattle.std.proofs.Common.{◌≡◌, ◌+◌, ◌*◌, ◌≤◌, List, arith}
use Rattle.std.specs.Prelude.{length}
use Rattle.shelf_model.specs.World.{World}
use Rattle.arc_file.specs.declared.unreduced.Unreduced.{Unreduced}
use Rattle.top_down.specs.declared.tuple.Tuple.{Tuple}
use Rattle.top_down_laws.proofs.TurnCounts.{different_few}
use Rattle.top_down_sweep.specs.Meaning.{Task, IsMadeOf}
use Rattle.top_down_sweep.specs.Turns.{AllMet}

-- as many sources as different tuples were met, no more than the tuples among which all are that are met
module _ (t : Task) (world : World) (made : Unreduced) (is : IsMadeOf t world made) where
  pub sources_are : made.inner_count + made.ends_count ≡ 2 * length is.whole.tuples
  sources_are =
      let inner : length is.inner ≡ made.inner_count = is.files.inner_file.begin.count_is in
      let ends : length is.ends ≡ made.ends_count = is.files.ends_file.begin.count_is in
      omega (arith, inner, ends, is.whole.two_each)

  pub sources_few : (tuples : List Tuple) → AllMet t tuples → length is.whole.tuples ≤ length tuples
  sources_few tuples all = different_few is.whole.tuples tuples is.whole.different
      (λ x m. all x (is.whole.are_met x m))
