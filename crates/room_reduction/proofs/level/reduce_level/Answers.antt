use Rattle.std.proofs.Common.{◌≡◌, ◌∙◌, ◌+◌, ◌++◌, length, take, refl, sym, ap}
use Rattle.std.proofs.lemmas.List.{length-take-le}
use Rattle.packed_records.specs.Packed.{packed}
use Rattle.room_reduction.proofs.LevelSteps.{nodes_onward}
use Rattle.room_reduction.proofs.level.reduce_level.Goals as goal

pub returns-clause-done : goal.returns-clause-done
returns-clause-done c n root arcs few below complete done =
    let made = c.in_ok-made.ensures in
    let nodes = packed c.args.nodes.now in
    let own = c.nodes_of_level.new.rows in
    let more = c.in_ok-made.made.count in
    let many : length (take more own) ≡ more = length-take-le more own made.room in
    let are = made.nodes n root arcs few below complete done.done in
    record {
      done = made.done n root arcs few below complete done.done;
      nodes_are = ap (λ k. take (c.args.done.count + k) (packed c.pack_nodes.new.nodes)) (sym many)
          ∙ c.if-not-pack_nodes.ensures.behind refl _ are
          ∙ (λ j. done.nodes_are j ++ are j)
          ∙ nodes_onward n arcs c.args.level below;
    }
