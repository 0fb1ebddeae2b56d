use Rattle.std.proofs.Common.{suc, length, ap, arith}
use Rattle.std.proofs.lemmas.List.{length-append, length-take-le}
use Rattle.node_file.specs.Nodes.{node_records}
use Rattle.canon_file.specs.Canon.{numbered}
use Rattle.arc_diagrams.specs.Reduction.{final_rows}
use Rattle.room_reduction.specs.Levels.{nodes_down_to}
use Rattle.room_reduction.proofs.LevelSteps.{nodes_onward}
use Rattle.room_reduction.proofs.writing.write_level.Goals as goal

pub returns-clause-done : goal.returns-clause-done
returns-clause-done g c n root arcs few below complete was =
    let level = c.args.level in
    let made = c.in-Some.ensures in
    let are = ap length (made.nodes n root arcs few below complete was.done) in
    let taken = length-take-le c.in-Some.made.count c.nodes_of_level.new.rows made.room in
    let deeper = was.count_is in
    let both = length-append (nodes_down_to (suc level) n arcs)
    (node_records (numbered level 0 (final_rows n arcs level))) in
    let all = ap length (nodes_onward n arcs level below) in
    record {
      done = made.done n root arcs few below complete was.done;
      count_is = omega (arith, are, taken, deeper, both, all);
    }
