use Rattle.std.proofs.Common.{◌≡◌, ◌-◌, sym, subst, arith}
use Rattle.packed_records.specs.Packed.{packed}
use Rattle.room_reduction.specs.Sources.{sources_in}
use Rattle.room_reduction.specs.Levels.{IsPacked}
use Rattle.room_reduction.proofs.PackedSources.{sources_many}
use Rattle.room_reduction.proofs.LevelSteps.{none_done, none_made}
use Rattle.room_reduction.proofs.levels.reduce_levels.Goals as goal

pub loop-deeper-init : goal.loop-deeper-init
loop-deeper-init c = record {
  within = omega arith;
  room = omega arith;
  done_is = λ root arcs complete are.
      record {
        done = none_done c.args.n root arcs (c.args.n - 0) _ _ (omega arith)
            (sym (sources_many _ _ c.requires.many)) are;
        nodes_are = none_made c.args.n arcs (c.args.n - 0) (omega arith);
      };
}

pub returns-clause-done : goal.returns-clause-done
returns-clause-done c root arcs complete are =
    let n = c.args.n in
    let all = c.loop-deeper-test.false in
    let done = c.loop-deeper.done in
    let last = c.if-done-gt0.false in
    let top : n - c.loop-deeper.deeper ≡ 0 = omega (arith, all) in
    let first : done.from ≡ 0 = omega (arith, last) in
    let sources = sources_in c.args.index.total c.loop-deeper.sources in
    let nodes = packed c.loop-deeper.nodes in
    subst (λ i. IsPacked n root arcs i 0 done.count sources nodes) top
    (subst (λ from. IsPacked n root arcs (n - c.loop-deeper.deeper) from done.count sources nodes) first
    (c.loop-deeper.invariant.done_is root arcs complete are))
