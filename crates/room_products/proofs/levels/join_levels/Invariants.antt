use Rattle.std.proofs.Common.{ℕ, ◌*◌, ◌≤◌, [], length}
use Rattle.top_down.specs.declared.tuple.Tuple.{Tuple}
use Rattle.top_down.specs.Operations.{product_rule}
use Rattle.top_down.specs.Tuples.{Targets}
use Rattle.top_down.specs.Rules.{IsRule}
use Rattle.packed_records.specs.Packed.{packed}
use Rattle.room_products.specs.Operands.{GiveRowsOf}
use Rattle.room_products.specs.Joining.{IsJoining}
use Rattle.room_products.proofs.levels.join_levels.Given as goal

-- the pairs of the levels above have their sources
abbrev pub invariant-loop-level : goal.invariant-loop-level
invariant-loop-level l = record {
  within : l.now.count ≤ 4 * length l.slots;
  done_within : l.now.done ≤ 4 * length l.sources;
  joined : (n root : ℕ) (roots : Tuple) (targets : Targets) → n ≤ 65535 →
      IsRule n (product_rule l.fn.operands.op) targets →
      GiveRowsOf targets l.fn.operands →
      IsJoining n root roots (product_rule l.fn.operands.op) targets [] (packed l.fn.slots) l.fn.firsts l.fn.begun.count
      (packed l.fn.sources) l.fn.begun.done →
      IsJoining n root roots (product_rule l.fn.operands.op) targets [] (packed l.slots) l.firsts l.now.count
      (packed l.sources)
      l.now.done;
}
