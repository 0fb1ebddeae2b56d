use Rattle.std.proofs.Common.{◌++◌, ◌∙◌, ap, sym, map, length, arith}
use Rattle.std.proofs.Math.Nat.{zero-mul}
use Rattle.std.proofs.lemmas.Grind.{common_steps}
use Rattle.blif_reader.specs.Statements.{statement_of}
use Rattle.blif_reader.specs.Netlist.{cells_of, rows_behind}
use Rattle.blif_reader.proofs.Cells.{rows_none, row_step}
use Rattle.blif_reader.proofs.blocks.rows.Goals as goal

pub loop-statement-init : goal.loop-statement-init
loop-statement-init c = record {
  all = ap (λ rs. rs ++ rows_behind (map statement_of c.args.statements.now)) (rows_none c.args.width c.new-cells.result.items);
  left = c.requires;
  size = ap length c.new-cells.ensures.items ∙ sym (zero-mul c.args.width);
  few = omega arith;
}

pub returns-in_default : goal.returns-in_default
returns-in_default c = grind (arith, common_steps)

pub loop-statement-preserved : goal.loop-statement-preserved
loop-statement-preserved c =
    let i = c.loop-statement.statement-index in
    let so_far = c.loop-statement.invariant in
    let next = row_step c.args.statements.now i c.statement-item.result _ c.args.width c.loop-statement.count c.loop-statement.cells.items c.extend_from_slice.new.self.items _
    c.loop-statement-test.true (ap (λ s. s.kind) (sym c.statement-item.is) ∙ c.in-Row.is) (c.in_ok-extend_from_slice-in-Row.ensures.items ∙ ap (λ r. c.loop-statement.cells.items ++ r) (c.cells.ensures ∙ ap (λ s. cells_of (statement_of s).words) c.statement-item.is)) so_far.size so_far.all so_far.left in
    record { all = next.0; left = next.1; size = next.2; few = omega (arith, so_far.few) }

pub returns : goal.returns
returns c = grind (arith, common_steps)
