use Rattle.std.proofs.Common.{◌≡◌, length, arith}
use Rattle.blif_reader.specs.Views.{rows_of}
use Rattle.blif_reader.proofs.Cells.{length-rows_in}
use Rattle.blif_reader.proofs.jumps.need_rows.Goals as goal

pub returns-clause-hyphens : goal.returns-clause-hyphens
returns-clause-hyphens c = λ r k less free.
    let rows = c.args.rows.now in
    let count : length (rows_of rows) ≡ rows.count = length-rows_in rows.count rows.width rows.cells.items in
    c.loop-row.invariant.hyphens r k (omega (arith, count)) free
