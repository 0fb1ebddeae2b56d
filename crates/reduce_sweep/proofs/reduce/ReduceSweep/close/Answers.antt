use Rattle.std.proofs.Common.{◌≡◌, ap, arith, IsTrue, true, false}
use Rattle.std.proofs.lemmas.Bool.Decides.{nat_tests}
use Rattle.canon_file.specs.Pairs.{differs}
use Rattle.arc_diagrams.specs.Items.{pair}
use Rattle.arc_diagrams.specs.declared.source_row.SourceRow.{SourceRow}
use Rattle.reduce_sweep.specs.Sources.{row_of}
use Rattle.reduce_sweep.proofs.CollectingKeeps.{name_closes, row_closes}
use Rattle.reduce_sweep.proofs.reduce.ReduceSweep.close.Goals as goal

-- the source has its name
pub returns-then-eq-clause-closed : goal.returns-then-eq-clause-closed
returns-then-eq-clause-closed g c =
    let row : c.row-row.result ≡ row_of c.args.source = c.row-row.ensures in
    let test = c.if-eq.true in
    let same : differs (pair (row_of c.args.source)) ≡ false = grind (arith, nat_tests, row, test) in
    name_closes c.args.source c.args.self.now c.push_name.new.self (IsTrue (g.S.Shelf.tells c.push_name.new.shelf)) _ _ _ c.push_name.result same
    (ap (λ (r : SourceRow). record { source = r.source; pointer = r.low }) row) c.push_name.ensures.joined

-- or its row
pub returns-clause-closed : goal.returns-clause-closed
returns-clause-closed g c =
    let row : c.row-row.result ≡ row_of c.args.source = c.row-row.ensures in
    let test = c.if-eq.false in
    let other : differs (pair (row_of c.args.source)) ≡ true = grind (arith, nat_tests, row, test) in
    row_closes c.args.source c.args.self.now c.push_row.new.self (IsTrue (g.S.Shelf.tells c.push_row.new.shelf)) _ _ _ c.push_row.result other row c.push_row.ensures.joined
