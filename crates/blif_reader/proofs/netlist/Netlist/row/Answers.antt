use Rattle.std.proofs.Common.{◌≡◌, ◌∙◌, [], get_or, length, ap, sym, subst, arith}
use Rattle.blif_reader.specs.Netlist.{IsRow, cover_at}
use Rattle.blif_reader.specs.Views.{rows_of}
use Rattle.blif_reader.specs.Answers.{net_of}
use Rattle.blif_reader.proofs.Cells.{length-rows_in}
use Rattle.blif_reader.proofs.Netlists.{row_fits}
use Rattle.blif_reader.proofs.netlist.Netlist.row.Goals as goal

pub row-requires : goal.row-requires
row-requires c =
    let rows = c.cover.result.now.rows in
    let count : length (rows_of rows) ≡ rows.count = length-rows_in rows.count rows.width rows.cells.items in
    let same : length (rows_of rows) ≡ length (cover_at (net_of c.args.self.now) c.args.signal).rows = ap (λ k. length k.rows) c.cover.ensures in
    omega (arith, count, same, c.requires.inside)

pub returns-clause-cells : goal.returns-clause-cells
returns-clause-cells c =
    let same : c.row.result.now ≡ get_or (cover_at (net_of c.args.self.now) c.args.signal).rows c.args.row [] = c.row.ensures ∙ ap (λ k. get_or k.rows c.args.row []) c.cover.ensures in
    subst (IsRow (length (get_or (net_of c.args.self.now).edges c.args.signal []))) (sym same) (row_fits (net_of c.args.self.now) c.args.signal c.args.row c.args.self.now.sound.tables c.requires.block c.requires.inside)
