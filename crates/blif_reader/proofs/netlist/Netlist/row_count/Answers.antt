use Rattle.std.proofs.Common.{◌≡◌, ◌-◌, ◌∙◌, length, ap, sym, arith}
use Rattle.blif_reader.specs.Netlist.{cover_at}
use Rattle.blif_reader.specs.Answers.{net_of}
use Rattle.blif_reader.proofs.Cells.{length-rows_in}
use Rattle.blif_reader.proofs.netlist.Netlist.row_count.Goals as goal

pub returns : goal.returns
returns c =
    let rows = c.cover.result.now.rows in
    sym (length-rows_in rows.count rows.width rows.cells.items) ∙ ap (λ k. length k.rows) c.cover.ensures

pub overflow_cast-result : goal.overflow_cast-result
overflow_cast-result c =
    let net = net_of c.args.self.now in
    let tables = c.args.self.now.sound.tables in
    let count : c.cover.result.now.rows.count ≡ length (cover_at net c.args.signal).rows = returns c in
    let few = tables.rows (c.args.signal - net.inputs) (omega (arith, c.requires.behind, c.requires.inside, tables.blocks)) in
    omega (arith, count, few)
