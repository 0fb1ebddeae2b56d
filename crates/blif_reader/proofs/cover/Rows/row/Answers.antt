use Rattle.std.proofs.Common.{◌≡◌, ◌+◌, ◌-◌, ◌*◌, ◌∙◌, ℕ, ap, sym, take, drop, arith}
use Rattle.blif_reader.proofs.Cells.{row_at}
use Rattle.blif_reader.proofs.cover.Rows.row.Goals as goal

pub returns : goal.returns
returns c =
    let w : ℕ = c.args.self.now.width in
    let from : ℕ = c.args.row * w in
    let size : from + w - from ≡ w = omega arith in
    ap (λ m. take m (drop from c.deref.result.now)) size ∙ ap (λ cs. take w (drop from cs)) c.deref.ensures.value
    ∙ sym (row_at c.args.self.now.count w c.args.row c.args.self.now.cells.items c.requires)
