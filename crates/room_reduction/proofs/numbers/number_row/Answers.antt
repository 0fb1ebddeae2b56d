use Rattle.std.proofs.Common.{◌≡◌, ◌∙◌, ◌+◌, true, set, sym, subst, arith}
use Rattle.std.proofs.lemmas.Bool.Decides.{nat_tests}
use Rattle.canon_file.specs.Pairs.{differs}
use Rattle.room_reduction.specs.Records.{row_in}
use Rattle.room_reduction.specs.Levels.{IsNumbering}
use Rattle.room_reduction.proofs.Numbering.{new_numbered}
use Rattle.room_reduction.proofs.numbers.number_row.Goals as goal

pub returns-clause-more : goal.returns-clause-more
returns-clause-more c first place below is n =
    let r = c.args.row.now in
    let unlike = c.if-row.false in
    let differ : differs (row_in r) ≡ true = grind (arith, nat_tests) in
    let other = sym c.is_last.ensures ∙ c.if-is_last.false in
    subst (λ x. IsNumbering c.args.level first (place + 1) (c.args.done.count + 1) (row_in r)
    (set c.args.rows.now c.args.done.count x)) (sym c.node_with.ensures)
    (new_numbered c.args.level first place r below is c.args.done.count
    (record { low = c.args.done.low; high = c.args.done.high }) c.args.rows.now c.requires.within other differ n)
