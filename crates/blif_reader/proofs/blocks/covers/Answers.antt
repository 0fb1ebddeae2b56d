use Rattle.std.proofs.Common.{◌≡◌, ◌+◌, ◌-◌, true, length, get_or, map, drop, sym, subst, arith}
use Rattle.std.proofs.lemmas.Grind.{common_steps}
use Rattle.std.specs.List.{AllByRecursion}
use Rattle.blif_reader.specs.declared.grammar.Context.TheVariants.{Start}
use Rattle.blif_reader.specs.Statements.{statement_of}
use Rattle.blif_reader.specs.Netlist.{IsRow, is_names, rows_behind}
use Rattle.blif_reader.proofs.Rows.{behind_fit}
use Rattle.blif_reader.proofs.blocks.covers.Goals as goal

pub push_cover-requires : goal.push_cover-requires
push_cover-requires c = λ e.
    let ss = c.args.statements.now in
    let place = c.loop-place.place in
    let s = c.index-statements-place.result in
    let is : s ≡ get_or ss place s = c.index-statements-place.is in
    subst (λ b. AllByRecursion (IsRow (length (statement_of s).words - 2)) (rows_behind (map statement_of b))) (sym c.split_at.ensures.back)
    (subst (λ x. AllByRecursion (IsRow (length (statement_of x).words - 2)) (rows_behind (map statement_of (drop (place + 1) ss)))) (sym is)
    (behind_fit Start ss c.requires place s c.loop-place-test.true (subst (λ x. is_names x.kind ≡ true) is e)))

pub loop-place-preserved : goal.loop-place-preserved
loop-place-preserved c = grind (arith, common_steps)

pub returns : goal.returns
returns c = grind (arith, common_steps)
