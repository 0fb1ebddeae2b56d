use Rattle.std.proofs.Common.{◌≡◌, ◌+◌, ◌<◌, ℕ, List, [], ◌∷◌, false, length, drop, map, get_or, arith}
use Rattle.std.proofs.lemmas.List.{drop_more}
use Rattle.depth_first.specs.Graph.{edges_of}
use Rattle.bool_tables.specs.declared.steps.Step.TheVariants.{Const}
use Rattle.blif_reader.specs.Netlist.{cover_at}
use Rattle.blif_reader.specs.Answers.{net_of}
use Rattle.net_plan.specs.Covers.{Draft, put, row, rows}
use Rattle.net_plan.proofs.Growth.{passes_on, rows_grow, rows_below}
use Rattle.net_plan.proofs.covers.push_rows.Goals as goal
use Rattle.std.proofs.lemmas.Grind.{common_steps}

pub returns-in_err-sum : goal.returns-in_err-sum
returns-in_err-sum c =
    let rs : List (List ℕ) = (cover_at (net_of c.args.net.now) c.args.signal).rows in
    let ts : List ℕ = map (λ t. get_or c.args.made.now t 0) (edges_of (net_of c.args.net.now).edges c.args.signal) in
    let start : Draft = put c.args.first c.args.steps.now.items (Const false) in
    passes_on c.args.first c.args.steps.now.items c.put_step.new.steps.items _ start (rows c.args.first start rs ts) c.from_residual.result c.in_err-sum.field-0.0 c.from_residual.ensures.1 c.in_err-sum.ensures (rows_grow c.args.first start rs ts)

pub returns-in_err-sum-2 : goal.returns-in_err-sum-2
returns-in_err-sum-2 c =
    let d : Draft = record { steps = c.loop-place.steps.items; at = c.loop-place.sum } in
    let rs : List (List ℕ) = (cover_at (net_of c.args.net.now) c.args.signal).rows in
    let ts : List ℕ = map (λ t. get_or c.args.made.now t 0) (edges_of (net_of c.args.net.now).edges c.args.signal) in
    let start : Draft = put c.args.first c.args.steps.now.items (Const false) in
    let inside : c.loop-place.place < length rs = omega (arith, c.loop-place-test.true, c.row_count-place-end.ensures) in
    let r : List ℕ = get_or rs c.loop-place.place [] in
    let split : drop c.loop-place.place rs ≡ r ∷ drop (c.loop-place.place + 1) rs = drop_more rs c.loop-place.place [] inside in
    passes_on c.args.first c.loop-place.steps.items c.push_row.new.steps.items _ (row c.args.first d r ts) (rows c.args.first start rs ts)
    c.from_residual-in_err-sum-2.result c.in_err-sum-2.field-0.0 c.from_residual-in_err-sum-2.ensures.1 c.in_err-sum-2.ensures
    (rows_below c.args.first r d _ _ _ ts split c.loop-place.invariant.same)

pub loop-place-preserved : goal.loop-place-preserved
loop-place-preserved c = grind (arith, common_steps)

pub returns : goal.returns
returns c = grind (arith, common_steps)
