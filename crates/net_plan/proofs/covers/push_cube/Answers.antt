use Rattle.std.proofs.Common.{◌≡◌, ◌<◌, ◌∙◌, ◌∷◌, ◌+◌, ℕ, List, [], true, ap, ap₂, sym, length, get_or, drop, map, arith}
use Rattle.std.proofs.lemmas.List.{drop_more, length-map}
use Rattle.depth_first.specs.Graph.{edges_of}
use Rattle.bool_tables.specs.declared.steps.Step.TheVariants.{Const}
use Rattle.blif_reader.specs.Netlist.{cover_at}
use Rattle.blif_reader.specs.Answers.{net_of}
use Rattle.net_plan.specs.Covers.{Draft, put, column, columns, cube}
use Rattle.net_plan.proofs.Columns.{column_adds, number_at}
use Rattle.net_plan.proofs.Growth.{passes_on, cube_begins, columns_below}
use Rattle.net_plan.proofs.covers.push_cube.Goals as goal

pub returns-in_err-at : goal.returns-in_err-at
returns-in_err-at c =
    let net = net_of c.args.net.now in
    let cells : List ℕ = get_or (cover_at net c.args.signal).rows c.args.place [] in
    let ts : List ℕ = map (λ t. get_or c.args.made.now t 0) (edges_of net.edges c.args.signal) in
    let old = c.args.steps.now.items in
    passes_on c.args.first old c.put_step.new.steps.items _ (put c.args.first old (Const true)) (cube c.args.first old cells ts) c.from_residual.result c.in_err-at.field-0.0 c.from_residual.ensures.1 c.in_err-at.ensures (cube_begins c.args.first old cells ts)

pub returns-in_err-at-2 : goal.returns-in_err-at-2
returns-in_err-at-2 c =
    let d : Draft = record { steps = c.columns.steps.items; at = c.columns.at } in
    let i : ℕ = c.columns.column in
    let cells : List ℕ = c.row-cells.result.now in
    let inputs : List ℕ = c.block_inputs-inputs.result.now in
    let ts : List ℕ = map (λ t. get_or c.args.made.now t 0) inputs in
    let wide : length cells ≡ length inputs = c.row-cells.ensures.cells.size ∙ sym (ap length c.block_inputs-inputs.ensures) in
    let numbers : length ts ≡ length inputs = length-map inputs _ in
    let more : i < length inputs = c.columns-test.true in
    let left = drop_more cells i 0 (omega arith) in
    let read : drop i ts ≡ get_or c.args.made.now (get_or inputs i 0) 0 ∷ drop (i + 1) ts = drop_more ts i 0 (omega arith) ∙ ap (λ t. t ∷ drop (i + 1) ts) (number_at c.args.made.now inputs i more) in
    let all = ap₂ (cube c.args.first c.args.steps.now.items) c.row-cells.ensures.row (ap (map (λ t. get_or c.args.made.now t 0)) c.block_inputs-inputs.ensures) in
    passes_on c.args.first c.columns.steps.items c.push_column.new.steps.items _ (column c.args.first d (get_or cells i 0) (get_or c.args.made.now (get_or inputs i 0) 0)) _ c.from_residual-in_err-at-2.result c.in_err-at-2.field-0.0 c.from_residual-in_err-at-2.ensures.1 c.in_err-at-2.ensures
    (columns_below c.args.first _ _ d _ _ _ _ _ left read (c.columns.invariant.same ∙ all))

pub columns-preserved : goal.columns-preserved
columns-preserved c =
    let d : Draft = record { steps = c.columns.steps.items; at = c.columns.at } in
    let i : ℕ = c.columns.column in
    let j : ℕ = c.next_column-column.result in
    let cells : List ℕ = c.row-cells.result.now in
    let inputs : List ℕ = c.block_inputs-inputs.result.now in
    let ts : List ℕ = map (λ t. get_or c.args.made.now t 0) inputs in
    let wide : length cells ≡ length inputs = c.row-cells.ensures.cells.size ∙ sym (ap length c.block_inputs-inputs.ensures) in
    let numbers : length ts ≡ length inputs = length-map inputs _ in
    let more : i < length inputs = c.columns-test.true in
    let hyphens : (k : ℕ) → i < k → k < j → get_or cells k 45 ≡ 45 = (λ k a b. ap (λ cs. get_or cs k 45) c.row-cells.ensures.row ∙ c.next_column-column.ensures.hyphens c.args.place k c.requires.inside a b) in
    let number = number_at c.args.made.now inputs i more in
    let added : Draft = column c.args.first d (get_or cells i 0) (get_or c.args.made.now (get_or inputs i 0) 0) in
    let same : added ≡ column c.args.first d (get_or cells i 0) (get_or ts i 0) = ap (column c.args.first d (get_or cells i 0)) (sym number) in
    let here : record { steps = c.push_column.new.steps.items; at = c.in_ok-at-2.at } ≡ added = ap₂ (λ s a. record { steps = s; at = a }) c.in_ok-at-2.ensures.0 c.in_ok-at-2.ensures.1 in
    record {
      same = ap (λ (e : Draft). columns c.args.first e (drop j cells) (drop j ts)) (here ∙ same) ∙ column_adds c.args.first i j d _ cells ts (omega arith) (omega arith) c.next_column-column.ensures.on hyphens c.columns.invariant.same;
      few = c.in_ok-at-2.ensures.2;
    }
