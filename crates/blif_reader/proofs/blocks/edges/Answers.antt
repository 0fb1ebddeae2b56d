use Rattle.std.proofs.Common.{List, ℕ, ◌+◌, ◌-◌, ◌≡◌, ◌++◌, ◌∙◌, sym, ap, map, take, drop, append_assoc, arith}
use Rattle.std.proofs.lemmas.Grind.{common_steps}
use Rattle.std.proofs.lemmas.List.{map-append}
use Rattle.blif_reader.specs.Statements.{statement_of}
use Rattle.blif_reader.specs.Netlist.{reads_of}
use Rattle.depth_first.specs.Views.{graph_of}
use Rattle.blif_reader.specs.Views.{number_in}
use Rattle.blif_reader.proofs.BlockReads.{reads_from}
use Rattle.blif_reader.proofs.blocks.edges.Goals as goal

pub loop-input-preserved : goal.loop-input-preserved
loop-input-preserved c = grind (arith, common_steps)

pub loop-place-preserved : goal.loop-place-preserved
loop-place-preserved c =
    let i : ℕ = c.loop-place.place in
    let ss = c.args.statements.now in
    let reads : List (List (List ℕ)) → List (List ℕ) = map (λ words. map (number_in c.args.index.now) words) in
    let one : i + 1 - i ≡ 1 = omega arith in
    let now = reads_of (map statement_of (take (i + 1 - i) (drop i ss))) in
    let later = reads_of (map statement_of (drop (i + 1) ss)) in
    let old = graph_of c.loop-place.edges.items in
    let pushed : graph_of c.push_reads.new.edges.items ≡ old ++ reads now = c.in_ok-push_reads.ensures in
    let all : reads (reads_of (map statement_of (drop i ss))) ≡ reads now ++ reads later = ap reads (reads_from ss (take (i + 1 - i) (drop i ss)) i (ap (λ n. take n (drop i ss)) one)) ∙ map-append _ now later in
    ap (λ es. es ++ reads later) pushed ∙ append_assoc old (reads now) (reads later) ∙ ap (λ es. old ++ es) (sym all) ∙ c.loop-place.invariant

pub returns : goal.returns
returns c = grind (arith, common_steps)
