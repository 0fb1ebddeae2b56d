use Rattle.std.proofs.Common.{◌∙◌, sym, subst, arith}
use Rattle.packed_records.specs.Packed.{packed}
use Rattle.packed_records.proofs.PackedLaws.{length-packed}
use Rattle.copied_diagrams.specs.Operands.{pair_table}
use Rattle.copied_diagrams.proofs.PairRuns.{file_before}
use Rattle.top_down.specs.Laws.{targets_of_two}
use Rattle.room_reduction.specs.Sources.{sources_in}
use Rattle.room_reduction.proofs.FilledLaws.{some_both}
use Rattle.room_products.specs.Joined.{AreOfTable}
use Rattle.room_products.proofs.JoinedFile.{product_rules, product_asked, product_table}
use Rattle.room_products.proofs.FrontSources.{front_sources}
use Rattle.room_products.proofs.OperandNodes.{read_gives}
use Rattle.room_products.proofs.join.join_operands.Goals as goal

-- the second file is as it was once the first is read, and so the nodes and the roots are those of the tables
pub returns-clause-joined : goal.returns-clause-joined
returns-clause-joined g c told n t u few left right =
    let op = c.args.op in
    let mid = c.read_nodes-2.ensures.content.before told in
    let looked = c.read_nodes.ensures.content.did mid in
    let form_t = left.file_of.form in
    let form_u = right.file_of.form in
    let first_is = c.word-first.ensures.value ∙ left.trailer_of.root_is in
    let second_is = c.word-second.ensures.value ∙ right.trailer_of.root_is in
    let lefts = c.split_at_mut-lefts.ensures.front_len in
    let rights = c.split_at_mut-rights.ensures.front_len in
    let lefts_long = c.read_nodes.auto.nodes in
    let rights_long = c.read_nodes-2.auto.nodes in
    some_both _ _ _ c.join_nodes.result (λ tabled within made.
    subst (AreOfTable n tabled.root (pair_table n op t u))
    (sym (front_sources tabled.count c.join_nodes.new.sources _ within))
    (subst (λ table. AreOfTable n tabled.root table (sources_in tabled.count c.join_nodes.new.sources))
    (product_table n op t u form_t form_u _ _ first_is second_is)
    (made n (targets_of_two n t u) few (product_rules n op t u form_t form_u _ _ first_is second_is)
    (record {
      first = read_gives n t c.args.pair.left.from _ c.args.pair.left.trailer.count (packed c.read_nodes.new.nodes)
          left.file_of left.trailer_of.count_is (omega (arith, lefts, lefts_long, length-packed c.read_nodes.new.nodes))
          (c.in_ok-read_nodes.ensures.read c.if-not-branch.false mid);
      second = read_gives n u c.args.pair.right.from _ c.args.pair.right.trailer.count (packed c.read_nodes-2.new.nodes)
          (file_before n _ u c.args.pair.right.from _ _ looked right.file_of) right.trailer_of.count_is
          (omega (arith, rights, rights_long, length-packed c.read_nodes-2.new.nodes))
          (c.in_ok-read_nodes-2.ensures.read c.if-not-branch-2.false told);
    })
    (product_asked n op t u form_t form_u _ _ first_is second_is))))
    c.join_nodes.ensures.few c.join_nodes.ensures.joined
