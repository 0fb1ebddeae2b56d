use Rattle.std.proofs.Common.{List, ℕ, ◌++◌, ◌∷◌, [], ◌∙◌, sym, ap, map, arith}
use Rattle.std.proofs.lemmas.List.{map_push}
use Rattle.blif_reader.specs.Parts.{Use}
use Rattle.depth_first.specs.Views.{graph_of}
use Rattle.blif_reader.specs.Views.{number_in}
use Rattle.blif_reader.proofs.BlockReads.{reads_one}
use Rattle.blif_reader.proofs.blocks.push_reads.Goals as goal
use Rattle.std.proofs.lemmas.Grind.{common_steps}

pub returns-in_ok-push : goal.returns-in_ok-push
returns-in_ok-push c =
    let number : List ℕ → ℕ = number_in c.args.index.now in
    ap graph_of c.in_ok-push.ensures.items ∙ map_push _ c.args.edges.now.items c.in_ok-numbers.field-0
    ∙ ap (λ ns. graph_of c.args.edges.now.items ++ ns ∷ []) (c.in_ok-numbers.ensures ∙ ap (λ us. map number (map (λ (u : Use). u.word) us)) c.of.ensures)
    ∙ ap (λ rs. graph_of c.args.edges.now.items ++ map (λ words. map number words) rs)
    (sym (reads_one c.args.line.now c.index-line-0.result c.requires (sym c.names_block.ensures ∙ c.if-names_block.true)))

pub returns-else-names_block : goal.returns-else-names_block
returns-else-names_block c = grind (arith, common_steps)
