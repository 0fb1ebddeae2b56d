use Rattle.std.proofs.Common.{◌≡◌, ◌<◌, ◌∙◌, ℕ, List, false, length, get_or, ap, sym, subst, arith}
use Rattle.std.proofs.lemmas.List.{length-replicate}
use Rattle.depth_first.specs.Graph.{edges_of}
use Rattle.depth_first.proofs.Steps.{edges_read, length_graph}
use Rattle.blif_reader.specs.Tables.{net_in}
use Rattle.blif_reader.proofs.jumps.signal_jumps.Goals as goal

pub block_jumps-requires-clause-inside : goal.block_jumps-requires-clause-inside
block_jumps-requires-clause-inside c = λ i less.
    let net = net_in c.args.tables.now in
    let s : ℕ = c.args.signal in
    let edges = c.args.tables.now.edges.items in
    let words : List ℕ = c.as_slice-words.result.now in
    let signals : length net.edges ≡ length net.names = c.requires.tables.signals in
    let vectors : length net.edges ≡ length edges = length_graph edges in
    let here : s < length net.edges = omega (arith, c.requires.signal) in
    let read : edges_of net.edges s ≡ words = edges_read edges s c.index.result.now words (omega arith) c.index.ensures c.as_slice-words.ensures.value in
    let target : get_or (edges_of net.edges s) i 0 < length net.edges = c.requires.tables.graph s i here (subst (λ ws. i < length ws) (sym read) less) in
    let same : get_or words i 0 < length net.edges = subst (λ ws. get_or ws i 0 < length net.edges) read target in
    let size : length c.args.stood.now.items ≡ length net.names = ap length c.requires.blank ∙ length-replicate (length net.names) false in
    omega arith
