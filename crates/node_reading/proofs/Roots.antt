-- The root of a file of nodes.
use Rattle.std.proofs.Common.{◌≡◌, ℕ, ◌+◌, ◌-◌, ◌*◌, ◌/◌, ◌∙◌, List, length, drop, sym, ap, arith, length-append}
use Rattle.std.specs.Prelude.{slice_index}
use Rattle.std.proofs.lemmas.List.{drop_at}
use Rattle.std.proofs.lemmas.Nat.{from_be_bytes-to_be_bytes_8}
use Rattle.rec_words.specs.declared.node.Node.{Node}
use Rattle.rec_words.specs.declared.rec.Rec.{Rec}
use Rattle.block_stream.specs.Records.{record_of, record_at}
use Rattle.canon_file.specs.Canon.{node_bytes, trailer_bytes}
use Rattle.canon_file.proofs.ByteLaws.{length-node_bytes}
use Rattle.node_file.specs.Nodes.{HasTrailer, HasNodes}
use Rattle.node_file.proofs.FileLaws.{root_fits}

-- the root that a trailer names is the one that ends the file's nodes
pub root_read : (n r root : ℕ) (xs : List Node) (bytes : List ℕ) → HasTrailer n r bytes
    → HasNodes n root xs bytes → r ≡ root
root_read n r root xs bytes has nodes =
    let tail : List ℕ = trailer_bytes root (length xs) n in
    let long : length bytes ≡ 24 * length xs + 24 = ap length nodes.bytes_are
    ∙ length-append (node_bytes xs) tail ∙ ap (λ k. k + 24) (length-node_bytes xs) in
    let count : length bytes / 24 - 1 ≡ length xs = omega arith in
    let long_front : length (node_bytes xs) ≡ length xs * (8 * 3) = length-node_bytes xs
    ∙ (let same : 24 * length xs ≡ length xs * (8 * 3) = omega arith in same) in
    let at : drop (length xs * (8 * 3)) bytes ≡ tail =
    ap (drop (length xs * (8 * 3))) nodes.bytes_are
    ∙ drop_at (node_bytes xs) tail (length xs * (8 * 3)) long_front in
    let here : record_at 3 (length bytes / 24 - 1) bytes ≡ record_of 3 tail =
    (λ i. record_at 3 (count i) bytes) ∙ ap (record_of 3) at in
    sym has.trailer.root_is ∙ ap (λ (q : Rec). slice_index q.w 0) here
    ∙ from_be_bytes-to_be_bytes_8 root (root_fits n root xs nodes.proper nodes.ends)
