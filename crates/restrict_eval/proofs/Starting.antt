-- What a reader knows of its file at first.
use Rattle.std.proofs.Common.{◌≡◌, ℕ, ◌+◌, ◌-◌, ◌*◌, ◌/◌, ◌^◌, ◌<◌, ◌≤◌, ◌∙◌, Bool, List, length, drop, sym, subst, ap, inl, inr, arith, length-append}
use Rattle.std.specs.Prelude.{Ok, slice_index}
use Rattle.std.proofs.lemmas.List.{drop_at}
use Rattle.std.proofs.lemmas.Nat.{from_be_bytes-to_be_bytes_8}
use Rattle.rec_words.specs.declared.rec.Rec.{Rec}
use Rattle.rec_words.specs.declared.node.Node.{Node}
use Rattle.shelf_model.specs.declared.fault.StreamFault.{StreamFault}
use Rattle.shelf_model.specs.declared.fault.StreamFault.TheVariants as stream
use Rattle.shelf_model.specs.SortFaults.{handed_on}
use Rattle.shelf_model.specs.Faults.{Faults, OnlyShelf}
use Rattle.run_tiers.specs.Faults.{OnlySortShelf}
use Rattle.block_stream.specs.Records.{record_of, record_at}
use Rattle.canon_file.specs.Canon.{canon_nodes, canon_root, node_bytes, trailer_bytes}
use Rattle.canon_file.specs.Laws.{HasForm}
use Rattle.canon_file.proofs.ByteLaws.{length-node_bytes}
use Rattle.arc_diagrams.specs.Arcs.{IsWithin}
use Rattle.arc_diagrams.proofs.CanonArcs.{canon_complete}
use Rattle.node_file.specs.declared.reader.NodeReader.{NodeReader}
use Rattle.node_file.specs.Nodes.{HasTrailer, HasNodes}
use Rattle.node_file.specs.Readers.{trailer_of}
use Rattle.sweep_core.specs.Sweeps.{IsNoDamage}

-- the pointer that the trailer of a file of nodes has
root_read : (n r root : ℕ) (xs : List Node) (bytes : List ℕ) → root < 2 ^ 64 → HasTrailer n r bytes → HasNodes n root xs bytes → r ≡ root
root_read n r root xs bytes fits has nodes =
    let tail : List ℕ = trailer_bytes root (length xs) n in
    let long : length bytes ≡ 24 * length xs + 24 = ap length nodes.bytes_are ∙ length-append (node_bytes xs) tail ∙ ap (λ k. k + 24) (length-node_bytes xs) in
    let count : length bytes / 24 - 1 ≡ length xs = omega arith in
    let long_front : length (node_bytes xs) ≡ length xs * (8 * 3) = length-node_bytes xs ∙ (let same : 24 * length xs ≡ length xs * (8 * 3) = omega arith in same) in
    let at : drop (length xs * (8 * 3)) bytes ≡ tail = ap (drop (length xs * (8 * 3))) nodes.bytes_are ∙ drop_at (node_bytes xs) tail (length xs * (8 * 3)) long_front in
    let here : record_at 3 (length bytes / 24 - 1) bytes ≡ record_of 3 tail = (λ i. record_at 3 (count i) bytes) ∙ ap (record_of 3) at in
    sym has.trailer.root_is ∙ ap (λ (q : Rec). slice_index q.w 0) here ∙ from_be_bytes-to_be_bytes_8 root fits

within_fits : (n w : ℕ) → n ≤ 65535 → IsWithin n w → w < 2 ^ 64
within_fits n w few (inl below) = omega (arith, few, below)
within_fits n w few (inr (inl zeros)) = omega (arith, zeros)
within_fits n w few (inr (inr ones)) = omega (arith, ones)

root_fits : (n : ℕ) (t : List Bool) → HasForm n t → canon_root n t < 2 ^ 64
root_fits n t form = within_fits n (canon_root n t) form.few (canon_complete n t form).begins

-- the reader of a table's canonical file has its trailer
pub canonical_trailer : (n : ℕ) (t : List Bool) (r : NodeReader) (bytes : List ℕ) → HasForm n t → HasNodes n (canon_root n t) (canon_nodes n t) bytes
    → (trailer_of r).n ≡ n → HasTrailer n (trailer_of r).root bytes → (trailer_of r).count ≡ length (canon_nodes n t)
    → trailer_of r ≡ record { root = canon_root n t; count = length (canon_nodes n t); n = n }
canonical_trailer n t r bytes form nodes variables has count =
    let root : (trailer_of r).root ≡ canon_root n t = root_read n (trailer_of r).root (canon_root n t) (canon_nodes n t) bytes (root_fits n t form) has nodes in
    λ i. record { root = root i; count = count i; n = variables i }

pub no_damage : (e : StreamFault) → e ≡ stream.Shelf → IsNoDamage (handed_on e)
no_damage e is = subst (λ f. IsNoDamage (handed_on f)) (sym is) tt

-- the causes of two starts that went well
pub two_faults : {A B C : Type 0} (old mid new : Faults) (x : A) (y : B) (z : C) → OnlyShelf old mid (Ok x) → OnlyShelf mid new (Ok y) → OnlySortShelf old new (Ok z)
two_faults old mid new x y z first second = record {
  later = let a : old.folder ≤ mid.folder = first.later in let b : mid.folder ≤ new.folder = second.later in omega (arith, a, b);
  cause = λ is. cc;
  say_is = second.say_is ∙ first.say_is;
  text_is = λ path. second.text_is path ∙ first.text_is path;
}
