-- The records of nodes, their bytes, and those that are read of a canonical file.
use Rattle.std.proofs.Common.{◌≡◌, ◌∙◌, ℕ, Bool, List, [], ◌∷◌, ◌++◌, length, refl, sym, ap}
use Rattle.std.specs.Int.{w64, to_be_bytes}
use Rattle.rec_words.specs.declared.node.Node.{Node}
use Rattle.shelf_model.specs.declared.file_no.FileNo.{FileNo}
use Rattle.shelf_model.specs.World.{World, file}
use Rattle.canon_file.specs.Canon.{canon_nodes, canon_root, node_bytes, trailer_bytes}
use Rattle.canon_file.specs.Laws.{HasForm}
use Rattle.canon_file.specs.NodeFiles.{IsNodeFile}
use Rattle.canon_file.proofs.CanonLaws.{canon_bytes-is}
use Rattle.canon_file.proofs.FileLaws.{is_node_file}
use Rattle.node_file.specs.Canonical.{IsCanonicalFile}
use Rattle.node_file.specs.Nodes.{node_records, held_nodes, records_in}
use Rattle.node_file.proofs.FileLaws.{records_nodes}

-- the bytes of the records of nodes are those of the nodes
pub held_nodes-node_records : (xs : List Node) → held_nodes (node_records xs) ≡ node_bytes xs
held_nodes-node_records [] = refl
held_nodes-node_records (x ∷ xs) =
    ap (λ bytes. to_be_bytes w64 x.uid ++ (to_be_bytes w64 x.low ++ (to_be_bytes w64 x.high ++ bytes)))
    (held_nodes-node_records xs)

-- what is read of a canonical file is the records of its nodes
pub canon_read : (n : ℕ) (t : List Bool) (f : FileNo) (world : World) (count : ℕ) → IsCanonicalFile n t f world
    → count ≡ length (canon_nodes n t) → records_in count (file world f).bytes ≡ node_records (canon_nodes n t)
canon_read n t f world count is_file many =
    let form : HasForm n t = is_file.form in
    let rules : IsNodeFile n t = is_node_file n t form.few form.whole form.fits in
    let xs : List Node = canon_nodes n t in
    let trailer : List ℕ = trailer_bytes (canon_root n t) (length xs) n in
    let bytes : (file world f).bytes ≡ node_bytes xs ++ trailer = is_file.bytes_are ∙ canon_bytes-is n t in
    (λ j. records_in (many j) (bytes j)) ∙ sym (records_nodes xs trailer (λ x has. (rules.proper x has).words))
