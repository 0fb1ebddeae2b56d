-- The trailer of a canonical file.
use Rattle.std.proofs.Common.{◌≡◌, ◌∙◌, ℕ, ◌+◌, ◌-◌, ◌*◌, ◌/◌, ◌^◌, ◌<◌, Bool, List, ◌++◌, length, drop, sym, ap, subst, arith}
use Rattle.std.specs.Prelude.{slice_index, [], ◌∷◌}
use Rattle.std.proofs.lemmas.Nat.{from_be_bytes-to_be_bytes_8}
use Rattle.std.proofs.lemmas.List.{length-append, drop_at}
use Rattle.rec_words.specs.declared.rec.Rec.{Rec}
use Rattle.rec_words.specs.RecordLaws.{pointer_fits}
use Rattle.shelf_model.specs.declared.file_no.FileNo.{FileNo}
use Rattle.shelf_model.specs.declared.fault.StreamFault.{StreamFault}
use Rattle.shelf_model.specs.declared.fault.StreamFault.TheVariants.{Shelf, Damaged}
use Rattle.shelf_model.specs.World.{World, file}
use Rattle.block_stream.specs.Records.{record_of, record_at}
use Rattle.block_stream.specs.Reads.{IsDamageOf}
use Rattle.canon_file.specs.Canon.{canon_nodes, canon_root, canon_bytes, node_bytes, trailer_bytes}
use Rattle.canon_file.specs.Laws.{HasForm}
use Rattle.canon_file.proofs.ByteLaws.{length-node_bytes, pointer_is}
use Rattle.canon_file.proofs.CanonLaws.{canon_root-is, canon_bytes-is}
use Rattle.node_file.specs.Nodes.{HasTrailer, HasNodes, IsTrailerDamage}
use Rattle.node_file.specs.Canonical.{IsCanonicalFile}
use Rattle.copied_diagrams.specs.Pairs.{IsOperandDamage}

-- the root that is read of a canonical file is the table's
pub root_read : (n root : ℕ) (t : List Bool) (bytes : List ℕ) → HasForm n t → bytes ≡ canon_bytes n t → HasTrailer n root bytes → root ≡ canon_root n t
root_read n root t bytes form are has =
    let xs = canon_nodes n t in
    let tail : List ℕ = trailer_bytes (canon_root n t) (length xs) n in
    let whole : bytes ≡ node_bytes xs ++ tail = are ∙ canon_bytes-is n t in
    let long : length bytes ≡ 24 * length xs + 24 = ap length whole ∙ length-append (node_bytes xs) tail ∙ ap (λ k. k + 24) (length-node_bytes xs) in
    let count : length bytes / 24 - 1 ≡ length xs = omega arith in
    let long_front : length (node_bytes xs) ≡ length xs * (8 * 3) =
    length-node_bytes xs ∙ (let same : 24 * length xs ≡ length xs * (8 * 3) = omega arith in same) in
    let at : drop (length xs * (8 * 3)) bytes ≡ tail =
    ap (drop (length xs * (8 * 3))) whole ∙ drop_at (node_bytes xs) tail (length xs * (8 * 3)) long_front in
    let here : record_at 3 (length bytes / 24 - 1) bytes ≡ record_of 3 tail =
    (λ i. record_at 3 (count i) bytes) ∙ ap (record_of 3) at in
    let fits : canon_root n t < 2 ^ 64 = subst (λ w. w < 2 ^ 64) (sym (canon_root-is n t))
    (pointer_fits _ (pointer_is n 0 (t ∷ []) t (let few = form.few in omega (arith, few)))) in
    sym has.trailer.root_is ∙ ap (λ (r : Rec). slice_index r.w 0) here ∙ from_be_bytes-to_be_bytes_8 (canon_root n t) fits

-- the length of a canonical file
pub long_canonical : (n : ℕ) (t : List Bool) → length (canon_bytes n t) ≡ (length (canon_nodes n t) + 1) * 24
long_canonical n t =
    let xs = canon_nodes n t in
    omega (arith, ap length (canon_bytes-is n t), length-append (node_bytes xs) (trailer_bytes (canon_root n t) (length xs) n), length-node_bytes xs)

-- damage of a trailer
pub operand_damage : (n : ℕ) (f : FileNo) (world : World) (e : StreamFault) → IsDamageOf f e → IsTrailerDamage n (file world f).bytes e → IsOperandDamage n f world e
operand_damage n f world Shelf of damage = tt
operand_damage n f world (Damaged g at) of damage = (of, damage)

-- the canonical file of a table is read as such
pub file_has : (n : ℕ) (t : List Bool) (f : FileNo) (world : World) → ((m : ℕ) (u : List Bool) → HasForm m u → HasNodes m (canon_root m u) (canon_nodes m u) (canon_bytes m u))
    → IsCanonicalFile n t f world → HasNodes n (canon_root n t) (canon_nodes n t) (file world f).bytes
file_has n t f world law is = subst (HasNodes n (canon_root n t) (canon_nodes n t)) (sym is.bytes_are) (law n t is.form)
