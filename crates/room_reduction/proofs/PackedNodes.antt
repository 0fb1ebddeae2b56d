-- How nodes are packed behind one another, and written, one by one.
use Rattle.std.proofs.Common.{◌≡◌, ◌≢◌, ◌∙◌, ℕ, zero, suc, ◌+◌, ◌*◌, ◌<◌, ◌≤◌, List, [], ◌∷◌, ◌++◌, length, take, sym, ap, subst, refl, arith}
use Rattle.std.proofs.lemmas.List.{append_assoc, append-nil, ext_get_or, get_or-take, length-take-le, take_more}
use Rattle.std.proofs.lemmas.Grind.{flat_map-append}
use Rattle.rec_words.specs.declared.node.Node.{Node}
use Rattle.rec_words.specs.declared.rec.Rec.{Rec}
use Rattle.run_files.specs.Items.{record_at}
use Rattle.node_file.specs.Nodes.{node_records, held_node, held_nodes}
use Rattle.room_reduction.specs.Records.{word}
use Rattle.packed_records.specs.Packed.{packed}
use Rattle.packed_records.proofs.PackedLaws.{length-packed}

-- what stands at no place
abbrev none : Rec
none = record { w = [] }

-- the record of a node's three words
abbrev pub three : Rec → Rec
three r = record { w = word 0 r ∷ word 1 r ∷ word 2 r ∷ 0 ∷ 0 ∷ 0 ∷ 0 ∷ 0 ∷ [] }

-- the records of nodes are made of three words
node_at : (xs : List Node) (k : ℕ) → k < length (node_records xs)
    → three (record_at (node_records xs) k) ≡ record_at (node_records xs) k
node_at [] k below = absurd (omega (arith, below))
node_at (x ∷ xs) zero below = refl
node_at (x ∷ xs) (suc k) below = node_at xs k (omega (arith, below))

-- lists whose first records are the same begin alike
same_front : (xs ys : List Rec) (n : ℕ) → n ≤ length xs → n ≤ length ys
    → ((k : ℕ) → k < n → record_at xs k ≡ record_at ys k) → take n xs ≡ take n ys
same_front xs ys n long also same =
    let first = length-take-le n xs long in
    ext_get_or none (take n xs) (take n ys) (first ∙ sym (length-take-le n ys also))
    (λ k within.
    let below : k < n = omega (arith, within, first) in
    get_or-take n xs k none below ∙ same k below ∙ sym (get_or-take n ys k none below))

-- one more node stands behind the others
pub one_packed : (old mid new records : List Rec) (xs : List Node) (count place : ℕ) → records ≡ node_records xs
    → place < length records → count + place < 4 * length mid → length new ≡ length mid
    → record_at (packed new) (count + place) ≡ three (record_at records place)
    → ((k : ℕ) → k ≢ count + place → record_at (packed new) k ≡ record_at (packed mid) k)
    → take (count + place) (packed mid) ≡ take count (packed old) ++ take place records
    → take (count + (place + 1)) (packed new) ≡ take count (packed old) ++ take (place + 1) records
one_packed old mid new records xs count place is below room long own others before =
    let at : ℕ = count + place in
    let many = length-packed mid in
    let still = length-packed new in
    let enough : at < length (packed new) = omega (arith, still, long, room) in
    let front = same_front (packed new) (packed mid) at (omega (arith, enough)) (omega (arith, many, room))
    (λ k less. others k (omega (arith, less))) ∙ before in
    let last = own ∙ subst (λ rs. place < length rs → three (record_at rs place) ≡ record_at rs place) (sym is)
    (node_at xs place) below in
    let step : count + (place + 1) ≡ at + 1 = omega arith in
    ap (λ k. take k (packed new)) step ∙ take_more (packed new) at none enough
    ∙ (λ j. front j ++ last j ∷ [])
    ∙ append_assoc (take count (packed old)) (take place records) (record_at records place ∷ [])
    ∙ ap (λ rs. take count (packed old) ++ rs) (sym (take_more records place none below))

-- one more record is written
pub one_written : (nodes : List Rec) (place : ℕ) (r : Rec) (before : List ℕ) → place < 4 * length nodes
    → r ≡ record_at (packed nodes) place
    → (before ++ held_nodes (take place (packed nodes))) ++ held_node r
    ≡ before ++ held_nodes (take (place + 1) (packed nodes))
one_written nodes place r before room is =
    let many = length-packed nodes in
    let front : List Rec = take place (packed nodes) in
    let next = record_at (packed nodes) place in
    append_assoc before (held_nodes front) (held_node r)
    ∙ ap (λ bytes. before ++ bytes) (ap (λ x. held_nodes front ++ held_node x) is
    ∙ ap (λ bytes. held_nodes front ++ bytes) (sym (append-nil (held_node next)))
    ∙ sym (ap held_nodes (take_more (packed nodes) place none (omega (arith, many, room)))
    ∙ flat_map-append held_node front (next ∷ [])))
