-- What is read of a file of nodes and a trailer.
use Rattle.std.proofs.Common.{All, ◌≡◌, ℕ, zero, suc, ◌+◌, ◌-◌, ◌*◌, ◌/◌, ◌^◌, ◌<◌, List, [], ◌∷◌, ◌++◌, length, drop, map, get_or, refl, sym, ap, subst, ◌∙◌, inl, inr, arith}
use Rattle.std.specs.Prelude.{slice_index, Result, Err, IfErr}
use Rattle.std.specs.Int.{w64, to_be_bytes, from_be_bytes}
use Rattle.std.proofs.lemmas.Nat.{from_be_bytes-to_be_bytes_8}
use Rattle.std.proofs.lemmas.List.{length-append, drop_at}
use Rattle.std.proofs.lemmas.List.Elements.{All-nil, All-cons}
use Rattle.rec_words.specs.Words.{IsNodeWord, IsPointer, IsTerminal}
use Rattle.rec_words.specs.Records.{node_words, IsNode}
use Rattle.rec_words.specs.declared.rec.Rec.{Rec}
use Rattle.rec_words.specs.declared.node.Node.{Node}
use Rattle.shelf_model.specs.declared.fault.StreamFault.{StreamFault}
use Rattle.shelf_model.specs.declared.fault.StreamFault.TheVariants.{Shelf, Damaged}
use Rattle.canon_file.specs.Members.{Has}
use Rattle.canon_file.specs.NodeFiles.{IsProper, EndsAt}
use Rattle.canon_file.specs.Canon.{node_bytes, trailer_bytes}
use Rattle.canon_file.proofs.ByteLaws.{length-node_bytes}
use Rattle.block_stream.specs.declared.reading.Reading.{Reading}
use Rattle.block_stream.specs.Records.{records_of, record_of, record_at}
use Rattle.rec_words.specs.RecordLaws.{pointer_fits}
use Rattle.block_stream.specs.Reads.{IsRecordOf, place_of}
use Rattle.block_stream.specs.Items.{item_record, AreItems, AreBehind}
use Rattle.block_stream.proofs.ItemLaws.{nth_item}
use Rattle.node_file.specs.Nodes.{HasTrailer, HasNodes, IsTrailerDamage}

-- the bytes of nodes are read back
pub records_nodes : (xs : List Node) (rest : List ℕ) → ((x : Node) → Has x xs → IsNode x) → map (item_record node_words) xs ≡ records_of 3 (length xs) (node_bytes xs ++ rest)
records_nodes [] rest nodes = refl
records_nodes (x ∷ xs) rest nodes =
    let is : IsNode x = nodes x (inl refl) in
    let uid : x.uid ≡ from_be_bytes w64 (to_be_bytes w64 x.uid) = sym (from_be_bytes-to_be_bytes_8 x.uid (pointer_fits x.uid (inl is.uid))) in
    let low : x.low ≡ from_be_bytes w64 (to_be_bytes w64 x.low) = sym (from_be_bytes-to_be_bytes_8 x.low (pointer_fits x.low is.low)) in
    let high : x.high ≡ from_be_bytes w64 (to_be_bytes w64 x.high) = sym (from_be_bytes-to_be_bytes_8 x.high (pointer_fits x.high is.high)) in
    let later : map (item_record node_words) xs ≡ records_of 3 (length xs) (node_bytes xs ++ rest) = records_nodes xs rest (λ y has. nodes y (inr has)) in
    λ i. (record { w = uid i ∷ low i ∷ high i ∷ 0 ∷ 0 ∷ 0 ∷ 0 ∷ 0 ∷ [] }) ∷ later i

all_nodes : (n : ℕ) (xs : List Node) → ((x : Node) → Has x xs → IsProper n x) → All IsNode xs
all_nodes n [] proper = All-nil IsNode
all_nodes n (x ∷ xs) proper = All-cons IsNode x xs (proper x (inl refl)).words (all_nodes n xs (λ y has. proper y (inr has)))

long_file : (n root : ℕ) (xs : List Node) (bytes : List ℕ) → HasNodes n root xs bytes → length bytes ≡ 24 * length xs + 24
long_file n root xs bytes file =
    ap length file.bytes_are ∙ length-append (node_bytes xs) (trailer_bytes root (length xs) n) ∙ ap (λ k. k + 24) (length-node_bytes xs)

-- the nodes stand in the file from its front on
pub items_of_file : (n root : ℕ) (xs : List Node) (bytes : List ℕ) → HasNodes n root xs bytes → AreItems IsNode node_words 3 0 bytes xs
items_of_file n root xs bytes file = record {
  values = all_nodes n xs file.proper;
  whole = let long : length bytes ≡ 24 * length xs + 24 = long_file n root xs bytes file in omega arith;
  same = records_nodes xs (trailer_bytes root (length xs) n) (λ x has. (file.proper x has).words) ∙ ap (records_of 3 (length xs)) (sym file.bytes_are);
}

-- and there are as many as it has
pub count_of_file : (n root : ℕ) (xs : List Node) (bytes : List ℕ) → HasNodes n root xs bytes → length bytes / 24 - 1 ≡ length xs
count_of_file n root xs bytes file = let long : length bytes ≡ 24 * length xs + 24 = long_file n root xs bytes file in omega arith

ends_last : (root m : ℕ) (xs : List Node) (d : Node) → length xs ≡ suc m → EndsAt root xs → (root ≡ (get_or xs m d).uid) × Has (get_or xs m d) xs
ends_last root m [] d long ends = absurd (omega arith)
ends_last root zero (x ∷ []) d long ends = (ends, inl refl)
ends_last root (suc m) (x ∷ []) d long ends = absurd (omega arith)
ends_last root zero (x ∷ y ∷ xs) d long ends = absurd (omega arith)
ends_last root (suc m) (x ∷ y ∷ xs) d long ends = let more = ends_last root m (y ∷ xs) d (omega arith) ends in (more.0, inr more.1)

ends_none : (root : ℕ) (xs : List Node) → length xs ≡ 0 → EndsAt root xs → IsTerminal root
ends_none root [] none ends = ends
ends_none root (x ∷ xs) none ends = absurd (omega arith)

-- a root fits a word
pub root_fits : (n root : ℕ) (xs : List Node) → ((x : Node) → Has x xs → IsProper n x) → EndsAt root xs → root < 2 ^ 64
root_fits n root [] proper (inl zeros) = omega arith
root_fits n root [] proper (inr ones) = omega arith
root_fits n root (x ∷ xs) proper ends =
    let last = ends_last root (length xs) (x ∷ xs) x refl ends in
    subst (λ w. w < 2 ^ 64) (sym last.0) (pointer_fits _ (inl (proper (get_or (x ∷ xs) (length xs) x) last.1).words.uid))

-- the file's trailer is read back
pub trailer_of_file : (n root : ℕ) (xs : List Node) (bytes : List ℕ) → n < 2 ^ 64 → HasNodes n root xs bytes → HasTrailer n root bytes
trailer_of_file n root xs bytes fits file =
    let long : length bytes ≡ 24 * length xs + 24 = long_file n root xs bytes file in
    let count : length bytes / 24 - 1 ≡ length xs = omega arith in
    let before : length bytes / 24 - 2 ≡ length xs - 1 = omega arith in
    let tail : List ℕ = trailer_bytes root (length xs) n in
    let long_front : length (node_bytes xs) ≡ length xs * (8 * 3) = length-node_bytes xs ∙ (let same : 24 * length xs ≡ length xs * (8 * 3) = omega arith in same) in
    let at : drop (length xs * (8 * 3)) bytes ≡ tail = ap (drop (length xs * (8 * 3))) file.bytes_are ∙ drop_at (node_bytes xs) tail (length xs * (8 * 3)) long_front in
    let here : record_at 3 (length bytes / 24 - 1) bytes ≡ record_of 3 tail = (λ i. record_at 3 (count i) bytes) ∙ ap (record_of 3) at in
    record {
      long = omega arith;
      whole = omega arith;
      trailer = record {
        root_is = ap (λ (r : Rec). slice_index r.w 0) here ∙ from_be_bytes-to_be_bytes_8 root (root_fits n root xs file.proper file.ends);
        count_is = ap (λ (r : Rec). slice_index r.w 1) here ∙ from_be_bytes-to_be_bytes_8 (length xs) file.few ∙ sym count;
        variables = ap (λ (r : Rec). slice_index r.w 2) here ∙ from_be_bytes-to_be_bytes_8 n fits;
        none = λ empty. ends_none root xs (sym count ∙ empty) file.ends;
        some = λ some.
            let d : Node = record { uid = 0; low = 0; high = 0 } in
            let m : ℕ = length xs - 1 in
            let more : length xs ≡ suc m = omega (arith, some) in
            let last = ends_last root m xs d more file.ends in
            let is : IsRecordOf node_words 3 (0 + m) bytes (get_or xs m d) = nth_item IsNode node_words 3 0 m bytes xs d (items_of_file n root xs bytes file) (omega (arith, more)) in
            let place : length bytes / 24 - 2 ≡ 0 + m = omega arith in (
              subst IsNodeWord (sym last.0) (file.proper (get_or xs m d) last.1).words.uid,
              (λ i. slice_index (record_at 3 (place i) bytes).w 0) ∙ sym (ap (λ (ws : List ℕ). slice_index ws 0) is.same) ∙ sym last.0,
            );
      };
    }

-- so it isn't damaged
pub file_is_sound : (n root : ℕ) (xs : List Node) (bytes : List ℕ) (e : StreamFault) → n < 2 ^ 64 → HasNodes n root xs bytes → IsTrailerDamage n bytes e → e ≡ Shelf
file_is_sound n root xs bytes Shelf fits file damage = refl
file_is_sound n root xs bytes (Damaged f at) fits file damage = absurd (damage.1 root (trailer_of_file n root xs bytes fits file))

-- all nodes are between the front and the place that a stream begins with
pub behind_of_file : (n root : ℕ) (xs : List Node) (bytes : List ℕ) (r : Reading) → r.words ≡ 3 → r.bound ≡ 0 → place_of r ≡ length bytes / 24 - 1 → HasNodes n root xs bytes → AreBehind IsNode node_words r bytes xs
behind_of_file n root xs bytes r width front place file = record {
  items = subst (λ k. AreItems IsNode node_words k r.bound bytes xs) (sym width) (subst (λ p. AreItems IsNode node_words 3 p bytes xs) (sym front) (items_of_file n root xs bytes file));
  all = let count : length bytes / 24 - 1 ≡ length xs = count_of_file n root xs bytes file in omega arith;
}

pub of_err : {T E : Type 0} (P : E → Type 0) (r : Result T E) (e : E) → r ≡ Err e → P e → IfErr r P
of_err P r e is p = subst (λ q. IfErr q P) (sym is) p
