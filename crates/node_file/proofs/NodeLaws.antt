-- Nodes that may stand in a file, and lists of them whose identifiers descend.
use Rattle.std.proofs.Common.{◌≡◌, ◌⊎◌, ℕ, ◌+◌, ◌-◌, ◌*◌, ◌<◌, ◌≤◌, Bool, true, false, List, [], ◌∷◌, ◌++◌, refl, sym, ap, subst, ◌∙◌, inl, inr, arith}
use Rattle.std.specs.Prelude.{◌==◌, not, ◌&&◌, nat_lt, slice_index, Option, Some, Result, Err, IfSome, IfErr, IsSome}
use Rattle.std.proofs.lemmas.Bool.{and_parts}
use Rattle.std.proofs.lemmas.Bool.Decides.{nat_tests}
use Rattle.rec_words.specs.Words.{node_size, level_of}
use Rattle.rec_words.specs.Records.{node_words, IsNode}
use Rattle.rec_words.specs.declared.node.Node.{Node}
use Rattle.canon_file.specs.Members.{Has}
use Rattle.canon_file.specs.NodeFiles.{IsProper, IsDescending}
use Rattle.shelf_model.specs.declared.fault.StreamFault.{StreamFault}
use Rattle.shelf_model.specs.declared.fault.StreamFault.TheVariants.{Shelf, Damaged}
use Rattle.block_stream.specs.declared.reading.Reading.{Reading}
use Rattle.block_stream.specs.Reads.{IsRecordOf, IsDamaged, IsDamageAt, IsAnswer, place_of}
use Rattle.node_file.specs.Nodes.{is_sound, IsNodeAt, IsNodeDamage, identifier_at}
use Rattle.node_file.specs.Readers.{IsNodeAnswer, IsNodePlace}

-- a node that passes the test may stand in a file
pub from_sound : (n : ℕ) (x : Node) → IsNode x → is_sound n x ≡ true → IsProper n x
from_sound n x node sound =
    let a = and_parts (nat_lt (level_of x.uid) n && not (x.low == x.high) && nat_lt (level_of x.uid) (level_of x.low)) (nat_lt (level_of x.uid) (level_of x.high)) sound in
    let b = and_parts (nat_lt (level_of x.uid) n && not (x.low == x.high)) (nat_lt (level_of x.uid) (level_of x.low)) a.0 in
    let d = and_parts (nat_lt (level_of x.uid) n) (not (x.low == x.high)) b.0 in
    let high = a.1 in
    let low = b.1 in
    let level = d.0 in
    let apart = d.1 in
    record {
      words = node;
      level = grind (arith, nat_tests);
      differ = λ same. grind (arith, nat_tests);
      low = grind (arith, nat_tests);
      high = grind (arith, nat_tests);
    }

-- one that may stand in a file passes the test
pub to_sound : (n : ℕ) (x : Node) → IsProper n x → is_sound n x ≡ true
to_sound n x proper =
    let level : level_of x.uid < n = proper.level in
    let low : level_of x.uid < level_of x.low = proper.low in
    let high : level_of x.uid < level_of x.high = proper.high in
    let differ = proper.differ in
    let a : nat_lt (level_of x.uid) n ≡ true = grind (arith, nat_tests) in
    let b : not (x.low == x.high) ≡ true = grind (arith, nat_tests) in
    let d : nat_lt (level_of x.uid) (level_of x.low) ≡ true = grind (arith, nat_tests) in
    let e : nat_lt (level_of x.uid) (level_of x.high) ≡ true = grind (arith, nat_tests) in
    λ i. ((a i && b i) && d i) && e i

-- what is no node of the file's kind is damaged
pub no_node : (n k place : ℕ) (bytes : List ℕ) → k ≡ 3 → IsDamaged IsNode node_words k place bytes → (x : Node) → ¬ IsNodeAt n place bytes x
no_node n k place bytes width damaged =
    let at_three : IsDamaged IsNode node_words 3 place bytes = subst (λ j. IsDamaged IsNode node_words j place bytes) width damaged in
    λ x at. at_three at.record_is.whole x at.proper.words at.record_is.same

-- nor is a node that may not stand in a file
pub not_sound : (n k place : ℕ) (bytes : List ℕ) (x : Node) → k ≡ 3 → IsRecordOf node_words k place bytes x → is_sound n x ≡ false → (y : Node) → ¬ IsNodeAt n place bytes y
not_sound n k place bytes x width record_is unsound =
    let at_three : IsRecordOf node_words 3 place bytes x = subst (λ j. IsRecordOf node_words j place bytes x) width record_is in
    λ y at.
    let words : node_words y ≡ node_words x = at.record_is.same ∙ sym at_three.same in
    let uid : y.uid ≡ x.uid = cc in
    let low : y.low ≡ x.low = cc in
    let high : y.high ≡ x.high = cc in
    let one : y ≡ x = (λ i. record { uid = uid i; low = low i; high = high i }) in
    let sound : is_sound n y ≡ true = to_sound n y at.proper in
    let sound_x : is_sound n x ≡ true = ap (is_sound n) (sym one) ∙ sound in
    cc

-- the identifier of a node is the first word of its record
pub identifier_is : (k place : ℕ) (bytes : List ℕ) (x : Node) → k ≡ 3 → IsRecordOf node_words k place bytes x → identifier_at place bytes ≡ x.uid
identifier_is k place bytes x width record_is =
    let at_three : IsRecordOf node_words 3 place bytes x = subst (λ j. IsRecordOf node_words j place bytes x) width record_is in
    sym (ap (λ (ws : List ℕ). slice_index ws 0) at_three.same)

-- a node whose identifier isn't above the one given before
pub not_above : (n k place : ℕ) (bytes : List ℕ) (x : Node) (g : ℕ) → k ≡ 3 → 1 ≤ place → IsRecordOf node_words k (place - 1) bytes x → identifier_at place bytes ≡ g → x.uid ≤ g
    → identifier_at (place - 1) bytes ≤ identifier_at place bytes
not_above n k place bytes x g width some record_is given below =
    let same : identifier_at (place - 1) bytes ≡ x.uid = identifier_is k (place - 1) bytes x width record_is in omega (arith, same, given, below, some)

pub node_at : (n k place : ℕ) (bytes : List ℕ) (x : Node) → k ≡ 3 → IsNode x → IsRecordOf node_words k place bytes x → is_sound n x ≡ true → IsNodeAt n place bytes x
node_at n k place bytes x width node record_is sound = record {
  proper = from_sound n x node sound;
  record_is = subst (λ j. IsRecordOf node_words j place bytes x) width record_is;
}

-- members of a list with one more at its end
pub has_front : (x y : Node) (rest : List Node) → Has x rest → Has x (rest ++ y ∷ [])
has_front x y [] has = absurd has
has_front x y (z ∷ rest) (inl same) = inl same
has_front x y (z ∷ rest) (inr has) = inr (has_front x y rest has)

pub has_last : (y : Node) (rest : List Node) → Has y (rest ++ y ∷ [])
has_last y [] = inl refl
has_last y (z ∷ rest) = inr (has_last y rest)

-- identifiers that descend do so without the last, which is below them all
pub descend_front : (y : Node) (rest : List Node) → IsDescending (rest ++ y ∷ []) → IsDescending rest
descend_front y [] down = tt
descend_front y (z ∷ rest) down = ((λ x has. down.0 x (has_front x y rest has)), descend_front y rest down.1)

pub above_last : (y : Node) (rest : List Node) → IsDescending (rest ++ y ∷ []) → (x : Node) → Has x rest → y.uid < x.uid
above_last y [] down x has = absurd has
above_last y (z ∷ rest) down x (inl same) = subst (λ (w : Node). y.uid < w.uid) same (down.0 y (has_last y rest))
above_last y (z ∷ rest) down x (inr has) = above_last y rest down.1 x has

-- the damage that a stream of nodes finds is that of a node
pub err_value : (n : ℕ) (r : Reading) (bytes : List ℕ) (result : Result (Option Node) StreamFault) (e : StreamFault) → result ≡ Err e → r.words ≡ 3
    → IsDamageAt r.file r.words (place_of r - 1) e → IsAnswer IsNode node_words r.words (place_of r - 1) bytes (Err e) → IsNodeAnswer n (place_of r) bytes result
err_value n r bytes result e is width at answer = subst (IsNodeAnswer n (place_of r) bytes) (sym is) (fault n r bytes e width at answer)
  where
    fault : (n : ℕ) (r : Reading) (bytes : List ℕ) (e : StreamFault) → r.words ≡ 3 → IsDamageAt r.file r.words (place_of r - 1) e
        → IsAnswer IsNode node_words r.words (place_of r - 1) bytes (Err e) → IsNodeDamage n (place_of r) bytes e
    fault n r bytes Shelf width at answer = tt
    fault n r bytes (Damaged f at) width place answer =
        inl (place.1 ∙ ap (λ k. (place_of r - 1) * (8 * k)) width, no_node n r.words (place_of r - 1) bytes width answer)

-- a node that can't stand where it stands, or not before the one that was given, is damage of a node
pub place_value : (n k left new place : ℕ) (bytes : List ℕ) (x : Node) (given : Option ℕ) → k ≡ 3 → left ≡ new + 1 → IsRecordOf node_words k (left - 1) bytes x
    → IfSome given (λ g. identifier_at left bytes ≡ g) → ((place ≡ new) × (is_sound n x ≡ false)) ⊎ ((place ≡ new + 1) × ((g : ℕ) × (given ≡ Some g) × (x.uid ≤ g)))
    → ((place * node_size ≡ (left - 1) * node_size) × ((y : Node) → ¬ IsNodeAt n (left - 1) bytes y))
    ⊎ ((place * node_size ≡ left * node_size) × (identifier_at (left - 1) bytes ≤ identifier_at left bytes))
place_value n k left new place bytes x given width back record_is last (inl unsound) =
    let here : place ≡ left - 1 = let a : place ≡ new = unsound.0 in omega arith in
    inl (ap (λ p. p * node_size) here, not_sound n k (left - 1) bytes x width record_is unsound.1)
place_value n k left new place bytes x given width back record_is last (inr (at, rest)) =
    let here : place ≡ left = omega arith in
    let some : 1 ≤ left = omega arith in
    inr (ap (λ p. p * node_size) here, not_above n k left bytes x rest.0 width some record_is (subst (λ o. IfSome o (λ h. identifier_at left bytes ≡ h)) rest.1 last) rest.2)

-- the place of the damage that a stream of nodes finds is that of the next node
pub err_place : {T : Type 0} (r : Reading) (given : Option ℕ) (result : Result T StreamFault) (e : StreamFault) → result ≡ Err e → r.words ≡ 3
    → IsDamageAt r.file r.words (place_of r - 1) e → IfErr result (IsNodePlace r.file (place_of r) given)
err_place r given result e is width at = subst (λ q. IfErr q (IsNodePlace r.file (place_of r) given)) (sym is) (fault r given e width at)
  where
    fault : (r : Reading) (given : Option ℕ) (e : StreamFault) → r.words ≡ 3 → IsDamageAt r.file r.words (place_of r - 1) e → IsNodePlace r.file (place_of r) given e
    fault r given Shelf width at = tt
    fault r given (Damaged f at) width place = (place.0, inl (place.1 ∙ ap (λ k. (place_of r - 1) * (8 * k)) width))

-- and that of one which can't stand where it stands, or not before the one that was given, is the next or the one given
pub place_next : (n left new place : ℕ) (x : Node) (given : Option ℕ) → left ≡ new + 1
    → ((place ≡ new) × (is_sound n x ≡ false)) ⊎ ((place ≡ new + 1) × ((g : ℕ) × (given ≡ Some g) × (x.uid ≤ g)))
    → (place * node_size ≡ (left - 1) * node_size) ⊎ ((place * node_size ≡ left * node_size) × IsSome given)
place_next n left new place x given back (inl unsound) =
    let here : place ≡ left - 1 = let a : place ≡ new = unsound.0 in omega arith in inl (ap (λ p. p * node_size) here)
place_next n left new place x given back (inr (at, rest)) =
    let here : place ≡ left = omega arith in inr (ap (λ p. p * node_size) here, subst IsSome (sym rest.1) refl)

-- the last of nodes that keep the rules isn't damaged
pub fine_node : (n new place : ℕ) (xs rest : List Node) (x : Node) (given : Option ℕ) → xs ≡ rest ++ x ∷ [] → ((y : Node) → Has y xs → IsProper n y)
    → IfSome given (λ g. (y : Node) → Has y xs → g < y.uid) → ((place ≡ new) × (is_sound n x ≡ false)) ⊎ ((place ≡ new + 1) × ((g : ℕ) × (given ≡ Some g) × (x.uid ≤ g))) → ⊥
fine_node n new place xs rest x given split proper above (inl unsound) =
    let sound : is_sound n x ≡ true = to_sound n x (proper x (subst (Has x) (sym split) (has_last x rest))) in
    let not : is_sound n x ≡ false = unsound.1 in
    cc
fine_node n new place xs rest x given split proper above (inr (at, found)) =
    let higher : found.0 < x.uid = (subst (λ o. IfSome o (λ h. (y : Node) → Has y xs → h < y.uid)) found.1 above) x (subst (Has x) (sym split) (has_last x rest)) in
    let below : x.uid ≤ found.0 = found.2 in
    absurd (omega arith)
