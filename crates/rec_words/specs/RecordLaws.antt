-- what makes records and nodes values that can be spilled
use Rattle.std.specs.Prelude.{◌≡◌, ℕ, ◌<◌, ◌^◌, All, List, [], zero, suc, get_or, replicate, length, drop, refl}
use Rattle.std.specs.Ordering.{nat_cmp, ordering_then}
use Rattle.std.specs.Cmp.Lexicographic.{slice_cmp}
use Rattle.std.specs.declared.cmp.Ordering.{Ordering}
use Rattle.std.specs.declared.cmp.Ordering.TheVariants.{Less, Equal, Greater}
use Rattle.std.proofs.Common.{ap, arith, inl, inr}
use Rattle.std.proofs.lemmas.List.{drop_all, get_or-replicate}
use Rattle.rec_words.specs.Records.{node_words, IsNode}
use Rattle.rec_words.specs.Words.{IsPointer}
use Rattle.rec_words.specs.declared.rec.Rec.{Rec}
use Rattle.rec_words.specs.declared.node.Node.{Node}

-- records with the same words are the same
pub same_rec : (r s : Rec) → r.w ≡ s.w → r ≡ s
same_rec r s same = ap (λ (w : List ℕ). let t : Rec = record { w = w } in t) same

-- a record has no ninth word
pub no_ninth : (r : Rec) → length r.w ≡ 8 → drop 8 r.w ≡ []
no_ninth r long = drop_all 8 r.w (omega arith)

-- nodes with the same words are the same
pub same_node : (x y : Node) → node_words x ≡ node_words y → x ≡ y
same_node x y same =
    let uid : x.uid ≡ y.uid = cc in
    let low : x.low ≡ y.low = cc in
    let high : x.high ≡ y.high = cc in
    λ i. record { uid = uid i; low = low i; high = high i }

-- what follows an equal comparison of zeros changes nothing
pub then_equal : (o : Ordering) → o ≡ ordering_then o Equal
then_equal Less = refl
then_equal Equal = refl
then_equal Greater = refl

-- the order of nodes is that of their words
pub node_order : (x y : Node) → ordering_then (nat_cmp x.uid y.uid)
    (ordering_then (nat_cmp x.low y.low) (nat_cmp x.high y.high)) ≡ slice_cmp nat_cmp (node_words x) (node_words y)
node_order x y = ap (λ o. ordering_then (nat_cmp x.uid y.uid) (ordering_then (nat_cmp x.low y.low) o))
    (then_equal (nat_cmp x.high y.high))

-- pointers fit 64 bits
pub pointer_fits : (w : ℕ) → IsPointer w → w < 2 ^ 64
pointer_fits w (inl node) = omega arith
pointer_fits w (inr (inl zeros)) = omega arith
pointer_fits w (inr (inr ones)) = omega arith

-- a node's words do
pub node_fits : (x : Node) → IsNode x → All (λ word. word < 2 ^ 64) (node_words x)
node_fits x n zero d b = pointer_fits x.uid (inl n.uid)
node_fits x n (suc zero) d b = pointer_fits x.low n.low
node_fits x n (suc (suc zero)) d b = pointer_fits x.high n.high
node_fits x n (suc (suc (suc k))) d b =
    let unused : get_or (replicate 5 0) k d ≡ 0 = get_or-replicate 5 k 0 d (omega arith) in
    omega arith
