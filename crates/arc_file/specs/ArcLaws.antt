-- what makes arcs values that can be spilled
use Rattle.std.specs.Prelude.{◌≡◌, ℕ, ◌+◌, ◌<◌, ◌^◌, Bool, true, false, All, zero, suc, get_or, replicate, refl}
use Rattle.std.specs.Ordering.{nat_cmp, bool_cmp, ordering_then}
use Rattle.std.specs.Cmp.Lexicographic.{slice_cmp}
use Rattle.std.specs.declared.cmp.Ordering.{Ordering}
use Rattle.std.specs.declared.cmp.Ordering.TheVariants.{Less, Equal, Greater}
use Rattle.std.proofs.Common.{ap, ◌∙◌, arith, inl, inr}
use Rattle.std.proofs.lemmas.List.{get_or-replicate}
use Rattle.std.proofs.lemmas.Bool.Decides.{nat_tests}
use Rattle.rec_words.specs.Words.{IsNodeWord}
use Rattle.rec_words.specs.RecordLaws.{then_equal, pointer_fits}
use Rattle.arc_file.specs.declared.arc.Arc.{Arc}
use Rattle.arc_file.specs.Arcs.{side_word, arc_words, IsArc}

-- the first words of arcs are compared by the side, then by the source
first_order : (h k : Bool) (s t : ℕ) → IsNodeWord s → IsNodeWord t
    → ordering_then (bool_cmp h k) (nat_cmp s t) ≡ nat_cmp (side_word h s) (side_word k t)
first_order false false s t node other = refl
first_order false true s t node other = let below : s < t + 2 ^ 63 = omega arith in grind (arith, nat_tests)
first_order true false s t node other = let below : t < s + 2 ^ 63 = omega arith in grind (arith, nat_tests)
first_order true true s t node other = grind (arith, nat_tests)

-- comparisons one after the other, as one
then_then : (a b c : Ordering) → ordering_then a (ordering_then b c) ≡ ordering_then (ordering_then a b) c
then_then Less b c = refl
then_then Equal b c = refl
then_then Greater b c = refl

-- the order of arcs is that of their words
pub arc_order : (x y : Arc) → IsArc x → IsArc y
    → ordering_then (bool_cmp x.high y.high) (ordering_then (nat_cmp x.source y.source) (nat_cmp x.target y.target))
    ≡ slice_cmp nat_cmp (arc_words x) (arc_words y)
arc_order x y arc other =
    then_then (bool_cmp x.high y.high) (nat_cmp x.source y.source) (nat_cmp x.target y.target)
    ∙ ap (λ o. ordering_then o (nat_cmp x.target y.target))
    (first_order x.high y.high x.source y.source arc.source_is other.source_is)
    ∙ ap (λ o. ordering_then (nat_cmp (side_word x.high x.source) (side_word y.high y.source)) o)
    (then_equal (nat_cmp x.target y.target))

-- the first word says the side and the source
same_side : (h k : Bool) (s t : ℕ) → IsNodeWord s → IsNodeWord t → side_word h s ≡ side_word k t → (h ≡ k) × (s ≡ t)
same_side false false s t node other same = (refl, same)
same_side false true s t node other same = absurd (omega arith)
same_side true false s t node other same = absurd (omega arith)
same_side true true s t node other same = (refl, omega arith)

-- arcs with the same words are the same
pub same_arc : (x y : Arc) → IsArc x → IsArc y → arc_words x ≡ arc_words y → x ≡ y
same_arc x y arc other same =
    let first : side_word x.high x.source ≡ side_word y.high y.source = cc in
    let sides = same_side x.high y.high x.source y.source arc.source_is other.source_is first in
    let target : x.target ≡ y.target = cc in
    λ i. record { high = sides.0 i; source = sides.1 i; target = target i }

-- the word of a source and a side fits 64 bits
side_fits : (h : Bool) (s : ℕ) → IsNodeWord s → side_word h s < 2 ^ 64
side_fits false s node = omega arith
side_fits true s node = omega arith

-- an arc's words do
pub arc_fits : (x : Arc) → IsArc x → All (λ word. word < 2 ^ 64) (arc_words x)
arc_fits x arc zero d b = side_fits x.high x.source arc.source_is
arc_fits x arc (suc zero) d b = pointer_fits x.target arc.target_is
arc_fits x arc (suc (suc k)) d b =
    let unused : get_or (replicate 6 0) k d ≡ 0 = get_or-replicate 6 k 0 d (omega arith) in
    omega arith
