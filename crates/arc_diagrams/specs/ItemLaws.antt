-- what makes a reduction's items values that can be spilled
use Rattle.std.specs.Prelude.{◌≡◌, ℕ, ◌<◌, ◌^◌, Bool, true, false, All, zero, suc, get_or, replicate, refl}
use Rattle.std.specs.Ordering.{nat_cmp, bool_cmp, ordering_then}
use Rattle.std.specs.Cmp.Lexicographic.{slice_cmp}
use Rattle.std.specs.declared.cmp.Ordering.{Ordering}
use Rattle.std.specs.declared.cmp.Ordering.TheVariants.{Less, Equal, Greater}
use Rattle.std.proofs.Common.{arith, inl, inr}
use Rattle.std.proofs.lemmas.List.{get_or-replicate}
use Rattle.std.proofs.lemmas.Bool.Decides.{nat_tests}
use Rattle.rec_words.specs.Words.{IsNodeWord}
use Rattle.rec_words.specs.RecordLaws.{then_equal, pointer_fits}
use Rattle.arc_diagrams.specs.declared.final_arc.FinalArc.{FinalArc}
use Rattle.arc_diagrams.specs.declared.source_row.SourceRow.{SourceRow}
use Rattle.arc_diagrams.specs.declared.name.Name.{Name}
use Rattle.arc_diagrams.specs.Items.{from_top, side_number, final_arc_words, source_row_words, name_words, IsFinalArc, IsSourceRow, IsName, final_arc_cmp, name_cmp, source_row_cmp}

-- greater sources come first, counted down
source_order : (s t : ℕ) → IsNodeWord s → IsNodeWord t → nat_cmp t s ≡ nat_cmp (from_top s) (from_top t)
source_order s t node other =
    let first : s < 2 ^ 63 = omega arith in
    let second : t < 2 ^ 63 = omega arith in
    grind (arith, nat_tests)

side_order : (h k : Bool) → bool_cmp h k ≡ nat_cmp (side_number h) (side_number k)
side_order false false = refl
side_order false true = refl
side_order true false = refl
side_order true true = refl

-- the orders are those of the words
pub final_arc_order : (x y : FinalArc) → IsFinalArc x → IsFinalArc y
    → final_arc_cmp x y ≡ slice_cmp nat_cmp (final_arc_words x) (final_arc_words y)
final_arc_order x y arc other =
    (λ j. ordering_then (source_order x.source y.source arc.source_is other.source_is j)
    (ordering_then (side_order x.high y.high j) (then_equal (nat_cmp x.target y.target) j)))

pub name_order : (x y : Name) → IsName x → IsName y → name_cmp x y ≡ slice_cmp nat_cmp (name_words x) (name_words y)
name_order x y name other =
    (λ j. ordering_then (source_order x.source y.source name.source_is other.source_is j)
    (then_equal (nat_cmp x.pointer y.pointer) j))

pub source_row_order : (x y : SourceRow) → source_row_cmp x y ≡ slice_cmp nat_cmp (source_row_words x)
    (source_row_words y)
source_row_order x y = (λ j. ordering_then (nat_cmp x.low y.low)
    (ordering_then (nat_cmp x.high y.high) (then_equal (nat_cmp x.source y.source) j)))

-- items with the same words are the same
same_from_top : (s t : ℕ) → IsNodeWord s → IsNodeWord t → from_top s ≡ from_top t → s ≡ t
same_from_top s t node other same = omega arith

same_side : (h k : Bool) → side_number h ≡ side_number k → h ≡ k
same_side false false same = refl
same_side false true same = absurd (omega arith)
same_side true false same = absurd (omega arith)
same_side true true same = refl

pub same_final_arc : (x y : FinalArc) → IsFinalArc x → IsFinalArc y → final_arc_words x ≡ final_arc_words y → x ≡ y
same_final_arc x y arc other same =
    let first : from_top x.source ≡ from_top y.source = cc in
    let second : side_number x.high ≡ side_number y.high = cc in
    let source : x.source ≡ y.source = same_from_top x.source y.source arc.source_is other.source_is first in
    let high : x.high ≡ y.high = same_side x.high y.high second in
    let target : x.target ≡ y.target = cc in
    λ i. record { source = source i; high = high i; target = target i }

pub same_name : (x y : Name) → IsName x → IsName y → name_words x ≡ name_words y → x ≡ y
same_name x y name other same =
    let first : from_top x.source ≡ from_top y.source = cc in
    let source : x.source ≡ y.source = same_from_top x.source y.source name.source_is other.source_is first in
    let pointer : x.pointer ≡ y.pointer = cc in
    λ i. record { source = source i; pointer = pointer i }

pub same_source_row : (x y : SourceRow) → source_row_words x ≡ source_row_words y → x ≡ y
same_source_row x y same =
    let low : x.low ≡ y.low = cc in
    let high : x.high ≡ y.high = cc in
    let source : x.source ≡ y.source = cc in
    λ i. record { low = low i; high = high i; source = source i }

-- their words fit 64 bits
side_fits : (h : Bool) → side_number h < 2 ^ 64
side_fits false = omega arith
side_fits true = omega arith

pub final_arc_fits : (x : FinalArc) → IsFinalArc x → All (λ word. word < 2 ^ 64) (final_arc_words x)
final_arc_fits x arc zero d b = omega arith
final_arc_fits x arc (suc zero) d b = side_fits x.high
final_arc_fits x arc (suc (suc zero)) d b = pointer_fits x.target arc.target_is
final_arc_fits x arc (suc (suc (suc k))) d b =
    let unused : get_or (replicate 5 0) k d ≡ 0 = get_or-replicate 5 k 0 d (omega arith) in
    omega arith

pub source_row_fits : (x : SourceRow) → IsSourceRow x → All (λ word. word < 2 ^ 64) (source_row_words x)
source_row_fits x row zero d b = pointer_fits x.low row.low_is
source_row_fits x row (suc zero) d b = pointer_fits x.high row.high_is
source_row_fits x row (suc (suc zero)) d b = pointer_fits x.source (inl row.source_is)
source_row_fits x row (suc (suc (suc k))) d b =
    let unused : get_or (replicate 5 0) k d ≡ 0 = get_or-replicate 5 k 0 d (omega arith) in
    omega arith

pub name_fits : (x : Name) → IsName x → All (λ word. word < 2 ^ 64) (name_words x)
name_fits x name zero d b = omega arith
name_fits x name (suc zero) d b = pointer_fits x.pointer name.pointer_is
name_fits x name (suc (suc k)) d b =
    let unused : get_or (replicate 6 0) k d ≡ 0 = get_or-replicate 6 k 0 d (omega arith) in
    omega arith
