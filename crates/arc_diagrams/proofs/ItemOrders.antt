-- the ascending lists of items that queues and sorters give
use Rattle.std.specs.Prelude.{◌≡◌, ◌≤◌, false, List, [], ◌∷◌, map}
use Rattle.std.specs.Cmp.{IsStrictWeakOrder}
use Rattle.std.specs.List.Sorted.{IsSorted}
use Rattle.std.specs.Ordering.{is_lt}
use Rattle.std.proofs.Common.{subst, arith}
use Rattle.std.proofs.lemmas.Bool.Decides.{nat_tests}
use Rattle.canon_file.specs.Members.{Has}
use Rattle.canon_file.specs.Rows.{row_before}
use Rattle.canon_file.proofs.MemberLaws.{map_has}
use Rattle.arc_diagrams.specs.Items.{pair, final_arc_cmp, name_cmp, source_row_cmp}
use Rattle.arc_diagrams.specs.Reducing.{IsRising}
use Rattle.arc_diagrams.specs.declared.final_arc.FinalArc.{FinalArc}
use Rattle.arc_diagrams.specs.declared.source_row.SourceRow.{SourceRow}
use Rattle.arc_diagrams.specs.declared.name.Name.{Name}
use Rattle.arc_diagrams.proofs.ListViews.{none_before, sorted_rest}

-- the orders chain
pub final_arc_weak : IsStrictWeakOrder (λ x y. is_lt (final_arc_cmp x y))
final_arc_weak = record { one_way = λ x y e. grind (arith, nat_tests); chain = λ x y z e f. grind (arith, nat_tests) }

pub name_weak : IsStrictWeakOrder (λ x y. is_lt (name_cmp x y))
name_weak = record { one_way = λ x y e. grind (arith, nat_tests); chain = λ x y z e f. grind (arith, nat_tests) }

pub source_row_weak : IsStrictWeakOrder (λ x y. is_lt (source_row_cmp x y))
source_row_weak = record { one_way = λ x y e. grind (arith, nat_tests); chain = λ x y z e f. grind (arith, nat_tests) }

not_greater : (x y : FinalArc) → is_lt (final_arc_cmp y x) ≡ false → y.source ≤ x.source
not_greater x y e = grind (arith, nat_tests)

-- the first of ascending arcs has the greatest source
pub arcs_greatest : (x : FinalArc) (xs : List FinalArc) → IsSorted final_arc_cmp (x ∷ xs) → (y : FinalArc) → Has y xs → y.source ≤ x.source
arcs_greatest x xs up y m = not_greater x y (none_before (λ a b. is_lt (final_arc_cmp a b)) final_arc_weak x xs up y m)

name_not_greater : (x y : Name) → is_lt (name_cmp y x) ≡ false → y.source ≤ x.source
name_not_greater x y e = grind (arith, nat_tests)

-- so has the first of ascending names
pub names_greatest : (x : Name) (xs : List Name) → IsSorted name_cmp (x ∷ xs) → (y : Name) → Has y xs → y.source ≤ x.source
names_greatest x xs up y m = name_not_greater x y (none_before (λ a b. is_lt (name_cmp a b)) name_weak x xs up y m)

not_before : (x y : SourceRow) → is_lt (source_row_cmp y x) ≡ false → row_before (pair y) (pair x) ≡ false
not_before x y e = grind (arith, nat_tests)

-- ascending rows have ascending pairs
pub rising : (xs : List SourceRow) → IsSorted source_row_cmp xs → IsRising (map pair xs)
rising [] up = tt
rising (x ∷ xs) up = (
  (λ p m.
      let (y, k, e) = map_has pair p xs m in
      subst (λ q. row_before q (pair x) ≡ false) e (not_before x y (none_before (λ a b. is_lt (source_row_cmp a b)) source_row_weak x xs up y k))),
  rising xs (sorted_rest (λ a b. is_lt (source_row_cmp a b)) x xs up),
)
