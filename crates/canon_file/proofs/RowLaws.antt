-- rows and pointers depend on the members of the pieces alone
use Rattle.std.specs.Prelude.{◌≡◌, ℕ, zero, suc, Bool, true, false, cond, List, ◌∷◌, map, filter}
use Rattle.std.proofs.Common.{refl, ◌∙◌, subst, arith}
use Rattle.std.proofs.lemmas.Bool.Decides.{nat_tests}
use Rattle.bool_tables.specs.Tables.{low_half}
use Rattle.list_laws.specs.Members.{Has, SameMembers, IsStrictOrder, ascending}
use Rattle.canon_file.specs.Pieces.{splits, halves}
use Rattle.canon_file.specs.declared.row.Row.{Row}
use Rattle.canon_file.specs.Rows.{row_before, row_word, place_of, row_of, rows_with, pointer, levels}
use Rattle.canon_file.specs.Laws.{AreRows}
use Rattle.list_laws.proofs.MemberLaws.{has_map, map_has, has_filter, filter_has, ascending_ascends, has_ascending, ascending_keeps, same_ascending}
use Rattle.canon_file.proofs.PieceLaws.{halves_same}

-- rows with the same words are the same
pub same_row : (r s : Row) → r.low ≡ s.low → r.high ≡ s.high → r ≡ s
same_row r s low high = λ i. record { low = low i; high = high i }

-- rows are in a strict order
pub row_order : IsStrictOrder row_before
row_order = record {
  none = λ r. grind (arith, nat_tests);
  joins = λ r s t a b. grind (arith, nat_tests);
  meets = λ r s a b. same_row r s (grind (arith, nat_tests)) (grind (arith, nat_tests));
}

pub ascending_same : (xs ys : List Row) → SameMembers xs ys → ascending row_before xs ≡ ascending row_before ys
ascending_same xs ys m =
    same_ascending row_before row_order (ascending row_before xs) (ascending row_before ys)
    (ascending_ascends row_before row_order xs) (ascending_ascends row_before row_order ys) (record {
      there = λ r h. ascending_keeps row_before row_order r ys (m.there r (has_ascending row_before r xs h));
      back = λ r h. ascending_keeps row_before row_order r xs (m.back r (has_ascending row_before r ys h));
    })

-- the row of a piece that splits is among the rows of its level
pub has_row : (f : List Bool → ℕ) (h : ℕ) (p : List Bool) (ps : List (List Bool)) → Has p ps → splits h p ≡ true → Has (row_of f h p) (rows_with f h ps)
has_row f h p ps m e =
    ascending_keeps row_before row_order (row_of f h p) (map (row_of f h) (filter (splits h) ps))
    (has_map (row_of f h) p (filter (splits h) ps) (has_filter (splits h) p ps m e))

-- and each row is that of a piece that splits
pub row_has : (f : List Bool → ℕ) (h : ℕ) (r : Row) (ps : List (List Bool)) → Has r (rows_with f h ps)
    → (p : List Bool) × Has p ps × (splits h p ≡ true) × (row_of f h p ≡ r)
row_has f h r ps m =
    let (p, k, e) = map_has (row_of f h) r (filter (splits h) ps) (has_ascending row_before r (map (row_of f h) (filter (splits h) ps)) m) in
    let (member, split) = filter_has (splits h) p ps k in
    (p, member, split, e)

rows_within : (f : List Bool → ℕ) (h : ℕ) (ps qs : List (List Bool)) → ((x : List Bool) → Has x ps → Has x qs)
    → (r : Row) → Has r (map (row_of f h) (filter (splits h) ps)) → Has r (map (row_of f h) (filter (splits h) qs))
rows_within f h ps qs sub r m =
    let (p, k, e) = map_has (row_of f h) r (filter (splits h) ps) m in
    let (member, split) = filter_has (splits h) p ps k in
    subst (λ s. Has s (map (row_of f h) (filter (splits h) qs))) e
    (has_map (row_of f h) p (filter (splits h) qs) (has_filter (splits h) p qs (sub p member) split))

pub rows_same : (f : List Bool → ℕ) (h : ℕ) (ps qs : List (List Bool)) → SameMembers ps qs → rows_with f h ps ≡ rows_with f h qs
rows_same f h ps qs m =
    ascending_same (map (row_of f h) (filter (splits h) ps)) (map (row_of f h) (filter (splits h) qs))
    (record { there = rows_within f h ps qs m.there; back = rows_within f h qs ps m.back })

-- the pointer of a piece that splits is its row's, and that of another one is its first half's
pub pointer-split : (h i : ℕ) (ps : List (List Bool)) (p : List Bool) → splits h p ≡ true
    → pointer (suc h) i ps p ≡ row_word i (place_of (row_of (pointer h (suc i) (halves h ps)) h p) (rows_with (pointer h (suc i) (halves h ps)) h ps))
pointer-split h i ps p e =
    let f : List Bool → ℕ = pointer h (suc i) (halves h ps) in
    λ j. cond (e j) (row_word i (place_of (row_of f h p) (rows_with f h ps))) (f (low_half h p))

pub pointer-unsplit : (h i : ℕ) (ps : List (List Bool)) (p : List Bool) → splits h p ≡ false
    → pointer (suc h) i ps p ≡ pointer h (suc i) (halves h ps) (low_half h p)
pointer-unsplit h i ps p e =
    let f : List Bool → ℕ = pointer h (suc i) (halves h ps) in
    λ j. cond (e j) (row_word i (place_of (row_of f h p) (rows_with f h ps))) (f (low_half h p))

-- pointers depend on the members of the pieces alone, and so do the rows of the levels
pub pointer_same : (h i : ℕ) (ps qs : List (List Bool)) → SameMembers ps qs → pointer h i ps ≡ pointer h i qs
pointer_same zero i ps qs m = refl
pointer_same (suc h) i ps qs m =
    let below : pointer h (suc i) (halves h ps) ≡ pointer h (suc i) (halves h qs) = pointer_same h (suc i) (halves h ps) (halves h qs) (halves_same h ps qs m) in
    let rows : rows_with (pointer h (suc i) (halves h ps)) h ps ≡ rows_with (pointer h (suc i) (halves h qs)) h qs =
    (λ j. rows_with (below j) h ps) ∙ rows_same (pointer h (suc i) (halves h qs)) h ps qs m in
    λ j p. cond (splits h p) (row_word i (place_of (row_of (below j) h p) (rows j))) (below j (low_half h p))

pub levels_same : (h i : ℕ) (ps qs : List (List Bool)) → SameMembers ps qs → levels h i ps ≡ levels h i qs
levels_same zero i ps qs m = refl
levels_same (suc h) i ps qs m =
    let below : pointer h (suc i) (halves h ps) ≡ pointer h (suc i) (halves h qs) = pointer_same h (suc i) (halves h ps) (halves h qs) (halves_same h ps qs m) in
    let rows : rows_with (pointer h (suc i) (halves h ps)) h ps ≡ rows_with (pointer h (suc i) (halves h qs)) h qs =
    (λ j. rows_with (below j) h ps) ∙ rows_same (pointer h (suc i) (halves h qs)) h ps qs m in
    let deeper : levels h (suc i) (halves h ps) ≡ levels h (suc i) (halves h qs) = levels_same h (suc i) (halves h ps) (halves h qs) (halves_same h ps qs m) in
    λ j. rows j ∷ deeper j

-- the rows of a level are the ascending pairs of the pieces that split
pub are_rows : (f : List Bool → ℕ) (h : ℕ) (ps : List (List Bool)) → AreRows f h ps
are_rows f h ps = record {
  ascend = ascending_ascends row_before row_order (map (row_of f h) (filter (splits h) ps));
  pairs = λ r. (row_has f h r ps, λ (p, member, split, e). subst (λ s. Has s (rows_with f h ps)) e (has_row f h p ps member split));
}
