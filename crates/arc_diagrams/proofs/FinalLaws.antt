-- final pointers, with no count of levels
use Rattle.std.specs.Prelude.{◌≡◌, ℕ, zero, suc, ◌+◌, ◌-◌, ◌<◌, ◌≤◌, ◌==◌, Bool, true, false, cond, List, [], ◌∷◌, map, filter}
use Rattle.std.proofs.Common.{refl, sym, ◌∙◌, ap, subst, inl, inr, arith}
use Rattle.std.proofs.lemmas.Bool.Decides.{nat_tests}
use Rattle.rec_words.specs.Words.{level_of, IsTerminal}
use Rattle.canon_file.specs.declared.row.Row.{Row}
use Rattle.canon_file.specs.Members.{Has, ascending}
use Rattle.canon_file.specs.Rows.{row_before}
use Rattle.canon_file.specs.Pairs.{differs, word_in}
use Rattle.canon_file.proofs.MemberLaws.{map_has, filter_has}
use Rattle.canon_file.proofs.RowLaws.{same_row}
use Rattle.arc_file.specs.declared.arc.Arc.{Arc}
use Rattle.arc_diagrams.specs.Arcs.{target_on, targets_of, sources_of, IsWithin, IsMet, IsComplete}
use Rattle.arc_diagrams.specs.Reduction.{pair_of, rows_of, final, final_pointer, final_pair, final_rows}
use Rattle.arc_diagrams.specs.Laws.{FindsFinal}
use Rattle.arc_diagrams.proofs.WordLaws.{at_from, past_from, level-terminal}
use Rattle.arc_diagrams.proofs.TargetLaws.{arc_on, met_within}

map_same : {X Y : Type 0} (f g : X → Y) (xs : List X) → ((x : X) → Has x xs → f x ≡ g x) → map f xs ≡ map g xs
map_same f g [] same = refl
map_same f g (x ∷ xs) same = λ j. same x (inl refl) j ∷ map_same f g xs (λ y m. same y (inr m)) j

-- a level that a pointer lies below leaves its final pointer
final-past : (targets : ℕ → Row) (sources : ℕ → List ℕ) (h i w : ℕ) → i < level_of w → final targets sources (suc h) i w ≡ final targets sources h (suc i) w
final-past targets sources h i w deep =
    let f = final targets sources h (suc i) in
    ap (λ b. cond b (word_in i (rows_of targets f (sources i)) (pair_of targets f w)) (f w)) (past_from i w deep)

-- so do d of them
final-from : (targets : ℕ → Row) (sources : ℕ → List ℕ) (d h i w : ℕ) → i + d ≤ level_of w → final targets sources (d + h) i w ≡ final targets sources h (i + d) w
final-from targets sources zero h i w deep =
    let levels : 0 + h ≡ h = omega arith in
    let level : i ≡ i + 0 = omega arith in
    λ j. final targets sources (levels j) (level j) w
final-from targets sources (suc d) h i w deep =
    let levels : suc d + h ≡ suc (d + h) = omega arith in
    let level : suc i + d ≡ i + suc d = omega arith in
    (λ j. final targets sources (levels j) i w) ∙ final-past targets sources (d + h) i w (omega arith)
    ∙ final-from targets sources d h (suc i) w (omega arith) ∙ (λ j. final targets sources h (level j) w)

-- a truth value is its own final pointer
final-terminal : (targets : ℕ → Row) (sources : ℕ → List ℕ) (h i w : ℕ) → i + h ≤ 65535 → IsTerminal w → final targets sources h i w ≡ w
final-terminal targets sources zero i w top end = refl
final-terminal targets sources (suc h) i w top end =
    final-past targets sources h i w (omega (arith, level-terminal w end)) ∙ final-terminal targets sources h (suc i) w (omega arith) end

-- a source of a complete set is of a level below n
pub source_below : (n root : ℕ) (arcs : List Arc) (a : Arc) → n ≤ 65535 → IsComplete n root arcs → Has a arcs → level_of a.source < n
source_below n root arcs a top c m =
    elim (c.within a m) [
      | inl node ↦ omega (arith, c.deeper a m)
      | inr end ↦ elim (by (c.met a m)) [ inl node ↦ node | inr both ↦ absurd (omega (arith, c.deeper a m, level-terminal a.target end, level-terminal a.source both)) ]
    ]
  where
    by : IsMet root arcs a.source → IsWithin n a.source
    by = met_within n root arcs a.source c

-- its targets lie deeper
pub target_deeper : (n root : ℕ) (arcs : List Arc) (a : Arc) (side : Bool) → n ≤ 65535 → IsComplete n root arcs → Has a arcs
    → level_of a.source < level_of (target_on arcs a.source side)
target_deeper n root arcs a side top c m =
    let (b, k, source, high, target) = arc_on n root arcs a.source side c (c.met a m) (source_below n root arcs a top c m) in
    subst (λ w. level_of a.source < level_of w) target (subst (λ w. level_of w < level_of b.target) source (c.deeper b k))

module _ (n root : ℕ) (arcs : List Arc) (h i : ℕ) (level : suc (i + h) ≡ n) (top : n ≤ 65535) (c : IsComplete n root arcs) where
  -- the final pointers of deeper pointers, and of those of the level
  deeper-final : (w : ℕ) → suc i ≤ level_of w → final_pointer n arcs w ≡ final (targets_of arcs) (sources_of arcs) h (suc i) w
  unfolding final_pointer
  deeper-final w deep =
      let levels : n ≡ suc i + h = omega arith in
      let from : 0 + suc i ≡ suc i = omega arith in
      (λ j. final (targets_of arcs) (sources_of arcs) (levels j) 0 w) ∙ final-from (targets_of arcs) (sources_of arcs) (suc i) h 0 w (omega arith)
      ∙ (λ j. final (targets_of arcs) (sources_of arcs) h (from j) w)

  level-final : (w : ℕ) → i ≤ level_of w → final_pointer n arcs w ≡ final (targets_of arcs) (sources_of arcs) (suc h) i w
  unfolding final_pointer
  level-final w deep =
      let levels : n ≡ i + suc h = omega arith in
      let from : 0 + i ≡ i = omega arith in
      (λ j. final (targets_of arcs) (sources_of arcs) (levels j) 0 w) ∙ final-from (targets_of arcs) (sources_of arcs) i (suc h) 0 w (omega arith)
      ∙ (λ j. final (targets_of arcs) (sources_of arcs) (suc h) (from j) w)

  -- the pair of a source of the level
  pair-final : (a : Arc) → Has a arcs → level_of a.source ≡ i
      → final_pair n arcs a.source ≡ pair_of (targets_of arcs) (final (targets_of arcs) (sources_of arcs) h (suc i)) a.source
  pair-final a m here =
      same_row _ _
      (deeper-final (target_on arcs a.source false) (omega (arith, target_deeper n root arcs a false top c m)))
      (deeper-final (target_on arcs a.source true) (omega (arith, target_deeper n root arcs a true top c m)))

  -- and the rows
  pub rows-final : final_rows n arcs i ≡ rows_of (targets_of arcs) (final (targets_of arcs) (sources_of arcs) h (suc i)) (sources_of arcs i)
  unfolding final_rows
  rows-final =
      ap (λ rs. ascending row_before (filter differs rs))
      (map_same (final_pair n arcs) (pair_of (targets_of arcs) (final (targets_of arcs) (sources_of arcs) h (suc i))) (sources_of arcs i) (λ s k.
      let (m, e) = filter_has (λ v. level_of v == i) s (map (λ (a : Arc). a.source) arcs) k in
      let (a, in_arcs, source) = map_has (λ (a : Arc). a.source) s arcs m in
      let here : level_of s ≡ i = grind (arith, nat_tests) in
      subst (λ v. final_pair n arcs v ≡ pair_of (targets_of arcs) (final (targets_of arcs) (sources_of arcs) h (suc i)) v) source
      (pair-final a in_arcs (ap level_of source ∙ here))))

  source-final : (a : Arc) → Has a arcs → level_of a.source ≡ i
      → final_pointer n arcs a.source ≡ word_in i (final_rows n arcs i) (final_pair n arcs a.source)
  source-final a m here =
      let f = final (targets_of arcs) (sources_of arcs) h (suc i) in
      level-final a.source (omega arith)
      ∙ ap (λ b. cond b (word_in i (rows_of (targets_of arcs) f (sources_of arcs i)) (pair_of (targets_of arcs) f a.source)) (f a.source)) (at_from i a.source here)
      ∙ (λ j. word_in i (sym rows-final j) (sym (pair-final a m here) j))

pub finds_final : (n : ℕ) → FindsFinal n
unfolding final_pointer
finds_final n root arcs top c = record {
  ends = λ w end. final-terminal (targets_of arcs) (sources_of arcs) n 0 w (omega arith) end;
  sources = λ a m.
      let below : level_of a.source < n = source_below n root arcs a top c m in
      source-final n root arcs (n - 1 - level_of a.source) (level_of a.source) (omega arith) top c a m refl;
}
