-- reducing a complete set of arcs gives the canonical form of the table that it stands for
use Rattle.std.specs.Prelude.{◌≡◌, ℕ, zero, suc, ◌+◌, ◌^◌, ◌≤◌, ◌==◌, Bool, true, false, cond, List, [], ◌∷◌, ◌++◌, length, map, filter}
use Rattle.std.proofs.Common.{refl, sym, ◌∙◌, ap, subst, inl, arith}
use Rattle.std.proofs.lemmas.List.{length-map}
use Rattle.std.proofs.lemmas.List.Sums.{length-filter, count_by-le-length}
use Rattle.list_laws.proofs.MemberLaws.{length-ascending}
use Rattle.rec_words.specs.Words.{level_of}
use Rattle.canon_file.specs.declared.row.Row.{Row}
use Rattle.canon_file.specs.Members.{Has, put, ascending}
use Rattle.canon_file.specs.Pieces.{halves}
use Rattle.canon_file.specs.Rows.{row_before, rows_with, pointer, levels, Fits}
use Rattle.canon_file.specs.Pairs.{differs}
use Rattle.canon_file.specs.Canon.{numbered, nodes_of, canon_nodes, canon_root}
use Rattle.canon_file.specs.Walks.{table_of}
use Rattle.canon_file.proofs.MemberLaws.{has_map}
use Rattle.canon_file.proofs.StandLaws.{injective}
use Rattle.arc_file.specs.declared.arc.Arc.{Arc}
use Rattle.arc_diagrams.specs.Arcs.{targets_of, sources_of, IsComplete, table_of_arcs}
use Rattle.arc_diagrams.specs.Reduction.{pair_of, rows_of, final, final_pointer, final_rows, final_nodes}
use Rattle.arc_diagrams.specs.Laws.{ReducesTo, Reduces}
use Rattle.arc_diagrams.proofs.WordLaws.{terminal-value}
use Rattle.arc_diagrams.proofs.TableLaws.{length-table_of, table_from_stands}
use Rattle.arc_diagrams.proofs.MetLaws.{next, Covers, complete_covers}
use Rattle.arc_diagrams.proofs.FinalLaws.{rows-final}
use Rattle.arc_diagrams.proofs.LevelReduction.{halves-met, rows-at, words-at}

-- a level has no more rows than sources, and no more sources than there are arcs
length-reduced : (targets : ℕ → Row) (f : ℕ → ℕ) (sources : List ℕ) → length (rows_of targets f sources) ≤ length sources
length-reduced targets f sources =
    omega (
      arith,
      length-ascending row_before (filter differs (map (pair_of targets f) sources)),
      length-filter differs (map (pair_of targets f) sources),
      count_by-le-length differs (map (pair_of targets f) sources),
      length-map sources (pair_of targets f),
    )

length-sources : (arcs : List Arc) (i : ℕ) → length (sources_of arcs i) ≤ length arcs
length-sources arcs i =
    omega (arith, length-filter (λ s. level_of s == i) (map (λ (a : Arc). a.source) arcs), count_by-le-length (λ s. level_of s == i) (map (λ (a : Arc). a.source) arcs), length-map arcs (λ (a : Arc). a.source))

-- so a level has no more rows than there are arcs
pub length-final_rows : (n : ℕ) (arcs : List Arc) (i : ℕ) → length (final_rows n arcs i) ≤ length arcs
unfolding final_rows
length-final_rows n arcs i = omega (arith, length-reduced (targets_of arcs) (final_pointer n arcs) (sources_of arcs i), length-sources arcs i)

-- the rows of level i, and of each of the h - 1 deeper levels
abbrev pub reduced : (ℕ → Row) → (ℕ → List ℕ) → ℕ → ℕ → List (List Row)
reduced targets sources zero i = []
reduced targets sources (suc h) i = rows_of targets (final targets sources h (suc i)) (sources i) ∷ reduced targets sources h (suc i)

-- where h levels follow: the rows fit, they are those of the pieces, and final pointers are the pieces' pointers
record ReducesFrom (targets : ℕ → Row) (sources : ℕ → List ℕ) (h i : ℕ) (ws : List ℕ) : Type 0 where
  fits : Fits (levels h i (map (table_of targets h i) ws))
  rows : reduced targets sources h i ≡ levels h i (map (table_of targets h i) ws)
  words : (w : ℕ) → Has w ws → final targets sources h i w ≡ pointer h i (map (table_of targets h i) ws) (table_of targets h i w)

reduces_from : (targets : ℕ → Row) (sources : ℕ → List ℕ) (h i : ℕ) (ws : List ℕ) → i + h ≤ 65535
    → ((j : ℕ) → length (sources j) ≤ 2 ^ 47) → Covers targets sources h i ws → ReducesFrom targets sources h i ws
reduces_from targets sources zero i ws top few covers = record {
  fits = tt;
  rows = refl;
  words = λ w m. sym (terminal-value w (covers w m));
}
reduces_from targets sources (suc h) i ws top few covers =
    let deeper : List ℕ = next targets i ws in
    let pieces : List (List Bool) = map (table_of targets (suc h) i) ws in
    let f : ℕ → ℕ = final targets sources h (suc i) in
    let g : List Bool → ℕ = pointer h (suc i) (halves h pieces) in
    let below = reduces_from targets sources h (suc i) deeper (omega arith) few covers.1 in
    let met : halves h pieces ≡ map (table_of targets h (suc i)) deeper = halves-met targets h i ws in
    let fits : Fits (levels h (suc i) (halves h pieces)) = subst (λ ps. Fits (levels h (suc i) ps)) (sym met) below.fits in
    let tells : (w : ℕ) → Has w deeper → f w ≡ g (table_of targets h (suc i) w) =
    λ w m. below.words w m ∙ (λ j. pointer h (suc i) (sym met j) (table_of targets h (suc i) w)) in
    let piece : (w : ℕ) → Has w deeper → Has (table_of targets h (suc i) w) (halves h pieces) =
    λ w m. subst (Has (table_of targets h (suc i) w)) (sym met) (has_map (table_of targets h (suc i)) w deeper m) in
    let apart : (v w : ℕ) → Has v deeper → Has w deeper → g (table_of targets h (suc i) v) ≡ g (table_of targets h (suc i) w)
    → table_of targets h (suc i) v ≡ table_of targets h (suc i) w =
    λ v w k m. injective h (suc i) (halves h pieces) (table_of targets h (suc i) v) (table_of targets h (suc i) w) (omega arith) fits
    (piece v k) (piece w m) (length-table_of targets h (suc i) v) (length-table_of targets h (suc i) w) in
    let here : rows_of targets f (sources i) ≡ rows_with g h pieces = rows-at targets h i ws (sources i) f g tells apart covers.0 in
    record {
      fits = (omega (arith, length-reduced targets f (sources i), few i, ap length here), fits);
      rows = λ j. here j ∷ (below.rows ∙ (λ k. levels h (suc i) (sym met k))) j;
      words = words-at targets h i ws (sources i) f g tells apart covers.0;
    }

-- the nodes of a level and of deeper ones are those of the rows
nodes-reduced : (n root : ℕ) (arcs : List Arc) (h i : ℕ) → i + h ≡ n → n ≤ 65535 → IsComplete n root arcs
    → final_nodes n arcs h i ≡ nodes_of i (reduced (targets_of arcs) (sources_of arcs) h i)
nodes-reduced n root arcs zero i end top c = refl
nodes-reduced n root arcs (suc h) i end top c =
    λ j. nodes-reduced n root arcs h (suc i) (omega arith) top c j ++ numbered i 0 (rows-final n root arcs h i (omega arith) top c j)

-- the table of a complete set of few arcs has a form, and the reduced diagram is that form
reduces_to_table : (n root : ℕ) (arcs : List Arc) → n ≤ 65535 → length arcs ≤ 2 ^ 47 → IsComplete n root arcs
    → ReducesTo n root arcs (table_of_arcs n root arcs)
unfolding canon_nodes canon_root final_pointer
reduces_to_table n root arcs top few c =
    let all = reduces_from (targets_of arcs) (sources_of arcs) n 0 (root ∷ []) (omega arith) (λ j. omega (arith, length-sources arcs j)) (complete_covers n root arcs c) in
    record {
      form = record { few = top; whole = length-table_of (targets_of arcs) n 0 root; fits = all.fits };
      nodes = nodes-reduced n root arcs n 0 (omega arith) top c ∙ ap (nodes_of 0) all.rows;
      begins = all.words root (inl refl);
    }

pub reduces : (n : ℕ) → Reduces n
reduces n root arcs t top few d = subst (ReducesTo n root arcs) (table_from_stands n root arcs t d.stands) (reduces_to_table n root arcs top few d.complete)
