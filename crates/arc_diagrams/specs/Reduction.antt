-- the reduction of a complete set of arcs, level by level from the deepest one: nodes whose final
-- pointers are equal become one, and a node whose two final pointers are equal becomes that pointer
use Rattle.std.specs.Prelude.{◌≡◌, ℕ, zero, suc, cond, List, [], ◌++◌, map, filter}
use Rattle.rec_words.specs.Words.{level_of, IsTerminal}
use Rattle.rec_words.specs.declared.node.Node.{Node}
use Rattle.canon_file.specs.declared.row.Row.{Row}
use Rattle.canon_file.specs.Members.{Has, ascending}
use Rattle.canon_file.specs.Rows.{row_before}
use Rattle.canon_file.specs.Pairs.{differs, word_in}
use Rattle.canon_file.specs.Canon.{numbered}
use Rattle.canon_file.specs.Walks.{is_at}
use Rattle.arc_file.specs.declared.arc.Arc.{Arc}
use Rattle.arc_diagrams.specs.Arcs.{targets_of, sources_of}

-- the final pointers of the two targets of a node, where f gives that of a deeper pointer
abbrev pub pair_of : (ℕ → Row) → (ℕ → ℕ) → ℕ → Row
pair_of targets f source = record { low = f (targets source).low; high = f (targets source).high }

-- the rows of a level: the pairs of its sources that differ, ascending, each once
abbrev pub rows_of : (ℕ → Row) → (ℕ → ℕ) → List ℕ → List Row
rows_of targets f sources = ascending row_before (filter differs (map (pair_of targets f) sources))

-- the final pointer of a pointer of level i or deeper, where h levels follow and sources gives those of
-- each level: a source has the node of its row, or the one pointer that its pair has twice
abbrev pub final : (ℕ → Row) → (ℕ → List ℕ) → ℕ → ℕ → ℕ → ℕ
final targets sources zero i w = w
final targets sources (suc h) i w =
    let f = final targets sources h (suc i) in
    cond (is_at i w) (word_in i (rows_of targets f (sources i)) (pair_of targets f w)) (f w)

-- the pointer that a pointer of the set becomes
unfoldable pub final_pointer : ℕ → List Arc → ℕ → ℕ
final_pointer n arcs w = final (targets_of arcs) (sources_of arcs) n 0 w

-- the pair of pointers that a source gets
abbrev pub final_pair : ℕ → List Arc → ℕ → Row
final_pair n arcs source = pair_of (targets_of arcs) (final_pointer n arcs) source

-- the rows of level i
unfoldable pub final_rows : ℕ → List Arc → ℕ → List Row
final_rows n arcs i = rows_of (targets_of arcs) (final_pointer n arcs) (sources_of arcs i)

-- the nodes of level i and of each of the h - 1 deeper levels, the deepest level first
abbrev pub final_nodes : ℕ → List Arc → ℕ → ℕ → List Node
final_nodes n arcs zero i = []
final_nodes n arcs (suc h) i = final_nodes n arcs h (suc i) ++ numbered i 0 (final_rows n arcs i)

-- final pointers, source by source: a truth value stays, and a source has the node of its row among
-- those of its level, or the one pointer that its pair has twice
pub record AreFinal (n : ℕ) (arcs : List Arc) : Type 0 where
  pub ends : (w : ℕ) → IsTerminal w → final_pointer n arcs w ≡ w
  pub sources : (a : Arc) → Has a arcs
      → final_pointer n arcs a.source ≡ word_in (level_of a.source) (final_rows n arcs (level_of a.source))
      (final_pair n arcs a.source)
