-- What the calls of each phase change of what a reduction holds.
use Rattle.std.specs.List.Sorted.{IsPermutation}
use Rattle.std.specs.Prelude.{◌≡◌, ◌&&◌, ◌==◌, ℕ, ◌+◌, ◌-◌, ◌^◌, cond, Bool, true, false, List, [], ◌∷◌, ◌++◌, Option, Some, None}
use Rattle.rec_words.specs.Words.{node_word}
use Rattle.rec_words.specs.declared.node.Node.{Node}
use Rattle.shelf_model.specs.World.{World}
use Rattle.canon_file.specs.declared.row.Row.{Row}
use Rattle.canon_file.specs.Pairs.{differs}
use Rattle.canon_file.specs.Rows.{row_word}
use Rattle.arc_file.specs.declared.arc.Arc.{Arc}
use Rattle.arc_diagrams.specs.Items.{pair}
use Rattle.arc_diagrams.specs.declared.final_arc.FinalArc.{FinalArc}
use Rattle.arc_diagrams.specs.declared.source_row.SourceRow.{SourceRow}
use Rattle.arc_diagrams.specs.declared.name.Name.{Name}
use Rattle.sweep_core.specs.declared.turn.Turn.{Turn}
use Rattle.sweep_core.specs.declared.turn.Turn.TheVariants as turn
use Rattle.reduce_lists.specs.Contents.{Contents, Holds}
use Rattle.reduce_sweep.specs.declared.phase.Numbered.{Numbered}
use Rattle.reduce_sweep.specs.declared.place.Place.{Place}
use Rattle.reduce_sweep.specs.declared.reduce.ReduceSweep.{ReduceSweep}
use Rattle.reduce_sweep.specs.declared.source.Source.{Source}
use Rattle.reduce_sweep.specs.Sources.{row_of}
use Rattle.reduce_sweep.specs.Remaining.{Diagram, IsReduced}

-- the pair of the row is that of the one that was numbered last
abbrev pub is_last : Option Row → SourceRow → Bool
is_last None r = false
is_last (Some last) r = (last.low == r.low) && (last.high == r.high)

-- how many rows have a number once this one has its own, which is then the last one
abbrev pub numbered_with : Numbered → SourceRow → Numbered
numbered_with s r = record { number = cond (is_last s.last r) s.number (s.number + 1); last = Some (pair r) }

-- the nodes with that of the row, unless its pair was the last one
abbrev pub nodes_with : ℕ → Numbered → SourceRow → List Node → List Node
nodes_with level s r nodes = cond (is_last s.last r) nodes
    (nodes ++ record { uid = row_word level s.number; low = r.low; high = r.high } ∷ [])

-- the root's final pointer, where the name is the root's
abbrev pub known_with : Place → Name → ℕ
known_with p m = cond (m.source == p.arcs.root) m.pointer p.known

-- the rows and names with a row whose pointers differ, or with a name in its place
abbrev pub JoinsOne : Bool → SourceRow → List SourceRow → List Name → List SourceRow → List Name → Type 0
JoinsOne true r rows names more_rows more_names = IsPermutation (r ∷ rows) more_rows × (names ≡ more_names)
JoinsOne false r rows names more_rows more_names = (rows ≡ more_rows)
    × IsPermutation (record { source = r.source; pointer = r.low } ∷ names) more_names

-- the rows and names with that of a source, where there is one
abbrev pub IsClosed : Option Source → List SourceRow → List Name → List SourceRow → List Name → Type 0
IsClosed None rows names more_rows more_names = (rows ≡ more_rows) × (names ≡ more_names)
IsClosed (Some s) rows names more_rows more_names = JoinsOne (differs (pair (row_of s)))
    (row_of s) rows names more_rows more_names

-- the source is closed, and all else stays
abbrev pub Closes : Option Source → ReduceSweep → World → Contents → Type 0
Closes source t new k =
    (rows : List SourceRow) × (names : List Name) × IsClosed source k.rows k.names rows names
    × Holds t.ahead t.lists t.writer new (record k { rows = rows; names = names })

-- where all is done, the file is the canonical one
abbrev pub IsDoneAt : Turn → ReduceSweep → World → Diagram → Type 0
IsDoneAt turn.More s world d = Unit
IsDoneAt turn.Ended s world d = IsReduced s world d

-- the row has its number: its source has a name, and its node is put, unless the last row had the same pair
abbrev pub NumbersRow : ℕ → Numbered → ReduceSweep → World → Contents → SourceRow → Type 0
NumbersRow level s t new k r =
    (names : List Name) × IsPermutation (record {
      source = r.source;
      pointer = node_word level
          (2 ^ 47 - (numbered_with s r).number);
    } ∷ k.names) names
    × Holds t.ahead t.lists t.writer new (record k { names = names; nodes = nodes_with level s r k.nodes })

-- the arc is in the queue from then on in place of the next one to a node
abbrev pub ForwardsAlong : Option Arc → ReduceSweep → World → Contents → FinalArc → Type 0
ForwardsAlong None t new k told = ⊥
ForwardsAlong (Some a) t new k told = (queue : List FinalArc) × (front : List Arc)
    × IsPermutation (told ∷ k.queue) queue × (k.inner ≡ front ++ a ∷ [])
    × Holds t.ahead t.lists t.writer new (record k { queue = queue; inner = front })
