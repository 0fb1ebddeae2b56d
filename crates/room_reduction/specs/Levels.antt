-- The reduction of a diagram in the room, whose deepest levels are done.
use Rattle.std.specs.Prelude.{◌≡◌, ℕ, zero, suc, ◌+◌, ◌<◌, ◌≤◌, Bool, List, [], ◌∷◌, ◌++◌, length, map, filter, take, drop, Option, Some, None}
use Rattle.rec_words.specs.Words.{level_of, IsTerminal}
use Rattle.rec_words.specs.declared.rec.Rec.{Rec}
use Rattle.list_laws.specs.Members.{Has}
use Rattle.run_files.specs.Items.{record_at}
use Rattle.canon_file.specs.declared.row.Row.{Row}
use Rattle.canon_file.specs.Pairs.{differs}
use Rattle.canon_file.specs.Canon.{numbered, canon_nodes, canon_bytes, trailer_bytes}
use Rattle.canon_file.specs.Laws.{HasForm}
use Rattle.arc_file.specs.declared.arc.Arc.{Arc}
use Rattle.arc_diagrams.specs.Arcs.{IsComplete}
use Rattle.arc_diagrams.specs.Reduction.{final_pointer}
use Rattle.arc_diagrams.specs.Reducing.{nodes_from, distinct_after}
use Rattle.node_file.specs.Nodes.{node_records, held_nodes}
use Rattle.room_reduction.specs.Records.{row_in, word, uid_in, low_in, high_in, became_in}
use Rattle.room_reduction.specs.Sources.{AreSources}

-- f gives each truth value back
abbrev pub KeepsEnds : (ℕ → ℕ) → Type 0
KeepsEnds f = (w : ℕ) → IsTerminal w → f w ≡ w

-- the record of the source at a place says what f gives of its identifier
abbrev pub IsKnown : (ℕ → ℕ) → List Rec → ℕ → Type 0
IsKnown f sources k = became_in (record_at sources k) ≡ f (uid_in (record_at sources k))

-- so do those from a place on
abbrev pub AreKnown : (ℕ → ℕ) → ℕ → List Rec → Type 0
AreKnown f from sources = (k : ℕ) → from ≤ k → k < length sources → IsKnown f sources k

-- the record is the row of the source at a place: what f gives of its two targets, and the place
pub record IsRowOf (f : ℕ → ℕ) (place : ℕ) (sources : List Rec) (r : Rec) : Type 0 where
  pub low : word 0 r ≡ f (low_in (record_at sources place))
  pub high : word 1 r ≡ f (high_in (record_at sources place))
  pub place_is : word 2 r ≡ place

-- the records are the rows of the sources from a place on
abbrev pub AreRowsOf : (ℕ → ℕ) → ℕ → List Rec → List Rec → Type 0
AreRowsOf f from sources rows = (k : ℕ) → k < length rows → IsRowOf f (from + k) sources (record_at rows k)

-- identifiers and targets are as they were
pub record KeepsSources (old new : List Rec) : Type 0 where
  pub many : length new ≡ length old
  pub source : (k : ℕ) → uid_in (record_at new k) ≡ uid_in (record_at old k)
  pub low : (k : ℕ) → low_in (record_at new k) ≡ low_in (record_at old k)
  pub high : (k : ℕ) → high_in (record_at new k) ≡ high_in (record_at old k)

-- the sources of these rows say what f gives, and so do those that said it before
pub record Names (f : ℕ → ℕ) (rows old new : List Rec) : Type 0 where
  pub keeps : (k : ℕ) → IsKnown f old k → IsKnown f new k
  pub own : (r : Rec) → Has r rows → IsKnown f new (word 2 r)

-- the rows of a level's nodes: those whose pointers differ, each once, where equal ones are neighbours
abbrev pub distinct_rows : List Rec → List Row
distinct_rows rows = distinct_after None (filter differs (map row_in rows))

-- the row that was numbered last, where one was
abbrev pub last_row : ℕ → Row → Option Row
last_row zero row = None
last_row (suc count) row = Some row

-- the rows before a place are numbered: so many nodes stand in front, and the last of them has that row
pub record IsNumbering (level : ℕ) (first : List Rec) (place count : ℕ) (last : Row) (rows : List Rec) : Type 0 where
  pub done : List Row
  pub count_is : length done ≡ count
  pub nodes_are : take count rows ≡ node_records (numbered level 0 done)
  pub whole : distinct_rows first
      ≡ done ++ distinct_after (last_row count last) (filter differs (map row_in (drop place first)))
  pub ends : 0 < count → (front : List Row) × (done ≡ front ++ last ∷ [])

-- the sources of a level are those from a place to another one, and those behind them say their final pointers
pub record IsLevel (n root : ℕ) (arcs : List Arc) (level from end : ℕ) (sources : List Rec) : Type 0 where
  pub few : n ≤ 65535
  pub complete : IsComplete n root arcs
  pub sources_are : AreSources n root arcs sources
  pub known : AreKnown (final_pointer n arcs) end sources
  pub own : (k : ℕ) → from ≤ k → k < end → level_of (uid_in (record_at sources k)) ≡ level
  pub before : (k : ℕ) → k < from → level_of (uid_in (record_at sources k)) < level
  pub behind : (k : ℕ) → end ≤ k → k < length sources → level < level_of (uid_in (record_at sources k))

-- level i and each deeper one are done: their sources are those from a place on and say their final pointers
pub record IsDone (n root : ℕ) (arcs : List Arc) (i from : ℕ) (sources : List Rec) : Type 0 where
  pub sources_are : AreSources n root arcs sources
  pub known : AreKnown (final_pointer n arcs) from sources
  pub before : (k : ℕ) → k < from → level_of (uid_in (record_at sources k)) < i
  pub behind : (k : ℕ) → from ≤ k → k < length sources → i ≤ level_of (uid_in (record_at sources k))

-- the records of the nodes of level i and of each deeper one
abbrev pub nodes_down_to : ℕ → ℕ → List Arc → List Rec
nodes_down_to i n arcs = node_records (nodes_from n arcs i)

-- they are done, and the first so many records are their nodes
pub record IsPacked (n root : ℕ) (arcs : List Arc) (i from count : ℕ) (sources nodes : List Rec) : Type 0 where
  pub done : IsDone n root arcs i from sources
  pub nodes_are : take count nodes ≡ nodes_down_to i n arcs

-- they are done, and have so many nodes
pub record IsCounted (n root : ℕ) (arcs : List Arc) (i from count : ℕ) (sources : List Rec) : Type 0 where
  pub done : IsDone n root arcs i from sources
  pub count_is : count ≡ length (nodes_down_to i n arcs)

-- the first so many records, and a trailer with that root, are the canonical file of the table
pub record IsReduced (n : ℕ) (t : List Bool) (root count : ℕ) (nodes : List Rec) : Type 0 where
  pub form : HasForm n t
  pub bytes_are : held_nodes (take count nodes) ++ trailer_bytes root count n ≡ canon_bytes n t
  pub count_is : count ≡ length (canon_nodes n t)
