-- The complement of a table, and the diagram of a table with exchanged truth values.
use Rattle.std.specs.Prelude.{◌≡◌, ℕ, ◌-◌, ◌<◌, ◌≤◌, ◌==◌, Bool, false, true, not, cond, List, map}
use Rattle.rec_words.specs.Words.{terminal}
use Rattle.rec_words.specs.declared.rec.Rec.{Rec}
use Rattle.run_files.specs.Items.{record_at}
use Rattle.arc_file.specs.declared.arc.Arc.{Arc}
use Rattle.arc_diagrams.specs.Laws.{IsDiagramOf}
use Rattle.room_reduction.specs.Records.{uid_in, low_in, high_in}

-- the table with the other value at each place
abbrev pub complement : List Bool → List Bool
complement t = map not t

-- of the word of a truth value that of the other one; any other word stays
abbrev pub other_end : ℕ → ℕ
other_end w = cond (w == terminal false) (terminal true) (cond (w == terminal true) (terminal false) w)

-- the arcs with the truth values exchanged to which they lead
abbrev pub other_arc : Arc → Arc
other_arc a = record { source = a.source; high = a.high; target = other_end a.target }

abbrev pub other_arcs : List Arc → List Arc
other_arcs arcs = map other_arc arcs

-- so a diagram of a table becomes one of the complement
abbrev pub GivesComplement : ℕ → Type 0
GivesComplement n = (root : ℕ) (arcs : List Arc) (t : List Bool) → n ≤ 65535 → IsDiagramOf n root arcs t
    → IsDiagramOf n (other_end root) (other_arcs arcs) (complement t)

-- the record has the words of another one, with its truth values exchanged
pub record IsOther (r other : Rec) : Type 0 where
  pub uid : uid_in other ≡ uid_in r
  pub low : low_in other ≡ other_end (low_in r)
  pub high : high_in other ≡ other_end (high_in r)

-- so have the first so many of these, the other way round
abbrev pub AreOthers : ℕ → List Rec → List Rec → Type 0
AreOthers count nodes others = (k : ℕ) → k < count → IsOther (record_at nodes (count - 1 - k)) (record_at others k)
