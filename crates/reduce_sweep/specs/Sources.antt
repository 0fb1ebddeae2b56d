-- A source whose arcs are being collected.
use Rattle.std.specs.Prelude.{ℕ, ◌==◌, cond, Bool, true, false, Option, Some, None}
use Rattle.rec_words.specs.Words.{terminal}
use Rattle.arc_diagrams.specs.declared.final_arc.FinalArc.{FinalArc}
use Rattle.arc_diagrams.specs.declared.source_row.SourceRow.{SourceRow}
use Rattle.reduce_sweep.specs.declared.source.Source.{Source}

-- the pointer that is known, or this one
abbrev pub known_or : ℕ → Option ℕ → Option ℕ
known_or pointer None = Some pointer
known_or pointer (Some known) = Some known

-- the source with the pointer of one side, where none was known
abbrev pub noted : Bool → ℕ → Source → Source
noted true pointer s = record s { high = known_or pointer s.high }
noted false pointer s = record s { low = known_or pointer s.low }

-- the pointer of a side: the truth value 0 where none is known
abbrev pub pointer_of : Option ℕ → ℕ
pointer_of None = terminal false
pointer_of (Some pointer) = pointer

-- its row
abbrev pub row_of : Source → SourceRow
row_of s = record { low = pointer_of s.low; high = pointer_of s.high; source = s.uid }

-- the source of an arc, of which that one is noted
abbrev pub first_noted : FinalArc → Source
first_noted a = noted a.high a.target (record { uid = a.source; low = None; high = None })

-- the source at hand once an arc is noted: the same one, or the arc's where it is another
abbrev pub noted_with : Source → FinalArc → Source
noted_with s a = cond (s.uid == a.source) (noted a.high a.target s) (first_noted a)

-- the source at hand, where the arc is that of another
abbrev pub closed_by : Source → FinalArc → Option Source
closed_by s a = cond (s.uid == a.source) None (Some s)
