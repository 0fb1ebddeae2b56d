-- what a reduction keeps: arcs with final pointers, the rows of sources, and their names
use Rattle.std.specs.Prelude.{ℕ, ◌-◌, ◌^◌, Bool, true, false, List, [], ◌∷◌}
use Rattle.std.specs.Ordering.{nat_cmp, bool_cmp, on, flip_args, then_cmp}
use Rattle.std.specs.declared.cmp.Ordering.{Ordering}
use Rattle.rec_words.specs.Words.{IsNodeWord, IsPointer}
use Rattle.canon_file.specs.declared.row.Row.{Row}
use Rattle.arc_file.specs.declared.arc.Arc.{Arc}
use Rattle.arc_diagrams.specs.declared.final_arc.FinalArc.{FinalArc}
use Rattle.arc_diagrams.specs.declared.source_row.SourceRow.{SourceRow}
use Rattle.arc_diagrams.specs.declared.name.Name.{Name}

-- an arc with its final pointer, as an arc
abbrev pub as_arc : FinalArc → Arc
as_arc a = record { source = a.source; high = a.high; target = a.target }

-- the pair of a row with its source
abbrev pub pair : SourceRow → Row
pair r = record { low = r.low; high = r.high }

-- the word of a source, counted down: greater sources come first
abbrev pub from_top : ℕ → ℕ
from_top source = 2 ^ 63 - 1 - source

-- the word of a side
abbrev pub side_number : Bool → ℕ
side_number false = 0
side_number true = 1

-- the words of an arc, of a row and of a name, and those that they leave unused
abbrev pub final_arc_words : FinalArc → List ℕ
final_arc_words a = from_top a.source ∷ side_number a.high ∷ a.target ∷ 0 ∷ 0 ∷ 0 ∷ 0 ∷ 0 ∷ []

abbrev pub source_row_words : SourceRow → List ℕ
source_row_words r = r.low ∷ r.high ∷ r.source ∷ 0 ∷ 0 ∷ 0 ∷ 0 ∷ 0 ∷ []

abbrev pub name_words : Name → List ℕ
name_words m = from_top m.source ∷ m.pointer ∷ 0 ∷ 0 ∷ 0 ∷ 0 ∷ 0 ∷ 0 ∷ []

-- each word is that of a node or of a pointer
pub record IsFinalArc (a : FinalArc) : Type 0 where
  pub source_is : IsNodeWord a.source
  pub target_is : IsPointer a.target

pub record IsSourceRow (r : SourceRow) : Type 0 where
  pub low_is : IsPointer r.low
  pub high_is : IsPointer r.high
  pub source_is : IsNodeWord r.source

pub record IsName (m : Name) : Type 0 where
  pub source_is : IsNodeWord m.source
  pub pointer_is : IsPointer m.pointer

-- arcs with greater sources come first, then low ones
abbrev pub final_arc_cmp : FinalArc → FinalArc → Ordering
final_arc_cmp = then_cmp (flip_args (on (λ (a : FinalArc). a.source) nat_cmp))
    (then_cmp (on (λ (a : FinalArc). a.high) bool_cmp) (on (λ (a : FinalArc). a.target) nat_cmp))

-- so do names
abbrev pub name_cmp : Name → Name → Ordering
name_cmp = then_cmp (flip_args (on (λ (m : Name). m.source) nat_cmp)) (on (λ (m : Name). m.pointer) nat_cmp)

-- rows ascend by their pairs, then by their sources
abbrev pub source_row_cmp : SourceRow → SourceRow → Ordering
source_row_cmp = then_cmp (on (λ (r : SourceRow). r.low) nat_cmp)
    (then_cmp (on (λ (r : SourceRow). r.high) nat_cmp) (on (λ (r : SourceRow). r.source) nat_cmp))
