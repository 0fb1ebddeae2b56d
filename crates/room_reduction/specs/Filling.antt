-- What the room holds while the arcs of a diagram are read.
use Rattle.std.specs.Prelude.{◌≡◌, ◌⊎◌, ℕ, ◌+◌, ◌<◌, Bool, true, false, List, ◌∷◌, ◌++◌, length}
use Rattle.canon_file.specs.Members.{Has}
use Rattle.rec_words.specs.declared.rec.Rec.{Rec}
use Rattle.rec_words.specs.Words.{level_of}
use Rattle.run_files.specs.Items.{record_at}
use Rattle.block_stream.specs.declared.forward.Forward.{Forward}
use Rattle.block_stream.specs.Forwards.{reading_of, Reads}
use Rattle.block_stream.specs.Items.{AreAhead}
use Rattle.arc_file.specs.declared.arc.Arc.{Arc}
use Rattle.arc_file.specs.Arcs.{arc_words, IsArc}
use Rattle.arc_diagrams.specs.Arcs.{IsMet}
use Rattle.room_reduction.specs.Records.{uid_in, low_in, high_in}

-- the target of a source on a side, in its record
abbrev pub word_on : Bool → Rec → ℕ
word_on false r = low_in r
word_on true r = high_in r

-- the arc's source is one of the first so many, and has on the arc's side the target of an arc that leads on from there
pub record IsPut (all : List Arc) (sources : List Rec) (count : ℕ) (a : Arc) : Type 0 where
  pub place : ℕ
  pub within : place < count
  pub source_is : uid_in (record_at sources place) ≡ a.source
  pub one : Arc
  pub has : Has one all
  pub same_source : one.source ≡ a.source
  pub same_side : one.high ≡ a.high
  pub target_is : word_on a.high (record_at sources place) ≡ one.target

-- the first so many records are sources that are met, in ascending order; each arc is put into its source's record, but
-- for those that are left
pub record AreMet (n root : ℕ) (all left : List Arc) (sources : List Rec) (count : ℕ) : Type 0 where
  pub ascend : (j k : ℕ) → j < k → k < count → uid_in (record_at sources j) < uid_in (record_at sources k)
  pub met : (k : ℕ) → k < count → IsMet root all (uid_in (record_at sources k))
  pub levels : (k : ℕ) → k < count → level_of (uid_in (record_at sources k)) < n
  pub known : (a : Arc) → Has a left → Has a all
  pub each : (a : Arc) → Has a all → Has a left ⊎ IsPut all sources count a

-- the stream has these arcs of its file before it
pub record StillGives (arcs : Forward Arc) (bytes : List ℕ) (xs : List Arc) : Type 0 where
  pub reads : Reads arcs bytes
  pub ahead : AreAhead IsArc arc_words (reading_of arcs) bytes xs

-- the first of these arcs was given, and the stream has the others before it
abbrev pub GivesNext : Forward Arc → List ℕ → List Arc → Arc → Type 0
GivesNext arcs bytes xs arc = (rest : List Arc) × (xs ≡ arc ∷ rest) × StillGives arcs bytes rest

-- of a file's arcs so many were taken, and the stream has the others before it; those and the arcs that are left aren't
-- put into the records
pub record AreTaken (n root : ℕ) (all left : List Arc) (count taken : ℕ) (arcs : Forward Arc) (bytes : List ℕ)
    (sources : List Rec) (found : ℕ) : Type 0 where
  pub rest : List Arc
  pub ahead : StillGives arcs bytes rest
  pub many : taken + length rest ≡ count
  pub are_met : AreMet n root all (rest ++ left) sources found
