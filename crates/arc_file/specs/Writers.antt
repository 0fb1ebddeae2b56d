-- What is seen of a writer of arc files.
use Rattle.std.specs.Prelude.{◌≡◌, ◌⊎◌, ℕ, ◌*◌, ◌<◌, ◌≤◌, ◌^◌, List, length}
use Rattle.shelf_model.specs.declared.file_no.FileNo.{FileNo}
use Rattle.shelf_model.specs.declared.fault.StreamFault.{StreamFault}
use Rattle.shelf_model.specs.declared.fault.StreamFault.TheVariants.{Shelf, Damaged}
use Rattle.shelf_model.specs.File.{File, firm_file}
use Rattle.shelf_model.specs.World.{World, file}
use Rattle.block_stream.specs.Writes.{InStep, count_of}
use Rattle.block_stream.specs.Records.{piece_records}
use Rattle.block_stream.specs.Reads.{IsShort}
use Rattle.block_stream.specs.Appenders.{filling_of, room_of, written_of, HoldsItems}
use Rattle.arc_file.specs.declared.arc.Arc.{Arc}
use Rattle.arc_file.specs.declared.unreduced.Unreduced.{Unreduced}
use Rattle.arc_file.specs.declared.writer.ArcWriter.{ArcWriter}
use Rattle.arc_file.specs.Arcs.{arc_size, arc_words, IsArc}
use Rattle.arc_file.specs.Files.{BeginWith}

-- the file of the arcs to nodes
abbrev pub inner_file : ArcWriter → FileNo
inner_file w = (filling_of w.inner).file

-- that of the arcs to truth values
abbrev pub ends_file : ArcWriter → FileNo
ends_file w = (filling_of w.ends).file

-- how many arcs to nodes were put, with those that their file had at first
abbrev pub inner_count : ArcWriter → ℕ
inner_count w = count_of (filling_of w.inner)

-- how many to truth values
abbrev pub ends_count : ArcWriter → ℕ
ends_count w = count_of (filling_of w.ends)

-- the diagram of that root whose arcs are those that were put
abbrev pub made_of : ArcWriter → ℕ → Unreduced
made_of w root = record {
  root = root;
  inner = inner_file w;
  inner_count = inner_count w;
  ends = ends_file w;
  ends_count = ends_count w;
}

-- the files stay
pub record SameFiles (old new : ArcWriter) : Type 0 where
  pub inner_is : inner_file new ≡ inner_file old
  pub ends_are : ends_file new ≡ ends_file old

-- both files end behind the arcs that the writer has put there
pub record AreInStep (w : ArcWriter) (world : World) : Type 0 where
  pub inner_step : InStep (filling_of w.inner) world
  pub ends_step : InStep (filling_of w.ends) world

-- the files are to hold these arcs to nodes, and these to truth values
pub record HoldsArcs (w : ArcWriter) (world : World) (xs ys : List Arc) : Type 0 where
  pub inner_are : HoldsItems IsArc arc_words w.inner world xs
  pub inner_many : length xs ≡ inner_count w
  pub ends_are : HoldsItems IsArc arc_words w.ends world ys
  pub ends_many : length ys ≡ ends_count w

-- less than a full piece waits in the window of the file that the arc's target chooses
pub record HasSpace (w : ArcWriter) (a : Arc) : Type 0 where
  pub inner : a.target < 2 ^ 63
      → (filling_of w.inner).waiting < piece_records (filling_of w.inner).words (room_of w.inner)
  pub ends : 2 ^ 63 ≤ a.target
      → (filling_of w.ends).waiting < piece_records (filling_of w.ends).words (room_of w.ends)

-- what a stop leaves of a file are these arcs, so many of them, and nothing else
pub record IsFileOf (xs : List Arc) (count : ℕ) (f : File) : Type 0 where
  pub firm : f ≡ firm_file f.bytes
  pub begin : BeginWith xs count f.bytes
  pub all : length f.bytes ≡ count * arc_size

-- what a stop leaves of both files is what they were to hold
pub record WereSettled (w : ArcWriter) (old new : World) : Type 0 where
  pub inner_firm : file new (inner_file w) ≡ firm_file (written_of w.inner old)
  pub ends_firm : file new (ends_file w) ≡ firm_file (written_of w.ends old)

-- both files have as many whole records as is said
pub record AreWhole (made : Unreduced) (world : World) : Type 0 where
  pub inner_whole : made.inner_count * arc_size ≤ length (file world made.inner).bytes
  pub ends_whole : made.ends_count * arc_size ≤ length (file world made.ends).bytes

-- damage is that of one of two files
abbrev pub IsDamageOfEither : FileNo → FileNo → StreamFault → Type 0
IsDamageOfEither inner ends Shelf = Unit
IsDamageOfEither inner ends (Damaged f at) = (f ≡ inner) ⊎ (f ≡ ends)

-- one of the files has fewer arcs than is said, and the damage is where the first of them isn't whole
abbrev pub IsShortOfEither : Unreduced → World → StreamFault → Type 0
IsShortOfEither made world Shelf = Unit
IsShortOfEither made world (Damaged f at) =
    ((f ≡ made.inner) × IsShort 2 made.inner_count (file world made.inner).bytes (Damaged f at))
    ⊎ ((f ≡ made.ends) × IsShort 2 made.ends_count (file world made.ends).bytes (Damaged f at))
