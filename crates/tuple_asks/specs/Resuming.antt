-- What a checkpoint keeps of operands and of where a sweep stands, and where an operand is read on.
use Rattle.std.specs.Prelude.{◌≡◌, ℕ, Option, Some, None, ◌⊎◌, ◌+◌, ◌/◌, ◌<◌, false, List, length, take, slice_get}
use Rattle.std.specs.Prelude.{IfSome}
use Rattle.rec_words.specs.declared.node.Node.{Node}
use Rattle.shelf_model.specs.World.{World}
use Rattle.arc_file.specs.declared.unreduced.Unreduced.{Unreduced}
use Rattle.node_file.specs.Readers.{trailer_of, left_of}
use Rattle.top_down.specs.declared.tuple.Tuple.{Tuple}
use Rattle.top_down_laws.specs.Readings.{Reading, Readings, Diagrams}
use Rattle.tuple_asks.specs.declared.operand.Operand.{Operand}
use Rattle.tuple_asks.specs.declared.operand.Operands.{Operands}
use Rattle.tuple_asks.specs.declared.place.Asking.{Asking}
use Rattle.tuple_asks.specs.declared.place.Place.{Place}
use Rattle.tuple_asks.specs.declared.place.Phase.{Phase}
use Rattle.tuple_asks.specs.declared.place.Phase.TheVariants as phases
use Rattle.tuple_asks.specs.declared.saved.SavedOperand.{SavedOperand}
use Rattle.tuple_asks.specs.declared.saved.SavedMachine.{SavedMachine}
use Rattle.tuple_asks.specs.Readings.{IsReadOf, AreRead, roots_of}
use Rattle.rec_words.specs.Words.{terminal}
use Rattle.shelf_model.specs.declared.file_no.FileNo.{FileNo}
use Rattle.shelf_model.specs.declared.fault.StreamFault.TheVariants as stream
use Rattle.shelf_model.specs.declared.sort_fault.SortFault.{SortFault}
use Rattle.shelf_model.specs.declared.sort_fault.SortFault.TheVariants.{Shelf, Damaged, RunsSpent}
use Rattle.arc_file.specs.Writers.{IsShortOfEither}
use Rattle.node_reading.specs.declared.resuming.Unread.{Unread}
use Rattle.node_reading.specs.Reading.{count_of, IsDamagedNode, IsTrailerFault}
use Rattle.node_reading.specs.Resuming.{IsPlaceFault}
use Rattle.sweep_core.specs.Saving.{reads_of}
use Rattle.tuple_asks.specs.declared.saved.SavedArcs.{SavedArcs}
use Rattle.tuple_asks.specs.declared.files.Files.{Files}

-- how many nodes before the one at hand weren't read, where one is at hand
abbrev pub read_at : Option Node → ℕ → Option ℕ
read_at None place = None
read_at (Some x) place = Some place

abbrev pub saved_operand : Operand → SavedOperand
saved_operand o = record { file = o.file; read = read_at o.hand (left_of o.reader) }

-- where the machine that is rebuilt stands
abbrev pub phase_at : Option Asking → Phase
phase_at None = phases.Fresh
phase_at (Some s) = phases.Asking s

abbrev pub saved_place : SavedMachine → Place
saved_place m = record { variables = m.variables; phase = phase_at m.asking; has_one = m.has_one }

-- the operand's root is that one, and it was read so far
pub record IsReadAs (o : Operand) (world : World) (root : ℕ) (r : Reading) : Type 0 where
  pub root_is : (trailer_of o.reader).root ≡ root
  pub read : IsReadOf o world r

-- so it is of all three
pub record AreReadAs (o : Operands) (world : World) (roots : Tuple) (r : Readings) : Type 0 where
  pub roots_are : roots_of o ≡ roots
  pub read : AreRead o world r

-- the files of the machine
abbrev pub saved_files : SavedMachine → Files
saved_files m = record {
  first = m.first.file;
  second = m.second.file;
  third = m.third.file;
  inner = m.arcs.inner;
  ends = m.arcs.ends;
}

-- how far an operand was read that has these nodes: not at all, or so many nodes before the one at hand weren't
abbrev pub reading_at : List Node → Option ℕ → Reading
reading_at nodes None = record { hand = None; unread = nodes }
reading_at nodes (Some place) = record { hand = slice_get nodes place; unread = take place nodes }

abbrev pub readings_at : Diagrams → SavedMachine → Readings
readings_at d m = record {
  first = reading_at d.first m.first.read;
  second = reading_at d.second m.second.read;
  third = reading_at d.third m.third.read;
}

-- the node at hand is one of the nodes
abbrev pub IsAmong : List Node → Option ℕ → Type 0
IsAmong nodes read = IfSome read (λ place. place < length nodes)

pub record AreAmong (d : Diagrams) (m : SavedMachine) : Type 0 where
  pub first : IsAmong d.first m.first.read
  pub second : IsAmong d.second m.second.read
  pub third : IsAmong d.third m.third.read

-- no more calls than these read on in an operand of these bytes
abbrev pub operand_calls : List ℕ → ℕ
operand_calls bytes = 5 + count_of bytes / 8

-- the place from which an operand's nodes are given again: before the one at hand
abbrev pub behind_hand : FileNo → ℕ → Unread
behind_hand f place = record { file = f; place = place + 1 }

-- the node at hand is damaged
abbrev pub IsHandFault : ℕ → FileNo → (FileNo → List ℕ) → SortFault → Type 0
IsHandFault n file r Shelf = Unit
IsHandFault n file r (Damaged f at) = (f ≡ file) × IsDamagedNode n (r file) at
IsHandFault n file r RunsSpent = ⊥

-- an operand can't be read from where it was read
abbrev pub IsOperandFault : ℕ → ℕ → FileNo → Option ℕ → World → SortFault → Type 0
IsOperandFault n step file None world e = IsTrailerFault file n world e
IsOperandFault n step file (Some place) world e = IsPlaceFault n step (behind_hand file place) (reads_of world) e
    ⊎ IsHandFault n file (reads_of world) e

-- a file of arcs is shorter than it was
abbrev pub arcs_of : SavedArcs → Unreduced
arcs_of a = record {
  root = terminal false;
  inner = a.inner;
  inner_count = a.inner_count;
  ends = a.ends;
  ends_count = a.ends_count;
}

abbrev pub IsArcsFault : SavedArcs → World → SortFault → Type 0
IsArcsFault a world Shelf = Unit
IsArcsFault a world (Damaged f at) = IsShortOfEither (arcs_of a) world (stream.Damaged f at)
IsArcsFault a world RunsSpent = ⊥

-- one of them is the cause that a sweep isn't rebuilt
pub data IsCause (step : ℕ) (m : SavedMachine) (world : World) (e : SortFault) : Type 0 where
  OfFirst : IsOperandFault m.variables step m.first.file m.first.read world e → IsCause step m world e
  OfSecond : IsOperandFault m.variables step m.second.file m.second.read world e → IsCause step m world e
  OfThird : IsOperandFault m.variables step m.third.file m.third.read world e → IsCause step m world e
  OfArcs : IsArcsFault m.arcs world e → IsCause step m world e
