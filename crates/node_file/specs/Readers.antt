-- What is seen of a reader of a node file.
use Rattle.std.specs.Prelude.{◌≡◌, ◌⊎◌, ℕ, ◌+◌, ◌-◌, ◌*◌, ◌/◌, ◌<◌, IsSome, List, Result, Option, Ok, Err, Some, None, IfSome}
use Rattle.rec_words.specs.Words.{node_size}
use Rattle.rec_words.specs.Records.{node_words, IsNode}
use Rattle.rec_words.specs.declared.node.Node.{Node}
use Rattle.shelf_model.specs.declared.file_no.FileNo.{FileNo}
use Rattle.shelf_model.specs.declared.fault.StreamFault.{StreamFault}
use Rattle.shelf_model.specs.declared.fault.StreamFault.TheVariants.{Shelf, Damaged}
use Rattle.canon_file.specs.Members.{Has}
use Rattle.canon_file.specs.NodeFiles.{IsProper, IsDescending}
use Rattle.block_stream.specs.Reads.{place_of, waits_behind, TakesBehind, IsDamageOf}
use Rattle.block_stream.specs.Items.{AreBehind}
use Rattle.block_stream.specs.Backwards as stream
use Rattle.node_file.specs.declared.trailer.Trailer.{Trailer}
use Rattle.node_file.specs.declared.reader.NodeReader.{NodeReader}
use Rattle.node_file.specs.Nodes.{identifier_at, IsNodeAt, IsNodeDamage}

-- the file that is read
abbrev pub file_of : NodeReader → FileNo
file_of r = (stream.reading_of r.nodes).file

-- what ends it
abbrev pub trailer_of : NodeReader → Trailer
trailer_of r = r.trailer

-- how many nodes are not yet given
abbrev pub left_of : NodeReader → ℕ
left_of r = place_of (stream.reading_of r.nodes)

-- the identifier that was given last
abbrev pub given_of : NodeReader → Option ℕ
given_of r = r.given

-- how many nodes wait in its window, and how many its window has room for
abbrev pub waiting_of : NodeReader → ℕ
waiting_of r = waits_behind (stream.reading_of r.nodes)

abbrev pub room_of : NodeReader → ℕ
room_of r = stream.room_of r.nodes

-- of the nodes that waited one is given; where none did, of as many as the window, a piece and what is left allow
abbrev pub Takes : NodeReader → NodeReader → Result (Option Node) StreamFault → Type 0
Takes old new result = (room_of new ≡ room_of old)
    × TakesBehind (room_of old) (stream.reading_of old.nodes) (stream.reading_of new.nodes) result

-- how many calls load so many nodes at most: each loads eight, or all that are left
abbrev pub loads_of : ℕ → ℕ
loads_of nodes = (nodes + 7) / 8

-- what it has read is as these bytes of its file say
pub record Reads (r : NodeReader) (bytes : List ℕ) : Type 0 where
  pub loaded : stream.Reads r.nodes bytes
  pub last : IfSome r.given (λ g. identifier_at (left_of r) bytes ≡ g)

-- these nodes are not yet given: they may stand in a file for so many variables, and their identifiers descend to the
-- one given last
pub record AreLeft (r : NodeReader) (bytes : List ℕ) (xs : List Node) : Type 0 where
  pub behind : AreBehind IsNode node_words (stream.reading_of r.nodes) bytes xs
  pub proper : (x : Node) → Has x xs → IsProper r.trailer.n x
  pub descend : IsDescending xs
  pub above : IfSome r.given (λ g. (x : Node) → Has x xs → g < x.uid)

-- a node is the next one from the end on, its identifier above the one before; None is answered at the front alone
abbrev pub GoesUp : NodeReader → NodeReader → Result (Option Node) StreamFault → Type 0
GoesUp old new (Ok (Some x)) = IsProper old.trailer.n x × (left_of old ≡ left_of new + 1)
    × IfSome old.given (λ g. g < x.uid) × (new.given ≡ Some x.uid)
GoesUp old new (Ok None) = (left_of old ≡ 0) × (left_of new ≡ 0) × (new.given ≡ old.given)
GoesUp old new (Err e) = (0 < left_of old) × IsDamageOf (file_of old) e

-- damage lies at the next node of the file, of which so many are left, or at the one that was given last
abbrev pub IsNodePlace : FileNo → ℕ → Option ℕ → StreamFault → Type 0
IsNodePlace file left given Shelf = Unit
IsNodePlace file left given (Damaged f at) = (f ≡ file)
    × ((at ≡ (left - 1) * node_size) ⊎ ((at ≡ left * node_size) × IsSome given))

-- the node that is answered is the one at its place, and damage is that of the next node or of the one behind it
abbrev pub IsNodeAnswer : ℕ → ℕ → List ℕ → Result (Option Node) StreamFault → Type 0
IsNodeAnswer n left bytes (Ok (Some x)) = IsNodeAt n (left - 1) bytes x
IsNodeAnswer n left bytes (Ok None) = Unit
IsNodeAnswer n left bytes (Err e) = IsNodeDamage n left bytes e
