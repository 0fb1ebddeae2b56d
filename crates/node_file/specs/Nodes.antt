-- The nodes and the trailer in the bytes of a node file, and what of them is damaged.
use Rattle.std.specs.Prelude.{◌≡◌, ◌⊎◌, ℕ, ◌-◌, ◌*◌, ◌/◌, ◌^◌, ◌<◌, ◌≤◌, ◌==◌, Bool, not, ◌&&◌, nat_lt, List, ◌++◌, length, map, slice_index}
use Rattle.rec_words.specs.Words.{node_size, level_of, IsTerminal, IsNodeWord}
use Rattle.rec_words.specs.Records.{node_words}
use Rattle.rec_words.specs.declared.rec.Rec.{Rec}
use Rattle.rec_words.specs.declared.node.Node.{Node}
use Rattle.shelf_model.specs.declared.fault.StreamFault.{StreamFault}
use Rattle.shelf_model.specs.declared.fault.StreamFault.TheVariants.{Shelf, Damaged}
use Rattle.canon_file.specs.Members.{Has}
use Rattle.canon_file.specs.NodeFiles.{IsProper, IsDescending, EndsAt}
use Rattle.canon_file.specs.Canon.{node_bytes, trailer_bytes}
use Rattle.block_stream.specs.Records.{record_at, record_bytes, records_bytes, records_of}
use Rattle.block_stream.specs.Items.{item_record}
use Rattle.block_stream.specs.Reads.{IsRecordOf, DidLoad}

-- how many nodes one call moves at most: so many have room in a piece
abbrev pub piece_nodes : ℕ
piece_nodes = 85

-- the records of nodes: of each its identifier, its low and its high pointer
abbrev pub node_records : List Node → List Rec
node_records xs = map (item_record node_words) xs

-- the bytes of the node that a record holds, and those of the nodes that records hold
abbrev pub held_node : Rec → List ℕ
held_node r = record_bytes 3 r

abbrev pub held_nodes : List Rec → List ℕ
held_nodes rs = records_bytes 3 rs

-- the records of the first so many nodes in the bytes of a file
abbrev pub records_in : ℕ → List ℕ → List Rec
records_in count bytes = records_of 3 count bytes

-- n nodes were read from a place on, where so many were wanted: fewer only where the next one isn't whole
abbrev pub DidLoadNodes : ℕ → ℕ → ℕ → List Rec → List ℕ → Type 0
DidLoadNodes place wanted n window bytes = DidLoad 3 place wanted n window bytes

-- the first word of the record at a place
abbrev pub identifier_at : ℕ → List ℕ → ℕ
identifier_at place bytes = slice_index (record_at 3 place bytes).w 0

-- the node's level is below n, and its two pointers differ, each a truth value or a node of a deeper level
abbrev pub is_sound : ℕ → Node → Bool
is_sound n x = nat_lt (level_of x.uid) n && not (x.low == x.high) && nat_lt (level_of x.uid) (level_of x.low) && nat_lt
    (level_of x.uid) (level_of x.high)

-- a whole record stands at that place, and it is that of this node, which may stand in a file for n variables
pub record IsNodeAt (n place : ℕ) (bytes : List ℕ) (x : Node) : Type 0 where
  pub proper : IsProper n x
  pub record_is : IsRecordOf node_words 3 place bytes x

-- where so many nodes are left, the damage is that of the next one, at whose place stands no whole record of such a
-- node, or that of the one behind it, whose identifier isn't below that of the next one
abbrev pub IsNodeDamage : ℕ → ℕ → List ℕ → StreamFault → Type 0
IsNodeDamage n left bytes Shelf = Unit
IsNodeDamage n left bytes (Damaged f at) =
    ((at ≡ (left - 1) * node_size) × ((x : Node) → ¬ IsNodeAt n (left - 1) bytes x))
    ⊎ ((at ≡ left * node_size) × (identifier_at (left - 1) bytes ≤ identifier_at left bytes))

-- such damage was met with more nodes left than the first number, and no more than the second
abbrev pub IsMetBetween : ℕ → ℕ → ℕ → List ℕ → StreamFault → Type 0
IsMetBetween n from to bytes e = (left : ℕ) × (from < left) × (left ≤ to) × IsNodeDamage n left bytes e

-- the root of so many nodes is that of a node, or a truth value where there is none
pub record IsRoot (count root : ℕ) : Type 0 where
  pub none : count ≡ 0 → IsTerminal root
  pub some : 0 < count → IsNodeWord root

-- a trailer is a root, how many nodes there are, and n; the root is the identifier of the last node, or a truth value
-- where there is none
pub record IsTrailer (n count root : ℕ) (trailer last : Rec) : Type 0 where
  pub root_is : slice_index trailer.w 0 ≡ root
  pub count_is : slice_index trailer.w 1 ≡ count
  pub variables : slice_index trailer.w 2 ≡ n
  pub none : count ≡ 0 → IsTerminal root
  pub some : 0 < count → IsNodeWord root × (slice_index last.w 0 ≡ root)

-- the bytes are whole records, the last of which is a trailer
pub record HasTrailer (n root : ℕ) (bytes : List ℕ) : Type 0 where
  pub long : node_size ≤ length bytes
  pub whole : length bytes / node_size * node_size ≡ length bytes
  pub trailer : IsTrailer n (length bytes / node_size - 1) root (record_at 3 (length bytes / node_size - 1) bytes)
      (record_at 3 (length bytes / node_size - 2) bytes)

-- the damage is that of the trailer: at its size before the end, or at the front of a shorter file
abbrev pub IsTrailerDamage : ℕ → List ℕ → StreamFault → Type 0
IsTrailerDamage n bytes Shelf = Unit
IsTrailerDamage n bytes (Damaged f at) = (at ≡ length bytes - node_size) × ((root : ℕ) → ¬ HasTrailer n root bytes)

-- a node file for n variables: its nodes and its trailer
pub record HasNodes (n root : ℕ) (xs : List Node) (bytes : List ℕ) : Type 0 where
  pub bytes_are : bytes ≡ node_bytes xs ++ trailer_bytes root (length xs) n
  pub few : length xs < 2 ^ 64
  pub proper : (x : Node) → Has x xs → IsProper n x
  pub descend : IsDescending xs
  pub ends : EndsAt root xs
