-- Nodes that are named in a file and aren't there, and what of a file is known of pointers.
use Rattle.std.specs.Prelude.{◌≡◌, ◌≢◌, ◌⊎◌, ℕ, ◌+◌, ◌*◌, ◌<◌, ◌≤◌, List, slice_index}
use Rattle.rec_words.specs.Words.{node_size, IsTerminal, IsNodeWord}
use Rattle.rec_words.specs.declared.node.Node.{Node}
use Rattle.shelf_model.specs.declared.file_no.FileNo.{FileNo}
use Rattle.shelf_model.specs.declared.sort_fault.SortFault.{SortFault}
use Rattle.shelf_model.specs.declared.sort_fault.SortFault.TheVariants.{Shelf, Damaged, RunsSpent}
use Rattle.shelf_model.specs.World.{World, file}
use Rattle.block_stream.specs.Records.{record_at}
use Rattle.node_file.specs.Nodes.{identifier_at, IsNodeAt, HasTrailer}
use Rattle.node_reading.specs.Reading.{count_of, IsTrailerFault, IsDamagedNode}

-- a node at that place, or nearer the file's end, names the pointer on one of its sides
pub record IsNamed (bytes : List ℕ) (from pointer : ℕ) : Type 0 where
  pub place : ℕ
  pub since : from ≤ place
  pub among : place < count_of bytes
  pub side : (slice_index (record_at 3 place bytes).w 1 ≡ pointer)
      ⊎ (slice_index (record_at 3 place bytes).w 2 ≡ pointer)

-- a node that is named there, and that is none of the file's
pub record IsMissing (bytes : List ℕ) (from pointer : ℕ) : Type 0 where
  pub node : IsNodeWord pointer
  pub named : IsNamed bytes from pointer
  pub absent : (k : ℕ) → k < count_of bytes → identifier_at k bytes ≢ pointer

-- a missing node would have to stand between the one at the place and the one behind it, or in front of the first one
pub record IsMissedAt (bytes : List ℕ) (at : ℕ) : Type 0 where
  pub place : ℕ
  pub among : place < count_of bytes
  pub at_is : at ≡ place * node_size
  pub pointer : ℕ
  pub missing : IsMissing bytes place pointer
  pub beside : ((place + 1 < count_of bytes) × (identifier_at (place + 1) bytes < pointer)
      × (pointer < identifier_at place bytes))
      ⊎ ((place ≡ 0) × (identifier_at 0 bytes < pointer))

-- that node isn't there: the record at the place comes behind it, and the one that is read before
-- that comes before it
pub record IsPassed (bytes : List ℕ) (key at : ℕ) : Type 0 where
  pub place : ℕ
  pub among : place < count_of bytes
  pub at_is : at ≡ place * node_size
  pub behind : key < identifier_at place bytes
  pub before : place + 1 < count_of bytes → identifier_at (place + 1) bytes < key

-- nor is it there where each node of the file comes before it
pub record IsBehindAll (bytes : List ℕ) (key at : ℕ) : Type 0 where
  pub at_is : at ≡ 0
  pub before : 0 < count_of bytes → identifier_at 0 bytes < key

-- a node is asked for that isn't there
abbrev pub IsAbsent : List ℕ → ℕ → ℕ → Type 0
IsAbsent bytes key at = IsPassed bytes key at ⊎ IsBehindAll bytes key at

-- a record of the file has that identifier
pub record IsThere (bytes : List ℕ) (pointer : ℕ) : Type 0 where
  pub place : ℕ
  pub among : place < count_of bytes
  pub is : identifier_at place bytes ≡ pointer

-- the pointer is a truth value, that of a node of the file, or one that a node of it names
abbrev pub IsKnown : List ℕ → ℕ → Type 0
IsKnown bytes pointer = IsTerminal pointer ⊎ (IsThere bytes pointer ⊎ IsNamed bytes 0 pointer)

-- the file is one of n variables: it ends with a trailer, each record is that of a node that may stand there, and their
-- identifiers descend
pub record IsWhole (n : ℕ) (bytes : List ℕ) : Type 0 where
  pub root : ℕ
  pub trailer : HasTrailer n root bytes
  pub nodes : (k : ℕ) → k < count_of bytes → (x : Node) × IsNodeAt n k bytes x
  pub ordered : (k : ℕ) → k + 1 < count_of bytes → identifier_at (k + 1) bytes < identifier_at k bytes

-- a call of the folder failed, the file has no trailer for n variables where one had to stand, or a node of it is
-- damaged
abbrev pub IsWholeFault : ℕ → FileNo → World → SortFault → Type 0
IsWholeFault n f world Shelf = Unit
IsWholeFault n f world (Damaged g at) = IsTrailerFault f n world (Damaged g at)
    ⊎ ((g ≡ f) × IsDamagedNode n (file world f).bytes at)
IsWholeFault n f world RunsSpent = ⊥
