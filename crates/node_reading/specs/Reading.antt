-- What the reading of the next node of a file within a turn gives, and where the file is damaged.
use Rattle.std.specs.Prelude.{◌≡◌, ◌⊎◌, ℕ, ◌+◌, ◌-◌, ◌*◌, ◌/◌, ◌<◌, ◌≤◌, Bool, IsTrue, List, [], ◌∷◌, ◌++◌, length, Result, Option, Ok, Err, Some, None, IsSome, IfSome, OnOk, IfErr}
use Rattle.rec_words.specs.Words.{node_size}
use Rattle.rec_words.specs.declared.node.Node.{Node}
use Rattle.shelf_model.specs.declared.file_no.FileNo.{FileNo}
use Rattle.shelf_model.specs.declared.sort_fault.SortFault.{SortFault}
use Rattle.shelf_model.specs.declared.sort_fault.SortFault.TheVariants.{Shelf, Damaged, RunsSpent}
use Rattle.shelf_model.specs.Calls.{Told}
use Rattle.shelf_model.specs.Faults.{Faults}
use Rattle.shelf_model.specs.World.{World, file}
use Rattle.run_tiers.specs.Faults.{OnlySortShelf}
use Rattle.block_stream.specs.Reads.{Looked}
use Rattle.canon_file.specs.NodeFiles.{IsProper}
use Rattle.node_file.specs.declared.reader.NodeReader.{NodeReader}
use Rattle.node_file.specs.Nodes.{HasTrailer, IsNodeAt, identifier_at}
use Rattle.node_file.specs.Readers.{file_of, trailer_of, left_of, given_of, Reads, AreLeft}

-- the bytes of the file that is read
abbrev pub bytes_of : NodeReader → World → List ℕ
bytes_of r world = (file world (file_of r)).bytes

-- how many nodes a file of these bytes has
abbrev pub count_of : List ℕ → ℕ
count_of bytes = length bytes / node_size - 1

-- where a node was given, not all are left
abbrev pub IsBegun : NodeReader → Type 0
IsBegun r = IsSome (given_of r) → left_of r < (trailer_of r).count

-- what it has read is as the bytes of its file say, and their trailer is the one that it has
pub record IsReading (r : NodeReader) (world : World) : Type 0 where
  pub reads : Reads r (bytes_of r world)
  pub trailer : HasTrailer (trailer_of r).n (trailer_of r).root (bytes_of r world)
  pub count : (trailer_of r).count ≡ count_of (bytes_of r world)

-- a node of the file is damaged: its record isn't that of a node that may stand there, or its identifier isn't below
-- that of the
-- record before it
pub record IsDamagedNode (n : ℕ) (bytes : List ℕ) (at : ℕ) : Type 0 where
  pub place : ℕ
  pub among : place < count_of bytes
  pub at_is : at ≡ place * node_size
  pub damaged : ((x : Node) → ¬ IsNodeAt n place bytes x)
      ⊎ ((0 < place) × (identifier_at (place - 1) bytes ≤ identifier_at place bytes))

-- a call of the folder failed, or a node of the file is damaged
abbrev pub IsNodeFault : NodeReader → World → SortFault → Type 0
IsNodeFault r world Shelf = Unit
IsNodeFault r world (Damaged f at) = (f ≡ file_of r) × IsDamagedNode (trailer_of r).n (bytes_of r world) at
IsNodeFault r world RunsSpent = ⊥

-- a call of the folder failed, or the file is damaged
abbrev pub IsFaultOf : FileNo → SortFault → Type 0
IsFaultOf file Shelf = Unit
IsFaultOf file (Damaged f at) = f ≡ file
IsFaultOf file RunsSpent = ⊥

-- a call of the folder failed, or the file of that number has no trailer for n variables where one had to stand
abbrev pub IsTrailerFault : FileNo → ℕ → World → SortFault → Type 0
IsTrailerFault f n world Shelf = Unit
IsTrailerFault f n world (Damaged g at) = (g ≡ f) × (at ≡ length (file world f).bytes - node_size)
    × ((root : ℕ) → ¬ HasTrailer n root (file world f).bytes)
IsTrailerFault f n world RunsSpent = ⊥

-- a node is the next one from the end on, its identifier above the one before; None is answered at the front alone
abbrev pub Rises : NodeReader → NodeReader → Result (Option Node) SortFault → Type 0
Rises old new (Ok (Some x)) = IsProper (trailer_of old).n x × (left_of old ≡ left_of new + 1)
    × IfSome (given_of old) (λ g. g < x.uid) × (given_of new ≡ Some x.uid)
Rises old new (Ok None) = (left_of old ≡ 0) × (left_of new ≡ 0) × (given_of new ≡ given_of old)
Rises old new (Err e) = Unit

-- the node is the one at its place
abbrev pub IsItsNode : NodeReader → List ℕ → Result (Option Node) SortFault → Type 0
IsItsNode new bytes (Ok (Some x)) = IsNodeAt (trailer_of new).n (left_of new) bytes x
IsItsNode new bytes (Ok None) = Unit
IsItsNode new bytes (Err e) = Unit

-- of the nodes that are left the last is given; None is answered where there is none, and no damage is found
abbrev pub GivesOf : NodeReader → List ℕ → List Node → Result (Option Node) SortFault → Type 0
GivesOf new bytes xs (Ok (Some x)) = (rest : List Node) × (xs ≡ rest ++ x ∷ []) × AreLeft new bytes rest
GivesOf new bytes xs (Ok None) = xs ≡ []
GivesOf new bytes xs (Err e) = e ≡ Shelf

-- what the call gives, leaves and costs, and why it is refused
pub record GivesNode {S : Type 0} (tells : S → Bool) (world : S → World) (counts : S → Faults) (before after : S)
    (old new : NodeReader) (result : Result (Option Node) SortFault) : Type 0 where
  pub file_is : file_of new ≡ file_of old
  pub trailer_is : trailer_of new ≡ trailer_of old
  pub rises : Rises old new result
  pub begun : OnOk result (IsBegun new)
  pub same : IsTrue (tells after) → bytes_of new (world after) ≡ bytes_of old (world before)
  pub reads : OnOk result (IsTrue (tells after) → IsReading new (world after))
  pub value : IsTrue (tells after) → IsItsNode new (bytes_of old (world before)) result
  pub items : IsTrue (tells after) → (xs : List Node) → AreLeft old (bytes_of old (world before)) xs →
      GivesOf new (bytes_of old (world before)) xs result
  pub damage : IfErr result (λ e. IsTrue (tells after) → IsNodeFault old (world before) e)
  pub refused : IfErr result (IsFaultOf (file_of old))
  pub content : Told tells before after (Looked 1 (world before) (world after))
  pub faults : OnlySortShelf (counts before) (counts after) result
