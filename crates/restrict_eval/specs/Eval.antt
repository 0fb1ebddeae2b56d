-- What is seen of an evaluation, what remains of it, and where the file is damaged.
use Rattle.std.specs.Prelude.{◌≡◌, ◌≢◌, ◌⊎◌, ℕ, ◌+◌, ◌<◌, ◌≤◌, Bool, false, cond, List, length, get_or, Option, Some}
use Rattle.std.specs.Prelude.{None}
use Rattle.bool_tables.specs.Tables.{value_at, place_of_bits}
use Rattle.bool_tables.specs.Steps.{bits_at}
use Rattle.rec_words.specs.Words.{level_of, terminal, IsNodeWord, IsPointer}
use Rattle.rec_words.specs.declared.node.Node.{Node}
use Rattle.shelf_model.specs.declared.file_no.FileNo.{FileNo}
use Rattle.shelf_model.specs.declared.sort_fault.SortFault.{SortFault}
use Rattle.shelf_model.specs.declared.sort_fault.SortFault.TheVariants.{Shelf, Damaged, RunsSpent}
use Rattle.shelf_model.specs.World.{World}
use Rattle.canon_file.specs.Canon.{canon_nodes}
use Rattle.canon_file.specs.Walks.{walk}
use Rattle.arc_diagrams.specs.Arcs.{targets_of, arcs_of}
use Rattle.top_down_laws.specs.Readings.{IsIn}
use Rattle.node_file.specs.declared.reader.NodeReader.{NodeReader}
use Rattle.node_file.specs.Nodes.{identifier_at}
use Rattle.node_file.specs.Readers.{file_of, trailer_of, left_of, given_of}
use Rattle.run_tiers.specs.declared.parts.Parts.{Parts}
use Rattle.sweep_core.specs.Accounts.{Accounts}
use Rattle.restrict_eval.specs.declared.following.Following.{Following}
use Rattle.restrict_eval.specs.declared.following.Following.TheVariants.{To, Past, Answered}
use Rattle.restrict_eval.specs.declared.eval.EvalSweep.{EvalSweep}
use Rattle.node_reading.specs.Reading.{bytes_of, count_of, IsBegun, IsReading, IsNodeFault, IsFaultOf}
use Rattle.node_reading.specs.Missing.{IsNamed, IsMissedAt}
use Rattle.restrict_eval.specs.Accounts.{reading_accounts}
use Rattle.restrict_eval.specs.Turns.{Kind}
use Rattle.restrict_eval.specs.Canonical.{IsCanonical, AreLeftBut}

-- the part numbers that weren't taken
abbrev pub parts_of : EvalSweep → Parts
parts_of s = s.parts

abbrev pub accounts : Accounts EvalSweep
accounts = reading_accounts parts_of

-- the bits of the assignment
abbrev pub bits_of : EvalSweep → List Bool
bits_of s = bits_at (trailer_of s.nodes).n s.text.now s.at

-- the answer, once the evaluation has ended
abbrev pub answer_at : Following → Option Bool
answer_at (To next) = None
answer_at (Past q) = None
answer_at (Answered b) = Some b

abbrev pub answer_of : EvalSweep → Option Bool
answer_of s = answer_at s.state

-- no more turns than these remain: one for each node that isn't read, and one; none where it has ended
abbrev pub fuel_at : Following → ℕ → ℕ
fuel_at (To next) n = n + 1
fuel_at (Past q) n = n + 1
fuel_at (Answered b) n = 0

abbrev pub turns_left : EvalSweep → ℕ
turns_left s = fuel_at s.state (left_of s.nodes)

-- the file that is read, of how many variables it is, the text whose bytes from a place on are the bits, and the part
-- numbers that weren't taken
pub record Evaluated : Type 0 where
  pub file : FileNo
  pub variables : ℕ
  pub text : List ℕ
  pub at : ℕ
  pub parts : Parts

-- what no turn changes
abbrev pub task_of : EvalSweep → Evaluated
task_of s = record {
  file = file_of s.nodes;
  variables = (trailer_of s.nodes).n;
  text = s.text.now;
  at = s.at;
  parts = s.parts;
}

-- the place is one of so many
abbrev pub IsPlaceAt : Following → ℕ → Type 0
IsPlaceAt (To next) count = Unit
IsPlaceAt (Past q) count = q < count
IsPlaceAt (Answered b) count = Unit

-- what is true of it whatever the folder holds
pub record IsReady (s : EvalSweep) : Type 0 where
  pub begun : IsBegun s.nodes
  pub file_is : s.file ≡ file_of s.nodes
  pub bits : s.at + (trailer_of s.nodes).n ≤ length s.text.now
  pub place : IsPlaceAt s.state (trailer_of s.nodes).count

-- a pointer was come to: it is the root, of which nothing was read, or a node that was read names it; and all that
-- were read are above it
pub record IsPath (root left : ℕ) (bytes : List ℕ) (p : ℕ) : Type 0 where
  pub pointer : IsPointer p
  pub above : (k : ℕ) → left ≤ k → k < count_of bytes → identifier_at k bytes < p
  pub named : ((left ≡ count_of bytes) × (p ≡ root)) ⊎ IsNamed bytes left p

-- a pointer was passed, between the node at place q and the one behind it, and no node that was read since is the one
-- that it leads to
pub record IsPassed (left : ℕ) (given : Option ℕ) (bytes : List ℕ) (q : ℕ) : Type 0 where
  pub pointer : ℕ
  pub node : IsNodeWord pointer
  pub absent : (k : ℕ) → left ≤ k → k < count_of bytes → identifier_at k bytes ≢ pointer
  pub last : (g : ℕ) × (given ≡ Some g) × (pointer < g)
  pub read : left ≤ q
  pub among : q + 1 < count_of bytes
  pub behind : identifier_at (q + 1) bytes < pointer
  pub before : pointer < identifier_at q bytes
  pub named : IsNamed bytes (q + 1) pointer

abbrev pub IsOn : Following → ℕ → ℕ → Option ℕ → List ℕ → Type 0
IsOn (To next) root left given bytes = IsPath root left bytes next.pointer
IsOn (Past q) root left given bytes = IsPassed left given bytes q
IsOn (Answered b) root left given bytes = Unit

-- what it has read is as its file says
abbrev pub IsInStep : EvalSweep → World → Type 0
IsInStep s world = IsReading s.nodes world

-- and the nodes that were read have led to where it is
abbrev pub HasCome : EvalSweep → World → Type 0
HasCome s world = IsOn s.state (trailer_of s.nodes).root (left_of s.nodes) (given_of s.nodes) (bytes_of s.nodes world)

-- a table of n variables
pub record OneTable : Type 0 where
  pub n : ℕ
  pub table : List Bool

-- the path goes on from the pointer to the table's value, and its node isn't read yet
pub record IsOnWay (r : NodeReader) (bytes : List ℕ) (nodes : List Node) (bits : List Bool) (value : Bool)
    (p : ℕ) : Type 0 where
  pub given : List Node
  pub but : AreLeftBut r bytes nodes given
  pub next : IsIn but.rest p
  pub walks : walk (targets_of (arcs_of nodes)) 0 bits p ≡ terminal value

abbrev pub IsFollowed : Following → NodeReader → List ℕ → List Node → List Bool → Bool → Type 0
IsFollowed (To next) r bytes nodes bits value = IsOnWay r bytes nodes bits value next.pointer
IsFollowed (Past q) r bytes nodes bits value = ⊥
IsFollowed (Answered b) r bytes nodes bits value = b ≡ value

-- the file is the canonical one of the table, and the path leads to the table's value
pub record RemainsOf (s : EvalSweep) (world : World) (d : OneTable) : Type 0 where
  pub file_is : IsCanonical d.n d.table s.nodes world
  pub followed : IsFollowed s.state s.nodes (bytes_of s.nodes world) (canon_nodes d.n d.table) (bits_of s)
      (value_at d.table (place_of_bits (bits_of s)))
  pub come : HasCome s world

-- a node of the file is damaged, or one is missing beside it
abbrev pub IsDamage : EvalSweep → World → SortFault → Type 0
IsDamage s world Shelf = Unit
IsDamage s world (Damaged f at) = IsNodeFault s.nodes world (Damaged f at)
    ⊎ ((f ≡ file_of s.nodes) × IsMissedAt (bytes_of s.nodes world) at)
IsDamage s world RunsSpent = ⊥

-- where a node leads to on the side that the bit of its level names
abbrev pub side_by : List Bool → Node → ℕ
side_by bits x = cond (get_or bits (level_of x.uid) false) x.high x.low

-- what is seen of evaluations
abbrev pub evaluations : Kind EvalSweep
evaluations = record {
  Job = OneTable;
  remains = RemainsOf;
  fuel = turns_left;
  answer = answer_of;
  ready = IsReady;
  in_step = IsInStep;
  trusts = HasCome;
  damaged = IsDamage;
  refuses = λ s. IsFaultOf (file_of s.nodes);
  parts = parts_of;
  Task = Evaluated;
  task = task_of;
}
