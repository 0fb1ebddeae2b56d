-- What is seen of a comparison, what remains of it, and where the two files are damaged.
use Rattle.std.specs.Prelude.{◌≡◌, ◌⊎◌, ℕ, ◌+◌, Bool, List, ◌∷◌, Option, Some, None}
use Rattle.bool_tables.specs.Tables.{same_bits}
use Rattle.rec_words.specs.declared.node.Node.{Node}
use Rattle.shelf_model.specs.declared.file_no.FileNo.{FileNo}
use Rattle.shelf_model.specs.declared.sort_fault.SortFault.{SortFault}
use Rattle.shelf_model.specs.declared.sort_fault.SortFault.TheVariants.{Shelf, Damaged, RunsSpent}
use Rattle.shelf_model.specs.World.{World}
use Rattle.canon_file.specs.Canon.{canon_nodes}
use Rattle.node_file.specs.declared.reader.NodeReader.{NodeReader}
use Rattle.node_file.specs.Readers.{file_of, trailer_of, left_of}
use Rattle.run_tiers.specs.declared.parts.Parts.{Parts}
use Rattle.sweep_core.specs.Accounts.{Accounts}
use Rattle.restrict_eval.specs.declared.comparing.Comparing.{Comparing}
use Rattle.restrict_eval.specs.declared.comparing.Comparing.TheVariants.{Level, Ahead, Answered}
use Rattle.restrict_eval.specs.declared.same.SameSweep.{SameSweep}
use Rattle.node_reading.specs.Reading.{bytes_of, IsBegun, IsReading, IsNodeFault}
use Rattle.restrict_eval.specs.Accounts.{reading_accounts}
use Rattle.restrict_eval.specs.Turns.{Kind}
use Rattle.restrict_eval.specs.Canonical.{IsCanonical, AreLeftBut}

-- the part numbers that weren't taken
abbrev pub parts_of : SameSweep → Parts
parts_of s = s.parts

abbrev pub accounts : Accounts SameSweep
accounts = reading_accounts parts_of

-- the answer, once the comparison has ended
abbrev pub answer_at : Comparing → Option Bool
answer_at Level = None
answer_at (Ahead x) = None
answer_at (Answered b) = Some b

abbrev pub answer_of : SameSweep → Option Bool
answer_of s = answer_at s.state

-- no more turns than these remain: one for each node that isn't read, and one; none where it has ended
abbrev pub fuel_at : Comparing → ℕ → ℕ
fuel_at Level n = n + 1
fuel_at (Ahead x) n = n + 1
fuel_at (Answered b) n = 0

abbrev pub turns_left : SameSweep → ℕ
turns_left s = fuel_at s.state (left_of s.left + left_of s.right)

-- the two files that are compared, of how many variables each is, and the part numbers that weren't taken
pub record Compared : Type 0 where
  pub first : FileNo
  pub second : FileNo
  pub first_variables : ℕ
  pub second_variables : ℕ
  pub parts : Parts

-- what no turn changes
abbrev pub task_of : SameSweep → Compared
task_of s = record {
  first = file_of s.left;
  second = file_of s.right;
  first_variables = (trailer_of s.left).n;
  second_variables = (trailer_of s.right).n;
  parts = s.parts;
}

-- what is true of it whatever the folder holds
pub record IsReady (s : SameSweep) : Type 0 where
  pub left_begun : IsBegun s.left
  pub right_begun : IsBegun s.right
  pub variables : (trailer_of s.left).n ≡ (trailer_of s.right).n

-- what it has read is as its files say
pub record IsInStep (s : SameSweep) (world : World) : Type 0 where
  pub left_reads : IsReading s.left world
  pub right_reads : IsReading s.right world

-- two tables of n variables
pub record Tables : Type 0 where
  pub n : ℕ
  pub first : List Bool
  pub second : List Bool

-- the same nodes were given of both files, and perhaps one more of the first; or the answer is whether the tables are
-- the same
abbrev pub AreCompared : Comparing → Tables → NodeReader → NodeReader → World → Type 0
AreCompared Level d left right world = (given : List Node)
    × AreLeftBut left (bytes_of left world) (canon_nodes d.n d.first) given
    × AreLeftBut right (bytes_of right world) (canon_nodes d.n d.second) given
AreCompared (Ahead x) d left right world = (given : List Node)
    × AreLeftBut left (bytes_of left world) (canon_nodes d.n d.first) (x ∷ given)
    × AreLeftBut right (bytes_of right world) (canon_nodes d.n d.second) given
AreCompared (Answered b) d left right world = b ≡ same_bits d.first d.second

-- the files are the canonical ones of the two tables, and what was read of them is compared
pub record RemainsOf (s : SameSweep) (world : World) (d : Tables) : Type 0 where
  pub first_is : IsCanonical d.n d.first s.left world
  pub second_is : IsCanonical d.n d.second s.right world
  pub compared : AreCompared s.state d s.left s.right world

-- a node of either file is damaged
abbrev pub IsDamage : SameSweep → World → SortFault → Type 0
IsDamage s world Shelf = Unit
IsDamage s world (Damaged f at) = IsNodeFault s.left world (Damaged f at) ⊎ IsNodeFault s.right world (Damaged f at)
IsDamage s world RunsSpent = ⊥

-- a call of the folder failed, or one of the two files is damaged
abbrev pub IsFaultOfEither : FileNo → FileNo → SortFault → Type 0
IsFaultOfEither f g Shelf = Unit
IsFaultOfEither f g (Damaged h at) = (h ≡ f) ⊎ (h ≡ g)
IsFaultOfEither f g RunsSpent = ⊥

-- what is seen of comparisons
abbrev pub comparisons : Kind SameSweep
comparisons = record {
  Job = Tables;
  remains = RemainsOf;
  fuel = turns_left;
  answer = answer_of;
  ready = IsReady;
  in_step = IsInStep;
  trusts = λ s world. Unit;
  damaged = IsDamage;
  refuses = λ s. IsFaultOfEither (file_of s.left) (file_of s.right);
  parts = parts_of;
  Task = Compared;
  task = task_of;
}
