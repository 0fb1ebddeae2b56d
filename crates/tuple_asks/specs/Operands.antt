-- What is true of operands whatever the folder holds, and how far they were read.
use Rattle.std.specs.Prelude.{◌≡◌, ℕ, ◌≤◌, Option, None, IfSome, ◌⊎◌, Some}
use Rattle.rec_words.specs.Words.{level_of}
use Rattle.shelf_model.specs.declared.file_no.FileNo.{FileNo}
use Rattle.shelf_model.specs.World.{World}
use Rattle.node_reading.specs.Reading.{IsReading, IsBegun}
use Rattle.tuple_asks.specs.declared.ask.Ask.{Ask}
use Rattle.tuple_asks.specs.declared.operand.Operand.{Operand}
use Rattle.tuple_asks.specs.declared.operand.Operands.{Operands}
use Rattle.tuple_asks.specs.declared.files.Files.{Files}
use Rattle.shelf_model.specs.declared.sort_fault.SortFault.{SortFault}
use Rattle.shelf_model.specs.declared.sort_fault.SortFault.TheVariants.{Shelf, Damaged, RunsSpent}
use Rattle.canon_file.specs.NodeFiles.{IsProper}
use Rattle.rec_words.specs.declared.node.Node.{Node}
use Rattle.node_file.specs.declared.reader.NodeReader.{NodeReader}
use Rattle.node_file.specs.Readers as nodes

-- the node at hand, where there is one, comes no later than that one
abbrev pub IsReadTo : ℕ → Operand → Type 0
IsReadTo key o = IfSome o.hand (λ x. x.uid ≤ key)

-- no operand was read past the ask's node
pub record Fits (o : Operands) (a : Ask) : Type 0 where
  pub first : IsReadTo a.key o.first
  pub second : IsReadTo a.key o.second
  pub third : IsReadTo a.key o.third

-- what was read of the operands is as their files say
pub record AreReading (o : Operands) (world : World) : Type 0 where
  pub first : IsReading o.first.reader world
  pub second : IsReading o.second.reader world
  pub third : IsReading o.third.reader world

-- the operand wasn't read past that level
abbrev pub IsReadWithin : ℕ → Operand → Type 0
IsReadWithin level o = IfSome o.hand (λ x. level_of x.uid ≤ level)

-- so is none of them
pub record AreReadTo (level : ℕ) (o : Operands) : Type 0 where
  pub first : IsReadWithin level o.first
  pub second : IsReadWithin level o.second
  pub third : IsReadWithin level o.third

-- no node is at hand
pub record HasNoHands (o : Operands) : Type 0 where
  pub first : o.first.hand ≡ None
  pub second : o.second.hand ≡ None
  pub third : o.third.hand ≡ None

-- the operands are read from those files
pub record HaveFiles (files : Files) (o : Operands) : Type 0 where
  pub first_is : o.first.file ≡ files.first
  pub second_is : o.second.file ≡ files.second
  pub third_is : o.third.file ≡ files.third

-- it reads the operands
abbrev pub IsRead : Files → FileNo → Type 0
IsRead files f = (f ≡ files.first) ⊎ ((f ≡ files.second) ⊎ (f ≡ files.third))

-- the node at hand is the one that was given last; while there is none, all nodes are left
abbrev pub IsGivenAt : NodeReader → Option Node → Type 0
IsGivenAt r None = nodes.left_of r ≡ (nodes.trailer_of r).count
IsGivenAt r (Some x) = nodes.given_of r ≡ Some x.uid

-- the operand's reader reads its file, and the node at hand may stand there
pub record IsOperand (n : ℕ) (o : Operand) : Type 0 where
  pub file_is : nodes.file_of o.reader ≡ o.file
  pub variables_are : (nodes.trailer_of o.reader).n ≡ n
  pub hand_is : IfSome o.hand (IsProper n)
  pub given_is : IsGivenAt o.reader o.hand
  pub begun : IsBegun o.reader

-- all three are
pub record AreOperands (n : ℕ) (o : Operands) : Type 0 where
  pub first : IsOperand n o.first
  pub second : IsOperand n o.second
  pub third : IsOperand n o.third

-- a call of the folder failed, or an operand is damaged
abbrev pub IsStartDamage : Files → SortFault → Type 0
IsStartDamage files Shelf = Unit
IsStartDamage files (Damaged f at) = IsRead files f
IsStartDamage files RunsSpent = ⊥
