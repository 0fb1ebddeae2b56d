-- What an operator is given, and what is made of it.
use Rattle.std.specs.Prelude.{◌≡◌, ◌⊎◌, ℕ, ◌+◌, ◌≤◌, List, Bool, length}
use Rattle.shelf_model.specs.declared.file_no.FileNo.{FileNo}
use Rattle.shelf_model.specs.declared.fault.StreamFault.{StreamFault}
use Rattle.shelf_model.specs.declared.fault.StreamFault.TheVariants.{Shelf, Damaged}
use Rattle.shelf_model.specs.World.{World, file}
use Rattle.canon_file.specs.Canon.{canon_nodes, canon_root}
use Rattle.node_file.specs.Canonical.{IsCanonicalFile}
use Rattle.node_file.specs.Nodes.{IsTrailerDamage}
use Rattle.node_file.specs.declared.trailer.Trailer.{Trailer}
use Rattle.copied_diagrams.specs.declared.operand.Operand.{Operand}
use Rattle.copied_diagrams.specs.declared.operand.Operand.TheVariants.{Left, Right}
use Rattle.copied_diagrams.specs.declared.pair.Pair.{Pair}
use Rattle.copied_diagrams.specs.declared.source.Source.{Source}

-- the operands' files are those of two tables
pub record ArePair (n : ℕ) (left right : FileNo) (t u : List Bool) (world : World) : Type 0 where
  pub first : IsCanonicalFile n t left world
  pub second : IsCanonicalFile n u right world

-- how many nodes the diagrams of both have
abbrev pub nodes_of_both : ℕ → List Bool → List Bool → ℕ
nodes_of_both n t u = length (canon_nodes n t) + length (canon_nodes n u)

-- the file has no trailer for n variables where one had to stand
abbrev pub IsOperandDamage : ℕ → FileNo → World → StreamFault → Type 0
IsOperandDamage n read world Shelf = Unit
IsOperandDamage n read world (Damaged f at) = (f ≡ read) × IsTrailerDamage n (file world read).bytes (Damaged f at)

-- one of two files has none
abbrev pub IsPairDamage : ℕ → FileNo → FileNo → World → StreamFault → Type 0
IsPairDamage n left right world e = IsOperandDamage n left world e ⊎ IsOperandDamage n right world e

-- the source is of that file, with a trailer for n variables
abbrev pub IsOf : ℕ → FileNo → Source → Type 0
IsOf n f source = (source.from ≡ f) × (source.trailer.n ≡ n)

-- the trailer is that of the table's diagram
pub record IsTrailerOf (n : ℕ) (t : List Bool) (trailer : Trailer) : Type 0 where
  pub root_is : trailer.root ≡ canon_root n t
  pub count_is : trailer.count ≡ length (canon_nodes n t)

-- so are those of two operands
abbrev pub AreTrailersOf : ℕ → List Bool → List Bool → Pair → Type 0
AreTrailersOf n t u pair = IsTrailerOf n t pair.left.trailer × IsTrailerOf n u pair.right.trailer

-- the source is the canonical file of the table, with its trailer, of no more nodes than so many
pub record IsSourceOf (n : ℕ) (table : List Bool) (most : ℕ) (source : Source) (world : World) : Type 0 where
  pub of : IsCanonicalFile n table source.from world
  pub trailer : IsTrailerOf n table source.trailer
  pub few : source.trailer.count ≤ most

-- what that operand has, of two
abbrev pub of_operand : {X : Type 0} → Operand → X → X → X
of_operand Left x y = x
of_operand Right x y = y
