-- the laws of sets of arcs
use Rattle.std.specs.Prelude.{◌≡◌, ◌↔◌, ℕ, ◌^◌, ◌<◌, ◌≤◌, Bool, List, [], ◌++◌, length, replicate, Option, Some}
use Rattle.rec_words.specs.Words.{terminal, level_of, IsTerminal}
use Rattle.rec_words.specs.declared.node.Node.{Node}
use Rattle.canon_file.specs.Members.{Has}
use Rattle.canon_file.specs.Laws.{HasForm}
use Rattle.canon_file.specs.Canon.{canon_nodes, canon_root}
use Rattle.arc_file.specs.declared.arc.Arc.{Arc}
use Rattle.arc_diagrams.specs.Arcs.{IsComplete, StandFor, table_of_arcs, arcs_of}
use Rattle.arc_diagrams.specs.Reduction.{final_pointer, final_nodes, AreFinal}
use Rattle.arc_diagrams.specs.Reducing.{Remains}

-- a complete set of arcs stands for one table: that of its root
abbrev pub StandsForOne : ℕ → Type 0
StandsForOne n = (root : ℕ) (arcs : List Arc) (t : List Bool) → n ≤ 65535 → IsComplete n root arcs
    → StandFor n root arcs t ↔ (table_of_arcs n root arcs ≡ t)

-- the arcs are complete and stand for the table
pub record IsDiagramOf (n root : ℕ) (arcs : List Arc) (t : List Bool) : Type 0 where
  pub complete : IsComplete n root arcs
  pub stands : StandFor n root arcs t

-- the arcs of the canonical nodes, with the canonical root, are a diagram of the table
abbrev pub CanonIsDiagram : ℕ → Type 0
CanonIsDiagram n = (t : List Bool) → HasForm n t → IsDiagramOf n (canon_root n t) (arcs_of (canon_nodes n t)) t

-- a truth value with no arcs is a diagram of the constant table
abbrev pub ConstantIsDiagram : ℕ → Type 0
ConstantIsDiagram n = (b : Bool) → n ≤ 65535 → IsDiagramOf n (terminal b) [] (replicate (2 ^ n) b)

-- the table's canonical form is defined, and the reduced diagram is that form
pub record ReducesTo (n root : ℕ) (arcs : List Arc) (t : List Bool) : Type 0 where
  pub form : HasForm n t
  pub nodes : final_nodes n arcs n 0 ≡ canon_nodes n t
  pub begins : final_pointer n arcs root ≡ canon_root n t

-- a diagram of at most 2 ^ 47 arcs is reduced to the canonical form of the table that it stands for
abbrev pub Reduces : ℕ → Type 0
Reduces n = (root : ℕ) (arcs : List Arc) (t : List Bool) → n ≤ 65535 → length arcs ≤ 2 ^ 47
    → IsDiagramOf n root arcs t → ReducesTo n root arcs t

-- the final pointers of a complete set are found from those of deeper pointers
abbrev pub FindsFinal : ℕ → Type 0
FindsFinal n = (root : ℕ) (arcs : List Arc) → n ≤ 65535 → IsComplete n root arcs → AreFinal n arcs

-- with no level done, the arcs to truth values are the queue, and no other arc is read
abbrev pub BeginsReduction : ℕ → Type 0
BeginsReduction n = (root : ℕ) (inner ends : List Arc) (known : Option ℕ) → n ≤ 65535
    → IsComplete n root (inner ++ ends)
    → ((a : Arc) → Has a inner → level_of a.target < n) → ((a : Arc) → Has a ends → n ≤ level_of a.target)
    → (IsTerminal root → known ≡ Some root)
    → Remains n root n (inner ++ ends) ends inner [] known

-- with no arc left in the queue none is left to be read, and the nodes and the root are canonical
abbrev pub EndsReduction : ℕ → Type 0
EndsReduction n = (root i : ℕ) (arcs unread : List Arc) (nodes : List Node) (known : Option ℕ) (t : List Bool) → i ≤ n
    → n ≤ 65535 → length arcs ≤ 2 ^ 47
    → IsDiagramOf n root arcs t → Remains n root i arcs [] unread nodes known
    → (unread ≡ []) × (nodes ≡ canon_nodes n t) × (known ≡ Some (canon_root n t))
