-- sets of arcs, the diagrams that they are, and the tables that these stand for
use Rattle.std.specs.Prelude.{◌≡◌, ◌⊎◌, ◌<◌, ◌^◌, ◌&&◌, ◌==◌, ℕ, Bool, true, false, cond, List, [], ◌∷◌, length, map, filter}
use Rattle.bool_tables.specs.Tables.{same_bit, value_at, place_of_bits}
use Rattle.rec_words.specs.Words.{terminal, level_of, IsTerminal}
use Rattle.rec_words.specs.declared.node.Node.{Node}
use Rattle.canon_file.specs.declared.row.Row.{Row}
use Rattle.canon_file.specs.Members.{Has}
use Rattle.canon_file.specs.Walks.{is_at, walk, table_of}
use Rattle.arc_file.specs.declared.arc.Arc.{Arc}

-- the target of the first arc from that source on that side, or the truth value 0 where there is none
abbrev pub target_on : List Arc → ℕ → Bool → ℕ
target_on [] source side = terminal false
target_on (a ∷ arcs) source side = cond ((a.source == source) && same_bit a.high side) a.target
    (target_on arcs source side)

-- the two targets of a node
abbrev pub targets_of : List Arc → ℕ → Row
targets_of arcs source = record { low = target_on arcs source false; high = target_on arcs source true }

-- where a walk goes from w on level i: from a node of the level to its pointer on that side, from any other to itself
abbrev pub onward : (ℕ → Row) → ℕ → Bool → ℕ → ℕ
onward targets i side w = cond (is_at i w) (cond side (targets w).high (targets w).low) w

-- the sources of a level, as often as they have arcs
abbrev pub sources_of : List Arc → ℕ → List ℕ
sources_of arcs level = filter (λ s. level_of s == level) (map (λ (a : Arc). a.source) arcs)

-- the pointer is a truth value, or a node of a level below n
abbrev pub IsWithin : ℕ → ℕ → Type 0
IsWithin n w = (level_of w < n) ⊎ IsTerminal w

-- the pointer is the root or the target of an arc
abbrev pub IsMet : ℕ → List Arc → ℕ → Type 0
IsMet root arcs w = (root ≡ w) ⊎ ((a : Arc) × Has a arcs × (a.target ≡ w))

-- the arcs with the root are a diagram of n variables: each node that is met is the source of one
-- low and one high arc, each source is met, and targets lie deeper than sources
pub record IsComplete (n root : ℕ) (arcs : List Arc) : Type 0 where
  pub begins : IsWithin n root
  pub within : (a : Arc) → Has a arcs → IsWithin n a.target
  pub deeper : (a : Arc) → Has a arcs → level_of a.source < level_of a.target
  pub both : (w : ℕ) → IsMet root arcs w → level_of w < n → (side : Bool)
      → (a : Arc) × Has a arcs × (a.source ≡ w) × (a.high ≡ side)
  pub once : (a b : Arc) → Has a arcs → Has b arcs → a.source ≡ b.source → a.high ≡ b.high → a.target ≡ b.target
  pub met : (a : Arc) → Has a arcs → IsMet root arcs a.source

-- the table of the n variables that the root stands for
abbrev pub table_of_arcs : ℕ → ℕ → List Arc → List Bool
table_of_arcs n root arcs = table_of (targets_of arcs) n 0 root

-- at each place, following from the root the sides that the place's digits name ends in the truth value of the table
pub record StandFor (n root : ℕ) (arcs : List Arc) (t : List Bool) : Type 0 where
  pub whole : length t ≡ 2 ^ n
  pub walks : (bits : List Bool) → length bits ≡ n
      → walk (targets_of arcs) 0 bits root ≡ terminal (value_at t (place_of_bits bits))

-- the two arcs of each node
abbrev pub arcs_of : List Node → List Arc
arcs_of [] = []
arcs_of (x ∷ xs) = record { source = x.uid; high = false; target = x.low }
    ∷ record { source = x.uid; high = true; target = x.high } ∷ arcs_of xs
