-- the diagram of a constant
use Rattle.std.specs.Prelude.{◌≡◌, ℕ, Bool, List, []}
use Rattle.bool_tables.specs.Steps.{step_table}
use Rattle.bool_tables.specs.declared.steps.Step.TheVariants.{Const}
use Rattle.rec_words.specs.Words.{terminal}
use Rattle.canon_file.specs.Canon.{canon_nodes, canon_root, trailer_bytes, canon_bytes}

-- the table of a constant of n variables
abbrev pub const_table : ℕ → Bool → List Bool
const_table n value = step_table n [] (Const value)

-- the canonical form of a constant has no node, and its root is the truth value
pub record HasNoNode (n : ℕ) (value : Bool) : Type 0 where
  pub nodes : canon_nodes n (const_table n value) ≡ []
  pub root : canon_root n (const_table n value) ≡ terminal value
  pub bytes : canon_bytes n (const_table n value) ≡ trailer_bytes (terminal value) 0 n
