-- What has the table of an operator's result: a constant, one operand, or its complement.
use Rattle.std.specs.Prelude.{◌≡◌, ◌≢◌, ℕ, Bool, not, IsTrue, List, [], ◌∷◌}
use Rattle.bool_tables.specs.Steps.{op_value, step_table}
use Rattle.bool_tables.specs.declared.steps.Bin.{Bin}
use Rattle.bool_tables.specs.declared.steps.Step.TheVariants.{Pair}
use Rattle.rec_words.specs.Words.{terminal}
use Rattle.copied_diagrams.specs.declared.operand.Operand.{Operand}
use Rattle.copied_diagrams.specs.declared.operand.Operand.TheVariants.{Left, Right}
use Rattle.copied_diagrams.specs.declared.operand.Choice.{Choice}
use Rattle.copied_diagrams.specs.declared.operand.Choice.TheVariants.{Constant, Copy, Complement}

-- the table of an operator on two tables of n variables
abbrev pub pair_table : ℕ → Bin → List Bool → List Bool → List Bool
pair_table n op t u = step_table n (t ∷ u ∷ []) (Pair op 0 1)

-- the two values may stand at one place of two tables whose diagrams have these roots: where a root is a truth value
-- the other value stands nowhere, and one table has one value at a place
pub record MayMeet (same : Bool) (left right : ℕ) (b c : Bool) : Type 0 where
  pub left_may : left ≢ terminal (not b)
  pub right_may : right ≢ terminal (not c)
  pub same_is : IsTrue same → b ≡ c

-- the value of that operand, of two
abbrev pub value_of : Operand → Bool → Bool → Bool
value_of Left b c = b
value_of Right b c = c

-- the value that is chosen, of two
abbrev pub chosen_value : Choice → Bool → Bool → Bool
chosen_value (Constant value) b c = value
chosen_value (Copy operand) b c = value_of operand b c
chosen_value (Complement operand) b c = not (value_of operand b c)

-- the operator gives the chosen value, whichever two values may meet
abbrev pub IsResult : Bin → Bool → ℕ → ℕ → Choice → Type 0
IsResult op same left right choice = (b c : Bool) → MayMeet same left right b c
    → op_value op b c ≡ chosen_value choice b c
