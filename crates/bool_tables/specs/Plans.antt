-- which lists of planned steps are well formed
use Rattle.std.specs.Prelude.{ℕ, zero, suc, ◌+◌, ◌≤◌, Bool, true, false, not, ◌&&◌, ◌||◌, ◌==◌, nat_lt, nat_le, IsTrue, List, [], ◌∷◌, ◌++◌, length, take, drop}
use Rattle.std.specs.List.{list_all, list_any}
use Rattle.rec_words.specs.Words.{most_variables}
use Rattle.bool_tables.specs.declared.steps.Step.{Step}
use Rattle.bool_tables.specs.declared.steps.Step.TheVariants.{Const, Var, Pair, Ite, Quantify, Restrict, Drop, Same, Leq, Eval, Size}
use Rattle.bool_tables.specs.declared.steps.Planned.{Planned}

-- the step makes a diagram
abbrev pub makes_diagram : Step → Bool
makes_diagram (Const value) = true
makes_diagram (Var level) = true
makes_diagram (Pair op left right) = true
makes_diagram (Ite test if_one if_zero) = true
makes_diagram (Quantify kind operand level) = true
makes_diagram (Restrict operand level value) = true
makes_diagram (Drop gone) = false
makes_diagram (Same left right) = false
makes_diagram (Leq left right) = false
makes_diagram (Eval operand at) = false
makes_diagram (Size operand) = false

-- the steps that a step names
abbrev pub operands : Step → List ℕ
operands (Const value) = []
operands (Var level) = []
operands (Pair op left right) = left ∷ right ∷ []
operands (Ite test if_one if_zero) = test ∷ if_one ∷ if_zero ∷ []
operands (Quantify kind operand level) = operand ∷ []
operands (Restrict operand level value) = operand ∷ []
operands (Drop gone) = gone ∷ []
operands (Same left right) = left ∷ right ∷ []
operands (Leq left right) = left ∷ right ∷ []
operands (Eval operand at) = operand ∷ []
operands (Size operand) = operand ∷ []

-- the levels that a step names
abbrev pub levels_of : Step → List ℕ
levels_of (Const value) = []
levels_of (Var level) = level ∷ []
levels_of (Pair op left right) = []
levels_of (Ite test if_one if_zero) = []
levels_of (Quantify kind operand level) = level ∷ []
levels_of (Restrict operand level value) = level ∷ []
levels_of (Drop gone) = []
levels_of (Same left right) = []
levels_of (Leq left right) = []
levels_of (Eval operand at) = []
levels_of (Size operand) = []

-- the step drops the diagram of the step with that number
abbrev pub drops : ℕ → Step → Bool
drops step (Const value) = false
drops step (Var level) = false
drops step (Pair op left right) = false
drops step (Ite test if_one if_zero) = false
drops step (Quantify kind operand level) = false
drops step (Restrict operand level value) = false
drops step (Drop gone) = gone == step
drops step (Same left right) = false
drops step (Leq left right) = false
drops step (Eval operand at) = false
drops step (Size operand) = false

-- the number is that of one of the steps, which makes a diagram
abbrev pub is_diagram : List Planned → ℕ → Bool
is_diagram [] step = false
is_diagram (s ∷ steps) zero = makes_diagram s.step
is_diagram (s ∷ steps) (suc step) = is_diagram steps step

-- and none of the steps drops it
abbrev pub is_live : List Planned → ℕ → Bool
is_live steps step = is_diagram steps step && not (list_any (λ (s : Planned). drops step s.step) steps)

-- the byte is a digit `0` or `1`
abbrev pub is_bit : ℕ → Bool
is_bit byte = (byte == 48) || (byte == 49)

-- an evaluation finds its n bits in the text
abbrev pub has_bits : ℕ → List ℕ → Step → Bool
has_bits n text (Const value) = true
has_bits n text (Var level) = true
has_bits n text (Pair op left right) = true
has_bits n text (Ite test if_one if_zero) = true
has_bits n text (Quantify kind operand level) = true
has_bits n text (Restrict operand level value) = true
has_bits n text (Drop gone) = true
has_bits n text (Same left right) = true
has_bits n text (Leq left right) = true
has_bits n text (Eval operand at) = nat_le (at + n) (length text) && list_all is_bit (take n (drop at text))
has_bits n text (Size operand) = true

-- the step's name stands in the text and has at most 63 bytes
abbrev pub has_name : List ℕ → Planned → Bool
has_name text s = nat_le (s.name_at + s.name_len) (length text) && nat_le s.name_len 63

-- the step may follow the steps before it
abbrev pub may_follow : ℕ → List ℕ → List Planned → Planned → Bool
may_follow n text before s =
    (list_all (is_live before) (operands s.step) && list_all (λ level. nat_lt level n) (levels_of s.step))
    && (has_bits n text s.step && has_name text s)

-- each of the steps may follow those before it
abbrev pub all_may_follow : ℕ → List ℕ → List Planned → List Planned → Bool
all_may_follow n text before [] = true
all_may_follow n text before (s ∷ steps) = may_follow n text before s && all_may_follow n text (before ++ s ∷ []) steps

-- the steps are a plan for n variables over the text of a script
pub record IsWellFormed (n : ℕ) (text : List ℕ) (steps : List Planned) : Type 0 where
  pub few_variables : n ≤ most_variables
  pub few_steps : length steps ≤ 1048576
  pub in_order : IsTrue (all_may_follow n text [] steps)
