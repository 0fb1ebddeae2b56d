-- What a step needs to be run.
use Rattle.std.specs.Prelude.{◌≡◌, ℕ, ◌<◌, ◌≤◌, Bool, true, false, nat_lt, IsTrue, List, length}
use Rattle.std.specs.List.{list_all}
use Rattle.rec_words.specs.Words.{most_variables}
use Rattle.bool_tables.specs.declared.steps.Step.{Step}
use Rattle.bool_tables.specs.declared.steps.Step.TheVariants.{Const, Var, Pair, Ite, Quantify, Restrict, Drop, Same}
use Rattle.bool_tables.specs.declared.steps.Step.TheVariants.{Leq, Eval, Size}
use Rattle.bool_tables.specs.declared.steps.Planned.{Planned}
use Rattle.bool_tables.specs.Plans.{IsWellFormed, operands, levels_of, has_bits, has_name}
use Rattle.catalogue.specs.Standings.{most_steps}
use Rattle.sound_image.specs.Jobs.{Job, step_at}

-- what the step makes or answers depends on what the folder holds of earlier steps
abbrev pub reads : Step → Bool
reads (Const value) = false
reads (Var level) = false
reads (Pair op left right) = true
reads (Ite test if_one if_zero) = true
reads (Quantify kind operand level) = true
reads (Restrict operand level value) = true
reads (Drop gone) = false
reads (Same left right) = true
reads (Leq left right) = true
reads (Eval operand at) = true
reads (Size operand) = true

-- the step may be run under that number: it names earlier steps and levels of n variables, and its bits and its name
-- stand in the text
pub record MayRun (n : ℕ) (text : List ℕ) (number : ℕ) (p : Planned) : Type 0 where
  pub few_variables : n ≤ most_variables
  pub few_steps : number < most_steps
  pub operands_are : IsTrue (list_all (λ k. nat_lt k number) (operands p.step))
  pub levels_are : IsTrue (list_all (λ level. nat_lt level n) (levels_of p.step))
  pub bits_are : IsTrue (has_bits n text p.step)
  pub named : IsTrue (has_name text p)

-- the step of that number in a well-formed plan, which is the job's
pub record IsStepOf (job : Job) (n : ℕ) (text : List ℕ) (number : ℕ) (p : Planned) : Type 0 where
  pub well_formed : IsWellFormed job.n job.text job.steps
  pub n_is : job.n ≡ n
  pub text_is : job.text ≡ text
  pub within : number < length job.steps
  pub step_is : step_at job number ≡ p
