-- The checkpoints with which a question's step goes on: those of its sweep, by the rules of their kind.
use Rattle.std.specs.Prelude.{◌≡◌, ℕ, List}
use Rattle.shelf_model.specs.declared.file_no.FileNo.{FileNo}
use Rattle.file_numbers.specs.Files.{inner_part, inner_file, ends_file}
use Rattle.sweep_core.specs.declared.checkpoint.Checkpoint.{Checkpoint}
use Rattle.tuple_asks.specs.declared.files.Files.{Files}
use Rattle.top_down_sweep.specs.Resumes as arcs
use Rattle.product_sweep.specs.LeqSaving.{product_words}
use Rattle.resumable.specs.Answers.{two_files}
use Rattle.resumable.specs.Diagrams.{arcs_of}
use Rattle.restrict_eval.specs.SameResumes as comparisons
use Rattle.restrict_eval.specs.EvalResumes as evaluations

-- the two files of n variables are compared, and no part was taken
pub record IsOfComparison (c : Checkpoint) (n : ℕ) (left right : FileNo) : Type 0 where
  pub first_sweep : c.sweep ≡ 0
  pub none_taken : c.next_part ≡ inner_part
  pub compares : comparisons.Compares c n left right
  pub fits : comparisons.Fits c

-- the file is evaluated at the bits that stand in the text from a byte on, and no part was taken
pub record IsOfEvaluation (c : Checkpoint) (n : ℕ) (f : FileNo) (text : List ℕ) (at : ℕ) : Type 0 where
  pub first_sweep : c.sweep ≡ 0
  pub none_taken : c.next_part ≡ inner_part
  pub evaluates : evaluations.Evaluates c n f at
  pub fits : evaluations.Fits c text

-- the arcs of "left and not right" are made of the two files of n variables
pub record IsOfImplication (c : Checkpoint) (n : ℕ) (left right : FileNo) : Type 0 where
  pub first_sweep : c.sweep ≡ 0
  pub names : arcs.Names product_words c (arcs_of n (two_files left right) c.step)
  pub fits : arcs.Fits product_words c

-- the step's two files of arcs are made of those two files
pub record AreMadeOf (files : Files) (step : ℕ) (left right : FileNo) : Type 0 where
  pub first_is : files.first ≡ left
  pub second_is : files.second ≡ right
  pub third_is : files.third ≡ right
  pub inner_is : files.inner ≡ inner_file step
  pub ends_are : files.ends ≡ ends_file step
