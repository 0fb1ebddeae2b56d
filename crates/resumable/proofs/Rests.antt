-- On what a checkpoint of a step rests, by its sweep and its tables, and what its sweeps say of that.
use Rattle.std.specs.Prelude.{◌≡◌, ℕ}
use Rattle.std.proofs.Common.{sym, subst}
use Rattle.shelf_model.specs.declared.file_no.FileNo.{FileNo}
use Rattle.sweep_core.specs.declared.checkpoint.Checkpoint.{Checkpoint}
use Rattle.copy_sweep.specs.Resumes.{copy_saving}
use Rattle.copy_sweep.specs.Resumes as copies
use Rattle.sweep_operations.specs.Operations.{rule_of, begins_of}
use Rattle.top_down_sweep.specs.Resumes as top_down
use Rattle.top_down_sweep.specs.ResumeLaws as top_down_laws
use Rattle.table_work.specs.TableSaving.{table_stays}
use Rattle.reduce_sweep.specs.Resumes.{reduce_saving}
use Rattle.reduce_sweep.specs.ResumeLaws as reductions
use Rattle.restrict_eval.specs.EvalResumes.{eval_saving}
use Rattle.restrict_eval.specs.EvalResumes as evaluations
use Rattle.restrict_eval.specs.SameResumes.{same_saving}
use Rattle.restrict_eval.specs.SameResumes as comparisons
use Rattle.product_sweep.specs.LeqSaving.{leq_saving, leq_stays, product_words}
use Rattle.product_sweep.specs.Products as products
use Rattle.resumable.specs.Answers.{comparison_rests, evaluation_rests, implication_rests}
use Rattle.resumable.specs.Diagrams.{arcs_saving, step_words, first_rests, rests_at, diagram_rests}
use Rattle.resumable.proofs.Continuing.{AreLocal}

module _ (c : Checkpoint) (f : FileNo) (n : ℕ) where
  -- of the first sweep, by how many tables it has
  at_first : c.sweep ≡ 0 → diagram_rests c f n → first_rests c.tables c f n
  at_first first = subst (λ s. rests_at s c f n) first

  to_first : c.sweep ≡ 0 → first_rests c.tables c f n → diagram_rests c f n
  to_first first = subst (λ s. rests_at s c f n) (sym first)

  -- one without tables rests on what a copy's does
  pub copy_rests : c.sweep ≡ 0 → copies.Fits c → diagram_rests c f n → copy_saving.rests c f n
  copy_rests first fits rests = subst (λ k. first_rests k c f n) fits.tables (at_first first rests)

  pub of_copy : c.sweep ≡ 0 → copies.Fits c → copy_saving.rests c f n → diagram_rests c f n
  of_copy first fits rests = to_first first (subst (λ k. first_rests k c f n) (sym fits.tables) rests)

  -- one with tables on what one of the sweep that makes arcs does
  pub arcs_rests : c.sweep ≡ 0 → top_down.Fits step_words c → diagram_rests c f n → arcs_saving.rests c f n
  arcs_rests first fits rests = subst (λ k. first_rests k c f n) fits.queue.tables (at_first first rests)

  pub of_arcs : c.sweep ≡ 0 → top_down.Fits step_words c → arcs_saving.rests c f n → diagram_rests c f n
  of_arcs first fits rests = to_first first (subst (λ k. first_rests k c f n) (sym fits.queue.tables) rests)

  -- and of the second sweep, on what a reduction's does
  pub reduction_rests : c.sweep ≡ 1 → diagram_rests c f n → reduce_saving.rests c f n
  reduction_rests second = subst (λ s. rests_at s c f n) second

  pub of_reduction : c.sweep ≡ 1 → reduce_saving.rests c f n → diagram_rests c f n
  of_reduction second = subst (λ s. rests_at s c f n) (sym second)

-- the three sweeps of a step that makes a diagram
pub copies_local : AreLocal copy_saving 0 diagram_rests
copies_local = record {
  stays = copies.stays;
  apart = copies.apart;
  said = λ c text first fits f n. of_copy c f n first fits;
  told = λ c text first fits f n. copy_rests c f n first fits;
}

pub arcs_local : AreLocal arcs_saving 0 diagram_rests
arcs_local = record {
  stays = table_stays (top_down.top_saving step_words rule_of begins_of)
      (top_down_laws.stays step_words rule_of begins_of);
  apart = top_down_laws.apart step_words;
  said = λ c text first fits f n. of_arcs c f n first fits;
  told = λ c text first fits f n. arcs_rests c f n first fits;
}

pub reductions_local : AreLocal reduce_saving 1 diagram_rests
reductions_local = record {
  stays = reductions.stays;
  apart = reductions.apart;
  said = λ c text second fits f n. of_reduction c f n second;
  told = λ c text second fits f n. reduction_rests c f n second;
}

-- and those of a step that answers
pub comparisons_local : AreLocal same_saving 0 comparison_rests
comparisons_local = record {
  stays = comparisons.stays;
  apart = comparisons.apart;
  said = λ c text first fits f n rests. rests;
  told = λ c text first fits f n rests. rests;
}

pub evaluations_local : AreLocal eval_saving 0 evaluation_rests
evaluations_local = record {
  stays = evaluations.stays;
  apart = evaluations.apart;
  said = λ c text first fits f n rests. rests;
  told = λ c text first fits f n rests. rests;
}

pub implications_local : AreLocal leq_saving 0 implication_rests
implications_local = record {
  stays = leq_stays (table_stays (top_down.top_saving product_words products.rule_of products.begins_of)
      (top_down_laws.stays product_words products.rule_of products.begins_of));
  apart = top_down_laws.apart product_words;
  said = λ c text first fits f n rests. rests;
  told = λ c text first fits f n rests. rests;
}
