-- A step that answers goes on from its last gated checkpoint, by that and by what it rests on alone.
use Rattle.std.specs.Prelude.{ℕ, Bool, List}
use Rattle.std.proofs.Common.{subst, arith}
use Rattle.shelf_model.specs.declared.file_no.FileNo.{FileNo}
use Rattle.step_going.specs.Standing.{IsLastOf, IsLocal, IsFromLast}
use Rattle.sweep_core.specs.declared.checkpoint.Checkpoint.{Checkpoint}
use Rattle.product_sweep.specs.Implications.{Implication}
use Rattle.product_sweep.specs.LeqSaving.{leq_saving}
use Rattle.restrict_eval.specs.EvalResumes.{eval_saving}
use Rattle.restrict_eval.specs.SameResumes.{same_saving}
use Rattle.resumable.specs.Answers.{comparison_of, two_tables, evaluation_of, one_table, two_files}
use Rattle.resumable.specs.Answers.{ComparisonGoesOn, EvaluationGoesOn, ImplicationGoesOn}
use Rattle.resumable.specs.Answers.{comparison_rests, evaluation_rests, implication_rests}
use Rattle.resumable.specs.Diagrams.{arcs_of}
use Rattle.resumable.specs.Points.{ComparesFrom, EvaluatesFrom, RefutesFrom}
use Rattle.resumable.proofs.Continuing.{goes_last, goes_apart, goes_still, goes_from}
use Rattle.resumable.proofs.OnePoint.{one_last}
use Rattle.resumable.proofs.Rests.{comparisons_local, evaluations_local, implications_local}

module _ (n : ℕ) (left right : FileNo) (number : ℕ) (t u : List Bool) where
  abbrev Comparison : (FileNo → List ℕ) → Type 0
  Comparison r = ComparisonGoesOn n left right number t u r

  -- whether two files go on to be compared depends on the last gated checkpoint and on what that rests on alone
  pub comparison_local : IsLocal Comparison comparison_rests number
  comparison_local c old new is last same q = record {
    turns = q.turns;
    goes_on = goes_still same_saving 0 comparison_rests comparisons_local number
        (comparison_of n left right number) (two_tables n t u) q.turns c old new is last same q.goes_on;
    few = q.few;
  }

  -- which rests on no file that a sweep of the step takes
  pub comparison_last : IsFromLast Comparison comparison_rests number
  comparison_last r q =
      let task = comparison_of n left right number in
      let tables = two_tables n t u in (
        q.goes_on.point,
        goes_last same_saving 0 comparison_rests comparisons_local number task tables q.turns r q.goes_on,
        goes_apart same_saving 0 comparison_rests comparisons_local number task tables q.turns r q.goes_on,
      )

  -- and they are compared from that
  pub compares_from : (r : FileNo → List ℕ) (c : Checkpoint) → IsLastOf number r c → Comparison r
      → ComparesFrom n left right number t u r c
  compares_from r c is q =
      let within = q.goes_on.few in
      let few = q.few in
      let goes = goes_from same_saving number 0 (comparison_of n left right number) (two_tables n t u) q.turns r
      q.goes_on in
      subst (ComparesFrom n left right number t u r) (one_last number r q.goes_on.point c goes.last is)
      (record { goes = goes; few = omega (arith, within, few) })

  -- the arcs of "left and not right", too
  abbrev Refutation : (FileNo → List ℕ) → Type 0
  Refutation r = ImplicationGoesOn n left right number t u r

  abbrev implication : Implication
  implication = record { n = n; left = t; right = u }

  pub implication_local : IsLocal Refutation implication_rests number
  implication_local c old new is last same q = record {
    turns = q.turns;
    goes_on = goes_still leq_saving 0 implication_rests implications_local number
        (arcs_of n (two_files left right) number) implication q.turns c old new is last same q.goes_on;
    few = q.few;
  }

  pub implication_last : IsFromLast Refutation implication_rests number
  implication_last r q =
      let task = arcs_of n (two_files left right) number in (
        q.goes_on.point,
        goes_last leq_saving 0 implication_rests implications_local number task implication q.turns r q.goes_on,
        goes_apart leq_saving 0 implication_rests implications_local number task implication q.turns r q.goes_on,
      )

  pub refutes_from : (r : FileNo → List ℕ) (c : Checkpoint) → IsLastOf number r c → Refutation r
      → RefutesFrom n left right number t u r c
  refutes_from r c is q =
      let within = q.goes_on.few in
      let few = q.few in
      let goes = goes_from leq_saving number 0 (arcs_of n (two_files left right) number) implication q.turns r
      q.goes_on in
      subst (RefutesFrom n left right number t u r) (one_last number r q.goes_on.point c goes.last is)
      (record { goes = goes; few = omega (arith, within, few) })

module _ (n : ℕ) (file : FileNo) (text : List ℕ) (at number : ℕ) (t : List Bool) where
  abbrev Evaluation : (FileNo → List ℕ) → Type 0
  Evaluation r = EvaluationGoesOn n file text at number t r

  -- and the evaluation of a file
  pub evaluation_local : IsLocal Evaluation evaluation_rests number
  evaluation_local c old new is last same q = record {
    turns = q.turns;
    goes_on = goes_still eval_saving 0 evaluation_rests evaluations_local number
        (evaluation_of n file text at number) (one_table n t) q.turns c old new is last same q.goes_on;
    few = q.few;
  }

  pub evaluation_last : IsFromLast Evaluation evaluation_rests number
  evaluation_last r q =
      let task = evaluation_of n file text at number in
      let table = one_table n t in (
        q.goes_on.point,
        goes_last eval_saving 0 evaluation_rests evaluations_local number task table q.turns r q.goes_on,
        goes_apart eval_saving 0 evaluation_rests evaluations_local number task table q.turns r q.goes_on,
      )

  pub evaluates_from : (r : FileNo → List ℕ) (c : Checkpoint) → IsLastOf number r c → Evaluation r
      → EvaluatesFrom n file text at number t r c
  evaluates_from r c is q =
      let within = q.goes_on.few in
      let few = q.few in
      let goes = goes_from eval_saving number 0 (evaluation_of n file text at number) (one_table n t) q.turns r
      q.goes_on in
      subst (EvaluatesFrom n file text at number t r) (one_last number r q.goes_on.point c goes.last is)
      (record { goes = goes; few = omega (arith, within, few) })
