-- What a step that answers a question answers, leaves and costs, from its beginning or from its last checkpoint.
use Rattle.std.specs.Prelude.{◌≡◌, ℕ, ◌+◌, ◌-◌, ◌*◌, ◌^◌, ◌<◌, ◌≤◌, Bool, IsTrue, List, [], ◌∷◌, Result, IfOk, IfErr}
use Rattle.std.specs.Prelude.{IsErrOf, None}
use Rattle.bool_tables.specs.Steps.{eval_at}
use Rattle.bool_tables.specs.Tables.{same_bits, is_leq}
use Rattle.bool_tables.specs.declared.steps.Step.TheVariants.{Same, Leq, Eval}
use Rattle.shelf_model.specs.declared.file_no.FileNo.{FileNo}
use Rattle.shelf_model.specs.declared.sort_fault.SortFault.{SortFault}
use Rattle.shelf_model.specs.declared.sort_fault.SortFault.TheVariants.{RunsSpent}
use Rattle.shelf_model.specs.Calls.{Told}
use Rattle.shelf_model.specs.Faults.{Faults}
use Rattle.shelf_model.specs.Moments.{Ran, Throughout, OnlyChanged}
use Rattle.shelf_model.specs.World.{Moment, World, now, file}
use Rattle.file_numbers.specs.Files.{checkpoint_gate}
use Rattle.node_file.specs.Canonical.{IsCanonicalFile}
use Rattle.node_reading.specs.Reading.{count_of}
use Rattle.run_tiers.specs.Faults.{OnlySortShelf}
use Rattle.run_tiers.specs.Syncs.{IsFirm}
use Rattle.step_going.specs.Standing.{AreSafe, IsStanding}
use Rattle.step_work.specs.Works.{work_for}
use Rattle.sweep_checkpoint.specs.Stops.{StopsCost}
use Rattle.sweep_checkpoint.specs.declared.going.Going.{Going}
use Rattle.sweep_core.specs.declared.checkpoint.Checkpoint.{Checkpoint}
use Rattle.sweep_core.specs.Accounts.{NoneFilled}
use Rattle.sweep_core.specs.Saving.{reads_of}
use Rattle.sweep_core.specs.Sweeps.{IsNoDamage}
use Rattle.product_sweep.specs.Implications.{Implication}
use Rattle.resumable.specs.Answers.{ComparisonGoesOn, EvaluationGoesOn, ImplicationGoesOn}
use Rattle.resumable.specs.Answers.{comparison_rests, evaluation_rests, implication_rests}
use Rattle.step_sweeps.specs.declared.answers.Answered.{Answered}
use Rattle.step_sweeps.specs.Going.{next_of, rest_calls}
use Rattle.step_sweeps.specs.Stops.{shown_by, step_stop}
use Rattle.step_sweeps.specs.Made.{IsAnswer, IsCounted, FewAnew}
use Rattle.step_sweeps.specs.Damage.{IsReadFault, IsImplicationFault, MissesNone, MissesNamed, MissesAsked}

-- a question on diagrams: when files are those of the tables that it is asked of, its answer and its work, when a step
-- of that number goes on with it, and what its checkpoints rest on; how many nodes the files have; where one
-- of them is damaged; and how many calls a beginning makes
pub record Question (Given : Type 0) : Type 1 where
  pub are_given : World → Given → Type 0
  pub answer : Given → Bool
  pub work : Given → ℕ
  pub goes_on : ℕ → Given → (FileNo → List ℕ) → Type 0
  pub rests : Checkpoint → FileNo → ℕ → Type 0
  pub nodes : (FileNo → List ℕ) → ℕ
  pub is_fault : World → SortFault → Type 0
  pub some : ℕ

-- a file is the canonical one of the table, whatever a stop leaves
pub record IsFirmFile (n : ℕ) (t : List Bool) (f : FileNo) (world : World) : Type 0 where
  pub canonical : IsCanonicalFile n t f world
  pub firm : IsFirm (file world f)

-- two tables, of which the files are such
pub record TwoTables : Type 0 where
  pub left : List Bool
  pub right : List Bool

pub record AreTwo (n : ℕ) (left right : FileNo) (world : World) (g : TwoTables) : Type 0 where
  pub left_is : IsFirmFile n g.left left world
  pub right_is : IsFirmFile n g.right right world

-- whether two functions are equal
abbrev pub comparing : ℕ → FileNo → FileNo → Question TwoTables
comparing n left right = record {
  are_given = AreTwo n left right;
  answer = λ g. same_bits g.left g.right;
  work = λ g. work_for n (Same 0 1) (g.left ∷ g.right ∷ []);
  goes_on = λ number g. ComparisonGoesOn n left right number g.left g.right;
  rests = comparison_rests;
  nodes = λ r. count_of (r left) + count_of (r right);
  is_fault = IsReadFault MissesNone n left right;
  some = 4;
}

-- the implication of two such tables of n variables
abbrev pub refutation_of : ℕ → TwoTables → Implication
refutation_of n g = record { n = n; left = g.left; right = g.right }

-- whether the left one implies the right one everywhere, to one who misses nodes of their files in that way
abbrev pub implying_to : (List ℕ → ℕ → Type 0) → ℕ → FileNo → FileNo → Question TwoTables
implying_to Misses n left right = record {
  are_given = AreTwo n left right;
  answer = λ g. is_leq g.left g.right;
  work = λ g. work_for n (Leq 0 1) (g.left ∷ g.right ∷ []);
  goes_on = λ number g. ImplicationGoesOn n left right number g.left g.right;
  rests = implication_rests;
  nodes = λ r. count_of (r left) + count_of (r right) + count_of (r right);
  is_fault = IsImplicationFault Misses n left right;
  some = 11;
}

-- so it is asked of the sweep, and so once a file in which that found damage was read whole
abbrev pub refuting : ℕ → FileNo → FileNo → Question TwoTables
refuting = implying_to (MissesAsked Unit)

abbrev pub implying : ℕ → FileNo → FileNo → Question TwoTables
implying = implying_to MissesNamed

-- the value of a function at the bits that stand in the text from a byte on
abbrev pub evaluating : ℕ → FileNo → List ℕ → ℕ → Question (List Bool)
evaluating n f text at = record {
  are_given = λ world t. IsFirmFile n t f world;
  answer = λ t. eval_at n text t at;
  work = λ t. work_for n (Eval 0 at) (t ∷ []);
  goes_on = λ number t. EvaluationGoesOn n f text at number t;
  rests = evaluation_rests;
  nodes = λ r. count_of (r f);
  is_fault = IsReadFault MissesNamed n f f;
  some = 2;
}

-- it is asked of these tables, by a step that begins or goes on from its last checkpoint, whatever a stop leaves
pub record IsAsked {Given : Type 0} (q : Question Given) (going : Going) (world : World) (g : Given) : Type 0 where
  pub given : q.are_given world g
  pub standing : IsStanding (q.goes_on going.step g) q.rests going.step (next_of going.last)
      (now world).folder going.last

-- the step's files behind its node file
pub record IsBehindNodes (number : ℕ) (f : FileNo) : Type 0 where
  pub step_is : f.step ≡ number
  pub from : 1 ≤ f.part

pub record Answers {S Given : Type 0} (tells : S → Bool) (world : S → World) (counts : S → Faults) (q : Question Given)
    (going : Going) (before after : S) (result : Result Answered SortFault) : Type 0 where
  -- of the files of tables the answer is right, within the step's work, and none of them is damaged; what a stop leaves
  -- at any moment can be begun or gone on with
  pub answer : IfOk result (λ a. IsTrue (tells after) → (g : Given) → IsAsked q going (world before) g
      → IsAnswer (q.answer g) (q.work g) a)
  pub undamaged : IfErr result (λ e. IsTrue (tells after) → (g : Given) → IsAsked q going (world before) g
      → IsNoDamage e)
  pub spent : IsErrOf result RunsSpent → IsTrue (tells after) → (g : Given) → IsAsked q going (world before) g
      → 2 ^ 35 ≤ q.work g
  pub few_calls : IsTrue (tells after) → (g : Given) → IsAsked q going (world before) g → (world after).clock
      ≤ (world before).clock + (229 * q.work g + q.some + rest_calls going.last (q.nodes (reads_of (world before))))
  pub images : IsTrue (tells after) → (g : Given) → IsAsked q going (world before) g
      → Throughout (world before) (world after)
      (λ (m : Moment). AreSafe (q.goes_on going.step g) going.step m.folder)
  -- whatever the files hold: where the step began anew, and none of its checkpoints was gated, a place is named only
  -- where a file is damaged
  pub damaged : IfErr result (λ e. IsTrue (tells after) → going.last ≡ None
      → reads_of (world before) (checkpoint_gate going.step) ≡ [] → q.is_fault (world before) e)
  pub content : Told tells before after
      (Ran (OnlyChanged (IsBehindNodes going.step) (now (world before))) (world before) (world after))
  -- no file of the step is filled whose part wasn't taken
  pub untaken : IfOk result (λ a. IsTrue (tells after) → NoneFilled going.step a.next (world before) (world after))
  pub counted : IfOk result (λ a. IsCounted a.turns a.next)
  pub few_anew : IfOk result (λ a. going.last ≡ None → FewAnew a.turns a.next)
  pub calls : IfOk result (λ a. IsTrue (tells after) → a.turns < 2 ^ 64 - 1 → (world after).clock
      ≤ (world before).clock + (229 * (a.turns - going.turns) + q.some
      + rest_calls going.last (q.nodes (reads_of (world before)))))
  pub grew : IfOk result (λ a. going.turns ≤ a.turns)
  -- what a stop costs at any moment
  pub stops : IsTrue (tells after) → (g : Given) → IsAsked q going (world before) g → q.work g < 2 ^ 61
      → StopsCost going.step (shown_by going.last) ((world before).clock
      + (step_stop + rest_calls going.last (q.nodes (reads_of (world before))))) (world before) (world after)
  pub faults : OnlySortShelf (counts before) (counts after) result
