-- The checkpoints of sweeps that make a step's table: what they stand for.
use Rattle.std.specs.Prelude.{◌≡◌, ℕ, List, length, take}
use Rattle.shelf_model.specs.declared.file_no.FileNo.{FileNo}
use Rattle.sweep_core.specs.declared.checkpoint.Checkpoint.{Checkpoint}
use Rattle.sweep_core.specs.Saving.{Saving}
use Rattle.top_down_sweep.specs.Meaning.{table_of}
use Rattle.top_down_sweep.specs.Turns.{Work}
use Rattle.table_work.specs.Jobs.{TableWork}

-- with what the files hold it does a task of that table, among as many tuples being all that are met, and no more turns
-- remain
pub record StandsFor {Task : Type 0} (top : Saving Task Work) (c : Checkpoint) (text : List ℕ) (r : FileNo → List ℕ)
    (job : TableWork) (turns : ℕ) : Type 0 where
  pub work : Work
  pub variables_are : work.task.n ≡ job.n
  pub table_is : table_of work.task ≡ job.table
  pub many : length work.tuples ≡ job.tuples
  pub stands : top.stands c text r work turns

-- all else is as it is seen of sweeps from the root down
abbrev pub table_saving : {Task : Type 0} → Saving Task Work → Saving Task TableWork
table_saving top = record {
  operands = top.operands;
  text = top.text;
  names = top.names;
  fits = top.fits;
  rests = top.rests;
  reading = top.reading;
  stands = StandsFor top;
}

-- what is seen of checkpoints that tell of a task no more than a part of it
abbrev pub saving_of : {Task More Job : Type 0} → More → Saving (Task × More) Job → Saving Task Job
saving_of more whole = record {
  operands = λ task. whole.operands (task, more);
  text = λ task. whole.text (task, more);
  names = λ c task. whole.names c (task, more);
  fits = whole.fits;
  rests = whole.rests;
  reading = λ task. whole.reading (task, more);
  stands = whole.stands;
}

-- with the fronts that it rests on alone it stands for the same
pub table_stays : {Task : Type 0} (top : Saving Task Work)
    → ((c : Checkpoint) (text : List ℕ) (old new : FileNo → List ℕ) (work : Work) (turns : ℕ) → top.fits c text
    → ((f : FileNo) (n : ℕ) → top.rests c f n → take n (new f) ≡ take n (old f))
    → top.stands c text old work turns → top.stands c text new work turns)
    → (c : Checkpoint) (text : List ℕ) (old new : FileNo → List ℕ) (job : TableWork) (turns : ℕ) → top.fits c text
    → ((f : FileNo) (n : ℕ) → top.rests c f n → take n (new f) ≡ take n (old f))
    → StandsFor top c text old job turns → StandsFor top c text new job turns
table_stays top stays c text old new job turns fits same stands = record {
  work = stands.work;
  variables_are = stands.variables_are;
  table_is = stands.table_is;
  many = stands.many;
  stands = stays c text old new stands.work turns fits same stands.stands;
}
