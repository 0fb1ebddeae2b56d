-- The checkpoints of sweeps that answer implications: what they stand for, and what one leaves that is saved.
use Rattle.std.specs.Prelude.{◌≡◌, ℕ, ◌^◌, ◌≤◌, Bool, IsTrue, List, [], take, Result, OnOk, IfErr, IsErrOf}
use Rattle.canon_file.specs.Laws.{HasForm}
use Rattle.saved_words.specs.declared.carried.Carried.{Ghosts}
use Rattle.shelf_model.specs.declared.file_no.FileNo.{FileNo}
use Rattle.shelf_model.specs.declared.sort_fault.SortFault.{SortFault}
use Rattle.shelf_model.specs.declared.sort_fault.SortFault.TheVariants.{RunsSpent}
use Rattle.shelf_model.specs.Faults.{Faults}
use Rattle.shelf_model.specs.World.{World, file}
use Rattle.sweep_core.specs.declared.checkpoint.Checkpoint.{Checkpoint}
use Rattle.sweep_core.specs.Carries.{Carries, IsUsed, IsStill}
use Rattle.sweep_core.specs.Saving.{Saving, SameHead, IsFilled, IsSure, reads_of}
use Rattle.sweep_core.specs.Sweeps.{IsNoDamage}
use Rattle.top_down.specs.Operations.{implies}
use Rattle.table_work.specs.Jobs.{TableWork}
use Rattle.table_work.specs.TableSaving.{table_saving, saving_of}
use Rattle.sweep_operations.specs.declared.product.Product.{Product}
use Rattle.sweep_operations.specs.OperationWords.{product_spelling}
use Rattle.top_down_sweep.specs.Resumes.{top_saving}
use Rattle.top_down_sweep.specs.Sweeps.{SweepTask}
use Rattle.product_sweep.specs.declared.leq.LeqSweep.{LeqSweep}
use Rattle.product_sweep.specs.Implications.{Implication, refutation, Refutes, fuel_of, turns_left, accounts, IsDamage}
use Rattle.product_sweep.specs.Implications.{task_of, IsReady, IsInStep, IsTrusted}
use Rattle.product_sweep.specs.Products.{rule_of, begins_of}

-- the words of an operator
abbrev pub product_words : Ghosts Product
product_words = record {
  count = product_spelling.count;
  words = product_spelling.words;
  is_value = product_spelling.is_value;
}

-- what is seen of the checkpoints of an operator's sweep
abbrev pub product_saving : Saving (SweepTask × Product) TableWork
product_saving = table_saving (top_saving product_words rule_of begins_of)

-- with what the files hold the table of "left and not right" is still to be made, and no more turns remain
pub record StandsFor (c : Checkpoint) (text : List ℕ) (r : FileNo → List ℕ) (d : Implication) (turns : ℕ) : Type 0 where
  pub left_form : HasForm d.n d.left
  pub right_form : HasForm d.n d.right
  pub makes : product_saving.stands c text r (refutation d) turns

-- all else is as it is seen of that table's sweep, whatever its operator
abbrev made_saving : Saving SweepTask TableWork
made_saving = saving_of (record { op = implies }) product_saving

abbrev pub leq_saving : Saving SweepTask Implication
leq_saving = record {
  operands = made_saving.operands;
  text = made_saving.text;
  names = made_saving.names;
  fits = made_saving.fits;
  rests = made_saving.rests;
  reading = made_saving.reading;
  stands = StandsFor;
}

-- with the fronts that it rests on alone it stands for the same
pub leq_stays : ((c : Checkpoint) (text : List ℕ) (old new : FileNo → List ℕ) (job : TableWork) (turns : ℕ)
    → product_saving.fits c text
    → ((f : FileNo) (n : ℕ) → product_saving.rests c f n → take n (new f) ≡ take n (old f))
    → product_saving.stands c text old job turns → product_saving.stands c text new job turns)
    → (c : Checkpoint) (text : List ℕ) (old new : FileNo → List ℕ) (d : Implication) (turns : ℕ)
    → product_saving.fits c text
    → ((f : FileNo) (n : ℕ) → product_saving.rests c f n → take n (new f) ≡ take n (old f))
    → StandsFor c text old d turns → StandsFor c text new d turns
leq_stays stays c text old new d turns fits same stands = record {
  left_form = stands.left_form;
  right_form = stands.right_form;
  makes = stays c text old new (refutation d) turns fits same stands.makes;
}

-- what a sweep that is saved leaves and costs
pub record Carried {S : Type 0} (tells : S → Bool) (world : S → World) (counts : S → Faults) (before after : S)
    (old new : LeqSweep) (blank point : Checkpoint) (result : Result Unit SortFault) : Type 0 where
  pub ready : OnOk result (IsReady new)
  pub in_step : OnOk result (IsTrue (tells after) → IsInStep new (world after))
  pub same : task_of new ≡ task_of old
  pub fuel : OnOk result (fuel_of new ≡ fuel_of old)
  pub keeps : OnOk result (IsTrue (tells after) → (d : Implication) → Refutes old (world before) d
      → Refutes new (world after) d)
  pub left : OnOk result (IsTrue (tells after) → (d : Implication) → Refutes old (world before) d
      → turns_left new (world after) d ≤ turns_left old (world before) d)
  pub trusts : OnOk result (IsTrue (tells after) → IsTrusted old (world before) → IsTrusted new (world after))
  pub head : SameHead blank point
  pub filled : OnOk result (IsFilled (accounts.next new) point)
  pub names : OnOk result (leq_saving.names point (task_of old))
  pub fits : OnOk result (leq_saving.fits point [])
  pub stands : OnOk result (IsTrue (tells after) → (d : Implication) → Refutes old (world before) d
      → StandsFor point [] (reads_of (world after)) d (turns_left new (world after) d))
  pub sure : OnOk result (IsTrue (tells after) → (d : Implication) → Refutes old (world before) d → (f : FileNo) (n : ℕ)
      → leq_saving.rests point f n → IsSure (accounts.makes old) (leq_saving.operands (task_of old)) (world after) f n)
  pub still : OnOk result ((later : World) → ((f : FileNo)
      → IsUsed (accounts.makes old) (leq_saving.operands (task_of old)) point f → file later f ≡ file (world after) f)
      → IsStill (IsInStep new) (IsTrusted new) (Refutes new) (turns_left new) (world after) later)
  pub leaves : Carries tells world counts accounts 65536 4608 before after old new result
  pub damage : IfErr result (λ e. IsTrue (tells after) → IsTrusted old (world before) → IsDamage new (world after) e)
  pub undamaged : IfErr result (λ e. IsTrue (tells after) → (d : Implication) → Refutes old (world before) d
      → IsNoDamage e)
  pub spent : IsErrOf result RunsSpent → 2 ^ 32 ≤ accounts.next new
