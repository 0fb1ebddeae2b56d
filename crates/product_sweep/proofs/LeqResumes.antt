-- A sweep that answers an implication, saved and rebuilt as the sweep that makes its arcs.
use Rattle.std.proofs.Common.{◌≡◌, ℕ, ◌+◌, ◌^◌, ◌<◌, ◌≤◌, ◌∙◌, Bool, List, [], IsTrue, sym, subst, ap, inl, inr, arith}
use Rattle.std.specs.Prelude.{Result, Ok, Err, OnOk, IfErr, IsErrOf, IsSome}
use Rattle.std.proofs.lemmas.Result.{on_ok_weaker}
use Rattle.shelf_model.specs.declared.file_no.FileNo.{FileNo}
use Rattle.shelf_model.specs.declared.sort_fault.SortFault.{SortFault}
use Rattle.shelf_model.specs.declared.sort_fault.SortFault.TheVariants.{RunsSpent}
use Rattle.shelf_model.specs.Faults.{Faults}
use Rattle.shelf_model.specs.World.{World, file}
use Rattle.sweep_core.specs.declared.checkpoint.Checkpoint.{Checkpoint}
use Rattle.sweep_core.specs.Carries.{Carries, IsUsed, IsStill}
use Rattle.sweep_core.specs.Saving.{SameHead, IsFilled, IsSure, reads_of}
use Rattle.sweep_core.specs.Sweeps.{IsFirm, IsNoDamage}
use Rattle.table_work.specs.declared.sweep.TableSweep.{TableSweep}
use Rattle.table_work.specs.Jobs.{TableWork, turns_of}
use Rattle.table_work.specs.Tables.{sweep_of}
use Rattle.top_down_sweep.specs.declared.machine.Machine.{Machine}
use Rattle.tuple_asks.specs.declared.place.Phase.{Phase}
use Rattle.tuple_asks.specs.declared.place.Phase.TheVariants as phases
use Rattle.sweep_operations.specs.declared.product.Product.{Product}
use Rattle.top_down_sweep.specs.Beginning as top
use Rattle.top_down_sweep.specs.Calls as calls
use Rattle.top_down_sweep.specs.Damage as damage
use Rattle.top_down_sweep.specs.Fuel as fuel
use Rattle.top_down_sweep.specs.Sweeps as sweeps
use Rattle.top_down_sweep.proofs.Holding.{if_err_map}
use Rattle.product_sweep.specs.declared.leq.LeqPhase.{LeqPhase}
use Rattle.product_sweep.specs.declared.leq.LeqPhase.TheVariants.{Making, Answered}
use Rattle.product_sweep.specs.Implications.{Implication, refutation, Refutes, turns_left, IsReady, IsInStep, IsToBeMade}
use Rattle.product_sweep.specs.LeqPhases.{IsPhaseOf}
use Rattle.product_sweep.specs.LeqSaving.{product_saving, StandsFor, Carried}
use Rattle.product_sweep.specs.Products.{rule_of, begins_of, MakesTable}
use Rattle.product_sweep.proofs.Turning.{product_accounts, leq, made_decides}

-- what the product's sweep leaves and costs that is saved
pub record ProductCarried {S : Type 0} (tells : S → Bool) (world : S → World) (counts : S → Faults) (before after : S)
    (p q : TableSweep Product) (blank point : Checkpoint) (result : Result Unit SortFault) : Type 0 where
  pub ready : OnOk result (top.IsReady (sweep_of q))
  pub in_step : OnOk result (IsTrue (tells after) → calls.IsInStep (sweep_of q) (world after))
  pub same : sweeps.task_of (sweep_of q) ≡ sweeps.task_of (sweep_of p)
  pub fuel_is : OnOk result (fuel.fuel_of (sweep_of q) ≡ fuel.fuel_of (sweep_of p))
  pub keeps : OnOk result (IsTrue (tells after) → (job : TableWork) → MakesTable p (world before) job
      → MakesTable q (world after) job)
  pub left : OnOk result (IsTrue (tells after) → (job : TableWork) → MakesTable p (world before) job
      → turns_of (sweep_of q) (world after) job ≤ turns_of (sweep_of p) (world before) job)
  pub trusts : OnOk result (IsTrue (tells after) → calls.IsTrusted rule_of begins_of (sweep_of p) (world before)
      → calls.IsTrusted rule_of begins_of (sweep_of q) (world after))
  pub head : SameHead blank point
  pub filled : OnOk result (IsFilled (product_accounts.next q) point)
  pub names : OnOk result (product_saving.names point (sweeps.whole_task (sweep_of p)))
  pub fits : OnOk result (product_saving.fits point [])
  pub stands : OnOk result (IsTrue (tells after) → (job : TableWork) → MakesTable p (world before) job
      → product_saving.stands point [] (reads_of (world after)) job (turns_of (sweep_of q) (world after) job))
  pub sure : OnOk result (IsTrue (tells after) → (job : TableWork) → MakesTable p (world before) job
      → (f : FileNo) (n : ℕ) → product_saving.rests point f n → IsSure (product_accounts.makes p)
      (product_saving.operands (sweeps.whole_task (sweep_of p))) (world after) f n)
  pub still : OnOk result ((later : World) → ((f : FileNo) → IsUsed (product_accounts.makes p)
      (product_saving.operands (sweeps.whole_task (sweep_of p))) point f → file later f ≡ file (world after) f)
      → IsStill (calls.IsInStep (sweep_of q)) (calls.IsTrusted rule_of begins_of (sweep_of q)) (MakesTable q)
      (λ w job. turns_of (sweep_of q) w job) (world after) later)
  pub leaves : Carries tells world counts product_accounts 65536 4608 before after p q result
  pub damaged : IfErr result (λ e. IsTrue (tells after) → calls.IsTrusted rule_of begins_of (sweep_of p) (world before)
      → damage.IsDamage rule_of begins_of (sweep_of q) (world after) e)
  pub undamaged : IfErr result (λ e. IsTrue (tells after) → (job : TableWork) → MakesTable p (world before) job
      → IsNoDamage e)
  pub spent : IsErrOf result RunsSpent → 2 ^ 32 ≤ product_accounts.next q

-- two facts of what succeeds give a third one
both_ok : {T : Type 0} {A B C : Type 0} (r : Result T SortFault) → (A → B → C) → OnOk r A → OnOk r B → OnOk r C
both_ok (Ok x) f a b = f a b
both_ok (Err e) f a b = tt

module _ {S : Type 0} (tells : S → Bool) (world : S → World) (counts : S → Faults) (before after : S)
    (p q : TableSweep Product) (blank point : Checkpoint) (result : Result Unit SortFault) where
  -- what the product's sweep leaves, the whole sweep leaves
  pub carried_leq : 0 < fuel.fuel_of (sweep_of p)
      → ProductCarried tells world counts before after p q blank point result
      → Carried tells world counts before after (leq p Making) (leq q Making) blank point result
  carried_leq works t = record {
    ready = both_ok result (λ ready same. record {
      product = ready;
      works = subst (λ n. 0 < n) (sym same) works;
    }) t.ready t.fuel_is;
    in_step = t.in_step;
    same = t.same;
    fuel = on_ok_weaker result (λ same. ap (λ n. n + 1) same) t.fuel_is;
    keeps = on_ok_weaker result (λ keeps is (d : Implication) r. record {
      left_form = r.left_form;
      right_form = r.right_form;
      makes = keeps is (refutation d) r.makes;
    }) t.keeps;
    left = on_ok_weaker result (λ left is (d : Implication) r. left is (refutation d) r.makes) t.left;
    trusts = t.trusts;
    head = t.head;
    filled = t.filled;
    names = t.names;
    fits = t.fits;
    stands = on_ok_weaker result (λ stands is (d : Implication) r. record {
      left_form = r.left_form;
      right_form = r.right_form;
      makes = stands is (refutation d) r.makes;
    }) t.stands;
    sure = on_ok_weaker result (λ sure is (d : Implication) r. sure is (refutation d) r.makes) t.sure;
    still = on_ok_weaker result (λ still later used. (let s = still later used in record {
      steps = s.steps;
      trusted = s.trusted;
      keeps = λ (d : Implication) r. record {
        left_form = r.left_form;
        right_form = r.right_form;
        makes = s.keeps (refutation d) r.makes;
      };
      fewer = λ (d : Implication) r. s.fewer (refutation d) r.makes;
    })) t.still;
    leaves = record {
      made = t.leaves.made;
      making = t.leaves.making;
      step_is = t.leaves.step_is;
      later = t.leaves.later;
      within = t.leaves.within;
      content = t.leaves.content;
      untaken = t.leaves.untaken;
      calls = t.leaves.calls;
      spent = t.leaves.spent;
      faults = t.leaves.faults;
    };
    damage = t.damaged;
    undamaged = if_err_map result (λ e none is (d : Implication) r. none is (refutation d) r.makes) t.undamaged;
    spent = t.spent;
  }

-- once all is made, the files of arcs are sure
made_firm : (ph : Phase) (m : Machine) (world : World) → IsSome (sweeps.made_at ph) → calls.IsStepAt ph m world
    → (f : FileNo) → sweeps.IsMade (sweeps.files_in m) f → IsFirm (file world f)
made_firm phases.Fresh m world made step f mine = absurd (cc)
made_firm (phases.Asking s) m world made step f mine = absurd (cc)
made_firm (phases.Ended x) m world made step f (inl is) = subst (λ g. IsFirm (file world g)) (sym is) step.0
made_firm (phases.Ended x) m world made step f (inr is) = subst (λ g. IsFirm (file world g)) (sym is) step.1

-- a product's sweep that was rebuilt, and how far it is
module _ (p : TableSweep Product) where
  pub leq_ready : (phase : LeqPhase) → IsPhaseOf p phase → top.IsReady (sweep_of p) → IsReady (leq p phase)
  leq_ready Making works ready = record { product = ready; works = works }
  leq_ready (Answered b) is_told ready = record { product = ready; works = tt }

  pub leq_step : (phase : LeqPhase) (world : World) → IsPhaseOf p phase → calls.IsInStep (sweep_of p) world
      → IsInStep (leq p phase) world
  leq_step Making world works step = step
  leq_step (Answered b) world is_told step =
      made_firm (sweep_of p).machine.place.phase (sweep_of p).machine world is_told.made step

  -- what the checkpoint stood for remains
  pub leq_remains : (phase : LeqPhase) (c : Checkpoint) (text : List ℕ) (r : FileNo → List ℕ) (given : Type 0) (world : World)
      → IsPhaseOf p phase
      → (given → (job : TableWork) (turns : ℕ) → product_saving.stands c text r job turns
      → MakesTable p world job × (turns_of (sweep_of p) world job ≤ turns))
      → given → (d : Implication) (turns : ℕ) → StandsFor c text r d turns
      → Refutes (leq p phase) world d × (turns_left (leq p phase) world d ≤ turns)
  leq_remains Making c text r given world works remains is d turns s =
      let (makes, few) = remains is (refutation d) turns s.makes in
      (record { left_form = s.left_form; right_form = s.right_form; makes = makes }, few)
  leq_remains (Answered b) c text r given world is_told remains is d turns s =
      let (makes, few) = remains is (refutation d) turns s.makes in
      let made : IsToBeMade (leq p Making) world d =
      record { left_form = s.left_form; right_form = s.right_form; makes = makes } in
      (is_told.answer_is ∙ made_decides p Making is_told.one world d is_told.tells is_told.made made, omega arith)

-- no file is damaged where the checkpoint stands for something
pub leq_undamaged : (c : Checkpoint) (text : List ℕ) (r : FileNo → List ℕ) (given : Type 0) (e : SortFault)
    → (given → (job : TableWork) (turns : ℕ) → product_saving.stands c text r job turns → IsNoDamage e)
    → given → (d : Implication) (turns : ℕ) → StandsFor c text r d turns → IsNoDamage e
leq_undamaged c text r given e none is d turns s = none is (refutation d) turns s.makes
