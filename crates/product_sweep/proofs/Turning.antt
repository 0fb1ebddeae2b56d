-- The turns of a sweep that answers whether one function implies another.
use Rattle.std.proofs.Common.{◌≡◌, ℕ, ◌^◌, ◌<◌, ◌≤◌, Bool, true, false, not, IsTrue, refl, sym, subst, arith}
use Rattle.std.specs.Prelude.{None, Result, Ok, Err, OnOk, IfErr, IsErrOf, IsSome}
use Rattle.bool_tables.specs.Tables.{is_leq}
use Rattle.shelf_model.specs.declared.file_no.FileNo.{FileNo}
use Rattle.shelf_model.specs.declared.sort_fault.SortFault.{SortFault}
use Rattle.shelf_model.specs.declared.sort_fault.SortFault.TheVariants.{Shelf, Damaged, RunsSpent}
use Rattle.shelf_model.specs.Faults.{Faults}
use Rattle.shelf_model.specs.World.{World, file}
use Rattle.canon_file.specs.Members.{Has}
use Rattle.sweep_core.specs.Accounts.{Accounts, Leaves}
use Rattle.sweep_core.specs.Sweeps.{Falls, MovesOn, AtEnd, IsFirm, IsNoDamage}
use Rattle.sweep_core.specs.declared.turn.Turn.{Turn}
use Rattle.sweep_core.specs.declared.turn.Turn.TheVariants as turns
use Rattle.sweep_core.proofs.Leaving.{leaves_more, leaves_ok, leaves_err}
use Rattle.table_work.specs.declared.sweep.TableSweep.{TableSweep}
use Rattle.table_work.specs.Jobs.{TableWork, turns_of}
use Rattle.table_work.specs.Tables.{sweep_of}
use Rattle.tuple_asks.specs.declared.place.Phase.{Phase}
use Rattle.tuple_asks.specs.declared.place.Phase.TheVariants.{Fresh, Asking, Ended}
use Rattle.sweep_operations.specs.declared.product.Product.{Product}
use Rattle.top_down_sweep.specs.declared.sweep.TopDownSweep.{TopDownSweep}
use Rattle.top_down_sweep.specs.Beginning as top
use Rattle.top_down_sweep.specs.Calls as calls
use Rattle.top_down_sweep.specs.Damage as damage
use Rattle.top_down_sweep.specs.Fuel as fuel
use Rattle.top_down_sweep.specs.Making.{accounts_along}
use Rattle.top_down_sweep.specs.Sweeps as sweeps
use Rattle.top_down_sweep.proofs.Doing.{refused_spent}
use Rattle.top_down_sweep.proofs.Makings.{gives, still_ready}
use Rattle.product_sweep.specs.declared.leq.LeqPhase.{LeqPhase}
use Rattle.product_sweep.specs.declared.leq.LeqPhase.TheVariants.{Making, Answered}
use Rattle.product_sweep.specs.declared.leq.LeqSweep.{LeqSweep}
use Rattle.product_sweep.specs.Implications.{Implication, IsToBeMade, refutation, accounts, Turned}
use Rattle.product_sweep.specs.LeqPhases.{TellsOne}
use Rattle.product_sweep.specs.Products.{rule_of, begins_of, MakesTable}
use Rattle.product_sweep.proofs.Refuting.{leq_nowhere, refuted}

-- what the product's sweep changes and owes
abbrev pub product_accounts : Accounts (TableSweep Product)
product_accounts = accounts_along sweep_of (sweeps.accounts Product)

-- what a turn of it does
pub record ProductTurned {S : Type 0} (tells : S → Bool) (world : S → World) (counts : S → Faults)
    (before after : S) (p q : TableSweep Product) (result : Result Turn SortFault) : Type 0 where
  pub ready : OnOk result (top.IsReady (sweep_of q))
  pub in_step : OnOk result (IsTrue (tells after) → calls.IsInStep (sweep_of q) (world after))
  pub falls : Falls (fuel.fuel_of (sweep_of p)) (fuel.fuel_of (sweep_of q)) result
  pub firm : AtEnd result (IsTrue (tells after) → (f : FileNo) → product_accounts.makes q f
      → IsFirm (file (world after) f))
  pub keeps : OnOk result (IsTrue (tells after) → (job : TableWork) → MakesTable p (world before) job
      → MakesTable q (world after) job)
  pub fewer : IsTrue (tells after) → (job : TableWork) → MakesTable p (world before) job
      → MovesOn 1 (turns_of (sweep_of p) (world before) job) (turns_of (sweep_of q) (world after) job) result
  pub trusts : OnOk result (IsTrue (tells after) → calls.IsTrusted rule_of begins_of (sweep_of p) (world before)
      → calls.IsTrusted rule_of begins_of (sweep_of q) (world after))
  pub damaged : IfErr result (λ e. IsTrue (tells after) → calls.IsTrusted rule_of begins_of (sweep_of p) (world before)
      → damage.IsDamage rule_of begins_of (sweep_of q) (world after) e)
  pub undamaged : IfErr result (λ e. IsTrue (tells after) → (job : TableWork) → MakesTable p (world before) job
      → IsNoDamage e)
  pub leaves : Leaves tells world counts product_accounts 224 12 before after p q result
  pub same : sweeps.task_of (sweep_of q) ≡ sweeps.task_of (sweep_of p)
  pub spent : IsErrOf result RunsSpent → 2 ^ 32 ≤ product_accounts.next q

-- what its early end does
pub record EndsEarly {S : Type 0} (tells : S → Bool) (world : S → World) (counts : S → Faults)
    (before after : S) (p q : TopDownSweep Product) (result : Result Unit SortFault) : Type 0 where
  pub ready : OnOk result (sweeps.IsSound q)
  pub firm : OnOk result (IsTrue (tells after) → (f : FileNo) → sweeps.IsMade (sweeps.files_of q) f
      → IsFirm (file (world after) f))
  pub leaves : Leaves tells world counts (sweeps.accounts Product) 4 0 before after p q result
  pub same : sweeps.task_of q ≡ sweeps.task_of p
  pub refused : IfErr result (sweeps.Refused q)
  pub undamaged : IfErr result IsNoDamage

-- the sweep with that product, at that phase
abbrev pub leq : TableSweep Product → LeqPhase → LeqSweep
leq p phase = record { product = p; phase = phase }

-- while nothing is made, more is to be made
works_at : (p : Phase) (n : ℕ) → sweeps.made_at p ≡ None → 0 < fuel.fuel_at p n
works_at Fresh n none = omega arith
works_at (Asking s) n none = omega arith
works_at (Ended made) n none = absurd (cc)

pub unmade_works : (p : TableSweep Product) → sweeps.made_in (sweep_of p) ≡ None → 0 < fuel.fuel_of (sweep_of p)
unmade_works p none = works_at (sweep_of p).machine.place.phase _ none

-- no file is said to be damaged
no_damage : (s : TopDownSweep Product) (world : World) (e : SortFault) → IsNoDamage e → damage.IsDamage rule_of begins_of s world e
no_damage s world Shelf none = tt
no_damage s world (Damaged f at) none = absurd none
no_damage s world RunsSpent none = tt

-- where the truth value 1 was met, the left function doesn't imply the right one
met_refutes : (p : TableSweep Product) (phase : LeqPhase) (world : World) (d : Implication) → TellsOne p true
    → IsToBeMade (leq p phase) world d → false ≡ is_leq d.left d.right
met_refutes p phase world d tells r =
    let makes = r.makes.makes in
    refuted d.n d.left d.right r.left_form.whole r.right_form.whole
    (subst (Has true) makes.table_is (tells.value refl world makes.task makes.remains))

-- once all is made, that decides
pub made_decides : (p : TableSweep Product) (phase : LeqPhase) (one : Bool) (world : World) (d : Implication) → TellsOne p one
    → IsSome (sweeps.made_in (sweep_of p)) → IsToBeMade (leq p phase) world d → not one ≡ is_leq d.left d.right
made_decides p phase true world d tells made r = met_refutes p phase world d tells r
made_decides p phase false world d tells made r =
    let makes = r.makes.makes in
    sym ((leq_nowhere d.n d.left d.right r.left_form.whole r.right_form.whole).1
    (λ one. tells.none refl made world makes.task makes.remains (subst (Has true) (sym makes.table_is) one)))

module _ {S : Type 0} (tells : S → Bool) (world : S → World) (counts : S → Faults) (before after : S) where
  -- what a turn of the product leaves, the whole sweep leaves
  leaves_as : (p q : TableSweep Product) (a b : LeqPhase) (r : Result Turn SortFault)
      → Leaves tells world counts product_accounts 224 12 before after p q r
      → Leaves tells world counts accounts 224 12 before after (leq p a) (leq q b) r
  leaves_as p q a b r l = record {
    made = l.made;
    making = l.making;
    step_is = l.step_is;
    later = l.later;
    within = l.within;
    content = l.content;
    untaken = l.untaken;
    calls = l.calls;
    spent = l.spent;
    faults = l.faults;
  }

  module _ (p q : TableSweep Product) where
    -- arcs are made on
    pub going_on : ProductTurned tells world counts before after p q (Ok turns.More)
        → Turned tells world counts before after (leq p Making) (leq q Making) (Ok turns.More)
    going_on t = record {
      ready = record { product = t.ready; works = t.falls.0 };
      in_step = t.in_step;
      falls = (omega arith, omega (arith, t.falls.1));
      ended = λ none. absurd (omega (arith, none));
      firm = tt;
      keeps = λ is d r. record {
        left_form = r.left_form;
        right_form = r.right_form;
        makes = t.keeps is (refutation d) r.makes;
      };
      fewer = λ is d r. t.fewer is (refutation d) r.makes;
      trusts = t.trusts;
      damaged = tt;
      undamaged = tt;
      leaves = leaves_as p q Making Making (Ok turns.More) t.leaves;
      same = t.same;
      spent = λ was. absurd (cc);
    }

    -- all arcs are made
    pub all_made : (one : Bool) → ProductTurned tells world counts before after p q (Ok turns.Ended) → TellsOne q one
        → Turned tells world counts before after (leq p Making) (leq q (Answered (not one))) (Ok turns.Ended)
    all_made one t told = record {
      ready = record { product = t.ready; works = tt };
      in_step = t.firm;
      falls = refl;
      ended = λ none. absurd (omega (arith, none));
      firm = t.firm;
      keeps = λ is d r. made_decides q Making one (world after) d told made (record {
        left_form = r.left_form;
        right_form = r.right_form;
        makes = t.keeps is (refutation d) r.makes;
      });
      fewer = λ is d r. refl;
      trusts = λ is old. tt;
      damaged = tt;
      undamaged = tt;
      leaves = leaves_as p q Making (Answered (not one)) (Ok turns.Ended) t.leaves;
      same = t.same;
      spent = λ was. absurd (cc);
    }
      where
        made : IsSome (sweeps.made_in (sweep_of q))
        made = (gives rule_of begins_of (sweep_of q) (sweeps.made_in (sweep_of q)) refl).at_end.1 t.falls

    -- none can be made
    pub make_refused : (e : SortFault) → ProductTurned tells world counts before after p q (Err e)
        → Turned tells world counts before after (leq p Making) (leq q Making) (Err e)
    make_refused e t = record {
      ready = tt;
      in_step = tt;
      falls = tt;
      ended = λ none. absurd (omega (arith, none));
      firm = tt;
      keeps = tt;
      fewer = λ is d r. tt;
      trusts = tt;
      damaged = t.damaged;
      undamaged = λ is d r. t.undamaged is (refutation d) r.makes;
      leaves = leaves_as p q Making Making (Err e) t.leaves;
      same = t.same;
      spent = t.spent;
    }

    -- what an early end leaves, the whole sweep leaves
    early_leaves : {A : Type 0} (b : LeqPhase) (r : Result A SortFault)
        → Leaves tells world counts (sweeps.accounts Product) 4 0 before after (sweep_of p) (sweep_of q) r
        → Leaves tells world counts accounts 224 12 before after (leq p Making) (leq q b) r
    early_leaves b r l = leaves_more tells world counts accounts 4 224 0 12 before after (leq p Making) (leq q b) r
        (omega arith) (omega arith) (record {
          made = l.made;
          making = l.making;
          step_is = l.step_is;
          later = l.later;
          within = l.within;
          content = l.content;
          untaken = l.untaken;
          calls = l.calls;
          spent = l.spent;
          faults = l.faults;
        })

    -- an arc leads to 1
    pub ended_early : (x : Unit {0}) → top.IsReady (sweep_of p) → TellsOne p true
        → EndsEarly tells world counts before after (sweep_of p) (sweep_of q) (Ok x)
        → Turned tells world counts before after (leq p Making) (leq q (Answered false)) (Ok turns.Ended)
    ended_early x ready told t = record {
      ready = record {
        product = still_ready tells world counts 4 0 before after (sweep_of p) (sweep_of q) (Ok x) ready t.leaves t.ready;
        works = tt;
      };
      in_step = t.firm;
      falls = refl;
      ended = λ none. absurd (omega (arith, none));
      firm = t.firm;
      keeps = λ is d r. met_refutes p Making (world before) d told r;
      fewer = λ is d r. refl;
      trusts = λ is old. tt;
      damaged = tt;
      undamaged = tt;
      leaves = leaves_ok tells world counts accounts 224 12 before after (leq p Making) (leq q (Answered false))
          (Ok x) turns.Ended (early_leaves (Answered false) (Ok x) t.leaves);
      same = t.same;
      spent = λ was. absurd (cc);
    }

    -- or its files can't be ended
    pub early_refused : (e : SortFault) → EndsEarly tells world counts before after (sweep_of p) (sweep_of q) (Err e)
        → Turned tells world counts before after (leq p Making) (leq q Making) (Err e)
    early_refused e t = record {
      ready = tt;
      in_step = tt;
      falls = tt;
      ended = λ none. absurd (omega (arith, none));
      firm = tt;
      keeps = tt;
      fewer = λ is d r. tt;
      trusts = tt;
      damaged = λ is old. no_damage (sweep_of q) (world after) e t.undamaged;
      undamaged = λ is d r. t.undamaged;
      leaves = leaves_err tells world counts accounts 224 12 before after (leq p Making) (leq q Making)
          (Err e) (Err e) e refl refl (early_leaves Making (Err e) t.leaves);
      same = t.same;
      spent = λ was. refused_spent {T = Unit {0}} (sweep_of q) (Err e) t.refused (cc);
    }
