-- What is promised of a plan, where its steps and numbers are those of the wanted signals.
use Rattle.std.proofs.Common.{◌≡◌, ℕ, ◌<◌, List, length, get_or}
use Rattle.std.specs.Prelude.{Result, Ok, Err, IfOk}
use Rattle.depth_first.specs.Graph.{IsTopological, visits}
use Rattle.blif_reader.specs.Netlist.{Net, IsNet}
use Rattle.net_plan.specs.declared.fault.PlanFault.{PlanFault}
use Rattle.net_plan.specs.declared.plan.NetPlan.{NetPlan}
use Rattle.net_plan.specs.Plan.{plan_steps, plan_made}
use Rattle.net_plan.specs.Values.{MakeTables}
use Rattle.net_plan.specs.WellFormed.{StaysWellFormed}
use Rattle.net_plan.proofs.Meanings.{tables_made}
use Rattle.net_plan.proofs.GoingOn.{plan_goes_on}

module _ (net : Net) (levels wanted : List ℕ) (first : ℕ) (order : List ℕ) (sound : IsNet net)
    (same : order ≡ visits net.edges wanted) (above : IsTopological net.edges order)
    (inside : (k : ℕ) → k < length order → get_or order k 0 < length net.names)
    (exist : (i : ℕ) → i < length wanted → get_or wanted i 0 < length net.names) where
  -- it makes the tables
  pub plan_makes : (result : Result NetPlan PlanFault)
      → IfOk result (λ plan. plan.steps ≡ plan_steps net levels wanted first)
      → IfOk result (λ plan. plan.made ≡ plan_made net levels wanted first)
      → IfOk result (λ plan. MakeTables net levels wanted first plan.steps plan.made)
  plan_makes (Ok plan) steps made =
      rw (steps, made) (tables_made net levels wanted first order sound same above inside exist)
  plan_makes (Err fault) steps made = tt

  -- and goes on with any plan
  pub plan_stays : length levels ≡ net.inputs → (result : Result NetPlan PlanFault)
      → IfOk result (λ plan. plan.steps ≡ plan_steps net levels wanted first)
      → IfOk result (λ plan. plan.made ≡ plan_made net levels wanted first)
      → IfOk result (λ plan. StaysWellFormed levels wanted first plan.steps plan.made)
  plan_stays each (Ok plan) steps made =
      rw (steps, made) (plan_goes_on net levels wanted first order sound each same above inside exist)
  plan_stays each (Err fault) steps made = tt
