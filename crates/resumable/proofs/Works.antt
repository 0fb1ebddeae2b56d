-- The work of a step is that of its operation on the tables that it uses, whichever steps made these.
use Rattle.std.specs.Prelude.{◌≡◌, ℕ, ◌+◌, ◌*◌, Bool, List, map}
use Rattle.std.proofs.Common.{ap, ◌∙◌}
use Rattle.bool_tables.specs.declared.steps.Planned.{Planned}
use Rattle.bool_tables.specs.declared.steps.Step.{Step}
use Rattle.bool_tables.specs.Plans.{operands}
use Rattle.step_work.proofs.SameTuples.{LeadAlike, same_count}
use Rattle.step_work.specs.Plans.{step_at, table_at, work_at}
use Rattle.step_work.specs.Tuples.{joins}
use Rattle.step_work.specs.Works.{nodes_of, work_for}

pub same_work : (s t : Step) → joins s ≡ joins t → LeadAlike s t → (n : ℕ) (tables : List (List Bool))
    → work_for n s tables ≡ work_for n t tables
same_work s t both alike n tables = ap (λ k. 16 * (k + nodes_of n tables + 1)) (same_count s t both alike n tables)

-- so it is of a step of a plan
pub work_at_step : (n : ℕ) (steps : List Planned) (j : ℕ) (s t : Step) → step_at steps j ≡ s → joins s ≡ joins t
    → LeadAlike s t → work_at n steps j ≡ work_for n t (map (table_at n steps) (operands s))
work_at_step n steps j s t is both alike =
    ap (λ q. work_for n q (map (table_at n steps) (operands q))) is
    ∙ same_work s t both alike n (map (table_at n steps) (operands s))
