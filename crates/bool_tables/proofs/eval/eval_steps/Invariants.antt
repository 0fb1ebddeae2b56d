use Rattle.std.proofs.Common.{◌≡◌, drop}
use Rattle.bool_tables.specs.Steps.{tables_after, plan_tables}
use Rattle.bool_tables.proofs.eval.eval_steps.Given as goal

-- from the tables so far, the steps that are left lead to the tables of the plan
abbrev pub invariant-loop-planned : goal.invariant-loop-planned
invariant-loop-planned l = tables_after l.n l.tables.items (drop l.planned-index l.steps) ≡ plan_tables l.n l.steps
