-- The work of a step, in turns.
use Rattle.std.specs.Prelude.{ℕ, ◌+◌, ◌*◌, Bool, List, length, sum_by}
use Rattle.bool_tables.specs.declared.steps.Step.{Step}
use Rattle.canon_file.specs.Canon.{canon_nodes}
use Rattle.step_work.specs.Tuples.{tuple_count}

-- how many nodes the diagrams of tables have, each counted by itself
abbrev pub nodes_of : ℕ → List (List Bool) → ℕ
nodes_of n tables = sum_by (λ t. length (canon_nodes n t)) tables

-- 16 turns for each tuple that the step joins and in which a piece splits, for each node of its operands, and for one
-- more
abbrev pub work_for : ℕ → Step → List (List Bool) → ℕ
work_for n step tables = 16 * (tuple_count n step tables + nodes_of n tables + 1)
