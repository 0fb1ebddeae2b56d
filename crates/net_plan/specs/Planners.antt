-- Tables with which a netlist's signals are planned.
use Rattle.std.specs.Prelude.{ℕ}
use Rattle.depth_first.specs.Walkers.{nodes_of}
use Rattle.net_plan.specs.declared.planner.Planner.{Planner}

-- the number of signals of the netlists that they serve
abbrev pub signals_of : Planner → ℕ
signals_of p = nodes_of p.walker
