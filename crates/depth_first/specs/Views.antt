-- What the arguments of the walks stand for.
use Rattle.std.specs.Prelude.{ℕ, List, map, Vec}
use Rattle.std.specs.declared.alloc.Global.{Global}

-- the graph that vectors of nodes spell
abbrev pub graph_of : List (Vec ℕ Global) → List (List ℕ)
graph_of edges = map (λ v. v.items) edges
