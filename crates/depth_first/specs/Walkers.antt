-- Tables that walks use one after the other.
use Rattle.std.specs.Prelude.{ℕ, List, length}
use Rattle.depth_first.specs.declared.walker.Walker.{Walker}

-- the number of nodes of the graphs that they serve
abbrev pub nodes_of : Walker → ℕ
nodes_of w = length w.walk.states.items

-- the nodes in the order of the last walk
abbrev pub order_of : Walker → List ℕ
order_of w = w.walk.order.items
