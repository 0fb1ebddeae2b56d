use Rattle.std.proofs.Common.{◌+◌, length}
use Rattle.std.specs.List.{count_by}
use Rattle.depth_first.specs.Search.{IsSearch, is_unreached}
use Rattle.depth_first.specs.Views.{graph_of}
use Rattle.depth_first.proofs.search.reached_from.Given as goal

-- it is a search from the node
abbrev pub invariant-search : goal.invariant-search
invariant-search l = IsSearch (graph_of l.edges) l.node l.reached.items l.later.items

abbrev pub decreases-search : goal.decreases-search
decreases-search l = count_by is_unreached l.reached.items + length l.later.items
