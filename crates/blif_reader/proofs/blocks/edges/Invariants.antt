use Rattle.std.proofs.Common.{◌≡◌, ◌++◌, [], map, drop, replicate}
use Rattle.blif_reader.specs.Statements.{statement_of}
use Rattle.blif_reader.specs.Netlist.{reads_of}
use Rattle.depth_first.specs.Views.{graph_of}
use Rattle.blif_reader.specs.Views.{number_in}
use Rattle.blif_reader.proofs.blocks.edges.Given as goal

-- so many inputs read nothing
abbrev pub invariant-loop-input : goal.invariant-loop-input
invariant-loop-input l = graph_of l.edges.items ≡ replicate l._input []

-- what the blocks so far read, and what those that are left read, is all
abbrev pub invariant-loop-place : goal.invariant-loop-place
invariant-loop-place l = graph_of l.edges.items ++ map (λ words. map (number_in l.index) words) (reads_of (map statement_of (drop l.place l.statements))) ≡ replicate l.inputs [] ++ map (λ words. map (number_in l.index) words) (reads_of (map statement_of l.statements))
