use Rattle.std.proofs.Common.{◌≡◌, ◌++◌, map, drop}
use Rattle.blif_reader.specs.Statements.{statement_of}
use Rattle.blif_reader.specs.Netlist.{covers_of}
use Rattle.blif_reader.specs.Views.{cover_of}
use Rattle.blif_reader.proofs.blocks.covers.Given as goal

-- the covers so far and those that are left are all
abbrev pub invariant-loop-place : goal.invariant-loop-place
invariant-loop-place l = map cover_of l.covers.items ++ covers_of (map statement_of (drop l.place l.statements)) ≡ covers_of (map statement_of l.statements)
