use Rattle.std.proofs.Common.{◌≡◌, ℕ, ◌<◌, false, length, replicate}
use Rattle.depth_first.specs.Graph.{edges_of}
use Rattle.depth_first.specs.Views.{graph_of}
use Rattle.blif_reader.specs.Jumps.{JumpIdle}
use Rattle.blif_reader.specs.Netlist.{cover_at}
use Rattle.blif_reader.specs.Tables.{net_in}
use Rattle.blif_reader.proofs.jumps.jumps_of.Given as goal

-- the signals so far have their jumps, and no word is marked
abbrev pub invariant-loop-signal : goal.invariant-loop-signal
invariant-loop-signal l = record {
  count : length l.jumps.items ≡ l.signal;
  jumps : (s : ℕ) → s < l.signal → JumpIdle (edges_of (net_in l.tables).edges s) (cover_at (net_in l.tables) s).rows (edges_of (graph_of l.jumps.items) s);
  blank : l.stood.items ≡ replicate (length (net_in l.tables).names) false;
}
