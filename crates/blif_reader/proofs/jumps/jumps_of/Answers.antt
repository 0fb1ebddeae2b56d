use Rattle.std.proofs.Common.{◌≡◌, ◌+◌, ◌∙◌, ◌∷◌, [], length, length-append, ap, sym, subst, arith}
use Rattle.depth_first.specs.Graph.{edges_of}
use Rattle.blif_reader.specs.Jumps.{JumpIdle}
use Rattle.blif_reader.specs.Netlist.{cover_at}
use Rattle.blif_reader.specs.Tables.{net_in}
use Rattle.blif_reader.proofs.Jumping.{jumps_push}
use Rattle.blif_reader.proofs.jumps.jumps_of.Goals as goal

pub loop-signal-preserved : goal.loop-signal-preserved
loop-signal-preserved c =
    let net = net_in c.args.tables.now in
    let jumps = c.loop-signal.jumps.items in
    let count : length jumps ≡ c.loop-signal.signal = c.loop-signal.invariant.count in
    let items = c.in_ok-push.ensures.items in
    let n : length c.push.new.self.items ≡ length jumps + 1 = ap length items ∙ length-append jumps (c.in_ok-list.list ∷ []) in
    let one = subst (λ k. JumpIdle (edges_of net.edges k) (cover_at net k).rows c.in_ok-list.list.items) (sym count) c.in_ok-list.ensures.jumps in
    record {
      count = omega arith;
      jumps = λ s lt. jumps_push net jumps c.push.new.self.items c.in_ok-list.list items (λ t b. c.loop-signal.invariant.jumps t (omega arith)) one s (omega arith);
      blank = c.signal_jumps.ensures.blank ∙ c.loop-signal.invariant.blank;
    }
