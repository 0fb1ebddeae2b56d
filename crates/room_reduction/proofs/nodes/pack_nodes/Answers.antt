use Rattle.std.proofs.Common.{◌+◌, ◌*◌, ◌<◌, length, arith}
use Rattle.room_reduction.proofs.PackedNodes.{one_packed}
use Rattle.room_reduction.proofs.nodes.pack_nodes.Goals as goal

pub loop-place-preserved : goal.loop-place-preserved
loop-place-preserved c =
    let count = c.args.count in
    let place = c.loop-place.place in
    let known = c.loop-place.invariant in
    let put = c.put_record.ensures in
    let below = c.loop-place-test.true in
    let long = c.loop-place.auto.nodes in
    let some = c.if-count-room.false in
    let enough = c.if-records-room.false in
    let room : count + place < 4 * length c.loop-place.nodes = omega (arith, long, some, enough, below) in
    record {
      behind = λ xs is.
          one_packed c.args.nodes.now c.loop-place.nodes c.put_record.new.room c.args.records.now xs count place is
          below room c.put_record.auto.room (put.own c.if-not-put_record.false) put.others (known.behind xs is);
    }
