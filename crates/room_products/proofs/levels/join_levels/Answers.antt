use Rattle.room_products.proofs.levels.join_levels.Goals as goal

pub loop-level-preserved : goal.loop-level-preserved
loop-level-preserved c =
    let so_far = c.loop-level.invariant in
    let turn = c.in_ok-now.ensures in
    record {
      within = turn.within;
      done_within = turn.done;
      joined = λ n root roots targets top rule rows joining.
          turn.joined n root roots targets top rule rows
          (so_far.joined n root roots targets top rule rows joining);
    }
