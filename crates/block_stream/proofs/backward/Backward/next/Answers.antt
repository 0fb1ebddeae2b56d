use Rattle.block_stream.proofs.ItemLaws.{last_behind}
use Rattle.block_stream.proofs.backward.Backward.next.Goals as goal

pub returns-clause-items : goal.returns-clause-items
returns-clause-items g c t reads xs left =
    last_behind g.T.Spill.is_value g.T.Spill.words g.met.T.Spill.differ _ _ _ xs _
    c.next_backward.ensures.same c.next_backward.ensures.place (c.next_backward.ensures.value t reads) left
