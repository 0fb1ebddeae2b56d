use Rattle.block_stream.proofs.ItemLaws.{first_ahead}
use Rattle.block_stream.proofs.forward.Forward.next.Goals as goal

pub returns-clause-items : goal.returns-clause-items
returns-clause-items g c t reads xs left =
    first_ahead g.T.Spill.is_value g.T.Spill.words g.met.T.Spill.differ _ _ _ xs _
    c.next_forward.ensures.same c.next_forward.ensures.place (c.next_forward.ensures.value t reads) left
