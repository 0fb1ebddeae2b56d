use Rattle.std.specs.Prelude.{replicate}
use Rattle.std.proofs.Common.{ap, ◌∙◌, sym}
use Rattle.saved_words.specs.Places.{put_in}
use Rattle.saved_words.proofs.Placing.{put_in-replicate}
use Rattle.saved_words.proofs.joined.Tuple2Carried.put_none.Goals as goal

pub returns : goal.returns
returns g c = c.put_none-2.ensures ∙ ap (put_in (replicate g.B.Carried.count 0)) c.put_none.ensures
    ∙ sym (put_in-replicate g.A.Carried.count g.B.Carried.count c.args.into.now)
