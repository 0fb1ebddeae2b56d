use Rattle.std.proofs.lemmas.Result.{on_ok_weaker}
use Rattle.block_stream.proofs.ItemLaws.{item_put}
use Rattle.block_stream.proofs.appender.Appender.put.Goals as goal

pub returns-clause-items : goal.returns-clause-items
returns-clause-items g c =
    on_ok_weaker c.put_record.result (λ writing t width xs held.
    let both = item_put g.T.Spill.is_value g.T.Spill.words _ _ _ _ _ c.to_rec.result xs c.args.item width c.put_record.ensures.same.words_are
    g.met.T.Spill.few.1 (g.met.T.Spill.eight c.args.item c.to_rec.ensures.value) (g.met.T.Spill.fits c.args.item c.to_rec.ensures.value)
    (g.met.T.Spill.unused c.args.item c.to_rec.ensures.value) c.to_rec.ensures.value c.to_rec.ensures.words (writing t).bytes_are held.items held.all in
    record { items = both.0; all = both.1 }) c.put_record.ensures.bytes
