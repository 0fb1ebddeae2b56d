use Rattle.std.proofs.Common.{◌∙◌, set, arith}
use Rattle.block_stream.proofs.RecordLaws.{set_word}
use Rattle.block_stream.proofs.record.read_record.Goals as goal

pub loop-k-preserved : goal.loop-k-preserved
loop-k-preserved c =
    (λ i. set (c.loop-k.invariant i) c.loop-k.k (c.word_at.ensures i)) ∙ set_word c.loop-k.k c.args.bytes.now (omega arith)
