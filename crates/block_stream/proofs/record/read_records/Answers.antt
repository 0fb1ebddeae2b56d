use Rattle.std.proofs.Common.{◌≡◌, ◌++◌, ◌∷◌, [], ◌*◌, ◌∙◌, sym, ap, drop, arith}
use Rattle.std.proofs.lemmas.List.{take_more_set, take_rest}
use Rattle.block_stream.specs.Records.{record_of}
use Rattle.block_stream.proofs.RecordLaws.{records_more}
use Rattle.block_stream.proofs.record.read_records.Goals as goal

pub loop-i-preserved : goal.loop-i-preserved
loop-i-preserved c =
    let read : c.read_record.result ≡ record_of c.args.words (drop (c.loop-i.i * (8 * c.args.words)) c.args.bytes.now) =
    c.read_record.ensures ∙ ap (record_of c.args.words) (take_rest c.args.bytes.now (c.loop-i.i * (8 * c.args.words))) in
    take_more_set c.loop-i.window c.loop-i.i c.read_record.result (omega arith)
    ∙ (λ j. c.loop-i.invariant j ++ read j ∷ [])
    ∙ sym (records_more c.args.words c.loop-i.i c.args.bytes.now)
