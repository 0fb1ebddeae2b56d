use Rattle.std.proofs.Common.{◌<◌, ◌-◌, ap, arith}
use Rattle.rec_words.specs.Words.{level_of}
use Rattle.run_files.specs.Items.{record_at}
use Rattle.packed_records.specs.Packed.{packed}
use Rattle.room_reduction.specs.Records.{word}
use Rattle.room_reduction.proofs.FillingLaws.{one_more}
use Rattle.room_reduction.proofs.filling.add_source.Goals as goal
use Rattle.room_reduction.proofs.filling.add_source.Goals.{else-found-gt0-via-then-found-gt0+else-word_at-source, else-found-gt0-via-else-found-gt0}

pub returns-clause-added : goal.returns-clause-added
returns-clause-added c done root all left met old =
    let xs = packed c.args.sources.now in
    let found = c.args.found in
    let above : 0 < found → word 0 (record_at xs (found - 1)) < c.args.source =
    λ some. elim c.else-found-gt0.branch [
      | else-found-gt0-via-then-found-gt0+else-word_at-source w ↦
          let first = w.word_at.ensures in let last = w.if-word_at-source.false in omega (arith, first, last)
      | else-found-gt0-via-else-found-gt0 w ↦
          let nothing = w.if-found-gt0.false in absurd (omega (arith, some, nothing))
    ] in
    let below = c.if-level-from.false in
    let same = c.from.ensures in
    let level : level_of c.args.source < c.args.n = omega (arith, below, same) in
    one_more c.args.n root all left xs (packed c.put_record.new.room) found c.args.source
    (ap (word 0) (c.put_record.ensures.own done)) c.put_record.ensures.others level met above old
