use Rattle.sweep_checkpoint.proofs.Parts.{run_read}
use Rattle.sweep_checkpoint.proofs.point.run_at.Goals as goal

pub returns-clause-bytes : goal.returns-clause-bytes
returns-clause-bytes c = run_read c.args.bytes.now c.args.at c.word_at.result c.word_at-2.result c.word_at-3.result c.word_at.ensures.bytes c.word_at-2.ensures.bytes c.word_at-3.ensures.bytes
