use Rattle.blif_reader.proofs.Indexing.{had, puts_word}
use Rattle.blif_reader.proofs.index.put.Goals as goal

pub returns-clause-old : goal.returns-clause-old
returns-clause-old c = had c.args.index.now c.in_ok-key.key c.args.word.now c.in_ok-insert.field-0 c.in_ok-key.ensures.items c.in_ok-insert.ensures.old

pub returns-clause-puts : goal.returns-clause-puts
returns-clause-puts c = puts_word c.args.index.now c.insert.new.self c.in_ok-key.key c.args.word.now c.args.number c.in_ok-key.ensures.items c.in_ok-insert.ensures.updates
