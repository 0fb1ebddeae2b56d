use Rattle.std.proofs.Common.{map, arith}
use Rattle.blif_reader.specs.Statements.{statement_of}
use Rattle.blif_reader.specs.Parts.{uses_in}
use Rattle.blif_reader.specs.Lines.{words_left}
use Rattle.blif_reader.proofs.Windows.{takes_here}
use Rattle.blif_reader.proofs.parts.Uses.next_here.Goals as goal

pub returns-clause-here : goal.returns-clause-here
returns-clause-here c =
    let u = c.args.self.now in
    takes_here c.next.result u.line u.left (words_left u.words) (words_left c.next.new.self) (uses_in u.part (map statement_of u.behind.now)) (omega (arith, c.if-self-eq0.false)) c.next.ensures.steps
