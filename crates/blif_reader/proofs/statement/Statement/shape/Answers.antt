use Rattle.std.proofs.Common.{◌∙◌, ap, sym}
use Rattle.blif_reader.specs.Grammar.{shape_of}
use Rattle.blif_reader.specs.Text.{joined, first_words}
use Rattle.blif_reader.proofs.Joins.{joined_none}
use Rattle.blif_reader.proofs.statement.Statement.shape.Goals as goal

pub returns-in-None : goal.returns-in-None
returns-in-None c = sym (ap shape_of (ap (λ ls. first_words (joined ls)) (sym c.starting_at-lines.ensures ∙ c.in-None.ensures) ∙ ap first_words joined_none))
