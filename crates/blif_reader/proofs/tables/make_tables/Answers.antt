use Rattle.std.proofs.Common.{◌∙◌, ap, map}
use Rattle.blif_reader.specs.Statements.{statement_of}
use Rattle.blif_reader.specs.Parts.{Use}
use Rattle.blif_reader.specs.Views.{number_in}
use Rattle.blif_reader.proofs.Netlists.{makes_tables}
use Rattle.blif_reader.proofs.tables.make_tables.Goals as goal

pub returns-clause-net : goal.returns-clause-net
returns-clause-net c =
    makes_tables (map statement_of c.args.statements.now) c.args.inputs _ c.in_ok-index.index _ _ _ c.requires.inputs c.in_ok-names.ensures c.in_ok-index.ensures c.in_ok-edges.ensures c.in_ok-covers.ensures
    (c.in_ok-outputs.ensures ∙ ap (λ us. map (number_in c.in_ok-index.index) (map (λ (u : Use). u.word) us)) c.of.ensures)
