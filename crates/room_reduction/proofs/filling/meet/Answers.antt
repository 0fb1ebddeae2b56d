use Rattle.std.proofs.Common.{refl, sym, subst}
use Rattle.arc_diagrams.specs.Arcs.{IsMet}
use Rattle.room_reduction.proofs.filling.meet.Goals as goal

pub returns-then-add_source-clause-met : goal.returns-then-add_source-clause-met
returns-then-add_source-clause-met c root all left met old =
    c.if-add_source.ensures.added refl root all left (subst (IsMet root all) (sym c.word-source.ensures.value) met) old
