use Rattle.std.proofs.Common.{◌∙◌, ap, sym, subst}
use Rattle.shelf_model.specs.File.{firm_file}
use Rattle.arc_diagrams.specs.Laws.{IsDiagramOf}
use Rattle.room_reduction.specs.Sources.{AreSources, sources_in}
use Rattle.room_reduction.proofs.levels.reduce_sources.Goals as goal

-- the file has the nodes of all levels
pub returns-clause-made : goal.returns-clause-made
returns-clause-made g c tells arcs t few stands are =
    let n = c.args.n in
    let root = sym c.word.ensures.value in
    let made = c.in-Some.ensures.made arcs t few (subst (λ w. IsDiagramOf n w arcs t) root stands)
    (subst (λ w. AreSources n w arcs (sources_in c.args.index.total c.args.sources.now)) root are) in
    (c.in_ok-write_packed.ensures.made tells ∙ ap firm_file made.bytes_are, made.count_is)
