use Rattle.std.proofs.Common.{◌≤◌, ◌^◌, ◌++◌, List, length, subst, arith}
use Rattle.std.specs.Prelude.{IfSome}
use Rattle.std.proofs.lemmas.List.{length-append}
use Rattle.arc_file.specs.declared.arc.Arc.{Arc}
use Rattle.room_reduction.specs.Sources.{AreSources, sources_in}
use Rattle.room_reduction.proofs.FilledLaws.{ok_weaker}
use Rattle.room_reduction.proofs.reduce.reduce_in_room.Goals as goal

pub returns-clause-made : goal.returns-clause-made
returns-clause-made g c =
    let made = c.args.made.now in
    ok_weaker _ _ c.write_sources.result (λ done reduced tells inner ends t has_inner has_ends diagram.
    let all : List Arc = inner ++ ends in
    let first = has_inner.begin.count_is in
    let last = has_ends.begin.count_is in
    let both = length-append inner ends in
    let count = c.requires.few in
    let few : length all ≤ 2 ^ 47 = omega (arith, first, last, both, count) in
    let mid = c.write_sources.ensures.content.before tells in
    let read = c.in_ok-count.ensures.read mid inner ends has_inner has_ends diagram.complete in
    reduced tells all t few diagram
    (subst (λ o. IfSome o (λ k. AreSources c.args.n made.root all (sources_in k c.read_sources.new.sources)))
    c.in-Some.is read))
    c.write_sources.ensures.made
