use Rattle.std.proofs.Common.{◌<◌, ◌∙◌, length, ap, arith}
use Rattle.room_reduction.specs.Sources.{sources_in}
use Rattle.room_reduction.proofs.PackedSources.{sources_many}
use Rattle.room_reduction.proofs.rows.pointer_of.Goals as goal

pub returns : goal.returns
returns c f known =
    let count = c.args.index.total in
    let place = c.in_ok-place.place in
    let (within, is) = c.in_ok-place.ensures in
    let all = sources_many count c.args.sources.now c.requires.many in
    let behind = c.if-place-from.false in
    let below : place < length (sources_in count c.args.sources.now) = omega (arith, within, all) in
    c.source_word.ensures ∙ known place (omega (arith, behind)) below ∙ ap f is
