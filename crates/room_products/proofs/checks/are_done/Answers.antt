use Rattle.std.proofs.Common.{arith}
use Rattle.room_reduction.specs.Sources.{sources_in}
use Rattle.room_products.proofs.CheckLaws.{found_more, all_found}
use Rattle.room_products.proofs.checks.are_done.Goals as goal

pub loop-place-preserved : goal.loop-place-preserved
loop-place-preserved c =
    found_more (sources_in c.args.index.total c.args.slots.now)
    (sources_in c.args.index.total c.args.sources.now) c.args.index.total
    c.loop-place.place c.source_word.result c.find.result c.if-is_none.ensures c.source_word.ensures c.find.ensures
    c.loop-place.invariant

pub returns : goal.returns
returns c holds =
    all_found c.args.slots.now c.args.sources.now c.args.index.total c.requires.slots c.requires.sources
    (λ k below. let ended = c.loop-place-test.false in c.loop-place.invariant k (omega (arith, below, ended)))
