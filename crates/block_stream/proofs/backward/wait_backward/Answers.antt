use Rattle.std.proofs.Common.{◌≤◌, ◌≡◌, Bool, arith}
use Rattle.block_stream.proofs.ReadLaws.{torn_behind, torn_answer}
use Rattle.block_stream.specs.Reads.{place_of}
use Rattle.block_stream.proofs.backward.wait_backward.Goals as goal

pub returns-then-loaded-wanted-clause-torn : goal.returns-then-loaded-wanted-clause-torn
returns-then-loaded-wanted-clause-torn g c t =
    let within : c.min-wanted.result ≤ c.args.reading.now.base = omega arith in
    let here : place_of c.args.reading.now ≡ c.args.reading.now.base = omega arith in
    torn_answer Bool c.args.reading.now.words _ _ c.damage_at.result _ _ c.damage_at.ensures
    (torn_behind c.args.reading.now.words c.args.reading.now.base (place_of c.args.reading.now) c.min-wanted.result c.in_ok-loaded.loaded _ _
    within c.if-loaded-wanted.true here (c.in_ok-loaded.ensures.loaded t))
