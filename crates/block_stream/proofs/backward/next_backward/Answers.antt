use Rattle.std.proofs.Common.{◌≡◌, ◌+◌, ◌-◌, ◌<◌, subst, refl, arith}
use Rattle.std.specs.Prelude.{Ok, true}
use Rattle.block_stream.specs.Reads.{WaitsBehind, place_of}
use Rattle.block_stream.proofs.ReadLaws.{gives_value, gives_damage, damage_answer}
use Rattle.block_stream.proofs.backward.next_backward.Goals as goal

pub returns-in_default-clause-value : goal.returns-in_default-clause-value
returns-in_default-clause-value g c t loaded =
    let waits : WaitsBehind c.args.reading.now c.wait_backward.new.reading (Ok true) =
    subst (λ b. WaitsBehind c.args.reading.now c.wait_backward.new.reading (Ok b)) c.if-not-branch.false c.in_ok-wait_backward.ensures.waits in
    let below : (c.wait_backward.new.reading.at - 1) < c.wait_backward.new.reading.loaded = omega (arith, waits) in
    let here : c.wait_backward.new.reading.base + (c.wait_backward.new.reading.at - 1) ≡ place_of c.args.reading.now - 1 = omega (arith, waits) in
    damage_answer g.T.Spill.is_value g.T.Spill.words _ _ _ c.damage_at.result _ _ c.damage_at.ensures
    (gives_damage g.T.Spill.is_value g.T.Spill.words _ _ _ _ _ _ _ _ _ _ (c.in_ok-wait_backward.ensures.loaded t loaded) c.in_ok-wait_backward.ensures.same.words_are
    below here refl c.in_default.ensures.none)

pub returns-clause-value : goal.returns-clause-value
returns-clause-value g c t loaded =
    let waits : WaitsBehind c.args.reading.now c.wait_backward.new.reading (Ok true) =
    subst (λ b. WaitsBehind c.args.reading.now c.wait_backward.new.reading (Ok b)) c.if-not-branch.false c.in_ok-wait_backward.ensures.waits in
    let below : (c.wait_backward.new.reading.at - 1) < c.wait_backward.new.reading.loaded = omega (arith, waits) in
    let here : c.wait_backward.new.reading.base + (c.wait_backward.new.reading.at - 1) ≡ place_of c.args.reading.now - 1 = omega (arith, waits) in
    gives_value g.T.Spill.words _ _ _ _ _ _ _ _ _ _ _ (c.in_ok-wait_backward.ensures.loaded t loaded) c.in_ok-wait_backward.ensures.same.words_are
    below here refl c.in-Some.ensures.found
