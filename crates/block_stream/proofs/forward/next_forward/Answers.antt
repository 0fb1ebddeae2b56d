use Rattle.std.proofs.Common.{◌≡◌, ◌+◌, ◌<◌, subst, refl, arith}
use Rattle.std.specs.Prelude.{Ok, true}
use Rattle.block_stream.specs.Reads.{Waits, place_of}
use Rattle.block_stream.proofs.ReadLaws.{gives_value, gives_damage, damage_answer}
use Rattle.block_stream.proofs.forward.next_forward.Goals as goal

pub returns-in_default-clause-value : goal.returns-in_default-clause-value
returns-in_default-clause-value g c t loaded =
    let waits : Waits c.args.reading.now c.wait_forward.new.reading (Ok true) =
    subst (λ b. Waits c.args.reading.now c.wait_forward.new.reading (Ok b)) c.if-not-branch.false c.in_ok-wait_forward.ensures.waits in
    let below : c.wait_forward.new.reading.at < c.wait_forward.new.reading.loaded = omega (arith, waits) in
    let here : c.wait_forward.new.reading.base + c.wait_forward.new.reading.at ≡ place_of c.args.reading.now = omega (arith, waits) in
    damage_answer g.T.Spill.is_value g.T.Spill.words _ _ _ c.damage_at.result _ _ c.damage_at.ensures
    (gives_damage g.T.Spill.is_value g.T.Spill.words _ _ _ _ _ _ _ _ _ _ (c.in_ok-wait_forward.ensures.loaded t loaded) c.in_ok-wait_forward.ensures.same.words_are
    below here refl c.in_default.ensures.none)

pub returns-clause-value : goal.returns-clause-value
returns-clause-value g c t loaded =
    let waits : Waits c.args.reading.now c.wait_forward.new.reading (Ok true) =
    subst (λ b. Waits c.args.reading.now c.wait_forward.new.reading (Ok b)) c.if-not-branch.false c.in_ok-wait_forward.ensures.waits in
    let below : c.wait_forward.new.reading.at < c.wait_forward.new.reading.loaded = omega (arith, waits) in
    let here : c.wait_forward.new.reading.base + c.wait_forward.new.reading.at ≡ place_of c.args.reading.now = omega (arith, waits) in
    gives_value g.T.Spill.words _ _ _ _ _ _ _ _ _ _ _ (c.in_ok-wait_forward.ensures.loaded t loaded) c.in_ok-wait_forward.ensures.same.words_are
    below here refl c.in-Some.ensures.found
