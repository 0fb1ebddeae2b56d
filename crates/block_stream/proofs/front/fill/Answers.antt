use Rattle.std.proofs.Common.{◌≡◌, ◌+◌, ◌<◌, ◌≤◌, take, subst, arith}
use Rattle.shelf_model.specs.World.{file}
use Rattle.std.proofs.lemmas.Grind.{common_steps}
use Rattle.block_stream.specs.Reads.{IsNoValueAt, IsDamaged}
use Rattle.block_stream.proofs.ReadLaws.{fewer_held, values_front, fill_damage}
use Rattle.block_stream.proofs.front.fill.Goals as goal

pub returns-then-values-eq0-clause-damaged : goal.returns-then-values-eq0-clause-damaged
returns-then-values-eq0-clause-damaged g c t =
    let some : 0 < c.min-wanted.result = omega arith in
    let first : c.args.from + 0 ≡ c.args.from = omega arith in
    subst (λ place. IsDamaged g.T.Spill.is_value g.T.Spill.words g.T.Spill.WORDS place (file (g.S.Shelf.world c.args.shelf.now) c.args.f).bytes) first
    (fill_damage g.T.Spill.is_value g.T.Spill.words _ _ _ c.min-wanted.result c.in_ok-loaded.loaded 0 _ _ c.WORDS-words.ensures (omega arith) some (c.in_ok-loaded.ensures.loaded t)
    (subst (λ n. IsNoValueAt g.T.Spill.is_value g.T.Spill.words n (take c.in_ok-loaded.loaded c.load.new.window)) c.if-values-eq0.true c.values_len-values.ensures.ended))

pub returns-clause-full : goal.returns-clause-full
returns-clause-full g c t more =
    let fewer : c.values_len-values.result ≤ c.in_ok-loaded.loaded = grind (arith, common_steps) in
    let wanted : c.values_len-values.result < c.min-wanted.result = grind (arith, common_steps) in
    fill_damage g.T.Spill.is_value g.T.Spill.words _ _ _ c.min-wanted.result c.in_ok-loaded.loaded c.values_len-values.result _ _ c.WORDS-words.ensures fewer wanted
    (c.in_ok-loaded.ensures.loaded t) c.values_len-values.ensures.ended

pub returns-clause-values : goal.returns-clause-values
returns-clause-values g c =
    let fewer : c.values_len-values.result ≤ c.in_ok-loaded.loaded = grind (arith, common_steps) in
    values_front g.T.Spill.is_value g.T.Spill.words c.values_len-values.result c.in_ok-loaded.loaded c.load.new.window fewer c.values_len-values.ensures.values

pub returns-clause-loaded : goal.returns-clause-loaded
returns-clause-loaded g c t =
    let fewer : c.values_len-values.result ≤ c.in_ok-loaded.loaded = grind (arith, common_steps) in
    fewer_held _ _ _ _ c.in_ok-loaded.loaded _ _ c.WORDS-words.ensures fewer (c.in_ok-loaded.ensures.loaded t).held
