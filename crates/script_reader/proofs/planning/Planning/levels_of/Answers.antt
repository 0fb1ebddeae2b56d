use Rattle.std.proofs.Common.{◌≡◌, ◌+◌, ◌<◌, ◌∷◌, [], List, ℕ, length, get_or, drop, sym, ap, ◌∙◌, arith}
use Rattle.std.proofs.lemmas.Grind.{common_steps}
use Rattle.std.specs.Prelude.{Ok}
use Rattle.std.proofs.lemmas.List.{drop_more, get_or-take}
use Rattle.blif_reader.specs.Answers.{net_of}
use Rattle.script_reader.specs.Names.{level_or}
use Rattle.script_reader.specs.Nets.{inputs_of, or_fault}
use Rattle.script_reader.specs.Views.{state_of}
use Rattle.script_reader.specs.declared.fault.ScriptKind.TheVariants as kind
use Rattle.script_reader.proofs.Finding.{found_behind, found_more, level_fault}
use Rattle.script_reader.proofs.NetLines.{inputs_length}
use Rattle.script_reader.proofs.planning.Planning.levels_of.Goals as goal

pub returns-in_err-level_named : goal.returns-in_err-level_named
returns-in_err-level_named c = grind (arith, common_steps)

pub loop-signal-preserved : goal.loop-signal-preserved
loop-signal-preserved c =
    let net = net_of c.args.net.now in
    let i = c.loop-signal.signal in
    let level = (state_of c.args.self.now).level in
    let below : i < length (inputs_of net) = omega (arith, inputs_length net c.args.net.now.sound, c.loop-signal-test.true, c.input_count-signal-end.ensures.count) in
    let name = get_or (inputs_of net) i [] in
    let left : drop i (inputs_of net) ≡ name ∷ drop (i + 1) (inputs_of net) = drop_more (inputs_of net) i [] below in
    let same : name ≡ c.name.result.now = get_or-take net.inputs net.names i [] (omega (arith, c.loop-signal-test.true, c.input_count-signal-end.ensures.count)) ∙ sym c.name.ensures.name in
    let is : or_fault kind.Variable (level name) ≡ Ok c.in_ok-level_named.field-0 = level_fault (level name) ∙ ap (λ n. level_or (level n)) same ∙ sym c.level_named.ensures ∙ c.in_ok-level_named.was in
    ap (λ (so_far : List ℕ). found_behind kind.Variable level so_far (drop (i + 1) (inputs_of net))) c.in_ok-push.ensures.items
    ∙ sym (found_more kind.Variable level c.loop-signal.levels.items name (drop (i + 1) (inputs_of net)) c.in_ok-level_named.field-0 is)
    ∙ sym (ap (found_behind kind.Variable level c.loop-signal.levels.items) left) ∙ c.loop-signal.invariant

pub returns : goal.returns
returns c = grind (arith, common_steps)
