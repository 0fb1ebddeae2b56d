use Rattle.std.proofs.Common.{◌≡◌, ◌+◌, length, map, ap, ◌∙◌, arith}
use Rattle.std.proofs.lemmas.List.{length-append, length-map}
use Rattle.script_reader.specs.Names.{State}
use Rattle.script_reader.specs.Nets.{nameless}
use Rattle.script_reader.proofs.planning.Planning.put_plan.Goals as goal
use Rattle.std.proofs.lemmas.Grind.{common_steps}

pub overflow_cast-len : goal.overflow_cast-len
overflow_cast-len c =
    let old = c.args.self.now.steps.items in
    let steps = c.items.result.now in
    let whole : length c.put_steps.new.self.steps.items ≡ length old + length (map nameless steps) = ap (λ (s : State). length s.steps) c.in_ok-put_steps.ensures ∙ length-append old (map nameless steps) in
    let given : length steps ≡ length c.args.plan.now.steps = ap length c.items.ensures in
    omega (arith, whole, given, length-map steps nameless, c.requires.few)

pub give_names-requires : goal.give_names-requires
give_names-requires c = c.requires.short

pub returns : goal.returns
returns c = grind (arith, common_steps)
