use Rattle.std.specs.Prelude.{◌≡◌, take}
use Rattle.script_reader.specs.Nets.{with_steps}
use Rattle.script_reader.specs.Views.{state_of}
use Rattle.script_reader.proofs.planning.Planning.put_steps.Given as goal

-- the steps so far are put
abbrev pub invariant-loop-step : goal.invariant-loop-step
invariant-loop-step l = state_of l.self ≡ with_steps (state_of l.fn.self) (take l.step-index l.steps)
