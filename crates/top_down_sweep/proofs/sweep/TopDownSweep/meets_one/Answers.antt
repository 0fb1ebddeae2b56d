use Rattle.std.specs.Prelude.{◌==◌, ◌||◌}
use Rattle.std.proofs.Common.{◌∙◌, sym, ap}
use Rattle.top_down_sweep.specs.Sweeps.{made_at, has_root_one}
use Rattle.top_down_sweep.proofs.MetOnes.{met_value, unmet_none}
use Rattle.top_down_sweep.proofs.sweep.TopDownSweep.meets_one.Goals as goal

-- an arc leads to 1
pub returns-then-self-clause-value : goal.returns-then-self-clause-value
returns-then-self-clause-value g c e world t remains =
    let m = c.args.self.now.machine in
    met_value t _ m world m.place.phase remains.left
    (ap (λ b. b || has_root_one (made_at m.place.phase)) e)

-- or it is the root of what was made
pub returns-in-Ended-clause-is : goal.returns-in-Ended-clause-is
returns-in-Ended-clause-is g c = c.eq.ensures ∙ ap (λ w. c.in-Ended.made.root == w) c.terminal.ensures
    ∙ sym (λ i. c.if-self.false i || has_root_one (made_at (c.in-Ended.is i)))

pub returns-in-Ended-clause-value : goal.returns-in-Ended-clause-value
returns-in-Ended-clause-value g c e world t remains =
    let m = c.args.self.now.machine in
    met_value t _ m world m.place.phase remains.left (sym (returns-in-Ended-clause-is g c) ∙ e)

-- and where neither is so, the table has no 1
pub returns-in-Ended-clause-none : goal.returns-in-Ended-clause-none
returns-in-Ended-clause-none g c e made world t remains =
    let m = c.args.self.now.machine in
    unmet_none t _ m world m.place.phase remains.left (sym (returns-in-Ended-clause-is g c) ∙ e) made
