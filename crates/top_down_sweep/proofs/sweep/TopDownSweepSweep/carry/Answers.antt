use Rattle.std.proofs.Common.{◌∙◌, arith}
use Rattle.std.specs.Prelude.{None}
use Rattle.node_reading.proofs.NodeReading.{if_handed}
use Rattle.top_down_sweep.specs.Trusting.{sweep_trusted}
use Rattle.top_down_sweep.proofs.CarriedOver.{held_in, carried_of, carried_trusts, carried_keeps, carried_left, carried_filled, carried_fits, carried_stands, carried_sure, carried_still}
use Rattle.top_down_sweep.proofs.Doing.{no_damage}
use Rattle.top_down_sweep.proofs.SavedNow.{trusted_some}
use Rattle.top_down_sweep.proofs.sweep.TopDownSweepSweep.carry.Goals as goal

-- no file is damaged where it is known what waits
pub returns-in_err-frozen-clause-damage : goal.returns-in_err-frozen-clause-damage
returns-in_err-frozen-clause-damage g c = if_handed _ c.from_residual.result _ c.from_residual.ensures.1
    (λ told trusts. no_damage _ _ c.freeze.new.self (g.S.Shelf.world c.freeze.new.shelf) c.in_err-frozen.field-0.0
    (c.in_err-frozen.ensures.saves.undamaged told None (trusted_some (g.O.Operation.rule c.args.self.now.operation)
    (g.O.Operation.begins c.args.self.now.operation) c.args.self.now.machine
    (g.S.Shelf.world c.args.shelf.now) c.requires.works trusts)))

pub returns-in_err-frozen-clause-undamaged : goal.returns-in_err-frozen-clause-undamaged
returns-in_err-frozen-clause-undamaged g c = if_handed _ c.from_residual.result _ c.from_residual.ensures.1
    (λ told w remains. c.in_err-frozen.ensures.saves.undamaged told None (trusted_some (g.O.Operation.rule c.args.self.now.operation)
    (g.O.Operation.begins c.args.self.now.operation) c.args.self.now.machine
    (g.S.Shelf.world c.args.shelf.now) c.requires.works (sweep_trusted g.O.Operation.rule g.O.Operation.begins
    c.args.self.now (g.S.Shelf.world c.args.shelf.now) w.task remains)))

-- what remains stays
pub returns-clause-keeps : goal.returns-clause-keeps
returns-clause-keeps g c = λ told w remains. carried_keeps g.O.Carried g.S.Shelf.tells g.S.Shelf.world
    c.args.shelf.now c.freeze.new.shelf c.args.self.now c.freeze.new.self c.in_ok-frozen.frozen.made
    c.in_ok-frozen.frozen.tables c.fill_with_runs.new.into (carried_of g.O.Carried g.S.Shelf.tells g.S.Shelf.world g.S.Shelf.faults 2052 512 _ _ _ _ _ _ _
    c.fill_with_runs.new.into c.requires.ready c.requires.works c.requires.files c.in_ok-frozen.ensures.saves
    c.in_ok-frozen.ensures.saves.keeps c.in_ok-frozen.ensures.arcs c.in_ok-frozen.ensures.tables (omega arith)
    (c.fill_with_runs.ensures.head.step_is ∙ c.requires.step) c.fill_with_runs.ensures.next c.fill_with_runs.ensures.count
    c.fill_with_runs.ensures.runs (held_in g.O.Carried c.fill_with_runs.new.into _ _ _ _ c.words_of-words.ensures.front
    c.saved-saved.ensures c.fill_with_runs.ensures.carry)) told g.O.Operation.rule
    g.O.Operation.begins w.task remains

pub returns-clause-left : goal.returns-clause-left
returns-clause-left g c = λ told w remains. carried_left g.O.Carried g.S.Shelf.tells g.S.Shelf.world
    c.args.shelf.now c.freeze.new.shelf c.args.self.now c.freeze.new.self c.in_ok-frozen.frozen.made
    c.in_ok-frozen.frozen.tables c.fill_with_runs.new.into (carried_of g.O.Carried g.S.Shelf.tells g.S.Shelf.world g.S.Shelf.faults 2052 512 _ _ _ _ _ _ _
    c.fill_with_runs.new.into c.requires.ready c.requires.works c.requires.files c.in_ok-frozen.ensures.saves
    c.in_ok-frozen.ensures.saves.keeps c.in_ok-frozen.ensures.arcs c.in_ok-frozen.ensures.tables (omega arith)
    (c.fill_with_runs.ensures.head.step_is ∙ c.requires.step) c.fill_with_runs.ensures.next c.fill_with_runs.ensures.count
    c.fill_with_runs.ensures.runs (held_in g.O.Carried c.fill_with_runs.new.into _ _ _ _ c.words_of-words.ensures.front
    c.saved-saved.ensures c.fill_with_runs.ensures.carry)) told g.O.Operation.rule
    g.O.Operation.begins w remains

pub returns-clause-trusts : goal.returns-clause-trusts
returns-clause-trusts g c told trusts = carried_trusts g.O.Carried g.S.Shelf.tells g.S.Shelf.world
    c.args.shelf.now c.freeze.new.shelf c.args.self.now c.freeze.new.self c.in_ok-frozen.frozen.made
    c.in_ok-frozen.frozen.tables c.fill_with_runs.new.into (carried_of g.O.Carried g.S.Shelf.tells g.S.Shelf.world g.S.Shelf.faults 2052 512 _ _ _ _ _ _ _
    c.fill_with_runs.new.into c.requires.ready c.requires.works c.requires.files c.in_ok-frozen.ensures.saves
    c.in_ok-frozen.ensures.saves.keeps c.in_ok-frozen.ensures.arcs c.in_ok-frozen.ensures.tables (omega arith)
    (c.fill_with_runs.ensures.head.step_is ∙ c.requires.step) c.fill_with_runs.ensures.next c.fill_with_runs.ensures.count
    c.fill_with_runs.ensures.runs (held_in g.O.Carried c.fill_with_runs.new.into _ _ _ _ c.words_of-words.ensures.front
    c.saved-saved.ensures c.fill_with_runs.ensures.carry)) told
    g.O.Operation.rule g.O.Operation.begins trusts

-- what is saved keeps the rules
pub returns-clause-filled : goal.returns-clause-filled
returns-clause-filled g c = carried_filled g.O.Carried g.S.Shelf.tells g.S.Shelf.world
    c.args.shelf.now c.freeze.new.shelf c.args.self.now c.freeze.new.self c.in_ok-frozen.frozen.made
    c.in_ok-frozen.frozen.tables c.fill_with_runs.new.into (carried_of g.O.Carried g.S.Shelf.tells g.S.Shelf.world g.S.Shelf.faults 2052 512 _ _ _ _ _ _ _
    c.fill_with_runs.new.into c.requires.ready c.requires.works c.requires.files c.in_ok-frozen.ensures.saves
    c.in_ok-frozen.ensures.saves.keeps c.in_ok-frozen.ensures.arcs c.in_ok-frozen.ensures.tables (omega arith)
    (c.fill_with_runs.ensures.head.step_is ∙ c.requires.step) c.fill_with_runs.ensures.next c.fill_with_runs.ensures.count
    c.fill_with_runs.ensures.runs (held_in g.O.Carried c.fill_with_runs.new.into _ _ _ _ c.words_of-words.ensures.front
    c.saved-saved.ensures c.fill_with_runs.ensures.carry))

pub returns-clause-fits : goal.returns-clause-fits
returns-clause-fits g c = carried_fits g.O.Carried g.S.Shelf.tells g.S.Shelf.world
    c.args.shelf.now c.freeze.new.shelf c.args.self.now c.freeze.new.self c.in_ok-frozen.frozen.made
    c.in_ok-frozen.frozen.tables c.fill_with_runs.new.into (carried_of g.O.Carried g.S.Shelf.tells g.S.Shelf.world g.S.Shelf.faults 2052 512 _ _ _ _ _ _ _
    c.fill_with_runs.new.into c.requires.ready c.requires.works c.requires.files c.in_ok-frozen.ensures.saves
    c.in_ok-frozen.ensures.saves.keeps c.in_ok-frozen.ensures.arcs c.in_ok-frozen.ensures.tables (omega arith)
    (c.fill_with_runs.ensures.head.step_is ∙ c.requires.step) c.fill_with_runs.ensures.next c.fill_with_runs.ensures.count
    c.fill_with_runs.ensures.runs (held_in g.O.Carried c.fill_with_runs.new.into _ _ _ _ c.words_of-words.ensures.front
    c.saved-saved.ensures c.fill_with_runs.ensures.carry))

-- and stands for what remains
pub returns-clause-stands : goal.returns-clause-stands
returns-clause-stands g c = λ told w remains. carried_stands g.O.Carried g.S.Shelf.tells g.S.Shelf.world
    c.args.shelf.now c.freeze.new.shelf c.args.self.now c.freeze.new.self c.in_ok-frozen.frozen.made
    c.in_ok-frozen.frozen.tables c.fill_with_runs.new.into (carried_of g.O.Carried g.S.Shelf.tells g.S.Shelf.world g.S.Shelf.faults 2052 512 _ _ _ _ _ _ _
    c.fill_with_runs.new.into c.requires.ready c.requires.works c.requires.files c.in_ok-frozen.ensures.saves
    c.in_ok-frozen.ensures.saves.keeps c.in_ok-frozen.ensures.arcs c.in_ok-frozen.ensures.tables (omega arith)
    (c.fill_with_runs.ensures.head.step_is ∙ c.requires.step) c.fill_with_runs.ensures.next c.fill_with_runs.ensures.count
    c.fill_with_runs.ensures.runs (held_in g.O.Carried c.fill_with_runs.new.into _ _ _ _ c.words_of-words.ensures.front
    c.saved-saved.ensures c.fill_with_runs.ensures.carry)) told g.O.Operation.rule
    g.O.Operation.begins w remains

pub returns-clause-sure : goal.returns-clause-sure
returns-clause-sure g c = λ told w remains f n on. carried_sure g.O.Carried g.S.Shelf.tells g.S.Shelf.world
    c.args.shelf.now c.freeze.new.shelf c.args.self.now c.freeze.new.self c.in_ok-frozen.frozen.made
    c.in_ok-frozen.frozen.tables c.fill_with_runs.new.into (carried_of g.O.Carried g.S.Shelf.tells g.S.Shelf.world g.S.Shelf.faults 2052 512 _ _ _ _ _ _ _
    c.fill_with_runs.new.into c.requires.ready c.requires.works c.requires.files c.in_ok-frozen.ensures.saves
    c.in_ok-frozen.ensures.saves.keeps c.in_ok-frozen.ensures.arcs c.in_ok-frozen.ensures.tables (omega arith)
    (c.fill_with_runs.ensures.head.step_is ∙ c.requires.step) c.fill_with_runs.ensures.next c.fill_with_runs.ensures.count
    c.fill_with_runs.ensures.runs (held_in g.O.Carried c.fill_with_runs.new.into _ _ _ _ c.words_of-words.ensures.front
    c.saved-saved.ensures c.fill_with_runs.ensures.carry)) told g.O.Operation.rule
    g.O.Operation.begins w.task remains f n on

pub returns-clause-still : goal.returns-clause-still
returns-clause-still g c = λ later used. carried_still g.O.Carried g.S.Shelf.tells g.S.Shelf.world
    c.args.shelf.now c.freeze.new.shelf c.args.self.now c.freeze.new.self c.in_ok-frozen.frozen.made
    c.in_ok-frozen.frozen.tables c.fill_with_runs.new.into (carried_of g.O.Carried g.S.Shelf.tells g.S.Shelf.world g.S.Shelf.faults 2052 512 _ _ _ _ _ _ _
    c.fill_with_runs.new.into c.requires.ready c.requires.works c.requires.files c.in_ok-frozen.ensures.saves
    c.in_ok-frozen.ensures.saves.keeps c.in_ok-frozen.ensures.arcs c.in_ok-frozen.ensures.tables (omega arith)
    (c.fill_with_runs.ensures.head.step_is ∙ c.requires.step) c.fill_with_runs.ensures.next c.fill_with_runs.ensures.count
    c.fill_with_runs.ensures.runs (held_in g.O.Carried c.fill_with_runs.new.into _ _ _ _ c.words_of-words.ensures.front
    c.saved-saved.ensures c.fill_with_runs.ensures.carry)) later used g.O.Operation.rule
    g.O.Operation.begins
