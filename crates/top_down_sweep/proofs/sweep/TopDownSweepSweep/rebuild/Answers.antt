use Rattle.std.proofs.Common.{◌*◌, sym, ap, subst, arith}
use Rattle.std.specs.Prelude.{length}
use Rattle.shelf_model.specs.World.{now}
use Rattle.shelf_model.proofs.Runs.{told, ran_weakens}
use Rattle.arc_file.specs.Arcs.{arc_size}
use Rattle.arc_file.specs.Pairs.{DuringCuts}
use Rattle.node_reading.proofs.NodeReading.{if_handed}
use Rattle.run_tiers.specs.declared.parts.Parts.{Parts}
use Rattle.sweep_core.specs.Carries.{OnlyCutBehind}
use Rattle.sweep_core.specs.Saving.{IsOfStep, reads_of}
use Rattle.tuple_asks.specs.declared.place.Place.{Place}
use Rattle.tuple_asks.specs.declared.files.Files.{Files}
use Rattle.top_down_sweep.specs.Resumes.{RestsOn, OnOperand}
use Rattle.top_down_sweep.specs.Sweeps.{IsMade}
use Rattle.tuple_asks.specs.Operands.{IsRead}
use Rattle.top_down_sweep.proofs.Begun.{of_step, begun_step, first_left, rules_of, goes_of, named_calls}
use Rattle.top_down_sweep.proofs.Restoring.{cut_rests}
use Rattle.top_down_sweep.proofs.sweep.TopDownSweepSweep.rebuild.Goals as goal

-- the words are those of a machine
pub unreachable-requires : goal.unreachable-requires
unreachable-requires g c = c.in_default.ensures.none (c.requires.fits.saved, c.requires.fits.operation)
    c.requires.fits.holds

-- the machine that is saved keeps the rules
pub rebuild-requires-clause-rules : goal.rebuild-requires-clause-rules
rebuild-requires-clause-rules g c = rules_of g.O.Carried c.args.from.now c.in-Some.saved c.in-Some.operation
    c.in-Some.ensures.found c.requires.fits

-- it can't go on
pub returns-in_err-machine-clause-damage : goal.returns-in_err-machine-clause-damage
returns-in_err-machine-clause-damage g c = if_handed _ c.from_residual.result _ c.from_residual.ensures.1 (λ told. record {
  saved = c.in-Some.saved;
  operation = c.in-Some.operation;
  holds = c.in-Some.ensures.found;
  cause = c.in_err-machine.ensures.damage told;
})

pub returns-in_err-machine-clause-undamaged : goal.returns-in_err-machine-clause-undamaged
returns-in_err-machine-clause-undamaged g c = if_handed _ c.from_residual.result _ c.from_residual.ensures.1
    (λ told w turns stands. c.in_err-machine.ensures.undamaged told w.task _ _ (length w.tuples) turns
    (goes_of g.O.Carried c.args.from.now c.in-Some.saved c.in-Some.operation c.in-Some.ensures.found
    g.met.O.Carried.long g.met.O.Carried.differ g.O.Operation.rule g.O.Operation.begins
    (reads_of (g.S.Shelf.world c.args.shelf.now)) w.task (length w.tuples) turns stands))

pub returns-in_err-machine-clause-kind : goal.returns-in_err-machine-clause-kind
returns-in_err-machine-clause-kind g c = if_handed _ c.from_residual.result _ c.from_residual.ensures.1
    c.in_err-machine.ensures.kind

pub returns-in_err-machine-clause-content : goal.returns-in_err-machine-clause-content
returns-in_err-machine-clause-content g c =
    let from = c.args.from.now in
    let x = c.in-Some.saved in
    let holds = c.in-Some.ensures.found in
    let old = g.S.Shelf.world c.args.shelf.now in
    told g.S.Shelf.tells c.args.shelf.now c.rebuild.new.shelf _ _ c.rebuild.ensures.content (λ _ ran.
    ran_weakens old (g.S.Shelf.world c.rebuild.new.shelf) (DuringCuts x.arcs.inner (x.arcs.inner_count * arc_size)
    x.arcs.ends (x.arcs.ends_count * arc_size) (now old)) (OnlyCutBehind from (RestsOn g.O.Carried from) (now old))
    (λ at during. cut_rests from x
    (rules_of g.O.Carried from x c.in-Some.operation holds c.requires.fits) (now old) at during g.O.Carried
    c.in-Some.operation holds) ran)

pub returns-in_err-machine-clause-calls : goal.returns-in_err-machine-clause-calls
returns-in_err-machine-clause-calls g c told task names =
    let made = c.rebuild.ensures.calls told in
    let few = named_calls g.O.Carried c.args.from.now c.in-Some.saved c.in-Some.operation c.in-Some.ensures.found task.0
    (reads_of (g.S.Shelf.world c.args.shelf.now)) names in
    omega (arith, made, few)

-- it goes on
pub returns-clause-in_step : goal.returns-clause-in_step
returns-clause-in_step g c = λ told. begun_step c.in-Some.saved c.in_ok-machine.machine
    (g.S.Shelf.world c.rebuild.new.shelf) c.in_ok-machine.ensures.place (c.in_ok-machine.ensures.in_step told)

pub returns-clause-parts : goal.returns-clause-parts
returns-clause-parts g c = (
  ap (λ (p : Parts). p.step) c.in_ok-machine.ensures.parts,
  ap (λ (p : Parts). p.next) c.in_ok-machine.ensures.parts,
)

pub returns-clause-files : goal.returns-clause-files
returns-clause-files g c =
    let from = c.args.from.now in
    let x = c.in-Some.saved in
    let files = sym c.in_ok-machine.ensures.files in
    let parts = sym c.in_ok-machine.ensures.parts in
    subst (λ v. v) (λ i. IsOfStep (λ f. IsMade (files i) f) (λ f. IsRead (files i) f) (parts i).step (parts i).next)
    (of_step from x (rules_of g.O.Carried from x c.in-Some.operation c.in-Some.ensures.found c.requires.fits))

pub returns-clause-operands : goal.returns-clause-operands
returns-clause-operands g c = λ f read n. record {
  saved = c.in-Some.saved;
  operation = c.in-Some.operation;
  holds = c.in-Some.ensures.found;
  rests = OnOperand (subst (λ (fs : Files). IsRead fs f) c.in_ok-machine.ensures.files read);
}

pub returns-clause-names : goal.returns-clause-names
returns-clause-names g c = record {
  saved = c.in-Some.saved;
  operation = c.in-Some.operation;
  holds = c.in-Some.ensures.found;
  files_are = sym c.in_ok-machine.ensures.files;
  variables_are = sym (ap (λ (p : Place). p.variables) c.in_ok-machine.ensures.place);
}

pub returns-clause-remains : goal.returns-clause-remains
returns-clause-remains g c = λ told w turns stands.
    let restores = c.in_ok-machine.ensures.remains told w.task _ _ (length w.tuples) turns
    (goes_of g.O.Carried c.args.from.now c.in-Some.saved c.in-Some.operation c.in-Some.ensures.found
    g.met.O.Carried.long g.met.O.Carried.differ g.O.Operation.rule g.O.Operation.begins
    (reads_of (g.S.Shelf.world c.args.shelf.now)) w.task (length w.tuples) turns stands) in
    (record { on_files = restores.on_files; left = restores.left }, restores.few)

pub returns-clause-content : goal.returns-clause-content
returns-clause-content g c =
    let from = c.args.from.now in
    let x = c.in-Some.saved in
    let holds = c.in-Some.ensures.found in
    let old = g.S.Shelf.world c.args.shelf.now in
    told g.S.Shelf.tells c.args.shelf.now c.rebuild.new.shelf _ _ c.rebuild.ensures.content (λ _ ran.
    ran_weakens old (g.S.Shelf.world c.rebuild.new.shelf) (DuringCuts x.arcs.inner (x.arcs.inner_count * arc_size)
    x.arcs.ends (x.arcs.ends_count * arc_size) (now old)) (OnlyCutBehind from (RestsOn g.O.Carried from) (now old))
    (λ at during. cut_rests from x
    (rules_of g.O.Carried from x c.in-Some.operation holds c.requires.fits) (now old) at during g.O.Carried
    c.in-Some.operation holds) ran)

pub returns-clause-calls : goal.returns-clause-calls
returns-clause-calls g c told task names =
    let made = c.rebuild.ensures.calls told in
    let few = named_calls g.O.Carried c.args.from.now c.in-Some.saved c.in-Some.operation c.in-Some.ensures.found task.0
    (reads_of (g.S.Shelf.world c.args.shelf.now)) names in
    omega (arith, made, few)

pub returns-clause-credit : goal.returns-clause-credit
returns-clause-credit g c =
    let owed = c.in_ok-machine.ensures.credit in
    let few = first_left c.args.from.now.runs c.args.from.now.tables c.requires.fits.queue.tables in
    omega (arith, owed, few)
