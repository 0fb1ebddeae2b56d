use Rattle.std.proofs.Common.{◌≡◌, sym, subst}
use Rattle.sweep_core.specs.declared.checkpoint.Checkpoint.{Checkpoint}
use Rattle.step_sweeps.proofs.MadeAnew.{is_anew, may_resume, may_sweep, anew_makes, sweeps_make}
use Rattle.step_sweeps.proofs.diagram.make_diagram.Goals as goal

-- begun anew
pub returns-in-Anew : goal.returns-in-Anew
returns-in-Anew g c = record {
  makes = anew_makes g.S.Shelf.tells g.S.Shelf.world g.S.Shelf.faults _ c.args.going.now _ _ c.make_anew.result
      c.in-Anew.ensures (is_anew c.args.going.now c.in-Anew.ensures c.requires.going).turns_are c.make_anew.ensures.makes;
}

-- gone on with from a checkpoint
pub copy_on-requires-clause-going : goal.copy_on-requires-clause-going
copy_on-requires-clause-going g c =
    may_resume c.args.going.now c.in-Copying.ensures.0 c.in-Copying.ensures.1 c.requires.going

pub copy_on-requires-clause-tables : goal.copy_on-requires-clause-tables
copy_on-requires-clause-tables g c point last =
    let is = c.in-Copying.ensures.1 in
    let same : point ≡ c.in-Copying.ensures.0 = cc in
    subst (λ (x : Checkpoint). x.tables ≡ 0) (sym same) c.in-Copying.ensures.3

pub returns-in-Copying : goal.returns-in-Copying
returns-in-Copying g c = record {
  makes = sweeps_make g.S.Shelf.tells g.S.Shelf.world g.S.Shelf.faults _ c.args.going.now _ _ c.copy_on.result
      c.in-Copying.ensures.0 c.in-Copying.ensures.1 c.copy_on.ensures.sweeps;
}

pub sweep_on-requires-clause-going : goal.sweep_on-requires-clause-going
sweep_on-requires-clause-going g c =
    may_sweep c.args.going.now c.in-MakingArcs.ensures.0 c.in-MakingArcs.ensures.1 c.in-MakingArcs.ensures.2
    c.in-MakingArcs.ensures.3 c.requires.going

pub returns-in-MakingArcs : goal.returns-in-MakingArcs
returns-in-MakingArcs g c = record {
  makes = sweeps_make g.S.Shelf.tells g.S.Shelf.world g.S.Shelf.faults _ c.args.going.now _ _ c.sweep_on.result
      c.in-MakingArcs.ensures.0 c.in-MakingArcs.ensures.1 c.sweep_on.ensures.sweeps;
}

pub reduce_on-requires-clause-going : goal.reduce_on-requires-clause-going
reduce_on-requires-clause-going g c =
    may_resume c.args.going.now c.in-Reducing.ensures.0 c.in-Reducing.ensures.1 c.requires.going

pub returns-in-Reducing : goal.returns-in-Reducing
returns-in-Reducing g c = record {
  makes = sweeps_make g.S.Shelf.tells g.S.Shelf.world g.S.Shelf.faults _ c.args.going.now _ _ c.reduce_on.result
      c.in-Reducing.ensures.0 c.in-Reducing.ensures.1 c.reduce_on.ensures.sweeps;
}
