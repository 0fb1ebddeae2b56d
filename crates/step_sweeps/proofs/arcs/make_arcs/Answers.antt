use Rattle.step_sweeps.proofs.Confirmed.{arcs_confirmed}
use Rattle.step_sweeps.proofs.arcs.make_arcs.Goals as goal

-- the sweep was refused
pub returns-in-Err : goal.returns-in-Err
returns-in-Err g c = record {
  makes = arcs_confirmed g.S.Shelf.tells g.S.Shelf.world g.S.Shelf.faults c.args.making c.requires.earlier c.args.going.now
      c.sweep_to_arcs.new.going c.args.shelf.now c.sweep_to_arcs.new.shelf c.confirmed.new.shelf c.in-Err.fault
      c.confirmed.result c.in-Err.ensures.makes c.confirmed.ensures.confirms;
}
