use Rattle.std.proofs.Common.{refl, rules, arith}
use Rattle.step_sweeps.proofs.ArcsReduced.{by_sweep, room_failed, after_attempt}
use Rattle.step_sweeps.proofs.Running.{of_some, folder_ok}
use Rattle.step_sweeps.proofs.RoomKept.{kept_failed, kept_makes}
use Rattle.step_sweeps.proofs.reduction.reduce_arcs.Goals as goal

-- by a sweep alone
pub returns-then-arcs-eq0 : goal.returns-then-arcs-eq0
returns-then-arcs-eq0 g c = record {
  reduces = by_sweep g.S.Shelf.tells g.S.Shelf.world g.S.Shelf.faults c.args.making c.args.made c.args.going.now _ _
      c.sweep_arcs.result c.sweep_arcs.ensures.reduces;
}

-- in the room, where the folder failed
pub returns-in_err-tried : goal.returns-in_err-tried
returns-in_err-tried g c = record {
  reduces = room_failed g.S.Shelf.tells g.S.Shelf.world g.S.Shelf.faults c.args.making c.args.made c.args.going.now
      c.requires.files c.requires.may _ refl (search arith) _ _ _ (search rules) c.reduce_few.ensures.content (search rules);
}

-- or where they were reduced, and a save of that was refused
pub returns-in_err-keep_if_due : goal.returns-in_err-keep_if_due
returns-in_err-keep_if_due g c = record {
  reduces = kept_failed g.S.Shelf.tells g.S.Shelf.world g.S.Shelf.faults c.args.making c.args.made c.args.going.now
      c.requires.files c.requires.may _ refl (search arith) _ c.in-Some.reduced.turns _ _ _ _ (search arith)
      (of_some _ c.in-Some.reduced _ c.in-Some.is c.in_ok-tried.ensures.turns) c.saturating_add-going.ensures
      (of_some _ c.in-Some.reduced _ c.in-Some.is c.in_ok-tried.ensures.reduced) c.reduce_few.ensures.content
      (folder_ok _ _ _ c.in_ok-tried.ensures.faults) c.in_err-keep_if_due.field-0.0 _ (search rules)
      c.in_err-keep_if_due.ensures.keeps;
}

-- or it was made, or wasn't due
pub returns-in-Some : goal.returns-in-Some
returns-in-Some g c = record {
  reduces = kept_makes g.S.Shelf.tells g.S.Shelf.world g.S.Shelf.faults c.args.making c.args.made c.args.going.now
      c.requires.files c.requires.may _ refl (search arith) _ c.in-Some.reduced.turns _ _ _ _ (search arith)
      (of_some _ c.in-Some.reduced _ c.in-Some.is c.in_ok-tried.ensures.turns) c.saturating_add-going.ensures
      (of_some _ c.in-Some.reduced _ c.in-Some.is c.in_ok-tried.ensures.reduced) c.reduce_few.ensures.content
      (folder_ok _ _ _ c.in_ok-tried.ensures.faults) _ refl refl refl c.in_ok-keep_if_due.ensures.keeps (search rules);
}

-- and by a sweep after an attempt
pub returns : goal.returns
returns g c = record {
  reduces = after_attempt g.S.Shelf.tells g.S.Shelf.world g.S.Shelf.faults c.args.making c.args.made c.args.going.now
      c.requires.files c.requires.may _ refl (search arith) c.saturating_add-going-2.result _ _ _ c.sweep_arcs-2.result (search arith)
      (search arith) c.saturating_add-going-2.ensures c.reduce_few.ensures.content
      (folder_ok _ _ _ c.in_ok-tried.ensures.faults) c.sweep_arcs-2.ensures.reduces;
}
