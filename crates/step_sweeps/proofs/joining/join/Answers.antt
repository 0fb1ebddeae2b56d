use Rattle.std.proofs.Common.{rules, arith}
use Rattle.step_sweeps.specs.Makes.{nodes_for}
use Rattle.step_sweeps.specs.Ways.{left_by_sweeps}
use Rattle.step_sweeps.proofs.JoinKept.{joined_kept, joined_refused}
use Rattle.step_sweeps.proofs.JoinsAnew.{within, failed_calls, look_pays}
use Rattle.step_sweeps.proofs.Running.{of_some, folder_ok}
use Rattle.step_sweeps.proofs.WaysAnew.{after_look, changed_run, failed}
use Rattle.step_sweeps.proofs.joining.join.Goals as goal

pub sweep_diagram-requires-clause-within : goal.sweep_diagram-requires-clause-within
sweep_diagram-requires-clause-within g c = within g.S.Shelf.tells g.S.Shelf.world g.S.Shelf.faults c.args.op c.args.making
    c.args.pair _ c.requires.pair

-- the folder failed
pub returns-in_err-tried : goal.returns-in_err-tried
returns-in_err-tried g c = record {
  makes = failed g.S.Shelf.tells g.S.Shelf.world g.S.Shelf.faults c.args.making c.args.before
      (nodes_for c.args.making) 7 _ _ _ _ (search rules)
      (λ told. failed_calls g.S.Shelf.tells g.S.Shelf.world g.S.Shelf.faults c.args.op c.args.making c.args.pair _
      c.requires.pair _ (c.join_in_room.ensures.content.before told) (c.join_in_room.ensures.content.did told).few)
      (λ told. let few = c.join_in_room.ensures.few_calls told in omega (arith, few))
      (changed_run g.S.Shelf.tells g.S.Shelf.world c.args.making.number _ _ _ c.join_in_room.ensures.content)
      (search rules);
}

-- what the room made, and a save of it was refused
pub returns-in_err-keep_if_due : goal.returns-in_err-keep_if_due
returns-in_err-keep_if_due g c =
    let few = of_some _ c.in-Some.joined _ c.in-Some.is c.in_ok-tried.ensures.few in record {
      makes = joined_refused g.S.Shelf.tells g.S.Shelf.world g.S.Shelf.faults c.args.op c.args.making c.args.pair
          c.args.going.now c.args.before _ _ c.in-Some.joined _ _ _ c.requires.pair c.requires.few c.ranges.before.fits
          c.saturating_add-going.ensures few.0 few.1.1
          (λ told t u left right. of_some _ c.in-Some.joined _ c.in-Some.is
          (c.in_ok-tried.ensures.made told t u left right))
          (of_some _ c.in-Some.joined _ c.in-Some.is c.in_ok-tried.ensures.paid)
          c.join_in_room.ensures.few_calls c.join_in_room.ensures.content (folder_ok _ _ _ c.in_ok-tried.ensures.faults)
          c.in_err-keep_if_due.field-0.0 _ (search rules) c.in_err-keep_if_due.ensures.keeps;
    }

-- or it was made, or wasn't due
pub returns-in-Some : goal.returns-in-Some
returns-in-Some g c =
    let few = of_some _ c.in-Some.joined _ c.in-Some.is c.in_ok-tried.ensures.few in record {
      makes = joined_kept g.S.Shelf.tells g.S.Shelf.world g.S.Shelf.faults c.args.op c.args.making c.args.pair
          c.args.going.now c.args.before _ _ c.in-Some.joined _ _ _ c.requires.pair c.requires.few c.ranges.before.fits
          c.saturating_add-going.ensures few.0 few.1.1
          (λ told t u left right. of_some _ c.in-Some.joined _ c.in-Some.is
          (c.in_ok-tried.ensures.made told t u left right))
          (of_some _ c.in-Some.joined _ c.in-Some.is c.in_ok-tried.ensures.paid)
          c.join_in_room.ensures.few_calls c.join_in_room.ensures.content (folder_ok _ _ _ c.in_ok-tried.ensures.faults)
          c.in_ok-keep_if_due.ensures.keeps;
    }

-- and else the sweeps
pub returns : goal.returns
returns g c = record {
  makes = after_look g.S.Shelf.tells g.S.Shelf.world g.S.Shelf.faults c.args.making _ c.args.before _
      (nodes_for c.args.making) (left_by_sweeps c.args.making) 7 11 _ _ _ _ _ c.sweep_diagram.result
      (search arith) (λ told. let few = c.join_in_room.ensures.few_calls told in omega (arith, few))
      (look_pays g.S.Shelf.tells g.S.Shelf.world g.S.Shelf.faults c.args.op c.args.making c.args.pair _ c.requires.pair
      c.args.before c.saturating_add-nodes.result c.saturating_add.result c.saturating_add-looked.result
      c.saturating_add-nodes.ensures c.saturating_add.ensures c.saturating_add-looked.ensures)
      (search rules) (folder_ok _ _ _ c.in_ok-tried.ensures.faults) c.sweep_diagram.ensures.makes;
}
