use Rattle.std.proofs.Common.{arith}
use Rattle.step_sweeps.proofs.AtOnce.{failed_joining, folder_failed, folder_fine, joined_now, unjoined_now}
use Rattle.step_sweeps.proofs.Running.{of_none, of_some}
use Rattle.step_sweeps.proofs.at_once.join_now.Goals as goal

-- it was joined
pub returns-in-Ok-Some : goal.returns-in-Ok-Some
returns-in-Ok-Some g c =
    let is = c.in-Ok-Some.field-0-is in
    let said = c.in-Ok-Some.ensures in
    let few = of_some _ c.in-Ok-Some.joined _ is said.few in
    record {
      makes = joined_now g.S.Shelf.tells g.S.Shelf.world g.S.Shelf.faults c.args.making c.args.most c.args.op c.args.pair _
          c.requires.pair c.in-Ok-Some.joined _ (omega arith) few.0 few.1.1
          (λ told t u left right. of_some _ c.in-Ok-Some.joined _ is (said.made told t u left right))
          (of_some _ c.in-Ok-Some.joined _ is said.paid) c.join_in_room.ensures.few_calls c.join_in_room.ensures.content
          (folder_fine _ _ _ _ said.faults);
    }

-- the room doesn't hold what it takes
pub returns-in-Ok-None : goal.returns-in-Ok-None
returns-in-Ok-None g c = record {
  makes = unjoined_now g.S.Shelf.tells g.S.Shelf.world g.S.Shelf.faults c.args.making c.args.most c.args.op c.args.pair _
      c.requires.pair _ (omega arith) c.join_in_room.ensures.few_calls
      (of_none _ _ c.in-Ok-None.field-0-is c.in-Ok-None.ensures.not_made) (folder_fine _ _ _ _ c.in-Ok-None.ensures.faults);
}

-- the folder failed
pub returns-in-Err : goal.returns-in-Err
returns-in-Err g c = record {
  makes = failed_joining g.S.Shelf.tells g.S.Shelf.world g.S.Shelf.faults c.args.making c.args.most c.args.op c.args.pair _
      c.requires.pair _ _ c.join_in_room.ensures.few_calls c.join_in_room.ensures.content
      (folder_failed _ _ _ _ c.in-Err.ensures.cause c.in-Err.ensures.faults);
}
