-- What remains of a task when a node was read.
use Rattle.std.proofs.Common.{◌≡◌, true}
use Rattle.std.specs.Prelude.{Some}
use Rattle.shelf_model.specs.World.{World, now, file}
use Rattle.shelf_model.specs.Moments.{Ran, Stays}
use Rattle.level_queue.specs.Queues as queues
use Rattle.top_down_laws.specs.Readings as readings
use Rattle.tuple_asks.specs.declared.ask.Ask.{Ask}
use Rattle.tuple_asks.specs.declared.operand.Operand.{Operand}
use Rattle.tuple_asks.specs.declared.place.Asking.{Asking}
use Rattle.top_down_sweep.specs.declared.machine.Machine.{Machine}
use Rattle.tuple_asks.specs.Members.{wants}
use Rattle.tuple_asks.specs.Operands.{AreOperands}
use Rattle.top_down_sweep.specs.Meaning.{Task, Contents, IsWorking, IsHandling}
use Rattle.tuple_asks.specs.Readings.{ReadsNext}
use Rattle.top_down_sweep.specs.Turns.{AdvancesAt}
use Rattle.top_down_sweep.proofs.TurnNumbers.{fewer_left}
use Rattle.tuple_asks.proofs.Staying.{looked_same}
use Rattle.top_down_sweep.proofs.Holding.{first_files, second_files, third_files}
use Rattle.tuple_asks.proofs.Staying.{read_still}
use Rattle.top_down_sweep.proofs.StandingOn.{stands_read}
use Rattle.top_down_sweep.proofs.WorkingOn.{first_read_left, second_read_left, third_read_left}

module _ (t : Task) (s : Asking) (a : Ask) (m : Machine) (x : Operand) (old new : World)
    (h : IsHandling t s a m old) (are : AreOperands m.place.variables m.operands) where
  abbrev k : Contents
  k = h.contents

  -- of the first operand
  pub first_kept : wants a.key m.operands.first.hand a.members.first ≡ true
      → x.file ≡ m.operands.first.file → Ran (Stays (now old)) old new
      → ReadsNext x new k.readings.first
      → AdvancesAt t s m old (record m { operands = record m.operands { first = x } }) new
  first_kept asked file ran (node, unread, is, read) =
      let r : readings.Readings = readings.with_first k.readings
      (record { hand = Some node; unread = unread }) in
      let after = first_read_left t s m a old k h.rest h.first_is h.stands h.left asked node unread is
      in
      let working : IsWorking t s (record m { operands = record m.operands { first = x } }) new =
      record {
        contents = record k { readings = r };
        stands = stands_read m (record m.operands { first = x }) old new k r (first_files m x file)
            ran (record {
              first = read;
              second = read_still _ m.operands.second old new k.readings.second are.second
                  (looked_same old new ran m.operands.second.file) h.stands.read.second;
              third = read_still _ m.operands.third old new k.readings.third are.third
                  (looked_same old new ran m.operands.third.file) h.stands.read.third;
            }) h.stands;
        left = after.0;
      }
      in (
        working,
        fewer_left t s s m (record m { operands = record m.operands { first = x } }) old new k
            (queues.last_of m.queue) h.stands h.left working after.1,
      )

  -- of the second one
  pub second_kept : wants a.key m.operands.second.hand a.members.second ≡ true
      → x.file ≡ m.operands.second.file → Ran (Stays (now old)) old new
      → ReadsNext x new k.readings.second
      → AdvancesAt t s m old (record m { operands = record m.operands { second = x } }) new
  second_kept asked file ran (node, unread, is, read) =
      let r : readings.Readings = readings.with_second k.readings
      (record { hand = Some node; unread = unread }) in
      let after = second_read_left t s m a old k h.rest h.first_is h.stands h.left asked node unread is
      in
      let working : IsWorking t s (record m { operands = record m.operands { second = x } }) new =
      record {
        contents = record k { readings = r };
        stands = stands_read m (record m.operands { second = x }) old new k r
            (second_files m x file) ran (record {
              first = read_still _ m.operands.first old new k.readings.first are.first
                  (looked_same old new ran m.operands.first.file) h.stands.read.first;
              second = read;
              third = read_still _ m.operands.third old new k.readings.third are.third
                  (looked_same old new ran m.operands.third.file) h.stands.read.third;
            }) h.stands;
        left = after.0;
      }
      in (
        working,
        fewer_left t s s m (record m { operands = record m.operands { second = x } }) old new k
            (queues.last_of m.queue) h.stands h.left working after.1,
      )

  -- of the third one
  pub third_kept : wants a.key m.operands.third.hand a.members.third ≡ true
      → x.file ≡ m.operands.third.file → Ran (Stays (now old)) old new
      → ReadsNext x new k.readings.third
      → AdvancesAt t s m old (record m { operands = record m.operands { third = x } }) new
  third_kept asked file ran (node, unread, is, read) =
      let r : readings.Readings = readings.with_third k.readings
      (record { hand = Some node; unread = unread }) in
      let after = third_read_left t s m a old k h.rest h.first_is h.stands h.left asked node unread is
      in
      let working : IsWorking t s (record m { operands = record m.operands { third = x } }) new =
      record {
        contents = record k { readings = r };
        stands = stands_read m (record m.operands { third = x }) old new k r (third_files m x file)
            ran (record {
              first = read_still _ m.operands.first old new k.readings.first are.first
                  (looked_same old new ran m.operands.first.file) h.stands.read.first;
              second = read_still _ m.operands.second old new k.readings.second are.second
                  (looked_same old new ran m.operands.second.file) h.stands.read.second;
              third = read;
            }) h.stands;
        left = after.0;
      }
      in (
        working,
        fewer_left t s s m (record m { operands = record m.operands { third = x } }) old new k
            (queues.last_of m.queue) h.stands h.left working after.1,
      )
