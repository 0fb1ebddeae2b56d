use Rattle.std.proofs.Common.{◌<◌, ◌+◌, arith, IsTrue}
use Rattle.reduce_sweep.specs.Sweeps.{turns_left, arcs_weight, lists_weight}
use Rattle.reduce_sweep.proofs.Doing.{task_same, damage_after}
use Rattle.reduce_sweep.proofs.Undamaged.{turns_undamaged}
use Rattle.std.proofs.lemmas.Result.{on_ok_weaker}
use Rattle.reduce_lists.proofs.Refusing.{if_err_weaker}
use Rattle.reduce_sweep.proofs.TurnKeeps.{going_left, going_works, going_lists, turn_reduces, turn_firm}
use Rattle.reduce_sweep.proofs.reduce.ReduceSweep.turn.Goals as goal

-- an item was handled, or the reduction ended
pub returns : goal.returns
returns g c =
    let s = c.args.self.now in
    let t = c.handle.new.self in
    let old = g.S.Shelf.world c.args.shelf.now in
    let new = g.S.Shelf.world c.handle.new.shelf in
    let going = c.in_default.not-Ended in
    let keeps = on_ok_weaker c.handle.result (λ keeps told d remains. keeps told d
    (going_works s.place.phase s old d going remains)) c.handle.ensures.keeps in
    record {
      ready = c.handle.ensures.sound;
      in_step = c.handle.ensures.in_step;
      falls = c.handle.ensures.falls;
      ended = λ none. (let some : 0 < turns_left s = going_left s.place.phase
          (arcs_weight s.ahead + lists_weight s.lists) going in absurd (omega (arith, none, some)));
      ends = c.handle.ensures.ends;
      firm = turn_firm (IsTrue (g.S.Shelf.tells c.handle.new.shelf)) t new c.handle.result c.handle.ensures.ends
          c.handle.ensures.in_step;
      keeps = keeps;
      reduced = turn_reduces (IsTrue (g.S.Shelf.tells c.handle.new.shelf)) s t old new c.handle.result
          c.handle.ensures.ends keeps;
      trusts = on_ok_weaker c.handle.result (λ trusts told lists. trusts told
          (going_lists s.place.phase s old going lists)) c.handle.ensures.trusts;
      damage = if_err_weaker c.handle.result (λ e damage told lists. damage told
          (going_lists s.place.phase s old going lists)) c.handle.ensures.does.damage;
      damaged = if_err_weaker c.handle.result (λ e damage told lists. damage told
          (going_lists s.place.phase s old going lists))
          (damage_after g.S.Shelf.tells g.S.Shelf.world g.S.Shelf.faults 134 6 _ _ s t c.handle.result c.requires.ready
          c.handle.ensures.does);
      undamaged = turns_undamaged (IsTrue (g.S.Shelf.tells c.handle.new.shelf)) s old c.handle.result
          (λ d remains. going_works s.place.phase s old d going remains) c.handle.ensures.does.damage;
      leaves = c.handle.ensures.does.leaves;
      same = task_same s t c.handle.ensures.does.same;
      refused = c.handle.ensures.does.refused;
    }
