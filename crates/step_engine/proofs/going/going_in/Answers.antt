use Rattle.std.proofs.Common.{◌∙◌, length, sym, ap, inl, arith}
use Rattle.std.proofs.lemmas.Option.{none-some, same_Some}
use Rattle.shelf_model.specs.World.{now}
use Rattle.shelf_model.specs.SortFaults.{handed_on}
use Rattle.shelf_model.specs.declared.sort_fault.SortFault.TheVariants as sort
use Rattle.sweep_core.specs.declared.checkpoint.Checkpoint.{Checkpoint}
use Rattle.sweep_checkpoint.specs.Gated.{present}
use Rattle.step_engine.proofs.Found.{holds_throughout, find_is_sound, find_damage, never_spent, handed_finds}
use Rattle.step_engine.proofs.GivenUp.{found_going, finds_all, finds_lost, finds_failed}
use Rattle.step_engine.proofs.RunFaults.{shelf_faults}
use Rattle.step_engine.proofs.going.going_in.Goals as goal

pub returns-in_err-going : goal.returns-in_err-going
returns-in_err-going g c =
    let said = c.in_err-going.ensures in
    let fault = c.in_err-going.field-0.0 in
    let old = g.S.Shelf.world c.args.shelf.now in
    let new = g.S.Shelf.world c.find_going.new.shelf in
    record {
      finds = handed_finds g.S.Shelf.tells g.S.Shelf.world g.S.Shelf.faults c.args.number _ _ (handed_on fault) c.from_residual.result
          c.from_residual.ensures.1 (record {
            content = found_going g.S.Shelf.tells g.S.Shelf.world c.args.number _ _ said.content;
            going = tt;
            last = tt;
            lost = tt;
            untaken = tt;
            holds = λ told job of_job holds. holds_throughout job c.args.number of_job old new holds (said.content.did told);
            stands = tt;
            sound = λ told job of_job holds. find_is_sound job c.args.number of_job (now old).folder fault
                (g.met.S.Shelf.files_are c.args.shelf.now (said.content.before told)) holds (said.err told);
            damaged = λ told. find_damage c.args.number (present (now old).folder) fault (said.err told);
            kind = never_spent fault;
            calls = λ told. let few = said.calls told in omega (arith, few);
            gated_calls = λ told. inl (said.calls told);
            few_calls = tt;
            faults = shelf_faults _ _ fault said.faults;
          });
    }

pub returns-in_default : goal.returns-in_default
returns-in_default g c =
    let said = c.in_ok-going.ensures in
    record {
      finds = finds_all g.S.Shelf.tells g.S.Shelf.world g.S.Shelf.faults g.met.S.Shelf.files_are (length c.args.room.now) c.args.number c.requires.room.0
          _ _ c.in_ok-going.going (record {
            content = said.content;
            going_of = said.going;
            found = said.ok;
            calls = said.calls;
            few_calls = said.few_calls;
            faults = said.faults;
          }) (λ d some. absurd (none-some d (sym c.in_default.is ∙ some)));
    }

pub returns-then-point-eq0 : goal.returns-then-point-eq0
returns-then-point-eq0 g c =
    let said = c.in_ok-going.ensures in
    record {
      finds = finds_all g.S.Shelf.tells g.S.Shelf.world g.S.Shelf.faults g.met.S.Shelf.files_are (length c.args.room.now) c.args.number c.requires.room.0
          _ _ c.in_ok-going.going (record {
            content = said.content;
            going_of = said.going;
            found = said.ok;
            calls = said.calls;
            few_calls = said.few_calls;
            faults = said.faults;
          }) (λ d some. ap (λ (x : Checkpoint). x.tables) (same_Some d c.in-Some.point (sym some ∙ c.in-Some.is)) ∙ c.if-point-eq0.true);
    }

pub returns-in_err-give_up_lost : goal.returns-in_err-give_up_lost
returns-in_err-give_up_lost g c =
    let said = c.in_ok-going.ensures in
    let gone = c.in_err-give_up_lost.ensures in
    record {
      finds = handed_finds g.S.Shelf.tells g.S.Shelf.world g.S.Shelf.faults c.args.number _ _ sort.Shelf c.from_residual-in_err-give_up_lost.result
          c.from_residual-in_err-give_up_lost.ensures.1
          (finds_failed g.S.Shelf.tells g.S.Shelf.world g.S.Shelf.faults g.met.S.Shelf.files_are (length c.args.room.now) c.args.number c.requires.room.0
          _ _ c.in_ok-going.going (record {
            content = said.content;
            going_of = said.going;
            found = said.ok;
            calls = said.calls;
            few_calls = said.few_calls;
            faults = said.faults;
          }) c.in-Some.point c.in-Some.is _ gone.content gone.calls c.in_err-give_up_lost.field-0.0 gone.faults);
    }

pub returns : goal.returns
returns g c =
    let said = c.in_ok-going.ensures in
    let gone = c.in_ok-give_up_lost.ensures in
    record {
      finds = finds_lost g.S.Shelf.tells g.S.Shelf.world g.S.Shelf.faults g.met.S.Shelf.files_are (length c.args.room.now) c.args.number c.requires.room.0
          _ _ c.in_ok-going.going (record {
            content = said.content;
            going_of = said.going;
            found = said.ok;
            calls = said.calls;
            few_calls = said.few_calls;
            faults = said.faults;
          }) c.in-Some.point c.in-Some.is _ gone.content gone.calls gone.empty gone.faults;
    }
