use Rattle.std.proofs.Common.{◌≡◌, ℕ, ◌+◌, ◌<◌, List, [], length, take, get_or, subst, rules, arith}
use Rattle.std.proofs.lemmas.List.{take_all, get_or_default}
use Rattle.shelf_model.proofs.Changing.{told_changed_none, told_changed_then}
use Rattle.run_tiers.specs.declared.run.Run.{Run}
use Rattle.sweep_checkpoint.specs.Retires.{NamedAmong, NamedIn, IsDropped, Emptied}
use Rattle.sweep_checkpoint.proofs.Dropped.{any_one, dropped_more, emptied_none, emptied_then, in_more}
use Rattle.sweep_checkpoint.proofs.retiring.give_up_tables.Goals as goal

pub loop-k-init : goal.loop-k-init
loop-k-init g c = record {
  so_far = told_changed_none g.S.Shelf.tells g.S.Shelf.world (IsDropped c.args.new.now (λ p. NamedIn p c.args.tables.now)) c.args.shelf.now;
  emptied = λ tells. emptied_none _ _ (λ f is. absurd (omega (arith, is.one_of.2)));
  calls = λ tells. omega arith;
  faults = search rules;
}

pub loop-k-preserved : goal.loop-k-preserved
loop-k-preserved g c =
    let tables : List (List Run) = c.args.tables.now in
    let k : ℕ = c.loop-k.k in
    let within : k < length tables = c.loop-k-test.true in
    let x : List Run = get_or tables k [] in
    let is : get_or tables k x ≡ x = get_or_default tables k x [] within in
    record {
      so_far = told_changed_then g.S.Shelf.tells g.S.Shelf.world (IsDropped c.args.new.now (λ p. NamedIn p tables)) (IsDropped c.args.new.now (λ p. NamedAmong p x)) _ _ _
          (dropped_more c.args.new.now (λ p. NamedAmong p x) (λ p. NamedIn p tables) (λ p named. any_one (NamedAmong p) tables k x within is named)) c.loop-k.invariant.so_far c.in_ok-give_up_table.ensures.content;
      emptied = λ tells. emptied_then (IsDropped c.args.new.now (λ p. NamedIn p (take k tables))) (IsDropped c.args.new.now (λ p. NamedAmong p x)) (IsDropped c.args.new.now (λ p. NamedIn p (take (k + 1) tables))) _ _ _
          (in_more c.args.new.now tables k x within is) (c.loop-k.invariant.emptied (c.in_ok-give_up_table.ensures.content.before tells)) (c.in_ok-give_up_table.ensures.ok tells);
      calls = λ tells.
          let before = c.loop-k.invariant.calls (c.in_ok-give_up_table.ensures.content.before tells) in
          let call = c.in_ok-give_up_table.ensures.calls tells in
          let each : length x ≡ 64 = c.told-tables k within in
          omega arith;
      faults = search rules;
    }

pub returns-in_err-give_up_table-clause-content : goal.returns-in_err-give_up_table-clause-content
returns-in_err-give_up_table-clause-content g c =
    let tables : List (List Run) = c.args.tables.now in
    let k : ℕ = c.loop-k.k in
    let within : k < length tables = c.loop-k-test.true in
    let x : List Run = get_or tables k [] in
    let is : get_or tables k x ≡ x = get_or_default tables k x [] within in
    told_changed_then g.S.Shelf.tells g.S.Shelf.world (IsDropped c.args.new.now (λ p. NamedIn p tables)) (IsDropped c.args.new.now (λ p. NamedAmong p x)) _ _ _
    (dropped_more c.args.new.now (λ p. NamedAmong p x) (λ p. NamedIn p tables) (λ p named. any_one (NamedAmong p) tables k x within is named)) c.loop-k.invariant.so_far c.in_err-give_up_table.ensures.content

pub returns-clause-ok : goal.returns-clause-ok
returns-clause-ok g c = λ tells.
    subst (λ xs. Emptied (IsDropped c.args.new.now (λ p. NamedIn p xs)) (g.S.Shelf.world c.args.shelf.now) (g.S.Shelf.world c.loop-k.shelf))
    (take_all c.loop-k.k c.args.tables.now c.loop-k-test.false) (c.loop-k.invariant.emptied tells)
