use Rattle.std.proofs.Common.{◌≡◌, ◌+◌, ◌-◌, ◌≤◌, length, rules, arith}
use Rattle.shelf_model.proofs.Runs.{told}
use Rattle.file_writes.specs.Writes.{pieces}
use Rattle.file_writes.proofs.Written.{grow_on}
use Rattle.file_writes.proofs.writes.append_all.Goals as goal
use Rattle.std.proofs.lemmas.Grind.{common_steps}

pub returns-in_err-append-clause-content : goal.returns-in_err-append-clause-content
returns-in_err-append-clause-content g c =
    let grown = grow_on g.S.Shelf.tells g.S.Shelf.world c.args.f c.args.bytes.now c.loop-done.done (c.loop-done.done + c.min.result) _ _ _ _ (omega arith) (omega arith) c.loop-done.invariant.so_far c.in_err-append.ensures.content in
    told g.S.Shelf.tells _ _ _ _ grown (λ _ both. both.0)

pub loop-done-preserved : goal.loop-done-preserved
loop-done-preserved g c = record {
  within = omega arith;
  so_far = grow_on g.S.Shelf.tells g.S.Shelf.world c.args.f c.args.bytes.now c.loop-done.done (c.loop-done.done + c.min.result) _ _ _ _ (omega arith) (omega arith) c.loop-done.invariant.so_far c.in_ok-append.ensures.content;
  calls = λ tells.
      let did = c.in_ok-append.ensures.content.did tells in
      let clock : (g.S.Shelf.world c.append.new.self).clock ≡ (g.S.Shelf.world c.loop-done.shelf).clock + 1 = did.shelf.ticks.clock_is in
      let before : (g.S.Shelf.world c.loop-done.shelf).clock + pieces (length c.args.bytes.now - c.loop-done.done) ≤ (g.S.Shelf.world c.args.shelf.now).clock + pieces (length c.args.bytes.now) = c.loop-done.invariant.calls (c.in_ok-append.ensures.content.before tells) in
      omega arith;
  faults = search rules;
}

pub append-requires-clause-at_end : goal.append-requires-clause-at_end
append-requires-clause-at_end g c = grind (arith, common_steps)

pub returns-clause-ok : goal.returns-clause-ok
returns-clause-ok g c = grind (arith, common_steps)
