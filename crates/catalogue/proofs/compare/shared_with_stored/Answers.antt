use Rattle.std.proofs.Common.{◌≡◌, ◌+◌, ◌-◌, ◌≤◌, min, length, take, ap, ◌∙◌, inr, rules, arith}
use Rattle.shelf_model.specs.World.{now, file}
use Rattle.shelf_model.specs.Moments.{Stays}
use Rattle.shelf_model.proofs.Runs.{ran_end, ran_on}
use Rattle.std.proofs.lemmas.List.{length-take}
use Rattle.catalogue.specs.Files.{job_file}
use Rattle.catalogue.specs.Standings.{without_budget}
use Rattle.catalogue.proofs.Budget.{length-without_budget}
use Rattle.file_writes.specs.Writes.{pieces}
use Rattle.catalogue.proofs.Shared.{read_piece, ends_within, goes_further, ends_there}
use Rattle.catalogue.proofs.compare.shared_with_stored.Goals as goal

pub returns-then-same-want-clause-ok : goal.returns-then-same-want-clause-ok
returns-then-same-want-clause-ok g c = λ tells.
    let tells_before = c.in_ok-got.ensures.content.before tells in
    let both = c.loop-at.invariant.so_far.did tells_before in
    let stays = ran_end (g.S.Shelf.world c.args.shelf.now) (g.S.Shelf.world c.loop-at.shelf) (Stays (now (g.S.Shelf.world c.args.shelf.now))) both.0 in
    let size : c.args.size ≡ length (file (g.S.Shelf.world c.args.shelf.now) job_file).bytes = c.requires.all (c.loop-at.invariant.so_far.before tells_before) in
    let part : length (take c.min-want.result c.loop-at.piece) ≡ min c.min-want.result (length c.loop-at.piece) = length-take c.min-want.result c.loop-at.piece in
    let room : length (take c.min-want.result c.loop-at.piece) ≡ c.min-want.result = omega arith in
    let read = read_piece (g.S.Shelf.world c.args.shelf.now) (g.S.Shelf.world c.loop-at.shelf) c.args.job.now _ _ _ c.loop-at.at c.min-want.result _ c.in_ok-got.got c.shared_len-same.result
    (c.loop-at.invariant.which c.loop-at-test.true) (omega arith) stays (c.in_ok-got.ensures.content.did tells).ok room (omega arith) (record { first = c.shared_len-same.ensures.first; later = c.shared_len-same.ensures.later }) in
    let long : length (without_budget (file (g.S.Shelf.world c.args.shelf.now) job_file).bytes) ≡ length (file (g.S.Shelf.world c.args.shelf.now) job_file).bytes = length-without_budget (file (g.S.Shelf.world c.args.shelf.now) job_file).bytes in
    let job_long : length (without_budget c.args.job.now) ≡ length c.args.job.now = length-without_budget c.args.job.now in
    ends_within (without_budget (file (g.S.Shelf.world c.args.shelf.now) job_file).bytes) (without_budget c.args.job.now) c.loop-at.at c.min-want.result c.shared_len-same.result (omega arith) (omega arith) both.1 read c.if-same-want.true

pub loop-at-preserved : goal.loop-at-preserved
loop-at-preserved g c = record {
  room = search rules;
  within = omega arith;
  which = λ more. inr (omega (arith, more));
  so_far = record {
    before = λ tells. c.loop-at.invariant.so_far.before (c.in_ok-got.ensures.content.before tells);
    did = λ tells.
        let tells_before = c.in_ok-got.ensures.content.before tells in
        let did = c.in_ok-got.ensures.content.did tells in
        let both = c.loop-at.invariant.so_far.did tells_before in
        let stays = ran_end (g.S.Shelf.world c.args.shelf.now) (g.S.Shelf.world c.loop-at.shelf) (Stays (now (g.S.Shelf.world c.args.shelf.now))) both.0 in
        let size : c.args.size ≡ length (file (g.S.Shelf.world c.args.shelf.now) job_file).bytes = c.requires.all (c.loop-at.invariant.so_far.before tells_before) in
        let part : length (take c.min-want.result c.loop-at.piece) ≡ min c.min-want.result (length c.loop-at.piece) = length-take c.min-want.result c.loop-at.piece in
        let room : length (take c.min-want.result c.loop-at.piece) ≡ c.min-want.result = omega arith in
        let read = read_piece (g.S.Shelf.world c.args.shelf.now) (g.S.Shelf.world c.loop-at.shelf) c.args.job.now _ _ _ c.loop-at.at c.min-want.result _ c.in_ok-got.got c.shared_len-same.result
        (c.loop-at.invariant.which c.loop-at-test.true) (omega arith) stays did.ok room (omega arith) (record { first = c.shared_len-same.ensures.first; later = c.shared_len-same.ensures.later }) in (
          ran_on (g.S.Shelf.world c.args.shelf.now) (g.S.Shelf.world c.loop-at.shelf) (g.S.Shelf.world c.read_at.new.self) (Stays (now (g.S.Shelf.world c.args.shelf.now))) both.0 did.shelf (ap (λ m. m.folder) did.same ∙ stays),
          goes_further (without_budget (file (g.S.Shelf.world c.args.shelf.now) job_file).bytes) (without_budget c.args.job.now) c.loop-at.at c.min-want.result c.shared_len-same.result both.1 read c.if-same-want.false,
        );
  };
  calls = λ tells.
      let did = c.in_ok-got.ensures.content.did tells in
      let clock : (g.S.Shelf.world c.read_at.new.self).clock ≡ (g.S.Shelf.world c.loop-at.shelf).clock + 1 = did.shelf.ticks.clock_is in
      let before : (g.S.Shelf.world c.loop-at.shelf).clock + pieces (c.min-end.result - c.loop-at.at) ≤ (g.S.Shelf.world c.args.shelf.now).clock + pieces c.min-end.result = c.loop-at.invariant.calls (c.in_ok-got.ensures.content.before tells) in
      omega arith;
  faults = search rules;
}

pub returns-clause-ok : goal.returns-clause-ok
returns-clause-ok g c = λ tells.
    let both = c.loop-at.invariant.so_far.did tells in
    let size : c.args.size ≡ length (file (g.S.Shelf.world c.args.shelf.now) job_file).bytes = c.requires.all (c.loop-at.invariant.so_far.before tells) in
    let all : c.loop-at.at ≡ c.min-end.result = omega arith in
    let same : take c.min-end.result (without_budget (file (g.S.Shelf.world c.args.shelf.now) job_file).bytes) ≡ take c.min-end.result (without_budget c.args.job.now) = rw (← all) both.1 in
    let long : length (without_budget (file (g.S.Shelf.world c.args.shelf.now) job_file).bytes) ≡ length (file (g.S.Shelf.world c.args.shelf.now) job_file).bytes = length-without_budget (file (g.S.Shelf.world c.args.shelf.now) job_file).bytes in
    let job_long : length (without_budget c.args.job.now) ≡ length c.args.job.now = length-without_budget c.args.job.now in
    ends_there (without_budget (file (g.S.Shelf.world c.args.shelf.now) job_file).bytes) (without_budget c.args.job.now) c.min-end.result (omega arith) same
