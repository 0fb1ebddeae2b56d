use Rattle.std.proofs.Common.{◌+◌, ◌-◌, subst, arith}
use Rattle.std.specs.Prelude.{Ok}
use Rattle.step_sweeps.specs.declared.at_once.AtMost.{AtMost}
use Rattle.sound_image.specs.Jobs.{Job}
use Rattle.script_runner.specs.AtOnce.{GathersStep}
use Rattle.script_runner.specs.JobOf.{job_in}
use Rattle.script_runner.proofs.Gathered.{gathers_none, gathers_more, gathers_left, gathers_failed, gathers_all}
use Rattle.script_runner.proofs.at_once.gather.Goals as goal

pub returns-in_err-entry : goal.returns-in_err-entry
returns-in_err-entry g c =
    let so = c.loop-end.invariant in
    record {
      gathers = gathers_failed g.S.Shelf.tells g.S.Shelf.world g.S.Shelf.faults (job_in c.args.job.now) c.args.job.now.well_formed c.args.from c.args.until
          c.loop-end.end c.loop-end.turns c.args.spare.now c.loop-end.spare c.loop-end.last c.args.shelf.now c.loop-end.shelf so.so_far so.within.0
          c.requires.within.1 _ c.gather_step.new.shelf _ c.from_residual.result c.from_residual.ensures.0 c.loop-end-test.true so.near so.few so.spare
          c.in_err-entry.ensures.gathers;
    }

pub returns-in_default : goal.returns-in_default
returns-in_default g c =
    let so = c.loop-end.invariant in
    let job : Job = job_in c.args.job.now in
    let most : AtMost = record { turns = c.saturating_sub.result; looks = c.most_looks.result } in
    let enough = c.if-spare-ge-TRAILERS.true in
    let looks = c.most_looks.ensures in
    record {
      gathers = gathers_left g.S.Shelf.tells g.S.Shelf.world g.S.Shelf.faults job c.args.job.now.well_formed c.args.from c.args.until c.loop-end.end
          c.loop-end.turns c.args.spare.now c.loop-end.spare c.loop-end.last c.args.shelf.now c.loop-end.shelf so.so_far so.within.0 c.requires.within.1 most
          c.gather_step.new.shelf c.loop-end-test.true
          (subst (λ found. GathersStep g.S.Shelf.tells g.S.Shelf.world g.S.Shelf.faults job c.args.from c.loop-end.end most c.loop-end.shelf
          c.gather_step.new.shelf (Ok found)) c.in_default.is c.in_ok-entry.ensures.gathers)
          (c.loop-end.spare - (4 + c.most_looks.result)) so.near so.few so.spare (omega (arith, looks, enough));
    }

pub loop-end-init : goal.loop-end-init
loop-end-init g c = record {
  so_far = gathers_none g.S.Shelf.tells g.S.Shelf.world g.S.Shelf.faults (job_in c.args.job.now) c.args.from c.args.until c.args.spare.now c.args.shelf.now
      c.requires.ready;
  within = (omega arith, c.requires.within.0);
  near = omega arith;
  few = omega arith;
  spare = c.requires.spare;
}

pub loop-end-preserved : goal.loop-end-preserved
loop-end-preserved g c =
    let so = c.loop-end.invariant in
    let job : Job = job_in c.args.job.now in
    let most : AtMost = record { turns = c.saturating_sub.result; looks = c.most_looks.result } in
    let from = so.within.0 in
    let before = c.loop-end-test.true in
    let near = c.if-end-from-lt-MOST_WAITING.true in
    let few = so.few in
    let step = subst (λ found. GathersStep g.S.Shelf.tells g.S.Shelf.world g.S.Shelf.faults job c.args.from c.loop-end.end most c.loop-end.shelf
    c.gather_step.new.shelf (Ok found)) c.in-Some.is c.in_ok-entry.ensures.gathers in
    let turns = step.made.few in
    let most_turns = c.saturating_sub.ensures in
    record {
      so_far = gathers_more g.S.Shelf.tells g.S.Shelf.world g.S.Shelf.faults job c.args.job.now.well_formed c.args.from c.args.until c.loop-end.end
          c.loop-end.turns c.args.spare.now c.loop-end.spare c.loop-end.last c.args.shelf.now c.loop-end.shelf so.so_far from c.requires.within.1 most
          c.gather_step.new.shelf c.in-Some.entry before step c.more_spare.result c.more_spare.ensures.more;
      within = (omega (arith, from), omega (arith, before));
      near = omega (arith, near, from);
      few = omega (arith, few, turns, most_turns);
      spare = c.more_spare.ensures.few;
    }

pub returns-else-spare-ge-TRAILERS : goal.returns-else-spare-ge-TRAILERS
returns-else-spare-ge-TRAILERS g c =
    let so = c.loop-end.invariant in
    record {
      gathers = gathers_all g.S.Shelf.tells g.S.Shelf.world g.S.Shelf.faults (job_in c.args.job.now) c.args.job.now.well_formed c.args.from c.args.until
          c.loop-end.end c.loop-end.turns c.args.spare.now c.loop-end.spare c.loop-end.last c.args.shelf.now c.loop-end.shelf so.so_far so.within.0
          c.requires.within.1 so.within.1 so.near so.few so.spare;
    }

pub returns-else-end-from-lt-MOST_WAITING : goal.returns-else-end-from-lt-MOST_WAITING
returns-else-end-from-lt-MOST_WAITING g c =
    let so = c.loop-end.invariant in
    record {
      gathers = gathers_all g.S.Shelf.tells g.S.Shelf.world g.S.Shelf.faults (job_in c.args.job.now) c.args.job.now.well_formed c.args.from c.args.until
          c.loop-end.end c.loop-end.turns c.args.spare.now c.loop-end.spare c.loop-end.last c.args.shelf.now c.loop-end.shelf so.so_far so.within.0
          c.requires.within.1 so.within.1 so.near so.few so.spare;
    }

pub returns-after-loop-end : goal.returns-after-loop-end
returns-after-loop-end g c =
    let so = c.loop-end.invariant in
    record {
      gathers = gathers_all g.S.Shelf.tells g.S.Shelf.world g.S.Shelf.faults (job_in c.args.job.now) c.args.job.now.well_formed c.args.from c.args.until
          c.loop-end.end c.loop-end.turns c.args.spare.now c.loop-end.spare c.loop-end.last c.args.shelf.now c.loop-end.shelf so.so_far so.within.0
          c.requires.within.1 so.within.1 so.near so.few so.spare;
    }
