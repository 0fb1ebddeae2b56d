use Rattle.std.proofs.Common.{refl, rules, IsTrue}
use Rattle.reduce_lists.proofs.Joining.{end_passes, end_damaged}
use Rattle.reduce_lists.proofs.Listing.{work_read_end, listed_read}
use Rattle.reduce_lists.proofs.Refusing.{damaged_anyhow}
use Rattle.reduce_lists.proofs.Within.{within_read_end}
use Rattle.reduce_sweep.specs.Sweeps.{held_of}
use Rattle.reduce_sweep.proofs.Counting.{few_read_end}
use Rattle.reduce_sweep.proofs.reduce.ReduceSweep.read_end.Goals as goal

-- the arc before it is the next one
pub returns-clause-passed : goal.returns-clause-passed
returns-clause-passed g c = λ told k arc at holds.
    end_passes (held_of c.args.self.now) c.next_end.new.self _ c.args.self.now.ahead.end _ _ k arc refl c.requires.there
    c.requires.fit.sound.served (c.next_end.ensures.content.did told).run
    c.next_end.ensures.inner c.next_end.ensures.file c.in_ok-self.ensures.place
    (c.in_ok-self.ensures.arcs told ((c.requires.fit.at_work
    (c.next_end.ensures.content.before told)).reads_ends c.requires.there)) at
    holds

-- the damage is that of the arc that was to be read
pub returns-in_err-self-clause-does : goal.returns-in_err-self-clause-does
returns-in_err-self-clause-does g c = record {
  leaves = search rules;
  same = search rules;
  refused = search rules;
  damage = damaged_anyhow _ _ c.args.self.now.ahead.reader (g.S.Shelf.world c.args.shelf.now) c.from_residual.result
      (end_damaged c.args.self.now.ahead.reader (g.S.Shelf.world c.args.shelf.now)
      (IsTrue (g.S.Shelf.tells c.next_end.new.shelf)) c.from_residual.result c.in_err-self.field-0.0
      c.from_residual.ensures.1 c.in_err-self.ensures.place
      (λ told. c.in_err-self.ensures.value told ((c.requires.fit.at_work
      (c.next_end.ensures.content.before told)).reads_ends c.requires.there)));
}

-- what was read is as the bytes say
pub returns-clause-fit : goal.returns-clause-fit
returns-clause-fit g c = record {
  sound = record {
    served = search rules;
    within = within_read_end c.args.self.now.place.arcs c.args.self.now.ahead.reader c.next_end.new.self _
        c.next_end.ensures.inner c.next_end.ensures.file c.in_ok-self.ensures.place c.requires.fit.sound.within;
    variables = c.requires.fit.sound.variables;
    phase = c.requires.fit.sound.phase;
    few = few_read_end c.args.self.now.place.arcs c.args.self.now.ahead.reader c.next_end.new.self _ _ _
        c.next_end.ensures.inner c.in_ok-self.ensures.place c.requires.fit.sound.few;
  };
  at_work = λ told.
      let work = c.requires.fit.at_work (c.next_end.ensures.content.before told) in
      work_read_end c.args.self.now.ahead c.args.self.now.lists c.args.self.now.writer c.args.self.now.parts _ _
      c.next_end.new.self _ c.requires.fit.sound.served
      (c.next_end.ensures.content.did told).run c.next_end.ensures.inner c.next_end.ensures.file
      (c.in_ok-self.ensures.reads told (work.reads_ends c.requires.there)) work;
}

-- the lists are the same
pub returns-clause-trusts : goal.returns-clause-trusts
returns-clause-trusts g c = λ told listed.
    listed_read c.args.self.now.ahead c.args.self.now.lists c.args.self.now.writer c.args.self.now.parts _ _
    c.next_end.new.self _ _ c.requires.fit.sound.served
    (c.next_end.ensures.content.did told).run listed
