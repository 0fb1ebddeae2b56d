use Rattle.std.proofs.Common.{◌∙◌, subst, arith}
use Rattle.shelf_model.specs.World.{now}
use Rattle.shelf_model.specs.Moments.{Stays}
use Rattle.shelf_model.proofs.Runs.{ran_joins, ran_weakens, ran_end}
use Rattle.catalogue.specs.Counts.{present}
use Rattle.catalogue.specs.Entries.{IsEntryOf}
use Rattle.diagram_list.proofs.Steps.{read_more}
use Rattle.diagram_list.proofs.dropped.mark_dropped.Goals as goal

pub loop-k-preserved : goal.loop-k-preserved
loop-k-preserved g c =
    let old = g.S.Shelf.world c.args.shelf.now in
    let mid = g.S.Shelf.world c.loop-k.shelf in
    let new = g.S.Shelf.world c.entry.new.shelf in
    record {
      ran = record {
        before = λ tells. c.loop-k.invariant.ran.before (c.in_ok-made.ensures.content.before tells);
        did = λ tells.
            let first = c.loop-k.invariant.ran.did (c.in_ok-made.ensures.content.before tells) in
            ran_joins old mid new (Stays (now old)) first
            (ran_weakens mid new (Stays (now mid)) (Stays (now old)) (λ m stays. stays ∙ ran_end old mid (Stays (now old)) first) (c.in_ok-made.ensures.content.did tells));
      };
      read = λ tells.
          let tells_mid = c.in_ok-made.ensures.content.before tells in
          let same = ran_end old mid (Stays (now old)) (c.loop-k.invariant.ran.did tells_mid) in
          read_more c.loop-k.k (present (now old).folder) c.in_ok-made.made c.loop-k.dropped c.mark.new.dropped
          (subst (λ folder. IsEntryOf c.loop-k.k (present folder) c.in_ok-made.made) same (c.in_ok-made.ensures.ok tells))
          c.mark.ensures.len c.mark.ensures.marks (c.loop-k.invariant.read tells_mid);
      len = c.mark.ensures.len ∙ c.loop-k.invariant.len;
      calls = λ tells.
          let so_far = c.loop-k.invariant.calls (c.in_ok-made.ensures.content.before tells) in
          let more = c.in_ok-made.ensures.calls tells in
          omega (arith, so_far, more);
      faults = record {
        later = let a = c.loop-k.invariant.faults.later in let b = c.in_ok-made.ensures.faults.later in omega (arith, a, b);
        cause = λ is. cc;
        say_is = c.in_ok-made.ensures.faults.say_is ∙ c.loop-k.invariant.faults.say_is;
        text_is = λ path. c.in_ok-made.ensures.faults.text_is path ∙ c.loop-k.invariant.faults.text_is path;
      };
    }
