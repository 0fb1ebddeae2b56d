use Rattle.std.specs.Prelude.{◌++◌, ◌-◌, ◌+◌, replicate}
use Rattle.std.proofs.Common.{ap, ◌∙◌, sym, arith}
use Rattle.saved_words.proofs.Placing.{if_none}
use Rattle.saved_words.proofs.Gathered.{next_one, moved_on, long_on, ends_before, set_next}
use Rattle.saved_words.proofs.item.next_rec.Goals as goal

pub returns-in_err-rec-clause-none : goal.returns-in_err-rec-clause-none
returns-in_err-rec-clause-none c = if_none c.from_residual.result
    (ends_before c.loop-k.k c.args.from.now c.loop-k.from c.loop-k.invariant.place c.args.count (omega arith)
    c.in_err-rec.ensures.none)

pub loop-k-preserved : goal.loop-k-preserved
loop-k-preserved c =
    let more = next_one c.loop-k.k c.args.from.now c.loop-k.from c.loop-k.invariant.place c.in_ok-rec.field-0
    c.in_ok-rec.ensures.found.0 in
    record {
      place = moved_on c.loop-k.k c.args.from.now c.loop-k.from c.loop-k.invariant.place c.next.new.self
          c.in_ok-rec.ensures.found.1;
      long = long_on c.loop-k.k c.args.from.now c.loop-k.from c.loop-k.invariant.place c.in_ok-rec.field-0
          c.in_ok-rec.ensures.found.0 c.loop-k.invariant.long;
      words = set_next c.loop-k.rec.w _ c.loop-k.k c.in_ok-rec.field-0 (omega arith) c.loop-k.invariant.long
          c.loop-k.invariant.words
          ∙ ap (λ xs. xs ++ replicate (8 - (c.loop-k.k + 1)) 0) (sym more);
    }
