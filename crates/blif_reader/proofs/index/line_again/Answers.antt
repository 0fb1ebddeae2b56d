use Rattle.std.proofs.Common.{◌∙◌, sym, ap, is_some}
use Rattle.blif_reader.specs.Words.{use_of, uses_left}
use Rattle.blif_reader.proofs.Indexing.{seen_more, seen_again, seen_all}
use Rattle.blif_reader.proofs.index.line_again.Goals as goal

pub returns-then-is_some-clause-line : goal.returns-then-is_some-clause-line
returns-then-is_some-clause-line c =
    seen_again (uses_left c.args.uses) (uses_left c.loop-one.one-iterator) (uses_left c.next.new.self) (use_of c.in-Some.one) c.loop-one.index
    c.in-Some.ensures.steps (sym (ap is_some c.in_ok-before.ensures.old) ∙ sym c.is_some.ensures ∙ c.if-is_some.true) c.loop-one.invariant

pub loop-one-preserved : goal.loop-one-preserved
loop-one-preserved c =
    seen_more (uses_left c.args.uses) (uses_left c.loop-one.one-iterator) (uses_left c.next.new.self) (use_of c.in-Some.one) c.loop-one.index c.put.new.index c.in-Some.one.line
    c.in-Some.ensures.steps c.in_ok-before.ensures.puts (sym (ap is_some c.in_ok-before.ensures.old) ∙ sym c.is_some.ensures ∙ c.if-is_some.false) c.loop-one.invariant

pub returns-clause-line : goal.returns-clause-line
returns-clause-line c = (seen_all (uses_left c.args.uses) (uses_left c.loop-one.one-iterator) c.loop-one.index c.in-None.ensures.steps.0 c.loop-one.invariant).0
