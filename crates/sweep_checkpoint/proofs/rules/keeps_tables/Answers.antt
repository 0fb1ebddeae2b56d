use Rattle.std.proofs.Common.{[], sym, refl}
use Rattle.std.specs.Prelude.{All}
use Rattle.std.proofs.lemmas.List.{take_all}
use Rattle.std.proofs.lemmas.List.Elements.{All-more, All-same}
use Rattle.sweep_checkpoint.specs.Rules.{IsSlot}
use Rattle.sweep_checkpoint.proofs.rules.keeps_tables.Goals as goal

pub loop-k-preserved : goal.loop-k-preserved
loop-k-preserved c =
    All-more (All (IsSlot c.args.next_part)) c.args.tables.now c.loop-k.k [] c.loop-k-test.true c.loop-k.invariant (c.keeps_table.ensures.0 c.if-not-keeps_table.false)

pub returns : goal.returns
returns c = (λ _. All-same (All (IsSlot c.args.next_part)) c.args.tables.now _ (sym (take_all c.loop-k.k c.args.tables.now c.loop-k-test.false)) c.loop-k.invariant, λ _. refl)
