use Rattle.std.proofs.Common.{sym, refl}
use Rattle.std.proofs.lemmas.List.{take_all}
use Rattle.std.proofs.lemmas.List.Elements.{All-more, All-same}
use Rattle.run_tiers.specs.declared.run.Run.{Run}
use Rattle.sweep_checkpoint.specs.Rules.{IsSlot}
use Rattle.sweep_checkpoint.proofs.rules.keeps_table.Goals as goal

pub loop-k-preserved : goal.loop-k-preserved
loop-k-preserved c =
    let d : Run = record { part = 0; next = 0; end = 0 } in
    All-more (IsSlot c.args.next_part) c.args.table.now c.loop-k.k d c.loop-k-test.true c.loop-k.invariant (c.keeps_slot.ensures.0 c.if-not-keeps_slot.false)

pub returns : goal.returns
returns c = (λ _. All-same (IsSlot c.args.next_part) c.args.table.now _ (sym (take_all c.loop-k.k c.args.table.now c.loop-k-test.false)) c.loop-k.invariant, λ _. refl)
