use Rattle.std.proofs.Common.{◌≡◌, sym}
use Rattle.std.proofs.lemmas.Bool.{false≢true}
use Rattle.std.proofs.lemmas.List.{take_all}
use Rattle.std.proofs.lemmas.List.Elements.{All-more, All-same}
use Rattle.run_tiers.specs.declared.run.Run.{Run}
use Rattle.sweep_checkpoint.proofs.Dropped.{none_any}
use Rattle.sweep_checkpoint.proofs.retiring.is_named_among.Goals as goal

pub loop-k-preserved : goal.loop-k-preserved
loop-k-preserved c =
    let d : Run = record { part = 0; next = 0; end = 0 } in
    All-more (λ (r : Run). ¬ (r.part ≡ c.args.part)) c.args.table.now c.loop-k.k d c.loop-k-test.true c.loop-k.invariant c.if-run-part.false

pub returns : goal.returns
returns c = (
  λ yes. absurd (false≢true yes),
  λ some. absurd (none_any (λ (r : Run). r.part ≡ c.args.part) c.args.table.now
      (All-same (λ (r : Run). ¬ (r.part ≡ c.args.part)) c.args.table.now _ (sym (take_all c.loop-k.k c.args.table.now c.loop-k-test.false)) c.loop-k.invariant) some),
)
