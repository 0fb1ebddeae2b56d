use Rattle.std.proofs.Common.{◌≡◌, List, [], true, sym, ◌∙◌}
use Rattle.std.proofs.lemmas.Bool.{false≢true}
use Rattle.std.proofs.lemmas.List.{take_all}
use Rattle.std.proofs.lemmas.List.Elements.{All-more, All-same}
use Rattle.run_tiers.specs.declared.run.Run.{Run}
use Rattle.sweep_checkpoint.specs.Retires.{NamedAmong}
use Rattle.sweep_checkpoint.proofs.Dropped.{none_any}
use Rattle.sweep_checkpoint.proofs.retiring.is_named_in.Goals as goal

pub loop-k-preserved : goal.loop-k-preserved
loop-k-preserved c =
    All-more (λ (table : List Run). ¬ (NamedAmong c.args.part table)) c.args.tables.now c.loop-k.k [] c.loop-k-test.true c.loop-k.invariant
    (λ named. let yes : c.is_named_among.result ≡ true = c.is_named_among.ensures.1 named in false≢true (sym c.if-is_named_among.false ∙ yes))

pub returns : goal.returns
returns c = (
  λ yes. absurd (false≢true yes),
  λ some. absurd (none_any (NamedAmong c.args.part) c.args.tables.now
      (All-same (λ (table : List Run). ¬ (NamedAmong c.args.part table)) c.args.tables.now _ (sym (take_all c.loop-k.k c.args.tables.now c.loop-k-test.false)) c.loop-k.invariant) some),
)
