use Rattle.std.proofs.Common.{◌≡◌, ◌∙◌, ◌+◌, ◌-◌, ℕ, ◌++◌, take, drop, ap, ap₂, arith}
use Rattle.std.proofs.lemmas.List.{drop-replicate}
use Rattle.step_engine.proofs.entries.diagram_entry.Goals as goal

pub returns : goal.returns
returns c =
    let at : ℕ = c.args.planned.now.name_at in
    let len : ℕ = c.args.planned.now.name_len in
    let size : at + len - at ≡ len = omega arith in
    ap (λ name. record { number = c.args.number; kind = 1; answer = 0; count = c.args.nodes; turns = c.args.spent.turns; parts = c.args.spent.parts; name_len = len; name = name })
    (ap₂ (λ a b. a ++ b) (c.copy_from_slice.ensures.after ∙ ap (λ k. take k (drop at c.args.text.now)) size) (drop-replicate len 63 0))
