use Rattle.std.specs.Prelude.{replicate, take}
use Rattle.std.proofs.Common.{ap, ◌∙◌}
use Rattle.std.proofs.lemmas.List.{take-replicate}
use Rattle.saved_words.specs.Places.{put_in}
use Rattle.saved_words.proofs.item.ItemCarried.put_none.Goals as goal

pub returns : goal.returns
returns g c = c.push_all.ensures ∙ ap (λ n. put_in (take n (replicate 8 0)) c.args.into.now) c.WORDS.ensures
    ∙ ap (λ xs. put_in xs c.args.into.now) (take-replicate g.T.Spill.WORDS 8 0 g.met.T.Spill.few.1)
