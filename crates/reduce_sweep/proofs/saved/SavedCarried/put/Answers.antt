use Rattle.std.proofs.Common.{◌∙◌, ap}
use Rattle.saved_words.specs.Joined.{pair_words}
use Rattle.saved_words.specs.Places.{put_in}
use Rattle.reduce_sweep.specs.SavedReduction.{first_words, second_words}
use Rattle.reduce_sweep.proofs.saved.SavedCarried.put.Goals as goal

-- the words are those of the parts
pub returns-clause-words : goal.returns-clause-words
returns-clause-words c = c.put.ensures.words
    ∙ ap (λ p. put_in (pair_words first_words second_words p) c.args.into.now) c.parts.ensures
