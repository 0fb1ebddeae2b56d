use Rattle.std.proofs.Common.{◌≡◌, subst}
use Rattle.saved_words.specs.Places.{put_in}
use Rattle.tuple_asks.specs.Saved.{NumberedParts, numbered_parts_spelling}
use Rattle.tuple_asks.proofs.place_words.NumberedCarried.put.Goals as goal

-- the words are those of the parts
pub returns-clause-words : goal.returns-clause-words
returns-clause-words c = subst (λ (p : NumberedParts). c.put.new.into ≡ put_in (numbered_parts_spelling.words p)
    c.args.into.now) c.parts.ensures c.put.ensures.words

pub returns-clause-value : goal.returns-clause-value
returns-clause-value c = subst numbered_parts_spelling.is_value c.parts.ensures c.put.ensures.value
