use Rattle.tuple_asks.proofs.ItemForms.{no_ask, sound_value}
use Rattle.tuple_asks.proofs.stored.SoundAskSpill.from_rec.Goals as goal

-- the words aren't those of a node and of pointers
pub returns-in_err-ask_of-clause-none : goal.returns-in_err-ask_of-clause-none
returns-in_err-ask_of-clause-none c = no_ask _ _ c.in_err-ask_of.ensures.none

-- the ask is sound
pub returns-clause-value : goal.returns-clause-value
returns-clause-value c = sound_value _ _ c.of.ensures c.in_ok-ask_of.ensures.form
