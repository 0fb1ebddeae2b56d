-- The forms of asks' records.
use Rattle.std.proofs.Common.{◌≡◌, ◌≢◌, subst, sym, ℕ, List, true}
use Rattle.std.specs.Prelude.{Option, Some, None, IfSome, IfNone}
use Rattle.std.specs.Option.{SomeIff}
use Rattle.rec_words.specs.Words.{IsPointer}
use Rattle.tuple_asks.specs.declared.ask.Member.{Member}
use Rattle.tuple_asks.specs.declared.ask.Ask.{Ask}
use Rattle.tuple_asks.specs.Items.{ask_words, IsMember, IsForm, IsAsk}
use Rattle.tuple_asks.specs.Soundness.{is_sound}

-- two words of pointers are those of a member
pub is_member : (m : Member) (low high : ℕ) → (IsPointer low × IsPointer high) × (m ≡ record { low = low; high = high }) → IsMember m
is_member m low high is = subst IsMember (sym is.1) (record { low_is = is.0.0; high_is = is.0.1 })

-- words that are of no form are of no ask
pub no_ask : (found : Option Ask) (words : List ℕ) → ((x : Ask) → IsForm x → ask_words x ≢ words)
    → IfNone found ((x : Ask) → IsAsk x → ask_words x ≢ words)
no_ask None words none = λ x is. none x is.form
no_ask (Some a) words none = tt

-- where it is sound it is an ask
pub sound_value : (found : Option Ask) (a : Ask) → SomeIff found (is_sound a ≡ true) a → IsForm a
    → IfSome found IsAsk
sound_value None a is form = tt
sound_value (Some x) a is form = subst IsAsk (sym is.1) (record { form = form; sound = is.0 })
