use Rattle.std.specs.Prelude.{◌∷◌}
use Rattle.std.proofs.Common.{refl}
use Rattle.top_down.proofs.NumberLaws.{numbers_full}
use Rattle.top_down.proofs.TurnLaws.{turn_first, turn_known, turn_new, asks_permuted}
use Rattle.top_down.proofs.laws.answering_an_ask_keeps_what_is_made.Goals as goal

pub returns : goal.returns
returns c = record {
  first = turn_first;
  known = λ n rule targets laws root inner ends e asks s used tuple g same after.
      turn_known n root rule targets laws inner ends (s ∷ used) tuple asks e s used refl g same after;
  renewed = λ n rule targets laws root inner ends e asks used tuple g up few other. turn_new n root rule targets laws inner ends used tuple asks e g up few other;
  any_order = λ n rule targets laws root inner ends asks others used tuple moved g. asks_permuted n root rule targets laws inner ends used tuple asks others moved g;
  full = numbers_full;
}
