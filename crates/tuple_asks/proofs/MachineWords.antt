-- A machine by its parts.
use Rattle.std.proofs.Common.{◌≡◌, refl}
use Rattle.std.specs.Prelude.{Option, Some, None, option_map}
use Rattle.saved_words.specs.declared.item.Item.{Item}
use Rattle.tuple_asks.specs.declared.ask.Ask.{Ask}
use Rattle.tuple_asks.specs.Saved.{MachineParts, as_item, value_in, machine_parts, machine_by}

items_again : (o : Option (Item Ask)) → option_map as_item (option_map value_in o) ≡ o
items_again None = refl
items_again (Some x) = refl

-- the machine of some parts has these
pub parts_again : (p : MachineParts) → machine_parts (machine_by p) ≡ p
parts_again (((variables, has_one), (first, (second, third))), (arcs, (asking, taken))) =
    λ i. (((variables, has_one), (first, (second, third))), (arcs, (asking, items_again taken i)))
