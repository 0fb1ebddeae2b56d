-- The words of asks in a checkpoint.
use Rattle.std.specs.Prelude.{refl}
use Rattle.std.proofs.Common.{lit≤}
use Rattle.saved_words.specs.declared.item.Item.{Item}
use Rattle.saved_words.specs.Items.{item_words, IsItem, item_long, item_fits, item_differs}
use Rattle.tuple_asks.specs.declared.ask.Ask.{Ask}
use Rattle.tuple_asks.specs.Items.{ask_words, IsAsk}
use Rattle.tuple_asks.specs.ItemLaws.{ask_fits, same_ask}
use Rattle.sweep_operations.specs.Spellings.{Spelling}

-- that of asks, by their records
abbrev pub ask_item : Spelling (Item Ask)
ask_item = record {
  count = 8;
  words = item_words 8 ask_words;
  is_value = IsItem IsAsk;
  long = item_long 8 ask_words IsAsk (lit≤ tt, lit≤ tt) (λ x is. refl);
  fits = item_fits 8 ask_words IsAsk ask_fits;
  differ = item_differs 8 ask_words IsAsk (λ x is. refl) (λ x y a b same. same_ask x y same);
}
