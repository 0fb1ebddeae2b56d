use Rattle.std.proofs.Common.{rules}
use Rattle.rec_words.specs.Words.{IsNodeWord}
use Rattle.tuple_asks.proofs.ItemForms.{is_member}
use Rattle.tuple_asks.proofs.stored.ask_of.Goals as goal

-- the words are those of a node and of pointers
pub returns-clause-form : goal.returns-clause-form
returns-clause-form c =
    let key : IsNodeWord c.in_ok-of.field-0 = search rules in
    record {
      key_is = key;
      first_is = is_member _ _ _ c.in_ok-member_of.ensures;
      second_is = is_member _ _ _ c.in_ok-member_of-2.ensures;
      third_is = is_member _ _ _ c.in_ok-member_of-3.ensures;
      asker_fits = search rules;
    }
