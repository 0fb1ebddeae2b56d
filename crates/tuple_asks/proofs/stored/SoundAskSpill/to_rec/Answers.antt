use Rattle.std.proofs.Common.{◌<◌, ◌^◌, subst}
use Rattle.rec_words.specs.Words.{IsPointer}
use Rattle.tuple_asks.specs.declared.ask.Ask.{Ask}
use Rattle.tuple_asks.specs.Items.{IsForm}
use Rattle.tuple_asks.proofs.stored.SoundAskSpill.to_rec.Goals as goal

-- an ask's words are those of a node and of pointers, and the ask is sound
pub returns-clause-value : goal.returns-clause-value
returns-clause-value c = record {
  form = subst (λ (a : Ask). IsForm a) c.ask-ask.ensures.value (record {
    key_is = c.ptr.ensures.node;
    first_is = record {
      low_is = subst IsPointer c.word-2.ensures.value c.word-2.ensures.pointer;
      high_is = subst IsPointer c.word-3.ensures.value c.word-3.ensures.pointer;
    };
    second_is = record {
      low_is = subst IsPointer c.word-4.ensures.value c.word-4.ensures.pointer;
      high_is = subst IsPointer c.word-5.ensures.value c.word-5.ensures.pointer;
    };
    third_is = record {
      low_is = subst IsPointer c.word-6.ensures.value c.word-6.ensures.pointer;
      high_is = subst IsPointer c.word-7.ensures.value c.word-7.ensures.pointer;
    };
    asker_fits = subst (λ w. w < 2 ^ 64) c.same_word-asker.ensures.same c.same_word-asker.ensures.fits;
  });
  sound = c.ask-ask.ensures.sound;
}
