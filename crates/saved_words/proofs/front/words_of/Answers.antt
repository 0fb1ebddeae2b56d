use Rattle.std.specs.Prelude.{length, drop}
use Rattle.std.proofs.Common.{ℕ, sym, ap, ◌∙◌, arith}
use Rattle.std.proofs.lemmas.List.{length-replicate}
use Rattle.saved_words.specs.Places.{most_words}
use Rattle.saved_words.proofs.Written.{stands, zeros_behind}
use Rattle.saved_words.proofs.front.words_of.Goals as goal

pub returns-clause-front : goal.returns-clause-front
returns-clause-front g c =
    let first = c.blank-words.ensures.at in
    let room = c.requires.room in
    record {
      value = c.put.ensures.value;
      words_are = stands (g.A.Carried.words c.args.x) c.blank-words.result g.A.Carried.count
          (ap length c.blank-words.ensures.w ∙ length-replicate {A = ℕ} most_words 0) (omega (arith, first, room))
          (g.met.A.Carried.long c.args.x c.put.ensures.value) (record { w = c.put.new.into.w; at = 0 })
          (ap (λ o. o.w) c.put.ensures.words) (sym first);
    }

pub returns-clause-zeros : goal.returns-clause-zeros
returns-clause-zeros g c =
    ap (λ o. drop g.A.Carried.count o.w) c.put.ensures.words
    ∙ zeros_behind (g.A.Carried.words c.args.x) c.blank-words.result g.A.Carried.count c.blank-words.ensures.w
    c.blank-words.ensures.at c.requires.room (g.met.A.Carried.long c.args.x c.put.ensures.value)
