use Rattle.std.proofs.Common.{◌-◌, ◌<◌, ◌∷◌, ◌∙◌, ℕ, List, length, get_or, ap, ap₂, sym, take, drop, arith}
use Rattle.blif_reader.proofs.WordEnds.{length-words_between, word_between}
use Rattle.blif_reader.proofs.names.Names.at.Goals as goal

pub bounds-start-requires : goal.bounds-start-requires
bounds-start-requires c = omega (arith, c.requires, length-words_between 0 c.args.self.now.ends.items c.args.self.now.bytes.items)

pub returns : goal.returns
returns c =
    let ends : List ℕ = c.args.self.now.ends.items in
    let inside : c.args.place < length ends = omega (arith, c.requires, length-words_between 0 ends c.args.self.now.bytes.items) in
    let start : ℕ = get_or (0 ∷ ends) c.args.place 0 in
    ap₂ (λ (a b : ℕ). take (b - a) (drop a c.deref.result.now)) c.bounds-start.ensures.start c.bounds-start.ensures.end
    ∙ ap (λ bs. take (get_or ends c.args.place 0 - start) (drop start bs)) c.deref.ensures.value
    ∙ sym (word_between 0 ends c.args.self.now.bytes.items c.args.place inside)
