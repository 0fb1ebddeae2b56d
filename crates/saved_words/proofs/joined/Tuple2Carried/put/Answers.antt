use Rattle.std.proofs.Common.{ap, ◌∙◌, sym}
use Rattle.saved_words.specs.Places.{put_in}
use Rattle.saved_words.proofs.Placing.{put_in-append}
use Rattle.saved_words.proofs.joined.Tuple2Carried.put.Goals as goal

pub returns-clause-words : goal.returns-clause-words
returns-clause-words g c =
    let xs = g.A.Carried.words c.args.self.now.0 in
    let ys = g.B.Carried.words c.args.self.now.1 in
    c.put-2.ensures.words ∙ ap (put_in ys) c.put.ensures.words ∙ sym (put_in-append xs ys c.args.into.now)
