use Rattle.std.specs.Prelude.{◌≡◌, length}
use Rattle.std.proofs.Common.{refl, ap, rules}
use Rattle.std.proofs.lemmas.Option.{MatchOption-at_some}
use Rattle.saved_words.specs.Places.{most_words}
use Rattle.saved_words.proofs.Written.{stands, got}
use Rattle.saved_words.proofs.laws.what_is_put_is_got.Goals as goal

pub returns-clause-same : goal.returns-clause-same
returns-clause-same g c =
    let all : length c.args.words.now.w ≡ most_words = search rules in
    got g.A.Carried.words g.A.Carried.is_value g.met.A.Carried.differ c.args.x _ c.put.ensures.value
    (stands (g.A.Carried.words c.args.x) c.args.words.now g.A.Carried.count all c.requires.room
    (g.met.A.Carried.long c.args.x c.put.ensures.value) _
    (ap (λ o. o.w) c.put.ensures.words) refl)
    c.get.result c.get.ensures.found c.get.ensures.value c.get.ensures.none

pub returns-clause-place : goal.returns-clause-place
returns-clause-place g c =
    let same = returns-clause-same g c in
    ap (λ o. o.at) (MatchOption-at_some _ _ c.args.x same c.get.ensures.moves)
