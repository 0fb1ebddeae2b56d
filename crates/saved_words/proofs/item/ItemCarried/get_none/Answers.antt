use Rattle.std.specs.Prelude.{◌≡◌, ◌≤◌, IsTrue, ◌↔◌, replicate}
use Rattle.std.proofs.Common.{subst, sym}
use Rattle.std.proofs.lemmas.Bool.Decides.{Decides-eqb}
use Rattle.std.proofs.lemmas.Slice.Eq.{slice_eq-Decides}
use Rattle.saved_words.specs.Places.{next_words}
use Rattle.saved_words.proofs.Gathered.{zeros_told}
use Rattle.saved_words.proofs.item.ItemCarried.get_none.Goals as goal

pub returns-in-Some-clause-zeros : goal.returns-in-Some-clause-zeros
returns-in-Some-clause-zeros g c =
    let few : c.WORDS.result ≤ 8 = subst (λ n. n ≤ 8) (sym c.WORDS.ensures) g.met.T.Spill.few.1 in
    let tells = slice_eq-Decides Decides-eqb c.in-Some.rec.w (replicate 8 0) c.eq.result c.eq.ensures in
    subst (λ n. IsTrue c.eq.result ↔ (next_words n c.args.from.now ≡ replicate n 0)) c.WORDS.ensures
    (zeros_told c.eq.result c.in-Some.rec.w _ c.WORDS.result few c.in-Some.ensures.long c.in-Some.ensures.found tells)
