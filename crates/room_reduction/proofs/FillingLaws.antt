-- How the room fills with the sources of a diagram.
use Rattle.std.proofs.Common.{◌≡◌, ◌≢◌, ◌⊎◌, ℕ, ◌+◌, ◌-◌, ◌<◌, Bool, true, false, not, List, ◌∷◌, refl, sym, ap, subst, ◌∙◌, inl, inr, arith}
use Rattle.std.proofs.lemmas.Bool.{cases_lt}
use Rattle.std.proofs.lemmas.Bool.Decides.{eqb_tells}
use Rattle.rec_words.specs.declared.rec.Rec.{Rec}
use Rattle.rec_words.specs.Words.{level_of}
use Rattle.canon_file.specs.Members.{Has}
use Rattle.run_files.specs.Items.{record_at}
use Rattle.arc_file.specs.declared.arc.Arc.{Arc}
use Rattle.arc_diagrams.specs.Arcs.{IsMet}
use Rattle.room_reduction.specs.Records.{word}
use Rattle.room_reduction.specs.Filling.{word_on, IsPut, AreMet}

-- two places are the same or not
cases_place : (k p : ℕ) → (k ≡ p) ⊎ (k ≢ p)
cases_place k p = elim (eqb_tells k p) [ inl same ↦ inl same.1 | inr other ↦ inr other.1 ]

-- two sides are the same or the opposite ones
cases_side : (b c : Bool) → (b ≡ c) ⊎ (b ≡ not c)
cases_side true true = inl refl
cases_side true false = inr refl
cases_side false true = inr refl
cases_side false false = inl refl

-- a source is greater than all before it, where it is greater than the last of them
above_all : (n root : ℕ) (all left : List Arc) (xs : List Rec) (count source j : ℕ) → AreMet n root all left xs count
    → (0 < count → word 0 (record_at xs (count - 1)) < source) → j < count → word 0 (record_at xs j) < source
above_all n root all left xs count source j met above below =
    let last : word 0 (record_at xs (count - 1)) < source = above (omega (arith, below)) in
    elim (cases_lt j (count - 1)) [
      | inl before ↦
          let less : word 0 (record_at xs j) < word 0 (record_at xs (count - 1)) =
          met.ascend j (count - 1) before (omega (arith, below)) in
          omega (arith, less, last)
      | inr behind ↦
          let same : count - 1 ≡ j = omega (arith, below, behind) in
          subst (λ k. word 0 (record_at xs k) < source) same last
    ]

-- a source more stands behind those that were met
module _ (n root : ℕ) (all left : List Arc) (xs ys : List Rec) (count source : ℕ)
    (at_last : word 0 (record_at ys count) ≡ source)
    (others : (k : ℕ) → k ≢ count → record_at ys k ≡ record_at xs k) where
  before_last : (k : ℕ) → k < count → record_at ys k ≡ record_at xs k
  before_last k below = others k (omega (arith, below))

  still_put : (a : Arc) → IsPut all xs count a → IsPut all ys (count + 1) a
  still_put a put =
      let same = before_last put.place put.within in
      record {
        place = put.place;
        within = omega (arith, put.within);
        source_is = ap (word 0) same ∙ put.source_is;
        one = put.one;
        has = put.has;
        same_source = put.same_source;
        same_side = put.same_side;
        target_is = ap (word_on a.high) same ∙ put.target_is;
      }

  pub one_more : level_of source < n → IsMet root all source
      → (0 < count → word 0 (record_at xs (count - 1)) < source)
      → AreMet n root all left xs count → AreMet n root all left ys (count + 1)
  one_more level met above old = record {
    ascend = λ j k before below. elim (cases_lt k count) [
      | inl earlier ↦
          let first : word 0 (record_at ys j) ≡ word 0 (record_at xs j) =
          ap (word 0) (before_last j (omega (arith, before, earlier))) in
          let second : word 0 (record_at ys k) ≡ word 0 (record_at xs k) =
          ap (word 0) (before_last k earlier) in
          let less = old.ascend j k before earlier in
          omega (arith, first, second, less)
      | inr last ↦
          let same : k ≡ count = omega (arith, below, last) in
          let early : j < count = omega (arith, before, same) in
          let first : word 0 (record_at ys j) ≡ word 0 (record_at xs j) =
          ap (word 0) (before_last j early) in
          let second : word 0 (record_at ys k) ≡ source =
          ap (λ p. word 0 (record_at ys p)) same ∙ at_last in
          let less = above_all n root all left xs count source j old above early in
          omega (arith, first, second, less)
    ];
    met = λ k below. elim (cases_lt k count) [
      | inl earlier ↦ subst (IsMet root all) (sym (ap (word 0) (before_last k earlier))) (old.met k earlier)
      | inr last ↦
          let same : k ≡ count = omega (arith, below, last) in
          subst (IsMet root all) (sym (ap (λ p. word 0 (record_at ys p)) same ∙ at_last)) met
    ];
    levels = λ k below. elim (cases_lt k count) [
      | inl earlier ↦
          subst (λ w. level_of w < n) (sym (ap (word 0) (before_last k earlier))) (old.levels k earlier)
      | inr last ↦
          let same : k ≡ count = omega (arith, below, last) in
          subst (λ w. level_of w < n) (sym (ap (λ p. word 0 (record_at ys p)) same ∙ at_last)) level
    ];
    known = old.known;
    each = λ a has. elim (old.each a has) [
      | inl waits ↦ inl waits
      | inr put ↦ inr (still_put a put)
    ];
  }

-- the target of an arc is put into the record of its source
module _ (all : List Arc) (xs ys : List Rec) (count p : ℕ) (arc : Arc)
    (below : p < count) (found : word 0 (record_at xs p) ≡ arc.source)
    (same_source : word 0 (record_at ys p) ≡ word 0 (record_at xs p))
    (target : word_on arc.high (record_at ys p) ≡ arc.target)
    (other : word_on (not arc.high) (record_at ys p) ≡ word_on (not arc.high) (record_at xs p))
    (others : (k : ℕ) → k ≢ p → record_at ys k ≡ record_at xs k) where
  -- the sources are what they were
  source_stays : (k : ℕ) → word 0 (record_at ys k) ≡ word 0 (record_at xs k)
  source_stays k = elim (cases_place k p) [
    | inl same ↦
        ap (λ q. word 0 (record_at ys q)) same ∙ same_source ∙ ap (λ q. word 0 (record_at xs q)) (sym same)
    | inr differs ↦ ap (word 0) (others k differs)
  ]

  -- this arc was put
  this_put : Has arc all → IsPut all ys count arc
  this_put has = record {
    place = p;
    within = below;
    source_is = source_stays p ∙ found;
    one = arc;
    has = has;
    same_source = refl;
    same_side = refl;
    target_is = target;
  }

  -- an arc that was put is put still: another target is that of an arc on its side too
  others_put : Has arc all → (a : Arc) → IsPut all xs count a → IsPut all ys count a
  others_put has a put = elim (cases_place put.place p) [
    | inr differs ↦ record {
      place = put.place;
      within = put.within;
      source_is = source_stays put.place ∙ put.source_is;
      one = put.one;
      has = put.has;
      same_source = put.same_source;
      same_side = put.same_side;
      target_is = ap (word_on a.high) (others put.place differs) ∙ put.target_is;
    }
    | inl same ↦ elim (cases_side a.high arc.high) [
      | inl side ↦ record {
        place = put.place;
        within = put.within;
        source_is = source_stays put.place ∙ put.source_is;
        one = arc;
        has = has;
        same_source = sym found ∙ ap (λ q. word 0 (record_at xs q)) (sym same) ∙ put.source_is;
        same_side = sym side;
        target_is =
            ap (λ q. word_on a.high (record_at ys q)) same ∙ ap (λ b. word_on b (record_at ys p)) side ∙ target;
      }
      | inr side ↦ record {
        place = put.place;
        within = put.within;
        source_is = source_stays put.place ∙ put.source_is;
        one = put.one;
        has = put.has;
        same_source = put.same_source;
        same_side = put.same_side;
        target_is =
            ap (λ q. word_on a.high (record_at ys q)) same ∙ ap (λ b. word_on b (record_at ys p)) side ∙ other
            ∙ ap (λ b. word_on b (record_at xs p)) (sym side)
            ∙ ap (λ q. word_on a.high (record_at xs q)) (sym same) ∙ put.target_is;
      }
    ]
  ]

  pub arc_put : (n root : ℕ) (left : List Arc) → AreMet n root all (arc ∷ left) xs count
      → AreMet n root all left ys count
  arc_put n root left old =
      let has : Has arc all = old.known arc (inl refl) in
      record {
        ascend = λ j k before last.
            let first = source_stays j in let second = source_stays k in let less = old.ascend j k before last in
            omega (arith, first, second, less);
        met = λ k last. subst (IsMet root all) (sym (source_stays k)) (old.met k last);
        levels = λ k last. subst (λ w. level_of w < n) (sym (source_stays k)) (old.levels k last);
        known = λ a waits. old.known a (inr waits);
        each = λ a there. elim (old.each a there) [
          | inl waits ↦ elim waits [
            | inl same ↦ inr (subst (IsPut all ys count) same (this_put has))
            | inr behind ↦ inl behind
          ]
          | inr put ↦ inr (others_put has a put)
        ];
      }
