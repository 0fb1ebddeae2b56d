-- How the sources of a level's rows are named, one after the other.
use Rattle.std.specs.Prelude.{◌≡◌, ◌≢◌, ℕ, ◌+◌, ◌-◌, ◌<◌, ◌≤◌, List, [], ◌∷◌, length, take, drop}
use Rattle.std.proofs.Common.{◌∙◌, refl, sym, ap, subst, inl, inr, arith}
use Rattle.std.proofs.lemmas.Bool.{cases_eq}
use Rattle.std.proofs.lemmas.List.{drop-drop, take_more}
use Rattle.rec_words.specs.declared.rec.Rec.{Rec}
use Rattle.list_laws.specs.Members.{Has}
use Rattle.list_laws.proofs.MemberLaws.{has_append}
use Rattle.run_files.specs.Items.{record_at}
use Rattle.room_reduction.specs.Records.{word}
use Rattle.room_reduction.specs.Levels.{KeepsSources, IsKnown, Names}

-- lists that are the same from a place on are so from a later one on
pub same_later : (xs ys : List Rec) (a b : ℕ) → a ≤ b → drop a xs ≡ drop a ys → drop b xs ≡ drop b ys
same_later xs ys a b order same =
    let there : a + (b - a) ≡ b = omega (arith, order) in
    ap (λ k. drop k xs) (sym there) ∙ sym (drop-drop (b - a) a xs) ∙ ap (drop (b - a)) same ∙ drop-drop (b - a) a ys
    ∙ ap (λ k. drop k ys) there

-- at first none is named
pub none_named : (f : ℕ → ℕ) (sources : List Rec) → Names f [] sources sources
none_named f sources = record { keeps = λ k known. known; own = λ r m. absurd m }

pub sources_same : (sources : List Rec) → KeepsSources sources sources
sources_same sources = record { many = refl; source = λ k. refl; low = λ k. refl; high = λ k. refl }

pub sources_on : (old mid new : List Rec) → KeepsSources old mid → KeepsSources mid new → KeepsSources old new
sources_on old mid new one two = record {
  many = two.many ∙ one.many;
  source = λ k. two.source k ∙ one.source k;
  low = λ k. two.low k ∙ one.low k;
  high = λ k. two.high k ∙ one.high k;
}

-- the last column of one record changes alone
pub other_column : (place : ℕ) (old new : List Rec) → length new ≡ length old
    → ((c : ℕ) → c ≢ 3 → word c (record_at new place) ≡ word c (record_at old place))
    → ((k : ℕ) → k ≢ place → record_at new k ≡ record_at old k) → KeepsSources old new
other_column place old new many columns others = record {
  many = many;
  source = same 0 (λ e. absurd (omega (arith, e)));
  low = same 1 (λ e. absurd (omega (arith, e)));
  high = same 2 (λ e. absurd (omega (arith, e)));
}
  where
    same : (c : ℕ) → c ≢ 3 → (k : ℕ) → word c (record_at new k) ≡ word c (record_at old k)
    same c other k = elim (cases_eq k place) [
      | inl e ↦ subst (λ p. word c (record_at new p) ≡ word c (record_at old p)) (sym e) (columns c other)
      | inr e ↦ ap (word c) (others k e)
    ]

-- one more is named
pub one_named : (f : ℕ → ℕ) (first : List Rec) (place name : ℕ) (r : Rec) (old mid new : List Rec)
    → place < length first → r ≡ record_at first place → KeepsSources old mid → KeepsSources mid new
    → word 3 (record_at new (word 2 r)) ≡ name
    → ((k : ℕ) → k ≢ word 2 r → word 3 (record_at new k) ≡ word 3 (record_at mid k))
    → name ≡ f (word 0 (record_at old (word 2 r))) → Names f (take place first) old mid
    → Names f (take (place + 1) first) old new
one_named f first place name r old mid new below is one two named others right names = record {
  keeps = λ k known. kept k (names.keeps k known);
  own = λ x m.
      elim (has_append x (take place first) (record_at first place ∷ [])
      (subst (Has x) (take_more first place (record { w = [] }) below) m)) [
        | inl before ↦ kept (word 2 x) (names.own x before)
        | inr (inl e) ↦ subst (λ y. IsKnown f new (word 2 y)) (is ∙ e) here
        | inr (inr none) ↦ absurd none
      ];
}
  where
    here : IsKnown f new (word 2 r)
    here = named ∙ right ∙ sym (ap f (two.source (word 2 r) ∙ one.source (word 2 r)))

    kept : (k : ℕ) → IsKnown f mid k → IsKnown f new k
    kept k known = elim (cases_eq k (word 2 r)) [
      | inl e ↦ subst (IsKnown f new) (sym e) here
      | inr e ↦ others k e ∙ known ∙ sym (ap f (two.source k))
    ]
