-- The texts after a write to one of them.
use Rattle.std.proofs.Common.{◌≡◌, ◌≢◌, ◌⊎◌, ℕ, ◌≤◌, true, cond, List, refl, sym, ap, subst, ◌∙◌, inl, inr, arith}
use Rattle.std.specs.Prelude.{Option, String, string_bytes}
use Rattle.std.specs.Global.{Global}
use Rattle.std.specs.Option.{option_map_or}
use Rattle.std.specs.Ordering.{nat_cmp}
use Rattle.std.specs.Cmp.Lexicographic.{slice_cmp}
use Rattle.std.specs.Str.{bytes_eq}
use Rattle.std.specs.String.{string_cmp}
use Rattle.std.specs.BTreeMap.{BTreeMap, UpdatesBy, get_by_text}
use Rattle.std.proofs.lemmas.Bool.{cases_Bool}
use Rattle.std.proofs.lemmas.Slice.Eq.{bytes_eq-Decides}
use Rattle.std.proofs.lemmas.Map.Text.{btree_map_updates_text}
use Rattle.shelf_memory.specs.declared.texts.Text.{Text}
use Rattle.shelf_memory.specs.Texts.{count_at}

-- a write at one path leaves what is found at the others
pub apart_at : (m n : BTreeMap (String Global) Text) (bs : List ℕ) (w : Option Text) → UpdatesBy string_cmp (λ k. slice_cmp nat_cmp bs (string_bytes k)) m n w
    → (q : List ℕ) → q ≢ bs → get_by_text n q ≡ get_by_text m q
apart_at m n bs w updates q differ = elim (cases_Bool (bytes_eq bs q)) [
  | inl same ↦ absurd (differ (sym ((bytes_eq-Decides bs q).0 same)))
  | inr other ↦ btree_map_updates_text bs m n w updates q ∙ ap (λ b. cond b w (get_by_text m q)) other
]

pub written_at : (m n : BTreeMap (String Global) Text) (bs : List ℕ) (w : Option Text) → UpdatesBy string_cmp (λ k. slice_cmp nat_cmp bs (string_bytes k)) m n w
    → get_by_text n bs ≡ w
written_at m n bs w updates = btree_map_updates_text bs m n w updates bs ∙ ap (λ b. cond b w (get_by_text m bs)) ((bytes_eq-Decides bs bs).1 refl)

-- two paths are one, or they differ
pub cases_path : (bs q : List ℕ) → (q ≡ bs) ⊎ (q ≢ bs)
cases_path bs q = elim (cases_Bool (bytes_eq bs q)) [
  | inl same ↦ inl (sym ((bytes_eq-Decides bs q).0 same))
  | inr other ↦ inr (λ same. let tie : bytes_eq bs q ≡ true = (bytes_eq-Decides bs q).1 (sym same) in cc)
]

-- what a write leaves of a text stays at every path
pub same_at : {X : Type 0} (g : Option Text → X) (m n : BTreeMap (String Global) Text) (bs : List ℕ) (before w : Option Text)
    → UpdatesBy string_cmp (λ k. slice_cmp nat_cmp bs (string_bytes k)) m n w → get_by_text m bs ≡ before → g w ≡ g before
    → (q : List ℕ) → g (get_by_text n q) ≡ g (get_by_text m q)
same_at g m n bs before w updates was same q = elim (cases_path bs q) [
  | inl here ↦ subst (λ p. g (get_by_text n p) ≡ g (get_by_text m p)) (sym here) (ap g (written_at m n bs w updates) ∙ same ∙ ap g (sym was))
  | inr differ ↦ ap g (apart_at m n bs w updates q differ)
]

-- no count falls where that of one path rose
pub later_at : (others : ℕ) (m n : BTreeMap (String Global) Text) (bs : List ℕ) (before w : Option Text)
    → UpdatesBy string_cmp (λ k. slice_cmp nat_cmp bs (string_bytes k)) m n w → get_by_text m bs ≡ before
    → option_map_or (λ (t : Text). t.faults) before others ≤ option_map_or (λ (t : Text). t.faults) w others
    → (q : List ℕ) → count_at others m q ≤ count_at others n q
later_at others m n bs before w updates was rose q =
    let g : Option Text → ℕ = λ o. option_map_or (λ (t : Text). t.faults) o others in
    elim (cases_path bs q) [
      | inl here ↦ subst (λ p. g (get_by_text m p) ≤ g (get_by_text n p)) (sym here)
          (let old : g (get_by_text m bs) ≡ g before = ap g was in let new : g (get_by_text n bs) ≡ g w = ap g (written_at m n bs w updates) in omega (arith, rose, old, new))
      | inr differ ↦ let same : g (get_by_text n q) ≡ g (get_by_text m q) = ap g (apart_at m n bs w updates q differ) in omega (arith, same)
    ]
