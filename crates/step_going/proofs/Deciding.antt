-- What is so, or isn't.
use Rattle.std.proofs.Common.{◌≡◌, ◌≢◌, ◌⊎◌, ℕ, ◌≤◌, List, length, refl, ap, inl, inr, arith}
use Rattle.std.specs.Str.{bytes_eq}
use Rattle.std.proofs.lemmas.Bool.{cases_Bool, cases_eq, cases_lt}
use Rattle.std.proofs.lemmas.Bool.Decides.{not_from_Decides}
use Rattle.std.proofs.lemmas.Slice.Eq.{bytes_eq-Decides}
use Rattle.shelf_model.specs.File.{File, firm_file}
use Rattle.shelf_model.proofs.Files.{same_file}
use Rattle.run_tiers.specs.Syncs.{IsFirm}

-- what is so or isn't, and is so both where A is and where A isn't, is so, though A may not be decided
pub either_way : (A X : Type 0) → X ⊎ (¬ X) → (A → X) → ((¬ A) → X) → X
either_way A X (inl is) so other = is
either_way A X (inr never) so other = absurd (never (other (λ a. never (so a))))

-- two rows of bytes are the same, or they differ
pub cases_bytes : (xs ys : List ℕ) → (xs ≡ ys) ⊎ (xs ≢ ys)
cases_bytes xs ys = elim (cases_Bool (bytes_eq xs ys)) [
  | inl same ↦ inl ((bytes_eq-Decides xs ys).0 same)
  | inr differ ↦ inr (not_from_Decides (bytes_eq xs ys) (bytes_eq-Decides xs ys) differ)
]

-- all of a file is sure, or not
pub cases_firm : (x : File) → IsFirm x ⊎ (¬ (IsFirm x))
cases_firm x = elim (cases_eq x.firm (length x.bytes)) [
  | inl firm ↦ elim (cases_eq x.reach (length x.bytes)) [
    | inl reach ↦ inl (same_file x (firm_file x.bytes) refl firm reach)
    | inr differ ↦ inr (λ is. differ (ap (λ (y : File). y.reach) is))
  ]
  | inr differ ↦ inr (λ is. differ (ap (λ (y : File). y.firm) is))
]

-- all of it or a front of it is, or neither
pub cases_sure : (x : File) (n : ℕ) → (IsFirm x ⊎ (n ≤ x.firm)) ⊎ (¬ (IsFirm x ⊎ (n ≤ x.firm)))
cases_sure x n = elim (cases_firm x) [
  | inl firm ↦ inl (inl firm)
  | inr loose ↦ elim (cases_lt x.firm n) [
    | inl beyond ↦ inr (λ sure. elim sure [ inl firm ↦ loose firm | inr few ↦ absurd (omega (arith, few, beyond)) ])
    | inr few ↦ inl (inr few)
  ]
]
