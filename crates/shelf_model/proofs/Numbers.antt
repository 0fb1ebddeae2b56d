-- The numbers of files: their order, and that two of them are equal or not.
use Rattle.std.proofs.Common.{◌≡◌, ◌≢◌, ◌⊎◌, false, true, refl, sym, ap, ◌∙◌, inl, inr}
use Rattle.std.specs.Ordering.{nat_cmp, ordering_then, is_eq}
use Rattle.std.specs.declared.cmp.Ordering.{Ordering}
use Rattle.std.specs.declared.cmp.Ordering.TheVariants.{Less, Equal, Greater}
use Rattle.std.specs.Cmp.{IsTotalOrder, eq_by_cmp_equiv}
use Rattle.std.specs.FinMap.{IsAntisymmetric, nat_cmp-IsAntisymmetric}
use Rattle.std.proofs.lemmas.Cmp.{then_total, on_total, nat_cmp_total}
use Rattle.shelf_model.specs.declared.file_no.FileNo.{FileNo}
use Rattle.shelf_model.specs.Folder.{file_cmp}

pub file_cmp_total : IsTotalOrder file_cmp
file_cmp_total = then_total (on_total (λ (f : FileNo). f.step) nat_cmp_total) (on_total (λ (f : FileNo). f.part) nat_cmp_total)

-- where two orderings one after the other answer Equal, each does
both_equal : (a b : Ordering) → ordering_then a b ≡ Equal → (a ≡ Equal) × (b ≡ Equal)
both_equal Less b e = cc
both_equal Equal b e = (refl, e)
both_equal Greater b e = cc

-- numbers that compare alike are one
pub file_cmp_same : IsAntisymmetric file_cmp
file_cmp_same a b e =
    let both : (nat_cmp a.step b.step ≡ Equal) × (nat_cmp a.part b.part ≡ Equal) = both_equal (nat_cmp a.step b.step) (nat_cmp a.part b.part) e in
    let steps : a.step ≡ b.step = nat_cmp-IsAntisymmetric a.step b.step both.0 in
    let parts : a.part ≡ b.part = nat_cmp-IsAntisymmetric a.part b.part both.1 in
    λ i. record { step = steps i; part = parts i }

-- a number ties with itself
pub tied : (f : FileNo) → is_eq (file_cmp f f) ≡ true
tied f = (eq_by_cmp_equiv file_cmp_total).refl f

not_equal : (o : Ordering) → (o ≢ Equal) → is_eq o ≡ false
not_equal Less apart = refl
not_equal Equal apart = absurd (apart refl)
not_equal Greater apart = refl

-- different numbers don't tie
pub apart : (f q : FileNo) → q ≢ f → is_eq (file_cmp q f) ≡ false
apart f q differ = not_equal (file_cmp q f) (λ e. differ (file_cmp_same q f e))

is_equal : (o : Ordering) → is_eq o ≡ true → o ≡ Equal
is_equal Less tie = cc
is_equal Equal tie = refl
is_equal Greater tie = cc

-- numbers that tie are one
pub from_tie : (a b : FileNo) → is_eq (file_cmp a b) ≡ true → a ≡ b
from_tie a b tie = file_cmp_same a b (is_equal (file_cmp a b) tie)

-- two numbers are one, or they differ
pub cases_file : (f g : FileNo) → (f ≡ g) ⊎ (f ≢ g)
cases_file f g =
    elim (file_cmp f g) as (λ o. file_cmp f g ≡ o → (f ≡ g) ⊎ (f ≢ g)) [
      | Less ↦ λ e. inr (λ same. let tie : is_eq (file_cmp f g) ≡ true = ap (λ q. is_eq (file_cmp f q)) (sym same) ∙ tied f in cc)
      | Equal ↦ λ e. inl (file_cmp_same f g e)
      | Greater ↦ λ e. inr (λ same. let tie : is_eq (file_cmp f g) ≡ true = ap (λ q. is_eq (file_cmp f q)) (sym same) ∙ tied f in cc)
    ] refl

-- files of different parts differ
pub other_part : (f g : FileNo) → f.part ≢ g.part → f ≢ g
other_part f g parts same = parts (ap (λ (q : FileNo). q.part) same)

-- files of different steps differ
pub other_step : (f g : FileNo) → f.step ≢ g.step → f ≢ g
other_step f g steps same = steps (ap (λ (q : FileNo). q.step) same)
