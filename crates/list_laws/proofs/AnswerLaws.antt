-- what follows from what is said of an answer
use Rattle.std.specs.Prelude.{◌≡◌, Result, Ok, Err, OnOk, IfErr, IsErrAnd}
use Rattle.std.proofs.Common.{sym, subst}

-- what follows from two facts of a success
pub on_ok_both : {T E P Q R : Type 0} (result : Result T E) → (P → Q → R) → OnOk result P → OnOk result Q → OnOk result R
on_ok_both (Ok x) follows p q = follows p q
on_ok_both (Err e) follows p q = tt

-- what follows of the fault that a result has
pub on_fault : {A E : Type 0} (r : Result A E) (e : E) (P : E → Type 0) → IsErrAnd r (λ x. x ≡ e) → P e → IfErr r P
on_fault (Ok x) e P is p = tt
on_fault (Err x) e P is p = subst P (sym is) p
