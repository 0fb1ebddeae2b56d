-- Drafts only grow, so what exceeds the limit at one moment exceeds it at the end.
use Rattle.std.proofs.Common.{◌≡◌, ℕ, ◌≤◌, ◌==◌, Bool, true, false, cond, List, [], ◌∷◌, ◌++◌, length, Result, Err, sym, ap, ◌∙◌, subst, arith, length-append}
use Rattle.std.specs.Result.{IsErrAnd}
use Rattle.std.proofs.lemmas.Result.{err_from_is_err_and}
use Rattle.net_plan.specs.declared.fault.PlanFault.{PlanFault}
use Rattle.net_plan.specs.declared.fault.PlanFault.TheVariants.{Memory, TooManySteps}
use Rattle.net_plan.specs.Drafts.{Drafts}
use Rattle.bool_tables.specs.declared.steps.Bin.{Bin}
use Rattle.bool_tables.specs.declared.steps.Step.{Step}
use Rattle.bool_tables.specs.declared.steps.Step.TheVariants.{Const, Pair, Drop}
use Rattle.net_plan.specs.Covers.{Draft, put, join, column, columns, cube, summed, row, rows, signed, both, left_alone, either, not_both}

join_grows : (first : ℕ) (op : Bin) (d : Draft) (t : ℕ) → length d.steps ≤ length (join first op d t).steps
join_grows first op d t = omega (arith, length-append (d.steps ++ Pair op d.at t ∷ []) (Drop d.at ∷ []), length-append d.steps (Pair op d.at t ∷ []))

-- either of two drafts has grown
pub cond_grows : (b : Bool) (d e f : Draft) → length d.steps ≤ length e.steps → length d.steps ≤ length f.steps → length d.steps ≤ length (cond b e f).steps
cond_grows true d e f h k = h
cond_grows false d e f h k = k

column_grows : (first : ℕ) (d : Draft) (cell t : ℕ) → length d.steps ≤ length (column first d cell t).steps
column_grows first d cell t = cond_grows (cell == 49) d _ _ (join_grows first both d t) (cond_grows (cell == 48) d _ _ (join_grows first left_alone d t) (omega arith))

columns_grow : (first : ℕ) (d : Draft) (cs ts : List ℕ) → length d.steps ≤ length (columns first d cs ts).steps
columns_grow first d [] ts = omega arith
columns_grow first d (c ∷ cs) [] = omega arith
columns_grow first d (c ∷ cs) (t ∷ ts) = omega (arith, column_grows first d c t, columns_grow first (column first d c t) cs ts)

summed_grows : (first : ℕ) (sum c : Draft) → length c.steps ≤ length (summed first sum c).steps
summed_grows first sum c =
    omega (arith, length-append ((c.steps ++ Pair either sum.at c.at ∷ []) ++ Drop sum.at ∷ []) (Drop c.at ∷ []), length-append (c.steps ++ Pair either sum.at c.at ∷ []) (Drop sum.at ∷ []), length-append c.steps (Pair either sum.at c.at ∷ []))

cube_grows : (first : ℕ) (steps : List Step) (cells ts : List ℕ) → length steps ≤ length (cube first steps cells ts).steps
cube_grows first steps cells ts = omega (arith, length-append steps (Const true ∷ []), columns_grow first (put first steps (Const true)) cells ts)

row_grows : (first : ℕ) (sum : Draft) (cells ts : List ℕ) → length sum.steps ≤ length (row first sum cells ts).steps
row_grows first sum cells ts = omega (arith, cube_grows first sum.steps cells ts, summed_grows first sum (cube first sum.steps cells ts))

pub rows_grow : (first : ℕ) (sum : Draft) (rs : List (List ℕ)) (ts : List ℕ) → length sum.steps ≤ length (rows first sum rs ts).steps
rows_grow first sum [] ts = omega arith
rows_grow first sum (r ∷ rs) ts = omega (arith, row_grows first sum r ts, rows_grow first (row first sum r ts) rs ts)

-- one column, before those that are left
pub columns_below : (first c t : ℕ) (d total : Draft) (cells signals cs ts : List ℕ) → cells ≡ c ∷ cs → signals ≡ t ∷ ts → columns first d cells signals ≡ total → length (column first d c t).steps ≤ length total.steps
columns_below first c t d total cells signals cs ts e f so_far =
    subst (λ (u : Draft). length (column first d c t).steps ≤ length u.steps) so_far (rw (e, f) (columns_grow first (column first d c t) cs ts))

-- the first step of a cube
pub cube_begins : (first : ℕ) (steps : List Step) (cells ts : List ℕ) → length (put first steps (Const true)).steps ≤ length (cube first steps cells ts).steps
cube_begins first steps cells ts = columns_grow first (put first steps (Const true)) cells ts

-- one row, before those that are left
pub rows_below : (first : ℕ) (r : List ℕ) (d total : Draft) (all rs : List (List ℕ)) (ts : List ℕ) → all ≡ r ∷ rs → rows first d all ts ≡ total → length (row first d r ts).steps ≤ length total.steps
rows_below first r d total all rs ts e so_far =
    subst (λ (u : Draft). length (row first d r ts).steps ≤ length u.steps) so_far (rw e (rows_grow first (row first d r ts) rs ts))

-- the sum, before its complement
pub signed_grows : (first : ℕ) (value : Bool) (sum : Draft) → length sum.steps ≤ length (signed first value sum).steps
signed_grows first true sum = omega arith
signed_grows first false sum = join_grows first not_both sum sum.at

-- a fault of a part is one of the whole
pub passes_on : (first : ℕ) (old mid new : List Step) (d e : Draft) (r : Result ℕ PlanFault) (f : PlanFault) → IsErrAnd r (λ y. y ≡ f) → Drafts first old mid d (Err f) → length d.steps ≤ length e.steps → Drafts first old new e r
passes_on first old mid new d e r Memory exits fails grows =
    let p = err_from_is_err_and r exits in
    rw (p.1, p.2) tt
passes_on first old mid new d e r TooManySteps exits fails grows =
    let p = err_from_is_err_and r exits in
    rw (p.1, p.2) (omega (arith, fails))
