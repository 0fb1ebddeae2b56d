-- Plans of signals.
use Rattle.std.proofs.Common.{◌≡◌, ℕ, ◌<◌, ◌≤◌, Bool, false, List, [], ◌∷◌, length, get_or, map, Result, Err, subst, arith, length-append, nat_lt}
use Rattle.std.specs.Result.{IsErrAnd}
use Rattle.std.proofs.lemmas.Result.{err_from_is_err_and}
use Rattle.net_plan.specs.declared.fault.PlanFault.{PlanFault}
use Rattle.net_plan.specs.declared.fault.PlanFault.TheVariants.{Memory, TooManySteps}
use Rattle.net_plan.specs.Drafts.{Drafts, Plans}
use Rattle.depth_first.specs.Graph.{edges_of}
use Rattle.blif_reader.specs.Netlist.{Net, IsNet, cover_at}
use Rattle.bool_tables.specs.declared.steps.Step.{Step}
use Rattle.bool_tables.specs.declared.steps.Step.TheVariants.{Const, Var}
use Rattle.net_plan.specs.Covers.{Draft, put, rows, block}
use Rattle.net_plan.specs.Plan.{Planning, signal_draft, with_signal, make_signals}
use Rattle.net_plan.proofs.Growth.{rows_grow, signed_grows, cond_grows}

-- what a block reads is a signal
pub reads_inside : (net : Net) (s i : ℕ) → IsNet net → s < length net.names → i < length (edges_of net.edges s) → get_or (edges_of net.edges s) i 0 < length net.names
reads_inside net s i sound inside less =
    let e : length net.edges ≡ length net.names = sound.tables.signals in
    let h : get_or (edges_of net.edges s) i 0 < length net.edges = sound.tables.graph s i (omega arith) less in
    omega arith

block_grows : (first : ℕ) (steps : List Step) (value : Bool) (rs : List (List ℕ)) (ts : List ℕ) → length steps ≤ length (block first steps value rs ts).steps
block_grows first steps value rs ts =
    omega (arith, length-append steps (Const false ∷ []), rows_grow first (put first steps (Const false)) rs ts, signed_grows first value (rows first (put first steps (Const false)) rs ts))

signal_grows : (net : Net) (levels : List ℕ) (first : ℕ) (p : Planning) (s : ℕ) → length p.steps ≤ length (signal_draft net levels first p s).steps
signal_grows net levels first p s =
    cond_grows (nat_lt s net.inputs) (record { steps = p.steps; at = 0 }) _ _ (omega (arith, length-append p.steps (Var (get_or levels s 0) ∷ []))) (block_grows first p.steps (cover_at net s).value (cover_at net s).rows (map (λ t. get_or p.made t 0) (edges_of net.edges s)))

make_grows : (net : Net) (levels : List ℕ) (first : ℕ) (p : Planning) (ss : List ℕ) → length p.steps ≤ length (make_signals net levels first p ss).steps
make_grows net levels first p [] = omega arith
make_grows net levels first p (s ∷ ss) = omega (arith, signal_grows net levels first p s, make_grows net levels first (with_signal p s (signal_draft net levels first p s)) ss)

-- one signal, before those that are left
pub makes_below : (net : Net) (levels : List ℕ) (first s : ℕ) (p total : Planning) (all ss : List ℕ) → all ≡ s ∷ ss → make_signals net levels first p all ≡ total → length (signal_draft net levels first p s).steps ≤ length total.steps
makes_below net levels first s p total all ss e so_far =
    subst (λ (q : Planning). length (signal_draft net levels first p s).steps ≤ length q.steps) so_far (rw e (make_grows net levels first (with_signal p s (signal_draft net levels first p s)) ss))

-- a fault of one signal is one of the plan
pub passes_plan : (first : ℕ) (old mid new : List Step) (d : Draft) (total : List Step) (r : Result (Unit {0}) PlanFault) (f : PlanFault) → IsErrAnd r (λ y. y ≡ f) → Drafts first old mid d (Err f) → length d.steps ≤ length total → Plans first new total r
passes_plan first old mid new d total r Memory exits fails grows =
    let p = err_from_is_err_and r exits in
    rw (p.1, p.2) tt
passes_plan first old mid new d total r TooManySteps exits fails grows =
    let p = err_from_is_err_and r exits in
    rw (p.1, p.2) (omega (arith, fails))
