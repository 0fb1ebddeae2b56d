-- The steps of a well-formed plan, each by itself.
use Rattle.std.proofs.Common.{ℕ, zero, suc, ◌<◌, ◌&&◌, nat_lt, List, [], ◌∷◌, ◌++◌, length, take, get_or, refl, sym, subst, arith, append_assoc}
use Rattle.std.specs.Prelude.{IsTrue}
use Rattle.std.specs.List.{list_all}
use Rattle.std.proofs.lemmas.Bool.{and_parts, and_from, lt-ltb}
use Rattle.std.proofs.lemmas.List.{append-nil}
use Rattle.bool_tables.specs.declared.steps.Planned.{Planned}
use Rattle.bool_tables.specs.Plans.{IsWellFormed, all_may_follow, may_follow, is_live, operands, levels_of, has_bits, has_name}
use Rattle.sound_image.proofs.Live.{live_below}
use Rattle.step_engine.specs.Simple.{MayRun}

-- each step may follow those before it
follows_behind : (n : ℕ) (text : List ℕ) (before steps : List Planned) (k : ℕ) (d : Planned) → k < length steps → IsTrue (all_may_follow n text before steps)
    → IsTrue (may_follow n text (before ++ take k steps) (get_or steps k d))
follows_behind n text before [] k d within follow = absurd (omega arith)
follows_behind n text before (s ∷ steps) zero d within follow =
    subst (λ xs. IsTrue (may_follow n text xs s)) (sym (append-nil before)) (and_parts (may_follow n text before s) (all_may_follow n text (before ++ s ∷ []) steps) follow).0
follows_behind n text before (s ∷ steps) (suc k) d within follow =
    let less : k < length steps = omega arith in
    subst (λ xs. IsTrue (may_follow n text xs (get_or steps k d))) (append_assoc before (s ∷ []) (take k steps))
    (follows_behind n text (before ++ s ∷ []) steps k d less (and_parts (may_follow n text before s) (all_may_follow n text (before ++ s ∷ []) steps) follow).1)

pub follows_at : (n : ℕ) (text : List ℕ) (steps : List Planned) (k : ℕ) (d : Planned) → k < length steps → IsWellFormed n text steps
    → IsTrue (may_follow n text (take k steps) (get_or steps k d))
follows_at n text steps k d within plan = follows_behind n text [] steps k d within plan.in_order

-- the parts of what a step needs to follow others
pub operands_live : (n : ℕ) (text : List ℕ) (before : List Planned) (p : Planned) → IsTrue (may_follow n text before p) → IsTrue (list_all (is_live before) (operands p.step))
operands_live n text before p follows =
    (and_parts (list_all (is_live before) (operands p.step)) (list_all (λ level. nat_lt level n) (levels_of p.step))
    (and_parts (list_all (is_live before) (operands p.step) && list_all (λ level. nat_lt level n) (levels_of p.step)) (has_bits n text p.step && has_name text p) follows).0).0

pub levels_below : (n : ℕ) (text : List ℕ) (before : List Planned) (p : Planned) → IsTrue (may_follow n text before p) → IsTrue (list_all (λ level. nat_lt level n) (levels_of p.step))
levels_below n text before p follows =
    (and_parts (list_all (is_live before) (operands p.step)) (list_all (λ level. nat_lt level n) (levels_of p.step))
    (and_parts (list_all (is_live before) (operands p.step) && list_all (λ level. nat_lt level n) (levels_of p.step)) (has_bits n text p.step && has_name text p) follows).0).1

pub name_stands : (n : ℕ) (text : List ℕ) (before : List Planned) (p : Planned) → IsTrue (may_follow n text before p) → IsTrue (has_name text p)
name_stands n text before p follows =
    (and_parts (has_bits n text p.step) (has_name text p)
    (and_parts (list_all (is_live before) (operands p.step) && list_all (λ level. nat_lt level n) (levels_of p.step)) (has_bits n text p.step && has_name text p) follows).1).1

pub bits_stand : (n : ℕ) (text : List ℕ) (before : List Planned) (p : Planned) → IsTrue (may_follow n text before p) → IsTrue (has_bits n text p.step)
bits_stand n text before p follows =
    (and_parts (has_bits n text p.step) (has_name text p)
    (and_parts (list_all (is_live before) (operands p.step) && list_all (λ level. nat_lt level n) (levels_of p.step)) (has_bits n text p.step && has_name text p) follows).1).0

-- live diagrams are earlier steps
live_earlier : (steps : List Planned) (k : ℕ) (xs : List ℕ) → IsTrue (list_all (is_live (take k steps)) xs) → IsTrue (list_all (λ x. nat_lt x k) xs)
live_earlier steps k [] live = refl
live_earlier steps k (x ∷ xs) live =
    and_from (nat_lt x k) (list_all (λ y. nat_lt y k) xs)
    (lt-ltb x k (live_below steps k x (and_parts (is_live (take k steps) x) (list_all (is_live (take k steps)) xs) live).0))
    (live_earlier steps k xs (and_parts (is_live (take k steps) x) (list_all (is_live (take k steps)) xs) live).1)

-- a step of a well-formed plan may be run
pub may_run : (n : ℕ) (text : List ℕ) (steps : List Planned) (k : ℕ) (d : Planned) → k < length steps → IsWellFormed n text steps → MayRun n text k (get_or steps k d)
may_run n text steps k d within plan =
    let follows : IsTrue (may_follow n text (take k steps) (get_or steps k d)) = follows_at n text steps k d within plan in
    record {
      few_variables = plan.few_variables;
      few_steps = let few = plan.few_steps in omega (arith, few, within);
      operands_are = live_earlier steps k (operands (get_or steps k d).step) (operands_live n text (take k steps) (get_or steps k d) follows);
      levels_are = levels_below n text (take k steps) (get_or steps k d) follows;
      bits_are = bits_stand n text (take k steps) (get_or steps k d) follows;
      named = name_stands n text (take k steps) (get_or steps k d) follows;
    }
