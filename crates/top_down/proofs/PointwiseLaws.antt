-- rules whose table has at each place a value of the three tables' values there
use Rattle.std.specs.Prelude.{◌≡◌, ◌+◌, ◌^◌, ◌<◌, ℕ, suc, Bool, true, false, cond, List, ◌++◌, replicate}
use Rattle.std.proofs.Common.{sym, ◌∙◌, arith}
use Rattle.std.proofs.lemmas.List.{get_or-replicate, get_or-take, get_or-drop}
use Rattle.bool_tables.specs.Tables.{low_half, high_half, value_at}
use Rattle.bool_tables.proofs.Halves.{table_with_one, table_with_same, low_half-table_with, high_half-table_with}
use Rattle.canon_file.specs.Walks.{table_of}
use Rattle.canon_file.proofs.PieceLaws.{joined}
use Rattle.arc_diagrams.specs.Arcs.{onward}
use Rattle.arc_diagrams.proofs.LevelReduction.{low-met, high-met}
use Rattle.top_down.specs.declared.tuple.Tuple.{Tuple}
use Rattle.top_down.specs.Tuples.{Targets, level_of_tuple, parts, joined_by, AreFrom, AreDeepening}
use Rattle.top_down.proofs.TupleLaws.{from_onward, from_later, onward-past}

-- at each place the two are the same
pub joined_same : (f g : Bool → Bool → Bool → Bool) (h : ℕ) (t u v t' u' v' : List Bool)
    → ((p : ℕ) → p < 2 ^ h → f (value_at t p) (value_at u p) (value_at v p) ≡ g (value_at t' p) (value_at u' p) (value_at v' p))
    → joined_by f h t u v ≡ joined_by g h t' u' v'
joined_same f g h t u v t' u' v' same =
    table_with_same h (λ p. f (value_at t p) (value_at u p) (value_at v p)) (λ p. g (value_at t' p) (value_at u' p) (value_at v' p)) same

pub joined_one : (f : Bool → Bool → Bool → Bool) (h : ℕ) (t u v : List Bool) (value : Bool)
    → ((p : ℕ) → p < 2 ^ h → f (value_at t p) (value_at u p) (value_at v p) ≡ value) → joined_by f h t u v ≡ replicate (2 ^ h) value
joined_one f h t u v value same = table_with_one h (λ p. f (value_at t p) (value_at u p) (value_at v p)) value same

pub constant_at : (h p : ℕ) (value : Bool) → p < 2 ^ h → value_at (replicate (2 ^ h) value) p ≡ value
constant_at h p value below = get_or-replicate (2 ^ h) p value false below

-- it works on each half alone
pub low-joined : (f : Bool → Bool → Bool → Bool) (h : ℕ) (t u v : List Bool)
    → low_half h (joined_by f (suc h) t u v) ≡ joined_by f h (low_half h t) (low_half h u) (low_half h v)
low-joined f h t u v =
    low_half-table_with h (λ p. f (value_at t p) (value_at u p) (value_at v p))
    ∙ joined_same f f h t u v (low_half h t) (low_half h u) (low_half h v)
    (λ p below j. f (sym (get_or-take (2 ^ h) t p false below) j) (sym (get_or-take (2 ^ h) u p false below) j) (sym (get_or-take (2 ^ h) v p false below) j))

pub high-joined : (f : Bool → Bool → Bool → Bool) (h : ℕ) (t u v : List Bool)
    → high_half h (joined_by f (suc h) t u v) ≡ joined_by f h (high_half h t) (high_half h u) (high_half h v)
high-joined f h t u v =
    high_half-table_with h (λ p. f (value_at t p) (value_at u p) (value_at v p))
    ∙ table_with_same h (λ p. f (value_at t (2 ^ h + p)) (value_at u (2 ^ h + p)) (value_at v (2 ^ h + p)))
    (λ p. f (value_at (high_half h t) p) (value_at (high_half h u) p) (value_at (high_half h v) p))
    (λ p below j. f (sym (get_or-drop (2 ^ h) t p false) j) (sym (get_or-drop (2 ^ h) u p false) j) (sym (get_or-drop (2 ^ h) v p false) j))

-- the table of a tuple, of the members' tables
abbrev pub of_members : (ℕ → List Bool → List Bool → List Bool → List Bool) → Targets → ℕ → ℕ → Tuple → List Bool
of_members table targets h i x =
    table h (table_of targets.first h i x.first) (table_of targets.second h i x.second) (table_of targets.third h i x.third)

-- where a table's halves are tables of the halves, it is those of the parts on both sides
pub halved : (before after : ℕ → List Bool → List Bool → List Bool → List Bool) (targets : Targets) (h i : ℕ) (x : Tuple)
    → ((t u v : List Bool) → low_half h (before (suc h) t u v) ≡ after h (low_half h t) (low_half h u) (low_half h v))
    → ((t u v : List Bool) → high_half h (before (suc h) t u v) ≡ after h (high_half h t) (high_half h u) (high_half h v))
    → of_members before targets (suc h) i x
    ≡ of_members after targets h (suc i) (parts targets i false x) ++ of_members after targets h (suc i) (parts targets i true x)
halved before after targets h i x low high =
    let t : List Bool = table_of targets.first (suc h) i x.first in
    let u : List Bool = table_of targets.second (suc h) i x.second in
    let v : List Bool = table_of targets.third (suc h) i x.third in
    sym (joined h (before (suc h) t u v))
    ∙ (λ j. low t u v j ++ high t u v j)
    ∙ (λ j. after h (low-met targets.first h i x.first j) (low-met targets.second h i x.second j) (low-met targets.third h i x.third j)
    ++ after h (high-met targets.first h i x.first j) (high-met targets.second h i x.second j) (high-met targets.third h i x.third j))

-- above the level of a tuple, its members lead to themselves
pub parts-past : (targets : Targets) (i : ℕ) (side : Bool) (x : Tuple) → i < level_of_tuple x → parts targets i side x ≡ x
parts-past targets i side x past =
    let first : onward targets.first i side x.first ≡ x.first = onward-past targets.first i x.first side (omega arith) in
    let second : onward targets.second i side x.second ≡ x.second = onward-past targets.second i x.second side (omega arith) in
    let third : onward targets.third i side x.third ≡ x.third = onward-past targets.third i x.third side (omega arith) in
    λ j. record { first = first j; second = second j; third = third j }

-- below the level of a tuple its members lie deeper
pub parts_from : (n : ℕ) (targets : Targets) (i : ℕ) (side : Bool) (x : Tuple) → AreDeepening n targets → i < n → AreFrom n i x
    → AreFrom n (suc i) (parts targets i side x)
parts_from n targets i side x deep low from = record {
  first = from_onward n i x.first targets.first side deep.first low from.first;
  second = from_onward n i x.second targets.second side deep.second low from.second;
  third = from_onward n i x.third targets.third side deep.third low from.third;
}

pub are_later : (n i : ℕ) (x : Tuple) → AreFrom n i x → i < level_of_tuple x → AreFrom n (suc i) x
are_later n i x from past = record {
  first = from_later n i x.first from.first (omega arith);
  second = from_later n i x.second from.second (omega arith);
  third = from_later n i x.third from.third (omega arith);
}

-- what holds of both is had on either side
pub on_side : (P : Tuple → Type 0) (side : Bool) (low high : Tuple) → P low → P high → P (cond side high low)
on_side P true low high for_low for_high = for_high
on_side P false low high for_low for_high = for_low
