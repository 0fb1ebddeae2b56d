-- the table that a complete set of arcs stands for, place by place
use Rattle.std.specs.Prelude.{◌≡◌, ℕ, zero, suc, ◌+◌, ◌^◌, ◌<◌, ◌≤◌, ◌==◌, Bool, true, false, cond, List, [], ◌∷◌, ◌++◌, length}
use Rattle.std.proofs.Common.{refl, sym, ◌∙◌, ap, subst, inl, inr, arith}
use Rattle.std.proofs.lemmas.List.{get_or_append_left, get_or-append-add, length-append}
use Rattle.bool_tables.specs.Tables.{low_half, high_half, value_at, place_of_bits}
use Rattle.bool_tables.proofs.Halves.{twice}
use Rattle.rec_words.specs.Words.{terminal, level_of, IsTerminal}
use Rattle.canon_file.specs.declared.row.Row.{Row}
use Rattle.canon_file.specs.Walks.{is_at, walk, table_of}
use Rattle.canon_file.proofs.PieceLaws.{length-low, length-high, joined}
use Rattle.canon_file.proofs.WalkLaws.{place_below}
use Rattle.arc_file.specs.declared.arc.Arc.{Arc}
use Rattle.arc_diagrams.specs.Arcs.{targets_of, onward, IsMet, IsComplete, StandFor, table_of_arcs}
use Rattle.arc_diagrams.specs.Laws.{StandsForOne}
use Rattle.arc_diagrams.proofs.WordLaws.{level_at, level_past, terminal_from, value-terminal, terminal-value}
use Rattle.arc_diagrams.proofs.TargetLaws.{arc_on, met_within}

-- a table is that of the pointers to which the walk goes on either side
pub table_parts : (targets : ℕ → Row) (h i w : ℕ)
    → table_of targets (suc h) i w ≡ table_of targets h (suc i) (onward targets i false w) ++ table_of targets h (suc i) (onward targets i true w)
table_parts targets h i w = by (is_at i w)
  where
    by : (b : Bool) → cond b
        (table_of targets h (suc i) (targets w).low ++ table_of targets h (suc i) (targets w).high)
        (table_of targets h (suc i) w ++ table_of targets h (suc i) w)
        ≡ table_of targets h (suc i) (cond b (targets w).low w) ++ table_of targets h (suc i) (cond b (targets w).high w)
    by true = refl
    by false = refl

pub length-table_of : (targets : ℕ → Row) (h i w : ℕ) → length (table_of targets h i w) ≡ 2 ^ h
length-table_of targets zero i w = refl
length-table_of targets (suc h) i w =
    let low = onward targets i false w in
    let high = onward targets i true w in
    ap length (table_parts targets h i w) ∙ length-append (table_of targets h (suc i) low) (table_of targets h (suc i) high)
    ∙ omega (arith, length-table_of targets h (suc i) low, length-table_of targets h (suc i) high, twice h)

value-first : (a b bits : List Bool) → length a ≡ 2 ^ length bits → value_at (a ++ b) (place_of_bits (false ∷ bits)) ≡ value_at a (place_of_bits bits)
value-first a b bits n =
    let same : place_of_bits (false ∷ bits) ≡ place_of_bits bits = omega arith in
    ap (value_at (a ++ b)) same ∙ get_or_append_left a b false (place_of_bits bits) (omega (arith, place_below bits))

value-second : (a b bits : List Bool) → length a ≡ 2 ^ length bits → value_at (a ++ b) (place_of_bits (true ∷ bits)) ≡ value_at b (place_of_bits bits)
value-second a b bits n = (λ j. value_at (a ++ b) (sym n j + place_of_bits bits)) ∙ get_or-append-add a b (place_of_bits bits) false

-- the value at a place is whether the walk there ends in 1
pub value-walk : (targets : ℕ → Row) (bits : List Bool) (i w : ℕ)
    → value_at (table_of targets (length bits) i w) (place_of_bits bits) ≡ (walk targets i bits w == 2 ^ 63 + 1)
value-walk targets [] i w = refl
value-walk targets (false ∷ bits) i w =
    let low = table_of targets (length bits) (suc i) (onward targets i false w) in
    let high = table_of targets (length bits) (suc i) (onward targets i true w) in
    ap (λ t. value_at t (place_of_bits (false ∷ bits))) (table_parts targets (length bits) i w)
    ∙ value-first low high bits (length-table_of targets (length bits) (suc i) (onward targets i false w))
    ∙ value-walk targets bits (suc i) (onward targets i false w)
value-walk targets (true ∷ bits) i w =
    let low = table_of targets (length bits) (suc i) (onward targets i false w) in
    let high = table_of targets (length bits) (suc i) (onward targets i true w) in
    ap (λ t. value_at t (place_of_bits (true ∷ bits))) (table_parts targets (length bits) i w)
    ∙ value-second low high bits (length-table_of targets (length bits) (suc i) (onward targets i false w))
    ∙ value-walk targets bits (suc i) (onward targets i true w)

-- a table with those values is the one that the pointer stands for
pub table_from_walks : (targets : ℕ → Row) (h i w : ℕ) (t : List Bool) → length t ≡ 2 ^ h
    → ((bits : List Bool) → length bits ≡ h → value_at t (place_of_bits bits) ≡ (walk targets i bits w == 2 ^ 63 + 1))
    → table_of targets h i w ≡ t
table_from_walks targets zero i w [] n f = absurd (omega arith)
table_from_walks targets zero i w (b ∷ []) n f = ap (λ c. c ∷ []) (sym (f [] refl))
table_from_walks targets zero i w (b ∷ c ∷ t) n f = absurd (omega arith)
table_from_walks targets (suc h) i w t n f =
    let low : table_of targets h (suc i) (onward targets i false w) ≡ low_half h t =
    table_from_walks targets h (suc i) (onward targets i false w) (low_half h t) (length-low h t n)
    (λ bits k. sym (value-first (low_half h t) (high_half h t) bits (length-low h t n ∙ ap (λ m. 2 ^ m) (sym k)))
    ∙ ap (λ s. value_at s (place_of_bits (false ∷ bits))) (joined h t) ∙ f (false ∷ bits) (ap suc k)) in
    let high : table_of targets h (suc i) (onward targets i true w) ≡ high_half h t =
    table_from_walks targets h (suc i) (onward targets i true w) (high_half h t) (length-high h t n)
    (λ bits k. sym (value-second (low_half h t) (high_half h t) bits (length-low h t n ∙ ap (λ m. 2 ^ m) (sym k)))
    ∙ ap (λ s. value_at s (place_of_bits (true ∷ bits))) (joined h t) ∙ f (true ∷ bits) (ap suc k)) in
    table_parts targets h i w ∙ (λ j. low j ++ high j) ∙ joined h t

-- on a pointer that is met, the walk goes to one that is met and lies deeper
pub onward_met : (n root : ℕ) (arcs : List Arc) (i w : ℕ) (side : Bool) → i < n → IsComplete n root arcs → IsMet root arcs w → i ≤ level_of w
    → IsMet root arcs (onward (targets_of arcs) i side w) × (suc i ≤ level_of (onward (targets_of arcs) i side w))
onward_met n root arcs i w side below c met deep = by (is_at i w) refl side
  where
    by : (b : Bool) → is_at i w ≡ b → (side : Bool)
        → IsMet root arcs (cond b (cond side (targets_of arcs w).high (targets_of arcs w).low) w)
        × (suc i ≤ level_of (cond b (cond side (targets_of arcs w).high (targets_of arcs w).low) w))
    by true e true =
        let (a, m, source, high, target) = arc_on n root arcs w true c met (omega (arith, level_at i w deep e)) in
        (inr (a, m, target), omega (arith, level_at i w deep e, c.deeper a m, ap level_of source, ap level_of target))
    by true e false =
        let (a, m, source, high, target) = arc_on n root arcs w false c met (omega (arith, level_at i w deep e)) in
        (inr (a, m, target), omega (arith, level_at i w deep e, c.deeper a m, ap level_of source, ap level_of target))
    by false e side = (met, level_past i w e)

-- a walk in a complete set ends in a truth value
pub walk_ends : (n root : ℕ) (arcs : List Arc) (bits : List Bool) (i w : ℕ) → i + length bits ≡ n → IsComplete n root arcs → IsMet root arcs w → i ≤ level_of w
    → IsTerminal (walk (targets_of arcs) i bits w)
walk_ends n root arcs [] i w long c met deep = terminal_from n w (met_within n root arcs w c met) (omega arith)
walk_ends n root arcs (b ∷ bits) i w long c met deep =
    let (on, deeper) = onward_met n root arcs i w b (omega arith) c met deep in
    walk_ends n root arcs bits (suc i) (onward (targets_of arcs) i b w) (omega arith) c on deeper

-- so a complete set stands for the table of its root, and for no other
pub stand_for-table : (n root : ℕ) (arcs : List Arc) → IsComplete n root arcs → StandFor n root arcs (table_of_arcs n root arcs)
stand_for-table n root arcs c = record {
  whole = length-table_of (targets_of arcs) n 0 root;
  walks = λ bits k.
      sym (terminal-value (walk (targets_of arcs) 0 bits root) (walk_ends n root arcs bits 0 root (omega arith) c (inl refl) (omega arith)))
      ∙ ap terminal (sym (value-walk (targets_of arcs) bits 0 root) ∙ ap (λ m. value_at (table_of (targets_of arcs) m 0 root) (place_of_bits bits)) k);
}

pub table_from_stands : (n root : ℕ) (arcs : List Arc) (t : List Bool) → StandFor n root arcs t → table_of_arcs n root arcs ≡ t
table_from_stands n root arcs t s =
    table_from_walks (targets_of arcs) n 0 root t s.whole
    (λ bits k. sym (value-terminal (value_at t (place_of_bits bits))) ∙ ap (λ w. w == 2 ^ 63 + 1) (sym (s.walks bits k)))

pub stands_for_one : (n : ℕ) → StandsForOne n
stands_for_one n root arcs t few c = (
  table_from_stands n root arcs t,
  λ e. subst (StandFor n root arcs) e (stand_for-table n root arcs c),
)
