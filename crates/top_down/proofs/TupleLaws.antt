-- the pointers of a tuple, level by level
use Rattle.std.specs.Prelude.{◌≡◌, ◌+◌, ◌^◌, ◌<◌, ◌≤◌, ◌==◌, ℕ, zero, suc, Bool, true, false, cond, List, [], ◌∷◌, ◌++◌, replicate}
use Rattle.std.proofs.Common.{refl, sym, ◌∙◌, ap, subst, inl, inr, arith}
use Rattle.std.proofs.lemmas.List.{replicate-append-replicate}
use Rattle.std.proofs.lemmas.Bool.Decides.{nat_tests}
use Rattle.bool_tables.proofs.Halves.{twice}
use Rattle.rec_words.specs.Words.{terminal, level_of}
use Rattle.rec_words.specs.declared.node.Node.{Node}
use Rattle.canon_file.specs.declared.row.Row.{Row}
use Rattle.canon_file.specs.Members.{Has}
use Rattle.canon_file.specs.Canon.{canon_nodes, canon_root}
use Rattle.canon_file.specs.Laws.{HasForm}
use Rattle.canon_file.specs.Walks.{is_at, table_of, row_at}
use Rattle.canon_file.proofs.StandLaws.{nodes_stand}
use Rattle.arc_diagrams.specs.Arcs.{onward}
use Rattle.arc_diagrams.proofs.WordLaws.{level_at, level_past, past_from, level-terminal, terminal_is, value-terminal}
use Rattle.arc_diagrams.proofs.CanonArcs.{arc_to, has_arc_to, canon_is_diagram}
use Rattle.top_down.specs.Tuples.{IsFrom, IsDeepening, canon_targets}
use Rattle.top_down.specs.Operations.{is_end, is_one}

-- a pointer past all levels stands for a constant table
pub table-far : (targets : ℕ → Row) (h i w : ℕ) → i + h ≤ level_of w → table_of targets h i w ≡ replicate (2 ^ h) (is_one w)
table-far targets zero i w far = refl
table-far targets (suc h) i w far =
    let below = table-far targets h (suc i) w (omega arith) in
    ap (λ b. cond b
    (table_of targets h (suc i) (targets w).low ++ table_of targets h (suc i) (targets w).high)
    (table_of targets h (suc i) w ++ table_of targets h (suc i) w)) (past_from i w (omega arith))
    ∙ (λ j. below j ++ below j) ∙ replicate-append-replicate (2 ^ h) (2 ^ h) (is_one w) ∙ ap (λ k. replicate k (is_one w)) (sym (twice h))

-- so does a truth value
pub table-end : (targets : ℕ → Row) (h i w : ℕ) → i + h ≤ 65535 → is_end w ≡ true → table_of targets h i w ≡ replicate (2 ^ h) (is_one w)
table-end targets h i w top e = table-far targets h i w (grind (arith, nat_tests))

pub table-terminal : (targets : ℕ → Row) (h i : ℕ) (value : Bool) → i + h ≤ 65535 → table_of targets h i (terminal value) ≡ replicate (2 ^ h) value
table-terminal targets h i value top =
    table-far targets h i (terminal value) (omega (arith, level-terminal (terminal value) (terminal_is value)))
    ∙ ap (λ b. replicate (2 ^ h) b) (value-terminal value)

-- a pointer that isn't a truth value is a node of a level below n
pub low_node : (n i w : ℕ) → IsFrom n i w → is_end w ≡ false → level_of w < n
low_node n i w from e = elim from.within [
  | inl low ↦ low
  | inr (inl zeros) ↦ grind (arith, nat_tests)
  | inr (inr ones) ↦ grind (arith, nat_tests)
]

-- a truth value may stand on each level
pub from_terminal : (n i : ℕ) (value : Bool) → i ≤ n → n ≤ 65535 → IsFrom n i (terminal value)
from_terminal n i value within top = record {
  deep = omega (arith, level-terminal (terminal value) (terminal_is value));
  within = inr (terminal_is value);
}

-- a pointer of a deeper level may stand on the next one
pub from_later : (n i w : ℕ) → IsFrom n i w → i < level_of w → IsFrom n (suc i) w
from_later n i w from past = record { deep = past; within = from.within }

-- from a level a pointer leads deeper
pub from_onward : (n i w : ℕ) (targets : ℕ → Row) (side : Bool) → IsDeepening n targets → i < n → IsFrom n i w → IsFrom n (suc i) (onward targets i side w)
from_onward n i w targets side deep low from = by (is_at i w) refl side
  where
    here : is_at i w ≡ true → level_of w ≡ i
    here e = level_at i w from.deep e

    by : (b : Bool) → is_at i w ≡ b → (side : Bool) → IsFrom n (suc i) (cond b (cond side (targets w).high (targets w).low) w)
    by true e true = subst (λ l. IsFrom n (suc l) (targets w).high) (here e) (deep w (omega (arith, here e))).1
    by true e false = subst (λ l. IsFrom n (suc l) (targets w).low) (here e) (deep w (omega (arith, here e))).0
    by false e side = from_later n i w from (level_past i w e)

pub onward-past : (targets : ℕ → Row) (i w : ℕ) (side : Bool) → i < level_of w → onward targets i side w ≡ w
onward-past targets i w side past = ap (λ b. cond b (cond side (targets w).high (targets w).low) w) (past_from i w past)

-- the pointers of a node lie deeper where the nodes' do
row_at-from : (n : ℕ) (xs : List Node) (w : ℕ) → level_of w < n → n ≤ 65535
    → ((x : Node) → Has x xs → IsFrom n (suc (level_of x.uid)) x.low × IsFrom n (suc (level_of x.uid)) x.high)
    → IsFrom n (suc (level_of w)) (row_at xs w).low × IsFrom n (suc (level_of w)) (row_at xs w).high
row_at-from n [] w low top deep = (from_terminal n (suc (level_of w)) false low top, from_terminal n (suc (level_of w)) false low top)
row_at-from n (x ∷ xs) w low top deep = by (x.uid == w) refl (row_at-from n xs w low top (λ y m. deep y (inr m)))
  where
    by : (b : Bool) → (x.uid == w) ≡ b → IsFrom n (suc (level_of w)) (row_at xs w).low × IsFrom n (suc (level_of w)) (row_at xs w).high
        → (let r : Row = cond b (record { low = x.low; high = x.high }) (row_at xs w) in IsFrom n (suc (level_of w)) r.low × IsFrom n (suc (level_of w)) r.high)
    by true e rest =
        let same : x.uid ≡ w = grind (arith, nat_tests) in
        subst (λ v. IsFrom n (suc (level_of v)) x.low × IsFrom n (suc (level_of v)) x.high) same (deep x (inl refl))
    by false e rest = rest

-- in a canonical diagram they do, and the root may stand on each level down to its own
pub canon-deep : (n : ℕ) (t : List Bool) → HasForm n t → IsDeepening n (canon_targets n t)
canon-deep n t form w low =
    let complete = (canon_is_diagram n t form).complete in
    row_at-from n (canon_nodes n t) w low form.few (λ x m. (
      record {
        deep = complete.deeper (arc_to x false) (has_arc_to x false (canon_nodes n t) m);
        within = complete.within (arc_to x false) (has_arc_to x false (canon_nodes n t) m);
      },
      record {
        deep = complete.deeper (arc_to x true) (has_arc_to x true (canon_nodes n t) m);
        within = complete.within (arc_to x true) (has_arc_to x true (canon_nodes n t) m);
      },
    ))

pub from_root : (n : ℕ) (t : List Bool) → HasForm n t → IsFrom n 0 (canon_root n t)
from_root n t form = record { deep = omega arith; within = (canon_is_diagram n t form).complete.begins }

pub root-table : (n : ℕ) (t : List Bool) → HasForm n t → table_of (canon_targets n t) n 0 (canon_root n t) ≡ t
root-table n t form = nodes_stand n t form.few form.whole form.fits
