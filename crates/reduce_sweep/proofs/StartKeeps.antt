-- At the beginning of a reduction all of it remains.
use Rattle.std.proofs.Common.{◌≡◌, ℕ, ◌≤◌, ◌<◌, ◌+◌, arith, ap, sym, subst, ◌∙◌, inl, inr, List, ◌++◌}
use Rattle.std.specs.Prelude.{◌^◌, [], Option, Some, All, length}
use Rattle.std.proofs.lemmas.List.{length-append}
use Rattle.rec_words.specs.Words.{level_of, IsTerminal}
use Rattle.canon_file.specs.Members.{Has}
use Rattle.arc_file.specs.declared.arc.Arc.{Arc}
use Rattle.arc_file.specs.declared.kind.Kind.TheVariants.{Inner, End}
use Rattle.arc_file.specs.Files.{Leads, HasArcs}
use Rattle.arc_diagrams.specs.Arcs.{IsComplete}
use Rattle.arc_diagrams.specs.Reducing.{Remains}
use Rattle.arc_diagrams.proofs.WordLaws.{level-terminal}
use Rattle.arc_diagrams.proofs.ListViews.{contains_from_has}
use Rattle.arc_diagrams.proofs.RowPlaces.{has_left}
use Rattle.arc_diagrams.proofs.FinalLaws.{finds_final}
use Rattle.arc_diagrams.proofs.Remaining.{begun_remains}

-- what is true of all items is true of each
each_of : {X : Type 0} (P : X → Type 0) (xs : List X) (x : X) → All P xs → Has x xs → P x
each_of P xs x all member =
    let (k, below, is) = contains_from_has x xs member in
    subst P is (all k x below)

-- an arc of a complete set that leads to a node leads to one of a level below n
inner_below : (n root : ℕ) (arcs : List Arc) (a : Arc) → IsComplete n root arcs → Has a arcs → Leads Inner a → level_of a.target < n
inner_below n root arcs a complete member leads = elim (complete.within a member) [
  | inl below ↦ below
  | inr ends ↦ (let deep : level_of a.target ≡ 65536 = level-terminal a.target ends in let node : a.target < 2 ^ 63 = leads.0 in absurd (omega (arith, deep, node)))
]

-- with the whole files unread everything remains
pub begins : (n root : ℕ) (arcs inner ends : List Arc) (inner_count ends_count : ℕ) (inner_bytes ends_bytes : List ℕ) (known : Option ℕ) → n ≤ 65535
    → HasArcs Inner inner inner_count inner_bytes → HasArcs End ends ends_count ends_bytes → arcs ≡ inner ++ ends → IsComplete n root arcs
    → (IsTerminal root → known ≡ Some root) → Remains n root n arcs ends inner [] known
begins n root arcs inner ends inner_count ends_count inner_bytes ends_bytes known few has_inner has_ends is complete finds =
    let whole : IsComplete n root (inner ++ ends) = subst (IsComplete n root) is complete in
    subst (λ xs. Remains n root n xs ends inner [] known) (sym is)
    (begun_remains n root inner ends known few whole (finds_final n root (inner ++ ends) few whole)
    (λ a member. inner_below n root (inner ++ ends) a whole (has_left a inner ends member) (each_of (Leads Inner) inner a has_inner.lead member))
    (λ a member. let deep : level_of a.target ≡ 65536 = level-terminal a.target (each_of (Leads End) ends a has_ends.lead member) in omega (arith, deep, few))
    finds)

-- and the arcs are few
pub few_at_start : (arcs inner ends : List Arc) (inner_count ends_count : ℕ) (inner_bytes ends_bytes : List ℕ) → HasArcs Inner inner inner_count inner_bytes
    → HasArcs End ends ends_count ends_bytes → arcs ≡ inner ++ ends → inner_count ≤ 2 ^ 46 → ends_count ≤ 2 ^ 46 → length arcs ≤ 2 ^ 47
few_at_start arcs inner ends inner_count ends_count inner_bytes ends_bytes has_inner has_ends is few_inner few_ends =
    let many : length arcs ≡ length inner + length ends = ap length is ∙ length-append inner ends in
    let one : length inner ≡ inner_count = has_inner.begin.count_is in
    let other : length ends ≡ ends_count = has_ends.begin.count_is in
    omega (arith, many, one, other, few_inner, few_ends)
