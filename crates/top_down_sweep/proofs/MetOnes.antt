-- Whether the truth value 1 was met tells whether the table that is made has a 1.
use Rattle.std.specs.Prelude.{◌≡◌, ◌↔◌, ℕ, ◌<◌, ◌^◌, ◌==◌, ◌||◌, Bool, true, false, List, [], ◌∷◌, ◌++◌, All, IsSome}
use Rattle.std.proofs.Common.{refl, sym, ◌∙◌, ap, subst, inl, inr, true≢false, arith}
use Rattle.std.proofs.Math.Bool.{or-true, or-false}
use Rattle.std.proofs.lemmas.Bool.{or_cases}
use Rattle.std.proofs.lemmas.Bool.Decides.{nat_tests}
use Rattle.std.proofs.lemmas.List.Folds.{list_any-append}
use Rattle.list_laws.specs.Members.{Has}
use Rattle.list_laws.proofs.SameMembers.{contains_from_has}
use Rattle.rec_words.specs.Words.{terminal}
use Rattle.shelf_model.specs.World.{World}
use Rattle.arc_file.specs.declared.arc.Arc.{Arc}
use Rattle.arc_file.specs.declared.unreduced.Unreduced.{Unreduced}
use Rattle.arc_file.specs.declared.kind.Kind.TheVariants.{Inner}
use Rattle.arc_file.specs.Files.{Leads, end_arcs}
use Rattle.arc_diagrams.specs.Arcs.{IsMet}
use Rattle.top_down.specs.declared.tuple.Tuple.{Tuple}
use Rattle.top_down_laws.proofs.EndValues.{end_is_value}
use Rattle.tuple_asks.specs.declared.place.Phase.{Phase}
use Rattle.tuple_asks.specs.declared.place.Phase.TheVariants as phases
use Rattle.top_down_sweep.specs.declared.machine.Machine.{Machine}
use Rattle.top_down_sweep.specs.Sweeps.{made_at, has_root_one}
use Rattle.top_down_sweep.specs.Meaning.{Task, table_of, leads_to_one, some_one, IsDone, RemainsIn}
use Rattle.top_down_sweep.proofs.Somewhere.{one_somewhere, met_at_end}

-- an arc to a node doesn't lead to 1
one_stays : (known : Bool) (a : Arc) → a.target < 2 ^ 63 → (known || leads_to_one a) ≡ known
one_stays known a inner =
    let not_here : leads_to_one a ≡ false = grind (arith, nat_tests) in
    ap (λ b. known || b) not_here ∙ or-false known

-- so nothing but the writer changes where one is put
pub only_written : (m q : Machine) (a : Arc)
    → q ≡ record m { place = record m.place { has_one = q.place.has_one }; writer = q.writer }
    → q.place.has_one ≡ (m.place.has_one || leads_to_one a) → a.target < 2 ^ 63 → q ≡ record m { writer = q.writer }
only_written m q a rest one inner =
    let same : q.place.has_one ≡ m.place.has_one = one ∙ one_stays m.place.has_one a inner in
    rest ∙ (λ i. record m { place = record m.place { has_one = same i }; writer = q.writer })

-- what is known of the arcs to truth values is known with each arc that is put
pub one_put : (known : Bool) (ends : List Arc) (a : Arc) → known ≡ some_one ends
    → (known || leads_to_one a) ≡ some_one (ends ++ end_arcs (a ∷ []))
one_put known ends a is = ap (λ b. b || leads_to_one a) is ∙ ap (λ b. some_one ends || b) (sym alone)
    ∙ sym (list_any-append leads_to_one ends (end_arcs (a ∷ [])))
  where
    alone : some_one (end_arcs (a ∷ [])) ≡ leads_to_one a
    alone = grind (arith, nat_tests)

-- one of a list leads to 1 where its test says so
has_one : (xs : List Arc) → some_one xs ≡ true → (a : Arc) × Has a xs × (a.target ≡ terminal true)
has_one [] e = absurd (true≢false (sym e))
has_one (x ∷ xs) e = elim (or_cases (leads_to_one x) (some_one xs) e) [
  | inl here ↦ (x, inl refl, grind (arith, nat_tests))
  | inr there ↦ let (a, m, t) = has_one xs there in (a, inr m, t)
]

one_has : (xs : List Arc) (a : Arc) → Has a xs → a.target ≡ terminal true → some_one xs ≡ true
one_has [] a m e = absurd m
one_has (x ∷ xs) a (inl is) e =
    let first : x.target ≡ terminal true = ap (λ (y : Arc). y.target) is ∙ e in
    let here : leads_to_one x ≡ true = grind (arith, nat_tests) in
    ap (λ b. b || some_one xs) here
one_has (x ∷ xs) a (inr m) e = ap (λ b. leads_to_one x || b) (one_has xs a m e) ∙ or-true (leads_to_one x)

-- what is tested of the root and the arcs
met_is : (root : ℕ) (ends : List Arc) → (some_one ends || (root == terminal true)) ≡ true
    → IsMet root ends (terminal true)
met_is root ends e = elim (or_cases (some_one ends) (root == terminal true) e) [
  | inl one ↦ inr (has_one ends one)
  | inr first ↦ inl (grind (arith, nat_tests))
]

is_met : (root : ℕ) (ends : List Arc) → IsMet root ends (terminal true)
    → (some_one ends || (root == terminal true)) ≡ true
is_met root ends (inl first) =
    let here : (root == terminal true) ≡ true = grind (arith, nat_tests) in
    ap (λ b. some_one ends || b) here ∙ or-true (some_one ends)
is_met root ends (inr (a, m, e)) = ap (λ b. b || (root == terminal true)) (one_has ends a m e)

-- what all of a list are, each of them is
each_is : {X : Type 0} (P : X → Type 0) (xs : List X) → All P xs → (x : X) → Has x xs → P x
each_is P xs all x m = let (k, below, is) = contains_from_has x xs m in subst P is (all k x below)

-- once all is made, the table has a 1 exactly where 1 was met
done_says : (t : Task) (m : Machine) (world : World) (made : Unreduced) → IsDone t m world made
    → Has true (table_of t) ↔ ((m.place.has_one || (made.root == terminal true)) ≡ true)
done_says t m world made done = (
  λ one. ap (λ b. b || (made.root == terminal true)) done.one_is
      ∙ is_met made.root ends (at_end.0 (says.0 one)),
  λ met. says.1 (at_end.1 (met_is made.root ends
      (ap (λ b. b || (made.root == terminal true)) (sym done.one_is) ∙ met))),
)
  where
    inner : List Arc
    inner = done.made_of.inner

    ends : List Arc
    ends = done.made_of.ends

    says : Has true (table_of t) ↔ IsMet made.root (inner ++ ends) (terminal true)
    says = one_somewhere t.n made.root (inner ++ ends) (table_of t) t.is_task.few done.made_of.whole.diagram

    at_end : IsMet made.root (inner ++ ends) (terminal true) ↔ IsMet made.root ends (terminal true)
    at_end = met_at_end made.root inner ends (each_is (Leads Inner) inner done.made_of.whole.inner_lead)

module _ (t : Task) (begins : Tuple → Tuple) (m : Machine) (world : World) where
  -- where 1 was met the table has a 1
  pub met_value : (p : Phase) → RemainsIn t begins p m world → (m.place.has_one || has_root_one (made_at p)) ≡ true
      → Has true (table_of t)
  met_value phases.Fresh fresh e = absurd (elim (or_cases m.place.has_one false e) [
    | inl one ↦ true≢false (sym one ∙ fresh.stands.one_is)
    | inr unmet ↦ true≢false (sym unmet)
  ])
  met_value (phases.Asking s) h e = elim (or_cases m.place.has_one false e) [
    | inl one ↦
        let k = h.contents in
        let (a, there, leads) = has_one k.ends (sym h.stands.one_is ∙ one) in
        end_is_value t.n t.rule t.diagrams t.roots t.is_task _ _ _ k.readings k.inner k.ends h.left a true there
        leads
    | inr unmet ↦ absurd (true≢false (sym unmet))
  ]
  met_value (phases.Ended made) done e = (done_says t m world made done).1 e

  -- and once all is made, only then
  pub unmet_none : (p : Phase) → RemainsIn t begins p m world
      → (m.place.has_one || has_root_one (made_at p)) ≡ false → IsSome (made_at p) → Has true (table_of t) → ⊥
  unmet_none phases.Fresh fresh e made one = absurd (cc)
  unmet_none (phases.Asking s) h e made one = absurd (cc)
  unmet_none (phases.Ended made) done e some one = true≢false (sym ((done_says t m world made done).0 one) ∙ e)
