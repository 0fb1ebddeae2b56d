-- the arcs and the asks of a new identifier
use Rattle.std.specs.Prelude.{◌≡◌, ◌⊎◌, ◌==◌, ◌+◌, ℕ, Bool, true, false, cond, length}
use Rattle.std.proofs.Common.{refl, sym, ◌∙◌, ap, inl, inr, arith}
use Rattle.std.proofs.lemmas.List.{length-append}
use Rattle.std.proofs.lemmas.Bool.Decides.{nat_tests}
use Rattle.rec_words.specs.Words.{terminal}
use Rattle.canon_file.specs.Members.{Has}
use Rattle.canon_file.proofs.StandLaws.{has_append}
use Rattle.arc_file.specs.declared.arc.Arc.{Arc}
use Rattle.arc_diagrams.proofs.RowPlaces.{has_left, has_right}
use Rattle.top_down.specs.declared.tuple.Tuple.{Tuple}
use Rattle.top_down.specs.Tuples.{Targets}
use Rattle.top_down.specs.declared.tuple.Goal.{Goal}
use Rattle.top_down.specs.declared.tuple.Goal.TheVariants.{End, Go}
use Rattle.top_down.specs.Rules.{Rule, below_on}
use Rattle.top_down.specs.Asks.{Ask, side_arcs, side_asks, new_arcs, new_asks, with_tuple}

-- the tuple of the new identifier, and of any other
pub with-new : (s : ℕ) (x : Tuple) (tuple : ℕ → Tuple) → with_tuple s x tuple s ≡ x
with-new s x tuple = let same : (s == s) ≡ true = grind (arith, nat_tests) in ap (λ b. cond b x (tuple s)) same

pub with-other : (s : ℕ) (x : Tuple) (tuple : ℕ → Tuple) (v : ℕ) → (v ≡ s → ⊥) → with_tuple s x tuple v ≡ tuple v
with-other s x tuple v other = ap (λ b. cond b x (tuple v)) (by (v == s) refl)
  where
    by : (b : Bool) → (v == s) ≡ b → (v == s) ≡ false
    by true e = absurd (other (grind (arith, nat_tests)))
    by false e = e

-- an arc of a side says a constant, and an ask a tuple
pub side_arc : (s : ℕ) (side : Bool) (goal : Goal) (a : Arc) → Has a (side_arcs s side goal)
    → (value : Bool) × (goal ≡ End value) × (a.source ≡ s) × (a.high ≡ side) × (a.target ≡ terminal value)
side_arc s side (End value) a (inl e) = (value, refl, ap (λ (b : Arc). b.source) (sym e), ap (λ (b : Arc). b.high) (sym e), ap (λ (b : Arc). b.target) (sym e))
side_arc s side (End value) a (inr m) = absurd m
side_arc s side (Go x) a m = absurd m

side_ask : (s : ℕ) (side : Bool) (goal : Goal) (e : Ask) → Has e (side_asks s side goal) → (goal ≡ Go e.tuple) × (e.source ≡ s) × (e.high ≡ side)
side_ask s side (End value) e m = absurd m
side_ask s side (Go x) e (inl same) = (ap (λ (f : Ask). Go f.tuple) same, ap (λ (f : Ask). f.source) (sym same), ap (λ (f : Ask). f.high) (sym same))
side_ask s side (Go x) e (inr m) = absurd m

-- each side has its arc or its ask, and not both
side_has : (s : ℕ) (side : Bool) (goal : Goal)
    → ((a : Arc) × Has a (side_arcs s side goal) × (a.source ≡ s) × (a.high ≡ side)) ⊎ ((e : Ask) × Has e (side_asks s side goal) × (e.source ≡ s) × (e.high ≡ side))
side_has s side (End value) = inl (record { source = s; high = side; target = terminal value }, inl refl, refl, refl)
side_has s side (Go x) = inr (record { source = s; high = side; tuple = x }, inl refl, refl, refl)

side_one : (s : ℕ) (side : Bool) (goal : Goal) → length (side_arcs s side goal) + length (side_asks s side goal) ≡ 1
side_one s side (End value) = refl
side_one s side (Go x) = refl

module _ (rule : Rule) (targets : Targets) (s : ℕ) (x : Tuple) where
  abbrev says : Bool → Goal
  says side = rule.goal (below_on rule targets side x)

  pub new_arc : (a : Arc) → Has a (new_arcs rule targets s x) → (value : Bool) × (says a.high ≡ End value) × (a.source ≡ s) × (a.target ≡ terminal value)
  new_arc a m = elim (has_append a (side_arcs s false (says false)) (side_arcs s true (says true)) m) [
    | inl k ↦ (let (value, ends, source, high, target) = side_arc s false (says false) a k in (value, ap says high ∙ ends, source, target))
    | inr k ↦ (let (value, ends, source, high, target) = side_arc s true (says true) a k in (value, ap says high ∙ ends, source, target))
  ]

  pub new_ask : (e : Ask) → Has e (new_asks rule targets s x) → (says e.high ≡ Go e.tuple) × (e.source ≡ s)
  new_ask e m = elim (has_append e (side_asks s false (says false)) (side_asks s true (says true)) m) [
    | inl k ↦ (let (goes, source, high) = side_ask s false (says false) e k in (ap says high ∙ goes, source))
    | inr k ↦ (let (goes, source, high) = side_ask s true (says true) e k in (ap says high ∙ goes, source))
  ]

  pub new_side : (side : Bool)
      → ((a : Arc) × Has a (new_arcs rule targets s x) × (a.source ≡ s) × (a.high ≡ side))
      ⊎ ((e : Ask) × Has e (new_asks rule targets s x) × (e.source ≡ s) × (e.high ≡ side))
  new_side false = elim (side_has s false (says false)) [
    | inl (a, m, source, high) ↦ inl (a, has_left a (side_arcs s false (says false)) (side_arcs s true (says true)) m, source, high)
    | inr (e, m, source, high) ↦ inr (e, has_left e (side_asks s false (says false)) (side_asks s true (says true)) m, source, high)
  ]
  new_side true = elim (side_has s true (says true)) [
    | inl (a, m, source, high) ↦ inl (a, has_right a (side_arcs s false (says false)) (side_arcs s true (says true)) m, source, high)
    | inr (e, m, source, high) ↦ inr (e, has_right e (side_asks s false (says false)) (side_asks s true (says true)) m, source, high)
  ]

  -- the two sides have two arcs and asks
  pub new_two : length (new_arcs rule targets s x) + length (new_asks rule targets s x) ≡ 2
  new_two = omega (
    arith,
    length-append (side_arcs s false (says false)) (side_arcs s true (says true)),
    length-append (side_asks s false (says false)) (side_asks s true (says true)),
    side_one s false (says false),
    side_one s true (says true),
  )
