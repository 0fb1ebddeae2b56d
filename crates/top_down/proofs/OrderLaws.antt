-- arcs that are put behind others in the order of their file
use Rattle.std.specs.Prelude.{◌≡◌, ◌⊎◌, ◌-◌, ◌<◌, ℕ, Bool, true, false, List, [], ◌∷◌, ◌++◌, length, get_or}
use Rattle.std.specs.List.Sorted.{IsSortedBy}
use Rattle.std.specs.Ordering.{is_lt}
use Rattle.std.proofs.Common.{refl, sym, subst, inl, inr, arith}
use Rattle.std.proofs.lemmas.List.{append-nil, append_assoc}
use Rattle.std.proofs.lemmas.List.Kept.{IsSortedBy-push}
use Rattle.std.proofs.lemmas.Bool.Decides.{nat_tests}
use Rattle.rec_words.specs.Words.{terminal}
use Rattle.canon_file.specs.Members.{Has}
use Rattle.canon_file.proofs.StandLaws.{has_append}
use Rattle.arc_file.specs.declared.arc.Arc.{Arc}
use Rattle.arc_file.specs.Files.{inner_cmp, end_cmp, IsInnerOrder, IsEndOrder}
use Rattle.arc_diagrams.proofs.ListViews.{has_at}
use Rattle.top_down.specs.declared.tuple.Goal.{Goal}
use Rattle.top_down.specs.declared.tuple.Goal.TheVariants.{End, Go}
use Rattle.top_down.specs.Rules.{Rule, below_on}
use Rattle.top_down.specs.declared.tuple.Tuple.{Tuple}
use Rattle.top_down.specs.Tuples.{Targets}
use Rattle.top_down.specs.Asks.{side_arcs, new_arcs}
use Rattle.top_down.proofs.NewIdentifiers.{side_arc}

-- an item that is before no member is put behind
sorted_push : {X : Type 0} (lt : X → X → Bool) (xs : List X) (y : X) → IsSortedBy lt xs → ((x : X) → Has x xs → lt y x ≡ false) → IsSortedBy lt (xs ++ y ∷ [])
sorted_push lt xs y up none = IsSortedBy-push lt xs y up
    (λ d some. none (get_or xs (length xs - 1) d) (has_at xs (length xs - 1) d (omega arith)))

inner_after : (a b : Arc) → (b.target < a.target) ⊎ ((b.target ≡ a.target) × (is_lt (end_cmp a b) ≡ false)) → is_lt (inner_cmp a b) ≡ false
inner_after a b (inl less) = grind (arith, nat_tests)
inner_after a b (inr (same, after)) = grind (arith, nat_tests)

-- an arc to a pointer above all others, or to the same one from no earlier source
pub inner_pushed : (inner : List Arc) (a : Arc) → IsInnerOrder inner
    → ((b : Arc) → Has b inner → (b.target < a.target) ⊎ ((b.target ≡ a.target) × (is_lt (end_cmp a b) ≡ false))) → IsInnerOrder (inner ++ a ∷ [])
inner_pushed inner a up after = sorted_push (λ x y. is_lt (inner_cmp x y)) inner a up (λ b m. inner_after a b (after b m))

end_after : (a b : Arc) → (b.source < a.source) ⊎ ((b.source ≡ a.source) × (b.high ≡ false) × (a.high ≡ true)) → is_lt (end_cmp a b) ≡ false
end_after a b (inl less) = grind (arith, nat_tests)
end_after a b (inr (same, low, high)) = grind (arith, nat_tests)

-- the arcs of one side of a new source, above all others or behind its low side
side_pushed : (s : ℕ) (side : Bool) (goal : Goal) (ends : List Arc) → IsEndOrder ends
    → ((b : Arc) → Has b ends → (b.source < s) ⊎ ((b.source ≡ s) × (b.high ≡ false) × (side ≡ true))) → IsEndOrder (ends ++ side_arcs s side goal)
side_pushed s side (End value) ends up after = sorted_push (λ x y. is_lt (end_cmp x y)) ends (record { source = s; high = side; target = terminal value }) up
    (λ b m. end_after (record { source = s; high = side; target = terminal value }) b (after b m))
side_pushed s side (Go x) ends up after = subst IsEndOrder (sym (append-nil ends)) up

pub ends_pushed : (rule : Rule) (targets : Targets) (s : ℕ) (x : Tuple) (ends : List Arc) → IsEndOrder ends → ((b : Arc) → Has b ends → b.source < s)
    → IsEndOrder (ends ++ new_arcs rule targets s x)
ends_pushed rule targets s x ends up after =
    let low : Goal = rule.goal (below_on rule targets false x) in
    let high : Goal = rule.goal (below_on rule targets true x) in
    subst IsEndOrder (append_assoc ends (side_arcs s false low) (side_arcs s true high))
    (side_pushed s true high (ends ++ side_arcs s false low) (side_pushed s false low ends up (λ b m. inl (after b m)))
    (λ b m. elim (has_append b ends (side_arcs s false low) m) [
      | inl k ↦ inl (after b k)
      | inr k ↦ (let (value, says, source, is_low, target) = side_arc s false low b k in inr (source, is_low, refl))
    ]))

pub none_in_order : IsEndOrder []
none_in_order k d from below = absurd (omega (arith, below))
