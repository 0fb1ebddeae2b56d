-- Each signal of a netlist has a value, since no way through different signals is longer than there are signals.
use Rattle.std.proofs.Common.{◌≡◌, ⊎_elim, ℕ, zero, suc, ◌+◌, ◌<◌, ◌≤◌, Bool, true, false, cond, not, List, length, get_or, map, set, replicate, nat_lt, refl, sym, ◌∙◌, subst, arith}
use Rattle.std.specs.List.{count_by}
use Rattle.std.proofs.lemmas.Bool.{cond_both, cases_eq, ltb-true, ltb-false, false_from_ne_true, true≢false}
use Rattle.std.proofs.lemmas.List.{length-set, length-replicate, get_or-set_other}
use Rattle.std.proofs.lemmas.List.Sums.{count_by-le-length, sum_by-set, get_or-le-sum_by}
use Rattle.depth_first.specs.Graph.{edges_of, has, Reaches}
use Rattle.depth_first.proofs.Searches.{has_where, reaches_on}
use Rattle.blif_reader.specs.Netlist.{Net, IsNet, cover_at}
use Rattle.net_plan.specs.Values.{HasValue, cover_value}

-- the value of a signal, by a recursion of bounded depth
value_within : ℕ → Net → (ℕ → Bool) → ℕ → Bool
value_within zero net inputs s = false
value_within (suc d) net inputs s = cond (nat_lt s net.inputs) (inputs s) (cover_value (cover_at net s) (map (value_within d net inputs) (edges_of net.edges s)))

-- a signal that isn't on the way is marked
marks_less : (marks : List Bool) (s : ℕ) → s < length marks → get_or marks s false ≡ false → count_by not (set marks s true) + 1 ≡ count_by not marks
marks_less marks s within fresh =
    let counted : count_by not (set marks s true) + cond (not (get_or marks s false)) 1 0 ≡ count_by not marks + 0 = sum_by-set (λ x. cond (not x) 1 0) marks s true false within in
    let counted2 : count_by not (set marks s true) + 1 ≡ count_by not marks + 0 = subst (λ b. count_by not (set marks s true) + cond (not b) 1 0 ≡ count_by not marks + 0) fresh counted in
    omega arith

none_marked : (n : ℕ) (t : ℕ) → get_or (replicate n false) t false ≡ false
none_marked zero t = refl
none_marked (suc n) zero = refl
none_marked (suc n) (suc t) = none_marked n t

module _ (net : Net) (inputs : ℕ → Bool) (sound : IsNet net) where
  -- the marked signals lead to this one, and so many are unmarked
  has_value : (d : ℕ) (marks : List Bool) (s : ℕ) → length marks ≡ length net.names → count_by not marks ≤ d → s < length net.names
      → ((t : ℕ) → get_or marks t false ≡ true → Reaches net.edges t s) → HasValue net inputs s (value_within d net inputs s)
  unfolding value_within
  has_value zero marks s size few inside way =
      let fresh : get_or marks s false ≡ false = false_from_ne_true (get_or marks s false) (λ h. sound.acyclic s (way s h)) in
      let one : cond (not (get_or marks s false)) 1 0 ≤ count_by not marks = get_or-le-sum_by (λ x. cond (not x) 1 0) marks s false (omega arith) in
      let some : 1 ≤ count_by not marks = subst (λ b. cond (not b) 1 0 ≤ count_by not marks) fresh one in
      absurd (omega arith)
  has_value (suc d) marks s size few inside way =
      let fresh : get_or marks s false ≡ false = false_from_ne_true (get_or marks s false) (λ h. sound.acyclic s (way s h)) in
      let less : count_by not (set marks s true) + 1 ≡ count_by not marks = marks_less marks s (omega arith) fresh in
      cond_both (nat_lt s net.inputs) (inputs s) (cover_value (cover_at net s) (map (value_within d net inputs) (edges_of net.edges s))) (HasValue net inputs s)
      (λ e. HasValue.input s (ltb-true s net.inputs e))
      (λ e. HasValue.block s (value_within d net inputs) (record { behind = ltb-false s net.inputs e; inside = inside })
      (λ t h. has_value d (set marks s true) t (length-set marks s true ∙ size) (omega arith) (reads t h)
      (λ u m. ⊎_elim
      (λ (e2 : u ≡ s). subst (λ v. Reaches net.edges v t) (sym e2) (Reaches.directly s t h))
      (λ (e2 : u ≡ s → ⊥). reaches_on net.edges u s t (way u (sym (get_or-set_other marks s u true false e2) ∙ m)) h)
      (cases_eq u s)))) where
        reads : (t : ℕ) → has (edges_of net.edges s) t ≡ true → t < length net.names
        reads t h =
            let place = has_where (edges_of net.edges s) t h in
            let below : get_or (edges_of net.edges s) place.0 0 < length net.edges = sound.tables.graph s place.0 (subst (λ m. s < m) (sym sound.tables.signals) inside) place.1 in
            omega (arith, place.2, sound.tables.signals)

pub some_value : (net : Net) (inputs : ℕ → Bool) (s : ℕ) → IsNet net → s < length net.names → (v : Bool) × HasValue net inputs s v
some_value net inputs s sound inside =
    let n : ℕ = length net.names in (
      value_within n net inputs s,
      has_value net inputs sound n (replicate n false) s (length-replicate n false) (omega (arith, count_by-le-length not (replicate n false), length-replicate n false)) inside (λ t h. absurd (true≢false (sym h ∙ none_marked n t))),
    )
