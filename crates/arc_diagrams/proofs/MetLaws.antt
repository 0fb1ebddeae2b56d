-- what is met at each level of a complete set of arcs
use Rattle.std.specs.Prelude.{◌≡◌, ◌⊎◌, ℕ, zero, suc, ◌+◌, ◌<◌, ◌≤◌, ◌==◌, nat_lt, Bool, true, false, cond, List, [], ◌∷◌, map, filter}
use Rattle.std.proofs.Common.{refl, sym, ◌∙◌, ap, subst, inl, inr, arith}
use Rattle.std.proofs.lemmas.Bool.Decides.{nat_tests}
use Rattle.rec_words.specs.Words.{level_of, IsTerminal}
use Rattle.canon_file.specs.declared.row.Row.{Row}
use Rattle.canon_file.specs.Members.{Has, SameMembers}
use Rattle.canon_file.specs.Walks.{is_at}
use Rattle.canon_file.proofs.MemberLaws.{either_bit, has_map, map_has, has_filter, filter_has}
use Rattle.arc_file.specs.declared.arc.Arc.{Arc}
use Rattle.arc_diagrams.specs.Arcs.{onward, target_on, targets_of, sources_of, IsMet, IsComplete}
use Rattle.arc_diagrams.proofs.WordLaws.{level_at, at_from, past_from, terminal_from}
use Rattle.arc_diagrams.proofs.TargetLaws.{the_target, met_within}
use Rattle.arc_diagrams.proofs.TableLaws.{onward_met}

-- where the pointers ws are met at level i, those that are met at the next one, as often as there are walks to them
abbrev pub next : (ℕ → Row) → ℕ → List ℕ → List ℕ
next targets i [] = []
next targets i (w ∷ ws) = onward targets i false w ∷ onward targets i true w ∷ next targets i ws

pub next_has : (targets : ℕ → Row) (i w : ℕ) (side : Bool) (ws : List ℕ) → Has w ws → Has (onward targets i side w) (next targets i ws)
next_has targets i w side [] m = absurd m
next_has targets i w true (v ∷ ws) (inl e) = inr (inl (ap (onward targets i true) e))
next_has targets i w false (v ∷ ws) (inl e) = inl (ap (onward targets i false) e)
next_has targets i w side (v ∷ ws) (inr m) = inr (inr (next_has targets i w side ws m))

pub has_next : (targets : ℕ → Row) (i v : ℕ) (ws : List ℕ) → Has v (next targets i ws) → (w : ℕ) × (side : Bool) × Has w ws × (onward targets i side w ≡ v)
has_next targets i v [] m = absurd m
has_next targets i v (w ∷ ws) (inl e) = (w, false, inl refl, e)
has_next targets i v (w ∷ ws) (inr (inl e)) = (w, true, inl refl, e)
has_next targets i v (w ∷ ws) (inr (inr m)) = let (u, side, k, e) = has_next targets i v ws m in (u, side, inr k, e)

-- from the pointers ws of level i on, the sources of each level are the nodes of it that are met, and
-- only truth values are met last
abbrev pub Covers : (ℕ → Row) → (ℕ → List ℕ) → ℕ → ℕ → List ℕ → Type 0
Covers targets sources zero i ws = (w : ℕ) → Has w ws → IsTerminal w
Covers targets sources (suc h) i ws = SameMembers (sources i) (filter (is_at i) ws) × Covers targets sources h (suc i) (next targets i ws)

-- the pointers ws are those that are met at level i: a source of this level or a deeper one is among
-- them, or an arc from this level or a deeper one leads to it
pub record MetAt (root i : ℕ) (arcs : List Arc) (ws : List ℕ) : Type 0 where
  pub deep : (w : ℕ) → Has w ws → i ≤ level_of w
  pub known : (w : ℕ) → Has w ws → IsMet root arcs w
  pub all : (a : Arc) → Has a arcs → i ≤ level_of a.source
      → Has a.source ws ⊎ ((b : Arc) × Has b arcs × (b.target ≡ a.source) × (i ≤ level_of b.source))

-- where a walk goes from a node of the level, and from a deeper pointer
onward-at : (targets : ℕ → Row) (i w : ℕ) (side : Bool) → is_at i w ≡ true → onward targets i side w ≡ cond side (targets w).high (targets w).low
onward-at targets i w side e = λ j. cond (e j) (cond side (targets w).high (targets w).low) w

onward-past : (targets : ℕ → Row) (i w : ℕ) (side : Bool) → is_at i w ≡ false → onward targets i side w ≡ w
onward-past targets i w side e = λ j. cond (e j) (cond side (targets w).high (targets w).low) w

target-side : (arcs : List Arc) (w : ℕ) (side : Bool) → cond side (targets_of arcs w).high (targets_of arcs w).low ≡ target_on arcs w side
target-side arcs w true = refl
target-side arcs w false = refl

-- a source of the level at hand is met there
source_met : (n root i : ℕ) (arcs : List Arc) (ws : List ℕ) (a : Arc) → IsComplete n root arcs → MetAt root i arcs ws
    → Has a arcs → level_of a.source ≡ i → Has a.source ws
source_met n root i arcs ws a c met m here =
    elim (met.all a m (omega arith)) [
      | inl found ↦ found
      | inr (b, k, e, deep) ↦ absurd (omega (arith, c.deeper b k, ap level_of e))
    ]

same_sources : (n root i : ℕ) (arcs : List Arc) (ws : List ℕ) → i < n → IsComplete n root arcs → MetAt root i arcs ws
    → SameMembers (sources_of arcs i) (filter (is_at i) ws)
same_sources n root i arcs ws below c met = record {
  there = λ s k.
      let (m, e) = filter_has (λ s. level_of s == i) s (map (λ (a : Arc). a.source) arcs) k in
      let (a, in_arcs, source) = map_has (λ (a : Arc). a.source) s arcs m in
      let here : level_of s ≡ i = grind (arith, nat_tests) in
      has_filter (is_at i) s ws (subst (λ v. Has v ws) source (source_met n root i arcs ws a c met in_arcs (ap level_of source ∙ here))) (at_from i s here);
  back = λ w k.
      let (m, e) = filter_has (is_at i) w ws k in
      let here : level_of w ≡ i = level_at i w (met.deep w m) e in
      let (a, in_arcs, source, high) = c.both w (met.known w m) (omega arith) false in
      has_filter (λ s. level_of s == i) w (map (λ (a : Arc). a.source) arcs)
      (subst (λ v. Has v (map (λ (a : Arc). a.source) arcs)) source (has_map (λ (a : Arc). a.source) a arcs in_arcs)) (grind (arith, nat_tests));
}

-- what holds at a level, holds at the next one
met_next : (n root i : ℕ) (arcs : List Arc) (ws : List ℕ) → i < n → IsComplete n root arcs → MetAt root i arcs ws
    → MetAt root (suc i) arcs (next (targets_of arcs) i ws)
met_next n root i arcs ws below c met = record {
  deep = λ v k.
      let (w, side, m, e) = has_next (targets_of arcs) i v ws k in
      subst (λ u. suc i ≤ level_of u) e (onward_met n root arcs i w side below c (met.known w m) (met.deep w m)).1;
  known = λ v k.
      let (w, side, m, e) = has_next (targets_of arcs) i v ws k in
      subst (IsMet root arcs) e (onward_met n root arcs i w side below c (met.known w m) (met.deep w m)).0;
  all = λ a m deep.
      elim (met.all a m (omega arith)) [
        | inl found ↦
            inl (subst (λ v. Has v (next (targets_of arcs) i ws)) (onward-past (targets_of arcs) i a.source false (past_from i a.source deep))
            (next_has (targets_of arcs) i a.source false ws found))
        | inr (b, k, e, from) ↦
            elim (either_bit (nat_lt i (level_of b.source))) [
              | inl later ↦ inr (b, k, e, grind (arith, nat_tests))
              | inr here ↦
                  let level : level_of b.source ≡ i = grind (arith, nat_tests) in
                  let leads : onward (targets_of arcs) i b.high b.source ≡ a.source =
                  onward-at (targets_of arcs) i b.source b.high (at_from i b.source level) ∙ target-side arcs b.source b.high
                  ∙ sym (the_target n root arcs b c k) ∙ e in
                  inl (subst (λ v. Has v (next (targets_of arcs) i ws)) leads
                  (next_has (targets_of arcs) i b.source b.high ws (source_met n root i arcs ws b c met k level)))
            ]
      ];
}

covers : (n root h i : ℕ) (arcs : List Arc) (ws : List ℕ) → i + h ≡ n → IsComplete n root arcs → MetAt root i arcs ws
    → Covers (targets_of arcs) (sources_of arcs) h i ws
covers n root zero i arcs ws end c met = λ w m. terminal_from n w (met_within n root arcs w c (met.known w m)) (omega (arith, met.deep w m))
covers n root (suc h) i arcs ws end c met = (
  same_sources n root i arcs ws (omega arith) c met,
  covers n root h (suc i) arcs (next (targets_of arcs) i ws) (omega arith) c (met_next n root i arcs ws (omega arith) c met),
)

met_first : (n root : ℕ) (arcs : List Arc) → IsComplete n root arcs → MetAt root 0 arcs (root ∷ [])
met_first n root arcs c = record {
  deep = λ w m. omega arith;
  known = λ w m. elim m [ inl e ↦ inl e | inr k ↦ absurd k ];
  all = λ a m deep. elim (c.met a m) [ inl e ↦ inl (inl e) | inr (b, k, e) ↦ inr (b, k, e, omega arith) ];
}

-- from the root on, the sources of each level of a complete set are the nodes of it that are met
pub complete_covers : (n root : ℕ) (arcs : List Arc) → IsComplete n root arcs → Covers (targets_of arcs) (sources_of arcs) n 0 (root ∷ [])
complete_covers n root arcs c = covers n root n 0 arcs (root ∷ []) (omega arith) c (met_first n root arcs c)
