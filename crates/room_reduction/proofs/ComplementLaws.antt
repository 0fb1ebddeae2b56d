-- A diagram with exchanged truth values is one of the complement.
use Rattle.std.specs.Prelude.{◌≡◌, ℕ, zero, suc, ◌+◌, ◌^◌, ◌<◌, ◌≤◌, ◌==◌, Bool, true, false, not, cond, List, [], ◌∷◌, length}
use Rattle.std.proofs.Common.{refl, sym, ◌∙◌, ap, subst, inl, inr, arith}
use Rattle.std.proofs.lemmas.Bool.Decides.{nat_tests}
use Rattle.std.proofs.lemmas.List.{length-map}
use Rattle.bool_tables.specs.Tables.{value_at, place_of_bits}
use Rattle.rec_words.specs.Words.{terminal, level_of, IsTerminal}
use Rattle.list_laws.specs.Members.{Has}
use Rattle.list_laws.proofs.MemberLaws.{has_map, map_has}
use Rattle.canon_file.specs.Walks.{is_at, walk}
use Rattle.canon_file.proofs.WalkLaws.{place_below}
use Rattle.arc_file.specs.declared.arc.Arc.{Arc}
use Rattle.arc_diagrams.specs.Arcs.{target_on, targets_of, onward, IsWithin, IsMet, IsComplete}
use Rattle.arc_diagrams.proofs.WordLaws.{level_at, level_past, past_from, level-terminal}
use Rattle.arc_diagrams.proofs.TargetLaws.{the_target, arc_on, met_within}
use Rattle.arc_diagrams.proofs.TableLaws.{onward_met}
use Rattle.room_reduction.specs.Complements.{complement, other_end, other_arc, other_arcs, GivesComplement}

-- the word of a node stays
pub other_end-node : (w : ℕ) → level_of w < 65536 → other_end w ≡ w
other_end-node w node =
    let zero_not : (w == 2 ^ 63) ≡ false = let low : w < 2 ^ 63 = omega (arith, node) in grind (arith, nat_tests) in
    let one_not : (w == 2 ^ 63 + 1) ≡ false = let low : w < 2 ^ 63 = omega (arith, node) in grind (arith, nat_tests) in
    (λ j. cond (zero_not j) (2 ^ 63 + 1) (cond (one_not j) (2 ^ 63) w))

-- that of a truth value is the other one's
other_end-terminal : (b : Bool) → other_end (terminal b) ≡ terminal (not b)
other_end-terminal false = refl
other_end-terminal true = refl

other_terminal : (w : ℕ) → IsTerminal w → IsTerminal (other_end w)
other_terminal w (inl is) = inr (ap other_end is)
other_terminal w (inr is) = inl (ap other_end is)

-- one of two other words is the other word of one of two
cond_other : (b : Bool) (u v x y : ℕ) → u ≡ other_end x → v ≡ other_end y → cond b u v ≡ other_end (cond b x y)
cond_other true u v x y first second = first
cond_other false u v x y first second = second

-- the other table has the other values
value-complement : (t : List Bool) (p : ℕ) → p < length t → value_at (complement t) p ≡ not (value_at t p)
value-complement [] p below = absurd (omega (arith, below))
value-complement (b ∷ t) zero below = refl
value-complement (b ∷ t) (suc p) below = value-complement t p (omega (arith, below))

module _ (n root : ℕ) (arcs : List Arc) (few : n ≤ 65535) (c : IsComplete n root arcs) where
  -- words keep their levels
  other_within : (w : ℕ) → IsWithin n w → IsWithin n (other_end w)
  other_within w (inl low) = inl (subst (λ v. level_of v < n) (sym (other_end-node w (omega (arith, low, few)))) low)
  other_within w (inr end) = inr (other_terminal w end)

  level-other : (w : ℕ) → IsWithin n w → level_of (other_end w) ≡ level_of w
  level-other w (inl low) = ap level_of (other_end-node w (omega (arith, low, few)))
  level-other w (inr end) = level-terminal (other_end w) (other_terminal w end) ∙ sym (level-terminal w end)

  -- what is met is met
  other_met : (w : ℕ) → IsMet root arcs w → IsMet (other_end root) (other_arcs arcs) (other_end w)
  other_met w (inl first) = inl (ap other_end first)
  other_met w (inr (a, m, e)) = inr (other_arc a, has_map other_arc a arcs m, ap other_end e)

  met_other : (w : ℕ) → IsMet (other_end root) (other_arcs arcs) w → (v : ℕ) × IsMet root arcs v × (other_end v ≡ w)
  met_other w (inl first) = (root, inl refl, first)
  met_other w (inr (b, m, e)) =
      let (a, k, is) = map_has other_arc b arcs m in
      (a.target, inr (a, k, refl), ap (λ (x : Arc). x.target) is ∙ e)

  -- the source of an arc is a node
  source_node : (a : Arc) → Has a arcs → level_of a.source < n
  source_node a m =
      elim (met_within n root arcs a.source c (c.met a m)) [
        | inl low ↦ low
        | inr end ↦
            let deep = c.deeper a m in
            let top = level-terminal a.source end in
            let below : level_of a.target ≤ 65536 = elim (c.within a m) [
              | inl low ↦ omega (arith, low, few)
              | inr last ↦ let is = level-terminal a.target last in omega (arith, is)
            ] in
            absurd (omega (arith, deep, top, below))
      ]

  other_complete : IsComplete n (other_end root) (other_arcs arcs)
  other_complete = record {
    begins = other_within root c.begins;
    within = λ b m.
        let (a, k, is) = map_has other_arc b arcs m in
        subst (λ (x : Arc). IsWithin n x.target) is (other_within a.target (c.within a k));
    deeper = λ b m.
        let (a, k, is) = map_has other_arc b arcs m in
        let same = level-other a.target (c.within a k) in
        let deep = c.deeper a k in
        let deeper : level_of a.source < level_of (other_end a.target) = omega (arith, same, deep) in
        subst (λ (x : Arc). level_of x.source < level_of x.target) is deeper;
    both = λ w met low side.
        let (v, seen, is) = met_other w met in
        let within = met_within n root arcs v c seen in
        let level = level-other v within in
        let level_is = ap level_of is in
        let node : level_of v < n = omega (arith, level, level_is, low) in
        let same : v ≡ w = sym (other_end-node v (omega (arith, node, few))) ∙ is in
        let (a, k, source, high) = c.both v seen node side in
        (other_arc a, has_map other_arc a arcs k, source ∙ same, high);
    once = λ b d m k source high.
        let (a, in_a, is_a) = map_has other_arc b arcs m in
        let (e, in_e, is_e) = map_has other_arc d arcs k in
        let one = c.once a e in_a in_e
        (ap (λ (x : Arc). x.source) is_a ∙ source ∙ sym (ap (λ (x : Arc). x.source) is_e))
        (ap (λ (x : Arc). x.high) is_a ∙ high ∙ sym (ap (λ (x : Arc). x.high) is_e)) in
        sym (ap (λ (x : Arc). x.target) is_a) ∙ ap other_end one ∙ ap (λ (x : Arc). x.target) is_e;
    met = λ b m.
        let (a, k, is) = map_has other_arc b arcs m in
        let node = source_node a k in
        subst (IsMet (other_end root) (other_arcs arcs))
        (other_end-node a.source (omega (arith, node, few)) ∙ ap (λ (x : Arc). x.source) is)
        (other_met a.source (c.met a k));
  }

  -- the target of a node that is met
  target-other : (w : ℕ) (side : Bool) → IsMet root arcs w → level_of w < n
      → target_on (other_arcs arcs) w side ≡ other_end (target_on arcs w side)
  target-other w side met low =
      let (a, k, source, high, target) = arc_on n root arcs w side c met low in
      let there = the_target n (other_end root) (other_arcs arcs) (other_arc a) other_complete
      (has_map other_arc a arcs k) in
      sym (there ∙ (λ j. target_on (other_arcs arcs) (source j) (high j))) ∙ ap other_end target

  -- a walk goes on to the other word of what it went on to
  onward-other : (i w : ℕ) (side : Bool) → i < n → IsMet root arcs w → i ≤ level_of w
      → onward (targets_of (other_arcs arcs)) i side (other_end w) ≡ other_end (onward (targets_of arcs) i side w)
  onward-other i w side below met deep = by (is_at i w) refl side
    where
      by : (b : Bool) → is_at i w ≡ b → (side : Bool)
          → onward (targets_of (other_arcs arcs)) i side (other_end w) ≡ other_end (onward (targets_of arcs) i side w)
      by true at side =
          let here : level_of w ≡ i = level_at i w deep at in
          let same : other_end w ≡ w = other_end-node w (omega (arith, here, below, few)) in
          let low : level_of w < n = omega (arith, here, below) in
          ap (onward (targets_of (other_arcs arcs)) i side) same
          ∙ (λ j. cond (at j) (cond side (target_on (other_arcs arcs) w true) (target_on (other_arcs arcs) w false)) w)
          ∙ cond_other side _ _ _ _ (target-other w true met low) (target-other w false met low)
          ∙ (λ j. other_end (cond (sym at j) (cond side (target_on arcs w true) (target_on arcs w false)) w))
      by false at side =
          let past = level_past i w at in
          let level = level-other w (met_within n root arcs w c met) in
          let other_at : is_at i (other_end w) ≡ false = past_from i (other_end w) (omega (arith, past, level)) in
          (λ j. cond (other_at j)
          (cond side (target_on (other_arcs arcs) (other_end w) true) (target_on (other_arcs arcs) (other_end w) false))
          (other_end w))
          ∙ (λ j. other_end (cond (sym at j) (cond side (target_on arcs w true) (target_on arcs w false)) w))

  walk-other : (bits : List Bool) (i w : ℕ) → i + length bits ≡ n → IsMet root arcs w → i ≤ level_of w
      → walk (targets_of (other_arcs arcs)) i bits (other_end w) ≡ other_end (walk (targets_of arcs) i bits w)
  walk-other [] i w long met deep = refl
  walk-other (b ∷ bits) i w long met deep =
      let (on, deeper) = onward_met n root arcs i w b (omega (arith, long)) c met deep in
      ap (walk (targets_of (other_arcs arcs)) (suc i) bits) (onward-other i w b (omega (arith, long)) met deep)
      ∙ walk-other bits (suc i) (onward (targets_of arcs) i b w) (omega (arith, long)) on deeper

-- so with exchanged truth values the diagram is one of the complement
pub other_diagram : (n : ℕ) → GivesComplement n
other_diagram n root arcs t few is = record {
  complete = other_complete n root arcs few is.complete;
  stands = record {
    whole = length-map t not ∙ is.stands.whole;
    walks = λ bits long.
        let below = place_below bits in
        let room : place_of_bits bits < length t =
        subst (λ m. place_of_bits bits < m) (ap (λ m. 2 ^ m) long ∙ sym is.stands.whole) below in
        walk-other n root arcs few is.complete bits 0 root (omega (arith, long)) (inl refl) (omega arith)
        ∙ ap other_end (is.stands.walks bits long) ∙ other_end-terminal (value_at t (place_of_bits bits))
        ∙ ap terminal (sym (value-complement t (place_of_bits bits) room));
  };
}
