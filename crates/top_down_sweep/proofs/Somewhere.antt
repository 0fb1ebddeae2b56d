-- whether a diagram is 0 everywhere: where neither its root is the truth value 1 nor an arc leads to it
use Rattle.std.specs.Prelude.{◌≡◌, ◌↔◌, ℕ, zero, suc, ◌+◌, ◌-◌, ◌^◌, ◌<◌, ◌≤◌, ◌==◌, Bool, true, false, cond, List, ◌++◌}
use Rattle.std.proofs.Common.{◌∙◌, refl, sym, ap, subst, inl, inr, arith}
use Rattle.std.proofs.lemmas.Bool.Decides.{nat_tests}
use Rattle.list_laws.proofs.MemberLaws.{has_append, has_left, has_right}
use Rattle.rec_words.specs.Words.{terminal, level_of}
use Rattle.canon_file.specs.declared.row.Row.{Row}
use Rattle.canon_file.specs.Members.{Has}
use Rattle.canon_file.specs.Walks.{table_of}
use Rattle.canon_file.proofs.WalkLaws.{parts_by}
use Rattle.arc_file.specs.declared.arc.Arc.{Arc}
use Rattle.arc_file.specs.declared.kind.Kind.TheVariants.{Inner}
use Rattle.arc_file.specs.Files.{Leads}
use Rattle.arc_diagrams.specs.Arcs.{target_on, targets_of, onward, IsMet, IsComplete}
use Rattle.arc_diagrams.specs.Laws.{IsDiagramOf}
use Rattle.arc_diagrams.proofs.WordLaws.{at_from, past_from, level-terminal}
use Rattle.arc_diagrams.proofs.TargetLaws.{the_target}
use Rattle.arc_diagrams.proofs.TableLaws.{table_parts, onward_met, table_from_stands}
use Rattle.arc_diagrams.proofs.FinalLaws.{source_below}

-- what a pointer's table has on the level behind, it has on a level above the pointer's own
one_before : (targets : ℕ → Row) (h i w : ℕ) → i < level_of w → Has true (table_of targets h (suc i) w)
    → Has true (table_of targets (suc h) i w)
one_before targets h i w deep one =
    subst (λ b. Has true (parts_by targets h i w b))
    (sym (past_from i w deep)) (has_left true (table_of targets h (suc i) w) (table_of targets h (suc i) w) one)

-- so it does on each of those levels
one_above : (targets : ℕ → Row) (d h i w : ℕ) → i + d ≤ level_of w → Has true (table_of targets h (i + d) w)
    → Has true (table_of targets (d + h) i w)
one_above targets zero h i w deep one =
    let here : i + 0 ≡ i = omega arith in
    let rest : h ≡ 0 + h = omega arith in
    subst (λ k. Has true (table_of targets k i w)) rest (subst (λ l. Has true (table_of targets h l w)) here one)
one_above targets (suc d) h i w deep one =
    let next : i + suc d ≡ suc i + d = omega arith in
    let rest : suc (d + h) ≡ suc d + h = omega arith in
    subst (λ k. Has true (table_of targets k i w)) rest
    (one_before targets (d + h) i w (omega arith) (one_above targets d h (suc i) w (omega arith)
    (subst (λ l. Has true (table_of targets h l w)) next one)))

-- what the table of a node's target has, that of the node has
one_of_side : (targets : ℕ → Row) (h i w : ℕ) (side : Bool) → level_of w ≡ i
    → Has true (table_of targets h (suc i) (cond side (targets w).high (targets w).low))
    → Has true (table_of targets (suc h) i w)
one_of_side targets h i w side here one =
    subst (λ b. Has true (parts_by targets h i w b))
    (sym (at_from i w here)) (by side one)
  where
    by : (s : Bool) → Has true (table_of targets h (suc i) (cond s (targets w).high (targets w).low))
        → Has true (table_of targets h (suc i) (targets w).low ++ table_of targets h (suc i) (targets w).high)
    by true m = has_right true (table_of targets h (suc i) (targets w).low)
        (table_of targets h (suc i) (targets w).high) m
    by false m = has_left true (table_of targets h (suc i) (targets w).low)
        (table_of targets h (suc i) (targets w).high) m

-- the table of the truth value 1 is 1
one_at_end : (targets : ℕ → Row) (i w : ℕ) → w ≡ terminal true → Has true (table_of targets 0 i w)
one_at_end targets i w e = inl (ap (λ v. v == 2 ^ 63 + 1) e)

end_is_one : (targets : ℕ → Row) (i w : ℕ) → Has true (table_of targets 0 i w) → w ≡ terminal true
end_is_one targets i w (inl e) = grind (arith, nat_tests)
end_is_one targets i w (inr none) = absurd none

module _ (n root : ℕ) (arcs : List Arc) (top : n ≤ 65535) (c : IsComplete n root arcs) where
  -- where the table of an arc's target is somewhere 1, so is that of the root
  from_arc : (k : ℕ) (a : Arc) → Has a arcs → level_of a.source < k → (h : ℕ) → suc (level_of a.source + h) ≡ n
      → Has true (table_of (targets_of arcs) h (suc (level_of a.source)) a.target)
      → Has true (table_of (targets_of arcs) n 0 root)
  from_arc zero a m below h rest one = absurd (omega arith)
  from_arc (suc k) a m below h rest one =
      elim (c.met a m) [
        | inl first ↦
            let whole : level_of a.source + suc h ≡ n = omega arith in
            subst (λ w. Has true (table_of (targets_of arcs) n 0 w)) (sym first)
            (subst (λ l. Has true (table_of (targets_of arcs) l 0 a.source)) whole
            (one_above (targets_of arcs) (level_of a.source) (suc h) 0 a.source (omega arith)
            (subst (λ l. Has true (table_of (targets_of arcs) (suc h) l a.source)) from_first at_source)))
        | inr (b, k_b, e) ↦
            let deeper : level_of b.source < level_of a.source = omega (arith, c.deeper b k_b, ap level_of e) in
            let d : ℕ = level_of a.source - suc (level_of b.source) in
            let level : level_of a.source ≡ suc (level_of b.source) + d = omega arith in
            from_arc k b k_b (omega arith) (d + suc h) (omega arith)
            (subst (λ w. Has true (table_of (targets_of arcs) (d + suc h) (suc (level_of b.source)) w)) (sym e)
            (one_above (targets_of arcs) d (suc h) (suc (level_of b.source)) a.source (omega arith)
            (subst (λ l. Has true (table_of (targets_of arcs) (suc h) l a.source)) level at_source)))
      ]
    where
      from_first : level_of a.source ≡ 0 + level_of a.source
      from_first = omega arith

      target_side : (side : Bool)
          → target_on arcs a.source side ≡ cond side (targets_of arcs a.source).high (targets_of arcs a.source).low
      target_side true = refl
      target_side false = refl

      at_source : Has true (table_of (targets_of arcs) (suc h) (level_of a.source) a.source)
      at_source = one_of_side (targets_of arcs) h (level_of a.source) a.source a.high refl
          (subst (λ w. Has true (table_of (targets_of arcs) h (suc (level_of a.source)) w))
          (the_target n root arcs a c m ∙ target_side a.high) one)

  -- where the truth value 1 is met, the root's table is somewhere 1
  met_one : IsMet root arcs (terminal true) → Has true (table_of (targets_of arcs) n 0 root)
  met_one (inl first) =
      let whole : n + 0 ≡ n = omega arith in
      let level : 0 + n ≤ level_of root = omega (arith, level-terminal root (inr first)) in
      subst (λ l. Has true (table_of (targets_of arcs) l 0 root)) whole (one_above (targets_of arcs) n 0 0 root level
      (one_at_end (targets_of arcs) (0 + n) root first))
  met_one (inr (a, m, e)) =
      let below : level_of a.source < n = source_below n root arcs a top c m in
      let h : ℕ = n - suc (level_of a.source) in
      let whole : h + 0 ≡ h = omega arith in
      from_arc (suc (level_of a.source)) a m (omega arith) h (omega arith)
      (subst (λ l. Has true (table_of (targets_of arcs) l (suc (level_of a.source)) a.target)) whole
      (one_above (targets_of arcs) h 0 (suc (level_of a.source)) a.target
      (omega (arith, level-terminal a.target (inr e)))
      (one_at_end (targets_of arcs) (suc (level_of a.source) + h) a.target e)))

  -- where the table of a pointer that is met is somewhere 1, the truth value 1 is met
  one_met : (h i w : ℕ) → i + h ≡ n → IsMet root arcs w → i ≤ level_of w
      → Has true (table_of (targets_of arcs) h i w) → IsMet root arcs (terminal true)
  one_met zero i w rest met deep one = subst (IsMet root arcs) (end_is_one (targets_of arcs) i w one) met
  one_met (suc h) i w rest met deep one =
      elim (has_append true (table_of (targets_of arcs) h (suc i) (onward (targets_of arcs) i false w))
      (table_of (targets_of arcs) h (suc i) (onward (targets_of arcs) i true w))
      (subst (Has true) (table_parts (targets_of arcs) h i w) one)) [
        | inl m ↦
            let (on, deeper) = onward_met n root arcs i w false (omega arith) c met deep in
            one_met h (suc i) (onward (targets_of arcs) i false w) (omega arith) on deeper m
        | inr m ↦
            let (on, deeper) = onward_met n root arcs i w true (omega arith) c met deep in
            one_met h (suc i) (onward (targets_of arcs) i true w) (omega arith) on deeper m
      ]

-- a diagram's table is somewhere 1 exactly where its root is the truth value 1 or an arc leads to it
pub one_somewhere : (n root : ℕ) (arcs : List Arc) (t : List Bool) → n ≤ 65535 → IsDiagramOf n root arcs t
    → Has true t ↔ IsMet root arcs (terminal true)
one_somewhere n root arcs t top d =
    let table : table_of (targets_of arcs) n 0 root ≡ t = table_from_stands n root arcs t d.stands in (
      λ one. one_met n root arcs top d.complete n 0 root (omega arith) (inl refl) (omega arith)
          (subst (Has true) (sym table) one),
      λ met. subst (Has true) table (met_one n root arcs top d.complete met),
    )

-- no arc to a node leads to 1
inner_apart : (a : Arc) → Leads Inner a → a.target ≡ terminal true → ⊥
inner_apart a leads e = omega (arith, leads.0)

-- so the arcs to truth values decide
pub met_at_end : (root : ℕ) (inner ends : List Arc) → ((a : Arc) → Has a inner → Leads Inner a)
    → IsMet root (inner ++ ends) (terminal true) ↔ IsMet root ends (terminal true)
met_at_end root inner ends leads = (there, back)
  where
    there : IsMet root (inner ++ ends) (terminal true) → IsMet root ends (terminal true)
    there (inl first) = inl first
    there (inr (a, m, e)) = elim (has_append a inner ends m) [
      | inl k ↦ absurd (inner_apart a (leads a k) e)
      | inr k ↦ inr (a, k, e)
    ]

    back : IsMet root ends (terminal true) → IsMet root (inner ++ ends) (terminal true)
    back (inl first) = inl first
    back (inr (a, m, e)) = inr (a, has_right a inner ends m, e)
