-- what remains between two levels: at the beginning, where levels without sources are passed by, and at the end
use Rattle.std.specs.Prelude.{◌≡◌, ◌≢◌, ◌-◌, ◌+◌, ◌^◌, ◌<◌, ◌≤◌, ◌==◌, nat_lt, ℕ, zero, suc, Bool, false, List, [], ◌∷◌, ◌++◌, length, map, Option, Some}
use Rattle.std.proofs.Common.{refl, sym, ◌∙◌, ap, subst, inl, inr, arith}
use Rattle.std.proofs.lemmas.List.{append-nil}
use Rattle.std.proofs.lemmas.Bool.Decides.{nat_tests}
use Rattle.rec_words.specs.Words.{level_of, IsTerminal}
use Rattle.rec_words.specs.declared.node.Node.{Node}
use Rattle.canon_file.specs.Members.{Has}
use Rattle.canon_file.specs.Canon.{numbered, canon_nodes, canon_root}
use Rattle.canon_file.proofs.MemberLaws.{either_bit, map_has, filter_none}
use Rattle.canon_file.proofs.StandLaws.{has_append}
use Rattle.arc_file.specs.declared.arc.Arc.{Arc}
use Rattle.arc_diagrams.specs.Arcs.{targets_of, IsMet, IsComplete}
use Rattle.arc_diagrams.specs.Laws.{IsDiagramOf}
use Rattle.arc_diagrams.specs.Reduction.{rows_of, final_pointer, final_rows, final_nodes, AreFinal}
use Rattle.arc_diagrams.specs.Reducing.{final_arc, nodes_from, Queues, Leaves, KnowsRoot, Remains}
use Rattle.arc_diagrams.proofs.WordLaws.{terminal_from}
use Rattle.arc_diagrams.proofs.RowPlaces.{has_left, has_right}
use Rattle.arc_diagrams.proofs.FinalLaws.{source_below}
use Rattle.arc_diagrams.proofs.ReduceLaws.{reduces}

-- the nodes of a level come behind those of the deeper ones
pub nodes_from-level : (n : ℕ) (arcs : List Arc) (i : ℕ) → i < n → nodes_from n arcs i ≡ nodes_from n arcs (suc i) ++ numbered i 0 (final_rows n arcs i)
nodes_from-level n arcs i below = let levels : n - i ≡ suc (n - suc i) = omega arith in λ j. final_nodes n arcs (levels j) i

pub nodes_from-end : (n : ℕ) (arcs : List Arc) → nodes_from n arcs n ≡ []
nodes_from-end n arcs = let none : n - n ≡ 0 = omega arith in λ j. final_nodes n arcs (none j) n

pub nodes_from-whole : (n : ℕ) (arcs : List Arc) → nodes_from n arcs 0 ≡ final_nodes n arcs n 0
nodes_from-whole n arcs = let all : n - 0 ≡ n = omega arith in λ j. final_nodes n arcs (all j) 0

-- an arc to a truth value has its final target
final_arc-end : (n : ℕ) (arcs : List Arc) (a : Arc) → AreFinal n arcs → IsTerminal a.target → final_arc n arcs a ≡ a
final_arc-end n arcs a final end = λ j. record { source = a.source; high = a.high; target = final.ends a.target end j }

-- at the beginning no level is done: the end arcs are the queue, and no other arc is read
pub begun_remains : (n root : ℕ) (inner ends : List Arc) (known : Option ℕ) → n ≤ 65535 → IsComplete n root (inner ++ ends) → AreFinal n (inner ++ ends)
    → ((a : Arc) → Has a inner → level_of a.target < n) → ((a : Arc) → Has a ends → n ≤ level_of a.target) → (IsTerminal root → known ≡ Some root)
    → Remains n root n (inner ++ ends) ends inner [] known
begun_remains n root inner ends known top complete final to_nodes to_ends begins =
    let end : (a : Arc) → Has a ends → IsTerminal a.target =
    λ a m. terminal_from n a.target (complete.within a (has_right a inner ends m)) (to_ends a m) in
    record {
      queued = record {
        from = λ q m. (
          q,
          has_right q inner ends m,
          source_below n root (inner ++ ends) q top complete (has_right q inner ends m),
          to_ends q m,
          final_arc-end n (inner ++ ends) q final (end q m),
        );
        each = λ a m above to. elim (has_append a inner ends m) [
          | inl k ↦ absurd (omega (arith, to_nodes a k))
          | inr k ↦ subst (λ b. Has b ends) (sym (final_arc-end n (inner ++ ends) a final (end a k))) k
        ];
      };
      leaves = record {
        from = λ a m. (has_left a inner ends m, to_nodes a m);
        each = λ a m shallow. elim (has_append a inner ends m) [ inl k ↦ k | inr k ↦ absurd (omega (arith, to_ends a k)) ];
      };
      made = sym (nodes_from-end n (inner ++ ends));
      root_known = λ deep.
          let is_end : IsTerminal root = terminal_from n root complete.begins deep in
          begins is_end ∙ ap (λ w. let known : Option ℕ = Some w in known) (sym (final.ends root is_end));
    }

-- a level without sources has no rows
final_rows-none : (n : ℕ) (arcs : List Arc) (i : ℕ) → ((a : Arc) → Has a arcs → level_of a.source ≢ i) → final_rows n arcs i ≡ []
unfolding final_rows
final_rows-none n arcs i none =
    ap (rows_of (targets_of arcs) (final_pointer n arcs)) (filter_none (λ s. level_of s == i) (map (λ (a : Arc). a.source) arcs) (λ s m.
    let (a, in_arcs, source) = map_has (λ (a : Arc). a.source) s arcs m in
    by (level_of s) (λ here. none a in_arcs (ap level_of source ∙ here))))
  where
    by : (l : ℕ) → l ≢ i → (l == i) ≡ false
    by l other = grind (arith, nat_tests)

-- so d levels without sources have no nodes
nodes_from-none : (n : ℕ) (arcs : List Arc) (d i : ℕ) → i + d ≤ n → ((a : Arc) → Has a arcs → i ≤ level_of a.source → level_of a.source < i + d → ⊥)
    → nodes_from n arcs (i + d) ≡ nodes_from n arcs i
nodes_from-none n arcs zero i within none = let same : i + 0 ≡ i = omega arith in ap (nodes_from n arcs) same
nodes_from-none n arcs (suc d) i within none =
    let same : i + suc d ≡ suc i + d = omega arith in
    ap (nodes_from n arcs) same
    ∙ nodes_from-none n arcs d (suc i) (omega arith) (λ a m from to. none a m (omega arith) (omega arith))
    ∙ sym (append-nil (nodes_from n arcs (suc i)))
    ∙ (λ j. nodes_from n arcs (suc i) ++ numbered i 0 (sym (final_rows-none n arcs i (λ a m here. none a m (omega arith) (omega arith))) j))
    ∙ sym (nodes_from-level n arcs i (omega arith))

module _ (n root i j : ℕ) (arcs queue : List Arc) (within : i ≤ n) (later : j ≤ i) (complete : IsComplete n root arcs) (queued : Queues n i i arcs queue)
    (low : (q : Arc) → Has q queue → level_of q.source < j) where
  -- where the queue has no source of the levels from j up to i, no arc has one
  no-sources : (d : ℕ) (a : Arc) → Has a arcs → j ≤ level_of a.source → level_of a.source < i → i ≤ level_of a.source + d → ⊥
  no-sources zero a m from to near = omega arith
  no-sources (suc d) a m from to near =
      elim (either_bit (nat_lt (level_of a.target) i)) [
        | inl e ↦
            let inside : level_of a.target < i = grind (arith, nat_tests) in
            let (b, in_b, source, _) = complete.both a.target (inr (a, m, refl)) (omega arith) false in
            no-sources d b in_b (omega (arith, complete.deeper a m, ap level_of source)) (omega (arith, ap level_of source)) (omega (arith, complete.deeper a m, ap level_of source))
        | inr e ↦
            let deep : i ≤ level_of a.target = grind (arith, nat_tests) in
            omega (arith, low (final_arc n arcs a) (queued.each a m to deep))
      ]

  no-source : (a : Arc) → Has a arcs → j ≤ level_of a.source → level_of a.source < i → ⊥
  no-source a m from to = no-sources i a m from to (omega arith)

  -- and none is met
  none-met : (w : ℕ) → IsMet root arcs w → j ≤ level_of w → level_of w < i → ⊥
  none-met w met from to =
      let (b, in_b, source, _) = complete.both w met (omega arith) false in
      no-source b in_b (omega (arith, ap level_of source)) (omega (arith, ap level_of source))

  skip-queue : Queues n j j arcs queue
  skip-queue = record {
    from = λ q m.
        let (a, in_arcs, above, to, is_q) = queued.from q m in
        (a, in_arcs, omega (arith, low q m, ap (λ (x : Arc). level_of x.source) is_q), omega arith, is_q);
    each = λ a m above to. elim (either_bit (nat_lt (level_of a.target) i)) [
      | inl e ↦ absurd (none-met a.target (inr (a, m, refl)) to (grind (arith, nat_tests)))
      | inr e ↦ (let deep : i ≤ level_of a.target = grind (arith, nat_tests) in queued.each a m (omega arith) deep)
    ];
  }

  skip-unread : (unread : List Arc) → Leaves i arcs unread → Leaves j arcs unread
  skip-unread unread leaves = record {
    from = λ a m.
        let (in_arcs, shallow) = leaves.from a m in
        elim (either_bit (nat_lt (level_of a.target) j)) [
          | inl e ↦ (let below : level_of a.target < j = grind (arith, nat_tests) in (in_arcs, below))
          | inr e ↦ absurd (none-met a.target (inr (a, in_arcs, refl)) (grind (arith, nat_tests)) shallow)
        ];
    each = λ a m shallow. leaves.each a m (omega arith);
  }

  skip-root : (known : Option ℕ) → KnowsRoot n root i arcs known → KnowsRoot n root j arcs known
  skip-root known knows deep =
      elim (either_bit (nat_lt (level_of root) i)) [
        | inl e ↦ absurd (none-met root (inl refl) deep (grind (arith, nat_tests)))
        | inr e ↦ knows (grind (arith, nat_tests))
      ]

  skip-nodes : nodes_from n arcs i ≡ nodes_from n arcs j
  skip-nodes =
      let same : i ≡ j + (i - j) = omega arith in
      ap (nodes_from n arcs) same
      ∙ nodes_from-none n arcs (i - j) j (omega arith) (λ a m from to. no-source a m from (omega arith))

-- where the queue has no source of the levels from j up to i, these levels are done with level i
pub skip_levels : (n root i j : ℕ) (arcs queue unread : List Arc) (nodes : List Node) (known : Option ℕ) → i ≤ n → j ≤ i → IsComplete n root arcs
    → ((q : Arc) → Has q queue → level_of q.source < j) → Remains n root i arcs queue unread nodes known → Remains n root j arcs queue unread nodes known
skip_levels n root i j arcs queue unread nodes known within later complete low r = record {
  queued = skip-queue n root i j arcs queue within later complete r.queued low;
  leaves = skip-unread n root i j arcs queue within later complete r.queued low unread r.leaves;
  made = r.made ∙ skip-nodes n root i j arcs queue within later complete r.queued low;
  root_known = skip-root n root i j arcs queue within later complete r.queued low known r.root_known;
}

-- with no arc left in the queue, no arc is left to be read, and the nodes and the root are canonical
pub nothing_left : (n root i : ℕ) (arcs unread : List Arc) (nodes : List Node) (known : Option ℕ) (t : List Bool) → i ≤ n → n ≤ 65535 → length arcs ≤ 2 ^ 47
    → IsDiagramOf n root arcs t → Remains n root i arcs [] unread nodes known
    → (unread ≡ []) × (nodes ≡ canon_nodes n t) × (known ≡ Some (canon_root n t))
nothing_left n root i arcs unread nodes known t within top few d r =
    let whole : Remains n root 0 arcs [] unread nodes known =
    skip_levels n root i 0 arcs [] unread nodes known within (omega arith) d.complete (λ q m. absurd m) r in
    let form = reduces n root arcs t top few d in (
      nothing unread whole.leaves,
      whole.made ∙ nodes_from-whole n arcs ∙ form.nodes,
      whole.root_known (omega arith) ∙ ap (λ w. let known : Option ℕ = Some w in known) form.begins,
    )
  where
    nothing : (xs : List Arc) → Leaves 0 arcs xs → xs ≡ []
    nothing [] leaves = refl
    nothing (x ∷ xs) leaves = absurd (omega (arith, (leaves.from x (inl refl)).1))
