-- what is made, completed by what stands for the open asks, stands for the table of the root's tuple
use Rattle.std.specs.Prelude.{◌≡◌, ◌⊎◌, ◌+◌, ◌<◌, ◌≤◌, ℕ, zero, suc, Bool, true, false, cond, List, [], ◌++◌}
use Rattle.std.proofs.Common.{sym, ◌∙◌, ap, subst, inl, inr, arith}
use Rattle.rec_words.specs.Words.{terminal, level_of, IsTerminal}
use Rattle.canon_file.specs.Members.{Has}
use Rattle.canon_file.specs.Walks.{is_at, table_of}
use Rattle.canon_file.proofs.MemberLaws.{either_bit}
use Rattle.canon_file.proofs.StandLaws.{has_append}
use Rattle.arc_file.specs.declared.arc.Arc.{Arc}
use Rattle.arc_diagrams.specs.Arcs.{target_on, targets_of, IsMet, IsComplete, StandFor}
use Rattle.arc_diagrams.specs.Laws.{IsDiagramOf}
use Rattle.arc_diagrams.proofs.RowPlaces.{has_left, has_right}
use Rattle.arc_diagrams.proofs.WordLaws.{level_at, level_past, level-terminal, terminal_is}
use Rattle.arc_diagrams.proofs.TargetLaws.{the_target}
use Rattle.arc_diagrams.proofs.TableLaws.{stand_for-table}
use Rattle.top_down.specs.declared.tuple.Tuple.{Tuple}
use Rattle.top_down.specs.Tuples.{Targets, level_of_tuple}
use Rattle.top_down.specs.declared.tuple.Goal.TheVariants.{End, Go}
use Rattle.top_down.specs.Rules.{Rule, IsAsked, IsRule, below_on, table_for}
use Rattle.top_down.specs.Asks.{Ask, Grows, Completes}
use Rattle.top_down.proofs.TupleLaws.{table-terminal}
use Rattle.top_down.proofs.PointwiseLaws.{are_later}
use Rattle.top_down.proofs.GoalLaws.{end_value, go_tuple, end_go}
use Rattle.top_down.proofs.TurnLaws.{Below, goes_below}

module _ (n root : ℕ) (rule : Rule) (targets : Targets) (top : n ≤ 65535) (laws : IsRule n rule targets)
    (inner ends : List Arc) (asks : List Ask) (used : List ℕ) (tuple : ℕ → Tuple) (g : Grows n root rule targets inner ends asks used tuple) where
  below_target : (s : ℕ) (side : Bool) (y : Tuple) → Has s used → rule.goal (below_on rule targets side (tuple s)) ≡ Go y → Below n rule (level_of s) y
  below_target s side y k goes = goes_below n root rule targets laws inner ends used tuple asks g s side y k goes

  past_end : (a : Arc) (value : Bool) → a.target ≡ terminal value → level_of a.target ≡ 65536
  past_end a value is_end = ap level_of is_end ∙ level-terminal (terminal value) (terminal_is value)

  -- two arcs from one source on one side lead to the same pointer
  same_target : (a b : Arc) → Has a inner ⊎ Has a ends → Has b inner ⊎ Has b ends → a.source ≡ b.source → a.high ≡ b.high → a.target ≡ b.target
  same_target a b in_a in_b source high =
      let same : rule.goal (below_on rule targets a.high (tuple a.source)) ≡ rule.goal (below_on rule targets b.high (tuple b.source)) =
      (λ j. rule.goal (below_on rule targets (high j) (tuple (source j)))) in
      elim in_a [
        | inl m ↦
            let (_, a_used, a_goes) = g.inner_right a m in
            elim in_b [
              | inl k ↦ (let (_, b_used, b_goes) = g.inner_right b k in g.differ a.target b.target a_used b_used (go_tuple (tuple a.target) (tuple b.target) (sym a_goes ∙ same ∙ b_goes)))
              | inr k ↦ (let (value, _, _, b_ends) = g.end_right b k in absurd (end_go value (tuple a.target) (sym b_ends ∙ sym same ∙ a_goes)))
            ]
        | inr m ↦
            let (value, _, a_end, a_ends) = g.end_right a m in
            elim in_b [
              | inl k ↦ (let (_, _, b_goes) = g.inner_right b k in absurd (end_go value (tuple b.target) (sym a_ends ∙ same ∙ b_goes)))
              | inr k ↦
                  let (other, _, b_end, b_ends) = g.end_right b k in
                  a_end ∙ ap terminal (end_value value other (sym a_ends ∙ same ∙ b_ends)) ∙ sym b_end
            ]
      ]

  -- one side of an identifier, where the next level's stand for their tuples
  module _ (whole : List Arc) (c : Completes n root rule targets inner ends asks whole) where
    abbrev stands_for : ℕ → ℕ → ℕ → Type 0
    stands_for h i v = table_of (targets_of whole) h i v ≡ table_for rule targets h i (tuple v)

    side_stands : (h s : ℕ) → suc (level_of s + h) ≡ n → Has s used
        → ((v : ℕ) → Has v used → suc (level_of s) ≤ level_of v → IsAsked n rule (suc (level_of s)) (tuple v) → stands_for h (suc (level_of s)) v)
        → (side : Bool) → table_of (targets_of whole) h (suc (level_of s)) (target_on whole s side) ≡ table_for rule targets h (suc (level_of s)) (below_on rule targets side (tuple s))
    side_stands h s end k stand side =
        let (is_level, low) = g.levels s k in
        let here : IsAsked n rule (level_of_tuple (tuple s)) (tuple s) = subst (λ l. IsAsked n rule l (tuple s)) is_level (g.asked s k) in
        let next : IsAsked n rule (suc (level_of s)) (below_on rule targets side (tuple s)) =
        subst (λ l. IsAsked n rule (suc l) (below_on rule targets side (tuple s))) (sym is_level) (laws.sides_asked (tuple s) side (omega arith) here) in
        elim (g.sides s k side) [
          | inl (a, inl m, source, high) ↦
              let (_, in_used, goes) = g.inner_right a m in
              let target : target_on whole s side ≡ a.target = (λ j. target_on whole (sym source j) (sym high j)) ∙ sym (the_target n root whole a c.complete (c.has_inner a m)) in
              let goes_on : rule.goal (below_on rule targets side (tuple s)) ≡ Go (tuple a.target) = (λ j. rule.goal (below_on rule targets (sym high j) (tuple (sym source j)))) ∙ goes in
              let below = below_target s side (tuple a.target) k goes_on in
              ap (table_of (targets_of whole) h (suc (level_of s))) target
              ∙ stand a.target in_used (omega (arith, (g.levels a.target in_used).0, below.deeper)) below.above
              ∙ sym (laws.goes h (suc (level_of s)) (below_on rule targets side (tuple s)) (tuple a.target) (omega arith) next goes_on)
          | inl (a, inr m, source, high) ↦
              let (value, _, is_end, says) = g.end_right a m in
              let target : target_on whole s side ≡ a.target = (λ j. target_on whole (sym source j) (sym high j)) ∙ sym (the_target n root whole a c.complete (c.has_ends a m)) in
              let ends_here : rule.goal (below_on rule targets side (tuple s)) ≡ End value = (λ j. rule.goal (below_on rule targets (sym high j) (tuple (sym source j)))) ∙ says in
              ap (table_of (targets_of whole) h (suc (level_of s))) (target ∙ is_end)
              ∙ table-terminal (targets_of whole) h (suc (level_of s)) value (omega arith)
              ∙ sym (laws.ends h (suc (level_of s)) (below_on rule targets side (tuple s)) value (omega arith) next ends_here)
          | inr (e, m, source, high) ↦
              let (_, goes) = g.ask_right e m in
              let goes_on : rule.goal (below_on rule targets side (tuple s)) ≡ Go e.tuple = (λ j. rule.goal (below_on rule targets (sym high j) (tuple (sym source j)))) ∙ goes in
              (λ j. table_of (targets_of whole) h (suc (level_of (sym source j))) (target_on whole (sym source j) (sym high j)))
              ∙ c.answered e m h ((λ j. suc (level_of (source j) + h)) ∙ end)
              ∙ (λ j. table_for rule targets h (suc (level_of (source j))) e.tuple)
              ∙ sym (laws.goes h (suc (level_of s)) (below_on rule targets side (tuple s)) e.tuple (omega arith) next goes_on)
        ]

    -- each identifier stands for its tuple's table
    grown_stands : (h i s : ℕ) → i + h ≡ n → Has s used → i ≤ level_of s → IsAsked n rule i (tuple s) → stands_for h i s
    grown_stands zero i s end k deep asked = absurd (omega (arith, (g.levels s k).1))
    grown_stands (suc h) i s end k deep asked =
        let is_level : level_of s ≡ level_of_tuple (tuple s) = (g.levels s k).0 in
        elim (either_bit (is_at i s)) [
          | inl e ↦
              let here : level_of s ≡ i = level_at i s deep e in
              let sides : (side : Bool)
              → table_of (targets_of whole) h (suc (level_of s)) (target_on whole s side) ≡ table_for rule targets h (suc (level_of s)) (below_on rule targets side (tuple s)) =
              side_stands h s (omega arith) k (λ v m later there. grown_stands h (suc (level_of s)) v (omega arith) m later there) in
              let at : i ≡ level_of_tuple (tuple s) = sym here ∙ is_level in
              let halves : table_for rule targets (suc h) (level_of_tuple (tuple s)) (tuple s)
              ≡ table_for rule targets h (suc (level_of_tuple (tuple s))) (below_on rule targets false (tuple s))
              ++ table_for rule targets h (suc (level_of_tuple (tuple s))) (below_on rule targets true (tuple s)) =
              laws.splits h (tuple s) (subst (λ l. IsAsked n rule l (tuple s)) at asked) (omega arith) in
              ap (λ b. cond b
              (table_of (targets_of whole) h (suc i) (target_on whole s false) ++ table_of (targets_of whole) h (suc i) (target_on whole s true))
              (table_of (targets_of whole) h (suc i) s ++ table_of (targets_of whole) h (suc i) s)) e
              ∙ (λ j. table_of (targets_of whole) h (suc (sym here j)) (target_on whole s false) ++ table_of (targets_of whole) h (suc (sym here j)) (target_on whole s true))
              ∙ (λ j. sides false j ++ sides true j)
              ∙ (λ j. table_for rule targets h (suc (is_level j)) (below_on rule targets false (tuple s))
              ++ table_for rule targets h (suc (is_level j)) (below_on rule targets true (tuple s)))
              ∙ sym halves ∙ (λ j. table_for rule targets (suc h) (sym at j) (tuple s))
          | inr e ↦
              let later : i < level_of s = level_past i s e in
              let twice_same : table_for rule targets (suc h) i (tuple s) ≡ table_for rule targets h (suc i) (tuple s) ++ table_for rule targets h (suc i) (tuple s) =
              laws.passes h i (tuple s) asked (omega arith) (omega arith) in
              let below_here : IsAsked n rule (suc i) (tuple s) = record { from = are_later n i (tuple s) asked.from (omega arith); may = laws.later i (tuple s) asked (omega arith) } in
              let rest : stands_for h (suc i) s = grown_stands h (suc i) s (omega arith) k later below_here in
              ap (λ b. cond b
              (table_of (targets_of whole) h (suc i) (target_on whole s false) ++ table_of (targets_of whole) h (suc i) (target_on whole s true))
              (table_of (targets_of whole) h (suc i) s ++ table_of (targets_of whole) h (suc i) s)) e
              ∙ (λ j. rest j ++ rest j) ∙ sym twice_same
        ]

    -- so a complete set stands for the table of the roots' tuple
    pub open_stands : (roots : Tuple) → IsAsked n rule 0 roots → rule.goal roots ≡ Go (tuple root) → StandFor n root whole (table_for rule targets n 0 roots)
    open_stands roots asked goes =
        let first : IsAsked n rule 0 (tuple root) = laws.goes_asked 0 roots (tuple root) (omega arith) asked goes in
        subst (StandFor n root whole)
        (grown_stands n 0 root (omega arith) g.begins (omega arith) first ∙ sym (laws.goes n 0 roots (tuple root) (omega arith) asked goes))
        (stand_for-table n root whole c.complete)

module _ (n root : ℕ) (rule : Rule) (targets : Targets) (top : n ≤ 65535) (laws : IsRule n rule targets)
    (inner ends : List Arc) (used : List ℕ) (tuple : ℕ → Tuple) (g : Grows n root rule targets inner ends [] used tuple) where
  -- what is met is an identifier or a truth value
  met_used : (w : ℕ) → IsMet root (inner ++ ends) w → level_of w < n → Has w used
  met_used w (inl e) low = subst (λ v. Has v used) e g.begins
  met_used w (inr (a, m, e)) low = elim (has_append a inner ends m) [
    | inl k ↦ subst (λ v. Has v used) e (g.inner_right a k).1
    | inr k ↦ (let (value, _, is_end, _) = g.end_right a k in
        absurd (omega (arith, past_end n root rule targets top laws inner ends [] used tuple g a value is_end, ap level_of e)))
  ]

  -- with no ask open, what is made is complete
  grown_complete : IsComplete n root (inner ++ ends)
  grown_complete = record {
    begins = inl (g.levels root g.begins).1;
    within = λ a m. elim (has_append a inner ends m) [
      | inl k ↦ inl (g.levels a.target (g.inner_right a k).1).1
      | inr k ↦ (let (value, _, is_end, _) = g.end_right a k in inr (subst IsTerminal (sym is_end) (terminal_is value)))
    ];
    deeper = λ a m. elim (has_append a inner ends m) [
      | inl k ↦
          let (source, target, goes) = g.inner_right a k in
          let below = below_target n root rule targets top laws inner ends [] used tuple g a.source a.high (tuple a.target) source goes in
          omega (arith, (g.levels a.target target).0, below.deeper)
      | inr k ↦
          let (value, source, is_end, _) = g.end_right a k in
          omega (arith, past_end n root rule targets top laws inner ends [] used tuple g a value is_end, (g.levels a.source source).1)
    ];
    both = λ w met low side. elim (g.sides w (met_used w met low) side) [
      | inl (a, inl m, source, high) ↦ (a, has_left a inner ends m, source, high)
      | inl (a, inr m, source, high) ↦ (a, has_right a inner ends m, source, high)
      | inr (e, m, _, _) ↦ absurd m
    ];
    once = λ a b m k source high. same_target n root rule targets top laws inner ends [] used tuple g a b (has_append a inner ends m) (has_append b inner ends k) source high;
    met = λ a m. source_met a (elim (has_append a inner ends m) [ inl k ↦ (g.inner_right a k).0 | inr k ↦ (g.end_right a k).1 ]);
  }
    where
      source_met : (a : Arc) → Has a.source used → IsMet root (inner ++ ends) a.source
      source_met a source = elim (g.met a.source source) [ inl first ↦ inl first | inr (b, l, target) ↦ inr (b, has_left b inner ends l, target) ]

  pub closed_stands : (roots : Tuple) → IsAsked n rule 0 roots → rule.goal roots ≡ Go (tuple root) → IsDiagramOf n root (inner ++ ends) (table_for rule targets n 0 roots)
  closed_stands roots asked goes = record {
    complete = grown_complete;
    stands = open_stands n root rule targets top laws inner ends [] used tuple g (inner ++ ends)
        (record {
          complete = grown_complete;
          has_inner = λ a m. has_left a inner ends m;
          has_ends = λ a m. has_right a inner ends m;
          answered = λ e m. absurd m;
        }) roots asked goes;
  }
