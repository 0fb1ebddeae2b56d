-- the sources of a level are collected, the greatest first
use Rattle.std.specs.Prelude.{◌≡◌, ◌≢◌, ◌⊎◌, ◌<◌, ◌≤◌, ℕ, suc, Bool, true, false, cond, List, [], ◌∷◌}
use Rattle.std.proofs.Common.{refl, sym, ◌∙◌, ap, subst, inl, inr, arith}
use Rattle.rec_words.specs.Words.{level_of}
use Rattle.canon_file.specs.declared.row.Row.{Row}
use Rattle.canon_file.specs.Members.{Has, SameMembers}
use Rattle.canon_file.specs.Pairs.{differs}
use Rattle.canon_file.specs.Rows.{row_word, place_of}
use Rattle.canon_file.proofs.RowLaws.{same_row}
use Rattle.arc_file.specs.declared.arc.Arc.{Arc}
use Rattle.arc_diagrams.specs.Arcs.{target_on, targets_of, IsMet, IsComplete}
use Rattle.arc_diagrams.specs.Reduction.{final_pointer, final_pair, final_rows, AreFinal}
use Rattle.arc_diagrams.specs.Items.{pair}
use Rattle.arc_diagrams.specs.Reducing.{final_arc, Comes, Queues, IsCollected, IsRightRow, IsRightName, Collects}
use Rattle.arc_diagrams.specs.declared.source_row.SourceRow.{SourceRow}
use Rattle.arc_diagrams.specs.declared.name.Name.{Name}
use Rattle.arc_diagrams.proofs.TargetLaws.{target_has, arc_on}

-- with all levels below i done, nothing of level i is collected yet
pub collect_first : (n i : ℕ) (arcs queue : List Arc) → Queues n (suc i) (suc i) arcs queue → Collects n i arcs queue [] [] []
collect_first n i arcs queue queued = record {
  queue_from = queued.from;
  noted_from = λ p m. absurd m;
  each = λ a m above to. inl (queued.each a m above to);
  rows_right = λ r m. absurd m;
  names_right = λ m k. absurd k;
  names_plain = λ m k. absurd k;
  one_source = λ p q m k. absurd m;
  queue_behind = λ s collected q m. elim collected [ inl (r, k, e) ↦ absurd k | inr (r, k, e) ↦ absurd k ];
  noted_behind = λ s collected p m. absurd m;
  queue_below = λ p m q k. absurd m;
}

-- the arc with the greatest source, which is of the level, is noted: it is the first one, or of the source at hand
pub collect_one : (n i : ℕ) (arcs queue rest noted : List Arc) (rows : List SourceRow) (names : List Name) (q : Arc)
    → SameMembers queue (q ∷ rest) → ((x : Arc) → Has x rest → x.source ≤ q.source) → level_of q.source ≡ i
    → ((p : Arc) → Has p noted → p.source ≡ q.source)
    → Collects n i arcs queue noted rows names → Collects n i arcs rest (q ∷ noted) rows names
collect_one n i arcs queue rest noted rows names q taken greatest here one c = record {
  queue_from = λ x m. c.queue_from x (taken.back x (inr m));
  noted_from = λ p m. elim m [ inl e ↦ subst (λ x. Comes n (suc i) (suc i) arcs x × (level_of x.source ≡ i)) e (c.queue_from q (taken.back q (inl refl)), here) | inr k ↦ c.noted_from p k ];
  each = λ a m above to. elim (c.each a m above to) [
    | inl k ↦ elim (taken.there (final_arc n arcs a) k) [ inl e ↦ inr (inl (inl e)) | inr l ↦ inl l ]
    | inr k ↦ inr (elim k [ inl l ↦ inl (inr l) | inr l ↦ inr l ])
  ];
  rows_right = c.rows_right;
  names_right = c.names_right;
  names_plain = c.names_plain;
  one_source = λ x y m k. of_q x m ∙ sym (of_q y k);
  queue_behind = λ s collected x m. c.queue_behind s collected x (taken.back x (inr m));
  noted_behind = λ s collected p m. elim m [
    | inl e ↦ subst (λ (x : Arc). x.source < s) e (c.queue_behind s collected q (taken.back q (inl refl)))
    | inr k ↦ c.noted_behind s collected p k
  ];
  queue_below = λ p m x k. subst (λ s. x.source ≤ s) (sym (of_q p m)) (greatest x k);
}
  where
    of_q : (x : Arc) → Has x (q ∷ noted) → x.source ≡ q.source
    of_q x (inl e) = ap (λ (y : Arc). y.source) (sym e)
    of_q x (inr m) = one x m

-- two arcs of the queue or of the source at hand with one source and one side are one arc
pub comes_once : (n root above to : ℕ) (arcs : List Arc) (p q : Arc) → IsComplete n root arcs → Comes n above to arcs p → Comes n above to arcs q
    → p.source ≡ q.source → p.high ≡ q.high → p ≡ q
comes_once n root above to arcs p q c (a, in_a, _, _, is_p) (b, in_b, _, _, is_q) source high =
    let target : a.target ≡ b.target =
    c.once a b in_a in_b
    (ap (λ (x : Arc). x.source) is_p ∙ source ∙ ap (λ (x : Arc). x.source) (sym is_q))
    (ap (λ (x : Arc). x.high) is_p ∙ high ∙ ap (λ (x : Arc). x.high) (sym is_q)) in
    let final : p.target ≡ q.target = ap (λ (x : Arc). x.target) (sym is_p) ∙ ap (final_pointer n arcs) target ∙ ap (λ (x : Arc). x.target) is_q in
    λ j. record { source = source j; high = high j; target = final j }

-- an arc of the source at hand whose side is noted already is passed by
pub collect_again : (n root i : ℕ) (arcs queue rest noted : List Arc) (rows : List SourceRow) (names : List Name) (p q : Arc)
    → IsComplete n root arcs → SameMembers queue (q ∷ rest) → Has p noted → p.source ≡ q.source → p.high ≡ q.high
    → Collects n i arcs queue noted rows names → Collects n i arcs rest noted rows names
collect_again n root i arcs queue rest noted rows names p q complete taken member source high c =
    let same : p ≡ q = comes_once n root (suc i) (suc i) arcs p q complete (c.noted_from p member).0 (c.queue_from q (taken.back q (inl refl))) source high in
    record {
      queue_from = λ x m. c.queue_from x (taken.back x (inr m));
      noted_from = c.noted_from;
      each = λ a m above to. elim (c.each a m above to) [
        | inl k ↦ elim (taken.there (final_arc n arcs a) k) [ inl e ↦ inr (inl (subst (λ x. Has x noted) (same ∙ e) member)) | inr l ↦ inl l ]
        | inr k ↦ inr k
      ];
      rows_right = c.rows_right;
      names_right = c.names_right;
      names_plain = c.names_plain;
      one_source = c.one_source;
      queue_behind = λ s collected x m. c.queue_behind s collected x (taken.back x (inr m));
      noted_behind = c.noted_behind;
      queue_below = λ x m y k. c.queue_below x m y (taken.back y (inr k));
    }

-- where no arc of the source at hand is in the queue, the arc on each side was noted
noted-arc : (n root i : ℕ) (arcs queue noted : List Arc) (rows : List SourceRow) (names : List Name) (p : Arc) (high : Bool)
    → i < n → IsComplete n root arcs → Collects n i arcs queue noted rows names → Has p noted → ((q : Arc) → Has q queue → q.source ≢ p.source)
    → (b : Arc) × Has (final_arc n arcs b) noted × (b.source ≡ p.source) × (b.high ≡ high) × (b.target ≡ target_on arcs p.source high)
noted-arc n root i arcs queue noted rows names p high below complete c member none =
    let ((a, in_a, above, to, is_p), here) = c.noted_from p member in
    let met : IsMet root arcs p.source = subst (IsMet root arcs) (ap (λ (x : Arc). x.source) is_p) (complete.met a in_a) in
    let (b, in_b, from_b, high_b, target_b) = arc_on n root arcs p.source high complete met (omega arith) in
    let deep : suc i ≤ level_of b.target = omega (arith, complete.deeper b in_b, ap level_of from_b) in
    let found : Has (final_arc n arcs b) noted =
    elim (c.each b in_b (omega (arith, ap level_of from_b)) deep) [
      | inl k ↦ absurd (none (final_arc n arcs b) k from_b)
      | inr k ↦ elim k [
        | inl l ↦ l
        | inr collected ↦ absurd (omega (arith, c.noted_behind b.source collected p member, from_b))
      ]
    ] in
    (b, found, from_b, high_b, target_b)

-- so its targets are its final pointers
noted-target : (n root i : ℕ) (arcs queue noted : List Arc) (rows : List SourceRow) (names : List Name) (b : Arc)
    → IsComplete n root arcs → Collects n i arcs queue noted rows names → Has (final_arc n arcs b) noted
    → target_on noted b.source b.high ≡ final_pointer n arcs b.target
noted-target n root i arcs queue noted rows names b complete c found =
    let (d, in_d, from_d, high_d, target_d) = target_has noted b.source b.high (final_arc n arcs b) found refl refl in
    let same : d ≡ final_arc n arcs b =
    comes_once n root (suc i) (suc i) arcs d (final_arc n arcs b) complete (c.noted_from d in_d).0 (c.noted_from (final_arc n arcs b) found).0 from_d high_d in
    sym target_d ∙ ap (λ (x : Arc). x.target) same

pub noted-targets : (n root i : ℕ) (arcs queue noted : List Arc) (rows : List SourceRow) (names : List Name) (p : Arc)
    → i < n → IsComplete n root arcs → Collects n i arcs queue noted rows names → Has p noted → ((q : Arc) → Has q queue → q.source ≢ p.source)
    → targets_of noted p.source ≡ final_pair n arcs p.source
noted-targets n root i arcs queue noted rows names p below complete c member none = same_row _ _ (side false) (side true)
  where
    side : (high : Bool) → target_on noted p.source high ≡ final_pointer n arcs (target_on arcs p.source high)
    side high =
        let (b, found, from_b, high_b, target_b) = noted-arc n root i arcs queue noted rows names p high below complete c member none in
        (λ j. target_on noted (sym from_b j) (sym high_b j))
        ∙ noted-target n root i arcs queue noted rows names b complete c found
        ∙ ap (final_pointer n arcs) target_b

module _ (n root i : ℕ) (arcs queue noted : List Arc) (rows : List SourceRow) (names : List Name) (p : Arc)
    (below : i < n) (complete : IsComplete n root arcs) (c : Collects n i arcs queue noted rows names) (member : Has p noted)
    (none : (q : Arc) → Has q queue → q.source ≢ p.source) where
  -- the source at hand is that of an arc of the set
  source-arc : (a : Arc) × Has a arcs × (level_of a.source ≡ i) × (a.source ≡ p.source)
  source-arc =
      let ((a, in_a, above, to, is_p), here) = c.noted_from p member in
      let source : a.source ≡ p.source = ap (λ (x : Arc). x.source) is_p in
      (a, in_a, ap level_of source ∙ here, source)

  queue-under : (q : Arc) → Has q queue → q.source < p.source
  queue-under q m = let apart : q.source ≢ p.source = none q m in omega (arith, c.queue_below p member q m)

  -- each arc is in the queue, or its source is collected or at hand
  each-closed : (a : Arc) → Has a arcs → level_of a.source < suc i → suc i ≤ level_of a.target
      → Has (final_arc n arcs a) queue ⊎ ((p.source ≡ a.source) ⊎ IsCollected rows names a.source)
  each-closed a m above to = elim (c.each a m above to) [
    | inl k ↦ inl k
    | inr k ↦ inr (elim k [ inl l ↦ inl (c.one_source p (final_arc n arcs a) member l) | inr l ↦ inr l ])
  ]

  -- the source at hand becomes a row, where its two final pointers differ
  pub close_row : (r : SourceRow) → pair r ≡ targets_of noted p.source → r.source ≡ p.source → differs (pair r) ≡ true
      → Collects n i arcs queue [] (r ∷ rows) names
  close_row r is_pair is_source differ =
      let (a, in_a, here, source) = source-arc in
      let right : IsRightRow n i arcs r = (
        a,
        in_a,
        here,
        source ∙ sym is_source,
        ap (final_pair n arcs) source ∙ sym (noted-targets n root i arcs queue noted rows names p below complete c member none) ∙ sym is_pair,
        differ,
      ) in
      record {
        queue_from = c.queue_from;
        noted_from = λ x m. absurd m;
        each = λ x m above to. elim (each-closed x m above to) [
          | inl k ↦ inl k
          | inr k ↦ inr (inr (elim k [
            | inl e ↦ inl (r, inl refl, is_source ∙ e)
            | inr l ↦ elim l [ inl (s, in_s, e) ↦ inl (s, inr in_s, e) | inr named ↦ inr named ]
          ]))
        ];
        rows_right = λ s m. elim m [ inl e ↦ subst (IsRightRow n i arcs) e right | inr k ↦ c.rows_right s k ];
        names_right = c.names_right;
        names_plain = c.names_plain;
        one_source = λ x y m k. absurd m;
        queue_behind = λ s collected q m. elim collected [
          | inl (t, in_t, e) ↦ elim in_t [
            | inl same ↦ omega (arith, queue-under q m, ap (λ (u : SourceRow). u.source) same, e, is_source)
            | inr k ↦ c.queue_behind s (inl (t, k, e)) q m
          ]
          | inr named ↦ c.queue_behind s (inr named) q m
        ];
        noted_behind = λ s collected x m. absurd m;
        queue_below = λ x m q k. absurd m;
      }

  -- or gets its name, where they are equal
  pub close_name : AreFinal n arcs → (m : Name) → m.source ≡ p.source → m.pointer ≡ target_on noted p.source false → differs (targets_of noted p.source) ≡ false
      → Collects n i arcs queue [] rows (m ∷ names)
  close_name final m is_source is_pointer differ =
      let (a, in_a, here, source) = source-arc in
      let targets : targets_of noted p.source ≡ final_pair n arcs a.source =
      noted-targets n root i arcs queue noted rows names p below complete c member none ∙ ap (final_pair n arcs) (sym source) in
      let plain : differs (final_pair n arcs a.source) ≡ false = ap differs (sym targets) ∙ differ in
      let pointer : final_pointer n arcs a.source ≡ m.pointer =
      final.sources a in_a
      ∙ ap (λ b. cond b (row_word (level_of a.source) (place_of (final_pair n arcs a.source) (final_rows n arcs (level_of a.source)))) (final_pair n arcs a.source).low) plain
      ∙ ap (λ (r : Row). r.low) (sym targets) ∙ sym is_pointer in
      let right : IsRightName n i arcs m = (a, in_a, here, source ∙ sym is_source, pointer) in
      record {
        queue_from = c.queue_from;
        noted_from = λ x k. absurd k;
        each = λ x k above to. elim (each-closed x k above to) [
          | inl l ↦ inl l
          | inr l ↦ inr (inr (elim l [
            | inl e ↦ inr (m, inl refl, is_source ∙ e)
            | inr d ↦ elim d [ inl row ↦ inl row | inr (s, in_s, e) ↦ inr (s, inr in_s, e) ]
          ]))
        ];
        rows_right = c.rows_right;
        names_right = λ s k. elim k [ inl e ↦ subst (IsRightName n i arcs) e right | inr l ↦ c.names_right s l ];
        names_plain = λ s k. elim k [
          | inl e ↦ subst (λ v. differs (final_pair n arcs v) ≡ false) (source ∙ sym is_source ∙ ap (λ (t : Name). t.source) e) plain
          | inr l ↦ c.names_plain s l
        ];
        one_source = λ x y k l. absurd k;
        queue_behind = λ s collected q k. elim collected [
          | inl row ↦ c.queue_behind s (inl row) q k
          | inr (t, in_t, e) ↦ elim in_t [
            | inl same ↦ omega (arith, queue-under q k, ap (λ (u : Name). u.source) same, e, is_source)
            | inr l ↦ c.queue_behind s (inr (t, l, e)) q k
          ]
        ];
        noted_behind = λ s collected x k. absurd k;
        queue_below = λ x k q l. absurd k;
      }

-- where the greatest source of the queue is of a shallower level than i, each is
pub all_below : (i : ℕ) (queue : List Arc) (q : Arc) → ((x : Arc) → Has x queue → x.source ≤ q.source) → level_of q.source < i
    → (x : Arc) → Has x queue → level_of x.source < i
all_below i queue q greatest low x m = omega (arith, greatest x m)

-- where it isn't the source at hand, none is
pub none-of : (n i : ℕ) (arcs queue noted : List Arc) (rows : List SourceRow) (names : List Name) (p q : Arc)
    → Collects n i arcs queue noted rows names → Has p noted → Has q queue → ((x : Arc) → Has x queue → x.source ≤ q.source) → q.source ≢ p.source
    → (x : Arc) → Has x queue → x.source ≢ p.source
none-of n i arcs queue noted rows names p q c member first greatest other x m same =
    omega (arith, c.queue_below p member q first, greatest x m)

-- with no arc of the level left in the queue, each of its sources is collected
pub all_collected : (n root i : ℕ) (arcs queue : List Arc) (rows : List SourceRow) (names : List Name) → IsComplete n root arcs
    → Collects n i arcs queue [] rows names → ((q : Arc) → Has q queue → level_of q.source < i)
    → (a : Arc) → Has a arcs → level_of a.source ≡ i → IsCollected rows names a.source
all_collected n root i arcs queue rows names complete c low a m here =
    elim (c.each a m (omega arith) (omega (arith, complete.deeper a m))) [
      | inl k ↦ absurd (omega (arith, low (final_arc n arcs a) k))
      | inr k ↦ elim k [ inl l ↦ absurd l | inr l ↦ l ]
    ]

-- and the queue has the arcs from shallower levels
pub collect_last : (n i : ℕ) (arcs queue : List Arc) (rows : List SourceRow) (names : List Name)
    → Collects n i arcs queue [] rows names → ((q : Arc) → Has q queue → level_of q.source < i) → Queues n i (suc i) arcs queue
collect_last n i arcs queue rows names c low = record {
  from = λ q m.
      let (a, in_a, above, to, is_q) = c.queue_from q m in
      (a, in_a, omega (arith, low q m, ap (λ (x : Arc). level_of x.source) is_q), to, is_q);
  each = λ a m above to. elim (c.each a m (omega arith) to) [
    | inl k ↦ k
    | inr k ↦ elim k [
      | inl l ↦ absurd l
      | inr l ↦ elim l [
        | inl (r, in_r, e) ↦
            let (b, in_b, here, source, _, _) = c.rows_right r in_r in
            absurd (omega (arith, ap level_of source, ap level_of e))
        | inr (r, in_r, e) ↦
            let (b, in_b, here, source, _) = c.names_right r in_r in
            absurd (omega (arith, ap level_of source, ap level_of e))
      ]
    ]
  ];
}
