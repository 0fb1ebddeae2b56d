-- The collecting of sources keeps what remains of a reduction.
use Rattle.std.proofs.lemmas.Bool.Decides.{nat_tests}
use Rattle.std.proofs.Common.{◌≡◌, ◌≢◌, ℕ, ◌≤◌, ◌<◌, arith, refl, ap, sym, subst, ◌∙◌, inl, inr, List, ◌++◌}
use Rattle.std.specs.Prelude.{◌∷◌, [], ◌==◌, Bool, true, false, cond, Option, Some, None, Result, Ok, Err, OnOk, map}
use Rattle.std.specs.Option.{unwrap_or}
use Rattle.rec_words.specs.Words.{level_of, terminal}
use Rattle.rec_words.specs.declared.node.Node.{Node}
use Rattle.canon_file.specs.declared.row.Row.{Row}
use Rattle.canon_file.specs.Members.{Has, SameMembers}
use Rattle.canon_file.specs.Pairs.{differs}
use Rattle.arc_file.specs.declared.arc.Arc.{Arc}
use Rattle.arc_diagrams.specs.Arcs.{targets_of, IsComplete}
use Rattle.arc_diagrams.specs.Items.{as_arc, pair}
use Rattle.arc_diagrams.specs.Reduction.{AreFinal}
use Rattle.arc_diagrams.specs.Reducing.{IsCollecting, noted_arcs}
use Rattle.arc_diagrams.specs.declared.final_arc.FinalArc.{FinalArc}
use Rattle.arc_diagrams.specs.declared.source_row.SourceRow.{SourceRow}
use Rattle.arc_diagrams.specs.declared.name.Name.{Name}
use Rattle.arc_diagrams.proofs.FinalLaws.{finds_final}
use Rattle.arc_diagrams.proofs.ListViews.{same_self, same_permuted, taken_last}
use Rattle.arc_diagrams.proofs.NotedArcs.{noted-pair, noted_source, low_known, high_known, low_there, high_there}
use Rattle.arc_diagrams.proofs.SameLists.{collects-same, noted-same}
use Rattle.arc_diagrams.proofs.Phases.{one_noted, one_passed, row_closed, name_closed, rows_begin, level_opens}
use Rattle.arc_diagrams.proofs.Collecting.{all_below}
use Rattle.arc_diagrams.proofs.ItemOrders.{rising}
use Rattle.arc_diagrams.proofs.RowPlaces.{has_right}
use Rattle.std.specs.List.Sorted.{IsPermutation}
use Rattle.shelf_model.specs.declared.sort_fault.SortFault.{SortFault}
use Rattle.shelf_model.specs.World.{World}
use Rattle.reduce_lists.specs.Contents.{Contents, Holds, IsTakenTo, to_collect}
use Rattle.reduce_lists.specs.Changes.{JoinsRows, JoinsNames, IsAt, IsGreatest, Passes}
use Rattle.reduce_sweep.specs.declared.phase.Phase.TheVariants.{Between, Collect, Number}
use Rattle.reduce_sweep.specs.declared.place.Place.{Place}
use Rattle.reduce_sweep.specs.declared.source.Source.{Source}
use Rattle.reduce_sweep.specs.declared.reduce.ReduceSweep.{ReduceSweep}
use Rattle.reduce_sweep.specs.Sweeps.{held_of}
use Rattle.reduce_sweep.specs.Sources as sources
use Rattle.reduce_sweep.specs.Remaining.{Diagram, IsLeft, IsWorking, RemainsAt, IsBetween, IsCollected, noted}
use Rattle.reduce_sweep.specs.Changes.{JoinsOne, IsClosed, Closes}

-- an arc of the source was noted
abbrev HasOne : Source → Type 0
HasOne s = (p : Arc) × Has p (noted s)

-- rows and names in another order are the same
listed-same : (n root i : ℕ) (arcs queue held unread : List Arc) (rows other_rows : List SourceRow) (names other_names : List Name) (nodes : List Node) (known : Option ℕ)
    → SameMembers rows other_rows → SameMembers names other_names
    → IsCollecting n root i arcs queue held unread rows names nodes known → IsCollecting n root i arcs queue held unread other_rows other_names nodes known
listed-same n root i arcs queue held unread rows other_rows names other_names nodes known same_rows same_names s = record {
  level = s.level;
  collects = collects-same n i arcs queue queue held rows other_rows names other_names (same_self queue) same_rows same_names s.collects;
  leaves = s.leaves;
  made = s.made;
  root_known = s.root_known;
}

-- so are the noted arcs
arcs-same : (n root i : ℕ) (arcs queue held other unread : List Arc) (rows : List SourceRow) (names : List Name) (nodes : List Node) (known : Option ℕ)
    → SameMembers held other
    → IsCollecting n root i arcs queue held unread rows names nodes known → IsCollecting n root i arcs queue other unread rows names nodes known
arcs-same n root i arcs queue held other unread rows names nodes known same s = record {
  level = s.level;
  collects = noted-same n i arcs queue held other rows names same s.collects;
  leaves = s.leaves;
  made = s.made;
  root_known = s.root_known;
}

-- no arc in the list is of the source at hand
abbrev NoneOf : Source → List Arc → Type 0
NoneOf s queue = (q : Arc) → Has q queue → q.source ≢ s.uid

-- a source's row has the targets of its arcs
pointer-or : (o : Option ℕ) → sources.pointer_of o ≡ unwrap_or o (terminal false)
pointer-or None = refl
pointer-or (Some v) = refl

row-pair : (s : Source) → pair (sources.row_of s) ≡ targets_of (noted s) s.uid
row-pair s = (λ j. record { low = pointer-or s.low j; high = pointer-or s.high j }) ∙ sym (noted-pair s.uid s.low s.high)

module _ (n root i : ℕ) (arcs queue unread : List Arc) (nodes : List Node) (known : Option ℕ) (complete : IsComplete n root arcs) (final : AreFinal n arcs) where
  -- a source becomes a row where its two targets differ, and else gets its name
  one-closed : (s : Source) (rows more_rows : List SourceRow) (names more_names : List Name) (differ : Bool) → differs (pair (sources.row_of s)) ≡ differ → HasOne s
      → JoinsOne differ (sources.row_of s) rows names more_rows more_names → ((q : Arc) → Has q queue → q.source ≢ s.uid)
      → IsCollecting n root i arcs queue (noted s) unread rows names nodes known → IsCollecting n root i arcs queue [] unread more_rows more_names nodes known
  one-closed s rows more_rows names more_names true differ (p, member) (joined, same) none c =
      let of_s : p.source ≡ s.uid = noted_source s.uid s.low s.high p member in
      subst (λ ms. IsCollecting n root i arcs queue [] unread more_rows ms nodes known) same
      (listed-same n root i arcs queue [] unread (sources.row_of s ∷ rows) more_rows names names nodes known (same_permuted (sources.row_of s ∷ rows) more_rows joined) (same_self names)
      (row_closed n root i arcs queue (noted s) unread rows names nodes known p (sources.row_of s) complete member (λ q m e. none q m (e ∙ of_s))
      (row-pair s ∙ ap (targets_of (noted s)) (sym of_s)) (sym of_s) differ c))
  one-closed s rows more_rows names more_names false differ (p, member) (same, joined) none c =
      let of_s : p.source ≡ s.uid = noted_source s.uid s.low s.high p member in
      let m : Name = record { source = s.uid; pointer = sources.pointer_of s.low } in
      let targets : pair (sources.row_of s) ≡ targets_of (noted s) p.source = row-pair s ∙ ap (targets_of (noted s)) (sym of_s) in
      subst (λ rs. IsCollecting n root i arcs queue [] unread rs more_names nodes known) same
      (listed-same n root i arcs queue [] unread rows rows (m ∷ names) more_names nodes known (same_self rows) (same_permuted (m ∷ names) more_names joined)
      (name_closed n root i arcs queue (noted s) unread rows names nodes known p m complete final member (λ q k e. none q k (e ∙ of_s))
      (sym of_s) (ap (λ (r : Row). r.low) targets) (ap differs (sym targets) ∙ differ) c))

  -- the source at hand is closed, where no arc of it is left to be collected
  pub source_closed : (s : Source) (rows more_rows : List SourceRow) (names more_names : List Name) → HasOne s → IsClosed (Some s) rows names more_rows more_names → NoneOf s queue
      → IsCollecting n root i arcs queue (noted s) unread rows names nodes known → IsCollecting n root i arcs queue [] unread more_rows more_names nodes known
  source_closed s rows more_rows names more_names one closed none c =
      one-closed s rows more_rows names more_names (differs (pair (sources.row_of s))) refl one closed none c

  -- an arc of the source at hand is noted, where its side isn't known yet, and passed by where it is
  more-noted : (rest : List Arc) (rows : List SourceRow) (names : List Name) (uid w : ℕ) (side : Bool) (low high : Option ℕ)
      → SameMembers queue (record { source = uid; high = side; target = w } ∷ rest) → ((x : Arc) → Has x rest → x.source ≤ uid) → level_of uid ≡ i
      → IsCollecting n root i arcs queue (noted_arcs uid low high) unread rows names nodes known
      → IsCollecting n root i arcs rest (noted (sources.noted side w (record { uid = uid; low = low; high = high }))) unread rows names nodes known
  more-noted rest rows names uid w false None high taken greatest here c =
      arcs-same n root i arcs rest (record { source = uid; high = false; target = w } ∷ noted_arcs uid None high) (noted_arcs uid (Some w) high) unread rows names nodes known (low_known uid w high)
      (one_noted n root i arcs queue rest (noted_arcs uid None high) unread rows names nodes known (record { source = uid; high = false; target = w }) taken greatest here
      (noted_source uid None high) c)
  more-noted rest rows names uid w false (Some v) high taken greatest here c =
      one_passed n root i arcs queue rest (noted_arcs uid (Some v) high) unread rows names nodes known (record { source = uid; high = false; target = v })
      (record { source = uid; high = false; target = w }) complete taken (low_there uid v high) refl refl c
  more-noted rest rows names uid w true low None taken greatest here c =
      arcs-same n root i arcs rest (record { source = uid; high = true; target = w } ∷ noted_arcs uid low None) (noted_arcs uid low (Some w)) unread rows names nodes known (high_known uid w low)
      (one_noted n root i arcs queue rest (noted_arcs uid low None) unread rows names nodes known (record { source = uid; high = true; target = w }) taken greatest here
      (noted_source uid low None) c)
  more-noted rest rows names uid w true low (Some v) taken greatest here c =
      one_passed n root i arcs queue rest (noted_arcs uid low (Some v)) unread rows names nodes known (record { source = uid; high = true; target = v })
      (record { source = uid; high = true; target = w }) complete taken (high_there uid v low) refl refl c

  one-more : (rest : List Arc) (rows : List SourceRow) (names : List Name) (s : Source) (a : FinalArc) → s.uid ≡ a.source
      → SameMembers queue (as_arc a ∷ rest) → ((x : Arc) → Has x rest → x.source ≤ a.source) → level_of a.source ≡ i
      → IsCollecting n root i arcs queue (noted s) unread rows names nodes known
      → IsCollecting n root i arcs rest (noted (sources.noted a.high a.target s)) unread rows names nodes known
  one-more rest rows names s a same taken greatest here c =
      more-noted rest rows names s.uid a.target a.high s.low s.high
      (subst (λ v. SameMembers queue (record { source = v; high = a.high; target = a.target } ∷ rest)) (sym same) taken)
      (λ x m. omega (arith, greatest x m, same)) (ap level_of same ∙ here) c

-- a source of which an arc was noted has one
one-there : (side : Bool) (w : ℕ) (s : Source) → HasOne (sources.noted side w s)
one-there false w s = by s.low
  where
    by : (low : Option ℕ) → HasOne (sources.noted false w (record s { low = low }))
    by None = (record { source = s.uid; high = false; target = w }, low_there s.uid w s.high)
    by (Some v) = (record { source = s.uid; high = false; target = v }, low_there s.uid v s.high)
one-there true w s = by s.high
  where
    by : (high : Option ℕ) → HasOne (sources.noted true w (record s { high = high }))
    by None = (record { source = s.uid; high = true; target = w }, high_there s.uid w s.low)
    by (Some v) = (record { source = s.uid; high = true; target = v }, high_there s.uid v s.low)

-- the first arc of a source is noted, where none is at hand
first_noted_one : (n root i : ℕ) (arcs queue rest unread : List Arc) (rows : List SourceRow) (names : List Name) (nodes : List Node) (known : Option ℕ) (a : FinalArc)
    → IsComplete n root arcs → AreFinal n arcs → SameMembers queue (as_arc a ∷ rest) → ((x : Arc) → Has x queue → x.source ≤ a.source) → level_of a.source ≡ i
    → IsCollecting n root i arcs queue [] unread rows names nodes known → IsCollecting n root i arcs rest (noted (sources.first_noted a)) unread rows names nodes known × HasOne (sources.first_noted a)
first_noted_one n root i arcs queue rest unread rows names nodes known a complete final taken greatest here c =
    let fresh : Source = record { uid = a.source; low = None; high = None } in (
      one-more n root i arcs queue unread nodes known complete final rest rows names fresh a refl taken (λ x m. greatest x (taken.back x (inr m))) here c,
      one-there a.high a.target fresh,
    )

-- the greatest arc is noted: it goes on with the source at hand, or that one is closed before
arc-noted : (n root i : ℕ) (arcs queue rest unread : List Arc) (s : Source) (rows more_rows : List SourceRow) (names more_names : List Name) (nodes : List Node) (known : Option ℕ) (a : FinalArc)
    → IsComplete n root arcs → AreFinal n arcs → HasOne s → SameMembers queue (as_arc a ∷ rest) → ((x : Arc) → Has x queue → x.source ≤ a.source) → level_of a.source ≡ i
    → IsClosed (sources.closed_by s a) rows names more_rows more_names
    → IsCollecting n root i arcs queue (noted s) unread rows names nodes known
    → IsCollecting n root i arcs rest (noted (sources.noted_with s a)) unread more_rows more_names nodes known × HasOne (sources.noted_with s a)
arc-noted n root i arcs queue rest unread s rows more_rows names more_names nodes known a complete final one taken greatest here = on (s.uid == a.source) refl
  where
    on : (same : Bool) → (s.uid == a.source) ≡ same → IsClosed (cond same None (Some s)) rows names more_rows more_names
        → IsCollecting n root i arcs queue (noted s) unread rows names nodes known
        → IsCollecting n root i arcs rest (noted (cond same (sources.noted a.high a.target s) (sources.first_noted a))) unread more_rows more_names nodes known
        × HasOne (cond same (sources.noted a.high a.target s) (sources.first_noted a))
    on true test (same_rows, same_names) c = (
      one-more n root i arcs queue unread nodes known complete final rest more_rows more_names s a (grind (arith, nat_tests)) taken (λ x m. greatest x (taken.back x (inr m))) here
          (subst (λ v. v) (λ j. IsCollecting n root i arcs queue (noted s) unread (same_rows j) (same_names j) nodes known) c),
      one-there a.high a.target s,
    )
    on false test closed c =
        let (p, member) = one in
        let of_s : p.source ≡ s.uid = noted_source s.uid s.low s.high p member in
        let other : s.uid ≢ a.source = grind (arith, nat_tests) in
        let below : a.source ≤ p.source = c.collects.queue_below p member (as_arc a) (taken.back (as_arc a) (inl refl)) in
        first_noted_one n root i arcs queue rest unread more_rows more_names nodes known a complete final taken greatest here
        (source_closed n root i arcs queue unread nodes known complete final s rows more_rows names more_names one closed
        (λ q m same. omega (arith, other, below, of_s, same, greatest q m)) c)

-- where each arc in the list is of a shallower level than i, none is of the source at hand, which is of level i
none-left : (n root i : ℕ) (arcs queue unread : List Arc) (s : Source) (rows : List SourceRow) (names : List Name) (nodes : List Node) (known : Option ℕ)
    → HasOne s → ((q : Arc) → Has q queue → level_of q.source < i)
    → IsCollecting n root i arcs queue (noted s) unread rows names nodes known → NoneOf s queue
none-left n root i arcs queue unread s rows names nodes known (p, member) low c = λ q m same.
    let of_s : p.source ≡ s.uid = noted_source s.uid s.low s.high p member in
    omega (arith, low q m, ap level_of (same ∙ sym of_s), (c.collects.noted_from p member).1)

-- what is to be collected, without the arc that comes next
pub rest_of : (queued : Bool) (t : ReduceSweep) (world : World) (k l : Contents) (a : FinalArc) → l.queue ≡ k.queue
    → l.ends ≡ k.ends → Passes queued (held_of t) world l a
    → (m : Contents) × SameMembers (to_collect k) (as_arc a ∷ to_collect m) × Holds t.ahead t.lists t.writer world m × (m.inner ≡ l.inner) × (m.rows ≡ l.rows) × (m.names ≡ l.names) × (m.nodes ≡ l.nodes)
    × ((i : ℕ) → i ≤ level_of a.source → IsTakenTo i l.last → IsTakenTo i m.last)
rest_of true t world k l a queue ends (rest, first, holds) = (
  record l { queue = rest; last = Some a },
  subst (λ v. v) (λ j. SameMembers (map as_arc ((sym first ∙ queue) j) ++ ends j) (as_arc a ∷ (map as_arc rest ++ l.ends))) (same_self (as_arc a ∷ (map as_arc rest ++ l.ends))),
  holds,
  refl,
  refl,
  refl,
  refl,
  λ i deep taken. deep,
)
rest_of false t world k l a queue ends (front, last, holds) = (
  record l { ends = front },
  subst (λ v. v) (λ j. SameMembers (map as_arc (queue j) ++ (sym last ∙ ends) j) (as_arc a ∷ (map as_arc l.queue ++ front))) (taken_last (map as_arc l.queue) front (as_arc a)),
  holds,
  refl,
  refl,
  refl,
  refl,
  λ i deep taken. taken,
)

-- an arc that comes next still does once a source is closed
pub at_closed : (queued : Bool) (k : Contents) (rows : List SourceRow) (names : List Name) (a : FinalArc) → IsAt queued k a → IsAt queued (record k { rows = rows; names = names }) a
at_closed true k rows names a at = at
at_closed false k rows names a at = at

-- an arc of the level was noted and passed over: what remains is kept
pub arc_collected : (p : Place) (s : Source) (u : ReduceSweep) (world : World) (d : Diagram) (k : Contents) (queued : Bool) (a : FinalArc) (rows : List SourceRow) (names : List Name)
    → p.phase ≡ Collect s → u.place ≡ record p { phase = Collect (sources.noted_with s a) } → IsLeft p d k → IsGreatest k a → level_of a.source ≡ p.level
    → IsClosed (sources.closed_by s a) k.rows k.names rows names
    → Passes queued (held_of u) world (record k { rows = rows; names = names }) a → IsWorking u world d
arc_collected p s u world d k queued a rows names phase place left greatest here closed passes =
    let are : IsCollected p.variables p.arcs.root p.level p.known s d k = subst (λ f. RemainsAt f p.variables p.arcs.root p.level p.known d k) phase left.remains in
    let complete = left.is_of.diagram.complete in
    let (m, same, holds, inner_is, rows_is, names_is, nodes_is, taken) = rest_of queued u world k (record k { rows = rows; names = names }) a refl refl passes in
    let (collecting, one) = arc-noted p.variables p.arcs.root p.level d.arcs (to_collect k) (to_collect m) k.inner s k.rows rows k.names names k.nodes (Some p.known) a
    complete (finds_final p.variables p.arcs.root d.arcs left.is_of.few complete) are.one same greatest here closed are.collecting in
    record {
      contents = m;
      holds = holds;
      left = subst (λ (q : Place). IsLeft q d m) (sym place) (record {
        is_of = left.is_of;
        taken = taken p.level (omega (arith, here)) left.taken;
        remains = record {
          collecting = subst (λ v. v) (λ j. IsCollecting p.variables p.arcs.root p.level d.arcs (to_collect m) (noted (sources.noted_with s a)) (sym inner_is j) (sym rows_is j) (sym names_is j) (sym nodes_is j) (Some p.known)) collecting;
          one = one;
        };
      });
    }

-- the sources of the level are collected, and the last of them is closed
pub level_collected : (p : Place) (s : Source) (u : ReduceSweep) (world : World) (d : Diagram) (k : Contents)
    → p.phase ≡ Collect s → u.place ≡ record p { phase = Number (record { number = 0; last = None }) } → IsLeft p d k → ((q : Arc) → Has q (to_collect k) → level_of q.source < p.level)
    → Closes (Some s) u world k → IsWorking u world d
level_collected p s u world d k phase place left low (rows, names, closed, holds) =
    let are : IsCollected p.variables p.arcs.root p.level p.known s d k = subst (λ f. RemainsAt f p.variables p.arcs.root p.level p.known d k) phase left.remains in
    let complete = left.is_of.diagram.complete in
    let collected = source_closed p.variables p.arcs.root p.level d.arcs (to_collect k) k.inner k.nodes (Some p.known) complete (finds_final p.variables p.arcs.root d.arcs left.is_of.few complete)
    s k.rows rows k.names names are.one closed
    (none-left p.variables p.arcs.root p.level d.arcs (to_collect k) k.inner s k.rows k.names k.nodes (Some p.known) are.one low are.collecting) are.collecting in
    record {
      contents = record k { rows = rows; names = names };
      holds = holds;
      left = subst (λ (q : Place). IsLeft q d (record k { rows = rows; names = names })) (sym place) (record {
        is_of = left.is_of;
        taken = left.taken;
        remains = record {
          done = [];
          numbering = rows_begin p.variables p.arcs.root p.level d.arcs (to_collect k) k.inner rows names k.nodes (Some p.known) complete low (rising rows holds.rows_is.ascends) collected;
          number_is = refl;
        };
      });
    }

-- an arc that comes next is one of those to collect
pub at_member : (k : Contents) (queued : Bool) (a : FinalArc) → IsAt queued k a → Has (as_arc a) (to_collect k)
at_member k true a at = subst (λ (queue : List FinalArc). Has (as_arc a) (map as_arc queue ++ k.ends)) (sym at.1) (inl refl)
at_member k false a at = subst (λ (ends : List Arc). Has (as_arc a) (map as_arc k.queue ++ ends)) (sym at.1)
    (has_right (as_arc a) (map as_arc k.queue) (at.0 ++ as_arc a ∷ []) (has_right (as_arc a) at.0 (as_arc a ∷ []) (inl refl)))

-- the arc that comes next is of no deeper level
pub next_within : (p : Place) (s : Source) (d : Diagram) (k : Contents) (queued : Bool) (a : FinalArc) → p.phase ≡ Collect s → IsLeft p d k → IsAt queued k a → level_of a.source ≤ p.level
next_within p s d k queued a phase left at =
    let are : IsCollected p.variables p.arcs.root p.level p.known s d k = subst (λ f. RemainsAt f p.variables p.arcs.root p.level p.known d k) phase left.remains in
    let (b, in_b, above, to, is_b) = are.collecting.collects.queue_from (as_arc a) (at_member k queued a at) in
    omega (arith, above, ap (λ (x : Arc). level_of x.source) is_b)

-- where the arc that comes first is of a shallower level, each is; and so it is where there is none
pub arc_below : (i : ℕ) (k : Contents) (a : FinalArc) → IsGreatest k a → level_of a.source < i → (q : Arc) → Has q (to_collect k) → level_of q.source < i
arc_below i k a greatest low q m = all_below i (to_collect k) (as_arc a) greatest low q m

pub none_below : (i : ℕ) (k : Contents) → to_collect k ≡ [] → (q : Arc) → Has q (to_collect k) → level_of q.source < i
none_below i k none q m = absurd (subst (Has q) none m)

-- between levels an arc that is to be collected is of a level that isn't done
pub is_shallower : (p : Place) (d : Diagram) (k : Contents) (a : FinalArc) → p.phase ≡ Between → IsLeft p d k → Has (as_arc a) (to_collect k) → level_of a.source < p.level
is_shallower p d k a phase left member =
    let between : IsBetween p.variables p.arcs.root p.level p.known d k = subst (λ f. RemainsAt f p.variables p.arcs.root p.level p.known d k) phase left.remains in
    let (b, _, above, _, is) = between.remains.queued.from (as_arc a) member in
    subst (λ source. level_of source < p.level) (ap (λ (x : Arc). x.source) is) above

-- the level of the arc that comes next opens, and the arc is noted
pub level_opened : (p : Place) (u : ReduceSweep) (at_last : Place) (world : World) (d : Diagram) (k : Contents) (queued : Bool) (a : FinalArc)
    → p.phase ≡ Between → at_last ≡ record p { level = level_of a.source; phase = Collect (sources.first_noted a) } → IsLeft p d k → IsAt queued k a → IsGreatest k a
    → Passes queued (held_of u) world k a → IsWorking (record u { place = at_last }) world d
level_opened p u at_last world d k queued a phase place left at greatest passes =
    let between : IsBetween p.variables p.arcs.root p.level p.known d k = subst (λ f. RemainsAt f p.variables p.arcs.root p.level p.known d k) phase left.remains in
    let complete = left.is_of.diagram.complete in
    let member = at_member k queued a at in
    let shallower : level_of a.source < p.level = is_shallower p d k a phase left member in
    let (m, same, holds, inner_is, rows_is, names_is, nodes_is, taken) = rest_of queued u world k k a refl refl passes in
    let opens = level_opens p.variables p.arcs.root p.level d.arcs (to_collect k) k.inner k.nodes (Some p.known) (as_arc a) between.within complete member greatest between.remains in
    let (collecting, one) = first_noted_one p.variables p.arcs.root (level_of a.source) d.arcs (to_collect k) (to_collect m) k.inner [] [] k.nodes (Some p.known) a
    complete (finds_final p.variables p.arcs.root d.arcs left.is_of.few complete) same greatest refl opens in
    record {
      contents = m;
      holds = holds;
      left = subst (λ (q : Place). IsLeft q d m) (sym place) (record {
        is_of = left.is_of;
        taken = taken (level_of a.source) (omega arith) (less k.last left.taken shallower);
        remains = record {
          collecting = subst (λ v. v) (λ j. IsCollecting p.variables p.arcs.root (level_of a.source) d.arcs (to_collect m) (noted (sources.first_noted a)) (sym inner_is j)
              ((sym between.no_rows ∙ sym rows_is) j) ((sym between.no_names ∙ sym names_is) j) (sym nodes_is j) (Some p.known)) collecting;
          one = one;
        };
      });
    }
  where
    less : (last : Option FinalArc) → IsTakenTo p.level last → level_of a.source < p.level → IsTakenTo (level_of a.source) last
    less None below shallower = tt
    less (Some x) below shallower = omega (arith, below, shallower)

-- a source whose pointers are equal is closed by its name
pub name_closes : (s : Source) (t u : ReduceSweep) (told : Type 0) (old new : World) (m : Name) (result : Result Unit SortFault) → differs (pair (sources.row_of s)) ≡ false
    → m ≡ record { source = (sources.row_of s).source; pointer = (sources.row_of s).low }
    → OnOk result (told → (k : Contents) → Holds t.ahead t.lists t.writer old k → JoinsNames (held_of u) new k m)
    → OnOk result (told → (k : Contents) → Holds t.ahead t.lists t.writer old k → Closes (Some s) u new k)
name_closes s t u told old new m (Ok x) same is joined = λ tell k holds.
    let (names, permuted, held) = joined tell k holds in (
      k.rows,
      names,
      subst (λ b. JoinsOne b (sources.row_of s) k.rows k.names k.rows names) (sym same) (refl, subst (λ (v : Name). IsPermutation (v ∷ k.names) names) is permuted),
      held,
    )
name_closes s t u told old new m (Err e) same is joined = tt

-- another one is closed by its row
pub row_closes : (s : Source) (t u : ReduceSweep) (told : Type 0) (old new : World) (r : SourceRow) (result : Result Unit SortFault) → differs (pair (sources.row_of s)) ≡ true → r ≡ sources.row_of s
    → OnOk result (told → (k : Contents) → Holds t.ahead t.lists t.writer old k → JoinsRows (held_of u) new k r)
    → OnOk result (told → (k : Contents) → Holds t.ahead t.lists t.writer old k → Closes (Some s) u new k)
row_closes s t u told old new r (Ok x) other is joined = λ tell k holds.
    let (rows, permuted, held) = joined tell k holds in (
      rows,
      k.names,
      subst (λ b. JoinsOne b (sources.row_of s) k.rows k.names rows k.names) (sym other) (subst (λ (v : SourceRow). IsPermutation (v ∷ k.rows) rows) is permuted, refl),
      held,
    )
row_closes s t u told old new r (Err e) other is joined = tt
