-- The nodes of a canonical file, with exchanged truth values, as the sources of the complement.
use Rattle.std.specs.Prelude.{◌≡◌, ℕ, zero, suc, ◌-◌, ◌*◌, ◌^◌, ◌<◌, ◌≤◌, Bool, true, false, List, [], ◌∷◌, length, take}
use Rattle.std.proofs.Common.{refl, sym, ◌∙◌, ap, subst, inl, inr, arith}
use Rattle.std.proofs.lemmas.List.{length-map, length-take-le, get_or-take}
use Rattle.rec_words.specs.Words.{level_of}
use Rattle.rec_words.specs.Records.{node_words}
use Rattle.rec_words.specs.declared.rec.Rec.{Rec}
use Rattle.rec_words.specs.declared.node.Node.{Node}
use Rattle.list_laws.specs.Members.{Has}
use Rattle.list_laws.proofs.MemberLaws.{has_map, map_has}
use Rattle.list_laws.proofs.SameMembers.{has_at}
use Rattle.run_files.specs.Items.{record_at}
use Rattle.block_stream.specs.Items.{item_record}
use Rattle.canon_file.specs.Canon.{canon_nodes, canon_root}
use Rattle.canon_file.specs.Laws.{HasForm}
use Rattle.canon_file.specs.NodeFiles.{IsDescending, IsNodeFile}
use Rattle.canon_file.proofs.FileLaws.{is_node_file}
use Rattle.arc_file.specs.declared.arc.Arc.{Arc}
use Rattle.arc_diagrams.specs.Arcs.{targets_of, IsMet, arcs_of}
use Rattle.arc_diagrams.specs.Laws.{IsDiagramOf}
use Rattle.arc_diagrams.proofs.CanonArcs.{arc_to, has_arc_to, canon_is_diagram}
use Rattle.arc_diagrams.proofs.TargetLaws.{the_target}
use Rattle.node_file.specs.Nodes.{node_records}
use Rattle.room_reduction.specs.Records.{word}
use Rattle.room_reduction.specs.Reading.{HoldNodes}
use Rattle.room_reduction.specs.Complements.{complement, other_end, other_arc, other_arcs, AreOthers}
use Rattle.room_reduction.specs.Sources.{AreSources}
use Rattle.room_reduction.proofs.LevelSources.{member_place}
use Rattle.room_reduction.proofs.ComplementLaws.{other_diagram}

-- there are two arcs of each node
pub arcs_many : (xs : List Node) → length (arcs_of xs) ≡ 2 * length xs
arcs_many [] = refl
arcs_many (x ∷ xs) = let later = arcs_many xs in omega (arith, later)

-- so those of few nodes, with exchanged truth values, are no more than a diagram that is reduced may have
pub few_others : (xs : List Node) → length xs < 65536 → length (other_arcs (arcs_of xs)) ≤ 2 ^ 47
few_others xs few =
    let arcs = arcs_many xs in
    let many = length-map (arcs_of xs) other_arc in
    omega (arith, arcs, many, few)

-- each arc is of a node
arc_node : (a : Arc) (xs : List Node) → Has a (arcs_of xs) → (x : Node) × Has x xs × (x.uid ≡ a.source)
arc_node a [] m = absurd m
arc_node a (x ∷ xs) (inl e) = (x, inl refl, ap (λ (b : Arc). b.source) e)
arc_node a (x ∷ xs) (inr (inl e)) = (x, inl refl, ap (λ (b : Arc). b.source) e)
arc_node a (x ∷ xs) (inr (inr m)) = let (y, k, e) = arc_node a xs m in (y, inr k, e)

-- at each place of nodes' records is that of a node
node_there : (xs : List Node) (k : ℕ) → k < length xs
    → (x : Node) × Has x xs × (item_record node_words x ≡ record_at (node_records xs) k)
node_there xs k below =
    map_has (item_record node_words) (record_at (node_records xs) k) xs
    (has_at (node_records xs) k (record { w = [] }) (omega (arith, below, length-map xs (item_record node_words))))

-- identifiers descend from place to place
descend_there : (xs : List Node) (a b : ℕ) → IsDescending xs → a < b → b < length xs
    → word 0 (record_at (node_records xs) b) < word 0 (record_at (node_records xs) a)
descend_there [] a b down order below = absurd (omega (arith, below))
descend_there (x ∷ xs) a zero down order below = absurd (omega (arith, order))
descend_there (x ∷ xs) zero (suc b) down order below =
    let (y, m, e) = node_there xs b (omega (arith, below)) in
    subst (λ w. w < x.uid) (ap (word 0) e) (down.0 y m)
descend_there (x ∷ xs) (suc a) (suc b) down order below =
    descend_there xs a b down.1 (omega (arith, order)) (omega (arith, below))

module _ (n : ℕ) (t : List Bool) (form : HasForm n t) (count : ℕ) (nodes others : List Rec)
    (count_is : count ≡ length (canon_nodes n t)) (held : HoldNodes count (node_records (canon_nodes n t)) nodes)
    (are : AreOthers count nodes others) (within : count ≤ length others) where
  abbrev xs : List Node
  xs = canon_nodes n t

  abbrev arcs : List Arc
  arcs = other_arcs (arcs_of (canon_nodes n t))

  abbrev root : ℕ
  root = other_end (canon_root n t)

  abbrev sources : List Rec
  sources = take count others

  rules : IsNodeFile n t
  rules = is_node_file n t form.few form.whole form.fits

  -- the other arcs are a diagram of the complement
  pub complement_diagram : IsDiagramOf n root arcs (complement t)
  complement_diagram =
      other_diagram n (canon_root n t) (arcs_of (canon_nodes n t)) t form.few (canon_is_diagram n t form)

  long : length sources ≡ count
  long = length-take-le count others within

  -- the source at a place has the words of the node at its place from the end
  source_at : (k c : ℕ) → k < count → c < 3
      → word c (record_at nodes (count - 1 - k)) ≡ word c (record_at (node_records xs) (count - 1 - k))
  source_at k c below few = held (count - 1 - k) c (omega (arith, below)) few

  source_is : (k : ℕ) → k < count → record_at sources k ≡ record_at others k
  source_is k below = get_or-take count others k (record { w = [] }) below

  uid_at : (k : ℕ) → k < count → word 0 (record_at sources k) ≡ word 0 (record_at (node_records xs) (count - 1 - k))
  uid_at k below = ap (word 0) (source_is k below) ∙ (are k below).uid ∙ source_at k 0 below (omega arith)

  -- it is that of a node
  of_node : (r : Rec) → Has r sources
      → (x : Node) × Has x xs × (word 0 r ≡ x.uid) × (word 1 r ≡ other_end x.low) × (word 2 r ≡ other_end x.high)
  of_node r m =
      let (k, inside, at) = member_place r sources m in
      let below : k < count = omega (arith, inside, long) in
      let (x, member, is) = node_there xs (count - 1 - k) (omega (arith, below, count_is)) in
      let here : r ≡ record_at others k = sym at ∙ source_is k below in (
        x,
        member,
        ap (word 0) here ∙ (are k below).uid ∙ source_at k 0 below (omega arith) ∙ ap (word 0) (sym is),
        ap (word 1) here ∙ (are k below).low
            ∙ ap other_end (source_at k 1 below (omega arith) ∙ ap (word 1) (sym is)),
        ap (word 2) here ∙ (are k below).high
            ∙ ap other_end (source_at k 2 below (omega arith) ∙ ap (word 2) (sym is)),
      )

  -- and each node has one
  node_source : (x : Node) → Has x xs → (r : Rec) × Has r sources × (word 0 r ≡ x.uid)
  node_source x m =
      let (j, inside, at) = member_place (item_record node_words x) (node_records xs)
      (has_map (item_record node_words) x xs m) in
      let early : j < count = omega (arith, inside, count_is, length-map xs (item_record node_words)) in
      let below : count - 1 - j < count = omega (arith, early) in
      let back : count - 1 - (count - 1 - j) ≡ j = omega (arith, early) in (
        record_at sources (count - 1 - j),
        has_at sources (count - 1 - j) (record { w = [] }) (omega (arith, below, long)),
        uid_at (count - 1 - j) below ∙ ap (λ p. word 0 (record_at (node_records xs) p)) back ∙ ap (word 0) at,
      )

  other_has : (x : Node) (side : Bool) → Has x xs → Has (other_arc (arc_to x side)) arcs
  other_has x side m = has_map other_arc (arc_to x side) (arcs_of xs) (has_arc_to x side xs m)

  -- so they are the sources of that diagram
  pub complement_sources : AreSources n root arcs sources
  complement_sources = record {
    ascend = λ j k order below.
        let far : k < count = omega (arith, below, long) in
        let near : j < count = omega (arith, order, far) in
        let descends = descend_there xs (count - 1 - k) (count - 1 - j) rules.descend (omega (arith, order, far))
        (omega (arith, near, count_is)) in
        let first = uid_at j near in
        let second = uid_at k far in
        omega (arith, descends, first, second);
    met = λ r m.
        let (x, member, uid, low, high) = of_node r m in
        subst (IsMet root arcs) (sym uid)
        (complement_diagram.complete.met (other_arc (arc_to x false)) (other_has x false member));
    within = λ r m.
        let (x, member, uid, low, high) = of_node r m in
        subst (λ w. level_of w < n) (sym uid) (rules.proper x member).level;
    each = λ a m.
        let (b, member, is) = map_has other_arc a (arcs_of xs) m in
        let (x, there, source) = arc_node b xs member in
        let (r, has, uid) = node_source x there in
        (r, has, uid ∙ source ∙ ap (λ (c : Arc). c.source) is);
    low = λ r m.
        let (x, member, uid, low, high) = of_node r m in
        low ∙ the_target n root arcs (other_arc (arc_to x false)) complement_diagram.complete (other_has x false member)
        ∙ ap (λ w. (targets_of arcs w).low) (sym uid);
    high = λ r m.
        let (x, member, uid, low, high) = of_node r m in
        high ∙ the_target n root arcs (other_arc (arc_to x true)) complement_diagram.complete (other_has x true member)
        ∙ ap (λ w. (targets_of arcs w).high) (sym uid);
  }
