-- Where a path has come to in the bytes of a file, and which node is missing.
use Rattle.std.specs.Prelude.{◌≡◌, ◌≢◌, ◌⊎◌, ℕ, ◌+◌, ◌-◌, ◌*◌, ◌/◌, ◌<◌, ◌≤◌, Bool, false, List, length, get_or, slice_index, Option, Some, IfSome}
use Rattle.std.proofs.Common.{refl, sym, ◌∙◌, ap, subst, inl, inr, arith}
use Rattle.std.proofs.lemmas.Bool.{cases_lt}
use Rattle.rec_words.specs.Words.{level_of, IsTerminal, IsNodeWord, IsPointer}
use Rattle.rec_words.specs.declared.node.Node.{Node}
use Rattle.block_stream.specs.Records.{record_at}
use Rattle.arc_diagrams.proofs.WordLaws.{level-terminal}
use Rattle.arc_diagrams.proofs.CanonArcs.{side_of}
use Rattle.node_file.specs.Nodes.{identifier_at, IsNodeAt, HasTrailer}
use Rattle.node_reading.specs.Reading.{count_of}
use Rattle.tuple_asks.proofs.OperandReading.{node_identifier}
use Rattle.node_reading.specs.Missing.{IsNamed, IsMissedAt}
use Rattle.restrict_eval.specs.Eval.{IsPath, IsPassed, side_by}

-- the pointer is that of a node where it is no truth value
pub node_word : (p : ℕ) → IsPointer p → ¬ IsTerminal p → IsNodeWord p
node_word p (inl node) other = node
node_word p (inr end) other = absurd (other end)

-- that of the last node is the root
last_is_root : (n l root : ℕ) (bytes : List ℕ) → HasTrailer n root bytes → l + 1 ≡ count_of bytes → identifier_at l bytes ≡ root
last_is_root n l root bytes has all =
    let some : 0 < count_of bytes = omega (arith, all) in
    let place : l ≡ length bytes / 24 - 2 = omega (arith, all) in
    ap (λ k. identifier_at k bytes) place ∙ (has.trailer.some some).1

-- a place from l on is l, or is behind it
place_from : (P : ℕ → Type 0) (l count : ℕ) → P l → ((k : ℕ) → l + 1 ≤ k → k < count → P k) → (k : ℕ) → l ≤ k → k < count → P k
place_from P l count here later k from below = elim (cases_lt l k) [
  | inl beyond ↦ later k (omega (arith, beyond)) below
  | inr until ↦ (let same : l ≡ k = omega (arith, from, until) in subst P same here)
]

module _ (n l root p : ℕ) (bytes : List ℕ) (x : Node) (at : IsNodeAt n l bytes x) (among : l < count_of bytes) (path : IsPath root (l + 1) bytes p) where
  uid : identifier_at l bytes ≡ x.uid
  uid = node_identifier n l bytes x at

  -- the node was found, and the path goes on to one of its sides
  pub path_found : (bits : List Bool) → x.uid ≡ p → IsPath root l bytes (side_by bits x)
  path_found bits same =
      let proper = at.proper in
      let b : Bool = get_or bits (level_of x.uid) false in
      let c : ℕ = side_by bits x in
      let above : x.uid < c = side_of (λ w. x.uid < w) x b (let d = proper.low in omega (arith, d)) (let d = proper.high in omega (arith, d)) in
      record {
        pointer = side_of IsPointer x b proper.words.low proper.words.high;
        above = place_from (λ k. identifier_at k bytes < c) l (count_of bytes) (omega (arith, above, uid))
            (λ k from below. let less : identifier_at k bytes < p = path.above k from below in omega (arith, less, same, above));
        named = inr (record {
          place = l;
          since = omega arith;
          among = among;
          side = side_of (λ w. (slice_index (record_at 3 l bytes).w 1 ≡ w) ⊎ (slice_index (record_at 3 l bytes).w 2 ≡ w)) x b
              (inl (sym (ap (λ (ws : List ℕ). slice_index ws 1) at.record_is.same)))
              (inr (sym (ap (λ (ws : List ℕ). slice_index ws 2) at.record_is.same)));
        });
      }

  module _ (has : HasTrailer n root bytes) where
    -- another node than the one that is looked for is named by a node that was read
    other_named : ¬ (x.uid ≡ p) → IsNamed bytes (l + 1) p
    other_named other = elim path.named [
      | inl first ↦ absurd (other (sym uid ∙ last_is_root n l root bytes has first.0 ∙ sym first.1))
      | inr named ↦ named
    ]

    -- the node lies before the one that is looked for
    pub path_on : x.uid < p → IsPath root l bytes p
    path_on less =
        let named = other_named (λ same. omega (arith, less, same)) in
        record {
          pointer = path.pointer;
          above = place_from (λ k. identifier_at k bytes < p) l (count_of bytes) (omega (arith, less, uid)) path.above;
          named = inr (record { place = named.place; since = (let since : l + 1 ≤ named.place = named.since in omega (arith, since)); among = named.among; side = named.side });
        }

    -- the node lies behind it
    pub path_past : (given : Option ℕ) → given ≡ Some x.uid → IsNodeWord p → p < x.uid → IsPassed l given bytes l
    path_past given last node greater =
        let named = other_named (λ same. omega (arith, greater, same)) in
        let since : l + 1 ≤ named.place = named.since in
        let within : named.place < count_of bytes = named.among in
        record {
          pointer = p;
          node = node;
          absent = place_from (λ k. identifier_at k bytes ≢ p) l (count_of bytes) (λ same. omega (arith, greater, uid, same))
              (λ k from below same. let less : identifier_at k bytes < p = path.above k from below in omega (arith, less, same));
          last = (x.uid, last, greater);
          read = omega arith;
          among = omega (arith, since, within);
          behind = path.above (l + 1) (omega arith) (omega (arith, since, within));
          before = omega (arith, greater, uid);
          named = named;
        }

-- one node more was read
pub passed_on : (n l q : ℕ) (given now : Option ℕ) (bytes : List ℕ) (x : Node) → IsNodeAt n l bytes x → IfSome given (λ g. g < x.uid) → now ≡ Some x.uid
    → IsPassed (l + 1) given bytes q → IsPassed l now bytes q
passed_on n l q given now bytes x at rises last passed =
    let p : ℕ = passed.pointer in
    let uid : identifier_at l bytes ≡ x.uid = node_identifier n l bytes x at in
    let up : passed.last.0 < x.uid = subst (λ o. IfSome o (λ g. g < x.uid)) passed.last.1 rises in
    let less : p < passed.last.0 = passed.last.2 in
    let read : l + 1 ≤ q = passed.read in
    record {
      pointer = p;
      node = passed.node;
      absent = place_from (λ k. identifier_at k bytes ≢ p) l (count_of bytes) (λ same. omega (arith, up, less, uid, same)) passed.absent;
      last = (x.uid, last, omega (arith, up, less));
      read = omega (arith, read);
      among = passed.among;
      behind = passed.behind;
      before = passed.before;
      named = passed.named;
    }

-- no node is left, and the one that is looked for is above all
pub missed_first : (n root p : ℕ) (bytes : List ℕ) → HasTrailer n root bytes → IsNodeWord p → IsPath root 0 bytes p → IsMissedAt bytes 0
missed_first n root p bytes has node path = elim path.named [
  | inl first ↦ absurd (let end : IsTerminal p = subst IsTerminal (sym first.1) (has.trailer.none (sym first.0)) in omega (arith, node, level-terminal p end))
  | inr named ↦ (let among : named.place < count_of bytes = named.among in record {
    place = 0;
    among = omega (arith, among);
    at_is = refl;
    pointer = p;
    missing = record {
      node = node;
      named = named;
      absent = λ k below same. let less : identifier_at k bytes < p = path.above k (omega arith) below in omega (arith, less, same);
    };
    beside = inr (refl, path.above 0 (omega arith) (omega (arith, among)));
  })
]

-- no node is left, and the one that is looked for has to stand beside the one that was the first above it
pub missed_beside : (q : ℕ) (given : Option ℕ) (bytes : List ℕ) → IsPassed 0 given bytes q → IsMissedAt bytes (q * 24)
missed_beside q given bytes passed =
    let among : q + 1 < count_of bytes = passed.among in
    let since : q + 1 ≤ passed.named.place = passed.named.since in
    record {
      place = q;
      among = omega (arith, among);
      at_is = refl;
      pointer = passed.pointer;
      missing = record {
        node = passed.node;
        named = record { place = passed.named.place; since = omega (arith, since); among = passed.named.among; side = passed.named.side };
        absent = λ k below. passed.absent k (omega arith) below;
      };
      beside = inl (among, passed.behind, passed.before);
    }
