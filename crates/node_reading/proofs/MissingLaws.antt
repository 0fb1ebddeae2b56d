-- Where a node is missed in a file that is whole.
use Rattle.std.proofs.Common.{◌≡◌, ◌≢◌, ◌⊎◌, ℕ, ◌+◌, ◌-◌, ◌<◌, ◌≤◌, ◌∙◌, List, refl, subst, ap, inl, inr, zero, suc, arith}
use Rattle.std.specs.Prelude.{slice_index}
use Rattle.std.proofs.lemmas.Bool.{cases_lt}
use Rattle.rec_words.specs.Words.{IsTerminal, IsNodeWord}
use Rattle.block_stream.specs.Records.{record_at}
use Rattle.node_file.specs.Nodes.{identifier_at}
use Rattle.node_reading.specs.Reading.{count_of}
use Rattle.node_reading.specs.Missing.{IsNamed, IsMissedAt, IsPassed, IsBehindAll, IsAbsent, IsThere, IsKnown, IsWhole}
use Rattle.node_reading.proofs.Wholes.{node_identifier}

-- a node's word is that of no truth value
no_terminal : (w : ℕ) → IsNodeWord w → ¬ IsTerminal w
no_terminal w node (inl is) = omega (arith, node, is)
no_terminal w node (inr is) = omega (arith, node, is)

module _ (n : ℕ) (bytes : List ℕ) (whole : IsWhole n bytes) where
  -- identifiers descend over any number of places
  falls_by : (d j k : ℕ) → k ≡ j + 1 + d → k < count_of bytes → identifier_at k bytes < identifier_at j bytes
  falls_by zero j k is within =
      let here : j + 1 ≡ k = omega (arith, is) in
      subst (λ k. identifier_at k bytes < identifier_at j bytes) here (whole.ordered j (omega (arith, here, within)))
  falls_by (suc d) j k is within =
      let less : identifier_at (k - 1) bytes < identifier_at j bytes = falls_by d j (k - 1) (omega (arith, is)) (omega (arith, is, within)) in
      let here : k - 1 + 1 ≡ k = omega (arith, is) in
      let next : identifier_at k bytes < identifier_at (k - 1) bytes =
      subst (λ i. identifier_at i bytes < identifier_at (k - 1) bytes) here (whole.ordered (k - 1) (omega (arith, here, within))) in
      omega (arith, less, next)

  pub falls : (j k : ℕ) → j < k → k < count_of bytes → identifier_at k bytes < identifier_at j bytes
  falls j k less within = falls_by (k - (j + 1)) j k (omega (arith, less)) within

  falls_to : (j k : ℕ) → j ≤ k → k < count_of bytes → identifier_at k bytes ≤ identifier_at j bytes
  falls_to j k less within = elim (cases_lt j k) [
    | inl beyond ↦ (let below = falls j k beyond within in omega (arith, below))
    | inr until ↦ (let same : j ≡ k = omega (arith, less, until) in
        subst (λ k. identifier_at k bytes ≤ identifier_at j bytes) same (omega arith))
  ]

  -- a node lies above those that it names
  pub names_above : (k pointer : ℕ) → k < count_of bytes
      → (slice_index (record_at 3 k bytes).w 1 ≡ pointer) ⊎ (slice_index (record_at 3 k bytes).w 2 ≡ pointer)
      → identifier_at k bytes < pointer
  names_above k pointer below side =
      let (x, at) = whole.nodes k below in
      let uid : identifier_at k bytes ≡ x.uid = node_identifier n k bytes x at in
      elim side [
        | inl low ↦ (let is : x.low ≡ pointer = ap (λ (ws : List ℕ). slice_index ws 1) at.record_is.same ∙ low in
            let deeper = at.proper.low in omega (arith, uid, is, deeper))
        | inr high ↦ (let is : x.high ≡ pointer = ap (λ (ws : List ℕ). slice_index ws 2) at.record_is.same ∙ high in
            let deeper = at.proper.high in omega (arith, uid, is, deeper))
      ]

  module _ (key at : ℕ) where
    -- no record has a key that was passed
    passed_everywhere : IsPassed bytes key at → (k : ℕ) → k < count_of bytes → identifier_at k bytes ≢ key
    passed_everywhere passed k below is = elim (cases_lt passed.place k) [
      | inl beyond ↦ (let next : identifier_at (passed.place + 1) bytes < key = passed.before (omega (arith, beyond, below)) in
          let down = falls_to (passed.place + 1) k (omega (arith, beyond)) below in omega (arith, is, next, down))
      | inr until ↦ (let over : key < identifier_at passed.place bytes = passed.behind in
          let down = falls_to k passed.place until passed.among in omega (arith, is, over, down))
    ]

    -- nor one that comes behind all
    behind_everywhere : IsBehindAll bytes key at → (k : ℕ) → k < count_of bytes → identifier_at k bytes ≢ key
    behind_everywhere behind k below is =
        let first : identifier_at 0 bytes < key = behind.before (omega (arith, below)) in
        let down = falls_to 0 k (omega arith) below in
        omega (arith, is, first, down)

    -- so a node that isn't there, and that one of the file's nodes names, is missed at its place
    named_missed : IsNodeWord key → IsAbsent bytes key at → IsNamed bytes 0 key → IsMissedAt bytes at
    named_missed node (inl passed) named =
        let p : ℕ = passed.place in
        let j : ℕ = named.place in
        let above : identifier_at j bytes < key = names_above j key named.among named.side in
        let over : key < identifier_at p bytes = passed.behind in
        let within : j < count_of bytes = named.among in
        let beyond : p < j = elim (cases_lt p j) [
          | inl beyond ↦ beyond
          | inr until ↦ (let down = falls_to j p until passed.among in omega (arith, above, over, down))
        ] in
        record {
          place = p;
          among = passed.among;
          at_is = passed.at_is;
          pointer = key;
          missing = record {
            node = node;
            named = record { place = j; since = omega (arith, beyond); among = within; side = named.side };
            absent = passed_everywhere passed;
          };
          beside = inl (omega (arith, beyond, within), passed.before (omega (arith, beyond, within)), over);
        }
    named_missed node (inr behind) named =
        let within : named.place < count_of bytes = named.among in
        record {
          place = 0;
          among = omega (arith, within);
          at_is = behind.at_is;
          pointer = key;
          missing = record { node = node; named = named; absent = behind_everywhere behind };
          beside = inr (refl, behind.before (omega (arith, within)));
        }

    not_there : IsAbsent bytes key at → ¬ IsThere bytes key
    not_there (inl passed) there = passed_everywhere passed there.place there.among there.is
    not_there (inr behind) there = behind_everywhere behind there.place there.among there.is

-- where a file is whole, a node that is known of it and isn't there is missed at the place where it would have to stand
pub missed_where_whole : (n : ℕ) (bytes : List ℕ) (key at : ℕ) → IsWhole n bytes → IsNodeWord key → IsAbsent bytes key at
    → IsKnown bytes key → IsMissedAt bytes at
missed_where_whole n bytes key at whole node absent (inl end) = absurd (no_terminal key node end)
missed_where_whole n bytes key at whole node absent (inr (inl there)) = absurd (not_there n bytes whole key at absent there)
missed_where_whole n bytes key at whole node absent (inr (inr named)) = named_missed n bytes whole key at node absent named
