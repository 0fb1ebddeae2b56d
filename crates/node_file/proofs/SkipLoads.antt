-- How few calls load the nodes that are passed over.
use Rattle.std.proofs.Common.{◌≡◌, ◌⊎◌, ℕ, ◌+◌, ◌*◌, ◌<◌, ◌≤◌, min, Bool, ap, inl, inr, arith}
use Rattle.std.specs.Prelude.{IsTrue, Option, Some, None, Ok}
use Rattle.std.proofs.lemmas.Bool.{cases_lt}
use Rattle.rec_words.specs.declared.node.Node.{Node}
use Rattle.shelf_model.specs.Calls.{Told}
use Rattle.shelf_model.specs.World.{World}
use Rattle.block_stream.specs.Backwards as stream
use Rattle.block_stream.specs.Reads.{Looked, refill_behind}
use Rattle.block_stream.specs.Records.{piece_records}
use Rattle.block_stream.proofs.WriteRuns.{looked_on}
use Rattle.node_file.specs.declared.reader.NodeReader.{NodeReader}
use Rattle.node_file.specs.Readers.{GoesUp, Takes, left_of, loads_of, room_of, waiting_of}

-- so many nodes were given, and so many wait of those that are left: each call loaded eight, or all that were left
pub record Skipped (given waiting left : ℕ) (old new : World) : Type 0 where
  pub calls : ℕ
  pub looked : Looked calls old new
  pub few : 8 * calls < given + 8
  pub loaded : (8 * calls ≤ given + waiting) ⊎ (left ≤ waiting)

-- one call loads eight nodes, or all that are left
load_least : (r : NodeReader) → min 8 (left_of r) ≤ refill_behind (room_of r) (stream.reading_of r.nodes)
unfolding piece_records
load_least r =
    let room : 8 ≤ room_of r = r.nodes.stands.reading.room_some in
    let front : r.nodes.reading.bound ≡ 0 = r.front in
    let words : piece_records r.nodes.reading.words (room_of r) ≡ piece_records 3 (room_of r) = ap (λ (k : ℕ). piece_records k (room_of r)) r.width in
    omega (arith, room, front, words)

module _ {S : Type 0} (tells : S → Bool) (world : S → World) (old s t : S) (given : ℕ) (r : NodeReader)
    (so_far : Told tells old s (Skipped given (waiting_of r) (left_of r) (world old) (world s)))
    (waits : IsTrue (tells t) → 0 < waiting_of r → (world t).clock ≡ (world s).clock)
    (call : Told tells s t (Looked 1 (world s) (world t))) where
  -- one call more
  both : (tell : IsTrue (tells t)) → Looked ((so_far.did (call.before tell)).calls + 1) (world old) (world t)
  both tell =
      let was = so_far.did (call.before tell) in
      (looked_on tells world was.calls 1 old s t (record { before = so_far.before; did = λ _. was.looked }) call).did tell

  -- where a node waits, none
  none : (tell : IsTrue (tells t)) → 0 < waiting_of r → Looked (so_far.did (call.before tell)).calls (world old) (world t)
  none tell some =
      let was = so_far.did (call.before tell) in
      record {
        run = (both tell).run;
        few = let same = waits tell some in let few : (world s).clock ≤ (world old).clock + was.calls = was.looked.few in omega (arith, same, few);
      }

  -- one node more was given
  pub skipped_on : (q : NodeReader) (o : Option Node) → 0 < left_of r → GoesUp r q (Ok o) → Takes r q (Ok o)
      → Told tells old t (Skipped (given + 1) (waiting_of q) (left_of q) (world old) (world t))
  skipped_on q None left goes takes = absurd (let front : left_of r ≡ 0 = goes.0 in omega (arith, front, left))
  skipped_on q (Some x) left goes takes = record { before = λ tell. so_far.before (call.before tell); did = gave }
    where
      down : left_of r ≡ left_of q + 1
      down = goes.1

      gave : IsTrue (tells t) → Skipped (given + 1) (waiting_of q) (left_of q) (world old) (world t)
      gave tell =
          let was = so_far.did (call.before tell) in
          let few = was.few in
          elim (cases_lt 0 (waiting_of r)) [
            | inl some ↦ record {
              calls = was.calls;
              looked = none tell some;
              few = omega (arith, few);
              loaded = let one : waiting_of q + 1 ≡ waiting_of r = takes.1.0 some in elim was.loaded [
                | inl enough ↦ inl (omega (arith, enough, one))
                | inr all ↦ inr (omega (arith, all, one, down))
              ];
            }
            | inr past ↦
                let empty : waiting_of r ≡ 0 = omega (arith, past) in
                let loaded : waiting_of q + 1 ≡ refill_behind (room_of r) (stream.reading_of r.nodes) = takes.1.1 empty in
                let least = load_least r in
                let enough : 8 * was.calls ≤ given = elim was.loaded [ inl enough ↦ omega (arith, enough, empty) | inr all ↦ absurd (omega (arith, all, empty, left)) ] in
                record {
                  calls = was.calls + 1;
                  looked = both tell;
                  few = omega (arith, enough);
                  loaded = elim (cases_lt (left_of r) 8) [
                    | inl all ↦ inr (omega (arith, all, least, loaded, down))
                    | inr eight ↦ inl (omega (arith, eight, least, loaded, enough))
                  ];
                }
          ]

  -- the last call, which gave none
  pub skipped_last : (n : ℕ) → given < n → 0 < left_of r → Told tells old t (Looked (loads_of n) (world old) (world t))
  skipped_last n fewer left = record { before = λ tell. so_far.before (call.before tell); did = gave }
    where
      gave : IsTrue (tells t) → Looked (loads_of n) (world old) (world t)
      gave tell =
          let was = so_far.did (call.before tell) in
          let few = was.few in
          elim (cases_lt 0 (waiting_of r)) [
            | inl some ↦ record { run = (none tell some).run; few = let so = (none tell some).few in omega (arith, so, few, fewer) }
            | inr past ↦
                let enough : 8 * was.calls ≤ given = elim was.loaded [ inl enough ↦ omega (arith, enough, past) | inr all ↦ absurd (omega (arith, all, past, left)) ] in
                record { run = (both tell).run; few = let so = (both tell).few in omega (arith, so, enough, fewer) }
          ]

-- none was passed over yet
pub none_skipped : {S : Type 0} (tells : S → Bool) (world : S → World) (s : S) (waiting left : ℕ)
    → Told tells s s (Looked 0 (world s) (world s)) → Told tells s s (Skipped 0 waiting left (world s) (world s))
none_skipped tells world s waiting left nothing = record {
  before = nothing.before;
  did = λ tell. record { calls = 0; looked = nothing.did tell; few = omega arith; loaded = inl (omega arith) };
}

-- all were
pub all_skipped : {S : Type 0} (tells : S → Bool) (world : S → World) (old s : S) (given waiting left n : ℕ) → given ≤ n
    → Told tells old s (Skipped given waiting left (world old) (world s)) → Told tells old s (Looked (loads_of n) (world old) (world s))
all_skipped tells world old s given waiting left n within so_far = record {
  before = so_far.before;
  did = λ tell.
      let was = so_far.did tell in
      let few = was.few in
      record { run = was.looked.run; few = let so : (world s).clock ≤ (world old).clock + was.calls = was.looked.few in omega (arith, so, few, within) };
}
