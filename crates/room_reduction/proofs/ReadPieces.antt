-- The pieces in which an operand's nodes are read.
use Rattle.std.proofs.Common.{◌≡◌, ◌∙◌, ℕ, ◌+◌, ◌*◌, ◌<◌, ◌≤◌, List, [], take, drop, sym, ap, arith}
use Rattle.std.proofs.lemmas.List.{drop-drop}
use Rattle.rec_words.specs.declared.rec.Rec.{Rec}
use Rattle.run_files.specs.Items.{record_at}
use Rattle.block_stream.specs.Records.{record_of, from_place}
use Rattle.block_stream.proofs.RecordLaws.{nth_record}
use Rattle.node_file.specs.Nodes.{DidLoadNodes, records_in}

-- the records of a piece that was read whole are those of the file behind the place where it begins
pub piece_is : (done wanted count n : ℕ) (window : List Rec) (bytes source : List ℕ) → bytes ≡ source
    → n ≤ wanted → wanted ≤ n → done + wanted ≤ count → DidLoadNodes done wanted n window bytes
    → (k : ℕ) → k < wanted → record_at (take wanted window) k ≡ record_at (records_in count source) (done + k)
piece_is done wanted count n window bytes source same no_more all within did k below =
    let many : n ≡ wanted = omega (arith, no_more, all) in
    let place : done * 24 + k * 24 ≡ (done + k) * 24 = omega arith in
    ap (λ m. record_at (take m window) k) (sym many)
    ∙ ap (λ rs. record_at rs k) did.held.same
    ∙ nth_record 3 n k (from_place 3 done bytes) (record { w = [] }) (omega (arith, many, below))
    ∙ (λ j. record_of 3 (drop (k * 24) (drop (done * 24) (same j))))
    ∙ ap (record_of 3) (drop-drop (k * 24) (done * 24) source ∙ ap (λ p. drop p source) place)
    ∙ sym (nth_record 3 count (done + k) source (record { w = [] }) (omega (arith, within, below)))
