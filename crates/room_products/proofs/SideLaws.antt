-- The two words to which a node leads.
use Rattle.std.proofs.Common.{◌≡◌, ℕ, suc, ◌*◌, ◌<◌, true, false, cond, List, [], length, take, sym, ap, ◌∙◌, arith}
use Rattle.std.proofs.lemmas.Bool.Decides.{nat_tests}
use Rattle.std.proofs.lemmas.List.{length-take, get_or-take}
use Rattle.rec_words.specs.Words.{level_numbers}
use Rattle.rec_words.specs.declared.rec.Rec.{Rec}
use Rattle.list_laws.proofs.SameMembers.{has_at}
use Rattle.run_files.specs.Items.{record_at}
use Rattle.packed_records.specs.Packed.{packed}
use Rattle.packed_records.proofs.PackedLaws.{length-packed}
use Rattle.canon_file.specs.declared.row.Row.{Row}
use Rattle.canon_file.specs.Walks.{is_at}
use Rattle.arc_diagrams.specs.Arcs.{onward}
use Rattle.room_reduction.specs.Records.{word}
use Rattle.room_products.specs.Goals.{GivesRows}

-- from a node of the level that stands in the records, a walk goes on to its record's targets
found_sides : (targets : ℕ → Row) (nodes : List Rec) (k level w : ℕ) → GivesRows targets nodes → k < length nodes
    → word 0 (record_at nodes k) ≡ w → w < suc level * level_numbers
    → (word 1 (record_at nodes k) ≡ onward targets level false w)
    × (word 2 (record_at nodes k) ≡ onward targets level true w)
found_sides targets nodes k level w gives within same early =
    let here : is_at level w ≡ true = grind (arith, nat_tests) in
    let row = sym (gives (record_at nodes k) (has_at nodes k (record { w = [] }) within)) ∙ ap targets same in (
      ap (λ (r : Row). r.low) row ∙ ap (λ b. cond b (targets w).low w) (sym here),
      ap (λ (r : Row). r.high) row ∙ ap (λ b. cond b (targets w).high w) (sym here),
    )

-- so it does from one that stands among the first packed records
pub packed_sides : (targets : ℕ → Row) (records : List Rec) (count k level w : ℕ)
    → GivesRows targets (take count (packed records)) → k < count → k < 4 * length records
    → word 0 (record_at (packed records) k) ≡ w → w < suc level * level_numbers
    → (word 1 (record_at (packed records) k) ≡ onward targets level false w)
    × (word 2 (record_at (packed records) k) ≡ onward targets level true w)
packed_sides targets records count k level w gives below within is early =
    let same : record_at (take count (packed records)) k ≡ record_at (packed records) k =
    get_or-take count (packed records) k (record { w = [] }) below in
    let among : k < length (take count (packed records)) =
    omega (arith, below, within, length-take count (packed records), length-packed records) in
    let (low, high) = found_sides targets (take count (packed records)) k level w gives among (ap (word 0) same ∙ is)
    early in
    (ap (word 1) (sym same) ∙ low, ap (word 2) (sym same) ∙ high)
