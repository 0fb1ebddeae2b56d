-- The slots whose sources were looked for.
use Rattle.std.proofs.Common.{◌≡◌, ◌∙◌, ℕ, ◌+◌, ◌*◌, ◌<◌, ◌≤◌, true, List, length}
use Rattle.std.proofs.Common.{sym, subst, inl, inr, true≢false, arith}
use Rattle.std.specs.Prelude.{Option, Some, None, IfSome}
use Rattle.std.specs.Option.{is_some}
use Rattle.std.proofs.lemmas.Bool.{cases_lt}
use Rattle.rec_words.specs.declared.rec.Rec.{Rec}
use Rattle.run_files.specs.Items.{record_at}
use Rattle.room_reduction.specs.Records.{word}
use Rattle.room_reduction.specs.Sources.{sources_in}
use Rattle.room_reduction.proofs.PackedSources.{sources_many}
use Rattle.room_products.specs.Slots.{id_at}
use Rattle.room_products.specs.Joining.{AreDone}

-- where each slot before a place has its source, and that at the place has, each slot does that comes no later
pub found_more : (slots sources : List Rec) (count i w : ℕ) (found : Option ℕ) → is_some found ≡ true
    → w ≡ id_at slots i
    → IfSome found (λ j. (j < count) × (word 0 (record_at sources j) ≡ w))
    → ((k : ℕ) → k < i → (j : ℕ) × (j < count) × (word 0 (record_at sources j) ≡ id_at slots k))
    → (k : ℕ) → k < i + 1 → (j : ℕ) × (j < count) × (word 0 (record_at sources j) ≡ id_at slots k)
found_more slots sources count i w None is same here so_far k below = absurd (true≢false (sym is))
found_more slots sources count i w (Some j) is same (within, here) so_far k below = elim (cases_lt k i) [
  | inl before ↦ so_far k before
  | inr behind ↦
      let at : i ≡ k = omega (arith, behind, below) in
      subst (λ p. (j : ℕ) × (j < count) × (word 0 (record_at sources j) ≡ id_at slots p)) at (j, within, here ∙ same)
]

-- so each of all slots has one, once it is found for so many
pub all_found : (slots sources : List Rec) (count : ℕ) → count ≤ 4 * length slots → count ≤ 4 * length sources
    → ((k : ℕ) → k < count → (j : ℕ) × (j < count)
    × (word 0 (record_at (sources_in count sources) j) ≡ id_at (sources_in count slots) k))
    → AreDone (sources_in count slots) (sources_in count sources)
all_found slots sources count many as_many found k below =
    let (j, within, is) = found k (omega (arith, below, sources_many count slots many)) in
    (j, omega (arith, within, sources_many count sources as_many), is)
