-- Sources that stand in the front of a room.
use Rattle.std.proofs.Common.{◌≡◌, ◌∙◌, ℕ, ◌*◌, ◌≤◌, List, [], ◌∷◌, ◌++◌, drop, length, take, refl, sym, ap, arith}
use Rattle.std.proofs.lemmas.List.{take-append-drop, take-append-le}
use Rattle.rec_words.specs.declared.rec.Rec.{Rec}
use Rattle.packed_records.specs.Packed.{quarter_of, packed}
use Rattle.packed_records.proofs.PackedLaws.{length-packed}
use Rattle.room_reduction.specs.Sources.{sources_in}

-- the packed records of two rooms, one behind the other
packed-append : (front back : List Rec) → packed (front ++ back) ≡ packed front ++ packed back
packed-append [] back = refl
packed-append (r ∷ rs) back =
    ap (λ rest. quarter_of r 0 ∷ quarter_of r 1 ∷ quarter_of r 2 ∷ quarter_of r 3 ∷ rest) (packed-append rs back)

-- what stands behind them doesn't count
pub front_sources : (count : ℕ) (front back : List Rec) → count ≤ 4 * length front
    → sources_in count (front ++ back) ≡ sources_in count front
front_sources count front back within =
    ap (take count) (packed-append front back)
    ∙ take-append-le count (packed front) (packed back) (omega (arith, within, length-packed front))

-- those in the front of a room that is split
pub split_sources : (count place : ℕ) (room front : List Rec) → front ≡ take place room → length front ≡ place
    → count ≤ 4 * place → sources_in count room ≡ sources_in count front
split_sources count place room front is long within =
    let long_front : length (take place room) ≡ place = ap length (sym is) ∙ long in
    ap (sources_in count) (sym (take-append-drop place room))
    ∙ front_sources count (take place room) (drop place room) (omega (arith, within, long_front))
    ∙ ap (sources_in count) (sym is)
