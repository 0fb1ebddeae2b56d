use Rattle.std.proofs.Common.{◌≡◌, ℕ, List, [], ◌∷◌, slice_index, sym}
use Rattle.run_files.specs.Items.{record_at}
use Rattle.packed_records.specs.Packed.{packed}
use Rattle.packed_records.proofs.PackedLaws.{by_column, record_packed}
use Rattle.packed_records.proofs.records.record_of.Goals as goal

pub returns : goal.returns
returns c =
    let words : List ℕ = c.word_at.result ∷ c.word_at-2.result ∷ c.word_at-3.result ∷ c.word_at-4.result ∷ [] in
    sym (record_packed c.args.room.now c.args.place words c.requires.place
    (by_column
    (λ column. slice_index (record_at (packed c.args.room.now) c.args.place).w column ≡ slice_index words column)
    (sym c.word_at.ensures) (sym c.word_at-2.ensures) (sym c.word_at-3.ensures) (sym c.word_at-4.ensures)))
