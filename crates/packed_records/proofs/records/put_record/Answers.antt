use Rattle.std.proofs.Common.{◌≡◌, ℕ, ◌*◌, ◌<◌, List, length, slice_index, sym, ap, ◌∙◌, arith}
use Rattle.rec_words.specs.declared.rec.Rec.{Rec}
use Rattle.run_files.specs.Items.{record_at}
use Rattle.packed_records.specs.Packed.{packed}
use Rattle.packed_records.proofs.PackedLaws.{by_column, record_packed}
use Rattle.packed_records.proofs.records.put_record.Goals as goal
use Rattle.packed_records.proofs.records.put_record.Goals.{then-put_word, else-put_word}
use Rattle.packed_records.proofs.records.put_record.Goals.{then-put_word-2, else-put_word-2}

pub returns-then-put_word-3-clause-own : goal.returns-then-put_word-3-clause-own
returns-then-put_word-3-clause-own c fits =
    let word : ℕ → List Rec → ℕ = λ column room. slice_index (record_at (packed room) c.args.place).w column in
    let first = c.put_word.ensures in
    let fourth = c.put_word-then-put_word-3.ensures in
    let room = c.put_word-then-put_word-3.new.room in
    elim c.if-put_word-2.branch [
      | then-put_word-2 w ↦ elim c.if-put_word.branch [
        | then-put_word v ↦
            let second = v.put_word-then-put_word.ensures in
            let third = w.put_word-then-put_word-2.ensures in
            let one : word 0 room ≡ slice_index c.args.words 0 =
            fourth.columns 0 (omega arith) ∙ ap (word 0) w.room-is
            ∙ third.columns 0 (omega arith) ∙ ap (word 0) v.room-is
            ∙ second.columns 0 (omega arith) ∙ first.own v.if-put_word.true in
            let two : word 1 room ≡ slice_index c.args.words 1 =
            fourth.columns 1 (omega arith) ∙ ap (word 1) w.room-is
            ∙ third.columns 1 (omega arith) ∙ ap (word 1) v.room-is
            ∙ second.own (sym v.value-is ∙ w.if-put_word-2.true) in
            let three : word 2 room ≡ slice_index c.args.words 2 =
            fourth.columns 2 (omega arith) ∙ ap (word 2) w.room-is
            ∙ third.own (sym w.value-is ∙ c.if-put_word-3.true) in
            let within : c.args.place < 4 * length room =
            omega (
              arith,
              c.requires.place,
              c.put_word.auto.room,
              v.put_word-then-put_word.auto.room,
              w.put_word-then-put_word-2.auto.room,
              c.put_word-then-put_word-3.auto.room,
              ap (length {A = Rec}) v.room-is,
              ap (length {A = Rec}) w.room-is,
            ) in
            record_packed room c.args.place c.args.words within
            (by_column (λ column. word column room ≡ slice_index c.args.words column) one two three (fourth.own fits))
        | else-put_word v ↦ cc (v.value-is, v.if-put_word.false, w.if-put_word-2.true)
      ]
      | else-put_word-2 w ↦ cc (w.value-is, w.if-put_word-2.false, c.if-put_word-3.true)
    ]
