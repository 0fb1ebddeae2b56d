use Rattle.std.proofs.Common.{sym, ap, ◌∙◌}
use Rattle.packed_records.specs.Numbers.{widened}
use Rattle.packed_records.proofs.PackedLaws.{word_packed}
use Rattle.packed_records.proofs.records.word_at.Goals as goal

pub returns : goal.returns
returns c =
    c.widen.ensures ∙ ap widened c.number_at.ensures
    ∙ sym (word_packed c.args.room.now c.args.place c.args.column c.requires.place c.requires.column)
