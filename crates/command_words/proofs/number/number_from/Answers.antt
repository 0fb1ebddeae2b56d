use Rattle.std.proofs.Common.{◌≡◌, true, rules, arith}
use Rattle.std.specs.Prelude.{Err}
use Rattle.std.specs.Str.{all_ascii_digits}
use Rattle.command_words.proofs.Digits.{by_read}
use Rattle.command_words.proofs.number.number_from.Goals as goal

pub returns-in-Err : goal.returns-in-Err
returns-in-Err c =
    let digits : all_ascii_digits c.args.word.now ≡ true = search rules in
    by_read c.args.least c.args.most c.args.word.now (Err c.in-Err.field-0) c.in-Err.ensures.value.0 digits (omega arith)
