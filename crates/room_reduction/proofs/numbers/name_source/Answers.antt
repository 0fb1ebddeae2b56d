use Rattle.std.proofs.Common.{◌∙◌, sym, arith}
use Rattle.room_reduction.specs.Sources.{sources_in}
use Rattle.room_reduction.proofs.PackedSources.{sources_many}
use Rattle.room_reduction.proofs.Naming.{other_column}
use Rattle.room_reduction.proofs.numbers.name_source.Goals as goal

pub returns-clause-same : goal.returns-clause-same
returns-clause-same c =
    let total = c.args.total in
    let old = c.args.sources.now in
    let new = c.put_source_word.new.sources in
    let put = c.put_source_word.ensures in
    let long = c.put_source_word.auto.sources in
    let many = c.requires.many in
    other_column c.args.place (sources_in total old) (sources_in total new)
    (sources_many total new (omega (arith, many, long)) ∙ sym (sources_many total old many)) put.columns put.others
