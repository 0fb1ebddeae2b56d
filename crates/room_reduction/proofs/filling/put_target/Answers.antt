use Rattle.std.proofs.Common.{◌∙◌, sym, ap}
use Rattle.packed_records.specs.Packed.{packed}
use Rattle.room_reduction.specs.Records.{word}
use Rattle.room_reduction.proofs.PackedSources.{source_at}
use Rattle.room_reduction.proofs.FillingLaws.{arc_put}
use Rattle.room_reduction.proofs.filling.put_target.Goals as goal

pub returns : goal.returns
returns c done n root all left met =
    let found = c.args.found in
    let place = c.in-Some.place in
    let below = c.in-Some.ensures.0 in
    let sources = c.args.sources.now in
    let put = c.put_target_on.ensures in
    arc_put all (packed sources) (packed c.put_target_on.new.sources) found place c.args.arc below
    (sym (ap (word 0) (source_at found sources place below)) ∙ c.in-Some.ensures.1 ∙ c.word.ensures.value
    ∙ c.ptr.ensures.value) put.source (put.target done ∙ c.word-2.ensures.value) put.other put.others n root left met
