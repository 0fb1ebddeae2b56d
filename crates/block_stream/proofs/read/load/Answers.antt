use Rattle.std.proofs.Common.{refl, arith}
use Rattle.std.proofs.lemmas.Grind.{common_steps}
use Rattle.block_stream.proofs.ReadLaws.{loaded_front}
use Rattle.block_stream.proofs.read.load.Goals as goal

pub slice_bounds-read_records-end : goal.slice_bounds-read_records-end
slice_bounds-read_records-end g c = grind (arith, common_steps)

pub read_records-requires-clause-whole : goal.read_records-requires-clause-whole
read_records-requires-clause-whole g c = grind (arith, common_steps)

pub returns-clause-loaded : goal.returns-clause-loaded
returns-clause-loaded g c t =
    loaded_front c.args.words c.args.place c.byte_place.result c.args.wanted c.in_ok-got.got _ _ _ _ _ _ _
    c.requires.words.0 c.byte_place.ensures (grind (arith, common_steps)) (c.in_ok-got.ensures.content.did t).ok refl refl c.read_records.ensures
