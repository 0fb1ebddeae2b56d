use Rattle.std.proofs.Common.{arith}
use Rattle.std.proofs.lemmas.Grind.{common_steps}
use Rattle.block_stream.proofs.filling.flush_records.Goals as goal

pub slice_bounds-piece-end-2 : goal.slice_bounds-piece-end-2
slice_bounds-piece-end-2 g c = grind (arith, common_steps)

pub slice_bounds-append-end : goal.slice_bounds-append-end
slice_bounds-append-end g c = grind (arith, common_steps)

pub append-requires-clause-small : goal.append-requires-clause-small
append-requires-clause-small g c = grind (arith, common_steps)

pub returns-in_err-append-clause-content : goal.returns-in_err-append-clause-content
returns-in_err-append-clause-content g c = grind (arith, common_steps)

pub returns-clause-fills : goal.returns-clause-fills
returns-clause-fills g c = grind (arith, common_steps)

pub returns-clause-bytes : goal.returns-clause-bytes
returns-clause-bytes g c = grind (arith, common_steps)

pub returns-clause-content : goal.returns-clause-content
returns-clause-content g c = grind (arith, common_steps)
