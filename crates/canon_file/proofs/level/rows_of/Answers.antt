use Rattle.std.proofs.Common.{subst, sym, reverse, filter, arith}
use Rattle.list_laws.specs.Members.{IsAscending}
use Rattle.canon_file.specs.Rows.{row_before}
use Rattle.canon_file.specs.Pairs.{differs}
use Rattle.list_laws.proofs.MemberLaws.{ascending_ascends}
use Rattle.canon_file.proofs.RowLaws.{row_order}
use Rattle.canon_file.proofs.level.rows_of.Goals as goal
use Rattle.std.proofs.lemmas.Grind.{common_steps}

pub put_row-requires : goal.put_row-requires
put_row-requires c =
    subst (IsAscending row_before) (sym c.loop-pair.invariant) (ascending_ascends row_before row_order (filter differs (reverse c.loop-pair.yielded)))

pub loop-pair-preserved-in-Continue-1 : goal.loop-pair-preserved-in-Continue-1
loop-pair-preserved-in-Continue-1 c = grind (arith, common_steps)

pub loop-pair-preserved : goal.loop-pair-preserved
loop-pair-preserved c = grind (arith, common_steps)
