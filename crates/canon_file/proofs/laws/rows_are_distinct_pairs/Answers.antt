use Rattle.canon_file.proofs.RowLaws.{are_rows}
use Rattle.canon_file.proofs.laws.rows_are_distinct_pairs.Goals as goal

pub returns : goal.returns
returns c = are_rows
