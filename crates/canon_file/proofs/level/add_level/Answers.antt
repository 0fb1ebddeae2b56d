use Rattle.std.proofs.Common.{◌∙◌}
use Rattle.canon_file.proofs.LevelLaws.{seen_rows, rows_ascend, rows_few, rows_known}
use Rattle.canon_file.proofs.level.add_level.Goals as goal

pub add_nodes-requires-clause-few : goal.add_nodes-requires-clause-few
add_nodes-requires-clause-few c =
    rows_few c.args.pointers.now _
    (seen_rows c.args.pointers.now _ _ _ _ c.as_slice-2.ensures.value c.in_ok-rows.ensures c.as_slice.ensures.value c.in_ok-pairs.ensures) c.requires.few

pub pointers_of-requires-clause-ascend : goal.pointers_of-requires-clause-ascend
pointers_of-requires-clause-ascend c =
    rows_ascend c.args.pointers.now _
    (seen_rows c.args.pointers.now _ _ _ _ c.as_slice-4.ensures.value c.in_ok-rows.ensures c.as_slice.ensures.value c.in_ok-pairs.ensures)

pub pointers_of-requires-clause-few : goal.pointers_of-requires-clause-few
pointers_of-requires-clause-few c =
    rows_few c.args.pointers.now _
    (seen_rows c.args.pointers.now _ _ _ _ c.as_slice-4.ensures.value c.in_ok-rows.ensures c.as_slice.ensures.value c.in_ok-pairs.ensures) c.requires.few

pub pointers_of-requires-clause-known : goal.pointers_of-requires-clause-known
pointers_of-requires-clause-known c =
    rows_known c.args.pointers.now _ _
    (seen_rows c.args.pointers.now _ _ _ _ c.as_slice-4.ensures.value c.in_ok-rows.ensures c.as_slice.ensures.value c.in_ok-pairs.ensures)
    (c.as_slice-3.ensures.value ∙ c.in_ok-pairs.ensures)
