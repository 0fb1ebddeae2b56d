use Rattle.std.proofs.Common.{sym}
use Rattle.canon_file.proofs.SearchLaws.{search_found, search_place}
use Rattle.canon_file.proofs.level.place_in.Goals as goal

pub unwrap-requires : goal.unwrap-requires
unwrap-requires c = search_found c.args.rows.now c.args.row c.binary_search.result c.requires.ascend c.requires.known c.binary_search.ensures.position

pub returns-clause-place : goal.returns-clause-place
returns-clause-place c =
    sym (search_place c.args.rows.now c.args.row c.binary_search.result c.unwrap.result c.requires.ascend c.unwrap.ensures
    c.binary_search.ensures.bound c.binary_search.ensures.position)
