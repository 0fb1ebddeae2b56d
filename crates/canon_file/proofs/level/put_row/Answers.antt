use Rattle.canon_file.proofs.SearchLaws.{put_searched, put_found}
use Rattle.canon_file.proofs.level.put_row.Goals as goal

pub returns-in_ok-insert : goal.returns-in_ok-insert
returns-in_ok-insert c =
    put_searched c.as_slice.result.now c.args.rows.now.items c.insert.new.self.items c.args.row c.in-Err.place
    c.as_slice.ensures.value c.requires c.in-Err.ensures.bound c.in-Err.ensures.position c.in_ok-insert.ensures.items

pub returns-in_default : goal.returns-in_default
returns-in_default c =
    put_found c.as_slice.result.now c.args.rows.now.items c.args.row c.in_default.field-0
    c.as_slice.ensures.value c.requires c.in_default.ensures.bound c.in_default.ensures.ok
