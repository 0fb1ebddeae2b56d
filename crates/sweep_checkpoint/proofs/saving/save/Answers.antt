use Rattle.sweep_checkpoint.proofs.Saved.{asked, asked_again, put_next, asked_only}
use Rattle.sweep_checkpoint.proofs.saving.save.Goals as goal

pub returns-in_err-count-clause-content : goal.returns-in_err-count-clause-content
returns-in_err-count-clause-content g c = asked_only g.S.Shelf.tells g.S.Shelf.world c.args.point.now _ _ (asked g.S.Shelf.tells g.S.Shelf.world c.args.point.now _ _ _ _ c.in_err-count.ensures.content)

pub returns-in_err-size-clause-content : goal.returns-in_err-size-clause-content
returns-in_err-size-clause-content g c =
    let one = asked g.S.Shelf.tells g.S.Shelf.world c.args.point.now _ _ _ _ c.in_ok-count.ensures.content in
    asked_only g.S.Shelf.tells g.S.Shelf.world c.args.point.now _ _ (asked_again g.S.Shelf.tells g.S.Shelf.world c.args.point.now _ _ _ _ _ one c.in_err-size.ensures.content)

pub returns-then-size-count-clause-content : goal.returns-then-size-count-clause-content
returns-then-size-count-clause-content g c =
    let one = asked g.S.Shelf.tells g.S.Shelf.world c.args.point.now _ _ _ _ c.in_ok-count.ensures.content in
    asked_only g.S.Shelf.tells g.S.Shelf.world c.args.point.now _ _ (asked_again g.S.Shelf.tells g.S.Shelf.world c.args.point.now _ _ _ _ _ one c.in_ok-size.ensures.content)

pub returns-in_err-put_behind-clause-content : goal.returns-in_err-put_behind-clause-content
returns-in_err-put_behind-clause-content g c =
    let one = asked g.S.Shelf.tells g.S.Shelf.world c.args.point.now _ _ _ _ c.in_ok-count.ensures.content in
    let two = asked_again g.S.Shelf.tells g.S.Shelf.world c.args.point.now _ _ _ _ _ one c.in_ok-size.ensures.content in
    put_next g.S.Shelf.tells g.S.Shelf.world c.args.point.now _ _ _ two c.in_err-put_behind.ensures.content

pub returns-clause-content : goal.returns-clause-content
returns-clause-content g c =
    let one = asked g.S.Shelf.tells g.S.Shelf.world c.args.point.now _ _ _ _ c.in_ok-count.ensures.content in
    let two = asked_again g.S.Shelf.tells g.S.Shelf.world c.args.point.now _ _ _ _ _ one c.in_ok-size.ensures.content in
    put_next g.S.Shelf.tells g.S.Shelf.world c.args.point.now _ _ _ two c.in_ok-put_behind.ensures.content
