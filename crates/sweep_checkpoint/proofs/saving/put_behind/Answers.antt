use Rattle.std.proofs.Common.{refl}
use Rattle.shelf_model.proofs.Runs.{told}
use Rattle.sweep_checkpoint.proofs.Saved.{can_save, placed_so_far, torn_so_far, saves, save_ok}
use Rattle.sweep_checkpoint.proofs.saving.put_behind.Goals as goal

pub returns-in_err-replace_from-clause-content : goal.returns-in_err-replace_from-clause-content
returns-in_err-replace_from-clause-content g c =
    let can = can_save g.S.Shelf.tells g.S.Shelf.world c.args.point.now c.args.count c.args.shelf.now g.met.S.Shelf.files_are c.requires.gated c.requires.within in
    torn_so_far g.S.Shelf.tells g.S.Shelf.world c.args.point.now c.checkpoint_file.result c.args.count _ c.args.bytes.now _ _ c.checkpoint_file.ensures refl c.requires.len can c.in_err-replace_from.ensures.content

pub returns-clause-content : goal.returns-clause-content
returns-clause-content g c =
    let can = can_save g.S.Shelf.tells g.S.Shelf.world c.args.point.now c.args.count c.args.shelf.now g.met.S.Shelf.files_are c.requires.gated c.requires.within in
    let placed = placed_so_far g.S.Shelf.tells g.S.Shelf.world c.args.point.now c.checkpoint_file.result c.args.count _ c.args.bytes.now _ _ c.checkpoint_file.ensures refl c.requires.bytes c.requires.len can c.in_ok-replace_from.ensures.content c.in_ok-replace_from.ensures.ok in
    told g.S.Shelf.tells _ _ _ _ (saves g.S.Shelf.tells g.S.Shelf.world c.args.point.now c.checkpoint_gate.result c.args.count _ _ _ c.checkpoint_gate.ensures placed c.lengthen.ensures.content) (λ _ both. both.0)

pub returns-clause-ok : goal.returns-clause-ok
returns-clause-ok g c =
    let can = can_save g.S.Shelf.tells g.S.Shelf.world c.args.point.now c.args.count c.args.shelf.now g.met.S.Shelf.files_are c.requires.gated c.requires.within in
    let placed = placed_so_far g.S.Shelf.tells g.S.Shelf.world c.args.point.now c.checkpoint_file.result c.args.count _ c.args.bytes.now _ _ c.checkpoint_file.ensures refl c.requires.bytes c.requires.len can c.in_ok-replace_from.ensures.content c.in_ok-replace_from.ensures.ok in
    save_ok g.S.Shelf.tells g.S.Shelf.world c.args.point.now c.checkpoint_gate.result c.args.count _ _ _ _ c.checkpoint_gate.ensures placed c.lengthen.ensures.content c.lengthen.ensures.ok
