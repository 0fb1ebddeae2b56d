use Rattle.std.proofs.Common.{◌≡◌, length, subst, ◌∙◌}
use Rattle.shelf_model.specs.World.{file}
use Rattle.file_numbers.specs.Files.{checkpoint_file}
use Rattle.sweep_checkpoint.specs.Loads.{ReadWhole}
use Rattle.sweep_checkpoint.proofs.Loaded.{short_fault, rule_fault, point_there}
use Rattle.sweep_checkpoint.proofs.loading.read_point.Goals as goal

pub returns-then-not-whole-clause-err : goal.returns-then-not-whole-clause-err
returns-then-not-whole-clause-err g c = λ tells.
    let did : ReadWhole (file (g.S.Shelf.world c.args.shelf.now) (checkpoint_file c.args.step)).bytes c.args.at c.read_whole.new.bytes c.in_ok-whole.whole =
    subst (λ q. ReadWhole (file (g.S.Shelf.world c.args.shelf.now) q).bytes c.args.at c.read_whole.new.bytes c.in_ok-whole.whole) c.checkpoint_file-points.ensures (c.in_ok-whole.ensures.ok tells) in
    let long : length c.read_whole.new.bytes ≡ 16384 = c.read_whole.auto.bytes ∙ c.blank-bytes.ensures.len in
    short_fault c.args.step c.args.at _ c.read_whole.new.bytes c.checkpoint_file-points.result c.in_ok-whole.whole c.checkpoint_file-points.ensures long c.if-not-whole.true did

pub returns-in_default-clause-err : goal.returns-in_default-clause-err
returns-in_default-clause-err g c = λ tells.
    let did : ReadWhole (file (g.S.Shelf.world c.args.shelf.now) (checkpoint_file c.args.step)).bytes c.args.at c.read_whole.new.bytes c.in_ok-whole.whole =
    subst (λ q. ReadWhole (file (g.S.Shelf.world c.args.shelf.now) q).bytes c.args.at c.read_whole.new.bytes c.in_ok-whole.whole) c.checkpoint_file-points.ensures (c.in_ok-whole.ensures.ok tells) in
    let long : length c.read_whole.new.bytes ≡ 16384 = c.read_whole.auto.bytes ∙ c.blank-bytes.ensures.len in
    rule_fault c.args.step c.args.at _ c.read_whole.new.bytes c.checkpoint_file-points.result c.in_ok-whole.whole c.checkpoint_file-points.ensures long c.if-not-whole.false did c.in_default.ensures.only

pub returns-clause-ok : goal.returns-clause-ok
returns-clause-ok g c = λ tells.
    let did : ReadWhole (file (g.S.Shelf.world c.args.shelf.now) (checkpoint_file c.args.step)).bytes c.args.at c.read_whole.new.bytes c.in_ok-whole.whole =
    subst (λ q. ReadWhole (file (g.S.Shelf.world c.args.shelf.now) q).bytes c.args.at c.read_whole.new.bytes c.in_ok-whole.whole) c.checkpoint_file-points.ensures (c.in_ok-whole.ensures.ok tells) in
    let long : length c.read_whole.new.bytes ≡ 16384 = c.read_whole.auto.bytes ∙ c.blank-bytes.ensures.len in
    point_there c.args.step c.args.at _ c.read_whole.new.bytes c.in_ok-whole.whole c.in-Some.point long c.if-not-whole.false did c.in-Some.ensures.found
