use Rattle.std.proofs.Common.{◌≡◌, ◌∙◌, ◌+◌, ap, subst}
use Rattle.canon_file.specs.Canon.{canon_bytes}
use Rattle.canon_file.specs.Variables.{var_table}
use Rattle.shelf_model.specs.declared.file_no.FileNo.{FileNo}
use Rattle.shelf_model.specs.File.{firm_file}
use Rattle.shelf_model.specs.World.{file}
use Rattle.step_engine.proofs.Written.{then, variable_file, written_only}
use Rattle.step_engine.proofs.diagrams.write_variable.Goals as goal

pub returns-clause-made : goal.returns-clause-made
returns-clause-made g c =
    let begun = c.in_ok-writer.ensures in
    let one = c.in_ok-put.ensures in
    then c.finish.result (λ firm t.
    let told_put = c.finish.ensures.content.before t in
    let told_start = c.put.ensures.content.before told_put in
    subst (λ (f : FileNo). file (g.S.Shelf.world c.finish.new.shelf) f ≡ firm_file (canon_bytes c.args.n (var_table c.args.n c.args.level))) (one.same.file_is ∙ begun.file)
    (firm t ∙ ap firm_file (variable_file c.args.n _ c.args.level _ _ c.variable_node.result _ _ c.requires.below (begun.holds told_start).bytes_are (one.holds told_put).bytes_are
    c.variable_node.ensures c.of_row.ensures (one.count ∙ ap (λ k. k + 1) begun.count) (one.variables ∙ begun.variables))))
    c.finish.ensures.firm

pub returns-clause-content : goal.returns-clause-content
returns-clause-content g c =
    let begun = c.in_ok-writer.ensures in
    written_only g.S.Shelf.tells g.S.Shelf.world 1 3 c.args.f _ _ _ _ _ _ begun.file (c.in_ok-put.ensures.same.file_is ∙ begun.file)
    begun.content c.in_ok-put.ensures.content c.finish.ensures.content
