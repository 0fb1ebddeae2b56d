use Rattle.std.proofs.Common.{◌≡◌, ◌∙◌, ap, subst}
use Rattle.canon_file.specs.Canon.{canon_bytes}
use Rattle.canon_file.specs.Constants.{const_table}
use Rattle.shelf_model.specs.declared.file_no.FileNo.{FileNo}
use Rattle.shelf_model.specs.File.{firm_file}
use Rattle.shelf_model.specs.World.{file}
use Rattle.step_engine.proofs.Written.{then, constant_file}
use Rattle.step_engine.proofs.diagrams.write_constant.Goals as goal

pub returns-clause-made : goal.returns-clause-made
returns-clause-made g c =
    let begun = c.in_ok-writer.ensures in
    then c.finish.result (λ firm t.
    subst (λ (f : FileNo). file (g.S.Shelf.world c.finish.new.shelf) f ≡ firm_file (canon_bytes c.args.n (const_table c.args.n c.args.value))) begun.file
    (firm t ∙ ap firm_file (constant_file c.args.n _ _ _ c.args.value _ (begun.holds (c.finish.ensures.content.before t)).bytes_are c.terminal.ensures begun.count begun.variables)))
    c.finish.ensures.firm
