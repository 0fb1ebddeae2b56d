use Rattle.std.proofs.Common.{◌∙◌, ap}
use Rattle.node_file.specs.declared.trailer.Trailer.{Trailer}
use Rattle.canon_file.specs.Canon.{canon_root, canon_nodes}
use Rattle.list_laws.proofs.AnswerLaws.{on_fault}
use Rattle.copied_diagrams.proofs.TrailerFacts.{root_read, operand_damage, file_has}
use Rattle.copied_diagrams.proofs.trailers.read_trailer.Goals as goal

pub returns-in_err-reader-clause-sound : goal.returns-in_err-reader-clause-sound
returns-in_err-reader-clause-sound g c = on_fault c.from_residual.result c.in_err-reader.field-0.0 _ c.from_residual.ensures.1
    (λ told t is. c.in_err-reader.ensures.sound told (canon_root c.args.n t) (canon_nodes c.args.n t)
    (file_has c.args.n t c.args.f (g.S.Shelf.world c.args.shelf.now) c.canonical_files_are_read.ensures is))

pub returns-in_err-reader-clause-damaged : goal.returns-in_err-reader-clause-damaged
returns-in_err-reader-clause-damaged g c = on_fault c.from_residual.result c.in_err-reader.field-0.0 _ c.from_residual.ensures.1
    (λ told. operand_damage c.args.n c.args.f (g.S.Shelf.world c.args.shelf.now) c.in_err-reader.field-0.0
    c.in_err-reader.ensures.damage (c.in_err-reader.ensures.damaged told))

pub returns-clause-of : goal.returns-clause-of
returns-clause-of g c told t is =
    let made = c.in_ok-reader.ensures in
    record {
      root_is = ap (λ (r : Trailer). r.root) c.trailer.ensures ∙ root_read c.args.n _ t _ is.form is.bytes_are (made.trailer told).0;
      count_is = ap (λ (r : Trailer). r.count) c.trailer.ensures ∙ (made.nodes told (canon_root c.args.n t) (canon_nodes c.args.n t)
          (file_has c.args.n t c.args.f (g.S.Shelf.world c.args.shelf.now) c.canonical_files_are_read.ensures is)).0;
    }
