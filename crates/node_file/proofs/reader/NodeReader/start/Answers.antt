use Rattle.std.proofs.Common.{◌^◌, ◌<◌, ap, sym, subst, ◌∙◌, arith}
use Rattle.std.specs.Prelude.{Err}
use Rattle.std.proofs.lemmas.Result.{err_from_is_err_and}
use Rattle.canon_file.specs.NodeFiles.{IsProper}
use Rattle.node_file.proofs.FileLaws.{behind_of_file, count_of_file, file_is_sound, of_err}
use Rattle.node_file.proofs.reader.NodeReader.start.Goals as goal

pub returns-in_err-trailer-clause-sound : goal.returns-in_err-trailer-clause-sound
returns-in_err-trailer-clause-sound g c =
    let out = err_from_is_err_and c.from_residual.result c.from_residual.ensures.1 in
    let fits : c.args.n < 2 ^ 64 = omega arith in
    of_err _ c.from_residual.result c.in_err-trailer.field-0.0 (out.1 ∙ ap Err out.2)
    (λ t root xs file. file_is_sound c.args.n root xs _ c.in_err-trailer.field-0.0 fits file (c.in_err-trailer.ensures.damaged t))

pub returns-clause-nodes : goal.returns-clause-nodes
returns-clause-nodes g c t root xs file =
    let count = c.in_ok-trailer.ensures.count t in (
      count ∙ count_of_file c.args.n root xs _ file,
      record {
        behind = behind_of_file c.args.n root xs _ _ c.start.ensures.words c.start.ensures.bound (c.start.ensures.place ∙ count) file;
        proper = λ x has. subst (λ n. IsProper n x) (sym c.in_ok-trailer.ensures.variables) (file.proper x has);
        descend = file.descend;
        above = tt;
      },
    )
