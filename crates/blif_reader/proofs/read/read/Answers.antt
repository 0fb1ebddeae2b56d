use Rattle.std.proofs.Common.{map, subst, sym}
use Rattle.blif_reader.specs.Statements.{statement_of, Follows}
use Rattle.blif_reader.specs.Netlist.{Settles, netlist_of}
use Rattle.blif_reader.specs.Answers.{Answers}
use Rattle.blif_reader.proofs.Accepting.{too_long, parses_badly, parses_well}
use Rattle.blif_reader.specs.declared.grammar.Context.TheVariants.{Start}
use Rattle.blif_reader.specs.Text.{lines_of}
use Rattle.blif_reader.proofs.Rows.{read_follows}
use Rattle.blif_reader.proofs.read.read.Goals as goal

pub returns-then-bytes-gt-MOST_BYTES : goal.returns-then-bytes-gt-MOST_BYTES
returns-then-bytes-gt-MOST_BYTES c = too_long c.args.bytes.now c.if-bytes-gt-MOST_BYTES.true

pub returns-in_err-statements : goal.returns-in_err-statements
returns-in_err-statements c = parses_badly c.args.bytes.now c.from_residual.result c.in_err-statements.field-0.0 c.if-bytes-gt-MOST_BYTES.false c.from_residual.ensures.1 c.in_err-statements.ensures.read

pub returns : goal.returns
returns c =
    parses_well c.args.bytes.now (map statement_of c.in_ok-statements.statements.items) c.build.result c.if-bytes-gt-MOST_BYTES.false c.in_ok-statements.ensures.read
    (subst (λ ss. Answers (Settles (netlist_of (map statement_of ss))) c.build.result) c.as_slice.ensures.value c.build.ensures)

pub build-requires-clause-follow : goal.build-requires-clause-follow
build-requires-clause-follow c =
    subst (λ ss. Follows Start (map statement_of ss)) (sym c.as_slice.ensures.value) (read_follows Start (lines_of c.args.bytes.now) (map statement_of c.in_ok-statements.statements.items) c.in_ok-statements.ensures.read)
