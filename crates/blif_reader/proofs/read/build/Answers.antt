use Rattle.std.proofs.Common.{◌<◌, length, map, sym, subst, arith}
use Rattle.blif_reader.specs.Statements.{statement_of}
use Rattle.blif_reader.specs.Netlist.{IsTables, names_of}
use Rattle.blif_reader.proofs.Lengths.{tables_sound}
use Rattle.blif_reader.proofs.read.build.Goals as goal

pub make_tables-requires-clause-few : goal.make_tables-requires-clause-few
make_tables-requires-clause-few c =
    let few : length (names_of (map statement_of c.args.statements.now)) < 4294967294 = (tables_sound c.args.statements.now c.requires.few c.requires.follow c.in_ok-test_soundness.ensures).few in
    omega arith

pub settle-requires-clause-tables : goal.settle-requires-clause-tables
settle-requires-clause-tables c = subst IsTables (sym c.in_ok-tables.ensures.net) (tables_sound c.args.statements.now c.requires.few c.requires.follow c.in_ok-test_soundness.ensures)
