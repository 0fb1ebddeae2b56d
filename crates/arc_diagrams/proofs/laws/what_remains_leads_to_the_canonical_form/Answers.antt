use Rattle.std.specs.Prelude.{◌++◌}
use Rattle.arc_diagrams.proofs.FinalLaws.{finds_final}
use Rattle.arc_diagrams.proofs.Remaining.{begun_remains, nothing_left}
use Rattle.arc_diagrams.proofs.laws.what_remains_leads_to_the_canonical_form.Goals as goal

pub returns : goal.returns
returns c = record {
  begins = λ n root inner ends known top complete to_nodes to_ends root_ends.
      begun_remains n root inner ends known top complete (finds_final n root (inner ++ ends) top complete) to_nodes to_ends root_ends;
  ends = λ n root i arcs unread nodes known t within top few d r. nothing_left n root i arcs unread nodes known t within top few d r;
}
