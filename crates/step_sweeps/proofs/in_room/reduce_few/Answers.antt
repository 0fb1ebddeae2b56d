use Rattle.step_sweeps.proofs.Running.{of_some}
use Rattle.step_sweeps.proofs.SweptReduction.{has_form}
use Rattle.step_sweeps.proofs.in_room.reduce_few.Goals as goal

-- what the room makes is the canonical file of the table
pub returns-clause-reduced : goal.returns-clause-reduced
returns-clause-reduced g c told table is =
    let made = of_some _ c.in-Some.nodes _ c.in-Some.is (c.in_ok-nodes.ensures.made told is.inner is.ends table
    is.inner_has is.ends_has is.diagram) in
    record {
      form = has_form c.args.n table c.args.arcs.now _ (c.reducing_gives_the_canonical_form.ensures c.args.n)
          c.requires.variables c.requires.files.inner_few c.requires.files.ends_few is;
      file_is = made.0;
      nodes_are = made.1;
    }
