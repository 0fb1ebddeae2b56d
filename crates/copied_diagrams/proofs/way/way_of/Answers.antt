use Rattle.copied_diagrams.proofs.PairRuns.{way_leads, way_of_pair}
use Rattle.copied_diagrams.proofs.way.way_of.Goals as goal

-- a choice that gives the operator's values
pub returns-in-Some-clause-leads : goal.returns-in-Some-clause-leads
returns-in-Some-clause-leads c n t u world are trailers =
    let chosen = c.in-Some.ensures in
    way_leads c.args.op chosen.0 c.args.pair.now c.in-Some.choice chosen.1 chosen.2 n t u world are trailers _
    c.way_by.ensures.by

pub returns-in-Some-clause-of : goal.returns-in-Some-clause-of
returns-in-Some-clause-of c = way_of_pair c.in-Some.choice c.args.pair.now _ c.way_by.ensures.by
