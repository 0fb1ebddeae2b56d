use Rattle.arc_file.specs.declared.kind.Kind.TheVariants.{Inner, End}
use Rattle.arc_file.proofs.reader.ArcReader.start.Goals as goal

pub returns-clause-reads_inner : goal.returns-clause-reads_inner
returns-clause-reads_inner c bytes = c.start.ensures.reads Inner bytes

pub returns-clause-reads_ends : goal.returns-clause-reads_ends
returns-clause-reads_ends c bytes = c.start-2.ensures.reads End bytes
