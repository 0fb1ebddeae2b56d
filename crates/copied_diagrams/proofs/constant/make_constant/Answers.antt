use Rattle.std.proofs.Common.{rules}
use Rattle.copied_diagrams.proofs.PairRuns.{constant_made}
use Rattle.copied_diagrams.proofs.constant.make_constant.Goals as goal

-- the file has a trailer alone
pub returns-clause-made : goal.returns-clause-made
returns-clause-made g c told =
    constant_made c.args.n c.args.value c.args.to _ c.requires.variables (search rules)
