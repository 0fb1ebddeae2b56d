use Rattle.std.proofs.Common.{refl, subst}
use Rattle.script_reader.specs.Reads.{Reads}
use Rattle.script_runner.specs.Source.{Spells}
use Rattle.script_runner.proofs.laws.named_signals_are_made.Goals as goal

pub returns-clause-made : goal.returns-clause-made
returns-clause-made c source plan text plans is =
    let spelled = subst (λ t. Spells t plans.netlist) is plans.spelled in (
      spelled.0,
      spelled.2.reads,
      c.net_lines_make_their_signals.ensures.made spelled.0 source.script plan spelled.2.sound
          (subst (λ n. Reads n source.script plan) spelled.1 plans.reads),
    )

pub returns-clause-tables : goal.returns-clause-tables
returns-clause-tables c source plan k = refl
