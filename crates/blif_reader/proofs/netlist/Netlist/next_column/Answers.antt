use Rattle.std.proofs.Common.{◌≡◌, ◌<◌, ◌∙◌, ap, subst}
use Rattle.depth_first.specs.Jumps.{jump_at}
use Rattle.depth_first.specs.Views.{graph_of}
use Rattle.blif_reader.proofs.netlist.Netlist.next_column.Goals as goal

pub returns-clause-hyphens : goal.returns-clause-hyphens
returns-clause-hyphens c = λ r k less past below.
    let noted : c.jump.result ≡ jump_at (graph_of c.args.self.now.jumps.items) c.args.signal c.args.column = c.jump.ensures ∙ ap (λ js. jump_at (graph_of js) c.args.signal c.args.column) c.as_slice.ensures.value in
    ((c.args.self.now.leaps c.args.signal c.requires.block.inside).idle c.args.column k c.requires.inside past (subst (λ n. k < n) noted below)).hyphens r less
