use Rattle.std.proofs.Common.{rules}
use Rattle.step_sweeps.proofs.EndedKept.{not_kept}
use Rattle.step_sweeps.proofs.ended.keep_if_due.Goals as goal

pub returns-then-not-is_due : goal.returns-then-not-is_due
returns-then-not-is_due g c = record {
  keeps = not_kept g.S.Shelf.tells g.S.Shelf.world g.S.Shelf.faults (λ s told. g.met.S.Shelf.files_are s told)
      c.args.making c.args.going.now c.args.nodes c.args.next_part c.args.shelf.now (search rules);
}
