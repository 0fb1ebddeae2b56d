use Rattle.std.proofs.Common.{◌∙◌, ◌<◌, ◌^◌, arith}
use Rattle.step_sweeps.proofs.EndedKept.{end_of, kept_by}
use Rattle.step_sweeps.proofs.ended.keep_made.Goals as goal

pub returns : goal.returns
returns g c =
    let filled = c.ended_point.ensures in
    let records : c.ended_point.new.into.budget < 2 ^ 32 =
    omega (arith, filled.head.budget_is, c.records.ensures.is, c.records.ensures.fits) in
    record {
      keeps = kept_by g.S.Shelf.tells g.S.Shelf.world g.S.Shelf.faults (λ s told. g.met.S.Shelf.files_are s told)
          c.args.making c.args.going.now c.args.nodes c.args.next_part c.ended_point.new.into c.args.shelf.now
          c.save.new.shelf c.save.result c.requires.parts c.requires.may
          (end_of c.args.making c.args.going.now c.args.nodes c.args.next_part c.ended_point.new.into
          c.node_file-out.result c.node_file-out.ensures c.requires.parts filled.head.step_is filled.head.sweep_is
          (filled.head.turns_are ∙ c.shown.ensures) records filled.filled c.save.ensures.fits filled.fits
          filled.names filled.stands)
          c.save.ensures.content c.save.ensures.err c.save.ensures.calls c.save.ensures.faults;
    }
