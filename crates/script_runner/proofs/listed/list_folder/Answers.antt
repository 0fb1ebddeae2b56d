use Rattle.command_words.specs.Readings.{list}
use Rattle.std.specs.Prelude.{Some}
use Rattle.script_runner.proofs.ListEndings.{answers_list}
use Rattle.script_runner.proofs.SilentEndings.{answers_at_once}
use Rattle.script_runner.proofs.listed.list_folder.Goals as goal

pub returns-in_default : goal.returns-in_default
returns-in_default g c = record {
  answers = answers_at_once g.W.Shelf.tells g.W.Shelf.world g.W.Shelf.faults (Some (list c.args.folder.now)) c.args.station.now;
}

pub returns : goal.returns
returns g c = record {
  answers = answers_list g.W.Shelf.tells g.W.Shelf.world g.W.Shelf.faults c.args.folder.now c.list_in.result
      c.args.station.now c.list_in.new.station c.list_in.ensures.content c.list_in.ensures.calls c.list_in.ensures.which
      c.list_in.ensures.cause;
}
