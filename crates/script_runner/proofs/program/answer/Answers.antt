use Rattle.std.proofs.Common.{ap, refl}
use Rattle.std.specs.Prelude.{Err, map, string_bytes}
use Rattle.command_words.specs.Readings.{reading_of}
use Rattle.script_runner.specs.Text.{usage_line}
use Rattle.script_runner.proofs.SilentEndings.{answers_at_once, answers_usage}
use Rattle.script_runner.proofs.program.answer.Goals as goal

pub returns-in-Err-Memory : goal.returns-in-Err-Memory
returns-in-Err-Memory g c = record {
  answers = answers_at_once g.W.Shelf.tells g.W.Shelf.world g.W.Shelf.faults
      (reading_of (map string_bytes c.args.words.now)) c.args.station.now;
}

pub returns-in-Err-Usage : goal.returns-in-Err-Usage
returns-in-Err-Usage g c = record {
  answers = answers_usage g.W.Shelf.tells g.W.Shelf.world g.W.Shelf.faults (reading_of (map string_bytes c.args.words.now)) usage_line
      c.say_refusal.result c.args.station.now c.say_refusal.new.station (c.in-Err-Usage.ensures.usage (ap Err c.in-Err-Usage.field-0-is)) refl c.say_refusal.ensures.which
      c.say_refusal.ensures.content c.say_refusal.ensures.whole c.say_refusal.ensures.calls c.say_refusal.ensures.cause;
}
