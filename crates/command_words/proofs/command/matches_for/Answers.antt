use Rattle.std.proofs.Common.{◌≡◌}
use Rattle.std.specs.Prelude.{Result, Err}
use Rattle.clap.specs.Words.{app_of}
use Rattle.command_words.specs.declared.fault.WordsFault.{WordsFault}
use Rattle.command_words.proofs.Commands.{finds, accepts, refuses}
use Rattle.command_words.proofs.command.matches_for.Goals as goal

pub returns-in-Ok-try_get_matches_from-clause-found : goal.returns-in-Ok-try_get_matches_from-clause-found
returns-in-Ok-try_get_matches_from-clause-found c =
    finds (app_of c.in-Ok.command) _ c.in-Ok-try_get_matches_from.matches c.in-Ok.ensures c.in-Ok-try_get_matches_from.ensures.matches

pub returns-in-Ok-try_get_matches_from-clause-read : goal.returns-in-Ok-try_get_matches_from-clause-read
returns-in-Ok-try_get_matches_from-clause-read c =
    accepts (app_of c.in-Ok.command) _ c.in-Ok-try_get_matches_from.matches c.in-Ok.ensures c.in-Ok-try_get_matches_from.ensures.kinds

same : {T : Type 0} {a b : WordsFault} → ◌≡◌ {A = Result T WordsFault} (Err a) (Err b) → a ≡ b
same e = cc

pub returns-in-Err-clause-usage : goal.returns-in-Err-clause-usage
returns-in-Err-clause-usage c is =
    refuses (app_of c.in-Ok.command) _ c.in-Err.e c.in-Ok.ensures c.in-Err.ensures.kinds (c.fault_by.ensures (same is))
