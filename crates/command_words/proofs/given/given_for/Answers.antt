use Rattle.std.proofs.Common.{rules}
use Rattle.clap.specs.Words.{found_of}
use Rattle.command_words.proofs.GivenReads.{refused_words, given_values}
use Rattle.command_words.proofs.given.given_for.Goals as goal

pub returns-in_err-matches-clause-usage : goal.returns-in_err-matches-clause-usage
returns-in_err-matches-clause-usage c is = refused_words _ (c.in_err-matches.ensures.usage (search rules))

pub returns-clause-given : goal.returns-clause-given
returns-clause-given c =
    given_values _ (found_of c.in_ok-matches.matches) c.in_ok-matches.ensures.found _ _ _ _ _ _ c.in_ok-matches.ensures.read
    c.get_str.ensures c.get_str-2.ensures c.get_str-3.ensures c.get_str-4.ensures c.get_str-5.ensures c.get_str-6.ensures
