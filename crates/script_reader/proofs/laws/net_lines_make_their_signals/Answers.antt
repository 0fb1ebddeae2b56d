use Rattle.script_reader.proofs.MadeSignals.{makes_signals, has_variables}
use Rattle.script_reader.proofs.SignalLines.{own_place}
use Rattle.script_reader.proofs.laws.net_lines_make_their_signals.Goals as goal

pub returns-clause-made : goal.returns-clause-made
returns-clause-made c = makes_signals

pub returns-clause-variables : goal.returns-clause-variables
returns-clause-variables c = has_variables

pub returns-clause-own : goal.returns-clause-own
returns-clause-own c = own_place
