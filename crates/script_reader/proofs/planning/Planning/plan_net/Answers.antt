use Rattle.std.proofs.Common.{◌<◌, ℕ, List, length, get_or, ap, sym, subst, ◌∙◌, Vec, Ok}
use Rattle.std.specs.declared.alloc.Global.{Global}
use Rattle.blif_reader.specs.Answers.{net_of}
use Rattle.script_reader.specs.Nets.{inputs_of}
use Rattle.script_reader.specs.Views.{texts, words_of, state_of, given}
use Rattle.script_reader.specs.declared.fault.ScriptKind.TheVariants as kind
use Rattle.script_reader.proofs.NetLines.{inputs_length, found_length, wanted_inside}
use Rattle.script_reader.proofs.Levels.{kept_signals}
use Rattle.script_reader.proofs.planning.Planning.plan_net.Goals as goal

pub tables_of-requires : goal.tables_of-requires
tables_of-requires c =
    λ tables some.
    c.requires.kept.tables tables (net_of c.in-Some.net.now) (sym c.take.ensures.value ∙ some)
    (ap given c.in-Some.is)

pub plan_signals-requires-clause-levels : goal.plan_signals-requires-clause-levels
plan_signals-requires-clause-levels c =
    let net = net_of c.in-Some.net.now in
    found_length kind.Variable (state_of c.args.self.now).level (inputs_of net) _
    c.in_ok-tables.ensures.levels
    ∙ inputs_length net c.in-Some.net.now.sound

pub plan_signals-requires-clause-wanted : goal.plan_signals-requires-clause-wanted
plan_signals-requires-clause-wanted c =
    let net = net_of c.in-Some.net.now in
    subst (λ (ws : List ℕ). (i : ℕ) → i < length ws → get_or ws i 0 < length net.names) (sym c.as_slice-3.ensures.value)
    (wanted_inside net (texts c.as_slice.result.now) c.in_ok-wanted.wanted.items c.in_ok-wanted.ensures)

pub returns-clause-kept : goal.returns-clause-kept
returns-clause-kept c =
    kept_signals (given c.args.netlist) (net_of c.in-Some.net.now) (state_of c.args.self.now)
    (state_of c.plan_signals.new.self) _ c.args.line (words_of c.as_slice-2.result.now)
    c.in_ok-tables.tables.levels.items c.as_slice-3.result.now (ap given c.in-Some.is) c.requires.begun
    (record {
      levels = c.in_ok-tables.ensures.levels ∙ ap (λ (v : Vec ℕ Global). Ok v.items) (sym c.in_ok-plan_signals.ensures.levels);
      serves = c.in_ok-plan_signals.ensures.serves ∙ c.in_ok-tables.ensures.serves;
    })
    c.in_ok-plan_signals.ensures.read
