use Rattle.std.proofs.Common.{◌≡◌, ◌+◌, List, ℕ, get_or, drop, sym, ap, ◌∙◌, arith}
use Rattle.std.proofs.lemmas.Grind.{common_steps}
use Rattle.std.specs.Prelude.{Some, None}
use Rattle.blif_reader.specs.Index as index
use Rattle.blif_reader.specs.Answers.{net_of}
use Rattle.script_reader.specs.Nets.{or_fault}
use Rattle.script_reader.specs.Views.{texts}
use Rattle.script_reader.specs.declared.fault.ScriptKind.TheVariants as kind
use Rattle.script_reader.proofs.Finding.{found_behind, found_more, found_fault, texts_left, no_slice}
use Rattle.script_reader.proofs.netlists.signals_of.Goals as goal

pub returns-in_default : goal.returns-in_default
returns-in_default c =
    let names = c.args.names.now in
    let i = c.loop-name.name-index in
    let find = index.place_of (net_of c.args.net.now).names in
    let name = (get_or names i no_slice).now in
    let none : find name ≡ None = sym c.signal.ensures ∙ c.in_default.is in
    sym c.loop-name.invariant ∙ ap (found_behind kind.UnknownName find c.loop-name.signals.items) (texts_left names i no_slice c.loop-name-test.true)
    ∙ found_fault kind.UnknownName find c.loop-name.signals.items name (drop (i + 1) (texts names)) kind.UnknownName (ap (or_fault kind.UnknownName) none)

pub loop-name-preserved : goal.loop-name-preserved
loop-name-preserved c =
    let names = c.args.names.now in
    let i = c.loop-name.name-index in
    let find = index.place_of (net_of c.args.net.now).names in
    let name = (get_or names i no_slice).now in
    let some : find name ≡ Some c.in-Some.signal = sym c.signal.ensures ∙ c.in-Some.is in
    ap (λ (so_far : List ℕ). found_behind kind.UnknownName find so_far (drop (i + 1) (texts names))) c.in_ok-push.ensures.items
    ∙ sym (found_more kind.UnknownName find c.loop-name.signals.items name (drop (i + 1) (texts names)) c.in-Some.signal (ap (or_fault kind.UnknownName) some))
    ∙ sym (ap (found_behind kind.UnknownName find c.loop-name.signals.items) (texts_left names i no_slice c.loop-name-test.true)) ∙ c.loop-name.invariant

pub returns : goal.returns
returns c = grind (arith, common_steps)
