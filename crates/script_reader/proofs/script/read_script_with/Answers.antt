use Rattle.std.specs.Prelude.{◌≡◌, ◌∷◌, ◌≤◌, List, length, Ok}
use Rattle.std.specs.List.{AllByRecursion}
use Rattle.std.proofs.Common.{ap, ap₂, sym, subst, ◌∙◌, inl, arith}
use Rattle.text_words.specs.Text.{Line, lines_of}
use Rattle.text_words.specs.Left.{line_of, lines_left}
use Rattle.script_reader.specs.Names.{State}
use Rattle.script_reader.specs.Script.{plan_lines, plan_of}
use Rattle.script_reader.specs.Views.{texts, state_of, given}
use Rattle.script_reader.proofs.Behind.{one_planned, short_lines, read_short, read_long, told}
use Rattle.script_reader.proofs.Sound.{given_sound, none_kept}
use Rattle.script_reader.proofs.Kept.{plan_is_well_formed, plan_has_lines}
use Rattle.script_reader.proofs.script.read_script_with.Goals as goal

pub loop-line-init : goal.loop-line-init
loop-line-init c =
    let left : lines_left c.into_iter-line-iterator.result ≡ lines_of c.args.bytes.now =
    ap lines_left c.into_iter-line-iterator.ensures.into_iter_gives ∙ c.of-line-items.ensures in
    record {
      read = ap₂ (λ (s : State) (ls : List Line). plan_lines (texts c.args.known.now) (given c.args.netlist) (Ok s) ls) c.new-planning.ensures left;
      short = short_lines c.args.bytes.now (lines_left c.into_iter-line-iterator.result) left (omega (arith, c.if-bytes-gt-MOST_BYTES.false));
      kept = none_kept (given c.args.netlist) _;
    }

pub loop-line-preserved : goal.loop-line-preserved
loop-line-preserved c =
    let line = line_of c.in-Some.line in
    let split : lines_left c.loop-line.line-iterator ≡ line ∷ lines_left c.next.new.self = c.in-Some.ensures.steps in
    let all = subst (AllByRecursion (λ (l : Line). length l.bytes ≤ 1048576)) split c.loop-line.invariant.short in
    let s = state_of c.loop-line.planning in
    let t = state_of c.read_line.new.planning in
    let known = texts c.args.known.now in
    let netlist = given c.args.netlist in
    record {
      read = sym (one_planned known netlist s t line (lines_left c.next.new.self) c.in_default.ensures.read) ∙ ap (plan_lines known netlist (Ok s)) (sym split) ∙ c.loop-line.invariant.read;
      short = all.1;
      kept = c.in_default.ensures.kept;
    }

pub returns-clause-read : goal.returns-clause-read
returns-clause-read c =
    let known = texts c.args.known.now in
    let netlist = given c.args.netlist in
    let s = state_of c.loop-line.planning in
    let none = c.in-None.ensures.steps.0 in
    read_short known netlist c.args.bytes.now (omega (arith, c.if-bytes-gt-MOST_BYTES.false))
    ∙ ap plan_of (sym c.loop-line.invariant.read ∙ ap (plan_lines known netlist (Ok s)) none) ∙ c.plan.ensures

pub returns-then-bytes-gt-MOST_BYTES-clause-read : goal.returns-then-bytes-gt-MOST_BYTES-clause-read
returns-then-bytes-gt-MOST_BYTES-clause-read c = inl (read_long (texts c.args.known.now) (given c.args.netlist) c.args.bytes.now (omega arith))

pub returns-in-Err-clause-read : goal.returns-in-Err-clause-read
returns-in-Err-clause-read c =
    let known = texts c.args.known.now in
    let netlist = given c.args.netlist in
    let s = state_of c.loop-line.planning in
    let line = line_of c.in-Some.line in
    let split : lines_left c.loop-line.line-iterator ≡ line ∷ lines_left c.next.new.self = c.in-Some.ensures.steps in
    told known netlist c.args.bytes.now s line (lines_left c.next.new.self) c.in-Err.refusal c.fault_of.result (omega (arith, c.if-bytes-gt-MOST_BYTES.false))
    (ap (plan_lines known netlist (Ok s)) (sym split) ∙ c.loop-line.invariant.read) c.in-Err.ensures.read c.fault_of.ensures

pub returns-clause-steps : goal.returns-clause-steps
returns-clause-steps c = plan_is_well_formed (texts c.args.known.now) (given c.args.netlist) c.args.bytes.now _ (given_sound c.args.netlist) (returns-clause-read c)

pub returns-clause-lines : goal.returns-clause-lines
returns-clause-lines c = plan_has_lines (texts c.args.known.now) (given c.args.netlist) c.args.bytes.now _ (given_sound c.args.netlist) (returns-clause-read c)
