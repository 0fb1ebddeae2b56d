use Rattle.std.proofs.Common.{◌≡◌, ◌≤◌, length, arith, ap, sym, subst, ◌∙◌}
use Rattle.std.proofs.lemmas.Grind.{common_steps}
use Rattle.std.specs.Prelude.{Result, Ok}
use Rattle.std.proofs.lemmas.List.{length-map}
use Rattle.text_words.specs.Left.{word_of}
use Rattle.script_reader.specs.declared.keyword.Keyword.{Keyword}
use Rattle.script_reader.specs.declared.fault.ScriptKind.{ScriptKind}
use Rattle.script_reader.specs.Results.{◌>>=◌}
use Rattle.script_reader.specs.Keywords.{wanted}
use Rattle.script_reader.specs.Names.{State}
use Rattle.script_reader.specs.Requests.{plan_step}
use Rattle.script_reader.specs.Script.{begin, keyword_in, plan_request, plan_words}
use Rattle.script_reader.specs.Views.{texts, words_of, state_of, given, Leads}
use Rattle.script_reader.proofs.Formed.{wants_two, is_one_step, has_wanted}
use Rattle.script_reader.proofs.Levels.{kept_begun, kept_step}
use Rattle.script_reader.proofs.planning.Planning.plan_line.Goals as goal

pub plan_net-requires-clause-some : goal.plan_net-requires-clause-some
plan_net-requires-clause-some c = grind (arith, common_steps)

pub plan_net-requires-clause-kept : goal.plan_net-requires-clause-kept
plan_net-requires-clause-kept c =
    kept_begun (given c.args.netlist) (state_of c.args.self.now) (state_of c.begin_line.new.self)
    c.args.kept.now c.in_ok-keyword.ensures.begun c.requires.kept

pub plan_step-requires : goal.plan_step-requires
plan_step-requires c =
    let ws = words_of c.args.words.now in
    let k = c.in_ok-keyword.keyword in
    let count : length ws ≡ length c.args.words.now = length-map c.args.words.now word_of in
    let wants : wanted k ≤ length ws =
    has_wanted (texts c.args.known.now) (state_of c.args.self.now) ws k (omega (arith, count, c.requires.some)) (sym c.in_ok-keyword.ensures.keyword) in
    let two : 2 ≤ wanted k = wants_two k c.in_default.not-Vars c.in_default.not-Inputs in
    record { wanted = omega (arith, wants, count); two = omega (arith, wants, two, count) }

pub returns-in_default-clause-read : goal.returns-in_default-clause-read
returns-in_default-clause-read c =
    let ws = words_of c.args.words.now in
    let known = texts c.args.known.now in
    let netlist = given c.args.netlist in
    let s = state_of c.args.self.now in
    let k = c.in_ok-keyword.keyword in
    let is : keyword_in known s ws ≡ Ok k = sym c.in_ok-keyword.ensures.keyword in
    let whole : plan_words known netlist s c.args.line ws ≡ plan_step (state_of c.begin_line.new.self) c.args.line k ws =
    ap (λ (r : Result Keyword ScriptKind). r >>= λ v. plan_request netlist (begin s) c.args.line v ws) is
    ∙ is_one_step netlist (begin s) c.args.line k ws c.in_default.not-Vars c.in_default.not-Inputs c.in_default.not-Net
    ∙ ap (λ (t : State). plan_step t c.args.line k ws) (sym c.in_ok-keyword.ensures.begun) in
    subst (Leads (state_of c.plan_step.new.self) c.plan_step.result) (sym whole) c.plan_step.ensures

pub returns-in_default-clause-kept : goal.returns-in_default-clause-kept
returns-in_default-clause-kept c =
    kept_step c.plan_step.result (given c.args.netlist) (state_of c.args.self.now) (state_of c.begin_line.new.self) (state_of c.plan_step.new.self) c.args.kept.now c.args.line c.in_ok-keyword.keyword (words_of c.args.words.now) c.requires.kept c.in_ok-keyword.ensures.begun c.plan_step.ensures
