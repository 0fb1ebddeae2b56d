use Rattle.std.specs.Prelude.{◌≡◌, ◌⊎◌, ℕ, List, Option, IfOk, IfErr, Result, Ok, Err}
use Rattle.std.proofs.Common.{ap}
use Rattle.blif_reader.specs.Netlist.{Net}
use Rattle.script_reader.specs.declared.fault.ScriptFault.{ScriptFault}
use Rattle.script_reader.specs.declared.fault.ScriptKind.TheVariants as kind
use Rattle.script_reader.specs.declared.plan.Plan.{Plan}
use Rattle.script_reader.specs.Keywords.{built_words}
use Rattle.script_reader.specs.Reads.{Reads, Refuses}
use Rattle.script_reader.specs.Script.{read}
use Rattle.script_reader.specs.Views.{texts, given, AnswersRead}
use Rattle.script_reader.proofs.script.read_script.Goals as goal

-- with the words of all requests, a plan that is the answer is what the text asks for
reads_so : (known : List (List ℕ)) (netlist : Option Net) (text : List ℕ) (answer : Result Plan ScriptFault)
    → known ≡ built_words → AnswersRead answer (read known netlist text) → IfOk answer (λ plan. Reads netlist text plan)
reads_so known netlist text (Ok plan) all is = rw all at is
reads_so known netlist text (Err fault) all is = tt

-- and a fault is the text's, unless memory ran out
refuses_so : (known : List (List ℕ)) (netlist : Option Net) (text : List ℕ) (answer : Result Plan ScriptFault)
    → known ≡ built_words → AnswersRead answer (read known netlist text)
    → IfErr answer (λ fault. Refuses netlist text fault ⊎ (fault ≡ record { line = 0; kind = kind.Memory }))
refuses_so known netlist text (Ok plan) all is = tt
refuses_so known netlist text (Err fault) all is = rw all at is

pub returns-clause-read : goal.returns-clause-read
returns-clause-read c =
    let all : texts c.as_slice-23.result.now ≡ built_words = cc (ap texts c.as_slice-23.ensures) in
    reads_so (texts c.as_slice-23.result.now) (given c.args.netlist) c.args.bytes.now c.read_script_with.result all
    c.read_script_with.ensures.read

pub returns-clause-refused : goal.returns-clause-refused
returns-clause-refused c =
    let all : texts c.as_slice-23.result.now ≡ built_words = cc (ap texts c.as_slice-23.ensures) in
    refuses_so (texts c.as_slice-23.result.now) (given c.args.netlist) c.args.bytes.now c.read_script_with.result all
    c.read_script_with.ensures.read
