-- A text has one plan at most, few bytes where it has one, and no fault then; texts that are too long have one fault.
use Rattle.std.proofs.Common.{◌≡◌, ◌∙◌, ℕ, ◌<◌, ◌≤◌, List, length, sym}
use Rattle.std.specs.Prelude.{Option, Result, Ok, Err}
use Rattle.blif_reader.specs.Netlist.{Net}
use Rattle.script_reader.specs.declared.fault.ScriptFault.{ScriptFault}
use Rattle.script_reader.specs.declared.plan.Plan.{Plan}
use Rattle.script_reader.specs.Keywords.{built_words}
use Rattle.script_reader.specs.Reads.{Reads, Refuses}
use Rattle.script_reader.proofs.Behind.{planned_by, read_long}

abbrev plan_or_fault : Plan → Result Plan ScriptFault
plan_or_fault plan = Ok plan

same_plan : (a b : Plan) → plan_or_fault a ≡ Ok b → a ≡ b
same_plan a b e = cc

pub one_plan : (netlist : Option Net) (text : List ℕ) (a b : Plan) → Reads netlist text a → Reads netlist text b → a ≡ b
one_plan netlist text a b x y = same_plan a b (sym x ∙ y)

no_plan : (plan : Plan) (fault : ScriptFault) → plan_or_fault plan ≡ Err fault → ⊥
no_plan plan fault e = cc

pub plan_or_refusal : (netlist : Option Net) (text : List ℕ) (plan : Plan) (fault : ScriptFault) → Reads netlist text plan → Refuses netlist text fault → ⊥
plan_or_refusal netlist text plan fault x y = no_plan plan fault (sym x ∙ y)

pub text_is_short : (netlist : Option Net) (text : List ℕ) (plan : Plan) → Reads netlist text plan → length text ≤ 1048576
text_is_short netlist text plan reads =
    planned_by (λ p. length text ≤ 1048576) built_words netlist text plan reads (λ short s is. short)

-- all texts that are too long are refused alike
pub too_long : (netlist : Option Net) (text other : List ℕ) (fault : ScriptFault) → 1048576 < length text → 1048576 < length other
    → Refuses netlist text fault → Refuses netlist other fault
too_long netlist text other fault a b refused =
    read_long built_words netlist other b ∙ sym (read_long built_words netlist text a) ∙ refused
