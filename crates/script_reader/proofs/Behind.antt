-- Lines behind others, one after the other.
use Rattle.std.specs.Prelude.{◌≡◌, ◌⊎◌, ℕ, ◌≤◌, ◌<◌, Bool, true, false, nat_le, List, [], ◌∷◌, length, Option, Result, Ok, Err}
use Rattle.std.specs.List.{AllByRecursion}
use Rattle.std.proofs.Common.{refl, ap, sym, subst, ◌∙◌, arith, inl, inr}
use Rattle.std.proofs.lemmas.Bool.{le-leb, lt-leb, leb-true}
use Rattle.std.proofs.lemmas.List.Elements.{recursion_from_All}
use Rattle.text_words.specs.Text.{Line, lines_of, words_in}
use Rattle.text_words.specs.Places.{StandsIn}
use Rattle.text_words.proofs.Standing.{each_line}
use Rattle.blif_reader.specs.Netlist as blif
use Rattle.script_reader.specs.declared.fault.ScriptKind.{ScriptKind}
use Rattle.script_reader.specs.declared.fault.ScriptFault.{ScriptFault}
use Rattle.script_reader.specs.declared.fault.ScriptKind.TheVariants as kind
use Rattle.script_reader.specs.declared.fault.Refusal.{Refusal}
use Rattle.script_reader.specs.declared.fault.Refusal.TheVariants as refusal
use Rattle.script_reader.specs.declared.plan.Plan.{Plan}
use Rattle.script_reader.specs.Views.{Fails, fault_on}
use Rattle.script_reader.specs.Results.{on_line}
use Rattle.script_reader.specs.Names.{State, nothing}
use Rattle.script_reader.specs.Script.{plan_line, plan_lines, plan_of, read}

-- a line that isn't at fault leaves the others
pub one_planned : (known : List (List ℕ)) (netlist : Option blif.Net) (s t : State) (line : Line) (lines : List Line) → plan_line known netlist s line.number (words_in line) ≡ Ok t
    → plan_lines known netlist (Ok s) (line ∷ lines) ≡ plan_lines known netlist (Ok t) lines
one_planned known netlist s t line lines e = ap (λ (r : Result State ScriptKind). plan_lines known netlist (on_line line.number r) lines) e

-- a fault stays that of all lines
pub fault_stays : (known : List (List ℕ)) (netlist : Option blif.Net) (fault : ScriptFault) (lines : List Line) → plan_lines known netlist (Err fault) lines ≡ Err fault
fault_stays known netlist fault [] = refl
fault_stays known netlist fault (line ∷ lines) = fault_stays known netlist fault lines

-- the fault of a line is that of all
pub one_at_fault : (known : List (List ℕ)) (netlist : Option blif.Net) (s : State) (kind : ScriptKind) (line : Line) (lines : List Line) → plan_line known netlist s line.number (words_in line) ≡ Err kind
    → plan_lines known netlist (Ok s) (line ∷ lines) ≡ Err (record { line = line.number; kind = kind })
one_at_fault known netlist s kind line lines e =
    ap (λ (r : Result State ScriptKind). plan_lines known netlist (on_line line.number r) lines) e ∙ fault_stays known netlist (record { line = line.number; kind = kind }) lines

-- the lines of a text are no longer than it
pub short_lines : (text : List ℕ) (lines : List Line) → lines ≡ lines_of text → length text ≤ 1048576 → AllByRecursion (λ (line : Line). length line.bytes ≤ 1048576) lines
short_lines text lines are short =
    subst (AllByRecursion (λ (line : Line). length line.bytes ≤ 1048576)) (sym are)
    (by (lines_of text) (recursion_from_All (λ (l : Line). StandsIn text l.at l.bytes) (lines_of text) (each_line text)))
  where
    by : (ls : List Line) → AllByRecursion (λ (l : Line). StandsIn text l.at l.bytes) ls → AllByRecursion (λ (line : Line). length line.bytes ≤ 1048576) ls
    by [] all = tt
    by (l ∷ ls) all = (omega (arith, all.0.within, short), by ls all.1)

-- a script that isn't too long is read line by line
pub read_short : (known : List (List ℕ)) (netlist : Option blif.Net) (text : List ℕ) → length text ≤ 1048576 → read known netlist text ≡ plan_of (plan_lines known netlist (Ok nothing) (lines_of text))
unfolding read
read_short known netlist text short = rw (le-leb _ _ short) refl

-- and one that is isn't
pub read_long : (known : List (List ℕ)) (netlist : Option blif.Net) (text : List ℕ) → 1048576 < length text → read known netlist text ≡ Err (record { line = 0; kind = kind.TooLong })
unfolding read
read_long known netlist text long = rw (lt-leb _ _ long) refl

-- what a line is refused for is what the script is, unless memory ran out
pub told : (known : List (List ℕ)) (netlist : Option blif.Net) (text : List ℕ) (s : State) (line : Line) (lines : List Line) (refusal : Refusal) (fault : ScriptFault) → length text ≤ 1048576
    → plan_lines known netlist (Ok s) (line ∷ lines) ≡ plan_lines known netlist (Ok nothing) (lines_of text) → Fails refusal (plan_line known netlist s line.number (words_in line))
    → fault ≡ fault_on line.number refusal → (read known netlist text ≡ Err fault) ⊎ (fault ≡ record { line = 0; kind = kind.Memory })
told known netlist text s line lines refusal.Memory fault short so_far fails is = inr is
told known netlist text s line lines (refusal.Fault kind) fault short so_far fails is =
    inl (read_short known netlist text short ∙ ap plan_of (sym so_far ∙ one_at_fault known netlist s kind line lines fails) ∙ ap Err (sym is))

-- what each line keeps, all lines keep
pub lines_keep : (P : State → Type 0) (W : Line → Type 0) (known : List (List ℕ)) (netlist : Option blif.Net)
    → ((s t : State) (line : Line) → P s → W line → plan_line known netlist s line.number (words_in line) ≡ Ok t → P t)
    → (s t : State) (lines : List Line) → P s → AllByRecursion W lines → plan_lines known netlist (Ok s) lines ≡ Ok t → P t
lines_keep P W known netlist step s t [] h all e = subst P (same s t e) h
  where
    is_ok : State → Result State ScriptFault
    is_ok a = Ok a

    same : (a b : State) → is_ok a ≡ Ok b → a ≡ b
    same a b e = cc
lines_keep P W known netlist step s t (line ∷ lines) h all e =
    by (plan_line known netlist s line.number (words_in line)) refl (λ u keeps rest. lines_keep P W known netlist step u t lines keeps all.1 rest)
  where
    by : (r : Result State ScriptKind) → plan_line known netlist s line.number (words_in line) ≡ r → ((u : State) → P u → plan_lines known netlist (Ok u) lines ≡ Ok t → P t) → P t
    by (Ok u) is next = next u (step s u line h all.0 is) (sym (ap (λ r. plan_lines known netlist (on_line line.number r) lines) is) ∙ e)
    by (Err fault) is next =
        let wrong = sym (fault_stays known netlist (record { line = line.number; kind = fault }) lines) ∙ sym (ap (λ r. plan_lines known netlist (on_line line.number r) lines) is) ∙ e in
        absurd cc

-- a text with a plan isn't too long, and its plan is that of what is known netlist behind all lines
pub planned_by : (P : Plan → Type 0) (known : List (List ℕ)) (netlist : Option blif.Net) (text : List ℕ) (plan : Plan) → read known netlist text ≡ Ok plan
    → (length text ≤ 1048576 → (s : State) → plan_lines known netlist (Ok nothing) (lines_of text) ≡ Ok s → P (record { n = s.n; steps = s.steps; lines = s.lines })) → P plan
unfolding read
planned_by P known netlist text plan e next = by (nat_le (length text) 1048576) refl
  where
    is_ok : Plan → Result Plan ScriptFault
    is_ok a = Ok a

    same : (a b : Plan) → is_ok a ≡ Ok b → a ≡ b
    same a b e = cc

    behind : length text ≤ 1048576 → (r : Result State ScriptFault) → plan_lines known netlist (Ok nothing) (lines_of text) ≡ r → plan_of r ≡ Ok plan → P plan
    behind short (Ok s) is e = subst P (same _ _ e) (next short s is)
    behind short (Err fault) is e = absurd cc

    by : (b : Bool) → nat_le (length text) 1048576 ≡ b → P plan
    by true short = behind (leb-true _ _ short) (plan_lines known netlist (Ok nothing) (lines_of text)) refl (rw short at e)
    by false long = let wrong = (rw long at e) in absurd cc
