-- Lines behind the first that begin a script keep the levels of its variables.
use Rattle.std.proofs.Common.{◌≡◌, ℕ, ◌+◌, ◌-◌, Bool, true, false, List, [], ◌∷◌, length, refl, sym, ap, subst, ◌∙◌}
use Rattle.script_reader.specs.declared.fault.Refusal.{Refusal}
use Rattle.std.specs.Prelude.{Option, Some, Result, Ok, Err, OnOk, if◌then◌else◌}
use Rattle.std.specs.List.{list_all}
use Rattle.bool_tables.specs.declared.steps.Step.{Step}
use Rattle.bool_tables.specs.declared.steps.Step.TheVariants as step
use Rattle.blif_reader.specs.Netlist.{Net}
use Rattle.net_plan.specs.Plan.{plan_steps, plan_made}
use Rattle.text_words.specs.Text.{Word}
use Rattle.script_reader.specs.declared.fault.ScriptKind.TheVariants as kind
use Rattle.script_reader.specs.declared.keyword.Keyword.{Keyword}
use Rattle.script_reader.specs.declared.netlists.NetTables.{NetTables}
use Rattle.script_reader.specs.Results.{check}
use Rattle.script_reader.specs.Keywords.{word_at, gives_name}
use Rattle.script_reader.specs.Names.{State}
use Rattle.script_reader.specs.Nets.{inputs_of, all_found, names_fit, with_steps, give_name, give_names, plan_signals}
use Rattle.script_reader.specs.Requests.{is_short, step_of, name_fits, has_room, with_named, name_behind, plan_step}
use Rattle.script_reader.specs.Script.{begin}
use Rattle.script_reader.specs.Views.{AreTablesOf, IsKept, Leads}
use Rattle.script_reader.proofs.MadeSteps.{then_ok, passed, same_ok}

-- the variables are the same, and that a line was read
pub record Stays (s t : State) : Type 0 where
  pub level : t.level ≡ s.level
  pub n : t.n ≡ s.n
  pub begun : t.begun ≡ s.begun

-- so what was kept may be
pub kept_on : (netlist : Option Net) (s t : State) (kept : Option NetTables) → Stays s t
    → IsKept netlist s kept → IsKept netlist t kept
kept_on netlist s t kept stays is = record {
  begun = λ tables some. stays.begun ∙ is.begun tables some;
  tables = λ tables net some given. still net tables (is.tables tables net some given);
}
  where
    still : (net : Net) (tables : NetTables) → AreTablesOf net s tables → AreTablesOf net t tables
    still net tables are = record {
      levels =
          ap (λ (f : List ℕ → Option ℕ). all_found kind.Variable f (inputs_of net)) stays.level
          ∙ are.levels;
      serves = are.serves;
    }

names_stay : (s : State) (k : Keyword) (words : List Word) (made : Step) → Stays s (name_behind s k words made)
names_stay s k words made = by made
  where
    given : (b : Bool) → Stays s (if b then with_named s (word_at 1 words) (record { step = length s.steps; dropped = false }) else s)
    given true = record { level = refl; n = refl; begun = refl }
    given false = record { level = refl; n = refl; begun = refl }

    by : (made : Step) → Stays s (name_behind s k words made)
    by (step.Drop gone) = record { level = refl; n = refl; begun = refl }
    by (step.Const value) = given (gives_name k)
    by (step.Var level) = given (gives_name k)
    by (step.Pair op left right) = given (gives_name k)
    by (step.Ite test if_one if_zero) = given (gives_name k)
    by (step.Quantify quant of level) = given (gives_name k)
    by (step.Restrict of level value) = given (gives_name k)
    by (step.Same left right) = given (gives_name k)
    by (step.Leq left right) = given (gives_name k)
    by (step.Eval of at) = given (gives_name k)
    by (step.Size of) = given (gives_name k)

-- a line that is one step
pub step_keeps : (s t : State) (number : ℕ) (k : Keyword) (words : List Word) → plan_step s number k words ≡ Ok t → Stays s t
step_keeps s t number k words e =
    then_ok (step_of s k words) _ t e (λ made is next.
    then_ok (name_fits s k words) _ t next (λ u fits more.
    then_ok (check kind.TooManySteps (has_room (length s.steps + 1))) _ t more (λ v room last.
    subst (Stays s) (same_ok _ _ last) (let n = names_stay s k words made in record { level = n.level; n = n.n; begun = n.begun }))))

pairs_keep : (s : State) (number last : ℕ) (names : List Word) (made : List ℕ) → Stays s (give_names s number last names made)
pairs_keep s number last [] made = record { level = refl; n = refl; begun = refl }
pairs_keep s number last (w ∷ names) [] = record { level = refl; n = refl; begun = refl }
pairs_keep s number last (w ∷ names) (m ∷ made) =
    let rest = pairs_keep (give_name s number last w m) number last names made in record { level = rest.level; n = rest.n; begun = rest.begun }

-- a line that asks for signals
pub signals_keep : (s t : State) (number : ℕ) (names : List Word) (net : Net) (levels wanted : List ℕ) → plan_signals s number names net levels wanted ≡ Ok t → Stays s t
signals_keep s t number names net levels wanted e =
    then_ok (names_fit s names) _ t e (λ u fits rest.
    then_ok (check kind.TooManySteps (has_room (length s.steps + length (plan_steps net levels wanted (length s.steps))))) _ t rest (λ v room last.
    subst (Stays s) (same_ok _ _ last)
    (let p = pairs_keep (with_steps s (plan_steps net levels wanted (length s.steps))) number (length s.steps + length (plan_steps net levels wanted (length s.steps)) - 1) names (plan_made net levels wanted (length s.steps)) in
    record { level = p.level; n = p.n; begun = p.begun })))

-- names that fit are short
pub fits_all_short : (s : State) (names : List Word) → names_fit s names ≡ Ok tt → list_all is_short names ≡ true
fits_all_short s names fits = then_ok (check kind.NameLength (list_all is_short names)) _ tt fits (λ v short more. passed kind.NameLength _ short)

abbrev some_of : Net → Option Net
some_of net = Some net

-- what a line that asks for signals leaves
pub kept_signals : (netlist : Option Net) (net : Net) (s t : State) (tables : NetTables)
    (number : ℕ) (names : List Word) (levels wanted : List ℕ) → netlist ≡ Some net
    → s.begun ≡ true → AreTablesOf net s tables
    → plan_signals s number names net levels wanted ≡ Ok t → IsKept netlist t (Some tables)
kept_signals netlist net s t tables number names levels wanted given begun are planned =
    kept_on netlist s t (Some tables) (signals_keep s t number names net levels wanted planned)
    (record {
      begun = λ others same. begun;
      tables = λ others other same is.
          subst (λ (v : NetTables). AreTablesOf other s v) (some_tables tables others same)
          (subst (λ (v : Net). AreTablesOf v s tables) (some_net net other (sym given ∙ is)) are);
    })
  where
    some_net : (a b : Net) → some_of a ≡ Some b → a ≡ b
    some_net a b e = cc

    some_tables : (a b : NetTables) → Some a ≡ Some b → a ≡ b
    some_tables a b e = cc

-- and a line that begins
pub kept_begun : (netlist : Option Net) (s t : State) (kept : Option NetTables) → t ≡ begin s
    → IsKept netlist s kept → IsKept netlist t kept
kept_begun netlist s t kept begins is =
    subst (λ (v : State). IsKept netlist v kept) (sym begins) (record {
      begun = λ tables some. refl;
      tables = λ tables net some given. still net tables (is.tables tables net some given);
    })
  where
    still : (net : Net) (tables : NetTables) → AreTablesOf net s tables
        → AreTablesOf net (begin s) tables
    still net tables are = record { levels = are.levels; serves = are.serves }

-- and one that is one step
pub kept_step : (result : Result (Unit {0}) Refusal) (netlist : Option Net) (s begun t : State)
    (kept : Option NetTables) (number : ℕ) (k : Keyword) (words : List Word)
    → IsKept netlist s kept → begun ≡ begin s
    → Leads t result (plan_step begun number k words) → OnOk result (IsKept netlist t kept)
kept_step (Ok u) netlist s begun t kept number k words is begins leads =
    kept_on netlist begun t kept (step_keeps begun t number k words leads)
    (kept_begun netlist s begun kept begins is)
kept_step (Err e) netlist s begun t kept number k words is begins leads = tt
