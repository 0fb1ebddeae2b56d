-- How many words a line has that is formed as its keyword asks.
use Rattle.std.specs.Prelude.{◌≢◌, ◌≡◌, ℕ, ◌≤◌, not, is_some, Option, Result, Ok, Err, if◌then◌else◌, Bool, true, false, IsTrue, List, length}
use Rattle.std.proofs.Common.{arith, refl, sym, ap, subst, ◌∙◌}
use Rattle.std.proofs.lemmas.Bool.{leb-true}
use Rattle.blif_reader.specs.Netlist as blif
use Rattle.text_words.specs.Text.{Word}
use Rattle.script_reader.specs.declared.keyword.Keyword.{Keyword}
use Rattle.script_reader.specs.declared.keyword.Keyword.TheVariants.{Vars, Inputs, Const, Var, Not, Pair, Ite, Quantify, Restrict, Net, Drop, Same, Leq, Eval, Size}
use Rattle.script_reader.specs.declared.fault.ScriptKind.TheVariants as kind
use Rattle.script_reader.specs.Results.{◌>>=◌, check}
use Rattle.script_reader.specs.declared.fault.ScriptKind.{ScriptKind}
use Rattle.script_reader.specs.Keywords.{is_formed, wanted, word_at, gives_name, keyword_of}
use Rattle.script_reader.specs.Names.{State}
use Rattle.script_reader.specs.Requests.{name_fits, is_short, plan_step}
use Rattle.script_reader.specs.Script.{plan_request, keyword_in}

-- as many as are wanted
pub formed_wants : (begun : Bool) (n : ℕ) (k : Keyword) (words : List Word) → 1 ≤ length words → IsTrue (is_formed begun n k words) → wanted k ≤ length words
formed_wants begun n Vars words some formed = some
formed_wants begun n Inputs words some formed = some
formed_wants begun n Const words some formed = grind arith
formed_wants begun n Var words some formed = grind arith
formed_wants begun n Not words some formed = grind arith
formed_wants begun n (Pair op) words some formed = grind arith
formed_wants begun n Ite words some formed = grind arith
formed_wants begun n (Quantify kind) words some formed = grind arith
formed_wants begun n Restrict words some formed = grind arith
formed_wants begun n Net words some formed = grind arith
formed_wants begun n Drop words some formed = grind arith
formed_wants begun n Same words some formed = grind arith
formed_wants begun n Leq words some formed = grind arith
formed_wants begun n Eval words some formed = grind arith
formed_wants begun n Size words some formed = grind arith

-- a name that fits is short
pub fits_short : (s : State) (k : Keyword) (words : List Word) → name_fits s k words ≡ Ok tt → gives_name k ≡ true → length (word_at 1 words).bytes ≤ 63
fits_short s k words fits given = by (is_short (word_at 1 words)) refl
  where
    by : (b : Bool) → is_short (word_at 1 words) ≡ b → length (word_at 1 words).bytes ≤ 63
    by true short = leb-true _ _ short
    by false long =
        let e : Err kind.NameLength ≡ Ok tt = sym (ap (λ v. if gives_name k then (check kind.NameLength v >>= λ _. check kind.NameTaken (not (is_some (s.named (word_at 1 words).bytes)))) else Ok tt) long ∙ ap (λ v. if v then Err kind.NameLength else Ok tt) given) ∙ fits in
        absurd cc

-- a line that names no variables and asks for no netlist has two words at least
pub wants_two : (k : Keyword) → k ≢ Vars → k ≢ Inputs → 2 ≤ wanted k
wants_two Vars vars inputs = absurd (vars refl)
wants_two Inputs vars inputs = absurd (inputs refl)
wants_two Const vars inputs = omega arith
wants_two Var vars inputs = omega arith
wants_two Not vars inputs = omega arith
wants_two (Pair op) vars inputs = omega arith
wants_two Ite vars inputs = omega arith
wants_two (Quantify kind) vars inputs = omega arith
wants_two Restrict vars inputs = omega arith
wants_two Net vars inputs = omega arith
wants_two Drop vars inputs = omega arith
wants_two Same vars inputs = omega arith
wants_two Leq vars inputs = omega arith
wants_two Eval vars inputs = omega arith
wants_two Size vars inputs = omega arith

-- and is one step, unless it asks for signals
pub is_one_step : (netlist : Option blif.Net) (s : State) (number : ℕ) (k : Keyword) (words : List Word) → k ≢ Vars → k ≢ Inputs → k ≢ Net
    → plan_request netlist s number k words ≡ plan_step s number k words
is_one_step netlist s number Vars words vars inputs net = absurd (vars refl)
is_one_step netlist s number Inputs words vars inputs net = absurd (inputs refl)
is_one_step netlist s number Const words vars inputs net = refl
is_one_step netlist s number Var words vars inputs net = refl
is_one_step netlist s number Not words vars inputs net = refl
is_one_step netlist s number (Pair op) words vars inputs net = refl
is_one_step netlist s number Ite words vars inputs net = refl
is_one_step netlist s number (Quantify kind) words vars inputs net = refl
is_one_step netlist s number Restrict words vars inputs net = refl
is_one_step netlist s number Net words vars inputs net = absurd (net refl)
is_one_step netlist s number Drop words vars inputs net = refl
is_one_step netlist s number Same words vars inputs net = refl
is_one_step netlist s number Leq words vars inputs net = refl
is_one_step netlist s number Eval words vars inputs net = refl
is_one_step netlist s number Size words vars inputs net = refl

-- a keyword of a line has the words that it wants
pub has_wanted : (known : List (List ℕ)) (s : State) (words : List Word) (k : Keyword) → 1 ≤ length words → keyword_in known s words ≡ Ok k → wanted k ≤ length words
has_wanted known s words k some is = by (keyword_of known (word_at 0 words).bytes) refl
  where
    right : (found : Keyword) → (b : Bool) → is_formed s.begun s.n found words ≡ b → (check kind.Word b >>= λ _. Ok found) ≡ Ok k → wanted k ≤ length words
    right found true formed e =
        let same : found ≡ k = ap (λ (r : Result Keyword ScriptKind). elim r as (λ _. Keyword) [ Ok x ↦ x | Err x ↦ found ]) e in
        subst (λ (v : Keyword). wanted v ≤ length words) same (formed_wants s.begun s.n found words some formed)
    right found false formed e = absurd cc

    by : (read : Result Keyword ScriptKind) → keyword_of known (word_at 0 words).bytes ≡ read → wanted k ≤ length words
    by (Ok found) e = right found (is_formed s.begun s.n found words) refl (sym (ap (λ (r : Result Keyword ScriptKind). r >>= λ v. check kind.Word (is_formed s.begun s.n v words) >>= λ _. Ok v) e) ∙ is)
    by (Err fault) e = let wrong : Err fault ≡ Ok k = sym (ap (λ (r : Result Keyword ScriptKind). r >>= λ v. check kind.Word (is_formed s.begun s.n v words) >>= λ _. Ok v) e) ∙ is in absurd cc
