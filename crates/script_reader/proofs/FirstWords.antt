-- The variables of a script are those of its first line with words.
use Rattle.std.proofs.Common.{◌≡◌, ℕ, ◌+◌, Bool, true, false, List, [], ◌∷◌, ◌++◌, length, drop, Option, Some, None, refl, sym, ap, subst, ◌∙◌}
use Rattle.std.specs.Prelude.{Result, Ok, Err, not, nat_le, codes, option_map, if◌then◌else◌}
use Rattle.std.specs.Str.{bytes_eq}
use Rattle.std.proofs.lemmas.Bool.{and_parts, not-true, true≢false}
use Rattle.rec_words.specs.Words.{most_variables}
use Rattle.bool_tables.specs.declared.steps.Bin.{Bin}
use Rattle.bool_tables.specs.declared.steps.Quant.TheVariants.{Exists, Forall}
use Rattle.blif_reader.specs.Netlist as blif
use Rattle.text_words.specs.Text.{Line, Word, words_in}
use Rattle.script_reader.specs.declared.fault.ScriptFault.{ScriptFault}
use Rattle.script_reader.specs.declared.fault.ScriptKind.{ScriptKind}
use Rattle.script_reader.specs.declared.fault.ScriptKind.TheVariants as kind
use Rattle.script_reader.specs.declared.keyword.Keyword.{Keyword}
use Rattle.script_reader.specs.declared.keyword.Keyword.TheVariants.{Vars, Inputs, Const, Var, Not, Pair, Ite, Quantify, Restrict, Net, Drop, Same, Leq, Eval, Size}
use Rattle.script_reader.specs.Results.{check, on_line}
use Rattle.script_reader.specs.Keywords.{word_at, texts_of, operator_of, diagram_of, spelled, is_known, or_word, keyword_of, is_formed, built_words}
use Rattle.script_reader.specs.Names.{State, nothing, place_of, all_differ, with_variables}
use Rattle.script_reader.specs.Nets.{inputs_of, signals_named, wanted_of, levels_of, names_in, plan_net}
use Rattle.script_reader.specs.Script.{plan_vars, plan_request, begin, keyword_in, plan_line, plan_lines}
use Rattle.script_reader.specs.Signals.{or_words, first_words, variables_in}
use Rattle.script_reader.proofs.Behind.{fault_stays}
use Rattle.script_reader.proofs.Levels.{Stays, step_keeps, signals_keep}
use Rattle.script_reader.proofs.MadeSteps.{then_ok, passed, same_ok}

-- a request that takes variables
abbrev pub names_variables : Keyword → Bool
names_variables Vars = true
names_variables Inputs = true
names_variables Const = false
names_variables Var = false
names_variables Not = false
names_variables (Pair op) = false
names_variables Ite = false
names_variables (Quantify quant) = false
names_variables Restrict = false
names_variables Net = false
names_variables Drop = false
names_variables Same = false
names_variables Leq = false
names_variables Eval = false
names_variables Size = false

same_word : (a b : Keyword) → Some a ≡ Some b → a ≡ b
same_word a b e = cc

-- a word that asks for something else
skip : (b : Bool) (x : Keyword) (rest : Option Keyword) (k : Keyword) → names_variables x ≡ false → (rest ≡ Some k → names_variables k ≡ false) → (if b then Some x else rest) ≡ Some k → names_variables k ≡ false
skip true x rest k other next e = sym (ap names_variables (same_word x k e)) ∙ other
skip false x rest k other next e = next e

operators : (o : Option Bin) (k : Keyword) → option_map Pair o ≡ Some k → names_variables k ≡ false
operators None k e = absurd cc
operators (Some op) k e = sym (ap names_variables (same_word (Pair op) k e))

diagrams : (word : List ℕ) (k : Keyword) → diagram_of word ≡ Some k → names_variables k ≡ false
diagrams word k =
    skip _ Const _ k refl (skip _ Var _ k refl (skip _ Not _ k refl (skip _ Ite _ k refl (skip _ (Quantify Exists) _ k refl (skip _ (Quantify Forall) _ k refl (skip _ Restrict _ k refl
    (operators (operator_of word) k)))))))

-- what a word asks for that is neither of the two
others : (word : List ℕ) (k : Keyword) → bytes_eq word (codes "vars") ≡ false → bytes_eq word (codes "inputs") ≡ false → spelled word ≡ Some k → names_variables k ≡ false
others word k no_vars no_inputs e =
    skip _ Net _ k refl (skip _ Drop _ k refl (skip _ Same _ k refl (skip _ Leq _ k refl (skip _ Eval _ k refl (skip _ Size _ k refl (diagrams word k)))))) (rw (no_vars, no_inputs) at e)

spells : (word : List ℕ) (k : Keyword) → keyword_of built_words word ≡ Ok k → spelled word ≡ Some k
spells word k e = by (is_known built_words word) (spelled word) e
  where
    is_ok : (o : Option Keyword) → or_word o ≡ Ok k → o ≡ Some k
    is_ok None e = absurd cc
    is_ok (Some x) e = ap Some (same_ok _ _ e)

    by : (b : Bool) (o : Option Keyword) → (if b then or_word o else Err kind.Word) ≡ Ok k → o ≡ Some k
    by true o e = is_ok o e
    by false o e = absurd cc

-- what the first words of a line say of variables, by its keyword
record Takes (net : blif.Net) (k : Keyword) (words : List Word) : Type 0 where
  vars : k ≡ Vars → variables_in net words ≡ texts_of (drop 1 words)
  inputs : k ≡ Inputs → variables_in net words ≡ inputs_of net
  none : names_variables k ≡ false → variables_in net words ≡ []

takes : (net : blif.Net) (k : Keyword) (words : List Word) → keyword_of built_words (word_at 0 words).bytes ≡ Ok k → Takes net k words
takes net k words e = by (bytes_eq word (codes "vars")) (bytes_eq word (codes "inputs")) refl refl
  where
    word : List ℕ
    word = (word_at 0 words).bytes

    spelled_is : spelled word ≡ Some k
    spelled_is = spells word k e

    by : (v i : Bool) → bytes_eq word (codes "vars") ≡ v → bytes_eq word (codes "inputs") ≡ i → Takes net k words
    by true i v_is i_is =
        let k_is : k ≡ Vars = sym (same_word _ _ (rw v_is at spelled_is)) in
        record {
          vars = λ is. rw v_is refl;
          inputs = λ is. let wrong : Vars ≡ Inputs = sym k_is ∙ is in absurd cc;
          none = λ other. absurd (true≢false (sym (ap names_variables k_is) ∙ other));
        }
    by false true v_is i_is =
        let k_is : k ≡ Inputs = sym (same_word _ _ (rw (v_is, i_is) at spelled_is)) in
        record {
          vars = λ is. let wrong : Inputs ≡ Vars = sym k_is ∙ is in absurd cc;
          inputs = λ is. rw (v_is, i_is) refl;
          none = λ other. absurd (true≢false (sym (ap names_variables k_is) ∙ other));
        }
    by false false v_is i_is =
        let other = others word k v_is i_is spelled_is in
        record {
          vars = λ is. absurd (true≢false (sym (ap names_variables is) ∙ other));
          inputs = λ is. absurd (true≢false (sym (ap names_variables is) ∙ other));
          none = λ other. rw (v_is, i_is) refl;
        }

-- any other request keeps the levels
pub net_keeps : (netlist : Option blif.Net) (s t : State) (number : ℕ) (words : List Word) → plan_net netlist s number words ≡ Ok t → Stays s t
net_keeps None s t number words e = then_ok (signals_named words) _ t e (λ signals named rest. absurd cc)
net_keeps (Some net) s t number words e =
    then_ok (signals_named words) _ t e (λ signals named rest.
    then_ok (wanted_of net signals) _ t rest (λ wanted wants more.
    then_ok (levels_of s net) _ t more (λ levels has last.
    signals_keep s t number (names_in words) net levels wanted last)))

pub request_keeps : (netlist : Option blif.Net) (s t : State) (number : ℕ) (k : Keyword) (words : List Word) → names_variables k ≡ false → plan_request netlist s number k words ≡ Ok t → Stays s t
request_keeps netlist s t number Vars words other e = absurd (true≢false other)
request_keeps netlist s t number Inputs words other e = absurd (true≢false other)
request_keeps netlist s t number Net words other e = net_keeps netlist s t number words e
request_keeps netlist s t number Const words other e = step_keeps s t number Const words e
request_keeps netlist s t number Var words other e = step_keeps s t number Var words e
request_keeps netlist s t number Not words other e = step_keeps s t number Not words e
request_keeps netlist s t number (Pair op) words other e = step_keeps s t number (Pair op) words e
request_keeps netlist s t number Ite words other e = step_keeps s t number Ite words e
request_keeps netlist s t number (Quantify q) words other e = step_keeps s t number (Quantify q) words e
request_keeps netlist s t number Restrict words other e = step_keeps s t number Restrict words e
request_keeps netlist s t number Drop words other e = step_keeps s t number Drop words e
request_keeps netlist s t number Same words other e = step_keeps s t number Same words e
request_keeps netlist s t number Leq words other e = step_keeps s t number Leq words e
request_keeps netlist s t number Eval words other e = step_keeps s t number Eval words e
request_keeps netlist s t number Size words other e = step_keeps s t number Size words e

-- what is known of variables behind lines whose first words are these
abbrev pub has_words : List Word → Bool
has_words [] = false
has_words (w ∷ words) = true

pub record Knows (net : blif.Net) (words : List Word) (s : State) : Type 0 where
  pub begun : s.begun ≡ has_words words
  pub level : (name : List ℕ) → s.level name ≡ place_of (variables_in net words) name
  pub n : s.n ≡ length (variables_in net words)

pub knows_nothing : (net : blif.Net) → Knows net [] nothing
knows_nothing net = record { begun = refl; level = λ name. refl; n = refl }

no_more : (words : List Word) → or_words words [] ≡ words
no_more [] = refl
no_more (w ∷ words) = refl

-- the keyword of a line, its form, and what it leaves
pub record Reading (netlist : Option blif.Net) (s t : State) (number : ℕ) (words : List Word) : Type 0 where
  pub k : Keyword
  pub word : keyword_of built_words (word_at 0 words).bytes ≡ Ok k
  pub formed : is_formed s.begun s.n k words ≡ true
  pub request : plan_request netlist (begin s) number k words ≡ Ok t

pub reading : (netlist : Option blif.Net) (s t : State) (number : ℕ) (w : Word) (words : List Word) → plan_line built_words netlist s number (w ∷ words) ≡ Ok t → Reading netlist s t number (w ∷ words)
reading netlist s t number w words e =
    then_ok (keyword_in built_words s (w ∷ words)) _ t e (λ k is rest.
    then_ok (keyword_of built_words (word_at 0 (w ∷ words)).bytes) _ k is (λ read word next.
    then_ok (check kind.Word (is_formed s.begun s.n read (w ∷ words))) _ k next (λ u formed last.
    let same : read ≡ k = same_ok _ _ last in
    record {
      k = k;
      word = word ∙ ap Ok same;
      formed = subst (λ v. is_formed s.begun s.n v (w ∷ words) ≡ true) same (passed kind.Word _ formed);
      request = rest;
    })))

-- no variables are named on a later line
pub is_other : (begun : Bool) (n : ℕ) (k : Keyword) (words : List Word) → begun ≡ true → is_formed begun n k words ≡ true → names_variables k ≡ false
is_other begun n Vars words is formed = absurd (true≢false (sym is ∙ not-true _ formed))
is_other begun n Inputs words is formed = absurd (true≢false (sym is ∙ not-true _ (and_parts (not begun) _ formed).0))
is_other begun n Const words is formed = refl
is_other begun n Var words is formed = refl
is_other begun n Not words is formed = refl
is_other begun n (Pair op) words is formed = refl
is_other begun n Ite words is formed = refl
is_other begun n (Quantify q) words is formed = refl
is_other begun n Restrict words is formed = refl
is_other begun n Net words is formed = refl
is_other begun n Drop words is formed = refl
is_other begun n Same words is formed = refl
is_other begun n Leq words is formed = refl
is_other begun n Eval words is formed = refl
is_other begun n Size words is formed = refl

-- the first line with words
first_line : (net : blif.Net) (s t : State) (number : ℕ) (w : Word) (words : List Word) → Knows net [] s → Reading (Some net) s t number (w ∷ words) → Knows net (w ∷ words) t
first_line net s t number w words knows r = by r.k r.request (takes net r.k (w ∷ words) r.word)
  where
    -- a request that keeps the levels, of which there are none
    kept : (k : Keyword) → names_variables k ≡ false → plan_request (Some net) (begin s) number k (w ∷ words) ≡ Ok t → Takes net k (w ∷ words) → Knows net (w ∷ words) t
    kept k other e taken =
        let stays = request_keeps (Some net) (begin s) t number k (w ∷ words) other e in
        record {
          begun = stays.begun;
          level = λ name. ap (λ f. f name) stays.level ∙ knows.level name ∙ ap (λ names. place_of names name) (sym (taken.none other));
          n = stays.n ∙ knows.n ∙ ap length (sym (taken.none other));
        }

    vars : plan_vars (begin s) (w ∷ words) ≡ Ok t → Takes net Vars (w ∷ words) → Knows net (w ∷ words) t
    vars e taken =
        then_ok (check kind.Variable (all_differ (texts_of words))) _ t e (λ u differ rest.
        then_ok (check kind.TooManyVariables (nat_le (length (w ∷ words)) (most_variables + 1))) _ t rest (λ v few last.
        subst (Knows net (w ∷ words)) (same_ok (with_variables (begin s) (texts_of words)) t last) (record {
          begun = refl;
          level = λ name. ap (λ names. place_of names name) (sym (taken.vars refl));
          n = ap length (sym (taken.vars refl));
        })))

    by : (k : Keyword) → plan_request (Some net) (begin s) number k (w ∷ words) ≡ Ok t → Takes net k (w ∷ words) → Knows net (w ∷ words) t
    by Vars e taken = vars e taken
    by Inputs e taken =
        subst (Knows net (w ∷ words)) (same_ok _ _ e) (record {
          begun = refl;
          level = λ name. ap (λ names. place_of names name) (sym (taken.inputs refl));
          n = ap length (sym (taken.inputs refl));
        })
    by Net e taken = kept Net refl e taken
    by Const e taken = kept Const refl e taken
    by Var e taken = kept Var refl e taken
    by Not e taken = kept Not refl e taken
    by (Pair op) e taken = kept (Pair op) refl e taken
    by Ite e taken = kept Ite refl e taken
    by (Quantify q) e taken = kept (Quantify q) refl e taken
    by Restrict e taken = kept Restrict refl e taken
    by Drop e taken = kept Drop refl e taken
    by Same e taken = kept Same refl e taken
    by Leq e taken = kept Leq refl e taken
    by Eval e taken = kept Eval refl e taken
    by Size e taken = kept Size refl e taken

-- a line behind others
pub line_knows : (net : blif.Net) (words : List Word) (s t : State) (number : ℕ) (here : List Word) → Knows net words s → plan_line built_words (Some net) s number here ≡ Ok t → Knows net (or_words words here) t
line_knows net words s t number [] knows e = subst (λ ws. Knows net ws t) (sym (no_more words)) (subst (Knows net words) (same_ok _ _ e) knows)
line_knows net [] s t number (h ∷ here) knows e = first_line net s t number h here knows (reading (Some net) s t number h here e)
line_knows net (w ∷ words) s t number (h ∷ here) knows e =
    let r = reading (Some net) s t number h here e in
    let stays = request_keeps (Some net) (begin s) t number r.k (h ∷ here) (is_other s.begun s.n r.k (h ∷ here) knows.begun r.formed) r.request in
    record { begun = stays.begun; level = λ name. ap (λ f. f name) stays.level ∙ knows.level name; n = stays.n ∙ knows.n }

-- lines behind each other, where none is at fault
pub one_ok : (P : Type 0) (known : List (List ℕ)) (netlist : Option blif.Net) (s t : State) (line : Line) (lines : List Line) → plan_lines known netlist (Ok s) (line ∷ lines) ≡ Ok t
    → ((u : State) → plan_line known netlist s line.number (words_in line) ≡ Ok u → plan_lines known netlist (Ok u) lines ≡ Ok t → P) → P
one_ok P known netlist s t line lines e next = by (plan_line known netlist s line.number (words_in line)) refl
  where
    by : (r : Result State ScriptKind) → plan_line known netlist s line.number (words_in line) ≡ r → P
    by (Ok u) is = next u is (sym (ap (λ r. plan_lines known netlist (on_line line.number r) lines) is) ∙ e)
    by (Err fault) is =
        let wrong = sym (fault_stays known netlist (record { line = line.number; kind = fault }) lines) ∙ sym (ap (λ r. plan_lines known netlist (on_line line.number r) lines) is) ∙ e in
        absurd cc

pub or_or : (a b c : List Word) → or_words (or_words a b) c ≡ or_words a (or_words b c)
or_or [] b c = refl
or_or (w ∷ a) b c = refl

abbrev is_planned : State → Result State ScriptFault
is_planned s = Ok s

same_state : (s t : State) → is_planned s ≡ Ok t → s ≡ t
same_state s t e = cc

pub lines_know : (net : blif.Net) (words : List Word) (s t : State) (lines : List Line) → Knows net words s → plan_lines built_words (Some net) (Ok s) lines ≡ Ok t → Knows net (or_words words (first_words lines)) t
lines_know net words s t [] knows e = subst (λ ws. Knows net ws t) (sym (no_more words)) (subst (Knows net words) (same_state s t e) knows)
lines_know net words s t (line ∷ lines) knows e =
    one_ok _ built_words (Some net) s t line lines e (λ u is rest.
    subst (λ ws. Knows net ws t) (or_or words (words_in line) (first_words lines))
    (lines_know net (or_words words (words_in line)) u t lines (line_knows net words s u line.number (words_in line) knows is) rest))

-- first words of lines in front of others
pub first_append : (a b : List Line) → first_words (a ++ b) ≡ or_words (first_words a) (first_words b)
first_append [] b = refl
first_append (line ∷ a) b = ap (or_words (words_in line)) (first_append a b) ∙ sym (or_or (words_in line) (first_words a) (first_words b))
