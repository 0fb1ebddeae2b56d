-- The plan of a script over a netlist makes the signals that its lines ask for.
use Rattle.std.proofs.Common.{◌≡◌, ℕ, ◌≤◌, true, List, [], ◌∷◌, ◌++◌, length, take, drop, get_or, Option, Some, refl, sym, ap, subst, ◌∙◌, arith}
use Rattle.std.specs.Prelude.{Result, Ok, Err}
use Rattle.std.specs.List.{All, Any, AllByRecursion, Contains}
use Rattle.std.proofs.lemmas.List.{get_or_append_left, get_or-take, take-append-drop, drop_more}
use Rattle.std.proofs.lemmas.List.Elements.{All-weaker}
use Rattle.bool_tables.specs.Steps.{tables_after}
use Rattle.bool_tables.specs.declared.steps.Planned.{Planned}
use Rattle.blif_reader.specs.Netlist as blif
use Rattle.net_plan.specs.Values.{IsTableOf}
use Rattle.text_words.specs.Text.{Line, Word, lines_of, words_in}
use Rattle.script_reader.specs.declared.fault.ScriptFault.{ScriptFault}
use Rattle.script_reader.specs.declared.fault.ScriptKind.TheVariants as kind
use Rattle.script_reader.specs.declared.keyword.Keyword.{Keyword}
use Rattle.script_reader.specs.declared.keyword.Keyword.TheVariants.{Vars, Inputs, Const, Var, Not, Pair, Ite, Quantify, Restrict, Net, Drop, Same, Leq, Eval, Size}
use Rattle.script_reader.specs.declared.plan.LineEnd.{LineEnd}
use Rattle.script_reader.specs.declared.plan.Plan.{Plan}
use Rattle.script_reader.specs.Results.{on_line, check}
use Rattle.script_reader.specs.Keywords.{built_words}
use Rattle.script_reader.specs.Names.{State, nothing, place_of}
use Rattle.script_reader.specs.Nets.{inputs_of, signals_named, wanted_of, levels_of, names_in, names_fit, nameless, with_steps, give_names, plan_net}
use Rattle.script_reader.specs.Requests.{has_room}
use Rattle.script_reader.specs.Reads.{Reads}
use Rattle.script_reader.specs.Script.{plan_line, plan_lines, plan_of, plan_request, begin}
use Rattle.script_reader.specs.Signals.{SignalPair, pairs_in, IsNetLine, first_words, variables_in, variables_of, or_words, AreLevels, text_up_to, IsSignalLine, MakesSignals}
use Rattle.script_reader.proofs.Appends.{no_step, Appends, appends_none, appends_on, step_appends, names_keep, names_say, contains_more}
use Rattle.script_reader.proofs.Behind.{fault_stays, lines_keep, planned_by, read_short}
use Rattle.script_reader.proofs.Fronts.{lines_up_to, up_to_short}
use Rattle.script_reader.proofs.FirstWords.{knows_nothing, line_knows, lines_know, one_ok, or_or, first_append, reading, is_other, names_variables}
use Rattle.script_reader.proofs.Kept.{WordsStand, words_stand, line_stands, begin_stands}
use Rattle.script_reader.proofs.MadeSteps.{then_ok, same_ok}
use Rattle.script_reader.proofs.NetLines.{inputs_length, found_length, plain_steps, signals_go_on}
use Rattle.script_reader.proofs.PlanTables.{table_stays}
use Rattle.script_reader.proofs.SignalLines.{found_at, IsMade, LineMakes, line_makes}
use Rattle.script_reader.proofs.Stands.{Stands, nothing_stands}
use Rattle.net_plan.specs.Plan.{plan_steps, plan_made}
use Rattle.std.proofs.Common.{◌+◌, ◌-◌, map, false}
use Rattle.std.proofs.lemmas.Bool.{true≢false}

-- a line that asks for signals puts its steps and said lines behind those so far
net_appends : (text : List ℕ) (net : blif.Net) (s t : State) (number : ℕ) (words : List Word) → blif.IsNet net → Stands text s → plan_net (Some net) s number words ≡ Ok t → Appends s t
net_appends text net s t number words sound h e =
    then_ok (signals_named words) _ t e (λ signals named rest.
    then_ok (wanted_of net signals) _ t rest (λ wanted wants more.
    then_ok (levels_of s net) _ t more (λ levels has last.
    then_ok (names_fit s (names_in words)) _ t last (λ u fits room.
    then_ok (check kind.TooManySteps (has_room (length s.steps + length (plan_steps net levels wanted (length s.steps))))) _ t room (λ v few is.
    subst (Appends s) (same_ok _ _ is) (behind signals wanted levels wants has))))))
  where
    behind : (signals : List (List ℕ)) (wanted levels : List ℕ) → wanted_of net signals ≡ Ok wanted → levels_of s net ≡ Ok levels
        → Appends s (give_names (with_steps s (plan_steps net levels wanted (length s.steps))) number (length s.steps + length (plan_steps net levels wanted (length s.steps)) - 1) (names_in words) (plan_made net levels wanted (length s.steps)))
    behind signals wanted levels wants has =
        let steps = plan_steps net levels wanted (length s.steps) in
        let made = plan_made net levels wanted (length s.steps) in
        let on = signals_go_on text s net signals levels wanted sound h wants has in
        let kept = names_keep s.steps steps (with_steps s steps) number (length s.steps + length steps - 1) (names_in words) made
        (record { rest = map nameless steps; is = refl; same = plain_steps steps }) on.new in
        let says = names_say (with_steps s steps) number (length s.steps + length steps - 1) (names_in words) made in
        record { more = kept.rest; steps = kept.is; said = says.said; lines = says.lines; n = says.n; begun = says.begun }

-- so does any other that takes no variables
request_appends : (text : List ℕ) (net : blif.Net) (s t : State) (number : ℕ) (k : Keyword) (words : List Word) → blif.IsNet net → Stands text s → names_variables k ≡ false
    → plan_request (Some net) s number k words ≡ Ok t → Appends s t
request_appends text net s t number Vars words sound h other e = absurd (true≢false other)
request_appends text net s t number Inputs words sound h other e = absurd (true≢false other)
request_appends text net s t number Net words sound h other e = net_appends text net s t number words sound h e
request_appends text net s t number Const words sound h other e = step_appends s t number Const words e
request_appends text net s t number Var words sound h other e = step_appends s t number Var words e
request_appends text net s t number Not words sound h other e = step_appends s t number Not words e
request_appends text net s t number (Pair op) words sound h other e = step_appends s t number (Pair op) words e
request_appends text net s t number Ite words sound h other e = step_appends s t number Ite words e
request_appends text net s t number (Quantify q) words sound h other e = step_appends s t number (Quantify q) words e
request_appends text net s t number Restrict words sound h other e = step_appends s t number Restrict words e
request_appends text net s t number Drop words sound h other e = step_appends s t number Drop words e
request_appends text net s t number Same words sound h other e = step_appends s t number Same words e
request_appends text net s t number Leq words sound h other e = step_appends s t number Leq words e
request_appends text net s t number Eval words sound h other e = step_appends s t number Eval words e
request_appends text net s t number Size words sound h other e = step_appends s t number Size words e

-- a line behind the first with words
line_appends : (text : List ℕ) (net : blif.Net) (s t : State) (number : ℕ) (words : List Word) → blif.IsNet net → Stands text s → s.begun ≡ true
    → plan_line built_words (Some net) s number words ≡ Ok t → Appends s t
line_appends text net s t number [] sound h begun e = subst (Appends s) (same_ok _ _ e) (appends_none s)
line_appends text net s t number (w ∷ words) sound h begun e =
    let r = reading (Some net) s t number w words e in
    let a = request_appends text net (begin s) t number r.k (w ∷ words) sound (begin_stands text s h) (is_other s.begun s.n r.k (w ∷ words) begun r.formed) r.request in
    record { more = a.more; steps = a.steps; said = a.said; lines = a.lines; n = a.n; begun = a.begun ∙ sym begun }

-- what stands behind lines
record StandsBehind (text : List ℕ) (s t : State) : Type 0 where
  stands : Stands text t
  begun : t.begun ≡ true
  appends : Appends s t

lines_append : (text : List ℕ) (net : blif.Net) (s t : State) (lines : List Line) → blif.IsNet net → Stands text s → s.begun ≡ true → AllByRecursion (WordsStand text) lines
    → plan_lines built_words (Some net) (Ok s) lines ≡ Ok t → Appends s t
lines_append text net s t lines sound h begun all e =
    (lines_keep (StandsBehind text s) (WordsStand text) built_words (Some net)
    (λ a b line is words e.
    let more = line_appends text net a b line.number (words_in line) sound is.stands is.begun e in
    record {
      stands = line_stands built_words (Some net) text a b line.number (words_in line) sound is.stands words e;
      begun = more.begun ∙ is.begun;
      appends = appends_on s a b is.appends more;
    })
    s t lines (record { stands = h; begun = begun; appends = appends_none s }) all e).appends

-- lines in front of others
front_lines : (known : List (List ℕ)) (netlist : Option blif.Net) (r : Result State ScriptFault) (a b : List Line) → plan_lines known netlist r (a ++ b) ≡ plan_lines known netlist (plan_lines known netlist r a) b
front_lines known netlist r [] b = refl
front_lines known netlist (Ok s) (line ∷ a) b = front_lines known netlist (on_line line.number (plan_line known netlist s line.number (words_in line))) a b
front_lines known netlist (Err fault) (line ∷ a) b = front_lines known netlist (Err fault) a b

all_front : (P : Line → Type 0) (a b : List Line) → AllByRecursion P (a ++ b) → AllByRecursion P a
all_front P [] b all = tt
all_front P (x ∷ a) b all = (all.0, all_front P a b all.1)

all_back : (P : Line → Type 0) (a b : List Line) → AllByRecursion P (a ++ b) → AllByRecursion P b
all_back P [] b all = all
all_back P (x ∷ a) b all = all_back P a b all.1

-- the levels of the inputs are those of the script's variables
levels_are : (net : blif.Net) (s : State) (variables : List (List ℕ)) (levels : List ℕ) → blif.IsNet net → ((name : List ℕ) → s.level name ≡ place_of variables name) → levels_of s net ≡ Ok levels → AreLevels net variables levels
levels_are net s variables levels sound level has =
    let count : length levels ≡ net.inputs = found_length kind.Variable s.level (inputs_of net) levels has ∙ inputs_length net sound in
    record {
      each = count;
      places = λ i b.
          sym (level (get_or net.names i [])) ∙ ap s.level (sym (get_or-take net.inputs net.names i [] b))
          ∙ found_at kind.Variable s.level (inputs_of net) levels has i (omega (arith, b, count));
    }

-- the plan of what is known behind all lines
abbrev plan_behind : State → Plan
plan_behind u = record { n = u.n; steps = u.steps; lines = u.lines }

-- what a line made stays in the plan
made_stays : (net : blif.Net) (text : List ℕ) (line : Line) (levels : List ℕ) (t u : State) (p : SignalPair) → Appends t u → AreLevels net (variables_of net text) levels
    → Reads (Some net) (text_up_to text line) (plan_behind t) → IsMade net text line.number levels t p → Any (IsSignalLine net text (plan_behind u) line p) u.lines
made_stays net text line levels t u p a are asked m =
    let end : LineEnd = record { line = line.number; last = m.last; shows = m.shows } in
    let has : Contains u.lines end = subst (λ xs. Contains xs end) (sym a.lines) (contains_more t.lines a.said end m.said) in
    let same : get_or u.steps m.shows no_step ≡ get_or t.steps m.shows no_step = ap (λ xs. get_or xs m.shows no_step) a.steps ∙ get_or_append_left t.steps a.more no_step m.shows m.inside in (
      has.0,
      end,
      has.1,
      has.2,
      record {
        of_line = refl;
        front = plan_behind t;
        asked = asked;
        last = m.ends;
        named = ap (λ (q : Planned). take q.name_len (drop q.name_at text)) same ∙ m.named;
        shown = record {
          signal = m.signal;
          is_signal = m.is_signal;
          levels = levels;
          are_levels = are;
          table = subst (λ n. IsTableOf n net levels m.signal (get_or (tables_after n [] u.steps) m.shows [])) (sym a.n)
              (subst (IsTableOf t.n net levels m.signal) (sym (ap (λ xs. get_or (tables_after t.n [] xs) m.shows []) a.steps ∙ table_stays t.n t.steps a.more m.shows m.inside)) m.table);
        };
      },
    )

-- a line in front of others, behind which all is known
module _ (net : blif.Net) (text : List ℕ) (before : List Line) (line : Line) (behind : List Line) (sound : blif.IsNet net) (short : length text ≤ 1048576) (split : lines_of text ≡ before ++ line ∷ behind) (is_net : IsNetLine line) where
  line_shows : (s t u : State) → plan_lines built_words (Some net) (Ok nothing) before ≡ Ok s → plan_line built_words (Some net) s line.number (words_in line) ≡ Ok t
      → plan_lines built_words (Some net) (Ok t) behind ≡ Ok u → All (λ pair. Any (IsSignalLine net text (plan_behind u) line pair) u.lines) (pairs_in line)
  line_shows s t u first here rest =
      let words : AllByRecursion (WordsStand text) (before ++ line ∷ behind) = subst (AllByRecursion (WordsStand text)) split (words_stand text) in
      let later : AllByRecursion (WordsStand text) (line ∷ behind) = all_back (WordsStand text) before (line ∷ behind) words in
      let stands : Stands text s =
      lines_keep (Stands text) (WordsStand text) built_words (Some net) (λ a b l. line_stands built_words (Some net) text a b l.number (words_in l) sound) nothing s before (nothing_stands text) (all_front (WordsStand text) before (line ∷ behind) words) first in
      let makes : LineMakes net text s t line.number (words_in line) = line_makes net text s t line.number (words_in line) sound stands later.0 is_net here in
      let knows = line_knows net (first_words before) s t line.number (words_in line) (lines_know net [] nothing s before (knows_nothing net) first) here in
      let firsts : first_words (lines_of text) ≡ or_words (first_words before) (words_in line) =
      ap first_words split ∙ first_append before (line ∷ behind) ∙ sym (or_or (first_words before) (words_in line) (first_words behind)) ∙ makes.some (first_words before) (first_words behind) in
      let level : (name : List ℕ) → s.level name ≡ place_of (variables_of net text) name =
      λ name. sym (ap (λ f. f name) makes.stays.level) ∙ knows.level name ∙ ap (λ ws. place_of (variables_in net ws) name) (sym firsts) in
      let a : Appends t u = lines_append text net t u behind sound (line_stands built_words (Some net) text s t line.number (words_in line) sound stands later.0 here) makes.stays.begun later.1 rest in
      let front : plan_lines built_words (Some net) (Ok nothing) (before ++ line ∷ []) ≡ Ok t =
      front_lines built_words (Some net) (Ok nothing) before (line ∷ []) ∙ ap (λ r. plan_lines built_words (Some net) r (line ∷ [])) first ∙ ap (on_line line.number) here in
      let asked : Reads (Some net) (text_up_to text line) (plan_behind t) =
      read_short built_words (Some net) (text_up_to text line) (omega (arith, short, up_to_short text line))
      ∙ ap (λ ls. plan_of (plan_lines built_words (Some net) (Ok nothing) ls)) (lines_up_to text before line behind split) ∙ ap plan_of front in
      All-weaker (IsMade net text line.number makes.levels t) (λ pair. Any (IsSignalLine net text (plan_behind u) line pair) u.lines)
      (λ p m. made_stays net text line makes.levels t u p a (levels_are net s (variables_of net text) makes.levels sound level makes.has) asked m)
      (pairs_in line) makes.pairs

  all_show : (u : State) → plan_lines built_words (Some net) (Ok nothing) (lines_of text) ≡ Ok u
      → All (λ pair. Any (IsSignalLine net text (plan_behind u) line pair) u.lines) (pairs_in line)
  all_show u e = by (plan_lines built_words (Some net) (Ok nothing) before) refl
    where
      whole : plan_lines built_words (Some net) (plan_lines built_words (Some net) (Ok nothing) before) (line ∷ behind) ≡ Ok u
      whole = sym (front_lines built_words (Some net) (Ok nothing) before (line ∷ behind)) ∙ sym (ap (plan_lines built_words (Some net) (Ok nothing)) split) ∙ e

      by : (r : Result State ScriptFault) → plan_lines built_words (Some net) (Ok nothing) before ≡ r → All (λ pair. Any (IsSignalLine net text (plan_behind u) line pair) u.lines) (pairs_in line)
      by (Ok s) is =
          one_ok _ built_words (Some net) s u line behind (sym (ap (λ r. plan_lines built_words (Some net) r (line ∷ behind)) is) ∙ whole)
          (λ t here rest. line_shows s t u is here rest)
      by (Err fault) is =
          let wrong = sym (fault_stays built_words (Some net) fault (line ∷ behind)) ∙ sym (ap (λ r. plan_lines built_words (Some net) r (line ∷ behind)) is) ∙ whole in
          absurd cc

-- the plan of a text makes the signals that its lines ask for
pub makes_signals : (net : blif.Net) (text : List ℕ) (plan : Plan) → blif.IsNet net → Reads (Some net) text plan → MakesSignals net text plan
makes_signals net text plan sound reads k d below is_net =
    planned_by (λ p. All (λ pair. Any (IsSignalLine net text p (get_or (lines_of text) k d) pair) p.lines) (pairs_in (get_or (lines_of text) k d))) built_words (Some net) text plan reads
    (λ short u e. all_show net text (take k (lines_of text)) (get_or (lines_of text) k d) (drop (k + 1) (lines_of text)) sound short split is_net u e)
  where
    split : lines_of text ≡ take k (lines_of text) ++ get_or (lines_of text) k d ∷ drop (k + 1) (lines_of text)
    split = sym (take-append-drop k (lines_of text)) ∙ ap (λ ls. take k (lines_of text) ++ ls) (drop_more (lines_of text) k d below)

-- and has as many variables as the script names
pub has_variables : (net : blif.Net) (text : List ℕ) (plan : Plan) → Reads (Some net) text plan → plan.n ≡ length (variables_of net text)
has_variables net text plan reads =
    planned_by (λ p. p.n ≡ length (variables_of net text)) built_words (Some net) text plan reads
    (λ short u e. (lines_know net [] nothing u (lines_of text) (knows_nothing net) e).n)
