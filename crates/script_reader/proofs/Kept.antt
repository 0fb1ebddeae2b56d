-- What each line of a script keeps: the steps so far are well formed, and the said lines go with them.
use Rattle.std.proofs.Common.{◌≡◌, ℕ, suc, ◌+◌, ◌<◌, ◌≤◌, Bool, true, false, List, [], ◌∷◌, ◌++◌, length, drop, Option, Some, None, refl, sym, ap, subst, ◌∙◌, arith, inl, inr}
use Rattle.blif_reader.specs.Netlist as blif
use Rattle.std.specs.Prelude.{Ok, not, IfSome, ◌&&◌, nat_le, nat_lt, if◌then◌else◌}
use Rattle.std.specs.List.{AllByRecursion, list_all}
use Rattle.std.specs.Str.{bytes_eq}
use Rattle.std.specs.Map.{update}
use Rattle.std.proofs.lemmas.Bool.{and_from, and_parts, le-leb, leb-true, cases_Bool, not-true}
use Rattle.std.proofs.lemmas.List.{length-append, length-map, length-drop}
use Rattle.std.proofs.lemmas.List.Elements.{recursion_from_All}
use Rattle.rec_words.specs.Words.{most_variables}
use Rattle.bool_tables.specs.Plans.{makes_diagram, is_live, operands, levels_of, has_bits, drops, has_name, may_follow, all_may_follow, IsWellFormed}
use Rattle.bool_tables.specs.declared.steps.Planned.{Planned}
use Rattle.bool_tables.specs.declared.steps.Step.{Step}
use Rattle.bool_tables.specs.declared.steps.Step.TheVariants as step
use Rattle.text_words.specs.Text.{Line, Word, lines_of, words_in}
use Rattle.text_words.specs.Places.{StandsIn}
use Rattle.text_words.proofs.Standing.{each_line, each_word}
use Rattle.script_reader.specs.declared.fault.ScriptKind.TheVariants as kind
use Rattle.script_reader.specs.declared.keyword.Keyword.{Keyword}
use Rattle.script_reader.specs.declared.keyword.Keyword.TheVariants.{Vars, Inputs, Const, Var, Not, Pair, Ite, Quantify, Restrict, Net, Drop, Same, Leq, Eval, Size}
use Rattle.script_reader.specs.declared.plan.Plan.{Plan}
use Rattle.script_reader.specs.declared.planning.Named.{Named}
use Rattle.script_reader.specs.Lines.{AreLines}
use Rattle.script_reader.specs.Results.{check}
use Rattle.script_reader.specs.Keywords.{word_at, texts_of, keyword_of, is_formed, gives_name}
use Rattle.script_reader.specs.Names.{State, nothing, place_of, all_differ, level_or, with_variables}
use Rattle.script_reader.specs.Requests.{step_of, name_fits, has_room, planned_of, with_named, name_behind, with_planned, with_step, plan_step}
use Rattle.script_reader.specs.Nets.{plan_inputs, inputs_of}
use Rattle.script_reader.specs.Script.{plan_vars, plan_request, begin, keyword_in, plan_line, read}
use Rattle.script_reader.proofs.Behind.{lines_keep, planned_by}
use Rattle.script_reader.proofs.Formed.{fits_short}
use Rattle.script_reader.proofs.Stands.{Stands, nothing_stands, follow_more, lines_more}
use Rattle.script_reader.proofs.NetLines.{net_stands, inputs_length}
use Rattle.script_reader.proofs.NamedSteps.{NamesLive, names_stay, name_more, name_dropped}
use Rattle.script_reader.proofs.MadeSteps.{then_ok, passed, same_ok, word_stands, Allows, Follows, step_follows}

-- a place among names is below their count
place_below : (names : List (List ℕ)) (name : List ℕ) (level : ℕ) → place_of names name ≡ Some level → level < length names
place_below [] name level e = absurd cc
place_below (first ∷ names) name level e = by (bytes_eq name first) refl (place_of names name) refl (place_below names name)
  where
    by : (b : Bool) → bytes_eq name first ≡ b → (o : Option ℕ) → place_of names name ≡ o → ((before : ℕ) → place_of names name ≡ Some before → before < length names) → level < suc (length names)
    by true same o is below = let zero_is : Some 0 ≡ Some level = (rw same at e) in let place : 0 ≡ level = cc in omega (arith, place)
    by false other None is below = let wrong = (rw (other, is) at e) in absurd cc
    by false other (Some before) is below =
        let more : Some (suc before) ≡ Some level = (rw (other, is) at e) in
        let place : suc before ≡ level = cc in
        omega (arith, place, below before is)

-- variables that are named where there is no step
variables_stand : (text : List ℕ) (s : State) (names : List (List ℕ)) → Stands text s → s.begun ≡ false → length names ≤ most_variables → Stands text (with_variables (begin s) names)
variables_stand text s names h fresh few = record {
  few_variables = few;
  few_steps = h.few_steps;
  fresh = λ wrong. absurd cc;
  levels = place_below names;
  names = h.names;
  in_order = subst (λ steps. all_may_follow (length names) text [] steps ≡ true) (sym (h.fresh fresh)) refl;
  lines = h.lines;
}

-- a line that names the variables
vars_stand : (text : List ℕ) (s t : State) (words : List Word) → Stands text s → s.begun ≡ false → plan_vars (begin s) words ≡ Ok t → Stands text t
vars_stand text s t words h fresh e =
    then_ok (check kind.Variable (all_differ (texts_of (drop 1 words)))) _ t e (λ u differ rest.
    then_ok (check kind.TooManyVariables (nat_le (length words) (most_variables + 1))) _ t rest (λ v few last.
    let short : length words ≤ (most_variables + 1) = leb-true _ _ (passed kind.TooManyVariables _ few) in
    subst (Stands text) (same_ok _ _ last) (variables_stand text s (texts_of (drop 1 words)) h fresh
    (omega (arith, short, length-map (drop 1 words) (λ (w : Word). w.bytes), length-drop 1 words)))))

-- a line that takes the inputs of a netlist
inputs_stand : (text : List ℕ) (netlist : Option blif.Net) (s t : State) → IfSome netlist blif.IsNet → Stands text s → s.begun ≡ false → plan_inputs netlist (begin s) ≡ Ok t → Stands text t
inputs_stand text None s t sound h fresh e = absurd cc
inputs_stand text (Some net) s t sound h fresh e =
    let few : net.inputs ≤ most_variables = sound.tables.few_inputs in
    subst (Stands text) (same_ok _ _ e) (variables_stand text s (inputs_of net) h fresh (omega (arith, few, inputs_length net sound)))

-- the step of a line is the one that was made
pub planned_step : (k : Keyword) (words : List Word) (made : Step) → (planned_of k words made).step ≡ made
planned_step k words made = elim (cases_Bool (gives_name k)) [ inl given ↦ rw given refl | inr none ↦ rw none refl ]

-- its name stands in the text
name_stands : (text : List ℕ) (s : State) (k : Keyword) (words : List Word) (made : Step) → AllByRecursion (λ (w : Word). StandsIn text w.at w.bytes) words → name_fits s k words ≡ Ok tt → has_name text (planned_of k words made) ≡ true
name_stands text s k words made all fits =
    elim (cases_Bool (gives_name k)) [
      | inl given ↦
          let inside : nat_le ((word_at 1 words).at + length (word_at 1 words).bytes) (length text) ≡ true = le-leb _ _ (word_stands text words 1 all).within in
          let short : nat_le (length (word_at 1 words).bytes) 63 ≡ true = le-leb _ _ (fits_short s k words fits given) in
          rw given (and_from _ _ inside short)
      | inr none ↦
          let inside : nat_le 0 (length text) ≡ true = le-leb _ _ (omega arith) in
          rw none (and_from _ _ inside refl)
    ]

-- the names behind a line, which are live behind its step
record NamesBehind (s : State) (k : Keyword) (words : List Word) (made : Step) : Type 0 where
  named : List ℕ → Option Named
  is : name_behind s k words made ≡ record s { named = named }
  live : NamesLive (s.steps ++ planned_of k words made ∷ []) named

-- the name of a line is that of its step
names_behind : (text : List ℕ) (s : State) (k : Keyword) (words : List Word) (made : Step) → NamesLive s.steps s.named → Follows text s k words made → NamesBehind s k words made
names_behind text s k words made h follows = by made follows
  where
    plain : (made : Step) → Follows text s k words made → ((number : ℕ) → drops number made ≡ false)
        → name_behind s k words made ≡ (if gives_name k then with_named s (word_at 1 words) (record { step = length s.steps; dropped = false }) else s) → NamesBehind s k words made
    plain made follows keeps is =
        elim (cases_Bool (gives_name k)) [
          | inl given ↦ record {
            named = update bytes_eq s.named (word_at 1 words).bytes (Some (record { step = length s.steps; dropped = false }));
            is = is ∙ ap (λ b. if b then with_named s (word_at 1 words) (record { step = length s.steps; dropped = false }) else s) given;
            live = name_more s.steps s.named (planned_of k words made) (word_at 1 words).bytes h (ap makes_diagram (planned_step k words made) ∙ follows.makes given);
          }
          | inr none ↦ record {
            named = s.named;
            is = is ∙ ap (λ b. if b then with_named s (word_at 1 words) (record { step = length s.steps; dropped = false }) else s) none;
            live = names_stay s.steps s.named (planned_of k words made) h (λ number. ap (drops number) (planned_step k words made) ∙ keeps number);
          }
        ]

    by : (made : Step) → Follows text s k words made → NamesBehind s k words made
    by (step.Drop gone) f = record {
      named = update bytes_eq s.named (word_at 1 words).bytes (Some (record { step = gone; dropped = true }));
      is = refl;
      live = name_dropped s.steps s.named (planned_of k words (step.Drop gone)) (word_at 1 words).bytes gone h (f.drops_word gone refl) (planned_step k words (step.Drop gone));
    }
    by (step.Const value) f = plain (step.Const value) f (λ number. refl) refl
    by (step.Var level) f = plain (step.Var level) f (λ number. refl) refl
    by (step.Pair op left right) f = plain (step.Pair op left right) f (λ number. refl) refl
    by (step.Ite test if_one if_zero) f = plain (step.Ite test if_one if_zero) f (λ number. refl) refl
    by (step.Quantify quant of level) f = plain (step.Quantify quant of level) f (λ number. refl) refl
    by (step.Restrict of level value) f = plain (step.Restrict of level value) f (λ number. refl) refl
    by (step.Same left right) f = plain (step.Same left right) f (λ number. refl) refl
    by (step.Leq left right) f = plain (step.Leq left right) f (λ number. refl) refl
    by (step.Eval of at) f = plain (step.Eval of at) f (λ number. refl) refl
    by (step.Size of) f = plain (step.Size of) f (λ number. refl) refl

-- a step more
put_stands : (text : List ℕ) (s : State) (number : ℕ) (p : Planned) (named : List ℕ → Option Named) → Stands text s → s.begun ≡ true → NamesLive (s.steps ++ p ∷ []) named → may_follow s.n text s.steps p ≡ true
    → length s.steps + 1 ≤ 1048576 → Stands text (with_planned (record s { named = named }) number p)
put_stands text s number p named h begun live follows room = record {
  few_variables = h.few_variables;
  few_steps = omega (arith, room, length-append s.steps (p ∷ []));
  fresh = λ fresh. absurd (let wrong = sym begun ∙ fresh in cc);
  levels = h.levels;
  names = live;
  in_order = follow_more s.n text [] s.steps p h.in_order follows;
  lines = lines_more s.steps s.lines number p h.lines;
}

-- a line that is one step
step_stands : (text : List ℕ) (s t : State) (begun : Bool) (number : ℕ) (k : Keyword) (words : List Word) → Stands text s → s.begun ≡ true → AllByRecursion (λ (w : Word). StandsIn text w.at w.bytes) words
    → is_formed begun s.n k words ≡ true → plan_step s number k words ≡ Ok t → Stands text t
step_stands text s t begun number k words h is_begun all formed e =
    then_ok (step_of s k words) _ t e (λ made is next.
    then_ok (name_fits s k words) _ t next (λ u fits more.
    then_ok (check kind.TooManySteps (has_room (length s.steps + 1))) _ t more (λ v room last.
    subst (Stands text) (same_ok _ _ last) (behind made (step_follows text s begun k words made allows formed is) fits (leb-true _ _ (passed kind.TooManySteps _ room))))))
  where
    by_level : (o : Option ℕ) (level : ℕ) → level_or o ≡ Ok level → o ≡ Some level
    by_level None level e = absurd cc
    by_level (Some x) level e = ap Some (same_ok _ _ e)

    allows : Allows text s words
    allows = record {
      live = λ name number e. h.names.live name.bytes number e;
      level = λ name level e. h.levels name.bytes level (by_level (s.level name.bytes) level e);
      stand = all;
    }

    behind : (made : Step) → Follows text s k words made → name_fits s k words ≡ Ok tt → length s.steps + 1 ≤ 1048576 → Stands text (with_step s number k words made)
    behind made f fits room =
        let b = names_behind text s k words made h.names f in
        let is = planned_step k words made in
        let may : may_follow s.n text s.steps (planned_of k words made) ≡ true =
        and_from _ _
        (subst (λ (m : Step). (list_all (is_live s.steps) (operands m) && list_all (λ level. nat_lt level s.n) (levels_of m)) ≡ true) (sym is) (and_from _ _ f.operands_live f.levels_below))
        (and_from _ _ (ap (has_bits s.n text) is ∙ f.bits_stand) (name_stands text s k words made all fits)) in
        subst (λ (v : State). Stands text (with_planned v number (planned_of k words made))) (sym b.is)
        (put_stands text s number (planned_of k words made) b.named h is_begun b.live may room)

-- a line that begins is begun
pub begin_stands : (text : List ℕ) (s : State) → Stands text s → Stands text (begin s)
begin_stands text s h = record {
  few_variables = h.few_variables;
  few_steps = h.few_steps;
  fresh = λ wrong. absurd cc;
  levels = h.levels;
  names = h.names;
  in_order = h.in_order;
  lines = h.lines;
}

-- a line by its keyword
request_stands : (text : List ℕ) (netlist : Option blif.Net) (s t : State) (number : ℕ) (k : Keyword) (words : List Word) → IfSome netlist blif.IsNet → Stands text s → AllByRecursion (λ (w : Word). StandsIn text w.at w.bytes) words
    → is_formed s.begun s.n k words ≡ true → plan_request netlist (begin s) number k words ≡ Ok t → Stands text t
request_stands text netlist s t number Vars words sound h all formed e = vars_stand text s t words h (not-true _ formed) e
request_stands text netlist s t number Inputs words sound h all formed e = inputs_stand text netlist s t sound h (not-true _ (and_parts (not s.begun) _ formed).0) e
request_stands text netlist s t number Net words sound h all formed e = net_stands text netlist (begin s) t number words sound (begin_stands text s h) refl all e
request_stands text netlist s t number Const words sound h all formed e = step_stands text (begin s) t s.begun number Const words (begin_stands text s h) refl all formed e
request_stands text netlist s t number Var words sound h all formed e = step_stands text (begin s) t s.begun number Var words (begin_stands text s h) refl all formed e
request_stands text netlist s t number Not words sound h all formed e = step_stands text (begin s) t s.begun number Not words (begin_stands text s h) refl all formed e
request_stands text netlist s t number (Pair op) words sound h all formed e = step_stands text (begin s) t s.begun number (Pair op) words (begin_stands text s h) refl all formed e
request_stands text netlist s t number Ite words sound h all formed e = step_stands text (begin s) t s.begun number Ite words (begin_stands text s h) refl all formed e
request_stands text netlist s t number (Quantify q) words sound h all formed e = step_stands text (begin s) t s.begun number (Quantify q) words (begin_stands text s h) refl all formed e
request_stands text netlist s t number Restrict words sound h all formed e = step_stands text (begin s) t s.begun number Restrict words (begin_stands text s h) refl all formed e
request_stands text netlist s t number Drop words sound h all formed e = step_stands text (begin s) t s.begun number Drop words (begin_stands text s h) refl all formed e
request_stands text netlist s t number Same words sound h all formed e = step_stands text (begin s) t s.begun number Same words (begin_stands text s h) refl all formed e
request_stands text netlist s t number Leq words sound h all formed e = step_stands text (begin s) t s.begun number Leq words (begin_stands text s h) refl all formed e
request_stands text netlist s t number Eval words sound h all formed e = step_stands text (begin s) t s.begun number Eval words (begin_stands text s h) refl all formed e
request_stands text netlist s t number Size words sound h all formed e = step_stands text (begin s) t s.begun number Size words (begin_stands text s h) refl all formed e

-- the words of a line are formed as its keyword asks
is_formed_line : (known : List (List ℕ)) (s : State) (words : List Word) (k : Keyword) → keyword_in known s words ≡ Ok k → is_formed s.begun s.n k words ≡ true
is_formed_line known s words k e =
    then_ok (keyword_of known (word_at 0 words).bytes) _ k e (λ read is next.
    then_ok (check kind.Word (is_formed s.begun s.n read words)) _ k next (λ u formed last.
    subst (λ (v : Keyword). is_formed s.begun s.n v words ≡ true) (same_ok _ _ last) (passed kind.Word _ formed)))

-- a line
pub line_stands : (known : List (List ℕ)) (netlist : Option blif.Net) (text : List ℕ) (s t : State) (number : ℕ) (words : List Word) → IfSome netlist blif.IsNet → Stands text s → AllByRecursion (λ (w : Word). StandsIn text w.at w.bytes) words → plan_line known netlist s number words ≡ Ok t → Stands text t
line_stands known netlist text s t number [] sound h all e = subst (Stands text) (same_ok _ _ e) h
line_stands known netlist text s t number (w ∷ ws) sound h all e =
    then_ok (keyword_in known s (w ∷ ws)) _ t e (λ k is rest.
    request_stands text netlist s t number k (w ∷ ws) sound h all (is_formed_line known s (w ∷ ws) k is) rest)

-- the words of a line stand in the text
abbrev pub WordsStand : List ℕ → Line → Type 0
WordsStand text line = AllByRecursion (λ (w : Word). StandsIn text w.at w.bytes) (words_in line)

-- the words of all lines stand in their text
pub words_stand : (text : List ℕ) → AllByRecursion (WordsStand text) (lines_of text)
words_stand text = by (lines_of text) (recursion_from_All (λ (l : Line). StandsIn text l.at l.bytes) (lines_of text) (each_line text))
  where
    by : (ls : List Line) → AllByRecursion (λ (l : Line). StandsIn text l.at l.bytes) ls → AllByRecursion (WordsStand text) ls
    by [] all = tt
    by (l ∷ ls) all = (recursion_from_All (λ (w : Word). StandsIn text w.at w.bytes) (words_in l) (each_word text l all.0), by ls all.1)

-- the plan of a text is that of what stands behind its lines
plan_stands : (P : Plan → Type 0) (known : List (List ℕ)) (netlist : Option blif.Net) (text : List ℕ) (plan : Plan) → IfSome netlist blif.IsNet → read known netlist text ≡ Ok plan
    → ((s : State) → Stands text s → P (record { n = s.n; steps = s.steps; lines = s.lines })) → P plan
plan_stands P known netlist text plan sound e next =
    planned_by P known netlist text plan e (λ short s is. next s
    (lines_keep (Stands text) (WordsStand text) known netlist (λ a b line. line_stands known netlist text a b line.number (words_in line) sound)
    nothing s (lines_of text) (nothing_stands text) (words_stand text) is))

-- so it is well formed, and its said lines go with its steps
pub plan_is_well_formed : (known : List (List ℕ)) (netlist : Option blif.Net) (text : List ℕ) (plan : Plan) → IfSome netlist blif.IsNet → read known netlist text ≡ Ok plan → IsWellFormed plan.n text plan.steps
plan_is_well_formed known netlist text plan sound e =
    plan_stands (λ p. IsWellFormed p.n text p.steps) known netlist text plan sound e
    (λ s h. record { few_variables = h.few_variables; few_steps = h.few_steps; in_order = h.in_order })

pub plan_has_lines : (known : List (List ℕ)) (netlist : Option blif.Net) (text : List ℕ) (plan : Plan) → IfSome netlist blif.IsNet → read known netlist text ≡ Ok plan → AreLines plan.steps plan.lines
plan_has_lines known netlist text plan sound e = plan_stands (λ p. AreLines p.steps p.lines) known netlist text plan sound e (λ s h. h.lines)
