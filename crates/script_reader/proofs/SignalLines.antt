-- Each pair of a line that asks for signals has its said line, which shows the table of its signal.
use Rattle.std.proofs.Common.{◌≡◌, ℕ, zero, suc, ◌+◌, ◌-◌, ◌<◌, ◌≤◌, Bool, true, false, cond, List, [], ◌∷◌, ◌++◌, length, take, drop, map, get_or, Option, Some, refl, sym, ap, subst, ◌∙◌, arith}
use Rattle.std.specs.Prelude.{Ok, codes, option_map}
use Rattle.std.specs.List.{All, AllByRecursion, Contains, position_from}
use Rattle.std.specs.Str.{bytes_eq}
use Rattle.std.proofs.lemmas.List.{length-append, length-map}
use Rattle.std.proofs.lemmas.List.Elements.{All-from_recursion}
use Rattle.std.proofs.lemmas.Option.{same_Some}
use Rattle.bool_tables.specs.Steps.{tables_after}
use Rattle.bool_tables.specs.declared.steps.Planned.{Planned}
use Rattle.bool_tables.specs.declared.steps.Step.{Step}
use Rattle.depth_first.specs.Graph.{visits}
use Rattle.depth_first.proofs.Walks.{visits_above, visits_inside}
use Rattle.blif_reader.specs.Index as index
use Rattle.blif_reader.specs.Netlist.{Net, IsNet}
use Rattle.net_plan.specs.Plan.{plan_steps, plan_made}
use Rattle.net_plan.specs.Values.{IsTableOf, MakeTables}
use Rattle.net_plan.specs.WellFormed.{GoesOn}
use Rattle.net_plan.proofs.Meanings.{tables_made}
use Rattle.text_words.specs.Text.{Word}
use Rattle.text_words.specs.Places.{StandsIn}
use Rattle.script_reader.specs.declared.fault.ScriptKind.{ScriptKind}
use Rattle.script_reader.specs.declared.fault.ScriptKind.TheVariants as kind
use Rattle.script_reader.specs.declared.keyword.Keyword.TheVariants as keyword
use Rattle.script_reader.specs.Results.{check}
use Rattle.script_reader.specs.Keywords.{word_at, texts_of, keyword_of, built_words}
use Rattle.script_reader.specs.Names.{State, place_of, all_differ}
use Rattle.script_reader.specs.Nets.{every_second, signals_in, signals_named, inputs_of, or_fault, all_found, wanted_of, levels_of, names_fit, nameless, with_steps, give_names, plan_signals, plan_net}
use Rattle.script_reader.specs.Requests.{has_room}
use Rattle.script_reader.specs.Script.{begin, plan_line, plan_request}
use Rattle.script_reader.specs.Signals.{SignalPair, pairs_of, or_words}
use Rattle.script_reader.proofs.MadeSteps.{then_ok, passed, same_ok}
use Rattle.script_reader.proofs.NamedSteps.{live_below}
use Rattle.script_reader.proofs.Seconds.{second_next}
use Rattle.script_reader.proofs.Stands.{Stands}
use Rattle.script_reader.proofs.NetLines.{found, found_length, wanted_inside, plain_steps, signals_go_on, made_apart, all_seconds, place_low}
use Rattle.script_reader.proofs.Kept.{begin_stands}
use Rattle.script_reader.proofs.PlanTables.{tables_append, length-tables}
use Rattle.script_reader.proofs.Appends.{no_step, Behind, names_keep, pair_given}
use Rattle.script_reader.proofs.FirstWords.{net_keeps, reading}
use Rattle.script_reader.proofs.Levels.{Stays}

-- what is found for each of some names
pub found_at : (k : ScriptKind) (find : List ℕ → Option ℕ) (names : List (List ℕ)) (xs : List ℕ) → all_found k find names ≡ Ok xs → (i : ℕ) → i < length xs → find (get_or names i []) ≡ Some (get_or xs i 0)
found_at k find [] xs e i b = let count : length xs ≡ 0 = sym (ap length (same_ok _ _ e)) in absurd (omega (arith, b, count))
found_at k find (name ∷ names) xs e i b =
    then_ok (or_fault k (find name)) _ xs e (λ x is rest.
    then_ok (all_found k find names) _ xs rest (λ ys are last.
    subst (λ zs. find (get_or (name ∷ names) i []) ≡ Some (get_or zs i 0)) (same_ok _ _ last)
    (by i x ys (found (find name) k x is) (found_at k find names ys are) (subst (λ zs. i < length zs) (sym (same_ok _ _ last)) b))))
  where
    by : (i x : ℕ) (ys : List ℕ) → find name ≡ Some x → ((j : ℕ) → j < length ys → find (get_or names j []) ≡ Some (get_or ys j 0)) → i < suc (length ys)
        → find (get_or (name ∷ names) i []) ≡ Some (get_or (x ∷ ys) i 0)
    by zero x ys here rest b = here
    by (suc i) x ys here rest b = rest i (omega arith)

-- the pairs of words are those of their names and their signals

abbrev pair : List ℕ → List ℕ → SignalPair
pair name signal = record { name = name; signal = signal }

pair_at : (ws : List Word) (i : ℕ) (d : SignalPair) (n : Word) → i < length (pairs_of ws)
    → get_or (pairs_of ws) i d ≡ pair (get_or (every_second ws) i n).bytes (get_or (texts_of (every_second (drop 1 ws))) i [])
pair_at [] i d n b = absurd (omega arith)
pair_at (w ∷ []) i d n b = absurd (omega arith)
pair_at (w ∷ v ∷ ws) zero d n b = ap (λ (xs : List Word). pair w.bytes (get_or (texts_of xs) 0 [])) (sym (second_next v ws))
pair_at (w ∷ v ∷ ws) (suc i) d n b =
    pair_at ws i d n (omega arith)
    ∙ ap (λ (xs : List Word). pair (get_or (every_second ws) i n).bytes (get_or (texts_of xs) (suc i) [])) (sym (second_next v ws))

names_many : (ws : List Word) → length (pairs_of ws) ≤ length (every_second ws)
names_many [] = omega arith
names_many (w ∷ []) = omega arith
names_many (w ∷ v ∷ ws) = omega (arith, names_many ws)

signals_many : (ws : List Word) → length (pairs_of ws) ≤ length (every_second (drop 1 ws))
signals_many [] = omega arith
signals_many (w ∷ []) = omega arith
signals_many (w ∷ v ∷ ws) = omega (arith, signals_many ws, ap length (second_next v ws))

-- the steps of the signals of a netlist make their tables
made_tables : (net : Net) (levels wanted : List ℕ) (first : ℕ) → IsNet net → ((i : ℕ) → i < length wanted → get_or wanted i 0 < length net.names)
    → MakeTables net levels wanted first (plan_steps net levels wanted first) (plan_made net levels wanted first)
made_tables net levels wanted first sound exist =
    let signals : length net.edges ≡ length net.names = sound.tables.signals in
    let few : length net.names < 4294967294 = sound.tables.few in
    let small : length net.edges < 4294967294 = omega (arith, signals, few) in
    let roots : (i : ℕ) → i < length wanted → get_or wanted i 0 < length net.edges = λ i b. subst (λ m. get_or wanted i 0 < m) (sym signals) (exist i b) in
    let graph = sound.tables.graph in
    tables_made net levels wanted first (visits net.edges wanted) sound refl (visits_above net.edges graph sound.acyclic small wanted roots)
    (λ k b. subst (λ m. get_or (visits net.edges wanted) k 0 < m) signals (visits_inside net.edges graph sound.acyclic small wanted roots k b)) exist

-- what is known behind a line has the said line of a pair
pub record IsMade (net : Net) (text : List ℕ) (number : ℕ) (levels : List ℕ) (t : State) (pair : SignalPair) : Type 0 where
  pub shows : ℕ
  pub last : ℕ
  pub said : Contains t.lines (record { line = number; last = last; shows = shows })
  pub ends : suc last ≡ length t.steps
  pub inside : shows < length t.steps
  pub named : take (get_or t.steps shows no_step).name_len (drop (get_or t.steps shows no_step).name_at text) ≡ pair.name
  pub signal : ℕ
  pub is_signal : index.place_of net.names pair.signal ≡ Some signal
  pub table : IsTableOf t.n net levels signal (get_or (tables_after t.n [] t.steps) shows [])

abbrev no_word : Word
no_word = record { at = 0; bytes = [] }

module _ (text : List ℕ) (s : State) (number : ℕ) (ws : List Word) (net : Net) (levels wanted : List ℕ) (sound : IsNet net) (h : Stands text s)
    (stand : AllByRecursion (λ (w : Word). StandsIn text w.at w.bytes) (every_second ws)) (differ : all_differ (texts_of (every_second (drop 1 ws))) ≡ true)
    (wants : wanted_of net (texts_of (every_second (drop 1 ws))) ≡ Ok wanted) (has : levels_of s net ≡ Ok levels) where
  abbrev signals : List (List ℕ)
  signals = texts_of (every_second (drop 1 ws))

  abbrev steps : List Step
  steps = plan_steps net levels wanted (length s.steps)

  abbrev made : List ℕ
  made = plan_made net levels wanted (length s.steps)

  on : GoesOn s.n text s.steps (map nameless steps) wanted made
  on = signals_go_on text s net signals levels wanted sound h wants has

  as_many : length made ≡ length wanted
  as_many = length-map wanted _

  -- a pair of a line with these signals
  pair_made : (t : State) → t ≡ give_names (with_steps s steps) number (length s.steps + length steps - 1) (every_second ws) made
      → (i : ℕ) → i < length (pairs_of ws) → IsMade net text number levels t (pair (get_or (every_second ws) i no_word).bytes (get_or signals i []))
  pair_made t t_is i b =
      let names : List Word = every_second ws in
      let base : State = with_steps s steps in
      let last : ℕ = length s.steps + length steps - 1 in
      let m : ℕ = get_or made i 0 in
      let count : length wanted ≡ length (every_second (drop 1 ws)) =
      found_length kind.UnknownName (index.place_of net.names) signals wanted wants ∙ length-map (every_second (drop 1 ws)) (λ (w : Word). w.bytes) in
      let among_names : i < length names = omega (arith, b, names_many ws) in
      let among_wanted : i < length wanted = omega (arith, b, count, signals_many ws) in
      let among_made : i < length made = omega (arith, among_wanted, as_many) in
      let given = pair_given base number last names made i no_word among_names among_made (λ j c. live_below (s.steps ++ map nameless steps) (get_or made j 0) (on.live j c))
      (made_apart s.n text s.steps (map nameless steps) net signals wanted made differ wants on as_many) in
      let kept : Behind s.steps steps (give_names base number last names made).steps =
      names_keep s.steps steps base number last names made (record { rest = map nameless steps; is = refl; same = plain_steps steps }) on.new in
      let rest_count : length kept.rest ≡ length steps = sym (length-map kept.rest (λ (p : Planned). p.step)) ∙ ap length kept.same in
      let all_count : length (give_names base number last names made).steps ≡ length s.steps + length kept.rest = ap length kept.is ∙ length-append s.steps kept.rest in
      let below : m < length (s.steps ++ map nameless steps) = live_below (s.steps ++ map nameless steps) m (on.live i among_made) in
      let base_count : length (s.steps ++ map nameless steps) ≡ length s.steps + length steps = length-append s.steps (map nameless steps) ∙ ap (λ n. length s.steps + n) (length-map steps nameless) in
      let stands : StandsIn text (get_or names i no_word).at (get_or names i no_word).bytes = All-from_recursion (λ (w : Word). StandsIn text w.at w.bytes) names stand i no_word among_names in
      let makes = made_tables net levels wanted (length s.steps) sound (wanted_inside net signals wanted wants) in
      let n : ℕ = (give_names base number last names made).n in
      subst (λ v. IsMade net text number levels v (pair (get_or names i no_word).bytes (get_or signals i []))) (sym t_is) (record {
        shows = m;
        last = last;
        said = given.said;
        ends = omega (arith, all_count, rest_count, below, base_count);
        inside = omega (arith, all_count, rest_count, below, base_count);
        named = ap (λ k. take k (drop (get_or (give_names base number last names made).steps m no_step).name_at text)) given.name_len
            ∙ ap (λ k. take (length (get_or names i no_word).bytes) (drop k text)) given.name_at ∙ stands.same;
        signal = get_or wanted i 0;
        is_signal = found_at kind.UnknownName (index.place_of net.names) signals wanted wants i among_wanted;
        table = subst (IsTableOf n net levels (get_or wanted i 0))
            (sym (ap (λ xs. get_or (tables_after n [] xs) m []) kept.is ∙ ap (λ ts. get_or ts m []) (tables_append n [] s.steps kept.rest)))
            (makes n i (tables_after n [] s.steps) kept.rest (omega (arith, length-tables n [] s.steps)) kept.same among_wanted);
      })

  -- all pairs
  signals_made : (t : State) → plan_signals s number (every_second ws) net levels wanted ≡ Ok t → All (IsMade net text number levels t) (pairs_of ws)
  signals_made t e =
      then_ok (names_fit s (every_second ws)) _ t e (λ u fits rest.
      then_ok (check kind.TooManySteps (has_room (length s.steps + length steps))) _ t rest (λ v room last.
      λ k d b. subst (IsMade net text number levels t) (sym (pair_at ws k d no_word b)) (pair_made t (sym (same_ok _ _ last)) k b)))

-- what a line that asks for signals leaves
pub record LineMakes (net : Net) (text : List ℕ) (s t : State) (number : ℕ) (words : List Word) : Type 0 where
  pub levels : List ℕ
  pub has : levels_of s net ≡ Ok levels
  pub pairs : All (IsMade net text number levels t) (pairs_of (drop 1 words))
  pub stays : Stays (begin s) t
  pub some : (before behind : List Word) → or_words (or_words before words) behind ≡ or_words before words

net_makes : (net : Net) (text : List ℕ) (s t : State) (number : ℕ) (w : Word) (ws : List Word) → IsNet net → Stands text s → AllByRecursion (λ (w : Word). StandsIn text w.at w.bytes) (w ∷ ws)
    → plan_net (Some net) (begin s) number (w ∷ ws) ≡ Ok t → LineMakes net text s t number (w ∷ ws)
net_makes net text s t number w ws sound h stand e =
    then_ok (signals_named (w ∷ ws)) _ t e (λ signals named rest.
    then_ok (check kind.Word (all_differ (signals_in (w ∷ ws)))) _ signals named (λ u differ is.
    then_ok (wanted_of net signals) _ t rest (λ wanted wants more.
    then_ok (levels_of (begin s) net) _ t more (λ levels has last.
    record {
      levels = levels;
      has = has;
      pairs = signals_made text (begin s) number ws net levels wanted sound (begin_stands text s h)
          (all_seconds (λ (w : Word). StandsIn text w.at w.bytes) ws stand.1)
          (passed kind.Word _ differ) (ap (wanted_of net) (same_ok _ _ is) ∙ wants) has t last;
      stays = net_keeps (Some net) (begin s) t number (w ∷ ws) e;
      some = λ before behind. some before behind;
    }))))
  where
    some : (before behind : List Word) → or_words (or_words before (w ∷ ws)) behind ≡ or_words before (w ∷ ws)
    some [] behind = refl
    some (b ∷ before) behind = refl

pub line_makes : (net : Net) (text : List ℕ) (s t : State) (number : ℕ) (words : List Word) → IsNet net → Stands text s → AllByRecursion (λ (w : Word). StandsIn text w.at w.bytes) words
    → (word_at 0 words).bytes ≡ codes "net" → plan_line built_words (Some net) s number words ≡ Ok t → LineMakes net text s t number words
line_makes net text s t number [] sound h stand is_net e = absurd cc
line_makes net text s t number (w ∷ ws) sound h stand is_net e =
    let r = reading (Some net) s t number w ws e in
    let k_is : keyword.Net ≡ r.k = same_ok _ _ (sym (ap (keyword_of built_words) is_net) ∙ r.word) in
    net_makes net text s t number w ws sound h stand (subst (λ k. plan_request (Some net) (begin s) number k (w ∷ ws) ≡ Ok t) (sym k_is) r.request)

-- an input of a netlist stands at its own place among the inputs

front_place : (x : List ℕ) (from n i : ℕ) (names : List (List ℕ)) → position_from (bytes_eq x) from names ≡ Some (from + i) → i < n → place_of (take n names) x ≡ Some i
front_place x from n i [] e b = absurd cc
front_place x from zero i (name ∷ names) e b = absurd (omega arith)
front_place x from (suc n) i (name ∷ names) e b =
    by (bytes_eq x name) refl (λ j f c. front_place x (from + 1) n j names f c) i e b
  where
    by : (t : Bool) → bytes_eq x name ≡ t → ((j : ℕ) → position_from (bytes_eq x) (from + 1) names ≡ Some (from + 1 + j) → j < n → place_of (take n names) x ≡ Some j)
        → (i : ℕ) → position_from (bytes_eq x) from (name ∷ names) ≡ Some (from + i) → i < suc n → place_of (take (suc n) (name ∷ names)) x ≡ Some i
    by true is rest i e b =
        let same : from ≡ from + i = same_Some _ _ (sym (ap (λ c. cond c (Some from) (position_from (bytes_eq x) (from + 1) names)) is) ∙ e) in
        ap (λ c. cond c (Some 0) (option_map suc (place_of (take n names) x))) is ∙ ap Some (omega (arith, same))
    by false is rest zero e b =
        let later = sym (ap (λ c. cond c (Some from) (position_from (bytes_eq x) (from + 1) names)) is) ∙ e in
        let low : from + 1 ≤ from + 0 = place_low (bytes_eq x) (from + 1) names (from + 0) later in
        absurd (omega (arith, low))
    by false is rest (suc j) e b =
        let later = sym (ap (λ c. cond c (Some from) (position_from (bytes_eq x) (from + 1) names)) is) ∙ e in
        let place : from + suc j ≡ from + 1 + j = omega arith in
        ap (λ c. cond c (Some 0) (option_map suc (place_of (take n names) x))) is
        ∙ ap (option_map suc) (rest j (later ∙ ap Some place) (omega arith))

pub own_place : (net : Net) (i : ℕ) → IsNet net → i < net.inputs → place_of (inputs_of net) (get_or net.names i []) ≡ Some i
own_place net i sound b =
    let all = sound.tables.blocks in
    let place : i ≡ 0 + i = omega arith in
    front_place (get_or net.names i []) 0 net.inputs i net.names (sound.tables.apart i (omega (arith, b, all)) ∙ ap Some place) b
