-- How many turns a sweep has made.
use Rattle.std.proofs.Common.{◌≡◌, ◌≢◌, ℕ, ◌+◌, ◌*◌, ◌≤◌, ◌<◌, ◌∙◌, ◌^◌, Bool, true, false, cond, List, [], ◌∷◌, ◌++◌, refl, subst, sym, ap, inl, inr, arith}
use Rattle.std.specs.Prelude.{◌⊎◌, suc, Option, Some, None, map, length, ◌==◌, ◌&&◌}
use Rattle.std.specs.List.{sum_by}
use Rattle.std.proofs.lemmas.List.{length-append, length-map}
use Rattle.std.proofs.lemmas.List.Sums.{sum_by-cons}
use Rattle.std.proofs.lemmas.List.Sorted.{sum_by-IsPermutation, length_permutation}
use Rattle.std.proofs.lemmas.Bool.{or_parts, eq-eqb, ne_eqb, eqb-true}
use Rattle.list_laws.proofs.MemberLaws.{map_has}
use Rattle.rec_words.specs.Words.{level_of, terminal}
use Rattle.rec_words.specs.declared.node.Node.{Node}
use Rattle.canon_file.specs.declared.row.Row.{Row}
use Rattle.canon_file.specs.Members.{Has}
use Rattle.arc_file.specs.declared.arc.Arc.{Arc}
use Rattle.top_down.specs.declared.tuple.Tuple.{Tuple}
use Rattle.top_down.specs.declared.tuple.Goal.{Goal}
use Rattle.top_down.specs.declared.tuple.Goal.TheVariants.{End, Go}
use Rattle.top_down.specs.Rules.{Rule}
use Rattle.top_down.specs.Asks.{side_arcs}
use Rattle.top_down_laws.specs.Forms.{Form, Waiting, nobody, asker_word, first_form, is_node, wants, filled, unread_at, next_key}
use Rattle.top_down_laws.specs.Readings.{Diagrams, targets_in, IsReduced, Readings, IsReadTo, want, filled_form, read_on, asked_on}
use Rattle.top_down_laws.specs.Remains.{IsTask, waiting_of, ask_of, IsMade, Place, at_place, Numbered, identifier, source_of, Remains, IsMet, answer_arcs, side_waits, next_numbered}
use Rattle.top_down_laws.specs.Laws.{unread_all, AreDifferent, IsSound}
use Rattle.top_down_laws.specs.Turns.{waits_at, stages, unread_count, IsCounted, CountBegins, CountInAnyOrder, ReadIsCounted, ReadOnIsCounted, KnownIsCounted, NewIsCounted, TurnsAreFew}
use Rattle.top_down_laws.proofs.MemberLaws.{hand_in}
use Rattle.top_down_laws.proofs.AskerLaws.{answer-node}
use Rattle.top_down_laws.proofs.FormLaws.{one_least}
use Rattle.top_down_laws.proofs.EndLaws.{root_stands, different}
use Rattle.top_down_laws.proofs.SoundLaws.{asks_are_sound}

-- a member is waited for once at most
waits_once : (level : ℕ) (m : Row) → waits_at level m ≤ 1
waits_once level m = by ((m.low == m.high) && (level_of m.low == level))
  where
    by : (b : Bool) → cond b 1 0 ≤ 1
    by true = omega arith
    by false = omega arith

pub three_stages : (f : Form) → stages f ≤ 3
three_stages f = omega (
  arith,
  waits_once (level_of f.key) f.first,
  waits_once (level_of f.key) f.second,
  waits_once (level_of f.key) f.third,
)

-- the key's node is waited for
key_waits : (key : ℕ) (m : Row) → is_node key m ≡ true → waits_at (level_of key) m ≡ 1
key_waits key m is = by (m.low == key) (m.high == key) refl refl is
  where
    by : (b c : Bool) → (m.low == key) ≡ b → (m.high == key) ≡ c → (b && c) ≡ true
        → waits_at (level_of key) m ≡ 1
    by true true low high both =
        let low_is : m.low ≡ key = eqb-true m.low key low in
        let high_is : m.high ≡ key = eqb-true m.high key high in
        let same : (m.low == m.high) ≡ true = eq-eqb m.low m.high (low_is ∙ sym high_is) in
        let level : (level_of m.low == level_of key) ≡ true = eq-eqb _ _ (ap level_of low_is) in
        (λ i. cond (same i && level i) 1 0)
    by true false low high both = absurd cc
    by false c low high both = absurd cc

-- what is filled in isn't waited for
filled_waits_not : (n : ℕ) (nodes : List Node) → IsReduced n nodes → (unread : List Node) (x : Node)
    → IsReadTo nodes unread (Some x) → (level : ℕ)
    → waits_at level (record { low = x.low; high = x.high }) ≡ 0
filled_waits_not n nodes reduced unread x reading level =
    let differ : x.low ≢ x.high = (reduced.proper x (hand_in nodes unread x reading)).differ in
    ap (λ b. cond (b && (level_of x.low == level)) 1 0) (ne_eqb x.low x.high differ)

module _ (n : ℕ) (nodes : List Node) (reduced : IsReduced n nodes) (key level : ℕ) where
  -- filling in never makes more wait
  filled_fewer : (unread : List Node) (hand : Option Node) → IsReadTo nodes unread hand → (m : Row)
      → waits_at level (filled key hand m) ≤ waits_at level m
  filled_fewer unread None reading m = omega arith
  filled_fewer unread (Some x) reading m = by ((x.uid == key) && is_node key m)
    where
      by : (b : Bool) → waits_at level (cond b (record { low = x.low; high = x.high }) m)
          ≤ waits_at level m
      by true = omega (arith, filled_waits_not n nodes reduced unread x reading level)
      by false = omega arith

  -- the key's node doesn't wait once it is filled in
  filled_less : (unread : List Node) (hand : Option Node) → IsReadTo nodes unread hand → (m : Row)
      → is_node key m ≡ true → wants key hand m ≡ false → waits_at level (filled key hand m) ≡ 0
  filled_less unread None reading m is none = absurd (let no : true ≡ false = sym is ∙ none in cc)
  filled_less unread (Some x) reading m is none = by (x.uid == key) refl none
    where
      by : (b : Bool) → (x.uid == key) ≡ b → cond b false (is_node key m) ≡ false
          → waits_at level (cond (b && is_node key m) (record { low = x.low; high = x.high }) m) ≡ 0
      by true same none_wanted =
          ap (λ c. waits_at level (cond c (record { low = x.low; high = x.high }) m)) is
          ∙ filled_waits_not n nodes reduced unread x reading level
      by false same none_wanted = absurd (let no : true ≡ false = sym is ∙ none_wanted in cc)

-- the asks that wait, by their stages
abbrev all_stages : List Waiting → ℕ
all_stages waiting = sum_by (λ a. stages a.form) waiting

stages_first : (a : Waiting) (rest : List Waiting)
    → all_stages (a ∷ rest) ≡ stages a.form + all_stages rest
stages_first a rest = sum_by-cons (λ (b : Waiting). stages b.form) a rest

side_stages : (s : ℕ) (side : Bool) (goal : Goal) (rest : List Waiting)
    → all_stages (side_waits s side goal ++ rest) ≤ 3 + all_stages rest
side_stages s side (End value) rest = omega arith
side_stages s side (Go y) rest = omega (
  arith,
  stages_first (record { form = first_form y; asker = asker_word s side }) rest,
  three_stages (first_form y),
)

side_one : (s : ℕ) (side : Bool) (goal : Goal)
    → length (side_waits s side goal) + length (side_arcs s side goal) ≡ 1
side_one s side (End value) = refl
side_one s side (Go y) = refl

pub count_begins : CountBegins
count_begins d x = omega (
  arith,
  stages_first (record { form = first_form x; asker = nobody }) [],
  three_stages (first_form x),
)

pub count_in_any_order : CountInAnyOrder
count_in_any_order d turns None r waiting others inner ends moved counted = omega (
  arith,
  counted,
  sum_by-IsPermutation (λ (b : Waiting). stages b.form) waiting others moved,
)
count_in_any_order d turns (Some x) r waiting others inner ends moved counted = omega (
  arith,
  counted,
  sum_by-IsPermutation (λ (b : Waiting). stages b.form) waiting others moved,
  length_permutation waiting others moved,
)

one_read : (old unread : List Node) (x : Node) → old ≡ unread ++ x ∷ []
    → length old ≡ length unread + 1
one_read old unread x is = ap length is ∙ length-append unread (x ∷ [])

pub read_is_counted : ReadIsCounted
read_is_counted d turns newest r waiting inner ends x unread counted = record {
  first = λ is. omega (arith, counted, one_read r.first.unread unread x is);
  second = λ is. omega (arith, counted, one_read r.second.unread unread x is);
  third = λ is. omega (arith, counted, one_read r.third.unread unread x is);
}

-- a list without one of its members, once
pub record Without {X : Type 0} (x : X) (xs : List X) : Type 0 where
  pub rest : List X
  pub shorter : length xs ≡ suc (length rest)
  pub keeps : (y : X) → Has y xs → (x ≡ y) ⊎ Has y rest

without : {X : Type 0} (x : X) (xs : List X) → Has x xs → Without x xs
without x [] m = absurd m
without x (y ∷ ys) (inl is) = record {
  rest = ys;
  shorter = refl;
  keeps = λ z k. elim k [ inl same ↦ inl (sym is ∙ same) | inr there ↦ inr there ];
}
without x (y ∷ ys) (inr m) =
    let w = without x ys m in
    record {
      rest = y ∷ w.rest;
      shorter = ap suc w.shorter;
      keeps = λ z k. elim k [
        | inl same ↦ inr (inl same)
        | inr there ↦ elim (w.keeps z there) [ inl is ↦ inl is | inr left ↦ inr (inr left) ]
      ];
    }

-- different tuples of a list are no more than the list has
pub different_few : (xs ys : List Tuple) → AreDifferent xs → ((x : Tuple) → Has x xs → Has x ys)
    → length xs ≤ length ys
different_few [] ys differ among = omega arith
different_few (x ∷ xs) ys differ among =
    let w = without x ys (among x (inl refl)) in
    let rest : length xs ≤ length w.rest = different_few xs w.rest differ.1
    (λ y m. elim (w.keeps y (among y (inr m))) [
      | inl same ↦ absurd (differ.0 (subst (λ v. Has v xs) (sym same) m))
      | inr left ↦ left
    ]) in
    omega (arith, rest, w.shorter)

module _ (n : ℕ) (rule : Rule) (d : Diagrams) (roots : Tuple) (task : IsTask n rule d roots) where
  -- the first ask is taken once more at least
  first_stage : (place : Place) (a : Waiting) (rest : List Waiting) (last : Option Waiting)
      (r : Readings) (inner ends : List Arc)
      → Remains n rule d roots place (a ∷ rest) last r inner ends → 1 ≤ stages a.form
  first_stage place a rest last r inner ends m =
      let sound : IsSound place.newest last a =
      asks_are_sound n rule d roots task place (a ∷ rest) last r inner ends m a (inl refl) in
      elim sound.here [
        | inl is ↦ omega (arith, key_waits a.form.key a.form.first is)
        | inr (inl is) ↦ omega (arith, key_waits a.form.key a.form.second is)
        | inr (inr is) ↦ omega (arith, key_waits a.form.key a.form.third is)
      ]

  pub known_is_counted : KnownIsCounted n rule d roots
  known_is_counted turns root x a rest last r inner ends m counted =
      let stage : 1 ≤ stages a.form =
      first_stage (at_place root (Some x)) a rest last r inner ends m in
      let sound : IsSound (Some x) last a =
      asks_are_sound n rule d roots task (at_place root (Some x))
      (a ∷ rest) last r inner ends m a (inl refl) in
      let level : level_of (source_of a.asker) < level_of a.form.key = sound.asker in
      let answer : length (answer_arcs a.asker (identifier x)) ≡ 1 =
      ap length (answer-node a.asker (identifier x) (omega (arith, level, sound.key_is))) in
      omega (
        arith,
        counted,
        stage,
        stages_first a rest,
        answer,
        length-append inner (answer_arcs a.asker (identifier x)),
      )

  -- filling in makes one wait less
  read_on_less : (place : Place) (a : Waiting) (rest : List Waiting) (last : Option Waiting)
      (r : Readings) (inner ends : List Arc)
      → Remains n rule d roots place (a ∷ rest) last r inner ends → want r a.form ≡ false
      → waits_at (level_of a.form.key) (filled a.form.key r.first.hand a.form.first)
      + (waits_at (level_of a.form.key) (filled a.form.key r.second.hand a.form.second)
      + waits_at (level_of a.form.key) (filled a.form.key r.third.hand a.form.third)) + 1 ≤ stages
      a.form
  read_on_less place a rest last r inner ends m none =
      let sound : IsSound place.newest last a =
      asks_are_sound n rule d roots task place (a ∷ rest) last r inner ends m a (inl refl) in
      let key : ℕ = a.form.key in
      let reading = m.waits.reading in
      let first = filled_fewer n d.first task.reduced.first key
      (level_of key) r.first.unread r.first.hand reading.first a.form.first in
      let second = filled_fewer n d.second task.reduced.second key
      (level_of key) r.second.unread r.second.hand reading.second a.form.second in
      let third = filled_fewer n d.third task.reduced.third key
      (level_of key) r.third.unread r.third.hand reading.third a.form.third in
      elim sound.here [
        | inl is ↦ omega (
          arith,
          first,
          second,
          third,
          key_waits key a.form.first is,
          filled_less n d.first task.reduced.first key (level_of key) r.first.unread r.first.hand
              reading.first a.form.first is (or_parts _ _ none).0,
        )
        | inr (inl is) ↦ omega (
          arith,
          first,
          second,
          third,
          key_waits key a.form.second is,
          filled_less n d.second task.reduced.second key
              (level_of key) r.second.unread r.second.hand reading.second a.form.second is
              (or_parts _ _ (or_parts _ _ none).1).0,
        )
        | inr (inr is) ↦ omega (
          arith,
          first,
          second,
          third,
          key_waits key a.form.third is,
          filled_less n d.third task.reduced.third key (level_of key) r.third.unread r.third.hand
              reading.third a.form.third is (or_parts _ _ (or_parts _ _ none).1).1,
        )
      ]

  -- the node that is read next is of the key's level
  unread_level : (level : ℕ) (m : Row) → unread_at level m < 2 ^ 63
      → level_of (unread_at level m) ≡ level
  unread_level level m low = by (m.low == m.high) (level_of m.low == level) refl low
    where
      by : (b c : Bool) → (level_of m.low == level) ≡ c
          → cond (b && c) m.low (terminal true) < 2 ^ 63
          → level_of (cond (b && c) m.low (terminal true)) ≡ level
      by true true same below = eqb-true _ _ same
      by true false same below = absurd (omega (arith, below))
      by false c same below = absurd (omega (arith, below))

  next_level : (f : Form) → next_key f < 2 ^ 63 → level_of (next_key f) ≡ level_of f.key
  next_level f low = elim (one_least a b c) [
    | inl is ↦ ap level_of is ∙ unread_level (level_of f.key) f.first
        (subst (λ v. v < 2 ^ 63) is low)
    | inr (inl is) ↦ ap level_of is ∙ unread_level (level_of f.key) f.second
        (subst (λ v. v < 2 ^ 63) is low)
    | inr (inr is) ↦ ap level_of is ∙ unread_level (level_of f.key) f.third
        (subst (λ v. v < 2 ^ 63) is low)
  ]
    where
      a : ℕ
      a = unread_at (level_of f.key) f.first

      b : ℕ
      b = unread_at (level_of f.key) f.second

      c : ℕ
      c = unread_at (level_of f.key) f.third

  pub read_on_is_counted : ReadOnIsCounted n rule d roots
  read_on_is_counted turns place a rest last r inner ends m none low counted =
      let less = read_on_less place a rest last r inner ends m none in
      let level : level_of (next_key (filled_form r a.form)) ≡ level_of a.form.key =
      next_level (filled_form r a.form) low in
      let fewer : stages (read_on r a.form) + 1 ≤ stages a.form =
      subst (λ l. waits_at l (filled a.form.key r.first.hand a.form.first)
      + (waits_at l (filled a.form.key r.second.hand a.form.second)
      + waits_at l (filled a.form.key r.third.hand a.form.third)) + 1 ≤ stages a.form)
      (sym level) less in
      kept place.newest fewer counted
    where
      kept : (newest : Option Numbered) → stages (read_on r a.form) + 1 ≤ stages a.form
          → IsCounted d turns newest r (a ∷ rest) inner ends
          → IsCounted d (suc turns) newest r (asked_on r a ∷ rest) inner ends
      kept None fewer before = omega (
        arith,
        before,
        fewer,
        stages_first a rest,
        stages_first (asked_on r a) rest,
      )
      kept (Some x) fewer before = omega (
        arith,
        before,
        fewer,
        stages_first a rest,
        stages_first (asked_on r a) rest,
      )

  -- the arcs and asks of both sides
  two_sides : (s : ℕ) (low high : Goal) (rest : List Waiting) (ends : List Arc)
      → length (ends ++ (side_arcs s false low ++ side_arcs s true high)) + length
      (side_waits s false low ++ (side_waits s true high ++ rest))
      ≡ length ends + length rest + 2
  two_sides s low high rest ends = omega (
    arith,
    length-append ends (side_arcs s false low ++ side_arcs s true high),
    length-append (side_arcs s false low) (side_arcs s true high),
    length-append (side_waits s false low) (side_waits s true high ++ rest),
    length-append (side_waits s true high) rest,
    side_one s false low,
    side_one s true high,
  )

  both_stages : (s : ℕ) (low high : Goal) (rest : List Waiting)
      → all_stages (side_waits s false low ++ (side_waits s true high ++ rest)) ≤ 6 + all_stages
      rest
  both_stages s low high rest = omega (
    arith,
    side_stages s false low (side_waits s true high ++ rest),
    side_stages s true high rest,
  )

  new_counted : (turns root : ℕ) (newest : Option Numbered) (a : Waiting) (rest : List Waiting)
      (last : Option Waiting) (r : Readings) (inner ends : List Arc)
      → Remains n rule d roots (at_place root newest) (a ∷ rest) last r inner ends
      → IsCounted d turns newest r (a ∷ rest) inner ends
      → (s : ℕ) (low high : Goal) (x : Numbered)
      → IsCounted d (suc turns) (Some x) r (side_waits s false low ++
      (side_waits s true high ++ rest)) (inner ++ answer_arcs a.asker s)
      (ends ++ (side_arcs s false low ++ side_arcs s true high))
  new_counted turns root None a rest last r inner ends m counted s low high x =
      let stage : 1 ≤ stages a.form = first_stage (at_place root None) a rest last r inner ends m in
      let (none, no_ends, (b, y, alone, _, _)) =
      root_stands n rule d roots task root (a ∷ rest) last r inner ends m in
      let single : length (a ∷ rest) ≡ length (b ∷ []) = ap length alone in
      omega (
        arith,
        counted,
        stage,
        single,
        ap length no_ends,
        stages_first a rest,
        two_sides s low high rest ends,
        both_stages s low high rest,
      )
  new_counted turns root (Some z) a rest last r inner ends m counted s low high x =
      let stage : 1 ≤ stages a.form =
      first_stage (at_place root (Some z)) a rest last r inner ends m in
      let sound : IsSound (Some z) last a =
      asks_are_sound n rule d roots task (at_place root (Some z))
      (a ∷ rest) last r inner ends m a (inl refl) in
      let level : level_of (source_of a.asker) < level_of a.form.key = sound.asker in
      let answer : length (answer_arcs a.asker s) ≡ 1 =
      ap length (answer-node a.asker s (omega (arith, level, sound.key_is))) in
      omega (
        arith,
        counted,
        stage,
        answer,
        stages_first a rest,
        length-append inner (answer_arcs a.asker s),
        two_sides s low high rest ends,
        both_stages s low high rest,
      )

  pub new_is_counted : NewIsCounted n rule d roots
  new_is_counted turns place a rest last r inner ends m counted =
      new_counted turns place.root place.newest a rest last r inner ends m counted _ _ _
      (next_numbered place.newest a.form)

  pub turns_are_few : TurnsAreFew n rule d roots
  turns_are_few turns place waiting last r inner ends all m counted among =
      by place.newest m.made counted
    where
      by : (newest : Option Numbered)
          → IsMade n rule d roots place.root newest last inner ends m.opens
          → IsCounted d turns newest r waiting inner ends
          → turns + unread_count r ≤ 6 * length all + unread_count (unread_all d) + 3
      by None made before = omega (arith, before)
      by (Some x) g before =
          let few : length (map g.tuple (identifier x ∷ g.used)) ≤ length all =
          different_few (map g.tuple (identifier x ∷ g.used)) all
          (different n rule d roots task g.tuple (identifier x ∷ g.used) g.grows.numbered
          g.grows.differ)
          (λ y k. let (s, there, is) = map_has g.tuple y (identifier x ∷ g.used) k in
          among y (subst (IsMet rule (targets_in d) roots) is (g.is_met s there))) in
          let asks : length (map ask_of m.opens) ≡ length m.opens = length-map m.opens ask_of in
          let waits : length (map (waiting_of (targets_in d)) m.opens) ≡ length m.opens =
          length-map m.opens (waiting_of (targets_in d)) in
          let here : length waiting ≡ length (map (waiting_of (targets_in d)) m.opens) =
          ap length m.are in
          omega (
            arith,
            before,
            few,
            asks,
            waits,
            here,
            g.grows.count,
            length-map (identifier x ∷ g.used) g.tuple,
          )
