-- The asks for the two sides of a new tuple.
use Rattle.std.proofs.Common.{◌≡◌, ◌≢◌, ℕ, ◌-◌, ◌≤◌, ◌<◌, ◌∙◌, ◌^◌, Bool, true, false, cond, List, ◌∷◌, ◌++◌, refl, subst, sym, ap, inl, inr, arith}
use Rattle.std.specs.Prelude.{◌⊎◌, Some, map, suc}
use Rattle.std.proofs.lemmas.Bool.{ltb-true}
use Rattle.rec_words.specs.Words.{level_of}
use Rattle.rec_words.specs.declared.node.Node.{Node}
use Rattle.canon_file.specs.declared.row.Row.{Row}
use Rattle.canon_file.specs.Members.{Has}
use Rattle.canon_file.specs.Walks.{is_at, row_at}
use Rattle.arc_diagrams.specs.Arcs.{onward}
use Rattle.top_down.specs.declared.tuple.Tuple.{Tuple}
use Rattle.top_down.specs.declared.tuple.Goal.{Goal}
use Rattle.top_down.specs.declared.tuple.Goal.TheVariants.{End, Go}
use Rattle.top_down.specs.Tuples.{Targets, level_of_tuple, parts}
use Rattle.top_down.specs.Rules.{Rule, IsAsked, below_on}
use Rattle.top_down.specs.Asks.{side_asks}
use Rattle.top_down.proofs.TurnLaws.{asked_at, tuple_deep}
use Rattle.top_down_laws.specs.Forms.{Waiting, asker_word, comes_before, least, next_key}
use Rattle.top_down_laws.specs.Readings.{Diagrams, targets_in, IsIn, AreIn, IsReduced, Readings, AreReadings, HandsReach, want, filled_form}
use Rattle.top_down_laws.specs.Remains.{IsTask, Open, waiting_of, ask_of, source_of, IsOpen, asks_by, Waits, goal_on, side_waits}
use Rattle.top_down_laws.proofs.MemberLaws.{row_at-node, node_in}
use Rattle.top_down_laws.proofs.FormLaws.{least_key, first_form-is, side-is}
use Rattle.top_down_laws.proofs.OrderLaws.{before_by_key}
use Rattle.top_down_laws.proofs.CountLaws.{asks_added}
use Rattle.top_down_laws.proofs.AskerLaws.{source-word, side-word}
use Rattle.top_down_laws.proofs.ReadTurns.{open_key, hands_later}

-- the open ask of a side, before others
abbrev pub side_opens : ℕ → Bool → Goal → List Open → List Open
side_opens s side (End value) others = others
side_opens s side (Go y) others = record {
  asker = asker_word s side;
  tuple = y;
  key = least y;
} ∷ others

-- as it waits, and as an ask
pub side_opens-wait : (targets : Targets) (s : ℕ) (side : Bool) (goal : Goal) (others : List Open)
    → side_waits s side goal ++ map (waiting_of targets) others
    ≡ map (waiting_of targets) (side_opens s side goal others)
side_opens-wait targets s side (End value) others = refl
side_opens-wait targets s side (Go y) others = λ i. record {
  form = first_form-is targets y i;
  asker = asker_word s side;
} ∷ map (waiting_of targets) others

pub side_opens-ask : (s : ℕ) (side : Bool) (goal : Goal) (others : List Open)
    → side_asks s side goal ++ map ask_of others ≡ map ask_of (side_opens s side goal others)
side_opens-ask s side (End value) others = refl
side_opens-ask s side (Go y) others = λ i. record {
  source = sym (source-word s side) i;
  high = sym (side-word s side) i;
  tuple = y;
} ∷ map ask_of others

-- one of them is another one or that of the side
pub one_side : (s : ℕ) (side : Bool) (goal : Goal) (others : List Open) (o : Open)
    → Has o (side_opens s side goal others)
    → (Has o others) ⊎ ((y : Tuple) × (goal ≡ Go y) × (record {
      asker = asker_word s side;
      tuple = y;
      key = least y;
    } ≡ o))
one_side s side (End value) others o m = inl m
one_side s side (Go y) others o (inl is) = inr (y, refl, is)
one_side s side (Go y) others o (inr m) = inl m

pub side_once : (s : ℕ) (side : Bool) (goal : Goal) (others : List Open)
    → ((o : Open) → Has o others → o.asker ≢ asker_word s side)
    → ((w : ℕ) → asks_by w others ≤ 1) → (w : ℕ) → asks_by w (side_opens s side goal others) ≤ 1
side_once s side (End value) others none once = once
side_once s side (Go y) others none once = asks_added (record {
  asker = asker_word s side;
  tuple = y;
  key = least y;
}) others none once

-- the two sides of a node are different askers
pub sides_differ : (s : ℕ) → asker_word s true ≢ asker_word s false
sides_differ s same = omega (arith, same)

-- where a member leads is one of its diagram
pub onward_in : (n : ℕ) (nodes : List Node) → IsReduced n nodes → n ≤ 65535 → (level : ℕ)
    → level < n → (side : Bool) (w : ℕ) → IsIn nodes w
    → IsIn nodes (onward (row_at nodes) level side w)
onward_in n nodes reduced few level low side w is = by (is_at level w) refl side
  where
    child : w < 2 ^ 63 → (b : Bool) → IsIn nodes (cond b (row_at nodes w).high (row_at nodes w).low)
    child node true =
        let (x, m, uid) = node_in nodes w is node in
        let row : row_at nodes w ≡ record { low = x.low; high = x.high } =
        ap (row_at nodes) (sym uid) ∙ row_at-node nodes reduced.descend x m in
        subst (IsIn nodes) (ap (λ (r : Row). r.high) (sym row)) (reduced.leads_high x m)
    child node false =
        let (x, m, uid) = node_in nodes w is node in
        let row : row_at nodes w ≡ record { low = x.low; high = x.high } =
        ap (row_at nodes) (sym uid) ∙ row_at-node nodes reduced.descend x m in
        subst (IsIn nodes) (ap (λ (r : Row). r.low) (sym row)) (reduced.leads_low x m)

    by : (b : Bool) → is_at level w ≡ b → (c : Bool)
        → IsIn nodes (cond b (cond c (row_at nodes w).high (row_at nodes w).low) w)
    by true at c = child (let below = ltb-true _ _ at in omega (arith, below, low, few)) c
    by false at c = is

module _ (n : ℕ) (rule : Rule) (d : Diagrams) (roots : Tuple) (task : IsTask n rule d roots)
    (ask : Open) (opened : IsOpen n rule d ask) where
  abbrev wait : Open → Waiting
  wait o = waiting_of (targets_in d) o

  -- what the rule says of a side
  abbrev pub side_goal : Bool → Goal
  side_goal side = rule.goal (below_on rule (targets_in d) side ask.tuple)

  parts_in : (side : Bool)
      → AreIn d (parts (targets_in d) (level_of_tuple ask.tuple) side ask.tuple)
  parts_in side = record {
    first = onward_in n d.first task.reduced.first task.few (level_of_tuple ask.tuple) opened.low
        side ask.tuple.first opened.members.first;
    second = onward_in n d.second task.reduced.second task.few (level_of_tuple ask.tuple) opened.low
        side ask.tuple.second opened.members.second;
    third = onward_in n d.third task.reduced.third task.few (level_of_tuple ask.tuple) opened.low
        side ask.tuple.third opened.members.third;
  }

  -- a tuple that is asked for on a side lies deeper, and may be asked for
  pub record IsSide (y : Tuple) (o : Open) : Type 0 where
    pub is_open : IsOpen n rule d o
    pub deeper : ask.key < o.key
    pub behind : comes_before (wait ask) (wait o) ≡ true

  pub side_is_open : (s : ℕ) (side : Bool) (y : Tuple) → side_goal side ≡ Go y
      → IsSide y (record { asker = asker_word s side; tuple = y; key = least y })
  side_is_open s side y says =
      let l : ℕ = level_of_tuple ask.tuple in
      let below : IsAsked n rule (suc l) (below_on rule (targets_in d) side ask.tuple) =
      task.is_rule.sides_asked ask.tuple side opened.low opened.asked in
      let above : IsAsked n rule (suc l) y =
      task.is_rule.goes_asked (suc l) (below_on rule (targets_in d) side ask.tuple) y
      (omega (arith, opened.low)) below says in
      let deep : suc l ≤ level_of_tuple y = tuple_deep n (suc l) y above.from in
      let o : Open = record { asker = asker_word s side; tuple = y; key = least y } in
      let level : level_of ask.key ≡ l = opened.key_is.level in
      let next_level : level_of (least y) ≡ level_of_tuple y = (least_key y).level in
      let deeper : ask.key < least y = omega (arith, level, next_level, deep) in
      record {
        is_open = record {
          members = task.picks.goal (below_on rule (targets_in d) side ask.tuple) y
              (task.picks.below l side _ _ (parts_in false) (parts_in true)) says;
          asked = asked_at n rule (targets_in d) task.is_rule (level_of_tuple y - suc l) (suc l) y
              (omega arith) above;
          low = task.is_rule.goes_low (suc l) (below_on rule (targets_in d) side ask.tuple) y
              (omega (arith, opened.low)) below says;
          key_is = least_key y;
        };
        deeper = deeper;
        behind = before_by_key (wait ask) (wait o) deeper;
      }

  -- the goals that are seen where all nodes are at hand are those of the tuple's sides
  pub goal_on-is : (r : Readings) → AreReadings d r → want r (wait ask).form ≡ false
      → (next_key (filled_form r (wait ask).form) < 2 ^ 63 → ⊥)
      → (side : Bool) → goal_on rule r (wait ask).form side ≡ side_goal side
  goal_on-is r reading none all_read side =
      let node : ask.key < 2 ^ 63 = open_key n rule d roots task ask opened in
      let low = side-is n d task.reduced r reading ask.tuple opened.members ask.key node
      opened.key_is none all_read false in
      let high = side-is n d task.reduced r reading ask.tuple opened.members ask.key node
      opened.key_is none all_read true in
      (λ i. rule.goal (rule.below (level_of ask.key) side (low i) (high i)))
      ∙ (λ i. rule.goal (rule.below (opened.key_is.level i) side
      (parts (targets_in d) (opened.key_is.level i) false ask.tuple)
      (parts (targets_in d) (opened.key_is.level i) true ask.tuple)))

  -- the asks for the two sides wait with the others
  pub sides_wait : (r : Readings) (others : List Open) (s : ℕ)
      → Waits n rule d r (Some (wait ask)) others → HandsReach r ask.key
      → ((o : Open) → Has o others → source_of o.asker ≢ s)
      → Waits n rule d r (Some (wait ask)) (side_opens s false (side_goal false)
      (side_opens s true (side_goal true) others))
  sides_wait r others s w reach apart = record {
    are_open = λ o m. every (IsOpen n rule d) (λ side y says. (side_is_open s side y says).is_open)
        (λ p k. w.are_open p k) o m;
    behind = λ o m. every (λ p. comes_before (wait ask) (wait p)
        ≡ true) (λ side y says. (side_is_open s side y says).behind) (λ p k. w.behind p k) o m;
    once = side_once s false (side_goal false) (side_opens s true (side_goal true) others)
        (λ o m. not_low o (one_side s true (side_goal true) others o m))
        (side_once s true (side_goal true) others (λ o m. not_other true o m) w.once);
    reading = w.reading;
    reach = λ o m. every (λ p. HandsReach r p.key) (λ side y says. (let deeper =
        (side_is_open s side y says).deeper in
        hands_later r ask.key (least y) (omega (arith, deeper)) reach))
        (λ p k. w.reach p k) o m;
  }
    where
      every : (P : Open → Type 0) → ((side : Bool) (y : Tuple) → side_goal side ≡ Go y
          → P (record { asker = asker_word s side; tuple = y; key = least y }))
          → ((p : Open) → Has p others → P p) → (o : Open)
          → Has o (side_opens s false (side_goal false) (side_opens s true (side_goal true) others))
          → P o
      every P new old o m =
          elim (one_side s false (side_goal false)
          (side_opens s true (side_goal true) others) o m) [
            | inr (y, says, is) ↦ subst P is (new false y says)
            | inl k ↦ elim (one_side s true (side_goal true) others o k) [
              | inr (y, says, is) ↦ subst P is (new true y says)
              | inl there ↦ old o there
            ]
          ]

      not_other : (side : Bool) (o : Open) → Has o others → o.asker ≢ asker_word s side
      not_other side o m = λ same. apart o m (ap source_of same ∙ source-word s side)

      not_low : (o : Open) → (Has o others) ⊎ ((y : Tuple) × (side_goal true ≡ Go y)
          × (record { asker = asker_word s true; tuple = y; key = least y } ≡ o))
          → o.asker ≢ asker_word s false
      not_low o (inl m) = not_other false o m
      not_low o (inr (y, says, is)) = λ same. sides_differ s (ap (λ (p : Open). p.asker) is ∙ same)
