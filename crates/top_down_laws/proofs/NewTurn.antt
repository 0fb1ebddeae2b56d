-- Turns that give a tuple its number.
use Rattle.std.proofs.Common.{◌≡◌, ◌≢◌, ℕ, ◌+◌, ◌≤◌, ◌<◌, ◌∙◌, ◌^◌, Bool, true, false, cond, List, [], ◌∷◌, ◌++◌, refl, subst, sym, ap, inl, inr, arith, append_assoc}
use Rattle.std.specs.Prelude.{Option, Some, None, IfSome, map, length, suc, ◌==◌}
use Rattle.std.proofs.lemmas.List.{length-append, append-nil}
use Rattle.std.proofs.lemmas.Bool.{eqb-true}
use Rattle.list_laws.proofs.MemberLaws.{has_append, has_map}
use Rattle.rec_words.specs.Words.{level_of, node_word, level_numbers}
use Rattle.canon_file.specs.Members.{Has}
use Rattle.arc_file.specs.declared.arc.Arc.{Arc}
use Rattle.top_down.specs.declared.tuple.Tuple.{Tuple}
use Rattle.top_down.specs.declared.tuple.Goal.{Goal}
use Rattle.top_down.specs.declared.tuple.Goal.TheVariants.{Go}
use Rattle.top_down.specs.Tuples.{level_of_tuple}
use Rattle.top_down.specs.Rules.{Rule, IsAsked, below_on}
use Rattle.top_down.specs.Asks.{Grows, IsUpTo, answer, next_identifier, side_arcs, side_asks, new_arcs, new_asks, with_tuple}
use Rattle.top_down.proofs.NumberLaws.{next_above}
use Rattle.top_down.proofs.NewIdentifiers.{with-new, with-other}
use Rattle.top_down.proofs.TurnLaws.{turn_first, turn_new}
use Rattle.top_down_laws.specs.Forms.{Form, Waiting, comes_before, asker_word, IsNoLater, form_at, next_key, IsLastKey}
use Rattle.top_down_laws.specs.Readings.{Diagrams, targets_in, AreIn, Readings, want, filled_form}
use Rattle.top_down_laws.specs.Remains.{IsTask, Open, waiting_of, ask_of, source_of, side_of, IsOpen, Waits, Numbered, identifier, IsMade, AsksForRoot, IsMet, AtRoot, Below, IsUpToForm, IsGrown, Remains, answer_arcs, goal_on, side_waits, next_numbered}
use Rattle.top_down_laws.specs.Laws.{IsNext, NewIsNumbered}
use Rattle.top_down_laws.proofs.FormLaws.{one_last, is_last}
use Rattle.top_down_laws.proofs.OrderLaws.{no_later_self, no_later_chain, no_later_both, no_later_key}
use Rattle.top_down_laws.proofs.AskerLaws.{answer-nobody, answer-node}
use Rattle.top_down_laws.proofs.ReadTurns.{open_key, lifted, TakenOn, taken_on}
use Rattle.top_down_laws.proofs.KnownTurn.{others_wait, source_node, answers_itself}
use Rattle.top_down_laws.proofs.SideLaws.{side_opens, side_opens-wait, side_opens-ask, side_goal, goal_on-is, sides_wait}

-- the next number is that of the next identifier
next_is : (x : Numbered) (f : Form) (used : List ℕ) (l : ℕ)
    → level_of (identifier x) ≡ level_of x.form.key → level_of f.key ≡ l
    → identifier (next_numbered (Some x) f) ≡ next_identifier (identifier x ∷ used) l
next_is x f used l old_level new_level = by (level_of x.form.key == level_of f.key) refl
  where
    test : (level_of (identifier x) == l) ≡ (level_of x.form.key == level_of f.key)
    test = (λ i. old_level i == sym new_level i)

    by : (b : Bool) → (level_of x.form.key == level_of f.key) ≡ b
        → node_word (level_of f.key) (cond (level_of x.form.key == level_of f.key) (x.number + 1) 0)
        ≡ cond (level_of (identifier x) == l) (suc (identifier x)) (node_word l 0)
    by true same =
        let level : level_of x.form.key ≡ level_of f.key = eqb-true _ _ same in
        ap (λ b. node_word (level_of f.key) (cond b (x.number + 1) 0)) same
        ∙ one_more (level_of f.key) (level_of x.form.key) x.number level
        ∙ sym (ap (λ b. cond b (suc (identifier x)) (node_word l 0)) (test ∙ same))
      where
        one_more : (k m number : ℕ) → m ≡ k → node_word k (number + 1) ≡ suc (node_word m number)
        one_more k m number is = omega (arith, is)
    by false other =
        ap (λ b. node_word (level_of f.key) (cond b (x.number + 1) 0)) other
        ∙ ap (λ k. node_word k 0) new_level
        ∙ sym (ap (λ b. cond b (suc (identifier x)) (node_word l 0)) (test ∙ other))

module _ (n : ℕ) (rule : Rule) (d : Diagrams) (roots : Tuple) (task : IsTask n rule d roots) where
  abbrev wait : Open → Waiting
  wait o = waiting_of (targets_in d) o

  module _ (last : Option Waiting) (r : Readings) (inner ends : List Arc) (ask : Open)
      (others : List Open)
      (w : Waits n rule d r last (ask ∷ others)) (none : want r (wait ask).form ≡ false)
      (all_read : next_key (filled_form r (wait ask).form) < 2 ^ 63 → ⊥) where
    pub opened : IsOpen n rule d ask
    opened = w.are_open ask (inl refl)

    last_key : IsLastKey ask.key ask.tuple
    last_key = is_last n d task.reduced r w.reading ask.tuple opened.members ask.key
        (open_key n rule d roots task ask opened) opened.key_is none all_read

    abbrev pub low : Goal
    low = side_goal n rule d roots task ask opened false

    abbrev pub high : Goal
    high = side_goal n rule d roots task ask opened true

    -- the asks of both sides with the others
    abbrev pub both : ℕ → List Open
    both s = side_opens s false low (side_opens s true high others)

    asks_are : (s : ℕ) → new_asks rule (targets_in d) s ask.tuple ++ map ask_of others
        ≡ map ask_of (both s)
    asks_are s =
        append_assoc (side_asks s false low) (side_asks s true high) (map ask_of others)
        ∙ ap (λ l. side_asks s false low ++ l) (side_opens-ask s true high others)
        ∙ side_opens-ask s false low (side_opens s true high others)

    waits_are : (s : ℕ) → side_waits s false low ++ (side_waits s true high ++ map wait others)
        ≡ map wait (both s)
    waits_are s =
        ap (λ l. side_waits s false low ++ l) (side_opens-wait (targets_in d) s true high others)
        ∙ side_opens-wait (targets_in d) s false low (side_opens s true high others)

    -- tuples are numbered already
    module _ (root : ℕ) (x : Numbered) (g : IsGrown n rule d roots root x last inner ends
        (ask ∷ others))
        (new : x.form ≡ (wait ask).form → ⊥) (room : length inner + 1 < level_numbers) where
      abbrev pub next : Numbered
      next = next_numbered (Some x) (wait ask).form

      abbrev pub s : ℕ
      s = identifier next

      abbrev pub used : List ℕ
      used = identifier x ∷ g.used

      on : TakenOn n rule d roots task x inner (wait ask)
      on = taken_on n rule d roots task root x last inner ends (ask ∷ others) (wait ask) g
          (w.behind ask (inl refl))

      old_level : level_of (identifier x) ≡ level_of x.form.key
      old_level = (g.grows.levels (identifier x) (inl refl)).0 ∙ sym g.key_is.is_key.level

      up : IsUpTo used (level_of_tuple ask.tuple)
      up =
          let key : x.form.key ≤ ask.key = no_later_key x.form (wait ask).form on.reached in
          omega (arith, key, old_level, opened.key_is.level)

      few_used : length used < 2 ^ 47
      few_used = omega (arith, g.few, room)

      other : (t : ℕ) → Has t used → g.tuple t ≡ ask.tuple → ⊥
      other t k same =
          let before = g.upto t k in
          let key : before.key ≡ ask.key =
          one_last before.key ask.key ask.tuple (subst (IsLastKey before.key) same before.last)
          last_key in
          let form : form_at (targets_in d) before.key (g.tuple t) ≡ (wait ask).form =
          (λ i. form_at (targets_in d) (key i) (same i)) in
          new (no_later_both x.form (wait ask).form on.reached
          (subst (λ f. IsNoLater f x.form) form before.upto))

      s_is : s ≡ next_identifier used (level_of_tuple ask.tuple)
      s_is = next_is x (wait ask).form g.used (level_of_tuple ask.tuple) old_level
          opened.key_is.level

      above : (t : ℕ) → Has t used → t < s
      above t k = subst (λ v. t < v) (sym s_is)
          (next_above used (level_of_tuple ask.tuple) g.grows.numbered up t k)

      abbrev pub tuples : ℕ → Tuple
      tuples = with_tuple s ask.tuple g.tuple

      is_new : tuples s ≡ ask.tuple
      is_new = with-new s ask.tuple g.tuple

      kept : (t : ℕ) → Has t used → tuples t ≡ g.tuple t
      kept t k = with-other s ask.tuple g.tuple t (λ same. (let below : t < s = above t k in
          omega (arith, same, below)))

      new_grows : Grows n root rule (targets_in d) (inner ++ answer (ask_of ask) s ∷ [])
          (ends ++ new_arcs rule (targets_in d) s ask.tuple) (map ask_of (both s)) (s ∷ used) tuples
      new_grows =
          subst (λ l. Grows n root rule (targets_in d) (inner ++ answer (ask_of ask) s ∷ [])
          (ends ++ new_arcs rule (targets_in d) s ask.tuple) l (s ∷ used) tuples) (asks_are s)
          (subst (λ v. Grows n root rule (targets_in d) (inner ++ answer (ask_of ask) v ∷ [])
          (ends ++ new_arcs rule (targets_in d) v ask.tuple)
          (new_asks rule (targets_in d) v ask.tuple ++ map ask_of others) (v ∷ used)
          (with_tuple v ask.tuple g.tuple)) (sym s_is)
          (turn_new n root rule (targets_in d) task.is_rule inner ends used g.tuple
          (map ask_of others) (ask_of ask) g.grows up few_used other))

      asker_used : Has (source_of ask.asker) used
      asker_used = (g.grows.ask_right (ask_of ask) (inl refl)).0

      asker_goes : rule.goal (below_on rule (targets_in d) (side_of ask.asker)
          (g.tuple (source_of ask.asker))) ≡ Go ask.tuple
      asker_goes = (g.grows.ask_right (ask_of ask) (inl refl)).1

      grown : IsGrown n rule d roots root next (Some (wait ask))
          (inner ++ answer (ask_of ask) s ∷ []) (ends ++ new_arcs rule (targets_in d) s ask.tuple)
          (both s)
      grown = record {
        used = used;
        tuple = tuples;
        grows = new_grows;
        goes = g.goes ∙ ap Go (sym (kept root g.grows.begins));
        members = λ t k. elim k [
          | inl is ↦ subst (λ v. AreIn d (tuples v)) is
              (subst (AreIn d) (sym is_new) opened.members)
          | inr m ↦ subst (AreIn d) (sym (kept t m)) (g.members t m)
        ];
        is_met = λ t k. elim k [
          | inl is ↦ subst (λ v. IsMet rule (targets_in d) roots (tuples v)) is
              (subst (IsMet rule (targets_in d) roots) (sym is_new)
              (Below (g.tuple (source_of ask.asker)) ask.tuple (side_of ask.asker)
              (g.is_met (source_of ask.asker) asker_used) asker_goes))
          | inr m ↦ subst (IsMet rule (targets_in d) roots) (sym (kept t m)) (g.is_met t m)
        ];
        few = omega (arith, g.few, length-append inner (answer (ask_of ask) s ∷ []));
        form_is = ap (form_at (targets_in d) ask.key) is_new;
        key_is = subst (IsLastKey ask.key) (sym is_new) last_key;
        upto = λ t k. elim k [
          | inl is ↦ subst (λ v. IsUpToForm (targets_in d) (tuples v) (wait ask).form) is
              (subst (λ y. IsUpToForm (targets_in d) y (wait ask).form) (sym is_new)
              (record { key = ask.key; last = last_key; upto = no_later_self (wait ask).form }))
          | inr m ↦ subst (λ y. IsUpToForm (targets_in d) y (wait ask).form) (sym (kept t m))
              (let before = g.upto t m in
              record {
                key = before.key;
                last = before.last;
                upto =
                    no_later_chain (form_at (targets_in d) before.key (g.tuple t)) x.form
                    (wait ask).form before.upto on.reached;
              })
        ];
        taken = wait ask;
        last_is = refl;
        reached = no_later_self (wait ask).form;
        answered = λ b m target. elim (has_append b inner (answer (ask_of ask) s ∷ []) m) [
          | inl k ↦
              let below : b.target < s = above b.target (g.grows.inner_right b k).1 in
              absurd (omega (arith, target, below))
          | inr (inl is) ↦ subst (λ (c : Arc). comes_before (wait ask) (record {
            form = (wait ask).form;
            asker = asker_word c.source c.high;
          }) ≡ false) is
              (answers_itself n rule d roots task ask (wait ask).form refl)
          | inr (inr nothing) ↦ absurd nothing
        ];
      }

      pub new_made : IsGrown n rule d roots root next (Some (wait ask))
          (inner ++ answer_arcs ask.asker s) (ends ++ new_arcs rule (targets_in d) s ask.tuple)
          (both s)
      new_made = subst (λ l. IsGrown n rule d roots root next (Some (wait ask)) (inner ++ l)
          (ends ++ new_arcs rule (targets_in d) s ask.tuple) (both s))
          (sym (answer-node ask.asker s
          (source_node n rule d roots task root x last inner ends ask others g))) grown

      pub new_apart : (o : Open) → Has o others → source_of o.asker ≢ s
      new_apart o m = λ same.
          let below : source_of o.asker < s =
          above (source_of o.asker) (g.grows.ask_right (ask_of o)
          (inr (has_map ask_of o others m))).0 in
          omega (arith, same, below)

    -- the root's tuple is numbered
    module _ (root : ℕ) (made : AsksForRoot rule roots root inner ends (ask ∷ others)) where
      abbrev pub first : Numbered
      first = next_numbered None (wait ask).form

      abbrev pub top : ℕ
      top = identifier first

      alone : made.ask ≡ ask
      alone = sym (ap (λ (l : List Open). head_or l) made.only)
        where
          head_or : List Open → Open
          head_or [] = ask
          head_or (o ∷ os) = o

      no_others : others ≡ []
      no_others = ap (λ (l : List Open). tail_of l) made.only
        where
          tail_of : List Open → List Open
          tail_of [] = []
          tail_of (o ∷ os) = os

      goes : rule.goal roots ≡ Go ask.tuple
      goes = made.goes ∙ ap (λ (o : Open). Go o.tuple) alone

      -- the root's number is the first of its level
      abbrev begin : ℕ
      begin = node_word (level_of_tuple ask.tuple) 0

      root_is : begin ≡ root
      root_is = ap (λ (o : Open). node_word (level_of_tuple o.tuple) 0) (sym alone)
          ∙ sym made.root_is

      top_is : begin ≡ top
      top_is = ap (λ l. node_word l 0) (sym opened.key_is.level)

      no_answer : answer_arcs ask.asker top ≡ []
      no_answer = ap (λ a. answer_arcs a top) (ap (λ (o : Open). o.asker) (sym alone)
          ∙ made.asker_is) ∙ answer-nobody top

      inner_is : inner ++ answer_arcs ask.asker top ≡ []
      inner_is = (λ i. made.no_inner i ++ no_answer i)

      ends_are : new_arcs rule (targets_in d) begin ask.tuple
          ≡ ends ++ new_arcs rule (targets_in d) top ask.tuple
      ends_are = (λ i. new_arcs rule (targets_in d) (top_is i) ask.tuple)
          ∙ (λ i. sym made.no_ends i ++ new_arcs rule (targets_in d) top ask.tuple)

      first_asks : new_asks rule (targets_in d) begin ask.tuple ≡ map ask_of (both top)
      first_asks =
          (λ i. new_asks rule (targets_in d) (top_is i) ask.tuple)
          ∙ sym (append-nil (new_asks rule (targets_in d) top ask.tuple))
          ∙ (λ i. new_asks rule (targets_in d) top ask.tuple ++ map ask_of (sym no_others i))
          ∙ asks_are top

      asked : IsAsked n rule 0 ask.tuple
      asked = task.is_rule.goes_asked 0 roots ask.tuple (omega arith) task.asked goes

      first_grows : Grows n root rule (targets_in d) (inner ++ answer_arcs ask.asker top)
          (ends ++ new_arcs rule (targets_in d) top ask.tuple) (map ask_of (both top)) (top ∷ [])
          (λ v. ask.tuple)
      first_grows =
          subst (λ v. v) (λ j. Grows n (root_is j) rule (targets_in d) (sym inner_is j) (ends_are j)
          (first_asks j) (top_is j ∷ []) (λ v. ask.tuple))
          (turn_first n rule (targets_in d) task.is_rule ask.tuple asked opened.low)

      pub first_made : IsGrown n rule d roots root first (Some (wait ask))
          (inner ++ answer_arcs ask.asker top) (ends ++ new_arcs rule (targets_in d) top ask.tuple)
          (both top)
      first_made = record {
        used = [];
        tuple = λ v. ask.tuple;
        grows = first_grows;
        goes = goes;
        members = λ t k. opened.members;
        is_met = λ t k. AtRoot ask.tuple goes;
        few = omega arith;
        form_is = refl;
        key_is = last_key;
        upto = λ t k. record {
          key = ask.key;
          last = last_key;
          upto = no_later_self (wait ask).form;
        };
        taken = wait ask;
        last_is = refl;
        reached = no_later_self (wait ask).form;
        answered = λ b m target. absurd (subst (Has b) inner_is m);
      }

      pub first_apart : (o : Open) → Has o others → source_of o.asker ≢ top
      first_apart o m = absurd (subst (Has o) no_others m)

  -- what remains once the first ask's tuple has its number
  abbrev Numbers : ℕ → Option Numbered → Readings → List Arc → List Arc → Waiting → List Waiting
      → Goal → Goal → Type 0
  Numbers root newest r inner ends a rest low high =
      Remains n rule d roots (record { root = root; newest = Some (next_numbered newest a.form) })
      (side_waits (identifier (next_numbered newest a.form)) false low ++
      (side_waits (identifier (next_numbered newest a.form)) true high ++ rest)) (Some a) r
      (inner ++ answer_arcs a.asker (identifier (next_numbered newest a.form)))
      (ends ++ (side_arcs (identifier (next_numbered newest a.form)) false low ++ side_arcs
      (identifier (next_numbered newest a.form)) true high))

  -- by the goals of the tuple's sides
  by_sides : (root : ℕ) (newest : Option Numbered) (last : Option Waiting) (r : Readings)
      (inner ends : List Arc) (ask : Open) (others : List Open)
      (w : Waits n rule d r last (ask ∷ others))
      → IsMade n rule d roots root newest last inner ends (ask ∷ others)
      → IsNext (wait ask) (map wait others)
      → want r (wait ask).form ≡ false → (next_key (filled_form r (wait ask).form) < 2 ^ 63 → ⊥)
      → IfSome newest (λ x. x.form ≡ (wait ask).form → ⊥) → length inner + 1 < level_numbers
      → Numbers root newest r inner ends (wait ask) (map wait others)
      (side_goal n rule d roots task ask (w.are_open ask (inl refl)) false)
      (side_goal n rule d roots task ask (w.are_open ask (inl refl)) true)
  by_sides root None last r inner ends ask others w made next none all_read new room =
      let s : ℕ = identifier (next_numbered None (wait ask).form) in
      record {
        opens = both last r inner ends ask others w none all_read s;
        are = waits_are last r inner ends ask others w none all_read s;
        waits = sides_wait n rule d roots task ask (w.are_open ask (inl refl)) r others s
            (others_wait n rule d roots task (record {
              root = root;
              newest = None;
            }) last r inner ends ask others w made next) (w.reach ask (inl refl))
            (first_apart last r inner ends ask others w none all_read root made);
        made = first_made last r inner ends ask others w none all_read root made;
      }
  by_sides root (Some x) last r inner ends ask others w made next none all_read new room =
      let s : ℕ = identifier (next_numbered (Some x) (wait ask).form) in
      record {
        opens = both last r inner ends ask others w none all_read s;
        are = waits_are last r inner ends ask others w none all_read s;
        waits = sides_wait n rule d roots task ask (w.are_open ask (inl refl)) r others s
            (others_wait n rule d roots task (record {
              root = root;
              newest = Some x;
            }) last r inner ends ask others w made next) (w.reach ask (inl refl))
            (new_apart last r inner ends ask others w none all_read root x made new room);
        made = new_made last r inner ends ask others w none all_read root x made new room;
      }

  pub new_is_numbered : NewIsNumbered n rule d roots
  new_is_numbered place a rest last r inner ends m next none all_read new room =
      lifted n rule d roots task place a rest last r inner ends
      (λ b bs. want r b.form ≡ false → (next_key (filled_form r b.form) < 2 ^ 63 → ⊥)
      → IfSome place.newest (λ x. x.form ≡ b.form → ⊥)
      → Numbers place.root place.newest r inner ends b bs (goal_on rule r b.form false)
      (goal_on rule r b.form true)) m next
      (λ ask others w made first no_want read differs.
      let opened = w.are_open ask (inl refl) in
      subst (λ v. v) (λ j. Numbers place.root place.newest r inner ends (wait ask) (map wait others)
      (sym (goal_on-is n rule d roots task ask opened r w.reading no_want read false) j)
      (sym (goal_on-is n rule d roots task ask opened r w.reading no_want read true) j))
      (by_sides place.root place.newest last r inner ends ask others w made first no_want read
      differs room))
      none all_read new
