-- Turns that answer an ask by the tuple that was numbered last.
use Rattle.std.proofs.Common.{◌≡◌, ℕ, ◌<◌, ◌∙◌, false, List, [], ◌∷◌, ◌++◌, refl, subst, sym, ap, inl, inr, arith}
use Rattle.std.specs.Prelude.{Option, Some, map}
use Rattle.std.specs.Ordering.{is_lt}
use Rattle.std.proofs.lemmas.List.{length-append}
use Rattle.list_laws.proofs.MemberLaws.{has_append}
use Rattle.rec_words.specs.Words.{level_of, most_variables}
use Rattle.canon_file.specs.Members.{Has}
use Rattle.arc_file.specs.declared.arc.Arc.{Arc}
use Rattle.arc_file.specs.Files.{end_cmp}
use Rattle.top_down.specs.declared.tuple.Tuple.{Tuple}
use Rattle.top_down.specs.Tuples.{level_of_tuple}
use Rattle.top_down.specs.Rules.{Rule}
use Rattle.top_down.specs.Asks.{answer}
use Rattle.top_down.proofs.TurnLaws.{turn_known}
use Rattle.top_down_laws.specs.Forms.{Form, Waiting, comes_before, asker_word, form_at}
use Rattle.top_down_laws.specs.Readings.{Diagrams, targets_in, Readings}
use Rattle.top_down_laws.specs.Remains.{IsTask, Open, waiting_of, ask_of, source_of, side_of, IsOpen, Waits, Place, Numbered, identifier, IsMade, IsGrown, Remains, answer_arcs}
use Rattle.top_down_laws.specs.Laws.{IsNext, KnownIsAnswered}
use Rattle.top_down_laws.proofs.FormLaws.{levels_from, same_tuple}
use Rattle.top_down_laws.proofs.OrderLaws.{askers_follow, not_before_self}
use Rattle.top_down_laws.proofs.CountLaws.{asks_rest}
use Rattle.top_down_laws.proofs.AskerLaws.{word-parts, answer-node, not_earlier}
use Rattle.top_down_laws.proofs.ReadTurns.{open_key, lifted, others_behind, TakenOn, taken_on}

module _ (n : ℕ) (rule : Rule) (d : Diagrams) (roots : Tuple) (task : IsTask n rule d roots) where
  abbrev wait : Open → Waiting
  wait o = waiting_of (targets_in d) o

  -- with the first ask taken, the others wait
  pub others_wait : (place : Place) (last : Option Waiting) (r : Readings) (inner ends : List Arc)
      (ask : Open) (others : List Open)
      → Waits n rule d r last (ask ∷ others)
      → IsMade n rule d roots place.root place.newest last inner ends (ask ∷ others)
      → IsNext (wait ask) (map wait others) → Waits n rule d r (Some (wait ask)) others
  others_wait place last r inner ends ask others w made next = record {
    are_open = λ o m. w.are_open o (inr m);
    behind = others_behind n rule d roots task place last r inner ends ask others w made next;
    once = asks_rest ask others w.once;
    reading = w.reading;
    reach = λ o m. w.reach o (inr m);
  }

  -- the source of an ask is a node
  pub source_node : (root : ℕ) (x : Numbered) (last : Option Waiting) (inner ends : List Arc)
      (ask : Open) (others : List Open)
      → IsGrown n rule d roots root x last inner ends (ask ∷ others)
      → level_of (source_of ask.asker) < most_variables
  source_node root x last inner ends ask others g =
      let (asker, goes) = g.grows.ask_right (ask_of ask) (inl refl) in
      let (level, low) = g.grows.levels (source_of ask.asker) asker in
      omega (arith, low, task.few)

  -- the arc that answers an ask is put for the ask itself
  pub answers_itself : (ask : Open) (f : Form) → f ≡ (wait ask).form
      → comes_before (wait ask) (record {
        form = f;
        asker = asker_word (source_of ask.asker) (side_of ask.asker);
      }) ≡ false
  answers_itself ask f same =
      let is : record { form = f; asker = asker_word (source_of ask.asker) (side_of ask.asker) }
      ≡ wait ask =
      λ i. record { form = same i; asker = word-parts ask.asker i } in
      subst (λ b. comes_before (wait ask) b ≡ false) (sym is) (not_before_self (wait ask))

  module _ (root : ℕ) (x : Numbered) (last : Option Waiting) (r : Readings) (inner ends : List Arc)
      (ask : Open) (others : List Open)
      (w : Waits n rule d r last (ask ∷ others)) (g : IsGrown n rule d roots root x last inner ends
      (ask ∷ others))
      (same : x.form ≡ (wait ask).form) where
    opened : IsOpen n rule d ask
    opened = w.are_open ask (inl refl)

    key_same : x.form.key ≡ ask.key
    key_same = ap (λ (f : Form). f.key) same

    -- what was numbered last is the ask's tuple
    tuple_same : g.tuple (identifier x) ≡ ask.tuple
    tuple_same =
        let t : Tuple = g.tuple (identifier x) in
        let level : level_of ask.key ≡ level_of_tuple t =
        ap level_of (sym key_same) ∙ g.key_is.is_key.level in
        same_tuple n d task.reduced ask.key (open_key n rule d roots task ask opened) t ask.tuple
        (g.members (identifier x) (inl refl)) opened.members
        (levels_from (level_of ask.key) t level)
        (levels_from (level_of ask.key) ask.tuple opened.key_is.level)
        (ap (λ k. form_at (targets_in d) k t) (sym key_same) ∙ g.form_is ∙ same)

    on : TakenOn n rule d roots task x inner (wait ask)
    on = taken_on n rule d roots task root x last inner ends (ask ∷ others) (wait ask) g
        (w.behind ask (inl refl))

    in_order : (b : Arc) → Has b inner → b.target ≡ identifier x
        → is_lt (end_cmp (answer (ask_of ask) (identifier x)) b) ≡ false
    in_order b m target =
        not_earlier ask.asker b.source b.high
        (askers_follow (record { form = x.form; asker = asker_word b.source b.high }) (wait ask)
        (on.answered b m target) same)

    arcs_are : inner ++ answer (ask_of ask) (identifier x) ∷ []
        ≡ inner ++ answer_arcs ask.asker (identifier x)
    arcs_are = ap (λ l. inner ++ l)
        (sym (answer-node ask.asker (identifier x)
        (source_node root x last inner ends ask others g)))

    known_grows : IsGrown n rule d roots root x (Some (wait ask)) (inner ++ answer (ask_of ask)
        (identifier x) ∷ []) ends others
    known_grows = record {
      used = g.used;
      tuple = g.tuple;
      grows = turn_known n root rule (targets_in d) task.is_rule inner ends
          (identifier x ∷ g.used) g.tuple (map ask_of others) (ask_of ask) (identifier x)
          g.used refl g.grows tuple_same in_order;
      goes = g.goes;
      members = g.members;
      is_met = g.is_met;
      few = omega (arith, g.few, length-append inner (answer (ask_of ask) (identifier x) ∷ []));
      form_is = g.form_is;
      key_is = g.key_is;
      upto = g.upto;
      taken = wait ask;
      last_is = refl;
      reached = on.reached;
      answered = λ b m target.
          elim (has_append b inner (answer (ask_of ask) (identifier x) ∷ []) m) [
            | inl k ↦ on.answered b k target
            | inr (inl is) ↦ subst (λ (c : Arc). comes_before (wait ask) (record {
              form = x.form;
              asker = asker_word c.source c.high;
            }) ≡ false) is
                (answers_itself ask x.form same)
            | inr (inr none) ↦ absurd none
          ];
    }

    pub known_made : IsGrown n rule d roots root x (Some (wait ask)) (inner ++ answer_arcs ask.asker
        (identifier x)) ends others
    known_made = subst (λ l. IsGrown n rule d roots root x (Some (wait ask)) l ends others) arcs_are
        known_grows

  pub known_is_answered : KnownIsAnswered n rule d roots
  known_is_answered root x a rest last r inner ends m next same =
      lifted n rule d roots task (record { root = root; newest = Some x }) a rest last r inner ends
      (λ b bs. x.form ≡ b.form → Remains n rule d roots (record {
        root = root;
        newest = Some x;
      }) bs (Some b) r (inner ++ answer_arcs b.asker (identifier x)) ends)
      m next
      (λ ask others w made first is. record {
        opens = others;
        are = refl;
        waits = others_wait (record {
          root = root;
          newest = Some x;
        }) last r inner ends ask others w made first;
        made = known_made root x last r inner ends ask others w made is;
      }) same
