-- Turns that read a node, and turns that ask again for the next one.
use Rattle.std.proofs.Common.{◌≡◌, ℕ, ◌≤◌, ◌<◌, ◌∙◌, ◌^◌, true, false, List, [], ◌∷◌, refl, subst, sym, ap, inl, inr, arith}
use Rattle.std.specs.Prelude.{Option, Some, None, map}
use Rattle.list_laws.proofs.MemberLaws.{has_map}
use Rattle.rec_words.specs.Words.{level_of, node_word}
use Rattle.rec_words.specs.declared.node.Node.{Node}
use Rattle.canon_file.specs.Members.{Has}
use Rattle.arc_file.specs.declared.arc.Arc.{Arc}
use Rattle.top_down.specs.declared.tuple.Tuple.{Tuple}
use Rattle.top_down.specs.declared.tuple.Goal.TheVariants.{Go}
use Rattle.top_down.specs.Tuples.{level_of_tuple}
use Rattle.top_down.specs.Rules.{Rule}
use Rattle.top_down_laws.specs.Forms.{Waiting, comes_before, asker_word, IsNoLater, next_key}
use Rattle.top_down_laws.specs.Readings.{Diagrams, targets_in, Readings, AreReadings, IsUpToHand, HandsReach, want, filled_form, read_on}
use Rattle.top_down_laws.specs.Remains.{IsTask, Open, waiting_of, IsOpen, IsBehind, Waits, Place, Numbered, identifier, IsMade, IsGrown, Remains}
use Rattle.top_down_laws.specs.Laws.{IsNext, ReadsNodes, WantedIsRead, AskIsReadOn}
use Rattle.top_down_laws.proofs.FormLaws.{next_later, next_is_key, read_on-is}
use Rattle.top_down_laws.proofs.OrderLaws.{forms_follow, no_later_chain, before_by_key, not_before, not_before_chain, before_other}
use Rattle.top_down_laws.proofs.CountLaws.{other_asker, asks_instead}
use Rattle.top_down_laws.proofs.ReadLaws.{wanted_next, FirstOpen, first_open, keys_follow}

-- the key of an open ask is a node
pub open_key : (n : ℕ) (rule : Rule) (d : Diagrams) (roots : Tuple) → IsTask n rule d roots
    → (o : Open) → IsOpen n rule d o → o.key < 2 ^ 63
open_key n rule d roots task o opened =
    let level : level_of o.key ≡ level_of_tuple o.tuple = opened.key_is.level in
    omega (arith, level, opened.low, task.few)

-- a node at hand up to one key is so up to a later one
pub hand_later : (hand : Option Node) (key next : ℕ) → key ≤ next → IsUpToHand hand key
    → IsUpToHand hand next
hand_later None key next later upto = tt
hand_later (Some x) key next later upto = (let most : x.uid ≤ key = upto in
    omega (arith, most, later))

pub hands_later : (r : Readings) (key next : ℕ) → key ≤ next → HandsReach r key → HandsReach r next
hands_later r key next later reach = record {
  first = hand_later r.first.hand key next later reach.first;
  second = hand_later r.second.hand key next later reach.second;
  third = hand_later r.third.hand key next later reach.third;
}

module _ (n : ℕ) (rule : Rule) (d : Diagrams) (roots : Tuple) (task : IsTask n rule d roots) where
  abbrev wait : Open → Waiting
  wait o = waiting_of (targets_in d) o

  -- what holds of the first open ask and the others holds of the asks that wait
  pub lifted : (place : Place) (a : Waiting) (rest : List Waiting) (last : Option Waiting)
      (r : Readings) (inner ends : List Arc)
      (P : Waiting → List Waiting → Type 0)
      → Remains n rule d roots place (a ∷ rest) last r inner ends → IsNext a rest
      → ((ask : Open) (others : List Open) → Waits n rule d r last (ask ∷ others)
      → IsMade n rule d roots place.root place.newest last inner ends (ask ∷ others)
      → IsNext (wait ask) (map wait others) → P (wait ask) (map wait others))
      → P a rest
  lifted place a rest last r inner ends P m next holds =
      let f : FirstOpen d a rest m.opens = first_open d a rest m.opens m.are in
      subst (λ v. v) (λ j. P (sym f.is j) (sym f.are j))
      (holds f.ask f.others (subst (Waits n rule d r last) f.split m.waits)
      (subst (IsMade n rule d roots place.root place.newest last inner ends) f.split m.made)
      (subst (λ v. v) (λ j. IsNext (f.is j) (f.are j)) next))

  -- what is read for the first ask
  module _ (place : Place) (last : Option Waiting) (r : Readings) (inner ends : List Arc)
      (ask : Open) (others : List Open)
      (w : Waits n rule d r last (ask ∷ others))
      (made : IsMade n rule d roots place.root place.newest last inner ends (ask ∷ others))
      (next : IsNext (wait ask) (map wait others)) where
    here : IsOpen n rule d ask
    here = w.are_open ask (inl refl)

    node : ask.key < 2 ^ 63
    node = open_key n rule d roots task ask here

    later : (o : Open) → Has o (ask ∷ others) → ask.key ≤ o.key
    later = keys_follow d ask others next

    -- with other readings that reach no further than the first key
    read : (now : Readings) → AreReadings d now → ((o : Open) → Has o (ask ∷ others)
        → HandsReach now o.key)
        → Remains n rule d roots place (wait ask ∷ map wait others) last now inner ends
    read now reading reach = record {
      opens = ask ∷ others;
      are = refl;
      waits = record {
        are_open = w.are_open;
        behind = w.behind;
        once = w.once;
        reading = reading;
        reach = reach;
      };
      made = made;
    }

    pub reads_nodes : ReadsNodes n rule d roots place (wait ask) (map wait others) last r inner ends
    reads_nodes = record {
      first = λ wanted.
          let nx = wanted_next n d.first task.reduced.first ask.key node ask.tuple.first
          here.members.first r.first.unread r.first.hand w.reading.first
          (w.reach ask (inl refl)).first wanted in (
            nx.node,
            nx.left,
            nx.is,
            nx.upto,
            read (record {
              first = record { hand = Some nx.node; unread = nx.left };
              second = r.second;
              third = r.third;
            })
                (record { first = nx.reading; second = w.reading.second; third = w.reading.third })
                (λ o m. record {
                  first = omega (arith, nx.upto, later o m);
                  second = (w.reach o m).second;
                  third = (w.reach o m).third;
                }),
          );
      second = λ wanted.
          let nx = wanted_next n d.second task.reduced.second ask.key node ask.tuple.second
          here.members.second r.second.unread r.second.hand w.reading.second
          (w.reach ask (inl refl)).second wanted in (
            nx.node,
            nx.left,
            nx.is,
            nx.upto,
            read (record {
              first = r.first;
              second = record {
                hand = Some nx.node;
                unread = nx.left;
              };
              third = r.third;
            })
                (record { first = w.reading.first; second = nx.reading; third = w.reading.third })
                (λ o m. record {
                  first = (w.reach o m).first;
                  second = omega (arith, nx.upto, later o m);
                  third = (w.reach o m).third;
                }),
          );
      third = λ wanted.
          let nx = wanted_next n d.third task.reduced.third ask.key node ask.tuple.third
          here.members.third r.third.unread r.third.hand w.reading.third
          (w.reach ask (inl refl)).third wanted in (
            nx.node,
            nx.left,
            nx.is,
            nx.upto,
            read (record {
              first = r.first;
              second = r.second;
              third = record {
                hand = Some nx.node;
                unread = nx.left;
              };
            })
                (record { first = w.reading.first; second = w.reading.second; third = nx.reading })
                (λ o m. record {
                  first = (w.reach o m).first;
                  second = (w.reach o m).second;
                  third = omega (arith, nx.upto, later o m);
                }),
          );
    }

    -- once the first ask is taken, the others come behind it
    pub others_behind : (o : Open) → Has o others → comes_before (wait ask) (wait o) ≡ true
    others_behind o m = before_other (wait ask) (wait o) (next (wait o) (has_map wait o others m))
        (other_asker ask others w.once o m)

  pub wanted_is_read : WantedIsRead n rule d roots
  wanted_is_read place a rest last r inner ends m next =
      lifted place a rest last r inner ends
      (λ b bs. ReadsNodes n rule d roots place b bs last r inner ends) m next
      (λ ask others w made first. reads_nodes place last r inner ends ask others w made first)

  -- what is known of the newest tuple, with that ask as the last one taken
  pub record TakenOn (x : Numbered) (inner : List Arc) (a : Waiting) : Type 0 where
    pub reached : IsNoLater x.form a.form
    pub answered : (b : Arc) → Has b inner → b.target ≡ identifier x
        → comes_before a (record { form = x.form; asker = asker_word b.source b.high }) ≡ false

  pub taken_on : (root : ℕ) (x : Numbered) (last : Option Waiting) (inner ends : List Arc)
      (opens : List Open) (a : Waiting)
      → IsGrown n rule d roots root x last inner ends opens → IsBehind last a → TakenOn x inner a
  taken_on root x last inner ends opens a g behind =
      let before : comes_before g.taken a ≡ true = subst (λ l. IsBehind l a) g.last_is behind in
      let back : comes_before a g.taken ≡ false = not_before g.taken a before in
      record {
        reached = no_later_chain x.form g.taken.form a.form g.reached (forms_follow g.taken a back);
        answered = λ b m target. not_before_chain a g.taken _ back (g.answered b m target);
      }

  -- an ask of the same asker for the same tuple in place of the first one, which was taken
  asked_again : (root : ℕ) (newest : Option Numbered) (last : Option Waiting)
      (inner ends : List Arc) (ask : Open) (others : List Open) (key : ℕ) (a : Waiting)
      → IsMade n rule d roots root newest last inner ends (ask ∷ others) → IsBehind last a
      → IsMade n rule d roots root newest (Some a) inner ends (record {
        asker = ask.asker;
        tuple = ask.tuple;
        key = key;
      } ∷ others)
  asked_again root None last inner ends ask others key a made behind =
      let alone : ask ≡ made.ask = ap (λ (l : List Open). head_or l) made.only in
      let none : others ≡ [] = ap (λ (l : List Open). tail_of l) made.only in
      record {
        ask = record { asker = ask.asker; tuple = ask.tuple; key = key };
        only = λ i. record { asker = ask.asker; tuple = ask.tuple; key = key } ∷ none i;
        asker_is = ap (λ (o : Open). o.asker) alone ∙ made.asker_is;
        goes = made.goes ∙ ap (λ (o : Open). Go o.tuple) (sym alone);
        root_is = made.root_is ∙ ap (λ (o : Open). node_word (level_of_tuple o.tuple) 0)
            (sym alone);
        no_inner = made.no_inner;
        no_ends = made.no_ends;
      }
    where
      head_or : List Open → Open
      head_or [] = ask
      head_or (o ∷ os) = o

      tail_of : List Open → List Open
      tail_of [] = []
      tail_of (o ∷ os) = os
  asked_again root (Some x) last inner ends ask others key a made behind =
      let on = taken_on root x last inner ends (ask ∷ others) a made behind in
      record {
        used = made.used;
        tuple = made.tuple;
        grows = made.grows;
        goes = made.goes;
        members = made.members;
        is_met = made.is_met;
        few = made.few;
        form_is = made.form_is;
        key_is = made.key_is;
        upto = made.upto;
        taken = a;
        last_is = refl;
        reached = on.reached;
        answered = on.answered;
      }

  pub ask_is_read_on : AskIsReadOn n rule d roots
  ask_is_read_on place a rest last r inner ends m next none low =
      lifted place a rest last r inner ends
      (λ b bs. want r b.form ≡ false → next_key (filled_form r b.form) < 2 ^ 63
      → Remains n rule d roots place (record {
        form = read_on r b.form;
        asker = b.asker;
      } ∷ bs) (Some b) r inner ends) m next
      (λ ask others w made first. again ask others w made first) none low
    where
      again : (ask : Open) (others : List Open) → Waits n rule d r last (ask ∷ others)
          → IsMade n rule d roots place.root place.newest last inner ends (ask ∷ others)
          → IsNext (wait ask) (map wait others)
          → want r (wait ask).form ≡ false → next_key (filled_form r (wait ask).form) < 2 ^ 63
          → Remains n rule d roots place (record {
            form = read_on r (wait ask).form;
            asker = ask.asker;
          } ∷ map wait others) (Some (wait ask)) r inner ends
      again ask others w made first none_wanted below =
          let opened : IsOpen n rule d ask = w.are_open ask (inl refl) in
          let node : ask.key < 2 ^ 63 = open_key n rule d roots task ask opened in
          let key : ℕ = next_key (filled_form r (wait ask).form) in
          let later : ask.key < key =
          next_later n d task.reduced r w.reading ask.tuple opened.members ask.key node
          opened.key_is none_wanted in
          let o : Open = record { asker = ask.asker; tuple = ask.tuple; key = key } in
          let form = read_on-is n d task.reduced r w.reading ask.tuple opened.members ask.key node
          opened.key_is none_wanted below in
          let o_opened : IsOpen n rule d o = record {
            members = opened.members;
            asked = opened.asked;
            low = opened.low;
            key_is = next_is_key n d task.reduced r w.reading ask.tuple opened.members ask.key node
                opened.key_is none_wanted below;
          } in
          let o_behind : comes_before (wait ask) (wait o) ≡ true =
          before_by_key (wait ask) (wait o) later in
          record {
            opens = o ∷ others;
            are = λ i. record { form = form i; asker = ask.asker } ∷ map wait others;
            waits = record {
              are_open = λ p k. elim k [
                | inl is ↦ subst (IsOpen n rule d) is o_opened
                | inr there ↦
                    w.are_open p (inr there)
              ];
              behind = λ p k. elim k [
                | inl is ↦ subst (λ q. comes_before (wait ask) (wait q) ≡ true) is o_behind
                | inr there ↦ others_behind place last r inner ends ask others w made first p there
              ];
              once = asks_instead ask o others refl w.once;
              reading = w.reading;
              reach = λ p k. elim k [
                | inl is ↦ subst (λ (q : Open). HandsReach r q.key) is (hands_later r ask.key key
                    (omega (arith, later)) (w.reach ask (inl refl)))
                | inr there ↦ w.reach p (inr there)
              ];
            };
            made = asked_again place.root place.newest last inner ends ask others key
                (wait ask) made (w.behind ask (inl refl));
          }
