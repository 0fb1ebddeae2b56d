-- The asks that wait pass all tests of a sweep.
use Rattle.std.proofs.Common.{◌≡◌, ◌≢◌, ℕ, ◌≤◌, ◌<◌, ◌∙◌, ◌^◌, true, false, List, ◌∷◌, refl, subst, sym, ap, inl, inr, arith}
use Rattle.std.specs.Prelude.{Option, Some, None, IfSome, map, ◌&&◌}
use Rattle.std.proofs.lemmas.Bool.{eq-eqb}
use Rattle.list_laws.proofs.MemberLaws.{has_map, map_has}
use Rattle.rec_words.specs.Words.{level_of}
use Rattle.rec_words.specs.declared.node.Node.{Node}
use Rattle.canon_file.specs.Members.{Has}
use Rattle.canon_file.specs.Walks.{row_at}
use Rattle.arc_file.specs.declared.arc.Arc.{Arc}
use Rattle.top_down.specs.declared.tuple.Tuple.{Tuple}
use Rattle.top_down.specs.Rules.{Rule}
use Rattle.top_down.proofs.TurnLaws.{goes_below}
use Rattle.top_down_laws.specs.Forms.{pointers_of, Waiting, comes_before, is_node, member_at}
use Rattle.top_down_laws.specs.Readings.{Diagrams, targets_in, IsIn, IsReduced}
use Rattle.top_down_laws.specs.Remains.{IsTask, Open, waiting_of, ask_of, source_of, side_of, IsOpen, IsBehind, Numbered, identifier, IsMade}
use Rattle.top_down_laws.specs.Laws.{Stands, IsAskedBy, IsSound, AsksAreSound}
use Rattle.top_down_laws.proofs.NumberTests.{Order, Before, Same, Behind, order}
use Rattle.top_down_laws.proofs.MemberLaws.{row_at-node, node_in, was_read, waits}
use Rattle.top_down_laws.proofs.FormLaws.{Levels, levels_from}
use Rattle.top_down_laws.proofs.OrderLaws.{not_before_self}
use Rattle.top_down_laws.proofs.ReadTurns.{open_key}

-- a member of an open ask stands from its key
member_stands : (n : ℕ) (nodes : List Node) → IsReduced n nodes → (key : ℕ) → key < 2 ^ 63 → (w : ℕ)
    → IsIn nodes w → level_of key ≤ level_of w
    → Stands key (member_at (row_at nodes) key w)
member_stands n nodes reduced key node w is deep = by (order w key)
  where
    read : w < key → Stands key (member_at (row_at nodes) key w)
    read before =
        let (x, m, uid) = node_in nodes w is (omega (arith, before, node)) in
        let row : pointers_of x ≡ member_at (row_at nodes) key w =
        sym (row_at-node nodes reduced.descend x m) ∙ ap (row_at nodes) uid
        ∙ sym (was_read n nodes reduced key node w is before) in
        let proper = reduced.proper x m in
        let level : level_of x.uid ≡ level_of key = ap level_of uid ∙ same_level before in
        subst (Stands key) row (inr (
          proper.differ,
          subst (λ l. l < level_of x.low) level proper.low,
          subst (λ l. l < level_of x.high) level proper.high,
        ))
      where
        same_level : w < key → level_of w ≡ level_of key
        same_level less = omega (arith, less, deep)

    stays : key ≤ w → Stands key (member_at (row_at nodes) key w)
    stays from = subst (Stands key) (sym (waits n nodes reduced key node w is from)) (inl (
      refl,
      from,
    ))

    by : Order w key → Stands key (member_at (row_at nodes) key w)
    by (Before before) = read before
    by (Same same) = stays (omega (arith, same))
    by (Behind behind) = stays (omega (arith, behind))

-- the member that is the key
key_member : (n : ℕ) (nodes : List Node) → IsReduced n nodes → (key : ℕ) → key < 2 ^ 63 → (w : ℕ)
    → IsIn nodes w → key ≡ w
    → is_node key (member_at (row_at nodes) key w) ≡ true
key_member n nodes reduced key node w is same =
    ap (is_node key) (waits n nodes reduced key node w is (omega (arith, same)))
    ∙ (λ i. eq-eqb w key (sym same) i && eq-eqb w key (sym same) i)

module _ (n : ℕ) (rule : Rule) (d : Diagrams) (roots : Tuple) (task : IsTask n rule d roots) where
  abbrev wait : Open → Waiting
  wait o = waiting_of (targets_in d) o

  asked_by : (root : ℕ) (newest : Option Numbered) (last : Option Waiting) (inner ends : List Arc)
      (opens : List Open) (o : Open) → Has o opens
      → IsOpen n rule d o → IsMade n rule d roots root newest last inner ends opens
      → IsAskedBy newest (wait o)
  asked_by root None last inner ends opens o m opened made =
      elim (subst (Has o) made.only m) [
        | inl is ↦ ap (λ (p : Open). p.asker) (sym is) ∙ made.asker_is
        | inr none ↦ absurd none
      ]
  asked_by root (Some x) last inner ends opens o m opened g =
      let (source, goes) = g.grows.ask_right (ask_of o) (has_map ask_of o opens m) in
      let below = goes_below n root rule (targets_in d) task.is_rule inner ends
      (identifier x ∷ g.used) g.tuple (map ask_of opens) g.grows
      (source_of o.asker) (side_of o.asker) o.tuple source goes in
      subst (λ l. level_of (source_of o.asker) < l) (sym opened.key_is.level) below.deeper

  not_again : (last : Option Waiting) (a : Waiting) → IsBehind last a → IfSome last (λ l. l ≢ a)
  not_again None a behind = tt
  not_again (Some l) a behind = λ same.
      let itself : comes_before a a ≡ true = subst (λ b. comes_before b a ≡ true) same behind in
      let clash : true ≡ false = sym itself ∙ not_before_self a in
      absurd cc

  open_sound : (root : ℕ) (newest : Option Numbered) (last : Option Waiting) (inner ends : List Arc)
      (opens : List Open) (o : Open) → Has o opens
      → IsOpen n rule d o → IsBehind last (wait o)
      → IsMade n rule d roots root newest last inner ends opens → IsSound newest last (wait o)
  open_sound root newest last inner ends opens o m opened behind made =
      let node : o.key < 2 ^ 63 = open_key n rule d roots task o opened in
      let deep : Levels (level_of o.key) o.tuple =
      levels_from (level_of o.key) o.tuple opened.key_is.level in
      let is = opened.members in
      record {
        key_is = omega (arith, opened.key_is.level, opened.low, task.few);
        here = elim opened.key_is.here [
          | inl at ↦ inl (key_member n d.first task.reduced.first o.key node o.tuple.first is.first
              at)
          | inr (inl at) ↦ inr (inl
              (key_member n d.second task.reduced.second o.key node o.tuple.second is.second at))
          | inr (inr at) ↦ inr (inr
              (key_member n d.third task.reduced.third o.key node o.tuple.third is.third at))
        ];
        first = member_stands n d.first task.reduced.first o.key node o.tuple.first is.first
            deep.first;
        second = member_stands n d.second task.reduced.second o.key node o.tuple.second is.second
            deep.second;
        third = member_stands n d.third task.reduced.third o.key node o.tuple.third is.third
            deep.third;
        asker = asked_by root newest last inner ends opens o m opened made;
        other = not_again last (wait o) behind;
      }

  pub asks_are_sound : AsksAreSound n rule d roots
  asks_are_sound place waiting last r inner ends m a there =
      let (o, k, is) = map_has wait a m.opens (subst (Has a) m.are there) in
      subst (IsSound place.newest last) is
      (open_sound place.root place.newest last inner ends m.opens o k (m.waits.are_open o k)
      (m.waits.behind o k) m.made)
