-- What is written stands for, and what it is where nothing waits.
use Rattle.std.proofs.Common.{◌≡◌, ℕ, ◌+◌, ◌*◌, ◌<◌, ◌∙◌, List, [], ◌∷◌, ◌++◌, refl, subst, sym, ap, inl, inr, arith}
use Rattle.std.specs.Prelude.{Option, Some, None, map, length, suc}
use Rattle.std.proofs.lemmas.List.{length-map}
use Rattle.list_laws.proofs.MemberLaws.{has_map, map_has}
use Rattle.list_laws.proofs.SameMembers.{has_at}
use Rattle.rec_words.specs.Words.{level_of, IsTerminal}
use Rattle.canon_file.specs.Members.{Has}
use Rattle.canon_file.specs.Walks.{table_of}
use Rattle.canon_file.proofs.FileLaws.{terminal_ends}
use Rattle.arc_file.specs.declared.arc.Arc.{Arc}
use Rattle.arc_file.specs.Files.{Leads}
use Rattle.arc_file.specs.declared.kind.Kind.TheVariants as kind
use Rattle.arc_diagrams.specs.Arcs.{targets_of, target_on}
use Rattle.arc_diagrams.specs.Laws.{IsDiagramOf}
use Rattle.list_laws.proofs.MemberLaws.{has_left}
use Rattle.top_down.specs.declared.tuple.Tuple.{Tuple}
use Rattle.top_down.specs.declared.tuple.Goal.TheVariants.{End, Go}
use Rattle.top_down.specs.Rules.{Rule, below_on, table_for}
use Rattle.top_down.specs.Asks.{Ask, AreNumbered}
use Rattle.top_down.proofs.GoalLaws.{go_tuple, end_go}
use Rattle.top_down.proofs.NumberLaws.{newest_above}
use Rattle.top_down.proofs.GrownLaws.{open_stands, closed_stands}
use Rattle.top_down_laws.specs.Forms.{Waiting}
use Rattle.top_down_laws.specs.Readings.{Diagrams, targets_in}
use Rattle.top_down_laws.specs.Remains.{IsTask, Open, waiting_of, ask_of, IsOpen, Numbered, identifier, IsMade, IsMet, AtRoot, Below, IsGrown}
use Rattle.top_down_laws.specs.Laws.{IsFor, AsksForOne, WrittenStands, RootStands, AreDifferent, IsWhole, NothingWaits, task_table}
use Rattle.top_down_laws.proofs.FormLaws.{levels_from, same_tuple}
use Rattle.top_down_laws.proofs.ReadTurns.{open_key}

module _ (n : ℕ) (rule : Rule) (d : Diagrams) (roots : Tuple) (task : IsTask n rule d roots) where
  abbrev wait : Open → Waiting
  wait o = waiting_of (targets_in d) o

  is_for : (o : Open) → IsOpen n rule d o → IsFor d (wait o) o.tuple
  is_for o opened = record { members = opened.members; key_is = opened.key_is; form_is = refl }

  one_for : (o : Open) → IsOpen n rule d o → (y : Tuple) → IsFor d (wait o) y → y ≡ o.tuple
  one_for o opened y f =
      same_tuple n d task.reduced o.key (open_key n rule d roots task o opened) y o.tuple f.members
      opened.members
      (levels_from (level_of o.key) y f.key_is.level)
      (levels_from (level_of o.key) o.tuple opened.key_is.level) (sym f.form_is)

  pub asks_for_one : AsksForOne n rule d roots
  asks_for_one place waiting last r inner ends m a there =
      let (o, k, is) = map_has wait a m.opens (subst (Has a) m.are there) in
      let opened : IsOpen n rule d o = m.waits.are_open o k in
      subst (λ b. (x : Tuple) × IsFor d b x × ((y : Tuple) → IsFor d b y → y ≡ x)) is (
        o.tuple,
        is_for o opened,
        one_for o opened,
      )

  abbrev Answers : List Arc → Ask → Type 0
  Answers whole e = (h : ℕ) → suc (level_of e.source + h) ≡ n
      → table_of (targets_of whole) h (suc (level_of e.source)) (target_on whole e.source e.high)
      ≡ table_for rule (targets_in d) h (suc (level_of e.source)) e.tuple

  pub written_stands : WrittenStands n rule d roots
  written_stands root x waiting last r inner ends whole m c =
      open_stands n root rule (targets_in d) task.few task.is_rule inner ends (map ask_of m.opens)
      (identifier x ∷ m.made.used) m.made.tuple m.made.grows whole
      (record {
        complete = c.complete;
        has_inner = c.has_inner;
        has_ends = c.has_ends;
        answered = λ e k. answered e (map_has ask_of e m.opens k);
      }) roots task.asked m.made.goes
    where
      answered : (e : Ask) → ((o : Open) × Has o m.opens × (ask_of o ≡ e)) → Answers whole e
      answered e (o, k, is) =
          subst (Answers whole) is (c.answered (wait o) (subst (Has (wait o)) (sym m.are)
          (has_map wait o m.opens k)) o.tuple (is_for o (m.waits.are_open o k)))

  pub root_stands : RootStands n rule d roots
  root_stands root waiting last r inner ends m =
      let o : Open = m.made.ask in
      let opened : IsOpen n rule d o =
      m.waits.are_open o (subst (Has o) (sym m.made.only) (inl refl)) in (
        m.made.no_inner,
        m.made.no_ends,
        (
          wait o,
          o.tuple,
          m.are ∙ ap (map wait) m.made.only,
          is_for o opened,
          sym (task.is_rule.goes n 0 roots o.tuple (omega arith) task.asked m.made.goes),
        ),
      )

  -- the tuples of identifiers
  pub different : (tuple : ℕ → Tuple) (used : List ℕ) → AreNumbered used → ((s t : ℕ) → Has s used
      → Has t used → tuple s ≡ tuple t → s ≡ t)
      → AreDifferent (map tuple used)
  different tuple [] numbered differ = tt
  different tuple (s ∷ used) numbered differ = (
    (λ m. let (t, k, same) = map_has tuple (tuple s) used m in
        let below : t < s = newest_above s used numbered t k in
        let is : t ≡ s = differ t s (inr k) (inl refl) same in
        omega (arith, below, is)),
    different tuple used numbered.2 (λ v t k l same. differ v t (inr k) (inr l) same),
  )

  module _ (root : ℕ) (x : Numbered) (last : Option Waiting) (inner ends : List Arc)
      (g : IsGrown n rule d roots root x last inner ends []) where
    abbrev used : List ℕ
    used = identifier x ∷ g.used

    all_met : (y : Tuple) → IsMet rule (targets_in d) roots y → Has y (map g.tuple used)
    all_met y (AtRoot z says) =
        subst (λ v. Has v (map g.tuple used)) (go_tuple (g.tuple root) y (sym g.goes ∙ says))
        (has_map g.tuple root used g.grows.begins)
    all_met y (Below z w side met says) =
        let (s, k, is) = map_has g.tuple z used (all_met z met) in
        let says_s : rule.goal (below_on rule (targets_in d) side (g.tuple s)) ≡ Go y =
        ap (λ v. rule.goal (below_on rule (targets_in d) side v)) is ∙ says in
        elim (g.grows.sides s k side) [
          | inl (a, inl m, source, high) ↦
              let (_, target, goes) = g.grows.inner_right a m in
              let goes_s : rule.goal (below_on rule (targets_in d) side (g.tuple s))
              ≡ Go (g.tuple a.target) =
              (λ i. rule.goal (below_on rule (targets_in d) (sym high i) (g.tuple (sym source i))))
              ∙ goes in
              subst (λ v. Has v (map g.tuple used)) (go_tuple (g.tuple a.target) y (sym goes_s
              ∙ says_s)) (has_map g.tuple a.target used target)
          | inl (a, inr m, source, high) ↦
              let (value, _, _, ends_there) = g.grows.end_right a m in
              let ends_s : rule.goal (below_on rule (targets_in d) side (g.tuple s)) ≡ End value =
              (λ i. rule.goal (below_on rule (targets_in d) (sym high i) (g.tuple (sym source i))))
              ∙ ends_there in
              absurd (end_go value y (sym ends_s ∙ says_s))
          | inr (e, m, _, _) ↦ absurd m
        ]

    are_met : (y : Tuple) → Has y (map g.tuple used) → IsMet rule (targets_in d) roots y
    are_met y m = let (s, k, is) = map_has g.tuple y used m in
        subst (IsMet rule (targets_in d) roots) is (g.is_met s k)

    diagram : IsDiagramOf n root (inner ++ ends) (task_table n rule d roots)
    diagram = closed_stands n root rule (targets_in d) task.few task.is_rule inner ends used g.tuple
        g.grows roots task.asked g.goes

    inner_leads : (a : Arc) → Has a inner → Leads kind.Inner a
    inner_leads a m =
        let (_, target, _) = g.grows.inner_right a m in
        let (level, low) = g.grows.levels a.target target in
        (omega (arith, low, task.few), diagram.complete.deeper a (has_left a inner ends m))

    ends_lead : (a : Arc) → Has a ends → Leads kind.End a
    ends_lead a m = let (value, _, target, _) = g.grows.end_right a m in
        subst IsTerminal (sym target) (terminal_ends value)

    whole : IsWhole n rule d roots root inner ends
    whole = record {
      diagram = diagram;
      inner_order = g.grows.inner_order;
      end_order = g.grows.end_order;
      inner_lead = λ k e within. inner_leads _ (has_at inner k e within);
      ends_lead = λ k e within. ends_lead _ (has_at ends k e within);
      tuples = map g.tuple used;
      different = different g.tuple used g.grows.numbered g.grows.differ;
      are_met = are_met;
      all_met = all_met;
      two_each = (let two : length inner + length ends + 0 ≡ 2 * length used = g.grows.count in
          let long : length (map g.tuple used) ≡ length used = length-map used g.tuple in
          omega (arith, two, long));
    }

  pub nothing_waits : NothingWaits n rule d roots
  nothing_waits place last r inner ends m = by place.newest m.opens m.are m.made
    where
      by : (newest : Option Numbered) (opens : List Open) → [] ≡ map wait opens
          → IsMade n rule d roots place.root newest last inner ends opens
          → IsWhole n rule d roots place.root inner ends
      by None [] are made = absurd (let none : length {A = Open} [] ≡ length (made.ask ∷ []) =
          ap length made.only in omega (arith, none))
      by (Some x) [] are made = whole place.root x last inner ends made
      by newest (o ∷ os) are made =
          absurd (let none : length {A = Waiting} [] ≡ length (wait o ∷ map wait os) =
          ap length are in omega (arith, none))
