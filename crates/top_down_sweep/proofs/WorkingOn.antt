-- What remains of a task while asks are answered: one law for each kind of turn.
use Rattle.std.proofs.Common.{◌≡◌, ◌≢◌, ℕ, ◌<◌, ◌+◌, ◌/◌, ◌^◌, ◌∙◌, Bool, true, false, List, [], ◌∷◌, ◌++◌, length, refl, sym, subst, ap, inl, arith}
use Rattle.std.specs.Prelude.{suc, Option, Some, None, IfSome, map, option_map}
use Rattle.std.proofs.lemmas.Bool.{lt-ltb}
use Rattle.std.specs.List.Sorted.{IsPermutation, IsSorted}
use Rattle.std.proofs.lemmas.List.{same_from_push, append_assoc, map-append}
use Rattle.std.proofs.lemmas.List.Sorted.{IsPermutation-map, IsPermutation-trans, IsPermutation-append_left, IsPermutation-append_comm}
use Rattle.rec_words.specs.Words.{level_of, level_numbers, most_variables}
use Rattle.rec_words.specs.declared.node.Node.{Node}
use Rattle.shelf_model.specs.World.{World}
use Rattle.arc_file.specs.declared.arc.Arc.{Arc}
use Rattle.level_queue.specs.Queues as queues
use Rattle.top_down.specs.declared.tuple.Goal.{Goal}
use Rattle.top_down.specs.Asks.{side_arcs}
use Rattle.top_down_laws.specs.Forms as forms
use Rattle.top_down_laws.specs.Readings as readings
use Rattle.top_down_laws.specs.Remains as laws
use Rattle.top_down_laws.specs.Turns.{IsCounted}
use Rattle.top_down_laws.proofs.TurnCounts.{count_in_any_order, read_is_counted, read_on_is_counted, known_is_counted, new_is_counted}
use Rattle.top_down_laws.specs.Laws.{IsNext, ReadsNode, ReadsNodes, IsAskedBy, IsSound}
use Rattle.top_down_laws.proofs.StartLaws.{in_any_order}
use Rattle.top_down_laws.proofs.ReadTurns.{wanted_is_read, ask_is_read_on}
use Rattle.top_down_laws.proofs.KnownTurn.{known_is_answered}
use Rattle.top_down_laws.proofs.NewTurn.{new_is_numbered}
use Rattle.top_down_laws.proofs.SoundLaws.{asks_are_sound}
use Rattle.tuple_asks.specs.declared.ask.Ask.{Ask}
use Rattle.tuple_asks.specs.declared.place.Numbered.{Numbered}
use Rattle.tuple_asks.specs.declared.place.Asking.{Asking}
use Rattle.tuple_asks.specs.declared.place.Phase.TheVariants as phases
use Rattle.top_down_sweep.specs.declared.machine.Machine.{Machine}
use Rattle.tuple_asks.specs.Items.{ask_cmp}
use Rattle.top_down_laws.specs.Forms.{least}
use Rattle.tuple_asks.specs.Members.{want, all_filled, all_waiting, wants}
use Rattle.tuple_asks.specs.Soundness.{identifier, is_due, next_numbered}
use Rattle.top_down_sweep.specs.Meaning.{Task, form_of, waiting_of, numbered_of, place_of, Contents, StandsFor, IsLeft, IsWorking, WorksIn, WorksOn}
use Rattle.top_down_sweep.specs.Changes.{side_asks, goal_below}
use Rattle.tuple_asks.specs.Readings.{HasNext}
use Rattle.top_down_sweep.proofs.StandingOn.{asks_ascend}
use Rattle.top_down_sweep.proofs.FormsOf.{SameHands, row_wants, form_wants, form_next, form_again, form_goal, side_waiting, form_numbered, first_next}

-- asks are answered in that phase
pub works_at : (t : Task) (m : Machine) (s : Asking) (world : World)
    → m.place.phase ≡ phases.Asking s → IsWorking t s m world → WorksOn t m world
works_at t m s world is working = subst (λ p. WorksIn t p m world) (sym is) working

-- the nodes at hand
same_hands : (m : Machine) (world : World) (k : Contents) → StandsFor m world k
    → SameHands m.operands k.readings
same_hands m world k stands = record {
  first = stands.read.first.hand_is;
  second = stands.read.second.hand_is;
  third = stands.read.third.hand_is;
}

-- what the counts of turns are of these lists
abbrev pub Counted : Task → ℕ → Option laws.Numbered → readings.Readings → List forms.Waiting
    → List Arc → List Arc → Type 0
Counted t turns newest r waiting inner ends = IsCounted t.diagrams turns newest r waiting inner ends

abbrev pub CountedAt : Task → Asking → Contents → ℕ → Type 0
CountedAt t s k turns = Counted t turns (option_map numbered_of s.last) k.readings
    (map waiting_of k.asks) k.inner k.ends

-- one turn more is counted
abbrev pub StepsTo : Task → Asking → Contents → Asking → Contents → Type 0
StepsTo t s k after then = (turns : ℕ) → CountedAt t s k turns → CountedAt t after then (suc turns)

-- what remains after a turn, which is counted
abbrev pub LeftAfter : Task → Asking → Contents → Asking → Option Ask → Contents → Type 0
LeftAfter t s k after last then = IsLeft t after last then × StepsTo t s k after then

-- two parts of a list change places
fronts_swap : {X : Type 0} (xs ys zs : List X) → IsPermutation (xs ++ (ys ++ zs)) (ys ++ (xs ++ zs))
fronts_swap xs ys zs = subst (λ v. v) (λ i. IsPermutation (append_assoc xs ys zs i)
    (append_assoc ys xs zs i))
    (IsPermutation-append_left zs (xs ++ ys) (ys ++ xs) (IsPermutation-append_comm xs ys))

module _ (t : Task) (s : Asking) (m : Machine) (a : Ask) (world : World) (k : Contents)
    (rest : List Ask) (first_is : k.asks ≡ a ∷ rest) (stands : StandsFor m world k)
    (left : IsLeft t s (queues.last_of m.queue) k) where
  abbrev last : Option forms.Waiting
  last = option_map waiting_of (queues.last_of m.queue)

  hands : SameHands m.operands k.readings
  hands = same_hands m world k stands

  abbrev placed : laws.Place
  placed = place_of s

  -- the first ask comes before the others
  next : IsNext (waiting_of a) (map waiting_of rest)
  next = first_next a rest (subst (IsSorted ask_cmp) first_is (asks_ascend m.queue world k.asks stands.asks_are))

  first_left : laws.Remains t.n t.rule t.diagrams t.roots placed (waiting_of a ∷ map waiting_of rest)
      last k.readings k.inner k.ends
  first_left = subst (λ (xs : List Ask). laws.Remains t.n t.rule t.diagrams t.roots placed
      (map waiting_of xs) last k.readings k.inner k.ends) first_is left

  -- what remains with such lists after a turn, which is counted
  abbrev After : laws.Place → List forms.Waiting → Option forms.Waiting → readings.Readings
      → List Arc → List Arc → Type 0
  After place waiting newly r inner ends =
      laws.Remains t.n t.rule t.diagrams t.roots place waiting newly r inner ends
      × ((turns : ℕ) → CountedAt t s k turns → Counted t (suc turns) place.newest r waiting inner ends)

  first_counted : (turns : ℕ) → CountedAt t s k turns → Counted t turns placed.newest k.readings
      (waiting_of a ∷ map waiting_of rest) k.inner k.ends
  first_counted turns counted = subst (λ (xs : List Ask). Counted t turns placed.newest k.readings
      (map waiting_of xs) k.inner k.ends) first_is counted

  reordered : (place : laws.Place) (waiting others : List forms.Waiting)
      (newly : Option forms.Waiting) (r : readings.Readings) (inner ends : List Arc)
      → IsPermutation waiting others → After place waiting newly r inner ends
      → After place others newly r inner ends
  reordered place waiting others newly r inner ends perm (remains, steps) = (
    in_any_order t.n t.rule t.diagrams t.roots t.is_task place waiting others newly r inner ends
        perm remains,
    λ turns counted. count_in_any_order t.diagrams (suc turns) place.newest r waiting others inner
        ends perm (steps turns counted),
  )

  -- it isn't the one that was taken last
  pub not_last : queues.last_of m.queue ≡ Some a → ⊥
  not_last is =
      let sound = asks_are_sound t.n t.rule t.diagrams t.roots t.is_task placed
      (waiting_of a ∷ map waiting_of rest) last k.readings k.inner k.ends first_left (waiting_of a)
      (inl refl) in
      subst (λ o. IfSome (option_map waiting_of o) (λ l. l ≢ waiting_of a)) is sound.other refl

  -- and it may come then: once a tuple has a number, a node asks
  pub always_due : is_due s.last a ≡ false → ⊥
  always_due undue = by s.last sound.asker undue
    where
      sound : IsSound placed.newest last (waiting_of a)
      sound = asks_are_sound t.n t.rule t.diagrams t.roots t.is_task placed
          (waiting_of a ∷ map waiting_of rest) last k.readings k.inner k.ends first_left (waiting_of a)
          (inl refl)

      by : (x : Option Numbered) → IsAskedBy (option_map numbered_of x) (waiting_of a)
          → is_due x a ≡ false → ⊥
      by None asked undue = (let no : true ≡ false = undue in absurd (cc))
      by (Some x) asked undue =
          let node : level_of (a.asker / 2) < most_variables = omega (arith, asked, sound.key_is) in
          let no : true ≡ false = sym (lt-ltb _ _ node) ∙ undue in
          absurd (cc)

  -- what it wants can be read
  reads : ReadsNodes t.n t.rule t.diagrams t.roots placed (waiting_of a) (map waiting_of rest) last
      k.readings k.inner k.ends
  reads = wanted_is_read t.n t.rule t.diagrams t.roots t.is_task placed (waiting_of a)
      (map waiting_of rest) last k.readings k.inner k.ends first_left next

  -- what remains where the operands were read so far
  abbrev WithRead : readings.Readings → Type 0
  WithRead r = laws.Remains t.n t.rule t.diagrams t.roots placed
      (waiting_of a ∷ map waiting_of rest) last r k.inner k.ends

  is_left : (r : readings.Readings) → WithRead r
      → IsLeft t s (queues.last_of m.queue) (record k { readings = r })
  is_left r with_read = subst (λ (xs : List Ask). laws.Remains t.n t.rule t.diagrams t.roots placed
      (map waiting_of xs) last r k.inner k.ends) (sym first_is) with_read

  has_next : (wanted : Bool) (r : readings.Reading) (Then : readings.Reading → Type 0)
      → wanted ≡ true → ReadsNode wanted r a.key Then → HasNext a.key r
  has_next wanted r Then is read =
      let (x, unread, are, upto, then) = read is in
      record { node = x; unread = unread; are = are; upto = upto }

  then_read : (wanted : Bool) (r : readings.Reading) (Then : readings.Reading → Type 0)
      → wanted ≡ true → ReadsNode wanted r a.key Then → (x : Node) (unread : List Node)
      → r.unread ≡ unread ++ x ∷ [] → Then (record { hand = Some x; unread = unread })
  then_read wanted r Then is read x unread mine =
      let (y, others, are, upto, then) = read is in
      let same = same_from_push unread others x y (sym mine ∙ are) in
      subst (λ v. v) (λ i. Then (record { hand = Some (sym same.1 i); unread = sym same.0 i })) then

  module _ (asked : wants a.key m.operands.first.hand a.members.first ≡ true) where
    pub first_has_next : HasNext a.key k.readings.first
    first_has_next = has_next _ k.readings.first (λ now. WithRead (readings.with_first k.readings now))
        (row_wants a.key _ _ a.members.first hands.first ∙ asked) reads.first

    pub first_read_left : (x : Node) (unread : List Node)
        → k.readings.first.unread ≡ unread ++ x ∷ [] → LeftAfter t s k s (queues.last_of m.queue)
        (record k {
          readings = readings.with_first k.readings
              (record { hand = Some x; unread = unread });
        })
    first_read_left x unread mine = (
      is_left (readings.with_first k.readings (record { hand = Some x; unread = unread }))
          (then_read _ k.readings.first (λ now. WithRead (readings.with_first k.readings now))
          (row_wants a.key _ _ a.members.first hands.first ∙ asked) reads.first x unread mine),
      λ turns counted. (read_is_counted t.diagrams turns placed.newest k.readings
          (map waiting_of k.asks) k.inner k.ends x unread counted).first mine,
    )

  module _ (asked : wants a.key m.operands.second.hand a.members.second ≡ true) where
    pub second_has_next : HasNext a.key k.readings.second
    second_has_next = has_next _ k.readings.second (λ now. WithRead (readings.with_second k.readings now))
        (row_wants a.key _ _ a.members.second hands.second ∙ asked) reads.second

    pub second_read_left : (x : Node) (unread : List Node)
        → k.readings.second.unread ≡ unread ++ x ∷ [] → LeftAfter t s k s (queues.last_of m.queue)
        (record k {
          readings = readings.with_second k.readings
              (record { hand = Some x; unread = unread });
        })
    second_read_left x unread mine = (
      is_left (readings.with_second k.readings (record { hand = Some x; unread = unread }))
          (then_read _ k.readings.second (λ now. WithRead (readings.with_second k.readings now))
          (row_wants a.key _ _ a.members.second hands.second ∙ asked) reads.second x unread mine),
      λ turns counted. (read_is_counted t.diagrams turns placed.newest k.readings
          (map waiting_of k.asks) k.inner k.ends x unread counted).second mine,
    )

  module _ (asked : wants a.key m.operands.third.hand a.members.third ≡ true) where
    pub third_has_next : HasNext a.key k.readings.third
    third_has_next = has_next _ k.readings.third (λ now. WithRead (readings.with_third k.readings now))
        (row_wants a.key _ _ a.members.third hands.third ∙ asked) reads.third

    pub third_read_left : (x : Node) (unread : List Node)
        → k.readings.third.unread ≡ unread ++ x ∷ [] → LeftAfter t s k s (queues.last_of m.queue)
        (record k {
          readings = readings.with_third k.readings
              (record { hand = Some x; unread = unread });
        })
    third_read_left x unread mine = (
      is_left (readings.with_third k.readings (record { hand = Some x; unread = unread }))
          (then_read _ k.readings.third (λ now. WithRead (readings.with_third k.readings now))
          (row_wants a.key _ _ a.members.third hands.third ∙ asked) reads.third x unread mine),
      λ turns counted. (read_is_counted t.diagrams turns placed.newest k.readings
          (map waiting_of k.asks) k.inner k.ends x unread counted).third mine,
    )

  -- it is read on
  pub again_left : (key : ℕ) (asks : List Ask) → want m.operands a ≡ false
      → key ≡ least (all_waiting (level_of a.key) (all_filled m.operands a)) → key < 2 ^ 63
      → IsPermutation (record { key = key; members = all_filled m.operands a; asker = a.asker }
      ∷ rest) asks → LeftAfter t s k s (Some a) (record k { asks = asks })
  again_left key asks none is below perm =
      let b : Ask = record { key = key; members = all_filled m.operands a; asker = a.asker } in
      let wants_none : readings.want k.readings (form_of a.key a.members) ≡ false =
      form_wants m.operands k.readings a hands ∙ none in
      let fits : forms.next_key (readings.filled_form k.readings (form_of a.key a.members)) < 2 ^ 63 =
      subst (λ w. w < 2 ^ 63) (is ∙ sym (form_next m.operands k.readings a hands)) below in
      let on : After placed (readings.asked_on k.readings (waiting_of a) ∷ map waiting_of rest)
      (Some (waiting_of a)) k.readings k.inner k.ends = (
        ask_is_read_on t.n t.rule t.diagrams t.roots t.is_task placed (waiting_of a)
            (map waiting_of rest) last k.readings k.inner k.ends first_left next wants_none fits,
        λ turns counted. read_on_is_counted t.n t.rule t.diagrams t.roots t.is_task turns placed
            (waiting_of a) (map waiting_of rest) last k.readings k.inner k.ends first_left
            wants_none fits (first_counted turns counted),
      ) in
      reordered placed (map waiting_of (b ∷ rest)) (map waiting_of asks) (Some (waiting_of a))
      k.readings k.inner k.ends (IsPermutation-map waiting_of (b ∷ rest) asks perm)
      (subst (λ w. After placed (w ∷ map waiting_of rest) (Some (waiting_of a)) k.readings k.inner
      k.ends) (form_again m.operands k.readings a key hands is) on)

  -- it is answered by a known number
  pub known_left : (x : Numbered) → s.last ≡ Some x
      → form_of x.key x.members ≡ form_of a.key a.members → LeftAfter t s k s (Some a)
      (record k { asks = rest; inner = k.inner ++ laws.answer_arcs a.asker (identifier x) })
  known_left x is same =
      let here : laws.Remains t.n t.rule t.diagrams t.roots
      (laws.at_place s.root (Some (numbered_of x))) (waiting_of a ∷ map waiting_of rest) last
      k.readings k.inner k.ends =
      subst (λ o. laws.Remains t.n t.rule t.diagrams t.roots
      (laws.at_place s.root (option_map numbered_of o)) (waiting_of a ∷ map waiting_of rest) last
      k.readings k.inner k.ends) is first_left in
      let known : After (laws.at_place s.root (Some (numbered_of x))) (map waiting_of rest)
      (Some (waiting_of a)) k.readings (k.inner ++ laws.answer_arcs a.asker (identifier x)) k.ends = (
        known_is_answered t.n t.rule t.diagrams t.roots t.is_task s.root (numbered_of x)
            (waiting_of a) (map waiting_of rest) last k.readings k.inner k.ends here next same,
        λ turns counted. known_is_counted t.n t.rule t.diagrams t.roots t.is_task turns s.root
            (numbered_of x) (waiting_of a) (map waiting_of rest) last k.readings k.inner k.ends here
            (subst (λ o. Counted t turns (option_map numbered_of o) k.readings
            (waiting_of a ∷ map waiting_of rest) k.inner k.ends) is (first_counted turns counted)),
      ) in
      subst (λ o. After (laws.at_place s.root (option_map numbered_of o)) (map waiting_of rest)
      (Some (waiting_of a)) k.readings (k.inner ++ laws.answer_arcs a.asker (identifier x)) k.ends)
      (sym is) known

  -- its tuple gets a number
  abbrev uid : ℕ
  uid = identifier (next_numbered s a)

  abbrev goal_of : Bool → Goal
  goal_of side = goal_below t.rule (level_of a.key) side (all_filled m.operands a)

  -- what remains then, with such a number and such goals of both sides
  abbrev NumberedLeft : laws.Numbered → Goal → Goal → Type 0
  NumberedLeft x low high = After (laws.at_place s.root (Some x)) (laws.side_waits (laws.identifier x) false low
      ++ (laws.side_waits (laws.identifier x) true high ++ map waiting_of rest))
      (Some (waiting_of a)) k.readings
      (k.inner ++ laws.answer_arcs a.asker (laws.identifier x))
      (k.ends ++ (side_arcs (laws.identifier x) false low
      ++ side_arcs (laws.identifier x) true high))

  pub new_left : (asks : List Ask) → want m.operands a ≡ false
      → (least (all_waiting (level_of a.key) (all_filled m.operands a)) < 2 ^ 63 → ⊥)
      → IfSome (option_map numbered_of s.last) (λ x. x.form ≡ form_of a.key a.members → ⊥)
      → length k.inner + 1 < level_numbers
      → IsPermutation (side_asks uid true (goal_of true)
      ++ (side_asks uid false (goal_of false) ++ rest)) asks
      → LeftAfter t s k (record { root = s.root; last = Some (next_numbered s a) }) (Some a)
      (record k {
        asks = asks;
        inner = k.inner ++ laws.answer_arcs a.asker uid;
        ends = (k.ends ++ side_arcs uid false (goal_of false)) ++ side_arcs uid true (goal_of true);
      })
  new_left asks none resolved other few perm =
      let low = side_asks uid false (goal_of false) in
      let high = side_asks uid true (goal_of true) in
      let made : NumberedLeft
      (laws.next_numbered (option_map numbered_of s.last) (form_of a.key a.members))
      (laws.goal_on t.rule k.readings (form_of a.key a.members) false)
      (laws.goal_on t.rule k.readings (form_of a.key a.members) true) = (
        new_is_numbered t.n t.rule t.diagrams t.roots t.is_task placed (waiting_of a)
            (map waiting_of rest) last k.readings k.inner k.ends first_left next
            (form_wants m.operands k.readings a hands ∙ none)
            (λ below. resolved (subst (λ w. w < 2 ^ 63) (form_next m.operands k.readings a hands)
            below)) other few,
        λ turns counted. new_is_counted t.n t.rule t.diagrams t.roots t.is_task turns placed
            (waiting_of a) (map waiting_of rest) last k.readings k.inner k.ends first_left
            (first_counted turns counted),
      ) in
      let mine : NumberedLeft (numbered_of (next_numbered s a)) (goal_of false) (goal_of true) =
      subst (λ v. v) (λ i. NumberedLeft (sym (form_numbered s a) i)
      (form_goal m.operands k.readings t.rule a false hands i)
      (form_goal m.operands k.readings t.rule a true hands i)) made in
      let waits : laws.side_waits uid false (goal_of false)
      ++ (laws.side_waits uid true (goal_of true) ++ map waiting_of rest)
      ≡ map waiting_of (low ++ (high ++ rest)) =
      (λ i. sym (side_waiting uid false (goal_of false)) i
      ++ (sym (side_waiting uid true (goal_of true)) i ++ map waiting_of rest))
      ∙ ap (λ xs. map waiting_of low ++ xs) (sym (map-append waiting_of high rest))
      ∙ sym (map-append waiting_of low (high ++ rest)) in
      reordered (laws.at_place s.root (Some (numbered_of (next_numbered s a))))
      (map waiting_of (low ++ (high ++ rest))) (map waiting_of asks) (Some (waiting_of a))
      k.readings (k.inner ++ laws.answer_arcs a.asker uid)
      ((k.ends ++ side_arcs uid false (goal_of false)) ++ side_arcs uid true (goal_of true))
      (IsPermutation-map waiting_of (low ++ (high ++ rest)) asks
      (IsPermutation-trans (low ++ (high ++ rest)) (high ++ (low ++ rest)) asks
      (fronts_swap low high rest) perm))
      (subst (λ v. v) (λ i. After (laws.at_place s.root (Some (numbered_of (next_numbered s a))))
      (waits i) (Some (waiting_of a)) k.readings (k.inner ++ laws.answer_arcs a.asker uid)
      (sym (append_assoc k.ends (side_arcs uid false (goal_of false))
      (side_arcs uid true (goal_of true))) i)) mine)
