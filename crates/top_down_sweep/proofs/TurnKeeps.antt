-- What each kind of turn leaves of a task.
use Rattle.std.proofs.Common.{◌≡◌, ℕ, ◌<◌, ◌≤◌, ◌+◌, ◌/◌, ◌%◌, ◌^◌, ◌∙◌, Bool, true, false, cond, List, [], ◌∷◌, ◌++◌, length, refl, sym, subst, ap, arith}
use Rattle.std.specs.Prelude.{Some, None, map, option_map, nat_lt, ◌==◌, Result, Ok, Err, IfOk, OnOk, IsErrAnd}
use Rattle.std.specs.List.Sorted.{IsPermutation}
use Rattle.std.proofs.lemmas.Bool.Decides.{nat_tests}
use Rattle.std.proofs.lemmas.List.{append-nil}
use Rattle.std.proofs.lemmas.List.Sorted.{length_permutation, IsPermutation-refl, IsPermutation-map, IsPermutation-trans, IsPermutation-append_right}
use Rattle.rec_words.specs.Words.{level_of, level_numbers, terminal, most_variables, node_word}
use Rattle.shelf_model.specs.World.{World}
use Rattle.arc_file.specs.declared.arc.Arc.{Arc}
use Rattle.arc_file.specs.declared.unreduced.Unreduced.{Unreduced}
use Rattle.arc_file.specs.Files.{inner_arcs, end_arcs}
use Rattle.arc_diagrams.specs.Laws.{IsDiagramOf}
use Rattle.level_queue.specs.Queues as queues
use Rattle.top_down.specs.declared.tuple.Tuple.{Tuple}
use Rattle.top_down.specs.declared.tuple.Goal.{Goal}
use Rattle.top_down.specs.declared.tuple.Goal.TheVariants.{End, Go}
use Rattle.top_down.specs.Asks.{side_arcs}
use Rattle.top_down.specs.Tuples.{level_of_tuple}
use Rattle.top_down_laws.specs.Forms as forms
use Rattle.top_down_laws.specs.Remains as laws
use Rattle.top_down_laws.specs.Laws.{IsWhole, unread_all, task_table}
use Rattle.top_down_laws.proofs.StartLaws.{constant_ends, root_is_asked, in_any_order}
use Rattle.top_down_laws.proofs.EndLaws.{nothing_waits}
use Rattle.tuple_asks.specs.declared.ask.Members.{Members}
use Rattle.tuple_asks.specs.declared.ask.Ask.{Ask}
use Rattle.tuple_asks.specs.declared.place.Asking.{Asking}
use Rattle.tuple_asks.specs.declared.place.Phase.{Phase}
use Rattle.tuple_asks.specs.declared.place.Phase.TheVariants as phases
use Rattle.top_down_sweep.specs.declared.machine.Machine.{Machine}
use Rattle.top_down.specs.Rules.{Rule}
use Rattle.top_down_laws.specs.Forms.{least}
use Rattle.tuple_asks.specs.Members.{want, all_filled, all_waiting, on_side}
use Rattle.tuple_asks.specs.Soundness.{identifier, next_numbered, known}
use Rattle.top_down_sweep.specs.Meaning.{Task, waiting_of, Contents, StandsFor, IsLeft, IsWorking, IsHandling, IsFresh, first_contents, AreFilesOf, IsDone, RemainsIn, RemainsOf, WorksIn, WorksOn, IsMadeWhere}
use Rattle.top_down_sweep.specs.Changes.{ShowsAsk, JoinAsks, AsksInstead, ServesSide, side_asks, goal_below, ask_for}
use Rattle.top_down_sweep.specs.Sweeps.{made_at}
use Rattle.top_down_sweep.proofs.FormsOf.{IsKnown, is_unknown}
use Rattle.shelf_model.specs.declared.sort_fault.SortFault.{SortFault}
use Rattle.sweep_core.specs.declared.turn.Turn.{Turn}
use Rattle.sweep_core.specs.declared.turn.Turn.TheVariants as turns
use Rattle.sweep_core.specs.Sweeps.{MovesOn}
use Rattle.top_down_sweep.specs.Turns.{left_at, turns_left, HasFewer, Advances, AdvancesAt, TurnsFall}
use Rattle.top_down_sweep.proofs.TurnNumbers.{fewer_left, same_left, first_left}
use Rattle.top_down_sweep.proofs.WorkingOn.{StepsTo, LeftAfter, works_at, again_left, known_left, new_left}
use Rattle.top_down_sweep.proofs.Numbers.{arcs_and_one}

-- where asks are answered, that is what remains
pub works_remain : (t : Task) (begins : Tuple → Tuple) (p : Phase) (m : Machine) (world : World)
    → WorksIn t p m world → RemainsIn t begins p m world
works_remain t begins phases.Fresh m world works = absurd works
works_remain t begins (phases.Asking s) m world works = works
works_remain t begins (phases.Ended made) m world works = absurd works

-- the first ask was shown
pub handling : (t : Task) (s : Asking) (a : Ask) (m q : Machine) (old new : World)
    (h : IsWorking t s m old) → queues.last_of q.queue ≡ queues.last_of m.queue
    → ShowsAsk q new h.contents (Some a) → IsHandling t s a q new
handling t s a m q old new h last shows = record {
  contents = h.contents;
  rest = shows.0;
  first_is = shows.1;
  stands = shows.2;
  left = subst (λ o. IsLeft t s o h.contents) (sym last) h.left;
}

-- an arc that answers an ask goes to the arcs to nodes
pub answered : (P : List Arc → List Arc → Type 0) (xs ys : List Arc) (asker target : ℕ) (a : Arc)
    → level_of (asker / 2) < most_variables → target < 2 ^ 63
    → a ≡ record { source = asker / 2; high = asker % 2 == 1; target = target }
    → P (xs ++ inner_arcs (a ∷ [])) (ys ++ end_arcs (a ∷ []))
    → P (xs ++ laws.answer_arcs asker target) ys
answered P xs ys asker target a node fits is holds =
    let there : nat_lt (level_of (asker / 2)) most_variables ≡ true = grind (arith, nat_tests) in
    let leads : a.target < 2 ^ 63 = subst (λ w. w < 2 ^ 63) (sym (ap (λ (x : Arc). x.target) is))
    fits in
    let inner : inner_arcs (a ∷ []) ≡ a ∷ [] = grind (arith, nat_tests) in
    let ends : end_arcs (a ∷ []) ≡ [] = grind (arith, nat_tests) in
    let mine : inner_arcs (a ∷ []) ≡ laws.answer_arcs asker target = inner
    ∙ ap (λ (x : Arc). x ∷ []) is
    ∙ sym (ap (λ b. cond b (laws.arc_from asker target ∷ []) []) there) in
    subst (λ v. v) (λ i. P (xs ++ mine i) ((ap (λ zs. ys ++ zs) ends ∙ append-nil ys) i)) holds

-- the root's ask has none
pub unasked : (P : List Arc → Type 0) (xs : List Arc) (asker target : ℕ)
    → (level_of (asker / 2) < most_variables → ⊥) → P xs → P (xs ++ laws.answer_arcs asker target)
unasked P xs asker target none holds =
    let there : nat_lt (level_of (asker / 2)) most_variables ≡ false = grind (arith, nat_tests) in
    let mine : laws.answer_arcs asker target ≡ [] =
    ap (λ b. cond b (laws.arc_from asker target ∷ []) []) there in
    subst P (sym (ap (λ zs. xs ++ zs) mine ∙ append-nil xs)) holds

-- what the rule makes of the tuple on a side
pub goal_from : (rule : Rule) (level node : ℕ) (side : Bool) (lows highs below : Tuple) (members : Members)
    (found goal : Goal) → level ≡ level_of node → lows ≡ on_side false members → highs ≡ on_side true members
    → below ≡ rule.below level side lows highs → found ≡ rule.goal below → found ≡ goal
    → goal_below rule (level_of node) side members ≡ goal
goal_from rule level node side lows highs below members found goal level_is low high below_is found_is is =
    (λ i. rule.goal (rule.below (sym level_is i) side (sym low i) (sym high i)))
    ∙ ap rule.goal (sym below_is) ∙ sym found_is ∙ is

-- a side that is constant has its arc
abbrev value_arc : ℕ → Bool → Bool → Arc
value_arc s side v = record { source = s; high = side; target = terminal v }

pub valued : (P : List Arc → List Arc → Type 0) (xs ys : List Arc) (s : ℕ) (side value : Bool)
    (goal : Goal) → goal ≡ End value → (a : Arc)
    → a ≡ record { source = s; high = side; target = terminal value }
    → P (xs ++ inner_arcs (a ∷ [])) (ys ++ end_arcs (a ∷ [])) → P xs (ys ++ side_arcs s side goal)
valued P xs ys s side value goal is a arc_is holds =
    subst (λ g. P xs (ys ++ side_arcs s side g)) (sym is)
    (subst (λ v. v) (λ i. P ((ap (λ (x : Arc). xs ++ inner_arcs (x ∷ [])) arc_is
    ∙ ap (λ zs. xs ++ zs) (none value) ∙ append-nil xs) i)
    ((ap (λ (x : Arc). ys ++ end_arcs (x ∷ [])) arc_is ∙ ap (λ zs. ys ++ zs) (one value)) i)) holds)
  where
    none : (v : Bool) → inner_arcs (value_arc s side v ∷ []) ≡ []
    none true = refl
    none false = refl

    one : (v : Bool) → end_arcs (value_arc s side v ∷ []) ≡ value_arc s side v ∷ []
    one true = refl
    one false = refl

pub serves_end : (m : Machine) (world : World) (k : Contents) (s : ℕ) (side value : Bool)
    (goal : Goal) → goal ≡ End value → (a : Arc)
    → a ≡ record { source = s; high = side; target = terminal value }
    → StandsFor m world (record k {
      inner = k.inner ++ inner_arcs (a ∷ []);
      ends = k.ends ++ end_arcs (a ∷ []);
    }) → ServesSide m world k s side goal
serves_end m world k s side value goal is a arc_is stands =
    subst (ServesSide m world k s side) (sym is) (
      k.asks,
      IsPermutation-refl k.asks,
      valued (λ xs ys. StandsFor m world (record k { inner = xs; ends = ys })) k.inner k.ends s
          side value (End value) refl a arc_is stands,
    )

-- and for any other side an ask waits
pub serves_go : (m : Machine) (world : World) (k : Contents) (s : ℕ) (side : Bool) (x : Tuple)
    (goal : Goal) → goal ≡ Go x → JoinAsks m world k (side_asks s side (Go x))
    → ServesSide m world k s side goal
serves_go m world k s side x goal is joined = subst (ServesSide m world k s side) (sym is) (
  joined.0,
  joined.1,
  subst (λ (xs : List Arc). StandsFor m world (record k { asks = joined.0; ends = xs }))
      (sym (append-nil k.ends)) joined.2,
)

module _ (t : Task) (s : Asking) (a : Ask) (m q : Machine) (old new : World)
    (h : IsHandling t s a m old) where
  abbrev k : Contents
  k = h.contents

  -- the machine works on after a turn that is counted
  advances : (after : Asking) (working : IsWorking t after q new)
      → StepsTo t s k after working.contents → q.place.phase ≡ phases.Asking after
      → Advances t s m old q new
  advances after working steps phase = (
    works_at t q after new phase working,
    subst (λ p. HasFewer t (phases.Asking s) m old p q new) (sym phase)
        (fewer_left t s after m q old new k (queues.last_of m.queue) h.stands h.left working steps),
  )

  -- the ask was read on
  pub again_works : (key : ℕ) (members : Members) → want m.operands a ≡ false
      → members ≡ all_filled m.operands a → key ≡ least (all_waiting (level_of a.key) members)
      → key < 2 ^ 63 → queues.last_of q.queue ≡ Some a → q.place.phase ≡ phases.Asking s
      → AsksInstead q new k a (record { key = key; members = members; asker = a.asker })
      → Advances t s m old q new
  again_works key members none filled is below last phase (rest, first_is, (asks, perm, stands)) =
      let left = again_left t s m a old k rest first_is h.stands h.left key asks none
      (is ∙ ap (λ ms. least (all_waiting (level_of a.key) ms)) filled) below
      (subst (λ (ms : Members). IsPermutation
      (record { key = key; members = ms; asker = a.asker } ∷ rest) asks) filled perm) in
      advances s (record {
        contents = record k { asks = asks };
        stands = stands;
        left = subst (λ o. IsLeft t s o (record k { asks = asks })) (sym last) left.0;
      }) left.1 phase

  -- it was answered by a known number
  pub known_works : (uid : ℕ) (rest : List Ask) → IsKnown s.last a uid → k.asks ≡ a ∷ rest
      → queues.last_of q.queue ≡ Some a → q.place.phase ≡ phases.Asking s
      → StandsFor q new (record k {
        asks = rest;
        inner = k.inner ++ laws.answer_arcs a.asker uid;
      }) → Advances t s m old q new
  known_works uid rest known first_is last phase stands =
      let then : Contents = record k {
        asks = rest;
        inner = k.inner ++ laws.answer_arcs a.asker uid;
      } in
      let left : LeftAfter t s k s (Some a) then =
      subst (λ w. LeftAfter t s k s (Some a) (record k {
        asks = rest;
        inner = k.inner ++ laws.answer_arcs a.asker w;
      })) (sym known.uid_is) (known_left t s m a old k rest first_is h.stands h.left
      known.numbered known.last_is known.form_is) in
      advances s (record {
        contents = then;
        stands = stands;
        left = subst (λ o. IsLeft t s o then) (sym last) left.0;
      }) left.1 phase

  -- its tuple got a number
  pub new_works : (uid : ℕ) (goal : Bool → Goal) (rest asks_low asks : List Ask)
      → want m.operands a ≡ false
      → (least (all_waiting (level_of a.key) (all_filled m.operands a)) < 2 ^ 63 → ⊥)
      → known s.last a ≡ None → uid ≡ identifier (next_numbered s a)
      → ((side : Bool)
      → goal side ≡ goal_below t.rule (level_of a.key) side (all_filled m.operands a))
      → k.asks ≡ a ∷ rest → IsPermutation (side_asks uid false (goal false) ++ rest) asks_low
      → IsPermutation (side_asks uid true (goal true) ++ asks_low) asks
      → queues.last_of q.queue ≡ Some a
      → q.place.phase
      ≡ phases.Asking (record { root = s.root; last = Some (next_numbered s a) })
      → StandsFor q new (record k {
        asks = asks;
        inner = k.inner ++ laws.answer_arcs a.asker uid;
        ends = (k.ends ++ side_arcs uid false (goal false)) ++ side_arcs uid true (goal true);
      }) → Advances t s m old q new
  new_works uid goal rest asks_low asks none resolved unknown uid_is goal_is first_is low high last
      phase stands =
      let after : Asking = record { root = s.root; last = Some (next_numbered s a) } in
      let both : IsPermutation (side_asks uid true (goal true)
      ++ (side_asks uid false (goal false) ++ rest)) asks =
      IsPermutation-trans _ _ asks
      (IsPermutation-append_right (side_asks uid true (goal true)) _ asks_low low) high in
      let few : length k.inner + 1 < level_numbers =
      (let fits = arcs_and_one m.writer in let many = h.stands.written.inner_many in
      omega (arith, fits, many)) in
      let left = new_left t s m a old k rest first_is h.stands h.left asks none resolved
      (is_unknown s.last a unknown) few
      (subst (λ v. v) (λ i. IsPermutation (side_asks (uid_is i) true (goal_is true i)
      ++ (side_asks (uid_is i) false (goal_is false i) ++ rest)) asks) both) in
      let then : Contents = record k {
        asks = asks;
        inner = k.inner ++ laws.answer_arcs a.asker uid;
        ends = (k.ends ++ side_arcs uid false (goal false)) ++ side_arcs uid true (goal true);
      } in
      let mine : LeftAfter t s k after (Some a) then =
      subst (λ v. v) (λ i. LeftAfter t s k after (Some a) (record k {
        asks = asks;
        inner = k.inner ++ laws.answer_arcs a.asker (sym uid_is i);
        ends = (k.ends ++ side_arcs (sym uid_is i) false (sym (goal_is false) i))
            ++ side_arcs (sym uid_is i) true (sym (goal_is true) i);
      })) left in
      advances after (record {
        contents = then;
        stands = stands;
        left = subst (λ o. IsLeft t after o then) (sym last) mine.0;
      }) mine.1 phase

-- the sweep ended
made_remains : (t : Task) (begins : Tuple → Tuple) (q : Machine) (new : World) (made : Unreduced)
    → q.place.phase ≡ phases.Ended made → IsDone t q new made → RemainsOf t begins q new
made_remains t begins q new made is done = subst (λ p. RemainsIn t begins p q new) (sym is) done

pub ended_remains : (t : Task) (begins : Tuple → Tuple) (s : Asking) (m n q : Machine)
    (old mid new : World) (made : Unreduced) (h : IsWorking t s m old)
    → ShowsAsk n mid h.contents None → made.root ≡ s.root → q.place.phase ≡ phases.Ended made
    → q.place.has_one ≡ n.place.has_one
    → ((k : Contents) → StandsFor n mid k → AreFilesOf made new k.inner k.ends)
    → RemainsOf t begins q new
ended_remains t begins s m n q old mid new made h (none, stands) root phase one files =
    let k = h.contents in
    let whole = nothing_waits t.n t.rule t.diagrams t.roots t.is_task
    (laws.at_place s.root _) (option_map waiting_of (queues.last_of m.queue)) k.readings k.inner
    k.ends (subst (λ (xs : List Ask). IsLeft t s (queues.last_of m.queue) (record k { asks = xs }))
    none h.left) in
    made_remains t begins q new made phase (record {
      made_of = record {
        inner = k.inner;
        ends = k.ends;
        whole = subst (λ r. IsWhole t.n t.rule t.diagrams t.roots r k.inner k.ends) (sym root) whole;
        files = files k stands;
      };
      one_is = one ∙ stands.one_is;
    })

-- no tuple is met where the roots' is constant
none_met : (t : Task) (targets : _) (value : Bool) → t.rule.goal t.roots ≡ End value → (x : Tuple)
    → laws.IsMet t.rule targets t.roots x → ⊥
none_met t targets value is x (laws.AtRoot y goes) = (let no : End value ≡ Go y = sym is ∙ goes in absurd (cc))
none_met t targets value is x (laws.Below y z side met goes) = none_met t targets value is y met

pub constant_remains : (t : Task) (begins : Tuple → Tuple) (m q : Machine) (old new : World)
    (value : Bool) (made : Unreduced) → IsFresh t begins m old → t.rule.goal t.roots ≡ End value
    → made.root ≡ terminal value → q.place.phase ≡ phases.Ended made → q.place.has_one ≡ m.place.has_one
    → ((k : Contents) → StandsFor m old k → AreFilesOf made new k.inner k.ends)
    → RemainsOf t begins q new
constant_remains t begins m q old new value made fresh is root phase one files =
    made_remains t begins q new made phase (record {
      made_of = record {
        inner = [];
        ends = [];
        whole = record {
          diagram = subst (λ r. IsDiagramOf t.n r [] (task_table t.n t.rule t.diagrams t.roots)) (sym root)
              (constant_ends t.n t.rule t.diagrams t.roots t.is_task value is);
          inner_order = λ k d from within. absurd (omega (arith, within));
          end_order = λ k d from within. absurd (omega (arith, within));
          inner_lead = λ k d within. absurd (omega (arith, within));
          ends_lead = λ k d within. absurd (omega (arith, within));
          tuples = [];
          different = tt;
          are_met = λ x has. absurd has;
          all_met = λ x met. absurd (none_met t _ value is x met);
          two_each = refl;
        };
        files = files (first_contents t) fresh.stands;
      };
      one_is = one ∙ fresh.stands.one_is;
    })

-- the root was asked for
pub asked_works : (t : Task) (m q : Machine) (old new : World) (x : Tuple) (key root : ℕ)
    → t.rule.goal t.roots ≡ Go x → key ≡ least x → root ≡ node_word (level_of key) 0
    → queues.last_of q.queue ≡ None
    → q.place.phase ≡ phases.Asking (record { root = root; last = None })
    → StandsFor m old (first_contents t)
    → JoinAsks q new (first_contents t) (ask_for x forms.nobody ∷ [])
    → WorksOn t q new × HasFewer t phases.Fresh m old q.place.phase q new
asked_works t m q old new x key root goes key_is root_is last phase before (asks, perm, stands) =
    let level : level_of key ≡ level_of_tuple x = omega (arith, key_is) in
    let begun = root_is_asked t.n t.rule t.diagrams t.roots t.is_task x goes in
    let ordered = in_any_order t.n t.rule t.diagrams t.roots t.is_task
    (laws.at_place (node_word (level_of_tuple x) 0) None) _ (map waiting_of asks) None
    (unread_all t.diagrams) [] []
    (IsPermutation-map waiting_of (ask_for x forms.nobody ∷ []) asks perm) begun in
    let s : Asking = record { root = root; last = None } in
    let working : IsWorking t s q new = record {
      contents = record (first_contents t) { asks = asks };
      stands = stands;
      left = subst (λ v. v) (λ i. laws.Remains t.n t.rule t.diagrams t.roots
          (laws.at_place ((ap (λ l. node_word l 0) (sym level) ∙ sym root_is) i) None)
          (map waiting_of asks) (option_map waiting_of (sym last i)) (unread_all t.diagrams) [] [])
          ordered;
    } in (
      works_at t q s new phase working,
      subst (λ p. HasFewer t phases.Fresh m old p q new) (sym phase)
          (λ tuples all_met. first_left t m q old new (first_contents t)
          (record (first_contents t) { asks = asks }) root (length tuples) before stands refl
          (length_permutation (ask_for x forms.nobody ∷ []) asks perm)),
    )

-- what was made, once it is known, is of the task
pub made_where : (t : Task) (begins : Tuple → Tuple) (p : Phase) (m : Machine) (world : World)
    → RemainsIn t begins p m world → IsMadeWhere t world (made_at p)
made_where t begins phases.Fresh m world remains = tt
made_where t begins (phases.Asking s) m world remains = tt
made_where t begins (phases.Ended made) m world remains = remains.made_of

-- as many turns remain of the same lists
pub fewer_since : (t : Task) (s : Asking) (m n q : Machine) (old mid new : World)
    (held : Contents) → StandsFor m old held → StandsFor n mid held
    → HasFewer t (phases.Asking s) n mid q.place.phase q new
    → HasFewer t (phases.Asking s) m old q.place.phase q new
fewer_since t s m n q old mid new held first second fewer tuples all_met =
    subst (λ left. turns_left q new (length tuples) + 1 ≤ left)
    (same_left t s m n old mid held (length tuples) first second) (fewer tuples all_met)

-- none remain where it has ended
pub ended_left : (t : Task) (p : Phase) (m q : Machine) (old new : World)
    (result : Result Turn SortFault) → IfOk result (λ turn. turn ≡ turns.Ended)
    → (made : Unreduced) → OnOk result (q.place.phase ≡ phases.Ended made)
    → TurnsFall t p m old q new result
ended_left t p m q old new (Err e) is made phase tuples all_met = tt
ended_left t p m q old new (Ok turn) is made phase tuples all_met =
    subst (λ (x : Turn). MovesOn 1 (left_at p m old (length tuples))
    (turns_left q new (length tuples)) (Ok x)) (sym is)
    (ap (λ r. left_at r q new (length tuples)) phase)

-- nor is anything said of a refusal
pub refused_left : (t : Task) (p : Phase) (m q : Machine) (old new : World)
    (result : Result Turn SortFault) (e : SortFault) → IsErrAnd result (λ f. f ≡ e)
    → TurnsFall t p m old q new result
refused_left t p m q old new (Ok turn) e is tuples all_met = absurd is
refused_left t p m q old new (Err f) e is tuples all_met = tt

-- a turn that leaves the place
pub advances_at : (t : Task) (s : Asking) (m q : Machine) (old new : World)
    → q.place.phase ≡ phases.Asking s → AdvancesAt t s m old q new → Advances t s m old q new
advances_at t s m q old new phase (working, fewer) = (
  works_at t q s new phase working,
  subst (λ p. HasFewer t (phases.Asking s) m old p q new) (sym phase) fewer,
)
