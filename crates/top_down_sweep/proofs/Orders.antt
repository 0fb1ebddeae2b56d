-- The arcs that were put are in the order of their files.
use Rattle.std.proofs.Common.{◌≡◌, ℕ, ◌+◌, ◌-◌, ◌*◌, ◌/◌, ◌%◌, ◌^◌, ◌≤◌, ◌<◌, ◌∙◌, Bool, true, false, cond, List, [], ◌∷◌, ◌++◌, All, length, refl, sym, subst, ap, inl, inr, arith, append-nil}
use Rattle.std.specs.Prelude.{Option, Some, None, IfSome, get_or, ◌==◌, nat_lt}
use Rattle.std.specs.List.Sorted.{IsSorted}
use Rattle.std.specs.Cmp.{IsStrictWeakOrder}
use Rattle.std.specs.Ordering.{nat_cmp, bool_cmp, ordering_then, is_lt, MatchOrdering}
use Rattle.std.specs.declared.cmp.Ordering.{Ordering}
use Rattle.std.specs.declared.cmp.Ordering.TheVariants.{Less, Equal, Greater}
use Rattle.std.proofs.lemmas.Bool.Decides.{nat_tests}
use Rattle.std.proofs.lemmas.Cmp.{ranked}
use Rattle.std.proofs.lemmas.List.Elements.{All-push, All-weaker}
use Rattle.std.proofs.lemmas.List.Kept.{IsSortedBy-push}
use Rattle.std.proofs.lemmas.List.MinMax.{ranks_by}
use Rattle.std.proofs.lemmas.Bool.{eqb-true}
use Rattle.rec_words.specs.Words.{level_of, node_word, level_numbers, terminal, IsNodeWord, IsTerminal}
use Rattle.shelf_model.specs.World.{World}
use Rattle.arc_file.specs.declared.arc.Arc.{Arc}
use Rattle.arc_file.specs.declared.kind.Kind.TheVariants.{Inner, End}
use Rattle.arc_file.specs.declared.unreduced.Unreduced.{Unreduced}
use Rattle.arc_file.specs.declared.writer.ArcWriter.{ArcWriter}
use Rattle.arc_file.specs.Writers.{HoldsArcs}
use Rattle.arc_file.specs.Files.{Leads, inner_cmp, end_cmp, IsInnerOrder, IsEndOrder}
use Rattle.level_queue.specs.Queues.{last_of, IsNoLess}
use Rattle.top_down.specs.declared.tuple.Goal.{Goal}
use Rattle.top_down.specs.declared.tuple.Goal.TheVariants as goals
use Rattle.top_down.specs.Asks.{side_arcs}
use Rattle.top_down_laws.specs.Remains.{answer_arcs, arc_from}
use Rattle.tuple_asks.specs.declared.ask.Ask.{Ask}
use Rattle.tuple_asks.specs.declared.ask.Members.{Members}
use Rattle.tuple_asks.specs.declared.place.Numbered.{Numbered}
use Rattle.tuple_asks.specs.declared.place.Asking.{Asking}
use Rattle.tuple_asks.specs.declared.place.Phase.{Phase}
use Rattle.tuple_asks.specs.declared.place.Phase.TheVariants as phases
use Rattle.top_down_sweep.specs.declared.machine.Machine.{Machine}
use Rattle.top_down_sweep.specs.declared.sweep.TopDownSweep.{TopDownSweep}
use Rattle.tuple_asks.specs.Items.{members_cmp, ask_cmp}
use Rattle.top_down_sweep.specs.Sweeps.{made_at, made_in}
use Rattle.top_down.specs.declared.tuple.Tuple.{Tuple}
use Rattle.top_down.specs.Rules.{Rule}
use Rattle.top_down_sweep.specs.Calls.{IsTrustedAt, IsTrusted}
use Rattle.top_down_sweep.specs.Meaning.{form_of}
use Rattle.tuple_asks.specs.Soundness.{side_number, asker_word, is_asker, asks_above, nobody, identifier, next_number, next_numbered}
use Rattle.top_down_sweep.specs.Ordered.{AreOrdered, source_word, AreInnerTo, AreEndsTo, ArePutTo, ArePut, HoldsPut, HoldsOrdered, IsOrderedAt, IsOrdered, KeepsArcs}
use Rattle.top_down_sweep.proofs.FormsOf.{IsKnown}
use Rattle.top_down_sweep.proofs.Holding.{ask_total, key_from}
use Rattle.top_down_sweep.proofs.Numbers.{level_of_node}

-- an arc isn't before one whose asker comes no later
side_few : (side : Bool) → side_number side ≤ 1
side_few false = omega arith
side_few true = omega arith

end_after : (a b : Arc) → source_word b ≤ source_word a → is_lt (end_cmp a b) ≡ false
end_after a b upto = by (nat_cmp a.source b.source) (ranked a.source b.source _ refl)
  where
    sides : (c d : Bool) → side_number d ≤ side_number c → is_lt (bool_cmp c d) ≡ false
    sides false false most = refl
    sides false true most = absurd (omega (arith, most))
    sides true false most = refl
    sides true true most = refl

    by : (o : Ordering) → MatchOrdering o (a.source < b.source) (a.source ≡ b.source) (b.source < a.source)
        → is_lt (ordering_then o (bool_cmp a.high b.high)) ≡ false
    by Less below = absurd (omega (arith, below, upto, side_few a.high))
    by Equal same = sides a.high b.high (omega (arith, same, upto))
    by Greater above = refl

-- nor before one to a node before its own, or to its own from such an asker
inner_after : (a b : Arc) → b.target ≤ a.target → (b.target ≡ a.target → source_word b ≤ source_word a)
    → is_lt (inner_cmp a b) ≡ false
inner_after a b upto askers = by (nat_cmp a.target b.target) (ranked a.target b.target _ refl)
  where
    by : (o : Ordering) → MatchOrdering o (a.target < b.target) (a.target ≡ b.target) (b.target < a.target)
        → is_lt (ordering_then o (end_cmp a b)) ≡ false
    by Less below = absurd (omega (arith, below, upto))
    by Equal same = end_after a b (askers (sym same))
    by Greater above = refl

push_sorted : (cmp : Arc → Arc → Ordering) (xs : List Arc) (y : Arc) → IsSorted cmp xs
    → All (λ b. is_lt (cmp y b) ≡ false) xs → IsSorted cmp (xs ++ y ∷ [])
push_sorted cmp xs y sorted all = IsSortedBy-push (λ a b. is_lt (cmp a b)) xs y sorted
    (λ d long. all (length xs - 1) d (omega (arith, long)))

-- the word of the arc from an asker is the asker
asker_is : (w target : ℕ) → source_word (arc_from w target) ≡ w
asker_is w target = by (w % 2 == 1) refl
  where
    by : (b : Bool) → (w % 2 == 1) ≡ b → 2 * (w / 2) + side_number b ≡ w
    by true is = let odd : w % 2 ≡ 1 = eqb-true _ _ is in omega (arith, odd)
    by false is = let even : (w % 2 ≡ 1 → ⊥) = grind (arith, nat_tests) in omega (arith, even)

-- an ask is answered
answered_to : (target asker : ℕ) (xs : List Arc) → target < 2 ^ 63
    → (is_asker asker ≡ true → level_of (asker / 2) < level_of target) → AreInnerTo target asker xs
    → AreInnerTo target asker (xs ++ answer_arcs asker target)
answered_to target asker xs node above are = by (is_asker asker) refl
  where
    by : (b : Bool) → is_asker asker ≡ b
        → AreInnerTo target asker (xs ++ cond b (arc_from asker target ∷ []) [])
    by false none = subst (AreInnerTo target asker) (sym (append-nil xs)) are
    by true is =
        let y : Arc = arc_from asker target in
        let word : source_word y ≡ asker = asker_is asker target in
        record {
          lead = All-push (Leads Inner) xs y are.lead (node, above is);
          ordered = push_sorted inner_cmp xs y are.ordered (λ k d within.
              inner_after y (get_or xs k d) (are.targets k d within)
              (λ same. let upto = are.askers k d within same in omega (arith, upto, word)));
          targets = All-push (λ a. a.target ≤ target) xs y are.targets (omega arith);
          askers = All-push (λ a. a.target ≡ target → source_word a ≤ asker) xs y are.askers
              (λ same. omega (arith, word));
        }

-- arcs go to a later node too, or to a later asker for the same one
inner_below : (old new asker later : ℕ) (xs : List Arc) → old < new → AreInnerTo old asker xs
    → AreInnerTo new later xs
inner_below old new asker later xs less are = record {
  lead = are.lead;
  ordered = are.ordered;
  targets = All-weaker (λ a. a.target ≤ old) (λ a. a.target ≤ new) (λ a upto. omega (arith, upto, less))
      xs are.targets;
  askers = All-weaker (λ a. a.target ≤ old) (λ a. a.target ≡ new → source_word a ≤ later)
      (λ a upto same. absurd (omega (arith, upto, less, same))) xs are.targets;
}

inner_later : (target asker later : ℕ) (xs : List Arc) → asker ≤ later → AreInnerTo target asker xs
    → AreInnerTo target later xs
inner_later target asker later xs upto are = record {
  lead = are.lead;
  ordered = are.ordered;
  targets = are.targets;
  askers = All-weaker (λ a. a.target ≡ target → source_word a ≤ asker)
      (λ a. a.target ≡ target → source_word a ≤ later)
      (λ a most same. (let first = most same in omega (arith, first, upto))) xs are.askers;
}

ends_later : (asker later : ℕ) (xs : List Arc) → asker ≤ later → AreEndsTo asker xs → AreEndsTo later xs
ends_later asker later xs upto are = record {
  lead = are.lead;
  ordered = are.ordered;
  askers = All-weaker (λ a. source_word a ≤ asker) (λ a. source_word a ≤ later)
      (λ a most. omega (arith, most, upto)) xs are.askers;
}

none_inner : (target asker : ℕ) → AreInnerTo target asker []
none_inner target asker = record {
  lead = λ k d within. absurd (omega (arith, within));
  ordered = λ k d from within. absurd (omega (arith, within));
  targets = λ k d within. absurd (omega (arith, within));
  askers = λ k d within. absurd (omega (arith, within));
}

none_ends : (asker : ℕ) → AreEndsTo asker []
none_ends asker = record {
  lead = λ k d within. absurd (omega (arith, within));
  ordered = λ k d from within. absurd (omega (arith, within));
  askers = λ k d within. absurd (omega (arith, within));
}

-- a side that is constant has its arc
abbrev side_of : ℕ → Bool → ℕ
side_of uid high = asker_word (record { uid = uid; high = high })

served_to : (uid : ℕ) (high : Bool) (goal : Goal) (asker : ℕ) (xs : List Arc)
    → asker ≤ side_of uid high → AreEndsTo asker xs
    → AreEndsTo (side_of uid high) (xs ++ side_arcs uid high goal)
served_to uid high (goals.Go x) asker xs upto are = subst (AreEndsTo (side_of uid high))
    (sym (append-nil xs)) (ends_later asker _ xs upto are)
served_to uid high (goals.End value) asker xs upto are =
    let y : Arc = record { source = uid; high = high; target = terminal value } in
    let before = ends_later asker (side_of uid high) xs upto are in
    record {
      lead = All-push (Leads End) xs y are.lead (is_value value);
      ordered = push_sorted end_cmp xs y are.ordered
          (λ k d within. end_after y (get_or xs k d) (before.askers k d within));
      askers = All-push (λ a. source_word a ≤ side_of uid high) xs y before.askers (omega arith);
    }
  where
    is_value : (v : Bool) → IsTerminal (terminal v)
    is_value false = inl refl
    is_value true = inr refl

-- the order of asks
ask_ranks : IsStrictWeakOrder (λ (x y : Ask). is_lt (ask_cmp x y))
ask_ranks = ranks_by ask_total (λ (x : Ask). x)

abbrev ask_by : ℕ → Members → ℕ → Ask
ask_by key members asker = record { key = key; members = members; asker = asker }

then_same : (o p : Ordering) → o ≡ Equal → ordering_then o p ≡ p
then_same o p same = ap (λ q. ordering_then q p) same

nat_same : (k : ℕ) → nat_cmp k k ≡ Equal
nat_same k = grind (arith, nat_tests)

members_same : (ms : Members) → members_cmp ms ms ≡ Equal
members_same ms = λ i. ordering_then (ordering_then (nat_same ms.first.low i) (nat_same ms.first.high i))
    (ordering_then (ordering_then (nat_same ms.second.low i) (nat_same ms.second.high i))
    (ordering_then (nat_same ms.third.low i) (nat_same ms.third.high i)))

-- of two asks for one tuple
askers_from : (key : ℕ) (ms : Members) (v w : ℕ)
    → is_lt (ask_cmp (ask_by key ms v) (ask_by key ms w)) ≡ false → w ≤ v
askers_from key ms v w none =
    let same : ask_cmp (ask_by key ms v) (ask_by key ms w) ≡ nat_cmp v w =
    then_same _ _ (nat_same key) ∙ then_same _ _ (members_same ms) in
    let less : is_lt (nat_cmp v w) ≡ false = sym (ap is_lt same) ∙ none in
    grind (arith, nat_tests)

not_before_self : (a : Ask) → is_lt (ask_cmp a a) ≡ false
not_before_self a = ap is_lt (then_same _ _ (nat_same a.key) ∙ then_same _ _ (members_same a.members)
    ∙ nat_same a.asker)

-- the members of one form
one_form : (k l : ℕ) (ms ns : Members) → form_of k ms ≡ form_of l ns → ms ≡ ns
one_form k l ms ns same = λ i. record {
  first = record { low = (same i).first.low; high = (same i).first.high };
  second = record { low = (same i).second.low; high = (same i).second.high };
  third = record { low = (same i).third.low; high = (same i).third.high };
}

-- an ask is no earlier than the last one that was answered, where it is no earlier than the last one taken
none_before : (x : Numbered) (taken : Option Ask) (a : Ask) (inner ends : List Arc) → IsNoLess ask_cmp taken a
    → (put : ArePutTo x taken inner ends) → is_lt (ask_cmp a (ask_by x.key x.members put.asker)) ≡ false
none_before x taken a inner ends none put = ask_ranks.chain a put.last (ask_by x.key x.members put.asker)
    (subst (λ o. IsNoLess ask_cmp o a) put.last_is none) put.reached

-- an ask was taken, and put again or not
pub put_taken : (last : Option Numbered) (taken : Option Ask) (a : Ask) (inner ends : List Arc)
    → IsNoLess ask_cmp taken a → ArePut last taken inner ends → ArePut last (Some a) inner ends
put_taken None taken a inner ends none put = put
put_taken (Some x) taken a inner ends none put = record {
  last = a;
  last_is = refl;
  asker = put.asker;
  reached = none_before x taken a inner ends none put;
  inner_are = put.inner_are;
  ends_are = put.ends_are;
}

-- a node asks for a deeper one
asks_deeper : (w key : ℕ) → asks_above w key ≡ true → is_asker w ≡ true → level_of (w / 2) < level_of key
asks_deeper w key above is =
    let deeper : nat_lt (level_of (w / 2)) (level_of key) ≡ true =
    sym (ap (λ b. cond b (nat_lt (level_of (w / 2)) (level_of key)) (w == nobody)) is) ∙ above in
    grind (arith, nat_tests)

-- it was answered by a known number
pub put_known : (last : Option Numbered) (taken : Option Ask) (a : Ask) (uid : ℕ)
    (inner ends : List Arc) → IfSome last (λ x. x.number < level_numbers) → IsNodeWord a.key
    → asks_above a.asker a.key ≡ true → IsNoLess ask_cmp taken a → IsKnown last a uid
    → ArePut last taken inner ends
    → ArePut last (Some a) (inner ++ answer_arcs a.asker uid) ends
put_known last taken a uid inner ends few node above none is put =
    let x : Numbered = is.numbered in
    let here : ArePutTo x taken inner ends = subst (λ o. ArePut o taken inner ends) is.last_is put in
    let small : x.number < level_numbers = subst (λ o. IfSome o (λ y. y.number < level_numbers)) is.last_is few in
    let key : x.key ≡ a.key = ap (λ f. f.key) is.form_is in
    let members : x.members ≡ a.members = one_form x.key a.key x.members a.members is.form_is in
    let level : level_of (identifier x) ≡ level_of a.key = level_of_node (level_of x.key) x.number small
    ∙ ap level_of key in
    let upto : here.asker ≤ a.asker = askers_from a.key a.members a.asker here.asker
    (subst (λ v. v) (λ i. is_lt (ask_cmp a (ask_by (key i) (members i) here.asker)) ≡ false)
    (none_before x taken a inner ends none here)) in
    let answered : AreInnerTo (identifier x) a.asker (inner ++ answer_arcs a.asker (identifier x)) =
    answered_to (identifier x) a.asker inner (omega (arith, level, node))
    (λ asks. subst (λ l. level_of (a.asker / 2) < l) (sym level) (asks_deeper a.asker a.key above asks))
    (inner_later (identifier x) here.asker a.asker inner upto here.inner_are) in
    let after : ArePutTo x (Some a) (inner ++ answer_arcs a.asker (identifier x)) ends = record {
      last = a;
      last_is = refl;
      asker = a.asker;
      reached = subst (λ v. v) (λ i. is_lt (ask_cmp a (ask_by (sym key i) (sym members i) a.asker)) ≡ false)
          (not_before_self a);
      inner_are = answered;
      ends_are = here.ends_are;
    } in
    subst (λ v. v) (λ i. ArePut (sym is.last_is i) (Some a) (inner ++ answer_arcs a.asker (sym is.uid_is i)) ends)
    after

-- identifiers ascend
number_grows : (x : Numbered) (a : Ask) → x.number < level_numbers → x.key ≤ a.key
    → identifier x < node_word (level_of a.key) (next_number (Some x) (level_of a.key))
number_grows x a few upto = by (level_of x.key == level_of a.key) refl
  where
    by : (b : Bool) → (level_of x.key == level_of a.key) ≡ b
        → identifier x < node_word (level_of a.key) (cond b (x.number + 1) 0)
    by true same = let level : level_of x.key ≡ level_of a.key = eqb-true _ _ same in omega (arith, level)
    by false other =
        let levels : (level_of x.key ≡ level_of a.key → ⊥) = grind (arith, nat_tests) in
        let deeper : level_of x.key < level_of a.key = omega (arith, levels, upto) in
        omega (arith, deeper, few)

-- its tuple got a number, and its sides are served
pub put_new : (s : Asking) (taken : Option Ask) (a : Ask) (uid : ℕ) (low high : Goal) (inner ends : List Arc)
    → IfSome s.last (λ x. x.number < level_numbers) → IsNodeWord a.key
    → asks_above a.asker a.key ≡ true → IsNoLess ask_cmp taken a
    → uid ≡ identifier (next_numbered s a) → level_of uid ≡ level_of a.key
    → ArePut s.last taken inner ends
    → ArePut (Some (next_numbered s a)) (Some a) (inner ++ answer_arcs a.asker (identifier (next_numbered s a)))
    ((ends ++ side_arcs uid false low) ++ side_arcs uid true high)
put_new s taken a uid low high inner ends few node above none uid_is level put =
    let next : ℕ = identifier (next_numbered s a) in
    let deep : level_of next ≡ level_of a.key = sym (ap level_of uid_is) ∙ level in
    let before = by s.last few put in
    record {
      last = a;
      last_is = refl;
      asker = a.asker;
      reached = not_before_self a;
      inner_are = answered_to next a.asker inner (omega (arith, deep, node))
          (λ asks. subst (λ l. level_of (a.asker / 2) < l) (sym deep) (asks_deeper a.asker a.key above asks))
          before.0;
      ends_are = subst (λ (v : ℕ). AreEndsTo (side_of v true)
          ((ends ++ side_arcs uid false low) ++ side_arcs uid true high)) uid_is
          (served_to uid true high (side_of uid false) (ends ++ side_arcs uid false low) (omega arith)
          (served_to uid false low (side_of uid false) ends (omega arith)
          (subst (λ (v : ℕ). AreEndsTo (side_of v false) ends) (sym uid_is) before.1)));
    }
  where
    by : (last : Option Numbered) → IfSome last (λ x. x.number < level_numbers) → ArePut last taken inner ends
        → AreInnerTo (node_word (level_of a.key) (next_number last (level_of a.key))) a.asker inner
        × AreEndsTo (side_of (node_word (level_of a.key) (next_number last (level_of a.key))) false) ends
    by None few none_put = (
      subst (AreInnerTo _ a.asker) (sym none_put.0) (none_inner _ a.asker),
      subst (AreEndsTo _) (sym none_put.1) (none_ends _),
    )
    by (Some x) few is =
        let grows = number_grows x a few
        (key_from (ask_by x.key x.members is.asker) a (none_before x taken a inner ends none is)) in (
          inner_below (identifier x) _ is.asker a.asker inner grows is.inner_are,
          ends_later (side_of (identifier x) true) _ ends (omega (arith, grows)) is.ends_are,
        )

-- what was put is in order
pub put_ordered : (s : Asking) (m : Machine) (world : World) → HoldsPut s m world
    → HoldsOrdered m.writer world
put_ordered s m world holds = by s.last holds.put
  where
    by : (last : Option Numbered) → ArePut last (last_of m.queue) holds.inner holds.ends
        → HoldsOrdered m.writer world
    by None put = record {
      inner = holds.inner;
      ends = holds.ends;
      held = holds.held;
      inner_lead = subst (All (Leads Inner)) (sym put.0) (none_inner 0 0).lead;
      inner_order = subst IsInnerOrder (sym put.0) (none_inner 0 0).ordered;
      ends_lead = subst (All (Leads End)) (sym put.1) (none_ends 0).lead;
      ends_order = subst IsEndOrder (sym put.1) (none_ends 0).ordered;
    }
    by (Some x) put = record {
      inner = holds.inner;
      ends = holds.ends;
      held = holds.held;
      inner_lead = put.inner_are.lead;
      inner_order = put.inner_are.ordered;
      ends_lead = put.ends_are.lead;
      ends_order = put.ends_are.ordered;
    }

-- and so is nothing
pub none_ordered : (w : ArcWriter) (world : World) → HoldsArcs w world [] [] → HoldsOrdered w world
none_ordered w world held = record {
  inner = [];
  ends = [];
  held = held;
  inner_lead = (none_inner 0 0).lead;
  inner_order = (none_inner 0 0).ordered;
  ends_lead = (none_ends 0).lead;
  ends_order = (none_ends 0).ordered;
}

-- what was put in a phase, while asks are answered
pub put_of : (m : Machine) (world : World) (s : Asking) → m.place.phase ≡ phases.Asking s
    → IsOrdered m world → HoldsPut s m world
put_of m world s phase is = subst (λ p. IsOrderedAt p m world) phase is

pub put_at : (m : Machine) (world : World) (s : Asking) → m.place.phase ≡ phases.Asking s
    → HoldsPut s m world → IsOrdered m world
put_at m world s phase is = subst (λ p. IsOrderedAt p m world) (sym phase) is

module _ (s : Asking) (m q : Machine) (old new : World) where
  -- nothing was put or taken
  pub put_kept : last_of q.queue ≡ last_of m.queue → KeepsArcs m old q new → HoldsPut s m old
      → HoldsPut s q new
  put_kept same keeps h = record {
    inner = h.inner;
    ends = h.ends;
    held = keeps h.inner h.ends h.held;
    put = subst (λ o. ArePut s.last o h.inner h.ends) (sym same) h.put;
  }

  -- an ask was taken
  pub put_later : (a : Ask) → IsNoLess ask_cmp (last_of m.queue) a → last_of q.queue ≡ Some a
      → KeepsArcs m old q new → HoldsPut s m old → HoldsPut s q new
  put_later a none last keeps h = record {
    inner = h.inner;
    ends = h.ends;
    held = keeps h.inner h.ends h.held;
    put = subst (λ o. ArePut s.last o h.inner h.ends) (sym last)
        (put_taken s.last (last_of m.queue) a h.inner h.ends none h.put);
  }

-- in each phase before the last one what was put is in order
pub trusted_ordered : (rule : Rule) (begins : Tuple → Tuple) (p : Phase) (m : Machine) (world : World) → ((made : Unreduced) → p ≡ phases.Ended made → ⊥)
    → IsTrustedAt rule begins p m world → HoldsOrdered m.writer world
trusted_ordered rule begins phases.Fresh m world not_ended trusts = none_ordered m.writer world trusts.2
trusted_ordered rule begins (phases.Asking s) m world not_ended trusts = put_ordered s m world trusts.1
trusted_ordered rule begins (phases.Ended made) m world not_ended trusts = absurd (not_ended made refl)

-- and once it has ended, so is what was made
pub ended_ordered : (rule : Rule) (begins : Tuple → Tuple) (p : Phase) (m : Machine) (world : World)
    → IsTrustedAt rule begins p m world
    → IfSome (made_at p) (λ made. AreOrdered made world)
ended_ordered rule begins phases.Fresh m world trusts = tt
ended_ordered rule begins (phases.Asking s) m world trusts = tt
ended_ordered rule begins (phases.Ended made) m world trusts = trusts

-- whatever the operands' files hold: once a sweep has ended, its two files are arcs in their order
pub ended_in_order : {O : Type 0} (rule : O → Rule) (begins : O → Tuple → Tuple) (s : TopDownSweep O) (world : World)
    (made : Unreduced) → IsTrusted rule begins s world
    → made_in s ≡ Some made → AreOrdered made world
ended_in_order rule begins s world made trusts is = subst (λ o. IfSome o (λ x. AreOrdered x world)) is
    (ended_ordered (rule s.operation) (begins s.operation) s.machine.place.phase s.machine world trusts)
