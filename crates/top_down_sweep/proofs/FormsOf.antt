-- The asks of a machine as the forms in which they wait.
use Rattle.std.proofs.Common.{◌≡◌, ℕ, ◌∙◌, Bool, true, false, cond, List, ◌∷◌, refl, sym, subst, ap}
use Rattle.std.specs.Prelude.{Option, Some, None, IfSome, map, option_map, ◌==◌, ◌&&◌, ◌||◌}
use Rattle.std.specs.Ordering.{is_lt}
use Rattle.std.specs.Cmp.{IsStrictWeakOrder}
use Rattle.std.specs.List.Sorted.{IsSorted}
use Rattle.std.proofs.lemmas.List.MinMax.{ranks_by}
use Rattle.std.proofs.lemmas.Bool.{and_parts, eqb-true, eq-eqb}
use Rattle.list_laws.proofs.MemberLaws.{map_has}
use Rattle.list_laws.proofs.SortedLaws.{none_before}
use Rattle.rec_words.specs.Words.{level_of}
use Rattle.rec_words.specs.declared.node.Node.{Node}
use Rattle.canon_file.specs.declared.row.Row.{Row}
use Rattle.top_down.specs.declared.tuple.Goal.{Goal}
use Rattle.top_down.specs.declared.tuple.Goal.TheVariants.{End, Go}
use Rattle.top_down.specs.Rules.{Rule}
use Rattle.top_down_laws.specs.Forms as forms
use Rattle.top_down_laws.specs.Readings as readings
use Rattle.top_down_laws.specs.Remains as laws
use Rattle.top_down_laws.specs.Laws.{IsNext}
use Rattle.tuple_asks.specs.declared.ask.Member.{Member}
use Rattle.tuple_asks.specs.declared.ask.Ask.{Ask}
use Rattle.tuple_asks.specs.declared.operand.Operands.{Operands}
use Rattle.tuple_asks.specs.declared.place.Numbered.{Numbered}
use Rattle.tuple_asks.specs.declared.place.Asking.{Asking}
use Rattle.tuple_asks.specs.Items.{ask_cmp}
use Rattle.tuple_asks.specs.ItemLaws.{ask_order}
use Rattle.top_down_laws.specs.Forms.{least}
use Rattle.tuple_asks.specs.Members.{wants, filled, want, all_filled, all_waiting, is_node}
use Rattle.tuple_asks.specs.Soundness.{identifier, answers, known, next_number, next_numbered, same_member}
use Rattle.top_down_sweep.specs.Meaning.{row_of, form_of, waiting_of, numbered_of}
use Rattle.top_down_sweep.specs.Changes.{side_asks, goal_below}
use Rattle.top_down_sweep.proofs.Holding.{ask_total}

-- the nodes at hand are those of the readings
pub record SameHands (o : Operands) (r : readings.Readings) : Type 0 where
  pub first : o.first.hand ≡ r.first.hand
  pub second : o.second.hand ≡ r.second.hand
  pub third : o.third.hand ≡ r.third.hand

-- a member wants its node as its row does
wants_is : (key : ℕ) (hand : Option Node) (m : Member)
    → forms.wants key hand (row_of m) ≡ wants key hand m
wants_is key None m = refl
wants_is key (Some x) m = refl

pub row_wants : (key : ℕ) (hand other : Option Node) (m : Member) → hand ≡ other
    → forms.wants key other (row_of m) ≡ wants key hand m
row_wants key hand other m same = ap (λ h. forms.wants key h (row_of m)) (sym same)
    ∙ wants_is key hand m

pub form_wants : (o : Operands) (r : readings.Readings) (a : Ask) → SameHands o r
    → readings.want r (form_of a.key a.members) ≡ want o a
form_wants o r a same = λ i. row_wants a.key o.first.hand r.first.hand a.members.first same.first i
    || (row_wants a.key o.second.hand r.second.hand a.members.second same.second i
    || row_wants a.key o.third.hand r.third.hand a.members.third same.third i)

-- it is filled in as its row is
one_row : (b : Bool) (x y : Member) → cond b (row_of x) (row_of y) ≡ row_of (cond b x y)
one_row true x y = refl
one_row false x y = refl

filled_is : (key : ℕ) (hand : Option Node) (m : Member)
    → forms.filled key hand (row_of m) ≡ row_of (filled key hand m)
filled_is key None m = refl
filled_is key (Some x) m = one_row ((x.uid == key) && is_node key m)
    (record { low = x.low; high = x.high }) m

row_filled : (key : ℕ) (hand other : Option Node) (m : Member) → hand ≡ other
    → forms.filled key other (row_of m) ≡ row_of (filled key hand m)
row_filled key hand other m same = ap (λ h. forms.filled key h (row_of m)) (sym same)
    ∙ filled_is key hand m

pub form_filled : (o : Operands) (r : readings.Readings) (a : Ask) → SameHands o r
    → readings.filled_form r (form_of a.key a.members) ≡ form_of a.key (all_filled o a)
form_filled o r a same = λ i. record {
  key = a.key;
  first = row_filled a.key o.first.hand r.first.hand a.members.first same.first i;
  second = row_filled a.key o.second.hand r.second.hand a.members.second same.second i;
  third = row_filled a.key o.third.hand r.third.hand a.members.third same.third i;
}

-- the next key is the same
pub form_next : (o : Operands) (r : readings.Readings) (a : Ask) → SameHands o r
    → forms.next_key (readings.filled_form r (form_of a.key a.members))
    ≡ least (all_waiting (level_of a.key) (all_filled o a))
form_next o r a same = ap forms.next_key (form_filled o r a same)

-- so is the ask that is read on
pub form_again : (o : Operands) (r : readings.Readings) (a : Ask) (k : ℕ) → SameHands o r
    → k ≡ least (all_waiting (level_of a.key) (all_filled o a))
    → readings.asked_on r (waiting_of a)
    ≡ waiting_of (record { key = k; members = all_filled o a; asker = a.asker })
form_again o r a k same is = λ i. record {
  form = record {
    key = (form_next o r a same ∙ sym is) i;
    first = row_filled a.key o.first.hand r.first.hand a.members.first same.first i;
    second = row_filled a.key o.second.hand r.second.hand a.members.second same.second i;
    third = row_filled a.key o.third.hand r.third.hand a.members.third same.third i;
  };
  asker = a.asker;
}

-- and what the rule makes of a side
pub form_goal : (o : Operands) (r : readings.Readings) (rule : Rule) (a : Ask) (side : Bool)
    → SameHands o r → laws.goal_on rule r (form_of a.key a.members) side
    ≡ goal_below rule (level_of a.key) side (all_filled o a)
form_goal o r rule a side same = ap (λ f. rule.goal (rule.below (level_of a.key) side
    (forms.on_side false f) (forms.on_side true f))) (form_filled o r a same)

-- and its ask
pub side_waiting : (s : ℕ) (side : Bool) (goal : Goal)
    → map waiting_of (side_asks s side goal) ≡ laws.side_waits s side goal
side_waiting s side (End value) = refl
side_waiting s false (Go x) = refl
side_waiting s true (Go x) = refl

-- the next number
next_is : (last : Option Numbered) (level : ℕ)
    → next_number last level ≡ laws.next_number (option_map numbered_of last) level
next_is None level = refl
next_is (Some x) level = refl

pub form_numbered : (s : Asking) (a : Ask) → numbered_of (next_numbered s a)
    ≡ laws.next_numbered (option_map numbered_of s.last) (form_of a.key a.members)
form_numbered s a = λ i. record {
  form = form_of a.key a.members;
  number = next_is s.last (level_of a.key) i;
}

-- the tuple that was numbered last is asked for where the forms are the same
pub same_form : (x : Numbered) (a : Ask) → answers x a ≡ true
    → form_of x.key x.members ≡ form_of a.key a.members
same_form x a is =
    let key = x.key == a.key in
    let first = same_member x.members.first a.members.first in
    let second = same_member x.members.second a.members.second in
    let third = same_member x.members.third a.members.third in
    let all = and_parts key (first && (second && third)) is in
    let members = and_parts first (second && third) all.1 in
    let others = and_parts second third members.1 in
    λ i. record {
      key = eqb-true x.key a.key all.0 i;
      first = same_row x.members.first a.members.first members.0 i;
      second = same_row x.members.second a.members.second others.0 i;
      third = same_row x.members.third a.members.third others.1 i;
    }
  where
    same_row : (m l : Member) → same_member m l ≡ true → row_of m ≡ row_of l
    same_row m l both = λ i. record {
      low = eqb-true m.low l.low (and_parts (m.low == l.low) (m.high == l.high) both).0 i;
      high = eqb-true m.high l.high (and_parts (m.low == l.low) (m.high == l.high) both).1 i;
    }

form_same : (x : Numbered) (a : Ask) → form_of x.key x.members ≡ form_of a.key a.members
    → answers x a ≡ true
form_same x a is = λ i. eq-eqb _ _ (ap (λ (f : forms.Form). f.key) is) i
    && (row_same x.members.first a.members.first (ap (λ (f : forms.Form). f.first) is) i
    && (row_same x.members.second a.members.second (ap (λ (f : forms.Form). f.second) is) i
    && row_same x.members.third a.members.third (ap (λ (f : forms.Form). f.third) is) i))
  where
    row_same : (m l : Member) → row_of m ≡ row_of l → same_member m l ≡ true
    row_same m l both = λ i. eq-eqb m.low l.low (ap (λ (w : Row). w.low) both) i
        && eq-eqb m.high l.high (ap (λ (w : Row). w.high) both) i

-- the tuple is known: it is the one that was numbered last
pub record IsKnown (last : Option Numbered) (a : Ask) (uid : ℕ) : Type 0 where
  pub numbered : Numbered
  pub last_is : last ≡ Some numbered
  pub form_is : form_of numbered.key numbered.members ≡ form_of a.key a.members
  pub uid_is : uid ≡ identifier numbered

pub is_known : (last : Option Numbered) (a : Ask) (uid : ℕ) → known last a ≡ Some uid
    → IsKnown last a uid
is_known None a uid is = absurd (cc)
is_known (Some x) a uid is = by (answers x a) refl is
  where
    by : (b : Bool) → answers x a ≡ b → cond b (Some (identifier x)) None ≡ Some uid
        → IsKnown (Some x) a uid
    by true same some = record {
      numbered = x;
      last_is = refl;
      form_is = same_form x a same;
      uid_is = (cc);
    }
    by false same none = absurd (cc)

pub unknown_where : (last : Option Numbered) (a : Ask) (found : Option ℕ) → found ≡ known last a
    → ((uid : ℕ) → found ≡ Some uid → ⊥) → known last a ≡ None
unknown_where last a None is none = sym is
unknown_where last a (Some uid) is none = absurd (none uid refl)

pub is_unknown : (last : Option Numbered) (a : Ask) → known last a ≡ None
    → IfSome (option_map numbered_of last) (λ x. x.form ≡ form_of a.key a.members → ⊥)
is_unknown None a none = tt
is_unknown (Some x) a none = λ same.
    let some : known (Some x) a ≡ Some (identifier x) =
    ap (λ b. cond b (Some (identifier x)) None) (form_same x a same) in
    let no : Some (identifier x) ≡ None = sym some ∙ none in
    absurd (cc)

-- no ask comes before the first of a list that ascends
pub first_next : (a : Ask) (rest : List Ask) → IsSorted ask_cmp (a ∷ rest)
    → IsNext (waiting_of a) (map waiting_of rest)
first_next a rest up b there =
    let (x, in_rest, same) = map_has waiting_of b rest there in
    let order : IsStrictWeakOrder (λ (p q : Ask). is_lt (ask_cmp p q)) = ranks_by ask_total
    (λ (p : Ask). p) in
    let none : is_lt (ask_cmp x a) ≡ false =
    none_before (λ (p q : Ask). is_lt (ask_cmp p q)) order a rest up x in_rest in
    subst (λ w. forms.comes_before w (waiting_of a) ≡ false) same
    (sym (ap is_lt (ask_order x a)) ∙ none)
