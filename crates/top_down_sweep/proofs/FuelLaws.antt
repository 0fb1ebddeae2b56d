-- Each ask that is taken with effect leaves fewer behind it.
use Rattle.std.proofs.Common.{eqb, ◌&&◌, tests, ◌≡◌, ◌≢◌, ℕ, ◌+◌, ◌*◌, ◌^◌, ◌<◌, ◌≤◌, ◌∙◌, Bool, true, false, List, [], ◌∷◌, length, refl, sym, subst, ap, arith}
use Rattle.std.specs.Prelude.{Option, Some, None, All, IfSome, Result, Ok, Err, IfOk, OnOk, zero, suc}
use Rattle.std.specs.Ordering.{nat_cmp, ordering_then, is_lt, MatchOrdering}
use Rattle.std.specs.Cmp.Lexicographic.{slice_cmp}
use Rattle.std.specs.declared.cmp.Ordering.{Ordering}
use Rattle.std.specs.declared.cmp.Ordering.TheVariants.{Less, Equal, Greater}
use Rattle.std.proofs.lemmas.Cmp.{ranked}
use Rattle.std.proofs.lemmas.Bool.{and_parts, eqb-true}
use Rattle.shelf_model.specs.declared.sort_fault.SortFault.{SortFault}
use Rattle.run_merge.specs.Lists.{GivesValue, IsShown, AnswersShown, CountsDown}
use Rattle.arc_file.specs.declared.unreduced.Unreduced.{Unreduced}
use Rattle.sweep_core.specs.declared.turn.Turn.{Turn}
use Rattle.sweep_core.specs.declared.turn.Turn.TheVariants as turns
use Rattle.sweep_core.specs.Sweeps.{Falls}
use Rattle.level_queue.specs.declared.queue.LevelQueue.{LevelQueue}
use Rattle.level_queue.specs.Queues.{shown, last_of, held, IsNoLess, AnswersNoLess, IsReached}
use Rattle.tuple_asks.specs.declared.ask.Ask.{Ask}
use Rattle.tuple_asks.specs.declared.ask.Member.{Member}
use Rattle.tuple_asks.specs.Items.{ask_words, IsAsk, ask_cmp}
use Rattle.tuple_asks.specs.ItemLaws.{ask_order, same_ask, ask_fits}
use Rattle.tuple_asks.specs.declared.place.Phase.{Phase}
use Rattle.tuple_asks.specs.declared.place.Phase.TheVariants.{Fresh, Asking, Ended}
use Rattle.top_down_sweep.specs.declared.machine.Machine.{Machine}
use Rattle.top_down_sweep.specs.Sweeps.{IsServed, IsAsking}
use Rattle.top_down_sweep.specs.Fuel.{continued, rank_of, asks_behind, unread, weight, fuel_at, machine_fuel}
use Rattle.top_down_sweep.specs.Calls.{IsFirst}

abbrev AreWords : List ℕ → Type 0
AreWords = All (λ word. word < 2 ^ 64)

head_fits : (x : ℕ) (xs : List ℕ) → AreWords (x ∷ xs) → x < 2 ^ 64
head_fits x xs fit = fit zero x (omega arith)

tail_fits : (x : ℕ) (xs : List ℕ) → AreWords (x ∷ xs) → AreWords xs
tail_fits x xs fit = λ k d within. fit (suc k) d (omega (arith, within))

-- of two numbers that are continued by as many digits, the one that was less stays less
continued_less : (a b : ℕ) (xs ys : List ℕ) → a < b → length xs ≡ length ys → AreWords xs
    → AreWords ys → continued a xs < continued b ys
unfolding continued
continued_less a b [] [] less same first second = less
continued_less a b [] (y ∷ ys) less same first second = absurd (omega (arith, same))
continued_less a b (x ∷ xs) [] less same first second = absurd (omega (arith, same))
continued_less a b (x ∷ xs) (y ∷ ys) less same first second =
    let fits : x < 2 ^ 64 = head_fits x xs first in
    let more : a * 2 ^ 64 + x < b * 2 ^ 64 + y = omega (arith, less, fits) in
    continued_less (a * 2 ^ 64 + x) (b * 2 ^ 64 + y) xs ys more (omega (arith, same))
    (tail_fits x xs first) (tail_fits y ys second)

-- of one number that is continued by different words in turn, the one whose words aren't less is
-- greater
continued_more : (a : ℕ) (xs ys : List ℕ) → length xs ≡ length ys → AreWords xs → AreWords ys
    → is_lt (slice_cmp nat_cmp xs ys) ≡ false → xs ≢ ys
    → continued a ys < continued a xs
unfolding continued
continued_more a [] [] same first second none differ = absurd (differ refl)
continued_more a [] (y ∷ ys) same first second none differ = absurd (omega (arith, same))
continued_more a (x ∷ xs) [] same first second none differ = absurd (omega (arith, same))
continued_more a (x ∷ xs) (y ∷ ys) same first second none differ =
    let long : length xs ≡ length ys = omega (arith, same) in
    by (nat_cmp x y) (ranked x y (nat_cmp x y) refl) none
    (λ is tied. continued_more (a * 2 ^ 64 + x) xs ys long (tail_fits x xs first)
    (tail_fits y ys second) tied (λ e. differ (λ i. is i ∷ e i)))
    (λ above. continued_less (a * 2 ^ 64 + y) (a * 2 ^ 64 + x) ys xs (omega (arith, above))
    (sym long) (tail_fits y ys second) (tail_fits x xs first))
  where
    by : (o : Ordering) → MatchOrdering o (x < y) (x ≡ y) (y < x)
        → is_lt (ordering_then o (slice_cmp nat_cmp xs ys)) ≡ false
        → (x ≡ y → is_lt (slice_cmp nat_cmp xs ys) ≡ false
        → continued (a * 2 ^ 64 + x) ys < continued (a * 2 ^ 64 + x) xs)
        → (y < x → continued (a * 2 ^ 64 + y) ys < continued (a * 2 ^ 64 + x) xs)
        → continued (a * 2 ^ 64 + y) ys < continued (a * 2 ^ 64 + x) xs
    by Less below none again greater = absurd (cc)
    by Equal is none again greater = subst (λ z. continued (a * 2 ^ 64 + z) ys < continued
        (a * 2 ^ 64 + x) xs) is (again is none)
    by Greater above none again greater = greater above

-- eight words with nothing in them
abbrev zeros : List ℕ
zeros = 0 ∷ 0 ∷ 0 ∷ 0 ∷ 0 ∷ 0 ∷ 0 ∷ 0 ∷ []

zeros_fit : AreWords zeros
zeros_fit zero d within = omega arith
zeros_fit (suc zero) d within = omega arith
zeros_fit (suc (suc zero)) d within = omega arith
zeros_fit (suc (suc (suc zero))) d within = omega arith
zeros_fit (suc (suc (suc (suc zero)))) d within = omega arith
zeros_fit (suc (suc (suc (suc (suc zero))))) d within = omega arith
zeros_fit (suc (suc (suc (suc (suc (suc zero)))))) d within = omega arith
zeros_fit (suc (suc (suc (suc (suc (suc (suc zero))))))) d within = omega arith
zeros_fit (suc (suc (suc (suc (suc (suc (suc (suc k)))))))) d within = absurd
    (omega (arith, within))

-- there are no more asks than eight words can say
rank_fits : (a : Ask) → IsAsk a → rank_of a < 2 ^ 512
unfolding continued rank_of
rank_fits a is = continued_less 0 1 (ask_words a) zeros (omega arith) refl (ask_fits a is) zeros_fit

-- an ask that isn't less than the last one taken, and isn't that one, leaves fewer behind it
pub takes_on : (last : Option Ask) (a : Ask) → IsAsk a → IfSome last IsAsk → IsNoLess ask_cmp last a
    → last ≢ Some a
    → asks_behind (Some a) < asks_behind last
unfolding asks_behind rank_of
takes_on None a is was no_less differ = (let fits = rank_fits a is in omega (arith, fits))
takes_on (Some l) a is was no_less differ =
    let later = rank_later in
    let fits = rank_fits a is in
    omega (arith, fits, later)
  where
    rank_later : rank_of l < rank_of a
    rank_later = continued_more 0 (ask_words a) (ask_words l) refl (ask_fits a is) (ask_fits l was)
        (ap is_lt (sym (ask_order a l)) ∙ no_less) (λ e. differ (ap Some (sym (same_ask a l e))))

-- what the queue answers as its first ask is shown from then on
pub first_shown : (m : Machine) (last : Option Ask) (result : Result (Option Ask) SortFault)
    → last_of m.queue ≡ last → GivesValue IsAsk result → AnswersNoLess ask_cmp last result
    → IsShown (shown m.queue) result → IfOk result (λ found. IfSome found (IsFirst m))
first_shown m last (Ok None) same value order shows = tt
first_shown m last (Ok (Some a)) same value order shows =
    record {
      shown_is = shows;
      value = value;
      no_less = subst (λ l. IsNoLess ask_cmp l a) (sym same)
          order;
    }
first_shown m last (Err e) same value order shows = tt

-- where it is taken with effect, fewer are behind it
pub first_behind : (m : Machine) (a : Ask) → IsServed m → IsFirst m a → last_of m.queue ≢ Some a
    → asks_behind (Some a) < asks_behind (last_of m.queue)
first_behind m a served first differ = takes_on (last_of m.queue) a first.value
    (by (last_of m.queue) served.values.reached) first.no_less differ
  where
    by : (last : Option Ask) → IfSome last (IsReached IsAsk ask_words m.queue.sorter)
        → IfSome last IsAsk
    by None was = tt
    by (Some l) was = was.value

-- where the ask that was shown is taken, one less waits
pub taken_count : (old new : ℕ) (first found : Option Ask) (a : Ask) → first ≡ Some a
    → AnswersShown first (Ok found) → CountsDown old new (Ok found) → old ≡ new + 1
taken_count old new None found a is again count = absurd (cc)
taken_count old new (Some b) None a is again count = absurd (cc)
taken_count old new (Some b) (Some x) a is again count = count

-- where the last ask is taken once more, one less waits
pub falls_known : (old new : Machine) (a : Ask) (result : Result Unit SortFault)
    → last_of old.queue ≡ Some a → new.operands ≡ old.operands
    → OnOk result (held old.queue ≡ held new.queue + 1)
    → OnOk result (last_of new.queue ≡ Some a) → OnOk result (weight new < weight old)
falls_known old new a (Err e) known same lighter last = tt
falls_known old new a (Ok u) known same lighter last =
    let behind : asks_behind (last_of new.queue) ≡ asks_behind (last_of old.queue) = ap asks_behind
    (last ∙ sym known) in
    let nodes : unread new.operands ≡ unread old.operands = ap unread same in
    omega (arith, behind, nodes, lighter)

-- where a node is read, one less is to be read
pub falls_read : (old new : Machine) (result : Result Unit SortFault) → new.queue ≡ old.queue
    → OnOk result (unread new.operands < unread old.operands)
    → OnOk result (weight new < weight old)
falls_read old new (Err e) same fewer = tt
falls_read old new (Ok u) same fewer =
    let behind : asks_behind (last_of new.queue) ≡ asks_behind (last_of old.queue) = ap
    (λ (q : LevelQueue Ask). asks_behind (last_of q)) same in
    let waits : held new.queue ≡ held old.queue = ap (λ (q : LevelQueue Ask). held q) same
    in
    omega (arith, behind, waits, fewer)

-- where an ask is taken with effect, it puts two at most
pub falls_taken : (old new : Machine) (a : Ask) (result : Result Unit SortFault)
    → asks_behind (Some a) < asks_behind (last_of old.queue) → new.operands ≡ old.operands
    → OnOk result (held new.queue ≤ held old.queue + 1)
    → OnOk result (last_of new.queue ≡ Some a) → OnOk result (weight new < weight old)
falls_taken old new a (Err e) fewer same few last = tt
falls_taken old new a (Ok u) fewer same few last =
    let behind : asks_behind (last_of new.queue) ≡ asks_behind (Some a) = ap asks_behind last in
    let nodes : unread new.operands ≡ unread old.operands = ap unread same in
    omega (arith, behind, nodes, few, fewer)

-- where an ask is put, one more waits
pub weight_put : (old new : Machine) (result : Result Unit SortFault) → new.operands ≡ old.operands
    → last_of new.queue ≡ last_of old.queue
    → OnOk result (held new.queue ≡ held old.queue + 1)
    → OnOk result (weight new ≡ weight old + 1)
weight_put old new (Err e) same last more = tt
weight_put old new (Ok u) same last more =
    let behind : asks_behind (last_of new.queue) ≡ asks_behind (last_of old.queue) = ap asks_behind
    last in
    let nodes : unread new.operands ≡ unread old.operands = ap unread same in
    omega (arith, behind, nodes, more)

-- the fuel while asks are answered
asking_fuel : (phase : Phase) (n : ℕ) → IsAsking phase → fuel_at phase n ≡ n + 1
asking_fuel Fresh n is = absurd is
asking_fuel (Asking s) n is = refl
asking_fuel (Ended made) n is = absurd is

-- the end leaves none
pub end_falls : (before : ℕ) (m : Machine) (made : Unreduced) (result : Result Turn SortFault)
    → IfOk result (λ t. t ≡ turns.Ended) → OnOk result (m.place.phase ≡ Ended made)
    → Falls before (machine_fuel m) result
end_falls before m made (Ok turns.More) is at = absurd (cc)
end_falls before m made (Ok turns.Ended) is at = ap (λ p. fuel_at p (weight m)) at
end_falls before m made (Err e) is at = tt

-- the first ask was handled
pub handle_falls : (old mid new : Machine) (s : _) → old.place.phase ≡ Asking s
    → IsAsking new.place.phase → mid ≡ record old { queue = mid.queue }
    → last_of mid.queue ≡ last_of old.queue → held mid.queue ≡ held old.queue
    → weight new < weight mid → Falls (machine_fuel old) (machine_fuel new) (Ok turns.More)
handle_falls old mid new s asking is rest last load falls =
    let before : machine_fuel old ≡ weight old + 1 = ap (λ p. fuel_at p (weight old)) asking in
    let after : machine_fuel new ≡ weight new + 1 = asking_fuel new.place.phase (weight new) is in
    let behind : asks_behind (last_of mid.queue) ≡ asks_behind (last_of old.queue) = ap asks_behind
    last in
    let nodes : unread mid.operands ≡ unread old.operands = ap (λ (m : Machine). unread m.operands)
    rest in
    (omega (arith, after), omega (arith, before, after, behind, nodes, load, falls))

pub fewer_waits : (old new : Machine) (result : Result Unit SortFault)
    → OnOk result (held old.queue ≡ held new.queue + 1)
    → OnOk result (held new.queue ≤ held old.queue + 1)
fewer_waits old new (Err e) fewer = tt
fewer_waits old new (Ok u) fewer = omega (arith, fewer)

pub no_more_waits : (old new : Machine) (result : Result Unit SortFault)
    → OnOk result (held new.queue ≡ held old.queue)
    → OnOk result (held new.queue ≤ held old.queue + 1)
no_more_waits old new (Err e) same = tt
no_more_waits old new (Ok u) same = omega (arith, same)

-- what a test of two asks tells
abbrev same_pair : Member → Member → Bool
same_pair x y = eqb x.low y.low && eqb x.high y.high

abbrev same_asks : Ask → Ask → Bool
same_asks x y = eqb x.key y.key && ((same_pair x.members.first y.members.first &&
    (same_pair x.members.second y.members.second && same_pair x.members.third y.members.third))
    && eqb x.asker y.asker)

pair_low : (x y : Member) → same_pair x y ≡ true → x.low ≡ y.low
pair_low x y same = eqb-true x.low y.low (and_parts (eqb x.low y.low) (eqb x.high y.high) same).0

pair_high : (x y : Member) → same_pair x y ≡ true → x.high ≡ y.high
pair_high x y same = eqb-true x.high y.high (and_parts (eqb x.low y.low) (eqb x.high y.high) same).1

pub alike : (x y : Ask) → same_asks x y ≡ true → x ≡ y
alike x y same =
    let first : Bool = same_pair x.members.first y.members.first in
    let second : Bool = same_pair x.members.second y.members.second in
    let third : Bool = same_pair x.members.third y.members.third in
    let all = and_parts (eqb x.key y.key) ((first && (second && third)) && eqb x.asker y.asker) same in
    let rest = and_parts (first && (second && third)) (eqb x.asker y.asker) all.1 in
    let members = and_parts first (second && third) rest.0 in
    let others = and_parts second third members.1 in
    λ i. record {
      key = eqb-true x.key y.key all.0 i;
      members = record {
        first = record {
          low = pair_low x.members.first y.members.first members.0 i;
          high =
              pair_high x.members.first y.members.first members.0 i;
        };
        second = record {
          low = pair_low x.members.second y.members.second others.0 i;
          high =
              pair_high x.members.second y.members.second others.0 i;
        };
        third = record {
          low = pair_low x.members.third y.members.third others.1 i;
          high =
              pair_high x.members.third y.members.third others.1 i;
        };
      };
      asker = eqb-true x.asker y.asker rest.1 i;
    }

own_number : (a : ℕ) → eqb a a ≡ true
own_number a = grind (arith, tests)

itself : (x : Ask) → same_asks x x ≡ true
itself x = λ i. own_number x.key i && (((own_number x.members.first.low i && own_number
    x.members.first.high i)
    && ((own_number x.members.second.low i && own_number x.members.second.high i) &&
    (own_number x.members.third.low i && own_number x.members.third.high i))) && own_number
    x.asker i)

-- one that differs in a word is another one
pub differ_in : (last : Option Ask) (x y a : Ask) → last ≡ Some x → y ≡ x → same_asks y a ≡ false
    → last ≢ Some a
differ_in last x y a is same other found =
    let here : same_asks a a ≡ false = subst (λ o. IfSome o (λ z. same_asks z a ≡ false))
    (sym is ∙ found) (subst (λ z. same_asks z a ≡ false) same other) in
    let no : true ≡ false = sym (itself a) ∙ here in
    absurd (cc)

-- an ask was taken, and each of its sides put one at most
pub two_more : (old taken mid side new : Machine) (result : Result Unit SortFault)
    → held old.queue ≡ held taken.queue + 1 → mid.queue ≡ taken.queue
    → held side.queue ≤ held mid.queue + 1
    → OnOk result (held new.queue ≤ held side.queue + 1)
    → OnOk result (held new.queue ≤ held old.queue + 1)
two_more old taken mid side new (Err e) lighter same first second = tt
two_more old taken mid side new (Ok u) lighter same first second =
    let waits : held mid.queue ≡ held taken.queue = ap (λ (q : LevelQueue Ask). held q)
    same in
    omega (arith, lighter, waits, first, second)
