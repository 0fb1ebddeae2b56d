-- The asks that a turn puts are sound.
use Rattle.std.proofs.Common.{◌≡◌, ◌≢◌, ℕ, ◌+◌, ◌*◌, ◌/◌, ◌≤◌, ◌<◌, ◌∙◌, ◌^◌, Bool, true, false, cond, refl, subst, sym, ap, arith}
use Rattle.std.specs.Prelude.{◌==◌, ◌&&◌, ◌||◌, nat_le, nat_lt, min}
use Rattle.std.proofs.lemmas.Bool.Decides.{nat_tests}
use Rattle.std.proofs.lemmas.Bool.{and_parts, eqb-true, eq-eqb, le-leb, lt-ltb}
use Rattle.rec_words.specs.Words.{level_of, terminal, terminal_level, most_variables, IsNodeWord}
use Rattle.top_down.specs.declared.tuple.Tuple.{Tuple}
use Rattle.top_down.specs.Tuples.{level_of_tuple}
use Rattle.tuple_asks.specs.declared.ask.Member.{Member}
use Rattle.tuple_asks.specs.declared.ask.Ask.{Ask}
use Rattle.tuple_asks.specs.declared.operand.Operands.{Operands}
use Rattle.tuple_asks.specs.declared.sound.Source.{Source}
use Rattle.top_down_laws.specs.Forms.{least}
use Rattle.tuple_asks.specs.Members.{member, members_of, is_node, waiting, all_waiting, all_filled}
use Rattle.tuple_asks.specs.Soundness.{nobody, asker_word, is_asker, asks_above, stands, is_keyed, is_sound, side_number}
use Rattle.tuple_asks.specs.Operands.{AreOperands}
use Rattle.tuple_asks.proofs.MemberLaws.{Standing, Same, Split, first_stands, second_stands, third_stands}

all_three : (b c d : Bool) → b ≡ true → c ≡ true → d ≡ true → (b && (c && d)) ≡ true
all_three b c d first second third = (λ i. first i && (second i && third i))

-- one of three
data OneOf (b c d : Bool) : Type 0 where
  First : b ≡ true → OneOf b c d
  Second : c ≡ true → OneOf b c d
  Third : d ≡ true → OneOf b c d

any_of : (b c d : Bool) → OneOf b c d → (b || (c || d)) ≡ true
any_of true c d one = refl
any_of false true d one = refl
any_of false false true one = refl
any_of false false false (First is) = is
any_of false false false (Second is) = is
any_of false false false (Third is) = is

-- which of three numbers is the least
data Least (k a b c : ℕ) : Type 0 where
  FirstIs : a ≡ k → Least k a b c
  SecondIs : b ≡ k → Least k a b c
  ThirdIs : c ≡ k → Least k a b c

which : (a b c : ℕ) → Least (min a (min b c)) a b c
which a b c = by (nat_le a b) (nat_le a c) (nat_le b c) refl refl refl
  where
    by : (p q r : Bool) → nat_le a b ≡ p → nat_le a c ≡ q → nat_le b c ≡ r
        → Least (min a (min b c)) a b c
    by true true r is also too = FirstIs (grind (arith, nat_tests))
    by true false r is also too = ThirdIs (grind (arith, nat_tests))
    by false q true is also too = SecondIs (grind (arith, nat_tests))
    by false q false is also too = ThirdIs (grind (arith, nat_tests))

-- a pointer as a member is the node that it is, and stands from each node that comes no later
node_is : (k w : ℕ) → w ≡ k → is_node k (member w) ≡ true
node_is k w is = λ i. eq-eqb w k is i && eq-eqb w k is i

pointer_stands : (k w : ℕ) → k ≤ w → stands k (member w) ≡ true
pointer_stands k w from = (λ i. cond (eq-eqb w w refl i) (nat_le k w)
    (nat_lt (level_of k) (level_of w) && nat_lt (level_of k) (level_of w))) ∙ le-leb k w from

-- the ask for a tuple is for the least of its pointers
pub tuple_keyed : (x : Tuple) (k asker : ℕ) → k ≡ least x
    → is_keyed (record { key = k; members = members_of x; asker = asker }) ≡ true
tuple_keyed x k asker is = λ i. any_of _ _ _ (node (which x.first x.second x.third)) i && all_three
    _ _ _ (pointer_stands k x.first (omega (arith, is)))
    (pointer_stands k x.second (omega (arith, is))) (pointer_stands k x.third (omega (arith, is))) i
  where
    node : Least (least x) x.first x.second x.third
        → OneOf (is_node k (member x.first)) (is_node k (member x.second))
        (is_node k (member x.third))
    node (FirstIs same) = First (node_is k x.first (same ∙ sym is))
    node (SecondIs same) = Second (node_is k x.second (same ∙ sym is))
    node (ThirdIs same) = Third (node_is k x.third (same ∙ sym is))

-- a node asks for a deeper one
pub node_asks : (s : Source) (k : ℕ) → level_of s.uid < most_variables → level_of s.uid < level_of k
    → asks_above (asker_word s) k ≡ true
node_asks s k node deeper =
    let uid : asker_word s / 2 ≡ s.uid = half s.high in
    let there : is_asker (asker_word s) ≡ true = ap (λ w. nat_lt (level_of w) most_variables) uid
    ∙ lt-ltb _ _ node in
    let above : nat_lt (level_of (asker_word s / 2)) (level_of k) ≡ true = ap
    (λ w. nat_lt (level_of w) (level_of k)) uid ∙ lt-ltb _ _ deeper in
    (λ i. cond (there i) (above i) (asker_word s == nobody))
  where
    half : (b : Bool) → (2 * s.uid + side_number b) / 2 ≡ s.uid
    half true = omega arith
    half false = omega arith

-- nobody asks for the root
pub nobody_asks : (k : ℕ) → asks_above nobody k ≡ true
nobody_asks k = refl

-- a tuple's ask is of no level above its own
pub side_deeper : (x : Tuple) (k level : ℕ) → k ≡ least x → level < level_of_tuple x
    → level < level_of k
side_deeper x k level is deeper = omega (arith, is, deeper)

-- a node's ask for a deeper tuple is sound
pub side_sound : (s : Source) (x : Tuple) (k asker : ℕ) → k ≡ least x
    → asker ≡ asker_word s → level_of s.uid < level_of_tuple x → level_of_tuple x < terminal_level
    → is_sound (record { key = k; members = members_of x; asker = asker }) ≡ true
side_sound s x k asker is word deeper node =
    let above : asks_above asker k ≡ true = ap (λ w. asks_above w k) word ∙ node_asks
    s k (omega (arith, deeper, node)) (side_deeper x k (level_of s.uid) is deeper) in
    (λ i. tuple_keyed x k asker is i && above i)

-- so is nobody's ask for a tuple
pub root_sound : (x : Tuple) (k asker : ℕ) → k ≡ least x → asker ≡ nobody
    → is_sound (record { key = k; members = members_of x; asker = asker }) ≡ true
root_sound x k asker is word =
    let above : asks_above asker k ≡ true = ap (λ w. asks_above w k) word ∙ nobody_asks k in
    (λ i. tuple_keyed x k asker is i && above i)

-- an ask that was sound, with the members that were read, for the node that is read next
module _ (n : ℕ) (o : Operands) (a : Ask) (k : ℕ) (are : AreOperands n o)
    (keyed : is_keyed a ≡ true) (node : IsNodeWord a.key)
    (is : k ≡ least (all_waiting (level_of a.key) (all_filled o a))) (below : k < 2 ^ 63) where
  -- a member that waits for that node is it
  data IsIt (m : Member) : Type 0 where
    It : m.low ≡ k → m.high ≡ k → level_of k ≡ level_of a.key → IsIt m

  waits_for : (m : Member) → waiting (level_of a.key) m ≡ k → IsIt m
  waits_for m waits = by (m.low == m.high) (level_of m.low == level_of a.key) refl refl
    where
      by : (b c : Bool) → (m.low == m.high) ≡ b → (level_of m.low == level_of a.key) ≡ c → IsIt m
      by true true same level =
          let low : m.low ≡ k = sym (λ i. cond (same i && level i) m.low (terminal true)) ∙ waits in
          let both : m.low ≡ m.high = eqb-true _ _ same in
          It low (sym both ∙ low) (ap level_of (sym low) ∙ eqb-true _ _ level)
      by true false same level =
          let none : terminal true ≡ k = sym (λ i. cond (same i && level i) m.low (terminal true))
          ∙ waits in
          absurd (omega (arith, none, below))
      by false c same level =
          let none : terminal true ≡ k = sym (λ i. cond (same i && level i) m.low (terminal true))
          ∙ waits in
          absurd (omega (arith, none, below))

  level_from : (m : Member) → IsIt m → level_of k ≡ level_of a.key
  level_from m (It low high level) = level

  node_from : (m : Member) → IsIt m → is_node k m ≡ true
  node_from m (It low high level) = λ i. eq-eqb m.low k low i && eq-eqb m.high k high i

  abbrev first_read : Member
  first_read = (all_filled o a).first

  abbrev second_read : Member
  second_read = (all_filled o a).second

  abbrev third_read : Member
  third_read = (all_filled o a).third

  waiting_one : Least k (waiting (level_of a.key) first_read) (waiting (level_of a.key) second_read)
      (waiting (level_of a.key) third_read)
  waiting_one = subst (λ l. Least l (waiting (level_of a.key) first_read)
      (waiting (level_of a.key) second_read) (waiting (level_of a.key) third_read)) (sym is)
      (which _ _ _)

  -- it is of the same level
  pub next_level : level_of k ≡ level_of a.key
  next_level = by waiting_one
    where
      by : Least k (waiting (level_of a.key) first_read) (waiting (level_of a.key) second_read)
          (waiting (level_of a.key) third_read) → level_of k ≡ level_of a.key
      by (FirstIs waits) = level_from first_read (waits_for first_read waits)
      by (SecondIs waits) = level_from second_read (waits_for second_read waits)
      by (ThirdIs waits) = level_from third_read (waits_for third_read waits)

  -- each member stands from it on
  stands_on : (m : Member) → Standing a.key m → k ≤ waiting (level_of a.key) m → stands k m ≡ true
  stands_on m (Split split low high) from =
      let deep : nat_lt (level_of k) (level_of m.low) ≡ true = lt-ltb _ _
      (subst (λ l. l < level_of m.low) (sym next_level) low) in
      let high_deep : nat_lt (level_of k) (level_of m.high) ≡ true = lt-ltb _ _
      (subst (λ l. l < level_of m.high) (sym next_level) high) in
      λ i. cond (split i) (nat_le k m.low) (deep i && high_deep i)
  stands_on m (Same same after) from = λ i. cond (eq-eqb m.low m.high same i)
      (le-leb k m.low (by (level_of m.low == level_of a.key) refl) i)
      (nat_lt (level_of k) (level_of m.low) && nat_lt (level_of k) (level_of m.high))
    where
      by : (c : Bool) → (level_of m.low == level_of a.key) ≡ c → k ≤ m.low
      by true level =
          let waits : waiting (level_of a.key) m ≡ m.low =
          (λ i. cond (eq-eqb m.low m.high same i && level i) m.low (terminal true)) in
          omega (arith, from, waits)
      by false level =
          let other : level_of m.low ≢ level_of a.key = grind (arith, nat_tests) in
          let k_level = next_level in
          omega (arith, after, other, k_level)

  -- so it is one for its key
  pub again_keyed : is_keyed (record { key = k; members = all_filled o a; asker = a.asker }) ≡ true
  again_keyed = λ i. any_of _ _ _ (one waiting_one) i && all_three _ _ _
      (stands_on first_read (first_stands n o a are keyed node) (omega (arith, is)))
      (stands_on second_read (second_stands n o a are keyed node) (omega (arith, is)))
      (stands_on third_read (third_stands n o a are keyed node) (omega (arith, is))) i
    where
      one : Least k (waiting (level_of a.key) first_read) (waiting (level_of a.key) second_read)
          (waiting (level_of a.key) third_read)
          → OneOf (is_node k first_read) (is_node k second_read) (is_node k third_read)
      one (FirstIs waits) = First (node_from first_read (waits_for first_read waits))
      one (SecondIs waits) = Second (node_from second_read (waits_for second_read waits))
      one (ThirdIs waits) = Third (node_from third_read (waits_for third_read waits))

  pub again_sound : is_sound a ≡ true
      → is_sound (record { key = k; members = all_filled o a; asker = a.asker }) ≡ true
  again_sound sound = λ i. again_keyed i &&
      ((λ j. cond (is_asker a.asker) (nat_lt (level_of (a.asker / 2)) (next_level j))
      (a.asker == nobody)) ∙ (and_parts _ _ sound).1) i
