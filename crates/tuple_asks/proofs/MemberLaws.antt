-- What the members of a sound ask are once its key is filled in.
use Rattle.std.proofs.Common.{◌≡◌, ◌≢◌, ℕ, ◌≤◌, ◌<◌, ◌∙◌, ◌^◌, Bool, true, false, cond, refl, subst, sym, ap, arith}
use Rattle.std.specs.Prelude.{Option, Some, None, IfSome, ◌==◌, ◌&&◌, nat_le, nat_lt}
use Rattle.std.proofs.lemmas.Bool.Decides.{nat_tests}
use Rattle.std.proofs.lemmas.Bool.{and_parts, or_parts, eqb-true, eq-eqb, ne_eqb, leb-true, ltb-true}
use Rattle.rec_words.specs.Words.{level_of, terminal, IsNodeWord}
use Rattle.rec_words.specs.declared.node.Node.{Node}
use Rattle.canon_file.specs.NodeFiles.{IsProper}
use Rattle.top_down.specs.Tuples.{level_of_tuple}
use Rattle.tuple_asks.specs.declared.ask.Member.{Member}
use Rattle.tuple_asks.specs.declared.ask.Ask.{Ask}
use Rattle.tuple_asks.specs.declared.operand.Operands.{Operands}
use Rattle.top_down_laws.specs.Forms.{least}
use Rattle.tuple_asks.specs.Members.{is_node, wants, filled, waiting, all_waiting, want, all_filled, IsResolved}
use Rattle.tuple_asks.specs.Soundness.{stands, is_keyed}
use Rattle.tuple_asks.specs.Operands.{AreOperands}

-- a member stands from a node on, by cases
pub data Standing (key : ℕ) (m : Member) : Type 0 where
  Same : m.low ≡ m.high → key ≤ m.low → Standing key m
  Split : (m.low == m.high) ≡ false → level_of key < level_of m.low → level_of key < level_of m.high → Standing key m

standing : (key : ℕ) (m : Member) → stands key m ≡ true → Standing key m
standing key m is = by (m.low == m.high) refl is
  where
    by : (b : Bool) → (m.low == m.high) ≡ b → cond b (nat_le key m.low) (nat_lt (level_of key) (level_of m.low) && nat_lt (level_of key) (level_of m.high)) ≡ true → Standing key m
    by true same from = Same (eqb-true m.low m.high same) (leb-true key m.low from)
    by false split deeper =
        let parts = and_parts _ _ deeper in
        Split split (ltb-true _ _ parts.0) (ltb-true _ _ parts.1)

-- the pointers of a node that is filled in lie deeper, and are another member than the node
node_stands : (n key : ℕ) (x : Node) → x.uid ≡ key → IsProper n x → Standing key (record { low = x.low; high = x.high })
node_stands n key x same proper =
    Split (ne_eqb x.low x.high proper.differ) (subst (λ k. level_of k < level_of x.low) same proper.low) (subst (λ k. level_of k < level_of x.high) same proper.high)

node_other : (n key : ℕ) (x : Node) → x.uid ≡ key → IsProper n x → is_node key (record { low = x.low; high = x.high }) ≡ false
node_other n key x same proper =
    let deeper : level_of key < level_of x.low = subst (λ k. level_of k < level_of x.low) same proper.low in
    let differ : x.low ≢ key = λ is. (let level : level_of x.low ≡ level_of key = ap level_of is in omega (arith, deeper, level)) in
    ap (λ b. b && (x.high == key)) (ne_eqb x.low key differ)

filled_stands : (n key : ℕ) (hand : Option Node) (m : Member) → IfSome hand (IsProper n) → stands key m ≡ true → Standing key (filled key hand m)
filled_stands n key None m proper is = standing key m is
filled_stands n key (Some x) m proper is = by (x.uid == key) (is_node key m) refl
  where
    by : (b c : Bool) → (x.uid == key) ≡ b → Standing key (cond (b && c) (record { low = x.low; high = x.high }) m)
    by true true same = node_stands n key x (eqb-true x.uid key same) proper
    by true false same = standing key m is
    by false c same = standing key m is

filled_other : (n key : ℕ) (hand : Option Node) (m : Member) → IfSome hand (IsProper n) → wants key hand m ≡ false → is_node key (filled key hand m) ≡ false
filled_other n key None m proper none = none
filled_other n key (Some x) m proper none = by (x.uid == key) (is_node key m) refl refl none
  where
    by : (b c : Bool) → (x.uid == key) ≡ b → is_node key m ≡ c → cond b false c ≡ false → is_node key (cond (b && c) (record { low = x.low; high = x.high }) m) ≡ false
    by true true same is none = node_other n key x (eqb-true x.uid key same) proper
    by true false same is none = is
    by false c same is none = is ∙ none

-- a member that isn't the key's node waits for a later one, if for any
waits_later : (key : ℕ) (m : Member) → IsNodeWord key → Standing key m → is_node key m ≡ false → key < waiting (level_of key) m
waits_later key m node (Split split low high) other =
    let none : waiting (level_of key) m ≡ terminal true = ap (λ b. cond (b && (level_of m.low == level_of key)) m.low (terminal true)) split in
    subst (λ w. key < w) (sym none) (omega (arith, node))
waits_later key m node (Same same from) other =
    let differ : key ≢ m.low = λ is. (let both : is_node key m ≡ true = is_key is in let no : true ≡ false = sym both ∙ other in absurd (cc)) in
    by ((m.low == m.high) && (level_of m.low == level_of key)) differ
  where
    is_key : key ≡ m.low → is_node key m ≡ true
    is_key is = (λ j. eq-eqb m.low key (sym is) j && eq-eqb m.high key (sym (is ∙ same)) j)

    by : (b : Bool) → key ≢ m.low → key < cond b m.low (terminal true)
    by true differ = omega (arith, from, differ)
    by false differ = omega (arith, node)

-- a member that waits for no node was read
read_deeper : (key : ℕ) (m : Member) → IsNodeWord key → Standing key m → (waiting (level_of key) m < 2 ^ 63 → ⊥) → (level_of key < level_of m.low) × (level_of key < level_of m.high)
read_deeper key m node (Split split low high) none = (low, high)
read_deeper key m node (Same same from) none = by (level_of m.low == level_of key) refl none
  where
    test : (m.low == m.high) ≡ true
    test = grind (arith, nat_tests)

    by : (b : Bool) → (level_of m.low == level_of key) ≡ b → (waiting (level_of key) m < 2 ^ 63 → ⊥) → (level_of key < level_of m.low) × (level_of key < level_of m.high)
    by true is none =
        let level : level_of m.low ≡ level_of key = eqb-true _ _ is in
        let waits : waiting (level_of key) m ≡ m.low = λ j. cond (test j && is j) m.low (terminal true) in
        absurd (none (subst (λ w. w < 2 ^ 63) (sym waits) (omega (arith, level, node))))
    by false is none =
        let differ : level_of m.low ≢ level_of key = grind (arith, nat_tests) in
        let low : level_of key < level_of m.low = omega (arith, from, differ) in
        (low, subst (λ w. level_of key < level_of w) same low)

module _ (n : ℕ) (o : Operands) (a : Ask) (are : AreOperands n o) (keyed : is_keyed a ≡ true) (node : IsNodeWord a.key) where
  all_stand : (stands a.key a.members.first && (stands a.key a.members.second && stands a.key a.members.third)) ≡ true
  all_stand = (and_parts _ _ keyed).1

  pub first_stands : Standing a.key (filled a.key o.first.hand a.members.first)
  first_stands = filled_stands n a.key o.first.hand a.members.first are.first.hand_is (and_parts _ _ all_stand).0

  pub second_stands : Standing a.key (filled a.key o.second.hand a.members.second)
  second_stands = filled_stands n a.key o.second.hand a.members.second are.second.hand_is (and_parts _ _ (and_parts _ _ all_stand).1).0

  pub third_stands : Standing a.key (filled a.key o.third.hand a.members.third)
  third_stands = filled_stands n a.key o.third.hand a.members.third are.third.hand_is (and_parts _ _ (and_parts _ _ all_stand).1).1

  -- what is read next for an ask whose node is at hand comes later
  pub next_later : want o a ≡ false → a.key < least (all_waiting (level_of a.key) (all_filled o a))
  next_later none =
      let first = waits_later a.key _ node first_stands (filled_other n a.key o.first.hand a.members.first are.first.hand_is (or_parts _ _ none).0) in
      let second = waits_later a.key _ node second_stands (filled_other n a.key o.second.hand a.members.second are.second.hand_is (or_parts _ _ (or_parts _ _ none).1).0) in
      let third = waits_later a.key _ node third_stands (filled_other n a.key o.third.hand a.members.third are.third.hand_is (or_parts _ _ (or_parts _ _ none).1).1) in
      all_later _ _ _ _ first second third
    where
      all_later : (k x y z : ℕ) → k < x → k < y → k < z → k < least (record { first = x; second = y; third = z })
      all_later k x y z first second third = omega (arith, first, second, third)

  -- where nothing is read next, all was read
  pub all_resolved : (least (all_waiting (level_of a.key) (all_filled o a)) < 2 ^ 63 → ⊥) → IsResolved (level_of a.key) (all_filled o a)
  all_resolved none =
      let first = read_deeper a.key _ node first_stands (λ w. none (first_least _ _ _ w)) in
      let second = read_deeper a.key _ node second_stands (λ w. none (second_least _ _ _ w)) in
      let third = read_deeper a.key _ node third_stands (λ w. none (third_least _ _ _ w)) in
      record { low = all_deeper _ _ _ _ first.0 second.0 third.0; high = all_deeper _ _ _ _ first.1 second.1 third.1 }
    where
      first_least : (x y z : ℕ) → x < 2 ^ 63 → least (record { first = x; second = y; third = z }) < 2 ^ 63
      first_least x y z below = omega (arith, below)

      second_least : (x y z : ℕ) → y < 2 ^ 63 → least (record { first = x; second = y; third = z }) < 2 ^ 63
      second_least x y z below = omega (arith, below)

      third_least : (x y z : ℕ) → z < 2 ^ 63 → least (record { first = x; second = y; third = z }) < 2 ^ 63
      third_least x y z below = omega (arith, below)

      all_deeper : (l x y z : ℕ) → l < level_of x → l < level_of y → l < level_of z → l < level_of_tuple (record { first = x; second = y; third = z })
      all_deeper l x y z first second third = omega (arith, first, second, third)
