-- What a member of a tuple is while nodes of its level are read.
use Rattle.std.proofs.Common.{◌≡◌, ◌≢◌, ℕ, ◌≤◌, ◌<◌, ◌∙◌, ◌^◌, Bool, true, false, cond, refl, subst, sym, ap, inl, inr, arith}
use Rattle.std.specs.Prelude.{Option, Some, None, ◌⊎◌, ◌==◌, ◌&&◌, List, [], ◌∷◌}
use Rattle.std.proofs.lemmas.Bool.{eq-eqb, ne_eqb, eqb-true, lt-ltb, le-ltb}
use Rattle.list_laws.proofs.MemberLaws.{has_right}
use Rattle.rec_words.specs.Words.{level_of, terminal}
use Rattle.rec_words.specs.declared.node.Node.{Node}
use Rattle.canon_file.specs.declared.row.Row.{Row}
use Rattle.canon_file.specs.Members.{Has}
use Rattle.canon_file.specs.NodeFiles.{IsDescending}
use Rattle.canon_file.specs.Walks.{is_at, row_at}
use Rattle.arc_diagrams.specs.Arcs.{onward}
use Rattle.top_down_laws.specs.Forms.{pointers_of, twice, is_node, wants, filled, unread_at, member_at, IsUpToKey}
use Rattle.top_down_laws.specs.Readings.{IsIn, IsReduced, IsReadTo}
use Rattle.top_down_laws.proofs.NumberTests.{Order, Before, Same, Behind, order}

-- the pointer of a row on a side
abbrev pub pointer_on : Bool → Row → ℕ
pointer_on side r = cond side r.high r.low

pub row_at-node : (nodes : List Node) → IsDescending nodes → (x : Node) → Has x nodes →
    row_at nodes x.uid ≡ pointers_of x
row_at-node [] down x m = absurd m
row_at-node (y ∷ ys) down x (inl e) =
    let same : (y.uid == x.uid) ≡ true = eq-eqb y.uid x.uid (ap (λ (z : Node). z.uid) e) in
    rw same (ap pointers_of e)
row_at-node (y ∷ ys) down x (inr m) =
    let below : x.uid < y.uid = down.0 x m in
    let other : (y.uid == x.uid) ≡ false = ne_eqb y.uid x.uid (λ same. omega (
      arith,
      same,
      below,
    )) in
    rw other (row_at-node ys down.1 x m)

-- a pointer that isn't a truth value is a node of its diagram
pub node_in : (nodes : List Node) (w : ℕ) → IsIn nodes w → w < 2 ^ 63
    → (x : Node) × Has x nodes × (x.uid ≡ w)
node_in nodes w (inl (inl is)) low = absurd (omega (arith, is, low))
node_in nodes w (inl (inr is)) low = absurd (omega (arith, is, low))
node_in nodes w (inr found) low = found

-- the node at hand is one of its diagram
pub hand_in : (nodes unread : List Node) (x : Node) → IsReadTo nodes unread (Some x) → Has x nodes
hand_in nodes unread x (behind, is) =
    subst (Has x) (sym is) (has_right x unread (x ∷ behind) (inl refl))

module _ (n : ℕ) (nodes : List Node) (reduced : IsReduced n nodes) where
  -- the two pointers of a node differ
  pub two_pointers : (w : ℕ) → IsIn nodes w → w < 2 ^ 63
      → (row_at nodes w).low ≢ (row_at nodes w).high
  two_pointers w is low =
      let (x, m, uid) = node_in nodes w is low in
      let row : row_at nodes w ≡ pointers_of x =
      ap (row_at nodes) (sym uid) ∙ row_at-node nodes reduced.descend x m in
      λ same. (reduced.proper x m).differ
      (sym (ap (λ (r : Row). r.low) row) ∙ same ∙ ap (λ (r : Row). r.high) row)

  -- a member that was read isn't the key's node, nor does it wait
  pub split_row : (key : ℕ) (r : Row) → r.low ≢ r.high → is_node key r ≡ false
  split_row key r differ = by (r.low == key) (r.high == key) refl refl
    where
      by : (b c : Bool) → (r.low == key) ≡ b → (r.high == key) ≡ c → (b && c) ≡ false
      by true true low high =
          absurd (differ (eqb-true r.low key low ∙ sym (eqb-true r.high key high)))
      by true false low high = refl
      by false c low high = refl

  split_waits : (level : ℕ) (r : Row) → r.low ≢ r.high → unread_at level r ≡ terminal true
  split_waits level r differ =
      ap (λ b. cond (b && (level_of r.low == level)) r.low (terminal true))
      (ne_eqb r.low r.high differ)

  -- a member stays that isn't the key's node
  stays : (key : ℕ) (hand : Option Node) (r : Row) → is_node key r ≡ false → filled key hand r ≡ r
  stays key None r other = refl
  stays key (Some x) r other = by (x.uid == key) (is_node key r) other
    where
      by : (b c : Bool) → c ≡ false → cond (b && c) (pointers_of x) r ≡ r
      by true true other = absurd cc
      by true false other = refl
      by false c other = refl

  -- what is filled in for a key's node is at hand
  fills : (key : ℕ) (unread : List Node) (hand : Option Node) (w : ℕ) → w ≡ key
      → IsReadTo nodes unread hand →
      wants key hand (twice w) ≡ false → filled key hand (twice w) ≡ row_at nodes w
  fills key unread None w is reading none =
      absurd (let both : is_node key (twice w) ≡ true =
      (λ j. eq-eqb w key is j && eq-eqb w key is j) in
      let no : true ≡ false = sym both ∙ none in cc)
  fills key unread (Some x) w is reading none = by (x.uid == key) refl none
    where
      both : is_node key (twice w) ≡ true
      both = (λ j. eq-eqb w key is j && eq-eqb w key is j)

      by : (b : Bool) → (x.uid == key) ≡ b → cond b false (is_node key (twice w)) ≡ false →
          cond (b && is_node key (twice w)) (pointers_of x) (twice w) ≡ row_at nodes w
      by true same none =
          ap (λ c. cond c (pointers_of x) (twice w)) both
          ∙ sym (row_at-node nodes reduced.descend x (hand_in nodes unread x reading))
          ∙ ap (row_at nodes) (eqb-true x.uid key same ∙ sym is)
      by false same none = let no : true ≡ false = sym both ∙ none in absurd cc

  module _ (key : ℕ) (node : key < 2 ^ 63) (w : ℕ) (is : IsIn nodes w) where
    pub was_read : w < key → member_at (row_at nodes) key w ≡ row_at nodes w
    was_read before = ap (λ b. cond b (row_at nodes w) (twice w)) (lt-ltb w key before)

    pub waits : key ≤ w → member_at (row_at nodes) key w ≡ twice w
    waits from = ap (λ b. cond b (row_at nodes w) (twice w)) (le-ltb w key from)

    -- once the key is filled in, what comes up to it was read, and what comes behind it waits
    module _ (unread : List Node) (hand : Option Node) (reading : IsReadTo nodes unread hand)
        (none : wants key hand (member_at (row_at nodes) key w) ≡ false) where
      pub filled_read : w ≤ key → filled key hand (member_at (row_at nodes) key w) ≡ row_at nodes w
      filled_read upto = by (order w key)
        where
          by : Order w key → filled key hand (member_at (row_at nodes) key w) ≡ row_at nodes w
          by (Before before) =
              let differ : (row_at nodes w).low ≢ (row_at nodes w).high =
              two_pointers w is (omega (arith, before, node)) in
              ap (filled key hand) (was_read before)
              ∙ stays key hand (row_at nodes w) (split_row key (row_at nodes w) differ)
          by (Same same) =
              let here : member_at (row_at nodes) key w ≡ twice w = waits (omega (arith, same)) in
              ap (filled key hand) here ∙ fills key unread hand w same reading
              (ap (wants key hand) (sym here) ∙ none)
          by (Behind behind) = absurd (omega (arith, upto, behind))

      pub filled_waits : key < w → filled key hand (member_at (row_at nodes) key w) ≡ twice w
      filled_waits behind =
          let other : (w == key) ≡ false = ne_eqb w key (λ same. omega (arith, same, behind)) in
          let no : is_node key (twice w) ≡ false = ap (λ b. b && (w == key)) other in
          ap (filled key hand) (waits (omega (arith, behind))) ∙ stays key hand (twice w) no

      -- the member waits where it is a node of the level behind the key
      pub waits_behind : level_of key ≤ level_of w
          → key < unread_at (level_of key) (filled key hand (member_at (row_at nodes) key w))
      waits_behind deep = by (order w key)
        where
          read : w ≤ key → key < unread_at (level_of key)
              (filled key hand (member_at (row_at nodes) key w))
          read upto =
              let differ : (row_at nodes w).low ≢ (row_at nodes w).high =
              two_pointers w is (omega (arith, upto, node)) in
              let none_waits : unread_at (level_of key)
              (filled key hand (member_at (row_at nodes) key w)) ≡ terminal true =
              ap (unread_at (level_of key)) (filled_read upto)
              ∙ split_waits (level_of key) (row_at nodes w) differ in
              omega (arith, none_waits, node)

          at : (b : Bool) → key < w → key < cond b w (terminal true)
          at true behind = behind
          at false behind = omega (arith, node)

          by : Order w key → key < unread_at (level_of key)
              (filled key hand (member_at (row_at nodes) key w))
          by (Before before) = read (omega (arith, before))
          by (Same same) = read (omega (arith, same))
          by (Behind behind) =
              let same : (w == w) ≡ true = eq-eqb w w refl in
              let is_twice : unread_at (level_of key)
              (filled key hand (member_at (row_at nodes) key w))
              ≡ cond (level_of w == level_of key) w (terminal true) =
              ap (unread_at (level_of key)) (filled_waits behind)
              ∙ ap (λ b. cond (b && (level_of w == level_of key)) w (terminal true)) same in
              subst (λ v. key < v) (sym is_twice) (at (level_of w == level_of key) behind)

      -- a member that waits behind the key
      pub waits_there : level_of key ≤ level_of w
          → unread_at (level_of key) (filled key hand (member_at (row_at nodes) key w)) < 2 ^ 63 →
          (key < w) × (level_of w ≡ level_of key)
          × (unread_at (level_of key) (filled key hand (member_at (row_at nodes) key w)) ≡ w)
      waits_there deep low = by (order w key)
        where
          later : ℕ
          later = unread_at (level_of key) (filled key hand (member_at (row_at nodes) key w))

          read : w ≤ key → (key < w) × (level_of w ≡ level_of key) × (later ≡ w)
          read upto =
              let differ : (row_at nodes w).low ≢ (row_at nodes w).high =
              two_pointers w is (omega (arith, upto, node)) in
              let none_waits : later ≡ terminal true =
              ap (unread_at (level_of key)) (filled_read upto)
              ∙ split_waits (level_of key) (row_at nodes w) differ in
              absurd (omega (arith, none_waits, low))

          at : key < w → later ≡ cond (level_of w == level_of key) w (terminal true) → (b : Bool)
              → (level_of w == level_of key) ≡ b →
              (key < w) × (level_of w ≡ level_of key) × (later ≡ w)
          at behind is_twice true same = (
            behind,
            eqb-true _ _ same,
            is_twice ∙ ap (λ b. cond b w (terminal true)) same,
          )
          at behind is_twice false other =
              let none_waits : later ≡ terminal true =
              is_twice ∙ ap (λ b. cond b w (terminal true)) other in
              absurd (omega (arith, none_waits, low))

          by : Order w key → (key < w) × (level_of w ≡ level_of key) × (later ≡ w)
          by (Before before) = read (omega (arith, before))
          by (Same same) = read (omega (arith, same))
          by (Behind behind) =
              let same : (w == w) ≡ true = eq-eqb w w refl in
              let is_twice : later ≡ cond (level_of w == level_of key) w (terminal true) =
              ap (unread_at (level_of key)) (filled_waits behind)
              ∙ ap (λ b. cond (b && (level_of w == level_of key)) w (terminal true)) same in
              at behind is_twice (level_of w == level_of key) refl

      -- a node of the level behind the key waits
      pub does_wait : key < w → level_of w ≡ level_of key →
          unread_at (level_of key) (filled key hand (member_at (row_at nodes) key w)) ≡ w
      does_wait behind level =
          ap (unread_at (level_of key)) (filled_waits behind)
          ∙ (λ j. cond (eq-eqb w w refl j && eq-eqb (level_of w) (level_of key) level j) w
          (terminal true))

      -- a member is read up to the next key, where none of its level stands between
      pub reads_on : (next : ℕ) → level_of key ≤ level_of w → level_of next ≡ level_of key
          → key < next
          → next ≤ unread_at (level_of key) (filled key hand (member_at (row_at nodes) key w))
          → filled key hand (member_at (row_at nodes) key w) ≡ member_at (row_at nodes) next w
      reads_on next deep level later least = by (order w key)
        where
          read : w ≤ key → filled key hand (member_at (row_at nodes) key w)
              ≡ member_at (row_at nodes) next w
          read upto = filled_read upto
              ∙ sym (ap (λ b. cond b (row_at nodes w) (twice w)) (lt-ltb w next (omega (
                arith,
                upto,
                later,
              ))))

          behind_next : key < w → (level_of w ≡ level_of key) ⊎ (level_of key < level_of w)
              → next ≤ w
          behind_next behind (inl same) = subst (λ v. next ≤ v) (does_wait behind same) least
          behind_next behind (inr deeper) = omega (arith, level, deeper)

          split : (a b : ℕ) → a ≤ b → (b ≡ a) ⊎ (a < b)
          split a b from = at (order a b)
            where
              at : Order a b → (b ≡ a) ⊎ (a < b)
              at (Before before) = inr before
              at (Same same) = inl (sym same)
              at (Behind behind) = absurd (omega (arith, from, behind))

          by : Order w key → filled key hand (member_at (row_at nodes) key w)
              ≡ member_at (row_at nodes) next w
          by (Before before) = read (omega (arith, before))
          by (Same same) = read (omega (arith, same))
          by (Behind behind) =
              let from : next ≤ w = behind_next behind (split (level_of key) (level_of w) deep) in
              filled_waits behind ∙ sym (ap (λ b. cond b (row_at nodes w) (twice w))
              (le-ltb w next from))

      -- where the key is the last of the level, the member was read where it is of the level
      module _ (deep : level_of key ≤ level_of w) (last : IsUpToKey key w) where
        pub side_pointer : (side : Bool)
            → pointer_on side (filled key hand (member_at (row_at nodes) key w))
            ≡ onward (row_at nodes) (level_of key) side w
        side_pointer side = by (order w key)
          where
            either : ℕ → Bool → ℕ
            either v b = cond b (cond side (row_at nodes v).high (row_at nodes v).low) v

            same_either : (b : Bool) → cond b w w ≡ w
            same_either true = refl
            same_either false = refl

            read : w ≤ key
                → pointer_on side (filled key hand (member_at (row_at nodes) key w))
                ≡ onward (row_at nodes) (level_of key) side w
            read upto =
                let at : is_at (level_of key) w ≡ true = lt-ltb _ _ (omega (arith, upto)) in
                ap (pointer_on side) (filled_read upto) ∙ sym (ap (either w) at)

            by : Order w key
                → pointer_on side (filled key hand (member_at (row_at nodes) key w))
                ≡ onward (row_at nodes) (level_of key) side w
            by (Before before) = read (omega (arith, before))
            by (Same same) = read (omega (arith, same))
            by (Behind behind) =
                let other : level_of w ≢ level_of key = λ same. (let upto : w ≤ key = last same in
                omega (arith, behind, upto)) in
                let at : is_at (level_of key) w ≡ false =
                le-ltb _ _ (omega (arith, deep, other)) in
                ap (pointer_on side) (filled_waits behind)
                ∙ same_either side ∙ sym (ap (either w) at)

  -- members that look the same are the same
  pub same_member : (key : ℕ) → key < 2 ^ 63 → (v w : ℕ) → IsIn nodes v → IsIn nodes w
      → level_of key ≤ level_of v → level_of key ≤ level_of w
      → member_at (row_at nodes) key v ≡ member_at (row_at nodes) key w → v ≡ w
  same_member key node v w in_v in_w deep_v deep_w same = by (before v) (before w)
    where
      before : (u : ℕ) → (u < key) ⊎ (key ≤ u)
      before u = at (order u key)
        where
          at : Order u key → (u < key) ⊎ (key ≤ u)
          at (Before less) = inl less
          at (Same is) = inr (omega (arith, is))
          at (Behind more) = inr (omega (arith, more))

      -- a member that was read isn't one that waits
      mixed : (a b : ℕ) → IsIn nodes a → a < key → member_at (row_at nodes) key a ≡ row_at nodes a
          → row_at nodes a ≡ twice b → ⊥
      mixed a b in_a less read is =
          two_pointers a in_a (omega (arith, less, node)) (ap (λ (r : Row). r.low) is
          ∙ sym (ap (λ (r : Row). r.high) is))

      both_read : v < key → w < key → v ≡ w
      both_read less_v less_w =
          let (x, m, uid_x) = node_in nodes v in_v (omega (arith, less_v, node)) in
          let (y, k, uid_y) = node_in nodes w in_w (omega (arith, less_w, node)) in
          let rows : row_at nodes v ≡ row_at nodes w =
          sym (was_read key node v in_v less_v) ∙ same ∙ was_read key node w in_w less_w in
          let nodes_same : pointers_of x ≡ pointers_of y =
          sym (row_at-node nodes reduced.descend x m) ∙ ap (row_at nodes) uid_x ∙ rows
          ∙ ap (row_at nodes) (sym uid_y)
          ∙ row_at-node nodes reduced.descend y k in
          let level_v : level_of v ≡ level_of key = omega (arith, less_v, deep_v) in
          let level_w : level_of w ≡ level_of key = omega (arith, less_w, deep_w) in
          sym uid_x ∙ reduced.differ x y m k (ap level_of uid_x ∙ level_v ∙ sym level_w
          ∙ ap level_of (sym uid_y))
          (ap (λ (r : Row). r.low) nodes_same) (ap (λ (r : Row). r.high) nodes_same) ∙ uid_y

      by : (v < key) ⊎ (key ≤ v) → (w < key) ⊎ (key ≤ w) → v ≡ w
      by (inl less_v) (inl less_w) = both_read less_v less_w
      by (inl less_v) (inr from_w) =
          absurd (mixed v w in_v less_v (was_read key node v in_v less_v)
          (sym (was_read key node v in_v less_v) ∙ same ∙ waits key node w in_w from_w))
      by (inr from_v) (inl less_w) =
          absurd (mixed w v in_w less_w (was_read key node w in_w less_w)
          (sym (was_read key node w in_w less_w) ∙ sym same ∙ waits key node v in_v from_v))
      by (inr from_v) (inr from_w) =
          ap (λ (r : Row). r.low) (sym (waits key node v in_v from_v) ∙ same
          ∙ waits key node w in_w from_w)
