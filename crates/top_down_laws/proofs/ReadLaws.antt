-- What is read for the first ask, and what remains then.
use Rattle.std.proofs.Common.{◌≡◌, ◌≢◌, ℕ, ◌≤◌, ◌<◌, ◌∙◌, ◌^◌, Bool, true, false, cond, List, [], ◌∷◌, ◌++◌, refl, subst, sym, ap, inl, inr, arith, append_assoc}
use Rattle.std.specs.Prelude.{Option, Some, None, IfSome, map, ◌==◌, ◌&&◌}
use Rattle.std.proofs.lemmas.Bool.{ne_eqb, eqb-false}
use Rattle.list_laws.proofs.MemberLaws.{has_append, has_right, has_map}
use Rattle.rec_words.specs.declared.node.Node.{Node}
use Rattle.canon_file.specs.declared.row.Row.{Row}
use Rattle.canon_file.specs.Members.{Has}
use Rattle.canon_file.specs.NodeFiles.{IsDescending}
use Rattle.canon_file.specs.Walks.{row_at}
use Rattle.top_down_laws.specs.Forms.{Waiting, comes_before, is_node, wants, member_at}
use Rattle.top_down_laws.specs.Readings.{Diagrams, targets_in, IsIn, IsReduced, IsReadTo, IsUpToHand}
use Rattle.top_down_laws.specs.Remains.{Open, waiting_of}
use Rattle.top_down_laws.proofs.NumberTests.{Order, Before, Same, Behind, order}
use Rattle.top_down_laws.proofs.MemberLaws.{node_in, two_pointers, split_row, was_read, waits}
use Rattle.top_down_laws.proofs.OrderLaws.{forms_follow, no_later_key}

-- in a list that descends in two parts the first is above the second
descends_over : (xs ys : List Node) → IsDescending (xs ++ ys) → (x y : Node) → Has x xs → Has y ys
    → y.uid < x.uid
descends_over [] ys down x y m k = absurd m
descends_over (z ∷ xs) ys down x y (inl is) k =
    subst (λ (v : Node). y.uid < v.uid) is (down.0 y (has_right y xs ys k))
descends_over (z ∷ xs) ys down x y (inr m) k = descends_over xs ys down.1 x y m k

descends_right : (xs ys : List Node) → IsDescending (xs ++ ys) → IsDescending ys
descends_right [] ys down = down
descends_right (x ∷ xs) ys down = descends_right xs ys down.1

-- a list with a member has a last one
last_there : (y : Node) (xs : List Node) → Has y xs
    → (x : Node) × (front : List Node) × (xs ≡ front ++ x ∷ [])
last_there y [] m = absurd m
last_there y (z ∷ []) m = (z, [], refl)
last_there y (z ∷ v ∷ xs) m = let (x, front, is) = last_there v (v ∷ xs) (inl refl) in
    (x, z ∷ front, ap (λ (l : List Node). z ∷ l) is)

-- what a diagram's reader gives next, where the node of that key is to come
pub record NextNode (nodes unread : List Node) (key : ℕ) : Type 0 where
  pub node : Node
  pub left : List Node
  pub is : unread ≡ left ++ node ∷ []
  pub upto : node.uid ≤ key
  pub reading : IsReadTo nodes left (Some node)

module _ (nodes : List Node) (down : IsDescending nodes) (key : ℕ) (y : Node) (m : Has y nodes)
    (uid : y.uid ≡ key) where
  -- the node of the key is among those that weren't read
  still_unread : (unread : List Node) (hand : Option Node) → IsReadTo nodes unread hand
      → IsUpToHand hand key
      → IfSome hand (λ x. x.uid ≢ key) → Has y unread
  still_unread unread None is upto other = subst (Has y) is m
  still_unread unread (Some h) (behind, is) upto other =
      let below : h.uid < key = (let differ : h.uid ≢ key = other in let most : h.uid ≤ key =
      upto in omega (arith, differ, most)) in
      elim (has_append y unread (h ∷ behind) (subst (Has y) is m)) [
        | inl there ↦ there
        | inr (inl here) ↦ absurd (let same : h.uid ≡ key = ap (λ (v : Node). v.uid) here ∙ uid in
            omega (arith, same, below))
        | inr (inr later) ↦
            let parts : IsDescending (h ∷ behind) =
            descends_right unread (h ∷ behind) (subst IsDescending is down) in
            absurd (let under : y.uid < h.uid = parts.0 y later in omega (arith, under, uid, below))
      ]

  next_there : (unread : List Node) (hand : Option Node) → IsReadTo nodes unread hand → Has y unread
      → NextNode nodes unread key
  next_there unread hand reading there =
      let (x, left, is) = last_there y unread there in
      record {
        node = x;
        left = left;
        is = is;
        upto = upto x left is hand reading;
        reading = read x left is hand reading;
      }
    where
      -- the rest behind the node that is read
      whole : (x : Node) (left : List Node) → unread ≡ left ++ x ∷ [] → (h : Option Node)
          → IsReadTo nodes unread h → (behind : List Node) × (nodes ≡ left ++ x ∷ behind)
      whole x left is None reads = ([], reads ∙ is)
      whole x left is (Some v) (behind, reads) = (
        v ∷ behind,
        reads ∙ ap (λ (l : List Node). l ++ v ∷ behind) is
            ∙ append_assoc left (x ∷ []) (v ∷ behind),
      )

      read : (x : Node) (left : List Node) → unread ≡ left ++ x ∷ [] → (h : Option Node)
          → IsReadTo nodes unread h → IsReadTo nodes left (Some x)
      read x left is h reads = whole x left is h reads

      upto : (x : Node) (left : List Node) → unread ≡ left ++ x ∷ [] → (h : Option Node)
          → IsReadTo nodes unread h → x.uid ≤ key
      upto x left is h reads =
          let (behind, split) = whole x left is h reads in
          elim (has_append y left (x ∷ []) (subst (Has y) is there)) [
            | inl front ↦
                let over : x.uid < y.uid =
                descends_over left (x ∷ behind) (subst IsDescending split down) y x front
                (inl refl) in
                omega (arith, over, uid)
            | inr (inl here) ↦ (let same : x.uid ≡ key = ap (λ (v : Node). v.uid) here ∙ uid in
                omega (arith, same))
            | inr (inr none) ↦ absurd none
          ]

-- a member that wants the key's node is that node
wants_itself : (n : ℕ) (nodes : List Node) → IsReduced n nodes → (key : ℕ) → key < 2 ^ 63 → (w : ℕ)
    → IsIn nodes w
    → is_node key (member_at (row_at nodes) key w) ≡ true → w ≡ key
wants_itself n nodes reduced key node w is wanted = by (order w key)
  where
    by : Order w key → w ≡ key
    by (Before before) =
        let other : is_node key (member_at (row_at nodes) key w) ≡ false =
        ap (is_node key) (was_read n nodes reduced key node w is before)
        ∙ split_row n nodes reduced key (row_at nodes w) (two_pointers n nodes reduced w is
        (omega (arith, before, node))) in
        let clash : true ≡ false = sym wanted ∙ other in
        absurd cc
    by (Same same) = same
    by (Behind behind) =
        let other : is_node key (member_at (row_at nodes) key w) ≡ false =
        ap (is_node key) (waits n nodes reduced key node w is (omega (arith, behind)))
        ∙ ap (λ b. b && (w == key)) (ne_eqb w key (λ same. omega (arith, same, behind))) in
        let clash : true ≡ false = sym wanted ∙ other in
        absurd cc

-- what a member wants isn't at hand
not_at_hand : (key : ℕ) (hand : Option Node) (m : Row) → wants key hand m ≡ true
    → (is_node key m ≡ true) × IfSome hand (λ x. x.uid ≢ key)
not_at_hand key None m wanted = (wanted, tt)
not_at_hand key (Some x) m wanted = by (x.uid == key) refl wanted
  where
    by : (b : Bool) → (x.uid == key) ≡ b → cond b false (is_node key m) ≡ true
        → (is_node key m ≡ true) × (x.uid ≢ key)
    by true same is = absurd cc
    by false other is = (is, eqb-false x.uid key other)

-- a wanted node is to be read
pub wanted_next : (n : ℕ) (nodes : List Node) → IsReduced n nodes → (key : ℕ) → key < 2 ^ 63
    → (w : ℕ) → IsIn nodes w
    → (unread : List Node) (hand : Option Node) → IsReadTo nodes unread hand → IsUpToHand hand key
    → wants key hand (member_at (row_at nodes) key w) ≡ true → NextNode nodes unread key
wanted_next n nodes reduced key node w is unread hand reading upto wanted =
    let (wants_it, other) = not_at_hand key hand (member_at (row_at nodes) key w) wanted in
    let here : w ≡ key = wants_itself n nodes reduced key node w is wants_it in
    let (y, m, uid) = node_in nodes w is (omega (arith, here, node)) in
    next_there nodes reduced.descend key y m (uid ∙ here) unread hand reading
    (still_unread nodes reduced.descend key y m (uid ∙ here) unread hand reading upto other)

-- the first of the asks that wait
pub record FirstOpen (d : Diagrams) (a : Waiting) (rest : List Waiting)
    (opens : List Open) : Type 0 where
  pub ask : Open
  pub others : List Open
  pub split : opens ≡ ask ∷ others
  pub is : a ≡ waiting_of (targets_in d) ask
  pub are : rest ≡ map (waiting_of (targets_in d)) others

pub first_open : (d : Diagrams) (a : Waiting) (rest : List Waiting) (opens : List Open)
    → a ∷ rest ≡ map (waiting_of (targets_in d)) opens → FirstOpen d a rest opens
first_open d a rest [] are = absurd cc
first_open d a rest (o ∷ os) are = record {
  ask = o;
  others = os;
  split = refl;
  is = ap (λ (l : List Waiting). head_or a l) are;
  are = ap tail_of are;
}
  where
    head_or : Waiting → List Waiting → Waiting
    head_or b [] = b
    head_or b (c ∷ cs) = c

    tail_of : List Waiting → List Waiting
    tail_of [] = []
    tail_of (c ∷ cs) = cs

-- the key of each ask comes no earlier than that of the next one
pub keys_follow : (d : Diagrams) (ask : Open) (others : List Open)
    → ((b : Waiting) → Has b (map (waiting_of (targets_in d)) others)
    → comes_before b (waiting_of (targets_in d) ask) ≡ false)
    → (o : Open) → Has o (ask ∷ others) → ask.key ≤ o.key
keys_follow d ask others next o (inl is) = (let same : ask.key ≡ o.key =
    ap (λ (p : Open). p.key) is in omega (arith, same))
keys_follow d ask others next o (inr m) =
    no_later_key (waiting_of (targets_in d) ask).form (waiting_of (targets_in d) o).form
    (forms_follow (waiting_of (targets_in d) ask) (waiting_of (targets_in d) o)
    (next _ (has_map (waiting_of (targets_in d)) o others m)))
