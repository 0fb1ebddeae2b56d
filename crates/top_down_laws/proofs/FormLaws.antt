-- What the form of a tuple is while nodes of its level are read.
use Rattle.std.proofs.Common.{◌≡◌, ℕ, ◌≤◌, ◌<◌, ◌∙◌, ◌^◌, Bool, true, false, refl, subst, sym, ap, inl, inr, arith}
use Rattle.std.specs.Prelude.{◌⊎◌, min}
use Rattle.std.proofs.lemmas.Bool.{or_parts, le-ltb}
use Rattle.rec_words.specs.Words.{level_of}
use Rattle.canon_file.specs.declared.row.Row.{Row}
use Rattle.top_down.specs.declared.tuple.Tuple.{Tuple}
use Rattle.top_down.specs.Tuples.{Targets, level_of_tuple, parts}
use Rattle.top_down_laws.specs.Forms.{Form, least, first_form, form_at, member_at, unread_at, filled, wants, next_key, on_side, twice, IsKey, IsLastKey, IsUpToKey}
use Rattle.top_down_laws.specs.Readings.{Diagrams, targets_in, AreIn, AreReduced, Readings, AreReadings, want, filled_form, read_on}
use Rattle.top_down_laws.proofs.NumberTests.{Order, Before, Same, Behind, order}
use Rattle.top_down_laws.proofs.MemberLaws.{waits_behind, waits_there, does_wait, reads_on, side_pointer, same_member}

-- tuples with the same members are the same
pub same_members : (x y : Tuple) → x.first ≡ y.first → x.second ≡ y.second → x.third ≡ y.third
    → x ≡ y
same_members x y first second third = λ i. record {
  first = first i;
  second = second i;
  third = third i;
}

-- the three levels are no less than the tuple's
pub record Levels (level : ℕ) (x : Tuple) : Type 0 where
  pub first : level ≤ level_of x.first
  pub second : level ≤ level_of x.second
  pub third : level ≤ level_of x.third

pub levels_from : (level : ℕ) (x : Tuple) → level ≡ level_of_tuple x → Levels level x
levels_from level x is = record {
  first = omega (arith, is);
  second = omega (arith, is);
  third = omega (arith, is);
}

-- one of three numbers is the least
pub one_least : (a b c : ℕ)
    → (min a (min b c) ≡ a) ⊎ ((min a (min b c) ≡ b) ⊎ (min a (min b c) ≡ c))
one_least a b c = by (order a b) (order a c) (order b c)
  where
    by : Order a b → Order a c → Order b c
        → (min a (min b c) ≡ a) ⊎ ((min a (min b c) ≡ b) ⊎ (min a (min b c) ≡ c))
    by (Before p) (Before q) r = inl (omega (arith, p, q))
    by (Before p) (Same q) r = inl (omega (arith, p, q))
    by (Before p) (Behind q) r = inr (inr (omega (arith, p, q)))
    by (Same p) (Before q) r = inl (omega (arith, p, q))
    by (Same p) (Same q) r = inl (omega (arith, p, q))
    by (Same p) (Behind q) r = inr (inr (omega (arith, p, q)))
    by (Behind p) q (Before r) = inr (inl (omega (arith, p, r)))
    by (Behind p) q (Same r) = inr (inl (omega (arith, p, r)))
    by (Behind p) q (Behind r) = inr (inr (omega (arith, p, r)))

-- a tuple with a node is asked for at its least one
pub least_node : (x : Tuple) → level_of_tuple x < 65536 → least x < 2 ^ 63
least_node x low = omega (arith, low)

pub least_key : (x : Tuple) → IsKey (least x) x
least_key x = record { here = one_least x.first x.second x.third; level = omega arith }

pub first_form-is : (targets : Targets) (x : Tuple) → first_form x ≡ form_at targets (least x) x
first_form-is targets x = λ i. record {
  key = least x;
  first = sym (is targets.first x.first (omega arith)) i;
  second = sym (is targets.second x.second (omega arith)) i;
  third = sym (is targets.third x.third (omega arith)) i;
}
  where
    is : (rows : ℕ → Row) (w : ℕ) → least x ≤ w → member_at rows (least x) w ≡ twice w
    is rows w from = let test = le-ltb w (least x) from in rw test refl

-- a key is no earlier than the least pointer, and the last key is one alone
pub one_last : (k l : ℕ) (x : Tuple) → IsLastKey k x → IsLastKey l x → k ≡ l
one_last k l x a b = omega (arith, upto l a b.is_key, upto_back k b a.is_key)
  where
    level : level_of k ≡ level_of l
    level = a.is_key.level ∙ sym b.is_key.level

    at : (m : ℕ) (w : ℕ) → level_of m ≡ level_of k → IsUpToKey k w → m ≡ w → m ≤ k
    at m w same last is = subst (λ v. v ≤ k) (sym is) (last (ap level_of (sym is) ∙ same))

    at_back : (m : ℕ) (w : ℕ) → level_of m ≡ level_of l → IsUpToKey l w → m ≡ w → m ≤ l
    at_back m w same last is = subst (λ v. v ≤ l) (sym is) (last (ap level_of (sym is) ∙ same))

    upto : (m : ℕ) → IsLastKey k x → IsKey m x → m ≤ k
    upto m last key = elim key.here [
      | inl is ↦ at m x.first (key.level ∙ sym last.is_key.level) last.first is
      | inr (inl is) ↦ at m x.second (key.level ∙ sym last.is_key.level) last.second is
      | inr (inr is) ↦ at m x.third (key.level ∙ sym last.is_key.level) last.third is
    ]

    upto_back : (m : ℕ) → IsLastKey l x → IsKey m x → m ≤ l
    upto_back m last key = elim key.here [
      | inl is ↦ at_back m x.first (key.level ∙ sym last.is_key.level) last.first is
      | inr (inl is) ↦ at_back m x.second (key.level ∙ sym last.is_key.level) last.second is
      | inr (inr is) ↦ at_back m x.third (key.level ∙ sym last.is_key.level) last.third is
    ]

module _ (n : ℕ) (d : Diagrams) (reduced : AreReduced n d) where
  -- tuples of one key that look the same are the same
  pub same_tuple : (key : ℕ) → key < 2 ^ 63 → (x y : Tuple) → AreIn d x → AreIn d y
      → Levels (level_of key) x → Levels (level_of key) y
      → form_at (targets_in d) key x ≡ form_at (targets_in d) key y → x ≡ y
  same_tuple key node x y in_x in_y deep_x deep_y same = same_members x y
      (same_member n d.first reduced.first key node x.first y.first in_x.first in_y.first
      deep_x.first deep_y.first (ap (λ (f : Form). f.first) same))
      (same_member n d.second reduced.second key node x.second y.second in_x.second in_y.second
      deep_x.second deep_y.second (ap (λ (f : Form). f.second) same))
      (same_member n d.third reduced.third key node x.third y.third in_x.third in_y.third
      deep_x.third deep_y.third (ap (λ (f : Form). f.third) same))

  module _ (r : Readings) (reads : AreReadings d r) (x : Tuple) (is : AreIn d x) (key : ℕ)
      (node : key < 2 ^ 63) (at : IsKey key x)
      (none : want r (form_at (targets_in d) key x) ≡ false) where
    abbrev pub form : Form
    form = form_at (targets_in d) key x

    abbrev pub next : ℕ
    next = next_key (filled_form r form)

    deep : Levels (level_of key) x
    deep = levels_from (level_of key) x at.level

    none_first : wants key r.first.hand form.first ≡ false
    none_first = (or_parts _ _ none).0

    none_second : wants key r.second.hand form.second ≡ false
    none_second = (or_parts _ _ (or_parts _ _ none).1).0

    none_third : wants key r.third.hand form.third ≡ false
    none_third = (or_parts _ _ (or_parts _ _ none).1).1

    pub next_later : key < next
    next_later =
        let first = waits_behind n d.first reduced.first key node x.first is.first r.first.unread
        r.first.hand reads.first none_first deep.first in
        let second = waits_behind n d.second reduced.second key node x.second is.second
        r.second.unread r.second.hand reads.second none_second deep.second in
        let third = waits_behind n d.third reduced.third key node x.third is.third r.third.unread
        r.third.hand reads.third none_third deep.third in
        all_later key _ _ _ first second third
      where
        all_later : (k a b c : ℕ) → k < a → k < b → k < c → k < min a (min b c)
        all_later k a b c first second third = omega (arith, first, second, third)

    -- the node that is read next is one of the tuple's
    pub next_is_key : next < 2 ^ 63 → IsKey next x
    next_is_key low = elim (one_least a b c) [
      | inl first ↦
          let (_, level, here) =
          waits_there n d.first reduced.first key node x.first is.first r.first.unread
          r.first.hand reads.first none_first deep.first
          (subst (λ v. v < 2 ^ 63) first low) in
          record {
            here = inl (first ∙ here);
            level = ap level_of (first ∙ here) ∙ level ∙ at.level;
          }
      | inr (inl second) ↦
          let (_, level, here) =
          waits_there n d.second reduced.second key node x.second is.second r.second.unread
          r.second.hand reads.second none_second deep.second
          (subst (λ v. v < 2 ^ 63) second low) in
          record {
            here = inr (inl (second ∙ here));
            level = ap level_of (second ∙ here) ∙ level
                ∙ at.level;
          }
      | inr (inr third) ↦
          let (_, level, here) =
          waits_there n d.third reduced.third key node x.third is.third r.third.unread
          r.third.hand reads.third none_third deep.third
          (subst (λ v. v < 2 ^ 63) third low) in
          record {
            here = inr (inr (third ∙ here));
            level = ap level_of (third ∙ here) ∙ level ∙ at.level;
          }
    ]
      where
        a : ℕ
        a = unread_at (level_of key) (filled key r.first.hand form.first)

        b : ℕ
        b = unread_at (level_of key) (filled key r.second.hand form.second)

        c : ℕ
        c = unread_at (level_of key) (filled key r.third.hand form.third)

    -- the form that is read on is that of the tuple at the next key
    pub read_on-is : next < 2 ^ 63 → read_on r form ≡ form_at (targets_in d) next x
    read_on-is low =
        let level : level_of next ≡ level_of key = (next_is_key low).level ∙ sym at.level in
        let first = reads_on n d.first reduced.first key node x.first is.first r.first.unread
        r.first.hand reads.first none_first next deep.first level next_later (omega arith) in
        let second = reads_on n d.second reduced.second key node x.second is.second r.second.unread
        r.second.hand reads.second none_second next deep.second level next_later
        (omega arith) in
        let third = reads_on n d.third reduced.third key node x.third is.third r.third.unread
        r.third.hand reads.third none_third next deep.third level next_later (omega arith) in
        λ i. record { key = next; first = first i; second = second i; third = third i }

    module _ (all_read : next < 2 ^ 63 → ⊥) where
      -- where no node is read next, the key is the last one
      pub is_last : IsLastKey key x
      is_last = record {
        is_key = at;
        first = λ level. upto x.first _ level
            (λ behind. does_wait n d.first reduced.first key node x.first is.first r.first.unread
            r.first.hand reads.first none_first behind level) (omega arith);
        second = λ level. upto x.second _ level
            (λ behind. does_wait n d.second reduced.second key node x.second is.second
            r.second.unread r.second.hand reads.second none_second behind level) (omega arith);
        third = λ level. upto x.third _ level
            (λ behind. does_wait n d.third reduced.third key node x.third is.third r.third.unread
            r.third.hand reads.third none_third behind level) (omega arith);
      }
        where
          upto : (w unread : ℕ) → level_of w ≡ level_of key → (key < w → unread ≡ w) → next ≤ unread
              → w ≤ key
          upto w unread level waits most = by (order w key)
            where
              by : Order w key → w ≤ key
              by (Before before) = omega (arith, before)
              by (Same same) = omega (arith, same)
              by (Behind behind) =
                  let here : unread ≡ w = waits behind in
                  let low : w < 2 ^ 63 = omega (arith, level, node) in
                  absurd (all_read (omega (arith, here, low, most)))

      -- the pointers on a side are where the members lead
      pub side-is : (side : Bool)
          → on_side side (filled_form r form) ≡ parts (targets_in d) (level_of key) side x
      side-is false = λ i. record {
        first = side_pointer n d.first reduced.first key node x.first is.first r.first.unread
            r.first.hand reads.first none_first deep.first is_last.first false i;
        second = side_pointer n d.second reduced.second key node x.second is.second r.second.unread
            r.second.hand reads.second none_second deep.second is_last.second false i;
        third = side_pointer n d.third reduced.third key node x.third is.third r.third.unread
            r.third.hand reads.third none_third deep.third is_last.third false i;
      }
      side-is true = λ i. record {
        first = side_pointer n d.first reduced.first key node x.first is.first r.first.unread
            r.first.hand reads.first none_first deep.first is_last.first true i;
        second = side_pointer n d.second reduced.second key node x.second is.second r.second.unread
            r.second.hand reads.second none_second deep.second is_last.second true i;
        third = side_pointer n d.third reduced.third key node x.third is.third r.third.unread
            r.third.hand reads.third none_third deep.third is_last.third true i;
      }
