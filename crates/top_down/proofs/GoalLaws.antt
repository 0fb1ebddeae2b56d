-- what a rule's answers mean
use Rattle.std.specs.Prelude.{◌≡◌, ℕ, Bool, true, false, cond}
use Rattle.std.proofs.Common.{refl, sym}
use Rattle.top_down.specs.declared.tuple.Tuple.{Tuple}
use Rattle.top_down.specs.declared.tuple.Goal.TheVariants.{End, Go}
use Rattle.top_down.specs.Operations.{is_end, is_one, decides, ends_or}

pub end_value : (b d : Bool) → End b ≡ End d → b ≡ d
end_value b d e = cc

pub go_tuple : (x y : Tuple) → Go x ≡ Go y → x ≡ y
go_tuple x y e = cc

pub end_go : (b : Bool) (x : Tuple) → End b ≡ Go x → ⊥
end_go b x e = cc

-- two values that decide are both the answer
pub decides-end : (b c : Bool) (x : Tuple) (value : Bool) → decides b c x ≡ End value → (b ≡ value) × (c ≡ value)
decides-end true true x value e = (end_value true value e, end_value true value e)
decides-end true false x value e = absurd (end_go value x (sym e))
decides-end false true x value e = absurd (end_go value x (sym e))
decides-end false false x value e = (end_value false value e, end_value false value e)

pub decides-go : (b c : Bool) (x y : Tuple) → decides b c x ≡ Go y → x ≡ y
decides-go true true x y e = absurd (end_go true y e)
decides-go true false x y e = go_tuple x y e
decides-go false true x y e = go_tuple x y e
decides-go false false x y e = absurd (end_go false y e)

pub ends_or-end : (w : ℕ) (x : Tuple) (value : Bool) → ends_or w x ≡ End value → (is_end w ≡ true) × (is_one w ≡ value)
ends_or-end w x value e = by (is_end w) refl e
  where
    by : (b : Bool) → is_end w ≡ b → cond b (End (is_one w)) (Go x) ≡ End value → (is_end w ≡ true) × (is_one w ≡ value)
    by true same says = (same, end_value (is_one w) value says)
    by false same says = absurd (end_go value x (sym says))

pub ends_or-go : (w : ℕ) (x y : Tuple) → ends_or w x ≡ Go y → (is_end w ≡ false) × (x ≡ y)
ends_or-go w x y e = by (is_end w) refl e
  where
    by : (b : Bool) → is_end w ≡ b → cond b (End (is_one w)) (Go x) ≡ Go y → (is_end w ≡ false) × (x ≡ y)
    by true same says = absurd (end_go (is_one w) y says)
    by false same says = (same, go_tuple x y says)
