-- The words of askers, and the arcs that answer them.
use Rattle.std.proofs.Common.{◌≡◌, ◌≢◌, ℕ, ◌+◌, ◌*◌, ◌≤◌, ◌<◌, ◌∙◌, Bool, true, false, cond, [], ◌∷◌, refl, ap, arith}
use Rattle.std.specs.Prelude.{◌==◌, ◌/◌, ◌%◌}
use Rattle.std.specs.Ordering.{nat_cmp, bool_cmp, is_lt, ordering_then}
use Rattle.std.specs.declared.cmp.Ordering.{Ordering}
use Rattle.std.specs.declared.cmp.Ordering.TheVariants.{Equal, Greater}
use Rattle.std.proofs.lemmas.Bool.Decides.{nat_tests}
use Rattle.std.proofs.lemmas.Bool.{eq-eqb, ne_eqb, eqb-true, eqb-false, lt-ltb, le-ltb}
use Rattle.rec_words.specs.Words.{level_of, most_variables}
use Rattle.top_down_laws.specs.Forms.{nobody, asker_word}
use Rattle.top_down_laws.specs.Remains.{source_of, side_of, is_asker, answer_arcs}
use Rattle.top_down_laws.proofs.NumberTests.{Order, Before, Same, Behind, order}

-- an asker's word is that of its source and side
pub word-parts : (w : ℕ) → asker_word (source_of w) (side_of w) ≡ w
word-parts w = by (w % 2 == 1) refl
  where
    by : (b : Bool) → (w % 2 == 1) ≡ b → 2 * (w / 2) + cond b 1 0 ≡ w
    by true odd = (let is : w % 2 ≡ 1 = eqb-true (w % 2) 1 odd in omega (arith, is))
    by false even = (let other : w % 2 ≢ 1 = eqb-false (w % 2) 1 even in omega (arith, other))

pub source-word : (s : ℕ) (side : Bool) → source_of (asker_word s side) ≡ s
source-word s false = omega arith
source-word s true = omega arith

pub side-word : (s : ℕ) (side : Bool) → side_of (asker_word s side) ≡ side
side-word s false = ne_eqb ((2 * s + 0) % 2) 1 (λ odd. omega (arith, odd))
side-word s true = eq-eqb ((2 * s + 1) % 2) 1 (omega arith)

-- nobody is no node that asks
pub nobody_asks : is_asker nobody ≡ false
nobody_asks = le-ltb (level_of (source_of nobody)) most_variables (omega arith)

pub answer-nobody : (target : ℕ) → answer_arcs nobody target ≡ []
answer-nobody target = ap (λ b. cond b (record {
  source = source_of nobody;
  high = side_of nobody;
  target = target;
} ∷ []) []) nobody_asks

pub answer-node : (w target : ℕ) → level_of (source_of w) < most_variables
    → answer_arcs w target ≡ record { source = source_of w; high = side_of w; target = target } ∷ []
answer-node w target node =
    ap (λ b. cond b (record { source = source_of w; high = side_of w; target = target } ∷ []) [])
    (lt-ltb (level_of (source_of w)) most_variables node)

-- an asker that is no less comes no earlier in the order of arcs
pub not_earlier : (w source : ℕ) (high : Bool) → asker_word source high ≤ w
    → is_lt (ordering_then (nat_cmp (source_of w) source) (bool_cmp (side_of w) high)) ≡ false
not_earlier w source high from = by high (w % 2 == 1) refl (order (w / 2) source) from
  where
    behind : (o : Ordering) → source < w / 2 → is_lt (ordering_then (nat_cmp (w / 2) source) o)
        ≡ false
    behind o more =
        let test : nat_cmp (w / 2) source ≡ Greater = grind (arith, nat_tests) in
        ap (λ p. is_lt (ordering_then p o)) test

    same : (o : Ordering) → w / 2 ≡ source → is_lt o ≡ false
        → is_lt (ordering_then (nat_cmp (w / 2) source) o) ≡ false
    same o is none =
        let test : nat_cmp (w / 2) source ≡ Equal = grind (arith, nat_tests) in
        ap (λ p. is_lt (ordering_then p o)) test ∙ none

    by : (h b : Bool) → (w % 2 == 1) ≡ b → Order (w / 2) source → asker_word source h ≤ w
        → is_lt (ordering_then (nat_cmp (w / 2) source) (bool_cmp b h)) ≡ false
    by false b odd (Before less) most = absurd (omega (arith, less, most))
    by true b odd (Before less) most = absurd (omega (arith, less, most))
    by h b odd (Behind more) most = behind (bool_cmp b h) more
    by false false odd (Same is) most = same Equal is refl
    by false true odd (Same is) most = same Greater is refl
    by true true odd (Same is) most = same Equal is refl
    by true false odd (Same is) most =
        let other : w % 2 ≢ 1 = eqb-false (w % 2) 1 odd in
        absurd (omega (arith, is, most, other))
