-- The slot of the roots, with which the pairs begin.
use Rattle.std.specs.Prelude.{◌≡◌, ℕ, ◌<◌, false, is_some, List, []}
use Rattle.std.proofs.Common.{refl, sym, ◌∙◌, ap, subst, inl, true≢false, arith}
use Rattle.bool_tables.specs.declared.steps.Bin.{Bin}
use Rattle.rec_words.specs.declared.rec.Rec.{Rec}
use Rattle.top_down.specs.declared.tuple.Tuple.{Tuple}
use Rattle.top_down.specs.declared.tuple.Goal.{Goal}
use Rattle.top_down.specs.declared.tuple.Goal.TheVariants.{End, Go}
use Rattle.top_down.specs.Operations.{product_goal, product_rule}
use Rattle.top_down.specs.Tuples.{Targets, level_of_tuple}
use Rattle.top_down.specs.Rules.{Rule, IsAsked, IsRule}
use Rattle.top_down.proofs.ProductLaws.{product_goes}
use Rattle.top_down.proofs.TurnLaws.{asked_at}
use Rattle.room_products.specs.Goals.{end_in}
use Rattle.room_products.specs.Slots.{pair_at, id_at, AreSlots}
use Rattle.room_products.specs.Joining.{IsJoining}

-- a pair that ends in no truth value is asked for
asks_for : (goal : Goal) → is_some (end_in goal) ≡ false → (y : Tuple) × (goal ≡ Go y)
asks_for (End value) none = absurd (true≢false none)
asks_for (Go y) none = (y, refl)

-- so the roots have a node
pub roots_low : (op : Bin) (n : ℕ) (targets : Targets) (roots : Tuple) → IsRule n (product_rule op) targets
    → IsAsked n (product_rule op) 0 roots → is_some (end_in (product_goal op roots)) ≡ false → level_of_tuple roots < n
roots_low op n targets roots laws asked none =
    let (y, goes) = asks_for (product_goal op roots) none in
    let same : roots ≡ y = (product_goes op roots y goes).0 in
    subst (λ x. level_of_tuple x < n) (sym same) (laws.goes_low 0 roots y (omega arith) asked goes)

-- and may be asked for on its level
pub roots_asked : (n : ℕ) (rule : Rule) (targets : Targets) (roots : Tuple) → IsRule n rule targets
    → IsAsked n rule 0 roots → IsAsked n rule (level_of_tuple roots) roots
roots_asked n rule targets roots laws asked =
    asked_at n rule targets laws (level_of_tuple roots) 0 roots (omega arith) asked

-- at first no slot is used
pub no_slots : (n : ℕ) (rule : Rule) (slots firsts : List Rec) → AreSlots n rule slots firsts 0
no_slots n rule slots firsts = record {
  within = omega arith;
  asked = λ k below. absurd (omega (arith, below));
  levels = λ k below. absurd (omega (arith, below));
  low = λ k below. absurd (omega (arith, below));
  numbers = λ k below. absurd (omega (arith, below));
  differ = λ j k below within same. absurd (omega (arith, below));
}

-- then the slot of the roots, and no source is done
pub first_joining : (n root : ℕ) (roots : Tuple) (rule : Rule) (targets : Targets) (slots firsts sources : List Rec)
    → AreSlots n rule slots firsts 1 → pair_at slots 0 ≡ roots → id_at slots 0 ≡ root
    → IsJoining n root roots rule targets [] slots firsts 1 sources 0
first_joining n root roots rule targets slots firsts sources are begins root_is = record {
  slots_are = are;
  sources_are = record {
    within = omega arith;
    each = λ k below. absurd (omega (arith, below));
    ascend = λ j k before below. absurd (omega (arith, below));
  };
  some = omega arith;
  begins = begins;
  root_is = root_is;
  met = λ k below. let first : 0 ≡ k = omega (arith, below) in inl (sym root_is ∙ ap (id_at slots) first);
}
