-- Rules whose tuple on a side has the pointers of the pieces' halves.
use Rattle.std.specs.Prelude.{◌≡◌, ◌⊎◌, ℕ, suc, ◌+◌, ◌<◌, ◌≤◌, ◌||◌, min, Bool, true, false, List, [], ◌∷◌}
use Rattle.std.specs.List.{list_any}
use Rattle.std.proofs.Common.{refl, sym, ◌∙◌, ap, inl, inr, arith}
use Rattle.std.proofs.Math.Nat.{eq-or-lt_of_le}
use Rattle.bool_tables.specs.declared.steps.Step.{Step}
use Rattle.rec_words.specs.Words.{level_of}
use Rattle.list_laws.specs.Members.{Has}
use Rattle.canon_file.specs.Pieces.{splits}
use Rattle.step_work.specs.Tuples.{side_of, both_sides, tuples_below}
use Rattle.top_down.specs.declared.tuple.Tuple.{Tuple}
use Rattle.top_down.specs.declared.tuple.Goal.TheVariants.{Go}
use Rattle.top_down.specs.Tuples.{Targets, level_of_tuple, parts}
use Rattle.top_down.specs.Rules.{Rule, IsAsked, below_on}
use Rattle.top_down.specs.Operations.{same_side}
use Rattle.top_down.proofs.PointwiseLaws.{parts-past}
use Rattle.met_tuples.proofs.Covering.{View, Family, Gives, LeadsTo, Covers}

-- the halves on a side are one of both sides
pub has_side : (h : ℕ) (side : Bool) (l : List (List Bool)) → Has (side_of h side l) (both_sides h l)
has_side h true l = inr (inl refl)
has_side h false l = inl refl

-- one of two numbers is the lesser
lesser_is : (a b i : ℕ) → min a b ≡ i → (a ≡ i) ⊎ (b ≡ i)
lesser_is a b i least =
    let below : min a b ≤ a = omega arith in
    elim (eq-or-lt_of_le below) [ inl same ↦ inl (omega arith) | inr less ↦ inr (omega arith) ]

-- one of a tuple's members is of the tuple's level
pub member_at : (x : Tuple) (i : ℕ) → level_of_tuple x ≡ i
    → (level_of x.first ≡ i) ⊎ ((level_of x.second ≡ i) ⊎ (level_of x.third ≡ i))
member_at x i here =
    elim (lesser_is (level_of x.first) (min (level_of x.second) (level_of x.third)) i here) [
      | inl first ↦ inl first
      | inr other ↦ inr (lesser_is (level_of x.second) (level_of x.third) i other)
    ]

-- a piece of the tuple splits
pub any_splits : (h : ℕ) (p : List Bool) (l : List (List Bool)) → Has p l → splits h p ≡ true
    → list_any (splits h) l ≡ true
any_splits h p [] member split = absurd member
any_splits h p (q ∷ l) (inl same) split = ap (λ b. b || list_any (splits h) l) (ap (splits h) same ∙ split)
any_splits h p (q ∷ l) (inr member) split =
    ap (λ b. splits h q || b) (any_splits h p l member split) ∙ or_true (splits h q)
  where
    or_true : (b : Bool) → (b || true) ≡ true
    or_true true = refl
    or_true false = refl

-- the pointers of the pieces lead to those of their halves
pub record LeadsToHalves (targets : Targets) (view : View) (AreOn : Family) (i h : ℕ) (l : List (List Bool))
    : Type 0 where
  pub are : (side : Bool) → AreOn (suc i) h (side_of h side l)
  pub onward : (side : Bool) → parts targets i side (view i (suc h) l) ≡ view (suc i) h (side_of h side l)

-- what the rule asks for in place of a tuple has the same goal on each side of level i, and is of that level only where
-- the tuple is
pub record AsksAlike (rule : Rule) (targets : Targets) (i : ℕ) (asking asked : Tuple) : Type 0 where
  pub again : rule.goal asked ≡ Go asked
  pub alike : (side : Bool) → rule.goal (parts targets i side asking) ≡ rule.goal (parts targets i side asked)
  pub level : level_of_tuple asked ≡ i → level_of_tuple asking ≡ i

module _ (rule : Rule) (targets : Targets) (step : Step) (view : View) (AreOn : Family) (i h : ℕ) (l : List (List Bool))
    (x : Tuple) (gives : Gives rule view AreOn i (suc h) l x) (halves : LeadsToHalves targets view AreOn i h l)
    (asks : AsksAlike rule targets i (view i (suc h) l) x) where
  -- the goal of the halves' pointers
  goal_on : (to : Bool) → rule.goal (view (suc i) h (side_of h to l)) ≡ rule.goal (parts targets i to x)
  goal_on to = ap rule.goal (sym (halves.onward to)) ∙ asks.alike to

  -- a tuple that is deeper than its pieces is given by the halves of each side to which the step leads
  pub passes_on : (to : Bool) → Has (side_of h to l) (tuples_below step i h l) → i < level_of_tuple x
      → LeadsTo rule step view AreOn i h l x
  passes_on to led past = record {
    next = side_of h to l;
    led = led;
    gives = record {
      are = halves.are to;
      goes = goal_on to ∙ ap rule.goal (parts-past targets i to x past) ∙ asks.again;
    };
  }

  -- what is asked for on a side is given by the halves, where the rule turns to the pointers of a side
  pub side_on : (side to : Bool) (y : Tuple) → Has (side_of h to l) (tuples_below step i h l)
      → below_on rule targets side x ≡ parts targets i to x → rule.goal (below_on rule targets side x) ≡ Go y
      → LeadsTo rule step view AreOn i h l y
  side_on side to y led turned goes = record {
    next = side_of h to l;
    led = led;
    gives = record { are = halves.are to; goes = goal_on to ∙ ap rule.goal (sym turned) ∙ goes };
  }

-- the side to which a rule turns at level i for a side, with the step
pub record TurnsTo (rule : Rule) (targets : Targets) (step : Step) (i h : ℕ) (l : List (List Bool)) (side : Bool)
    : Type 0 where
  pub to : Bool
  pub led : Has (side_of h to l) (tuples_below step i h l)
  pub below : (x : Tuple) → level_of_tuple x ≡ i → below_on rule targets side x ≡ parts targets i to x

-- a rule that takes the pointers of the same side turns to them
pub same_side-parts : (targets : Targets) (i : ℕ) (side : Bool) (x : Tuple) → level_of_tuple x ≡ i
    → same_side (level_of_tuple x) side (parts targets (level_of_tuple x) false x)
    (parts targets (level_of_tuple x) true x)
    ≡ parts targets i side x
same_side-parts targets i true x here = ap (λ k. parts targets k true x) here
same_side-parts targets i false x here = ap (λ k. parts targets k false x) here

-- on each level the rule and the step turn to the halves of a side
pub record TurnsToSides (n : ℕ) (rule : Rule) (targets : Targets) (step : Step) (view : View) (AreOn : Family)
    : Type 0 where
  pub asked : (i h : ℕ) (l : List (List Bool)) → i + h ≡ n → AreOn i h l → IsAsked n rule i (view i h l)
  pub halves : (i h : ℕ) (l : List (List Bool)) → i + suc h ≡ n → AreOn i (suc h) l
      → LeadsToHalves targets view AreOn i h l
  pub asks : (i h : ℕ) (l : List (List Bool)) (x : Tuple) → i + suc h ≡ n → Gives rule view AreOn i (suc h) l x
      → AsksAlike rule targets i (view i (suc h) l) x
  pub turns : (i h : ℕ) (l : List (List Bool)) (side : Bool) → TurnsTo rule targets step i h l side
  pub split : (i h : ℕ) (l : List (List Bool)) → i + suc h ≡ n → AreOn i (suc h) l
      → level_of_tuple (view i (suc h) l) ≡ i → list_any (splits h) l ≡ true

-- so the step's tuples of pieces lead to all tuples that the rule asks for
pub covers_sides : (n : ℕ) (rule : Rule) (targets : Targets) (step : Step) (view : View) (AreOn : Family)
    → TurnsToSides n rule targets step view AreOn → Covers n rule targets step view AreOn
covers_sides n rule targets step view AreOn sides = record {
  asked = sides.asked;
  passes = λ i h l x end gives past.
      let turn : TurnsTo rule targets step i h l false = sides.turns i h l false in
      passes_on rule targets step view AreOn i h l x gives (sides.halves i h l end gives.are)
      (sides.asks i h l x end gives) turn.to turn.led past;
  sides = λ i h l x y side end gives here goes.
      let turn : TurnsTo rule targets step i h l side = sides.turns i h l side in
      side_on rule targets step view AreOn i h l x gives (sides.halves i h l end gives.are)
      (sides.asks i h l x end gives) side turn.to y turn.led (turn.below x here) goes;
  split = λ i h l x end gives here.
      sides.split i h l end gives.are ((sides.asks i h l x end gives).level here);
}
