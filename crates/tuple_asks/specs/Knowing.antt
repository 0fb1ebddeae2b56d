-- Which pointers the operands' files know, and which asks name such pointers alone.
use Rattle.std.specs.Prelude.{◌≡◌, ℕ, Bool, List, Option, IfSome}
use Rattle.rec_words.specs.declared.node.Node.{Node}
use Rattle.node_reading.specs.Missing.{IsKnown}
use Rattle.top_down.specs.declared.tuple.Tuple.{Tuple}
use Rattle.top_down.specs.declared.tuple.Goal.TheVariants.{Go}
use Rattle.top_down.specs.Rules.{Rule}
use Rattle.tuple_asks.specs.declared.ask.Member.{Member}
use Rattle.tuple_asks.specs.declared.ask.Members.{Members}
use Rattle.tuple_asks.specs.declared.operand.Operands.{Operands}

-- what the operands' files hold
pub record FileBytes : Type 0 where
  pub first : List ℕ
  pub second : List ℕ
  pub third : List ℕ

-- each pointer of the tuple is known to its operand's file
pub record KnowsTuple (b : FileBytes) (x : Tuple) : Type 0 where
  pub first : IsKnown b.first x.first
  pub second : IsKnown b.second x.second
  pub third : IsKnown b.third x.third

-- so are both pointers of a member
pub record KnowsMember (bytes : List ℕ) (m : Member) : Type 0 where
  pub low : IsKnown bytes m.low
  pub high : IsKnown bytes m.high

-- and those of all members
pub record KnowsMembers (b : FileBytes) (m : Members) : Type 0 where
  pub first : KnowsMember b.first m.first
  pub second : KnowsMember b.second m.second
  pub third : KnowsMember b.third m.third

-- so are those that the node at hand leads to, where one is at hand
abbrev pub KnowsBelow : List ℕ → Option Node → Type 0
KnowsBelow bytes hand = IfSome hand (λ x. IsKnown bytes x.low × IsKnown bytes x.high)

-- for each operand
pub record KnowsHands (b : FileBytes) (o : Operands) : Type 0 where
  pub first : KnowsBelow b.first o.first.hand
  pub second : KnowsBelow b.second o.second.hand
  pub third : KnowsBelow b.third o.third.hand

-- of pointers that the files know the operation makes such pointers alone
pub record StaysKnown (rule : Rule) (begins : Tuple → Tuple) (b : FileBytes) : Type 0 where
  pub begun : (x : Tuple) → KnowsTuple b x → KnowsTuple b (begins x)
  pub goal : (x y : Tuple) → KnowsTuple b x → rule.goal x ≡ Go y → KnowsTuple b y
  pub below : (level : ℕ) (side : Bool) (lows highs : Tuple) → KnowsTuple b lows → KnowsTuple b highs
      → KnowsTuple b (rule.below level side lows highs)
