-- What an operation's rule keeps, so that a sweep from the root down goes down and ends.
use Rattle.std.specs.Prelude.{◌≡◌, ◌<◌, ℕ, Bool}
use Rattle.rec_words.specs.Words.{terminal_level}
use Rattle.top_down.specs.declared.tuple.Tuple.{Tuple}
use Rattle.top_down.specs.declared.tuple.Goal.TheVariants.{Go}
use Rattle.top_down.specs.Tuples.{level_of_tuple}
use Rattle.top_down.specs.Rules.{Rule}

-- a tuple that is asked for has a node, and on a side of a node's level it lies deeper than that level
pub record Deepens (rule : Rule) : Type 0 where
  pub has_node : (x y : Tuple) → rule.goal x ≡ Go y → level_of_tuple y < terminal_level
  pub deeper : (level : ℕ) (side : Bool) (lows highs y : Tuple) → level < terminal_level →
      level < level_of_tuple lows → level < level_of_tuple highs
      → rule.goal (rule.below level side lows highs) ≡ Go y → level < level_of_tuple y
