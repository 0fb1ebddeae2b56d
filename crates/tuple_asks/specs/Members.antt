-- The members of asks, and the node that is read next for them.
use Rattle.std.specs.Prelude.{ℕ, ◌==◌, ◌&&◌, ◌||◌, ◌<◌, Bool, true, false, cond, Option, Some, None}
use Rattle.rec_words.specs.Words.{terminal, level_of}
use Rattle.rec_words.specs.declared.node.Node.{Node}
use Rattle.top_down.specs.declared.tuple.Tuple.{Tuple}
use Rattle.top_down.specs.Tuples.{level_of_tuple}
use Rattle.tuple_asks.specs.declared.ask.Member.{Member}
use Rattle.tuple_asks.specs.declared.ask.Members.{Members}
use Rattle.tuple_asks.specs.declared.ask.Ask.{Ask}
use Rattle.tuple_asks.specs.declared.operand.Operands.{Operands}

-- a pointer as a member, and those of a tuple as members
abbrev pub member : ℕ → Member
member w = record { low = w; high = w }

abbrev pub members_of : Tuple → Members
members_of x = record { first = member x.first; second = member x.second; third = member x.third }

-- the members' pointers on a side
abbrev pub on_side : Bool → Members → Tuple
on_side false m = record { first = m.first.low; second = m.second.low; third = m.third.low }
on_side true m = record { first = m.first.high; second = m.second.high; third = m.third.high }

-- the member is that node
abbrev pub is_node : ℕ → Member → Bool
is_node key m = (m.low == key) && (m.high == key)

-- it is that node, which isn't the one at hand
abbrev pub wants : ℕ → Option Node → Member → Bool
wants key None m = is_node key m
wants key (Some x) m = cond (x.uid == key) false (is_node key m)

-- the member, or the pointers of the node that it is, where that is at hand
abbrev pub filled : ℕ → Option Node → Member → Member
filled key None m = m
filled key (Some x) m = cond ((x.uid == key) && is_node key m) (record { low = x.low; high = x.high }) m

-- the member's node, where it is one of that level that wasn't read, and a truth value else
abbrev pub waiting : ℕ → Member → ℕ
waiting level m = cond ((m.low == m.high) && (level_of m.low == level)) m.low (terminal true)

abbrev pub all_waiting : ℕ → Members → Tuple
all_waiting level m = record {
  first = waiting level m.first;
  second = waiting level m.second;
  third = waiting level
      m.third;
}

-- an ask's node isn't at hand for each member that it is
abbrev pub want : Operands → Ask → Bool
want o a = wants a.key o.first.hand a.members.first ||
    (wants a.key o.second.hand a.members.second || wants a.key o.third.hand a.members.third)

-- the members of an ask, with the pointers of its key for those that it is
abbrev pub all_filled : Operands → Ask → Members
all_filled o a = record {
  first = filled a.key o.first.hand a.members.first;
  second = filled a.key o.second.hand a.members.second;
  third = filled a.key o.third.hand a.members.third;
}

-- all members were read on that level: their pointers lie deeper
pub record IsResolved (level : ℕ) (m : Members) : Type 0 where
  pub low : level < level_of_tuple (on_side false m)
  pub high : level < level_of_tuple (on_side true m)
