-- Asks, and the records that they are stored as.
use Rattle.std.specs.Prelude.{◌≡◌, ℕ, ◌<◌, ◌^◌, true, List, [], ◌∷◌}
use Rattle.std.specs.Ordering.{nat_cmp, ordering_then}
use Rattle.std.specs.declared.cmp.Ordering.{Ordering}
use Rattle.rec_words.specs.Words.{IsNodeWord, IsPointer}
use Rattle.tuple_asks.specs.declared.ask.Member.{Member}
use Rattle.tuple_asks.specs.declared.ask.Members.{Members}
use Rattle.tuple_asks.specs.declared.ask.Ask.{Ask}
use Rattle.tuple_asks.specs.Soundness.{is_sound}

-- the words of an ask: its key, the low and the high pointer of each member, and who asked
abbrev pub ask_words : Ask → List ℕ
ask_words a = a.key ∷ a.members.first.low ∷ a.members.first.high ∷ a.members.second.low ∷ a.members.second.high
    ∷ a.members.third.low ∷ a.members.third.high ∷ a.asker ∷ []

-- a member's words are those of pointers
pub record IsMember (m : Member) : Type 0 where
  pub low_is : IsPointer m.low
  pub high_is : IsPointer m.high

-- the key's word is that of a node, and each member's are those of pointers
pub record IsForm (a : Ask) : Type 0 where
  pub key_is : IsNodeWord a.key
  pub first_is : IsMember a.members.first
  pub second_is : IsMember a.members.second
  pub third_is : IsMember a.members.third
  pub asker_fits : a.asker < 2 ^ 64

-- so it is, and the ask is one that a sweep makes
pub record IsAsk (a : Ask) : Type 0 where
  pub form : IsForm a
  pub sound : is_sound a ≡ true

-- asks ascend by their keys, then by their members, then by who asked
abbrev pub member_cmp : Member → Member → Ordering
member_cmp x y = ordering_then (nat_cmp x.low y.low) (nat_cmp x.high y.high)

abbrev pub members_cmp : Members → Members → Ordering
members_cmp x y = ordering_then (member_cmp x.first y.first)
    (ordering_then (member_cmp x.second y.second) (member_cmp x.third y.third))

abbrev pub ask_cmp : Ask → Ask → Ordering
ask_cmp x y = ordering_then (nat_cmp x.key y.key) (ordering_then (members_cmp x.members y.members)
    (nat_cmp x.asker y.asker))
