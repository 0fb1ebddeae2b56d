-- What an ask keeps beyond its form, and the number of its tuple.
use Rattle.std.specs.Prelude.{ℕ, ◌+◌, ◌-◌, ◌*◌, ◌/◌, ◌%◌, ◌^◌, ◌==◌, ◌&&◌, ◌||◌, nat_lt, nat_le, Bool, true, false, cond, Option, Some, None}
use Rattle.rec_words.specs.Words.{level_of, node_word, most_variables}
use Rattle.tuple_asks.specs.declared.ask.Member.{Member}
use Rattle.tuple_asks.specs.declared.ask.Ask.{Ask}
use Rattle.tuple_asks.specs.declared.place.Numbered.{Numbered}
use Rattle.tuple_asks.specs.declared.place.Asking.{Asking}
use Rattle.tuple_asks.specs.declared.sound.Source.{Source}
use Rattle.tuple_asks.specs.Members.{is_node}

-- the asker of the root's ask, which no node asks for
abbrev pub nobody : ℕ
nobody = 2 ^ 64 - 1

-- the number of a side
abbrev pub side_number : Bool → ℕ
side_number false = 0
side_number true = 1

-- the word of a node that asks, on one of its sides
abbrev pub asker_word : Source → ℕ
asker_word s = 2 * s.uid + side_number s.high

-- the node and the side of such a word
abbrev pub asker_of : ℕ → Source
asker_of w = record { uid = w / 2; high = w % 2 == 1 }

-- the word is that of a node that asks
abbrev pub is_asker : ℕ → Bool
is_asker w = nat_lt (level_of (w / 2)) most_variables

-- the asker is a node of a level above the key's, or nobody
abbrev pub asks_above : ℕ → ℕ → Bool
asks_above w key = cond (is_asker w) (nat_lt (level_of (w / 2)) (level_of key)) (w == nobody)

-- the member is a pointer from that node on, or both pointers lie deeper than the node
abbrev pub stands : ℕ → Member → Bool
stands key m = cond (m.low == m.high) (nat_le key m.low)
    (nat_lt (level_of key) (level_of m.low) && nat_lt (level_of key) (level_of m.high))

-- the key is the least of the members' nodes of its level that weren't read, and all else lies deeper
abbrev pub is_keyed : Ask → Bool
is_keyed a = (is_node a.key a.members.first || (is_node a.key a.members.second || is_node a.key a.members.third))
    && (stands a.key a.members.first && (stands a.key a.members.second && stands a.key a.members.third))

-- the ask is one that a sweep makes: it is for its key, and is asked from above
abbrev pub is_sound : Ask → Bool
is_sound a = is_keyed a && asks_above a.asker a.key

-- such an ask may come then: once a tuple has a number, only nodes ask
abbrev pub is_due : Option Numbered → Ask → Bool
is_due None a = true
is_due (Some x) a = is_asker a.asker

-- that tuple is asked for
abbrev pub same_member : Member → Member → Bool
same_member x y = (x.low == y.low) && (x.high == y.high)

abbrev pub answers : Numbered → Ask → Bool
answers x a = (x.key == a.key) && (same_member x.members.first a.members.first
    && (same_member x.members.second a.members.second && same_member x.members.third a.members.third))

-- the next number of a level, or its number 0, where that tuple was numbered last
abbrev pub next_number : Option Numbered → ℕ → ℕ
next_number None level = 0
next_number (Some x) level = cond (level_of x.key == level) (x.number + 1) 0

-- the tuple of an ask, with its number
abbrev pub next_numbered : Asking → Ask → Numbered
next_numbered s a = record { key = a.key; members = a.members; number = next_number s.last (level_of a.key) }

-- its identifier
abbrev pub identifier : Numbered → ℕ
identifier x = node_word (level_of x.key) x.number

-- the identifier of an ask's tuple, where that was numbered last
abbrev pub known : Option Numbered → Ask → Option ℕ
known None a = None
known (Some x) a = cond (answers x a) (Some (identifier x)) None
