-- What falls with each turn of a sweep, whatever the folder answers.
--
-- Asks are taken in their order, and one that equals the last one taken is taken without effect. So
-- each ask is taken with effect at most once, and puts at most two others into the queue.
use Rattle.std.specs.Prelude.{ℕ, ◌+◌, ◌-◌, ◌*◌, ◌^◌, List, [], ◌∷◌, Option, Some, None}
use Rattle.node_file.specs.Readers.{left_of}
use Rattle.level_queue.specs.Queues.{last_of, held}
use Rattle.tuple_asks.specs.declared.ask.Ask.{Ask}
use Rattle.tuple_asks.specs.declared.operand.Operands.{Operands}
use Rattle.tuple_asks.specs.declared.place.Phase.{Phase}
use Rattle.tuple_asks.specs.declared.place.Phase.TheVariants.{Fresh, Asking, Ended}
use Rattle.top_down_sweep.specs.declared.machine.Machine.{Machine}
use Rattle.top_down_sweep.specs.declared.sweep.TopDownSweep.{TopDownSweep}
use Rattle.tuple_asks.specs.Items.{ask_words}

-- a number that is continued by words as its next digits
unfoldable pub continued : ℕ → List ℕ → ℕ
continued a [] = a
continued a (x ∷ xs) = continued (a * 2 ^ 64 + x) xs

-- where an ask stands in the order of all asks
unfoldable pub rank_of : Ask → ℕ
rank_of a = continued 0 (ask_words a)

-- how many asks can still be taken with effect: those behind the last one taken
unfoldable pub asks_behind : Option Ask → ℕ
asks_behind None = 2 ^ 512
asks_behind (Some a) = 2 ^ 512 - (rank_of a + 1)

-- how many nodes of the operands weren't read
abbrev pub unread : Operands → ℕ
unread o = left_of o.first.reader + left_of o.second.reader + left_of o.third.reader

-- two for each ask that can still be taken with effect, one for each that waits, and one for each
-- node that wasn't read
abbrev pub weight : Machine → ℕ
weight m = 2 * asks_behind (last_of m.queue) + held m.queue + unread m.operands

-- no more turns than these are made, whatever the folder answers: none where the sweep has ended
abbrev pub fuel_at : Phase → ℕ → ℕ
fuel_at Fresh n = n + 3
fuel_at (Asking s) n = n + 1
fuel_at (Ended made) n = 0

abbrev pub machine_fuel : Machine → ℕ
machine_fuel m = fuel_at m.place.phase (weight m)

abbrev pub fuel_of : {O : Type 0} → TopDownSweep O → ℕ
fuel_of s = machine_fuel s.machine
