-- What calls change of the lists that a machine stands for.
use Rattle.std.specs.Prelude.{◌≡◌, ℕ, Bool, true, false, List, [], ◌∷◌, ◌++◌, Option, Some, None}
use Rattle.std.specs.List.Sorted.{IsPermutation}
use Rattle.shelf_model.specs.World.{World}
use Rattle.top_down.specs.declared.tuple.Tuple.{Tuple}
use Rattle.top_down.specs.declared.tuple.Goal.{Goal}
use Rattle.top_down.specs.declared.tuple.Goal.TheVariants.{End, Go}
use Rattle.top_down.specs.Asks.{side_arcs}
use Rattle.top_down.specs.Rules.{Rule}
use Rattle.tuple_asks.specs.declared.ask.Members.{Members}
use Rattle.tuple_asks.specs.declared.ask.Ask.{Ask}
use Rattle.top_down_sweep.specs.declared.machine.Machine.{Machine}
use Rattle.top_down_laws.specs.Forms.{least}
use Rattle.tuple_asks.specs.Members.{members_of, on_side}
use Rattle.tuple_asks.specs.Soundness.{asker_word}
use Rattle.top_down_sweep.specs.Meaning.{Contents, StandsFor}

-- the first ask is shown, and stays; None is answered where none waits
abbrev pub ShowsAsk : Machine → World → Contents → Option Ask → Type 0
ShowsAsk m world k None = (k.asks ≡ []) × StandsFor m world k
ShowsAsk m world k (Some a) = (rest : List Ask) × (k.asks ≡ a ∷ rest) × StandsFor m world k

-- that ask was the first one, and the others wait
abbrev pub TakesAsk : Machine → World → Contents → Ask → Type 0
TakesAsk m world k a = (rest : List Ask) × (k.asks ≡ a ∷ rest)
    × StandsFor m world (record k { asks = rest })

-- these asks wait too
abbrev pub JoinAsks : Machine → World → Contents → List Ask → Type 0
JoinAsks m world k new = (asks : List Ask) × IsPermutation (new ++ k.asks) asks
    × StandsFor m world (record k { asks = asks })

-- the ask is taken, and that one waits in its place
abbrev pub AsksInstead : Machine → World → Contents → Ask → Ask → Type 0
AsksInstead m world k a b = (rest : List Ask) × (k.asks ≡ a ∷ rest)
    × JoinAsks m world (record k { asks = rest }) (b ∷ [])

-- the ask for a tuple, of that asker
abbrev pub ask_for : Tuple → ℕ → Ask
ask_for x asker = record { key = least x; members = members_of x; asker = asker }

-- the ask of a new identifier on one side
abbrev pub side_asks : ℕ → Bool → Goal → List Ask
side_asks s side (End value) = []
side_asks s side (Go x) = ask_for x (asker_word (record { uid = s; high = side })) ∷ []

-- what the rule makes of the tuple on a side, where all members were read
abbrev pub goal_below : Rule → ℕ → Bool → Members → Goal
goal_below rule level side m = rule.goal (rule.below level side (on_side false m) (on_side true m))

-- on that side of a new identifier stands an arc to a truth value, or an ask waits
abbrev pub ServesSide : Machine → World → Contents → ℕ → Bool → Goal → Type 0
ServesSide m world k s side goal = JoinAsks m world (record k { ends = k.ends ++ side_arcs s side goal })
    (side_asks s side goal)
