-- what a pointer stands for, where the two pointers of each node are given
use Rattle.std.specs.Prelude.{◌≡◌, ℕ, zero, suc, ◌+◌, ◌*◌, ◌^◌, ◌<◌, ◌==◌, nat_lt, Bool, cond, List, [], ◌∷◌, ◌++◌, length, get_or}
use Rattle.rec_words.specs.Words.{level_numbers}
use Rattle.rec_words.specs.declared.node.Node.{Node}
use Rattle.canon_file.specs.declared.row.Row.{Row}
use Rattle.canon_file.specs.Rows.{row_word}

-- the pointer, which is of level i or deeper, is of level i
abbrev pub is_at : ℕ → ℕ → Bool
is_at i w = nat_lt w (suc i * level_numbers)

-- the pointer in which the walk ends that begins at w on level i and takes the low or high side that each digit says
abbrev pub walk : (ℕ → Row) → ℕ → List Bool → ℕ → ℕ
walk arcs i [] w = w
walk arcs i (b ∷ bits) w = walk arcs (suc i) bits (cond (is_at i w) (cond b (arcs w).high (arcs w).low) w)

-- the table of the h variables from level i on that w stands for: a node of the level has its two
-- pointers' tables as halves, and any other pointer has the same table twice
abbrev pub table_of : (ℕ → Row) → ℕ → ℕ → ℕ → List Bool
table_of arcs zero i w = (w == 2 ^ 63 + 1) ∷ []
table_of arcs (suc h) i w =
    cond (is_at i w)
    (table_of arcs h (suc i) (arcs w).low ++ table_of arcs h (suc i) (arcs w).high)
    (table_of arcs h (suc i) w ++ table_of arcs h (suc i) w)

-- the row that no node has
abbrev pub nowhere : Row
nowhere = record { low = 2 ^ 63; high = 2 ^ 63 }

-- the pointers of the node with that identifier
abbrev pub row_at : List Node → ℕ → Row
row_at [] w = nowhere
row_at (x ∷ xs) w = cond (x.uid == w) (record { low = x.low; high = x.high }) (row_at xs w)

-- the pointers of the nodes of level i, and of each deeper one, are the rows of the levels
abbrev pub Agrees : (ℕ → Row) → ℕ → List (List Row) → Type 0
Agrees arcs i [] = Unit {0}
Agrees arcs i (rs ∷ deeper) = ((k : ℕ) → k < length rs → arcs (row_word i k) ≡ get_or rs k nowhere)
    × Agrees arcs (suc i) deeper
