-- the words of pointers, and the numbers that their form fixes
use Rattle.std.specs.Prelude.{◌≡◌, ◌⊎◌, ℕ, ◌+◌, ◌*◌, ◌/◌, ◌^◌, ◌<◌, Bool, true, false}

-- the deepest level of a node
abbrev pub deepest_level : ℕ
deepest_level = 65534

-- the most variables of a diagram: one for each level of a node
abbrev pub most_variables : ℕ
most_variables = 65535

-- the level of a truth value, deeper than that of each node
abbrev pub terminal_level : ℕ
terminal_level = 65536

-- how many numbers the nodes of a level can have
abbrev pub level_numbers : ℕ
level_numbers = 2 ^ 47

-- the bytes of a node, and of a trailer
abbrev pub node_size : ℕ
node_size = 24

-- the word of a truth value
abbrev pub terminal : Bool → ℕ
terminal false = 2 ^ 63
terminal true = 2 ^ 63 + 1

-- the word of the node with that number in its level
abbrev pub node_word : ℕ → ℕ → ℕ
node_word level number = level * level_numbers + number

-- the level of a node; that of a truth value is the terminal level
abbrev pub level_of : ℕ → ℕ
level_of w = w / level_numbers

-- the word is that of a truth value
abbrev pub IsTerminal : ℕ → Type 0
IsTerminal w = (w ≡ 2 ^ 63) ⊎ (w ≡ 2 ^ 63 + 1)

-- the word is that of a node: its level is at most the deepest
abbrev pub IsNodeWord : ℕ → Type 0
IsNodeWord w = level_of w < most_variables

-- the word is that of a node or of a truth value
abbrev pub IsPointer : ℕ → Type 0
IsPointer w = IsNodeWord w ⊎ IsTerminal w
