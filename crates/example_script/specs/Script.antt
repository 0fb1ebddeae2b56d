-- The script of a size: it asks from the first bit on, and from the last, whether two words of so many bits are equal.
use Rattle.std.specs.Prelude.{ℕ, ◌+◌, ◌-◌, List, [], ◌∷◌, ◌++◌, map, codes}
use Rattle.std.specs.List.{flat_map, range_with_len}
use Rattle.example_script.specs.Lines.{numbered, line}

-- the numbers from 1 to n
abbrev pub one_to : ℕ → List ℕ
one_to n = range_with_len 1 n

-- the bits of the two words, first word first
abbrev pub variables_line : ℕ → List ℕ
variables_line n = line (codes "vars") (map (numbered (codes "x")) (one_to n) ++ map (numbered (codes "y")) (one_to n))

-- the variables of bit i, whether they are equal, and whether the first i bits are
abbrev pub bit_lines : ℕ → List ℕ
bit_lines i =
    line (codes "var") (numbered (codes "a") i ∷ numbered (codes "x") i ∷ [])
    ++ line (codes "var") (numbered (codes "b") i ∷ numbered (codes "y") i ∷ [])
    ++ line (codes "xnor") (numbered (codes "e") i ∷ numbered (codes "a") i ∷ numbered (codes "b") i ∷ [])
    ++ line (codes "and") (numbered (codes "p") i ∷ numbered (codes "p") (i - 1) ∷ numbered (codes "e") i ∷ [])

-- whether the last i of n bits are equal
abbrev pub back_line : ℕ → ℕ → List ℕ
back_line n i =
    line (codes "and") (numbered (codes "r") i ∷ numbered (codes "r") (i - 1) ∷ numbered (codes "e") (n + 1 - i) ∷ [])

-- 5 * n + 5 lines: from no bits on one way, from no bits on the other way, and whether both found the same
unfoldable pub script_of : ℕ → List ℕ
script_of n =
    variables_line n
    ++ line (codes "const") (codes "p0" ∷ codes "1" ∷ [])
    ++ flat_map bit_lines (one_to n)
    ++ line (codes "const") (codes "r0" ∷ codes "1" ∷ [])
    ++ flat_map (back_line n) (one_to n)
    ++ line (codes "same") (numbered (codes "p") n ∷ numbered (codes "r") n ∷ [])
    ++ line (codes "size") (numbered (codes "p") n ∷ [])
