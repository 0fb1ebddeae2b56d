-- Names and lines of the script.
use Rattle.std.specs.Prelude.{ℕ, List, [], ◌∷◌, ◌++◌, decimal}
use Rattle.std.specs.List.{flat_map}
use Rattle.example_script.specs.declared.lines.Name.{Name}

-- a letter, with a number in decimal behind it
abbrev pub numbered : List ℕ → ℕ → List ℕ
numbered letter number = letter ++ decimal number

-- a name's bytes
abbrev pub text_of : Name → List ℕ
text_of name = numbered (name.letter ∷ []) name.number

-- words, each behind a blank
abbrev pub behind_blanks : List (List ℕ) → List ℕ
behind_blanks words = flat_map (λ word. 32 ∷ word) words

-- a line is its first word, the others each behind a blank, and a line feed
abbrev pub line : List ℕ → List (List ℕ) → List ℕ
line word others = word ++ behind_blanks others ++ 10 ∷ []
