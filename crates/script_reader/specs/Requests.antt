-- What a line of a script asks for, and its first fault.
use Rattle.std.specs.Prelude.{ℕ, Bool, true, false, not, ◌&&◌, ◌+◌, ◌==◌, nat_le, is_some, List, [], ◌∷◌}
use Rattle.std.specs.Prelude.{◌++◌, length, Some, Result, Ok, Err, if◌then◌else◌}
use Rattle.std.specs.List.{list_all}
use Rattle.std.specs.Str.{bytes_eq}
use Rattle.std.specs.Map.{update}
use Rattle.bool_tables.specs.Plans.{is_bit}
use Rattle.bool_tables.specs.declared.steps.Planned.{Planned}
use Rattle.bool_tables.specs.declared.steps.Step.{Step}
use Rattle.bool_tables.specs.declared.steps.Step.TheVariants as step
use Rattle.text_words.specs.Text.{Word}
use Rattle.script_reader.specs.declared.fault.ScriptKind.{ScriptKind}
use Rattle.script_reader.specs.declared.fault.ScriptKind.TheVariants as kind
use Rattle.script_reader.specs.declared.keyword.Keyword.{Keyword}
use Rattle.script_reader.specs.declared.keyword.Keyword.TheVariants.{Vars, Inputs, Const, Var, Not, Pair}
use Rattle.script_reader.specs.declared.keyword.Keyword.TheVariants.{Ite, Quantify, Restrict, Net, Drop}
use Rattle.script_reader.specs.declared.keyword.Keyword.TheVariants.{Same, Leq, Eval, Size}
use Rattle.script_reader.specs.declared.planning.Named.{Named}
use Rattle.script_reader.specs.Results.{◌>>=◌, check}
use Rattle.script_reader.specs.Keywords.{word_at, op, is_one, gives_name}
use Rattle.script_reader.specs.Names.{State, live, level_of}

-- a word that has one 0 or 1 for each of n variables
abbrev pub are_bits : ℕ → Word → Bool
are_bits n word = (length word.bytes == n) && list_all is_bit word.bytes

-- the place of the bits that a word has
abbrev pub bits_in : ℕ → Word → Result ℕ ScriptKind
bits_in n word = if are_bits n word then Ok word.at else Err kind.Bits

-- the place of the bits of an evaluation, the third word of its line; 0 where it is left out
abbrev pub bits_at : ℕ → List Word → Result ℕ ScriptKind
bits_at n words = if length words == 3 then bits_in n (word_at 2 words) else Ok 0

-- the step that a line asks for: its diagrams from left to right, then its variable, then its bits
abbrev pub step_of : State → Keyword → List Word → Result Step ScriptKind
step_of s Vars words = Err kind.Word
step_of s Inputs words = Err kind.Word
step_of s Net words = Err kind.Word
step_of s Const words = Ok (step.Const (is_one (word_at 2 words)))
step_of s Var words = level_of s (word_at 2 words) >>= λ level. Ok (step.Var level)
step_of s Not words = live s (word_at 2 words) >>= λ of. Ok (step.Pair (op true true true false) of of)
step_of s (Pair operator) words =
    live s (word_at 2 words) >>= λ left. live s (word_at 3 words) >>= λ right. Ok (step.Pair operator left right)
step_of s Ite words =
    live s (word_at 2 words) >>= λ test. live s (word_at 3 words) >>= λ yes. live s (word_at 4 words) >>= λ no.
    Ok (step.Ite test yes no)
step_of s (Quantify kind) words =
    live s (word_at 2 words) >>= λ of. level_of s (word_at 3 words) >>= λ level. Ok (step.Quantify kind of level)
step_of s Restrict words =
    live s (word_at 2 words) >>= λ of. level_of s (word_at 3 words) >>= λ level.
    Ok (step.Restrict of level (is_one (word_at 4 words)))
step_of s Drop words = live s (word_at 1 words) >>= λ gone. Ok (step.Drop gone)
step_of s Same words =
    live s (word_at 1 words) >>= λ left. live s (word_at 2 words) >>= λ right. Ok (step.Same left right)
step_of s Leq words =
    live s (word_at 1 words) >>= λ left. live s (word_at 2 words) >>= λ right. Ok (step.Leq left right)
step_of s Eval words = live s (word_at 1 words) >>= λ of. bits_at s.n words >>= λ at. Ok (step.Eval of at)
step_of s Size words = live s (word_at 1 words) >>= λ of. Ok (step.Size of)

-- a name has at most 63 bytes
abbrev pub is_short : Word → Bool
is_short name = nat_le (length name.bytes) 63

-- a new diagram may have the name
abbrev pub new_name : State → Word → Result Unit ScriptKind
new_name s name =
    check kind.NameLength (is_short name) >>= λ _. check kind.NameTaken (not (is_some (s.named name.bytes)))

-- and that which the line gives, where it gives one
abbrev pub name_fits : State → Keyword → List Word → Result Unit ScriptKind
name_fits s k words = if gives_name k then new_name s (word_at 1 words) else Ok tt

-- a plan has at most 1,048,576 steps
abbrev pub has_room : ℕ → Bool
has_room count = nat_le count 1048576

-- the step of a line, with the name that the line gives
abbrev pub planned_of : Keyword → List Word → Step → Planned
planned_of k words made =
    if gives_name k
    then record { step = made; name_at = (word_at 1 words).at; name_len = length (word_at 1 words).bytes }
    else record { step = made; name_at = 0; name_len = 0 }

-- what is known behind a line on which a name was given, or dropped
abbrev pub with_named : State → Word → Named → State
with_named s name named = record s { named = update bytes_eq s.named name.bytes (Some named) }

-- the name of a line, its second word, is that of the line's step; a dropped one stays given
abbrev pub name_behind : State → Keyword → List Word → Step → State
name_behind s k words (step.Drop gone) = with_named s (word_at 1 words) (record { step = gone; dropped = true })
name_behind s k words made =
    if gives_name k then with_named s (word_at 1 words) (record { step = length s.steps; dropped = false }) else s

-- and behind its step, which is said on a line of its own
abbrev pub with_planned : State → ℕ → Planned → State
with_planned s number planned = record s {
  steps = s.steps ++ planned ∷ [];
  lines = s.lines ++ record { line = number; last = length s.steps; shows = length s.steps } ∷ [];
}

-- what is known behind a line that is one step
abbrev pub with_step : State → ℕ → Keyword → List Word → Step → State
with_step s number k words made = with_planned (name_behind s k words made) number (planned_of k words made)

-- a line that is one step
abbrev pub plan_step : State → ℕ → Keyword → List Word → Result State ScriptKind
plan_step s number k words =
    step_of s k words >>= λ made. name_fits s k words >>= λ _.
    check kind.TooManySteps (has_room (length s.steps + 1)) >>= λ _.
    Ok (with_step s number k words made)
