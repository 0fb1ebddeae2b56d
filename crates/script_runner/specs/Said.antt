-- How many steps stand behind what a run has said.
use Rattle.std.specs.Prelude.{ℕ, ◌+◌, ◌-◌, ◌==◌, List, length, count_by, get_or, min, if◌then◌else◌}
use Rattle.script_reader.specs.declared.plan.LineEnd.{LineEnd}
use Rattle.script_runner.specs.Text.{ended_before}

-- how many whole lines the bytes have
abbrev pub whole_lines : List ℕ → ℕ
whole_lines bytes = count_by (λ byte. byte == 10) bytes

-- how many lines of a plan are acknowledged by what a run that began at a step said: those that a whole banner counts,
-- and each whole line after it
abbrev pub acknowledged : ℕ → List LineEnd → List ℕ → ℕ
acknowledged done lines bytes =
    if whole_lines bytes == 0 then 0
    else ended_before done lines + min (whole_lines bytes - 1) (length lines - ended_before done lines)

-- past the last line
abbrev pub no_line : LineEnd
no_line = record { line = 0; last = 0; shows = 0 }

-- the steps up to the last one whose line is acknowledged
abbrev pub said_count : ℕ → List LineEnd → List ℕ → ℕ
said_count done lines bytes =
    if acknowledged done lines bytes == 0 then 0
    else (get_or lines (acknowledged done lines bytes - 1) no_line).last + 1
