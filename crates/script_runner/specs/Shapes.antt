-- What a run says in any folder, by the entries that stand there.
use Rattle.std.specs.Prelude.{◌≡◌, ◌⊎◌, ℕ, List, [], ◌∷◌, ◌++◌}
use Rattle.shelf_model.specs.declared.file_no.FileNo.{FileNo}
use Rattle.bool_tables.specs.declared.steps.Planned.{Planned}
use Rattle.catalogue.specs.declared.layout.Entry.{Entry}
use Rattle.catalogue.specs.Counts.{count_in}
use Rattle.catalogue.specs.Entries.{IsEntryOf}
use Rattle.script_reader.specs.declared.plan.LineEnd.{LineEnd}
use Rattle.script_runner.specs.Text.{entry_line, banner_line, lines_from_step, done_line, other_job_line, damaged_line}
use Rattle.script_runner.specs.Text.{runs_spent_line}

-- the lines one behind the other, each of which shows the entry that stands at its step's place
abbrev pub AreShown : List Planned → (FileNo → List ℕ) → List LineEnd → List ℕ → Type 0
AreShown steps r [] bytes = bytes ≡ []
AreShown steps r (line ∷ lines) bytes =
    (e : Entry) × (rest : List ℕ) × IsEntryOf line.shows r e
    × (bytes ≡ entry_line steps line e ++ rest) × AreShown steps r lines rest

-- whole lines of a run: the banner of what was there at first, the first of the plan's lines that
-- weren't said before, by the entries that are there now, and, behind all of them, that all was
-- done
pub record IsShape (steps : List Planned) (lines : List LineEnd) (first here : FileNo → List ℕ)
    (text : List ℕ) : Type 0 where
  pub spoken : List LineEnd
  pub later : List LineEnd
  pub parts : lines_from_step (count_in first) lines ≡ spoken ++ later
  pub body : List ℕ
  pub shown : AreShown steps here spoken body
  pub end : List ℕ
  pub ends : (end ≡ []) ⊎ ((end ≡ done_line) × (later ≡ []))
  pub text_is : text ≡ banner_line first lines ++ (body ++ end)

-- a front part of whole lines of a run
pub record IsShapeFront (steps : List Planned) (lines : List LineEnd) (first here : FileNo → List ℕ)
    (front : List ℕ) : Type 0 where
  pub rest : List ℕ
  pub shape : IsShape steps lines first here (front ++ rest)

-- nothing, or whole lines of a run
abbrev pub AreWhole : List Planned → List LineEnd → (FileNo → List ℕ) → (FileNo → List ℕ) → List ℕ
    → Type 0
AreWhole steps lines first here text = (text ≡ []) ⊎ IsShape steps lines first here text

-- all that a run says: its banner, each of the plan's lines that weren't said before, and that all
-- was done
pub record IsWholeShape (steps : List Planned) (lines : List LineEnd) (first here : FileNo → List ℕ)
    (text : List ℕ) : Type 0 where
  pub body : List ℕ
  pub shown : AreShown steps here (lines_from_step (count_in first) lines) body
  pub text_is : text ≡ banner_line first lines ++ (body ++ done_line)

-- the line of a status that a run ends with: its folder stores another job, or is damaged, or a step has no part number
-- left
abbrev pub IsRefusal : List ℕ → Type 0
IsRefusal line = ((at : ℕ) × (line ≡ other_job_line at))
    ⊎ (((f : FileNo) × (at : ℕ) × (line ≡ damaged_line f at))
    ⊎ ((step : ℕ) × (line ≡ runs_spent_line step)))

-- a front part of such a line, behind whole lines
pub record IsRefusing (steps : List Planned) (lines : List LineEnd) (first here : FileNo → List ℕ)
    (front tail : List ℕ) : Type 0 where
  pub whole : AreWhole steps lines first here front
  pub rest : List ℕ
  pub refusal : IsRefusal (tail ++ rest)

-- what was said behind a front part of the lines: nothing, or a front part of a status's line
abbrev pub IsTail : List Planned → List LineEnd → (FileNo → List ℕ) → (FileNo → List ℕ) → List ℕ
    → List ℕ → Type 0
IsTail steps lines first here front tail = (tail ≡ [])
    ⊎ IsRefusing steps lines first here front tail
