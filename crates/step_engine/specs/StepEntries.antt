-- The entry of a step.
use Rattle.std.specs.Prelude.{◌≡◌, ℕ, ◌-◌, Bool, List, ◌++◌, take, drop, replicate}
use Rattle.bool_tables.specs.declared.steps.Step.{Step}
use Rattle.bool_tables.specs.declared.steps.Planned.{Planned}
use Rattle.file_numbers.specs.Files.{inner_part}
use Rattle.catalogue.specs.declared.layout.Entry.{Entry}
use Rattle.catalogue.specs.Entries.{IsEntry}
use Rattle.sound_image.specs.Entries.{kind_of, bit_of}
use Rattle.step_engine.specs.declared.entries.Spent.{Spent}

-- a diagram with so many nodes, under the name that stands in the text
abbrev pub diagram_entry : List ℕ → Planned → ℕ → ℕ → Spent → Entry
diagram_entry text p number nodes spent = record {
  number = number;
  kind = 1;
  answer = 0;
  count = nodes;
  turns = spent.turns;
  parts = spent.parts;
  name_len = p.name_len;
  name = take p.name_len (drop p.name_at text) ++ replicate (63 - p.name_len) 0;
}

-- one turn, and no part
abbrev pub one_turn : Spent
one_turn = record { turns = 1; parts = inner_part }

-- an entry of that kind with no name
abbrev pub nameless_entry : ℕ → ℕ → ℕ → ℕ → Spent → Entry
nameless_entry number kind answer count spent = record {
  number = number;
  kind = kind;
  answer = answer;
  count = count;
  turns = spent.turns;
  parts = spent.parts;
  name_len = 0;
  name = replicate 63 0;
}

-- an answer
abbrev pub answer_entry : ℕ → Bool → Spent → Entry
answer_entry number answer spent = nameless_entry number 3 (bit_of answer) 0 spent

-- an entry that can be committed for a step under that number, whatever the folder holds
pub record IsEntryFor (step : Step) (number : ℕ) (e : Entry) : Type 0 where
  pub entry_is : IsEntry e
  pub number_is : e.number ≡ number
  pub kind_is : e.kind ≡ kind_of step
