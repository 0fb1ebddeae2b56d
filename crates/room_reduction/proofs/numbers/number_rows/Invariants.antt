use Rattle.std.proofs.Common.{◌≡◌, ℕ, ◌≤◌, map, take, drop}
use Rattle.rec_words.specs.declared.rec.Rec.{Rec}
use Rattle.list_laws.specs.Members.{Has}
use Rattle.run_files.specs.Items.{record_at}
use Rattle.canon_file.specs.Pairs.{word_in}
use Rattle.arc_diagrams.specs.Reducing.{IsRising}
use Rattle.room_reduction.specs.Records.{row_in, word}
use Rattle.room_reduction.specs.Sources.{sources_in}
use Rattle.room_reduction.specs.Levels.{KeepsSources, Names, IsNumbering, distinct_rows}
use Rattle.room_reduction.proofs.numbers.number_rows.Given as goal

-- the rows so far are numbered, and their sources named
abbrev pub invariant-loop-place : goal.invariant-loop-place
invariant-loop-place l = record {
  within : l.done.count ≤ l.place;
  rest : drop l.place l.rows ≡ drop l.place l.fn.rows;
  same : KeepsSources (sources_in l.total l.fn.sources) (sources_in l.total l.sources);
  numbering : IsNumbering l.level l.fn.rows l.place l.done.count (record { low = l.done.low; high = l.done.high })
      l.rows;
  names : IsRising (map row_in l.fn.rows) → (f : ℕ → ℕ)
      → ((r : Rec) → Has r l.fn.rows → word_in l.level (distinct_rows l.fn.rows) (row_in r)
      ≡ f (word 0 (record_at (sources_in l.total l.fn.sources) (word 2 r))))
      → Names f (take l.place l.fn.rows) (sources_in l.total l.fn.sources) (sources_in l.total l.sources);
}
