use Rattle.std.proofs.Common.{◌≡◌, ℕ, ◌<◌, ◌≤◌}
use Rattle.rec_words.specs.Words.{level_of}
use Rattle.run_files.specs.Items.{record_at}
use Rattle.room_reduction.specs.Records.{word}
use Rattle.room_reduction.specs.Sources.{sources_in}
use Rattle.room_reduction.proofs.level.level_start.Given as goal

-- the sources from the place on are of the level
abbrev pub invariant-sources : goal.invariant-sources
invariant-sources l = record {
  within : l.from ≤ l.end;
  own : (k : ℕ) → l.from ≤ k → k < l.end → level_of (word 0 (record_at (sources_in l.total l.sources) k)) ≡ l.level;
}

-- it comes closer to the first one
abbrev pub decreases-sources : goal.decreases-sources
decreases-sources l = l.from
