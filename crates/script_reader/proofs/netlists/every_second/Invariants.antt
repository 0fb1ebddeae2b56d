use Rattle.std.specs.Prelude.{◌≡◌, ◌+◌, ◌-◌, ◌*◌, ◌≤◌, ◌++◌, length, drop}
use Rattle.script_reader.specs.Nets.{every_second}
use Rattle.script_reader.specs.Views.{words_of}
use Rattle.script_reader.proofs.netlists.every_second.Given as goal

-- the words so far and those that are left are all
abbrev pub invariant-seconds : goal.invariant-seconds
invariant-seconds l = record {
  read : words_of l.read.items ++ every_second (drop l.k (words_of l.words)) ≡ every_second (drop l.from (words_of l.words));
  count : 2 * length l.read.items + l.from ≡ l.k;
  near : l.k ≤ length l.words + 2;
}

abbrev pub decreases-seconds : goal.decreases-seconds
decreases-seconds l = length l.words - l.k
