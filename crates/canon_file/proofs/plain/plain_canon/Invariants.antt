use Rattle.std.proofs.Common.{◌≡◌, ◌-◌}
use Rattle.canon_file.proofs.LevelLaws.{level_words, level_bytes}
use Rattle.canon_file.proofs.plain.plain_canon.Given as goal

-- the deepest levels are done: their nodes are written, and the pointers of the last one's pieces are at hand
abbrev pub invariant-loop-done : goal.invariant-loop-done
invariant-loop-done l = record {
  pointers : l.pointers.items ≡ level_words l.table (l.n - l.done) l.done;
  bytes : l.bytes.items ≡ level_bytes l.table (l.n - l.done) l.done;
}
