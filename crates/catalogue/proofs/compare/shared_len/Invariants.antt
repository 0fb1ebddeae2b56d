use Rattle.std.proofs.Common.{◌≡◌, ◌+◌, ◌<◌, drop}
use Rattle.catalogue.specs.Standings.{without_budget}
use Rattle.catalogue.proofs.Shared.{shared}
use Rattle.catalogue.proofs.compare.shared_len.Given as goal

-- the first i bytes are the same
abbrev pub invariant-loop-i : goal.invariant-loop-i
invariant-loop-i l = record {
  first : l.at ≡ 0 → shared (without_budget l.a) (without_budget l.b) ≡ l.i + shared (drop l.i (without_budget l.a)) (drop l.i (without_budget l.b));
  later : 0 < l.at → shared l.a l.b ≡ l.i + shared (drop l.i l.a) (drop l.i l.b);
}
