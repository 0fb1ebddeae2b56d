use Rattle.std.proofs.Common.{◌≡◌}
use Rattle.std.specs.Prelude.{drop}
use Rattle.saved_words.specs.Places.{put_in}
use Rattle.saved_words.proofs.item.push_all.Given as goal

-- with those that are left, it is all of them that are put
abbrev pub invariant-loop-k : goal.invariant-loop-k
invariant-loop-k l = put_in (drop l.k l.words) l.into ≡ put_in l.words l.initial.into
