use Rattle.std.proofs.Common.{inl, arith}
use Rattle.resumable.proofs.laws.without_checkpoints_is_resumable.Goals as goal

pub returns : goal.returns
returns c n text steps j r none = record {
  behind = λ k behind within. none k (omega (arith, behind)) within;
  this_step = λ within. inl (none j (omega arith) within);
}
