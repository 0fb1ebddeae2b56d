use Rattle.std.proofs.Common.{ℕ, ◌+◌, ◌<◌, ◌++◌, [], ◌∷◌, List, length, take, set, arith}
use Rattle.std.proofs.lemmas.List.{take_more_set}
use Rattle.std.proofs.lemmas.List.Elements.{All-push, All-same}
use Rattle.run_tiers.specs.declared.run.Run.{Run}
use Rattle.sweep_checkpoint.specs.Points.{run_bytes, AreThree}
use Rattle.sweep_checkpoint.proofs.Flat.{read_one}
use Rattle.sweep_checkpoint.proofs.point.read_table.Goals as goal

pub loop-k-preserved : goal.loop-k-preserved
loop-k-preserved c =
    let table : List Run = c.loop-k.table in
    let k : ℕ = c.loop-k.k in
    let x : Run = c.run_at.result in
    let within : k < length table = omega arith in
    record {
      bytes = read_one run_bytes 24 table k x c.args.bytes.now within c.loop-k.invariant.bytes c.run_at.ensures.bytes;
      runs = All-same AreThree (take (k + 1) (set table k x)) (take k table ++ x ∷ []) (take_more_set table k x within) (All-push AreThree (take k table) x c.loop-k.invariant.runs c.run_at.ensures.words);
    }
