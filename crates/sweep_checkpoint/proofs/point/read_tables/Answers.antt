use Rattle.std.proofs.Common.{◌≡◌, ℕ, ◌+◌, ◌-◌, ◌*◌, ◌<◌, ◌++◌, [], ◌∷◌, List, length, take, drop, set, ap, ◌∙◌, arith}
use Rattle.std.proofs.lemmas.List.{take_more_set}
use Rattle.std.proofs.lemmas.List.Elements.{All-push, All-same}
use Rattle.run_tiers.specs.declared.run.Run.{Run}
use Rattle.sweep_checkpoint.specs.Points.{table_bytes, IsTable}
use Rattle.sweep_checkpoint.proofs.Flat.{read_one}
use Rattle.sweep_checkpoint.proofs.point.read_tables.Goals as goal

pub loop-k-preserved : goal.loop-k-preserved
loop-k-preserved c =
    let tables : List (List Run) = c.loop-k.tables in
    let k : ℕ = c.loop-k.k in
    let x : List Run = c.table_of.result in
    let within : k < length tables = omega arith in
    record {
      bytes = read_one table_bytes 1536 tables k x c.args.bytes.now within c.loop-k.invariant.bytes
          (c.table_of.ensures.bytes ∙ (let size : 1536 * k + 1536 - 1536 * k ≡ 1536 = omega arith in ap (λ n. take n (drop (1536 * k) c.args.bytes.now)) size));
      tables = All-same IsTable (take (k + 1) (set tables k x)) (take k tables ++ x ∷ []) (take_more_set tables k x within) (All-push IsTable (take k tables) x c.loop-k.invariant.tables c.table_of.ensures.table);
    }
