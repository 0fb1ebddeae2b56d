use Rattle.std.proofs.Common.{◌≡◌, ℕ, ◌*◌, ◌<◌, [], List, length, take, get_or, ap, ◌∙◌, arith}
use Rattle.std.proofs.lemmas.Grind.{common_steps}
use Rattle.std.proofs.lemmas.List.{length-take-le, get_or_default}
use Rattle.std.proofs.lemmas.List.Elements.{All-more}
use Rattle.run_tiers.specs.declared.run.Run.{Run}
use Rattle.sweep_checkpoint.specs.Points.{table_bytes, IsTable}
use Rattle.sweep_checkpoint.proofs.Flat.{put_one}
use Rattle.sweep_checkpoint.proofs.Parts.{table_long, length_tables}
use Rattle.sweep_checkpoint.proofs.layout.put_tables.Goals as goal

pub loop-k-preserved : goal.loop-k-preserved
loop-k-preserved c =
    let tables : List (List Run) = c.args.tables.now in
    let k : ℕ = c.loop-k.k in
    let x : List Run = get_or tables k [] in
    let within : k < length tables = c.loop-k-test.true in
    let front : length (take k tables) ≡ k = length-take-le k tables (omega arith) in
    let long : length c.put_table.new.bytes ≡ 1536 = grind (arith, common_steps) in
    let fits : IsTable x = record { slots = c.told-tables k within; runs = c.put_table.ensures.runs } in
    record {
      bytes = put_one table_bytes 1536 tables k x c.args.bytes.now c.loop-k.bytes c.put_table.new.bytes _ within (get_or_default tables k x [] within)
          (length_tables (take k tables) c.loop-k.invariant.tables ∙ ap (λ n. 1536 * n) front) (omega arith) c.loop-k.auto.bytes c.loop-k.invariant.bytes
          c.put_table.ensures.bytes (table_long x fits) long;
      tables = All-more IsTable tables k [] within c.loop-k.invariant.tables fits;
    }
