use Rattle.std.proofs.Common.{◌≡◌, ℕ, ◌*◌, ◌<◌, List, length, take, get_or, refl, ap, ◌∙◌, arith}
use Rattle.std.proofs.lemmas.Grind.{common_steps}
use Rattle.std.proofs.lemmas.List.{length-take-le, get_or_default}
use Rattle.std.proofs.lemmas.List.Elements.{All-more}
use Rattle.run_tiers.specs.declared.run.Run.{Run}
use Rattle.sweep_checkpoint.specs.Points.{run_bytes, AreThree}
use Rattle.sweep_checkpoint.proofs.Flat.{put_one}
use Rattle.sweep_checkpoint.proofs.Parts.{three_of, length_runs}
use Rattle.sweep_checkpoint.proofs.layout.put_table.Goals as goal

pub loop-k-preserved : goal.loop-k-preserved
loop-k-preserved c =
    let table : List Run = c.args.table.now in
    let k : ℕ = c.loop-k.k in
    let d : Run = record { part = 0; next = 0; end = 0 } in
    let x : Run = get_or table k d in
    let within : k < length table = c.loop-k-test.true in
    let front : length (take k table) ≡ k = length-take-le k table (omega arith) in
    let long : length c.put_words.new.bytes ≡ 24 = grind (arith, common_steps) in
    let fits : AreThree x = three_of x c.put_words.ensures.words in
    record {
      bytes = put_one run_bytes 24 table k x c.args.bytes.now c.loop-k.bytes c.put_words.new.bytes _ within (get_or_default table k x d within)
          (length_runs (take k table) c.loop-k.invariant.runs ∙ ap (λ n. 24 * n) front) (omega arith) c.loop-k.auto.bytes c.loop-k.invariant.bytes
          c.put_words.ensures.bytes refl long;
      runs = All-more AreThree table k d within c.loop-k.invariant.runs fits;
    }
