use Rattle.std.proofs.Common.{◌≡◌, ℕ, ◌*◌, ◌<◌, [], List, length, take, get_or, refl, sym, ap, ◌∙◌, rules, arith}
use Rattle.std.specs.Int.{w64, to_be_bytes}
use Rattle.std.proofs.lemmas.Grind.{common_steps}
use Rattle.std.proofs.lemmas.List.{append-nil, length-take-le, get_or_default}
use Rattle.std.proofs.lemmas.List.Elements.{All-more}
use Rattle.sweep_checkpoint.proofs.Flat.{put_one}
use Rattle.sweep_checkpoint.proofs.Parts.{IsWord, length_words}
use Rattle.sweep_checkpoint.proofs.layout.put_words.Goals as goal

pub loop-k-preserved : goal.loop-k-preserved
loop-k-preserved c =
    let words : List ℕ = c.args.words.now in
    let k : ℕ = c.loop-k.k in
    let x : ℕ = get_or words k 0 in
    let within : k < length words = c.loop-k-test.true in
    let put : c.copy_from_slice.new.self ≡ to_be_bytes w64 x = c.copy_from_slice.ensures.after ∙ c.to_be_bytes.ensures in
    let front : length (take k words) ≡ k = length-take-le k words (omega arith) in
    record {
      bytes = put_one (to_be_bytes w64) 8 words k x c.args.bytes.now c.loop-k.bytes c.copy_from_slice.new.self [] within (get_or_default words k x 0 within)
          (length_words (take k words) c.loop-k.invariant.words ∙ ap (λ n. 8 * n) front) (omega arith) c.loop-k.auto.bytes c.loop-k.invariant.bytes
          (put ∙ sym (append-nil (to_be_bytes w64 x))) refl (ap length put);
      words = All-more IsWord words k 0 within c.loop-k.invariant.words (first_of (omega arith, search (rules, arith), grind (arith, common_steps)));
    }
