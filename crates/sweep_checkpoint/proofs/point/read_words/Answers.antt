use Rattle.std.proofs.Common.{ℕ, ◌+◌, ◌<◌, ◌++◌, [], ◌∷◌, List, length, take, set, arith}
use Rattle.std.proofs.lemmas.List.{take_more_set}
use Rattle.std.proofs.lemmas.List.Elements.{All-push, All-same}
use Rattle.std.specs.Int.{w64, to_be_bytes}
use Rattle.sweep_checkpoint.proofs.Flat.{read_one}
use Rattle.sweep_checkpoint.proofs.Parts.{IsWord}
use Rattle.sweep_checkpoint.proofs.point.read_words.Goals as goal

pub loop-k-preserved : goal.loop-k-preserved
loop-k-preserved c =
    let words : List ℕ = c.loop-k.words in
    let k : ℕ = c.loop-k.k in
    let x : ℕ = c.word_at.result in
    let within : k < length words = omega arith in
    record {
      bytes = read_one (to_be_bytes w64) 8 words k x c.args.bytes.now within c.loop-k.invariant.bytes c.word_at.ensures.bytes;
      words = All-same IsWord (take (k + 1) (set words k x)) (take k words ++ x ∷ []) (take_more_set words k x within) (All-push IsWord (take k words) x c.loop-k.invariant.words c.word_at.ensures.range);
    }
