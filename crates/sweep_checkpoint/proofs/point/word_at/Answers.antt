use Rattle.std.proofs.Common.{◌≡◌, ℕ, ◌-◌, ◌<◌, min, length, take, drop, get_or, arith}
use Rattle.std.proofs.lemmas.Nat.{be_bytes_8}
use Rattle.std.proofs.lemmas.List.{length-take, length-drop}
use Rattle.sweep_checkpoint.proofs.Parts.{bytes_fit}
use Rattle.sweep_checkpoint.proofs.point.word_at.Goals as goal

pub returns-clause-bytes : goal.returns-clause-bytes
returns-clause-bytes c =
    let cut : length (take 8 (drop c.args.at c.args.bytes.now)) ≡ min 8 (length (drop c.args.at c.args.bytes.now)) = length-take 8 (drop c.args.at c.args.bytes.now) in
    let behind : length (drop c.args.at c.args.bytes.now) ≡ length c.args.bytes.now - c.args.at = length-drop c.args.at c.args.bytes.now in
    let long : length (take 8 (drop c.args.at c.args.bytes.now)) ≡ 8 = omega (arith, cut, behind, c.requires) in
    be_bytes_8 (take 8 (drop c.args.at c.args.bytes.now)) c.number_at.result long
    (bytes_fit c.args.bytes.now c.args.at 8 (λ (k : ℕ). let fits = c.type_inv.bytes k in let small : get_or c.args.bytes.now k 0 < 256 = omega (arith, fits) in small)) c.number_at.ensures
