-- A copy that goes on, and one that has ended.
use Rattle.std.proofs.Common.{◌≡◌, ◌∙◌, ℕ, ◌+◌, ◌*◌, ◌-◌, ◌<◌, List, ◌++◌, length, take, drop, sym, ap, arith}
use Rattle.std.proofs.lemmas.List.{length-take, length-drop, length-append}
use Rattle.std.specs.Prelude.{min}
use Rattle.shelf_model.specs.Calls.{most_piece}
use Rattle.shelf_model.specs.File.{File, firm_file}
use Rattle.shelf_model.specs.World.{World, now, file}
use Rattle.shelf_model.proofs.Runs.{ran_end}
use Rattle.block_stream.specs.Writes.{DuringWrite, Wrote}
use Rattle.node_file.proofs.PieceRuns.{put_more}
use Rattle.copy_sweep.specs.declared.copy.CopySweep.{CopySweep}
use Rattle.copy_sweep.specs.Copies.{fuel_of, Copies, IsInStep, IsReady, HasCopied}

-- with no turn left all pieces of the bytes stand there, whatever a stop leaves
pub all_copied : (s : CopySweep) (world : World) (bytes : List ℕ) → fuel_of s ≡ 0 → IsInStep s world → Copies s world bytes
    → file world s.task.to ≡ firm_file (take (s.task.pieces * most_piece) bytes)
all_copied s world bytes none step copies =
    let past : s.task.pieces < s.turns = omega (arith, none) in
    let count : min s.turns s.task.pieces * most_piece ≡ s.task.pieces * most_piece = omega (arith, past) in
    step.firm past ∙ ap firm_file (copies.copied ∙ (λ i. take (count i) (copies.bytes_are i)))

-- the copy after one piece more
abbrev pub one_more : CopySweep → CopySweep
one_more s = record s { turns = s.turns + 1 }

module _ (s : CopySweep) (old new : World) (ready : IsReady s) (more : s.turns < s.task.pieces)
    (wrote : Wrote 2 s.task.to old new)
    (put : (file new s.task.to).bytes ≡ (file old s.task.to).bytes
    ++ take most_piece (drop (s.turns * most_piece) (file old s.task.from).bytes)) where
  -- the file that is read stays
  pub source_stays : (file new s.task.from).bytes ≡ (file old s.task.from).bytes
  source_stays = ap (λ (x : File). x.bytes)
      ((ran_end old new (DuringWrite s.task.to (now old)) wrote.run).others s.task.from ready.apart)

  -- it ends behind the piece, where there is one behind that
  pub ends_behind : IsInStep s old → IsInStep (one_more s) new
  ends_behind step = record {
    at_end = λ next there.
        let source = (file old s.task.from).bytes in
        let same : length (file new s.task.from).bytes ≡ length source = ap length source_stays in
        let stood : length (file old s.task.to).bytes ≡ s.turns * most_piece = step.at_end more (omega (arith, there, same)) in
        let rest = drop (s.turns * most_piece) source in
        let is : length rest ≡ length source - s.turns * most_piece = length-drop (s.turns * most_piece) source in
        let piece : length (take most_piece rest) ≡ min most_piece (length rest) = length-take most_piece rest in
        let whole : length (take most_piece rest) ≡ most_piece = omega (arith, piece, is, there, same) in
        ap length put ∙ length-append (file old s.task.to).bytes (take most_piece rest) ∙ omega (arith, stood, whole);
    firm = λ past. absurd (omega (arith, past, more));
  }

  -- and of the pieces that were to be copied one more stands there
  pub copies_one : HasCopied s old → HasCopied (one_more s) new
  copies_one copied =
      let source = (file old s.task.from).bytes in
      let before : min s.turns s.task.pieces * most_piece ≡ s.turns * most_piece = omega (arith, more) in
      let count : min (s.turns + 1) s.task.pieces * most_piece ≡ s.turns * most_piece + most_piece = omega (arith, more) in
      put_more source _ _ (s.turns * most_piece) (min (s.turns + 1) s.task.pieces * most_piece) count
      (copied ∙ ap (λ n. take n source) before) put
      ∙ ap (take (min (s.turns + 1) s.task.pieces * most_piece)) (sym source_stays)

  -- so it is of these bytes
  pub keeps_on : (bytes : List ℕ) → Copies s old bytes → Copies (one_more s) new bytes
  keeps_on bytes copies = record {
    bytes_are = source_stays ∙ copies.bytes_are;
    copied = copies_one copies.copied;
  }
