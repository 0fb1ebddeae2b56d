-- The last gated checkpoint of a step is one.
use Rattle.std.specs.Prelude.{◌≡◌, ℕ, List, take, Some}
use Rattle.std.proofs.Common.{sym, ap, ◌∙◌}
use Rattle.shelf_model.specs.declared.file_no.FileNo.{FileNo}
use Rattle.step_going.specs.Standing.{IsLastOf}
use Rattle.step_going.proofs.Telling.{one_point, used_first}
use Rattle.sweep_core.specs.declared.checkpoint.Checkpoint.{Checkpoint}
use Rattle.sweep_checkpoint.specs.Points.{point_bytes}

some_one : {A : Type 0} (x y : A) → Some x ≡ Some y → x ≡ y
some_one x y same = cc

pub one_last : (step : ℕ) (r : FileNo → List ℕ) (c d : Checkpoint) → IsLastOf step r c
    → IsLastOf step r d → c ≡ d
one_last step r c d first second =
    let same = some_one (point_bytes c) (point_bytes d) (sym first.last ∙ second.last) in
    one_point (point_bytes c) c d first.words second.words (used_first c first.words)
    (ap (take 15872) same ∙ used_first d second.words)
