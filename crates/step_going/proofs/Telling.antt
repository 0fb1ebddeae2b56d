-- The bytes of a checkpoint tell it.
use Rattle.std.proofs.Common.{◌≡◌, ℕ, zero, suc, ◌-◌, ◌*◌, ◌≤◌, min, List, [], length, take, drop, get_or, replicate, refl, sym, ap, ◌∙◌, arith}
use Rattle.std.specs.Prelude.{Some, unwrap_or}
use Rattle.std.proofs.lemmas.List.{length-take, length-drop, take_at}
use Rattle.sweep_core.specs.declared.checkpoint.Checkpoint.{Checkpoint}
use Rattle.sweep_checkpoint.specs.Points.{head_words, used_bytes, point_bytes, Fits}
use Rattle.sweep_checkpoint.specs.Rules.{IsPointOf}
use Rattle.sweep_checkpoint.specs.Gated.{last_of}
use Rattle.step_going.proofs.Parts.{same_words, same_tables, parts_of, length_used}

-- bytes are those of one checkpoint alone
pub one_point : (bytes : List ℕ) (c d : Checkpoint) → Fits c → Fits d → take 15872 bytes ≡ used_bytes c → take 15872 bytes ≡ used_bytes d → c ≡ d
one_point bytes c d fits_c fits_d used_c used_d =
    let left = parts_of c bytes fits_c used_c in
    let right = parts_of d bytes fits_d used_d in
    let head : head_words c ≡ head_words d = same_words (head_words c) (head_words d) refl fits_c.words fits_d.words (left.head_is ∙ sym right.head_is) in
    let carry : c.carry ≡ d.carry = same_words c.carry d.carry (fits_c.carried ∙ sym fits_d.carried) fits_c.carry fits_d.carry (left.carry_is ∙ sym right.carry_is) in
    let runs : c.runs ≡ d.runs = same_tables c.runs d.runs (fits_c.tabled ∙ sym fits_d.tabled) fits_c.tables fits_d.tables (left.tables_are ∙ sym right.tables_are) in
    λ i. record {
      step = get_or (head i) 0 0;
      sweep = get_or (head i) 1 0;
      turns = get_or (head i) 2 0;
      next_part = get_or (head i) 3 0;
      budget = get_or (head i) 4 0;
      tables = get_or (head i) 5 0;
      carry = carry i;
      runs = runs i;
    }

-- those that are used stand in front
pub used_first : (c : Checkpoint) → Fits c → take 15872 (point_bytes c) ≡ used_bytes c
unfolding point_bytes
used_first c fits = take_at (used_bytes c) (replicate 512 0) 15872 (length_used c fits)

-- whole bytes that are a checkpoint's are read as that one
pub told_point : (step : ℕ) (bytes : List ℕ) (c d : Checkpoint) → bytes ≡ point_bytes c → Fits c → IsPointOf step bytes d → c ≡ d
told_point step bytes c d whole fits is =
    one_point bytes c d fits is.fits (ap (take 15872) whole ∙ used_first c fits) is.used

-- where the last of n checkpoints is whole, all are there
pub all_there : (n : ℕ) (points bytes : List ℕ) → last_of n points ≡ Some bytes → length bytes ≡ 16384 → 16384 * n ≤ length points
all_there zero points bytes last whole = omega arith
all_there (suc n) points bytes last whole =
    let is : take 16384 (drop (16384 * n) points) ≡ bytes = ap (λ o. unwrap_or o []) last in
    let long : length (take 16384 (drop (16384 * n) points)) ≡ length bytes = ap length is in
    let cut : length (take 16384 (drop (16384 * n) points)) ≡ min 16384 (length (drop (16384 * n) points)) = length-take 16384 (drop (16384 * n) points) in
    let behind : length (drop (16384 * n) points) ≡ length points - 16384 * n = length-drop (16384 * n) points in
    omega (arith, long, cut, behind, whole)
