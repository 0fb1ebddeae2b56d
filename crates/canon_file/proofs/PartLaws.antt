-- the pieces of a level are the table's parts in order
use Rattle.std.specs.Prelude.{◌≡◌, ℕ, zero, suc, ◌+◌, ◌*◌, ◌^◌, ◌≤◌, Bool, List, [], ◌∷◌, length, take, drop}
use Rattle.std.proofs.Common.{refl, sym, ◌∙◌, ap, arith}
use Rattle.std.proofs.lemmas.List.{take-take, take_all, drop-take, drop-drop}
use Rattle.bool_tables.specs.Tables.{low_half, high_half}
use Rattle.bool_tables.proofs.Halves.{twice}
use Rattle.canon_file.specs.Pieces.{halves, pieces, part_at, parts}

-- the two halves of a part
low_part : (h k : ℕ) (t : List Bool) → low_half h (part_at (suc h) t k) ≡ part_at h t (k + k)
low_part h k t =
    let start : k * 2 ^ suc h ≡ (k + k) * 2 ^ h = grind (arith, twice h) in
    take-take (2 ^ h) (2 ^ suc h) (drop (k * 2 ^ suc h) t) (omega (arith, twice h)) ∙ (λ j. take (2 ^ h) (drop (start j) t))

high_part : (h k : ℕ) (t : List Bool) → high_half h (part_at (suc h) t k) ≡ part_at h t (suc (k + k))
high_part h k t =
    let start : k * 2 ^ suc h + 2 ^ h ≡ suc (k + k) * 2 ^ h = grind (arith, twice h) in
    (λ j. drop (2 ^ h) (take (twice h j) (drop (k * 2 ^ suc h) t)))
    ∙ drop-take (2 ^ h) (2 ^ h) (drop (k * 2 ^ suc h) t)
    ∙ ap (take (2 ^ h)) (drop-drop (2 ^ h) (k * 2 ^ suc h) t)
    ∙ (λ j. take (2 ^ h) (drop (start j) t))

halves-parts : (h : ℕ) (t : List Bool) (k m : ℕ) → halves h (parts (suc h) t k m) ≡ parts h t (k + k) (m + m)
halves-parts h t k zero = refl
halves-parts h t k (suc m) =
    let two : suc (suc (m + m)) ≡ suc m + suc m = omega arith in
    let next : suc k + suc k ≡ suc (suc (k + k)) = omega arith in
    (λ j. low_part h k t j ∷ high_part h k t j ∷ halves-parts h t (suc k) m j)
    ∙ (λ j. part_at h t (k + k) ∷ part_at h t (suc (k + k)) ∷ parts h t (next j) (m + m))
    ∙ (λ j. parts h t (k + k) (two j))

pub pieces-parts : (i h : ℕ) (t : List Bool) → length t ≡ 2 ^ (i + h) → pieces i h t ≡ parts h t 0 (2 ^ i)
pieces-parts zero h t n =
    let same : 2 ^ (0 + h) ≡ 2 ^ h = ap (λ k. 2 ^ k) (omega arith) in
    let whole : length t ≤ 2 ^ h = omega arith in
    let start : 0 ≡ 0 * 2 ^ h = omega arith in
    let first : t ≡ part_at h t 0 = sym (take_all (2 ^ h) t whole) ∙ (λ j. take (2 ^ h) (drop (start j) t)) in
    λ j. first j ∷ []
pieces-parts (suc i) h t n =
    let longer : length t ≡ 2 ^ (i + suc h) = n ∙ ap (λ k. 2 ^ k) (omega arith) in
    ap (halves h) (pieces-parts i (suc h) t longer) ∙ halves-parts h t 0 (2 ^ i) ∙ (λ j. parts h t 0 (sym (twice i) j))
