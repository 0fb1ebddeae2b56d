-- Rows whose characters stand end to end.
use Rattle.std.proofs.Common.{◌≡◌, ℕ, zero, suc, ◌+◌, ◌*◌, ◌<◌, ◌≤◌, Bool, List, [], ◌∷◌, ◌++◌, length, get_or, take, drop, map, subst, append_assoc, length-append, refl, sym, ap, ap₂, ◌∙◌, arith, length-drop}
use Rattle.std.proofs.Math.Nat.{zero-mul, suc-mul, mul-le-mul_right}
use Rattle.std.proofs.lemmas.List.{take_all, drop_more, drop-drop, take-append-le, drop-append-le}
use Rattle.std.specs.List.{AllByRecursion}
use Rattle.blif_reader.specs.declared.grammar.Kind.TheVariants as kind
use Rattle.blif_reader.specs.declared.statement.Statement as declared
use Rattle.blif_reader.specs.Statements.{Statement, statement_of}
use Rattle.blif_reader.specs.Netlist.{IsRow, cells_of, row_before, rows_behind}
use Rattle.blif_reader.specs.Views.{rows_in}

-- there are so many
pub length-rows_in : (n w : ℕ) (cells : List ℕ) → length (rows_in n w cells) ≡ n
unfolding rows_in
length-rows_in zero w cells = refl
length-rows_in (suc n) w cells = ap suc (length-rows_in n w (drop w cells))

-- none
pub rows_none : (w : ℕ) (cells : List ℕ) → rows_in 0 w cells ≡ []
unfolding rows_in
rows_none w cells = refl

no_cells : (cells : List ℕ) → length cells ≡ 0 → cells ≡ []
no_cells [] e = refl
no_cells (x ∷ xs) e = absurd (omega (arith, e))

-- one more
pub rows_push : (n w : ℕ) (cells row : List ℕ) → length cells ≡ n * w → length row ≡ w → rows_in (suc n) w (cells ++ row) ≡ rows_in n w cells ++ row ∷ []
unfolding rows_in
rows_push zero w cells row size one = rw (no_cells cells (size ∙ zero-mul w)) (ap (λ r. r ∷ []) (take_all w row (omega (arith, one))))
rows_push (suc n) w cells row size one =
    let more : length cells ≡ n * w + w = size ∙ suc-mul n w in
    let rest : length (drop w cells) ≡ n * w = omega (arith, more, length-drop w cells) in
    ap₂ ◌∷◌ (take-append-le w cells row (omega (arith, more))) (ap (rows_in (suc n) w) (drop-append-le w cells row (omega (arith, more))) ∙ rows_push n w (drop w cells) row rest one)

-- the row at a place
pub row_at : (n w k : ℕ) (cells : List ℕ) → k < n → get_or (rows_in n w cells) k [] ≡ take w (drop (k * w) cells)
unfolding rows_in
row_at zero w k cells lt = absurd (omega arith)
row_at (suc n) w zero cells lt = ap (λ m. take w (drop m cells)) (sym (zero-mul w))
row_at (suc n) w (suc k) cells lt =
    let place : w + k * w ≡ suc k * w = omega (arith, suc-mul k w) in
    row_at n w k (drop w cells) (omega arith) ∙ ap (take w) (drop-drop (k * w) w cells ∙ ap (λ m. drop m cells) place)

-- it lies inside
pub row_within : (n w k size : ℕ) → size ≡ n * w → k < n → k * w + w ≤ size
row_within n w k size e lt =
    let a : (suc k) * w ≤ n * w = mul-le-mul_right w (omega arith) in
    omega (arith, a, suc-mul k w, e)

-- rows so far, and those of the lines that are left, of which the first is a row
pub row_step : (ds : List declared.Statement) (i : ℕ) (d : declared.Statement) (v : Bool) (w n : ℕ) (cells now : List ℕ) (total : List (List ℕ)) → i < length ds → (get_or ds i d).kind ≡ kind.Row v → now ≡ cells ++ cells_of (statement_of (get_or ds i d)).words
    → length cells ≡ n * w → rows_in n w cells ++ rows_behind (map statement_of (drop i ds)) ≡ total → AllByRecursion (IsRow w) (rows_behind (map statement_of (drop i ds)))
    → (rows_in (n + 1) w now ++ rows_behind (map statement_of (drop (i + 1) ds)) ≡ total) × AllByRecursion (IsRow w) (rows_behind (map statement_of (drop (i + 1) ds))) × (length now ≡ (n + 1) * w)
row_step ds i d v w n cells now total lt k e size so_far all =
    let s : Statement = statement_of (get_or ds i d) in
    let row : List ℕ = cells_of s.words in
    let rest : List (List ℕ) = rows_behind (map statement_of (drop (i + 1) ds)) in
    let split : rows_behind (map statement_of (drop i ds)) ≡ row ∷ rest = ap (λ xs. rows_behind (map statement_of xs)) (drop_more ds i d lt) ∙ ap (λ t. row_before t s.words rest) k in
    let fits = subst (AllByRecursion (IsRow w)) split all in
    let next : n + 1 ≡ suc n = omega arith in
    let pushed : rows_in (n + 1) w now ≡ rows_in n w cells ++ row ∷ [] = ap₂ (λ m cs. rows_in m w cs) next e ∙ rows_push n w cells row size fits.0.size in (
      ap (λ rs. rs ++ rest) pushed ∙ append_assoc (rows_in n w cells) (row ∷ []) rest ∙ ap (λ rs. rows_in n w cells ++ rs) (sym split) ∙ so_far,
      fits.1,
      ap length e ∙ length-append cells row ∙ omega (arith, size, fits.0.size, suc-mul n w) ∙ ap (λ m. m * w) (sym next),
    )
