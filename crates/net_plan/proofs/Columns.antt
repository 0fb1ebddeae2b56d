-- Columns with a hyphen add nothing to a cube.
use Rattle.std.proofs.Common.{◌≡◌, ℕ, zero, suc, ◌+◌, ◌-◌, ◌<◌, List, [], ◌∷◌, length, get_or, map, drop, refl, sym, ap, ap₂, ◌∙◌, arith}
use Rattle.std.proofs.lemmas.List.{drop_more, drop-drop, get_or-drop, get_or-map}
use Rattle.net_plan.specs.Covers.{Draft, column, columns}

no_signals : (first : ℕ) (d : Draft) (cells : List ℕ) → columns first d cells [] ≡ d
no_signals first d [] = refl
no_signals first d (c ∷ cs) = refl

-- columns with hyphens
hyphens_add : (first n : ℕ) (d : Draft) (cells ts : List ℕ) → ((k : ℕ) → k < n → get_or cells k 45 ≡ 45) → columns first d cells ts ≡ columns first d (drop n cells) (drop n ts)
hyphens_add first zero d cells ts hyphens = refl
hyphens_add first (suc n) d [] ts hyphens = refl
hyphens_add first (suc n) d (c ∷ cs) [] hyphens = sym (no_signals first d (drop n cs))
hyphens_add first (suc n) d (c ∷ cs) (t ∷ ts) hyphens =
    let hyphen : c ≡ 45 = hyphens 0 (omega arith) in
    let same : column first d c t ≡ d = ap (λ x. column first d x t) hyphen in
    ap (λ (e : Draft). columns first e cs ts) same ∙ hyphens_add first n d cs ts (λ k b. hyphens (suc k) (omega arith))

-- one column, and the hyphens behind it
pub column_adds : (first i j : ℕ) (d total : Draft) (cells ts : List ℕ) → i < length cells → i < length ts → i < j → ((k : ℕ) → i < k → k < j → get_or cells k 45 ≡ 45) → columns first d (drop i cells) (drop i ts) ≡ total
    → columns first (column first d (get_or cells i 0) (get_or ts i 0)) (drop j cells) (drop j ts) ≡ total
column_adds first i j d total cells ts more more2 on hyphens so_far =
    let e : Draft = column first d (get_or cells i 0) (get_or ts i 0) in
    let n : ℕ = j - (i + 1) in
    let place : i + 1 + n ≡ j = omega arith in
    let past : columns first e (drop (i + 1) cells) (drop (i + 1) ts) ≡ columns first e (drop n (drop (i + 1) cells)) (drop n (drop (i + 1) ts)) =
    hyphens_add first n e (drop (i + 1) cells) (drop (i + 1) ts) (λ k b. get_or-drop (i + 1) cells k 45 ∙ hyphens (i + 1 + k) (omega arith) (omega arith)) in
    let there : columns first e (drop n (drop (i + 1) cells)) (drop n (drop (i + 1) ts)) ≡ columns first e (drop j cells) (drop j ts) =
    ap₂ (columns first e) (drop-drop n (i + 1) cells ∙ ap (λ m. drop m cells) place) (drop-drop n (i + 1) ts ∙ ap (λ m. drop m ts) place) in
    let here : columns first d (drop i cells) (drop i ts) ≡ columns first e (drop (i + 1) cells) (drop (i + 1) ts) = ap₂ (columns first d) (drop_more cells i 0 more) (drop_more ts i 0 more2) in
    sym (here ∙ past ∙ there) ∙ so_far

-- the numbers of the signals at a place
pub number_at : (made inputs : List ℕ) (i : ℕ) → i < length inputs → get_or (map (λ t. get_or made t 0) inputs) i 0 ≡ get_or made (get_or inputs i 0) 0
number_at made inputs i more = get_or-map (λ t. get_or made t 0) inputs i 0 0 more
