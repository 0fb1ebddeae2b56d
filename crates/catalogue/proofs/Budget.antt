-- A job's bytes without the budget of the run that wrote them.
use Rattle.std.proofs.Common.{◌≡◌, ◌⊎◌, ℕ, zero, suc, ◌+◌, ◌<◌, ◌≤◌, List, [], ◌∷◌, ◌++◌, length, map, take, drop, replicate, get_or, refl, sym, ap, ap₂, ◌∙◌, inl, inr, arith}
use Rattle.std.proofs.lemmas.List.{drop-drop}
use Rattle.catalogue.specs.Standings.{without_budget, IsJobFile}

-- the bytes with 0 for k of them behind the first n
abbrev blanked : ℕ → ℕ → List ℕ → List ℕ
blanked n k xs = take n xs ++ map (λ _. 0) (take k (drop n xs)) ++ drop k (drop n xs)

blanked-nil : (n k : ℕ) → blanked n k [] ≡ []
blanked-nil zero zero = refl
blanked-nil zero (suc k) = refl
blanked-nil (suc n) zero = refl
blanked-nil (suc n) (suc k) = refl

length-blanked : (n k : ℕ) (xs : List ℕ) → length (blanked n k xs) ≡ length xs
length-blanked n k [] = ap length (blanked-nil n k)
length-blanked zero zero (x ∷ xs) = refl
length-blanked zero (suc k) (x ∷ xs) = ap suc (length-blanked zero k xs)
length-blanked (suc n) k (x ∷ xs) = ap suc (length-blanked n k xs)

take-blanked : (m n k : ℕ) (xs : List ℕ) → take m (blanked n k xs) ≡ blanked n k (take m xs)
take-blanked zero n k xs = sym (blanked-nil n k)
take-blanked (suc m) n k [] = ap (take (suc m)) (blanked-nil n k) ∙ sym (blanked-nil n k)
take-blanked (suc m) zero zero (x ∷ xs) = refl
take-blanked (suc m) zero (suc k) (x ∷ xs) = ap (λ ys. 0 ∷ ys) (take-blanked m zero k xs)
take-blanked (suc m) (suc n) k (x ∷ xs) = ap (λ ys. x ∷ ys) (take-blanked m n k xs)

drop-blanked : (m n k : ℕ) (xs : List ℕ) → n + k ≤ m → drop m (blanked n k xs) ≡ drop m xs
drop-blanked m n k [] behind = ap (drop m) (blanked-nil n k)
drop-blanked m zero zero (x ∷ xs) behind = refl
drop-blanked zero zero (suc k) (x ∷ xs) behind = absurd (omega arith)
drop-blanked (suc m) zero (suc k) (x ∷ xs) behind = drop-blanked m zero k xs (omega arith)
drop-blanked zero (suc n) k (x ∷ xs) behind = absurd (omega arith)
drop-blanked (suc m) (suc n) k (x ∷ xs) behind = drop-blanked m n k xs (omega arith)

blanked-blanked : (n k : ℕ) (xs : List ℕ) → blanked n k (blanked n k xs) ≡ blanked n k xs
blanked-blanked n k [] = ap (blanked n k) (blanked-nil n k)
blanked-blanked zero zero (x ∷ xs) = refl
blanked-blanked zero (suc k) (x ∷ xs) = ap (λ ys. 0 ∷ ys) (blanked-blanked zero k xs)
blanked-blanked (suc n) k (x ∷ xs) = ap (λ ys. x ∷ ys) (blanked-blanked n k xs)

get_or-blanked_within : (n k i : ℕ) (xs : List ℕ) → n ≤ i → i < n + k → i < length xs → get_or (blanked n k xs) i 0 ≡ 0
get_or-blanked_within n k i [] behind before there = absurd (omega arith)
get_or-blanked_within zero zero i (x ∷ xs) behind before there = absurd (omega arith)
get_or-blanked_within zero (suc k) zero (x ∷ xs) behind before there = refl
get_or-blanked_within zero (suc k) (suc i) (x ∷ xs) behind before there = get_or-blanked_within zero k i xs (omega arith) (omega arith) (omega arith)
get_or-blanked_within (suc n) k zero (x ∷ xs) behind before there = absurd (omega arith)
get_or-blanked_within (suc n) k (suc i) (x ∷ xs) behind before there = get_or-blanked_within n k i xs (omega arith) (omega arith) (omega arith)

get_or-blanked_outside : (n k i : ℕ) (xs : List ℕ) → (i < n) ⊎ (n + k ≤ i) → get_or (blanked n k xs) i 0 ≡ get_or xs i 0
get_or-blanked_outside n k i [] outside = ap (λ ys. get_or ys i 0) (blanked-nil n k)
get_or-blanked_outside zero zero i (x ∷ xs) outside = refl
get_or-blanked_outside zero (suc k) zero (x ∷ xs) outside = absurd (omega arith)
get_or-blanked_outside zero (suc k) (suc i) (x ∷ xs) outside = get_or-blanked_outside zero k i xs (inr (omega arith))
get_or-blanked_outside (suc n) k zero (x ∷ xs) outside = refl
get_or-blanked_outside (suc n) k (suc i) (x ∷ xs) outside = get_or-blanked_outside n k i xs (elim outside [
  | inl before ↦ inl (omega arith)
  | inr behind ↦ inr (omega arith)
])

blanked-parts : (xs ys zs : List ℕ) → blanked (length xs) (length ys) (xs ++ ys ++ zs) ≡ xs ++ replicate (length ys) 0 ++ zs
blanked-parts [] [] zs = refl
blanked-parts [] (y ∷ ys) zs = ap (λ bytes. 0 ∷ bytes) (blanked-parts [] ys zs)
blanked-parts (x ∷ xs) ys zs = ap (λ bytes. x ∷ bytes) (blanked-parts xs ys zs)

is_blanked : (xs : List ℕ) → without_budget xs ≡ blanked 8 4 xs
unfolding without_budget
is_blanked xs = ap (λ rest. take 8 xs ++ map (λ _. 0) (take 4 (drop 8 xs)) ++ rest) (sym (drop-drop 4 8 xs))

-- of bytes that are written part by part
pub without_budget-parts : (magic budget rest : List ℕ) → length magic ≡ 8 → length budget ≡ 4 → without_budget (magic ++ budget ++ rest) ≡ magic ++ 0 ∷ 0 ∷ 0 ∷ 0 ∷ [] ++ rest
without_budget-parts magic budget rest first second =
    is_blanked (magic ++ budget ++ rest) ∙ ap₂ (λ n k. blanked n k (magic ++ budget ++ rest)) (sym first) (sym second)
    ∙ blanked-parts magic budget rest ∙ ap (λ k. magic ++ replicate k 0 ++ rest) second

-- so a run with another budget has the same job
pub other_budget : (magic budget other rest : List ℕ) → length magic ≡ 8 → length budget ≡ 4 → length other ≡ 4 → IsJobFile (magic ++ budget ++ rest) (magic ++ other ++ rest)
other_budget magic budget other rest first second third = without_budget-parts magic other rest first third ∙ sym (without_budget-parts magic budget rest first second)

-- as many bytes
pub length-without_budget : (xs : List ℕ) → length (without_budget xs) ≡ length xs
length-without_budget xs = ap length (is_blanked xs) ∙ length-blanked 8 4 xs

-- so the file of a job is as long as the job
pub job_file_length : (job file : List ℕ) → IsJobFile job file → length file ≡ length job
job_file_length job file is = sym (length-without_budget file) ∙ ap length is ∙ length-without_budget job

pub without_budget-twice : (xs : List ℕ) → without_budget (without_budget xs) ≡ without_budget xs
without_budget-twice xs = ap without_budget (is_blanked xs) ∙ is_blanked (blanked 8 4 xs) ∙ blanked-blanked 8 4 xs ∙ sym (is_blanked xs)

-- the first bytes without the budget
pub take-without_budget : (k : ℕ) (xs : List ℕ) → take k (without_budget xs) ≡ without_budget (take k xs)
take-without_budget k xs = ap (take k) (is_blanked xs) ∙ take-blanked k 8 4 xs ∙ sym (is_blanked (take k xs))

-- the bytes behind the budget
pub drop-without_budget : (k : ℕ) (xs : List ℕ) → 12 ≤ k → drop k (without_budget xs) ≡ drop k xs
drop-without_budget k xs behind = ap (drop k) (is_blanked xs) ∙ drop-blanked k 8 4 xs behind

-- a byte of the budget, and any other one
pub byte_within : (i : ℕ) (xs : List ℕ) → 8 ≤ i → i < 12 → i < length xs → get_or (without_budget xs) i 0 ≡ 0
byte_within i xs behind before there = ap (λ ys. get_or ys i 0) (is_blanked xs) ∙ get_or-blanked_within 8 4 i xs behind before there

pub byte_outside : (i : ℕ) (xs : List ℕ) → (i < 8) ⊎ (12 ≤ i) → get_or (without_budget xs) i 0 ≡ get_or xs i 0
byte_outside i xs outside = ap (λ ys. get_or ys i 0) (is_blanked xs) ∙ get_or-blanked_outside 8 4 i xs outside
