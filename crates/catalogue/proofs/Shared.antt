-- How far two lists are the same, piece by piece.
use Rattle.std.proofs.Common.{◌≡◌, ◌⊎◌, ℕ, zero, suc, ◌+◌, ◌-◌, ◌≢◌, ◌<◌, ◌≤◌, min, true, false, cond, eqb, List, [], ◌∷◌, ◌++◌, length, take, drop, get_or, refl, sym, ap, ap₂, subst, ◌∙◌, inl, inr, arith}
use Rattle.std.specs.Prelude.{nat_eq}
use Rattle.std.specs.List.{common_prefix_len}
use Rattle.std.proofs.Math.Seq.{take-add}
use Rattle.std.proofs.lemmas.Bool.{cases_lt, eq-eqb, ne_eqb, eqb-true}
use Rattle.std.proofs.lemmas.List.Sums.{common_prefix_len-drop_yes, common_prefix_len-drop_no}
use Rattle.std.proofs.lemmas.List.{append-nil, take_at, take_all, drop_all, length-take, length-drop}
use Rattle.shelf_model.specs.Folder.{file_in}
use Rattle.shelf_model.specs.Calls.{Copied}
use Rattle.shelf_model.specs.World.{World, now, file}
use Rattle.shelf_model.specs.Moments.{Stays}
use Rattle.catalogue.specs.Files.{job_file}
use Rattle.catalogue.specs.Standings.{without_budget}
use Rattle.catalogue.proofs.Budget.{length-without_budget, byte_within, byte_outside, take-without_budget, drop-without_budget}

abbrev pub shared : List ℕ → List ℕ → ℕ
shared xs ys = common_prefix_len nat_eq xs ys

shared-nil : (xs : List ℕ) → shared xs [] ≡ 0
shared-nil [] = refl
shared-nil (x ∷ xs) = refl

-- past the end of one of them they share nothing
pub shared_past : (k : ℕ) (xs ys : List ℕ) → (length xs ≤ k) ⊎ (length ys ≤ k) → shared (drop k xs) (drop k ys) ≡ 0
shared_past k xs ys past = elim past [
  | inl first ↦ ap (λ zs. shared zs (drop k ys)) (drop_all k xs first)
  | inr second ↦ ap (λ zs. shared (drop k xs) zs) (drop_all k ys second) ∙ shared-nil (drop k xs)
]

same_head : (x y : ℕ) (xs ys : List ℕ) → x ∷ xs ≡ y ∷ ys → x ≡ y
same_head x y xs ys same = cc

same_tail : (x y : ℕ) (xs ys : List ℕ) → x ∷ xs ≡ y ∷ ys → xs ≡ ys
same_tail x y xs ys same = cc

-- what is the same in front counts whole
pub shared_front : (n : ℕ) (xs ys : List ℕ) → n ≤ length xs → n ≤ length ys → take n xs ≡ take n ys → shared xs ys ≡ n + shared (drop n xs) (drop n ys)
shared_front zero xs ys first second same = omega arith
shared_front (suc n) [] ys first second same = absurd (omega arith)
shared_front (suc n) (x ∷ xs) [] first second same = absurd (omega arith)
shared_front (suc n) (x ∷ xs) (y ∷ ys) first second same =
    let heads : eqb x y ≡ true = eq-eqb x y (same_head x y (take n xs) (take n ys) same) in
    let rest : shared xs ys ≡ n + shared (drop n xs) (drop n ys) = shared_front n xs ys (omega arith) (omega arith) (same_tail x y (take n xs) (take n ys) same) in
    ap (λ b. cond b (1 + shared xs ys) 0) heads ∙ omega (arith, rest)

-- what the first bytes of two lists share
pub shared-take : (w : ℕ) (xs ys : List ℕ) → shared (take w xs) (take w ys) ≡ min w (shared xs ys)
shared-take zero xs ys = omega arith
shared-take (suc w) [] ys = omega arith
shared-take (suc w) (x ∷ xs) [] = omega arith
shared-take (suc w) (x ∷ xs) (y ∷ ys) =
    let rest : shared (take w xs) (take w ys) ≡ min w (shared xs ys) = shared-take w xs ys in
    elim (eqb x y) as (λ b. cond b (1 + shared (take w xs) (take w ys)) 0 ≡ min (suc w) (cond b (1 + shared xs ys) 0)) [
      | true ↦ omega (arith, rest)
      | false ↦ omega arith
    ]

-- what they share is the same
pub take-shared : (k : ℕ) (xs ys : List ℕ) → k ≤ shared xs ys → take k xs ≡ take k ys
take-shared zero xs ys within = refl
take-shared (suc k) [] ys within = absurd (omega arith)
take-shared (suc k) (x ∷ xs) [] within = absurd (omega arith)
take-shared (suc k) (x ∷ xs) (y ∷ ys) within =
    elim (eqb x y) as (λ b. eqb x y ≡ b → suc k ≤ cond b (1 + shared xs ys) 0 → x ∷ take k xs ≡ y ∷ take k ys) [
      | true ↦ λ heads more. ap₂ (λ z zs. z ∷ zs) (eqb-true x y heads) (take-shared k xs ys (omega (arith, more)))
      | false ↦ λ heads more. absurd (omega (arith, more))
    ] refl within

-- lists that share all of both are one
pub same_from_shared : (xs ys : List ℕ) → length xs ≤ shared xs ys → length ys ≡ length xs → xs ≡ ys
same_from_shared xs ys all even =
    sym (take_all (length xs) xs (omega arith)) ∙ take-shared (length xs) xs ys all ∙ take_all (length xs) ys (omega arith)

-- a list shares all of itself
pub shared_self : (xs : List ℕ) → shared xs xs ≡ length xs
shared_self [] = refl
shared_self (x ∷ xs) = let rest = shared_self xs in ap (λ b. cond b (1 + shared xs xs) 0) (eq-eqb x x refl) ∙ omega (arith, rest)

-- the bytes at a place are the same, or they differ
pub shared_on : (i : ℕ) (xs ys : List ℕ) → i < length xs → i < length ys → get_or xs i 0 ≡ get_or ys i 0 → shared (drop i xs) (drop i ys) ≡ 1 + shared (drop (i + 1) xs) (drop (i + 1) ys)
shared_on i xs ys first second same = common_prefix_len-drop_yes nat_eq xs ys i 0 0 first second (eq-eqb (get_or xs i 0) (get_or ys i 0) same)

pub shared_ends : (i : ℕ) (xs ys : List ℕ) → i < length xs → i < length ys → get_or xs i 0 ≢ get_or ys i 0 → shared (drop i xs) (drop i ys) ≡ 0
shared_ends i xs ys first second differ = common_prefix_len-drop_no nat_eq xs ys i 0 0 first second (ne_eqb (get_or xs i 0) (get_or ys i 0) differ)

-- how far pieces that stand at that place of two jobs are the same: of the first ones without the budget
pub record IsShared (at s : ℕ) (xs ys : List ℕ) : Type 0 where
  pub first : at ≡ 0 → s ≡ shared (without_budget xs) (without_budget ys)
  pub later : 0 < at → s ≡ shared xs ys

-- the bytes at place i of them are the same, or of the budget
abbrev pub AreSame : ℕ → ℕ → List ℕ → List ℕ → Type 0
AreSame at i xs ys = (get_or xs i 0 ≡ get_or ys i 0) ⊎ ((at ≡ 0) × (8 ≤ i) × (i < 12))

same_byte : (at i : ℕ) (xs ys : List ℕ) → i < length xs → i < length ys → AreSame at i xs ys → get_or (without_budget xs) i 0 ≡ get_or (without_budget ys) i 0
same_byte at i xs ys first second same = elim (cases_lt i 8) [
  | inl before ↦ outside (inl before)
  | inr behind ↦ elim (cases_lt i 12) [
    | inl within ↦ byte_within i xs behind within first ∙ sym (byte_within i ys behind within second)
    | inr past ↦ outside (inr past)
  ]
]
  where
    outside : (i < 8) ⊎ (12 ≤ i) → get_or (without_budget xs) i 0 ≡ get_or (without_budget ys) i 0
    outside which = elim same [
      | inl even ↦ byte_outside i xs which ∙ even ∙ sym (byte_outside i ys which)
      | inr budget ↦ absurd (elim which [ inl before ↦ omega (arith, budget.1) | inr past ↦ omega (arith, budget.2) ])
    ]

pub first_on : (at i : ℕ) (xs ys : List ℕ) → i < length xs → i < length ys → AreSame at i xs ys
    → shared (drop i (without_budget xs)) (drop i (without_budget ys)) ≡ 1 + shared (drop (i + 1) (without_budget xs)) (drop (i + 1) (without_budget ys))
first_on at i xs ys first second same =
    let long : length (without_budget xs) ≡ length xs = length-without_budget xs in
    let other_long : length (without_budget ys) ≡ length ys = length-without_budget ys in
    shared_on i (without_budget xs) (without_budget ys) (omega arith) (omega arith) (same_byte at i xs ys first second same)

pub later_on : (at i : ℕ) (xs ys : List ℕ) → 0 < at → i < length xs → i < length ys → AreSame at i xs ys → shared (drop i xs) (drop i ys) ≡ 1 + shared (drop (i + 1) xs) (drop (i + 1) ys)
later_on at i xs ys later first second same = elim same [
  | inl even ↦ shared_on i xs ys first second even
  | inr budget ↦ absurd (omega (arith, budget.0))
]

pub first_ends : (at i : ℕ) (xs ys : List ℕ) → at ≡ 0 → i < length xs → i < length ys → ¬ (AreSame at i xs ys) → shared (drop i (without_budget xs)) (drop i (without_budget ys)) ≡ 0
first_ends at i xs ys none first second differ =
    let long : length (without_budget xs) ≡ length xs = length-without_budget xs in
    let other_long : length (without_budget ys) ≡ length ys = length-without_budget ys in
    let which : (i < 8) ⊎ (12 ≤ i) = elim (cases_lt i 8) [
      | inl before ↦ inl before
      | inr behind ↦ elim (cases_lt i 12) [
        | inl within ↦ absurd (differ (inr (none, behind, within)))
        | inr past ↦ inr past
      ]
    ] in
    shared_ends i (without_budget xs) (without_budget ys) (omega arith) (omega arith)
    (λ same. differ (inl (sym (byte_outside i xs which) ∙ same ∙ byte_outside i ys which)))

-- so far the pieces there are the same without the budget
pub shared_piece : (source job : List ℕ) (at want s : ℕ) → (at ≡ 0) ⊎ (12 ≤ at) → IsShared at s (take want (drop at source)) (take want (drop at job))
    → s ≡ min want (shared (drop at (without_budget source)) (drop at (without_budget job)))
shared_piece source job at want s which is = elim which [
  | inl none ↦
      let whole : (xs : List ℕ) → without_budget (take want (drop at xs)) ≡ take want (drop at (without_budget xs)) =
      λ xs. ap (λ k. without_budget (take want (drop k xs))) none ∙ sym (take-without_budget want xs) ∙ ap (λ k. take want (drop k (without_budget xs))) (sym none) in
      is.first none ∙ ap₂ shared (whole source) (whole job) ∙ shared-take want (drop at (without_budget source)) (drop at (without_budget job))
  | inr behind ↦
      is.later (omega arith) ∙ shared-take want (drop at source) (drop at job)
      ∙ ap₂ (λ xs ys. min want (shared xs ys)) (sym (drop-without_budget at source behind)) (sym (drop-without_budget at job behind))
]

-- a whole piece of the stored job is read
pub read_piece : (w v : World) (job before after rest : List ℕ) (at want k got s : ℕ) → (at ≡ 0) ⊎ (12 ≤ at) → k ≡ want → Stays (now w) (now v) → Copied (file v job_file).bytes at before after got
    → length before ≡ want → at + want ≤ length (file w job_file).bytes → IsShared at s (take got (after ++ rest)) (take k (drop at job))
    → s ≡ min want (shared (drop at (without_budget (file w job_file).bytes)) (drop at (without_budget job)))
read_piece w v job before after rest at want k got s which even stays did room within is =
    let source : List ℕ = (file w job_file).bytes in
    let copied : Copied source at before after got = subst (λ xs. Copied xs at before after got) (ap (λ folder. (file_in folder job_file).bytes) stays) did in
    let count : got ≡ min (length before) (length source - at) = copied.count in
    let whole : got ≡ want = omega arith in
    let none : drop got before ≡ [] = drop_all got before (omega arith) in
    let bytes : after ≡ take want (drop at source) =
    copied.bytes_are ∙ ap (λ xs. take got (drop at source) ++ xs) none ∙ append-nil (take got (drop at source)) ∙ ap (λ k. take k (drop at source)) whole in
    let long : length (take want (drop at source)) ≡ min want (length (drop at source)) = length-take want (drop at source) in
    let behind : length (drop at source) ≡ length source - at = length-drop at source in
    let first : take got (after ++ rest) ≡ after = take_at after rest got (ap length bytes ∙ long ∙ omega arith) in
    shared_piece source job at want s which (subst (λ xs. IsShared at s xs (take want (drop at job))) (first ∙ bytes)
    (subst (λ n. IsShared at s (take got (after ++ rest)) (take n (drop at job))) even is))

-- the bytes so far are the same, and the next piece isn't
pub ends_within : (source job : List ℕ) (at want s : ℕ) → at ≤ length source → at ≤ length job → take at source ≡ take at job → s ≡ min want (shared (drop at source) (drop at job)) → s < want → at + s ≡ shared source job
ends_within source job at want s first second same is short =
    let front : shared source job ≡ at + shared (drop at source) (drop at job) = shared_front at source job first second same in
    omega arith

-- the next piece is the same too
pub goes_further : (source job : List ℕ) (at want s : ℕ) → take at source ≡ take at job → s ≡ min want (shared (drop at source) (drop at job)) → want ≤ s → take (at + want) source ≡ take (at + want) job
goes_further source job at want s same is long =
    take-add at want source ∙ ap₂ (λ xs ys. xs ++ ys) same (take-shared want (drop at source) (drop at job) (omega arith)) ∙ sym (take-add at want job)

-- up to the end of one of them they are the same
pub ends_there : (source job : List ℕ) (end : ℕ) → end ≡ min (length source) (length job) → take end source ≡ take end job → end ≡ shared source job
ends_there source job end is same =
    let front : shared source job ≡ end + shared (drop end source) (drop end job) = shared_front end source job (omega arith) (omega arith) same in
    let past : (length source ≤ end) ⊎ (length job ≤ end) = elim (cases_lt (length job) (length source)) [
      | inl shorter ↦ inr (omega arith)
      | inr longer ↦ inl (omega arith)
    ] in
    let none : shared (drop end source) (drop end job) ≡ 0 = shared_past end source job past in
    omega arith
