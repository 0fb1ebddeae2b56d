-- one table is nowhere above another where no value of their implication is 0
use Rattle.std.specs.Prelude.{◌≡◌, ◌^◌, ◌&&◌, not, ℕ, zero, suc, Bool, true, false, List, [], ◌∷◌, ◌++◌, length}
use Rattle.std.proofs.Common.{refl, sym, ◌∙◌, subst, inl, inr, arith}
use Rattle.std.proofs.lemmas.Bool.{and_parts, and_from}
use Rattle.bool_tables.specs.Tables.{is_leq, low_half, high_half}
use Rattle.bool_tables.specs.Steps.{op_value}
use Rattle.canon_file.specs.Members.{Has}
use Rattle.canon_file.proofs.PieceLaws.{joined, length-low, length-high}
use Rattle.list_laws.proofs.MemberLaws.{has_append, has_left, has_right}
use Rattle.top_down.specs.Tuples.{joined_by}
use Rattle.top_down.specs.Operations.{implies}
use Rattle.top_down.specs.Verdicts.{HasNoZero, ImplicationAnswers}
use Rattle.top_down.proofs.PointwiseLaws.{low-joined, high-joined}

abbrev implied : ℕ → List Bool → List Bool → List Bool
implied h t u = joined_by (λ b c d. op_value implies b c) h t u []

-- the comparison of two tables is that of their parts
leq-append : (a b c d : List Bool) → length a ≡ length c → is_leq (a ++ b) (c ++ d) ≡ is_leq a c && is_leq b d
leq-append [] b [] d same = refl
leq-append [] b (y ∷ c) d same = absurd (omega arith)
leq-append (x ∷ a) b [] d same = absurd (omega arith)
leq-append (x ∷ a) b (y ∷ c) d same = by (not (x && not y)) (leq-append a b c d (omega arith))
  where
    by : (e : Bool) → is_leq (a ++ b) (c ++ d) ≡ is_leq a c && is_leq b d → e && is_leq (a ++ b) (c ++ d) ≡ (e && is_leq a c) && is_leq b d
    by true rest = rest
    by false rest = refl

implied-parts : (h : ℕ) (t u : List Bool) → implied (suc h) t u ≡ implied h (low_half h t) (low_half h u) ++ implied h (high_half h t) (high_half h u)
implied-parts h t u =
    sym (joined h (implied (suc h) t u))
    ∙ (λ j. low-joined (λ b c d. op_value implies b c) h t u [] j ++ high-joined (λ b c d. op_value implies b c) h t u [] j)

leq-parts : (h : ℕ) (t u : List Bool) → length t ≡ 2 ^ suc h → length u ≡ 2 ^ suc h
    → is_leq t u ≡ is_leq (low_half h t) (low_half h u) && is_leq (high_half h t) (high_half h u)
leq-parts h t u long_t long_u =
    (λ j. is_leq (sym (joined h t) j) (sym (joined h u) j))
    ∙ leq-append (low_half h t) (high_half h t) (low_half h u) (high_half h u) (length-low h t long_t ∙ sym (length-low h u long_u))

-- of single values
leq_one : (x y : Bool) → is_leq (x ∷ []) (y ∷ []) ≡ true → HasNoZero (implied 0 (x ∷ []) (y ∷ []))
leq_one true true e (inl same) = apart same
  where
    apart : true ≡ false → ⊥
    apart wrong = cc
leq_one true true e (inr none) = absurd none
leq_one true false e m = apart e
  where
    apart : false ≡ true → ⊥
    apart wrong = cc
leq_one false y e (inl same) = apart y same
  where
    apart : (y : Bool) → op_value implies false y ≡ false → ⊥
    apart true wrong = cc
    apart false wrong = cc
leq_one false y e (inr none) = absurd none

one_leq : (x y : Bool) → HasNoZero (implied 0 (x ∷ []) (y ∷ [])) → is_leq (x ∷ []) (y ∷ []) ≡ true
one_leq true true none = refl
one_leq true false none = absurd (none (inl refl))
one_leq false y none = refl

pub leq_implied : (h : ℕ) (t u : List Bool) → length t ≡ 2 ^ h → length u ≡ 2 ^ h → is_leq t u ≡ true → HasNoZero (implied h t u)
leq_implied zero [] u long_t long_u e = absurd (omega arith)
leq_implied zero (x ∷ []) [] long_t long_u e = absurd (omega arith)
leq_implied zero (x ∷ []) (y ∷ []) long_t long_u e = leq_one x y e
leq_implied zero (x ∷ []) (y ∷ z ∷ u) long_t long_u e = absurd (omega arith)
leq_implied zero (x ∷ z ∷ t) u long_t long_u e = absurd (omega arith)
leq_implied (suc h) t u long_t long_u e = λ m.
    let (low, high) = and_parts (is_leq (low_half h t) (low_half h u)) (is_leq (high_half h t) (high_half h u)) (sym (leq-parts h t u long_t long_u) ∙ e) in
    elim (has_append false (implied h (low_half h t) (low_half h u)) (implied h (high_half h t) (high_half h u)) (subst (Has false) (implied-parts h t u) m)) [
      | inl k ↦ leq_implied h (low_half h t) (low_half h u) (length-low h t long_t) (length-low h u long_u) low k
      | inr k ↦ leq_implied h (high_half h t) (high_half h u) (length-high h t long_t) (length-high h u long_u) high k
    ]

pub implied_leq : (h : ℕ) (t u : List Bool) → length t ≡ 2 ^ h → length u ≡ 2 ^ h → HasNoZero (implied h t u) → is_leq t u ≡ true
implied_leq zero [] u long_t long_u none = absurd (omega arith)
implied_leq zero (x ∷ []) [] long_t long_u none = absurd (omega arith)
implied_leq zero (x ∷ []) (y ∷ []) long_t long_u none = one_leq x y none
implied_leq zero (x ∷ []) (y ∷ z ∷ u) long_t long_u none = absurd (omega arith)
implied_leq zero (x ∷ z ∷ t) u long_t long_u none = absurd (omega arith)
implied_leq (suc h) t u long_t long_u none =
    leq-parts h t u long_t long_u
    ∙ and_from (is_leq (low_half h t) (low_half h u)) (is_leq (high_half h t) (high_half h u))
    (implied_leq h (low_half h t) (low_half h u) (length-low h t long_t) (length-low h u long_u)
    (λ m. none (subst (Has false) (sym (implied-parts h t u)) (has_left false (implied h (low_half h t) (low_half h u)) (implied h (high_half h t) (high_half h u)) m))))
    (implied_leq h (high_half h t) (high_half h u) (length-high h t long_t) (length-high h u long_u)
    (λ m. none (subst (Has false) (sym (implied-parts h t u)) (has_right false (implied h (low_half h t) (low_half h u)) (implied h (high_half h t) (high_half h u)) m))))

pub implication_answers : (n : ℕ) → ImplicationAnswers n
implication_answers n t u long_t long_u = (leq_implied n t u long_t long_u, implied_leq n t u long_t long_u)
