-- halves of pieces
use Rattle.std.specs.Prelude.{◌≡◌, ◌⊎◌, ℕ, suc, ◌^◌, Bool, true, false, not, List, [], ◌∷◌, ◌++◌, length}
use Rattle.std.proofs.Common.{refl, sym, ◌∙◌, ap, subst, inl, inr, true≢false, arith}
use Rattle.std.proofs.lemmas.List.{take-append-drop, take_at, drop_at, length-take-le, length-drop}
use Rattle.bool_tables.specs.Tables.{low_half, high_half, same_bits}
use Rattle.bool_tables.proofs.Halves.{twice}
use Rattle.list_laws.specs.Members.{Has, SameMembers}
use Rattle.canon_file.specs.Pieces.{splits, halves}

pub same_bits-self : (xs : List Bool) → same_bits xs xs ≡ true
same_bits-self [] = refl
same_bits-self (true ∷ xs) = same_bits-self xs
same_bits-self (false ∷ xs) = same_bits-self xs

pub same_from_bits : (xs ys : List Bool) → same_bits xs ys ≡ true → xs ≡ ys
same_from_bits [] [] e = refl
same_from_bits [] (y ∷ ys) e = absurd (true≢false (sym e))
same_from_bits (x ∷ xs) [] e = absurd (true≢false (sym e))
same_from_bits (true ∷ xs) (true ∷ ys) e = ap (λ l. true ∷ l) (same_from_bits xs ys e)
same_from_bits (true ∷ xs) (false ∷ ys) e = absurd (true≢false (sym e))
same_from_bits (false ∷ xs) (true ∷ ys) e = absurd (true≢false (sym e))
same_from_bits (false ∷ xs) (false ∷ ys) e = ap (λ l. false ∷ l) (same_from_bits xs ys e)

pub length-low : (h : ℕ) (t : List Bool) → length t ≡ 2 ^ suc h → length (low_half h t) ≡ 2 ^ h
length-low h t n = length-take-le (2 ^ h) t (omega (arith, twice h))

pub length-high : (h : ℕ) (t : List Bool) → length t ≡ 2 ^ suc h → length (high_half h t) ≡ 2 ^ h
length-high h t n = omega (arith, length-drop (2 ^ h) t, twice h)

-- a table is its two halves
pub joined : (h : ℕ) (t : List Bool) → low_half h t ++ high_half h t ≡ t
joined h t = take-append-drop (2 ^ h) t

pub low-append : (h : ℕ) (a b : List Bool) → length a ≡ 2 ^ h → low_half h (a ++ b) ≡ a
low-append h a b n = take_at a b (2 ^ h) n

pub high-append : (h : ℕ) (a b : List Bool) → length a ≡ 2 ^ h → high_half h (a ++ b) ≡ b
high-append h a b n = drop_at a b (2 ^ h) n

-- where a piece doesn't split, its halves are the same
pub unsplit : (h : ℕ) (t : List Bool) → splits h t ≡ false → low_half h t ≡ high_half h t
unsplit h t e = same_from_bits (low_half h t) (high_half h t) (by (same_bits (low_half h t) (high_half h t)) e)
  where
    by : (b : Bool) → not b ≡ false → b ≡ true
    by true e = refl
    by false e = absurd (true≢false e)

pub unsplit_same : (h : ℕ) (t : List Bool) → low_half h t ≡ high_half h t → splits h t ≡ false
unsplit_same h t e = ap not (ap (same_bits (low_half h t)) (sym e) ∙ same_bits-self (low_half h t))

-- halves that differ at one place differ
pub split_differ : (h : ℕ) (t : List Bool) → (low_half h t ≡ high_half h t → ⊥) → splits h t ≡ true
split_differ h t apart = by (same_bits (low_half h t) (high_half h t)) refl
  where
    by : (b : Bool) → same_bits (low_half h t) (high_half h t) ≡ b → not b ≡ true
    by true e = absurd (apart (same_from_bits (low_half h t) (high_half h t) e))
    by false e = refl

pub has_low : (h : ℕ) (p : List Bool) (ps : List (List Bool)) → Has p ps → Has (low_half h p) (halves h ps)
has_low h p [] m = absurd m
has_low h p (q ∷ ps) (inl e) = inl (ap (low_half h) e)
has_low h p (q ∷ ps) (inr m) = inr (inr (has_low h p ps m))

pub has_high : (h : ℕ) (p : List Bool) (ps : List (List Bool)) → Has p ps → Has (high_half h p) (halves h ps)
has_high h p [] m = absurd m
has_high h p (q ∷ ps) (inl e) = inr (inl (ap (high_half h) e))
has_high h p (q ∷ ps) (inr m) = inr (inr (has_high h p ps m))

-- each half is that of a piece
pub half_has : (h : ℕ) (x : List Bool) (ps : List (List Bool)) → Has x (halves h ps)
    → (p : List Bool) × Has p ps × ((low_half h p ≡ x) ⊎ (high_half h p ≡ x))
half_has h x [] m = absurd m
half_has h x (p ∷ ps) (inl e) = (p, inl refl, inl e)
half_has h x (p ∷ ps) (inr (inl e)) = (p, inl refl, inr e)
half_has h x (p ∷ ps) (inr (inr m)) = let (q, k, e) = half_has h x ps m in (q, inr k, e)

-- the halves of pieces with the same members have the same members
pub halves_within : (h : ℕ) (ps qs : List (List Bool)) → ((x : List Bool) → Has x ps → Has x qs) → (x : List Bool) → Has x (halves h ps) → Has x (halves h qs)
halves_within h ps qs f x m =
    let (p, k, e) = half_has h x ps m in
    elim e [
      | inl low ↦ subst (λ y. Has y (halves h qs)) low (has_low h p qs (f p k))
      | inr high ↦ subst (λ y. Has y (halves h qs)) high (has_high h p qs (f p k))
    ]

pub halves_same : (h : ℕ) (ps qs : List (List Bool)) → SameMembers ps qs → SameMembers (halves h ps) (halves h qs)
halves_same h ps qs m = record { there = halves_within h ps qs m.there; back = halves_within h qs ps m.back }
