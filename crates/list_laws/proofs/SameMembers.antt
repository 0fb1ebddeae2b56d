-- lists with the same members
use Rattle.std.specs.Prelude.{◌<◌, ℕ, zero, suc, List, [], ◌∷◌, ◌++◌, length, map, slice_index_or}
use Rattle.std.specs.List.{Contains}
use Rattle.std.specs.List.Sorted.{IsPermutation}
use Rattle.std.proofs.Common.{refl, subst, inl, inr, arith}
use Rattle.std.proofs.lemmas.List.Sorted.{Contains-permutation, IsPermutation-sym}
use Rattle.list_laws.specs.Members.{Has, SameMembers}
use Rattle.list_laws.proofs.MemberLaws.{has_map, map_has, has_append, has_left, has_right}

pub has_at : {X : Type 0} (xs : List X) (k : ℕ) (d : X) → k < length xs → Has (slice_index_or xs k d) xs
has_at [] k d below = absurd (omega arith)
has_at (x ∷ xs) zero d below = inl refl
has_at (x ∷ xs) (suc k) d below = inr (has_at xs k d (omega arith))

pub has_from_contains : {X : Type 0} (x : X) (xs : List X) → Contains xs x → Has x xs
has_from_contains x xs (k, below, e) = subst (λ y. Has y xs) e (has_at xs k x below)

pub contains_from_has : {X : Type 0} (x : X) (xs : List X) → Has x xs → Contains xs x
contains_from_has x [] m = absurd m
contains_from_has x (y ∷ xs) (inl e) = (0, omega arith, e)
contains_from_has x (y ∷ xs) (inr m) = let (k, below, e) = contains_from_has x xs m in (suc k, omega arith, e)

-- a list has the members of one that it is a permutation of
pub same_permuted : {X : Type 0} (xs ys : List X) → IsPermutation xs ys → SameMembers xs ys
same_permuted xs ys p = record {
  there = λ x m. has_from_contains x ys (Contains-permutation xs ys x p (contains_from_has x xs m));
  back = λ x m. has_from_contains x xs (Contains-permutation ys xs x (IsPermutation-sym xs ys p) (contains_from_has x ys m));
}

pub same_self : {X : Type 0} (xs : List X) → SameMembers xs xs
same_self xs = record { there = λ x m. m; back = λ x m. m }

pub same_back : {X : Type 0} (xs ys : List X) → SameMembers xs ys → SameMembers ys xs
same_back xs ys s = record { there = s.back; back = s.there }

pub same_on : {X : Type 0} (xs ys zs : List X) → SameMembers xs ys → SameMembers ys zs → SameMembers xs zs
same_on xs ys zs s t = record { there = λ x m. t.there x (s.there x m); back = λ x m. s.back x (t.back x m) }

pub same_map : {X Y : Type 0} (f : X → Y) (xs ys : List X) → SameMembers xs ys → SameMembers (map f xs) (map f ys)
same_map f xs ys s = record {
  there = λ y m. let (x, k, e) = map_has f y xs m in subst (λ z. Has z (map f ys)) e (has_map f x ys (s.there x k));
  back = λ y m. let (x, k, e) = map_has f y ys m in subst (λ z. Has z (map f xs)) e (has_map f x xs (s.back x k));
}

pub same_append : {X : Type 0} (xs ys us vs : List X) → SameMembers xs ys → SameMembers us vs → SameMembers (xs ++ us) (ys ++ vs)
same_append xs ys us vs s t = record {
  there = λ x m. elim (has_append x xs us m) [ inl k ↦ has_left x ys vs (s.there x k) | inr k ↦ has_right x ys vs (t.there x k) ];
  back = λ x m. elim (has_append x ys vs m) [ inl k ↦ has_left x xs us (s.back x k) | inr k ↦ has_right x xs us (t.back x k) ];
}

-- the last of the second of two lists is taken
pub taken_last : {X : Type 0} (xs ys : List X) (y : X) → SameMembers (xs ++ (ys ++ y ∷ [])) (y ∷ (xs ++ ys))
taken_last xs ys y = record {
  there = λ x m. elim (has_append x xs (ys ++ y ∷ []) m) [
    | inl k ↦ inr (has_left x xs ys k)
    | inr k ↦ elim (has_append x ys (y ∷ []) k) [ inl l ↦ inr (has_right x xs ys l) | inr l ↦ elim l [ inl e ↦ inl e | inr none ↦ absurd none ] ]
  ];
  back = λ x m. elim m [
    | inl e ↦ has_right x xs (ys ++ y ∷ []) (has_right x ys (y ∷ []) (inl e))
    | inr k ↦ elim (has_append x xs ys k) [ inl l ↦ has_left x xs (ys ++ y ∷ []) l | inr l ↦ has_right x xs (ys ++ y ∷ []) (has_left x ys (y ∷ []) l) ]
  ];
}
