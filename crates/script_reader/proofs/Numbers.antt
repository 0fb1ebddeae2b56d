-- The number of a name in a list that grows, and whether the names of a list differ.
use Rattle.std.proofs.Common.{◌≡◌, ℕ, suc, ◌+◌, ◌<◌, arith, Bool, true, false, cond, List, [], ◌∷◌, ◌++◌, length, take, drop, get_or, Option, Some, None, refl, sym, ap, ◌∙◌, inl, inr}
use Rattle.std.specs.Prelude.{is_some, option_map, not, if◌then◌else◌}
use Rattle.std.specs.List.{AllByRecursion, IsDistinct, list_any}
use Rattle.std.specs.Str.{bytes_eq}
use Rattle.std.specs.Map.{update}
use Rattle.std.proofs.lemmas.Bool.{cases_Bool, and_parts, and_from, or_parts, or_from, not-true, not_from_false}
use Rattle.std.proofs.lemmas.Cmp.{nat_list_eq_equiv}
use Rattle.std.proofs.lemmas.Slice.Eq.{bytes_eq-Decides}
use Rattle.std.proofs.lemmas.Map.Keys.{IsDistinct-push, IsDistinct-head, IsDistinct-tail, IsDistinct-cons}
use Rattle.std.proofs.lemmas.List.{take_more, drop_more, take-append-drop, get_or-map, length-map}
use denote.Ref.{Bor}
use Rattle.script_reader.specs.Names.{all_differ}
use Rattle.script_reader.specs.Names.{place_of as level_of}
use Rattle.script_reader.specs.Views.{texts}

-- the first place at which a test passes
abbrev pub place_of : {A : Type 0} → (A → Bool) → List A → Option ℕ
place_of p [] = None
place_of p (x ∷ xs) = if p x then Some 0 else option_map suc (place_of p xs)

-- whether something is there is the same of what is made of it
is_some-map : (o : Option ℕ) → is_some (option_map suc o) ≡ is_some o
is_some-map None = refl
is_some-map (Some n) = refl

-- the number that was there, or that of one element more
abbrev pub or_last : Option ℕ → Bool → ℕ → Option ℕ
or_last (Some number) same last = Some number
or_last None same last = cond same (Some last) None

-- the same of numbers that are one more
or_last-map : (o : Option ℕ) (same : Bool) (last : ℕ) → option_map suc (or_last o same last) ≡ or_last (option_map suc o) same (suc last)
or_last-map (Some number) same last = refl
or_last-map None true last = refl
or_last-map None false last = refl

-- where the last element is another, the number stays
pub or_last-other : (o : Option ℕ) (last : ℕ) → o ≡ or_last o false last
or_last-other (Some number) last = refl
or_last-other None last = refl

-- the first place at which a test passes, in a list with one element more
pub place_of-push : {A : Type 0} (p : A → Bool) (xs : List A) (x : A) → place_of p (xs ++ x ∷ []) ≡ or_last (place_of p xs) (p x) (length xs)
place_of-push p [] x = refl
place_of-push p (first ∷ xs) x =
    elim (cases_Bool (p first)) [
      | inl same ↦ rw same refl
      | inr other ↦ rw other (ap (option_map suc) (place_of-push p xs x) ∙ or_last-map (place_of p xs) (p x) (length xs))
    ]

-- there is a place where the test passes
pub is_some-place_of : {A : Type 0} (p : A → Bool) (xs : List A) → is_some (place_of p xs) ≡ list_any p xs
is_some-place_of p [] = refl
is_some-place_of p (first ∷ xs) =
    elim (cases_Bool (p first)) [
      | inl same ↦ rw same refl
      | inr other ↦ rw other (is_some-map (place_of p xs) ∙ is_some-place_of p xs)
    ]

-- the level of a name is the first place that has it
pub level_is_place : (names : List (List ℕ)) (name : List ℕ) → level_of names name ≡ place_of (bytes_eq name) names
level_is_place [] name = refl
level_is_place (first ∷ names) name = rw (level_is_place names name) refl

-- a name has a level where it is one of the names
pub is_some-level_of : (names : List (List ℕ)) (name : List ℕ) → is_some (level_of names name) ≡ list_any (bytes_eq name) names
is_some-level_of names name = ap is_some (level_is_place names name) ∙ is_some-place_of (bytes_eq name) names

-- what a map has at each name after a name that it didn't have was put into it
pub number_put : (before after : List ℕ → Option ℕ) (given : List ℕ) (number : ℕ) → before given ≡ None
    → ((name : List ℕ) → after name ≡ update bytes_eq before given (Some number) name) → (name : List ℕ) → after name ≡ or_last (before name) (bytes_eq name given) number
number_put before after given number new put name =
    put name ∙ rw (nat_list_eq_equiv.symm given name)
    (elim (cases_Bool (bytes_eq name given)) [
      | inl same ↦
          let none : before name ≡ None = ap before ((bytes_eq-Decides name given).0 same) ∙ new in
          rw (same, none) refl
      | inr other ↦ rw other (or_last-other (before name) number)
    ])

-- the levels with one name more
pub level_of_more : (names : List (List ℕ)) (last : List ℕ) (before after : List ℕ → Option ℕ) → ((name : List ℕ) → before name ≡ level_of names name) → before last ≡ None
    → ((name : List ℕ) → after name ≡ update bytes_eq before last (Some (length names)) name) → (name : List ℕ) → after name ≡ level_of (names ++ last ∷ []) name
level_of_more names last before after old new put name =
    number_put before after last (length names) new put name
    ∙ ap (λ o. or_last o (bytes_eq name last) (length names)) (old name ∙ level_is_place names name)
    ∙ sym (place_of-push (bytes_eq name) names last) ∙ sym (level_is_place (names ++ last ∷ []) name)

-- no names differ
pub differ_none : IsDistinct bytes_eq []
unfolding IsDistinct
differ_none = tt

-- names that differ, and one that is none of them
pub differ_more : (names : List (List ℕ)) (last : List ℕ) → IsDistinct bytes_eq names → level_of names last ≡ None → IsDistinct bytes_eq (names ++ last ∷ [])
differ_more names last differ new =
    IsDistinct-push nat_list_eq_equiv names last differ (sym (is_some-level_of names last) ∙ ap is_some new)

-- a fact of all elements holds of one between others
pub all_at : {A : Type 0} (P : A → Type 0) (xs : List A) (y : A) (ys : List A) → AllByRecursion P (xs ++ y ∷ ys) → P y
all_at P [] y ys h = h.0
all_at P (x ∷ xs) y ys h = all_at P xs y ys h.1

-- where the names differ, none of them has a level among those before it
pub no_level : (names : List (List ℕ)) (name : List ℕ) (more : List (List ℕ)) → IsDistinct bytes_eq (names ++ name ∷ more) → is_some (level_of names name) ≡ false
no_level [] name more differ = refl
no_level (first ∷ names) name more differ =
    let other : bytes_eq name first ≡ false = nat_list_eq_equiv.symm name first ∙ all_at (λ y. bytes_eq first y ≡ false) names name more (IsDistinct-head bytes_eq first (names ++ name ∷ more) differ) in
    rw other (is_some-map (level_of names name) ∙ no_level names name more (IsDistinct-tail bytes_eq first (names ++ name ∷ more) differ))

-- one name more of the list
pub texts_more : (slices : List (Bor (List ℕ))) (i : ℕ) (d : Bor (List ℕ)) → i < length slices → take (i + 1) (texts slices) ≡ take i (texts slices) ++ (get_or slices i d).now ∷ []
texts_more slices i d lt =
    take_more (texts slices) i [] (omega (arith, length-map slices (λ (s : Bor (List ℕ)). s.now)))
    ∙ ap (λ (t : List ℕ). take i (texts slices) ++ t ∷ []) (get_or-map (λ (s : Bor (List ℕ)). s.now) slices i d [] lt)

-- the names before a place, the name there and those behind it
pub texts_split : (slices : List (Bor (List ℕ))) (i : ℕ) (d : Bor (List ℕ)) → i < length slices → texts slices ≡ take i (texts slices) ++ ((get_or slices i d).now ∷ drop (i + 1) (texts slices))
texts_split slices i d lt =
    sym (take-append-drop i (texts slices))
    ∙ ap (λ (t : List (List ℕ)). take i (texts slices) ++ t) (drop_more (texts slices) i [] (omega (arith, length-map slices (λ (s : Bor (List ℕ)). s.now)))
    ∙ ap (λ (t : List ℕ). t ∷ drop (i + 1) (texts slices)) (get_or-map (λ (s : Bor (List ℕ)). s.now) slices i d [] lt))

-- a test that no element passes fails at each
all_fail : {A : Type 0} (p : A → Bool) (xs : List A) → list_any p xs ≡ false → AllByRecursion (λ y. p y ≡ false) xs
all_fail p [] none = tt
all_fail p (x ∷ xs) none = let parts = or_parts (p x) (list_any p xs) none in (parts.0, all_fail p xs parts.1)

none_passes : {A : Type 0} (p : A → Bool) (xs : List A) → AllByRecursion (λ y. p y ≡ false) xs → list_any p xs ≡ false
none_passes p [] all = refl
none_passes p (x ∷ xs) all = or_from _ _ all.0 (none_passes p xs all.1)

-- names that differ by the test are distinct, and the other way round
pub distinct_from : (names : List (List ℕ)) → all_differ names ≡ true → IsDistinct bytes_eq names
distinct_from [] e = differ_none
distinct_from (x ∷ xs) e =
    let parts = and_parts (not (list_any (bytes_eq x) xs)) (all_differ xs) e in
    IsDistinct-cons bytes_eq x xs (all_fail (bytes_eq x) xs (not-true _ parts.0)) (distinct_from xs parts.1)

pub distinct_to : (names : List (List ℕ)) → IsDistinct bytes_eq names → all_differ names ≡ true
distinct_to [] d = refl
distinct_to (x ∷ xs) d =
    and_from _ _ (not_from_false _ (none_passes (bytes_eq x) xs (IsDistinct-head bytes_eq x xs d))) (distinct_to xs (IsDistinct-tail bytes_eq x xs d))
