-- what is kept and lost by maps, filters, parts and ascending lists
use Rattle.std.specs.Prelude.{◌≡◌, ◌⊎◌, ℕ, suc, ◌+◌, ◌-◌, ◌≤◌, Bool, true, false, cond, List, [], ◌∷◌, ◌++◌, length, map, filter, slice_range}
use Rattle.std.proofs.Common.{take, drop, refl, sym, ◌∙◌, ap, subst, inl, inr, true≢false, arith}
use Rattle.std.proofs.lemmas.Bool.{cases_Bool}
use Rattle.std.proofs.lemmas.List.{drop-take}
use Rattle.list_laws.specs.Members.{Has, SameMembers, put, ascending, IsAscending, IsStrictOrder}

-- a member of two lists one after the other is one of either
pub has_append : {X : Type 0} (x : X) (xs ys : List X) → Has x (xs ++ ys) → Has x xs ⊎ Has x ys
has_append x [] ys h = inr h
has_append x (y ∷ xs) ys (inl e) = inl (inl e)
has_append x (y ∷ xs) ys (inr h) = elim (has_append x xs ys h) [ inl m ↦ inl (inr m) | inr m ↦ inr m ]

pub has_left : {X : Type 0} (x : X) (xs ys : List X) → Has x xs → Has x (xs ++ ys)
has_left x [] ys m = absurd m
has_left x (y ∷ xs) ys (inl e) = inl e
has_left x (y ∷ xs) ys (inr m) = inr (has_left x xs ys m)

pub has_right : {X : Type 0} (x : X) (xs ys : List X) → Has x ys → Has x (xs ++ ys)
has_right x [] ys m = m
has_right x (y ∷ xs) ys m = inr (has_right x xs ys m)

pub has_map : {X Y : Type 0} (f : X → Y) (x : X) (xs : List X) → Has x xs → Has (f x) (map f xs)
has_map f x [] h = h
has_map f x (y ∷ ys) (inl e) = inl (ap f e)
has_map f x (y ∷ ys) (inr h) = inr (has_map f x ys h)

pub map_has : {X Y : Type 0} (f : X → Y) (y : Y) (xs : List X) → Has y (map f xs) → (x : X) × Has x xs × (f x ≡ y)
map_has f y [] h = absurd h
map_has f y (x ∷ xs) (inl e) = (x, inl refl, e)
map_has f y (x ∷ xs) (inr h) = let (z, member, e) = map_has f y xs h in (z, inr member, e)

pub has_filter : {X : Type 0} (p : X → Bool) (x : X) (xs : List X) → Has x xs → p x ≡ true → Has x (filter p xs)
has_filter p x [] h e = h
has_filter p x (y ∷ ys) (inl same) e = let pass : p y ≡ true = ap p same ∙ e in rw pass (inl same)
has_filter p x (y ∷ ys) (inr h) e =
    elim (cases_Bool (p y)) [ inl pass ↦ rw pass (inr (has_filter p x ys h e)) | inr fail ↦ rw fail (has_filter p x ys h e) ]

pub filter_has : {X : Type 0} (p : X → Bool) (x : X) (xs : List X) → Has x (filter p xs) → Has x xs × (p x ≡ true)
filter_has p x [] h = absurd h
filter_has {X} p x (y ∷ ys) h = by (filter_has p x ys) (p y) refl h
  where
    later : Has x ys × (p x ≡ true) → Has x (y ∷ ys) × (p x ≡ true)
    later (member, e) = (inr member, e)

    by : (Has x (filter p ys) → Has x ys × (p x ≡ true)) → (b : Bool) → p y ≡ b → Has x (cond b (y ∷ filter p ys) (filter p ys)) → Has x (y ∷ ys) × (p x ≡ true)
    by rest true pass (inl same) = (inl same, sym (ap p same) ∙ pass)
    by rest true pass (inr member) = later (rest member)
    by rest false fail member = later (rest member)

-- a filter that no member passes leaves nothing
pub filter_none : {X : Type 0} (p : X → Bool) (xs : List X) → ((x : X) → Has x xs → p x ≡ false) → filter p xs ≡ []
filter_none p [] none = refl
filter_none p (x ∷ xs) none = let fail : p x ≡ false = none x (inl refl) in rw fail (filter_none p xs (λ y h. none y (inr h)))

-- a part is the rest of a front
pub slice_take : {X : Type 0} (xs : List X) (a e : ℕ) → a ≤ e → slice_range xs a e ≡ drop a (take e xs)
slice_take {X} xs a e order =
    let whole : a + (e - a) ≡ e = omega (arith, order) in
    sym (drop-take a (e - a) xs) ∙ ap (λ (n : ℕ). drop a (take n xs)) whole

module _ {X : Type 0} (before : X → X → Bool) where
  -- the three ways in which x is put into a list
  put_cases : (P : List X → Type 0) (x y : X) (ys : List X) → (before x y ≡ true → P (x ∷ y ∷ ys))
      → (before x y ≡ false → before y x ≡ true → P (y ∷ put before x ys)) → (before x y ≡ false → before y x ≡ false → P (y ∷ ys))
      → P (put before x (y ∷ ys))
  put_cases P x y ys = by (before x y) (before y x)
    where
      by : (b c : Bool) → (b ≡ true → P (x ∷ y ∷ ys)) → (b ≡ false → c ≡ true → P (y ∷ put before x ys)) → (b ≡ false → c ≡ false → P (y ∷ ys))
          → P (cond b (x ∷ y ∷ ys) (cond c (y ∷ put before x ys) (y ∷ ys)))
      by true c first later same = first refl
      by false true first later same = later refl refl
      by false false first later same = same refl refl

  -- what is put into a list is a member afterwards, and so is what was one before
  pub put_has : IsStrictOrder before → (x : X) (xs : List X) → Has x (put before x xs)
  put_has o x [] = inl refl
  put_has o x (y ∷ ys) = let f = put_has o x ys in
      put_cases (Has x) x y ys (λ _. inl refl) (λ _ _. inr f) (λ a b. inl (o.meets y x b a))

  pub put_keeps : (x z : X) (xs : List X) → Has z xs → Has z (put before x xs)
  put_keeps x z [] h = absurd h
  put_keeps x z (y ∷ ys) h = let f = put_keeps x z ys in
      put_cases (Has z) x y ys (λ _. inr h) (λ _ _. elim h [ inl e ↦ inl e | inr member ↦ inr (f member) ]) (λ _ _. h)

  -- nothing else is
  pub has_put : (x z : X) (xs : List X) → Has z (put before x xs) → (x ≡ z) ⊎ Has z xs
  has_put x z [] (inl e) = inl e
  has_put x z [] (inr h) = inr h
  has_put x z (y ∷ ys) h = let f = has_put x z ys in
      put_cases (λ l. Has z l → (x ≡ z) ⊎ Has z (y ∷ ys)) x y ys
      (λ _ m. elim m [ inl e ↦ inl e | inr later ↦ inr later ])
      (λ _ _ m. elim m [ inl e ↦ inr (inl e) | inr later ↦ elim (f later) [ inl e ↦ inl e | inr member ↦ inr (inr member) ] ])
      (λ _ _ m. inr m) h

  pub put_ascends : IsStrictOrder before → (x : X) (xs : List X) → IsAscending before xs → IsAscending before (put before x xs)
  put_ascends o x [] a = ((λ y h. absurd h), tt)
  put_ascends o x (y ∷ ys) a = let f = put_ascends o x ys a.1 in
      put_cases (IsAscending before) x y ys
      (λ first. ((λ z h. elim h [ inl e ↦ subst (λ w. before x w ≡ true) e first | inr member ↦ o.joins x y z first (a.0 z member) ]), a))
      (λ _ later. ((λ z h. elim (has_put x z ys h) [ inl e ↦ subst (λ w. before y w ≡ true) e later | inr member ↦ a.0 z member ]), f))
      (λ _ _. a)

  pub ascending_ascends : IsStrictOrder before → (xs : List X) → IsAscending before (ascending before xs)
  ascending_ascends o [] = tt
  ascending_ascends o (x ∷ xs) = put_ascends o x (ascending before xs) (ascending_ascends o xs)

  pub ascending_keeps : IsStrictOrder before → (z : X) (xs : List X) → Has z xs → Has z (ascending before xs)
  ascending_keeps o z [] h = h
  ascending_keeps o z (x ∷ xs) (inl e) = subst (λ w. Has w (put before x (ascending before xs))) e (put_has o x (ascending before xs))
  ascending_keeps o z (x ∷ xs) (inr h) = put_keeps x z (ascending before xs) (ascending_keeps o z xs h)

  pub has_ascending : (z : X) (xs : List X) → Has z (ascending before xs) → Has z xs
  has_ascending z [] h = h
  has_ascending z (x ∷ xs) h = elim (has_put x z (ascending before xs) h) [ inl e ↦ inl e | inr member ↦ inr (has_ascending z xs member) ]

  pub ascending_has : IsStrictOrder before → (xs : List X) → SameMembers xs (ascending before xs)
  ascending_has o xs = record { there = λ z. ascending_keeps o z xs; back = λ z. has_ascending z xs }

  -- the heads of two ascending lists with the same members
  same_heads : IsStrictOrder before → (x y : X) (xs ys : List X) → ((z : X) → Has z xs → before x z ≡ true) → ((z : X) → Has z ys → before y z ≡ true)
      → (y ≡ x) ⊎ Has x ys → (x ≡ y) ⊎ Has y xs → x ≡ y
  same_heads o x y xs ys a b (inl e) k = sym e
  same_heads o x y xs ys a b (inr h) (inl e) = e
  same_heads o x y xs ys a b (inr h) (inr k) = absurd (true≢false (sym (o.joins x y x (a y k) (b x h)) ∙ o.none x))

  -- what follows the head is not the head of the other list
  beyond_head : IsStrictOrder before → (x y z : X) (ys : List X) → x ≡ y → before x z ≡ true → (y ≡ z) ⊎ Has z ys → Has z ys
  beyond_head o x y z ys same later (inl e) = absurd (true≢false (sym later ∙ ap (before x) (sym (same ∙ e)) ∙ o.none x))
  beyond_head o x y z ys same later (inr h) = h

  -- two ascending lists with the same members are the same
  pub same_ascending : IsStrictOrder before → (xs ys : List X) → IsAscending before xs → IsAscending before ys → SameMembers xs ys → xs ≡ ys
  same_ascending o [] [] a b m = refl
  same_ascending o [] (y ∷ ys) a b m = absurd (m.back y (inl refl))
  same_ascending o (x ∷ xs) [] a b m = absurd (m.there x (inl refl))
  same_ascending o (x ∷ xs) (y ∷ ys) a b m =
      let head : x ≡ y = same_heads o x y xs ys a.0 b.0 (m.there x (inl refl)) (m.back y (inl refl)) in
      let rest : xs ≡ ys = same_ascending o xs ys a.1 b.1 (record {
        there = λ z h. beyond_head o x y z ys head (a.0 z h) (m.there z (inr h));
        back = λ z h. beyond_head o y x z xs (sym head) (b.0 z h) (m.back z (inr h));
      }) in
      λ i. head i ∷ rest i

  -- what is put into a list makes it longer by one at most
  pub length-put : (x : X) (xs : List X) → length (put before x xs) ≤ suc (length xs)
  length-put x [] = omega arith
  length-put x (y ∷ ys) = let f : length (put before x ys) ≤ suc (length ys) = length-put x ys in
      put_cases (λ l. length l ≤ suc (suc (length ys))) x y ys (λ _. omega arith) (λ _ _. omega arith) (λ _ _. omega arith)

  -- the members of a list, each once, are no more than its items
  pub length-ascending : (xs : List X) → length (ascending before xs) ≤ length xs
  length-ascending [] = omega arith
  length-ascending (x ∷ xs) = omega (arith, length-put x (ascending before xs), length-ascending xs)
