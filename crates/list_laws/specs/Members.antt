-- members of lists, and ascending lists without equal members
use Rattle.std.specs.Prelude.{◌≡◌, ◌⊎◌, Bool, true, false, cond, List, [], ◌∷◌}

-- x is a member of the list
abbrev pub Has : {X : Type 0} → X → List X → Type 0
Has x [] = ⊥
Has x (y ∷ ys) = (y ≡ x) ⊎ Has x ys

-- the two lists have the same members
pub record SameMembers {X : Type 0} (xs ys : List X) : Type 0 where
  pub there : (x : X) → Has x xs → Has x ys
  pub back : (x : X) → Has x ys → Has x xs

-- x is put into an ascending list, unless it is there
abbrev pub put : {X : Type 0} → (X → X → Bool) → X → List X → List X
put before x [] = x ∷ []
put before x (y ∷ ys) = cond (before x y) (x ∷ y ∷ ys) (cond (before y x) (y ∷ put before x ys) (y ∷ ys))

-- the members of a list, ascending, each once
abbrev pub ascending : {X : Type 0} → (X → X → Bool) → List X → List X
ascending before [] = []
ascending before (x ∷ xs) = put before x (ascending before xs)

-- each member is before all that follow it
abbrev pub IsAscending : {X : Type 0} → (X → X → Bool) → List X → Type 0
IsAscending before [] = Unit {0}
IsAscending {X} before (x ∷ xs) = ((y : X) → Has y xs → before x y ≡ true) × IsAscending before xs

-- the test is a strict order, in which two that are not before each other are the same
pub record IsStrictOrder {X : Type 0} (before : X → X → Bool) : Type 0 where
  pub none : (x : X) → before x x ≡ false
  pub joins : (x y z : X) → before x y ≡ true → before y z ≡ true → before x z ≡ true
  pub meets : (x y : X) → before x y ≡ false → before y x ≡ false → x ≡ y
