-- Tests that hold of every element of a list.
use Rattle.std.proofs.Common.{ℕ, zero, suc, ◌<◌, Bool, List, [], ◌∷◌, length, get_or, drop}
use Rattle.std.specs.Prelude.{IsTrue}
use Rattle.std.specs.List.{list_all}
use Rattle.std.proofs.lemmas.Bool.{and_parts}
use Rattle.std.proofs.lemmas.List.Elements.{All-get_or}
use Rattle.std.proofs.lemmas.List.Sums.{AllPass-from_list_all}

-- a test of all holds of each
pub each_passes : {X : Type 0} (p : X → Bool) (xs : List X) (i : ℕ) (d : X) → i < length xs → IsTrue (list_all p xs) → IsTrue (p (get_or xs i d))
each_passes p xs i d within h = All-get_or (λ x. IsTrue (p x)) xs i d within (AllPass-from_list_all p xs h)

-- and of all that remain
pub rest_passes : {X : Type 0} (p : X → Bool) (xs : List X) (i : ℕ) → IsTrue (list_all p xs) → IsTrue (list_all p (drop i xs))
rest_passes p xs zero h = h
rest_passes p [] (suc i) h = h
rest_passes p (x ∷ xs) (suc i) h = rest_passes p xs i (and_parts (p x) (list_all p xs) h).1
