-- Well-formed plans that go on with the steps of signals.
use Rattle.std.specs.Prelude.{◌≡◌, ℕ, ◌<◌, ◌≤◌, List, [], ◌++◌, length, slice_index, nat_lt, IsTrue}
use Rattle.std.specs.List.{list_all}
use Rattle.bool_tables.specs.Plans.{all_may_follow, has_name, is_live}
use Rattle.bool_tables.specs.declared.steps.Step.{Step}
use Rattle.bool_tables.specs.declared.steps.Planned.{Planned}
use Rattle.net_plan.specs.Values.{steps_of}

-- planned steps may follow those before them; those that made the wanted signals are behind these, live after all of
-- them, and differ where the signals do; and what was live before is live after them
pub record GoesOn (n : ℕ) (text : List ℕ) (before planned : List Planned) (wanted made : List ℕ) : Type 0 where
  pub in_order : IsTrue (all_may_follow n text before planned)
  pub new : (i : ℕ) → i < length made → length before ≤ slice_index made i
  pub live : (i : ℕ) → i < length made → IsTrue (is_live (before ++ planned) (slice_index made i))
  pub apart : (i j : ℕ) → i < length made → j < length made → slice_index made i ≡ slice_index made j
      → slice_index wanted i ≡ slice_index wanted j
  pub stays : (k : ℕ) → IsTrue (is_live before k) → IsTrue (is_live (before ++ planned) k)

-- the steps go on with any plan that is well-formed, where the levels are those of its variables and the names stand in
-- its text
abbrev pub StaysWellFormed : List ℕ → List ℕ → ℕ → List Step → List ℕ → Type 0
StaysWellFormed levels wanted first steps made =
    (n : ℕ) (text : List ℕ) (before planned : List Planned) → length before ≡ first
    → IsTrue (all_may_follow n text [] before) → steps_of planned ≡ steps
    → IsTrue (list_all (has_name text) planned) → IsTrue (list_all (λ level. nat_lt level n) levels)
    → GoesOn n text before planned wanted made
