-- The endings of a call whose words ask for a list.
use Rattle.std.proofs.Common.{◌≡◌, ◌∙◌, ◌⊎◌, ℕ, ◌+◌, ◌*◌, ◌≤◌, Bool, List, [], ◌∷◌, ◌++◌, length, refl, sym, ap, subst, inl, inr, arith}
use Rattle.std.specs.Prelude.{IsTrue, Some, ◌==◌}
use Rattle.std.specs.List.{list_any}
use Rattle.shelf_model.specs.World.{World, now, said}
use Rattle.shelf_model.specs.Calls.{Told}
use Rattle.shelf_model.specs.Faults.{Faults}
use Rattle.shelf_model.proofs.Runs.{told}
use Rattle.catalogue.specs.Counts.{present, count_in}
use Rattle.catalogue.specs.Standings.{most_steps}
use Rattle.command_words.specs.Readings.{list}
use Rattle.sound_image.specs.Jobs.{Job}
use Rattle.sound_image.specs.Holds.{AreSound}
use Rattle.script_runner.specs.declared.ending.Ending.{Ending}
use Rattle.script_runner.specs.Fetching.{OnlyFetched}
use Rattle.script_runner.specs.Status.{status_of}
use Rattle.script_runner.specs.Entered.{EndingHasCause}
use Rattle.script_runner.specs.Listed.{EndsList, diagram_lines, ListsIn}
use Rattle.script_runner.specs.Outcome.{Ends, ByWords, IsStatus, StatusHasCause, NoneRose, Answers}
use Rattle.script_runner.proofs.Endings.{ends_list}
use Rattle.script_runner.proofs.SourceRuns.{has_cause}

-- what holds of the four statuses of a list holds of its status
of_list : (P : ℕ → Type 0) (status : ℕ) → EndsList status → P 0 → P 7 → P 8 → P 10 → P status
of_list P status (inl x) at_0 at_7 at_8 at_10 = subst P (sym x) at_0
of_list P status (inr (inl x)) at_0 at_7 at_8 at_10 = subst P (sym x) at_7
of_list P status (inr (inr (inl x))) at_0 at_7 at_8 at_10 = subst P (sym x) at_8
of_list P status (inr (inr (inr x))) at_0 at_7 at_8 at_10 = subst P (sym x) at_10

-- the words decide that a list ends so
by_list : (folder : List ℕ) (status : ℕ) → EndsList status → ByWords (Some (list folder)) status
by_list folder status ends = record {
  usage = λ two. absurd (of_list (λ s. ¬ (s ≡ 2)) status ends (λ x. omega (arith, x)) (λ x. omega (arith, x))
      (λ x. omega (arith, x)) (λ x. omega (arith, x)) two);
  unread = λ none. absurd cc;
  listed = λ other same. of_list (λ s. IsTrue (list_any (λ t. t == s) (0 ∷ 7 ∷ 8 ∷ 9 ∷ 10 ∷ []))) status ends refl refl refl refl;
  known = of_list IsStatus status ends refl refl refl refl;
}

module _ {S : Type 0} (tells : S → Bool) (world : S → World) (counts : S → Faults) where
  -- the folder's diagrams were listed
  pub answers_list : (folder : List ℕ) (end : Ending) (s t : S) → Told tells s t (ListsIn folder (status_of end) (world s) (world t))
      → (IsTrue (tells t) → (world t).clock ≤ (world s).clock + 7 + 3 * count_in (present (now (world s)).folder))
      → EndsList (status_of end) → EndingHasCause (counts s) (counts t) end
      → Answers tells world counts (Some (list folder)) (status_of end) s t
  answers_list folder end s t lists calls ends cause = record {
    content = told tells s t _ _ lists (λ _ l. ends_list folder (status_of end) (world s) (world t) l);
    calls = λ tells_t. inr (inr ((folder, refl), calls tells_t));
    by_words = by_list folder (status_of end) ends;
    causes = has_cause (Some (list folder)) end (counts s) (counts t) not_six cause;
    in_order = λ _ six. absurd (not_six six);
  }
    where
      not_six : status_of end ≡ 6 → ⊥
      not_six six = of_list (λ s. ¬ (s ≡ 6)) (status_of end) ends (λ x. omega (arith, x)) (λ x. omega (arith, x))
          (λ x. omega (arith, x)) (λ x. omega (arith, x)) six

-- a list of a sound folder, without a fault
pub lists_end : (folder : List ℕ) (job : Job) (status : ℕ) (old new : World) (before after : Faults)
    → length job.steps ≤ most_steps → AreSound job (now old).folder → Ends (Some (list folder)) status old new
    → StatusHasCause (Some (list folder)) status before after → NoneRose (Some (list folder)) before after
    → ((status ≡ 0) × (said new ≡ said old ++ diagram_lines job (count_in (present (now old).folder)))) ⊎ ((status ≡ 9) × OnlyFetched old new)
lists_end folder job status old new before after few sound ends causes none = elim (ends.listed folder refl) [
  | inl silent ↦ inr silent
  | inr lists ↦ inl (by_list_in lists lists.status_is)
]
  where
    by_list_in : ListsIn folder status old new → EndsList status → (status ≡ 0) × (said new ≡ said old ++ diagram_lines job (count_in (present (now old).folder)))
    by_list_in lists which = elim which [
      | inl zero ↦ (zero, lists.leaves.whole zero ∙ ap (λ text. said old ++ text) (lists.leaves.lines_are job sound))
      | inr more ↦ elim more [
        | inl seven ↦ absurd (none.folder_same (causes.folder_fault seven))
        | inr rest ↦ elim rest [
          | inl eight ↦ absurd (none.say_same (causes.say_fault eight))
          | inr ten ↦ absurd (lists.leaves.goes_on job few sound ten)
        ]
      ]
    ]
