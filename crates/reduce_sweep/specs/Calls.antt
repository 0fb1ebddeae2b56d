-- What every call within a turn leaves and costs.
use Rattle.std.specs.Prelude.{◌≡◌, ℕ, Bool, IsTrue, Result, IfErr}
use Rattle.shelf_model.specs.declared.sort_fault.SortFault.{SortFault}
use Rattle.shelf_model.specs.Faults.{Faults}
use Rattle.shelf_model.specs.World.{World, file}
use Rattle.sweep_core.specs.Accounts.{Leaves}
use Rattle.sweep_core.specs.Sweeps.{IsFirm}
use Rattle.reduce_lists.specs.Damage.{IsDamageOf}
use Rattle.reduce_lists.specs.AtWork.{AreListed, IsAtWork}
use Rattle.reduce_sweep.specs.declared.phase.Phase.{Phase}
use Rattle.reduce_sweep.specs.declared.phase.Phase.TheVariants.{Between, Collect, Number, Forward, Ended}
use Rattle.reduce_sweep.specs.declared.reduce.ReduceSweep.{ReduceSweep}
use Rattle.reduce_sweep.specs.Sweeps.{out_of, arcs_of, inner_file, ends_file, accounts, IsSound, Refuses}

-- once it has ended, the file of the nodes stays whatever a stop leaves
abbrev pub IsStepAt : Phase → ReduceSweep → World → Type 0
IsStepAt Between s world = IsAtWork s.ahead s.lists s.writer world
IsStepAt (Collect source) s world = IsAtWork s.ahead s.lists s.writer world
IsStepAt (Number numbered) s world = IsAtWork s.ahead s.lists s.writer world
IsStepAt Forward s world = IsAtWork s.ahead s.lists s.writer world
IsStepAt (Ended count) s world = IsFirm (file world (out_of s))

abbrev pub IsInStep : ReduceSweep → World → Type 0
IsInStep s world = IsStepAt s.place.phase s world

-- until it has ended, its queue, its rows and its names stand for lists
abbrev pub HasListsAt : Phase → ReduceSweep → World → Type 0
HasListsAt Between s world = AreListed s.ahead s.lists world
HasListsAt (Collect source) s world = AreListed s.ahead s.lists world
HasListsAt (Number numbered) s world = AreListed s.ahead s.lists world
HasListsAt Forward s world = AreListed s.ahead s.lists world
HasListsAt (Ended count) s world = Unit

abbrev pub HasLists : ReduceSweep → World → Type 0
HasLists s world = HasListsAt s.place.phase s world

-- within a turn it is sound, and what it knows of its files is as they say
pub record IsFit {S : Type 0} (tells : S → Bool) (world : S → World) (shelf : S) (s : ReduceSweep) : Type 0 where
  pub sound : IsSound s
  pub at_work : IsTrue (tells shelf) → IsAtWork s.ahead s.lists s.writer (world shelf)

-- its lists exist still, where they did before
abbrev pub KeepsLists : {S : Type 0} → (S → Bool) → (S → World) → S → S → ReduceSweep → ReduceSweep → Type 0
KeepsLists tells world before after old new = IsTrue (tells after) → AreListed old.ahead old.lists (world before) →
    AreListed new.ahead new.lists (world after)

-- what no call changes
pub record SameTask (old new : ReduceSweep) : Type 0 where
  pub out_is : out_of new ≡ out_of old
  pub arcs_are : arcs_of new ≡ arcs_of old
  pub inner_is : inner_file new ≡ inner_file old
  pub ends_are : ends_file new ≡ ends_file old
  pub variables_are : new.place.variables ≡ old.place.variables

-- what a call leaves and costs, why it is refused, and where damage is then, if its lists exist
pub record Does {S T : Type 0} (tells : S → Bool) (world : S → World) (counts : S → Faults)
    (most_calls most_parts : ℕ) (before after : S) (old new : ReduceSweep) (result : Result T SortFault) : Type 0 where
  pub leaves : Leaves tells world counts accounts most_calls most_parts before after old new result
  pub same : SameTask old new
  pub refused : IfErr result (Refuses (inner_file old) (ends_file old) new)
  pub damage : IfErr result (λ e. IsTrue (tells after) → AreListed old.ahead old.lists (world before) →
      IsDamageOf old.ahead.reader (world before) e)
