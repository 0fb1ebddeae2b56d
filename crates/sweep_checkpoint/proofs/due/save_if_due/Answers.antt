use Rattle.std.proofs.Common.{◌≡◌, ℕ, ◌+◌, ◌-◌, ◌^◌, ◌∙◌, ◌<◌, ◌≤◌, IsTrue, length, rules, arith, refl, sym, ap, subst, inr}
use Rattle.shelf_model.specs.declared.file_no.FileNo.{FileNo}
use Rattle.shelf_model.specs.Calls.{Told}
use Rattle.shelf_model.specs.Moments.{Ran, Throughout, OnlyChanged}
use Rattle.shelf_model.specs.World.{Moment, now, file}
use Rattle.shelf_model.proofs.Runs.{ran_end}
use Rattle.file_numbers.specs.Files.{checkpoint_file}
use Rattle.sweep_core.specs.declared.checkpoint.Checkpoint.{Checkpoint}
use Rattle.sweep_core.specs.Accounts.{StayEmpty}
use Rattle.sweep_core.specs.Saving.{IsOfStep}
use Rattle.sweep_core.specs.Carries.{IsStill}
use Rattle.sweep_checkpoint.specs.Saves.{gated_size, IsGateSure, DuringSave}
use Rattle.sweep_checkpoint.specs.Retires.{first_taken}
use Rattle.sweep_checkpoint.specs.declared.going.Going.{Going}
use Rattle.sweep_checkpoint.specs.Going.{IsOfGoing, IsLeftAlone, IsPaidTo, AreSure, Stands, interval_of, TakesCalls}
use Rattle.sweep_checkpoint.specs.Stops.{ImagesShow}
use Rattle.sweep_checkpoint.proofs.Spent.{save_calls, paid_point}
use Rattle.sweep_checkpoint.proofs.Standing.{Ready}
use Rattle.sweep_checkpoint.proofs.WentOn.{images_none}
use Rattle.sweep_checkpoint.proofs.SavedHere.{AreLeft, IsCarried, carried_at, images_carry, images_save, images_retire, stands_retire, left_at, save_on, retire_on, works_on, covers_on, ready_by}
use Rattle.sweep_checkpoint.proofs.LeftAlone.{carry_alone, save_alone, retire_alone, saved_empty}
use Rattle.sweep_checkpoint.proofs.Shown.{AreShown, shown_as, shown_none, shown_carry, shown_save, shown_retire, showed_retire, images_show}
use Rattle.sweep_checkpoint.proofs.due.save_if_due.Given as given
use Rattle.sweep_checkpoint.proofs.due.save_if_due.Goals as goal
use Rattle.sweep_checkpoint.proofs.due.save_if_due.Goals.{After-since, After-carry, After-save, After-retire}

module _ (g : given.Over) where
  -- what is said of a sweep that is to be saved, with a step that has come so far, over that station:
  -- no files changed but its own and those of the step
  abbrev Changed : g.row.P.Denot → Going → g.row.S.Denot → g.row.S.Denot → Type 0
  Changed sweep going old new = Told g.S.Shelf.tells old new (Ran (OnlyChanged (IsOfGoing (g.P.Sweep.accounts.makes sweep) going.step) (now (g.S.Shelf.world old))) (g.S.Shelf.world old) (g.S.Shelf.world new))

  -- the gate and its operands are sure
  abbrev Sure : g.row.P.Denot → Going → g.row.S.Denot → Type 0
  Sure sweep going old = AreSure (g.P.Sweep.saving.operands (g.P.Sweep.task sweep)) going.step (now (g.S.Shelf.world old)).folder

  -- the next checkpoint is paid for
  abbrev PaidTo : g.row.P.Denot → Going → Type 0
  PaidTo sweep going = going.turns < 2 ^ 64 - 1 → IsPaidTo g.P.Sweep.accounts going sweep

  -- how many turns its job needs with those that were made
  abbrev turns_needed : g.row.P.Denot → Going → g.row.S.Denot → g.P.Sweep.Job → ℕ
  turns_needed sweep going old job = going.turns + g.P.Sweep.left sweep (g.S.Shelf.world old) job

  -- what a stop may leave
  abbrev Left : g.row.P.Denot → Going → g.row.S.Denot → g.P.Sweep.Job → Moment → Type 0
  Left sweep going old job = AreLeft g.P.Sweep.saving (g.P.Sweep.accounts.makes sweep) going.step (g.P.Sweep.accounts.next sweep) going.sweep (g.P.Sweep.task sweep) job
      (turns_needed sweep going old job) (now (g.S.Shelf.world old)).folder

  -- it filled the checkpoint
  abbrev Carried : g.row.P.Denot → g.row.S.Denot → g.row.P.Denot → g.row.S.Denot → Checkpoint → Type 0
  Carried sweep old carried mid point = IsCarried g.S.Shelf.tells g.S.Shelf.world (g.P.Sweep.accounts.makes sweep) (g.P.Sweep.saving.operands (g.P.Sweep.task sweep))
      (g.P.Sweep.accounts.next sweep) (g.P.Sweep.accounts.next carried) point old mid

  -- it is left alone by the sweep and its saves
  abbrev KeptApart : g.row.P.Denot → ℕ → FileNo → Type 0
  KeptApart sweep step f = IsLeftAlone (g.P.Sweep.accounts.makes sweep) step (g.P.Sweep.accounts.next sweep) f

  -- such files keep their bytes
  abbrev Alone : g.row.P.Denot → Going → g.row.S.Denot → g.row.S.Denot → Type 0
  Alone sweep going old new = IsTrue (g.S.Shelf.tells new) → (f : FileNo) → KeptApart sweep going.step f
      → (file (g.S.Shelf.world new) f).bytes ≡ (file (g.S.Shelf.world old) f).bytes

  -- no call was made
  none_images : (c : After-since g) → IsTrue (g.S.Shelf.tells c.args.shelf.now) → (job : g.P.Sweep.Job)
      → Throughout (g.S.Shelf.world c.args.shelf.now) (g.S.Shelf.world c.args.shelf.now) (Left c.args.sweep.now c.args.going.now c.args.shelf.now job)
  none_images c told job =
      let claim : g.claim c.lifetimes = search rules in
      let laws = g.met.P.Sweep c.lifetimes claim in
      let sweep = c.args.sweep.now in
      let going = c.args.going.now in
      images_none g.P.Sweep.saving laws.stays laws.apart (g.P.Sweep.accounts.makes sweep) (g.P.Sweep.saving.operands (g.P.Sweep.task sweep)) going.step (g.P.Sweep.accounts.next sweep)
      going.sweep (g.P.Sweep.task sweep) job (turns_needed sweep going c.args.shelf.now job) (g.S.Shelf.world c.args.shelf.now) (g.met.S.Shelf.files_are c.args.shelf.now told)
      (subst (λ s. IsOfStep (g.P.Sweep.accounts.makes sweep) (g.P.Sweep.saving.operands (g.P.Sweep.task sweep)) s (g.P.Sweep.accounts.next sweep)) (sym c.requires.step) c.requires.files)

  -- the checkpoint was filled
  carried : (c : After-carry g) → Carried c.args.sweep.now c.args.shelf.now c.carry.new.self c.carry.new.shelf c.carry.new.into
  carried c = carried_at g.S.Shelf.tells g.S.Shelf.world _ _ _ _ c.carry.new.into c.args.shelf.now c.carry.new.shelf (g.P.Sweep.accounts.step c.args.sweep.now)
      (c.carry.ensures.head.step_is ∙ c.requires.step) c.requires.files c.carry.ensures.leaves.content c.carry.ensures.leaves.later

  carry_images : (c : After-carry g) → IsTrue (g.S.Shelf.tells c.carry.new.shelf) → (job : g.P.Sweep.Job)
      → Throughout (g.S.Shelf.world c.args.shelf.now) (g.S.Shelf.world c.carry.new.shelf) (Left c.args.sweep.now c.args.going.now c.args.shelf.now job)
  carry_images c told job =
      let claim : g.claim c.lifetimes = search rules in
      let laws = g.met.P.Sweep c.lifetimes claim in
      let turns = turns_needed c.args.sweep.now c.args.going.now c.args.shelf.now job in
      left_at g.P.Sweep.saving (g.P.Sweep.accounts.makes c.args.sweep.now) c.carry.new.into.step c.args.going.now.step (g.P.Sweep.accounts.next c.args.sweep.now) c.args.going.now.sweep
      (g.P.Sweep.task c.args.sweep.now) job turns
      (g.S.Shelf.world c.args.shelf.now) (g.S.Shelf.world c.carry.new.shelf) (now (g.S.Shelf.world c.args.shelf.now)).folder c.carry.ensures.head.step_is
      (images_carry g.S.Shelf.tells g.S.Shelf.world g.met.S.Shelf.files_are g.P.Sweep.saving laws.stays laws.apart _ _ _ _ c.args.going.now.sweep (g.P.Sweep.task c.args.sweep.now)
      c.carry.new.into job turns 0 c.args.shelf.now c.carry.new.shelf (carried c) told)

  -- while it is saved: it is ready where something of a job remains, and the sweep before it is such that the next checkpoint is paid for
  ready : (c : After-save g) → IsTrue (g.S.Shelf.tells c.carry.new.shelf) → (job : g.P.Sweep.Job) → g.P.Sweep.remains c.args.sweep.now (g.S.Shelf.world c.args.shelf.now) job
      → Sure c.args.sweep.now c.args.going.now c.args.shelf.now → PaidTo c.args.sweep.now c.args.going.now
      → Ready g.P.Sweep.saving (g.P.Sweep.accounts.makes c.args.sweep.now) (g.P.Sweep.saving.operands (g.P.Sweep.task c.args.sweep.now)) c.carry.new.into.step (g.P.Sweep.accounts.next c.carry.new.self)
      c.args.going.now.sweep (g.P.Sweep.task c.args.sweep.now) job (turns_needed c.args.sweep.now c.args.going.now c.args.shelf.now job) c.carry.new.into
      (g.P.Sweep.left c.carry.new.self (g.S.Shelf.world c.carry.new.shelf) job) (now (g.S.Shelf.world c.carry.new.shelf)).folder
  ready c told job remains sure paid =
      let claim : g.claim c.lifetimes = search rules in
      let laws = g.met.P.Sweep c.lifetimes claim in
      let fill = c.in_ok-carry.ensures in
      let head = fill.head in
      let few : c.args.going.now.turns < 2 ^ 61 = omega (arith, c.if-going-ge-TURNS_END.false) in
      let due : c.args.going.now.shown + interval_of c.args.going.now.budget ≤ c.args.going.now.turns =
      let interval = c.interval.ensures in let since = c.since.ensures in let no = c.if-since-interval.false in omega (arith, interval, since, no) in
      ready_by g.S.Shelf.tells g.S.Shelf.world g.met.S.Shelf.files_are g.P.Sweep.saving laws.stays laws.apart _ _ _ (g.P.Sweep.accounts.next c.carry.new.self) c.args.going.now.sweep
      (g.P.Sweep.task c.args.sweep.now) c.carry.new.into job (turns_needed c.args.sweep.now c.args.going.now c.args.shelf.now job) (g.P.Sweep.left c.carry.new.self (g.S.Shelf.world c.carry.new.shelf) job)
      c.args.shelf.now c.carry.new.shelf (carried (goal.at.After-save g c).After-carry) told c.args.going.now.turns (g.P.Sweep.left c.args.sweep.now (g.S.Shelf.world c.args.shelf.now) job)
      head.sweep_is head.turns_are (omega (arith, head.budget_is, c.records.ensures.is, c.records.ensures.fits)) c.requires.sweep (omega (arith, few)) fill.filled (omega (arith, c.if-point-gt-MOST_PARTS.false))
      (paid_point g.P.Sweep.accounts c.args.going.now c.carry.new.into c.args.sweep.now c.carry.new.self (paid (omega (arith, few))) due fill.leaves.spent fill.filled.next_is head.turns_are)
      c.save.ensures.fits fill.names fill.fits (fill.stands told job remains) (fill.left told job remains) refl
      (subst (λ s. AreSure (g.P.Sweep.saving.operands (g.P.Sweep.task c.args.sweep.now)) s (now (g.S.Shelf.world c.args.shelf.now)).folder) (sym head.step_is) sure) (fill.sure told job remains)

  save_changes : (c : After-save g) → Changed c.args.sweep.now c.args.going.now c.args.shelf.now c.save.new.shelf
  save_changes c = subst (λ s. Told g.S.Shelf.tells c.args.shelf.now c.save.new.shelf (Ran (OnlyChanged (IsOfGoing (g.P.Sweep.accounts.makes c.args.sweep.now) s) (now (g.S.Shelf.world c.args.shelf.now)))
      (g.S.Shelf.world c.args.shelf.now) (g.S.Shelf.world c.save.new.shelf))) c.carry.ensures.head.step_is
      (save_on g.S.Shelf.tells g.S.Shelf.world _ _ _ _ c.carry.new.into c.args.shelf.now c.carry.new.shelf c.save.new.shelf (carried (goal.at.After-save g c).After-carry) c.save.ensures.content)

  save_images : (c : After-save g) → IsTrue (g.S.Shelf.tells c.save.new.shelf) → (job : g.P.Sweep.Job) → g.P.Sweep.remains c.args.sweep.now (g.S.Shelf.world c.args.shelf.now) job
      → Sure c.args.sweep.now c.args.going.now c.args.shelf.now → PaidTo c.args.sweep.now c.args.going.now
      → Throughout (g.S.Shelf.world c.args.shelf.now) (g.S.Shelf.world c.save.new.shelf) (Left c.args.sweep.now c.args.going.now c.args.shelf.now job)
  save_images c told job remains sure paid =
      let claim : g.claim c.lifetimes = search rules in
      let laws = g.met.P.Sweep c.lifetimes claim in
      let turns = turns_needed c.args.sweep.now c.args.going.now c.args.shelf.now job in
      let left = g.P.Sweep.left c.carry.new.self (g.S.Shelf.world c.carry.new.shelf) job in
      let step_is = c.carry.ensures.head.step_is in
      left_at g.P.Sweep.saving (g.P.Sweep.accounts.makes c.args.sweep.now) c.carry.new.into.step c.args.going.now.step (g.P.Sweep.accounts.next c.args.sweep.now) c.args.going.now.sweep
      (g.P.Sweep.task c.args.sweep.now) job turns
      (g.S.Shelf.world c.args.shelf.now) (g.S.Shelf.world c.save.new.shelf) (now (g.S.Shelf.world c.args.shelf.now)).folder step_is
      (images_save g.S.Shelf.tells g.S.Shelf.world g.met.S.Shelf.files_are g.P.Sweep.saving laws.stays laws.apart _ _ _ _ c.args.going.now.sweep (g.P.Sweep.task c.args.sweep.now)
      c.carry.new.into job turns left c.args.shelf.now c.carry.new.shelf c.save.new.shelf (carried (goal.at.After-save g c).After-carry)
      (subst (λ s. AreSure (g.P.Sweep.saving.operands (g.P.Sweep.task c.args.sweep.now)) s (now (g.S.Shelf.world c.args.shelf.now)).folder) (sym step_is) sure)
      (ready c (c.save.ensures.content.before told) job remains sure paid) c.save.ensures.content told)

  -- once older runs were given up
  retire_changes : (c : After-retire g) → Changed c.args.sweep.now c.args.going.now c.args.shelf.now c.retire.new.shelf
  retire_changes c = subst (λ s. Told g.S.Shelf.tells c.args.shelf.now c.retire.new.shelf (Ran (OnlyChanged (IsOfGoing (g.P.Sweep.accounts.makes c.args.sweep.now) s) (now (g.S.Shelf.world c.args.shelf.now)))
      (g.S.Shelf.world c.args.shelf.now) (g.S.Shelf.world c.retire.new.shelf))) c.carry.ensures.head.step_is
      (retire_on g.S.Shelf.tells g.S.Shelf.world _ _ _ _ c.carry.new.into _ c.args.shelf.now c.carry.new.shelf c.save.new.shelf c.retire.new.shelf (carried (goal.at.After-retire g c).After-carry)
      c.save.ensures.content c.retire.ensures.content)

  retire_images : (c : After-retire g) → IsTrue (g.S.Shelf.tells c.retire.new.shelf) → (job : g.P.Sweep.Job) → g.P.Sweep.remains c.args.sweep.now (g.S.Shelf.world c.args.shelf.now) job
      → Sure c.args.sweep.now c.args.going.now c.args.shelf.now → PaidTo c.args.sweep.now c.args.going.now
      → Throughout (g.S.Shelf.world c.args.shelf.now) (g.S.Shelf.world c.retire.new.shelf) (Left c.args.sweep.now c.args.going.now c.args.shelf.now job)
  retire_images c told job remains sure paid =
      let claim : g.claim c.lifetimes = search rules in
      let laws = g.met.P.Sweep c.lifetimes claim in
      let turns = turns_needed c.args.sweep.now c.args.going.now c.args.shelf.now job in
      let left = g.P.Sweep.left c.carry.new.self (g.S.Shelf.world c.carry.new.shelf) job in
      let step_is = c.carry.ensures.head.step_is in
      left_at g.P.Sweep.saving (g.P.Sweep.accounts.makes c.args.sweep.now) c.carry.new.into.step c.args.going.now.step (g.P.Sweep.accounts.next c.args.sweep.now) c.args.going.now.sweep
      (g.P.Sweep.task c.args.sweep.now) job turns
      (g.S.Shelf.world c.args.shelf.now) (g.S.Shelf.world c.retire.new.shelf) (now (g.S.Shelf.world c.args.shelf.now)).folder step_is
      (images_retire g.S.Shelf.tells g.S.Shelf.world g.met.S.Shelf.files_are g.P.Sweep.saving laws.stays laws.apart _ _ _ _ c.args.going.now.sweep (g.P.Sweep.task c.args.sweep.now)
      c.carry.new.into job turns left _ c.args.shelf.now c.carry.new.shelf c.save.new.shelf c.retire.new.shelf (carried (goal.at.After-retire g c).After-carry)
      (subst (λ s. AreSure (g.P.Sweep.saving.operands (g.P.Sweep.task c.args.sweep.now)) s (now (g.S.Shelf.world c.args.shelf.now)).folder) (sym step_is) sure)
      (ready (goal.at.After-retire g c).After-save (c.save.ensures.content.before (c.retire.ensures.content.before told)) job remains sure paid) c.save.ensures.content c.in_ok-save.ensures.ok
      c.retire.ensures.content told)

  retire_stands : (c : After-retire g) → IsTrue (g.S.Shelf.tells c.retire.new.shelf) → (job : g.P.Sweep.Job) → g.P.Sweep.remains c.args.sweep.now (g.S.Shelf.world c.args.shelf.now) job
      → Sure c.args.sweep.now c.args.going.now c.args.shelf.now → PaidTo c.args.sweep.now c.args.going.now
      → Stands g.P.Sweep.saving (g.P.Sweep.accounts.makes c.args.sweep.now) (g.P.Sweep.saving.operands (g.P.Sweep.task c.args.sweep.now)) c.args.going.now.step (g.P.Sweep.accounts.next c.carry.new.self)
      c.args.going.now.sweep (g.P.Sweep.task c.args.sweep.now) job (turns_needed c.args.sweep.now c.args.going.now c.args.shelf.now job) (now (g.S.Shelf.world c.retire.new.shelf)).folder
  retire_stands c told job remains sure paid =
      let claim : g.claim c.lifetimes = search rules in
      let laws = g.met.P.Sweep c.lifetimes claim in
      let turns = turns_needed c.args.sweep.now c.args.going.now c.args.shelf.now job in
      subst (λ s. Stands g.P.Sweep.saving (g.P.Sweep.accounts.makes c.args.sweep.now) (g.P.Sweep.saving.operands (g.P.Sweep.task c.args.sweep.now)) s (g.P.Sweep.accounts.next c.carry.new.self)
      c.args.going.now.sweep (g.P.Sweep.task c.args.sweep.now) job turns (now (g.S.Shelf.world c.retire.new.shelf)).folder) c.carry.ensures.head.step_is
      (stands_retire g.S.Shelf.tells g.S.Shelf.world g.met.S.Shelf.files_are g.P.Sweep.saving laws.stays laws.apart _ _ (g.P.Sweep.accounts.next c.args.sweep.now) _ _ _ c.carry.new.into job turns _ _
      c.carry.new.shelf c.save.new.shelf c.retire.new.shelf
      (ready (goal.at.After-retire g c).After-save (c.save.ensures.content.before (c.retire.ensures.content.before told)) job remains sure paid) c.save.ensures.content c.in_ok-save.ensures.ok
      c.retire.ensures.content told)

  -- files that are left alone keep their bytes
  alone_at : (c : After-carry g) (f : FileNo) → KeptApart c.args.sweep.now c.args.going.now.step f
      → KeptApart c.args.sweep.now c.carry.new.into.step f
  alone_at c f alone =
      subst (λ s. KeptApart c.args.sweep.now s f) (sym c.carry.ensures.head.step_is) alone

  carry_leaves : (c : After-carry g) → Alone c.args.sweep.now c.args.going.now c.args.shelf.now c.carry.new.shelf
  carry_leaves c = λ told f alone.
      carry_alone g.S.Shelf.tells g.S.Shelf.world _ _ _ _ c.carry.new.into f c.args.shelf.now c.carry.new.shelf
      (carried c) told (alone_at c f alone)

  save_leaves : (c : After-save g) → Alone c.args.sweep.now c.args.going.now c.args.shelf.now c.save.new.shelf
  save_leaves c = λ told f alone.
      let at = (goal.at.After-save g c).After-carry in
      save_alone g.S.Shelf.tells g.S.Shelf.world _ _ _ _ c.carry.new.into f c.args.shelf.now c.carry.new.shelf
      c.save.new.shelf (carried at) c.save.ensures.content told (alone_at at f alone)

  retire_leaves : (c : After-retire g) → Alone c.args.sweep.now c.args.going.now c.args.shelf.now c.retire.new.shelf
  retire_leaves c = λ told f alone.
      let at = (goal.at.After-retire g c).After-carry in
      retire_alone g.S.Shelf.tells g.S.Shelf.world _ _ _ _ c.carry.new.into f _ c.args.shelf.now c.carry.new.shelf
      c.save.new.shelf c.retire.new.shelf (carried at) c.save.ensures.content c.retire.ensures.content told
      (alone_at at f alone)

  -- the sweep is as it was when it had filled the checkpoint
  still : (c : After-retire g) → IsTrue (g.S.Shelf.tells c.retire.new.shelf)
      → IsStill (g.P.Sweep.in_step c.carry.new.self) (g.P.Sweep.trusts c.carry.new.self) (g.P.Sweep.remains c.carry.new.self) (g.P.Sweep.left c.carry.new.self)
      (g.S.Shelf.world c.carry.new.shelf) (g.S.Shelf.world c.retire.new.shelf)
  still c told = c.in_ok-carry.ensures.still (g.S.Shelf.world c.retire.new.shelf)
      (works_on g.S.Shelf.tells g.S.Shelf.world _ _ _ (g.P.Sweep.accounts.next c.carry.new.self) c.carry.new.into _ c.carry.new.shelf c.save.new.shelf c.retire.new.shelf
      (carried (goal.at.After-retire g c).After-carry).files c.in_ok-carry.ensures.filled.tables c.save.ensures.content c.retire.ensures.content told)

  told_then : (c : After-retire g) → IsTrue (g.S.Shelf.tells c.retire.new.shelf) → IsTrue (g.S.Shelf.tells c.carry.new.shelf)
  told_then c told = c.save.ensures.content.before (c.retire.ensures.content.before told)

  -- the calls that it took
  retire_calls : (c : After-retire g) → IsTrue (g.S.Shelf.tells c.retire.new.shelf) → TakesCalls g.P.Sweep.accounts 0 1 (first_taken c.args.going.now.last)
      (g.S.Shelf.world c.args.shelf.now) (g.S.Shelf.world c.retire.new.shelf) c.args.sweep.now c.carry.new.self
  retire_calls c told =
      let told_s = c.retire.ensures.content.before told in
      save_calls g.P.Sweep.accounts c.carry.new.into.next_part _ (first_taken c.args.going.now.last) (g.S.Shelf.world c.args.shelf.now) (g.S.Shelf.world c.carry.new.shelf) (g.S.Shelf.world c.save.new.shelf)
      (g.S.Shelf.world c.retire.new.shelf) c.args.sweep.now c.carry.new.self c.in_ok-carry.ensures.filled.next_is (ap first_taken c.as_ref.ensures.value)
      (c.carry.ensures.leaves.calls (c.save.ensures.content.before told_s)) (c.save.ensures.calls told_s) (c.retire.ensures.calls told)

  -- what a stop leaves shown of the step
  abbrev Shown : Going → g.row.S.Denot → g.row.S.Denot → Type 0
  Shown going old new = Throughout (g.S.Shelf.world old) (g.S.Shelf.world new)
      (AreShown going.step going.turns (now (g.S.Shelf.world old)).folder)

  carry_shown : (c : After-carry g) → IsTrue (g.S.Shelf.tells c.carry.new.shelf)
      → Shown c.args.going.now c.args.shelf.now c.carry.new.shelf
  carry_shown c told = shown_as _ _ _ _ (g.S.Shelf.world c.args.shelf.now) (g.S.Shelf.world c.carry.new.shelf)
      (now (g.S.Shelf.world c.args.shelf.now)).folder
      c.carry.ensures.head.step_is c.carry.ensures.head.turns_are
      (shown_carry g.S.Shelf.tells g.S.Shelf.world g.met.S.Shelf.files_are _ _ _ _ c.carry.new.into c.args.shelf.now
      c.carry.new.shelf (carried c) told)

  -- the gate is sure, under the number that the checkpoint has
  gate_at : (c : After-carry g) → IsGateSure c.args.going.now.step (now (g.S.Shelf.world c.args.shelf.now)).folder
      → IsGateSure c.carry.new.into.step (now (g.S.Shelf.world c.args.shelf.now)).folder
  gate_at c sure = subst (λ s. IsGateSure s (now (g.S.Shelf.world c.args.shelf.now)).folder)
      (sym c.carry.ensures.head.step_is) sure

  save_shown : (c : After-save g) → IsTrue (g.S.Shelf.tells c.save.new.shelf)
      → IsGateSure c.args.going.now.step (now (g.S.Shelf.world c.args.shelf.now)).folder
      → Shown c.args.going.now c.args.shelf.now c.save.new.shelf
  save_shown c told sure =
      let at = (goal.at.After-save g c).After-carry in
      shown_as _ _ _ _ (g.S.Shelf.world c.args.shelf.now) (g.S.Shelf.world c.save.new.shelf)
      (now (g.S.Shelf.world c.args.shelf.now)).folder
      c.carry.ensures.head.step_is c.carry.ensures.head.turns_are
      (shown_save g.S.Shelf.tells g.S.Shelf.world g.met.S.Shelf.files_are _ _ _ _ c.carry.new.into c.args.shelf.now
      c.carry.new.shelf c.save.new.shelf (carried at) c.save.ensures.fits
      (gate_at at sure) c.save.ensures.content told)

  retire_shown : (c : After-retire g) → IsTrue (g.S.Shelf.tells c.retire.new.shelf)
      → IsGateSure c.args.going.now.step (now (g.S.Shelf.world c.args.shelf.now)).folder
      → Shown c.args.going.now c.args.shelf.now c.retire.new.shelf
  retire_shown c told sure =
      let at = (goal.at.After-retire g c).After-carry in
      shown_as _ _ _ _ (g.S.Shelf.world c.args.shelf.now) (g.S.Shelf.world c.retire.new.shelf)
      (now (g.S.Shelf.world c.args.shelf.now)).folder
      c.carry.ensures.head.step_is c.carry.ensures.head.turns_are
      (shown_retire g.S.Shelf.tells g.S.Shelf.world g.met.S.Shelf.files_are _ _ _ _ c.carry.new.into _
      c.args.shelf.now c.carry.new.shelf c.save.new.shelf c.retire.new.shelf (carried at)
      c.save.ensures.fits (gate_at at sure) c.save.ensures.content c.in_ok-save.ensures.ok c.retire.ensures.content
      told)

pub returns-then-since-interval-clause-images : goal.returns-then-since-interval-clause-images
returns-then-since-interval-clause-images g c = λ told job remains sure paid. none_images g (goal.at.returns-then-since-interval-clause-images g c).After-since told job

pub returns-then-since-interval-clause-shows : goal.returns-then-since-interval-clause-shows
returns-then-since-interval-clause-shows g c = λ told sure. shown_none c.args.going.now.step c.args.going.now.turns
    (g.S.Shelf.world c.args.shelf.now)

pub returns-then-since-interval-clause-showed : goal.returns-then-since-interval-clause-showed
returns-then-since-interval-clause-showed g c =
    λ told sure late. (
      sure,
      images_show c.args.going.now.step c.args.going.now.shown
          (now (g.S.Shelf.world c.args.shelf.now)).folder,
    )

pub returns-then-going-ge-TURNS_END-clause-images : goal.returns-then-going-ge-TURNS_END-clause-images
returns-then-going-ge-TURNS_END-clause-images g c = λ told job remains sure paid. none_images g (goal.at.returns-then-going-ge-TURNS_END-clause-images g c).After-since told job

pub returns-then-going-ge-TURNS_END-clause-shows : goal.returns-then-going-ge-TURNS_END-clause-shows
returns-then-going-ge-TURNS_END-clause-shows g c = λ told sure. shown_none c.args.going.now.step
    c.args.going.now.turns (g.S.Shelf.world c.args.shelf.now)

pub returns-then-going-ge-TURNS_END-clause-showed : goal.returns-then-going-ge-TURNS_END-clause-showed
returns-then-going-ge-TURNS_END-clause-showed g c =
    λ told sure late. (
      sure,
      images_show c.args.going.now.step c.args.going.now.shown
          (now (g.S.Shelf.world c.args.shelf.now)).folder,
    )

pub returns-in_err-carry-clause-alone : goal.returns-in_err-carry-clause-alone
returns-in_err-carry-clause-alone g c = carry_leaves g (goal.at.returns-in_err-carry-clause-alone g c).After-carry

pub returns-in_err-carry-clause-images : goal.returns-in_err-carry-clause-images
returns-in_err-carry-clause-images g c = λ told job remains sure paid. carry_images g (goal.at.returns-in_err-carry-clause-images g c).After-carry told job

pub returns-in_err-carry-clause-shows : goal.returns-in_err-carry-clause-shows
returns-in_err-carry-clause-shows g c =
    λ told sure. carry_shown g (goal.at.returns-in_err-carry-clause-shows g c).After-carry told

pub returns-then-point-gt-MOST_PARTS-clause-alone : goal.returns-then-point-gt-MOST_PARTS-clause-alone
returns-then-point-gt-MOST_PARTS-clause-alone g c =
    carry_leaves g (goal.at.returns-then-point-gt-MOST_PARTS-clause-alone g c).After-carry

pub returns-then-point-gt-MOST_PARTS-clause-images : goal.returns-then-point-gt-MOST_PARTS-clause-images
returns-then-point-gt-MOST_PARTS-clause-images g c = λ told job remains sure paid. carry_images g (goal.at.returns-then-point-gt-MOST_PARTS-clause-images g c).After-carry told job

pub returns-then-point-gt-MOST_PARTS-clause-shows : goal.returns-then-point-gt-MOST_PARTS-clause-shows
returns-then-point-gt-MOST_PARTS-clause-shows g c =
    λ told sure. carry_shown g (goal.at.returns-then-point-gt-MOST_PARTS-clause-shows g c).After-carry told

pub returns-in_err-save-clause-changes : goal.returns-in_err-save-clause-changes
returns-in_err-save-clause-changes g c = save_changes g (goal.at.returns-in_err-save-clause-changes g c).After-save

pub returns-in_err-save-clause-alone : goal.returns-in_err-save-clause-alone
returns-in_err-save-clause-alone g c = save_leaves g (goal.at.returns-in_err-save-clause-alone g c).After-save

pub returns-in_err-save-clause-images : goal.returns-in_err-save-clause-images
returns-in_err-save-clause-images g c = save_images g (goal.at.returns-in_err-save-clause-images g c).After-save

pub returns-in_err-save-clause-shows : goal.returns-in_err-save-clause-shows
returns-in_err-save-clause-shows g c = save_shown g (goal.at.returns-in_err-save-clause-shows g c).After-save

pub returns-in_err-retire-clause-changes : goal.returns-in_err-retire-clause-changes
returns-in_err-retire-clause-changes g c = retire_changes g (goal.at.returns-in_err-retire-clause-changes g c).After-retire

pub returns-in_err-retire-clause-alone : goal.returns-in_err-retire-clause-alone
returns-in_err-retire-clause-alone g c = retire_leaves g (goal.at.returns-in_err-retire-clause-alone g c).After-retire

pub returns-in_err-retire-clause-images : goal.returns-in_err-retire-clause-images
returns-in_err-retire-clause-images g c = retire_images g (goal.at.returns-in_err-retire-clause-images g c).After-retire

pub returns-in_err-retire-clause-shows : goal.returns-in_err-retire-clause-shows
returns-in_err-retire-clause-shows g c = retire_shown g (goal.at.returns-in_err-retire-clause-shows g c).After-retire

pub returns-in_err-retire-clause-calls : goal.returns-in_err-retire-clause-calls
returns-in_err-retire-clause-calls g c = retire_calls g (goal.at.returns-in_err-retire-clause-calls g c).After-retire

pub returns-clause-changes : goal.returns-clause-changes
returns-clause-changes g c = retire_changes g (goal.at.returns-clause-changes g c).After-retire

pub returns-clause-alone : goal.returns-clause-alone
returns-clause-alone g c = retire_leaves g (goal.at.returns-clause-alone g c).After-retire

pub returns-clause-images : goal.returns-clause-images
returns-clause-images g c = retire_images g (goal.at.returns-clause-images g c).After-retire

pub returns-clause-shows : goal.returns-clause-shows
returns-clause-shows g c = retire_shown g (goal.at.returns-clause-shows g c).After-retire

pub returns-clause-showed : goal.returns-clause-showed
returns-clause-showed g c = λ told sure late.
    let head = c.carry.ensures.head in
    let turns = head.turns_are in
    let old = (now (g.S.Shelf.world c.args.shelf.now)).folder in
    let end = (now (g.S.Shelf.world c.retire.new.shelf)).folder in
    subst (λ s. IsGateSure s end × ImagesShow s c.args.going.now.shown c.args.going.now.turns old end) head.step_is
    (subst (λ n. IsGateSure c.carry.new.into.step end × ImagesShow c.carry.new.into.step c.args.going.now.shown n old
    end) turns
    (showed_retire g.S.Shelf.tells g.S.Shelf.world g.met.S.Shelf.files_are (g.P.Sweep.accounts.makes c.args.sweep.now)
    (g.P.Sweep.saving.operands (g.P.Sweep.task c.args.sweep.now))
    (g.P.Sweep.accounts.next c.args.sweep.now) (g.P.Sweep.accounts.next c.carry.new.self) c.carry.new.into _
    c.args.going.now.shown c.args.shelf.now c.carry.new.shelf c.save.new.shelf c.retire.new.shelf
    c.save.ensures.fits (omega (arith, late, turns)) c.in_ok-save.ensures.ok c.retire.ensures.content told))

pub returns-clause-stands : goal.returns-clause-stands
returns-clause-stands g c = λ told job remains sure paid. inr (retire_stands g (goal.at.returns-clause-stands g c).After-retire told job remains sure paid)

pub returns-clause-calls : goal.returns-clause-calls
returns-clause-calls g c = retire_calls g (goal.at.returns-clause-calls g c).After-retire

pub returns-clause-in_step : goal.returns-clause-in_step
returns-clause-in_step g c = λ told.
    let at = (goal.at.returns-clause-in_step g c).After-retire in
    (still g at told).steps (c.in_ok-carry.ensures.in_step (told_then g at told))

pub returns-clause-keeps : goal.returns-clause-keeps
returns-clause-keeps g c = λ told job remains.
    let at = (goal.at.returns-clause-keeps g c).After-retire in
    (still g at told).keeps job (c.in_ok-carry.ensures.keeps (told_then g at told) job remains)

pub returns-clause-left : goal.returns-clause-left
returns-clause-left g c = λ told job remains.
    let at = (goal.at.returns-clause-left g c).After-retire in
    let told_c = told_then g at told in
    let less = (still g at told).fewer job (c.in_ok-carry.ensures.keeps told_c job remains) in
    let first = c.in_ok-carry.ensures.left told_c job remains in
    omega (arith, less, first)

pub returns-clause-trusts : goal.returns-clause-trusts
returns-clause-trusts g c = λ told trusted.
    let at = (goal.at.returns-clause-trusts g c).After-retire in
    (still g at told).trusted (c.in_ok-carry.ensures.trusts (told_then g at told) trusted)

pub returns-clause-covers : goal.returns-clause-covers
returns-clause-covers g c = λ told covered.
    subst (λ s. gated_size s (now (g.S.Shelf.world c.retire.new.shelf)).folder ≤ length (file (g.S.Shelf.world c.retire.new.shelf) (checkpoint_file s)).bytes) c.in_ok-carry.ensures.head.step_is
    (covers_on g.S.Shelf.tells g.S.Shelf.world (g.P.Sweep.accounts.makes c.args.sweep.now) (g.P.Sweep.saving.operands (g.P.Sweep.task c.args.sweep.now)) (g.P.Sweep.accounts.next c.args.sweep.now)
    (g.P.Sweep.accounts.next c.carry.new.self) c.carry.new.into _ c.carry.new.shelf c.save.new.shelf c.retire.new.shelf c.in_ok-save.ensures.fits c.in_ok-save.ensures.ok c.in_ok-retire.ensures.content told)

pub returns-clause-untaken : goal.returns-clause-untaken
returns-clause-untaken g c = λ told.
    let told_s = c.retire.ensures.content.before told in
    let told_c = c.save.ensures.content.before told_s in
    let later = c.carry.ensures.leaves.later in
    let parts = c.requires.files.parts in
    saved_empty (g.P.Sweep.accounts.makes c.args.sweep.now) _ c.carry.new.into c.args.going.now.step
    (g.P.Sweep.accounts.next c.carry.new.self) (g.S.Shelf.world c.args.shelf.now) (g.S.Shelf.world c.carry.new.shelf)
    (g.S.Shelf.world c.save.new.shelf) (g.S.Shelf.world c.retire.new.shelf) c.carry.ensures.head.step_is
    (omega (arith, later, parts))
    (subst (λ s. StayEmpty (g.P.Sweep.accounts.makes c.args.sweep.now) s (g.P.Sweep.accounts.next c.carry.new.self)
    (g.S.Shelf.world c.args.shelf.now) (g.S.Shelf.world c.carry.new.shelf)) (sym c.requires.step)
    (c.carry.ensures.leaves.untaken told_c))
    (ran_end (g.S.Shelf.world c.carry.new.shelf) (g.S.Shelf.world c.save.new.shelf)
    (DuringSave c.carry.new.into (now (g.S.Shelf.world c.carry.new.shelf))) (c.save.ensures.content.did told_s))
    (c.in_ok-retire.ensures.ok told)
