use Rattle.std.proofs.Common.{◌≡◌, ◌≢◌, ◌⊎◌, ℕ, ◌^◌, ◌+◌, ◌-◌, ◌∙◌, ◌<◌, ◌≤◌, IsTrue, length, min, max, rules, arith, refl, sym, ap, subst, inl, inr}
use Rattle.std.specs.Prelude.{Result, Ok}
use Rattle.shelf_model.specs.declared.file_no.FileNo.{FileNo}
use Rattle.shelf_model.specs.declared.sort_fault.SortFault.{SortFault}
use Rattle.shelf_model.specs.Calls.{Told}
use Rattle.shelf_model.specs.Moments.{Ran, Throughout, OnlyChanged}
use Rattle.shelf_model.specs.World.{Moment, now, file}
use Rattle.shelf_model.proofs.Runs.{ran_end, at_end}
use Rattle.shelf_model.proofs.Changing.{told_changed_none, told_changed_then}
use Rattle.file_numbers.specs.Files.{checkpoint_file}
use Rattle.run_tiers.proofs.FaultLaws.{on_fault}
use Rattle.sweep_core.specs.declared.turn.Turn.TheVariants.{Ended}
use Rattle.sweep_core.specs.Accounts.{StayEmpty, OnlyOwn}
use Rattle.sweep_core.specs.Saving.{IsOfStep}
use Rattle.sweep_core.specs.Carries.{OnlySaved}
use Rattle.sweep_core.proofs.Leaving.{stay_empty_then}
use Rattle.sweep_checkpoint.specs.Gated.{present, last_gated}
use Rattle.sweep_checkpoint.specs.Saves.{gated_size, IsGateSure}
use Rattle.sweep_checkpoint.specs.Retires.{first_taken}
use Rattle.sweep_checkpoint.specs.declared.going.Going.{Going}
use Rattle.sweep_checkpoint.specs.Going.{IsOfGoing, IsLeftAlone, AreSure, IsPaidTo, interval_of, first_owed}
use Rattle.sweep_checkpoint.specs.Stops.{SamePoints, AreStops, stop_calls}
use Rattle.sweep_checkpoint.proofs.AsBefore.{of_step_later, of_step_as}
use Rattle.sweep_checkpoint.proofs.SavedHere.{AreLeft, moments}
use Rattle.sweep_checkpoint.proofs.LeftAlone.{alone_later, alone_saved}
use Rattle.sweep_checkpoint.proofs.Spent.{SpentOn, spent_none, spent_save, spent_turns, owed_save, owed_then, spent_saves, refused_save, refused_turns, saved_late, saved_more, Known, known_save, known_turns, saved_within, paid_save, paid_turns, owed_late, owed_early}
use Rattle.sweep_checkpoint.proofs.Shown.{AreShown, saved_points}
use Rattle.sweep_checkpoint.proofs.Stops.{ShownOn, shown_on_none, shown_on_save, shown_on_same, stops_none, stops_shown, stops_same, all_few, few_unshown, save_stop, turns_stop}
use Rattle.sweep_checkpoint.proofs.WentOn.{Stage, SaysLast, own_saved, gated_still, says_then, covers_still, where_ended, fell_ended, fell_more, images_none, images_on, stage_save, stage_turns, left_of, come_of, sure_of, turns_on, saved_none}
use Rattle.sweep_checkpoint.proofs.running.run_saved.Given as given
use Rattle.sweep_checkpoint.proofs.running.run_saved.Goals as goal
use Rattle.sweep_checkpoint.proofs.running.run_saved.Goals.{After-save_if_due, In_ok-save_if_due, After-run_some, In_ok-made}

module _ (g : given.Over) where
  -- what is said of a sweep that began there, with a step that had come so far, over that station:
  -- it keeps to the files of its step
  abbrev Files : g.row.P.Denot → Going → Type 0
  Files sweep going = IsOfStep (g.P.Sweep.accounts.makes sweep) (g.P.Sweep.saving.operands (g.P.Sweep.task sweep)) going.step (g.P.Sweep.accounts.next sweep)

  -- no others changed
  abbrev Changed : g.row.P.Denot → Going → g.row.S.Denot → g.row.S.Denot → Type 0
  Changed sweep going old new = Told g.S.Shelf.tells old new (Ran (OnlyChanged (IsOfGoing (g.P.Sweep.accounts.makes sweep) going.step) (now (g.S.Shelf.world old))) (g.S.Shelf.world old) (g.S.Shelf.world new))

  -- files that are left alone keep their bytes
  abbrev Alone : g.row.P.Denot → Going → g.row.S.Denot → g.row.S.Denot → Type 0
  Alone sweep going old new = IsTrue (g.S.Shelf.tells new) → (f : FileNo)
      → IsLeftAlone (g.P.Sweep.accounts.makes sweep) going.step (g.P.Sweep.accounts.next sweep) f
      → (file (g.S.Shelf.world new) f).bytes ≡ (file (g.S.Shelf.world old) f).bytes

  -- the gate and its operands are sure
  abbrev Sure : g.row.P.Denot → Going → g.row.S.Denot → Type 0
  Sure sweep going old = AreSure (g.P.Sweep.saving.operands (g.P.Sweep.task sweep)) going.step (now (g.S.Shelf.world old)).folder

  -- what a stop may leave
  abbrev Left : g.row.P.Denot → Going → g.row.S.Denot → g.P.Sweep.Job → Moment → Type 0
  Left sweep going old job = AreLeft g.P.Sweep.saving (g.P.Sweep.accounts.makes sweep) going.step (g.P.Sweep.accounts.next sweep) going.sweep (g.P.Sweep.task sweep) job
      (going.turns + g.P.Sweep.left sweep (g.S.Shelf.world old) job) (now (g.S.Shelf.world old)).folder

  -- where it has come to
  abbrev Come : g.row.P.Denot → Going → g.row.S.Denot → g.P.Sweep.Job → ℕ → g.row.S.Denot → Type 0
  Come sweep going old job later new = Stage g.P.Sweep.saving (g.P.Sweep.accounts.makes sweep) (g.P.Sweep.saving.operands (g.P.Sweep.task sweep)) going.step (g.P.Sweep.accounts.next sweep)
      going.sweep (g.P.Sweep.task sweep) job (going.turns + g.P.Sweep.left sweep (g.S.Shelf.world old) job) later (g.S.Shelf.world old) (g.S.Shelf.world new)

  -- what it took so far
  abbrev Spent : g.row.P.Denot → Going → g.row.S.Denot → ℕ → Going → g.row.P.Denot → g.row.S.Denot → Type 0
  Spent sweep going old turns after later new = SpentOn g.P.Sweep.accounts (interval_of going.budget) (first_owed going.last (g.P.Sweep.accounts.next sweep)) going.shown turns after (IsTrue (g.S.Shelf.tells new))
      (g.S.Shelf.world old) (g.S.Shelf.world new) sweep later

  -- it is asked to keep to the files of its step
  of_step : (c : After-save_if_due g) → Files c.args.sweep.now c.args.going.now
  of_step c = subst (λ s. IsOfStep (g.P.Sweep.accounts.makes c.args.sweep.now) (g.P.Sweep.saving.operands (g.P.Sweep.task c.args.sweep.now)) s (g.P.Sweep.accounts.next c.args.sweep.now))
      (sym c.requires.step) c.requires.files

  -- behind a save, whatever its answer
  save_changes : (c : After-save_if_due g) → Changed c.args.sweep.now c.args.going.now c.args.shelf.now c.save_if_due.new.shelf
  save_changes c =
      let inv = c.turns.invariant in
      let step = c.args.going.now.step in
      let made_at = g.P.Sweep.accounts.makes c.turns.sweep in
      let saves = subst (λ s. Told g.S.Shelf.tells c.turns.shelf c.save_if_due.new.shelf (Ran (OnlyChanged (IsOfGoing made_at s) (now (g.S.Shelf.world c.turns.shelf))) (g.S.Shelf.world c.turns.shelf)
      (g.S.Shelf.world c.save_if_due.new.shelf))) inv.going.step_is c.save_if_due.ensures.changes in
      told_changed_then g.S.Shelf.tells g.S.Shelf.world (IsOfGoing (g.P.Sweep.accounts.makes c.args.sweep.now) step) (IsOfGoing made_at step) c.args.shelf.now c.turns.shelf c.save_if_due.new.shelf
      (λ f is. elim is [ inl mine ↦ inl (inv.made f mine) | inr rest ↦ inr rest ]) inv.changes saves

  save_alone : (c : After-save_if_due g)
      → Alone c.args.sweep.now c.args.going.now c.args.shelf.now c.save_if_due.new.shelf
  save_alone c = λ told f alone.
      let inv = c.turns.invariant in
      let makes_at = g.P.Sweep.accounts.makes c.turns.sweep in
      let next_at = g.P.Sweep.accounts.next c.turns.sweep in
      c.save_if_due.ensures.alone told f
      (subst (λ s. IsLeftAlone makes_at s next_at f) (sym inv.going.step_is)
      (alone_later (g.P.Sweep.accounts.makes c.args.sweep.now) makes_at c.args.going.now.step
      (g.P.Sweep.accounts.next c.args.sweep.now) next_at f inv.made inv.later alone))
      ∙ inv.alone (c.save_if_due.ensures.changes.before told) f alone

  -- the gate and the operands are sure where the save begins
  sure_at : (c : After-save_if_due g) → IsTrue (g.S.Shelf.tells c.turns.shelf) → (job : g.P.Sweep.Job) → g.P.Sweep.remains c.args.sweep.now (g.S.Shelf.world c.args.shelf.now) job
      → Sure c.args.sweep.now c.args.going.now c.args.shelf.now → IsPaidTo g.P.Sweep.accounts c.args.going.now c.args.sweep.now → Sure c.turns.sweep c.turns.going c.turns.shelf
  sure_at c told job remains sure paid =
      let inv = c.turns.invariant in
      sure_of g.P.Sweep.saving _ _ _ _ _ _ inv.same inv.going.step_is inv.going.sweep_is
      {turns = c.args.going.now.turns + g.P.Sweep.left c.args.sweep.now (g.S.Shelf.world c.args.shelf.now) job}
      (g.P.Sweep.accounts.makes c.args.sweep.now) (g.P.Sweep.accounts.next c.args.sweep.now) (g.P.Sweep.accounts.next c.turns.sweep) job (now (g.S.Shelf.world c.args.shelf.now))
      (now (g.S.Shelf.world c.turns.shelf)) (of_step c) (inv.come told job remains sure paid) sure

  -- what a stop may leave meanwhile, seen from where the save began
  left_here : (c : After-save_if_due g) → IsTrue (g.S.Shelf.tells c.save_if_due.new.shelf) → (job : g.P.Sweep.Job) → g.P.Sweep.remains c.args.sweep.now (g.S.Shelf.world c.args.shelf.now) job
      → Sure c.args.sweep.now c.args.going.now c.args.shelf.now → IsPaidTo g.P.Sweep.accounts c.args.going.now c.args.sweep.now
      → Throughout (g.S.Shelf.world c.turns.shelf) (g.S.Shelf.world c.save_if_due.new.shelf)
      (AreLeft g.P.Sweep.saving (g.P.Sweep.accounts.makes c.turns.sweep) c.args.going.now.step (g.P.Sweep.accounts.next c.turns.sweep) c.args.going.now.sweep
      (g.P.Sweep.task c.args.sweep.now) job (c.turns.going.turns + g.P.Sweep.left c.turns.sweep (g.S.Shelf.world c.turns.shelf) job) (now (g.S.Shelf.world c.turns.shelf)).folder)
  left_here c told job remains sure paid =
      let inv = c.turns.invariant in
      let told_at = c.save_if_due.ensures.changes.before told in
      left_of g.P.Sweep.saving _ _ _ _ _ _ inv.same inv.going.step_is inv.going.sweep_is
      (g.P.Sweep.accounts.makes c.turns.sweep) (g.P.Sweep.accounts.next c.turns.sweep) job (c.turns.going.turns + g.P.Sweep.left c.turns.sweep (g.S.Shelf.world c.turns.shelf) job)
      (g.S.Shelf.world c.turns.shelf) (g.S.Shelf.world c.save_if_due.new.shelf)
      (now (g.S.Shelf.world c.turns.shelf)).folder (c.save_if_due.ensures.images told job (inv.keeps told_at job remains) (sure_at c told_at job remains sure paid) (λ few. inv.paid few paid))

  save_images : (c : After-save_if_due g) → IsTrue (g.S.Shelf.tells c.save_if_due.new.shelf) → (job : g.P.Sweep.Job) → g.P.Sweep.remains c.args.sweep.now (g.S.Shelf.world c.args.shelf.now) job
      → Sure c.args.sweep.now c.args.going.now c.args.shelf.now → IsPaidTo g.P.Sweep.accounts c.args.going.now c.args.sweep.now
      → Throughout (g.S.Shelf.world c.args.shelf.now) (g.S.Shelf.world c.save_if_due.new.shelf) (Left c.args.sweep.now c.args.going.now c.args.shelf.now job)
  save_images c told job remains sure paid =
      let claim : g.claim c.lifetimes = search rules in
      let laws = g.met.P.Sweep c.lifetimes claim in
      let inv = c.turns.invariant in
      let told_at = c.save_if_due.ensures.changes.before told in
      images_on g.P.Sweep.saving laws.stays laws.apart (g.P.Sweep.accounts.makes c.args.sweep.now) (g.P.Sweep.saving.operands (g.P.Sweep.task c.args.sweep.now)) c.args.going.now.step
      (g.P.Sweep.accounts.next c.args.sweep.now) c.args.going.now.sweep (g.P.Sweep.task c.args.sweep.now) job
      (c.args.going.now.turns + g.P.Sweep.left c.args.sweep.now (g.S.Shelf.world c.args.shelf.now) job) (g.P.Sweep.accounts.makes c.turns.sweep) (g.P.Sweep.accounts.next c.turns.sweep)
      (c.turns.going.turns + g.P.Sweep.left c.turns.sweep (g.S.Shelf.world c.turns.shelf) job) (g.S.Shelf.world c.args.shelf.now) (g.S.Shelf.world c.turns.shelf) (g.S.Shelf.world c.save_if_due.new.shelf)
      inv.made inv.making (g.met.S.Shelf.files_are c.args.shelf.now (inv.changes.before told_at)) (of_step c) inv.later (inv.few told_at job remains) (inv.come told_at job remains sure paid)
      (inv.images told_at job remains sure paid) (left_here c told job remains sure paid)

  -- where the sweep has come to behind a save
  save_stage : (c : In_ok-save_if_due g) → IsTrue (g.S.Shelf.tells c.save_if_due.new.shelf) → (job : g.P.Sweep.Job) → g.P.Sweep.remains c.args.sweep.now (g.S.Shelf.world c.args.shelf.now) job
      → Sure c.args.sweep.now c.args.going.now c.args.shelf.now → IsPaidTo g.P.Sweep.accounts c.args.going.now c.args.sweep.now
      → Come c.args.sweep.now c.args.going.now c.args.shelf.now job (g.P.Sweep.accounts.next c.save_if_due.new.sweep) c.save_if_due.new.shelf
  save_stage c told job remains sure paid =
      let at = (goal.at.In_ok-save_if_due g c).After-save_if_due in
      let claim : g.claim c.lifetimes = search rules in
      let laws = g.met.P.Sweep c.lifetimes claim in
      let inv = c.turns.invariant in
      let first = c.in_ok-save_if_due.ensures in
      let told_at = first.changes.before told in
      stage_save g.P.Sweep.saving laws.stays laws.apart (g.P.Sweep.accounts.makes c.args.sweep.now) (g.P.Sweep.saving.operands (g.P.Sweep.task c.args.sweep.now)) c.args.going.now.step
      (g.P.Sweep.accounts.next c.args.sweep.now) c.args.going.now.sweep (g.P.Sweep.task c.args.sweep.now) job
      (c.args.going.now.turns + g.P.Sweep.left c.args.sweep.now (g.S.Shelf.world c.args.shelf.now) job) (g.P.Sweep.accounts.makes c.turns.sweep) (g.P.Sweep.accounts.next c.turns.sweep)
      (g.P.Sweep.accounts.next c.save_if_due.new.sweep) (c.turns.going.turns + g.P.Sweep.left c.turns.sweep (g.S.Shelf.world c.turns.shelf) job) (g.S.Shelf.world c.args.shelf.now)
      (g.S.Shelf.world c.turns.shelf) (g.S.Shelf.world c.save_if_due.new.shelf)
      inv.made inv.making (g.met.S.Shelf.files_are c.args.shelf.now (inv.changes.before told_at)) (g.met.S.Shelf.files_are c.turns.shelf told_at) (of_step at) first.later (inv.few told_at job remains)
      (record { more = inv.later; images = inv.images told_at job remains sure paid; come = inv.come told_at job remains sure paid }) (left_here at told job remains sure paid)
      (come_of g.P.Sweep.saving _ _ _ _ _ _ inv.same inv.going.step_is inv.going.sweep_is
      (g.P.Sweep.accounts.makes c.turns.sweep) (g.P.Sweep.accounts.next c.turns.sweep) (g.P.Sweep.accounts.next c.save_if_due.new.sweep) job
      (c.turns.going.turns + g.P.Sweep.left c.turns.sweep (g.S.Shelf.world c.turns.shelf) job) (now (g.S.Shelf.world c.turns.shelf))
      (now (g.S.Shelf.world c.save_if_due.new.shelf)) (first.stands told job (inv.keeps told_at job remains) (sure_at at told_at job remains sure paid) (λ few. inv.paid few paid)))

  -- what turns and saves took so far
  save_spent : (c : In_ok-save_if_due g) → c.save_if_due.new.going.turns < 2 ^ 64 - 1
      → Spent c.args.sweep.now c.args.going.now c.args.shelf.now (c.save_if_due.new.going.turns - c.args.going.now.turns) c.save_if_due.new.going c.save_if_due.new.sweep c.save_if_due.new.shelf
  save_spent c few =
      let inv = c.turns.invariant in
      let first = c.in_ok-save_if_due.ensures in
      let same = first.turns in
      spent_save g.P.Sweep.accounts _ _ _ (c.save_if_due.new.going.turns - c.args.going.now.turns) c.turns.going c.save_if_due.new.going _ _
      (g.S.Shelf.world c.args.shelf.now) (g.S.Shelf.world c.turns.shelf) (g.S.Shelf.world c.save_if_due.new.shelf) c.args.sweep.now c.turns.sweep c.save_if_due.new.sweep
      (ap interval_of inv.going.budget_is) (owed_early c.args.going.now.last (g.P.Sweep.accounts.next c.args.sweep.now)) inv.later first.later first.changes.before
      (subst (λ n. Spent c.args.sweep.now c.args.going.now c.args.shelf.now (n - c.args.going.now.turns) c.turns.going c.turns.sweep c.turns.shelf) (sym same) (inv.spent (omega (arith, few, same))))
      first.parts first.calls

  -- and where something of a job remains, of which turns were made
  save_calls : (c : In_ok-save_if_due g) → IsTrue (g.S.Shelf.tells c.save_if_due.new.shelf) → (job : g.P.Sweep.Job) → g.P.Sweep.remains c.args.sweep.now (g.S.Shelf.world c.args.shelf.now) job
      → Spent c.args.sweep.now c.args.going.now c.args.shelf.now
      (g.P.Sweep.left c.args.sweep.now (g.S.Shelf.world c.args.shelf.now) job - g.P.Sweep.left c.turns.sweep (g.S.Shelf.world c.turns.shelf) job)
      c.save_if_due.new.going c.save_if_due.new.sweep c.save_if_due.new.shelf
  save_calls c told job remains =
      let inv = c.turns.invariant in
      let first = c.in_ok-save_if_due.ensures in
      spent_save g.P.Sweep.accounts _ _ _ _ c.turns.going c.save_if_due.new.going _ _
      (g.S.Shelf.world c.args.shelf.now) (g.S.Shelf.world c.turns.shelf) (g.S.Shelf.world c.save_if_due.new.shelf) c.args.sweep.now c.turns.sweep c.save_if_due.new.sweep
      (ap interval_of inv.going.budget_is) (owed_early c.args.going.now.last (g.P.Sweep.accounts.next c.args.sweep.now)) inv.later first.later first.changes.before
      (inv.calls (first.changes.before told) job remains) first.parts first.calls

  save_within : (c : In_ok-save_if_due g) → IsTrue (g.S.Shelf.tells c.save_if_due.new.shelf) → (job : g.P.Sweep.Job) → g.P.Sweep.remains c.args.sweep.now (g.S.Shelf.world c.args.shelf.now) job
      → c.save_if_due.new.going.shown ≤ max c.args.going.now.shown (c.args.going.now.turns + g.P.Sweep.left c.args.sweep.now (g.S.Shelf.world c.args.shelf.now) job)
  save_within c told job remains =
      let inv = c.turns.invariant in
      let first = c.in_ok-save_if_due.ensures in
      let told_at = first.changes.before told in
      let few = inv.few told_at job remains in
      saved_within g.P.Sweep.accounts c.turns.going c.save_if_due.new.going (g.S.Shelf.world c.turns.shelf) (g.S.Shelf.world c.save_if_due.new.shelf) c.turns.sweep c.save_if_due.new.sweep
      c.args.going.now.shown (c.args.going.now.turns + g.P.Sweep.left c.args.sweep.now (g.S.Shelf.world c.args.shelf.now) job) (inv.within told_at job remains) (omega (arith, few)) first.parts

  -- the next checkpoint is paid for
  save_paid : (c : In_ok-save_if_due g) → c.save_if_due.new.going.turns < 2 ^ 64 - 1 → IsPaidTo g.P.Sweep.accounts c.args.going.now c.args.sweep.now
      → IsPaidTo g.P.Sweep.accounts c.save_if_due.new.going c.save_if_due.new.sweep
  save_paid c few paid =
      let first = c.in_ok-save_if_due.ensures in
      let same = first.turns in
      paid_save g.P.Sweep.accounts c.turns.going c.save_if_due.new.going (g.S.Shelf.world c.turns.shelf) (g.S.Shelf.world c.save_if_due.new.shelf) c.turns.sweep c.save_if_due.new.sweep
      same first.going.budget_is first.later first.parts (c.turns.invariant.paid (omega (arith, few, same)) paid)

  -- the sweep makes files of its step, from the part number of then on
  files_then : (c : In_ok-save_if_due g) → IsOfStep (g.P.Sweep.accounts.makes c.save_if_due.new.sweep) (g.P.Sweep.saving.operands (g.P.Sweep.task c.args.sweep.now)) c.args.going.now.step
      (g.P.Sweep.accounts.next c.save_if_due.new.sweep)
  files_then c =
      let inv = c.turns.invariant in
      let first = c.in_ok-save_if_due.ensures in
      of_step_as (g.P.Sweep.accounts.makes c.args.sweep.now) (g.P.Sweep.accounts.makes c.save_if_due.new.sweep) (g.P.Sweep.saving.operands (g.P.Sweep.task c.args.sweep.now))
      c.args.going.now.step (g.P.Sweep.accounts.next c.save_if_due.new.sweep) (λ f mine. inv.made f (first.made f mine))
      (of_step_later (g.P.Sweep.accounts.makes c.args.sweep.now) (g.P.Sweep.saving.operands (g.P.Sweep.task c.args.sweep.now)) c.args.going.now.step (g.P.Sweep.accounts.next c.args.sweep.now)
      (g.P.Sweep.accounts.next c.save_if_due.new.sweep) (let one = inv.later in let two = first.later in omega (arith, one, two)) (of_step (goal.at.In_ok-save_if_due g c).After-save_if_due))

  -- behind turns, whatever their answer
  own_step : (c : After-run_some g) → g.P.Sweep.accounts.step c.save_if_due.new.sweep ≡ c.args.going.now.step
  own_step c = c.in_ok-save_if_due.ensures.step ∙ c.turns.invariant.step ∙ sym c.requires.step

  turn_changes : (c : After-run_some g) → Changed c.args.sweep.now c.args.going.now c.args.shelf.now c.run_some.new.shelf
  turn_changes c =
      let at = (goal.at.After-run_some g c).After-save_if_due in
      let inv = c.turns.invariant in
      let first = c.in_ok-save_if_due.ensures in
      turns_on g.S.Shelf.tells g.S.Shelf.world (g.P.Sweep.accounts.makes c.args.sweep.now) (g.P.Sweep.accounts.makes c.save_if_due.new.sweep) (g.P.Sweep.saving.operands (g.P.Sweep.task c.args.sweep.now))
      c.args.going.now.step (g.P.Sweep.accounts.next c.args.sweep.now) (g.P.Sweep.accounts.next c.save_if_due.new.sweep) c.args.shelf.now c.save_if_due.new.shelf c.run_some.new.shelf
      (λ f mine. inv.made f (first.made f mine)) (λ f mine. first.making f (inv.making f mine)) (of_step at) (let one = inv.later in let two = first.later in omega (arith, one, two)) (save_changes at)
      (subst (λ s. Told g.S.Shelf.tells c.save_if_due.new.shelf c.run_some.new.shelf (Ran (OnlyOwn (g.P.Sweep.accounts.makes c.save_if_due.new.sweep) s (g.P.Sweep.accounts.next c.save_if_due.new.sweep)
      (now (g.S.Shelf.world c.save_if_due.new.shelf))) (g.S.Shelf.world c.save_if_due.new.shelf) (g.S.Shelf.world c.run_some.new.shelf))) (own_step c) c.run_some.ensures.leaves.content)

  turn_stage : (c : After-run_some g) → IsTrue (g.S.Shelf.tells c.run_some.new.shelf) → (job : g.P.Sweep.Job) → g.P.Sweep.remains c.args.sweep.now (g.S.Shelf.world c.args.shelf.now) job
      → Sure c.args.sweep.now c.args.going.now c.args.shelf.now → IsPaidTo g.P.Sweep.accounts c.args.going.now c.args.sweep.now
      → Come c.args.sweep.now c.args.going.now c.args.shelf.now job (g.P.Sweep.accounts.next c.run_some.new.sweep) c.run_some.new.shelf
  turn_stage c told job remains sure paid =
      let at = goal.at.After-run_some g c in
      let claim : g.claim c.lifetimes = search rules in
      let laws = g.met.P.Sweep c.lifetimes claim in
      let inv = c.turns.invariant in
      let first = c.in_ok-save_if_due.ensures in
      let ran = c.run_some.ensures.leaves in
      let told_s = ran.content.before told in
      let told_at = first.changes.before told_s in
      stage_turns g.P.Sweep.saving laws.stays laws.apart (g.P.Sweep.accounts.makes c.args.sweep.now) (g.P.Sweep.saving.operands (g.P.Sweep.task c.args.sweep.now)) c.args.going.now.step
      (g.P.Sweep.accounts.next c.args.sweep.now) c.args.going.now.sweep (g.P.Sweep.task c.args.sweep.now) job
      (c.args.going.now.turns + g.P.Sweep.left c.args.sweep.now (g.S.Shelf.world c.args.shelf.now) job) (g.P.Sweep.accounts.makes c.save_if_due.new.sweep) (g.P.Sweep.accounts.next c.save_if_due.new.sweep)
      (g.P.Sweep.accounts.next c.run_some.new.sweep) (g.S.Shelf.world c.args.shelf.now) (g.S.Shelf.world c.save_if_due.new.shelf) (g.S.Shelf.world c.run_some.new.shelf)
      (λ f mine. inv.made f (first.made f mine)) (λ f mine. first.making f (inv.making f mine)) (g.met.S.Shelf.files_are c.args.shelf.now (inv.changes.before told_at))
      (g.met.S.Shelf.files_are c.save_if_due.new.shelf told_s) (of_step at.After-save_if_due) ran.later (save_stage at.In_ok-save_if_due told_s job remains sure paid)
      (subst (λ s. Ran (OnlyOwn (g.P.Sweep.accounts.makes c.save_if_due.new.sweep) s (g.P.Sweep.accounts.next c.save_if_due.new.sweep) (now (g.S.Shelf.world c.save_if_due.new.shelf)))
      (g.S.Shelf.world c.save_if_due.new.shelf) (g.S.Shelf.world c.run_some.new.shelf)) (own_step c) (ran.content.did told))

  turn_saved : (c : After-run_some g) → IsTrue (g.S.Shelf.tells c.run_some.new.shelf) → OnlySaved (g.P.Sweep.accounts.makes c.save_if_due.new.sweep) c.args.going.now.step
      (g.P.Sweep.accounts.next c.save_if_due.new.sweep) (now (g.S.Shelf.world c.save_if_due.new.shelf)) (now (g.S.Shelf.world c.run_some.new.shelf))
  turn_saved c told =
      own_saved (g.P.Sweep.accounts.makes c.save_if_due.new.sweep) c.args.going.now.step (g.P.Sweep.accounts.next c.save_if_due.new.sweep) (now (g.S.Shelf.world c.save_if_due.new.shelf))
      (now (g.S.Shelf.world c.run_some.new.shelf))
      (subst (λ s. OnlyOwn (g.P.Sweep.accounts.makes c.save_if_due.new.sweep) s (g.P.Sweep.accounts.next c.save_if_due.new.sweep) (now (g.S.Shelf.world c.save_if_due.new.shelf))
      (now (g.S.Shelf.world c.run_some.new.shelf))) (own_step c)
      (ran_end (g.S.Shelf.world c.save_if_due.new.shelf) (g.S.Shelf.world c.run_some.new.shelf)
      (OnlyOwn (g.P.Sweep.accounts.makes c.save_if_due.new.sweep) (g.P.Sweep.accounts.step c.save_if_due.new.sweep) (g.P.Sweep.accounts.next c.save_if_due.new.sweep) (now (g.S.Shelf.world c.save_if_due.new.shelf)))
      (c.run_some.ensures.leaves.content.did told)))

  turn_alone : (c : After-run_some g)
      → Alone c.args.sweep.now c.args.going.now c.args.shelf.now c.run_some.new.shelf
  turn_alone c = λ told f alone.
      let at = (goal.at.After-run_some g c).After-save_if_due in
      let inv = c.turns.invariant in
      let first = c.in_ok-save_if_due.ensures in
      let step = c.args.going.now.step in
      let makes_at = g.P.Sweep.accounts.makes c.save_if_due.new.sweep in
      let next_at = g.P.Sweep.accounts.next c.save_if_due.new.sweep in
      alone_saved makes_at step next_at f (now (g.S.Shelf.world c.save_if_due.new.shelf))
      (now (g.S.Shelf.world c.run_some.new.shelf)) (turn_saved c told)
      (alone_later (g.P.Sweep.accounts.makes c.args.sweep.now) makes_at step (g.P.Sweep.accounts.next c.args.sweep.now)
      next_at f (λ q mine. inv.made q (first.made q mine))
      (let one = inv.later in let two = first.later in omega (arith, one, two)) alone)
      ∙ save_alone at (c.run_some.ensures.leaves.content.before told) f alone

  -- nor is a file filled whose part wasn't taken
  turn_untaken : (c : In_ok-made g) → IsTrue (g.S.Shelf.tells c.run_some.new.shelf)
      → StayEmpty (g.P.Sweep.accounts.makes c.args.sweep.now) c.args.going.now.step
      (g.P.Sweep.accounts.next c.run_some.new.sweep) (g.S.Shelf.world c.args.shelf.now)
      (g.S.Shelf.world c.run_some.new.shelf)
  turn_untaken c told =
      let inv = c.turns.invariant in
      let first = c.in_ok-save_if_due.ensures in
      let ran = c.in_ok-made.ensures in
      let told_s = ran.leaves.content.before told in
      let makes = g.P.Sweep.accounts.makes c.args.sweep.now in
      let step = c.args.going.now.step in
      stay_empty_then makes (g.P.Sweep.accounts.makes c.save_if_due.new.sweep) step
      (g.P.Sweep.accounts.step c.save_if_due.new.sweep) (g.P.Sweep.accounts.next c.save_if_due.new.sweep)
      (g.P.Sweep.accounts.next c.run_some.new.sweep) (g.S.Shelf.world c.args.shelf.now)
      (g.S.Shelf.world c.save_if_due.new.shelf) (g.S.Shelf.world c.run_some.new.shelf)
      (λ f mine. inv.made f (first.made f mine)) (first.step ∙ inv.step ∙ sym c.requires.step) ran.leaves.later
      (stay_empty_then makes (g.P.Sweep.accounts.makes c.turns.sweep) step c.turns.going.step
      (g.P.Sweep.accounts.next c.turns.sweep) (g.P.Sweep.accounts.next c.save_if_due.new.sweep)
      (g.S.Shelf.world c.args.shelf.now) (g.S.Shelf.world c.turns.shelf) (g.S.Shelf.world c.save_if_due.new.shelf)
      inv.made inv.going.step_is first.later (inv.untaken (first.changes.before told_s)) (first.untaken told_s))
      (ran.leaves.untaken told)

  -- what is said of the last checkpoint, once turns were made
  turn_says : (c : After-run_some g) → IsTrue (g.S.Shelf.tells c.run_some.new.shelf) → (turns : ℕ)
      → SaysLast c.args.going.now (record c.save_if_due.new.going { turns = turns }) (now (g.S.Shelf.world c.args.shelf.now)).folder (now (g.S.Shelf.world c.run_some.new.shelf)).folder
  turn_says c told turns =
      let at = goal.at.After-run_some g c in
      let inv = c.turns.invariant in
      let first = c.in_ok-save_if_due.ensures in
      let told_s = c.run_some.ensures.leaves.content.before told in
      let still = gated_still (g.P.Sweep.accounts.makes c.save_if_due.new.sweep) (g.P.Sweep.saving.operands (g.P.Sweep.task c.args.sweep.now)) c.args.going.now.step
      (g.P.Sweep.accounts.next c.save_if_due.new.sweep) (now (g.S.Shelf.world c.save_if_due.new.shelf)) (now (g.S.Shelf.world c.run_some.new.shelf)) (files_then at.In_ok-save_if_due) (turn_saved c told) in
      let step_is = first.going.step_is ∙ inv.going.step_is in
      says_then c.args.going.now c.save_if_due.new.going _ (now (g.S.Shelf.world c.args.shelf.now)).folder (now (g.S.Shelf.world c.save_if_due.new.shelf)).folder (now (g.S.Shelf.world c.run_some.new.shelf)).folder
      step_is
      (says_then c.args.going.now c.turns.going c.save_if_due.new.going (now (g.S.Shelf.world c.args.shelf.now)).folder (now (g.S.Shelf.world c.turns.shelf)).folder
      (now (g.S.Shelf.world c.save_if_due.new.shelf)).folder inv.going.step_is (inv.says (first.changes.before told_s)) (first.shown told_s))
      (inl (record {
        shown_is = refl;
        last_is = refl;
        gated_is = subst (λ s. last_gated s (present (now (g.S.Shelf.world c.run_some.new.shelf)).folder)
            ≡ last_gated s (present (now (g.S.Shelf.world c.save_if_due.new.shelf)).folder)) (sym step_is) still;
      }))

  -- the files are trusted still, once turns were made
  turn_trusts : (c : In_ok-made g) → IsTrue (g.S.Shelf.tells c.run_some.new.shelf) → g.P.Sweep.trusts c.args.sweep.now (g.S.Shelf.world c.args.shelf.now)
      → g.P.Sweep.trusts c.run_some.new.sweep (g.S.Shelf.world c.run_some.new.shelf)
  turn_trusts c told trusted =
      let first = c.in_ok-save_if_due.ensures in
      let told_s = c.in_ok-made.ensures.leaves.content.before told in
      c.in_ok-made.ensures.trusts told (first.trusts told_s (c.turns.invariant.trusts (first.changes.before told_s) trusted))

  -- the gated checkpoints are all there, once turns were made
  turn_covers : (c : After-run_some g) → IsTrue (g.S.Shelf.tells c.run_some.new.shelf)
      → gated_size c.args.going.now.step (now (g.S.Shelf.world c.args.shelf.now)).folder ≤ length (file (g.S.Shelf.world c.args.shelf.now) (checkpoint_file c.args.going.now.step)).bytes
      → gated_size c.args.going.now.step (now (g.S.Shelf.world c.run_some.new.shelf)).folder ≤ length (file (g.S.Shelf.world c.run_some.new.shelf) (checkpoint_file c.args.going.now.step)).bytes
  turn_covers c told covered =
      let at = goal.at.After-run_some g c in
      let inv = c.turns.invariant in
      let first = c.in_ok-save_if_due.ensures in
      let told_s = c.run_some.ensures.leaves.content.before told in
      let told_at = first.changes.before told_s in
      let covers_s = subst (λ s. gated_size s (now (g.S.Shelf.world c.save_if_due.new.shelf)).folder ≤ length (file (g.S.Shelf.world c.save_if_due.new.shelf) (checkpoint_file s)).bytes) inv.going.step_is
      (first.covers told_s (subst (λ s. gated_size s (now (g.S.Shelf.world c.turns.shelf)).folder ≤ length (file (g.S.Shelf.world c.turns.shelf) (checkpoint_file s)).bytes) (sym inv.going.step_is)
      (inv.covers told_at covered))) in
      covers_still (g.P.Sweep.accounts.makes c.save_if_due.new.sweep) (g.P.Sweep.saving.operands (g.P.Sweep.task c.args.sweep.now)) c.args.going.now.step (g.P.Sweep.accounts.next c.save_if_due.new.sweep)
      (now (g.S.Shelf.world c.save_if_due.new.shelf)) (now (g.S.Shelf.world c.run_some.new.shelf)) (files_then at.In_ok-save_if_due) (turn_saved c told) covers_s

  -- what turns and saves took, once turns were made
  turn_spent : (c : In_ok-made g) → (turns : ℕ) → turns ≡ min (c.save_if_due.new.going.turns + c.in_ok-made.made.turns) (2 ^ 64 - 1) → turns < 2 ^ 64 - 1
      → Spent c.args.sweep.now c.args.going.now c.args.shelf.now (turns - c.args.going.now.turns) (record c.save_if_due.new.going { turns = turns }) c.run_some.new.sweep c.run_some.new.shelf
  turn_spent c turns counted few =
      let at = goal.at.In_ok-made g c in
      let inv = c.turns.invariant in
      let first = c.in_ok-save_if_due.ensures in
      let ran = c.in_ok-made.ensures in
      let grew = inv.grew in
      let same = first.turns in
      spent_turns g.P.Sweep.accounts _ _ _ (c.save_if_due.new.going.turns - c.args.going.now.turns) c.in_ok-made.made.turns (turns - c.args.going.now.turns) c.save_if_due.new.going
      (record c.save_if_due.new.going { turns = turns }) _ _ (g.S.Shelf.world c.args.shelf.now) (g.S.Shelf.world c.save_if_due.new.shelf) (g.S.Shelf.world c.run_some.new.shelf)
      c.args.sweep.now c.save_if_due.new.sweep c.run_some.new.sweep (omega (arith, few, counted, grew, same)) refl refl
      (let one = inv.later in let two = first.later in omega (arith, one, two)) ran.leaves.later ran.counted.spent ran.leaves.content.before ran.counted.calls
      (save_spent at.In_ok-save_if_due (omega (arith, few, counted)))

  turn_paid : (c : In_ok-made g) → (turns : ℕ) → turns ≡ min (c.save_if_due.new.going.turns + c.in_ok-made.made.turns) (2 ^ 64 - 1) → turns < 2 ^ 64 - 1
      → IsPaidTo g.P.Sweep.accounts c.args.going.now c.args.sweep.now → IsPaidTo g.P.Sweep.accounts (record c.save_if_due.new.going { turns = turns }) c.run_some.new.sweep
  turn_paid c turns counted few paid =
      paid_turns g.P.Sweep.accounts c.in_ok-made.made.turns c.save_if_due.new.going (record c.save_if_due.new.going { turns = turns }) c.save_if_due.new.sweep c.run_some.new.sweep
      (omega (arith, few, counted)) refl refl c.in_ok-made.ensures.leaves.later c.in_ok-made.ensures.counted.spent
      (save_paid (goal.at.In_ok-made g c).In_ok-save_if_due (omega (arith, few, counted)) paid)

  -- no save is owed for from an earlier part on
  save_owed : (c : In_ok-save_if_due g) → first_owed c.args.going.now.last (g.P.Sweep.accounts.next c.args.sweep.now) ≤ first_taken c.save_if_due.new.going.last
  save_owed c =
      let inv = c.turns.invariant in
      let first = c.in_ok-save_if_due.ensures in
      let early = owed_early c.args.going.now.last (g.P.Sweep.accounts.next c.args.sweep.now) in
      owed_save g.P.Sweep.accounts c.turns.going c.save_if_due.new.going (g.S.Shelf.world c.turns.shelf) (g.S.Shelf.world c.save_if_due.new.shelf) c.turns.sweep c.save_if_due.new.sweep
      _ (let one = inv.later in let two = first.later in omega (arith, early, one, two)) first.parts inv.owed

  -- the calls of turns that were made or refused, where something of a job remains
  turn_calls : (c : After-run_some g) (result : Result Unit SortFault) (turns : ℕ) → IsTrue (g.S.Shelf.tells c.run_some.new.shelf) → (job : g.P.Sweep.Job) → g.P.Sweep.remains c.args.sweep.now (g.S.Shelf.world c.args.shelf.now) job
      → Known g.P.Sweep.accounts (interval_of c.args.going.now.budget) (first_owed c.args.going.now.last (g.P.Sweep.accounts.next c.args.sweep.now)) c.args.going.now.shown result
      (c.args.going.now.turns + g.P.Sweep.left c.args.sweep.now (g.S.Shelf.world c.args.shelf.now) job) (g.P.Sweep.left c.args.sweep.now (g.S.Shelf.world c.args.shelf.now) job + 1)
      (record c.save_if_due.new.going { turns = turns }) (g.S.Shelf.world c.args.shelf.now) (g.S.Shelf.world c.run_some.new.shelf) c.args.sweep.now c.run_some.new.sweep
  turn_calls c result turns told job remains =
      let at = (goal.at.After-run_some g c).In_ok-save_if_due in
      let inv = c.turns.invariant in
      let first = c.in_ok-save_if_due.ensures in
      let ran = c.run_some.ensures in
      let told_s = ran.leaves.content.before told in
      let told_at = first.changes.before told_s in
      let remains_at = inv.keeps told_at job remains in
      let few = inv.few told_at job remains in
      let grew = inv.grew in
      let less = first.left told_s job remains_at in
      known_turns g.P.Sweep.accounts _ _ _ result _ (g.P.Sweep.left c.args.sweep.now (g.S.Shelf.world c.args.shelf.now) job - g.P.Sweep.left c.turns.sweep (g.S.Shelf.world c.turns.shelf) job)
      (min c.max-most.result (g.P.Sweep.left c.save_if_due.new.sweep (g.S.Shelf.world c.save_if_due.new.shelf) job + 1)) _ c.save_if_due.new.going
      (record c.save_if_due.new.going { turns = turns }) _ _
      (g.S.Shelf.world c.args.shelf.now) (g.S.Shelf.world c.save_if_due.new.shelf) (g.S.Shelf.world c.run_some.new.shelf) c.args.sweep.now c.save_if_due.new.sweep c.run_some.new.sweep
      (owed_late c.args.going.now.last (g.P.Sweep.accounts.next c.args.sweep.now)) (omega (arith, few, grew, less)) refl (let one = inv.later in let two = first.later in omega (arith, one, two)) ran.leaves.later
      ran.leaves.content.before (save_within at told_s job remains) (save_calls at told_s job remains) (ran.few told job (first.keeps told_s job remains_at)).spent
      (ran.few told job (first.keeps told_s job remains_at)).calls told

  -- the gate is sure where it began
  abbrev GateSure : Going → g.row.S.Denot → Type 0
  GateSure going old = IsGateSure going.step (now (g.S.Shelf.world old)).folder

  -- what images show since then
  abbrev Shows : Going → g.row.S.Denot → Going → g.row.S.Denot → Type 0
  Shows going old after new = ShownOn going.step going.shown after.shown (now (g.S.Shelf.world old)).folder
      (now (g.S.Shelf.world new)).folder

  save_shows : (c : In_ok-save_if_due g) → IsTrue (g.S.Shelf.tells c.save_if_due.new.shelf)
      → GateSure c.args.going.now c.args.shelf.now → c.args.going.now.shown ≤ c.args.going.now.turns
      → Shows c.args.going.now c.args.shelf.now c.save_if_due.new.going c.save_if_due.new.shelf
  save_shows c told sure late =
      let inv = c.turns.invariant in
      let first = c.in_ok-save_if_due.ensures in
      let late_at : c.turns.going.shown ≤ c.turns.going.turns = inv.late late in
      shown_on_save c.turns.going.step c.args.going.now.step c.args.going.now.shown c.turns.going.shown
      c.save_if_due.new.going.shown (now (g.S.Shelf.world c.args.shelf.now)).folder
      (now (g.S.Shelf.world c.turns.shelf)).folder (now (g.S.Shelf.world c.save_if_due.new.shelf)).folder
      inv.going.step_is
      (saved_more g.P.Sweep.accounts c.turns.going c.save_if_due.new.going (g.S.Shelf.world c.turns.shelf)
      (g.S.Shelf.world c.save_if_due.new.shelf) c.turns.sweep c.save_if_due.new.sweep late_at first.parts)
      (inv.shows (first.changes.before told) sure late) (λ sure_at. first.showed told sure_at late_at)

  -- turns leave the checkpoints and their gate
  turn_points : (c : After-run_some g) → IsTrue (g.S.Shelf.tells c.run_some.new.shelf)
      → Throughout (g.S.Shelf.world c.save_if_due.new.shelf) (g.S.Shelf.world c.run_some.new.shelf)
      (λ (m : Moment). SamePoints c.args.going.now.step (now (g.S.Shelf.world c.save_if_due.new.shelf)).folder m.folder)
  turn_points c told =
      let at = (goal.at.After-run_some g c).In_ok-save_if_due in
      let made_at = g.P.Sweep.accounts.makes c.save_if_due.new.sweep in
      let next_at = g.P.Sweep.accounts.next c.save_if_due.new.sweep in
      let step = c.args.going.now.step in
      let mid = g.S.Shelf.world c.save_if_due.new.shelf in
      moments mid (g.S.Shelf.world c.run_some.new.shelf) (OnlyOwn made_at step next_at (now mid))
      (λ (m : Moment). SamePoints step (now mid).folder m.folder)
      (λ m own. saved_points made_at (g.P.Sweep.saving.operands (g.P.Sweep.task c.args.sweep.now)) step next_at
      (now mid) m (files_then at) (own_saved made_at step next_at (now mid) m own))
      (subst (λ s. Ran (OnlyOwn made_at s next_at (now mid)) mid (g.S.Shelf.world c.run_some.new.shelf)) (own_step c)
      (c.run_some.ensures.leaves.content.did told))

  turn_shows : (c : After-run_some g) → IsTrue (g.S.Shelf.tells c.run_some.new.shelf)
      → GateSure c.args.going.now c.args.shelf.now → c.args.going.now.shown ≤ c.args.going.now.turns
      → Shows c.args.going.now c.args.shelf.now c.save_if_due.new.going c.run_some.new.shelf
  turn_shows c told sure late =
      let told_s = c.run_some.ensures.leaves.content.before told in
      shown_on_same c.args.going.now.step c.args.going.now.shown c.save_if_due.new.going.shown
      (now (g.S.Shelf.world c.args.shelf.now)).folder (now (g.S.Shelf.world c.save_if_due.new.shelf)).folder
      (now (g.S.Shelf.world c.run_some.new.shelf)).folder (g.met.S.Shelf.files_are c.save_if_due.new.shelf told_s)
      (at_end (g.S.Shelf.world c.save_if_due.new.shelf) (g.S.Shelf.world c.run_some.new.shelf)
      (λ (m : Moment). SamePoints c.args.going.now.step (now (g.S.Shelf.world c.save_if_due.new.shelf)).folder
      m.folder) (turn_points c told))
      (save_shows (goal.at.After-run_some g c).In_ok-save_if_due told_s sure late)

  -- no more than an interval of turns are made that no checkpoint shows
  turn_recent : (c : After-run_some g) → c.args.going.now.shown ≤ c.args.going.now.turns
      → c.save_if_due.new.going.turns < 2 ^ 61 → (made : ℕ) → made ≤ c.max-most.result
      → (c.save_if_due.new.going.turns - c.args.going.now.turns) + made
      ≤ (c.save_if_due.new.going.shown - c.args.going.now.shown)
      + (interval_of c.args.going.now.budget - (c.args.going.now.turns - c.args.going.now.shown))
  turn_recent c late few made less =
      let inv = c.turns.invariant in
      let first = c.in_ok-save_if_due.ensures in
      let late_at : c.turns.going.shown ≤ c.turns.going.turns = inv.late late in
      let more = saved_more g.P.Sweep.accounts c.turns.going c.save_if_due.new.going (g.S.Shelf.world c.turns.shelf)
      (g.S.Shelf.world c.save_if_due.new.shelf) c.turns.sweep c.save_if_due.new.sweep late_at first.parts in
      let later = saved_late g.P.Sweep.accounts c.turns.going c.save_if_due.new.going (g.S.Shelf.world c.turns.shelf)
      (g.S.Shelf.world c.save_if_due.new.shelf) c.turns.sweep c.save_if_due.new.sweep first.turns late_at first.parts in
      let grew = inv.grew in
      let same = first.turns in
      let least = inv.least late in
      let budget : interval_of c.save_if_due.new.going.budget ≡ interval_of c.args.going.now.budget =
      ap interval_of (first.going.budget_is ∙ inv.going.budget_is) in
      let budget_at : interval_of c.turns.going.budget ≡ interval_of c.args.going.now.budget =
      ap interval_of inv.going.budget_is in
      let interval = c.interval.ensures in
      let since = c.since.ensures in
      let left = c.saturating_sub.ensures in
      let chosen = c.max-most.ensures in
      few_unshown (interval_of c.args.going.now.budget) c.args.going.now.shown c.args.going.now.turns
      c.save_if_due.new.going.turns c.save_if_due.new.going.shown made c.max-most.result (omega arith) late
      (omega (arith, grew, same)) (omega (arith, least, more)) later
      (subst (λ n. (c.save_if_due.new.going.turns - c.save_if_due.new.going.shown < n)
      ⊎ (c.save_if_due.new.going.shown ≡ c.save_if_due.new.going.turns)) budget_at (first.due few))
      less (omega (arith, budget, interval, since, left, chosen))

  -- what a stop costs: up to a save, and up to the turns behind it
  abbrev Stops : g.row.P.Denot → Going → g.row.S.Denot → g.row.S.Denot → Type 0
  Stops sweep going old new = AreStops going.step going.shown
      ((g.S.Shelf.world old).clock + stop_calls g.P.Sweep.accounts going sweep) (g.S.Shelf.world old)
      (g.S.Shelf.world new)

  save_stops : (c : After-save_if_due g) → IsTrue (g.S.Shelf.tells c.save_if_due.new.shelf)
      → GateSure c.args.going.now c.args.shelf.now → 16384 ≤ interval_of c.args.going.now.budget
      → c.args.going.now.shown ≤ c.args.going.now.turns → (job : g.P.Sweep.Job)
      → g.P.Sweep.remains c.args.sweep.now (g.S.Shelf.world c.args.shelf.now) job
      → c.args.going.now.turns + g.P.Sweep.left c.args.sweep.now (g.S.Shelf.world c.args.shelf.now) job < 2 ^ 61
      → Stops c.args.sweep.now c.args.going.now c.args.shelf.now c.save_if_due.new.shelf
  save_stops c told sure often late job remains few =
      let inv = c.turns.invariant in
      let first = c.save_if_due.ensures in
      let told_at = first.changes.before told in
      let made = inv.few told_at job remains in
      let made_few : c.turns.going.turns < 2 ^ 61 = omega (arith, made, few) in
      let on = inv.shows told_at sure late in
      stops_shown c.args.going.now.step c.args.going.now.shown c.turns.going.shown
      ((g.S.Shelf.world c.args.shelf.now).clock + stop_calls g.P.Sweep.accounts c.args.going.now c.args.sweep.now)
      (g.S.Shelf.world c.args.shelf.now) (g.S.Shelf.world c.turns.shelf) (g.S.Shelf.world c.save_if_due.new.shelf)
      on.images (inv.stops told_at sure often late job remains few) c.turns.going.turns on.least (inv.late late)
      (save_stop g.P.Sweep.accounts c.args.going.now c.turns.going (IsTrue (g.S.Shelf.tells c.turns.shelf))
      (IsTrue (g.S.Shelf.tells c.save_if_due.new.shelf)) (g.S.Shelf.world c.args.shelf.now)
      (g.S.Shelf.world c.turns.shelf) (g.S.Shelf.world c.save_if_due.new.shelf) c.args.sweep.now c.turns.sweep
      c.save_if_due.new.sweep (c.turns.going.turns - c.args.going.now.turns) often inv.later first.later
      first.changes.before (inv.spent (omega (arith, made_few))) told (inv.recent late made_few) first.takes
      first.calls)
      (subst (λ s. Throughout (g.S.Shelf.world c.turns.shelf) (g.S.Shelf.world c.save_if_due.new.shelf)
      (AreShown s c.turns.going.turns (now (g.S.Shelf.world c.turns.shelf)).folder)) inv.going.step_is
      (first.shows told (subst (λ s. IsGateSure s (now (g.S.Shelf.world c.turns.shelf)).folder)
      (sym inv.going.step_is) on.sure)))

  turn_stops : (c : After-run_some g) → IsTrue (g.S.Shelf.tells c.run_some.new.shelf)
      → GateSure c.args.going.now c.args.shelf.now → 16384 ≤ interval_of c.args.going.now.budget
      → c.args.going.now.shown ≤ c.args.going.now.turns → (job : g.P.Sweep.Job)
      → g.P.Sweep.remains c.args.sweep.now (g.S.Shelf.world c.args.shelf.now) job
      → c.args.going.now.turns + g.P.Sweep.left c.args.sweep.now (g.S.Shelf.world c.args.shelf.now) job < 2 ^ 61
      → Stops c.args.sweep.now c.args.going.now c.args.shelf.now c.run_some.new.shelf
  turn_stops c told sure often late job remains few =
      let at = goal.at.After-run_some g c in
      let inv = c.turns.invariant in
      let first = c.in_ok-save_if_due.ensures in
      let ran = c.run_some.ensures in
      let told_s = ran.leaves.content.before told in
      let told_at = first.changes.before told_s in
      let made = inv.few told_at job remains in
      let same = first.turns in
      let made_few : c.save_if_due.new.going.turns < 2 ^ 61 = omega (arith, made, few, same) in
      let costs = ran.few told job (first.keeps told_s job (inv.keeps told_at job remains)) in
      let most = min c.max-most.result
      (g.P.Sweep.left c.save_if_due.new.sweep (g.S.Shelf.world c.save_if_due.new.shelf) job + 1) in
      stops_same c.args.going.now.step c.args.going.now.shown c.save_if_due.new.going.shown
      ((g.S.Shelf.world c.args.shelf.now).clock + stop_calls g.P.Sweep.accounts c.args.going.now c.args.sweep.now)
      (g.S.Shelf.world c.args.shelf.now) (g.S.Shelf.world c.save_if_due.new.shelf)
      (g.S.Shelf.world c.run_some.new.shelf) (save_shows at.In_ok-save_if_due told_s sure late).images
      (save_stops at.After-save_if_due told_s sure often late job remains few)
      (g.met.S.Shelf.files_are c.save_if_due.new.shelf told_s)
      (turns_stop g.P.Sweep.accounts c.args.going.now c.save_if_due.new.going
      (IsTrue (g.S.Shelf.tells c.save_if_due.new.shelf)) (IsTrue (g.S.Shelf.tells c.run_some.new.shelf))
      (g.S.Shelf.world c.args.shelf.now)
      (g.S.Shelf.world c.save_if_due.new.shelf) (g.S.Shelf.world c.run_some.new.shelf) c.args.sweep.now
      c.save_if_due.new.sweep c.run_some.new.sweep
      (c.save_if_due.new.going.turns - c.args.going.now.turns) often
      (let one = inv.later in let two = first.later in omega (arith, one, two)) ran.leaves.later
      ran.leaves.content.before
      (save_spent at.In_ok-save_if_due (omega (arith, made_few))) told most
      (turn_recent c late made_few most (omega arith)) costs.spent costs.calls)
      (turn_points c told)

pub turns-init : goal.turns-init
turns-init g c =
    let claim : g.claim c.lifetimes = search rules in
    let laws = g.met.P.Sweep c.lifetimes claim in
    let made = g.P.Sweep.accounts.makes c.args.sweep.now in
    let read = g.P.Sweep.saving.operands (g.P.Sweep.task c.args.sweep.now) in
    let next = g.P.Sweep.accounts.next c.args.sweep.now in
    record {
      ready = search rules;
      works = c.requires.works;
      in_step = search rules;
      trusts = search rules;
      keeps = search rules;
      same = refl;
      going = record { step_is = refl; sweep_is = refl; budget_is = refl };
      made = λ f mine. mine;
      making = λ f mine. mine;
      step = refl;
      later = omega arith;
      within_parts = λ few. few;
      owed = omega arith;
      few = λ told job remains. omega arith;
      covers = λ told covered. covered;
      grew = omega arith;
      late = λ late. late;
      spent = λ few. spent_none g.P.Sweep.accounts (interval_of c.args.going.now.budget) (first_owed c.args.going.now.last next) c.args.going.now.shown (c.args.going.now.turns - c.args.going.now.turns)
          c.args.going.now (IsTrue (g.S.Shelf.tells c.args.shelf.now)) (g.S.Shelf.world c.args.shelf.now) c.args.sweep.now refl refl;
      paid = λ few paid. paid;
      within = λ told job remains. omega arith;
      calls = λ told job remains. spent_none g.P.Sweep.accounts (interval_of c.args.going.now.budget) (first_owed c.args.going.now.last next) c.args.going.now.shown
          (g.P.Sweep.left c.args.sweep.now (g.S.Shelf.world c.args.shelf.now) job - g.P.Sweep.left c.args.sweep.now (g.S.Shelf.world c.args.shelf.now) job)
          c.args.going.now (IsTrue (g.S.Shelf.tells c.args.shelf.now)) (g.S.Shelf.world c.args.shelf.now) c.args.sweep.now refl refl;
      says = λ told. inl (record { shown_is = refl; last_is = refl; gated_is = refl });
      changes = told_changed_none g.S.Shelf.tells g.S.Shelf.world (IsOfGoing made c.args.going.now.step) c.args.shelf.now;
      alone = λ told f alone. refl;
      untaken = λ told f other free empty. empty;
      images = λ told job remains sure paid. images_none g.P.Sweep.saving laws.stays laws.apart made read c.args.going.now.step next c.args.going.now.sweep (g.P.Sweep.task c.args.sweep.now) job
          (c.args.going.now.turns + g.P.Sweep.left c.args.sweep.now (g.S.Shelf.world c.args.shelf.now) job) (g.S.Shelf.world c.args.shelf.now) (g.met.S.Shelf.files_are c.args.shelf.now told)
          (subst (λ s. IsOfStep made read s next) (sym c.requires.step) c.requires.files);
      come = λ told job remains sure paid. inl (saved_none made c.args.going.now.step next (now (g.S.Shelf.world c.args.shelf.now)));
      shows = λ told sure late. shown_on_none c.args.going.now.step c.args.going.now.shown
          (now (g.S.Shelf.world c.args.shelf.now)).folder sure;
      least = λ late. omega arith;
      recent = λ late few. omega arith;
      stops = λ told sure often late job remains few. stops_none c.args.going.now.step c.args.going.now.shown
          ((g.S.Shelf.world c.args.shelf.now).clock + stop_calls g.P.Sweep.accounts c.args.going.now c.args.sweep.now)
          (g.S.Shelf.world c.args.shelf.now) (omega arith);
      faults = record { later = omega arith; cause = λ is. cc; say_is = refl; text_is = λ path. refl };
    }

pub returns-in_err-save_if_due-clause-changes : goal.returns-in_err-save_if_due-clause-changes
returns-in_err-save_if_due-clause-changes g c = save_changes g (goal.at.returns-in_err-save_if_due-clause-changes g c).After-save_if_due

pub returns-in_err-save_if_due-clause-alone : goal.returns-in_err-save_if_due-clause-alone
returns-in_err-save_if_due-clause-alone g c =
    save_alone g (goal.at.returns-in_err-save_if_due-clause-alone g c).After-save_if_due

pub returns-in_err-save_if_due-clause-images : goal.returns-in_err-save_if_due-clause-images
returns-in_err-save_if_due-clause-images g c = save_images g (goal.at.returns-in_err-save_if_due-clause-images g c).After-save_if_due

pub returns-in_err-save_if_due-clause-stops : goal.returns-in_err-save_if_due-clause-stops
returns-in_err-save_if_due-clause-stops g c =
    save_stops g (goal.at.returns-in_err-save_if_due-clause-stops g c).After-save_if_due

pub returns-in_err-save_if_due-clause-refused : goal.returns-in_err-save_if_due-clause-refused
returns-in_err-save_if_due-clause-refused g c =
    let inv = c.turns.invariant in
    let first = c.in_err-save_if_due.ensures in
    let same = first.turns in
    refused_save g.P.Sweep.accounts _ _ _ _ (c.turns.going.turns - c.args.going.now.turns) _ c.turns.going c.save_if_due.new.going _ _ _ (g.S.Shelf.world c.args.shelf.now)
    (g.S.Shelf.world c.turns.shelf) (g.S.Shelf.world c.save_if_due.new.shelf) c.args.sweep.now c.turns.sweep c.save_if_due.new.sweep
    (owed_late c.args.going.now.last (g.P.Sweep.accounts.next c.args.sweep.now)) (omega (arith, same)) (ap (λ (x : Going). x.shown) first.refused.0) first.later first.changes.before
    (λ few. inv.spent (omega (arith, few, same))) first.calls

pub returns-in_err-save_if_due-clause-few_calls : goal.returns-in_err-save_if_due-clause-few_calls
returns-in_err-save_if_due-clause-few_calls g c = λ told job remains.
    let inv = c.turns.invariant in
    let first = c.in_err-save_if_due.ensures in
    let told_at = first.changes.before told in
    let few = inv.few told_at job remains in
    known_save g.P.Sweep.accounts _ _ _ c.from_residual.result c.in_err-save_if_due.field-0.0 _ (g.P.Sweep.left c.args.sweep.now (g.S.Shelf.world c.args.shelf.now) job - g.P.Sweep.left c.turns.sweep (g.S.Shelf.world c.turns.shelf) job) _ c.turns.going c.save_if_due.new.going _ _
    (g.S.Shelf.world c.args.shelf.now) (g.S.Shelf.world c.turns.shelf) (g.S.Shelf.world c.save_if_due.new.shelf) c.args.sweep.now c.turns.sweep c.save_if_due.new.sweep
    c.from_residual.ensures.1
    (owed_late c.args.going.now.last (g.P.Sweep.accounts.next c.args.sweep.now)) (omega arith) inv.later first.later first.changes.before (omega (arith, few)) first.refused.1 (ap interval_of inv.going.budget_is)
    (inv.calls told_at job remains) first.takes first.calls told

-- a save that was refused is no damage where something of a job remains, and the gated checkpoints are all there
pub returns-in_err-save_if_due-clause-undamaged : goal.returns-in_err-save_if_due-clause-undamaged
returns-in_err-save_if_due-clause-undamaged g c =
    on_fault c.from_residual.result c.in_err-save_if_due.field-0.0 _ c.from_residual.ensures.1
    (λ told job remains covered.
    let inv = c.turns.invariant in
    let first = c.in_err-save_if_due.ensures in
    let told_at = first.changes.before told in
    let world_at = g.S.Shelf.world c.turns.shelf in
    first.undamaged told job (inv.keeps told_at job remains)
    (subst (λ s. gated_size s (now world_at).folder ≤ length (file world_at (checkpoint_file s)).bytes)
    (sym inv.going.step_is) (inv.covers told_at covered)))

-- a save that was refused says so where the gated checkpoints are all there
pub returns-in_err-save_if_due-clause-covered : goal.returns-in_err-save_if_due-clause-covered
returns-in_err-save_if_due-clause-covered g c =
    on_fault c.from_residual.result c.in_err-save_if_due.field-0.0 _ c.from_residual.ensures.1 (λ told trusted covered.
    let inv = c.turns.invariant in
    let first = c.in_err-save_if_due.ensures in
    let told_at = first.changes.before told in
    let world_at = g.S.Shelf.world c.turns.shelf in
    first.covered told (inv.trusts told_at trusted)
    (subst (λ s. gated_size s (now world_at).folder ≤ length (file world_at (checkpoint_file s)).bytes)
    (sym inv.going.step_is) (inv.covers told_at covered)))

pub returns-in_err-made-clause-changes : goal.returns-in_err-made-clause-changes
returns-in_err-made-clause-changes g c = turn_changes g (goal.at.returns-in_err-made-clause-changes g c).After-run_some

pub returns-in_err-made-clause-alone : goal.returns-in_err-made-clause-alone
returns-in_err-made-clause-alone g c = turn_alone g (goal.at.returns-in_err-made-clause-alone g c).After-run_some

pub returns-in_err-made-clause-images : goal.returns-in_err-made-clause-images
returns-in_err-made-clause-images g c = λ told job remains sure paid. (turn_stage g (goal.at.returns-in_err-made-clause-images g c).After-run_some told job remains sure paid).images

pub returns-in_err-made-clause-stops : goal.returns-in_err-made-clause-stops
returns-in_err-made-clause-stops g c = turn_stops g (goal.at.returns-in_err-made-clause-stops g c).After-run_some

pub returns-in_err-made-clause-refused : goal.returns-in_err-made-clause-refused
returns-in_err-made-clause-refused g c =
    let first = c.in_ok-save_if_due.ensures in
    let ran = c.in_err-made.ensures in
    let budget : c.save_if_due.new.going.budget ≡ c.args.going.now.budget = first.going.budget_is ∙ c.turns.invariant.going.budget_is in
    let interval = c.interval.ensures in
    let left = c.saturating_sub.ensures in
    let chosen = c.max-most.ensures in
    let most_is : c.max-most.result ≤ interval_of c.args.going.now.budget = omega (arith, budget, interval, left, chosen) in
    refused_turns g.P.Sweep.accounts _ _ _ _ (c.save_if_due.new.going.turns - c.args.going.now.turns) (min c.max-most.result (g.P.Sweep.fuel c.save_if_due.new.sweep + 1)) _ c.save_if_due.new.going
    c.save_if_due.new.going _ _ _ (g.S.Shelf.world c.args.shelf.now) (g.S.Shelf.world c.save_if_due.new.shelf) (g.S.Shelf.world c.run_some.new.shelf) c.args.sweep.now c.save_if_due.new.sweep c.run_some.new.sweep
    (owed_late c.args.going.now.last (g.P.Sweep.accounts.next c.args.sweep.now)) (omega (arith, most_is)) refl ran.leaves.later ran.leaves.content.before
    (save_spent g (goal.at.returns-in_err-made-clause-refused g c).In_ok-save_if_due) ran.leaves.calls

pub returns-in_err-made-clause-undamaged : goal.returns-in_err-made-clause-undamaged
returns-in_err-made-clause-undamaged g c =
    on_fault c.from_residual-in_err-made.result c.in_err-made.field-0.0 _ c.from_residual-in_err-made.ensures.1
    (λ told job remains covered.
    let inv = c.turns.invariant in
    let first = c.in_ok-save_if_due.ensures in
    let ran = c.in_err-made.ensures in
    let told_s = ran.leaves.content.before told in
    let remains_at = inv.keeps (first.changes.before told_s) job remains in
    ran.undamaged told job (first.keeps told_s job remains_at))

-- a turn that was refused for damage says so of the sweep
pub returns-in_err-made-clause-damage : goal.returns-in_err-made-clause-damage
returns-in_err-made-clause-damage g c = on_fault c.from_residual-in_err-made.result c.in_err-made.field-0.0 _
    c.from_residual-in_err-made.ensures.1 (λ told trusted.
    let inv = c.turns.invariant in
    let first = c.in_ok-save_if_due.ensures in
    let told_s = c.in_err-made.ensures.leaves.content.before told in
    inl (c.in_err-made.ensures.damage told (first.trusts told_s (inv.trusts (first.changes.before told_s) trusted))))

pub returns-in_err-made-clause-covered : goal.returns-in_err-made-clause-covered
returns-in_err-made-clause-covered g c = on_fault c.from_residual-in_err-made.result c.in_err-made.field-0.0 _ c.from_residual-in_err-made.ensures.1 (λ told trusted covered.
    let inv = c.turns.invariant in
    let first = c.in_ok-save_if_due.ensures in
    let told_s = c.in_err-made.ensures.leaves.content.before told in
    inl (c.in_err-made.ensures.damage told (first.trusts told_s (inv.trusts (first.changes.before told_s) trusted))))

pub returns-in_err-made-clause-few_calls : goal.returns-in_err-made-clause-few_calls
returns-in_err-made-clause-few_calls g c = turn_calls g (goal.at.returns-in_err-made-clause-few_calls g c).After-run_some c.from_residual-in_err-made.result c.save_if_due.new.going.turns

pub returns-then-eq-clause-few_calls : goal.returns-then-eq-clause-few_calls
returns-then-eq-clause-few_calls g c = turn_calls g (goal.at.returns-then-eq-clause-few_calls g c).After-run_some (Ok tt) c.saturating_add-going.result

pub returns-then-eq-clause-firm : goal.returns-then-eq-clause-firm
returns-then-eq-clause-firm g c =
    let ended : c.in_ok-made.made.turn ≡ Ended = search rules in
    where_ended c.in_ok-made.made.turn ended c.in_ok-made.ensures.firm

pub returns-then-eq-clause-few : goal.returns-then-eq-clause-few
returns-then-eq-clause-few g c =
    let ended : c.in_ok-made.made.turn ≡ Ended = search rules in
    λ told job remains.
    let inv = c.turns.invariant in
    let first = c.in_ok-save_if_due.ensures in
    let told_s = c.in_ok-made.ensures.leaves.content.before told in
    let told_at = first.changes.before told_s in
    let remains_at = inv.keeps told_at job remains in
    let so_far = inv.few told_at job remains in
    let less = first.left told_s job remains_at in
    let made = fell_ended (g.P.Sweep.left c.save_if_due.new.sweep (g.S.Shelf.world c.save_if_due.new.shelf) job) (g.P.Sweep.left c.run_some.new.sweep (g.S.Shelf.world c.run_some.new.shelf) job)
    c.in_ok-made.made.turns c.in_ok-made.made.turn ended (c.in_ok-made.ensures.fewer told job (first.keeps told_s job remains_at)) in
    let counted = c.saturating_add-going.ensures in
    let same = first.turns in
    omega (arith, so_far, less, made, counted, same)

pub returns-then-eq-clause-changes : goal.returns-then-eq-clause-changes
returns-then-eq-clause-changes g c = turn_changes g (goal.at.returns-then-eq-clause-changes g c).After-run_some

pub returns-then-eq-clause-alone : goal.returns-then-eq-clause-alone
returns-then-eq-clause-alone g c = turn_alone g (goal.at.returns-then-eq-clause-alone g c).After-run_some

pub returns-then-eq-clause-within : goal.returns-then-eq-clause-within
returns-then-eq-clause-within g c = λ few.
    c.in_ok-made.ensures.leaves.within (c.in_ok-save_if_due.ensures.within (c.turns.invariant.within_parts few))

pub returns-then-eq-clause-untaken : goal.returns-then-eq-clause-untaken
returns-then-eq-clause-untaken g c = turn_untaken g (goal.at.returns-then-eq-clause-untaken g c).In_ok-made

pub returns-then-eq-clause-images : goal.returns-then-eq-clause-images
returns-then-eq-clause-images g c = λ told job remains sure paid. (turn_stage g (goal.at.returns-then-eq-clause-images g c).After-run_some told job remains sure paid).images

pub returns-then-eq-clause-stands : goal.returns-then-eq-clause-stands
returns-then-eq-clause-stands g c = λ told job remains sure paid. (turn_stage g (goal.at.returns-then-eq-clause-stands g c).After-run_some told job remains sure paid).come

pub returns-then-eq-clause-stops : goal.returns-then-eq-clause-stops
returns-then-eq-clause-stops g c = turn_stops g (goal.at.returns-then-eq-clause-stops g c).After-run_some

pub returns-then-eq-clause-showed : goal.returns-then-eq-clause-showed
returns-then-eq-clause-showed g c =
    λ told sure late. (turn_shows g (goal.at.returns-then-eq-clause-showed g c).After-run_some told sure late).images

pub returns-then-eq-clause-counted : goal.returns-then-eq-clause-counted
returns-then-eq-clause-counted g c = λ few. spent_saves g.P.Sweep.accounts _ _ _ _ _ _ (g.S.Shelf.world c.args.shelf.now) (g.S.Shelf.world c.run_some.new.shelf) c.args.sweep.now c.run_some.new.sweep
    (owed_late c.args.going.now.last (g.P.Sweep.accounts.next c.args.sweep.now))
    (turn_spent g (goal.at.returns-then-eq-clause-counted g c).In_ok-made c.saturating_add-going.result c.saturating_add-going.ensures few)

pub returns-then-eq-clause-paid : goal.returns-then-eq-clause-paid
returns-then-eq-clause-paid g c = turn_paid g (goal.at.returns-then-eq-clause-paid g c).In_ok-made c.saturating_add-going.result c.saturating_add-going.ensures

pub returns-then-eq-clause-shown : goal.returns-then-eq-clause-shown
returns-then-eq-clause-shown g c = λ told. turn_says g (goal.at.returns-then-eq-clause-shown g c).After-run_some told c.saturating_add-going.result

pub returns-then-eq-clause-keeps : goal.returns-then-eq-clause-keeps
returns-then-eq-clause-keeps g c = λ told job remains.
    let inv = c.turns.invariant in
    let first = c.in_ok-save_if_due.ensures in
    let told_s = c.in_ok-made.ensures.leaves.content.before told in
    c.in_ok-made.ensures.keeps told job (first.keeps told_s job (inv.keeps (first.changes.before told_s) job remains))

pub returns-then-eq-clause-owed : goal.returns-then-eq-clause-owed
returns-then-eq-clause-owed g c =
    owed_then _ c.save_if_due.new.going.last (g.P.Sweep.accounts.next c.args.sweep.now) (g.P.Sweep.accounts.next c.run_some.new.sweep) (save_owed g (goal.at.returns-then-eq-clause-owed g c).In_ok-save_if_due)
    (owed_early c.args.going.now.last (g.P.Sweep.accounts.next c.args.sweep.now))
    (let one = c.turns.invariant.later in let two = c.in_ok-save_if_due.ensures.later in let three = c.in_ok-made.ensures.leaves.later in omega (arith, one, two, three))

pub returns-then-eq-clause-trusts : goal.returns-then-eq-clause-trusts
returns-then-eq-clause-trusts g c = turn_trusts g (goal.at.returns-then-eq-clause-trusts g c).In_ok-made

pub returns-then-eq-clause-covers : goal.returns-then-eq-clause-covers
returns-then-eq-clause-covers g c = turn_covers g (goal.at.returns-then-eq-clause-covers g c).After-run_some

pub turns-preserved : goal.turns-preserved
turns-preserved g c =
    let so_far = c.turns.invariant in
    let saved = c.in_ok-save_if_due.ensures in
    let ran = c.in_ok-made.ensures in
    let counted = c.saturating_add-going.ensures in
    record {
      ready = search rules;
      works = search rules;
      in_step = search rules;
      trusts = turn_trusts g (goal.at.turns-preserved g c).In_ok-made;
      keeps = λ told job remains.
          let told_s = ran.leaves.content.before told in
          ran.keeps told job (saved.keeps told_s job (so_far.keeps (saved.changes.before told_s) job remains));
      same = ran.same ∙ saved.same ∙ so_far.same;
      going = record {
        step_is = saved.going.step_is ∙ so_far.going.step_is;
        sweep_is = saved.going.sweep_is ∙ so_far.going.sweep_is;
        budget_is = saved.going.budget_is ∙ so_far.going.budget_is;
      };
      made = λ f mine. so_far.made f (saved.made f (ran.leaves.made f mine));
      making = λ f mine. ran.leaves.making f (saved.making f (so_far.making f mine));
      step = ran.leaves.step_is ∙ saved.step ∙ so_far.step;
      later = let one = so_far.later in let two = saved.later in let three = ran.leaves.later in omega (arith, one, two, three);
      within_parts = λ few. ran.leaves.within (saved.within (so_far.within_parts few));
      owed = save_owed g (goal.at.turns-preserved g c).In_ok-save_if_due;
      few = λ told job remains.
          let told_s = ran.leaves.content.before told in
          let told_at = saved.changes.before told_s in
          let remains_at = so_far.keeps told_at job remains in
          let goes_on : c.in_ok-made.made.turn ≢ Ended = search rules in
          let one = so_far.few told_at job remains in
          let two = saved.left told_s job remains_at in
          let three = fell_more (g.P.Sweep.left c.save_if_due.new.sweep (g.S.Shelf.world c.save_if_due.new.shelf) job) (g.P.Sweep.left c.run_some.new.sweep (g.S.Shelf.world c.run_some.new.shelf) job)
          c.in_ok-made.made.turns c.in_ok-made.made.turn goes_on (ran.fewer told job (saved.keeps told_s job remains_at)) in
          let same = saved.turns in
          omega (arith, one, two, three, counted, same);
      covers = turn_covers g (goal.at.turns-preserved g c).After-run_some;
      grew = let grew = so_far.grew in let same = saved.turns in omega (arith, grew, same, counted);
      late = λ late.
          let shown = saved_late g.P.Sweep.accounts c.turns.going c.save_if_due.new.going _ _ c.turns.sweep c.save_if_due.new.sweep saved.turns (so_far.late late) saved.parts in
          omega (arith, shown, counted);
      spent = λ few. turn_spent g (goal.at.turns-preserved g c).In_ok-made c.saturating_add-going.result counted few;
      paid = λ few paid. turn_paid g (goal.at.turns-preserved g c).In_ok-made c.saturating_add-going.result counted few paid;
      within = λ told job remains. save_within g (goal.at.turns-preserved g c).In_ok-save_if_due (ran.leaves.content.before told) job remains;
      calls = λ told job remains.
          let goes_on : c.in_ok-made.made.turn ≢ Ended = search rules in
          let told_s = ran.leaves.content.before told in
          let told_at = saved.changes.before told_s in
          let remains_at = so_far.keeps told_at job remains in
          let few = so_far.few told_at job remains in
          let grew = so_far.grew in
          let less = saved.left told_s job remains_at in
          let fell = fell_more (g.P.Sweep.left c.save_if_due.new.sweep (g.S.Shelf.world c.save_if_due.new.shelf) job) (g.P.Sweep.left c.run_some.new.sweep (g.S.Shelf.world c.run_some.new.shelf) job)
          c.in_ok-made.made.turns c.in_ok-made.made.turn goes_on (ran.fewer told job (saved.keeps told_s job remains_at)) in
          spent_turns g.P.Sweep.accounts _ _ _ (g.P.Sweep.left c.args.sweep.now (g.S.Shelf.world c.args.shelf.now) job - g.P.Sweep.left c.turns.sweep (g.S.Shelf.world c.turns.shelf) job)
          c.in_ok-made.made.turns _ c.save_if_due.new.going (record c.save_if_due.new.going { turns = c.saturating_add-going.result }) _ _ (g.S.Shelf.world c.args.shelf.now)
          (g.S.Shelf.world c.save_if_due.new.shelf) (g.S.Shelf.world c.run_some.new.shelf) c.args.sweep.now c.save_if_due.new.sweep c.run_some.new.sweep (omega (arith, few, grew, less, fell)) refl refl
          (let one = so_far.later in let two = saved.later in omega (arith, one, two)) ran.leaves.later ran.counted.spent ran.leaves.content.before ran.counted.calls
          (save_calls g (goal.at.turns-preserved g c).In_ok-save_if_due told_s job remains);
      says = λ told. turn_says g (goal.at.turns-preserved g c).After-run_some told c.saturating_add-going.result;
      changes = turn_changes g (goal.at.turns-preserved g c).After-run_some;
      alone = turn_alone g (goal.at.turns-preserved g c).After-run_some;
      untaken = turn_untaken g (goal.at.turns-preserved g c).In_ok-made;
      images = λ told job remains sure paid. (turn_stage g (goal.at.turns-preserved g c).After-run_some told job remains sure paid).images;
      come = λ told job remains sure paid. (turn_stage g (goal.at.turns-preserved g c).After-run_some told job remains sure paid).come;
      shows = turn_shows g (goal.at.turns-preserved g c).After-run_some;
      least = λ late.
          let least = so_far.least late in
          let more = saved_more g.P.Sweep.accounts c.turns.going c.save_if_due.new.going _ _ c.turns.sweep
          c.save_if_due.new.sweep (so_far.late late) saved.parts in
          omega (arith, least, more);
      recent = λ late few.
          let recent = turn_recent g (goal.at.turns-preserved g c).After-run_some late (omega (arith, few, counted))
          c.in_ok-made.made.turns
          (all_few c.max-most.result c.in_ok-made.made.turns c.in_ok-made.made.turn ran.made) in
          omega (arith, recent, counted);
      stops = turn_stops g (goal.at.turns-preserved g c).After-run_some;
      faults = search rules;
    }
