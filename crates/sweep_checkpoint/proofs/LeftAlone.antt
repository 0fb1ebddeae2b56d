-- The files that a sweep and its saves leave alone keep their bytes.
use Rattle.std.proofs.Common.{◌≡◌, ℕ, ◌≤◌, Bool, IsTrue, ap, ◌∙◌, inl, inr, arith}
use Rattle.std.specs.Prelude.{Option}
use Rattle.shelf_model.specs.declared.file_no.FileNo.{FileNo}
use Rattle.shelf_model.specs.File.{File}
use Rattle.shelf_model.specs.Folder.{file_in}
use Rattle.shelf_model.specs.World.{Moment, World, now}
use Rattle.shelf_model.specs.Calls.{Told}
use Rattle.shelf_model.specs.Moments.{Ran, OnlyChanged}
use Rattle.shelf_model.proofs.Runs.{ran_end}
use Rattle.sweep_core.specs.declared.checkpoint.Checkpoint.{Checkpoint}
use Rattle.file_numbers.specs.Files.{inner_part}
use Rattle.sweep_core.specs.Accounts.{CanBeTaken, StayEmpty}
use Rattle.sweep_core.specs.Carries.{OnlySaved}
use Rattle.sweep_checkpoint.specs.Saves.{DuringSave}
use Rattle.sweep_checkpoint.specs.Retires.{IsGivenUp, Emptied}
use Rattle.sweep_checkpoint.specs.Going.{IsLeftAlone}
use Rattle.sweep_checkpoint.proofs.SavedHere.{IsCarried}

-- at a moment the bytes are as they were
abbrev IsUnchanged : FileNo → Moment → Moment → Type 0
IsUnchanged f old m = (file_in m.folder f).bytes ≡ (file_in old.folder f).bytes

-- what is left alone from a part number on, is so from a later one on: what can be taken then could be taken before
pub alone_later : (makes makes_now : FileNo → Type 0) (step next later : ℕ) (f : FileNo)
    → ((q : FileNo) → makes_now q → makes q) → next ≤ later → IsLeftAlone makes step next f
    → IsLeftAlone makes_now step later f
alone_later makes makes_now step next later f made more alone = record {
  unmade = λ mine. alone.unmade (made f mine);
  untaken = λ (free : CanBeTaken step later f).
      let from = free.from in
      alone.untaken (record { step_is = free.step_is; from = omega (arith, from, more) });
  below = alone.below;
  not_points = alone.not_points;
  not_gate = alone.not_gate;
}

-- while a sweep goes on, and while it is made ready to be saved
pub alone_saved : (makes : FileNo → Type 0) (step next : ℕ) (f : FileNo) (old m : Moment)
    → OnlySaved makes step next old m → IsLeftAlone makes step next f → IsUnchanged f old m
alone_saved makes step next f old m saved alone = elim (saved.others f alone.unmade alone.untaken) [
  | inl same ↦ ap (λ (x : File). x.bytes) same
  | inr firm ↦ ap (λ (x : File). x.bytes) firm.1
]

-- while it is saved
alone_save : (makes : FileNo → Type 0) (c : Checkpoint) (next : ℕ) (f : FileNo) (old m : Moment)
    → DuringSave c old m → IsLeftAlone makes c.step next f → IsUnchanged f old m
alone_save makes c next f old m saves alone =
    ap (λ (x : File). x.bytes) (saves.others f alone.not_points alone.not_gate)

-- while older runs are given up
alone_retire : (makes : FileNo → Type 0) (older : Option Checkpoint) (c : Checkpoint) (next : ℕ) (f : FileNo)
    (old m : Moment) → OnlyChanged (IsGivenUp older c) old m → IsLeftAlone makes c.step next f → IsUnchanged f old m
alone_retire makes older c next f old m only alone =
    let below = alone.below in
    ap (λ (x : File). x.bytes) (only f (λ gone. let from = gone.from in absurd (omega (arith, from, below))))

-- of the files behind the parts that were taken none is filled while a sweep is saved
pub saved_empty : (makes these : FileNo → Type 0) (c : Checkpoint) (step next : ℕ) (old mid new end : World)
    → c.step ≡ step → inner_part ≤ next → StayEmpty makes step next old mid → DuringSave c (now mid) (now new)
    → Emptied these new end → StayEmpty makes step next old end
saved_empty makes these c step next old mid new end same parts carried saves retired f other free empty =
    let from : next ≤ f.part = free.from in
    retired.still f (ap (λ (x : File). x.bytes) (saves.others f
    (λ is. let part = ap (λ (q : FileNo). q.part) is in absurd (omega (arith, from, parts, part)))
    (λ is. let part = ap (λ (q : FileNo). q.part) is in absurd (omega (arith, from, parts, part))))
    ∙ carried f other free empty)

-- behind each of the calls of a save
module _ {S : Type 0} (tells : S → Bool) (world : S → World) (makes operands : FileNo → Type 0) (next later : ℕ)
    (d : Checkpoint) (f : FileNo) where
  abbrev Stays : S → S → Type 0
  Stays old new = IsLeftAlone makes d.step next f → IsUnchanged f (now (world old)) (now (world new))

  abbrev Carried : S → S → Type 0
  Carried = IsCarried tells world makes operands next later d

  abbrev Saves : S → S → Type 0
  Saves mid new = Told tells mid new (Ran (DuringSave d (now (world mid))) (world mid) (world new))

  abbrev Retires : Option Checkpoint → S → S → Type 0
  Retires older new end = Told tells new end
      (Ran (OnlyChanged (IsGivenUp older d) (now (world new))) (world new) (world end))

  pub carry_alone : (old mid : S) → Carried old mid → IsTrue (tells mid) → Stays old mid
  carry_alone old mid carried told alone =
      alone_saved makes d.step next f (now (world old)) (now (world mid))
      (ran_end (world old) (world mid) (OnlySaved makes d.step next (now (world old))) (carried.content.did told)) alone

  pub save_alone : (old mid new : S) → Carried old mid → Saves mid new → IsTrue (tells new) → Stays old new
  save_alone old mid new carried saves told alone =
      alone_save makes d next f (now (world mid)) (now (world new))
      (ran_end (world mid) (world new) (DuringSave d (now (world mid))) (saves.did told)) alone
      ∙ carry_alone old mid carried (saves.before told) alone

  pub retire_alone : (older : Option Checkpoint) (old mid new end : S) → Carried old mid → Saves mid new
      → Retires older new end → IsTrue (tells end) → Stays old end
  retire_alone older old mid new end carried saves retires told alone =
      alone_retire makes older d next f (now (world new)) (now (world end))
      (ran_end (world new) (world end) (OnlyChanged (IsGivenUp older d) (now (world new))) (retires.did told)) alone
      ∙ save_alone old mid new carried saves (retires.before told) alone
