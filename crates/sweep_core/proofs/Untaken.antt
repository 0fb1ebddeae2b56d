-- Files whose parts weren't taken: what is in them stays.
use Rattle.std.proofs.Common.{ℕ, ◌<◌, ◌≤◌, ◌∙◌, ap, inl, inr, arith}
use Rattle.shelf_model.specs.declared.file_no.FileNo.{FileNo}
use Rattle.shelf_model.specs.File.{File}
use Rattle.shelf_model.specs.Folder.{Folder, file_in}
use Rattle.shelf_model.specs.Moments.{Ran, Stays, OnlyChanged}
use Rattle.shelf_model.specs.World.{World, now}
use Rattle.shelf_model.proofs.Runs.{ran_end}
use Rattle.run_tiers.specs.declared.parts.Parts.{Parts}
use Rattle.run_tiers.specs.Parts.{IsTaken, OnlyTaken, Spilled}
use Rattle.run_tiers.specs.Syncs.{Froze}
use Rattle.sweep_core.specs.Accounts.{CanBeTaken, NoneFilled, StayEmpty}

-- a part that can still be taken wasn't
not_taken : (before after : Parts) (step : ℕ) (f : FileNo) → CanBeTaken step after.next f → ¬ IsTaken before after f
not_taken before after step f free taken =
    let below : f.part < after.next = taken.below in
    let from : after.next ≤ f.part = free.from in
    absurd (omega (arith, below, from))

-- where no file changed
pub stays_empty : (makes : FileNo → Type 0) (step next : ℕ) (old new : World) → Ran (Stays (now old)) old new
    → StayEmpty makes step next old new
stays_empty makes step next old new ran f other free empty =
    ap (λ (d : Folder). (file_in d f).bytes) (ran_end old new (Stays (now old)) ran) ∙ empty

-- where only files of parts that were taken did
pub spilled_empty : (makes : FileNo → Type 0) (step : ℕ) (before after : Parts) (old new : World)
    → Spilled before after old new → StayEmpty makes step after.next old new
spilled_empty makes step before after old new spilled f other free empty =
    ap (λ (x : File). x.bytes)
    (ran_end old new (OnlyTaken before after (now old)) spilled f (not_taken before after step f free)) ∙ empty

-- and where others were made sure
pub froze_empty : (makes these : FileNo → Type 0) (step : ℕ) (before after : Parts) (old new : World)
    → Ran (Froze these before after (now old)) old new → StayEmpty makes step after.next old new
froze_empty makes these step before after old new froze f other free empty =
    elim (ran_end old new (Froze these before after (now old)) froze f (not_taken before after step f free)) [
      | inl same ↦ ap (λ (x : File). x.bytes) same ∙ empty
      | inr firm ↦ ap (λ (x : File). x.bytes) firm.1 ∙ empty
    ]

-- where the parts of those that are made were taken, none is filled from there on
pub none_made : (makes : FileNo → Type 0) (step next : ℕ) (old new : World)
    → ((f : FileNo) → makes f → ¬ CanBeTaken step next f) → StayEmpty makes step next old new
    → NoneFilled step next old new
none_made makes step next old new taken stay f free empty = stay f (λ mine. taken f mine free) free empty

-- nor where all that changed had parts that were taken
pub none_changed : (these : FileNo → Type 0) (step next : ℕ) (old new : World)
    → ((f : FileNo) → these f → ¬ CanBeTaken step next f) → Ran (OnlyChanged these (now old)) old new
    → NoneFilled step next old new
none_changed these step next old new taken ran f free empty =
    ap (λ (x : File). x.bytes) (ran_end old new (OnlyChanged these (now old)) ran f (λ mine. taken f mine free)) ∙ empty

-- nor by two calls, of which the second one took further parts
pub none_then : (step next last : ℕ) (old mid new : World) → next ≤ last → NoneFilled step next old mid
    → NoneFilled step last mid new → NoneFilled step last old new
none_then step next last old mid new more first second f free empty =
    second f free (first f (let from : last ≤ f.part = free.from in
    record { step_is = free.step_is; from = omega (arith, from, more) }) empty)
