-- What emptying the files of a step, part by part, changes and leaves.
use Rattle.std.proofs.Common.{◌≡◌, ◌∙◌, ℕ, ◌+◌, ◌<◌, Bool, [], sym, ap, subst, inl, inr, arith}
use Rattle.std.specs.Prelude.{Result, Ok}
use Rattle.std.proofs.lemmas.Bool.{cases_lt}
use Rattle.shelf_model.specs.declared.file_no.FileNo.{FileNo}
use Rattle.shelf_model.specs.declared.fault.Failed.{Failed}
use Rattle.shelf_model.specs.File.{File}
use Rattle.shelf_model.specs.World.{World, now, file}
use Rattle.shelf_model.specs.Calls.{Told, WasCut}
use Rattle.shelf_model.specs.Moments.{Ran, OnlyChanged}
use Rattle.shelf_model.proofs.Changing.{changes_none, told_changed_then}
use Rattle.shelf_model.proofs.Runs.{told, ran_call}

module _ {S : Type 0} (tells : S → Bool) (world : S → World) (these : FileNo → Type 0) where
  -- one of these files was cut behind others
  pub cut_then : (f : FileNo) (r : Result Unit Failed) (old mid new : S) → these f
      → Told tells old mid (Ran (OnlyChanged these (now (world old))) (world old) (world mid))
      → Told tells mid new (WasCut f 0 r (world mid) (world new))
      → Told tells old new (Ran (OnlyChanged these (now (world old))) (world old) (world new))
  cut_then f r old mid new one first did =
      told_changed_then tells world these (λ q. q ≡ f) old mid new (λ q same. subst these (sym same) one) first
      (told tells mid new _ _ did (λ _ was.
      ran_call (world mid) (world new) (OnlyChanged (λ q. q ≡ f) (now (world mid))) was.shelf (changes_none (λ q. q ≡ f) (now (world mid)).folder) was.others))

-- the file of a part that was cut well is empty, and so are those of the parts before it that were
pub emptied_then : (these : FileNo → Type 0) (step part : ℕ) (old new : World) → ((f : FileNo) → these f → f.step ≡ step)
    → ((f : FileNo) → these f → f.part < part → (file old f).bytes ≡ []) → WasCut (record { step = step; part = part }) 0 (Ok tt) old new
    → (f : FileNo) → these f → f.part < part + 1 → (file new f).bytes ≡ []
emptied_then these step part old new of_step before was f one less = elim (cases_lt f.part part) [
  | inl earlier ↦
      ap (λ (x : File). x.bytes) (was.others f (λ same.
      let parts : f.part ≡ part = ap (λ (q : FileNo). q.part) same in omega (arith, earlier, parts))) ∙ before f one earlier
  | inr beyond ↦
      let parts : f.part ≡ part = omega (arith, less, beyond) in
      let same : f ≡ record { step = step; part = part } = λ j. record { step = of_step f one j; part = parts j } in
      subst (λ q. (file new q).bytes ≡ []) (sym same) (ap (λ (x : File). x.bytes) was.ok)
]
