-- How a file is cut behind a length.
use Rattle.std.proofs.Common.{◌≡◌, ℕ, ◌+◌, ◌≤◌, ◌∙◌, Bool, List, take, refl, sym, ap, subst, inl, inr, arith}
use Rattle.std.specs.Prelude.{Result, Ok, Err}
use Rattle.std.proofs.lemmas.List.{take-take}
use Rattle.shelf_model.specs.declared.file_no.FileNo.{FileNo}
use Rattle.shelf_model.specs.declared.fault.Failed.{Failed}
use Rattle.shelf_model.specs.File.{File}
use Rattle.shelf_model.specs.World.{Moment, World, now, file}
use Rattle.shelf_model.specs.Calls.{Told, Measured, WasCut}
use Rattle.shelf_model.proofs.Files.{kept_cut}
use Rattle.shelf_model.proofs.Runs.{told, told_then, ran_call, ran_on}
use Rattle.block_stream.specs.Writes.{DuringCut, Cut}

-- what stands before the cut is read as it was
cut_reads : (f : FileNo) (to n : ℕ) (result : Result Unit Failed) (old new : World) → n ≤ to → WasCut f to result old new
    → take n (file new f).bytes ≡ take n (file old f).bytes
cut_reads f to n (Ok x) old new within did =
    ap (λ (y : File). take n y.bytes) did.ok ∙ take-take n to (file old f).bytes within
cut_reads f to n (Err e) old new within did = elim did.failed.which [
  | inl same ↦ ap (take n) same
  | inr cut ↦ ap (take n) cut ∙ take-take n to (file old f).bytes within
]

cut_leaves : (f : FileNo) (to : ℕ) (result : Result Unit Failed) (old new : World) → WasCut f to result old new
    → DuringCut f to (now old) (now new)
cut_leaves f to result old new did = record {
  others = did.others;
  reads = λ n within. cut_reads f to n result old new within did;
  kept = λ front within. kept_cut f to result old new front within did;
}

-- a file that wasn't cut yet
uncut : (f : FileNo) (to : ℕ) (m : Moment) → DuringCut f to m m
uncut f to m = record {
  others = λ q other. refl;
  reads = λ n within. refl;
  kept = λ front within kept. kept;
}

module _ {S : Type 0} (tells : S → Bool) (world : S → World) (f : FileNo) (to : ℕ) where
  -- a call that cuts
  pub one_cut : (result : Result Unit Failed) (old new : S)
      → Told tells old new (WasCut f to result (world old) (world new))
      → Told tells old new (Cut 1 f to (world old) (world new))
  one_cut result old new call = told tells old new _ _ call (λ _ did. record {
    run = ran_call (world old) (world new) (DuringCut f to (now (world old))) did.shelf
        (uncut f to (now (world old))) (cut_leaves f to result (world old) (world new) did);
    few = (let ticks = did.shelf.ticks.clock_is in omega (arith, ticks));
  })

  -- and one that cuts behind a call for a length
  pub then_cut : {r : Result ℕ Failed} (result : Result Unit Failed) (old mid new : S)
      → Told tells old mid (Measured f r (world old) (world mid))
      → Told tells mid new (WasCut f to result (world mid) (world new))
      → Told tells old new (Cut 2 f to (world old) (world new))
  then_cut result old mid new first second = told_then tells old mid new _ _ _ first second (λ _ measured did. record {
    run = ran_on (world old) (world mid) (world new) (DuringCut f to (now (world old)))
        (ran_call (world old) (world mid) (DuringCut f to (now (world old))) measured.shelf
        (uncut f to (now (world old)))
        (subst (DuringCut f to (now (world old))) (sym measured.same) (uncut f to (now (world old))))) did.shelf
        (subst (λ m. DuringCut f to m (now (world new))) measured.same
        (cut_leaves f to result (world mid) (world new) did));
    few = (let one = measured.shelf.ticks.clock_is in let two = did.shelf.ticks.clock_is in omega (arith, one, two));
  })
