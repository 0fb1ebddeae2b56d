-- What a checkpoint of the sweep that makes a step's arcs rests on, of the files of arcs, is a front that is there.
use Rattle.std.proofs.Common.{◌≡◌, ◌∙◌, ℕ, ◌+◌, ◌^◌, ◌≤◌, List, length, ap, sym, subst, inl, inr, arith}
use Rattle.shelf_model.specs.declared.file_no.FileNo.{FileNo}
use Rattle.sweep_core.specs.declared.checkpoint.Checkpoint.{Checkpoint}
use Rattle.tuple_asks.specs.declared.files.Files.{Files}
use Rattle.top_down_sweep.specs.ResumeLaws.{one_machine}
use Rattle.tuple_asks.specs.SavedRules.{KeepsRules}
use Rattle.top_down_sweep.specs.Resumes.{Fits, Names, RestsOn, IsRest, OnOperand, OnInner, OnEnds, OnRun}
use Rattle.tuple_asks.specs.Resuming.{saved_files}
use Rattle.top_down_sweep.specs.Sweeps.{SweepTask, IsMade}
use Rattle.resumable.proofs.MadeFronts.{AreThere}

-- it rests on no more of a file of arcs than the longest file has
module _ (c : Checkpoint) (m : _) (rules : KeepsRules c m) where
  inner_front : (f : FileNo) (n : ℕ) → f ≡ m.arcs.inner → IsRest c m f n → n ≤ 2 ^ 50
  inner_front f n is (OnOperand (inl first)) = absurd (rules.first.not_inner (sym first ∙ is))
  inner_front f n is (OnOperand (inr (inl second))) = absurd (rules.second.not_inner (sym second ∙ is))
  inner_front f n is (OnOperand (inr (inr third))) = absurd (rules.third.not_inner (sym third ∙ is))
  inner_front f n is (OnInner same upto) = let few = rules.arcs.inner_few in omega (arith, upto, few)
  inner_front f n is (OnEnds other upto) = absurd (rules.arcs.two_files (sym is ∙ other))
  inner_front f n is (OnRun (slot, r, within, at, (used, file_is, upto))) =
      absurd (rules.no_runs.inner (slot, r, within, at, (used, sym is ∙ file_is)))

  ends_front : (f : FileNo) (n : ℕ) → f ≡ m.arcs.ends → IsRest c m f n → n ≤ 2 ^ 50
  ends_front f n is (OnOperand (inl first)) = absurd (rules.first.not_ends (sym first ∙ is))
  ends_front f n is (OnOperand (inr (inl second))) = absurd (rules.second.not_ends (sym second ∙ is))
  ends_front f n is (OnOperand (inr (inr third))) = absurd (rules.third.not_ends (sym third ∙ is))
  ends_front f n is (OnInner other upto) = absurd (rules.arcs.two_files (sym other ∙ is))
  ends_front f n is (OnEnds same upto) = let few = rules.arcs.ends_few in omega (arith, upto, few)
  ends_front f n is (OnRun (slot, r, within, at, (used, file_is, upto))) =
      absurd (rules.no_runs.ends (slot, r, within, at, (used, sym is ∙ file_is)))

made_front : {O : Type 0} (o : _) (c : Checkpoint) (task : SweepTask) → Fits {O = O} o c → Names {O = O} o c task
    → (f : FileNo) → IsMade task.files f → (n : ℕ) → RestsOn {O = O} o c f n → n ≤ 2 ^ 50
made_front o c task fits names f made n on =
    let named : on.saved ≡ names.saved =
    one_machine o c on.saved names.saved on.operation names.operation on.holds names.holds in
    let files : saved_files on.saved ≡ task.files = (λ i. saved_files (named i)) ∙ names.files_are in
    let rules : KeepsRules c on.saved = subst (KeepsRules c)
    (one_machine o c fits.saved on.saved fits.operation on.operation fits.holds on.holds) fits.rules in
    elim made [
      | inl inner ↦ inner_front c on.saved rules f n (inner ∙ ap (λ (x : Files). x.inner) (sym files)) on.rests
      | inr ends ↦ ends_front c on.saved rules f n (ends ∙ ap (λ (x : Files). x.ends) (sym files)) on.rests
    ]

-- so where all that it rests on is there, that front is
pub front_there : {O : Type 0} (o : _) (c : Checkpoint) (task : SweepTask) → Fits {O = O} o c → Names {O = O} o c task
    → (r : FileNo → List ℕ) → AreThere (RestsOn {O = O} o c) r → (f : FileNo) → IsMade task.files f → (n : ℕ)
    → RestsOn {O = O} o c f n → n ≤ length (r f)
front_there o c task fits names r there f made n on = elim (there f n on) [
  | inl within ↦ within
  | inr all ↦
      let many = made_front o c task fits names f made (2 ^ 50 + 1) (all (2 ^ 50 + 1)) in
      absurd (omega (arith, many))
]
