-- A rebuild of a sweep that makes a step's arcs of files of earlier steps cuts its files behind the checkpoints alone.
use Rattle.std.proofs.Common.{◌≡◌, ◌≢◌, ◌∙◌, ℕ, ap, subst, inl, inr, arith}
use Rattle.std.proofs.lemmas.Bool.{cases_eq, cases_lt}
use Rattle.std.proofs.lemmas.List.Elements.{All-get_or}
use Rattle.shelf_model.specs.declared.file_no.FileNo.{FileNo}
use Rattle.shelf_model.specs.Moments.{OnlyChanged}
use Rattle.shelf_model.specs.World.{Moment}
use Rattle.run_tiers.specs.declared.run.Run.{Run}
use Rattle.run_tiers.specs.Tables.{IsInUse, IsSlot}
use Rattle.sweep_core.specs.declared.checkpoint.Checkpoint.{Checkpoint}
use Rattle.sweep_core.specs.Carries.{IsBehindPoints, OnlyCutBehind}
use Rattle.top_down_sweep.specs.declared.beginning.OperandFiles.{OperandFiles}
use Rattle.top_down_sweep.specs.ResumeLaws.{one_machine}
use Rattle.top_down_sweep.specs.Resumes.{HasQueue, Fits, Names, RestsOn, OnOperand, OnInner, OnEnds, OnRun}
use Rattle.tuple_asks.specs.SavedRules.{IsOfRuns, table_in}
use Rattle.tuple_asks.specs.Resuming.{saved_files}
use Rattle.resumable.specs.Diagrams.{arcs_of}
use Rattle.step_sweeps.specs.Given.{AreEarlier}

-- a run of a step's queue is none of its nodes
queue_apart : (c : Checkpoint) (f : FileNo) → HasQueue c → IsOfRuns c.step (table_in c 0).runs f → f.part ≢ 0
queue_apart c f queue (k, r, within, is, (used, file_is)) same =
    let lawful : IsSlot r = subst (λ (q : Run). IsInUse q → IsSlot q) is
    (All-get_or (λ (q : Run). IsInUse q → IsSlot q) (table_in c 0).runs k r within queue.are.first.slots) used in
    let part = ap (λ (g : FileNo). g.part) file_is in
    let from = lawful.past_made in
    absurd (omega (arith, from, part, same))

module _ {O : Type 0} (o : _) (n : ℕ) (operands : OperandFiles) (number : ℕ) (c : Checkpoint)
    (fits : Fits {O = O} o c) (names : Names {O = O} o c (arcs_of n operands number)) (step_is : c.step ≡ number)
    (earlier : AreEarlier number operands) where
  -- it doesn't rest on the step's nodes
  no_nodes : (f : FileNo) (many : ℕ) → f.step ≡ number → f.part ≡ 0 → ¬ (RestsOn {O = O} o c f many)
  no_nodes f many own none on =
      let named : on.saved ≡ names.saved =
      one_machine o c on.saved names.saved on.operation names.operation on.holds names.holds in
      let files : saved_files on.saved ≡ (arcs_of n operands number).files =
      (λ i. saved_files (named i)) ∙ names.files_are in
      elim on.rests [
        | OnOperand (inl is) ↦ (let same = ap (λ (x : FileNo). x.step) (is ∙ (λ i. (files i).first)) in
            let before = earlier.first in absurd (omega (arith, own, same, before)))
        | OnOperand (inr (inl is)) ↦ (let same = ap (λ (x : FileNo). x.step) (is ∙ (λ i. (files i).second)) in
            let before = earlier.second in absurd (omega (arith, own, same, before)))
        | OnOperand (inr (inr is)) ↦ (let same = ap (λ (x : FileNo). x.step) (is ∙ (λ i. (files i).third)) in
            let before = earlier.third in absurd (omega (arith, own, same, before)))
        | OnInner is upto ↦ (let same = ap (λ (x : FileNo). x.part) (is ∙ (λ i. (files i).inner)) in
            absurd (omega (arith, none, same)))
        | OnEnds is upto ↦ (let same = ap (λ (x : FileNo). x.part) (is ∙ (λ i. (files i).ends)) in
            absurd (omega (arith, none, same)))
        | OnRun (slot, r, within, at, (used, file_is, upto)) ↦
            absurd (queue_apart c f fits.queue (slot, r, within, at, (used, file_is)) none)
      ]

  pub cut_behind_points : (old m : Moment) → OnlyCutBehind c (RestsOn {O = O} o c) old m
      → OnlyChanged (IsBehindPoints number) old m
  cut_behind_points old m cut f outside = elim (cases_eq f.step number) [
    | inr other ↦ cut.unmade f (λ made. other (made.step_is ∙ step_is))
    | inl own ↦ elim (cases_lt f.part 3) [
      | inr from ↦ absurd (outside (record { step_is = own; from = omega (arith, from) }))
      | inl below ↦ elim (cases_eq f.part 0) [
        | inl none ↦ cut.others f (no_nodes f 0 own none)
        | inr some ↦ cut.unmade f (λ made. elim made.part [
          | inl none ↦ some none
          | inr arcs ↦ (let from = arcs.0 in absurd (omega (arith, from, below)))
        ])
      ]
    ]
  ]
