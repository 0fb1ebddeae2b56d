-- Files of a step whose parts weren't taken: no sweep of it fills one, nor what goes before it or follows.
use Rattle.std.proofs.Common.{◌≡◌, ◌<◌, ◌≤◌, ◌∙◌, ℕ, ap, subst, inl, inr, arith}
use Rattle.shelf_model.specs.declared.file_no.FileNo.{FileNo}
use Rattle.shelf_model.specs.File.{File}
use Rattle.shelf_model.specs.Moments.{Ran, OnlyChanged}
use Rattle.shelf_model.specs.World.{World, now, file}
use Rattle.shelf_model.proofs.Runs.{ran_end}
use Rattle.sweep_core.specs.declared.checkpoint.Checkpoint.{Checkpoint}
use Rattle.sweep_core.specs.Accounts.{CanBeTaken, NoneFilled, StayEmpty}
use Rattle.sweep_core.specs.Carries.{OnlyCutBehind}
use Rattle.sweep_core.specs.Saving.{IsMadePart, IsOfStep}
use Rattle.sweep_core.proofs.Untaken.{none_changed, none_made, none_then}
use Rattle.step_sweeps.specs.Ended.{IsOfPoints}
use Rattle.step_sweeps.specs.Made.{node_file}

-- the part of a file that a sweep makes can't be taken any more
made_taken : (step next last : ℕ) (f : FileNo) → 3 ≤ next → next ≤ last → IsMadePart step next f
    → ¬ CanBeTaken step last f
made_taken step next last f first more mine free =
    let from : last ≤ f.part = free.from in
    elim mine.part [
      | inl nodes ↦ absurd (omega (arith, nodes, from, first, more))
      | inr part ↦ (let below = part.2 in absurd (omega (arith, below, from, more)))
    ]

-- a sweep was begun or rebuilt, and then run and saved
pub none_swept : (makes operands : FileNo → Type 0) (step next last : ℕ) (old mid new : World)
    → IsOfStep makes operands step next → next ≤ last → NoneFilled step next old mid
    → StayEmpty makes step last mid new → NoneFilled step last old new
none_swept makes operands step next last old mid new files more first stay =
    none_then step next last old mid new more first (none_made makes step last mid new
    (λ f mine. made_taken step next last f files.parts more (files.made f mine)) stay)

-- a rebuild cuts files that were made
pub none_cut : (c : Checkpoint) (rests : FileNo → ℕ → Type 0) (step : ℕ) (old new : World) → c.step ≡ step
    → 3 ≤ c.next_part → Ran (OnlyCutBehind c rests (now old)) old new → NoneFilled step c.next_part old new
none_cut c rests step old new is first ran =
    let only : OnlyCutBehind c rests (now old) (now new) = ran_end old new (OnlyCutBehind c rests (now old)) ran in
    let none : NoneFilled c.step c.next_part old new = λ f free empty.
    ap (λ (x : File). x.bytes)
    (only.unmade f (λ mine. made_taken c.step c.next_part c.next_part f first (omega arith) mine free)) ∙ empty in
    subst (λ k. NoneFilled k c.next_part old new) is none

-- each file is as it was
pub none_quiet : (step next : ℕ) (old new : World) → ((f : FileNo) → file new f ≡ file old f)
    → NoneFilled step next old new
none_quiet step next old new same f free empty = ap (λ (x : File). x.bytes) (same f) ∙ empty

-- files below the step's first arcs were changed
none_below : (these : FileNo → Type 0) (step next : ℕ) (old new : World) → 3 ≤ next
    → ((f : FileNo) → these f → f.part < 3) → Ran (OnlyChanged these (now old)) old new → NoneFilled step next old new
none_below these step next old new first low ran = none_changed these step next old new
    (λ f is free. let part : f.part < 3 = low f is in let from : next ≤ f.part = free.from in
    absurd (omega (arith, part, from, first))) ran

-- only the step's node file was
pub none_by_nodes : (step next : ℕ) (old new : World) → 3 ≤ next
    → Ran (OnlyChanged (λ q. q ≡ node_file step) (now old)) old new → NoneFilled step next old new
none_by_nodes step next old new first ran = none_below (λ q. q ≡ node_file step) step next old new first
    (λ f is. let part : f.part ≡ 0 = ap (λ (x : FileNo). x.part) is in omega (arith, part)) ran

-- only its checkpoints and their gate were
pub none_by_points : (step next : ℕ) (old new : World) → 3 ≤ next
    → Ran (OnlyChanged (IsOfPoints step) (now old)) old new → NoneFilled step next old new
none_by_points step next old new first ran = none_below (IsOfPoints step) step next old new first low ran
  where
    low : (f : FileNo) → IsOfPoints step f → f.part < 3
    low f (inl points) = let part : f.part ≡ 1 = ap (λ (x : FileNo). x.part) points in omega (arith, part)
    low f (inr gate) = let part : f.part ≡ 2 = ap (λ (x : FileNo). x.part) gate in omega (arith, part)

-- a sweep that makes the node file alone, which was cut before
pub none_on_nodes : (makes : FileNo → Type 0) (step next last : ℕ) (old mid new : World) → 3 ≤ next → next ≤ last
    → ((f : FileNo) → makes f → f ≡ node_file step)
    → Ran (OnlyChanged (λ q. q ≡ node_file step) (now old)) old mid → StayEmpty makes step last mid new
    → NoneFilled step last old new
none_on_nodes makes step next last old mid new first more only ran stay =
    none_then step next last old mid new more (none_by_nodes step next old mid first ran)
    (none_made makes step last mid new
    (λ f mine free. let part : f.part ≡ 0 = ap (λ (x : FileNo). x.part) (only f mine) in
    let from : last ≤ f.part = free.from in absurd (omega (arith, part, from, first, more))) stay)
