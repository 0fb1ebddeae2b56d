-- What pays for going on with a step of a run: what did at first, for the first step that wasn't committed then, and
-- nothing for those behind it.
use Rattle.std.proofs.Common.{◌≡◌, ◌∙◌, ℕ, ◌+◌, ◌-◌, ◌*◌, ◌<◌, ◌≤◌, Bool, true, false, cond, nat_lt, List, [], ◌∷◌, length, take, refl, sym, ap, ap₂, subst, inl, inr, arith}
use Rattle.std.specs.Prelude.{IsTrue, Some}
use Rattle.std.specs.List.{list_all, sum_by}
use Rattle.std.proofs.lemmas.Bool.{cases_lt, and_parts, lt-ltb, le-ltb}
use Rattle.std.proofs.lemmas.List.Sums.{sum_by-cons}
use Rattle.bool_tables.specs.declared.steps.Step.{Step}
use Rattle.bool_tables.specs.Plans.{IsWellFormed, is_live, operands}
use Rattle.shelf_model.specs.declared.file_no.FileNo.{FileNo}
use Rattle.shelf_model.specs.File.{File}
use Rattle.shelf_model.specs.Folder.{Folder, Image, file_in, bytes_in, AreFiles}
use Rattle.shelf_model.proofs.Images.{chosen, standing_image}
use Rattle.catalogue.specs.Counts.{present, is_stored, count_in}
use Rattle.file_numbers.specs.Files.{checkpoint_file}
use Rattle.step_work.specs.Plans.{no_step}
use Rattle.node_reading.specs.Reading.{count_of}
use Rattle.sweep_core.specs.declared.checkpoint.Checkpoint.{Checkpoint}
use Rattle.sweep_checkpoint.specs.Gated.{last_gated, last_of}
use Rattle.sweep_checkpoint.specs.Loads.{Tells}
use Rattle.step_sweeps.specs.Going.{rest_calls}
use Rattle.sound_image.specs.Files.{node_file, checkpoint_gate}
use Rattle.sound_image.specs.Jobs.{Job, step_at}
use Rattle.sound_image.specs.Holds.{AreSound}
use Rattle.sound_image.proofs.AttachLaws.{standing, none_behind_first}
use Rattle.step_engine.specs.Running.{nodes_read, PaysRest}
use Rattle.sound_image.proofs.Live.{live_below}
use Rattle.step_engine.proofs.PlanLaws.{operands_live, follows_at}
use Rattle.script_runner.specs.Calls.{IsGated, PaysStep, PaysFirst}
use Rattle.script_runner.specs.StepRuns.{KeepsLater}
use Rattle.script_runner.proofs.RunSteps.{KeepsUndropped}
use Rattle.script_runner.proofs.SweepDamage.{live_not_dropped}

-- what remains of what pays for going on, with so many steps committed where so many were at first
pub unpaid : ℕ → ℕ → ℕ → ℕ
unpaid done step rest = cond (nat_lt done step) 0 rest

-- it is no more, and nothing once a step was taken
pub unpaid_few : (done step rest : ℕ) → unpaid done step rest ≤ rest
unfolding unpaid
unpaid_few done step rest = by_test (nat_lt done step)
  where
    by_test : (b : Bool) → cond b 0 rest ≤ rest
    by_test true = omega arith
    by_test false = omega arith

pub none_unpaid : (done step rest : ℕ) → done ≤ step → unpaid done (step + 1) rest ≡ 0
unfolding unpaid
none_unpaid done step rest reached = ap (λ b. cond b 0 rest) (lt-ltb done (step + 1) (omega (arith, reached)))

-- what remains for going on where some is put aside for what is cut
pub unpaid_less : (done step rest : ℕ) → unpaid done step (rest - 64539) - 1606 ≡ unpaid done step rest - 66145
unfolding unpaid
unpaid_less done step rest = by_test (nat_lt done step)
  where
    by_test : (b : Bool) → cond b 0 (rest - 64539) - 1606 ≡ cond b 0 rest - 66145
    by_test true = refl
    by_test false = omega arith

-- where the gate is empty no checkpoint is told, and nothing is paid
pub none_told : (number : ℕ) (r : FileNo → List ℕ) → r (checkpoint_gate number) ≡ [] → (c : Checkpoint)
    → Tells number (last_gated number r) (Some c) → ⊥
none_told number r empty c tells =
    subst (λ found. Tells number found (Some c)) (ap (λ gate. last_of (length gate) (r (checkpoint_file number))) empty) tells

no_checkpoint : (step : Step) (number : ℕ) (r : FileNo → List ℕ) (rest : ℕ) → r (checkpoint_gate number) ≡ [] → PaysRest step number r rest
no_checkpoint step number r rest empty c tells = absurd (none_told number r empty c tells)

-- the same is paid where the same is read of the checkpoints and of the operands
nodes_same : (test : ℕ → Bool) (xs : List ℕ) (old new : FileNo → List ℕ) → IsTrue (list_all test xs)
    → ((k : ℕ) → IsTrue (test k) → new (node_file k) ≡ old (node_file k)) → sum_by (λ k. count_of (new (node_file k))) xs ≡ sum_by (λ k. count_of (old (node_file k))) xs
nodes_same test [] old new each same = refl
nodes_same test (x ∷ xs) old new each same =
    let parts = and_parts (test x) (list_all test xs) each in
    sum_by-cons (λ k. count_of (new (node_file k))) x xs
    ∙ ap₂ (λ a b. a + b) (ap count_of (same x parts.0)) (nodes_same test xs old new parts.1 same)
    ∙ sym (sum_by-cons (λ k. count_of (old (node_file k))) x xs)

pays_still : (step : Step) (number rest : ℕ) (test : ℕ → Bool) (old new : FileNo → List ℕ) → IsTrue (list_all test (operands step))
    → new (checkpoint_gate number) ≡ old (checkpoint_gate number) → new (checkpoint_file number) ≡ old (checkpoint_file number)
    → ((k : ℕ) → IsTrue (test k) → new (node_file k) ≡ old (node_file k)) → PaysRest step number old rest → PaysRest step number new rest
pays_still step number rest test old new each gate points nodes pays c tells =
    let same : last_gated number new ≡ last_gated number old = λ i. last_of (length (gate i)) (points i) in
    let read : nodes_read step new ≡ nodes_read step old = ap (λ n. 3 * n) (nodes_same test (operands step) old new each nodes) in
    subst (λ n. rest_calls (Some c) n + 3890 ≤ rest) (sym read)
    (pays c (subst (λ found. Tells number found (Some c)) same tells))

-- so it is at each step of a run in a folder that was sound at first
pub pays_now : (job : Job) (step rest : ℕ) (old new : Folder) → IsWellFormed job.n job.text job.steps → AreFiles old → AreSound job old
    → count_in (present old) ≤ step → step < length job.steps → KeepsUndropped job.steps (count_in (present old)) step old new → KeepsLater step old new
    → PaysFirst job old rest → PaysStep job step new (unpaid (count_in (present old)) step rest)
unfolding unpaid
pays_now job step rest old new plan files sound reached within keeps later pays = elim (cases_lt (count_in (present old)) step) [
  | inl behind ↦ no_checkpoint (step_at job step).step step (present new)
      (unpaid (count_in (present old)) step rest - 1606)
      (ap (λ (x : File). x.bytes) (of_step (checkpoint_gate step) refl) ∙ none_behind_first job old files sound step behind within)
  | inr first ↦
      let here : step ≡ count_in (present old) = omega (arith, reached, first) in
      let still : PaysStep job step new rest =
      pays_still (step_at job step).step step (rest - 1606) (is_live (take step job.steps)) (present old) (present new)
      (operands_live job.n job.text (take step job.steps) (step_at job step) (follows_at job.n job.text job.steps step no_step within plan))
      (ap (λ (x : File). x.bytes) (of_step (checkpoint_gate step) refl)) (ap (λ (x : File). x.bytes) (of_step (checkpoint_file step) refl))
      (λ k live. ap (λ (x : File). x.bytes) (keeps k
      (let below : k < step = live_below job.steps step k live in omega (arith, below, here))
      (λ j from until. live_not_dropped job.steps step k j until (omega (arith, within)) live)))
      (subst (λ k. PaysStep job k old rest) (sym here) (pays (omega (arith, here, within)))) in
      subst (PaysStep job step new) (ap (λ b. cond b 0 rest) (sym (le-ltb (count_in (present old)) step first))) still
]
  where
    of_step : (f : FileNo) → f.step ≡ step → file_in new f ≡ file_in old f
    of_step f is = let few = plan.few_steps in later f (omega (arith, is)) (omega (arith, is, within, few))

-- whether something is gated of a step stays so while its gate does
pub gated_same : (gated : Bool) (step : ℕ) (old new : Folder) → file_in new (checkpoint_gate step) ≡ file_in old (checkpoint_gate step)
    → IsGated gated step old → IsGated gated step new
gated_same false step old new same none = ap (λ (x : File). x.bytes) same ∙ none
gated_same true step old new same some = λ none. some (ap (λ (x : File). x.bytes) (sym same) ∙ none)

-- and so while files of the steps from it on do
pub gated_now : (job : Job) (gated : Bool) (step : ℕ) (old new : Folder) → IsWellFormed job.n job.text job.steps → step < length job.steps
    → KeepsLater step old new → IsGated gated step old → IsGated gated step new
gated_now job gated step old new plan within later =
    gated_same gated step old new (later (checkpoint_gate step) (omega arith) (let few = plan.few_steps in omega (arith, within, few)))

-- of no step anything is gated, where no job was stored
pub none_unstored : (job : Job) (step : ℕ) (old : Folder) → AreFiles old → AreSound job old → is_stored (present old) ≡ false → step < length job.steps
    → IsGated false step old
none_unstored job step old files sound unstored within =
    let image : Image = chosen (λ _ x. x.bytes) old in
    let read : bytes_in image ≡ present old = λ i f. standing old files f i in
    sym (standing old files (checkpoint_gate step))
    ∙ (sound image (standing_image old files)).resumable.unstored (ap is_stored read ∙ unstored) step (omega arith) within
