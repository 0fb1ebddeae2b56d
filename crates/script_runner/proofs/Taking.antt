-- Steps of a run that are committed together, from the files of the first to their commit and what they leave behind.
use Rattle.std.proofs.Common.{◌≡◌, ◌≢◌, ◌∙◌, ℕ, ◌+◌, ◌-◌, ◌*◌, ◌/◌, ◌^◌, ◌<◌, ◌≤◌, ◌⊎◌, Bool, true, false, cond, if◌then◌else◌, nat_lt, min, List, [], length, take, drop, get_or, refl, sym, ap, subst, inl, inr, arith}
use Rattle.std.specs.Prelude.{IsTrue, Result, Ok, Err, sum_by, zero, suc}
use Rattle.std.specs.List.{list_all}
use Rattle.std.proofs.lemmas.List.{take_more}
use Rattle.std.proofs.lemmas.List.Sums.{sum_by_push}
use Rattle.bool_tables.specs.declared.steps.Step.{Step}
use Rattle.bool_tables.specs.declared.steps.Step.TheVariants.{Const, Var, Pair, Ite, Quantify, Restrict, Drop, Same, Leq, Eval, Size}
use Rattle.bool_tables.specs.declared.steps.Planned.{Planned}
use Rattle.bool_tables.specs.Plans.{IsWellFormed, operands, drops}
use Rattle.shelf_model.specs.declared.file_no.FileNo.{FileNo}
use Rattle.shelf_model.specs.declared.fault.StreamFault.{StreamFault}
use Rattle.shelf_model.specs.declared.fault.StreamFault.TheVariants as stream
use Rattle.shelf_model.specs.declared.sort_fault.SortFault.{SortFault}
use Rattle.shelf_model.specs.declared.sort_fault.SortFault.TheVariants as sort
use Rattle.shelf_model.specs.SortFaults.{handed_on}
use Rattle.shelf_model.specs.Faults.{Faults}
use Rattle.shelf_model.specs.File.{File, firm_file, IsKept}
use Rattle.shelf_model.specs.Folder.{Folder, Image, file_in, bytes_in, IsImage, AreFiles}
use Rattle.shelf_model.specs.World.{Moment, World, now, file}
use Rattle.shelf_model.specs.Calls.{Told}
use Rattle.shelf_model.specs.Moments.{Throughout, Quiet, Ran}
use Rattle.shelf_model.proofs.Runs.{joins, weakens, at_end, ran_weakens, ran_joins, ran_end}
use Rattle.catalogue.specs.declared.layout.Entry.{Entry}
use Rattle.catalogue.specs.Files.{job_step, job_gate, catalogue, step_gate}
use Rattle.catalogue.specs.Counts.{HasCount, present, count_in, entry_at}
use Rattle.catalogue.specs.Entries.{entry_bytes}
use Rattle.catalogue.specs.Commits.{IsReady}
use Rattle.catalogue.proofs.Counted.{ready_counts}
use Rattle.step_work.specs.Tuples.{joins as joins_pieces, sweeps}
use Rattle.sound_image.specs.Files.{node_file}
use Rattle.step_work.specs.Plans.{no_step}
use Rattle.sound_image.specs.Jobs.{Job, step_at}
use Rattle.sound_image.specs.Entries.{IsEntryOfStep, work_of}
use Rattle.sound_image.specs.Holds.{Holds, IsMade, AreResumable, NoneGated}
use Rattle.sound_image.specs.Steps.{IsOwnFile, OnlyOwnFiles, IsCutBy, parts_end}
use Rattle.sound_image.proofs.Numbers.{IsOfStep, not_catalogue, not_step_gate}
use Rattle.sound_image.proofs.Resuming.{AreFew, RestsOnSteps}
use Rattle.sound_image.proofs.StepLaws.{holds_while_made}
use Rattle.step_engine.specs.Simple.{IsStepOf}
use Rattle.step_engine.specs.OneFile.{ChangesFile, OnlyMade}
use Rattle.step_engine.specs.StepEntries.{nameless_entry, one_turn, IsEntryFor}
use Rattle.step_engine.specs.StepFaults.{IsKindFault, IsStepFault, IsSoundFault, IsOfKind}
use Rattle.step_engine.specs.Running.{IsReadyFor, PaysRest}
use Rattle.step_engine.specs.LeftBehind.{most_cut}
use Rattle.step_engine.proofs.EntryLaws.{only_below, operand_kind, for_drop}
use Rattle.step_engine.proofs.PlanLaws.{may_run}
use Rattle.step_engine.proofs.Gated.{gated_point}
use Rattle.script_runner.specs.declared.finish.Finish.{Finish}
use Rattle.script_runner.specs.declared.finish.Finish.TheVariants.{FolderFault, RunsSpent}
use Rattle.script_runner.specs.Calls.{step_calls, calls_before, cut_calls, IsGated, IsCounted, PaysStep}
use Rattle.script_runner.specs.Running.{OthersAre, AreEmptied, IsEntryDamage, IsSweepDamage, IsPointDamage, IsMetDamage, RefusesFolder, IsStop, stood_after}
use Rattle.script_runner.specs.StepRuns.{CountsAbout, IsTaking, HasEntry, HasSteps, HoldsSteps, NamesMet, NamesSpent, NoneDrops, StaysEmpty, KeepsDiagrams, KeepsLater, TakesSteps, stopped_by}
use Rattle.script_runner.specs.Together.{AreDrops, IsEntryWith, IsCountedTo, DuringTogether, AreTogether, IsCutTogether, TidiedTogether}
use Rattle.script_runner.proofs.RunSteps.{drop_below, held_steps, present_count}
use Rattle.script_runner.proofs.TogetherLaws.{entry_with, none_together, sound_together, holds_together, holds_while_cut}
use Rattle.script_runner.proofs.Resting.{rests_on_steps}
use Rattle.script_runner.specs.Anew.{BeganAnew, LackedPoint, IsFound, MakesStep}
use Rattle.script_runner.proofs.Paying.{none_told}

-- each image has so many steps
abbrev pub AllHave : Job → ℕ → Moment → Type 0
AllHave job count m = (image : Image) → IsImage m.folder image → HasSteps job count (bytes_in image)

-- the job's files are as they were
abbrev pub JobStays : Folder → Folder → Type 0
JobStays before after = (f : FileNo) → f.step ≡ job_step → file_in after f ≡ file_in before f

pub ready_same : (count : ℕ) (before after : Folder) → JobStays before after → IsReady count before → IsReady count after
ready_same count before after same ready = record {
  stored = subst (λ (x : File). 0 < x.firm) (sym (same job_gate refl)) ready.stored;
  gate = same step_gate refl ∙ ready.gate ∙ ap (λ (x : File). firm_file x.bytes) (sym (same step_gate refl));
  count = ap (λ (x : File). length x.bytes) (same step_gate refl) ∙ ready.count;
  covers = subst (λ (x : File). 128 * count ≤ length x.bytes) (sym (same catalogue refl)) ready.covers;
}

-- only the step's own files changed
abbrev pub OnlyItsFiles : ℕ → Moment → Moment → Type 0
OnlyItsFiles k old m = OnlyOwnFiles k old.folder m.folder

-- a file that a step changes is its own
pub own_file : (s : Step) (k : ℕ) (f : FileNo) → ChangesFile s k f → IsOwnFile k f
own_file s k f (inl made) = ap (λ (q : FileNo). q.step) made.1
own_file s k f (inr taken) = taken.1

-- and is none of the job's
pub job_apart : (k : ℕ) (f : FileNo) → k < job_step → f.step ≡ job_step → ¬ (IsOwnFile k f)
job_apart k f early job_step own = let steps : f.step ≡ k = own in omega (arith, job_step, steps, early)

-- a step that drops a diagram is that drop
pub dropping : (gone : ℕ) (s : Step) → IsTrue (drops gone s) → s ≡ Drop gone
dropping gone (Const value) dropped = absurd cc
dropping gone (Var level) dropped = absurd cc
dropping gone (Pair op left right) dropped = absurd cc
dropping gone (Ite test if_one if_zero) dropped = absurd cc
dropping gone (Quantify kind operand level) dropped = absurd cc
dropping gone (Restrict operand level value) dropped = absurd cc
dropping gone (Drop dropped_step) dropped = let same : dropped_step ≡ gone = search (arith, dropped) in ap Drop same
dropping gone (Same left right) dropped = absurd cc
dropping gone (Leq left right) dropped = absurd cc
dropping gone (Eval operand at) dropped = absurd cc
dropping gone (Size operand) dropped = absurd cc

-- the file of the diagram that a step drops is that of an earlier step
dropped_below : (k gone : ℕ) (s : Step) → IsTrue (drops gone s) → IsTrue (list_all (λ j. nat_lt j k) (operands s)) → gone < k
dropped_below k gone s dropped earlier =
    only_below k gone (subst (λ x. IsTrue (list_all (λ j. nat_lt j k) (operands x))) (dropping gone s dropped) earlier)

-- a file that is cut behind a step is that of the step or of an earlier one
pub cut_file : (s : Step) (k next : ℕ) (f : FileNo) → IsTrue (list_all (λ j. nat_lt j k) (operands s)) → IsCutBy s k next f → f.step ≤ k
cut_file s k next f earlier (inl (gone, dropped, is)) =
    let below : gone < k = dropped_below k gone s dropped earlier in
    let steps : f.step ≡ gone = ap (λ (q : FileNo). q.step) is in
    omega (arith, below, steps)
cut_file s k next f earlier (inr (swept, own)) = let steps : f.step ≡ k = own.step_is in omega (arith, steps)

-- each image of a folder that is ready has its count
counts_about : (step until count : ℕ) (folder : Folder) → step ≤ count → count ≤ until → IsReady count folder → (image : Image) → IsImage folder image
    → CountsAbout step until (bytes_in image)
counts_about step until count folder low high ready image is_image =
    let has : HasCount count (bytes_in image) = ready_counts count folder image ready is_image in
    let same : count_in (bytes_in image) ≡ count = has.count in
    record { stored = has.stored; no_fewer = omega (arith, same, low); no_more = omega (arith, same, high) }

-- a step that has only begun
pub taking_first : (steps step until : ℕ) (folder : Folder) → step ≤ until → IsReady step folder → IsTaking steps step until folder folder
taking_first steps step until folder within ready = record {
  others = λ f apart. refl;
  counts = counts_about step until step folder (omega arith) within ready;
  kept = λ front short kept. kept;
  reads = refl;
}

-- the job's files stay while a step is taken
pub taking_same : (steps step until count : ℕ) (old before after : Folder) → step ≤ count → count ≤ until → IsReady count before → JobStays before after
    → OthersAre steps before after → IsTaking steps step until old before → IsTaking steps step until old after
taking_same steps step until count old before after low high ready same others so_far = record {
  others = λ f apart. others f apart ∙ so_far.others f apart;
  counts = counts_about step until count after low high (ready_same count before after same ready);
  kept = λ front short kept. subst (IsKept front) (sym (same catalogue refl)) (so_far.kept front short kept);
  reads = ap (λ (x : File). take (128 * step) x.bytes) (same catalogue refl) ∙ so_far.reads;
}

-- while they are committed
taking_commits : (steps : ℕ) (plan : List Planned) (step end until : ℕ) (e : Entry) (old : Folder) (mid m : Moment) → e.number ≡ step → end ≤ until
    → IsTaking steps step until old mid.folder → DuringTogether plan e end mid m → IsTaking steps step until old m.folder
taking_commits steps plan step end until e old mid m number within so_far during = record {
  others = λ f apart.
      during.others f (λ same. apart (inr (ap (λ (q : FileNo). q.step) same))) (λ same. apart (inr (ap (λ (q : FileNo). q.step) same))) ∙ so_far.others f apart;
  counts = λ image is_image.
      let counted : IsCountedTo plan e end (bytes_in image) = during.images image is_image in
      let same : count_in (bytes_in image) ≡ counted.count = counted.counts.count in
      let low = counted.no_fewer in
      let high = counted.no_more in
      record { stored = counted.counts.stored; no_fewer = omega (arith, same, low, number); no_more = omega (arith, same, high, within) };
  kept = λ front short kept. during.kept front (subst (λ k. length front ≤ 128 * k) (sym number) short) (so_far.kept front short kept);
  reads = subst (λ k. take (128 * k) (file_in m.folder catalogue).bytes ≡ take (128 * k) (file_in mid.folder catalogue).bytes) number during.reads ∙ so_far.reads;
}

-- steps from that one on are taken at each moment
abbrev pub Takes : Job → ℕ → ℕ → World → Moment → Type 0
Takes job k until old m = IsTaking (length job.steps) k until (now old).folder m.folder

module _ (job : Job) (k : ℕ) (few : AreFew job) (within : k < length job.steps) where
  early : k < job_step
  early = omega (arith, few, within)

  own_within : (f : FileNo) → IsOwnFile k f → f.step < length job.steps
  own_within f own = let same : f.step ≡ k = own in omega (arith, same, within)

  pub run_made : (until : ℕ) (old new : World) → k ≤ until → IsReady k (now old).folder → Ran (OnlyItsFiles k (now old)) old new → Ran (Takes job k until old) old new
  run_made until old new upto ready run = ran_weakens old new (OnlyItsFiles k (now old)) (Takes job k until old) (λ m only.
      taking_same (length job.steps) k until k (now old).folder (now old).folder m.folder (omega arith) upto ready
      (λ f job_step. only f (job_apart k f early job_step))
      (λ f apart. only f (λ own. apart (inl (own_within f own))))
      (taking_first (length job.steps) k until (now old).folder upto ready)) run

  -- and while a step's files are made
  pub ready_made : (count : ℕ) (old new : World) → Ran (OnlyItsFiles k (now old)) old new → IsReady count (now old).folder → IsReady count (now new).folder
  ready_made count old new made ready = ready_same count (now old).folder (now new).folder
      (λ f job_step. ran_end old new (OnlyItsFiles k (now old)) made f (job_apart k f early job_step)) ready

  -- files of other steps are as they were at each moment of it
  at_moment : (old new : World) → Ran (OnlyItsFiles k (now old)) old new → (j : ℕ) → old.clock ≤ j → j ≤ new.clock
      → OnlyOwnFiles k (now old).folder (new.moment j).folder
  at_moment old new ran j since until = (ran.moments.each j since until).holds

  counted_then : (old new : World) → Ran (OnlyItsFiles k (now old)) old new → IsReady k (now old).folder → (j : ℕ) → old.clock ≤ j → j ≤ new.clock
      → count_in (present (now old).folder) ≡ k → count_in (present (new.moment j).folder) ≡ k
  counted_then old new ran ready j since until count =
      let only = at_moment old new ran j since until in
      let same : JobStays (now old).folder (new.moment j).folder = λ f job_step. only f (job_apart k f early job_step) in
      ap (λ (x : File). if nat_lt 0 (length x.bytes) then length (file_in (new.moment j).folder step_gate).bytes else 0) (same job_gate refl)
      ∙ ap (λ (x : File). if nat_lt 0 (length (file_in (now old).folder job_gate).bytes) then length x.bytes else 0) (same step_gate refl)
      ∙ count

  -- a place that a step that sweeps found damaged as it began anew
  swept_damage : (s : Step) (f : FileNo) (at : ℕ) (old new : World) → (get_or job.steps k no_step).step ≡ s
      → IsTrue (sweeps s) → count_in (present (now old).folder) ≡ k → IsReady k (now old).folder → Ran (OnlyItsFiles k (now old)) old new
      → BeganAnew job.n k s f at old new → IsSweepDamage job.n job.steps f at (now old).folder old new
  swept_damage s f at old new step swept count ready ran anew = record {
    step = k;
    within = within;
    swept = subst (λ x. IsTrue (sweeps x)) (sym step) swept;
    began = anew.began;
    since = anew.since;
    until = anew.until;
    committed = counted_then old new ran ready anew.began anew.since anew.until count;
    none_gated = anew.none_gated;
    fault = subst (λ x. IsStepFault job.n x (stood_after anew.began new) (sort.Damaged f at)) (sym step) anew.fault;
    uncommitted = omega (arith, count);
    at_first = λ j below is. at_moment old new ran anew.began anew.since anew.until f
        (λ own. let same : f.step ≡ k = own in
        let steps : f.step ≡ j = ap (λ (q : FileNo). q.step) is in
        omega (arith, below, count, same, steps));
  }

  -- or its last gated checkpoint
  point_damage : (s : Step) (f : FileNo) (at : ℕ) (old new : World) → (get_or job.steps k no_step).step ≡ s
      → IsTrue (sweeps s) → count_in (present (now old).folder) ≡ k → IsReady k (now old).folder → Ran (OnlyItsFiles k (now old)) old new
      → LackedPoint k f at old new → IsPointDamage job.steps f at (now old).folder old new
  point_damage s f at old new step swept count ready ran lacked = record {
    step = k;
    within = within;
    swept = subst (λ x. IsTrue (sweeps x)) (sym step) swept;
    looked = lacked.looked;
    since = lacked.since;
    until = lacked.until;
    committed = counted_then old new ran ready lacked.looked lacked.since lacked.until count;
    fault = lacked.fault;
    uncommitted = omega (arith, count);
  }

  -- the entry that a size couldn't use: no other step that doesn't sweep finds damage
  entry_damage : (plan : IsWellFormed job.n job.text job.steps) (s : Step) (f : FileNo) (at : ℕ) (old : World)
      → (get_or job.steps k no_step).step ≡ s → IsTrue (list_all (λ j. nat_lt j k) (operands s))
      → count_in (present (now old).folder) ≡ k → sweeps s ≡ false → IsStepFault job.n s old (sort.Damaged f at)
      → IsEntryDamage job.steps f at (present (now old).folder)
  entry_damage plan (Const value) f at old step earlier count unswept fault = absurd cc
  entry_damage plan (Var level) f at old step earlier count unswept fault = absurd cc
  entry_damage plan (Pair op left right) f at old step earlier count unswept fault = absurd cc
  entry_damage plan (Ite test if_one if_zero) f at old step earlier count unswept fault = absurd cc
  entry_damage plan (Quantify kind operand level) f at old step earlier count unswept fault = absurd cc
  entry_damage plan (Restrict operand level value) f at old step earlier count unswept fault = absurd cc
  entry_damage plan (Drop gone) f at old step earlier count unswept fault = absurd cc
  entry_damage plan (Same left right) f at old step earlier count unswept fault = absurd cc
  entry_damage plan (Leq left right) f at old step earlier count unswept fault = absurd cc
  entry_damage plan (Eval operand bits) f at old step earlier count unswept fault = absurd cc
  entry_damage plan (Size operand) f at old step earlier count unswept fault = by_fault fault.0 fault.1 fault.2
    where
      below : operand < k
      below = only_below k operand earlier

      by_fault : (found : StreamFault) → sort.Damaged f at ≡ handed_on found → IsKindFault operand 1 (present (now old).folder) found
          → IsEntryDamage job.steps f at (present (now old).folder)
      by_fault stream.Shelf same kind = absurd cc
      by_fault (stream.Damaged g b) same kind =
          let files_are : f ≡ g = cc in
          let places : at ≡ b = cc in
          record {
            step = operand;
            counted = omega (arith, below, count);
            file_is = files_are ∙ kind.0;
            at_is = places ∙ kind.1;
            none_there = λ e is same_kind. kind.2 e is (same_kind ∙ operand_kind job.n job.text job.steps k operand within plan step below);
          }

  -- what the run says of a fault of the step
  pub names_met : (plan : IsWellFormed job.n job.text job.steps) (s : Step) (fault : SortFault) (old new : World)
      → (get_or job.steps k no_step).step ≡ s → IsTrue (list_all (λ j. nat_lt j k) (operands s))
      → count_in (present (now old).folder) ≡ k → IsReady k (now old).folder → Ran (OnlyItsFiles k (now old)) old new
      → IsFound job.n k s old new fault → NamesMet job.n job.steps old new (stopped_by k fault)
  names_met plan s sort.Shelf old new step earlier count ready ran fault = λ f at e. absurd cc
  names_met plan s (sort.Damaged g b) old new step earlier count ready ran fault = λ f at e.
      let files_are : g ≡ f = cc in
      let places : b ≡ at = cc in
      subst (λ h. IsMetDamage job.n job.steps h at (now old).folder old new) files_are
      (subst (λ c. IsMetDamage job.n job.steps g c (now old).folder old new) places (elim fault [
        | inl once ↦ inl (entry_damage plan s g b old step earlier count once.0 once.1)
        | inr (swept, inl anew) ↦ inr (inl (swept_damage s g b old new step swept count ready ran anew))
        | inr (swept, inr lacked) ↦ inr (inr (point_damage s g b old new step swept count ready ran lacked))
      ]))
  names_met plan s sort.RunsSpent old new step earlier count ready ran fault = λ f at e. absurd cc

  pub names_spent : (s : Step) (fault : SortFault) → (get_or job.steps k no_step).step ≡ s → IsOfKind s fault → NamesSpent job.steps k (stopped_by k fault)
  names_spent s sort.Shelf step kind = λ j e. absurd cc
  names_spent s (sort.Damaged f at) step kind = λ j e. absurd cc
  names_spent s sort.RunsSpent step kind = λ j e. let same : j ≡ k = cc in (same, subst (λ x. IsTrue (joins_pieces x)) (sym step) kind)

-- a fault of a step stops the run
is_stop : (k : ℕ) (fault : SortFault) → IsStop (stopped_by k fault)
is_stop k sort.Shelf = tt
is_stop k (sort.Damaged f at) = tt
is_stop k sort.RunsSpent = tt

-- where the folder holds the steps before it is refused for nothing, and a step that has no part number left has much work
not_refused : (k work : ℕ) (s : Step) (fault : SortFault) → IsSoundFault s work fault → ¬ (RefusesFolder (stopped_by k fault))
not_refused k work s sort.Shelf sound = λ x. x
not_refused k work s (sort.Damaged f at) sound = λ _. sound
not_refused k work s sort.RunsSpent sound = λ x. x

great_work : (k work : ℕ) (s : Step) (fault : SortFault) → IsSoundFault s work fault → (j : ℕ) → stopped_by k fault ≡ RunsSpent j → 2 ^ 35 ≤ work
great_work k work s sort.Shelf sound = λ j e. absurd cc
great_work k work s (sort.Damaged f at) sound = λ j e. absurd sound
great_work k work s sort.RunsSpent sound = λ j e. sound.1

-- at each moment a run can go on with the step
abbrev CanGoOn : Job → ℕ → Moment → Type 0
CanGoOn job k m = AreResumable job k m.folder

-- the images of a folder that holds the steps before, while the step is taken
module _ (job : Job) (k : ℕ) (few : AreFew job) (rests : RestsOnSteps job) (within : k < length job.steps) where
  images_made : (old new : World) → Holds job k (now old).folder → Ran (OnlyItsFiles k (now old)) old new → Throughout old new (CanGoOn job k)
      → Throughout old new (AllHave job k)
  images_made old new holds run resumes = record {
    later = run.moments.later;
    past = run.moments.past;
    each = λ t from until image is_image.
        let m : Moment = new.moment t in
        held_steps job k m.folder image
        (holds_while_made job k (now old).folder m.folder few within holds (run.moments.each t from until).holds (resumes.each t from until)) is_image;
  }

  holds_made : (old new : World) → Holds job k (now old).folder → Ran (OnlyItsFiles k (now old)) old new → Throughout old new (CanGoOn job k)
      → Holds job k (now new).folder
  holds_made old new holds run resumes = holds_while_made job k (now old).folder (now new).folder few within holds
      (ran_end old new (OnlyItsFiles k (now old)) run) (at_end old new (CanGoOn job k) resumes)

  -- the step couldn't be run
  pub stopped_making : (fault : SortFault) (old new : World) → Holds job k (now old).folder → Ran (OnlyItsFiles k (now old)) old new → Throughout old new (CanGoOn job k)
      → IsSoundFault (step_at job k).step (work_of job (step_at job k).step) fault → HoldsSteps job k (Err (stopped_by k fault)) old new
  stopped_making fault old new holds run resumes sound = record {
    images = images_made old new holds run resumes;
    ok = tt;
    err = not_refused k (work_of job (step_at job k).step) (step_at job k).step fault sound;
    spent = great_work k (work_of job (step_at job k).step) (step_at job k).step fault sound;
  }

-- a place has one entry
one_entry : (steps : List Planned) (e : Entry) (j : ℕ) (x y : Entry) → IsEntryWith steps e j x → IsEntryWith steps e j y → x ≡ y
one_entry steps e j x y (inl (same, is)) (inl (again, other)) = is ∙ sym other
one_entry steps e j x y (inl (same, is)) (inr (behind, other)) = absurd (omega (arith, same, behind))
one_entry steps e j x y (inr (behind, one)) (inl (same, other)) = absurd (omega (arith, same, behind))
one_entry steps e j x y (inr (behind, (gone, drops_it, is))) (inr (later, (other, also, here))) =
    let step : Drop gone ≡ Drop other = sym drops_it ∙ also in
    let same : gone ≡ other = cc in
    is ∙ ap (λ i. nameless_entry j 2 0 i one_turn) same ∙ sym here

-- a step that was made is committed together with the drops behind it
module _ (job : Job) (plan : IsWellFormed job.n job.text job.steps) (k end : ℕ) (within : k < end) (upto : end ≤ length job.steps)
    (e : Entry) (number : e.number ≡ k) (are : AreDrops job.steps (k + 1) end) where
  inside : k < length job.steps
  inside = omega (arith, within, upto)

  operands_below : IsTrue (list_all (λ j. nat_lt j k) (operands (step_at job k).step))
  operands_below = (may_run job.n job.text job.steps k no_step inside plan).operands_are

  -- a file that is cut then is that of one of these steps or of an earlier one
  pub cut_below : (f : FileNo) → IsCutTogether job.steps e end f → f.step < end
  cut_below f (inl cut) =
      let low : f.step ≤ k =
      cut_file (step_at job k).step k e.parts f operands_below (subst (λ i. IsCutBy (step_at job i).step i e.parts f) number cut) in
      omega (arith, low, within)
  cut_below f (inr (j, from, short, (gone, drops_it, is))) =
      let low : gone < j = drop_below job j gone plan (omega (arith, short, upto)) drops_it in
      let same : f.step ≡ gone = ap (λ (q : FileNo). q.step) is in
      omega (arith, low, same, short)

  pub run_committed : (until : ℕ) (old mid new : World) → end ≤ until → Ran (Takes job k until old) old mid
      → Ran (DuringTogether job.steps e end (now mid)) mid new → Ran (Takes job k until old) old new
  run_committed until old mid new short first second = ran_joins old mid new (Takes job k until old) first
      (ran_weakens mid new (DuringTogether job.steps e end (now mid)) (Takes job k until old)
      (λ m during. taking_commits (length job.steps) job.steps k end until e (now old).folder (now mid) m number short
      (ran_end old mid (Takes job k until old) first) during) second)

  -- the job's files stay while what they leave behind is cut
  pub job_tidied : (last m : Moment) → TidiedTogether job.steps e end last m → JobStays last.folder m.folder
  job_tidied last m tidied f of_job =
      tidied.only f (λ cut. let own = cut_below f cut in let few = plan.few_steps in omega (arith, own, of_job, few, upto))

  pub run_tidied : (until : ℕ) (old last new : World) → end ≤ until → IsReady end (now last).folder → Ran (Takes job k until old) old last
      → Ran (TidiedTogether job.steps e end (now last)) last new → Ran (Takes job k until old) old new
  run_tidied until old last new short ready first second = ran_joins old last new (Takes job k until old) first
      (ran_weakens last new (TidiedTogether job.steps e end (now last)) (Takes job k until old) (λ m tidied.
      taking_same (length job.steps) k until end (now old).folder (now last).folder m.folder (omega (arith, within)) short ready
      (job_tidied (now last) m tidied)
      (λ f apart. tidied.only f (λ cut. apart (inl (let own = cut_below f cut in omega (arith, own, upto)))))
      (ran_end old last (Takes job k until old) first)) second)

  -- the folder is as ready then
  pub ready_tidied : (count : ℕ) (last new : World) → Ran (TidiedTogether job.steps e end (now last)) last new
      → IsReady count (now last).folder → IsReady count (now new).folder
  ready_tidied count last new tidies ready =
      ready_same count (now last).folder (now new).folder
      (job_tidied (now last) (now new) (ran_end last new (TidiedTogether job.steps e end (now last)) tidies)) ready

  -- an entry that is committed together with the first one is one for its step
  pub entry_for : IsEntryFor (step_at job k).step k e → (j : ℕ) (x : Entry) → j < end → IsEntryWith job.steps e j x
      → IsEntryFor (step_at job j).step j x
  entry_for fits j x below (inl (same, is)) =
      subst (IsEntryFor (step_at job j).step j) (sym is) (subst (λ i. IsEntryFor (step_at job i).step i e) (sym (same ∙ number)) fits)
  entry_for fits j x below (inr (behind, (gone, drops_it, is))) =
      let few = plan.few_steps in
      let low : gone < j = drop_below job j gone plan (omega (arith, below, upto)) drops_it in
      subst (IsEntryFor (step_at job j).step j) (sym is)
      (for_drop j gone (step_at job j) drops_it (omega (arith, low, below, upto, few)) (omega (arith, below, upto, few)))

  -- so it is the step's where it stands at its place
  has_entry : (r : FileNo → List ℕ) → IsEntryFor (step_at job k).step k e → (j : ℕ) (x : Entry) → j < end → IsEntryWith job.steps e j x
      → entry_at j r ≡ entry_bytes x → HasEntry job.steps j x r
  has_entry r fits j x below is placed =
      let entry : IsEntryFor (step_at job j).step j x = entry_for fits j x below is in
      record { stands = record { entry = entry.entry_is; number = entry.number_is; bytes = placed }; kind_is = entry.kind_is }

  module _ (fits : IsEntryFor (step_at job k).step k e) (last new : World) (together : AreTogether job.steps e end (now last).folder)
      (tidies : Ran (TidiedTogether job.steps e end (now last)) last new) where
    stands_then : (j : ℕ) → entry_at j (present (now new).folder) ≡ entry_at j (present (now last).folder)
    stands_then j = ap (λ (x : File). take 128 (drop (128 * j) x.bytes))
        (job_tidied (now last) (now new) (ran_end last new (TidiedTogether job.steps e end (now last)) tidies) catalogue refl)

    -- so do all of them
    pub entries_made : (j : ℕ) → k ≤ j → j < end → (x : Entry) × HasEntry job.steps j x (present (now new).folder)
    entries_made j from below =
        let found = together.placed j (omega (arith, from, number)) below in
        (found.0, has_entry (present (now new).folder) fits j found.0 below found.1 (stands_then j ∙ found.2))

    -- and the last one
    pub last_made : (d : Entry) → d.number + 1 ≡ end → IsEntryWith job.steps e d.number d → HasEntry job.steps d.number d (present (now new).folder)
    last_made d last_is is =
        let below : d.number < end = omega (arith, last_is) in
        let found = together.placed d.number (omega (arith, last_is, within, number)) below in
        let same : found.0 ≡ d = one_entry job.steps e d.number found.0 d found.1 is in
        has_entry (present (now new).folder) fits d.number d below is (stands_then d.number ∙ found.2 ∙ ap entry_bytes same)

  -- an earlier diagram's file stays until they are tidied up
  until_tidied : (old mid last : World) → Ran (OnlyItsFiles k (now old)) old mid → Ran (DuringTogether job.steps e end (now mid)) mid last
      → (f : FileNo) → f.step ≢ k → f.step ≢ job_step → file_in (now last).folder f ≡ file_in (now old).folder f
  until_tidied old mid last made commits f other apart =
      let of_step : IsOfStep f = record { early = apart } in
      (ran_end mid last (DuringTogether job.steps e end (now mid)) commits).others f (not_catalogue f of_step) (not_step_gate f of_step)
      ∙ ran_end old mid (OnlyItsFiles k (now old)) made f other

  earlier_apart : (j : ℕ) → j < k → ((node_file j).step ≢ k) × ((node_file j).step ≢ job_step)
  earlier_apart j below = let few = plan.few_steps in (
    (λ is. let same : j ≡ k = is in omega (arith, same, below)),
    (λ is. let same : j ≡ job_step = is in omega (arith, same, below, inside, few)),
  )

  module _ (old mid last new : World) (made : Ran (OnlyItsFiles k (now old)) old mid) (commits : Ran (DuringTogether job.steps e end (now mid)) mid last)
      (tidies : Ran (TidiedTogether job.steps e end (now last)) last new) where
    tidied : TidiedTogether job.steps e end (now last) (now new)
    tidied = ran_end last new (TidiedTogether job.steps e end (now last)) tidies

    -- where it was empty it is empty then
    pub still_empty : (j : ℕ) → j < k → StaysEmpty (node_file j) (now old).folder (now new).folder
    still_empty j below before =
        let apart = earlier_apart j below in
        tidied.stays (node_file j) (ap (λ (x : File). x.bytes) (until_tidied old mid last made commits (node_file j) apart.0 apart.1) ∙ before)

    -- and unless one of them drops it, it is as it was
    pub keeps_diagrams : KeepsDiagrams job.steps k end (now old).folder (now new).folder
    keeps_diagrams j below none =
        let apart = earlier_apart j below in
        tidied.only (node_file j) (not_cut j below none) ∙ until_tidied old mid last made commits (node_file j) apart.0 apart.1
      where
        not_cut : (j : ℕ) → j < k → NoneDrops job.steps k end j → ¬ (IsCutTogether job.steps e end (node_file j))
        not_cut j below none (inl (inl (gone, dropped, is))) =
            let same : gone ≡ j = ap (λ (q : FileNo). q.step) (sym is) in
            none e.number (omega (arith, number)) (omega (arith, number, within)) (dropping gone (step_at job e.number).step dropped ∙ ap Drop same)
        not_cut j below none (inl (inr (swept, behind))) = let same : j ≡ e.number = behind.step_is in omega (arith, same, number, below)
        not_cut j below none (inr (i, from, short, (gone, drops_it, is))) =
            let same : gone ≡ j = ap (λ (q : FileNo). q.step) (sym is) in
            none i (omega (arith, from, number)) short (drops_it ∙ ap Drop same)

    -- and the files of the steps behind them stay
    pub keeps_later : KeepsLater end (now old).folder (now new).folder
    keeps_later f from before =
        tidied.only f (λ cut. let low = cut_below f cut in omega (arith, low, from))
        ∙ until_tidied old mid last made commits f (λ own. let same : f.step ≡ k = own in omega (arith, same, from, within)) (λ is. omega (arith, is, before))

  -- the images of a folder that holds the steps before, while these are taken
  module _ (rests : RestsOnSteps job) (old mid last : World) (files : AreFiles (now mid).folder) (holds : Holds job k (now old).folder)
      (made : Ran (OnlyItsFiles k (now old)) old mid) (resumes : Throughout old mid (CanGoOn job k)) (is_made : IsMade job k (now mid).folder)
      (entry : IsEntryOfStep job k e) (commits : Ran (DuringTogether job.steps e end (now mid)) mid last) where
    holds_mid : Holds job k (now mid).folder
    holds_mid = holds_made job k plan.few_steps rests inside old mid holds made resumes

    images_committed : Throughout mid last (AllHave job k)
    images_committed = weakens mid last (Quiet (now mid).said (DuringTogether job.steps e end (now mid))) (AllHave job k) (λ m quiet image is_image.
        let safe = sound_together job plan rests k end within upto e number are (now mid) files holds_mid is_made entry m quiet.holds image is_image in
        record { sound = safe.0; counts = safe.1; stored = safe.2 }) commits.moments

    to_last : Throughout old last (AllHave job k)
    to_last = joins old mid last (AllHave job k) (images_made job k plan.few_steps rests inside old mid holds made resumes) images_committed

    pub stopped_committing : HoldsSteps job k (Err FolderFault) old last
    stopped_committing = record { images = to_last; ok = tt; err = λ x. x; spent = λ j e. absurd cc }

    module _ (files_last : AreFiles (now last).folder) (new : World) (together : AreTogether job.steps e end (now last).folder)
        (tidies : Ran (TidiedTogether job.steps e end (now last)) last new) where
      during : DuringTogether job.steps e end (now mid) (now last)
      during = ran_end mid last (DuringTogether job.steps e end (now mid)) commits

      holds_last : Holds job end (now last).folder
      holds_last = holds_together job plan rests k end within upto e number are (now mid) files holds_mid is_made entry (now last) during files_last together

      none_last : NoneGated job end (now last).folder
      none_last s from within_all =
          none_together job plan rests k end within upto e number are (now mid) files holds_mid is_made entry (now last) during s (omega (arith, from, within)) within_all

      holds_cut : (m : Moment) → TidiedTogether job.steps e end (now last) m → Holds job end m.folder
      holds_cut m cut = holds_while_cut job plan rests k end within upto e number are cut_below (now last) m cut holds_last none_last

      images_tidied : Throughout last new (AllHave job k)
      images_tidied = weakens last new (Quiet (now last).said (TidiedTogether job.steps e end (now last))) (AllHave job k) (λ m quiet image is_image.
          let has = held_steps job end m.folder image (holds_cut m quiet.holds) is_image in
          let counts = has.counts in
          record { sound = has.sound; counts = omega (arith, counts, within); stored = has.stored }) tidies.moments

      all_images : Throughout old new (AllHave job k)
      all_images = joins old last new (AllHave job k) to_last images_tidied

      pub stopped_tidying : HoldsSteps job k (Err FolderFault) old new
      stopped_tidying = record { images = all_images; ok = tt; err = λ x. x; spent = λ j e. absurd cc }

      pub were_taken : (d : Entry) → d.number + 1 ≡ end → IsEntryWith job.steps e d.number d → HoldsSteps job k (Ok d) old new
      were_taken d last_is is = record {
        images = all_images;
        ok = (
          subst (λ n. Holds job n (now new).folder) (sym last_is)
              (holds_cut (now new) (ran_end last new (TidiedTogether job.steps e end (now last)) tidies)),
          entry_with job plan rests k end within upto e number are entry d.number d (omega (arith, last_is)) is,
        );
        err = tt;
        spent = tt;
      }

-- of what pays for going on with a step so much is for what it leaves behind then
abbrev pub spare_of : ℕ → ℕ
spare_of rest = min rest 1606

-- the cuts of a step: one, or where it sweeps one for each part below its next one, of which its turns took few, and so
-- many more where it went on
abbrev pub most_cuts : Bool → ℕ → ℕ → ℕ
most_cuts swept work spare = cond swept (4 + work / 16 + spare) 1

-- the calls of making a step, of a commit and of cutting what is left behind are those of the step
step_sum : (swept : Bool) (work rest old mid last new : ℕ)
    → mid ≤ old + (cond swept (229 * work + 13) 5 + (rest - 1606)) → last ≤ mid + 5
    → new ≤ last + most_cuts swept work (spare_of rest)
    → new ≤ old + (cond swept (229 * work + work / 16 + 22) 11 + rest)
step_sum true work rest old mid last new made committed tidied = omega (arith, made, committed, tidied)
step_sum false work rest old mid last new made committed tidied = omega (arith, made, committed, tidied)

-- few part numbers were taken, and where something was gated of the step 1,019 more may have been
abbrev pub FewTaken : Bool → ℕ → ℕ → ℕ → Type 0
FewTaken false next turns rest = next ≤ 5 + turns / 16
FewTaken true next turns rest = (next ≤ 5 + turns / 16 + 1019) × (1606 ≤ rest)

-- the cuts of a step with that next part, which few turns of its work took, are as few
cuts_few : (gated : Bool) (step : Step) (next turns work rest : ℕ) → (sweeps step ≡ false) ⊎ (FewTaken gated next turns rest × (turns ≤ work))
    → cut_calls gated step next ≤ most_cuts (sweeps step) work (spare_of rest)
cuts_few false step next turns work rest is = by_test (sweeps step) is
  where
    by_test : (swept : Bool) → (swept ≡ false) ⊎ ((next ≤ 5 + turns / 16) × (turns ≤ work))
        → cond swept (parts_end next - 1) 1 ≤ most_cuts swept work (spare_of rest)
    by_test true (inl not) = absurd cc
    by_test false (inl not) = omega arith
    by_test true (inr (few, within)) = omega (arith, few, within)
    by_test false (inr (few, within)) = omega arith
cuts_few true step next turns work rest is = by_test (sweeps step) is
  where
    by_test : (swept : Bool) → (swept ≡ false) ⊎ (((next ≤ 5 + turns / 16 + 1019) × (1606 ≤ rest)) × (turns ≤ work))
        → cond swept (591 + min (parts_end next - 5) most_cut) 1 ≤ most_cuts swept work (spare_of rest)
    by_test true (inl not) = absurd cc
    by_test false (inl not) = omega arith
    by_test true (inr ((few, great), within)) = omega (arith, few, great, within)
    by_test false (inr ((few, great), within)) = omega arith

-- with those of a step they are the calls before the next one
pub calls_of_one_more : (job : Job) (step : ℕ) → step < length job.steps → calls_before job (step + 1) ≡ calls_before job step + step_calls job (step_at job step)
calls_of_one_more job step within =
    ap (sum_by (step_calls job)) (take_more job.steps step no_step within)
    ∙ sum_by_push (step_calls job) (take step job.steps) (get_or job.steps step no_step)

-- a step has eleven at least
pub some_calls : (swept : Bool) (work : ℕ) → 11 ≤ cond swept (229 * work + work / 16 + 22) 11
some_calls true work = omega arith
some_calls false work = omega arith

-- and so the steps behind one have
pub calls_least : (job : Job) (from more : ℕ) → from + more ≤ length job.steps → calls_before job from + 11 * more ≤ calls_before job (from + more)
calls_least job from zero inside =
    let none : from ≡ from + zero = omega arith in
    subst (λ n. calls_before job from + 11 * zero ≤ calls_before job n) none (omega arith)
calls_least job from (suc more) inside =
    let before = calls_least job from more (omega (arith, inside)) in
    let next = calls_of_one_more job (from + more) (omega (arith, inside)) in
    let own : 11 ≤ step_calls job (step_at job (from + more)) =
    some_calls (sweeps (step_at job (from + more)).step) (work_of job (step_at job (from + more)).step) in
    let all : from + more + 1 ≡ from + suc more = omega arith in
    subst (λ n. calls_before job from + 11 * suc more ≤ calls_before job n) all (omega (arith, before, next, own))

module _ {S : Type 0} (tells : S → Bool) (world : S → World) (counts : S → Faults) (law : (s : S) → IsTrue (tells s) → AreFiles (now (world s)).folder)
    (job : Job) (k : ℕ) (plan : IsWellFormed job.n job.text job.steps) (within : k < length job.steps) (p : Planned) (p_is : p ≡ step_at job k)
    (earlier : IsTrue (list_all (λ j. nat_lt j k) (operands p.step))) where
  the_step : IsStepOf job job.n job.text k p
  the_step = record { well_formed = plan; n_is = refl; text_is = refl; within = within; step_is = sym p_is }

  rests : RestsOnSteps job
  rests = rests_on_steps job plan

  place_is : (step_at job k).step ≡ p.step
  place_is = ap (λ (q : Planned). q.step) (sym p_is)

  -- the calls of making it, of a commit and of cutting what it leaves behind
  module _ (old s : S) (result : Result Entry SortFault) (runs : MakesStep tells world counts job.n job.text k p old s result) (tells_s : IsTrue (tells s))
      (gated : Bool) (rest : ℕ) (counted : IsCounted job k gated (now (world old)).folder rest) where
    few_made : (world s).clock
        ≤ (world old).clock + (cond (sweeps p.step) (229 * work_of job p.step + 13) 5 + (rest - 1606))
    few_made = elim counted [
      | inl each ↦
          let unswept : sweeps p.step ≡ false = ap sweeps (sym place_is) ∙ each k within in
          let few = runs.one_turn tells_s unswept in
          subst (λ b. (world s).clock ≤ (world old).clock + (cond b (229 * work_of job p.step + 13) 5 + (rest - 1606)))
          (sym unswept) (omega (arith, few))
      | inr (holds, known, pays) ↦ runs.few_calls tells_s job the_step holds (rest - 1606)
          (subst (λ x. PaysRest x k (present (now (world old)).folder) (rest - 1606)) place_is pays)
    ]

    few_calls : (last new : ℕ) → last ≤ (world s).clock + 5
        → new ≤ last + most_cuts (sweeps p.step) (work_of job p.step) (spare_of rest)
        → new ≤ (world old).clock + (step_calls job p + rest)
    few_calls last new = step_sum (sweeps p.step) (work_of job p.step) rest (world old).clock (world s).clock last new few_made

  -- few part numbers were taken of a step that was made
  few_taken : (e : Entry) (old s : S) → MakesStep tells world counts job.n job.text k p old s (Ok e) → IsTrue (tells s)
      → Holds job k (now (world old)).folder → (gated : Bool) → IsGated gated k (now (world old)).folder → (rest : ℕ)
      → PaysStep job k (now (world old)).folder rest → FewTaken gated e.parts e.turns rest
  few_taken e old s runs tells_s holds false none rest pays =
      let few = runs.few_parts tells_s 0 (λ c told. absurd (none_told k (present (now (world old)).folder) none c told)) in omega (arith, few)
  few_taken e old s runs tells_s holds true some rest pays =
      let point = gated_point job k (record { well_formed = plan; within = within }) (now (world old)).folder
      (law old (runs.content.before tells_s)) holds some in
      let paid = pays point.0 point.1 in
      (runs.few_parts tells_s 1019 (λ c told. omega arith), omega (arith, paid))

  -- and where it was made those of cutting what it leaves behind
  taken_calls : (e : Entry) (old s : S) → MakesStep tells world counts job.n job.text k p old s (Ok e) → IsTrue (tells s)
      → (gated : Bool) (rest : ℕ) → IsCounted job k gated (now (world old)).folder rest → (last new : ℕ) → last ≤ (world s).clock + 5
      → new ≤ last + cut_calls gated p.step e.parts → new ≤ (world old).clock + (step_calls job p + rest)
  taken_calls e old s runs tells_s gated rest counted last new committed tidied =
      few_calls old s (Ok e) runs tells_s gated rest counted last new committed
      (fewer new last (cut_calls gated p.step e.parts) (most_cuts (sweeps p.step) (work_of job p.step) (spare_of rest)) tidied
      (cuts_few gated p.step e.parts e.turns (work_of job p.step) rest of_entry))
    where
      fewer : (new last cuts most : ℕ) → new ≤ last + cuts → cuts ≤ most → new ≤ last + most
      fewer new last cuts most tidied few = omega (arith, tidied, few)

      of_entry : (sweeps p.step ≡ false) ⊎ (FewTaken gated e.parts e.turns rest × (e.turns ≤ work_of job p.step))
      of_entry = elim counted [
        | inl each ↦ inl (ap sweeps (sym place_is) ∙ each k within)
        | inr (holds, known, pays) ↦
            let entry : IsEntryOfStep job k e = runs.entry tells_s job (record { step = the_step; holds = λ reads. holds }) in
            inr (few_taken e old s runs tells_s holds gated known rest pays, subst (λ x. e.turns ≤ work_of job x) place_is entry.turns_are.1)
      ]

  -- those of taking it together with the drops behind it: three at most for each of these, so that five are to spare
  calls_to : (end until : ℕ) → k < end → end ≤ until → until ≤ length job.steps → (rest first most new : ℕ)
      → most ≤ first + (step_calls job p + rest) → new ≤ most + 3 * (end - (k + 1))
      → new + 5 * (end - (k + 1)) + calls_before job k ≤ first + (calls_before job until + rest)
  calls_to end until behind short all rest first most new one more =
      let own : calls_before job (k + 1) ≡ calls_before job k + step_calls job p =
      calls_of_one_more job k within ∙ ap (λ q. calls_before job k + step_calls job q) (sym p_is) in
      let sum : k + 1 + (until - (k + 1)) ≡ until = omega (arith, behind, short) in
      let least : calls_before job (k + 1) + 11 * (until - (k + 1)) ≤ calls_before job until =
      subst (λ n. calls_before job (k + 1) + 11 * (until - (k + 1)) ≤ calls_before job n) sum
      (calls_least job (k + 1) (until - (k + 1)) (omega (arith, sum, all))) in
      omega (arith, own, least, one, more, behind, short)

  -- the step couldn't be run
  pub stopped_calls : (until : ℕ) → k < until → until ≤ length job.steps → (old s : S) (result : Result Entry SortFault)
      → MakesStep tells world counts job.n job.text k p old s result → IsTrue (tells s) → (gated : Bool) (rest : ℕ)
      → IsCounted job k gated (now (world old)).folder rest
      → (world s).clock + calls_before job k ≤ (world old).clock + (calls_before job until + rest)
  stopped_calls until more all old s result runs tells_s gated rest counted =
      let few = calls_to (k + 1) until (omega arith) (omega (arith, more)) all rest (world old).clock (world s).clock (world s).clock
      (few_calls old s result runs tells_s gated rest counted (world s).clock (world s).clock (omega arith) (omega arith)) (omega arith) in
      omega (arith, few)

  module _ (end until : ℕ) (behind : k < end) (short : end ≤ until) (all : until ≤ length job.steps) (e : Entry) (old s : S)
      (runs : MakesStep tells world counts job.n job.text k p old s (Ok e)) (tells_s : IsTrue (tells s)) (gated : Bool) (rest : ℕ)
      (counted : IsCounted job k gated (now (world old)).folder rest) where
    -- it couldn't be committed with them
    pub committing_calls : (new : ℕ) → new ≤ (world s).clock + (2 * (end - e.number) + 3)
        → new + calls_before job k ≤ (world old).clock + (calls_before job until + rest)
    committing_calls new commits =
        let number = runs.fits.number_is in
        let few = calls_to end until behind short all rest (world old).clock ((world s).clock + 5) new
        (few_calls old s (Ok e) runs tells_s gated rest counted ((world s).clock + 5) ((world s).clock + 5) (omega arith) (omega arith))
        (omega (arith, commits, number, behind)) in
        omega (arith, few)

    -- or it was, and what they leave behind was cut, or a part of that
    pub together_calls : (last new : ℕ) → last ≤ (world s).clock + (2 * (end - e.number) + 3)
        → new ≤ last + (cut_calls gated (step_at job e.number).step e.parts + (end - (e.number + 1)))
        → new + 5 * (end - (k + 1)) + calls_before job k ≤ (world old).clock + (calls_before job until + rest)
    together_calls last new commits tidied =
        let number = runs.fits.number_is in
        let cuts : new ≤ last + (cut_calls gated p.step e.parts + (end - (e.number + 1))) =
        subst (λ x. new ≤ last + (cut_calls gated x e.parts + (end - (e.number + 1)))) (ap (λ i. (step_at job i).step) number ∙ place_is) tidied in
        calls_to end until behind short all rest (world old).clock ((world s).clock + 5 + cut_calls gated p.step e.parts) new
        (taken_calls e old s runs tells_s gated rest counted ((world s).clock + 5) ((world s).clock + 5 + cut_calls gated p.step e.parts) (omega arith) (omega arith))
        (omega (arith, commits, cuts, number, behind))

  -- at most the step's own files were changed
  filed : (old s : S) → Told tells old s (Ran (OnlyMade p.step k (now (world old))) (world old) (world s)) → IsTrue (tells s)
      → Ran (OnlyItsFiles k (now (world old))) (world old) (world s)
  filed old s made tells_s = ran_weakens (world old) (world s) (OnlyMade p.step k (now (world old))) (OnlyItsFiles k (now (world old)))
      (λ m only f apart. only f (λ changed. apart (own_file p.step k f changed))) (made.did tells_s)

  -- the step couldn't be run
  module _ (until : ℕ) (more : k ≤ until) (fault : SortFault) (old s : S) (runs : MakesStep tells world counts job.n job.text k p old s (Err fault)) where
    stopped_so : (IsTrue (tells old) → IsReady k (now (world old)).folder)
        → Told tells old s (TakesSteps job k until (Err (stopped_by k fault)) (world old) (world s))
    stopped_so ready = record {
      before = runs.content.before;
      did = λ tells_s.
          let tells_old : IsTrue (tells old) = runs.content.before tells_s in
          let ran = filed old s runs.content tells_s in
          record {
            run = run_made job k plan.few_steps within until (world old) (world s) more (ready tells_old) ran;
            reached = tt;
            ready = tt;
            last = tt;
            made = tt;
            emptied = tt;
            still_empty = tt;
            keeps = tt;
            later = tt;
            stops = is_stop k fault;
            damaged = names_met job k plan.few_steps within plan p.step fault (world old) (world s) place_is earlier
                (present_count (now (world old)).folder k (law old tells_old) (ready tells_old)) (ready tells_old) ran (runs.damaged tells_s);
            spent = names_spent job k plan.few_steps within p.step fault place_is runs.kind;
            holds = λ holds. stopped_making job k plan.few_steps rests within fault (world old) (world s) holds ran
                (runs.resumes tells_s job the_step holds)
                (subst (λ x. IsSoundFault x (work_of job x) fault) (sym place_is) (runs.sound tells_s job the_step holds));
          };
    }

    pub was_stopped : (finish : Finish) → finish ≡ stopped_by k fault → (IsTrue (tells old) → IsReady k (now (world old)).folder)
        → Told tells old s (TakesSteps job k until (Err finish) (world old) (world s))
    was_stopped finish finish_is ready =
        subst (λ x. Told tells old s (TakesSteps job k until (Err x) (world old) (world s))) (sym finish_is) (stopped_so ready)

  -- what a step that was made leaves for its commit, together with the drops behind it
  module _ (until end : ℕ) (behind : k < end) (short : end ≤ until) (all : until ≤ length job.steps) (e : Entry) (old s : S)
      (runs : MakesStep tells world counts job.n job.text k p old s (Ok e)) (ready : IsTrue (tells old) → IsReady k (now (world old)).folder)
      (drops_are : AreDrops job.steps (k + 1) end) where
    number : e.number ≡ k
    number = runs.fits.number_is

    upto : end ≤ length job.steps
    upto = omega (arith, short, all)

    ready_for : Holds job k (now (world old)).folder → IsReadyFor job job.n job.text k p (world old)
    ready_for holds = record { step = the_step; holds = λ reads. holds }

    ran_so : IsTrue (tells s) → Ran (OnlyItsFiles k (now (world old))) (world old) (world s)
    ran_so tells_s = filed old s runs.content tells_s

    pub made_ready : IsTrue (tells s) → IsReady e.number (now (world s)).folder
    made_ready tells_s =
        subst (λ c. IsReady c (now (world s)).folder) (sym number)
        (ready_made job k plan.few_steps within k (world old) (world s) (ran_so tells_s) (ready (runs.content.before tells_s)))

    -- the run up to the commit, and within it
    to_commit : (t : S) → IsTrue (tells s) → Ran (DuringTogether job.steps e end (now (world s))) (world s) (world t)
        → Ran (Takes job k until (world old)) (world old) (world t)
    to_commit t tells_s commits =
        run_committed job plan k end behind upto e number drops_are until (world old) (world s) (world t) short
        (run_made job k plan.few_steps within until (world old) (world s) (omega (arith, behind, short)) (ready (runs.content.before tells_s)) (ran_so tells_s))
        commits

    pub commit_failed : (t : S) → Told tells s t (Ran (DuringTogether job.steps e end (now (world s))) (world s) (world t))
        → Told tells old t (TakesSteps job k until (Err FolderFault) (world old) (world t))
    commit_failed t commits = record {
      before = λ tells_t. runs.content.before (commits.before tells_t);
      did = λ tells_t.
          let tells_s : IsTrue (tells s) = commits.before tells_t in
          record {
            run = to_commit t tells_s (commits.did tells_t);
            reached = tt;
            ready = tt;
            last = tt;
            made = tt;
            emptied = tt;
            still_empty = tt;
            keeps = tt;
            later = tt;
            stops = tt;
            damaged = λ f at d. absurd cc;
            spent = λ j d. absurd cc;
            holds = λ holds. stopped_committing job plan k end behind upto e number drops_are rests (world old) (world s) (world t) (law s tells_s) holds
                (ran_so tells_s) (runs.resumes tells_s job the_step holds) (runs.made tells_s job (ready_for holds))
                (runs.entry tells_s job (ready_for holds)) (commits.did tells_t);
          };
    }

    module _ (t u : S) (commits : Told tells s t (Ran (DuringTogether job.steps e end (now (world s))) (world s) (world t)))
        (together : IsTrue (tells t) → AreTogether job.steps e end (now (world t)).folder)
        (cuts : Told tells t u (Ran (TidiedTogether job.steps e end (now (world t))) (world t) (world u))) where
      to_end : IsTrue (tells s) → IsTrue (tells t) → IsTrue (tells u) → Ran (Takes job k until (world old)) (world old) (world u)
      to_end tells_s tells_t tells_u =
          run_tidied job plan k end behind upto e number drops_are until (world old) (world t) (world u) short (together tells_t).ready
          (to_commit t tells_s (commits.did tells_t)) (cuts.did tells_u)

      pub tidy_failed : Told tells old u (TakesSteps job k until (Err FolderFault) (world old) (world u))
      tidy_failed = record {
        before = λ tells_u. runs.content.before (commits.before (cuts.before tells_u));
        did = λ tells_u.
            let tells_t : IsTrue (tells t) = cuts.before tells_u in
            let tells_s : IsTrue (tells s) = commits.before tells_t in
            record {
              run = to_end tells_s tells_t tells_u;
              reached = tt;
              ready = tt;
              last = tt;
              made = tt;
              emptied = tt;
              still_empty = tt;
              keeps = tt;
              later = tt;
              stops = tt;
              damaged = λ f at d. absurd cc;
              spent = λ j d. absurd cc;
              holds = λ holds. stopped_tidying job plan k end behind upto e number drops_are rests (world old) (world s) (world t) (law s tells_s) holds
                  (ran_so tells_s) (runs.resumes tells_s job the_step holds) (runs.made tells_s job (ready_for holds))
                  (runs.entry tells_s job (ready_for holds)) (commits.did tells_t) (law t tells_t) (world u) (together tells_t) (cuts.did tells_u);
            };
      }

      pub took : (d : Entry) → (d.number + 1 ≡ end) × IsEntryWith job.steps e d.number d
          → (IsTrue (tells u) → (j gone : ℕ) → e.number ≤ j → j < end → (step_at job j).step ≡ Drop gone → (file (world u) (node_file gone)).bytes ≡ [])
          → Told tells old u (TakesSteps job k until (Ok d) (world old) (world u))
      took d (last_is, is) empty = record {
        before = λ tells_u. runs.content.before (commits.before (cuts.before tells_u));
        did = λ tells_u.
            let tells_t : IsTrue (tells t) = cuts.before tells_u in
            let tells_s : IsTrue (tells s) = commits.before tells_t in
            let fits : IsEntryFor (step_at job k).step k e = subst (λ (q : Planned). IsEntryFor q.step k e) p_is runs.fits in
            let new : Folder = (now (world u)).folder in
            record {
              run = to_end tells_s tells_t tells_u;
              reached = (omega (arith, last_is, behind), omega (arith, last_is, short));
              ready = subst (λ n. IsReady n new) (sym last_is)
                  (ready_tidied job plan k end behind upto e number drops_are end (world t) (world u) (cuts.did tells_u) (together tells_t).ready);
              last = last_made job plan k end behind upto e number drops_are fits (world t) (world u) (together tells_t) (cuts.did tells_u) d last_is is;
              made = λ j from below. entries_made job plan k end behind upto e number drops_are fits (world t) (world u) (together tells_t) (cuts.did tells_u)
                  j from (omega (arith, below, last_is));
              emptied = subst (λ n. AreEmptied job.steps k n new) (sym last_is)
                  (λ j from below gone drops_it. empty tells_u j gone (omega (arith, from, number)) below drops_it);
              still_empty = still_empty job plan k end behind upto e number drops_are (world old) (world s) (world t) (world u) (ran_so tells_s)
                  (commits.did tells_t) (cuts.did tells_u);
              keeps = subst (λ n. KeepsDiagrams job.steps k n (now (world old)).folder new) (sym last_is)
                  (keeps_diagrams job plan k end behind upto e number drops_are (world old) (world s) (world t) (world u) (ran_so tells_s)
                  (commits.did tells_t) (cuts.did tells_u));
              later = subst (λ n. KeepsLater n (now (world old)).folder new) (sym last_is)
                  (keeps_later job plan k end behind upto e number drops_are (world old) (world s) (world t) (world u) (ran_so tells_s)
                  (commits.did tells_t) (cuts.did tells_u));
              stops = tt;
              damaged = tt;
              spent = tt;
              holds = λ holds. were_taken job plan k end behind upto e number drops_are rests (world old) (world s) (world t) (law s tells_s) holds
                  (ran_so tells_s) (runs.resumes tells_s job the_step holds) (runs.made tells_s job (ready_for holds))
                  (runs.entry tells_s job (ready_for holds)) (commits.did tells_t) (law t tells_t) (world u) (together tells_t) (cuts.did tells_u) d last_is is;
            };
      }
