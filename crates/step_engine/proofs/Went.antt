-- A step of a job of which it was found how far it has come, and what a sweep of it leaves and costs then.
use Rattle.std.proofs.Common.{◌≡◌, ℕ, ◌+◌, ◌-◌, ◌*◌, ◌/◌, ◌^◌, ◌<◌, ◌≤◌, ◌⊎◌, Bool, true, List, refl, sym, subst, inl, inr, arith}
use Rattle.std.specs.Prelude.{IsTrue, Option, Some, None, Result, Ok, sum_by}
use Rattle.bool_tables.specs.declared.steps.Step.{Step}
use Rattle.bool_tables.specs.declared.steps.Planned.{Planned}
use Rattle.bool_tables.specs.Plans.{operands}
use Rattle.shelf_model.specs.declared.file_no.FileNo.{FileNo}
use Rattle.shelf_model.specs.declared.sort_fault.SortFault.{SortFault}
use Rattle.shelf_model.specs.Calls.{Told}
use Rattle.shelf_model.specs.Faults.{Faults}
use Rattle.shelf_model.specs.Folder.{Folder, AreFiles, OnlyChanges}
use Rattle.shelf_model.specs.Moments.{Throughout, Ran, OnlyChanged}
use Rattle.shelf_model.specs.World.{Moment, World, now, file}
use Rattle.shelf_model.proofs.Changing.{changes_then}
use Rattle.shelf_model.proofs.Runs.{told, told_then, joins, weakens, at_end, ran_joins, ran_weakens, ran_end}
use Rattle.step_work.specs.Tuples.{sweeps}
use Rattle.node_reading.specs.Reading.{count_of}
use Rattle.sweep_core.specs.declared.checkpoint.Checkpoint.{Checkpoint}
use Rattle.sweep_core.specs.Saving.{reads_of}
use Rattle.sweep_checkpoint.specs.Gated.{last_gated}
use Rattle.sweep_checkpoint.specs.Loads.{Tells}
use Rattle.sweep_checkpoint.specs.Stops.{shown_by, StopsCost}
use Rattle.sweep_checkpoint.specs.declared.going.Going.{Going}
use Rattle.step_going.specs.Standing.{AreSafe, IsStanding}
use Rattle.step_going.proofs.Shown.{standing_shows, stops_more, stops_fewer, stops_join}
use Rattle.step_sweeps.specs.Going.{next_of, rest_calls}
use Rattle.step_sweeps.specs.Made.{FewAnew}
use Rattle.step_sweeps.specs.Stops.{step_stop}
use Rattle.sound_image.specs.Files.{node_file, checkpoint_gate}
use Rattle.sound_image.specs.Jobs.{Job}
use Rattle.sound_image.specs.Entries.{work_of}
use Rattle.sound_image.specs.Holds.{Holds, AreResumable}
use Rattle.step_engine.specs.Finding.{IsOfJob, JobGoesOn, JobRests, JobStands, IsSweepPart, DuringGoing, FindsGoing}
use Rattle.step_engine.specs.OneFile.{ChangesFile, OnlyMade}
use Rattle.step_engine.specs.Running.{run_stop, nodes_read, PaysRest, SparesParts, IsGoneOn}
use Rattle.step_engine.specs.Simple.{IsStepOf}
use Rattle.step_engine.proofs.Resuming.{safe_resumes_over}
use Rattle.step_engine.proofs.Stops.{found_stops, found_shows, shown_turns_of, stop_paid}

-- what the job's step stands with, in other words for when it goes on and what its checkpoints rest on
pub stands_as : (job : Job) (number step : ℕ) (Q : (FileNo → List ℕ) → Type 0) (rests : Checkpoint → FileNo → ℕ → Type 0)
    → JobGoesOn job number ≡ Q → JobRests job number ≡ rests → number ≡ step → (last : Option Checkpoint) (folder : Folder)
    → JobStands job number last folder → IsStanding Q rests step (next_of last) folder last
stands_as job number step Q rests goes_is rests_is step_is last folder stands =
    subst (λ v. v) (λ i. IsStanding (goes_is i) (rests_is i) (step_is i) (next_of last) folder last) stands

pub safe_as : (job : Job) (number step : ℕ) (Q : (FileNo → List ℕ) → Type 0) → JobGoesOn job number ≡ Q → number ≡ step → (old new : World)
    → Throughout old new (λ (m : Moment). AreSafe Q step m.folder) → Throughout old new (λ (m : Moment). AreSafe (JobGoesOn job number) number m.folder)
safe_as job number step Q goes_is step_is old new safe =
    subst (λ v. v) (λ i. Throughout old new (λ (m : Moment). AreSafe (sym goes_is i) (sym step_is i) m.folder)) safe

-- the step is the job's, whose steps before it are held, and it stands with this checkpoint
pub record IsSet (job : Job) (n : ℕ) (text : List ℕ) (number : ℕ) (p : Planned) (last : Option Checkpoint) (folder : Folder) : Type 0 where
  pub is : IsStepOf job n text number p
  pub holds : Holds job number folder
  pub stands : JobStands job number last folder

pub of_job : (job : Job) (n : ℕ) (text : List ℕ) (number : ℕ) (p : Planned) → IsStepOf job n text number p → IsOfJob job number
of_job job n text number p is = record { well_formed = is.well_formed; within = is.within }

-- sixteen turns are within the work of each step
work_enough : (job : Job) (step : Step) → 16 ≤ work_of job step
work_enough job step = omega arith

-- so many calls are paid for
run_cost : (step : Step) (number : ℕ) (r : FileNo → List ℕ) (last : Option Checkpoint) (rest before mid after turns some nodes : ℕ) → some ≤ 11
    → nodes ≤ nodes_read step r → Tells number (last_gated number r) last → PaysRest step number r rest
    → mid ≤ before + 3890 → (last ≡ None → mid ≤ before + 2) → after ≤ mid + (229 * turns + some + rest_calls last nodes)
    → after ≤ before + (229 * turns + 13 + rest)
run_cost step number r None rest before mid after turns some nodes few fewer told pays most least then =
    let begun : mid ≤ before + 2 = least refl in omega (arith, few, begun, then)
run_cost step number r (Some c) rest before mid after turns some nodes few fewer told pays most least then =
    let paid = pays c told in omega (arith, few, fewer, most, then, paid)

-- and where it was refused before a sweep
refused_cost : (step : Step) (number : ℕ) (r : FileNo → List ℕ) (work rest before after : ℕ) → 16 ≤ work → PaysRest step number r rest
    → after ≤ before + 3890 → (after ≤ before + 590) ⊎ ((c : Checkpoint) × Tells number (last_gated number r) (Some c))
    → after ≤ before + (229 * work + 13 + rest)
refused_cost step number r work rest before after enough pays most (inl few) = omega (arith, enough, few)
refused_cost step number r work rest before after enough pays most (inr told) = let paid = pays told.0 told.1 in omega (arith, most, paid)

-- where node files are the same, so many nodes are read
same_nodes : (step : Step) (r s : FileNo → List ℕ) → ((k : ℕ) → r (node_file k) ≡ s (node_file k)) → nodes_read step r ≡ nodes_read step s
same_nodes step r s same = λ i. 3 * sum_by (λ k. count_of (same k i)) (operands step)

-- few part numbers were taken, and turns before the last checkpoint may have taken more
pub parts_for : (number : ℕ) (r : FileNo → List ℕ) (last : Option Checkpoint) (turns next spare : ℕ)
    → Tells number (last_gated number r) last → SparesParts number r spare
    → (last ≡ None → FewAnew turns next) → next ≤ 1024 + turns / 16 → next ≤ 5 + turns / 16 + spare
parts_for number r None turns next spare told spares anew few = let fewer = anew refl in omega (arith, fewer)
parts_for number r (Some c) turns next spare told spares anew few =
    let more = spares c told in omega (arith, more, few)

module _ {S : Type 0} (tells : S → Bool) (world : S → World) (counts : S → Faults) (n : ℕ) (text : List ℕ) (number : ℕ) (p : Planned) where
  -- what is said of each run of a step that sweeps, whether it ends or is refused
  pub record Went (before after : S) : Type 0 where
    pub content : Told tells before after (Ran (OnlyMade p.step number (now (world before))) (world before) (world after))
    pub resumes : IsTrue (tells after) → (job : Job) → IsStepOf job n text number p → Holds job number (now (world before)).folder
        → Throughout (world before) (world after) (λ (m : Moment). AreResumable job number m.folder)
    pub few_calls : IsTrue (tells after) → (job : Job) → IsStepOf job n text number p → Holds job number (now (world before)).folder
        → (rest : ℕ) → PaysRest p.step number (reads_of (world before)) rest
        → (world after).clock ≤ (world before).clock + (229 * work_of job p.step + 13 + rest)
    pub stops : IsTrue (tells after) → (job : Job) → IsStepOf job n text number p → Holds job number (now (world before)).folder
        → work_of job p.step < 2 ^ 61 → (shown rest : ℕ) → IsGoneOn p.step number (world before) shown rest
        → StopsCost number shown ((world before).clock + (run_stop + rest)) (world before) (world after)

  -- what a sweep says, of which so many calls are made with no turn, and which goes on with these nodes
  pub record Swept (last : Option Checkpoint) (some : ℕ) (nodes : (FileNo → List ℕ) → ℕ) (mid after : S) : Type 0 where
    pub content : Told tells mid after (Ran (OnlyChanged (λ f. f.step ≡ number) (now (world mid))) (world mid) (world after))
    pub safe : IsTrue (tells after) → (job : Job) → IsSet job n text number p last (now (world mid)).folder
        → Throughout (world mid) (world after) (λ (m : Moment). AreSafe (JobGoesOn job number) number m.folder)
    pub few_calls : IsTrue (tells after) → (job : Job) → IsSet job n text number p last (now (world mid)).folder
        → (world after).clock ≤ (world mid).clock + (229 * work_of job p.step + some + rest_calls last (nodes (reads_of (world mid))))
    pub stops : IsTrue (tells after) → (job : Job) → IsSet job n text number p last (now (world mid)).folder
        → work_of job p.step < 2 ^ 61 → StopsCost number (shown_by last)
        ((world mid).clock + (step_stop + rest_calls last (nodes (reads_of (world mid))))) (world mid) (world after)

  own_only : sweeps p.step ≡ true → (old m : Folder) → OnlyChanges (λ f. f.step ≡ number) old m → OnlyChanges (ChangesFile p.step number) old m
  own_only swept old m only f apart = only f (λ own. apart (inr (swept, own)))

  found_only : (before mid : S) → Told tells before mid (Ran (DuringGoing number (now (world before))) (world before) (world mid))
      → Told tells before mid (Ran (OnlyChanged (λ f. f.step ≡ number) (now (world before))) (world before) (world mid))
  found_only before mid found = told tells before mid _ _ found (λ _ run.
      ran_weakens (world before) (world mid) (DuringGoing number (now (world before))) (OnlyChanged (λ f. f.step ≡ number) (now (world before))) (λ m during. during.others) run)

  -- where it was looked for how far the step has come, and that was refused
  pub went_first : (swept : sweeps p.step ≡ true) (before mid : S) (result : Result Going SortFault) → FindsGoing tells world counts number before mid result
      → Went before mid
  went_first swept before mid result found = record {
    content = told tells before mid _ _ (found_only before mid found.content) (λ _ run.
        ran_weakens (world before) (world mid) (OnlyChanged (λ f. f.step ≡ number) (now (world before))) (OnlyMade p.step number (now (world before)))
        (λ m only. own_only swept (now (world before)).folder m.folder only) run);
    resumes = λ tells_mid job is holds.
        weakens (world before) (world mid) (λ m. Holds job number m.folder) (λ m. AreResumable job number m.folder) (λ m held. held.resumable)
        (found.holds tells_mid job (of_job job n text number p is) holds);
    few_calls = λ tells_mid job is holds rest pays.
        refused_cost p.step number (reads_of (world before)) (work_of job p.step) rest _ _ (work_enough job p.step) pays
        (found.calls tells_mid) (found.gated_calls tells_mid);
    stops = λ tells_mid job is holds small shown rest gone.
        found_stops number shown ((world before).clock + (run_stop + rest)) (world before) (world mid) gone.shows (found.content.did tells_mid)
        (let few = found.calls tells_mid in omega (arith, few));
  }

  module _ (files_are : (s : S) → IsTrue (tells s) → AreFiles (now (world s)).folder) (swept : sweeps p.step ≡ true) (before mid after : S) (going : Going)
      (found : FindsGoing tells world counts number before mid (Ok going)) (some : ℕ) (nodes : (FileNo → List ℕ) → ℕ) (few : some ≤ 11)
      (fewer : (r : FileNo → List ℕ) → nodes r ≤ nodes_read p.step r) where
    -- the step is set as the sweep begins
    pub set_found : IsTrue (tells mid) → (job : Job) → IsStepOf job n text number p → Holds job number (now (world before)).folder
        → IsSet job n text number p going.last (now (world mid)).folder
    set_found tells_mid job is holds = record {
      is = is;
      holds = at_end (world before) (world mid) (λ m. Holds job number m.folder) (found.holds tells_mid job (of_job job n text number p is) holds);
      stands = found.stands tells_mid job (of_job job n text number p is) holds;
    }

    -- reads of node files, and of the gate, give what they gave
    same_reads : IsTrue (tells mid) → (f : FileNo) → ¬ (IsSweepPart number f) → (file (world mid) f).bytes ≡ (file (world before) f).bytes
    same_reads tells_mid = (ran_end (world before) (world mid) (DuringGoing number (now (world before))) (found.content.did tells_mid)).reads

    pub same_diagrams : IsTrue (tells mid) → (k : ℕ) → (file (world mid) (node_file k)).bytes ≡ (file (world before) (node_file k)).bytes
    same_diagrams tells_mid k = same_reads tells_mid (node_file k) (λ taken. let from = taken.from in absurd (omega (arith, from)))

    pub same_gate : IsTrue (tells mid) → (file (world mid) (checkpoint_gate number)).bytes ≡ (file (world before) (checkpoint_gate number)).bytes
    same_gate tells_mid = same_reads tells_mid (checkpoint_gate number) (λ taken. let from = taken.from in absurd (omega (arith, from)))

    few_nodes : IsTrue (tells mid) → nodes (reads_of (world mid)) ≤ nodes_read p.step (reads_of (world before))
    few_nodes tells_mid =
        subst (λ most. nodes (reads_of (world mid)) ≤ most) (same_nodes p.step (reads_of (world mid)) (reads_of (world before)) (same_diagrams tells_mid))
        (fewer (reads_of (world mid)))

    pub pays_for : (tells_mid : IsTrue (tells mid)) (turns rest : ℕ) → PaysRest p.step number (reads_of (world before)) rest
        → (world after).clock ≤ (world mid).clock + (229 * turns + some + rest_calls going.last (nodes (reads_of (world mid))))
        → (world after).clock ≤ (world before).clock + (229 * turns + 13 + rest)
    pays_for tells_mid turns rest pays then =
        run_cost p.step number (reads_of (world before)) going.last rest _ _ _ turns some (nodes (reads_of (world mid))) few
        (few_nodes tells_mid) (found.last tells_mid) pays (found.calls tells_mid) (found.few_calls tells_mid) then

    -- the last checkpoint shows no less than was shown before
    shown_found : IsTrue (tells mid) → (job : Job) → IsStepOf job n text number p → Holds job number (now (world before)).folder
        → (shown rest : ℕ) → IsGoneOn p.step number (world before) shown rest → shown ≤ shown_by going.last
    shown_found tells_mid job is holds shown rest gone =
        found_shows number shown (shown_by going.last) (world before) (world mid) (files_are mid tells_mid) gone.shows (found.content.did tells_mid)
        (standing_shows (JobGoesOn job number) (JobRests job number) number (next_of going.last) (now (world mid)).folder going.last
        (set_found tells_mid job is holds).stands)

    -- what the step cost for each turn beyond those that were shown before
    pub ends_for : IsTrue (tells mid) → (job : Job) → IsStepOf job n text number p → Holds job number (now (world before)).folder
        → (turns shown rest : ℕ) → IsGoneOn p.step number (world before) shown rest → going.turns ≤ turns
        → (world after).clock ≤ (world mid).clock + (229 * (turns - going.turns) + some + rest_calls going.last (nodes (reads_of (world mid))))
        → (shown ≤ turns) × ((world after).clock ≤ (world before).clock + (229 * (turns - shown) + 13 + rest))
    ends_for tells_mid job is holds turns shown rest gone grew then =
        let least = shown_found tells_mid job is holds shown rest gone in
        let come = shown_turns_of going.last going found.going.1.going_of.come_to in
        let few = pays_for tells_mid (turns - going.turns) rest gone.pays then in
        (omega (arith, least, come, grew), omega (arith, least, come, few))

    stops_then : Swept going.last some nodes mid after → IsTrue (tells after) → (job : Job) → IsStepOf job n text number p
        → Holds job number (now (world before)).folder → work_of job p.step < 2 ^ 61 → (shown rest : ℕ)
        → IsGoneOn p.step number (world before) shown rest
        → StopsCost number shown ((world before).clock + (run_stop + rest)) (world mid) (world after)
    stops_then sweep tells_after job is holds small shown rest gone =
        let tells_mid : IsTrue (tells mid) = sweep.content.before tells_after in
        let most : ℕ = (world mid).clock + (step_stop + rest_calls going.last (nodes (reads_of (world mid)))) in
        stops_more number shown most ((world before).clock + (run_stop + rest)) (world mid) (world after)
        (stop_paid p.step number (reads_of (world before)) going.last rest _ _ (nodes (reads_of (world mid))) (few_nodes tells_mid)
        (found.last tells_mid) gone.pays (found.calls tells_mid) (found.few_calls tells_mid))
        (stops_fewer number shown (shown_by going.last) most (world mid) (world after) (shown_found tells_mid job is holds shown rest gone)
        (sweep.stops tells_after job (set_found tells_mid job is holds) small))

    -- where a sweep followed
    pub went_then : Swept going.last some nodes mid after → Went before after
    went_then sweep = record {
      content = told_then tells before mid after _ _ _ (found_only before mid found.content) sweep.content (λ _ first second.
          ran_weakens (world before) (world after) (OnlyChanged (λ f. f.step ≡ number) (now (world before))) (OnlyMade p.step number (now (world before)))
          (λ m only. own_only swept (now (world before)).folder m.folder only)
          (ran_joins (world before) (world mid) (world after) (OnlyChanged (λ f. f.step ≡ number) (now (world before))) first
          (ran_weakens (world mid) (world after) (OnlyChanged (λ f. f.step ≡ number) (now (world mid))) (OnlyChanged (λ f. f.step ≡ number) (now (world before)))
          (λ m only. changes_then (λ f. f.step ≡ number) (now (world before)).folder (now (world mid)).folder m.folder
          (ran_end (world before) (world mid) (OnlyChanged (λ f. f.step ≡ number) (now (world before))) first) only) second)));
      resumes = λ tells_after job is holds.
          let tells_mid : IsTrue (tells mid) = sweep.content.before tells_after in
          let set = set_found tells_mid job is holds in
          joins (world before) (world mid) (world after) (λ m. AreResumable job number m.folder)
          ((went_first swept before mid (Ok going) found).resumes tells_mid job is holds)
          (safe_resumes_over job number (world mid) (world after) (files_are mid tells_mid) set.holds.resumable (sweep.content.did tells_after)
          (sweep.safe tells_after job set));
      few_calls = λ tells_after job is holds rest pays.
          let tells_mid : IsTrue (tells mid) = sweep.content.before tells_after in
          pays_for tells_mid (work_of job p.step) rest pays (sweep.few_calls tells_after job (set_found tells_mid job is holds));
      stops = λ tells_after job is holds small shown rest gone.
          stops_join number shown ((world before).clock + (run_stop + rest)) (world before) (world mid) (world after)
          (sweep.content.did tells_after).moments.past
          ((went_first swept before mid (Ok going) found).stops (sweep.content.before tells_after) job is holds small shown rest gone)
          (stops_then sweep tells_after job is holds small shown rest gone);
    }
