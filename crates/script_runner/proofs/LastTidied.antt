-- The steps of the last commit are tidied up once more, as a run begins.
use Rattle.std.proofs.Common.{◌≡◌, ◌∙◌, ℕ, ◌+◌, ◌-◌, ◌*◌, ◌/◌, ◌<◌, ◌≤◌, Bool, true, false, cond, nat_lt, min, List, [], length, take, get_or, refl, sym, ap, subst, inl, inr, arith}
use Rattle.std.specs.Prelude.{IsTrue, Option, Result, Ok, Err, OnOk}
use Rattle.std.proofs.lemmas.Bool.{cases_lt, ltb-false}
use Rattle.bool_tables.specs.declared.steps.Step.{Step}
use Rattle.bool_tables.specs.declared.steps.Step.TheVariants.{Drop}
use Rattle.bool_tables.specs.declared.steps.Planned.{Planned}
use Rattle.bool_tables.specs.Plans.{IsWellFormed, is_live}
use Rattle.shelf_model.specs.declared.file_no.FileNo.{FileNo}
use Rattle.shelf_model.specs.declared.fault.Failed.{Failed}
use Rattle.shelf_model.specs.declared.fault.StreamFault.{StreamFault}
use Rattle.shelf_model.specs.Faults.{Faults, OnlyFolder, OnlyShelf}
use Rattle.shelf_model.specs.File.{File, IsKept}
use Rattle.shelf_model.specs.Folder.{Folder, Image, file_in, bytes_in, IsImage, AreFiles}
use Rattle.shelf_model.specs.World.{Moment, World, now}
use Rattle.shelf_model.specs.Calls.{Told}
use Rattle.shelf_model.specs.Moments.{Ran, Quiet, Stays}
use Rattle.shelf_model.proofs.Runs.{told, weakens, ran_joins, ran_weakens, ran_end, only_folder_then}
use Rattle.catalogue.specs.declared.layout.Entry.{Entry}
use Rattle.catalogue.specs.Files.{job_step, catalogue}
use Rattle.catalogue.specs.Counts.{present, entry_at}
use Rattle.catalogue.specs.Commits.{IsReady}
use Rattle.catalogue.specs.Entries.{IsEntryOf}
use Rattle.step_work.specs.Tuples.{sweeps}
use Rattle.sound_image.specs.Steps.{IsCutBy, parts_end}
use Rattle.sweep_core.specs.declared.checkpoint.Checkpoint.{Checkpoint}
use Rattle.step_engine.specs.LeftBehind.{IsLastPoint, IsLeftBehind, most_cut}
use Rattle.step_engine.specs.OneFile.{OnlyTidied}
use Rattle.catalogue.proofs.Fields.{same_entry}
use Rattle.catalogue.proofs.Counted.{ready_counts}
use Rattle.step_work.specs.Plans.{no_step}
use Rattle.sound_image.specs.Files.{node_file}
use Rattle.sound_image.specs.Jobs.{Job}
use Rattle.sound_image.specs.Entries.{IsEntryOfStep, kind_of, work_of}
use Rattle.sound_image.specs.Holds.{Holds, AreSound}
use Rattle.sound_image.proofs.EntryLaws.{held_entry}
use Rattle.step_engine.proofs.PlanLaws.{may_run}
use Rattle.script_reader.specs.declared.plan.LineEnd.{LineEnd}
use Rattle.script_runner.specs.declared.finish.Finish.TheVariants.{FolderFault}
use Rattle.script_runner.specs.Calls.{step_calls, AreCounted}
use Rattle.script_runner.specs.Stops.{paid_in}
use Rattle.script_runner.specs.StepRuns.{IsTaking, NoneDrops, TakesSteps}
use Rattle.script_runner.proofs.Shown.{same_entries, still_shown}
use Rattle.script_runner.proofs.RunSteps.{IsPlan, AtStep, done_at, drop_below, held_steps, taking}
use Rattle.script_runner.proofs.TogetherPuts.{emptied_more, empties_on}
use Rattle.script_runner.proofs.SweepDamage.{live_not_dropped}
use Rattle.script_runner.proofs.Taking.{JobStays, AllHave, dropping, cut_file, ready_same, some_calls}
use Rattle.script_runner.proofs.Needed.{needed, needed_is, KeepsNeeded, paid_same, before, before_image, before_same, holds_needed}
use Rattle.script_runner.specs.Together.{OnlyEmptied, IsDropped}
use Rattle.script_runner.specs.Tidied.{planned_step, MayBeLast, IsCutOf, IsCutLast, may_wait, TidiedLast, TidiesFor, TidyCosts, IsEmptiedBy, EmptiesBy, EmptiesLast, tidied_to, last_calls}

-- the cuts of any step are at most so many calls
last_few : (step : Step) (e : Entry) → last_calls step e ≤ 66127
last_few step e = by_tests (nat_lt e.turns 16) (sweeps step)
  where
    by_tests : (short swept : Bool) → cond short (cond swept 4 1) (cond swept (591 + min (parts_end e.parts - 5) most_cut) 1) ≤ 66127
    by_tests true true = omega arith
    by_tests true false = omega arith
    by_tests false true = omega arith
    by_tests false false = omega arith

-- the entry of a step was read, and what it may have left behind was cut, or a part of that
module _ {S : Type 0} (tells : S → Bool) (world : S → World) (steps : List Planned) (k : ℕ) (e : Entry) (old s t : S)
    (read : Told tells old s (Ran (Stays (now (world old))) (world old) (world s)))
    (entry : IsTrue (tells s) → IsEntryOf k (present (now (world old)).folder) e) where
  pub read_and_tidied : (next : ℕ) → Told tells s t (Ran (OnlyTidied (planned_step steps k) e.number next (now (world s))) (world s) (world t))
      → Told tells old t (Ran (OnlyEmptied (IsCutOf steps k) (now (world old))) (world old) (world t))
  read_and_tidied next cuts = record {
    before = λ told. read.before (cuts.before told);
    did = λ told.
        let stays = read.did (cuts.before told) in
        let number : e.number ≡ k = (entry (cuts.before told)).number in
        let same : (now (world s)).folder ≡ (now (world old)).folder = ran_end (world old) (world s) (Stays (now (world old))) stays in
        ran_joins (world old) (world s) (world t) P
        (ran_weakens (world old) (world s) (Stays (now (world old))) P (λ m stood. record {
          only = λ f apart. ap (λ folder. file_in folder f) stood;
          empty = λ f none. ap (λ folder. file_in folder f) stood ∙ none;
          stays = λ f none. ap (λ folder. (file_in folder f).bytes) stood ∙ none;
        }) stays)
        (ran_weakens (world s) (world t) (OnlyTidied (planned_step steps k) e.number next (now (world s))) P (λ m tidied. record {
          only = λ f apart. tidied.only f (λ cut. apart (next, subst (λ n. IsCutBy (planned_step steps k) n next f) number cut))
              ∙ ap (λ folder. file_in folder f) same;
          empty = λ f none. tidied.empty f (ap (λ folder. file_in folder f) same ∙ none);
          stays = λ f none. tidied.stays f (ap (λ folder. (file_in folder f).bytes) same ∙ none);
        }) (cuts.did told));
  }
    where
      P : Moment → Type 0
      P = OnlyEmptied (IsCutOf steps k) (now (world old))

  pub read_and_tidied_calls : IsTrue (tells s) → (world s).clock ≤ (world old).clock + 1
      → (world t).clock ≤ (world s).clock + last_calls (planned_step steps k) e
      → ((world t).clock ≤ (world old).clock + 66128) × TidiesFor steps k 0 (world old) (world t)
  read_and_tidied_calls told one cuts =
      let few = last_few (planned_step steps k) e in
      (omega (arith, one, cuts, few), inr (e, entry told, omega (arith, one, cuts)))

  -- what was to be emptied is empty
  pub read_and_emptied : IsTrue (tells s) → (other : Entry) → IsEntryOf k (present (now (world old)).folder) other
      → ((gone : ℕ) → planned_step steps k ≡ Drop gone → (file_in (now (world t)).folder (node_file gone)).bytes ≡ [])
      → (IsTrue (sweeps (planned_step steps k)) → (last : Option Checkpoint) → IsLastPoint e.number (present (now (world s)).folder) last
      → (f : FileNo) → IsLeftBehind e.number (tidied_to e) last f → (file_in (now (world t)).folder f).bytes ≡ [])
      → IsEmptiedBy steps k other (now (world old)).folder (now (world t)).folder
  read_and_emptied told other is dropped swept = record {
    dropped = dropped;
    swept = λ sweeping last point f left.
        let here = entry told in
        let same : e ≡ other = same_entry e other here.entry.fits is.entry.fits (sym here.bytes ∙ is.bytes) in
        let stays : (now (world s)).folder ≡ (now (world old)).folder = ran_end (world old) (world s) (Stays (now (world old))) (read.did told) in
        swept sweeping last
        (subst (λ n. IsLastPoint n (present (now (world s)).folder) last) (sym here.number)
        (subst (λ folder. IsLastPoint k (present folder) last) (sym stays) point)) f
        (subst (λ n. IsLeftBehind n (tidied_to e) last f) (sym here.number) (subst (λ x. IsLeftBehind k (tidied_to x) last f) (sym same) left));
  }

-- where one of the steps that the last commit may have had is no drop none comes before it
pub none_before_it : (steps : List Planned) (done first k : ℕ) → ((gone : ℕ) → planned_step steps first ≡ Drop gone → ⊥) → first < done
    → MayBeLast steps done k → first ≤ k
none_before_it steps done first k none within is = elim (cases_lt k first) [
  | inl below ↦ let drop = is.drops first (omega (arith, below)) within in absurd (none drop.0 drop.1)
  | inr upto ↦ upto
]

-- the first of them was tidied up, or a part of that was done, and then the files were cut that the drops behind it drop
module _ {S : Type 0} (tells : S → Bool) (world : S → World) (steps : List Planned) (done first : ℕ) (is : MayBeLast steps done first)
    (least : (k : ℕ) → MayBeLast steps done k → first ≤ k) (old mid : S)
    (tidies : Told tells old mid (Ran (OnlyEmptied (IsCutOf steps first) (now (world old))) (world old) (world mid))) where
  pub first_tidied : Told tells old mid (Ran (TidiedLast steps done (now (world old))) (world old) (world mid))
  first_tidied = told tells old mid _ _ tidies (λ _ run.
      ran_weakens (world old) (world mid) (OnlyEmptied (IsCutOf steps first) (now (world old))) (TidiedLast steps done (now (world old)))
      (λ m. emptied_more (IsCutOf steps first) (IsCutLast steps done) (now (world old)) m (λ f cut. inl (first, is, cut))) run)

  pub all_tidied : (new : S)
      → Told tells mid new (Ran (OnlyEmptied (IsDropped steps (may_wait done) done) (now (world mid))) (world mid) (world new))
      → Told tells old new (Ran (TidiedLast steps done (now (world old))) (world old) (world new))
  all_tidied new = empties_on tells world (IsCutLast steps done) old mid first_tidied (IsDropped steps (may_wait done) done) new
      (λ f dropped. inr dropped)

  pub tidied_calls : (new : World) → (world mid).clock ≤ (world old).clock + 66128 → TidiesFor steps first 0 (world old) (world mid)
      → new.clock ≤ (world mid).clock + (done - may_wait done) → TidyCosts steps done (world old) new
  tidied_calls new most costs cuts = record {
    most = omega (arith, most, cuts);
    none = λ none. let within = is.within in absurd (omega (arith, none, within));
    few = λ some planned. (
      first,
      is,
      elim costs [
        | inl one ↦ inl (omega (arith, one, cuts))
        | inr (e, stands, few) ↦ inr (e, stands, omega (arith, few, cuts))
      ],
    );
  }

  -- and what was to be emptied is empty
  pub all_emptied : (new : S)
      → Told tells mid new (Ran (OnlyEmptied (IsDropped steps (may_wait done) done) (now (world mid))) (world mid) (world new))
      → IsTrue (tells new) → EmptiesBy steps first (now (world old)).folder (now (world mid)).folder
      → ((k gone : ℕ) → may_wait done ≤ k → k < done → planned_step steps k ≡ Drop gone → (file_in (now (world new)).folder (node_file gone)).bytes ≡ [])
      → EmptiesLast steps done (now (world old)).folder (now (world new)).folder
  all_emptied new cuts tells_new own dropped = record { first = of_first; dropped = λ upto. dropped }
    where
      last_behind_drops : (j : ℕ) → first < j → MayBeLast steps done j → (gone : ℕ) × (planned_step steps j ≡ Drop gone)
      last_behind_drops j behind other = is.drops j (omega (arith, behind)) other.within

      no_sweep : (gone : ℕ) → IsTrue (sweeps (Drop gone)) → ⊥
      no_sweep gone swept = cc

      stays : (f : FileNo) → (file_in (now (world mid)).folder f).bytes ≡ [] → (file_in (now (world new)).folder f).bytes ≡ []
      stays = (ran_end (world mid) (world new) (OnlyEmptied (IsDropped steps (may_wait done) done) (now (world mid))) (cuts.did tells_new)).stays

      still : (k : ℕ) (e : Entry) → IsEmptiedBy steps k e (now (world old)).folder (now (world mid)).folder
          → IsEmptiedBy steps k e (now (world old)).folder (now (world new)).folder
      still k e emptied = record {
        dropped = λ gone drops_it. stays (node_file gone) (emptied.dropped gone drops_it);
        swept = λ swept point at f left. stays f (emptied.swept swept point at f left);
      }

      of_first : (k : ℕ) → MayBeLast steps done k → EmptiesBy steps k (now (world old)).folder (now (world new)).folder
      of_first k last e stands kind = elim (cases_lt first k) [
        | inl behind ↦
            let drop = last_behind_drops k behind last in
            let few = last.few in
            record {
              dropped = λ gone drops_it. dropped k gone (omega (arith, few)) last.within drops_it;
              swept = λ swept. absurd (no_sweep drop.0 (subst (λ s. IsTrue (sweeps s)) drop.1 swept));
            }
        | inr upto ↦
            let low = least k last in
            let here : k ≡ first = omega (arith, upto, low) in
            still k e (subst (λ j. IsEmptiedBy steps j e (now (world old)).folder (now (world mid)).folder) (sym here)
            (own e (subst (λ j. IsEntryOf j (present (now (world old)).folder) e) here stands) (kind ∙ ap (λ j. kind_of (planned_step steps j)) here)))
      ]

-- what follows where it went well
pub ok_then : {T E X Y : Type 0} (result : Result T E) → OnOk result X → (X → Y) → OnOk result Y
ok_then (Ok x) is follows = follows is
ok_then (Err e) is follows = is

pub ok_both : {T E X Y Z : Type 0} (result : Result T E) → OnOk result X → OnOk result Y → (X → Y → Z) → OnOk result Z
ok_both (Ok x) first second follows = follows first second
ok_both (Err e) first second follows = first

-- the counts, where the read didn't fail
pub read_then : {T U : Type 0} (old mid new : Faults) (x : U) (result : Result T Failed) → OnlyShelf old mid (let r : Result U StreamFault = Ok x in r)
    → OnlyFolder mid new result → OnlyFolder old new result
read_then old mid new x result read cut =
    only_folder_then old mid new result (record { later = read.later; cause = tt; say_is = read.say_is; text_is = read.text_is }) cut

-- a step of the job whose entry stands whole pays for that: it read the entry, and cut what few turns of its work took,
-- and one file more
last_within : (step : Step) (e : Entry) (work : ℕ) → 1 ≤ e.turns → e.turns ≤ work → e.parts ≤ 1024 + e.turns / 16
    → 2 + last_calls step e ≤ cond (sweeps step) (229 * work + work / 16 + 22) 11
last_within step e work some within few = by_tests (nat_lt e.turns 16) refl (sweeps step)
  where
    by_tests : (short : Bool) → nat_lt e.turns 16 ≡ short → (swept : Bool)
        → 2 + cond short (cond swept 4 1) (cond swept (591 + min (parts_end e.parts - 5) most_cut) 1) ≤ cond swept (229 * work + work / 16 + 22) 11
    by_tests true is true = omega (arith, some, within)
    by_tests true is false = omega arith
    by_tests false is true = let long : 16 ≤ e.turns = ltb-false e.turns 16 is in omega (arith, long, within, few)
    by_tests false is false = omega arith

-- and so does one that doesn't sweep, whatever stands there
last_unswept : (step : Step) (e : Entry) → sweeps step ≡ false → last_calls step e ≤ 1
last_unswept step e is = by_test (nat_lt e.turns 16) (sweeps step) is
  where
    by_test : (short swept : Bool) → swept ≡ false → cond short (cond swept 4 1) (cond swept (591 + min (parts_end e.parts - 5) most_cut) 1) ≤ 1
    by_test short true is = absurd cc
    by_test true false is = omega arith
    by_test false false is = omega arith

module _ (job : Job) (plan : IsWellFormed job.n job.text job.steps) (count : ℕ) (upto : count ≤ length job.steps) where
  -- what is cut of the steps of the last commit is a file of a committed step
  cut_below : (f : FileNo) → IsCutLast job.steps count f → f.step < count
  cut_below f (inr (k, from, below, (gone, drops_it, at))) =
      let low : gone < k = drop_below job k gone plan (omega (arith, below, upto)) drops_it in
      let same : f.step ≡ gone = ap (λ (q : FileNo). q.step) at in
      omega (arith, low, same, below)
  cut_below f (inl (k, is, (next, cut))) =
      let below = is.within in
      let within : k < length job.steps = omega (arith, below, upto) in
      let low : f.step ≤ k =
      cut_file (planned_step job.steps k) k next f (may_run job.n job.text job.steps k no_step within plan).operands_are cut in
      omega (arith, below, low)

  -- and none that a run needs
  not_needed : (f : FileNo) → IsTrue (needed job.steps count f) → IsCutLast job.steps count f → ⊥
  not_needed f need cut = elim (needed_is job.steps count f need) [
    | inl later ↦ let below = cut_below f cut in omega (arith, below, later)
    | inr (first, live) ↦ not_live first live cut
  ]
    where
      not_live : f.part ≡ 0 → IsTrue (is_live (take count job.steps) f.step) → IsCutLast job.steps count f → ⊥
      not_live first live (inr (k, from, below, (gone, drops_it, at))) =
          live_not_dropped job.steps count gone k below upto
          (subst (λ j. IsTrue (is_live (take count job.steps) j)) (ap (λ (q : FileNo). q.step) at) live) drops_it
      not_live first live (inl (k, is, (next, inl (gone, dropped, at)))) =
          live_not_dropped job.steps count gone k is.within upto
          (subst (λ j. IsTrue (is_live (take count job.steps) j)) (ap (λ (q : FileNo). q.step) at) live)
          (dropping gone (planned_step job.steps k) dropped)
      not_live first live (inl (k, is, (next, inr (swept, own)))) = let from : 1 ≤ f.part = own.from in omega (arith, first, from)

  keeps_needed : (old m : Moment) → TidiedLast job.steps count old m → KeepsNeeded job.steps count old.folder m.folder
  keeps_needed old m tidied f need = tidied.only f (not_needed f need)

  -- the files of the job stay
  pub job_stays : (old m : Moment) → TidiedLast job.steps count old m → JobStays old.folder m.folder
  job_stays old m tidied f job_step =
      tidied.only f (λ cut. let below = cut_below f cut in let few = plan.few_steps in omega (arith, below, job_step, upto, few))

  -- the steps so far are held
  pub holds_tidied_last : (old m : Moment) → AreFiles old.folder → TidiedLast job.steps count old m → Holds job count old.folder → Holds job count m.folder
  holds_tidied_last old m files tidied = holds_needed job plan count old.folder m.folder files (keeps_needed old m tidied)

  -- and each image pays for what one of before does
  pub pays_as_before : (old m : Moment) → AreFiles old.folder → IsReady count old.folder → TidiedLast job.steps count old m
      → (image : Image) → IsImage m.folder image
      → (first : Image) × IsImage old.folder first × (paid_in job (bytes_in image) ≡ paid_in job (bytes_in first))
  pays_as_before old m files ready tidied image is_image =
      let keeps : KeepsNeeded job.steps count old.folder m.folder = keeps_needed old m tidied in (
        before job plan count old.folder m.folder files keeps image is_image,
        before_image job plan count old.folder m.folder files keeps image is_image,
        paid_same job count (bytes_in (before job plan count old.folder m.folder files keeps image is_image)) (bytes_in image)
            (let few = plan.few_steps in omega (arith, few, upto)) (before_same job plan count old.folder m.folder files keeps image is_image)
            (ready_counts count m.folder image (ready_same count old.folder m.folder (job_stays old m tidied) ready) is_image).count,
      )

  -- it is as while steps are taken of which none is made
  pub taking_none : (old new : World) → AreFiles (now old).folder → IsReady count (now old).folder → Ran (TidiedLast job.steps count (now old)) old new
      → TakesSteps job count count (Err FolderFault) old new
  taking_none old new files ready run = record {
    run = ran_weakens old new (TidiedLast job.steps count (now old)) (λ m. IsTaking (length job.steps) count count (now old).folder m.folder) (λ m tidied. record {
      others = λ f apart. tidied.only f (λ cut. let below = cut_below f cut in apart (inl (omega (arith, below, upto))));
      counts = λ image is_image.
          let has = ready_counts count m.folder image (ready_same count (now old).folder m.folder (job_stays (now old) m tidied) ready) is_image in
          let same = has.count in
          record { stored = has.stored; no_fewer = omega (arith, same); no_more = omega (arith, same) };
      kept = λ front short kept. subst (IsKept front) (sym (job_stays (now old) m tidied catalogue refl)) kept;
      reads = ap (λ (x : File). take (128 * count) x.bytes) (job_stays (now old) m tidied catalogue refl);
    }) run;
    reached = tt;
    ready = tt;
    last = tt;
    made = tt;
    emptied = tt;
    still_empty = tt;
    keeps = tt;
    later = tt;
    stops = tt;
    damaged = λ f at e. cc;
    spent = λ j e. cc;
    holds = λ holds. record {
      images = weakens old new (Quiet (now old).said (TidiedLast job.steps count (now old))) (AllHave job count) (λ m quiet image is_image.
          held_steps job count m.folder image (holds_tidied_last (now old) m files quiet.holds holds) is_image) run.moments;
      ok = tt;
      err = λ x. x;
      spent = λ j e. cc;
    };
  }

  -- the first step's own calls pay for it, as the step isn't taken in this run, and for one more cut, but for those that
  -- cut other files
  pub last_paid : (paid besides k : ℕ) (old : Folder) (mid new : World) → MayBeLast job.steps count k → AreCounted job old paid
      → (AreSound job old → Holds job count (now mid).folder) → TidiesFor job.steps k (besides + 1) mid new
      → new.clock ≤ mid.clock + (step_calls job (get_or job.steps k no_step) + besides)
  last_paid paid besides k old mid new is counted holds costs = elim costs [
    | inl one ↦
        let more = some_calls (sweeps (planned_step job.steps k)) (work_of job (planned_step job.steps k)) in
        omega (arith, one, more)
    | inr (e, stands, few) ↦
        let below = is.within in
        elim counted [
          | inl each ↦
              let more = some_calls (sweeps (planned_step job.steps k)) (work_of job (planned_step job.steps k)) in
              let least = last_unswept (planned_step job.steps k) e (each k (omega (arith, below, upto))) in
              omega (arith, few, more, least)
          | inr (sound, pays) ↦
              let is_entry : IsEntryOfStep job k e = held_entry job count k (now mid).folder e (holds sound) is.within stands in
              let least = last_within (planned_step job.steps k) e (work_of job (planned_step job.steps k)) is_entry.turns_are.0 is_entry.turns_are.1 is_entry.parts_are.2 in
              omega (arith, few, least)
        ]
  ]

-- a run stands where it stood, once the steps of the last commit were tidied up or a part of that was done
pub tidied_at : (job : Job) (lines : List LineEnd) (plan : IsPlan job lines) (old : World) (files : AreFiles (now old).folder) (step : ℕ) (rest : List LineEnd)
    (mid new : World) → AreFiles (now mid).folder → (at : AtStep job lines step rest old mid) → Ran (TidiedLast job.steps step (now mid)) mid new
    → AtStep job lines step rest old new
tidied_at job lines plan old files step rest mid new mid_files at run = record {
  run = taking job lines plan old files step rest mid at new step (Err FolderFault) at.waits takes;
  ready = ready_same step (now mid).folder (now new).folder stays at.ready;
  reached = at.reached;
  upto = at.upto;
  spoken = at.spoken;
  parts = at.parts;
  place = at.place;
  place_is = at.place_is;
  within = at.within;
  rest_is = at.rest_is;
  earlier = at.earlier;
  waits = at.waits;
  body = at.body;
  said_is = run.station.said_is ∙ at.said_is;
  shown = still_shown job.steps step (present (now mid).folder) (present (now new).folder) at.spoken at.body entries at.below at.shown;
  below = at.below;
  made = record {
    kept = λ front short kept. subst (IsKept front) (sym (stays catalogue refl)) (at.made.kept front short kept);
    reads = ap (λ (x : File). take (128 * done_at old) x.bytes) (stays catalogue refl) ∙ at.made.reads;
    made = λ k from until.
        let found = at.made.made k from until in (
          found.0,
          record {
            stands = record { entry = found.1.stands.entry; number = found.1.stands.number; bytes = entries k until ∙ found.1.stands.bytes };
            kind_is = found.1.kind_is;
          },
        );
    emptied = λ k from until gone drops_it. tidied.stays (node_file gone) (at.made.emptied k from until gone drops_it);
    keeps = λ k below none. tidied.only (node_file k) (λ cut. undropped k none cut) ∙ at.made.keeps k below none;
    later = λ f from before.
        tidied.only f (λ cut. let below = cut_below job plan.well_formed step at.upto f cut in omega (arith, below, from)) ∙ at.made.later f from before;
  };
  sound = λ sound. record {
    text_is = (at.sound sound).text_is;
    holds = holds_tidied_last job plan.well_formed step at.upto (now mid) (now new) mid_files tidied (at.sound sound).holds;
  };
}
  where
    tidied : TidiedLast job.steps step (now mid) (now new)
    tidied = ran_end mid new (TidiedLast job.steps step (now mid)) run

    stays : JobStays (now mid).folder (now new).folder
    stays = job_stays job plan.well_formed step at.upto (now mid) (now new) tidied

    takes : TakesSteps job step step (Err FolderFault) mid new
    takes = taking_none job plan.well_formed step at.upto mid new mid_files at.ready run

    entries : (k : ℕ) → k < step → entry_at k (present (now new).folder) ≡ entry_at k (present (now mid).folder)
    entries k below = same_entries step (file_in (now mid).folder catalogue).bytes (file_in (now new).folder catalogue).bytes
        (ap (λ (x : File). take (128 * step) x.bytes) (stays catalogue refl)) k below

    undropped : (k : ℕ) → NoneDrops job.steps 0 step k → IsCutLast job.steps step (node_file k) → ⊥
    undropped k none (inr (j, from, below, (gone, drops_it, at))) =
        let same : gone ≡ k = ap (λ (q : FileNo). q.step) (sym at) in
        none j (omega arith) below (drops_it ∙ ap Drop same)
    undropped k none (inl (j, is, (next, inl (gone, dropped, at)))) =
        let same : gone ≡ k = ap (λ (q : FileNo). q.step) (sym at) in
        none j (omega arith) is.within (dropping gone (planned_step job.steps j) dropped ∙ ap Drop same)
    undropped k none (inl (j, is, (next, inr (swept, own)))) = let no : 1 ≤ 0 = own.from in omega (arith, no)
