-- Steps that are made at once: the files while they are gathered, committed together and tidied up, and that the folder
-- holds them.
use Rattle.std.proofs.Common.{◌≡◌, ◌≢◌, ◌∙◌, ℕ, ◌+◌, ◌*◌, ◌<◌, ◌≤◌, Bool, List, [], length, take, drop, refl, sym, ap, subst, inl, inr, arith}
use Rattle.std.specs.Prelude.{IsTrue, Option, Some, None, Result, Ok, Err}
use Rattle.std.proofs.lemmas.Cmp.{nat_eq_equiv}
use Rattle.bool_tables.specs.declared.steps.Step.TheVariants.{Drop}
use Rattle.bool_tables.specs.Plans.{IsWellFormed, is_live, drops}
use Rattle.shelf_model.specs.declared.fault.Failed.{Failed}
use Rattle.shelf_model.specs.declared.file_no.FileNo.{FileNo}
use Rattle.shelf_model.specs.Calls.{Told}
use Rattle.shelf_model.specs.Faults.{Faults}
use Rattle.shelf_model.specs.File.{File, firm_file}
use Rattle.shelf_model.specs.Folder.{Folder, file_in, bytes_in, AreFiles}
use Rattle.shelf_model.specs.Moments.{Throughout, Quiet, Ran}
use Rattle.shelf_model.specs.World.{Moment, World, now, file}
use Rattle.shelf_model.proofs.Runs.{joins, weakens, at_end, ran_weakens, ran_joins, ran_end}
use Rattle.catalogue.specs.declared.layout.Entry.{Entry}
use Rattle.catalogue.specs.Commits.{IsReady, IsCountedWithin, DuringCommits, AreCommitted}
use Rattle.catalogue.specs.Counts.{HasCount, present, count_in, entry_at}
use Rattle.catalogue.specs.Entries.{entry_bytes}
use Rattle.catalogue.specs.Files.{job_step, catalogue}
use Rattle.step_work.specs.Plans.{no_step}
use Rattle.sound_image.specs.Files.{node_file, checkpoint_gate}
use Rattle.sound_image.specs.Holds.{Holds, NoneGated}
use Rattle.sound_image.specs.Jobs.{Job, step_at}
use Rattle.sound_image.specs.Waiting.{Waits}
use Rattle.sound_image.proofs.Live.{live_sooner, live_undropped}
use Rattle.sound_image.proofs.Numbers.{IsOfStep, node_of_step, not_catalogue, not_step_gate}
use Rattle.sound_image.proofs.Resuming.{none_gated_resumes}
use Rattle.sound_image.proofs.StepLaws.{holds_kept}
use Rattle.sound_image.proofs.Waiting.{sound_while_waiting_committed, none_after_commits, holds_after_commits}
use Rattle.step_engine.specs.StepEntries.{IsEntryFor}
use Rattle.script_runner.specs.AtOnce.{IsNodesOf, HoldsUngated, DuringGather, AreGathered, Gathers, TakesMore}
use Rattle.script_runner.specs.StepRuns.{IsTaking, HasEntry, StaysEmpty, KeepsDiagrams, KeepsLater}
use Rattle.script_runner.specs.Together.{OnlyEmptied, IsDropped}
use Rattle.script_runner.proofs.Resting.{rests_on_steps}
use Rattle.script_runner.proofs.RunSteps.{drop_below, held_steps}
use Rattle.script_runner.proofs.Taking.{AllHave, JobStays, Takes, ready_same, taking_same}

-- an entry for a step that stands in its place is the step's
entry_there : (job : Job) (k : ℕ) (x : Entry) (r : FileNo → List ℕ) → IsEntryFor (step_at job k).step k x → entry_at k r ≡ entry_bytes x
    → HasEntry job.steps k x r
entry_there job k x r fits placed =
    record { stands = record { entry = fits.entry_is; number = fits.number_is; bytes = placed }; kind_is = fits.kind_is }

module _ (job : Job) (plan : IsWellFormed job.n job.text job.steps) (from until : ℕ) (within : from ≤ until) (upto : until ≤ length job.steps) where
  -- the node files of the steps that are gathered are those of steps
  nodes_within : (f : FileNo) → IsNodesOf job.steps from until f → (from ≤ f.step) × (f.step < length job.steps)
  nodes_within f (k, least, short, makes, is) =
      let same : f.step ≡ k = ap (λ (q : FileNo). q.step) is in
      (omega (arith, same, least), omega (arith, same, short, upto))

  -- while they are gathered
  gather_takes : (old m : Moment) → DuringGather job.steps from from until old m → IsTaking (length job.steps) from until old.folder m.folder
  gather_takes old m during = record {
    others = λ f apart. during.others f (λ same. apart (inr (ap (λ (q : FileNo). q.step) same))) (λ made. apart (inl (nodes_within f made).1));
    counts = λ image is_image.
        let has : HasCount from (bytes_in image) = during.images image is_image in
        let same : count_in (bytes_in image) ≡ from = has.count in
        record { stored = has.stored; no_fewer = omega (arith, same); no_more = omega (arith, same, within) };
    kept = λ front short kept. during.kept front short kept;
    reads = during.reads;
  }

  -- an earlier diagram's file stays
  gather_keeps : (old m : Moment) → DuringGather job.steps from from until old m → (k : ℕ) → k < from
      → file_in m.folder (node_file k) ≡ file_in old.folder (node_file k)
  gather_keeps old m during k below =
      let few = plan.few_steps in
      during.others (node_file k) (not_catalogue (node_file k) (node_of_step k (omega (arith, below, within, upto, few))))
      (λ made. let least : from ≤ k = (nodes_within (node_file k) made).0 in omega (arith, least, below))

  -- while they are committed
  commit_takes : (waiting : ℕ) (old : Folder) (mid m : Moment) → from + waiting ≤ until → IsTaking (length job.steps) from until old mid.folder
      → DuringCommits from waiting mid m → IsTaking (length job.steps) from until old m.folder
  commit_takes waiting old mid m short so_far during = record {
    others = λ f apart.
        during.others f (λ same. apart (inr (ap (λ (q : FileNo). q.step) same))) (λ same. apart (inr (ap (λ (q : FileNo). q.step) same)))
        ∙ so_far.others f apart;
    counts = λ image is_image.
        let counted : IsCountedWithin from waiting (file_in mid.folder catalogue).bytes (bytes_in image) = during.images image is_image in
        let same : count_in (bytes_in image) ≡ counted.count = counted.counts.count in
        let low = counted.least in
        let high = counted.most in
        record { stored = counted.counts.stored; no_fewer = omega (arith, same, low); no_more = omega (arith, same, high, short) };
    kept = λ front size kept. during.kept front (so_far.kept front size kept);
    reads = ap (take (128 * from)) during.reads ∙ so_far.reads;
  }

  module _ (end : ℕ) (past : from < end) (short : end ≤ until) where
    inside : end ≤ length job.steps
    inside = omega (arith, short, upto)

    -- what they drop is of steps before the last of them
    dropped_below : (f : FileNo) → IsDropped job.steps from end f → f.step < end
    dropped_below f (j, least, below, (gone, drops_it, is)) =
        let low : gone < j = drop_below job j gone plan (let all = inside in omega (arith, below, all)) drops_it in
        let same : f.step ≡ gone = ap (λ (q : FileNo). q.step) is in
        omega (arith, low, same, below)

    -- so the job's files stay while that is cut
    pub job_cut : (last m : Moment) → OnlyEmptied (IsDropped job.steps from end) last m → JobStays last.folder m.folder
    job_cut last m cut f of_job =
        cut.only f (λ dropped. let own = dropped_below f dropped in let few = plan.few_steps in let all = inside in omega (arith, own, of_job, few, all))

    cut_takes : (old : Folder) (last m : Moment) → IsReady end last.folder → IsTaking (length job.steps) from until old last.folder
        → OnlyEmptied (IsDropped job.steps from end) last m → IsTaking (length job.steps) from until old m.folder
    cut_takes old last m ready so_far cut =
        taking_same (length job.steps) from until end old last.folder m.folder (omega (arith, past)) short ready (job_cut last m cut)
        (λ f apart. cut.only f (λ dropped. apart (inl (let own = dropped_below f dropped in let all = inside in omega (arith, own, all))))) so_far

    -- what is dropped isn't live behind them
    not_live : (s : ℕ) → IsTrue (is_live (take end job.steps) s) → ¬ (IsDropped job.steps from end (node_file s))
    not_live s live (j, least, below, (gone, drops_it, is)) =
        let same : s ≡ gone = ap (λ (q : FileNo). q.step) is in
        let all = inside in
        let low : gone < j = drop_below job j gone plan (omega (arith, below, all)) drops_it in
        live_undropped job.steps j s no_step (omega (arith, below, all))
        (subst (λ x. IsTrue (drops s x)) (sym drops_it) (subst (λ i. IsTrue (drops s (Drop i))) same (nat_eq_equiv.refl s)))
        (live_sooner job.steps (j + 1) end s no_step (omega (arith, below)) all (omega (arith, same, low)) live)

    -- while it is cut the folder holds them
    holds_cut : (last m : Moment) → OnlyEmptied (IsDropped job.steps from end) last m → Holds job end last.folder → NoneGated job end last.folder
        → Holds job end m.folder
    holds_cut last m cut holds none = holds_kept job end last.folder m.folder holds (record {
      of_job = job_cut last m cut;
      nodes = λ s live. cut.only (node_file s) (not_live s live);
      resumable = none_gated_resumes job end m.folder (λ s behind below. cut.empty (checkpoint_gate s) (none s behind below));
    })

-- what stays of the files of steps while steps that wait are committed
pub files_stay : (from waiting : ℕ) (mid m : Moment) → DuringCommits from waiting mid m → (f : FileNo) → f.step ≢ job_step
    → file_in m.folder f ≡ file_in mid.folder f
files_stay from waiting mid m during f apart =
    let of_step : IsOfStep f = record { early = apart } in
    during.others f (not_catalogue f of_step) (not_step_gate f of_step)

-- a folder holds the committed steps, and none behind them is gated
abbrev HeldUngated : Job → ℕ → Moment → Type 0
HeldUngated job count m = HoldsUngated job count m.folder

module _ {S : Type 0} (tells : S → Bool) (world : S → World) (counts : S → Faults) (law : (s : S) → IsTrue (tells s) → AreFiles (now (world s)).folder)
    (job : Job) (plan : IsWellFormed job.n job.text job.steps) (from until spare left : ℕ) (within : from ≤ until) (upto : until ≤ length job.steps)
    (old s : S) where
  -- the steps are gathered
  module _ (result : Result (Option Entry) Failed) (gathers : Gathers tells world counts job from until spare left old s result) where
    pub run_gathered : IsTrue (tells s) → Ran (Takes job from until (world old)) (world old) (world s)
    run_gathered tells_s =
        ran_weakens (world old) (world s) (DuringGather job.steps from from until (now (world old))) (Takes job from until (world old))
        (λ m during. gather_takes job plan from until within upto (now (world old)) m during) (gathers.content.did tells_s)

    during_gather : IsTrue (tells s) → DuringGather job.steps from from until (now (world old)) (now (world s))
    during_gather tells_s =
        ran_end (world old) (world s) (DuringGather job.steps from from until (now (world old))) (gathers.content.did tells_s)

    images_gathered : IsTrue (tells s) → HoldsUngated job from (now (world old)).folder → Throughout (world old) (world s) (AllHave job from)
    images_gathered tells_s holds = weakens (world old) (world s) (HeldUngated job from) (AllHave job from)
        (λ m held image is_image. held_steps job from m.folder image held.holds is_image) (gathers.holds tells_s holds)

    -- a call failed meanwhile
    pub gather_failed : (fault : Failed) → Told tells old s (TakesMore job from until (Err fault) (world old) (world s))
    gather_failed fault = record {
      before = λ tells_s. gathers.content.before tells_s;
      did = λ tells_s. record { run = run_gathered tells_s; took = tt; last = tt; images = λ holds. images_gathered tells_s holds };
    }

  -- none was made
  pub none_gathered : Gathers tells world counts job from until spare left old s (Ok None)
      → Told tells old s (TakesMore job from until (Ok None) (world old) (world s))
  none_gathered gathers = record {
    before = λ tells_s. gathers.content.before tells_s;
    did = λ tells_s.
        let gathered : AreGathered job from None spare left (world old) (world s) = gathers.gathered tells_s in
        let during = during_gather (Ok None) gathers tells_s in
        let stays = gather_keeps job plan from until within upto (now (world old)) (now (world s)) during in
        record {
          run = run_gathered (Ok None) gathers tells_s;
          took = record {
            ready = gathered.ready;
            made = λ k least below. absurd (omega (arith, least, below));
            emptied = λ k least below. absurd (omega (arith, least, below));
            still_empty = λ k below before. ap (λ (x : File). x.bytes) (stays k below) ∙ before;
            keeps = λ k below none. stays k below;
            later = gathered.later;
            holds = λ holds. (at_end (world old) (world s) (HeldUngated job from) (gathers.holds tells_s holds)).holds;
          };
          last = tt;
          images = λ holds. images_gathered (Ok None) gathers tells_s holds;
        };
  }

  -- they were made, and are committed
  module _ (e : Entry) (gathers : Gathers tells world counts job from until spare left old s (Ok (Some e))) (waiting : ℕ)
      (all : from + waiting ≡ e.number + 1) (t : S)
      (commits : Told tells s t (Ran (DuringCommits from waiting (now (world s))) (world s) (world t))) where
    past : from < e.number + 1
    past = let least = gathers.some.0 in omega (arith, least)

    short : e.number + 1 ≤ until
    short = let below = gathers.some.1 in omega (arith, below)

    some : 1 ≤ waiting
    some = let behind = past in omega (arith, behind, all)

    gathered : IsTrue (tells s) → AreGathered job from (Some e) spare left (world old) (world s)
    gathered tells_s = gathers.gathered tells_s

    waits : IsTrue (tells s) → HoldsUngated job from (now (world old)).folder → Waits job from (from + waiting) (now (world s)).folder
    waits tells_s holds = subst (λ n. Waits job from n (now (world s)).folder) (sym all) ((gathered tells_s).waits holds).0

    pub run_committed : IsTrue (tells s) → IsTrue (tells t) → Ran (Takes job from until (world old)) (world old) (world t)
    run_committed tells_s tells_t =
        let so_far = run_gathered (Ok (Some e)) gathers tells_s in
        ran_joins (world old) (world s) (world t) (Takes job from until (world old)) so_far
        (ran_weakens (world s) (world t) (DuringCommits from waiting (now (world s))) (Takes job from until (world old))
        (λ m during. commit_takes job plan from until within upto waiting (now (world old)).folder (now (world s)) m
        (let last = short in omega (arith, all, last)) (ran_end (world old) (world s) (Takes job from until (world old)) so_far) during)
        (commits.did tells_t))

    images_committed : IsTrue (tells s) → IsTrue (tells t) → HoldsUngated job from (now (world old)).folder
        → Throughout (world old) (world t) (AllHave job from)
    images_committed tells_s tells_t holds =
        joins (world old) (world s) (world t) (AllHave job from) (images_gathered (Ok (Some e)) gathers tells_s holds)
        (weakens (world s) (world t) (Quiet (now (world s)).said (DuringCommits from waiting (now (world s)))) (AllHave job from)
        (λ m quiet image is_image.
        let safe = sound_while_waiting_committed job plan.few_steps (rests_on_steps job plan) from waiting (now (world s)) m (law s tells_s)
        (waits tells_s holds) quiet.holds image is_image in
        record { sound = safe.sound; counts = safe.no_fewer; stored = safe.stored }) (commits.did tells_t).moments)

    -- a call failed meanwhile
    pub commit_failed : (fault : Failed) → Told tells old t (TakesMore job from until (Err fault) (world old) (world t))
    commit_failed fault = record {
      before = λ tells_t. gathers.content.before (commits.before tells_t);
      did = λ tells_t.
          let tells_s : IsTrue (tells s) = commits.before tells_t in
          record { run = run_committed tells_s tells_t; took = tt; last = tt; images = λ holds. images_committed tells_s tells_t holds };
    }

    -- and what they drop is cut
    module _ (committed : IsTrue (tells t) → AreCommitted from waiting (now (world s)).folder (now (world t)).folder) (u : S)
        (cuts : Told tells t u (Ran (OnlyEmptied (IsDropped job.steps from (e.number + 1)) (now (world t))) (world t) (world u))) where
      ready_t : IsTrue (tells t) → IsReady (e.number + 1) (now (world t)).folder
      ready_t tells_t = subst (λ n. IsReady n (now (world t)).folder) all (committed tells_t).ready

      pub run_cut : IsTrue (tells u) → Ran (Takes job from until (world old)) (world old) (world u)
      run_cut tells_u =
          let tells_t = cuts.before tells_u in
          let so_far = run_committed (commits.before tells_t) tells_t in
          ran_joins (world old) (world t) (world u) (Takes job from until (world old)) so_far
          (ran_weakens (world t) (world u) (OnlyEmptied (IsDropped job.steps from (e.number + 1)) (now (world t))) (Takes job from until (world old))
          (λ m cut. cut_takes job plan from until within upto (e.number + 1) past short (now (world old)).folder (now (world t)) m (ready_t tells_t)
          (ran_end (world old) (world t) (Takes job from until (world old)) so_far) cut) (cuts.did tells_u))

      module _ (tells_u : IsTrue (tells u)) where
        tells_t : IsTrue (tells t)
        tells_t = cuts.before tells_u

        tells_s : IsTrue (tells s)
        tells_s = commits.before tells_t

        during_commit : DuringCommits from waiting (now (world s)) (now (world t))
        during_commit = ran_end (world s) (world t) (DuringCommits from waiting (now (world s))) (commits.did tells_t)

        pub is_cut : OnlyEmptied (IsDropped job.steps from (e.number + 1)) (now (world t)) (now (world u))
        is_cut = ran_end (world t) (world u) (OnlyEmptied (IsDropped job.steps from (e.number + 1)) (now (world t))) (cuts.did tells_u)

        pub job_stays : JobStays (now (world t)).folder (now (world u)).folder
        job_stays = job_cut job plan from until within upto (e.number + 1) past short (now (world t)) (now (world u)) is_cut

        pub ready_u : IsReady (e.number + 1) (now (world u)).folder
        ready_u = ready_same (e.number + 1) (now (world t)).folder (now (world u)).folder job_stays (ready_t tells_t)

        -- the catalogue is sure then, as it was when they were gathered
        pub catalogue_sure : file_in (now (world u)).folder catalogue ≡ firm_file (file_in (now (world s)).folder catalogue).bytes
        catalogue_sure = job_stays catalogue refl ∙ (committed tells_t).catalogue_is

        stands : (k : ℕ) → entry_at k (present (now (world u)).folder) ≡ entry_at k (present (now (world s)).folder)
        stands k = ap (λ (x : File). take 128 (drop (128 * k) x.bytes)) catalogue_sure

        entries_made : (k : ℕ) → from ≤ k → k < e.number + 1 → (x : Entry) × HasEntry job.steps k x (present (now (world u)).folder)
        entries_made k least below =
            let found = (gathered tells_s).put k least below in
            (found.0, entry_there job k found.0 (present (now (world u)).folder) found.1 (stands k ∙ found.2))

        last_made : HasEntry job.steps e.number e (present (now (world u)).folder)
        last_made =
            let found = (gathered tells_s).stands in
            entry_there job e.number e (present (now (world u)).folder) found.0 (stands e.number ∙ found.1)

        -- the file of a step stays until it is cut
        until_cut : (f : FileNo) → f.step ≢ job_step → file_in (now (world t)).folder f ≡ file_in (now (world s)).folder f
        until_cut f apart = files_stay from waiting (now (world s)) (now (world t)) during_commit f apart

        earlier : (k : ℕ) → k < from → file_in (now (world t)).folder (node_file k) ≡ file_in (now (world old)).folder (node_file k)
        earlier k below =
            let few = plan.few_steps in
            until_cut (node_file k) (λ is. let same : k ≡ job_step = is in omega (arith, same, below, within, upto, few))
            ∙ gather_keeps job plan from until within upto (now (world old)) (now (world s)) (during_gather (Ok (Some e)) gathers tells_s) k below

        still_empty : (k : ℕ) → k < from → StaysEmpty (node_file k) (now (world old)).folder (now (world u)).folder
        still_empty k below before = is_cut.stays (node_file k) (ap (λ (x : File). x.bytes) (earlier k below) ∙ before)

        keeps_diagrams : KeepsDiagrams job.steps from (e.number + 1) (now (world old)).folder (now (world u)).folder
        keeps_diagrams k below none = is_cut.only (node_file k) not_dropped ∙ earlier k below
          where
            not_dropped : ¬ (IsDropped job.steps from (e.number + 1) (node_file k))
            not_dropped (j, least, before, (gone, drops_it, is)) =
                let same : gone ≡ k = ap (λ (q : FileNo). q.step) (sym is) in
                none j least before (drops_it ∙ ap Drop same)

        keeps_later : KeepsLater (e.number + 1) (now (world old)).folder (now (world u)).folder
        keeps_later f least before =
            is_cut.only f (λ dropped.
            let low = dropped_below job plan from until within upto (e.number + 1) past short f dropped in omega (arith, low, least))
            ∙ until_cut f (λ is. omega (arith, is, before))
            ∙ (gathered tells_s).later f least before

        -- and the folder holds them
        module _ (holds : HoldsUngated job from (now (world old)).folder) where
          holds_t : Holds job (e.number + 1) (now (world t)).folder
          holds_t = subst (λ n. Holds job n (now (world t)).folder) all
              (holds_after_commits job plan.few_steps (rests_on_steps job plan) from waiting (now (world s)) (now (world t)) (law s tells_s)
              (waits tells_s holds) during_commit some (committed tells_t))

          none_t : NoneGated job (e.number + 1) (now (world t)).folder
          none_t = subst (λ n. NoneGated job n (now (world t)).folder) all
              (none_after_commits job plan.few_steps (rests_on_steps job plan) from waiting (now (world s)) (now (world t)) (law s tells_s)
              (waits tells_s holds) during_commit some)

          holds_m : (m : Moment) → OnlyEmptied (IsDropped job.steps from (e.number + 1)) (now (world t)) m → Holds job (e.number + 1) m.folder
          holds_m m cut = holds_cut job plan from until within upto (e.number + 1) past short (now (world t)) m cut holds_t none_t

          images_cut : Throughout (world old) (world u) (AllHave job from)
          images_cut = joins (world old) (world t) (world u) (AllHave job from) (images_committed tells_s tells_t holds)
              (weakens (world t) (world u) (Quiet (now (world t)).said (OnlyEmptied (IsDropped job.steps from (e.number + 1)) (now (world t))))
              (AllHave job from) (λ m quiet image is_image.
              let has = held_steps job (e.number + 1) m.folder image (holds_m m quiet.holds) is_image in
              let counts = has.counts in
              let behind = past in
              record { sound = has.sound; counts = omega (arith, counts, behind); stored = has.stored }) (cuts.did tells_u).moments)

      -- a call failed meanwhile
      pub cut_failed : (fault : Failed) → Told tells old u (TakesMore job from until (Err fault) (world old) (world u))
      cut_failed fault = record {
        before = λ tells_u. gathers.content.before (commits.before (cuts.before tells_u));
        did = λ tells_u. record { run = run_cut tells_u; took = tt; last = tt; images = λ holds. images_cut tells_u holds };
      }

      pub took_more : (IsTrue (tells u) → (k gone : ℕ) → from ≤ k → k < e.number + 1 → (step_at job k).step ≡ Drop gone
          → (file (world u) (node_file gone)).bytes ≡ [])
          → Told tells old u (TakesMore job from until (Ok (Some e)) (world old) (world u))
      took_more empty = record {
        before = λ tells_u. gathers.content.before (commits.before (cuts.before tells_u));
        did = λ tells_u. record {
          run = run_cut tells_u;
          took = record {
            ready = ready_u tells_u;
            made = entries_made tells_u;
            emptied = λ k least below gone drops_it. empty tells_u k gone least below drops_it;
            still_empty = still_empty tells_u;
            keeps = keeps_diagrams tells_u;
            later = keeps_later tells_u;
            holds = λ holds. holds_m tells_u holds (now (world u)) (is_cut tells_u);
          };
          last = (last_made tells_u, λ holds. ((gathered (commits.before (cuts.before tells_u))).waits holds).1);
          images = λ holds. images_cut tells_u holds;
        };
      }
