-- A folder in which nothing is left over, while a job is attached and behind the steps that are taken.
use Rattle.std.proofs.Common.{◌≡◌, ◌≢◌, ◌∙◌, ◌⊎◌, ℕ, zero, suc, ◌+◌, ◌-◌, ◌<◌, ◌≤◌, Bool, true, false, [], length, get_or, refl, sym, ap, subst, inl, inr, arith}
use Rattle.std.specs.Prelude.{IsTrue, List, Ok}
use Rattle.std.proofs.lemmas.Bool.{cases_lt}
use Rattle.std.proofs.lemmas.Cmp.{nat_eq_equiv}
use Rattle.bool_tables.specs.declared.steps.Planned.{Planned}
use Rattle.bool_tables.specs.declared.steps.Step.{Step}
use Rattle.bool_tables.specs.declared.steps.Step.TheVariants.{Drop}
use Rattle.bool_tables.specs.Plans.{IsWellFormed, drops, makes_diagram}
use Rattle.shelf_model.specs.declared.file_no.FileNo.{FileNo}
use Rattle.shelf_model.specs.Calls.{Told}
use Rattle.shelf_model.specs.Faults.{Faults}
use Rattle.shelf_model.specs.File.{File}
use Rattle.shelf_model.specs.Folder.{Folder, file_in}
use Rattle.shelf_model.specs.Moments.{Ran}
use Rattle.shelf_model.specs.World.{World, now, file}
use Rattle.shelf_model.proofs.Runs.{ran_end}
use Rattle.catalogue.specs.declared.layout.Entry.{Entry}
use Rattle.catalogue.specs.Counts.{present}
use Rattle.catalogue.specs.Files.{job_step}
use Rattle.catalogue.specs.Standings.{DuringAttach}
use Rattle.step_work.specs.Plans.{no_step}
use Rattle.step_work.specs.Tuples.{sweeps}
use Rattle.sweep_core.specs.Accounts.{NoneFilled}
use Rattle.sound_image.specs.Files.{node_file, checkpoint_gate}
use Rattle.sound_image.specs.Holds.{Holds}
use Rattle.sound_image.specs.Jobs.{Job, step_at}
use Rattle.sound_image.specs.Steps.{IsBehind, parts_end}
use Rattle.sound_image.proofs.Numbers.{IsOfStep, not_catalogue, not_step_gate}
use Rattle.step_engine.specs.OneFile.{ChangesFile, OnlyMade}
use Rattle.step_engine.specs.Simple.{IsStepOf}
use Rattle.script_runner.specs.Anew.{MakesStep}
use Rattle.script_runner.specs.Calls.{IsGated}
use Rattle.script_runner.specs.Lean.{NoneDrops, IsLiveFile, IsLean}
use Rattle.script_runner.specs.Tidied.{TidiedLast}
use Rattle.script_runner.specs.Together.{AreDrops, DuringTogether, TidiedTogether}
use Rattle.script_runner.proofs.RunSteps.{done_at, drop_below}
use Rattle.script_runner.proofs.Taking.{dropping}

-- of a step of which nothing is gated nothing was found to be
none_gone_on : (gone_on : Bool) (k : ℕ) (folder : Folder) → IsGated gone_on k folder → present folder (checkpoint_gate k) ≡ []
    → gone_on ≡ false
none_gone_on false k folder gated none = refl
none_gone_on true k folder gated none = absurd (gated none)

-- a live file is a node file
live_part : (job : Job) (count : ℕ) (f : FileNo) → IsLiveFile job.steps count f → f.part ≡ 0
live_part job count f live = ap (λ (x : FileNo). x.part) live.file_is

module _ (job : Job) (plan : IsWellFormed job.n job.text job.steps) (k : ℕ) (within : k < length job.steps) (s : Step)
    (step_is : (get_or job.steps k no_step).step ≡ s) where
  early : k < job_step
  early = let few = plan.few_steps in omega (arith, few, within)

  -- in a lean folder no file of the step is filled before it is taken
  own_empty : (folder : Folder) (f : FileNo) → IsLean job k folder → f.step ≡ k → (file_in folder f).bytes ≡ []
  own_empty folder f lean own = lean f (λ same. let before = early in absurd (omega (arith, same, own, before)))
      (λ live. let below = live.within in
      let same : f.step ≡ live.step = ap (λ (x : FileNo). x.step) live.file_is in absurd (omega (arith, below, same, own)))

  -- and nothing is gated of it
  pub lean_gone_on : (gone_on : Bool) (folder : Folder) → IsLean job k folder → IsGated gone_on k folder → gone_on ≡ false
  lean_gone_on gone_on folder lean gated = none_gone_on gone_on k folder gated
      (own_empty folder (checkpoint_gate k) lean refl)

  -- the step's node file is live behind it where it makes a diagram
  made_live : IsTrue (makes_diagram s) → IsLiveFile job.steps (k + 1) (node_file k)
  made_live makes = record {
    step = k;
    within = omega arith;
    makes = subst (λ x. IsTrue (makes_diagram x)) (sym step_is) makes;
    kept = λ j from until drops_it.
        let below : k < j = drop_below job j k plan (omega (arith, until, within)) drops_it in
        absurd (omega (arith, below, until));
    file_is = refl;
  }

  -- an earlier one stays live unless the step drops it
  live_on : (f : FileNo) → drops f.step s ≡ false → IsLiveFile job.steps k f → IsLiveFile job.steps (k + 1) f
  live_on f not live = record {
    step = live.step;
    within = let below = live.within in omega (arith, below);
    makes = live.makes;
    kept = λ j from until. elim (cases_lt j k) [
      | inl below ↦ live.kept j from below
      | inr least ↦ (λ drops_it. never (subst (λ x. drops x s ≡ false) (ap (λ (x : FileNo). x.step) live.file_is) not)
          (sym step_is ∙ ap (λ i. (get_or job.steps i no_step).step) (here j least until) ∙ drops_it))
    ];
    file_is = live.file_is;
  }
    where
      here : (j : ℕ) → k ≤ j → j < k + 1 → k ≡ j
      here j least until = omega (arith, least, until)

      never : drops live.step s ≡ false → s ≡ Drop live.step → ⊥
      never not is =
          let own : drops live.step (Drop live.step) ≡ false = subst (λ x. drops live.step x ≡ false) is not in
          let both : true ≡ false = sym (nat_eq_equiv.refl live.step) ∙ own in
          absurd cc

  module _ (e : Entry) (old mid new : World) (lean : IsLean job k (now old).folder)
      (made : Ran (OnlyMade s k (now old)) old mid) (untaken : NoneFilled k e.parts old mid)
      (unmade : makes_diagram s ≡ false → (file old (node_file k)).bytes ≡ [] → (file mid (node_file k)).bytes ≡ [])
      (later_empty : (f : FileNo) → f.step ≢ job_step → (file mid f).bytes ≡ [] → (file new f).bytes ≡ [])
      (dropped : (gone : ℕ) → s ≡ Drop gone → (file new (node_file gone)).bytes ≡ [])
      (behind : IsTrue (sweeps s) → (f : FileNo) → IsBehind k e.parts f → (file new f).bytes ≡ []) where
    -- a file that the step doesn't change
    unchanged : (f : FileNo) → f.step ≢ job_step → ¬ (ChangesFile s k f) → (file_in (now old).folder f).bytes ≡ []
        → (file new f).bytes ≡ []
    unchanged f apart other empty =
        later_empty f apart (ap (λ (x : File). x.bytes) (ran_end old mid (OnlyMade s k (now old)) made f other) ∙ empty)

    -- one of another step
    other_step : (f : FileNo) → f.step ≢ job_step → f.step ≢ k → ¬ (IsLiveFile job.steps (k + 1) f) → (b : Bool)
        → drops f.step s ≡ b → (file new f).bytes ≡ []
    other_step f apart other dead false not =
        unchanged f apart (λ changes. elim changes [
          | inl mine ↦ other (ap (λ (x : FileNo). x.step) mine.1)
          | inr own ↦ other own.1
        ]) (lean f apart (λ live. dead (live_on f not live)))
    other_step f apart other dead true drops_it = elim (cases_lt 0 f.part) [
      | inl part ↦ unchanged f apart (λ changes. elim changes [
        | inl mine ↦ other (ap (λ (x : FileNo). x.step) mine.1)
        | inr own ↦ other own.1
      ]) (lean f apart (λ live. let none = live_part job k f live in absurd (omega (arith, part, none))))
      | inr none ↦
          let first : f.part ≡ 0 = omega (arith, none) in
          let is : f ≡ node_file f.step = λ i. record { step = f.step; part = first i } in
          subst (λ g. (file new g).bytes ≡ []) (sym is) (dropped f.step (dropping f.step s drops_it))
    ]

    -- one of the step behind its node file
    own_part : (f : FileNo) → f.step ≡ k → f.step ≢ job_step → 0 < f.part → (b : Bool) → sweeps s ≡ b → (file new f).bytes ≡ []
    own_part f own apart part true swept = elim (cases_lt f.part (parts_end e.parts)) [
      | inl until ↦ behind swept f (record { step_is = own; from = omega (arith, part); until = until })
      | inr beyond ↦ later_empty f apart
          (untaken f (record { step_is = own; from = omega (arith, beyond) }) (own_empty (now old).folder f lean own))
    ]
    own_part f own apart part false unswept = unchanged f apart (λ changes. elim changes [
      | inl mine ↦ (let none : f.part ≡ 0 = ap (λ (x : FileNo). x.part) mine.1 in absurd (omega (arith, part, none)))
      | inr taken ↦ absurd (let swept = taken.0 in cc)
    ]) (own_empty (now old).folder f lean own)

    -- its node file
    own_nodes : ¬ (IsLiveFile job.steps (k + 1) (node_file k)) → (b : Bool) → makes_diagram s ≡ b
        → (file new (node_file k)).bytes ≡ []
    own_nodes dead true makes = absurd (dead (made_live makes))
    own_nodes dead false not = later_empty (node_file k) (λ same. let before = early in absurd (omega (arith, same, before)))
        (unmade not (own_empty (now old).folder (node_file k) lean refl))

    -- behind the step the folder is lean
    pub lean_taken : IsLean job (k + 1) (now new).folder
    lean_taken f apart dead = elim (cases_lt f.step k) [
      | inl below ↦ other_step f apart (λ same. absurd (omega (arith, below, same))) dead (drops f.step s) refl
      | inr from ↦ elim (cases_lt k f.step) [
        | inl above ↦ other_step f apart (λ same. absurd (omega (arith, above, same))) dead (drops f.step s) refl
        | inr upto ↦ own_file (omega (arith, from, upto))
      ]
    ]
      where
        own_file : f.step ≡ k → (file new f).bytes ≡ []
        own_file own = elim (cases_lt 0 f.part) [
          | inl part ↦ own_part f own apart part (sweeps s) refl
          | inr none ↦
              let first : f.part ≡ 0 = omega (arith, none) in
              let is : f ≡ node_file k = λ i. record { step = own i; part = first i } in
              subst (λ g. (file new g).bytes ≡ []) (sym is)
              (own_nodes (subst (λ g. ¬ (IsLiveFile job.steps (k + 1) g)) is dead) (makes_diagram s) refl)
        ]

-- one of some drops drops that diagram, or none does
dropped_or : (steps : List Planned) (from until : ℕ) → AreDrops steps from until → (more : ℕ) → from + more ≤ until → (k : ℕ)
    → NoneDrops steps from (from + more) k
    ⊎ ((j : ℕ) × (from ≤ j) × (j < from + more) × ((get_or steps j no_step).step ≡ Drop k))
dropped_or steps from until are zero within k = inl (λ j least below. absurd (omega (arith, least, below)))
dropped_or steps from until are (suc more) within k = elim (dropped_or steps from until are more (omega (arith, within)) k) [
  | inr (j, least, below, is) ↦ inr (j, least, omega (arith, below), is)
  | inl none ↦
      let last = are (from + more) (omega arith) (omega (arith, within)) in
      elim (cases_lt last.0 k) [
        | inl under ↦ inl (none_more none last (λ same. omega (arith, under, same)))
        | inr upper ↦ elim (cases_lt k last.0) [
          | inl over ↦ inl (none_more none last (λ same. omega (arith, over, same)))
          | inr lower ↦
              let same : last.0 ≡ k = omega (arith, upper, lower) in
              inr (from + more, omega arith, omega arith, last.1 ∙ ap Drop same)
        ]
      ]
]
  where
    none_more : NoneDrops steps from (from + more) k → (last : (gone : ℕ) × ((get_or steps (from + more) no_step).step ≡ Drop gone))
        → last.0 ≢ k → NoneDrops steps from (from + suc more) k
    none_more none last differ j least below is = elim (cases_lt j (from + more)) [
      | inl earlier ↦ none j least earlier is
      | inr beyond ↦
          let here : from + more ≡ j = omega (arith, beyond, below) in
          let step : Drop last.0 ≡ Drop k = sym last.1 ∙ ap (λ i. (get_or steps i no_step).step) here ∙ is in
          let same : last.0 ≡ k = cc in
          differ same
    ]

-- a lean folder is lean behind drops whose files are empty
lean_behind : (job : Job) (from until : ℕ) (folder : Folder) → from ≤ until → AreDrops job.steps from until → IsLean job from folder
    → ((j gone : ℕ) → from ≤ j → j < until → (get_or job.steps j no_step).step ≡ Drop gone → (file_in folder (node_file gone)).bytes ≡ [])
    → IsLean job until folder
lean_behind job from until folder least are lean empty f apart dead =
    by_drops (dropped_or job.steps from until are (until - from) (omega (arith, all)) f.step)
  where
    all : from + (until - from) ≡ until
    all = omega (arith, least)

    on : NoneDrops job.steps from (from + (until - from)) f.step → IsLiveFile job.steps from f → IsLiveFile job.steps until f
    on none live =
        let here : f.step ≡ live.step = ap (λ (x : FileNo). x.step) live.file_is in
        record {
          step = live.step;
          within = let below = live.within in omega (arith, below, least);
          makes = live.makes;
          kept = λ j since below is. elim (cases_lt j from) [
            | inl earlier ↦ live.kept j since earlier is
            | inr beyond ↦ none j beyond (omega (arith, below, all)) (is ∙ ap Drop (sym here))
          ];
          file_is = live.file_is;
        }

    by_drops : NoneDrops job.steps from (from + (until - from)) f.step
        ⊎ ((j : ℕ) × (from ≤ j) × (j < from + (until - from)) × ((get_or job.steps j no_step).step ≡ Drop f.step)) → (file_in folder f).bytes ≡ []
    by_drops (inl none) = lean f apart (λ live. dead (on none live))
    by_drops (inr (j, since, below, is)) = elim (cases_lt 0 f.part) [
      | inl part ↦ lean f apart (λ live. let none = live_part job from f live in absurd (omega (arith, part, none)))
      | inr none ↦
          let first : f.part ≡ 0 = omega (arith, none) in
          let same : f ≡ node_file f.step = λ i. record { step = f.step; part = first i } in
          subst (λ g. (file_in folder g).bytes ≡ []) (sym same) (empty j f.step since (omega (arith, below, all)) is)
    ]

-- so it is behind a step that was made, and committed and tidied up together with the drops behind it
pub lean_steps : {S : Type 0} (tells : S → Bool) (world : S → World) (counts : S → Faults) (job : Job)
    (plan : IsWellFormed job.n job.text job.steps) (k end : ℕ) (past : k < end) (upto : end ≤ length job.steps) (p : Planned)
    (p_is : p ≡ step_at job k) (e : Entry) (gone_on : Bool) (old s t u : S)
    → AreDrops job.steps (k + 1) end
    → MakesStep tells world counts job.n job.text k p old s (Ok e)
    → Told tells s t (Ran (DuringTogether job.steps e end (now (world s))) (world s) (world t))
    → Told tells t u (Ran (TidiedTogether job.steps e end (now (world t))) (world t) (world u))
    → (IsTrue (tells u) → (j gone : ℕ) → e.number ≤ j → j < end → (step_at job j).step ≡ Drop gone → (file (world u) (node_file gone)).bytes ≡ [])
    → (IsTrue (tells u) → gone_on ≡ false → IsTrue (sweeps (step_at job e.number).step) → (f : FileNo) → IsBehind e.number e.parts f
    → (file (world u) f).bytes ≡ [])
    → IsTrue (tells u) → Holds job k (now (world old)).folder → IsGated gone_on k (now (world old)).folder
    → IsLean job k (now (world old)).folder → IsLean job end (now (world u)).folder
lean_steps tells world counts job plan k end past upto p p_is e gone_on old s t u are makes commits cuts empty behind tells_u holds
    gated lean =
    let tells_t = cuts.before tells_u in
    let tells_s = commits.before tells_t in
    let within : k < length job.steps = omega (arith, past, upto) in
    let number : e.number ≡ k = makes.fits.number_is in
    let place : (get_or job.steps k no_step).step ≡ p.step = ap (λ (q : Planned). q.step) (sym p_is) in
    let here : (step_at job e.number).step ≡ p.step = ap (λ i. (step_at job i).step) number ∙ place in
    let step : IsStepOf job job.n job.text k p =
    record { well_formed = plan; n_is = refl; text_is = refl; within = within; step_is = sym p_is } in
    let none = lean_gone_on job plan k within p.step place gone_on (now (world old)).folder lean gated in
    let during : DuringTogether job.steps e end (now (world s)) (now (world t)) =
    ran_end (world s) (world t) (DuringTogether job.steps e end (now (world s))) (commits.did tells_t) in
    let tidied : TidiedTogether job.steps e end (now (world t)) (now (world u)) =
    ran_end (world t) (world u) (TidiedTogether job.steps e end (now (world t))) (cuts.did tells_u) in
    lean_behind job (k + 1) end (now (world u)).folder (omega (arith, past)) are
    (lean_taken job plan k within p.step place e (world old) (world s) (world u) lean
    (makes.content.did tells_s) (makes.untaken tells_s job step holds) (makes.unmade tells_s job step holds)
    (λ f apart none_there.
    let of_step : IsOfStep f = record { early = λ is. apart is } in
    tidied.stays f (ap (λ (x : File). x.bytes) (during.others f (not_catalogue f of_step) (not_step_gate f of_step)) ∙ none_there))
    (λ gone is. empty tells_u e.number gone (omega arith) (omega (arith, number, past)) (here ∙ is))
    (λ swept f is. behind tells_u none (subst (λ x. IsTrue (sweeps x)) (sym here) swept) f (subst (λ j. IsBehind j e.parts f) (sym number) is)))
    (λ j gone from below is. empty tells_u j gone (omega (arith, from, number)) below is)

-- and where the job is attached, and the last committed step is tidied up once more
pub lean_begun : (job : Job) (given : List ℕ) (step : ℕ) (old mid said new : World) → step ≡ done_at old
    → Ran (DuringAttach given (now old)) old mid → (now said).folder ≡ (now mid).folder
    → Ran (TidiedLast job.steps step (now said)) said new → IsLean job (done_at old) (now old).folder
    → IsLean job step (now new).folder
lean_begun job given step old mid said new is attaches same tidies lean f apart dead =
    let first : (file_in (now old).folder f).bytes ≡ [] =
    lean f apart (λ live. dead (subst (λ c. IsLiveFile job.steps c f) (sym is) live)) in
    let attached : file_in (now mid).folder f ≡ file_in (now old).folder f =
    (ran_end old mid (DuringAttach given (now old)) attaches).others f
    (λ e. apart (ap (λ (q : FileNo). q.step) e)) (λ e. apart (ap (λ (q : FileNo). q.step) e))
    (λ e. apart (ap (λ (q : FileNo). q.step) e)) in
    (ran_end said new (TidiedLast job.steps step (now said)) tidies).stays f
    (ap (λ (d : Folder). (file_in d f).bytes) same ∙ ap (λ (x : File). x.bytes) attached ∙ first)

-- and where all steps are committed, whatever is said then
pub lean_whole : (job : Job) (step : ℕ) (folder after : Folder) → step ≤ length job.steps → length job.steps ≤ step
    → after ≡ folder → IsLean job step folder → IsLean job (length job.steps) after
lean_whole job step folder after upto all same lean =
    let steps : step ≡ length job.steps = omega (arith, upto, all) in
    subst (IsLean job (length job.steps)) (sym same) (subst (λ k. IsLean job k folder) steps lean)
