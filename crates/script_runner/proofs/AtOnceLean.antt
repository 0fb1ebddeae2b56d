-- A folder in which nothing is left over, behind steps that are made at once.
use Rattle.std.proofs.Common.{◌≡◌, ◌≢◌, ◌∙◌, ◌⊎◌, ℕ, zero, suc, ◌+◌, ◌-◌, ◌<◌, ◌≤◌, Bool, true, false, List, [], length, get_or, refl, sym, ap, subst, inl, inr, arith}
use Rattle.std.specs.Prelude.{IsTrue, Some, None, Ok}
use Rattle.std.proofs.lemmas.Bool.{cases_lt}
use Rattle.std.proofs.lemmas.Cmp.{nat_eq_equiv}
use Rattle.bool_tables.specs.declared.steps.Planned.{Planned}
use Rattle.bool_tables.specs.declared.steps.Step.{Step}
use Rattle.bool_tables.specs.declared.steps.Step.TheVariants.{Drop}
use Rattle.bool_tables.specs.Plans.{IsWellFormed, drops, makes_diagram}
use Rattle.shelf_model.specs.declared.file_no.FileNo.{FileNo}
use Rattle.shelf_model.specs.Faults.{Faults}
use Rattle.shelf_model.specs.File.{File}
use Rattle.shelf_model.specs.Folder.{Folder, file_in}
use Rattle.shelf_model.specs.Moments.{Ran}
use Rattle.shelf_model.specs.World.{Moment, World, now, file}
use Rattle.shelf_model.proofs.Runs.{ran_end}
use Rattle.catalogue.specs.declared.layout.Entry.{Entry}
use Rattle.catalogue.specs.Commits.{DuringCommits}
use Rattle.catalogue.specs.Files.{job_step}
use Rattle.step_work.specs.Plans.{no_step}
use Rattle.sound_image.specs.Files.{node_file}
use Rattle.sound_image.specs.Jobs.{Job, step_at}
use Rattle.sound_image.proofs.Numbers.{not_catalogue}
use Rattle.script_runner.specs.AtOnce.{IsNodesOf, DuringGather, AreGathered, Gathers}
use Rattle.script_runner.specs.Lean.{NoneDrops, IsLiveFile, IsLean}
use Rattle.script_runner.specs.StepRuns.{KeepsLater}
use Rattle.script_runner.specs.Together.{OnlyEmptied, IsDropped}
use Rattle.script_runner.proofs.AtOnceFiles.{files_stay}
use Rattle.script_runner.proofs.RunSteps.{drop_below}
use Rattle.script_runner.proofs.Taking.{dropping}

-- a step drops that diagram, or it doesn't
drops_or : (s : Step) (k : ℕ) → (s ≢ Drop k) ⊎ (s ≡ Drop k)
drops_or s k = by_test (drops k s) refl
  where
    by_test : (b : Bool) → drops k s ≡ b → (s ≢ Drop k) ⊎ (s ≡ Drop k)
    by_test true is = inr (dropping k s is)
    by_test false is = inl (λ same.
        let own : drops k (Drop k) ≡ false = subst (λ x. drops k x ≡ false) same is in
        let both : true ≡ false = sym (nat_eq_equiv.refl k) ∙ own in
        absurd cc)

-- one of some steps drops that diagram, or none does
one_drops_or : (steps : List Planned) (from more k : ℕ) → NoneDrops steps from (from + more) k
    ⊎ ((j : ℕ) × (from ≤ j) × (j < from + more) × ((get_or steps j no_step).step ≡ Drop k))
one_drops_or steps from zero k = inl (λ j least below. absurd (omega (arith, least, below)))
one_drops_or steps from (suc more) k = elim (one_drops_or steps from more k) [
  | inr (j, least, below, is) ↦ inr (j, least, omega (arith, below), is)
  | inl none ↦ elim (drops_or (get_or steps (from + more) no_step).step k) [
    | inr is ↦ inr (from + more, omega arith, omega arith, is)
    | inl not ↦ inl (λ j least below. elim (cases_lt j (from + more)) [
      | inl earlier ↦ none j least earlier
      | inr beyond ↦ (λ is. not (ap (λ i. (get_or steps i no_step).step) (here j beyond below) ∙ is))
    ])
  ]
]
  where
    here : (j : ℕ) → from + more ≤ j → j < from + suc more → from + more ≡ j
    here j beyond below = omega (arith, beyond, below)

module _ (job : Job) (plan : IsWellFormed job.n job.text job.steps) (from until : ℕ) (within : from ≤ until) (upto : until ≤ length job.steps)
    (old mid : Moment) (during : DuringGather job.steps from from until old mid) (lean : IsLean job from old.folder) where
  -- a file that isn't one of these steps' diagrams, nor of an earlier one that is live, holds nothing when they are gathered
  still_none : (f : FileNo) → f.step ≢ job_step → ¬ (IsNodesOf job.steps from until f) → ¬ (IsLiveFile job.steps from f)
      → (file_in mid.folder f).bytes ≡ []
  still_none f apart not dead =
      ap (λ (x : File). x.bytes) (during.others f (not_catalogue f (record { early = apart })) not) ∙ lean f apart dead

  -- a file behind the first part of its step holds nothing
  part_none : (f : FileNo) → f.step ≢ job_step → 0 < f.part → (file_in mid.folder f).bytes ≡ []
  part_none f apart part = still_none f apart
      (λ (k, least, short, makes, is). let none : f.part ≡ 0 = ap (λ (q : FileNo). q.part) is in absurd (omega (arith, part, none)))
      (λ live. let none : f.part ≡ 0 = ap (λ (q : FileNo). q.part) live.file_is in absurd (omega (arith, part, none)))

  module _ (end : ℕ) (past : from ≤ end) (short : end ≤ until) (later : KeepsLater end old.folder mid.folder) where
    -- the node file of a step that none of them drops
    nodes_none : (k : ℕ) → k ≢ job_step → NoneDrops job.steps from end k → ¬ (IsLiveFile job.steps end (node_file k))
        → (file_in mid.folder (node_file k)).bytes ≡ []
    nodes_none k apart none dead = elim (cases_lt k from) [
      | inl earlier ↦ still_none (node_file k) apart
          (λ (j, least, below, makes, is).
          let same : k ≡ j = ap (λ (q : FileNo). q.step) is in absurd (omega (arith, same, least, earlier)))
          (λ live. dead (live_on live))
      | inr behind ↦ elim (cases_lt k end) [
        | inl made ↦ own_nodes behind made (makes_diagram (step_at job k).step) refl
        | inr beyond ↦ elim (cases_lt k until) [
          | inl of_them ↦
              let few = plan.few_steps in
              ap (λ (x : File). x.bytes) (later (node_file k) beyond (omega (arith, of_them, upto, few))) ∙ lean (node_file k) apart (not_yet behind)
          | inr other ↦ still_none (node_file k) apart
              (λ (j, least, below, makes, is).
              let same : k ≡ j = ap (λ (q : FileNo). q.step) is in absurd (omega (arith, same, below, other)))
              (not_yet behind)
        ]
      ]
    ]
      where
        not_yet : from ≤ k → ¬ (IsLiveFile job.steps from (node_file k))
        not_yet behind live =
            let below = live.within in
            let same : k ≡ live.step = ap (λ (q : FileNo). q.step) live.file_is in
            absurd (omega (arith, below, same, behind))

        live_on : IsLiveFile job.steps from (node_file k) → IsLiveFile job.steps end (node_file k)
        live_on live =
            let here : k ≡ live.step = ap (λ (q : FileNo). q.step) live.file_is in
            record {
              step = live.step;
              within = let below = live.within in omega (arith, below, past);
              makes = live.makes;
              kept = λ j since below. elim (cases_lt j from) [
                | inl earlier ↦ live.kept j since earlier
                | inr beyond ↦ (λ is. none j beyond below (is ∙ ap Drop (sym here)))
              ];
              file_is = live.file_is;
            }

        own_nodes : from ≤ k → k < end → (b : Bool) → makes_diagram (step_at job k).step ≡ b → (file_in mid.folder (node_file k)).bytes ≡ []
        own_nodes behind made true makes = absurd (dead (record {
          step = k;
          within = made;
          makes = makes;
          kept = λ j since below. elim (cases_lt j from) [
            | inl earlier ↦ (λ is.
                let low : k < j = drop_below job j k plan (omega (arith, below, short, upto)) is in
                absurd (omega (arith, low, earlier, behind)))
            | inr beyond ↦ none j beyond below
          ];
          file_is = refl;
        }))
        own_nodes behind made false not = still_none (node_file k) apart
            (λ (j, least, below, makes, is).
            let same : j ≡ k = ap (λ (q : FileNo). q.step) (sym is) in
            let both : IsTrue (makes_diagram (step_at job k).step) = subst (λ i. IsTrue (makes_diagram (step_at job i).step)) same makes in
            absurd cc)
            (not_yet behind)

    -- so behind them the folder is lean, once what they drop is cut
    pub lean_gathered : (new : Folder) → ((f : FileNo) → f.step ≢ job_step → (file_in mid.folder f).bytes ≡ [] → (file_in new f).bytes ≡ [])
        → ((j gone : ℕ) → from ≤ j → j < end → (step_at job j).step ≡ Drop gone → (file_in new (node_file gone)).bytes ≡ [])
        → IsLean job end new
    lean_gathered new stays empty f apart dead = elim (cases_lt 0 f.part) [
      | inl part ↦ stays f apart (part_none f apart part)
      | inr none ↦
          let first : f.part ≡ 0 = omega (arith, none) in
          let same : f ≡ node_file f.step = λ i. record { step = f.step; part = first i } in
          let sum : from + (end - from) ≡ end = omega (arith, past) in
          subst (λ g. (file_in new g).bytes ≡ []) (sym same)
          (by_drops (subst (λ g. ¬ (IsLiveFile job.steps end g)) same dead)
          (subst (λ n. NoneDrops job.steps from n f.step ⊎ ((j : ℕ) × (from ≤ j) × (j < n) × ((step_at job j).step ≡ Drop f.step)))
          sum (one_drops_or job.steps from (end - from) f.step)))
    ]
      where
        by_drops : ¬ (IsLiveFile job.steps end (node_file f.step))
            → NoneDrops job.steps from end f.step ⊎ ((j : ℕ) × (from ≤ j) × (j < end) × ((step_at job j).step ≡ Drop f.step))
            → (file_in new (node_file f.step)).bytes ≡ []
        by_drops not_live (inl none) = stays (node_file f.step) apart (nodes_none f.step apart none not_live)
        by_drops not_live (inr (j, least, below, is)) = empty j f.step least below is

module _ {S : Type 0} (tells : S → Bool) (world : S → World) (counts : S → Faults)
    (job : Job) (plan : IsWellFormed job.n job.text job.steps) (from until spare left : ℕ) (within : from ≤ until) (upto : until ≤ length job.steps)
    (old s : S) (tells_s : IsTrue (tells s)) (lean : IsLean job from (now (world old)).folder) where
  -- where none was made
  pub lean_none : Gathers tells world counts job from until spare left old s (Ok None) → IsLean job from (now (world s)).folder
  lean_none gathers =
      let gathered : AreGathered job from None spare left (world old) (world s) = gathers.gathered tells_s in
      lean_gathered job plan from until within upto (now (world old)) (now (world s))
      (ran_end (world old) (world s) (DuringGather job.steps from from until (now (world old))) (gathers.content.did tells_s)) lean
      from (omega arith) within gathered.later (now (world s)).folder (λ f apart none. none)
      (λ j gone least below. absurd (omega (arith, least, below)))

  -- and where they were made, committed and tidied up
  pub lean_took : (e : Entry) → Gathers tells world counts job from until spare left old s (Ok (Some e)) → (waiting : ℕ) (t : S)
      → Ran (DuringCommits from waiting (now (world s))) (world s) (world t) → (u : S)
      → Ran (OnlyEmptied (IsDropped job.steps from (e.number + 1)) (now (world t))) (world t) (world u)
      → ((j gone : ℕ) → from ≤ j → j < e.number + 1 → (step_at job j).step ≡ Drop gone → (file (world u) (node_file gone)).bytes ≡ [])
      → IsLean job (e.number + 1) (now (world u)).folder
  lean_took e gathers waiting t commits u cuts empty =
      let gathered : AreGathered job from (Some e) spare left (world old) (world s) = gathers.gathered tells_s in
      let first = gathers.some.0 in
      let last = gathers.some.1 in
      let during : DuringCommits from waiting (now (world s)) (now (world t)) =
      ran_end (world s) (world t) (DuringCommits from waiting (now (world s))) commits in
      let cut : OnlyEmptied (IsDropped job.steps from (e.number + 1)) (now (world t)) (now (world u)) =
      ran_end (world t) (world u) (OnlyEmptied (IsDropped job.steps from (e.number + 1)) (now (world t))) cuts in
      lean_gathered job plan from until within upto (now (world old)) (now (world s))
      (ran_end (world old) (world s) (DuringGather job.steps from from until (now (world old))) (gathers.content.did tells_s)) lean
      (e.number + 1) (omega (arith, first)) (omega (arith, last)) gathered.later (now (world u)).folder
      (λ f apart none. cut.stays f
      (ap (λ (x : File). x.bytes) (files_stay from waiting (now (world s)) (now (world t)) during f apart) ∙ none))
      empty
