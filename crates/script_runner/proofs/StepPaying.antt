-- What a stop costs while a step of a run is made, committed together with the drops behind it, and tidied up.
use Rattle.std.proofs.Common.{◌≡◌, ◌∙◌, ℕ, ◌+◌, ◌-◌, ◌*◌, ◌/◌, ◌^◌, ◌<◌, ◌≤◌, Bool, true, false, cond, nat_lt, min, List, [], length, take, drop, refl, sym, ap, subst, inl, inr, arith}
use Rattle.std.specs.Prelude.{IsTrue, zero, suc, Result, Ok, Err}
use Rattle.std.specs.List.{list_all}
use Rattle.std.proofs.lemmas.Bool.{cases_lt}
use Rattle.bool_tables.specs.declared.steps.Step.{Step}
use Rattle.bool_tables.specs.declared.steps.Planned.{Planned}
use Rattle.bool_tables.specs.Plans.{IsWellFormed, operands}
use Rattle.shelf_model.specs.declared.file_no.FileNo.{FileNo}
use Rattle.shelf_model.specs.declared.sort_fault.SortFault.{SortFault}
use Rattle.shelf_model.specs.Faults.{Faults}
use Rattle.shelf_model.specs.File.{IsLeft, IsKept}
use Rattle.shelf_model.specs.Folder.{Folder, Image, file_in, bytes_in, IsImage, AreFiles}
use Rattle.shelf_model.specs.World.{Moment, World, now}
use Rattle.shelf_model.specs.Moments.{Ran}
use Rattle.shelf_model.proofs.Files.{only_image}
use Rattle.shelf_model.proofs.Images.{chosen, standing_image}
use Rattle.shelf_model.proofs.Runs.{ran_end, ran_weakens}
use Rattle.catalogue.specs.declared.layout.Entry.{Entry}
use Rattle.catalogue.specs.Files.{catalogue}
use Rattle.catalogue.specs.Counts.{present, count_in}
use Rattle.catalogue.specs.Entries.{Fits}
use Rattle.catalogue.specs.Commits.{IsReady}
use Rattle.catalogue.proofs.Counted.{ready_counts}
use Rattle.step_work.specs.Tuples.{sweeps}
use Rattle.sweep_checkpoint.specs.Stops.{turns_in, shown_turns, SamePoints, StopsCostAt, StopsCost}
use Rattle.step_going.proofs.Gated.{none_gated}
use Rattle.sound_image.specs.Files.{checkpoint_gate}
use Rattle.file_numbers.specs.Files.{checkpoint_file}
use Rattle.sound_image.specs.Jobs.{Job, step_at}
use Rattle.sound_image.specs.Entries.{work_of}
use Rattle.sound_image.specs.Steps.{parts_end}
use Rattle.sound_image.proofs.Numbers.{IsOfStep, not_catalogue, not_step_gate}
use Rattle.sound_image.proofs.Resuming.{AreFew, early}
use Rattle.sound_image.proofs.AttachLaws.{standing}
use Rattle.step_engine.specs.Simple.{IsStepOf}
use Rattle.step_engine.specs.OneFile.{OnlyMade}
use Rattle.step_engine.specs.StepEntries.{IsEntryFor}
use Rattle.step_engine.specs.Running.{run_stop, run_calls, IsGoneOn, PaysRest}
use Rattle.step_engine.specs.Finding.{IsOfJob}
use Rattle.step_engine.specs.LeftBehind.{most_cut}
use Rattle.step_engine.proofs.Gated.{gated_sweeps, gated_point}
use Rattle.script_runner.specs.declared.finish.Finish.{Finish}
use Rattle.script_runner.specs.Calls.{IsGated, cut_calls}
use Rattle.script_runner.specs.Anew.{MakesStep}
use Rattle.script_runner.specs.Stops.{turns_at, committed_turns, most_together, PaysAt, PaysThrough, IsPaidStep, StepPays}
use Rattle.script_runner.specs.Together.{AreDrops, IsEntryWith, ArePlaced, IsCountedTo, DuringTogether, AreTogether, TidiedTogether}
use Rattle.script_runner.proofs.StopLaws.{entry_turns, turns_of, kept_turns, one_more_turns, paid_here, paid_least, pays_more, pays_join, shows_as_then}
use Rattle.script_runner.proofs.Paying.{none_told}
use Rattle.script_runner.proofs.Taking.{JobStays, OnlyItsFiles, own_file, ready_same, job_apart, entry_for, job_tidied}

-- the fewest turns that may be shown where so many calls are paid for, of which the committed turns pay for some
abbrev pub shown_for : ℕ → ℕ → ℕ
shown_for paid committed = (paid - 256 * committed + 255) / 256

shown_least : (paid committed shown : ℕ) → paid ≤ 256 * (committed + shown) → shown_for paid committed ≤ shown
shown_least paid committed shown within = omega (arith, within)

shown_pays : (paid committed : ℕ) → paid ≤ 256 * (committed + shown_for paid committed)
shown_pays paid committed = omega arith

-- an image with the steps before
pays_before : (job : Job) (k : ℕ) (r : FileNo → List ℕ) (paid committed shown most j : ℕ) → count_in r ≡ k → k < length job.steps
    → committed_turns k r ≡ committed → paid ≤ 256 * (committed + shown) → StopsCostAt k shown most j r → PaysAt job paid most j r
pays_before job k r paid committed shown most j count within turns less stop =
    let is = paid_here job k r count within in
    let no_fewer = stop.no_fewer in
    let few = stop.few in
    record { no_fewer = omega (arith, is, turns, less, no_fewer); few = omega (arith, is, turns, less, no_fewer, few) }

-- an image with more
pays_after : (job : Job) (count : ℕ) (r : FileNo → List ℕ) (paid committed shown turns most j : ℕ) → count_in r ≡ count
    → committed_turns count r ≡ committed + turns → paid ≤ 256 * (committed + shown) → shown ≤ turns
    → j ≤ most + 256 * (turns - shown) → PaysAt job paid most j r
pays_after job count r paid committed shown turns most j count_is all less fewer few =
    let least = paid_least job count r count_is in
    record { no_fewer = omega (arith, least, all, less, fewer); few = omega (arith, least, all, less, fewer, few) }

-- the turns of an entry that is committed together with the first one: a drop has one
turns_with : (steps : List Planned) (e : Entry) (j : ℕ) (x : Entry) → IsEntryWith steps e j x
    → (j ≡ e.number → x.turns ≡ e.turns) × (e.number < j → x.turns ≡ 1)
turns_with steps e j x (inl (same, is)) =
    ((λ _. ap (λ (y : Entry). y.turns) is), (λ behind. absurd (omega (arith, same, behind))))
turns_with steps e j x (inr (behind, (gone, drops_it, is))) =
    ((λ same. absurd (omega (arith, same, behind))), (λ _. ap (λ (y : Entry). y.turns) is))

-- so they show the turns of the first one and one for each drop
turns_together : (steps : List Planned) (e : Entry) (k : ℕ) (r : FileNo → List ℕ) → e.number ≡ k → (more : ℕ)
    → ArePlaced steps e (k + 1 + more) r → ((j : ℕ) (x : Entry) → j < k + 1 + more → IsEntryWith steps e j x → Fits x)
    → committed_turns (k + 1 + more) r ≡ committed_turns k r + (e.turns + more)
turns_together steps e k r number zero placed fits =
    let found = placed k (omega (arith, number)) (omega arith) in
    let turns : turns_at k r ≡ found.0.turns = entry_turns k r found.0 (fits k found.0 (omega arith) found.1) found.2 in
    let own : found.0.turns ≡ e.turns = (turns_with steps e k found.0 found.1).0 (sym number) in
    let one = one_more_turns k r in
    let count : k + 1 ≡ k + 1 + zero = omega arith in
    subst (λ n. committed_turns n r ≡ committed_turns k r + (e.turns + zero)) count (omega (arith, one, turns, own))
turns_together steps e k r number (suc more) placed fits =
    let before : committed_turns (k + 1 + more) r ≡ committed_turns k r + (e.turns + more) =
    turns_together steps e k r number more (λ j from below. placed j from (omega (arith, below))) (λ j x below is. fits j x (omega (arith, below)) is) in
    let found = placed (k + 1 + more) (omega (arith, number)) (omega arith) in
    let turns : turns_at (k + 1 + more) r ≡ found.0.turns =
    entry_turns (k + 1 + more) r found.0 (fits (k + 1 + more) found.0 (omega arith) found.1) found.2 in
    let own : found.0.turns ≡ 1 = (turns_with steps e (k + 1 + more) found.0 found.1).1 (omega (arith, number)) in
    let one = one_more_turns (k + 1 + more) r in
    let count : k + 1 + more + 1 ≡ k + 1 + suc more = omega arith in
    subst (λ n. committed_turns n r ≡ committed_turns k r + (e.turns + suc more)) count (omega (arith, before, turns, own, one))

-- of a step of which nothing was gated no turns were shown, and few part numbers were taken; and one of which something
-- was sweeps, and what pays for going on with it is great
abbrev pub IsBegun : Bool → Step → ℕ → ℕ → ℕ → ℕ → Type 0
IsBegun false step turns shown parts rest = (shown ≡ 0) × (parts ≤ 5 + turns / 16)
IsBegun true step turns shown parts rest = (sweeps step ≡ true) × (66145 ≤ rest)

-- the calls of making a step, of its commit and of cutting what it leaves behind
all_calls : (gated : Bool) (step : Step) (turns shown rest parts old mid last new : ℕ) → shown ≤ turns → 1 ≤ turns
    → IsBegun gated step turns shown parts rest → mid ≤ old + (run_calls step (turns - shown) + (rest - 66145))
    → last ≤ mid + 5 → new ≤ last + cut_calls gated step parts → new ≤ old + rest + 256 * (turns - shown)
all_calls false step turns shown rest parts old mid last new fewer some (none, few) = by_test (sweeps step)
  where
    by_test : (swept : Bool) → mid ≤ old + (cond swept (229 * (turns - shown) + 13) 5 + (rest - 66145)) → last ≤ mid + 5
        → new ≤ last + cond swept (parts_end parts - 1) 1 → new ≤ old + rest + 256 * (turns - shown)
    by_test true made committed tidied = omega (arith, some, none, few, made, committed, tidied)
    by_test false made committed tidied = omega (arith, some, none, made, committed, tidied)
all_calls true step turns shown rest parts old mid last new fewer some (sweeping, great) = by_test (sweeps step) sweeping
  where
    by_test : (swept : Bool) → swept ≡ true → mid ≤ old + (cond swept (229 * (turns - shown) + 13) 5 + (rest - 66145)) → last ≤ mid + 5
        → new ≤ last + cond swept (591 + min (parts_end parts - 5) most_cut) 1 → new ≤ old + rest + 256 * (turns - shown)
    by_test true is made committed tidied = omega (arith, fewer, great, made, committed, tidied)
    by_test false is made committed tidied = absurd cc

module _ (job : Job) (k : ℕ) (few : AreFew job) (within : k < length job.steps) (front : List ℕ) (size : length front ≡ 128 * k)
    (paid shown : ℕ) (less : paid ≤ 256 * (turns_of k front + shown)) where
  -- while it is made
  making_pays : (most : ℕ) (old new : World) → IsReady k (now old).folder → IsKept front (file_in (now old).folder catalogue)
      → Ran (OnlyItsFiles k (now old)) old new → StopsCost k shown most old new → PaysThrough job paid most old new
  making_pays most old new ready kept run stops j from to image is_image =
      let m : Moment = new.moment j in
      let same : JobStays (now old).folder m.folder =
      λ f job_step. (run.moments.each j from to).holds f (job_apart k f (early job k few within) job_step) in
      pays_before job k (bytes_in image) paid (turns_of k front) shown most j
      (ready_counts k m.folder image (ready_same k (now old).folder m.folder same ready) is_image).count within
      (kept_turns k m.folder front size (subst (IsKept front) (sym (same catalogue refl)) kept) image is_image) less (stops j from to image is_image)

  -- while it is committed, together with the drops behind it
  module _ (plan : IsWellFormed job.n job.text job.steps) (e : Entry) (number : e.number ≡ k) (end : ℕ) (behind : k < end) (upto : end ≤ length job.steps)
      (are : AreDrops job.steps (k + 1) end) (fits : IsEntryFor (step_at job k).step k e) (fewer : shown ≤ e.turns) where
    -- the turns that are shown then
    turns_to : (count : ℕ) (r : FileNo → List ℕ) → k < count → count ≤ end → ArePlaced job.steps e count r → committed_turns k r ≡ turns_of k front
        → committed_turns count r ≡ turns_of k front + (e.turns + (count - (k + 1)))
    turns_to count r more most placed before =
        let sum : k + 1 + (count - (k + 1)) ≡ count = omega (arith, more) in
        let all : committed_turns (k + 1 + (count - (k + 1))) r ≡ committed_turns k r + (e.turns + (count - (k + 1))) =
        turns_together job.steps e k r number (count - (k + 1)) (subst (λ n. ArePlaced job.steps e n r) (sym sum) placed)
        (λ j x below is. (entry_for job plan k end behind upto e number are fits j x (omega (arith, below, sum, most)) is).entry_is.fits) in
        ap (λ n. committed_turns n r) (sym sum) ∙ all ∙ ap (λ n. n + (e.turns + (count - (k + 1)))) before

    points_stay : (old m : Moment) → DuringTogether job.steps e end old m → SamePoints k old.folder m.folder
    points_stay old m during =
        let below = early job k few within in
        let of_points : IsOfStep (checkpoint_file k) = record { early = λ is. omega (arith, is, below) } in
        let of_gate : IsOfStep (checkpoint_gate k) = record { early = λ is. omega (arith, is, below) } in
        record {
          points = during.others (checkpoint_file k) (not_catalogue (checkpoint_file k) of_points) (not_step_gate (checkpoint_file k) of_points);
          gate = during.others (checkpoint_gate k) (not_catalogue (checkpoint_gate k) of_gate) (not_step_gate (checkpoint_gate k) of_gate);
        }

    committing_pays : (most least : ℕ) (mid new : World) → AreFiles (now mid).folder → IsKept front (file_in (now mid).folder catalogue)
        → ((image : Image) → IsImage (now mid).folder image → StopsCostAt k shown most mid.clock (bytes_in image))
        → Ran (DuringTogether job.steps e end (now mid)) mid new → new.clock ≤ mid.clock + most_together
        → new.clock ≤ least + 2046 + 256 * (e.turns - shown)
        → least + 2046 ≤ most + most_together → PaysThrough job paid (most + most_together) mid new
    committing_pays most least mid new files kept ended run short all lower j from to image is_image =
        let m : Moment = new.moment j in
        let during : DuringTogether job.steps e end (now mid) m = (run.moments.each j from to).holds in
        let turns : committed_turns k (bytes_in image) ≡ turns_of k front =
        kept_turns k m.folder front size (during.kept front (omega (arith, size, number)) kept) image is_image in
        let counted : IsCountedTo job.steps e end (bytes_in image) = during.images image is_image in
        let count_is : count_in (bytes_in image) ≡ counted.count = counted.counts.count in
        let low = counted.no_fewer in
        let high = counted.no_more in
        elim (cases_lt k counted.count) [
          | inl more ↦
              pays_after job counted.count (bytes_in image) paid (turns_of k front) shown (e.turns + (counted.count - (k + 1))) (most + most_together) j
              count_is (turns_to counted.count (bytes_in image) more high counted.placed turns) less (omega (arith, fewer))
              (omega (arith, to, all, lower, fewer))
          | inr none ↦
              let same : counted.count ≡ k = omega (arith, low, number, none) in
              pays_before job k (bytes_in image) paid (turns_of k front) shown (most + most_together) j (count_is ∙ same) within turns less (record {
                no_fewer = shows_as_then k (now mid).folder m.folder files (points_stay (now mid) m during) image is_image (λ n. shown ≤ n)
                    (λ first is_first. (ended first is_first).no_fewer);
                few = shows_as_then k (now mid).folder m.folder files (points_stay (now mid) m during) image is_image
                    (λ n. j ≤ most + most_together + 229 * (n - shown))
                    (λ first is_first. let few = (ended first is_first).few in omega (arith, few, to, short));
              })
        ]

    -- and while what they leave behind is cut: five calls are to spare for each drop
    tidying_pays : (most : ℕ) (last new : World) → IsKept front (file_in (now last).folder catalogue) → AreTogether job.steps e end (now last).folder
        → Ran (TidiedTogether job.steps e end (now last)) last new
        → new.clock ≤ most + 256 * (e.turns - shown) + 3 * (end - (k + 1))
        → (j : ℕ) → last.clock ≤ j → j ≤ new.clock → (image : Image) → IsImage (new.moment j).folder image
        → PaysAt job paid most (j + 5 * (end - (k + 1))) (bytes_in image)
    tidying_pays most last new kept together run all j from to image is_image =
        let m : Moment = new.moment j in
        let same : JobStays (now last).folder m.folder =
        job_tidied job plan k end behind upto e number are (now last) m (run.moments.each j from to).holds in
        let bytes : bytes_in image catalogue ≡ (file_in (now last).folder catalogue).bytes =
        only_image (file_in (now last).folder catalogue).bytes (bytes_in image catalogue)
        (subst (λ x. IsLeft x (bytes_in image catalogue)) (same catalogue refl ∙ together.sure) (is_image catalogue)) in
        let placed : ArePlaced job.steps e end (bytes_in image) =
        λ i least below. let found = together.placed i least below in
        (found.0, found.1, ap (λ xs. take 128 (drop (128 * i) xs)) bytes ∙ found.2) in
        let turns : committed_turns k (bytes_in image) ≡ turns_of k front =
        kept_turns k m.folder front size (subst (IsKept front) (sym (same catalogue refl)) kept) image is_image in
        pays_after job end (bytes_in image) paid (turns_of k front) shown (e.turns + (end - (k + 1))) most (j + 5 * (end - (k + 1)))
        (ready_counts end m.folder image (ready_same end (now last).folder m.folder same together.ready) is_image).count
        (turns_to end (bytes_in image) behind (omega arith) placed turns) less (omega (arith, fewer)) (omega (arith, to, all, fewer))

module _ {S : Type 0} (tells : S → Bool) (world : S → World) (counts : S → Faults) (law : (s : S) → IsTrue (tells s) → AreFiles (now (world s)).folder)
    (job : Job) (k : ℕ) (plan : IsWellFormed job.n job.text job.steps) (within : k < length job.steps) (p : Planned) (p_is : p ≡ step_at job k)
    (earlier : IsTrue (list_all (λ j. nat_lt j k) (operands p.step))) (old s : S) (result : Result Entry SortFault)
    (runs : MakesStep tells world counts job.n job.text k p old s result) (tells_s : IsTrue (tells s))
    (gated : Bool) (paid rest : ℕ) (is : IsPaidStep job k gated paid rest (now (world old)).folder) where
  the_step : IsStepOf job job.n job.text k p
  the_step = record { well_formed = plan; n_is = refl; text_is = refl; within = within; step_is = sym p_is }

  place_is : (step_at job k).step ≡ p.step
  place_is = ap (λ (q : Planned). q.step) (sym p_is)

  abbrev front : List ℕ
  front = is.holds.entries.front

  abbrev shown : ℕ
  shown = shown_for paid (turns_of k front)

  less : paid ≤ 256 * (turns_of k front + shown)
  less = shown_pays paid (turns_of k front)

  files : AreFiles (now (world old)).folder
  files = law old (runs.content.before tells_s)

  of_job : IsOfJob job k
  of_job = record { well_formed = plan; within = within }

  -- where nothing is gated of the step no turns of it are shown
  none_shown : present (now (world old)).folder (checkpoint_gate k) ≡ [] → shown ≡ 0
  none_shown none =
      let folder : Folder = (now (world old)).folder in
      let image : Image = chosen (λ _ x. x.bytes) folder in
      let is_image = standing_image folder files in
      let count = (ready_counts k folder image is.holds.ready is_image).count in
      let turns = kept_turns k folder front is.holds.entries.size is.holds.entries.kept image is_image in
      let here = paid_here job k (bytes_in image) count within in
      let least = is.shows image is_image in
      let nothing : shown_turns k (bytes_in image) ≡ 0 =
      ap turns_in (none_gated k (bytes_in image) (standing folder files (checkpoint_gate k) ∙ none)) in
      let few = shown_least paid (turns_of k front) 0 (omega (arith, turns, here, least, nothing)) in
      omega (arith, few)

  gone : IsGoneOn p.step k (world old) shown (rest - 66145)
  gone = record {
    shows = λ image is_image.
        let count = (ready_counts k (now (world old)).folder image is.holds.ready is_image).count in
        let turns = kept_turns k (now (world old)).folder front is.holds.entries.size is.holds.entries.kept image is_image in
        let here = paid_here job k (bytes_in image) count within in
        let least = is.shows image is_image in
        shown_least paid (turns_of k front) (shown_turns k (bytes_in image)) (omega (arith, turns, here, least));
    pays = subst (λ x. PaysRest x k (present (now (world old)).folder) (rest - 66145)) place_is is.pays;
  }

  stops_so : StopsCost k shown ((world old).clock + (run_stop + (rest - 66145))) (world old) (world s)
  stops_so = (runs.stops tells_s job the_step is.holds (subst (λ x. work_of job x < 2 ^ 61) place_is is.work) shown (rest - 66145) gone).0

  ran_so : Ran (OnlyItsFiles k (now (world old))) (world old) (world s)
  ran_so = ran_weakens (world old) (world s) (OnlyMade p.step k (now (world old))) (OnlyItsFiles k (now (world old)))
      (λ m only f apart. only f (λ changed. apart (own_file p.step k f changed))) (runs.content.did tells_s)

  abbrev most : ℕ
  most = (world old).clock + (run_stop + (rest - 66145))

  made_pays : PaysThrough job paid most (world old) (world s)
  made_pays = making_pays job k plan.few_steps within front is.holds.entries.size paid shown less most (world old) (world s) is.holds.ready
      is.holds.entries.kept ran_so stops_so

  abbrev bound : ℕ
  bound = (world old).clock + (run_stop + most_together + rest)

  loosely : (most : ℕ) (first last : World) → most ≤ bound → PaysThrough job paid most first last → PaysThrough job paid bound first last
  loosely most first last fewer pays = pays_more job paid paid most bound first last (omega arith) (omega (arith, fewer)) pays

  -- the step couldn't be run
  pub stopped_pays : (finish : Finish) → StepPays job paid rest 0 0 (Err finish) (world old) (world s)
  stopped_pays finish = record { stops = loosely most (world old) (world s) (omega arith) made_pays; ends = tt }

  -- it was made
  module _ (e : Entry) (ok : result ≡ Ok e) (end : ℕ) (behind : k < end) (few_drops : end ≤ k + 1024) (upto : end ≤ length job.steps)
      (drops_are : AreDrops job.steps (k + 1) end) where
    runs_ok : MakesStep tells world counts job.n job.text k p old s (Ok e)
    runs_ok = subst (MakesStep tells world counts job.n job.text k p old s) ok runs

    number : e.number ≡ k
    number = runs_ok.fits.number_is

    fits : IsEntryFor (step_at job k).step k e
    fits = subst (λ x. IsEntryFor x k e) (sym place_is) runs_ok.fits

    some : 1 ≤ e.turns
    some = runs_ok.fits.entry_is.layout.worked

    ended : (shown ≤ e.turns) × ((world s).clock ≤ (world old).clock + (run_calls p.step (e.turns - shown) + (rest - 66145)))
    ended = (runs_ok.stops tells_s job the_step is.holds (subst (λ x. work_of job x < 2 ^ 61) place_is is.work) shown (rest - 66145) gone).1

    begun : (known : Bool) → IsGated known k (now (world old)).folder → IsBegun known p.step e.turns shown e.parts rest
    begun false none =
        let few = runs_ok.few_parts tells_s 0 (λ c told. absurd (none_told k (present (now (world old)).folder) none c told)) in
        (none_shown none, omega (arith, few))
    begun true filled =
        let point = gated_point job k of_job (now (world old)).folder files is.holds filled in
        let paid_for = is.pays point.0 point.1 in (
          ap sweeps (sym place_is) ∙ gated_sweeps job k of_job (now (world old)).folder files is.holds filled,
          omega (arith, paid_for),
        )

    -- what making it, a commit of it alone and cutting what it leaves behind cost
    alone : (cuts : ℕ) → cuts ≤ cut_calls gated p.step e.parts → (world s).clock + 5 + cuts ≤ (world old).clock + rest + 256 * (e.turns - shown)
    alone cuts within_cuts =
        all_calls gated p.step e.turns shown rest e.parts (world old).clock (world s).clock ((world s).clock + 5) ((world s).clock + 5 + cuts) ended.0 some
        (begun gated is.gated) ended.1 (omega arith) (omega (arith, within_cuts))

    ended_at : (image : Image) → IsImage (now (world s)).folder image → StopsCostAt k shown most (world s).clock (bytes_in image)
    ended_at image is_image = stops_so (world s).clock ran_so.moments.later (omega arith) image is_image

    kept_s : IsKept front (file_in (now (world s)).folder catalogue)
    kept_s = subst (IsKept front)
        (sym (ran_end (world old) (world s) (OnlyItsFiles k (now (world old))) ran_so catalogue (job_apart k catalogue (early job k plan.few_steps within) refl)))
        is.holds.entries.kept

    abbrev least : ℕ
    least = (world old).clock + rest

    committed_pays : (t : S) → Ran (DuringTogether job.steps e end (now (world s))) (world s) (world t)
        → (world t).clock ≤ (world s).clock + (2 * (end - e.number) + 3) → PaysThrough job paid bound (world old) (world t)
    committed_pays t commits short =
        let one = alone 0 (omega arith) in
        pays_join job paid bound (world old) (world s) (world t) commits.moments.past (loosely most (world old) (world s) (omega arith) made_pays)
        (loosely (most + most_together) (world s) (world t) (omega arith)
        (committing_pays job k plan.few_steps within front is.holds.entries.size paid shown less plan e number end behind upto drops_are fits ended.0 most least
        (world s) (world t) (law s tells_s) kept_s ended_at commits (omega (arith, short, number, few_drops))
        (omega (arith, short, number, few_drops, behind, one)) (omega arith)))

    -- its commit failed
    pub commit_stopped : (finish : Finish) (t : S) → Ran (DuringTogether job.steps e end (now (world s))) (world s) (world t)
        → (world t).clock ≤ (world s).clock + (2 * (end - e.number) + 3) → StepPays job paid rest 0 0 (Err finish) (world old) (world t)
    commit_stopped finish t commits short = record { stops = committed_pays t commits short; ends = tt }

    -- it was committed, and what they leave behind was cut, or a part of that
    module _ (t u : S) (commits : Ran (DuringTogether job.steps e end (now (world s))) (world s) (world t))
        (short : (world t).clock ≤ (world s).clock + (2 * (end - e.number) + 3)) (together : AreTogether job.steps e end (now (world t)).folder)
        (cuts : Ran (TidiedTogether job.steps e end (now (world t))) (world t) (world u))
        (tidied : (world u).clock ≤ (world t).clock + (cut_calls gated (step_at job e.number).step e.parts + (end - (e.number + 1)))) where
      kept_t : IsKept front (file_in (now (world t)).folder catalogue)
      kept_t =
          let size = is.holds.entries.size in
          (ran_end (world s) (world t) (DuringTogether job.steps e end (now (world s))) commits).kept front (omega (arith, size, number)) kept_s

      spares_at : (j : ℕ) → (world t).clock ≤ j → j ≤ (world u).clock → (image : Image) → IsImage ((world u).moment j).folder image
          → PaysAt job paid least (j + 5 * (end - (k + 1))) (bytes_in image)
      spares_at =
          let cut : (world u).clock ≤ (world t).clock + (cut_calls gated p.step e.parts + (end - (e.number + 1))) =
          subst (λ x. (world u).clock ≤ (world t).clock + (cut_calls gated x e.parts + (end - (e.number + 1))))
          (ap (λ i. (step_at job i).step) number ∙ place_is) tidied in
          let one = alone (cut_calls gated p.step e.parts) (omega arith) in
          tidying_pays job k plan.few_steps within front is.holds.entries.size paid shown less plan e number end behind upto drops_are fits ended.0 least
          (world t) (world u) kept_t together cuts (omega (arith, one, short, cut, number, behind))

      cut_pays : PaysThrough job paid least (world t) (world u)
      cut_pays j from to image is_image =
          let at = spares_at j from to image is_image in
          let few = at.few in
          record { no_fewer = at.no_fewer; few = omega (arith, few) }

      all_pays : PaysThrough job paid bound (world old) (world u)
      all_pays = pays_join job paid bound (world old) (world t) (world u) cuts.moments.past (committed_pays t commits short)
          (loosely least (world t) (world u) (omega arith) cut_pays)

      pub tidy_stopped : (finish : Finish) → StepPays job paid rest 0 0 (Err finish) (world old) (world u)
      tidy_stopped finish = record { stops = all_pays; ends = tt }

      pub took_pays : (d : Entry) → d.number + 1 ≡ end → StepPays job paid rest 0 (5 * (d.number - k)) (Ok d) (world old) (world u)
      took_pays d last_is = record {
        stops = all_pays;
        ends = λ image is_image.
            let at = spares_at (world u).clock cuts.moments.later (omega arith) image is_image in
            let few = at.few in
            record { no_fewer = at.no_fewer; few = omega (arith, few, last_is) };
      }
