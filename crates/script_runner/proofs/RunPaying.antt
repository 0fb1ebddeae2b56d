-- What a stop costs in a run of a job, from the moment at which it is attached.
use Rattle.std.proofs.Common.{◌≡◌, ◌∙◌, ℕ, ◌+◌, ◌-◌, ◌*◌, ◌^◌, ◌<◌, ◌≤◌, Bool, true, false, cond, nat_lt, max, List, [], length, drop, refl, sym, ap, subst, inl, inr, arith}
use Rattle.std.specs.Prelude.{IsTrue, Result, Ok, if◌then◌else◌}
use Rattle.std.proofs.lemmas.Bool.{cases_lt, le-ltb}
use Rattle.std.proofs.lemmas.List.{length-drop}
use Rattle.script_reader.specs.declared.plan.LineEnd.{LineEnd}
use Rattle.bool_tables.specs.Plans.{IsWellFormed}
use Rattle.shelf_model.specs.declared.file_no.FileNo.{FileNo}
use Rattle.shelf_model.specs.Calls.{Told, Ticks, Entered}
use Rattle.shelf_model.specs.Folder.{Folder, Image, bytes_in, IsImage, AreFiles}
use Rattle.shelf_model.specs.declared.fault.Failed.{Failed}
use Rattle.shelf_model.specs.Moments.{Throughout, Ran, Stays, OnlyOldImages}
use Rattle.shelf_model.specs.World.{Moment, World, now}
use Rattle.shelf_model.proofs.Images.{chosen, standing_image}
use Rattle.shelf_model.proofs.Runs.{weakens, at_end, one_call}
use Rattle.catalogue.specs.declared.layout.Entry.{Entry}
use Rattle.catalogue.specs.Counts.{present, is_stored, count_in}
use Rattle.catalogue.specs.Standings.{DuringAttach}
use Rattle.file_writes.specs.Writes.{pieces}
use Rattle.catalogue.specs.Files.{step_gate}
use Rattle.sweep_checkpoint.specs.Stops.{turns_in, shown_turns}
use Rattle.step_going.proofs.Gated.{none_gated}
use Rattle.sound_image.specs.Files.{checkpoint_gate}
use Rattle.sound_image.specs.Jobs.{Job, step_at}
use Rattle.sound_image.specs.Holds.{Holds, AreSound}
use Rattle.sound_image.proofs.AttachLaws.{standing}
use Rattle.step_engine.specs.Running.{run_stop, PaysRest}
use Rattle.script_runner.specs.declared.finish.Finish.{Finish}
use Rattle.script_runner.specs.Calls.{PaysFirst, IsGated}
use Rattle.script_runner.specs.Stops.{run_rest, committed_turns, paid_in, IsRestOf, PayAtLeast, PaysAt, PaysThrough, IsPaidRun, RunPays, StopsIn, IsPaidStep, most_together, StepPays}
use Rattle.diagram_list.specs.Saying.{IsSaying}
use Rattle.script_runner.specs.Fetching.{OnlyFetched}
use Rattle.script_runner.specs.Running.{SaysOnly}
use Rattle.script_runner.specs.StepRuns.{KeepsLater}
use Rattle.script_runner.proofs.RunSteps.{KeepsUndropped}
use Rattle.script_runner.proofs.Paying.{unpaid, unpaid_few, none_unpaid, unpaid_less, pays_now, gated_now}
use Rattle.script_runner.specs.Tidied.{TidiedLast}
use Rattle.script_runner.proofs.LastTidied.{pays_as_before}
use Rattle.script_runner.proofs.StopLaws.{pays_more, pays_join, pays_still, fetched_old}

-- what is left for going on with the first step that isn't committed, of what pays for going on with the run
abbrev pub rest_of : ℕ → ℕ
rest_of rest = rest - (2 ^ 24 + 2 ^ 21 + 2 ^ 17)

-- the calls that aren't paid for by turns before a step: for attaching the job, the banner and tidying up the steps
-- of the last commit, for the lines that were said, and once the first step was taken what paid for going on with it
abbrev pub spent_at : ℕ → ℕ → ℕ → ℕ → ℕ → ℕ → ℕ
spent_at bytes lines left done step rest =
    67162 + pieces bytes + 2 * (lines - left) + (rest_of rest - unpaid done step (rest_of rest))

-- a run so far: what a stop costs at each moment of it, and now, with so many calls to spare
pub record PaysSoFar (job : Job) (paid spent rest spare : ℕ) (old new : World) : Type 0 where
  pub stops : PaysThrough job paid (old.clock + rest) old new
  pub here : (image : Image) → IsImage (now new).folder image → PaysAt job paid (old.clock + spent) (new.clock + spare) (bytes_in image)

-- more calls than were counted
pub at_more : (job : Job) (paid most more j : ℕ) (r : FileNo → List ℕ) → most ≤ more → PaysAt job paid most j r → PaysAt job paid more j r
at_more job paid most more j r less at = record { no_fewer = at.no_fewer; few = let few = at.few in omega (arith, few, less) }

-- fewer calls than were counted
pub at_fewer : (job : Job) (paid most j fewer : ℕ) (r : FileNo → List ℕ) → fewer ≤ j → PaysAt job paid most j r → PaysAt job paid most fewer r
at_fewer job paid most j fewer r less at = record { no_fewer = at.no_fewer; few = let few = at.few in omega (arith, few, less) }

-- a run of calls in which each image pays for what one of before did
pub pays_on : (job : Job) (paid spent more rest spare : ℕ) (old mid new : World) → mid.clock ≤ new.clock
    → ((k : ℕ) → k ≤ mid.clock → new.moment k ≡ mid.moment k) → new.clock ≤ mid.clock + more → spent + more ≤ rest
    → ((k : ℕ) → mid.clock ≤ k → k ≤ new.clock → (image : Image) → IsImage (new.moment k).folder image
    → (before : Image) × IsImage (now mid).folder before × (paid_in job (bytes_in image) ≡ paid_in job (bytes_in before)))
    → PaysSoFar job paid spent rest spare old mid → PaysSoFar job paid (spent + more) rest spare old new
pays_on job paid spent more rest spare old mid new later past few within same so_far = record {
  stops = pays_join job paid (old.clock + rest) old mid new past so_far.stops
      (λ k from to image is_image. at_more job paid (old.clock + (spent + more)) (old.clock + rest) k (bytes_in image) (omega (arith, within))
      (at_fewer job paid (old.clock + (spent + more)) (k + spare) k (bytes_in image) (omega arith) (still k from to image is_image)));
  here = still new.clock later (omega arith);
}
  where
    still : (k : ℕ) → mid.clock ≤ k → k ≤ new.clock → (image : Image) → IsImage (new.moment k).folder image
        → PaysAt job paid (old.clock + (spent + more)) (k + spare) (bytes_in image)
    still k from to image is_image =
        let found = same k from to image is_image in
        let at = so_far.here found.0 found.1 in
        let no_fewer = at.no_fewer in
        let counted = at.few in
        let as_much = found.2 in
        record { no_fewer = omega (arith, no_fewer, as_much); few = omega (arith, no_fewer, counted, few, to, as_much) }

-- so it is where the files stay
pub stays_on : (job : Job) (paid spent more rest spare : ℕ) (old mid new : World) → Throughout mid new (Stays (now mid)) → new.clock ≤ mid.clock + more
    → spent + more ≤ rest → PaysSoFar job paid spent rest spare old mid → PaysSoFar job paid (spent + more) rest spare old new
stays_on job paid spent more rest spare old mid new run few within so_far =
    pays_on job paid spent more rest spare old mid new run.later run.past few within
    (λ k from to image is_image. (image, subst (λ folder. IsImage folder image) (run.each k from to) is_image, refl)) so_far

-- what each image pays for at least, so that what was spent so far, and what there is to spare, is paid for
abbrev pub paid_now : ℕ → ℕ → ℕ → World → World → ℕ
paid_now paid spent spare old new = max paid (new.clock + spare + paid - (old.clock + spent))

pub pay_now : (job : Job) (paid spent rest spare : ℕ) (old new : World) → PaysSoFar job paid spent rest spare old new
    → PayAtLeast job (paid_now paid spent spare old new) (now new).folder
pay_now job paid spent rest spare old new so_far image is_image =
    let at = so_far.here image is_image in
    let no_fewer = at.no_fewer in
    let few = at.few in
    omega (arith, no_fewer, few)

-- steps were taken, or stopped the run
pub step_on : (job : Job) (paid spent unspent rest spare left : ℕ) (result : Result Entry Finish) (old mid new : World)
    → ((k : ℕ) → k ≤ mid.clock → new.moment k ≡ mid.moment k) → spent + (run_stop + most_together + unspent) ≤ rest
    → PaysSoFar job paid spent rest spare old mid → StepPays job (paid_now paid spent spare old mid) unspent spare left result mid new
    → PaysThrough job paid (old.clock + rest) old new
step_on job paid spent unspent rest spare left result old mid new past within so_far step =
    pays_join job paid (old.clock + rest) old mid new past so_far.stops
    (pays_more job paid (paid_now paid spent spare old mid) (mid.clock + (run_stop + most_together + unspent)) (old.clock + rest) mid new (omega arith) (omega (arith, within)) step.stops)

pub step_done : (job : Job) (paid spent unspent rest spare left : ℕ) (e : Entry) (old mid new : World)
    → ((k : ℕ) → k ≤ mid.clock → new.moment k ≡ mid.moment k) → spent + (run_stop + most_together + unspent) ≤ rest
    → PaysSoFar job paid spent rest spare old mid → StepPays job (paid_now paid spent spare old mid) unspent spare left (Ok e) mid new
    → PaysSoFar job paid (spent + unspent) rest left old new
step_done job paid spent unspent rest spare left e old mid new past within so_far step = record {
  stops = step_on job paid spent unspent rest spare left (Ok e) old mid new past within so_far step;
  here = λ image is_image.
      let at = step.ends image is_image in
      let no_fewer = at.no_fewer in
      let few = at.few in
      record { no_fewer = omega (arith, no_fewer); few = omega (arith, no_fewer, few) };
}

-- nothing is shown of the steps of a job that isn't stored, where none of them has a gated checkpoint
pub none_shown : (job : Job) (r : FileNo → List ℕ) → is_stored r ≡ false → ((k : ℕ) → 0 ≤ k → k < length job.steps → r (checkpoint_gate k) ≡ [])
    → paid_in job r ≡ 0
unfolding committed_turns
none_shown job r unstored none =
    let count : count_in r ≡ 0 = ap (λ b. if b then length (r step_gate) else 0) unstored in
    (λ i. 256 * (committed_turns (count i) r + cond (nat_lt (count i) (length job.steps)) (shown_turns (count i) r) 0))
    ∙ ap (λ n. 256 * (committed_turns 0 r + n)) nothing
  where
    none_either : (b : Bool) (n : ℕ) → n ≡ 0 → cond b n 0 ≡ 0
    none_either true n zero = zero
    none_either false n zero = refl

    nothing : cond (nat_lt 0 (length job.steps)) (shown_turns 0 r) 0 ≡ 0
    nothing = elim (cases_lt 0 (length job.steps)) [
      | inl some ↦
          none_either (nat_lt 0 (length job.steps)) (shown_turns 0 r) (ap turns_in (none_gated 0 r (none 0 (omega arith) some)))
      | inr none_there ↦ ap (λ (b : Bool). cond b (shown_turns 0 r) 0) (le-ltb 0 (length job.steps) none_there)
    ]

-- while the job is attached
pub attached_pays : (job : Job) (given : List ℕ) (paid most : ℕ) (old new : World) → AreFiles (now old).folder → AreSound job (now old).folder
    → PayAtLeast job paid (now old).folder → Ran (DuringAttach given (now old)) old new → new.clock ≤ most → PaysThrough job paid most old new
attached_pays job given paid most old new files sound shows run few k from to image is_image =
    record { no_fewer = least; few = omega (arith, few, to) }
  where
    least : paid ≤ paid_in job (bytes_in image)
    least = elim ((run.moments.each k from to).holds.images image is_image) [
      | inl was ↦ shows image was
      | inr begins ↦
          let first : Image = chosen (λ _ x. x.bytes) (now old).folder in
          let is_first = standing_image (now old).folder files in
          let read : bytes_in first ≡ present (now old).folder = λ i f. standing (now old).folder files f i in
          let unstored : is_stored (bytes_in first) ≡ false = ap is_stored read ∙ begins.0 in
          let none = none_shown job (bytes_in first) unstored ((sound first is_first).resumable.unstored unstored) in
          let paid_for = shows first is_first in
          omega (arith, none, paid_for)
    ]

pub attached_so_far : (job : Job) (given : List ℕ) (paid spent rest : ℕ) (old new : World) → AreFiles (now old).folder → AreSound job (now old).folder
    → PayAtLeast job paid (now old).folder → Ran (DuringAttach given (now old)) old new → new.clock ≤ old.clock + spent → spent ≤ rest
    → PaysSoFar job paid spent rest 0 old new
attached_so_far job given paid spent rest old new files sound shows run few within =
    let pays = attached_pays job given paid (old.clock + spent) old new files sound shows run few in
    record {
      stops = λ k from to image is_image. at_more job paid (old.clock + spent) (old.clock + rest) k (bytes_in image) (omega (arith, within))
          (pays k from to image is_image);
      here = λ image is_image. at_fewer job paid (old.clock + spent) new.clock (new.clock + 0) (bytes_in image) (omega arith)
          (pays new.clock run.moments.later (omega arith) image is_image);
    }

-- what pays for going on with the run pays for going on with the first step that isn't committed
first_paid : (job : Job) (rest : ℕ) (folder : Folder) → IsRestOf job (present folder) rest → PaysFirst job folder (rest_of rest - 64539)
first_paid job rest folder is within c told = let enough = is.goes_on c told in omega (arith, enough)

-- so is each step of it
pub step_paid : (job : Job) (lines paid spent rest spare step : ℕ) (gated : Bool) (old new : World) → IsWellFormed job.n job.text job.steps → AreFiles (now old).folder
    → IsPaidRun job lines paid rest (now old).folder → count_in (present (now old).folder) ≤ step → step < length job.steps
    → KeepsUndropped job.steps (count_in (present (now old).folder)) step (now old).folder (now new).folder
    → KeepsLater step (now old).folder (now new).folder → Holds job step (now new).folder → IsGated gated step (now old).folder
    → PaysSoFar job paid spent rest spare old new
    → IsPaidStep job step gated (paid_now paid spent spare old new) (unpaid (count_in (present (now old).folder)) step (rest_of rest)) (now new).folder
step_paid job lines paid spent rest spare step gated old new plan files is reached within keeps later holds gates so_far = record {
  holds = holds;
  gated = gated_now job gated step (now old).folder (now new).folder plan within later gates;
  work = is.work step within;
  shows = pay_now job paid spent rest spare old new so_far;
  pays = subst (λ n. PaysRest (step_at job step).step step (present (now new).folder) n)
      (unpaid_less (count_in (present (now old).folder)) step (rest_of rest))
      (pays_now job step (rest_of rest - 64539) (now old).folder (now new).folder plan files is.sound reached within keeps later
      (first_paid job rest (now old).folder (subst (λ r. IsRestOf job r rest) (λ i f. standing (now old).folder files f i)
      (is.pays (chosen (λ _ x. x.bytes) (now old).folder) (standing_image (now old).folder files)))));
}

-- more is said to be spent
pub so_more : (job : Job) (paid spent more rest spare : ℕ) (old new : World) → spent ≤ more → PaysSoFar job paid spent rest spare old new
    → PaysSoFar job paid more rest spare old new
so_more job paid spent more rest spare old new less so_far = record {
  stops = so_far.stops;
  here = λ image is_image. at_more job paid (old.clock + spent) (old.clock + more) (new.clock + spare) (bytes_in image) (omega (arith, less)) (so_far.here image is_image);
}

-- the lines that remain are no more than all
pub rest_few : (place : ℕ) (lines rest : List LineEnd) → rest ≡ drop place lines → length rest ≤ length lines
rest_few place lines rest is = let left : length rest ≡ length lines - place = ap length is ∙ length-drop place lines in omega (arith, left)

-- so many calls pay for a run at least
rest_is_great : (job : Job) (lines paid rest : ℕ) (folder : Folder) → AreFiles folder → IsPaidRun job lines paid rest folder → run_rest ≤ rest
rest_is_great job lines paid rest folder files is =
    let begins = (is.pays (chosen (λ _ x. x.bytes) folder) (standing_image folder files)).begins in omega (arith, begins)

-- what is spent before a step, and what a stop in it and those that are committed together with it costs besides
spent_within : (bytes lines left done step rest : ℕ) → bytes ≤ 5242900 → lines ≤ 1048576 → run_rest ≤ rest
    → spent_at bytes lines left done step rest + (run_stop + most_together + unpaid done step (rest_of rest)) ≤ rest
spent_within bytes lines left done step rest short few great =
    let less = unpaid_few done step (rest_of rest) in omega (arith, short, few, great, less)

-- a piece that was said leaves the files
pub said_stays : (mid new : World) → Ticks mid new → (now new).folder ≡ (now mid).folder → Throughout mid new (Stays (now mid))
said_stays mid new ticks same = one_call mid new (Stays (now mid)) ticks refl same

-- while the folder is entered
enters_quietly : (job : Job) (lines : ℕ) (path : List ℕ) (r : Result Unit Failed) (old new : World) (paid rest most : ℕ) → Entered path r old new
    → IsPaidRun job lines paid rest (now old).folder → new.clock ≤ most → PaysThrough job paid most old new
enters_quietly job lines path r old new paid rest most entered is few =
    pays_still job paid most old new
    (one_call old new (OnlyOldImages (now old)) entered.ticks (λ image is_image. is_image)
    (λ image is_image. subst (λ (m : Moment). IsImage m.folder image) entered.same is_image)) is.shows few

module _ {S : Type 0} (tells : S → Bool) (world : S → World) (law : (s : S) → IsTrue (tells s) → AreFiles (now (world s)).folder) (job : Job) (lines : ℕ) where
  -- the job couldn't be attached
  pub attach_stops : (given : List ℕ) (old new : S) → length given ≡ length job.bytes
      → Told tells old new (Ran (DuringAttach given (now (world old))) (world old) (world new)) → IsTrue (tells new)
      → (world new).clock ≤ (world old).clock + 9 + pieces (length given) → RunPays job lines (world old) (world new)
  attach_stops given old new size run told few paid rest is =
      let files = law old (run.before told) in
      let great = rest_is_great job lines paid rest (now (world old)).folder files is in
      let short = is.short in
      attached_pays job given paid ((world old).clock + rest) (world old) (world new) files is.sound is.shows (run.did told)
      (omega (arith, few, great, short, size))

  -- it was, and the banner was said, or a part of it
  pub banner_so_far : (given : List ℕ) (old mid new : S) → length given ≡ length job.bytes
      → Told tells old mid (Ran (DuringAttach given (now (world old))) (world old) (world mid)) → IsTrue (tells mid)
      → (world mid).clock ≤ (world old).clock + 9 + pieces (length given) → Ticks (world mid) (world new)
      → (now (world new)).folder ≡ (now (world mid)).folder → (paid rest : ℕ) → IsPaidRun job lines paid rest (now (world old)).folder
      → PaysSoFar job paid (9 + pieces (length job.bytes) + 1) rest 0 (world old) (world new)
  banner_so_far given old mid new size run told few ticks same paid rest is =
      let files = law old (run.before told) in
      let great = rest_is_great job lines paid rest (now (world old)).folder files is in
      let short = is.short in
      let clock = ticks.clock_is in
      stays_on job paid (9 + pieces (length job.bytes)) 1 rest 0 (world old) (world mid) (world new) (said_stays (world mid) (world new) ticks same)
      (omega (arith, clock)) (omega (arith, great, short))
      (attached_so_far job given paid (9 + pieces (length job.bytes)) rest (world old) (world mid) files is.sound is.shows (run.did told) (omega (arith, few, size))
      (omega (arith, great, short)))

  -- and the steps of the last commit were tidied up, or a part of that was done
  pub tidied_so_far : (plan : IsWellFormed job.n job.text job.steps) (step left : ℕ) (old mid new : S) → IsTrue (tells old) → step ≤ length job.steps
      → (AreSound job (now (world old)).folder → Holds job step (now (world mid)).folder)
      → Told tells mid new (Ran (TidiedLast job.steps step (now (world mid))) (world mid) (world new)) → IsTrue (tells new)
      → (world new).clock ≤ (world mid).clock + 67152 → (paid rest : ℕ) → IsPaidRun job lines paid rest (now (world old)).folder
      → PaysSoFar job paid (9 + pieces (length job.bytes) + 1) rest 0 (world old) (world mid)
      → PaysSoFar job paid (spent_at (length job.bytes) lines left (count_in (present (now (world old)).folder)) step rest) rest 0 (world old) (world new)
  tidied_so_far plan step left old mid new tells_old upto holds tidies told few paid rest is so_far =
      let great = rest_is_great job lines paid rest (now (world old)).folder (law old tells_old) is in
      let short = is.short in
      let ran = tidies.did told in
      so_more job paid (9 + pieces (length job.bytes) + 1 + 67152)
      (spent_at (length job.bytes) lines left (count_in (present (now (world old)).folder)) step rest) rest 0 (world old) (world new) (omega arith)
      (pays_on job paid (9 + pieces (length job.bytes) + 1) 67152 rest 0 (world old) (world mid) (world new) ran.moments.later ran.moments.past
      few (omega (arith, great, short))
      (λ k from to image is_image.
      pays_as_before job plan step upto (now (world mid)) ((world new).moment k) (law mid (tidies.before told)) (holds is.sound).ready
      (ran.moments.each k from to).holds image is_image) so_far)

  module _ (plan : IsWellFormed job.n job.text job.steps) (step left : ℕ) (within : step < length job.steps) (old mid new : S) (tells_old : IsTrue (tells old))
      (reached : count_in (present (now (world old)).folder) ≤ step)
      (keeps : KeepsUndropped job.steps (count_in (present (now (world old)).folder)) step (now (world old)).folder (now (world mid)).folder)
      (later : KeepsLater step (now (world old)).folder (now (world mid)).folder)
      (holds : AreSound job (now (world old)).folder → Holds job step (now (world mid)).folder)
      (gated : Bool) (gates : AreSound job (now (world old)).folder → IsGated gated step (now (world old)).folder)
      (past : (k : ℕ) → k ≤ (world mid).clock → (world new).moment k ≡ (world mid).moment k)
      (paid rest : ℕ) (is : IsPaidRun job lines paid rest (now (world old)).folder) where
    abbrev done : ℕ
    done = count_in (present (now (world old)).folder)

    abbrev spent : ℕ
    spent = spent_at (length job.bytes) lines left done step rest

    enough : spent + (run_stop + most_together + unpaid done step (rest_of rest)) ≤ rest
    enough = spent_within (length job.bytes) lines left done step rest is.short is.few_lines
        (rest_is_great job lines paid rest (now (world old)).folder (law old tells_old) is)

    module _ (spare left_over : ℕ) (so_far : PaysSoFar job paid spent rest spare (world old) (world mid)) (result : Result Entry Finish)
        (steps : (paid rest : ℕ) → IsPaidStep job step gated paid rest (now (world mid)).folder
        → StepPays job paid rest spare left_over result (world mid) (world new)) where
      step_so : StepPays job (paid_now paid spent spare (world old) (world mid)) (unpaid done step (rest_of rest)) spare left_over result (world mid) (world new)
      step_so = steps (paid_now paid spent spare (world old) (world mid)) (unpaid done step (rest_of rest))
          (step_paid job lines paid spent rest spare step gated (world old) (world mid) plan (law old tells_old) is reached within keeps later (holds is.sound)
          (gates is.sound) so_far)

      -- steps stopped the run
      pub stopped_step : PaysThrough job paid ((world old).clock + rest) (world old) (world new)
      stopped_step = step_on job paid spent (unpaid done step (rest_of rest)) rest spare left_over result (world old) (world mid) (world new) past enough so_far step_so

      -- or they were taken
      pub taken_step : (e : Entry) → result ≡ Ok e → step ≤ e.number
          → PaysSoFar job paid (spent_at (length job.bytes) lines left done (e.number + 1) rest) rest left_over (world old) (world new)
      taken_step e ok from =
          let few = unpaid_few done step (rest_of rest) in
          let none = none_unpaid done e.number (rest_of rest) (omega (arith, reached, from)) in
          so_more job paid (spent + unpaid done step (rest_of rest)) (spent_at (length job.bytes) lines left done (e.number + 1) rest) rest left_over (world old) (world new)
          (omega (arith, few, none))
          (step_done job paid spent (unpaid done step (rest_of rest)) rest spare left_over e (world old) (world mid) (world new) past enough so_far
          (subst (λ r. StepPays job (paid_now paid spent spare (world old) (world mid)) (unpaid done step (rest_of rest)) spare left_over r (world mid) (world new)) ok step_so))

  -- lines were said, or a part of them
  pub lines_said : (step left count done spare : ℕ) (old mid new : S) (tells_old : IsTrue (tells old)) → Throughout (world mid) (world new) (Stays (now (world mid)))
      → (world new).clock ≤ (world mid).clock + 2 * count → count ≤ left → left ≤ lines → (paid rest : ℕ) → IsPaidRun job lines paid rest (now (world old)).folder
      → PaysSoFar job paid (spent_at (length job.bytes) lines left done step rest) rest spare (world old) (world mid)
      → PaysSoFar job paid (spent_at (length job.bytes) lines (left - count) done step rest) rest spare (world old) (world new)
  lines_said step left count done spare old mid new tells_old stays few within all paid rest is so_far =
      let great = rest_is_great job lines paid rest (now (world old)).folder (law old tells_old) is in
      let short = is.short in
      let few_lines = is.few_lines in
      let less = unpaid_few done step (rest_of rest) in
      so_more job paid (spent_at (length job.bytes) lines left done step rest + 2 * count)
      (spent_at (length job.bytes) lines (left - count) done step rest) rest spare (world old) (world new) (omega (arith, within, all))
      (stays_on job paid (spent_at (length job.bytes) lines left done step rest) (2 * count) rest spare (world old) (world mid) (world new) stays few
      (omega (arith, great, short, few_lines, less, within, all)) so_far)

  -- the last line was said, or a part of it
  pub ends_so : (step left done spare : ℕ) (old mid new : S) (tells_old : IsTrue (tells old)) → Ticks (world mid) (world new)
      → (now (world new)).folder ≡ (now (world mid)).folder → (paid rest : ℕ) → IsPaidRun job lines paid rest (now (world old)).folder
      → PaysSoFar job paid (spent_at (length job.bytes) lines left done step rest) rest spare (world old) (world mid)
      → PaysThrough job paid ((world old).clock + rest) (world old) (world new)
  ends_so step left done spare old mid new tells_old ticks same paid rest is so_far =
      let great = rest_is_great job lines paid rest (now (world old)).folder (law old tells_old) is in
      let short = is.short in
      let few_lines = is.few_lines in
      let less = unpaid_few done step (rest_of rest) in
      let clock = ticks.clock_is in
      (stays_on job paid (spent_at (length job.bytes) lines left done step rest) 1 rest spare (world old) (world mid) (world new)
      (said_stays (world mid) (world new) ticks same) (omega (arith, clock)) (omega (arith, great, short, few_lines, less)) so_far).stops

-- the folder couldn't be entered
pub enter_stops : (job : Job) (lines : ℕ) (path : List ℕ) (r : Result Unit Failed) (old new : World) → Entered path r old new
    → StopsIn job lines 2 old new
enter_stops job lines path r old new entered = record {
  past = entered.ticks.past;
  pays = λ paid rest is. enters_quietly job lines path r old new paid rest (old.clock + (2 + rest)) entered is
      (let clock = entered.ticks.clock_is in omega (arith, clock));
}

-- it was, and the job was run there
module _ (job : Job) (lines : ℕ) (path : List ℕ) (r : Result Unit Failed) (old mid new : World) (entered : Entered path r old mid) (P : Moment → Type 0)
    (run : Throughout mid new P) (pays : RunPays job lines mid new) where
  entered_past : (k : ℕ) → k ≤ old.clock → new.moment k ≡ old.moment k
  entered_past k within =
      let clock = entered.ticks.clock_is in run.past k (omega (arith, within, clock)) ∙ entered.ticks.past k within

  entered_pays : (paid rest : ℕ) → IsPaidRun job lines paid rest (now old).folder → PaysSoFar job paid (1 + rest) (2 + rest) 0 old new
  entered_pays paid rest is =
      let clock : mid.clock ≡ old.clock + 1 = entered.ticks.clock_is in
      let later : mid.clock ≤ new.clock = run.later in
      let all : PaysThrough job paid (old.clock + (1 + rest)) old new =
      pays_join job paid (old.clock + (1 + rest)) old mid new run.past
      (enters_quietly job lines path r old mid paid rest (old.clock + (1 + rest)) entered is (omega (arith, clock)))
      (pays_more job paid paid (mid.clock + rest) (old.clock + (1 + rest)) mid new (omega arith) (omega (arith, clock))
      (pays paid rest (subst (λ (m : Moment). IsPaidRun job lines paid rest m.folder) (sym entered.same) is))) in
      record {
        stops = pays_more job paid paid (old.clock + (1 + rest)) (old.clock + (2 + rest)) old new (omega arith) (omega arith) all;
        here = λ image is_image. at_fewer job paid (old.clock + (1 + rest)) new.clock (new.clock + 0) (bytes_in image) (omega arith)
            (all new.clock (omega (arith, clock, later)) (omega arith) image is_image);
      }

  pub entered_stops : StopsIn job lines 2 old new
  entered_stops = record { past = entered_past; pays = λ paid rest is. (entered_pays paid rest is).stops }

  -- and a line was said behind it, or a part of it
  pub refused_stops : (line : List ℕ) (last : World) → SaysOnly line new last → last.clock ≤ new.clock + 1 → StopsIn job lines 2 old last
  refused_stops line last says short = record {
    past = λ k within.
        let clock = entered.ticks.clock_is in
        let later : mid.clock ≤ new.clock = run.later in
        says.moments.past k (omega (arith, within, clock, later)) ∙ entered_past k within;
    pays = λ paid rest is. (stays_on job paid (1 + rest) 1 (2 + rest) 0 old new last
        (weakens new last (IsSaying line (now new)) (Stays (now new)) (λ m saying. saying.folder_is) says.moments) short (omega arith)
        (entered_pays paid rest is)).stops;
  }

-- more calls are made besides
pub stops_besides : (job : Job) (lines besides more : ℕ) (old new : World) → besides ≤ more → StopsIn job lines besides old new
    → StopsIn job lines more old new
stops_besides job lines besides more old new less stops = record {
  past = stops.past;
  pays = λ paid rest is. pays_more job paid paid (old.clock + (besides + rest)) (old.clock + (more + rest)) old new (omega arith) (omega (arith, less))
      (stops.pays paid rest is);
}

-- and texts were fetched before
pub fetched_stops : (job : Job) (lines besides fetch more : ℕ) (old mid new : World) → OnlyFetched old mid → mid.clock ≤ old.clock + fetch
    → fetch + besides ≤ more → StopsIn job lines besides mid new → StopsIn job lines more old new
fetched_stops job lines besides fetch more old mid new looked clock within stops = record {
  past = λ k earlier.
      let later : old.clock ≤ mid.clock = looked.moments.later in
      stops.past k (omega (arith, earlier, later)) ∙ looked.moments.past k earlier;
  pays = λ paid rest is.
      let same : now mid ≡ now old = at_end old mid (λ m. m ≡ now old) looked.moments in
      pays_join job paid (old.clock + (more + rest)) old mid new stops.past
      (pays_still job paid (old.clock + (more + rest)) old mid
      (fetched_old old mid looked) is.shows (omega (arith, clock, within)))
      (pays_more job paid paid (mid.clock + (besides + rest)) (old.clock + (more + rest)) mid new (omega arith) (omega (arith, clock, within))
      (stops.pays paid rest (subst (λ (m : Moment). IsPaidRun job lines paid rest m.folder) (sym same) is)));
}

-- a call in which no image is new costs no more
pub still_stops : (job : Job) (lines besides : ℕ) (old new : World) → Throughout old new (OnlyOldImages (now old)) → new.clock ≤ old.clock + besides
    → StopsIn job lines besides old new
still_stops job lines besides old new run few = record {
  past = run.past;
  pays = λ paid rest is. pays_still job paid (old.clock + (besides + rest)) old new run is.shows (omega (arith, few));
}
