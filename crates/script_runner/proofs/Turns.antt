-- The parts of a run over a station, whether it tells its content or not.
use Rattle.std.proofs.Common.{◌≡◌, ◌∙◌, ℕ, ◌+◌, ◌-◌, ◌*◌, ◌/◌, ◌<◌, ◌≤◌, min, Bool, true, false, not, cond, nat_lt, List, [], ◌++◌, length, take, drop, refl, sym, ap, subst, inl, inr, arith}
use Rattle.std.specs.Prelude.{IsTrue, Result, Ok, Err, OnOk, if◌then◌else◌}
use Rattle.std.specs.List.{list_all, sum_by}
use Rattle.std.proofs.lemmas.Bool.{cases_lt}
use Rattle.std.proofs.lemmas.List.{append-nil, length-take, length-drop}
use Rattle.std.proofs.lemmas.List.Sums.{sum_by-take-le}
use Rattle.shelf_model.specs.declared.fault.Failed.{Failed}
use Rattle.shelf_model.specs.declared.file_no.FileNo.{FileNo}
use Rattle.shelf_model.specs.Folder.{Image, AreFiles, file_in, bytes_in}
use Rattle.shelf_model.specs.World.{Moment, World, now, said}
use Rattle.shelf_model.specs.Calls.{Told, Said}
use Rattle.shelf_model.specs.Moments.{Throughout, Quiet, Ran, Stays, OnlyOldImages}
use Rattle.shelf_model.proofs.Images.{chosen, standing_image}
use Rattle.shelf_model.proofs.Runs.{told, told_then, weakens, at_end, ran_end}
use Rattle.catalogue.specs.declared.layout.Entry.{Entry}
use Rattle.catalogue.specs.declared.standing.Standing.{Standing}
use Rattle.catalogue.specs.declared.fault.AttachFault.{AttachFault}
use Rattle.catalogue.specs.declared.fault.AttachFault.TheVariants as attach
use Rattle.catalogue.specs.Files.{job_file, job_gate, catalogue, step_gate}
use Rattle.catalogue.specs.Counts.{present, is_stored, count_in, entry_at}
use Rattle.catalogue.specs.Entries.{IsEntryOf, entry_bytes}
use Rattle.catalogue.specs.Commits.{IsReady}
use Rattle.catalogue.specs.Standings.{without_budget, standing_of, DuringAttach, IsAttached}
use Rattle.catalogue.proofs.Places.{length_entry}
use Rattle.sound_image.specs.Jobs.{Job}
use Rattle.sound_image.specs.Entries.{IsEntryOfStep}
use Rattle.sound_image.specs.Sound.{ShowsSteps}
use Rattle.sound_image.specs.Holds.{AreSound, HaveCount}
use Rattle.sound_image.proofs.AttachLaws.{standing}
use Rattle.script_reader.specs.declared.plan.LineEnd.{LineEnd}
use Rattle.script_reader.specs.Lines.{rise_from}
use Rattle.script_runner.specs.declared.finish.Finish.{Finish}
use Rattle.script_runner.specs.declared.finish.Finish.TheVariants.{Done, OtherJob, FolderFault, SayFault, Damaged, RunsSpent}
use Rattle.script_runner.specs.Text.{done_line, banner_line, ended_before, start_line, resume_line}
use Rattle.script_runner.specs.Shapes.{IsShape, IsWholeShape}
use Rattle.script_runner.specs.Lean.{IsLean}
use Rattle.script_runner.specs.Running.{HasSaid, HasOtherJob, IsOther, IsDamage, RefusesFolder, IsStop, IsSpentStep, IsStill, StoodStill, MeetsDamage, MeetsSpent, AreEmptied, RunsSteps}
use Rattle.script_runner.specs.StepRuns.{IsTaking, HoldsSteps, TakesSteps, IsSayStop, SaysLines}
use Rattle.script_runner.specs.Calls.{step_calls, calls_before, IsGated, IsCounted, AreCounted}
use Rattle.sound_image.specs.Files.{node_file}
use Rattle.script_runner.specs.Tidied.{TidiedLast, TidiesFor, TidyCosts, EmptiesLast, may_wait}
use Rattle.script_runner.proofs.Taking.{calls_of_one_more, calls_least}
use Rattle.script_runner.proofs.LastTidied.{tidied_at, last_paid}
use Rattle.script_runner.proofs.LineOrder.{ended_is, ended_most}
use Rattle.script_runner.proofs.Standing.{IsStanding, IsDamaged, standing_says}
use Rattle.script_runner.proofs.RunSteps.{done_at, text_at, drop_below, present_count, IsPlan, Ongoing, AtStep, attaching, since, shape_of, damaged_at_first, met_at_first, same_at, taking, has_taken}
use Rattle.script_runner.proofs.Paying.{unpaid, pays_now, gated_now}
use Rattle.script_runner.proofs.StepByStep.{begun, says_lines, whole_behind, has_said_lines, ends}

-- the calls of the steps before one are no more than those of all steps
pub calls_before_all : (job : Job) (step : ℕ) → calls_before job step ≤ sum_by (step_calls job) job.steps
calls_before_all job step = sum_by-take-le (step_calls job) job.steps step

-- where a job is stored it is this one, whichever budget wrote it
abbrev pub IsThisJob : Job → World → Type 0
IsThisJob job old = IsTrue (is_stored (present (now old).folder)) → without_budget (present (now old).folder job_file) ≡ job.bytes

-- a run that is under way, of a job that isn't another one
abbrev pub Turn : Job → List LineEnd → ℕ → List LineEnd → World → World → Type 0
Turn job lines step rest old new = AtStep job lines step rest old new × IsThisJob job old

-- the same once steps were taken, the last of which has the entry at hand
abbrev pub Taken : Job → List LineEnd → List LineEnd → Entry → World → World → Type 0
Taken job lines rest e old new = Turn job lines (e.number + 1) rest old new × (AreSound job (now old).folder → IsEntryOfStep job e.number e)

not_other : (job : Job) (old : World) → IsThisJob job old → IsOther job.bytes (present (now old).folder) → ⊥
not_other job old same other = other.other (same other.stored)

-- a run that was stopped by one of its parts
by_stop : (job : Job) (lines : List LineEnd) (finish : Finish) (old new : World) → Ongoing job lines old new → IsThisJob job old → IsStop finish
    → (AreSound job (now old).folder → ¬ (RefusesFolder finish)) → ((f : FileNo) (at : ℕ) → finish ≡ Damaged f at → MeetsDamage job lines f at old new)
    → ((k : ℕ) → finish ≡ RunsSpent k → MeetsSpent job lines k old new) → RunsSteps job lines finish old new
by_stop job lines finish old new run same stop goes_on names spends = record {
  moments = run.moments;
  stays = run.stays;
  goes_on = goes_on;
  whole = λ sound e. absurd (not_done finish stop e);
  says = λ e. absurd (not_done finish stop e);
  all = λ e. absurd (not_done finish stop e);
  emptied = λ e. absurd (not_done finish stop e);
  emptied_last = λ sound e. absurd (not_done finish stop e);
  lean = λ sound e. absurd (not_done finish stop e);
  other_job = λ at e. absurd (not_job finish at stop e);
  refuses_other = λ other. absurd (not_other job old same other);
  damaged = names;
  spent = spends;
}
  where
    not_done : (x : Finish) → IsStop x → x ≡ Done → ⊥
    not_done x stop e = subst IsStop e stop

    not_job : (x : Finish) (at : ℕ) → IsStop x → x ≡ OtherJob at → ⊥
    not_job x at stop e = subst IsStop e stop

-- what stops the saying of lines stops a run
say_stops : (x : Finish) → IsSayStop x → IsStop x
say_stops Done stop = stop
say_stops (OtherJob at) stop = stop
say_stops FolderFault stop = tt
say_stops SayFault stop = tt
say_stops (Damaged f at) stop = tt
say_stops (RunsSpent step) stop = absurd stop

-- and no lack of part numbers does
never_spent : (x : Finish) (k : ℕ) → IsSayStop x → x ≡ RunsSpent k → ⊥
never_spent x k stop e = subst IsSayStop e stop

by_saying : (job : Job) (lines : List LineEnd) (old new : World) → Ongoing job lines old new → IsThisJob job old → RunsSteps job lines SayFault old new
by_saying job lines old new run same =
    by_stop job lines SayFault old new run same tt (λ sound none. none) (λ f at e. cc) (λ k e. cc)

-- a run that came to its end
to_the_end : (job : Job) (lines : List LineEnd) (old new : World) → Ongoing job lines old new → IsThisJob job old
    → (AreSound job (now old).folder → said new ≡ said old ++ text_at job lines old) → HaveCount (length job.steps) (now new).folder
    → AreEmptied job.steps (done_at old) (length job.steps) (now new).folder
    → (AreSound job (now old).folder → AreEmptied job.steps (may_wait (done_at old)) (length job.steps) (now new).folder)
    → (AreSound job (now old).folder → IsLean job (done_at old) (now old).folder → IsLean job (length job.steps) (now new).folder)
    → HasSaid (λ text folder. IsWholeShape job.steps lines (present (now old).folder) (present folder) text) (now old) (now new) → RunsSteps job lines Done old new
to_the_end job lines old new run same whole all emptied last lean says = record {
  moments = run.moments;
  stays = run.stays;
  goes_on = λ sound none. none;
  whole = λ sound e. whole sound;
  says = λ e. says;
  all = λ e. all;
  emptied = λ e. emptied;
  emptied_last = λ sound e. last sound;
  lean = λ sound e. lean sound;
  other_job = λ at e. cc;
  refuses_other = λ other. absurd (not_other job old same other);
  damaged = λ f at e. cc;
  spent = λ k e. cc;
}

-- while a stored job is attached no image is new
keeps_images : (job : List ℕ) (old m : Moment) → IsTrue (is_stored (present old.folder)) → DuringAttach job old m → OnlyOldImages old m
keeps_images job old m stored during image is_image = elim (during.images image is_image) [
  | inl old_image ↦ old_image
  | inr new ↦ absurd (let none : is_stored (present old.folder) ≡ false = new.0 in cc)
]

-- what a sound image that is read shows of the job
present_shows : (job : Job) (old : World) → AreFiles (now old).folder → AreSound job (now old).folder → IsTrue (is_stored (present (now old).folder))
    → (r : FileNo → List ℕ) × ShowsSteps job r × ((f : FileNo) → r f ≡ present (now old).folder f)
present_shows job old files sound stored =
    let image : Image = chosen (λ _ x. x.bytes) (now old).folder in
    let reads : (f : FileNo) → bytes_in image f ≡ present (now old).folder f = standing (now old).folder files in
    elim (sound image (standing_image (now old).folder files)).shown [
      | inl none ↦ absurd (unstored (bytes_in image) (present (now old).folder) (reads job_gate) stored none.0)
      | inr shown ↦ (bytes_in image, shown, reads)
    ]
  where
    unstored : (r q : FileNo → List ℕ) → r job_gate ≡ q job_gate → IsTrue (is_stored q) → is_stored r ≡ false → ⊥
    unstored r q same x y = let e : is_stored r ≡ is_stored q = ap (λ bytes. nat_lt 0 (length bytes)) same in cc

-- while a stored job couldn't be attached nothing was said, and no image is new
stands_still : (given : List ℕ) (old new : World) → IsTrue (is_stored (present (now old).folder)) → Ran (DuringAttach given (now old)) old new → StoodStill old new
stands_still given old new stored run = weakens old new (Quiet (said old) (DuringAttach given (now old))) (IsStill (now old))
    (λ m quiet. record { said_is = quiet.said_is; images = keeps_images given (now old) m stored quiet.holds }) run.moments

module _ (job : Job) (lines : List LineEnd) (plan : IsPlan job lines) (given : List ℕ) (of_job : without_budget given ≡ job.bytes) (old new : World)
    (files : AreFiles (now old).folder) (run : Ran (DuringAttach given (now old)) old new) where
  -- a call of the folder failed while the job was attached
  by_fault : RunsSteps job lines FolderFault old new
  by_fault = record {
    moments = (attaching job lines plan old files given new of_job run).moments;
    stays = (attaching job lines plan old files given new of_job run).stays;
    goes_on = λ sound none. none;
    whole = λ sound e. cc;
    says = λ e. cc;
    all = λ e. cc;
    emptied = λ e. cc;
    emptied_last = λ sound e. cc;
    lean = λ sound e. cc;
    other_job = λ at e. cc;
    refuses_other = λ other. (stands_still given old new other.stored run, inr refl);
    damaged = λ f at e. cc;
    spent = λ k e. cc;
  }

  -- another job is stored
  by_other_job : (at : ℕ) → HasOtherJob job.bytes at (present (now old).folder) → RunsSteps job lines (OtherJob at) old new
  by_other_job at other = record {
    moments = (attaching job lines plan old files given new of_job run).moments;
    stays = (attaching job lines plan old files given new of_job run).stays;
    goes_on = λ sound _. let shows = present_shows job old files sound other.is_other.stored in other.is_other.other (ap without_budget (sym (shows.2 job_file)) ∙ shows.1.job_is);
    whole = λ sound e. cc;
    says = λ e. cc;
    all = λ e. cc;
    emptied = λ e. cc;
    emptied_last = λ sound e. cc;
    lean = λ sound e. cc;
    other_job = λ place e. let same : at ≡ place = cc in subst (λ k. HasOtherJob job.bytes k (present (now old).folder)) same other;
    refuses_other = λ differs. (stands_still given old new differs.stored run, inl (at, refl));
    damaged = λ f place e. cc;
    spent = λ k e. cc;
  }

  -- the folder is damaged
  by_damage : (f : FileNo) (at : ℕ) → IsDamaged job.bytes (length job.steps) f at (present (now old).folder) → RunsSteps job lines (Damaged f at) old new
  by_damage f at damage = record {
    moments = (attaching job lines plan old files given new of_job run).moments;
    stays = (attaching job lines plan old files given new of_job run).stays;
    goes_on = λ sound _. let shows = present_shows job old files sound damage.damage.stored in
        let r : FileNo → List ℕ = shows.0 in
        let counted : count_in r ≡ length (r step_gate) = ap (λ b. cond b (length (r step_gate)) 0) shows.1.stored in
        let gate : length (r step_gate) ≡ length (present (now old).folder step_gate) = ap length (shows.2 step_gate) in
        let size : length (r catalogue) ≡ length (present (now old).folder catalogue) = ap length (shows.2 catalogue) in
        elim damage.damage.place [
          | inl longer ↦ let few_shown = shows.1.few in let more = longer.2 in omega (arith, few_shown, more, counted, gate)
          | inr lacks ↦ no_lack (count_in r) (r catalogue) (λ k within. whole_entry r k (shows.1.entries k within))
              (let short = lacks.2 in omega (arith, short, counted, gate, size))
        ];
    whole = λ sound e. cc;
    says = λ e. cc;
    all = λ e. cc;
    emptied = λ e. cc;
    emptied_last = λ sound e. cc;
    lean = λ sound e. cc;
    other_job = λ place e. cc;
    refuses_other = λ differs. absurd (differs.other damage.same);
    damaged = λ g place e.
        let files_are : f ≡ g = cc in
        let places : at ≡ place = cc in
        record {
          front = [];
          said_is = run.station.said_is ∙ sym (append-nil (said old));
          whole = inl refl;
          place = inl (
            subst (λ k. IsDamage (length job.steps) g k (present (now old).folder)) places
                (subst (λ h. IsDamage (length job.steps) h at (present (now old).folder)) files_are damage.damage),
            stands_still given old new damage.damage.stored run,
          );
        };
    spent = λ k e. cc;
  }
    where
      whole_entry : (r : FileNo → List ℕ) (k : ℕ) → (e : Entry) × IsEntryOfStep job k e × (entry_at k r ≡ entry_bytes e) → 128 * k + 128 ≤ length (r catalogue)
      whole_entry r k found =
          let long : length (take 128 (drop (128 * k) (r catalogue))) ≡ 128 = ap length found.2 ∙ length_entry found.0 found.1.entry_is.fits in
          let counted : length (take 128 (drop (128 * k) (r catalogue))) ≡ min 128 (length (r catalogue) - 128 * k) = simp (length-take, length-drop) in
          omega (arith, long, counted)

      no_lack : (count : ℕ) (bytes : List ℕ) → ((k : ℕ) → k < count → 128 * k + 128 ≤ length bytes) → length bytes < 128 * count → ⊥
      no_lack count bytes there short =
          let last : 128 * (length bytes / 128) + 128 ≤ length bytes = there (length bytes / 128) (omega (arith, short)) in omega (arith, last)

module _ {S : Type 0} (tells : S → Bool) (world : S → World) (law : (s : S) → IsTrue (tells s) → AreFiles (now (world s)).folder)
    (job : Job) (lines : List LineEnd) (plan : IsPlan job lines) where
  -- the job couldn't be attached
  pub not_attached : (given : List ℕ) (old s : S) → without_budget given ≡ job.bytes → Told tells old s (Ran (DuringAttach given (now (world old))) (world old) (world s))
      → Told tells old s (RunsSteps job lines FolderFault (world old) (world s))
  not_attached given old s of_job run = told tells old s _ _ run (λ tells_old ran. by_fault job lines plan given of_job (world old) (world s) (law old tells_old) ran)

  -- another one is stored, or the folder is damaged
  pub refuses_job : (given : List ℕ) (fault : AttachFault) (finish : Finish) (at : ℕ) (old s : S) → without_budget given ≡ job.bytes
      → fault ≡ attach.OtherJob at → finish ≡ OtherJob at
      → Told tells old s (Ran (DuringAttach given (now (world old))) (world old) (world s))
      → (IsTrue (tells s) → Err fault ≡ standing_of given (length job.steps) (present (now (world old)).folder))
      → Told tells old s (RunsSteps job lines finish (world old) (world s))
  refuses_job given fault finish at old s of_job fault_is finish_is run answer = record {
    before = run.before;
    did = λ tells_s.
        let says = standing_says given job.bytes of_job (length job.steps) (present (now (world old)).folder) (Err (attach.OtherJob at)) (sym (ap Err fault_is) ∙ answer tells_s) in
        subst (λ f. RunsSteps job lines f (world old) (world s)) (sym finish_is)
        (by_other_job job lines plan given of_job (world old) (world s) (law old (run.before tells_s)) (run.did tells_s) at says);
  }

  pub refuses_damage : (given : List ℕ) (fault : AttachFault) (finish : Finish) (f : FileNo) (at : ℕ) (old s : S) → without_budget given ≡ job.bytes
      → fault ≡ attach.Damaged f at → finish ≡ Damaged f at
      → Told tells old s (Ran (DuringAttach given (now (world old))) (world old) (world s))
      → (IsTrue (tells s) → Err fault ≡ standing_of given (length job.steps) (present (now (world old)).folder))
      → Told tells old s (RunsSteps job lines finish (world old) (world s))
  refuses_damage given fault finish f at old s of_job fault_is finish_is run answer = record {
    before = run.before;
    did = λ tells_s.
        let says = standing_says given job.bytes of_job (length job.steps) (present (now (world old)).folder) (Err (attach.Damaged f at)) (sym (ap Err fault_is) ∙ answer tells_s) in
        subst (λ g. RunsSteps job lines g (world old) (world s)) (sym finish_is)
        (by_damage job lines plan given of_job (world old) (world s) (law old (run.before tells_s)) (run.did tells_s) f at says);
  }

  -- the job is attached, and the banner is said
  pub says_banner : (given : List ℕ) (standing : Standing) (before : ℕ) (piece : List ℕ) (result : Result Unit Failed) (old s t : S)
      → without_budget given ≡ job.bytes → Told tells old s (Ran (DuringAttach given (now (world old))) (world old) (world s))
      → (IsTrue (tells s) → Ok standing ≡ standing_of given (length job.steps) (present (now (world old)).folder))
      → (IsTrue (tells s) → IsAttached given standing.done (now (world s)).folder)
      → before ≤ length lines → IsTrue (list_all (λ (l : LineEnd). nat_lt l.last standing.done) (take before lines)) → IsTrue (rise_from standing.done (drop before lines))
      → (piece ≡ (if standing.fresh then start_line (length lines) else resume_line before (length lines)))
      → Told tells s t (Said piece result (world s) (world t))
      → Told tells old t ((Ongoing job lines (world old) (world t) × IsThisJob job (world old)) × OnOk result (Turn job lines standing.done (drop before lines) (world old) (world t)))
  says_banner given standing before piece result old s t of_job run answer attached within front rest piece_is call = record {
    before = λ tells_t. run.before (call.before tells_t);
    did = λ tells_t.
        let tells_s : IsTrue (tells s) = call.before tells_t in
        let tells_old : IsTrue (tells old) = run.before tells_s in
        let says : IsStanding job.bytes (length job.steps) standing (present (now (world old)).folder) =
        standing_says given job.bytes of_job (length job.steps) (present (now (world old)).folder) (Ok standing) (answer tells_s) in
        let both = begun job lines plan (world old) (law old tells_old) given of_job standing before piece (world s) (law s tells_s) (run.did tells_s) says (attached tells_s)
        within front rest (banner_is says) result (world t) (call.did tells_t) in
        ((both.0, says.same), with_job result both.1 says.same);
  }
    where
      with_job : (r : Result Unit Failed) → OnOk r (AtStep job lines standing.done (drop before lines) (world old) (world t)) → IsThisJob job (world old)
          → OnOk r (Turn job lines standing.done (drop before lines) (world old) (world t))
      with_job (Ok x) at same = (at, same)
      with_job (Err e) at same = tt

      banner_is : IsStanding job.bytes (length job.steps) standing (present (now (world old)).folder) → piece ≡ banner_line (present (now (world old)).folder) lines
      banner_is says =
          piece_is ∙ ap (λ b. if b then start_line (length lines) else resume_line before (length lines)) says.fresh
          ∙ turned (is_stored (present (now (world old)).folder))
          ∙ ap (λ k. if is_stored (present (now (world old)).folder) then resume_line k (length lines) else start_line (length lines)) counted
        where
          turned : (b : Bool) → (if not b then start_line (length lines) else resume_line before (length lines)) ≡ (if b then resume_line before (length lines) else start_line (length lines))
          turned true = refl
          turned false = refl

          counted : before ≡ ended_before (done_at (world old)) lines
          counted = sym (ended_is (done_at (world old)) lines before within
              (subst (λ d. IsTrue (list_all (λ (l : LineEnd). nat_lt l.last d) (take before lines))) says.done front)
              (subst (λ d. IsTrue (rise_from d (drop before lines))) says.done rest)).0

  pub stopped_saying : {X : Type 0} (old t : S) → Told tells old t ((Ongoing job lines (world old) (world t) × IsThisJob job (world old)) × X) → Told tells old t (RunsSteps job lines SayFault (world old) (world t))
  stopped_saying old t so_far = told tells old t _ _ so_far (λ _ both. by_saying job lines (world old) (world t) both.0.0 both.0.1)

  -- where the lines that remain rise from a later step all lines before that were said
  all_said : (step later : ℕ) (rest : List LineEnd) (a b : World) → IsTrue (rise_from later rest) → (at : AtStep job lines step rest a b) → ended_before later lines ≤ at.place
  all_said step later rest a b rise at = ended_most later lines at.place (subst (λ ls. IsTrue (rise_from later ls)) at.rest_is rise)

  -- the steps of the last commit are tidied up once more, or a part of that is done
  pub tidies_last : (step : ℕ) (rest : List LineEnd) (old s t : S) → Told tells old s (Turn job lines step rest (world old) (world s))
      → Told tells s t (Ran (TidiedLast job.steps step (now (world s))) (world s) (world t)) → Told tells old t (Turn job lines step rest (world old) (world t))
  tidies_last step rest old s t so_far tidies = record {
    before = λ tells_t. so_far.before (tidies.before tells_t);
    did = λ tells_t.
        let tells_s : IsTrue (tells s) = tidies.before tells_t in
        let turn = so_far.did tells_s in (
          tidied_at job lines plan (world old) (law old (so_far.before tells_s)) step rest (world s) (world t) (law s tells_s) turn.0
              (tidies.did tells_t),
          turn.1,
        );
  }

  -- a call of the folder failed in it
  pub stops_tidying : (step : ℕ) (rest : List LineEnd) (old t : S) → Told tells old t (Turn job lines step rest (world old) (world t))
      → Told tells old t (RunsSteps job lines FolderFault (world old) (world t))
  stops_tidying step rest old t so_far = told tells old t _ _ so_far (λ _ turn.
      by_stop job lines FolderFault (world old) (world t) turn.0.run turn.1 tt (λ sound none. none) (λ f at e. cc) (λ k e. cc))

  -- and the calls of the steps that are committed pay for it
  pub tidying_calls : (step paid : ℕ) (rest : List LineEnd) (old s t : S) → Told tells old s (Turn job lines step rest (world old) (world s)) → IsTrue (tells s)
      → AreCounted job (now (world old)).folder paid → TidyCosts job.steps step (world s) (world t) → (world t).clock ≤ (world s).clock + calls_before job step
  tidying_calls step paid rest old s t so_far tells_s counted costs = elim (cases_lt 0 step) [
    | inl some ↦
        let turn = so_far.did tells_s in
        let upto = turn.0.upto in
        let found = costs.few some upto in
        let k : ℕ = found.0 in
        let is = found.1 in
        let below = is.within in
        let others : step - may_wait step ≡ step - may_wait step - 1 + 1 = omega (arith, some) in
        let own = last_paid job plan.well_formed step upto paid (step - may_wait step - 1) k (now (world old)).folder (world s) (world t) is counted
        (λ sound. (turn.0.sound sound).holds) (subst (λ n. TidiesFor job.steps k n (world s) (world t)) others found.2) in
        let more = calls_of_one_more job k (omega (arith, below, upto)) in
        let first : 0 + k ≡ k = omega arith in
        let before : calls_before job 0 + 11 * k ≤ calls_before job k =
        subst (λ n. calls_before job 0 + 11 * k ≤ calls_before job n) first (calls_least job 0 k (omega (arith, below, upto))) in
        let all : k + 1 + (step - (k + 1)) ≡ step = omega (arith, below) in
        let behind = calls_least job (k + 1) (step - (k + 1)) (omega (arith, below, upto)) in
        subst (λ n. (world t).clock ≤ (world s).clock + calls_before job n) all (omega (arith, own, more, before, behind, below))
    | inr none ↦ let idle = costs.none (omega (arith, none)) in omega (arith, idle)
  ]

  -- steps are taken, or stop the run
  module _ (step until : ℕ) (rest : List LineEnd) (old s t : S) (within : step < until) (upto : until ≤ length job.steps)
      (none : IsTrue (rise_from (until - 1) rest)) (so_far : Told tells old s (Turn job lines step rest (world old) (world s))) where
    pub stops_step : (finish : Finish) → Told tells s t (TakesSteps job step until (Err finish) (world s) (world t))
        → Told tells old t (RunsSteps job lines finish (world old) (world t))
    stops_step finish takes = record {
      before = λ tells_t. so_far.before (takes.before tells_t);
      did = λ tells_t.
          let tells_s : IsTrue (tells s) = takes.before tells_t in
          let tells_old : IsTrue (tells old) = so_far.before tells_s in
          let turn = so_far.did tells_s in
          let took = takes.did tells_t in
          let said_all : ended_before (until - 1) lines ≤ turn.0.place = all_said step (until - 1) rest (world old) (world s) none turn.0 in
          let shape : IsShape job.steps lines (present (now (world old)).folder) (present (now (world t)).folder) (since job lines plan (world old) (law old tells_old) step rest (world s) turn.0) =
          shape_of job lines plan (world old) (law old tells_old) step rest (world s) turn.0 (present (now (world t)).folder)
          (same_at job lines plan (world old) (law old tells_old) step rest (world s) turn.0 (world t) until (Err finish) said_all took (now (world t))
          (ran_end (world s) (world t) (λ m. IsTaking (length job.steps) step until (now (world s)).folder m.folder) took.run)) in
          let held : AreSound job (now (world old)).folder → HoldsSteps job step (Err finish) (world s) (world t) =
          λ sound. took.holds (turn.0.sound sound).holds in
          by_stop job lines finish (world old) (world t)
          (taking job lines plan (world old) (law old tells_old) step rest (world s) turn.0 (world t) until (Err finish) said_all took) turn.1 took.stops
          (λ sound. (held sound).err)
          (λ f at e. record {
            front = since job lines plan (world old) (law old tells_old) step rest (world s) turn.0;
            said_is = took.run.station.said_is ∙ turn.0.said_is;
            whole = inr shape;
            place = inr (met_at_first job lines plan (world old) (law old tells_old) step rest (world s) turn.0 f at (world t)
                (present_count (now (world s)).folder step (law s tells_s) turn.0.ready) (took.damaged f at e));
          })
          (λ k e. record {
            front = since job lines plan (world old) (law old tells_old) step rest (world s) turn.0;
            said_is = took.run.station.said_is ∙ turn.0.said_is;
            whole = shape;
            spent = subst (IsSpentStep job (now (world old)).folder) (sym (took.spent k e).0)
                (record { within = omega (arith, within, upto); joined = (took.spent k e).1; work = λ sound. (held sound).spent k e });
          });
    }

    pub takes_step : (e : Entry) → Told tells s t (TakesSteps job step until (Ok e) (world s) (world t))
        → Told tells old t (Taken job lines rest e (world old) (world t))
    takes_step e takes = told_then tells old s t _ _ _ so_far takes (λ tells_old turn took.
        let both = has_taken job lines plan (world old) (law old tells_old) step rest (world s) turn.0 e (world t) until upto
        (all_said step (until - 1) rest (world old) (world s) none turn.0) took in
        ((both.0, turn.1), both.1))

  pub is_ready : (step : ℕ) (rest : List LineEnd) (old s : S) → Told tells old s (Turn job lines step rest (world old) (world s)) → IsTrue (tells s) → IsReady step (now (world s)).folder
  is_ready step rest old s so_far tells_s = (so_far.did tells_s).0.ready

  -- lines are said, or stop the run
  module _ (count : ℕ) (rest : List LineEnd) (e : Entry) (old s t : S) (inside : count ≤ length rest)
      (front : IsTrue (list_all (λ (l : LineEnd). nat_lt l.last (e.number + 1)) (take count rest)))
      (shows : IsTrue (list_all (λ (l : LineEnd). nat_lt l.shows (e.number + 1)) (take count rest))) (so_far : Told tells old s (Taken job lines rest e (world old) (world s))) where
    pub stops_lines : (finish : Finish) → Told tells s t (SaysLines job.steps (e.number + 1) (take count rest) e (Err finish) (world s) (world t))
        → Told tells old t (RunsSteps job lines finish (world old) (world t))
    stops_lines finish says = record {
      before = λ tells_t. so_far.before (says.before tells_t);
      did = λ tells_t.
          let tells_s : IsTrue (tells s) = says.before tells_t in
          let tells_old : IsTrue (tells old) = so_far.before tells_s in
          let taken = so_far.did tells_s in
          let at = taken.0.0 in
          let said_them : SaysLines job.steps (e.number + 1) (take count rest) e (Err finish) (world s) (world t) = says.did tells_t in
          by_stop job lines finish (world old) (world t)
          (says_lines job lines plan (world old) (law old tells_old) (e.number + 1) count rest e (world s) (world t) (Err finish) at inside front shows taken.1 said_them)
          taken.0.1 (say_stops finish said_them.stops)
          (λ sound. (said_them.holds job plan.well_formed refl (at.sound sound).holds (taken.1 sound)).err)
          (λ f place same.
          let stopped = said_them.damaged f place same in
          let behind = whole_behind job lines plan (world old) (law old tells_old) (e.number + 1) count rest e (world s) (world t) (Err finish) at inside front shows
          taken.1 said_them stopped.1 in
          record {
            front = behind.0;
            said_is = behind.1;
            whole = inr behind.2;
            place = inr (inl (damaged_at_first job lines plan (world old) (law old tells_old) (e.number + 1) rest (world s) at f place
                (present_count (now (world s)).folder (e.number + 1) (law s tells_s) at.ready) stopped.0));
          })
          (λ k same. absurd (never_spent finish k said_them.stops same));
    }

    pub said_lines : (x : Unit) → Told tells s t (SaysLines job.steps (e.number + 1) (take count rest) e (Ok x) (world s) (world t))
        → Told tells old t (Turn job lines (e.number + 1) (drop count rest) (world old) (world t))
    said_lines x says = told_then tells old s t _ _ _ so_far says (λ tells_old taken said_them. (
      has_said_lines job lines plan (world old) (law old tells_old) (e.number + 1) count rest e (world s) (world t) (Ok x) taken.0.0 inside front shows taken.1 said_them x refl,
      taken.0.1,
    ))

  -- the end
  pub says_done : (step : ℕ) (rest : List LineEnd) (piece : List ℕ) (result : Result Unit Failed) (old s t : S) → length job.steps ≤ step → rest ≡ [] → piece ≡ done_line
      → Told tells old s (Turn job lines step rest (world old) (world s)) → Told tells s t (Said piece result (world s) (world t))
      → Told tells old t ((Ongoing job lines (world old) (world t) × IsThisJob job (world old))
      × OnOk result ((AreSound job (now (world old)).folder → said (world t) ≡ said (world old) ++ text_at job lines (world old)) × HaveCount (length job.steps) (now (world t)).folder
      × AreEmptied job.steps (done_at (world old)) (length job.steps) (now (world t)).folder
      × HasSaid (λ text folder. IsWholeShape job.steps lines (present (now (world old)).folder) (present folder) text) (now (world old)) (now (world t))))
  says_done step rest piece result old s t all none piece_is so_far call = told_then tells old s t _ _ _ so_far call (λ tells_old turn did.
      let upto : step ≤ length job.steps = turn.0.upto in
      let same : step ≡ length job.steps = omega (arith, all, upto) in
      let at : AtStep job lines (length job.steps) rest (world old) (world s) = subst (λ k. AtStep job lines k rest (world old) (world s)) same turn.0 in
      let both = ends job lines plan (world old) (law old tells_old) rest piece (world s) none piece_is at result (world t) did in
      ((both.0, turn.1), both.1))

  pub is_done : (old t : S) → Told tells old t ((Ongoing job lines (world old) (world t) × IsThisJob job (world old))
      × ((AreSound job (now (world old)).folder → said (world t) ≡ said (world old) ++ text_at job lines (world old)) × HaveCount (length job.steps) (now (world t)).folder
      × AreEmptied job.steps (done_at (world old)) (length job.steps) (now (world t)).folder
      × HasSaid (λ text folder. IsWholeShape job.steps lines (present (now (world old)).folder) (present folder) text) (now (world old)) (now (world t))))
      → (IsTrue (tells t) → AreSound job (now (world old)).folder → AreEmptied job.steps (may_wait (done_at (world old))) (length job.steps) (now (world t)).folder)
      → (IsTrue (tells t) → AreSound job (now (world old)).folder → IsLean job (done_at (world old)) (now (world old)).folder
      → IsLean job (length job.steps) (now (world t)).folder)
      → Told tells old t (RunsSteps job lines Done (world old) (world t))
  is_done old t so_far last lean = record {
    before = so_far.before;
    did = λ tells_t.
        let both = so_far.did tells_t in
        to_the_end job lines (world old) (world t) both.0.0 both.0.1 both.1.0 both.1.1 both.1.2 (last tells_t) (lean tells_t) both.1.3;
  }

  -- behind that what the steps of the last commit dropped is empty
  pub emptied_at_first : (step : ℕ) (rest : List LineEnd) (old s t : S) → Told tells old s (Turn job lines step rest (world old) (world s)) → IsTrue (tells s)
      → step ≡ done_at (world old) → EmptiesLast job.steps step (now (world s)).folder (now (world t)).folder → AreSound job (now (world old)).folder
      → AreEmptied job.steps (may_wait (done_at (world old))) step (now (world t)).folder
  emptied_at_first step rest old s t so_far tells_s is empties sound k from until gone drops_it =
      empties.dropped (so_far.did tells_s).0.upto k gone (omega (arith, from, is)) until drops_it

  -- and behind steps that are taken from there on, and their lines
  pub emptied_on : (from step until : ℕ) (e : Entry) (s t u : World) → until ≤ length job.steps → TakesSteps job step until (Ok e) s t
      → Throughout t u (Stays (now t)) → AreEmptied job.steps from step (now s).folder → AreEmptied job.steps from (e.number + 1) (now u).folder
  emptied_on from step until e s t u upto takes stays so_far k since to gone drops_it =
      subst (λ folder. (file_in folder (node_file gone)).bytes ≡ []) (sym (at_end t u (Stays (now t)) stays)) (elim (cases_lt k step) [
        | inl below ↦
            let before : e.number < until = takes.reached.1 in
            let gone_below : gone < k = drop_below job k gone plan.well_formed (omega (arith, to, before, upto)) drops_it in
            takes.still_empty gone (omega (arith, gone_below, below)) (so_far k since below gone drops_it)
        | inr beyond ↦ takes.emptied k (omega (arith, beyond)) to gone drops_it
      ])

module _ {S : Type 0} (tells : S → Bool) (world : S → World) where
  -- the entry of the last of the steps that were taken stands at its place
  pub made_stands : (job : Job) (step until : ℕ) (e : Entry) (s t : S) → Told tells s t (TakesSteps job step until (Ok e) (world s) (world t))
      → IsTrue (tells t) → IsEntryOf e.number (present (now (world t)).folder) e
  made_stands job step until e s t takes tells_t = (takes.did tells_t).last.stands

  -- where the turns of all steps are bounded, those of the next step are
  pub is_counted : (law : (s : S) → IsTrue (tells s) → AreFiles (now (world s)).folder) (job : Job) (lines : List LineEnd) (plan : IsPlan job lines) (step : ℕ)
      (rest : List LineEnd) (gated : Bool) (old s : S) (paid : ℕ) → step < length job.steps → Told tells old s (Turn job lines step rest (world old) (world s))
      → IsTrue (tells s) → (AreSound job (now (world old)).folder → IsGated gated step (now (world old)).folder)
      → AreCounted job (now (world old)).folder paid → IsCounted job step gated (now (world s)).folder (unpaid (done_at (world old)) step paid)
  is_counted law job lines plan step rest gated old s paid within so_far tells_s gates (inl each) = inl each
  is_counted law job lines plan step rest gated old s paid within so_far tells_s gates (inr (sound, pays)) =
      let at : AtStep job lines step rest (world old) (world s) = (so_far.did tells_s).0 in
      inr (
        (at.sound sound).holds,
        gated_now job gated step (now (world old)).folder (now (world s)).folder plan.well_formed within at.made.later (gates sound),
        pays_now job step paid (now (world old)).folder (now (world s)).folder plan.well_formed (law old (so_far.before tells_s)) sound
            at.reached within at.made.keeps at.made.later pays,
      )
