-- A step that is taken, with the drops behind it, and the steps that are made at once behind these: the runs of their
-- calls are one.
use Rattle.std.proofs.Common.{◌≡◌, ◌∙◌, ℕ, ◌+◌, ◌-◌, ◌*◌, ◌<◌, ◌≤◌, Bool, true, false, cond, nat_lt, List, [], length, take, refl, sym, ap, subst, inl, inr, arith}
use Rattle.std.specs.Prelude.{IsTrue, Option, Some, None, Result, Ok, Err, IsErr, IfSome}
use Rattle.std.proofs.lemmas.Bool.{cases_lt, le-ltb}
use Rattle.std.proofs.lemmas.List.{take-take}
use Rattle.bool_tables.specs.Plans.{IsWellFormed}
use Rattle.shelf_model.specs.declared.fault.Failed.{Failed}
use Rattle.shelf_model.specs.declared.file_no.FileNo.{FileNo}
use Rattle.shelf_model.specs.Calls.{Told}
use Rattle.shelf_model.specs.Faults.{Faults, OnlyFolder}
use Rattle.shelf_model.specs.File.{File}
use Rattle.shelf_model.specs.Folder.{file_in, AreFiles}
use Rattle.shelf_model.specs.Moments.{Throughout, Ran}
use Rattle.shelf_model.specs.World.{Moment, World, now}
use Rattle.shelf_model.proofs.Images.{chosen, standing_image}
use Rattle.shelf_model.proofs.Runs.{joins, weakens, ran_weakens, ran_joins, ran_end}
use Rattle.catalogue.specs.declared.layout.Entry.{Entry}
use Rattle.catalogue.specs.Commits.{IsReady}
use Rattle.catalogue.specs.Counts.{present, count_in}
use Rattle.catalogue.specs.Files.{catalogue}
use Rattle.sweep_checkpoint.specs.Stops.{turns_in, shown_turns}
use Rattle.step_going.proofs.Gated.{none_gated}
use Rattle.sound_image.specs.Files.{checkpoint_gate}
use Rattle.sound_image.specs.Jobs.{Job}
use Rattle.sound_image.specs.Entries.{IsEntryOfStep}
use Rattle.sound_image.specs.Holds.{Holds}
use Rattle.sound_image.proofs.AttachLaws.{standing}
use Rattle.sound_image.proofs.Resuming.{none_behind}
use Rattle.step_engine.specs.Running.{run_stop}
use Rattle.script_runner.specs.declared.finish.Finish.{Finish}
use Rattle.script_runner.specs.declared.finish.Finish.TheVariants.{FolderFault}
use Rattle.script_runner.specs.AtOnce.{next_behind, HoldsUngated, AreBounded, TookMore, TakesMore, MorePays, TakesAtOnce}
use Rattle.script_runner.specs.Calls.{calls_before, taken_to, left_by, IsCounted}
use Rattle.script_runner.specs.Causes.{StopHasCause}
use Rattle.script_runner.specs.Lean.{IsLean}
use Rattle.script_runner.specs.Running.{AreEmptied}
use Rattle.script_runner.specs.StepRuns.{HasEntry, KeepsDiagrams, KeepsLater, TakesSteps}
use Rattle.script_runner.specs.Stops.{committed_turns, paid_in, most_together, PaysAt, PaysThrough, IsPaidStep, StepPays}
use Rattle.script_runner.proofs.RunSteps.{drop_below, present_count}
use Rattle.script_runner.proofs.Shown.{same_entries}
use Rattle.script_runner.proofs.StopLaws.{pays_join}
use Rattle.script_runner.proofs.Taking.{AllHave, Takes}

-- the entry of the last one: of those that were made at once, where there are some, and else the one before them
abbrev pub or_last : Option Entry → Entry → Entry
or_last None e = e
or_last (Some x) e = x

-- the step behind it
pub behind_last : (last : Option Entry) (e : Entry) → next_behind last (e.number + 1) ≡ (or_last last e).number + 1
behind_last None e = refl
behind_last (Some x) e = refl

-- which is the step behind the one before them, or a later one
behind_both : (last : Option Entry) (e : Entry) (until : ℕ) → IfSome last (λ x. (e.number + 1 ≤ x.number) × (x.number < until))
    → e.number < until → (e.number + 1 ≤ next_behind last (e.number + 1)) × (next_behind last (e.number + 1) ≤ until)
behind_both None e until some below = (omega arith, omega (arith, below))
behind_both (Some x) e until some below = let since = some.0 in let within = some.1 in (omega (arith, since), omega (arith, within))

-- an image that shows nothing of the first step that isn't committed pays for what the turns of the committed ones do
pub paid_ungated : (job : Job) (k : ℕ) (r : FileNo → List ℕ) → count_in r ≡ k → (k < length job.steps → r (checkpoint_gate k) ≡ [])
    → paid_in job r ≡ 256 * committed_turns k r
paid_ungated job k r count none =
    (λ i. 256 * (committed_turns (count i) r + cond (nat_lt (count i) (length job.steps)) (shown_turns (count i) r) 0))
    ∙ ap (λ n. 256 * (committed_turns k r + n)) nothing ∙ no_more
  where
    no_more : 256 * (committed_turns k r + 0) ≡ 256 * committed_turns k r
    no_more = omega arith

    none_either : (b : Bool) (n : ℕ) → n ≡ 0 → cond b n 0 ≡ 0
    none_either true n zero = zero
    none_either false n zero = refl

    nothing : cond (nat_lt k (length job.steps)) (shown_turns k r) 0 ≡ 0
    nothing = elim (cases_lt k (length job.steps)) [
      | inl some ↦ none_either (nat_lt k (length job.steps)) (shown_turns k r) (ap turns_in (none_gated k r (none some)))
      | inr none_there ↦ ap (λ (b : Bool). cond b (shown_turns k r) 0) (le-ltb k (length job.steps) none_there)
    ]

-- the steps from step k on were taken in the ordinary way, up to the one with this entry
module _ (job : Job) (plan : IsWellFormed job.n job.text job.steps) (k until : ℕ) (upto : until ≤ length job.steps) (e : Entry) (old mid : World)
    (takes : TakesSteps job k until (Ok e) old mid) where
  abbrev from : ℕ
  from = e.number + 1

  since : k ≤ e.number
  since = takes.reached.0

  below : e.number < until
  below = takes.reached.1

  -- the folder holds them then, and nothing is gated of those behind them
  pub ungated : AreFiles (now old).folder → Holds job k (now old).folder → HoldsUngated job from (now mid).folder
  ungated files holds = record {
    holds = (takes.holds holds).ok.0;
    none = λ s behind inside.
        let few = plan.few_steps in
        takes.later (checkpoint_gate s) (omega (arith, behind)) (omega (arith, inside, few))
        ∙ none_behind job k (now old).folder files holds.resumable s (omega (arith, behind, since)) inside;
  }

  -- while more are taken
  taking_on : (m : Moment) → Takes job from until mid m → Takes job k until old m
  taking_on m on =
      let first = ran_end old mid (Takes job k until old) takes.run in
      record {
        others = λ f apart. on.others f apart ∙ first.others f apart;
        counts = λ image is_image.
            let counted = on.counts image is_image in
            let low = counted.no_fewer in
            record { stored = counted.stored; no_fewer = omega (arith, low, since); no_more = counted.no_more };
        kept = λ front short kept. on.kept front (omega (arith, short, since)) (first.kept front short kept);
        reads = sym (take-take (128 * k) (128 * from) (file_in m.folder catalogue).bytes (omega (arith, since)))
            ∙ ap (take (128 * k)) on.reads
            ∙ take-take (128 * k) (128 * from) (file_in (now mid).folder catalogue).bytes (omega (arith, since))
            ∙ first.reads;
      }

  module _ (new : World) (r : Result (Option Entry) Failed) (more : TakesMore job from until r mid new) where
    run_both : Ran (Takes job k until old) old new
    run_both = ran_joins old mid new (Takes job k until old) takes.run
        (ran_weakens mid new (Takes job from until mid) (Takes job k until old) taking_on more.run)

    images_both : AreFiles (now old).folder → Holds job k (now old).folder → Throughout old new (AllHave job k)
    images_both files holds = joins old mid new (AllHave job k) (takes.holds holds).images
        (weakens mid new (AllHave job from) (AllHave job k) (λ m has image is_image.
        let had = has image is_image in
        let counts = had.counts in
        record { sound = had.sound; counts = omega (arith, counts, since); stored = had.stored }) (more.images (ungated files holds)))

    -- the entries of the first ones stay
    has_still : (j : ℕ) (x : Entry) → j < from → HasEntry job.steps j x (present (now mid).folder)
        → HasEntry job.steps j x (present (now new).folder)
    has_still j x before has = record {
      stands = record {
        entry = has.stands.entry;
        number = has.stands.number;
        bytes = same_entries from (file_in (now mid).folder catalogue).bytes (file_in (now new).folder catalogue).bytes
            (ran_end mid new (Takes job from until mid) more.run).reads j before ∙ has.stands.bytes;
      };
      kind_is = has.kind_is;
    }

  -- a call of the folder failed
  pub failed_behind : (new : World) (fault : Failed) → TakesMore job from until (Err fault) mid new → AreFiles (now old).folder
      → TakesSteps job k until (Err FolderFault) old new
  failed_behind new fault more files = record {
    run = run_both new (Err fault) more;
    reached = tt;
    ready = tt;
    last = tt;
    made = tt;
    emptied = tt;
    still_empty = tt;
    keeps = tt;
    later = tt;
    stops = tt;
    damaged = λ f at d. absurd cc;
    spent = λ j d. absurd cc;
    holds = λ holds. record { images = images_both new (Err fault) more files holds; ok = tt; err = λ x. x; spent = λ j d. absurd cc };
  }

  last_within : (last : Option Entry) → IfSome last (λ x. (from ≤ x.number) × (x.number < until))
      → (k ≤ (or_last last e).number) × ((or_last last e).number < until)
  last_within None some = takes.reached
  last_within (Some x) some = let behind = some.0 in (omega (arith, since, behind), some.1)

  last_stands : (new : World) (last : Option Entry) → TakesMore job from until (Ok last) mid new
      → HasEntry job.steps (or_last last e).number (or_last last e) (present (now new).folder)
  last_stands new None more = has_still new (Ok None) more e.number e (omega arith) takes.last
  last_stands new (Some x) more = more.last.0

  last_is_right : (new : World) (last : Option Entry) → TakesMore job from until (Ok last) mid new → AreFiles (now old).folder
      → Holds job k (now old).folder → IsEntryOfStep job (or_last last e).number (or_last last e)
  last_is_right new None more files holds = (takes.holds holds).ok.1
  last_is_right new (Some x) more files holds = more.last.1 (ungated files holds)

  -- or they were taken
  module _ (new : World) (last : Option Entry) (some : IfSome last (λ x. (from ≤ x.number) × (x.number < until)))
      (more : TakesMore job from until (Ok last) mid new) where
    abbrev end : ℕ
    end = next_behind last from

    took : TookMore job from end mid new
    took = more.took

    within : (from ≤ end) × (end ≤ until)
    within = behind_both last e until some below

    made_both : (j : ℕ) → k ≤ j → j < end → (x : Entry) × HasEntry job.steps j x (present (now new).folder)
    made_both j after before = elim (cases_lt j from) [
      | inl first ↦ elim (cases_lt j e.number) [
        | inl earlier ↦
            let found = takes.made j after earlier in
            (found.0, has_still new (Ok last) more j found.0 first found.1)
        | inr there ↦
            let same : j ≡ e.number = omega (arith, first, there) in (
              e,
              subst (λ i. HasEntry job.steps i e (present (now new).folder)) (sym same)
                  (has_still new (Ok last) more e.number e (omega arith) takes.last),
            )
      ]
      | inr behind ↦ took.made j behind before
    ]

    emptied_both : AreEmptied job.steps k end (now new).folder
    emptied_both j after before gone drops_it = elim (cases_lt j from) [
      | inl first ↦
          let inside : j < length job.steps = omega (arith, first, below, upto) in
          let low : gone < j = drop_below job j gone plan inside drops_it in
          took.still_empty gone (omega (arith, low, first)) (takes.emptied j after first gone drops_it)
      | inr behind ↦ took.emptied j behind before gone drops_it
    ]

    keeps_both : KeepsDiagrams job.steps k end (now old).folder (now new).folder
    keeps_both j before none =
        let on = within.0 in
        took.keeps j (omega (arith, before, since)) (λ i behind short. none i (omega (arith, behind, since)) short)
        ∙ takes.keeps j before (λ i after short. none i after (omega (arith, short, on)))

    later_both : KeepsLater end (now old).folder (now new).folder
    later_both f behind early = let on = within.0 in took.later f behind early ∙ takes.later f (omega (arith, behind, on)) early

    pub taken_behind : AreFiles (now old).folder → TakesSteps job k until (Ok (or_last last e)) old new
    taken_behind files =
        let end_is : end ≡ (or_last last e).number + 1 = behind_last last e in
        record {
          run = run_both new (Ok last) more;
          reached = last_within last some;
          ready = subst (λ n. IsReady n (now new).folder) end_is took.ready;
          last = last_stands new last more;
          made = λ j after before. made_both j after (omega (arith, before, end_is));
          emptied = subst (λ n. AreEmptied job.steps k n (now new).folder) end_is emptied_both;
          still_empty = λ j before empty. took.still_empty j (omega (arith, before, since)) (takes.still_empty j before empty);
          keeps = subst (λ n. KeepsDiagrams job.steps k n (now old).folder (now new).folder) end_is keeps_both;
          later = subst (λ n. KeepsLater n (now old).folder (now new).folder) end_is later_both;
          stops = tt;
          damaged = tt;
          spent = tt;
          holds = λ holds. record {
            images = images_both new (Ok last) more files holds;
            ok = (subst (λ n. Holds job n (now new).folder) end_is (took.holds (ungated files holds)), last_is_right new last more files holds);
            err = tt;
            spent = tt;
          };
        }

-- what a stop costs: so many calls were left behind the first steps, and these are to spare with those before
module _ (job : Job) (e : Entry) (r : Result (Option Entry) Failed) (paid rest first more_spare spare left : ℕ) (few : spare ≤ first + more_spare)
    (old mid new : World) (files : AreFiles (now mid).folder) (pays : StepPays job paid rest 0 more_spare (Ok e) old mid)
    (holds : HoldsUngated job (e.number + 1) (now mid).folder) (run : Throughout mid new (λ m. Unit))
    (more : MorePays job (e.number + 1) spare left r mid new) where
  abbrev here : FileNo → List ℕ
  here = present (now mid).folder

  -- behind the first ones each image shows the turns of the committed steps
  shows : paid_in job here ≡ 256 * committed_turns (e.number + 1) here
  shows = paid_ungated job (e.number + 1) here (present_count (now mid).folder (e.number + 1) files holds.holds.ready)
      (λ inside. ap (λ (x : File). x.bytes) (holds.none (e.number + 1) (omega arith) inside))

  at_mid : PaysAt job paid (old.clock + (rest + 0)) (mid.clock + more_spare) here
  at_mid = subst (λ q. PaysAt job paid (old.clock + (rest + 0)) (mid.clock + more_spare) q) (λ i f. standing (now mid).folder files f i)
      (pays.ends (chosen (λ _ x. x.bytes) (now mid).folder) (standing_image (now mid).folder files))

  abbrev bound : ℕ
  bound = old.clock + (run_stop + most_together + rest)

  more_through : PaysThrough job paid bound mid new
  more_through j from to image is_image =
      let each = more.each j from to image is_image in
      let paid_for = each.0 in
      let short = each.1 in
      let no_fewer = at_mid.no_fewer in
      let counted = at_mid.few in
      record {
        no_fewer = omega (arith, no_fewer, shows, paid_for);
        few = omega (arith, no_fewer, shows, paid_for, short, counted);
      }

  pub through_both : PaysThrough job paid bound old new
  through_both = pays_join job paid bound old mid new run.past pays.stops more_through

  pub failed_pays : (finish : Finish) → StepPays job paid rest first left (Err finish) old new
  failed_pays finish = record { stops = through_both; ends = tt }

  pub taken_pays : (last : Option Entry) (d : Entry) → r ≡ Ok last → StepPays job paid rest first left (Ok d) old new
  taken_pays last d ok = record {
    stops = through_both;
    ends = λ image is_image.
        let paid_for = (more.each new.clock run.later (omega arith) image is_image).0 in
        let ends = (subst (λ x. MorePays job (e.number + 1) spare left x mid new) ok more).ends image is_image in
        let no_fewer = at_mid.no_fewer in
        let counted = at_mid.few in
        record {
          no_fewer = omega (arith, no_fewer, shows, paid_for);
          few = omega (arith, no_fewer, shows, paid_for, ends, counted, few);
        };
  }

-- the first steps stopped the run: nothing is left
pub none_left : (result : Result Entry Finish) → IsErr result → (job : Job) (until first left before rest old new : ℕ)
    → new + 0 + before ≤ old + (calls_before job until + rest)
    → new + left_by result left + before ≤ old + first + (calls_before job (taken_to result until) + rest)
none_left (Err finish) is job until first left before rest old new few = omega (arith, few)
none_left (Ok e) is job until first left before rest old new few = absurd cc

pub stops_so : (result : Result Entry Finish) → IsErr result → (job : Job) (paid rest first left : ℕ) (fault : Finish) (old new : World)
    → StepPays job paid rest 0 0 (Err fault) old new → StepPays job paid rest first left result old new
stops_so (Err finish) is job paid rest first left fault old new pays = record { stops = pays.stops; ends = tt }
stops_so (Ok e) is job paid rest first left fault old new pays = absurd cc

-- a fault of the folder behind steps that were taken
pub cause_failed : (old mid new : Faults) (e : Entry) (fault : Failed) → StopHasCause {T = Entry} old mid (Ok e)
    → OnlyFolder {T = Option Entry} mid new (Err fault) → StopHasCause {T = Entry} old new (Err FolderFault)
cause_failed old mid new e fault first second = record {
  folder_later = let before = first.folder_later in let after = second.later in omega (arith, before, after);
  say_later = let before = first.say_later in let after = second.say_is in omega (arith, before, after);
  text_is = λ path. second.text_is path ∙ first.text_is path;
  folder_fault = λ is. let before = first.folder_later in let cause = second.cause in omega (arith, before, cause);
  say_fault = λ is. absurd cc;
}

-- or none
pub cause_none : (old mid new : Faults) (e d : Entry) (last : Option Entry) → StopHasCause {T = Entry} old mid (Ok e)
    → OnlyFolder {T = Option Entry} mid new (Ok last) → StopHasCause {T = Entry} old new (Ok d)
cause_none old mid new e d last first second = record {
  folder_later = let before = first.folder_later in let after = second.later in omega (arith, before, after);
  say_later = let before = first.say_later in let after = second.say_is in omega (arith, before, after);
  text_is = λ path. second.text_is path ∙ first.text_is path;
  folder_fault = tt;
  say_fault = tt;
}

-- over a shelf, whether it tells its content or not
module _ {S : Type 0} (tells : S → Bool) (world : S → World) (counts : S → Faults) (law : (s : S) → IsTrue (tells s) → AreFiles (now (world s)).folder)
    (job : Job) (plan : IsWellFormed job.n job.text job.steps) (k until : ℕ) (upto : until ≤ length job.steps) (e : Entry) (first spare left : ℕ)
    (old s t : S) (takes : Told tells old s (TakesSteps job k until (Ok e) (world old) (world s))) where
  -- behind the first steps the folder holds these, where it held those before, and nothing is gated of the next ones
  ungated_so : IsTrue (tells s) → Holds job k (now (world old)).folder → HoldsUngated job (e.number + 1) (now (world s)).folder
  ungated_so tells_s = ungated job plan k until upto e (world old) (world s) (takes.did tells_s) (law old (takes.before tells_s))

  -- and their turns are bounded where those of the first steps were
  bounded_so : IsTrue (tells s) → (gated : Bool) (rest : ℕ) → IsCounted job k gated (now (world old)).folder rest
      → AreBounded job (e.number + 1) (now (world s)).folder
  bounded_so tells_s gated rest (inl each) = inl each
  bounded_so tells_s gated rest (inr counted) = inr (ungated_so tells_s counted.0)

  module _ (fault : Failed) (more : TakesAtOnce tells world counts job (e.number + 1) until spare left s t (Err fault)) where
    pub next_failed : Told tells old t (TakesSteps job k until (Err FolderFault) (world old) (world t))
    next_failed = record {
      before = λ tells_t. takes.before (more.content.before tells_t);
      did = λ tells_t.
          let tells_s : IsTrue (tells s) = more.content.before tells_t in
          failed_behind job plan k until upto e (world old) (world s) (takes.did tells_s) (world t) fault (more.content.did tells_t)
          (law old (takes.before tells_s));
    }

    pub failed_calls : IsTrue (tells t) → (gated : Bool) (rest : ℕ) → IsCounted job k gated (now (world old)).folder rest
        → spare ≤ first + 5 * (e.number - k)
        → (world s).clock + 5 * (e.number - k) + calls_before job k ≤ (world old).clock + (calls_before job (e.number + 1) + rest)
        → (world t).clock + calls_before job k ≤ (world old).clock + first + (calls_before job until + rest)
    failed_calls tells_t gated rest counted few one =
        let next = more.within tells_t (bounded_so (more.content.before tells_t) gated rest counted) in
        omega (arith, few, one, next)

    pub failed_stops : IsTrue (tells t) → (gated : Bool) (paid rest : ℕ) → IsPaidStep job k gated paid rest (now (world old)).folder
        → spare ≤ first + 5 * (e.number - k) → StepPays job paid rest 0 (5 * (e.number - k)) (Ok e) (world old) (world s)
        → StepPays job paid rest first left (Err FolderFault) (world old) (world t)
    failed_stops tells_t gated paid rest is few pays =
        let tells_s : IsTrue (tells s) = more.content.before tells_t in
        let held = ungated_so tells_s is.holds in
        let ran = (more.content.did tells_t).run.moments in
        failed_pays job e (Err fault) paid rest first (5 * (e.number - k)) spare left few (world old) (world s) (world t) (law s tells_s) pays held
        (record { later = ran.later; past = ran.past; each = λ j from to. tt }) (more.stops tells_t held) FolderFault

  module _ (last : Option Entry) (more : TakesAtOnce tells world counts job (e.number + 1) until spare left s t (Ok last)) where
    pub next_taken : Told tells old t (TakesSteps job k until (Ok (or_last last e)) (world old) (world t))
    next_taken = record {
      before = λ tells_t. takes.before (more.content.before tells_t);
      did = λ tells_t.
          let tells_s : IsTrue (tells s) = more.content.before tells_t in
          taken_behind job plan k until upto e (world old) (world s) (takes.did tells_s) (world t) last more.some (more.content.did tells_t)
          (law old (takes.before tells_s));
    }

    pub taken_calls : IsTrue (tells t) → (gated : Bool) (rest : ℕ) → IsCounted job k gated (now (world old)).folder rest
        → spare ≤ first + 5 * (e.number - k)
        → (world s).clock + 5 * (e.number - k) + calls_before job k ≤ (world old).clock + (calls_before job (e.number + 1) + rest)
        → (world t).clock + left + calls_before job k ≤ (world old).clock + first + (calls_before job ((or_last last e).number + 1) + rest)
    taken_calls tells_t gated rest counted few one =
        let next = more.calls tells_t (bounded_so (more.content.before tells_t) gated rest counted) in
        subst (λ n. (world t).clock + left + calls_before job k ≤ (world old).clock + first + (calls_before job n + rest)) (behind_last last e)
        (omega (arith, few, one, next))

    pub taken_stops : IsTrue (tells t) → (gated : Bool) (paid rest : ℕ) → IsPaidStep job k gated paid rest (now (world old)).folder
        → spare ≤ first + 5 * (e.number - k) → StepPays job paid rest 0 (5 * (e.number - k)) (Ok e) (world old) (world s)
        → StepPays job paid rest first left (Ok (or_last last e)) (world old) (world t)
    taken_stops tells_t gated paid rest is few pays =
        let tells_s : IsTrue (tells s) = more.content.before tells_t in
        let held = ungated_so tells_s is.holds in
        let ran = (more.content.did tells_t).run.moments in
        taken_pays job e (Ok last) paid rest first (5 * (e.number - k)) spare left few (world old) (world s) (world t) (law s tells_s) pays held
        (record { later = ran.later; past = ran.past; each = λ j from to. tt }) (more.stops tells_t held) last (or_last last e) refl

    pub taken_lean : IsTrue (tells t) → Holds job k (now (world old)).folder → IsLean job (e.number + 1) (now (world s)).folder
        → IsLean job ((or_last last e).number + 1) (now (world t)).folder
    taken_lean tells_t holds lean =
        subst (λ n. IsLean job n (now (world t)).folder) (behind_last last e)
        (more.lean tells_t (ungated_so (more.content.before tells_t) holds) lean)

    pub taken_within : (k ≤ e.number) × (e.number < until) → (k ≤ (or_last last e).number) × ((or_last last e).number < until)
    taken_within reached = by_last last more.some
      where
        by_last : (last : Option Entry) → IfSome last (λ x. (e.number + 1 ≤ x.number) × (x.number < until))
            → (k ≤ (or_last last e).number) × ((or_last last e).number < until)
        by_last None some = reached
        by_last (Some x) some = let behind = some.0 in let least = reached.0 in (omega (arith, least, behind), some.1)
