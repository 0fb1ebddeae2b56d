-- A step that is made at once, and its entry that is put behind those that wait.
use Rattle.std.proofs.Common.{◌≡◌, ◌∙◌, ℕ, ◌+◌, ◌*◌, ◌/◌, ◌^◌, ◌<◌, ◌≤◌, ◌⊎◌, Bool, true, false, cond, max, length, take, refl, sym, ap, subst, inl, inr, arith}
use Rattle.std.specs.Prelude.{IsTrue, Option, Some, None, Result, Ok, Err, IsErr}
use Rattle.bool_tables.specs.declared.steps.Step.{Step}
use Rattle.bool_tables.specs.declared.steps.Step.TheVariants.{Const, Var, Pair, Ite, Quantify, Restrict, Drop, Same, Leq, Eval, Size}
use Rattle.bool_tables.specs.Plans.{IsWellFormed, makes_diagram}
use Rattle.shelf_model.specs.declared.file_no.FileNo.{FileNo}
use Rattle.shelf_model.specs.declared.fault.Failed.{Failed}
use Rattle.shelf_model.specs.File.{File, IsKept}
use Rattle.shelf_model.specs.Folder.{file_in, AreFiles}
use Rattle.shelf_model.specs.World.{Moment, World, now}
use Rattle.shelf_model.specs.Calls.{Told}
use Rattle.shelf_model.specs.Faults.{Faults, OnlyFolder}
use Rattle.shelf_model.specs.Moments.{Throughout, Quiet, Ran}
use Rattle.shelf_model.proofs.Runs.{joins, weakens, told, told_then, ran_joins, ran_weakens, ran_end}
use Rattle.catalogue.specs.declared.layout.Entry.{Entry}
use Rattle.catalogue.specs.Files.{catalogue}
use Rattle.catalogue.specs.Counts.{present, entry_at}
use Rattle.catalogue.specs.Entries.{entry_bytes}
use Rattle.catalogue.specs.Commits.{IsReady, DuringPut, IsPut}
use Rattle.catalogue.proofs.Counted.{ready_counts}
use Rattle.catalogue.proofs.Waiting.{put_entry_at}
use Rattle.step_work.specs.Tuples.{sweeps}
use Rattle.step_sweeps.specs.declared.at_once.AtMost.{AtMost}
use Rattle.sound_image.specs.Files.{checkpoint_gate}
use Rattle.sound_image.specs.Jobs.{Job, step_at}
use Rattle.sound_image.specs.Entries.{IsEntryOfStep, work_of}
use Rattle.sound_image.specs.Holds.{NoneGated}
use Rattle.sound_image.specs.Steps.{OnlyOwnFiles}
use Rattle.sound_image.specs.Waiting.{Waits}
use Rattle.sound_image.proofs.Numbers.{gate_not_node, gate_of_step, not_catalogue}
use Rattle.sound_image.proofs.Resuming.{early, none_gated_resumes}
use Rattle.sound_image.proofs.Waiting.{waits_while_made, holds_while_put, waits_more}
use Rattle.step_engine.specs.AtOnce.{OnlyNodes, IsNextOf, RunsNow}
use Rattle.script_runner.specs.AtOnce.{HoldsUngated, DuringGather, IsGatheredStep, GathersStep, gathering_calls, gained}
use Rattle.script_runner.specs.Calls.{step_calls, EachTakesOne}
use Rattle.script_runner.proofs.Resting.{rests_on_steps}
use Rattle.script_runner.proofs.Taking.{JobStays, ready_same, job_apart}

-- the counts of faults of a call, whatever else it answers
pub same_faults : {T U : Type 0} (old new : Faults) (x : T) (y : U) → OnlyFolder {T = T} old new (Ok x) → OnlyFolder {T = U} old new (Ok y)
same_faults old new x y faults = record { later = faults.later; cause = tt; say_is = faults.say_is; text_is = faults.text_is }

pub failed_faults : {T U : Type 0} (old new : Faults) (f g : Failed) → OnlyFolder {T = T} old new (Err f) → OnlyFolder {T = U} old new (Err g)
failed_faults old new f g faults = record { later = faults.later; cause = faults.cause; say_is = faults.say_is; text_is = faults.text_is }

-- the counts of two calls, the second of which decides
pub then_faults : {T U V : Type 0} (old mid new : Faults) (x : T) (y : U) (z : V) → OnlyFolder {T = T} old mid (Ok x) → OnlyFolder {T = U} mid new (Ok y)
    → OnlyFolder {T = V} old new (Ok z)
then_faults old mid new x y z first second = record {
  later = let a = first.later in let b = second.later in omega (arith, a, b);
  cause = tt;
  say_is = second.say_is ∙ first.say_is;
  text_is = λ path. second.text_is path ∙ first.text_is path;
}

pub then_failed : {T U V : Type 0} (old mid new : Faults) (x : T) (f g : Failed) → OnlyFolder {T = T} old mid (Ok x) → OnlyFolder {T = U} mid new (Err f)
    → OnlyFolder {T = V} old new (Err g)
then_failed old mid new x f g first second = record {
  later = let a = first.later in let b = second.later in omega (arith, a, b);
  cause = let a = first.later in let b = second.cause in omega (arith, a, b);
  say_is = second.say_is ∙ first.say_is;
  text_is = λ path. second.text_is path ∙ first.text_is path;
}

-- what such a step takes, what it is sure to spare and four calls are within the calls of the step, of whose work its
-- turns are a part
gained_within : (s : Step) (turns work : ℕ) → (IsTrue (sweeps s) → turns ≤ work)
    → gathering_calls s turns + (gained s turns + 4) ≤ cond (sweeps s) (229 * work + work / 16 + 22) 11
gained_within (Const value) turns work part = omega arith
gained_within (Var level) turns work part = omega arith
gained_within (Pair op left right) turns work part = let few : turns ≤ work = part refl in omega (arith, few)
gained_within (Ite test if_one if_zero) turns work part = let few : turns ≤ work = part refl in omega (arith, few)
gained_within (Quantify kind operand level) turns work part = let few : turns ≤ work = part refl in omega (arith, few)
gained_within (Restrict operand level value) turns work part = let few : turns ≤ work = part refl in omega (arith, few)
gained_within (Drop gone) turns work part = omega arith
gained_within (Same left right) turns work part = let few : turns ≤ work = part refl in omega (arith, few)
gained_within (Leq left right) turns work part = let few : turns ≤ work = part refl in omega (arith, few)
gained_within (Eval operand bits) turns work part = let few : turns ≤ work = part refl in omega (arith, few)
gained_within (Size operand) turns work part = omega arith

-- and within what its turns pay for
gained_paid : (s : Step) (turns : ℕ) → 1 ≤ turns → gathering_calls s turns + (gained s turns + 4) ≤ 256 * turns
gained_paid (Const value) turns some = omega (arith, some)
gained_paid (Var level) turns some = omega (arith, some)
gained_paid (Pair op left right) turns some = omega (arith, some)
gained_paid (Ite test if_one if_zero) turns some = omega (arith, some)
gained_paid (Quantify kind operand level) turns some = omega (arith, some)
gained_paid (Restrict operand level value) turns some = omega (arith, some)
gained_paid (Drop gone) turns some = omega (arith, some)
gained_paid (Same left right) turns some = omega (arith, some)
gained_paid (Leq left right) turns some = omega (arith, some)
gained_paid (Eval operand bits) turns some = omega (arith, some)
gained_paid (Size operand) turns some = omega (arith, some)

-- and few, for its turns
pub calls_few : (s : Step) (turns : ℕ) → gathering_calls s turns ≤ 8 * turns + 12
calls_few (Const value) turns = omega arith
calls_few (Var level) turns = omega arith
calls_few (Pair op left right) turns = omega arith
calls_few (Ite test if_one if_zero) turns = omega arith
calls_few (Quantify kind operand level) turns = omega arith
calls_few (Restrict operand level value) turns = omega arith
calls_few (Drop gone) turns = omega arith
calls_few (Same left right) turns = omega arith
calls_few (Leq left right) turns = omega arith
calls_few (Eval operand bits) turns = omega arith
calls_few (Size operand) turns = omega arith

-- its turns are few
turns_few : (makes : Bool) (turns most : ℕ) → turns ≤ cond makes most 1 → turns ≤ max 1 most
turns_few true turns most few = omega (arith, few)
turns_few false turns most few = omega (arith, few)

-- making it takes two calls fewer than the step has
made_within : (swept : Bool) (work old new : ℕ) → (swept ≡ false → new ≤ old + 5) → (IsTrue swept → new ≤ old + 229 * work)
    → new + 2 ≤ old + cond swept (229 * work + work / 16 + 22) 11
made_within true work old new one few = let made : new ≤ old + 229 * work = few refl in omega (arith, made)
made_within false work old new one few = let made : new ≤ old + 5 = one refl in omega (arith, made)

-- steps wait behind the committed ones, and none of them or behind them has a gated checkpoint
abbrev pub IsWaiting : Job → ℕ → ℕ → World → Type 0
IsWaiting job committed k w = Waits job committed k (now w).folder × NoneGated job committed (now w).folder

-- a step of a well-formed plan is made, behind those that are committed and those that wait
module _ (job : Job) (plan : IsWellFormed job.n job.text job.steps) (committed k : ℕ) (within : k < length job.steps) where
  abbrev Nodes : Moment → Moment → Type 0
  Nodes = OnlyNodes (step_at job k).step k

  abbrev Gathering : Moment → Moment → Type 0
  Gathering = DuringGather job.steps committed k (k + 1)

  abbrev Held : Moment → Type 0
  Held m = HoldsUngated job committed m.folder

  -- at most its own files change
  own_only : (old m : Moment) → Nodes old m → OnlyOwnFiles k old.folder m.folder
  own_only old m only f apart = only f (λ made. apart (ap (λ (q : FileNo). q.step) made.1))

  -- and none of the job's
  job_stays : (old m : Moment) → Nodes old m → JobStays old.folder m.folder
  job_stays old m only f of_job = own_only old m only f (job_apart k f (early job k plan.few_steps within) of_job)

  -- while it is made
  gathers_made : (old m : Moment) → IsReady committed old.folder → Nodes old m → Gathering old m
  gathers_made old m ready only =
      let same : file_in m.folder catalogue ≡ file_in old.folder catalogue = job_stays old m only catalogue refl in
      record {
        others = λ f no_catalogue apart. only f (λ made. apart (k, omega arith, omega arith, made.0, made.1));
        images = λ image is_image. ready_counts committed m.folder image (ready_same committed old.folder m.folder (job_stays old m only) ready) is_image;
        kept = λ front short kept. subst (IsKept front) (sym same) kept;
        reads = ap (λ (x : File). take (128 * k) x.bytes) same;
      }

  -- and while its entry is put
  gathers_put : (e : Entry) (old mid m : Moment) → e.number ≡ k → Gathering old mid → DuringPut committed e mid m → Gathering old m
  gathers_put e old mid m number before during = record {
    others = λ f no_catalogue apart. during.others f no_catalogue ∙ before.others f no_catalogue apart;
    images = during.images;
    kept = λ front short kept. during.kept front (omega (arith, number, short)) (before.kept front short kept);
    reads = subst (λ i. take (128 * i) (file_in m.folder catalogue).bytes ≡ take (128 * i) (file_in mid.folder catalogue).bytes) number during.reads
        ∙ before.reads;
  }

  -- no step behind the committed ones has a gated checkpoint then
  none_made : (old m : Moment) → Nodes old m → NoneGated job committed old.folder → NoneGated job committed m.folder
  none_made old m only none s behind inside = only (checkpoint_gate s) (λ made. gate_not_node s k made.1) ∙ none s behind inside

  none_put : (e : Entry) (old m : Moment) → DuringPut committed e old m → NoneGated job committed old.folder → NoneGated job committed m.folder
  none_put e old m during none s behind inside =
      during.others (checkpoint_gate s) (not_catalogue (checkpoint_gate s) (gate_of_step s (early job s plan.few_steps inside))) ∙ none s behind inside

  -- the steps before it wait
  waits_made : (old m : Moment) → Nodes old m → Waits job committed k old.folder → NoneGated job committed old.folder → Waits job committed k m.folder
  waits_made old m only waits none =
      waits_while_made job committed k old.folder m.folder plan.few_steps within waits (own_only old m only)
      (none_gated_resumes job committed m.folder (none_made old m only none))

  -- so the committed ones are held
  held_made : (old new : World) → Ran (Nodes (now old)) old new → Waits job committed k (now old).folder → NoneGated job committed (now old).folder
      → Throughout old new Held
  held_made old new run waits none = weakens old new (Quiet (now old).said (Nodes (now old))) Held
      (λ m quiet. record {
        holds = (waits_made (now old) m quiet.holds waits none).holds;
        none = none_made (now old) m quiet.holds none;
      }) run.moments

  held_put : (e : Entry) (old new : World) → AreFiles (now old).folder → e.number ≡ k → Ran (DuringPut committed e (now old)) old new
      → Waits job committed k (now old).folder → NoneGated job committed (now old).folder → Throughout old new Held
  held_put e old new files number run waits none = weakens old new (Quiet (now old).said (DuringPut committed e (now old))) Held
      (λ m quiet. record {
        holds = let from = waits.from in let covers = waits.covers in
            holds_while_put job plan.few_steps (rests_on_steps job plan) committed e (now old) m files (omega (arith, from, number)) (omega (arith, covers, number)) waits.holds quiet.holds;
        none = none_put e (now old) m quiet.holds none;
      }) run.moments

  -- it is the next one
  is_next : (w : World) → Waits job committed k (now w).folder → IsNextOf job job.n job.text k (step_at job k) w
  is_next w waits = record {
    step = record { well_formed = plan; n_is = refl; text_is = refl; within = within; step_is = refl };
    committed = committed;
    waits = waits;
  }

-- the step was run, and what came of it
module _ {S : Type 0} (tells : S → Bool) (world : S → World) (counts : S → Faults) (law : (s : S) → IsTrue (tells s) → AreFiles (now (world s)).folder)
    (job : Job) (plan : IsWellFormed job.n job.text job.steps) (committed k : ℕ) (within : k < length job.steps) (most : AtMost)
    (old mid : S) (r : Result (Option Entry) Failed) (runs : RunsNow tells world counts job.n job.text k (step_at job k) most old mid r)
    (ready : IsTrue (tells old) → IsReady committed (now (world old)).folder) where
  abbrev OfGather : Moment → Type 0
  OfGather = DuringGather job.steps committed k (k + 1) (now (world old))

  made_only : IsTrue (tells mid) → Nodes job plan committed k within (now (world old)) (now (world mid))
  made_only tells_mid = ran_end (world old) (world mid) (Nodes job plan committed k within (now (world old))) (runs.content.did tells_mid)

  made_so : Told tells old mid (Ran OfGather (world old) (world mid))
  made_so = told tells old mid _ _ runs.content (λ tells_old run.
      ran_weakens (world old) (world mid) (Nodes job plan committed k within (now (world old))) OfGather
      (λ m only. gathers_made job plan committed k within (now (world old)) m (ready tells_old) only) run)

  made_held : IsTrue (tells mid) → Waits job committed k (now (world old)).folder → NoneGated job committed (now (world old)).folder
      → Throughout (world old) (world mid) (Held job plan committed k within)
  made_held tells_mid = held_made job plan committed k within (world old) (world mid) (runs.content.did tells_mid)

  made_waits : IsTrue (tells mid) → IsWaiting job committed k (world old) → IsWaiting job committed k (world mid)
  made_waits tells_mid before = (
    waits_made job plan committed k within (now (world old)) (now (world mid)) (made_only tells_mid) before.0 before.1,
    none_made job plan committed k within (now (world old)) (now (world mid)) (made_only tells_mid) before.1,
  )

  made_ready : IsTrue (tells mid) → IsReady committed (now (world mid)).folder
  made_ready tells_mid = ready_same committed (now (world old)).folder (now (world mid)).folder
      (job_stays job plan committed k within (now (world old)) (now (world mid)) (made_only tells_mid)) (ready (runs.content.before tells_mid))

  made_few : IsTrue (tells mid) → EachTakesOne job ⊎ IsWaiting job committed k (world old)
      → (world mid).clock + 2 ≤ (world old).clock + step_calls job (step_at job k)
  made_few tells_mid bounded =
      made_within (sweeps (step_at job k).step) (work_of job (step_at job k).step) (world old).clock (world mid).clock (runs.one_turn tells_mid)
      (λ swept. elim bounded [
        | inl one ↦ let unswept : sweeps (step_at job k).step ≡ false = one k within in absurd cc
        | inr waiting ↦ runs.few_calls tells_mid job (is_next job plan committed k within (world old) waiting.0)
      ])

-- the run was refused
pub step_refused : {S : Type 0} (tells : S → Bool) (world : S → World) (counts : S → Faults) (law : (s : S) → IsTrue (tells s) → AreFiles (now (world s)).folder)
    (job : Job) (plan : IsWellFormed job.n job.text job.steps) (committed k : ℕ) (within : k < length job.steps) (most : AtMost)
    (old mid : S) (f : Failed) (result : Result (Option Entry) Failed) → IsErr result
    → RunsNow tells world counts job.n job.text k (step_at job k) most old mid (Err f) → (IsTrue (tells old) → IsReady committed (now (world old)).folder)
    → GathersStep tells world counts job committed k most old mid result
step_refused tells world counts law job plan committed k within most old mid f (Ok x) is runs ready = absurd cc
step_refused tells world counts law job plan committed k within most old mid f (Err g) is runs ready = record {
  content = made_so tells world counts law job plan committed k within most old mid (Err f) runs ready;
  made = tt;
  not_made = tt;
  holds = made_held tells world counts law job plan committed k within most old mid (Err f) runs ready;
  within = λ tells_mid bounded. let few = made_few tells world counts law job plan committed k within most old mid (Err f) runs ready tells_mid bounded in omega (arith, few);
  short = λ tells_mid. let few = runs.short tells_mid in omega (arith, few);
  faults = failed_faults (counts old) (counts mid) f g runs.faults;
}

-- nothing was made
pub step_left : {S : Type 0} (tells : S → Bool) (world : S → World) (counts : S → Faults) (law : (s : S) → IsTrue (tells s) → AreFiles (now (world s)).folder)
    (job : Job) (plan : IsWellFormed job.n job.text job.steps) (committed k : ℕ) (within : k < length job.steps) (most : AtMost)
    (old mid : S) → RunsNow tells world counts job.n job.text k (step_at job k) most old mid (Ok None) → (IsTrue (tells old) → IsReady committed (now (world old)).folder)
    → GathersStep tells world counts job committed k most old mid (Ok None)
step_left tells world counts law job plan committed k within most old mid runs ready = record {
  content = made_so tells world counts law job plan committed k within most old mid (Ok None) runs ready;
  made = tt;
  not_made = runs.not_made;
  holds = made_held tells world counts law job plan committed k within most old mid (Ok None) runs ready;
  within = λ tells_mid bounded. let few = made_few tells world counts law job plan committed k within most old mid (Ok None) runs ready tells_mid bounded in omega (arith, few);
  short = λ tells_mid. let few = runs.short tells_mid in omega (arith, few);
  faults = runs.faults;
}

-- its entry was put, or a call of the folder failed meanwhile
module _ {S : Type 0} (tells : S → Bool) (world : S → World) (counts : S → Faults) (law : (s : S) → IsTrue (tells s) → AreFiles (now (world s)).folder)
    (job : Job) (plan : IsWellFormed job.n job.text job.steps) (committed k : ℕ) (within : k < length job.steps) (most : AtMost)
    (old mid new : S) (e : Entry) (runs : RunsNow tells world counts job.n job.text k (step_at job k) most old mid (Ok (Some e)))
    (ready : IsTrue (tells old) → IsReady committed (now (world old)).folder)
    (covers : IsTrue (tells old) → 128 * k ≤ length (file_in (now (world old)).folder catalogue).bytes)
    (puts : Told tells mid new (Ran (DuringPut committed e (now (world mid))) (world mid) (world new)))
    (two : IsTrue (tells new) → (world new).clock ≤ (world mid).clock + 2) where
  number : e.number ≡ k
  number = runs.run.fits.number_is

  put_so : Told tells old new (Ran (Gathering job plan committed k within (now (world old))) (world old) (world new))
  put_so = told_then tells old mid new _ _ _ (made_so tells world counts law job plan committed k within most old mid (Ok (Some e)) runs ready) puts (λ _ run more.
      ran_joins (world old) (world mid) (world new) (Gathering job plan committed k within (now (world old))) run
      (ran_weakens (world mid) (world new) (DuringPut committed e (now (world mid))) (Gathering job plan committed k within (now (world old)))
      (λ m during. gathers_put job plan committed k within e (now (world old)) (now (world mid)) m number
      (ran_end (world old) (world mid) (Gathering job plan committed k within (now (world old))) run) during) more))

  put_held : IsTrue (tells new) → Waits job committed k (now (world old)).folder → NoneGated job committed (now (world old)).folder
      → Throughout (world old) (world new) (Held job plan committed k within)
  put_held tells_new waits none =
      let tells_mid : IsTrue (tells mid) = puts.before tells_new in
      let then : IsWaiting job committed k (world mid) = made_waits tells world counts law job plan committed k within most old mid (Ok (Some e)) runs ready tells_mid (waits, none) in
      joins (world old) (world mid) (world new) (Held job plan committed k within)
      (made_held tells world counts law job plan committed k within most old mid (Ok (Some e)) runs ready tells_mid waits none)
      (held_put job plan committed k within e (world mid) (world new) (law mid tells_mid) number (puts.did tells_new) then.0 then.1)

  put_within : IsTrue (tells new) → EachTakesOne job ⊎ IsWaiting job committed k (world old) → (world new).clock ≤ (world old).clock + step_calls job (step_at job k)
  put_within tells_new bounded =
      let few = made_few tells world counts law job plan committed k within most old mid (Ok (Some e)) runs ready (puts.before tells_new) bounded in
      let more = two tells_new in
      omega (arith, few, more)

  put_short : IsTrue (tells new) → (world new).clock ≤ (world old).clock + (2 ^ 18 + 12)
  put_short tells_new =
      let few = runs.short (puts.before tells_new) in
      let more = two tells_new in
      omega (arith, few, more)

  -- it couldn't be put
  pub put_refused : (f : Failed) (result : Result (Option Entry) Failed) → IsErr result → OnlyFolder {T = Unit} (counts mid) (counts new) (Err f)
      → GathersStep tells world counts job committed k most old new result
  put_refused f (Ok x) is faults = absurd cc
  put_refused f (Err g) is faults = record {
    content = put_so;
    made = tt;
    not_made = tt;
    holds = put_held;
    within = put_within;
    short = put_short;
    faults = then_failed (counts old) (counts mid) (counts new) (Some e) f g runs.faults faults;
  }

  -- it was put
  module _ (put : IsTrue (tells new) → IsPut committed e (now (world mid)).folder (now (world new)).folder) where
    covers_mid : IsTrue (tells mid) → 128 * e.number ≤ length (file_in (now (world mid)).folder catalogue).bytes
    covers_mid tells_mid =
        let only = made_only tells world counts law job plan committed k within most old mid (Ok (Some e)) runs ready tells_mid in
        let same : file_in (now (world mid)).folder catalogue ≡ file_in (now (world old)).folder catalogue =
        job_stays job plan committed k within (now (world old)) (now (world mid)) only catalogue refl in
        let before = covers (runs.content.before tells_mid) in
        subst (λ (x : File). 128 * e.number ≤ length x.bytes) (sym same) (omega (arith, before, number))

    -- then the step waits
    put_waits : IsTrue (tells new) → Waits job committed k (now (world old)).folder → NoneGated job committed (now (world old)).folder
        → Waits job committed (k + 1) (now (world new)).folder × IsEntryOfStep job k e
    put_waits tells_new waits none =
        let tells_mid : IsTrue (tells mid) = puts.before tells_new in
        let only = made_only tells world counts law job plan committed k within most old mid (Ok (Some e)) runs ready tells_mid in
        let next = is_next job plan committed k within (world old) waits in
        let is_entry : IsEntryOfStep job k e = runs.run.entry tells_mid job next in (
          waits_more job plan.few_steps (rests_on_steps job plan) committed k e (now (world old)).folder (now (world mid)) (now (world new)) (law mid tells_mid) within waits
              (own_only job plan committed k within (now (world old)) (now (world mid)) only)
              (none_gated_resumes job committed (now (world mid)).folder (none_made job plan committed k within (now (world old)) (now (world mid)) only none))
              (runs.run.made tells_mid job next) is_entry (ran_end (world mid) (world new) (DuringPut committed e (now (world mid))) (puts.did tells_new)) (put tells_new),
          is_entry,
        )

    -- its calls
    put_calls : IsTrue (tells new) → (world new).clock ≤ (world old).clock + gathering_calls (step_at job k).step e.turns
    put_calls tells_new =
        let few = runs.run.calls (puts.before tells_new) in
        let more = two tells_new in
        omega (arith, few, more)

    -- its turns are a part of its work
    part_of_work : IsTrue (tells new) → EachTakesOne job ⊎ IsWaiting job committed k (world old) → IsTrue (sweeps (step_at job k).step) → e.turns ≤ work_of job (step_at job k).step
    part_of_work tells_new bounded swept = elim bounded [
      | inl one ↦ let unswept : sweeps (step_at job k).step ≡ false = one k within in absurd cc
      | inr waiting ↦ (runs.run.entry (puts.before tells_new) job (is_next job plan committed k within (world old) waiting.0)).turns_are.1
    ]

    is_gathered : IsGatheredStep tells world job committed k most old new e
    is_gathered = record {
      fits = runs.run.fits;
      few = turns_few (makes_diagram (step_at job k).step) e.turns most.turns runs.run.few;
      ready = λ tells_new. (put tells_new).ready;
      placed = λ tells_new. subst (λ i. entry_at i (present (now (world new)).folder) ≡ entry_bytes e) number
          (put_entry_at committed e (now (world mid)).folder (now (world new)).folder (covers_mid (puts.before tells_new)) (put tells_new));
      covers = λ tells_new. let size = (put tells_new).size in omega (arith, size, number);
      waits = put_waits;
      calls = put_calls;
      counted = λ tells_new bounded.
          let few = put_calls tells_new in
          let gain = gained_within (step_at job k).step e.turns (work_of job (step_at job k).step) (part_of_work tells_new bounded) in
          omega (arith, few, gain);
      paid = λ tells_new.
          let few = put_calls tells_new in
          let gain = gained_paid (step_at job k).step e.turns runs.run.fits.entry_is.layout.worked in
          omega (arith, few, gain);
    }

    pub step_gathered : (x : Unit) → OnlyFolder {T = Unit} (counts mid) (counts new) (Ok x) → GathersStep tells world counts job committed k most old new (Ok (Some e))
    step_gathered x faults = record {
      content = put_so;
      made = is_gathered;
      not_made = tt;
      holds = put_held;
      within = put_within;
      short = put_short;
      faults = then_faults (counts old) (counts mid) (counts new) (Some e) x (Some e) runs.faults faults;
    }
