-- Steps that are made at once, one behind the other, while all of them wait.
use Rattle.std.proofs.Common.{◌≡◌, ◌∙◌, ℕ, ◌+◌, ◌-◌, ◌*◌, ◌<◌, ◌≤◌, ◌⊎◌, Bool, List, length, take, get_or, refl, sym, ap, subst, inl, inr, arith}
use Rattle.std.specs.Prelude.{IsTrue, Option, Some, None, Result, Ok, Err, IfSome, IsErr}
use Rattle.std.proofs.lemmas.Bool.{cases_lt}
use Rattle.std.proofs.lemmas.List.{take-take}
use Rattle.bool_tables.specs.declared.steps.Planned.{Planned}
use Rattle.bool_tables.specs.Plans.{IsWellFormed}
use Rattle.shelf_model.specs.declared.file_no.FileNo.{FileNo}
use Rattle.shelf_model.specs.declared.fault.Failed.{Failed}
use Rattle.shelf_model.specs.Folder.{Folder, file_in}
use Rattle.shelf_model.specs.World.{Moment, World, now}
use Rattle.shelf_model.specs.Calls.{Told}
use Rattle.shelf_model.specs.Faults.{Faults, OnlyFolder}
use Rattle.shelf_model.specs.Moments.{Throughout, Ran, Stays}
use Rattle.shelf_model.proofs.Runs.{stands, joins, at_end, told_here, told_then, ran_stands, ran_joins, ran_weakens, ran_end}
use Rattle.catalogue.specs.declared.layout.Entry.{Entry}
use Rattle.catalogue.specs.Files.{job_step, catalogue}
use Rattle.catalogue.specs.Counts.{present, entry_at}
use Rattle.catalogue.specs.Entries.{entry_bytes}
use Rattle.catalogue.specs.Commits.{IsReady}
use Rattle.catalogue.proofs.Counted.{same_entries, ready_counts}
use Rattle.step_work.specs.Plans.{no_step}
use Rattle.step_sweeps.specs.declared.at_once.AtMost.{AtMost}
use Rattle.sound_image.specs.Jobs.{Job, step_at}
use Rattle.sound_image.specs.Entries.{IsEntryOfStep}
use Rattle.sound_image.specs.Waiting.{Waits}
use Rattle.sound_image.proofs.Waiting.{waits_none}
use Rattle.step_engine.specs.StepEntries.{IsEntryFor}
use Rattle.script_runner.specs.AtOnce.{next_behind, HoldsUngated, AreBounded, DuringGather, ArePut, gained, most_spare, GathersStep, AreGathered, Gathers}
use Rattle.script_runner.specs.Calls.{calls_before, EachTakesOne}
use Rattle.script_runner.specs.StepRuns.{KeepsLater}
use Rattle.script_runner.specs.Stops.{turns_at, committed_turns}
use Rattle.script_runner.proofs.Gathering.{then_failed, then_faults, same_faults, calls_few, IsWaiting}
use Rattle.script_runner.proofs.StopLaws.{entry_turns, committed_same, one_more_turns}
use Rattle.script_runner.proofs.Taking.{calls_of_one_more, calls_least}

-- steps from that one on up to another one were made and wait, with so many turns; so many calls are left of those that
-- there were to spare
pub record AreGatheredTo (job : Job) (from end turns spare left : ℕ) (old new : World) : Type 0 where
  pub ready : IsReady from (now new).folder
  pub put : ArePut job.steps from end (present (now new).folder)
  pub covers : 128 * end ≤ length (file_in (now new).folder catalogue).bytes
  pub later : KeepsLater end (now old).folder (now new).folder
  pub waits : HoldsUngated job from (now old).folder → Waits job from end (now new).folder
  pub turns_are : committed_turns end (present (now new).folder) ≡ committed_turns from (present (now new).folder) + turns
  pub counted : AreBounded job from (now old).folder
      → new.clock + (left + 4 * end) + calls_before job from ≤ old.clock + (spare + 4 * from) + calls_before job end
  pub paid : new.clock + (left + 4 * end) ≤ old.clock + (spare + 4 * from) + 256 * turns

-- they were gathered up to there, and at each moment of it the folder held the committed steps
pub record GathersTo {S : Type 0} (tells : S → Bool) (world : S → World) (counts : S → Faults) (job : Job)
    (from until end turns spare left : ℕ) (last : Option Entry) (old new : S) : Type 0 where
  pub content : Told tells old new (Ran (DuringGather job.steps from from until (now (world old))) (world old) (world new))
  pub gathered : IsTrue (tells new) → AreGatheredTo job from end turns spare left (world old) (world new)
  pub ends : next_behind last from ≡ end
  pub since : IfSome last (λ e. from ≤ e.number)
  pub stands : IsTrue (tells new) → IfSome last (λ e. IsEntryFor (step_at job e.number).step e.number e
      × (entry_at e.number (present (now (world new)).folder) ≡ entry_bytes e))
  pub of_step : IsTrue (tells new) → HoldsUngated job from (now (world old)).folder → IfSome last (λ e. IsEntryOfStep job e.number e)
  pub holds : IsTrue (tells new) → HoldsUngated job from (now (world old)).folder
      → Throughout (world old) (world new) (λ (m : Moment). HoldsUngated job from m.folder)
  pub short : IsTrue (tells new) → (world new).clock + 12 * from ≤ (world old).clock + (8 * turns + 12 * end)
  pub faults : OnlyFolder {T = Unit} (counts old) (counts new) (Ok tt)

-- the entries that are read stay in a front of those that stay
front_same : (n end : ℕ) (xs ys : List ℕ) → n ≤ end → take (128 * end) xs ≡ take (128 * end) ys → take (128 * n) xs ≡ take (128 * n) ys
front_same n end xs ys within same =
    sym (take-take (128 * n) (128 * end) xs (omega (arith, within))) ∙ ap (take (128 * n)) same
    ∙ take-take (128 * n) (128 * end) ys (omega (arith, within))

-- a step has its calls
pub calls_upto : (job : Job) (from until : ℕ) → from ≤ until → until ≤ length job.steps → calls_before job from ≤ calls_before job until
calls_upto job from until behind within =
    let sum : from + (until - from) ≡ until = omega (arith, behind) in
    let least : calls_before job from + 11 * (until - from) ≤ calls_before job until =
    subst (λ n. calls_before job from + 11 * (until - from) ≤ calls_before job n) sum (calls_least job from (until - from) (omega (arith, sum, within))) in
    omega (arith, least)

-- before the first one
gathers_first : (steps : List Planned) (from until : ℕ) (m : Moment) → IsReady from m.folder → DuringGather steps from from until m m
gathers_first steps from until m ready = record {
  others = λ f no_catalogue apart. refl;
  images = λ image is_image. ready_counts from m.folder image ready is_image;
  kept = λ front short kept. kept;
  reads = refl;
}

-- one of them, behind others
gathers_on : (steps : List Planned) (from end until : ℕ) (old mid m : Moment) → from ≤ end → end < until → DuringGather steps from from until old mid
    → DuringGather steps from end (end + 1) mid m → DuringGather steps from from until old m
gathers_on steps from end until old mid m behind before first second = record {
  others = λ f no_catalogue apart. second.others f no_catalogue
      (λ nodes. let least = nodes.1 in let most = nodes.2 in apart (nodes.0, omega (arith, least, behind), omega (arith, most, before), nodes.3, nodes.4))
      ∙ first.others f no_catalogue apart;
  images = second.images;
  kept = λ front short kept. second.kept front (omega (arith, short, behind)) (first.kept front short kept);
  reads = front_same from end (file_in m.folder catalogue).bytes (file_in mid.folder catalogue).bytes behind second.reads ∙ first.reads;
}

are_none : (job : Job) (from spare : ℕ) (w : World) → IsReady from (now w).folder → AreGatheredTo job from from 0 spare spare w w
are_none job from spare w ready = record {
  ready = ready;
  put = λ k least most. absurd (omega (arith, least, most));
  covers = ready.covers;
  later = λ f behind before. refl;
  waits = λ held. waits_none job from (now w).folder held.holds;
  turns_are = omega arith;
  counted = λ bounded. omega arith;
  paid = omega arith;
}

pub gathers_none : {S : Type 0} (tells : S → Bool) (world : S → World) (counts : S → Faults) (job : Job) (from until spare : ℕ) (s : S)
    → (IsTrue (tells s) → IsReady from (now (world s)).folder) → GathersTo tells world counts job from until from 0 spare spare None s s
gathers_none tells world counts job from until spare s ready = record {
  content = told_here tells s _ (λ tells_s. ran_stands (world s) (DuringGather job.steps from from until (now (world s)))
      (gathers_first job.steps from until (now (world s)) (ready tells_s)));
  gathered = λ tells_s. are_none job from spare (world s) (ready tells_s);
  ends = refl;
  since = tt;
  stands = λ tells_s. tt;
  of_step = λ tells_s held. tt;
  holds = λ tells_s held. stands (world s) (λ (m : Moment). HoldsUngated job from m.folder) held;
  short = λ tells_s. omega arith;
  faults = record { later = omega arith; cause = tt; say_is = refl; text_is = λ path. refl };
}

-- where nothing changes, and so many calls fewer are left
are_left : (job : Job) (from end turns spare left fewer : ℕ) (old mid new : World) → (now new).folder ≡ (now mid).folder → new.clock + fewer ≤ mid.clock + left
    → AreGatheredTo job from end turns spare left old mid → AreGatheredTo job from end turns spare fewer old new
are_left job from end turns spare left fewer old mid new same looked so_far = record {
  ready = subst (IsReady from) (sym same) so_far.ready;
  put = subst (λ (d : Folder). ArePut job.steps from end (present d)) (sym same) so_far.put;
  covers = subst (λ (d : Folder). 128 * end ≤ length (file_in d catalogue).bytes) (sym same) so_far.covers;
  later = subst (KeepsLater end (now old).folder) (sym same) so_far.later;
  waits = λ held. subst (Waits job from end) (sym same) (so_far.waits held);
  turns_are = subst (λ (d : Folder). committed_turns end (present d) ≡ committed_turns from (present d) + turns) (sym same) so_far.turns_are;
  counted = λ bounded. let before = so_far.counted bounded in omega (arith, before, looked);
  paid = let before = so_far.paid in omega (arith, before, looked);
}

-- the last one is the one before the end
some_last : (from until end : ℕ) (last : Option Entry) → next_behind last from ≡ end → IfSome last (λ e. from ≤ e.number) → end ≤ until → end ≤ from + 1024
    → IfSome last (λ e. (from ≤ e.number) × (e.number < until) × (e.number < from + 1024))
some_last from until end None ends since upto few = tt
some_last from until end (Some e) ends since upto few = (since, omega (arith, ends, upto), omega (arith, ends, few))

are_gathered : (job : Job) (from end turns spare left : ℕ) (last : Option Entry) (old new : World) → next_behind last from ≡ end → AreGatheredTo job from end turns spare left old new
    → IfSome last (λ e. IsEntryFor (step_at job e.number).step e.number e × (entry_at e.number (present (now new).folder) ≡ entry_bytes e))
    → (HoldsUngated job from (now old).folder → IfSome last (λ e. IsEntryOfStep job e.number e)) → AreGathered job from last spare left old new
are_gathered job from end turns spare left last old new ends so_far stands of_step =
    let all : AreGatheredTo job from (next_behind last from) turns spare left old new =
    subst (λ n. AreGatheredTo job from n turns spare left old new) (sym ends) so_far in
    record {
      ready = all.ready;
      put = all.put;
      covers = all.covers;
      later = all.later;
      stands = stands;
      waits = λ held. (all.waits held, of_step held);
      turns = turns;
      turns_are = all.turns_are;
      counted = all.counted;
      paid = all.paid;
    }

-- steps were gathered up to there, and then one more was tried
module _ {S : Type 0} (tells : S → Bool) (world : S → World) (counts : S → Faults) (job : Job) (plan : IsWellFormed job.n job.text job.steps)
    (from until end turns spare left : ℕ) (last : Option Entry) (old mid : S) (so_far : GathersTo tells world counts job from until end turns spare left last old mid)
    (behind : from ≤ end) (inside : until ≤ length job.steps) where
  abbrev Held : Moment → Type 0
  Held m = HoldsUngated job from m.folder

  abbrev OfGather : Moment → Type 0
  OfGather = DuringGather job.steps from from until (now (world old))

  waiting_then : IsTrue (tells mid) → HoldsUngated job from (now (world old)).folder → IsWaiting job from end (world mid)
  waiting_then tells_mid held = (
    (so_far.gathered tells_mid).waits held,
    (at_end (world old) (world mid) Held (so_far.holds tells_mid held)).none,
  )

  bounded_then : IsTrue (tells mid) → AreBounded job from (now (world old)).folder → EachTakesOne job ⊎ IsWaiting job from end (world mid)
  bounded_then tells_mid (inl one) = inl one
  bounded_then tells_mid (inr held) = inr (waiting_then tells_mid held)

  within_so : IsTrue (tells mid) → end ≤ until → AreBounded job from (now (world old)).folder
      → (world mid).clock + calls_before job from ≤ (world old).clock + (calls_before job until + spare)
  within_so tells_mid upto bounded =
      let so = (so_far.gathered tells_mid).counted bounded in
      let more = calls_upto job end until upto inside in
      omega (arith, so, more, behind)

  -- no more was tried
  pub gathers_all : end ≤ until → end ≤ from + 1024 → turns + from ≤ 65536 + end → left ≤ most_spare
      → Gathers tells world counts job from until spare left old mid (Ok last)
  gathers_all upto near few some = record {
    content = so_far.content;
    some = some_last from until end last so_far.ends so_far.since upto near;
    gathered = λ tells_mid. are_gathered job from end turns spare left last (world old) (world mid) so_far.ends (so_far.gathered tells_mid)
        (so_far.stands tells_mid) (so_far.of_step tells_mid);
    holds = so_far.holds;
    within = λ tells_mid. within_so tells_mid upto;
    short = λ tells_mid. let short = so_far.short tells_mid in omega (arith, short, few, near);
    left_few = some;
    faults = same_faults (counts old) (counts mid) tt last so_far.faults;
  }

  module _ (most : AtMost) (new : S) (result : Result (Option Entry) Failed) (before : end < until)
      (step : GathersStep tells world counts job from end most mid new result) where
    content_then : Told tells old new (Ran OfGather (world old) (world new))
    content_then = told_then tells old mid new _ _ _ so_far.content step.content (λ _ run more.
        ran_joins (world old) (world mid) (world new) OfGather run
        (ran_weakens (world mid) (world new) (DuringGather job.steps from end (end + 1) (now (world mid))) OfGather
        (λ m during. gathers_on job.steps from end until (now (world old)) (now (world mid)) m behind before
        (ran_end (world old) (world mid) OfGather run) during) more))

    holds_then : IsTrue (tells new) → HoldsUngated job from (now (world old)).folder → Throughout (world old) (world new) Held
    holds_then tells_new held =
        let tells_mid : IsTrue (tells mid) = step.content.before tells_new in
        let then = waiting_then tells_mid held in
        joins (world old) (world mid) (world new) Held (so_far.holds tells_mid held) (step.holds tells_new then.0 then.1)

    within_then : IsTrue (tells new) → AreBounded job from (now (world old)).folder
        → (world new).clock + calls_before job from ≤ (world old).clock + (calls_before job until + spare)
    within_then tells_new bounded =
        let tells_mid : IsTrue (tells mid) = step.content.before tells_new in
        let so = (so_far.gathered tells_mid).counted bounded in
        let own = step.within tells_new (bounded_then tells_mid bounded) in
        let next = calls_of_one_more job end (omega (arith, before, inside)) in
        let more = calls_upto job (end + 1) until (omega (arith, before)) inside in
        omega (arith, so, own, next, more, behind)

  -- a call of the folder failed
  pub gathers_failed : (most : AtMost) (new : S) (f : Failed) (result : Result (Option Entry) Failed) → IsErr result → end < until → end ≤ from + 1024
      → turns + from ≤ 65536 + end → left ≤ most_spare → GathersStep tells world counts job from end most mid new (Err f)
      → Gathers tells world counts job from until spare left old new result
  gathers_failed most new f (Ok x) is before near few some step = absurd cc
  gathers_failed most new f (Err g) is before near few some step = record {
    content = content_then most new (Err f) before step;
    some = tt;
    gathered = tt;
    holds = holds_then most new (Err f) before step;
    within = within_then most new (Err f) before step;
    short = λ tells_new.
        let short = so_far.short (step.content.before tells_new) in
        let more = step.short tells_new in
        omega (arith, short, more, few, near);
    left_few = some;
    faults = then_failed (counts old) (counts mid) (counts new) tt f g so_far.faults step.faults;
  }

  -- the next one isn't made at once
  module _ (most : AtMost) (new : S) (before : end < until) (step : GathersStep tells world counts job from end most mid new (Ok None)) where
    left_same : IsTrue (tells new) → (now (world new)).folder ≡ (now (world mid)).folder
    left_same tells_new = ran_end (world mid) (world new) (Stays (now (world mid))) (step.not_made.did tells_new).run

    pub gathers_left : (fewer : ℕ) → end ≤ from + 1024 → turns + from ≤ 65536 + end → left ≤ most_spare → fewer + (4 + most.looks) ≤ left
        → Gathers tells world counts job from until spare fewer old new (Ok last)
    gathers_left fewer near few some less = record {
      content = content_then most new (Ok None) before step;
      some = some_last from until end last so_far.ends so_far.since (omega (arith, before)) near;
      gathered = λ tells_new.
          let tells_mid : IsTrue (tells mid) = step.content.before tells_new in
          let looked = (step.not_made.did tells_new).few in
          are_gathered job from end turns spare fewer last (world old) (world new) so_far.ends
          (are_left job from end turns spare left fewer (world old) (world mid) (world new) (left_same tells_new) (omega (arith, looked, less)) (so_far.gathered tells_mid))
          (subst (λ (d : Folder). IfSome last (λ e. IsEntryFor (step_at job e.number).step e.number e × (entry_at e.number (present d) ≡ entry_bytes e)))
          (sym (left_same tells_new)) (so_far.stands tells_mid))
          (so_far.of_step tells_mid);
      holds = holds_then most new (Ok None) before step;
      within = within_then most new (Ok None) before step;
      short = λ tells_new.
          let short = so_far.short (step.content.before tells_new) in
          let looked = (step.not_made.did tells_new).few in
          omega (arith, short, looked, few, near, some, less);
      left_few = omega (arith, some, less);
      faults = then_faults (counts old) (counts mid) (counts new) tt _ last so_far.faults step.faults;
    }

  -- it was made and waits
  module _ (most : AtMost) (new : S) (e : Entry) (before : end < until) (step : GathersStep tells world counts job from end most mid new (Ok (Some e)))
      (more : ℕ) (gain : more ≤ left + gained (step_at job end).step e.turns) where
    number : e.number ≡ end
    number = step.made.fits.number_is

    during : IsTrue (tells new) → DuringGather job.steps from end (end + 1) (now (world mid)) (now (world new))
    during tells_new = ran_end (world mid) (world new) (DuringGather job.steps from end (end + 1) (now (world mid))) (step.content.did tells_new)

    are_more : IsTrue (tells new) → AreGatheredTo job from (end + 1) (turns + e.turns) spare more (world old) (world new)
    are_more tells_new =
        let tells_mid : IsTrue (tells mid) = step.content.before tells_new in
        let so = so_far.gathered tells_mid in
        let here : List ℕ = present (now (world new)).folder catalogue in
        let then : List ℕ = present (now (world mid)).folder catalogue in
        let stays : take (128 * end) here ≡ take (128 * end) then = (during tells_new).reads in
        let next = calls_of_one_more job end (omega (arith, before, inside)) in
        record {
          ready = step.made.ready tells_new;
          put = λ k least most_k. elim (cases_lt k end) [
            | inl earlier ↦
                let found = so.put k least earlier in
                (found.0, found.1, same_entries k end here then earlier stays ∙ found.2)
            | inr beyond ↦
                let same : k ≡ end = omega (arith, most_k, beyond) in
                subst (λ i. (x : Entry) × IsEntryFor (get_or job.steps i no_step).step i x × (entry_at i (present (now (world new)).folder) ≡ entry_bytes x))
                (sym same) (e, step.made.fits, step.made.placed tells_new)
          ];
          covers = step.made.covers tells_new;
          later = λ f from_there of_step. (during tells_new).others f
              (λ is. let job_step_is : f.step ≡ job_step = ap (λ (q : FileNo). q.step) is in omega (arith, job_step_is, of_step))
              (λ nodes. let below = nodes.2 in let step_is : f.step ≡ nodes.0 = ap (λ (q : FileNo). q.step) nodes.4 in omega (arith, below, step_is, from_there))
              ∙ so.later f (omega (arith, from_there)) of_step;
          waits = λ held. let now_waits = waiting_then tells_mid held in (step.made.waits tells_new now_waits.0 now_waits.1).0;
          turns_are =
              let r : FileNo → List ℕ = present (now (world new)).folder in
              let all = one_more_turns end r in
              let own : turns_at end r ≡ e.turns = entry_turns end r e step.made.fits.entry_is.fits (step.made.placed tells_new) in
              let upto : committed_turns end r ≡ committed_turns end (present (now (world mid)).folder) = committed_same end r (present (now (world mid)).folder) stays in
              let front : committed_turns from r ≡ committed_turns from (present (now (world mid)).folder) =
              committed_same from r (present (now (world mid)).folder) (front_same from end here then behind stays) in
              let earlier = so.turns_are in
              omega (arith, all, own, upto, front, earlier);
          counted = λ bounded.
              let earlier = so.counted bounded in
              let own = step.made.counted tells_new (bounded_then tells_mid bounded) in
              omega (arith, earlier, own, next, gain);
          paid =
              let earlier = so.paid in
              let own = step.made.paid tells_new in
              omega (arith, earlier, own, gain);
        }

    pub gathers_more : GathersTo tells world counts job from until (end + 1) (turns + e.turns) spare more (Some e) old new
    gathers_more = record {
      content = content_then most new (Ok (Some e)) before step;
      gathered = are_more;
      ends = omega (arith, number);
      since = omega (arith, number, behind);
      stands = λ tells_new. (
        subst (λ i. IsEntryFor (step_at job i).step i e) (sym number) step.made.fits,
        subst (λ i. entry_at i (present (now (world new)).folder) ≡ entry_bytes e) (sym number) (step.made.placed tells_new),
      );
      of_step = λ tells_new held.
          let then = waiting_then (step.content.before tells_new) held in
          subst (λ i. IsEntryOfStep job i e) (sym number) (step.made.waits tells_new then.0 then.1).1;
      holds = holds_then most new (Ok (Some e)) before step;
      short = λ tells_new.
          let short = so_far.short (step.content.before tells_new) in
          let own = step.made.calls tells_new in
          let few = calls_few (step_at job end).step e.turns in
          omega (arith, short, own, few);
      faults = then_faults (counts old) (counts mid) (counts new) tt (Some e) tt so_far.faults step.faults;
    }
