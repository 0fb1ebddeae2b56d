-- What is left once it was found how far a step has come, and what a stopped life lost behind that was given up.
use Rattle.std.proofs.Common.{◌≡◌, ◌⊎◌, ◌∙◌, ℕ, ◌+◌, ◌<◌, ◌≤◌, Bool, [], refl, sym, ap, subst, inl, inr, arith}
use Rattle.std.specs.Prelude.{IsTrue, Some, None, Ok, Err}
use Rattle.std.proofs.lemmas.Bool.{cases_lt}
use Rattle.std.proofs.lemmas.Option.{none-some, same_Some}
use Rattle.shelf_model.specs.declared.fault.Failed.{Failed}
use Rattle.shelf_model.specs.declared.file_no.FileNo.{FileNo}
use Rattle.shelf_model.specs.declared.sort_fault.SortFault.TheVariants as sort
use Rattle.shelf_model.specs.Calls.{Told}
use Rattle.shelf_model.specs.Faults.{Faults, OnlyFolder, OnlyShelf}
use Rattle.shelf_model.specs.File.{File, IsLeft}
use Rattle.shelf_model.specs.Folder.{file_in, bytes_in, AreFiles}
use Rattle.shelf_model.specs.Moments.{Throughout, Ran, OnlyChanged}
use Rattle.shelf_model.specs.World.{Moment, World, now, file}
use Rattle.shelf_model.proofs.Changing.{changed_more}
use Rattle.shelf_model.proofs.Runs.{told, joins, at_end, ran_joins, ran_weakens, ran_end}
use Rattle.file_numbers.specs.Files.{inner_part}
use Rattle.run_tiers.specs.Faults.{OnlySortShelf}
use Rattle.run_tiers.proofs.FaultLaws.{sort_shelf_then}
use Rattle.sweep_core.specs.declared.checkpoint.Checkpoint.{Checkpoint}
use Rattle.sweep_checkpoint.specs.Gated.{present, last_gated}
use Rattle.sweep_checkpoint.specs.Loads.{Tells}
use Rattle.sweep_checkpoint.specs.declared.going.Going.{Going}
use Rattle.sweep_checkpoint.proofs.AsBefore.{image_before, image_before_is, image_before_same}
use Rattle.step_going.specs.Found.{IsComeTo, IsGoingOf, IsFound, DuringFind}
use Rattle.step_going.specs.Lost.{IsLost, most_lost}
use Rattle.step_going.specs.Standing.{AreSafe}
use Rattle.step_going.proofs.GivenUp.{standing_lost, safe_lost}
use Rattle.resumable.proofs.StepPoints.{at_local}
use Rattle.sound_image.specs.Jobs.{Job}
use Rattle.sound_image.specs.Holds.{Holds, AreResumable}
use Rattle.sound_image.proofs.StepLaws.{holds_while_made}
use Rattle.step_engine.specs.Finding.{IsOfJob, JobGoesOn, JobRests, JobStands, IsSweepPart, DuringGoing, FindsGoing}
use Rattle.step_engine.proofs.Found.{holds_throughout, stands_found, told_before, may_go_on}
use Rattle.step_engine.proofs.Resuming.{safe_resumes_over}
use Rattle.step_engine.proofs.RunFaults.{shelf_fine}

-- a file of the step is one that was lost behind a checkpoint, or isn't
lost_or_not : (step next : ℕ) (f : FileNo) → f.step ≡ step → IsLost step next f ⊎ (¬ IsLost step next f)
lost_or_not step next f is = elim (cases_lt f.part next) [
  | inl before ↦ inr (λ lost. let from = lost.from in absurd (omega (arith, before, from)))
  | inr from ↦ elim (cases_lt f.part (next + most_lost)) [
    | inl until ↦ inl (record { step_is = is; from = from; until = until })
    | inr beyond ↦ inr (λ lost. let until = lost.until in absurd (omega (arith, beyond, until)))
  ]
]

-- while the last checkpoint is found
during_found : (step : ℕ) (old m : Moment) → DuringFind step old m → DuringGoing step old m
during_found step old m during = record {
  others = during.others;
  reads = λ f apart. during.reads f;
  images = λ image is_image. record { before = image; is_image = during.images image is_image; same = λ f apart. refl };
}

-- while parts of sweeps that were lost are given up behind that
during_lost : (step next : ℕ) (old mid m : Moment) → inner_part ≤ next → AreFiles mid.folder → DuringFind step old mid
    → OnlyChanged (IsLost step next) mid m → DuringGoing step old m
during_lost step next old mid m later files during only =
    let same : (f : FileNo) → ¬ (IsSweepPart step f) → file_in m.folder f ≡ file_in mid.folder f =
    λ f apart. only f (λ lost. apart (record { step_is = lost.step_is; from = let from = lost.from in omega (arith, later, from) })) in
    record {
      others = λ f differ. only f (λ lost. differ lost.step_is) ∙ during.others f differ;
      reads = λ f apart. ap (λ (x : File). x.bytes) (same f apart) ∙ during.reads f;
      images = λ image is_image. record {
        before = image_before mid.folder image;
        is_image = during.images (image_before mid.folder image) (image_before_is mid.folder image files);
        same = λ f apart. image_before_same mid.folder image f files (subst (λ x. IsLeft x (bytes_in image f)) (same f apart) (is_image f));
      };
    }

-- of stations that tell
module _ {S : Type 0} (tells : S → Bool) (world : S → World) (step : ℕ) where
  pub found_going : (old new : S) → Told tells old new (Ran (DuringFind step (now (world old))) (world old) (world new))
      → Told tells old new (Ran (DuringGoing step (now (world old))) (world old) (world new))
  found_going old new found = told tells old new _ _ found (λ _ run.
      ran_weakens (world old) (world new) (DuringFind step (now (world old))) (DuringGoing step (now (world old))) (during_found step (now (world old))) run)

  lost_going : (next : ℕ) (old mid new : S) → inner_part ≤ next → (IsTrue (tells mid) → AreFiles (now (world mid)).folder)
      → Told tells old mid (Ran (DuringFind step (now (world old))) (world old) (world mid))
      → Told tells mid new (Ran (OnlyChanged (IsLost step next) (now (world mid))) (world mid) (world new))
      → Told tells old new (Ran (DuringGoing step (now (world old))) (world old) (world new))
  lost_going next old mid new later files found lost = record {
    before = λ told_new. found.before (lost.before told_new);
    did = λ told_new.
        let told_mid : IsTrue (tells mid) = lost.before told_new in
        let P : Moment → Type 0 = DuringGoing step (now (world old)) in
        ran_joins (world old) (world mid) (world new) P ((found_going old mid found).did told_mid)
        (ran_weakens (world mid) (world new) (OnlyChanged (IsLost step next) (now (world mid))) P
        (λ m only. during_lost step next (now (world old)) (now (world mid)) m later (files told_mid)
        (ran_end (world old) (world mid) (DuringFind step (now (world old))) (found.did told_mid)) only) (lost.did told_new));
  }

-- while that is done in a step of a job which stands, the steps before it are held
holds_lost : (job : Job) (number : ℕ) (c : Checkpoint) (old new : World) → IsOfJob job number → AreFiles (now old).folder
    → Holds job number (now old).folder → JobStands job number (Some c) (now old).folder → Ran (OnlyChanged (IsLost number c.next_part) (now old)) old new
    → Throughout old new (λ (m : Moment). Holds job number m.folder)
holds_lost job number c old new of_job files holds stands run =
    let own : Ran (OnlyChanged (λ f. f.step ≡ number) (now old)) old new =
    changed_more (IsLost number c.next_part) (λ f. f.step ≡ number) old new (λ f lost. lost.step_is) run in
    let safe : Throughout old new (λ (m : Moment). AreSafe (JobGoesOn job number) number m.folder) =
    safe_lost (JobGoesOn job number) (JobRests job number) number (at_local job.n job.text job.steps number) c old new run stands in
    let resumes : Throughout old new (λ (m : Moment). AreResumable job number m.folder) =
    safe_resumes_over job number old new files holds.resumable own safe in
    record {
      later = resumes.later;
      past = resumes.past;
      each = λ k from to.
          holds_while_made job number (now old).folder (new.moment k).folder (let few = of_job.well_formed.few_steps in omega (arith, few)) of_job.within
          holds (own.moments.each k from to).holds (resumes.each k from to);
    }

-- what a call of the folder counted that ended well, and one that failed
folder_fine : {A : Type 0} (old new : Faults) (x : A) → OnlyFolder {T = Unit} old new (Ok tt) → OnlySortShelf old new (Ok x)
folder_fine old new x only = record { later = only.later; cause = λ is. cc; say_is = only.say_is; text_is = only.text_is }

folder_failed : {A : Type 0} (old new : Faults) (e : Failed) → OnlyFolder {T = Unit} old new (Err e) → OnlySortShelf {T = A} old new (Err sort.Shelf)
folder_failed {A} old new e only = record { later = only.later; cause = λ is. only.cause; say_is = only.say_is; text_is = only.text_is }

-- it was found how far the step has come
pub record WasFound {S : Type 0} (tells : S → Bool) (world : S → World) (counts : S → Faults) (budget number : ℕ) (before mid : S) (going : Going) : Type 0 where
  pub content : Told tells before mid (Ran (DuringFind number (now (world before))) (world before) (world mid))
  pub going_of : IsGoingOf number budget going
  pub found : IsTrue (tells mid) → IsFound number (now (world mid)).folder going.last
  pub calls : IsTrue (tells mid) → (world mid).clock ≤ (world before).clock + 590
  pub few_calls : IsTrue (tells mid) → going.last ≡ None → (world mid).clock ≤ (world before).clock + 2
  pub faults : OnlyShelf (counts before) (counts mid) (Ok going)

module _ {S : Type 0} (tells : S → Bool) (world : S → World) (counts : S → Faults)
    (files_are : (s : S) → IsTrue (tells s) → AreFiles (now (world s)).folder) (budget number : ℕ) (enough : 16384 ≤ budget)
    (before mid : S) (going : Going) (was : WasFound tells world counts budget number before mid going) where
  last_told : IsTrue (tells mid) → Tells number (last_gated number (present (now (world before)).folder)) going.last
  last_told told_mid = told_before number (now (world before)) (now (world mid)) going.last
      (ran_end (world before) (world mid) (DuringFind number (now (world before))) (was.content.did told_mid)) (was.found told_mid).last

  holds_first : IsTrue (tells mid) → (job : Job) → IsOfJob job number → Holds job number (now (world before)).folder
      → Throughout (world before) (world mid) (λ (m : Moment). Holds job number m.folder)
  holds_first told_mid job of_job holds = holds_throughout job number of_job (world before) (world mid) holds (was.content.did told_mid)

  stands_first : IsTrue (tells mid) → (job : Job) → IsOfJob job number → Holds job number (now (world before)).folder
      → JobStands job number going.last (now (world mid)).folder
  stands_first told_mid job of_job holds =
      stands_found job number of_job (world before) (world mid) going.last (files_are before (was.content.before told_mid)) (files_are mid told_mid)
      holds (was.content.did told_mid) (last_told told_mid) (was.found told_mid)

  -- reads give what they gave
  same_found : IsTrue (tells mid) → (f : FileNo) → (file (world mid) f).bytes ≡ (file (world before) f).bytes
  same_found told_mid f = (ran_end (world before) (world mid) (DuringFind number (now (world before)))
      (was.content.did told_mid)).reads f

  -- where nothing is gated, or no runs are kept, that is all
  pub finds_all : ((c : Checkpoint) → going.last ≡ Some c → c.tables ≡ 0) → FindsGoing tells world counts number before mid (Ok going)
  finds_all without = record {
    content = found_going tells world number before mid was.content;
    going = may_go_on number budget going enough was.going_of;
    last = last_told;
    lost = λ told_mid c some has. absurd (has (without c some));
    untaken = λ told_mid f free none. same_found told_mid f ∙ none;
    holds = holds_first;
    stands = stands_first;
    sound = tt;
    damaged = tt;
    kind = tt;
    calls = λ told_mid. let few = was.calls told_mid in omega (arith, few);
    gated_calls = λ told_mid. inl (was.calls told_mid);
    few_calls = was.few_calls;
    faults = shelf_fine _ _ going going was.faults;
  }

  -- otherwise what was lost behind the checkpoint was given up, or some of it
  module _ (c : Checkpoint) (last_is : going.last ≡ Some c) (after : S)
      (gone : Told tells mid after (Ran (OnlyChanged (IsLost number c.next_part) (now (world mid))) (world mid) (world after)))
      (cuts : IsTrue (tells after) → (world after).clock ≤ (world mid).clock + 3300) where
    content_then : Told tells before after (Ran (DuringGoing number (now (world before))) (world before) (world after))
    content_then =
        let come : IsComeTo (Some c) going = subst (λ last. IsComeTo last going) last_is was.going_of.come_to in
        lost_going tells world number c.next_part before mid after come.2.parts.0 (files_are mid) was.content gone

    stands_then : IsTrue (tells mid) → (job : Job) → IsOfJob job number → Holds job number (now (world before)).folder
        → JobStands job number (Some c) (now (world mid)).folder
    stands_then told_mid job of_job holds =
        subst (λ last. JobStands job number last (now (world mid)).folder) last_is (stands_first told_mid job of_job holds)

    holds_then : IsTrue (tells after) → (job : Job) → IsOfJob job number → Holds job number (now (world before)).folder
        → Throughout (world before) (world after) (λ (m : Moment). Holds job number m.folder)
    holds_then told_after job of_job holds =
        let told_mid : IsTrue (tells mid) = gone.before told_after in
        let first = holds_first told_mid job of_job holds in
        joins (world before) (world mid) (world after) (λ m. Holds job number m.folder) first
        (holds_lost job number c (world mid) (world after) of_job (files_are mid told_mid) (at_end (world before) (world mid) (λ m. Holds job number m.folder) first)
        (stands_then told_mid job of_job holds) (gone.did told_after))

    calls_then : IsTrue (tells after) → (world after).clock ≤ (world before).clock + 3890
    calls_then told_after =
        let first = was.calls (gone.before told_after) in
        let more = cuts told_after in
        omega (arith, first, more)

    gated_then : IsTrue (tells after) → ((world after).clock ≤ (world before).clock + 590)
        ⊎ ((d : Checkpoint) × Tells number (last_gated number (present (now (world before)).folder)) (Some d))
    gated_then told_after = inr (c, subst (Tells number (last_gated number (present (now (world before)).folder))) last_is (last_told (gone.before told_after)))

    pub finds_lost : (IsTrue (tells after) → (f : FileNo) → IsLost number c.next_part f → (file (world after) f).bytes ≡ [])
        → OnlyFolder {T = Unit} (counts mid) (counts after) (Ok tt) → FindsGoing tells world counts number before after (Ok going)
    finds_lost empty faults = record {
      content = content_then;
      going = may_go_on number budget going enough was.going_of;
      last = λ told_after. last_told (gone.before told_after);
      lost = λ told_after d is has f lost.
          empty told_after f (subst (λ (x : Checkpoint). IsLost number x.next_part f) (same_Some d c (sym is ∙ last_is)) lost);
      untaken = λ told_after f free none.
          let first : (file (world mid) f).bytes ≡ [] = same_found (gone.before told_after) f ∙ none in
          elim (lost_or_not number c.next_part f free.step_is) [
            | inl lost ↦ empty told_after f lost
            | inr apart ↦ ap (λ (x : File). x.bytes)
                (ran_end (world mid) (world after) (OnlyChanged (IsLost number c.next_part) (now (world mid)))
                (gone.did told_after) f apart) ∙ first
          ];
      holds = holds_then;
      stands = λ told_after job of_job holds.
          subst (λ last. JobStands job number last (now (world after)).folder) (sym last_is)
          (standing_lost (JobGoesOn job number) (JobRests job number) number (at_local job.n job.text job.steps number) c (world mid) (world after)
          (gone.did told_after) (stands_then (gone.before told_after) job of_job holds));
      sound = tt;
      damaged = tt;
      kind = tt;
      calls = calls_then;
      gated_calls = gated_then;
      few_calls = λ told_after none. absurd (none-some c (sym none ∙ last_is));
      faults = sort_shelf_then (counts before) (counts mid) (counts after) (Ok going) (Ok going) (shelf_fine _ _ going going was.faults)
          (folder_fine (counts mid) (counts after) going faults);
    }

    pub finds_failed : (e : Failed) → OnlyFolder {T = Unit} (counts mid) (counts after) (Err e)
        → FindsGoing tells world counts number before after (Err sort.Shelf)
    finds_failed e faults = record {
      content = content_then;
      going = tt;
      last = tt;
      lost = tt;
      untaken = tt;
      holds = holds_then;
      stands = tt;
      sound = λ told_after job of_job holds. refl;
      damaged = λ told_after. inl refl;
      kind = λ is. cc;
      calls = calls_then;
      gated_calls = gated_then;
      few_calls = tt;
      faults = sort_shelf_then (counts before) (counts mid) (counts after) (Ok going) (Err sort.Shelf) (shelf_fine _ _ going going was.faults)
          (folder_failed (counts mid) (counts after) e faults);
    }
