-- The calls of steps that are made at once, and what a stop costs meanwhile.
use Rattle.std.proofs.Common.{◌≡◌, ◌∙◌, ℕ, zero, suc, ◌+◌, ◌-◌, ◌*◌, ◌^◌, ◌≤◌, Bool, List, length, take, refl, sym, ap, subst, arith}
use Rattle.std.specs.Prelude.{IsTrue, Some, None, Ok, Err}
use Rattle.std.proofs.lemmas.List.{take_all}
use Rattle.bool_tables.specs.Plans.{IsWellFormed}
use Rattle.shelf_model.specs.declared.fault.Failed.{Failed}
use Rattle.shelf_model.specs.declared.file_no.FileNo.{FileNo}
use Rattle.shelf_model.specs.Calls.{Told}
use Rattle.shelf_model.specs.Faults.{Faults}
use Rattle.shelf_model.specs.File.{IsLeft, IsKept}
use Rattle.shelf_model.specs.Folder.{Folder, Image, file_in, bytes_in, IsImage, AreFiles}
use Rattle.shelf_model.specs.Moments.{Ran}
use Rattle.shelf_model.specs.World.{World, now}
use Rattle.shelf_model.proofs.Files.{only_image}
use Rattle.shelf_model.proofs.Runs.{ran_end}
use Rattle.catalogue.specs.declared.layout.Entry.{Entry}
use Rattle.catalogue.specs.Commits.{DuringCommits, AreCommitted}
use Rattle.catalogue.specs.Counts.{present, count_in}
use Rattle.catalogue.specs.Files.{catalogue}
use Rattle.catalogue.proofs.Counted.{ready_counts}
use Rattle.sound_image.specs.Jobs.{Job}
use Rattle.script_runner.specs.AtOnce.{HoldsUngated, AreBounded, DuringGather, AreGathered, Gathers, MorePays}
use Rattle.script_runner.specs.Calls.{calls_before}
use Rattle.script_runner.specs.StepRuns.{IsTaking, CountsAbout}
use Rattle.script_runner.specs.Stops.{committed_turns, paid_in}
use Rattle.script_runner.specs.Together.{OnlyEmptied, IsDropped}
use Rattle.script_runner.proofs.AtOnceFiles.{run_gathered, run_committed, run_cut, catalogue_sure, ready_u}
use Rattle.script_runner.proofs.StopLaws.{committed_same, turns_of, kept_turns, one_more_turns, paid_least}
use Rattle.script_runner.proofs.Taking.{Takes, calls_least}

-- more steps have no fewer turns
turns_grow : (n more : ℕ) (r : FileNo → List ℕ) → committed_turns n r ≤ committed_turns (n + more) r
turns_grow n zero r = let none : n ≡ n + zero = omega arith in subst (λ k. committed_turns n r ≤ committed_turns k r) none (omega arith)
turns_grow n (suc more) r =
    let before = turns_grow n more r in
    let one = one_more_turns (n + more) r in
    let next : n + more + 1 ≡ n + suc more = omega arith in
    subst (λ k. committed_turns n r ≤ committed_turns k r) next (omega (arith, before, one))

-- so an image with these steps or more pays for the turns of these
pays_those : (job : Job) (from : ℕ) (r : FileNo → List ℕ) → from ≤ count_in r → 256 * committed_turns from r ≤ paid_in job r
pays_those job from r low =
    let least : 256 * committed_turns (count_in r) r ≤ paid_in job r = paid_least job (count_in r) r refl in
    let sum : from + (count_in r - from) ≡ count_in r = omega (arith, low) in
    let grow : committed_turns from r ≤ committed_turns (count_in r) r =
    subst (λ n. committed_turns from r ≤ committed_turns n r) sum (turns_grow from (count_in r - from) r) in
    omega (arith, least, grow)

-- the turns of steps whose entries are kept, as they are read
present_turns : (from : ℕ) (folder : Folder) (front : List ℕ) → length front ≡ 128 * from → IsKept front (file_in folder catalogue)
    → committed_turns from (present folder) ≡ turns_of from front
present_turns from folder front size kept =
    committed_same from (present folder) (λ f. front)
    (ap (λ k. take k (file_in folder catalogue).bytes) (sym size) ∙ kept.same ∙ sym (take_all (128 * from) front (omega (arith, size))))

-- while steps are taken each image pays for the committed ones
taking_pays : (job : Job) (from until : ℕ) (old new : World) → HoldsUngated job from (now old).folder → Ran (Takes job from until old) old new
    → new.clock ≤ old.clock + 2 ^ 21 → (k : ℕ) → old.clock ≤ k → k ≤ new.clock → (image : Image) → IsImage (new.moment k).folder image
    → (256 * committed_turns from (present (now old).folder) ≤ paid_in job (bytes_in image)) × (k ≤ old.clock + 2 ^ 21)
taking_pays job from until old new ungated run few k since to image is_image =
    let taking : IsTaking (length job.steps) from until (now old).folder (new.moment k).folder = (run.moments.each k since to).holds in
    let entries = ungated.holds.entries in
    let size = entries.size in
    let turns : committed_turns from (bytes_in image) ≡ turns_of from entries.front =
    kept_turns from (new.moment k).folder entries.front size (taking.kept entries.front (omega (arith, size)) entries.kept) image is_image in
    let before : committed_turns from (present (now old).folder) ≡ turns_of from entries.front =
    present_turns from (now old).folder entries.front size entries.kept in
    let counted : CountsAbout from until (bytes_in image) = taking.counts image is_image in
    let least = pays_those job from (bytes_in image) counted.no_fewer in
    (omega (arith, least, turns, before), omega (arith, to, few))

module _ {S : Type 0} (tells : S → Bool) (world : S → World) (counts : S → Faults) (law : (s : S) → IsTrue (tells s) → AreFiles (now (world s)).folder)
    (job : Job) (plan : IsWellFormed job.n job.text job.steps) (from until spare left : ℕ) (within : from ≤ until) (upto : until ≤ length job.steps)
    (old s : S) where
  -- a call failed while steps were gathered
  module _ (fault : Failed) (gathers : Gathers tells world counts job from until spare left old s (Err fault)) where
    pub gather_calls : IsTrue (tells s) → AreBounded job from (now (world old)).folder
        → (world s).clock + calls_before job from ≤ (world old).clock + spare + calls_before job until
    gather_calls tells_s bounded = let few = gathers.within tells_s bounded in omega (arith, few)

    pub gather_pays : (failed : Failed) → IsTrue (tells s) → HoldsUngated job from (now (world old)).folder
        → MorePays job from spare left (Err failed) (world old) (world s)
    gather_pays failed tells_s ungated = record {
      each = taking_pays job from until (world old) (world s) ungated
          (run_gathered tells world counts law job plan from until spare left within upto old s (Err fault) gathers tells_s)
          (let few = gathers.short tells_s in omega (arith, few));
      ends = tt;
    }

  -- none was made
  module _ (gathers : Gathers tells world counts job from until spare left old s (Ok None)) (tells_s : IsTrue (tells s)) where
    gathered_none : AreGathered job from None spare left (world old) (world s)
    gathered_none = gathers.gathered tells_s

    pub none_calls : AreBounded job from (now (world old)).folder
        → (world s).clock + left + calls_before job from ≤ (world old).clock + spare + calls_before job from
    none_calls bounded =
        let few : (world s).clock + (left + 4 * from) + calls_before job from ≤ (world old).clock + (spare + 4 * from) + calls_before job from =
        gathered_none.counted bounded in
        omega (arith, few)

    pub none_within : AreBounded job from (now (world old)).folder
        → (world s).clock + calls_before job from ≤ (world old).clock + spare + calls_before job until
    none_within bounded = let few = gathers.within tells_s bounded in omega (arith, few)

    pub none_pays : HoldsUngated job from (now (world old)).folder → MorePays job from spare left (Ok None) (world old) (world s)
    none_pays ungated =
        let run = run_gathered tells world counts law job plan from until spare left within upto old s (Ok None) gathers tells_s in
        let each = taking_pays job from until (world old) (world s) ungated run (let few = gathers.short tells_s in omega (arith, few)) in
        record {
          each = each;
          ends = λ image is_image.
              let least = (each (world s).clock run.moments.later (omega arith) image is_image).0 in
              let turns_are : committed_turns from (present (now (world s)).folder)
              ≡ committed_turns from (present (now (world s)).folder) + gathered_none.turns = gathered_none.turns_are in
              let few : (world s).clock + (left + 4 * from) ≤ (world old).clock + (spare + 4 * from) + 256 * gathered_none.turns = gathered_none.paid in
              omega (arith, least, turns_are, few);
        }

  -- they were made, and are committed
  module _ (e : Entry) (gathers : Gathers tells world counts job from until spare left old s (Ok (Some e))) (waiting : ℕ)
      (all : from + waiting ≡ e.number + 1) (t : S)
      (commits : Told tells s t (Ran (DuringCommits from waiting (now (world s))) (world s) (world t)))
      (few_t : IsTrue (tells t) → (world t).clock ≤ (world s).clock + 3) where
    gathered : IsTrue (tells s) → AreGathered job from (Some e) spare left (world old) (world s)
    gathered tells_s = gathers.gathered tells_s

    -- the calls of each of them are some
    to_until : calls_before job (e.number + 1) ≤ calls_before job until
    to_until =
        let short = gathers.some.1 in
        let sum : e.number + 1 + (until - (e.number + 1)) ≡ until = omega (arith, short) in
        let more : calls_before job (e.number + 1) + 11 * (until - (e.number + 1)) ≤ calls_before job until =
        subst (λ n. calls_before job (e.number + 1) + 11 * (until - (e.number + 1)) ≤ calls_before job n) sum
        (calls_least job (e.number + 1) (until - (e.number + 1)) (omega (arith, sum, upto))) in
        omega (arith, more)

    -- of those that were left for each four do for its part of the commit and for what it drops
    so_many : (new : World) → IsTrue (tells s) → new.clock ≤ (world s).clock + (3 + waiting) → AreBounded job from (now (world old)).folder
        → new.clock + left + calls_before job from ≤ (world old).clock + spare + calls_before job (e.number + 1)
    so_many new tells_s few bounded =
        let least = gathers.some.0 in
        let counted : (world s).clock + (left + 4 * (e.number + 1)) + calls_before job from
        ≤ (world old).clock + (spare + 4 * from) + calls_before job (e.number + 1) = (gathered tells_s).counted bounded in
        omega (arith, least, all, few, counted)

    few_in_all : (new : World) → IsTrue (tells s) → new.clock ≤ (world s).clock + (3 + waiting) → new.clock ≤ (world old).clock + 2 ^ 21
    few_in_all new tells_s few = let short = gathers.short tells_s in let most = gathers.some.2 in omega (arith, few, short, most, all)

    -- a call failed while they were committed
    pub commit_calls : IsTrue (tells t) → AreBounded job from (now (world old)).folder
        → (world t).clock + calls_before job from ≤ (world old).clock + spare + calls_before job until
    commit_calls tells_t bounded =
        let few = few_t tells_t in
        let so = so_many (world t) (commits.before tells_t) (omega (arith, few)) bounded in
        let more = to_until in
        omega (arith, so, more)

    pub commit_pays : (failed : Failed) → IsTrue (tells t) → HoldsUngated job from (now (world old)).folder
        → MorePays job from spare left (Err failed) (world old) (world t)
    commit_pays failed tells_t ungated = record {
      each = taking_pays job from until (world old) (world t) ungated
          (run_committed tells world counts law job plan from until spare left within upto old s e gathers waiting all t commits
          (commits.before tells_t) tells_t)
          (few_in_all (world t) (commits.before tells_t) (let few = few_t tells_t in omega (arith, few)));
      ends = tt;
    }

    -- and what they drop is cut
    module _ (committed : IsTrue (tells t) → AreCommitted from waiting (now (world s)).folder (now (world t)).folder) (u : S)
        (cuts : Told tells t u (Ran (OnlyEmptied (IsDropped job.steps from (e.number + 1)) (now (world t))) (world t) (world u)))
        (few_u : IsTrue (tells u) → (world u).clock ≤ (world t).clock + (e.number + 1 - from)) (tells_u : IsTrue (tells u)) where
      few_since : (world u).clock ≤ (world s).clock + (3 + waiting)
      few_since = let one = few_t (cuts.before tells_u) in let other = few_u tells_u in omega (arith, one, other, all)

      told_s : IsTrue (tells s)
      told_s = commits.before (cuts.before tells_u)

      pub took_calls : AreBounded job from (now (world old)).folder
          → (world u).clock + left + calls_before job from ≤ (world old).clock + spare + calls_before job (e.number + 1)
      took_calls bounded = so_many (world u) told_s few_since bounded

      pub cut_calls : AreBounded job from (now (world old)).folder
          → (world u).clock + calls_before job from ≤ (world old).clock + spare + calls_before job until
      cut_calls bounded = let so = took_calls bounded in let more = to_until in omega (arith, so, more)

      each_pays : HoldsUngated job from (now (world old)).folder → (k : ℕ) → (world old).clock ≤ k → k ≤ (world u).clock
          → (image : Image) → IsImage ((world u).moment k).folder image
          → (256 * committed_turns from (present (now (world old)).folder) ≤ paid_in job (bytes_in image)) × (k ≤ (world old).clock + 2 ^ 21)
      each_pays ungated = taking_pays job from until (world old) (world u) ungated
          (run_cut tells world counts law job plan from until spare left within upto old s e gathers waiting all t commits committed u cuts tells_u)
          (few_in_all (world u) told_s few_since)

      pub cut_pays : (failed : Failed) → HoldsUngated job from (now (world old)).folder
          → MorePays job from spare left (Err failed) (world old) (world u)
      cut_pays failed ungated = record { each = each_pays ungated; ends = tt }

      -- each image has their entries then, and pays for their turns
      ends_pay : (image : Image) → IsImage (now (world u)).folder image
          → (world u).clock + left + 256 * committed_turns from (present (now (world old)).folder)
          ≤ (world old).clock + spare + paid_in job (bytes_in image)
      ends_pay image is_image =
          let sure = catalogue_sure tells world counts law job plan from until spare left within upto old s e gathers waiting all t commits
          committed u cuts tells_u in
          let ready = ready_u tells world counts law job plan from until spare left within upto old s e gathers waiting all t commits
          committed u cuts tells_u in
          let entries : List ℕ = (file_in (now (world s)).folder catalogue).bytes in
          let bytes : bytes_in image catalogue ≡ entries =
          only_image entries (bytes_in image catalogue) (subst (λ x. IsLeft x (bytes_in image catalogue)) sure (is_image catalogue)) in
          let counted = (ready_counts (e.number + 1) (now (world u)).folder image ready is_image).count in
          let least : 256 * committed_turns (e.number + 1) (bytes_in image) ≤ paid_in job (bytes_in image) =
          paid_least job (e.number + 1) (bytes_in image) counted in
          let turns : committed_turns (e.number + 1) (bytes_in image) ≡ committed_turns (e.number + 1) (present (now (world s)).folder) =
          committed_same (e.number + 1) (bytes_in image) (present (now (world s)).folder) (ap (take (128 * (e.number + 1))) bytes) in
          let before : committed_turns from (present (now (world s)).folder) ≡ committed_turns from (present (now (world old)).folder) =
          committed_same from (present (now (world s)).folder) (present (now (world old)).folder)
          (ran_end (world old) (world s) (DuringGather job.steps from from until (now (world old))) (gathers.content.did told_s)).reads in
          let is = gathered told_s in
          let turns_are : committed_turns (e.number + 1) (present (now (world s)).folder)
          ≡ committed_turns from (present (now (world s)).folder) + is.turns = is.turns_are in
          let paid : (world s).clock + (left + 4 * (e.number + 1)) ≤ (world old).clock + (spare + 4 * from) + 256 * is.turns = is.paid in
          let few = few_since in
          let first = gathers.some.0 in
          omega (arith, least, turns, before, turns_are, paid, few, first, all)

      pub took_pays : HoldsUngated job from (now (world old)).folder → MorePays job from spare left (Ok (Some e)) (world old) (world u)
      took_pays ungated = record { each = each_pays ungated; ends = ends_pay }
