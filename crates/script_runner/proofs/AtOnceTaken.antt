-- Steps that are made at once: what taking them leaves, wherever it ends.
use Rattle.std.proofs.Common.{◌≡◌, ◌≢◌, ◌∙◌, ℕ, ◌+◌, ◌-◌, ◌<◌, ◌≤◌, Bool, [], length, sym, subst, refl, arith}
use Rattle.std.specs.Prelude.{IsTrue, Option, Some, None, Result, Ok, Err, IsErrAnd}
use Rattle.bool_tables.specs.declared.steps.Step.TheVariants.{Drop}
use Rattle.bool_tables.specs.Plans.{IsWellFormed}
use Rattle.shelf_model.specs.declared.fault.Failed.{Failed}
use Rattle.shelf_model.specs.Calls.{Told}
use Rattle.shelf_model.specs.Faults.{Faults, OnlyFolder}
use Rattle.shelf_model.specs.Folder.{AreFiles}
use Rattle.shelf_model.specs.Moments.{Ran}
use Rattle.shelf_model.specs.World.{World, now, file}
use Rattle.catalogue.specs.declared.layout.Entry.{Entry}
use Rattle.catalogue.specs.Commits.{DuringCommits, AreCommitted}
use Rattle.sound_image.specs.Files.{node_file}
use Rattle.sound_image.specs.Jobs.{Job, step_at}
use Rattle.script_runner.specs.AtOnce.{Gathers, TakesAtOnce}
use Rattle.script_runner.specs.Together.{OnlyEmptied, IsDropped}
use Rattle.script_runner.proofs.AtOnceFiles.{gather_failed, none_gathered, commit_failed, cut_failed, took_more}
use Rattle.script_runner.proofs.AtOncePays.{gather_calls, gather_pays, none_calls, none_within, none_pays, commit_calls, commit_pays}
use Rattle.script_runner.proofs.AtOncePays.{cut_calls, cut_pays, took_calls, took_pays}
use Rattle.script_runner.proofs.AtOnceLean.{lean_none, lean_took}

-- the counts of two calls, of which the second failed
faults_failed : {T U V : Type 0} (old mid new : Faults) (x : T) (e : Failed) → OnlyFolder {T = T} old mid (Ok x) → OnlyFolder {T = U} mid new (Err e)
    → OnlyFolder {T = V} old new (Err e)
faults_failed old mid new x e first second = record {
  later = let a = first.later in let b = second.later in omega (arith, a, b);
  cause = let a = first.later in let b = second.cause in omega (arith, a, b);
  say_is = second.say_is ∙ first.say_is;
  text_is = λ path. second.text_is path ∙ first.text_is path;
}

-- or neither
faults_both : {T U V : Type 0} (old mid new : Faults) (x : T) (y : U) (z : V) → OnlyFolder {T = T} old mid (Ok x) → OnlyFolder {T = U} mid new (Ok y)
    → OnlyFolder {T = V} old new (Ok z)
faults_both old mid new x y z first second = record {
  later = let a = first.later in let b = second.later in omega (arith, a, b);
  cause = tt;
  say_is = second.say_is ∙ first.say_is;
  text_is = λ path. second.text_is path ∙ first.text_is path;
}

-- an entry that isn't there
none_there : (found : Option Entry) → ((e : Entry) → found ≢ Some e) → found ≡ None
none_there None not = refl
none_there (Some e) not = absurd (not e refl)

module _ {S : Type 0} (tells : S → Bool) (world : S → World) (counts : S → Faults) (law : (s : S) → IsTrue (tells s) → AreFiles (now (world s)).folder)
    (job : Job) (plan : IsWellFormed job.n job.text job.steps) (from until spare left : ℕ) (within : from ≤ until) (upto : until ≤ length job.steps)
    (old s : S) where
  -- what holds of an error holds of what hands it on
  handed : (new : S) (fault : Failed) (result : Result (Option Entry) Failed) → IsErrAnd result (λ f. f ≡ fault)
      → TakesAtOnce tells world counts job from until spare left old new (Err fault) → TakesAtOnce tells world counts job from until spare left old new result
  handed new fault (Ok x) is takes = absurd is
  handed new fault (Err f) is takes = subst (λ x. TakesAtOnce tells world counts job from until spare left old new (Err x)) (sym is) takes

  -- a call failed while they were gathered
  pub gather_stopped : (fault : Failed) (result : Result (Option Entry) Failed) → IsErrAnd result (λ f. f ≡ fault)
      → Gathers tells world counts job from until spare left old s (Err fault) → TakesAtOnce tells world counts job from until spare left old s result
  gather_stopped fault result is gathers = handed s fault result is (record {
    content = gather_failed tells world counts law job plan from until spare left within upto old s (Err fault) gathers fault;
    some = tt;
    calls = tt;
    within = gather_calls tells world counts law job plan from until spare left within upto old s fault gathers;
    stops = gather_pays tells world counts law job plan from until spare left within upto old s fault gathers fault;
    lean = tt;
    left_few = gathers.left_few;
    faults = gathers.faults;
  })

  -- none was made
  pub none_taken : (found : Option Entry) → ((e : Entry) → found ≢ Some e) → Gathers tells world counts job from until spare left old s (Ok found)
      → TakesAtOnce tells world counts job from until spare left old s (Ok None)
  none_taken found not was =
      let gathers : Gathers tells world counts job from until spare left old s (Ok None) =
      subst (λ x. Gathers tells world counts job from until spare left old s (Ok x)) (none_there found not) was in
      record {
        content = none_gathered tells world counts law job plan from until spare left within upto old s gathers;
        some = tt;
        calls = none_calls tells world counts law job plan from until spare left within upto old s gathers;
        within = none_within tells world counts law job plan from until spare left within upto old s gathers;
        stops = none_pays tells world counts law job plan from until spare left within upto old s gathers;
        lean = λ tells_s ungated lean. lean_none tells world counts job plan from until spare left within upto old s tells_s lean gathers;
        left_few = gathers.left_few;
        faults = gathers.faults;
      }

  -- they were made, and are committed
  module _ (found : Option Entry) (e : Entry) (found_is : found ≡ Some e) (was : Gathers tells world counts job from until spare left old s (Ok found)) (t : S)
      (commits : Told tells s t (Ran (DuringCommits from (e.number + 1 - from) (now (world s))) (world s) (world t)))
      (few_t : IsTrue (tells t) → (world t).clock ≤ (world s).clock + 3) where
    gathers : Gathers tells world counts job from until spare left old s (Ok (Some e))
    gathers = subst (λ x. Gathers tells world counts job from until spare left old s (Ok x)) found_is was

    all : from + (e.number + 1 - from) ≡ e.number + 1
    all = let least = gathers.some.0 in omega (arith, least)

    -- a call failed meanwhile
    pub commit_stopped : (fault : Failed) (result : Result (Option Entry) Failed) → IsErrAnd result (λ f. f ≡ fault)
        → OnlyFolder {T = Unit} (counts s) (counts t) (Err fault) → TakesAtOnce tells world counts job from until spare left old t result
    commit_stopped fault result is faults = handed t fault result is (record {
      content = commit_failed tells world counts law job plan from until spare left within upto old s e gathers (e.number + 1 - from) all t commits fault;
      some = tt;
      calls = tt;
      within = commit_calls tells world counts law job plan from until spare left within upto old s e gathers (e.number + 1 - from) all t commits few_t;
      stops = commit_pays tells world counts law job plan from until spare left within upto old s e gathers (e.number + 1 - from) all t commits few_t fault;
      lean = tt;
      left_few = gathers.left_few;
      faults = faults_failed (counts old) (counts s) (counts t) (Some e) fault gathers.faults faults;
    })

    -- and what they drop is cut
    module _ (committed : IsTrue (tells t) → AreCommitted from (e.number + 1 - from) (now (world s)).folder (now (world t)).folder)
        (faults_t : OnlyFolder {T = Unit} (counts s) (counts t) (Ok tt)) (u : S)
        (cuts : Told tells t u (Ran (OnlyEmptied (IsDropped job.steps from (e.number + 1)) (now (world t))) (world t) (world u)))
        (few_u : IsTrue (tells u) → (world u).clock ≤ (world t).clock + (e.number + 1 - from)) where
      so_far : OnlyFolder {T = Unit} (counts old) (counts t) (Ok tt)
      so_far = faults_both (counts old) (counts s) (counts t) (Some e) tt tt gathers.faults faults_t

      -- a call failed meanwhile
      pub cut_stopped : (fault : Failed) (result : Result (Option Entry) Failed) → IsErrAnd result (λ f. f ≡ fault)
          → OnlyFolder {T = Unit} (counts t) (counts u) (Err fault) → TakesAtOnce tells world counts job from until spare left old u result
      cut_stopped fault result is faults = handed u fault result is (record {
        content = cut_failed tells world counts law job plan from until spare left within upto old s e gathers (e.number + 1 - from) all t commits
            committed u cuts fault;
        some = tt;
        calls = tt;
        within = cut_calls tells world counts law job plan from until spare left within upto old s e gathers (e.number + 1 - from) all t commits few_t
            committed u cuts few_u;
        stops = λ tells_u. cut_pays tells world counts law job plan from until spare left within upto old s e gathers (e.number + 1 - from) all t commits
            few_t committed u cuts few_u tells_u fault;
        lean = tt;
        left_few = gathers.left_few;
        faults = faults_failed (counts old) (counts t) (counts u) tt fault so_far faults;
      })

      pub were_taken : OnlyFolder {T = Unit} (counts t) (counts u) (Ok tt)
          → (IsTrue (tells u) → (k gone : ℕ) → from ≤ k → k < e.number + 1 → (step_at job k).step ≡ Drop gone
          → (file (world u) (node_file gone)).bytes ≡ [])
          → TakesAtOnce tells world counts job from until spare left old u (Ok (Some e))
      were_taken faults empty = record {
        content = took_more tells world counts law job plan from until spare left within upto old s e gathers (e.number + 1 - from) all t commits
            committed u cuts empty;
        some = (gathers.some.0, gathers.some.1);
        calls = took_calls tells world counts law job plan from until spare left within upto old s e gathers (e.number + 1 - from) all t commits few_t
            committed u cuts few_u;
        within = cut_calls tells world counts law job plan from until spare left within upto old s e gathers (e.number + 1 - from) all t commits few_t
            committed u cuts few_u;
        stops = took_pays tells world counts law job plan from until spare left within upto old s e gathers (e.number + 1 - from) all t commits few_t
            committed u cuts few_u;
        lean = λ tells_u ungated lean.
            let tells_t = cuts.before tells_u in
            lean_took tells world counts job plan from until spare left within upto old s (commits.before tells_t) lean e gathers (e.number + 1 - from) t
            (commits.did tells_t) u (cuts.did tells_u) (empty tells_u);
        left_few = gathers.left_few;
        faults = faults_both (counts old) (counts t) (counts u) tt tt (Some e) so_far faults;
      }
