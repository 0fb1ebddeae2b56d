-- What any list of calls in one folder leaves.
use Rattle.std.proofs.Common.{◌≡◌, ◌∙◌, ◌⊎◌, ℕ, ◌^◌, ◌<◌, ◌≤◌, Bool, true, false, List, [], ◌∷◌, ◌++◌, length, refl, sym, ap, subst, inl, inr, arith}
use Rattle.std.specs.Prelude.{IsTrue, Option, Some, None, nat_lt, bytes_eq}
use Rattle.std.proofs.lemmas.List.{append-nil, append_cancel_left}
use Rattle.std.proofs.lemmas.Slice.Eq.{bytes_eq-Decides}
use Rattle.shelf_model.specs.declared.file_no.FileNo.{FileNo}
use Rattle.shelf_model.specs.File.{no_file, IsLeft}
use Rattle.shelf_model.specs.Folder.{Folder, Image, IsImage, file_in, bytes_in}
use Rattle.shelf_model.proofs.Files.{only_image}
use Rattle.shelf_model.proofs.Images.{chosen, standing_image}
use Rattle.shelf_model.specs.World.{Moment, World, now, said}
use Rattle.shelf_model.specs.Moments.{OnlyOldImages}
use Rattle.shelf_model.specs.Faults.{Faults}
use Rattle.blif_reader.specs.declared.fault.BlifFault.{BlifFault}
use Rattle.catalogue.specs.Files.{job_file, job_gate, step_gate}
use Rattle.catalogue.specs.Counts.{present, is_stored, count_in}
use Rattle.catalogue.specs.Standings.{without_budget}
use Rattle.command_words.specs.Readings.{Reading, run, list, gen, reading_of}
use Rattle.sound_image.specs.Files.{checkpoint_gate}
use Rattle.sound_image.specs.Jobs.{Job, step_at}
use Rattle.sound_image.specs.Entries.{work_of}
use Rattle.sound_image.specs.Sound.{IsSound}
use Rattle.sound_image.specs.Holds.{AreSound}
use Rattle.sound_image.proofs.AttachLaws.{standing}
use Rattle.sound_image.proofs.Resuming.{none_resumes}
use Rattle.script_reader.specs.declared.fault.ScriptFault.{ScriptFault}
use Rattle.script_reader.specs.declared.plan.Plan.{Plan}
use Rattle.script_runner.specs.Said.{whole_lines, said_count}
use Rattle.script_runner.specs.Running.{SaysOnly, IsSafe}
use Rattle.script_runner.specs.Fetching.{OnlyFetched}
use Rattle.script_runner.specs.JobOf.{job_bytes, job_of}
use Rattle.script_runner.specs.Entered.{EndsRun, RefusesOther, NamesSpentStep, IsMoment, RunsIn}
use Rattle.script_runner.specs.Text.{usage_line, netlist_line, refused_line, run_text}
use Rattle.script_runner.specs.Source.{Source, IsSource, folder_of, Plans, IsFaulty, HasFaultyNetlist}
use Rattle.script_runner.specs.Listed.{ListsIn}
use Rattle.script_runner.specs.Outcome.{Accepts, HasNoMemory, SaysLine, EndsSource, RunsAsked, RunsTexts, EndsRan, Ends, StatusHasCause, IsSmall, NoneRose}
use Rattle.script_runner.specs.Lives.{Life, SameFiles, IsLeftOf, IsLife, RunsPlan, StaysOut, AreStored, AreLives, LifeKeeps, LivesKeep}
use Rattle.script_runner.proofs.Sources.{one_some, some_or_none, one_asked, one_planned, planned_or_faulty, netlist_is_good, job_has_texts, same_job, one_accepted}

-- words that ask for a plan ask for this source
same_asked : (w : World) (asked : Option Reading) (p : Plan) (r : Reading) (source : Source) → asked ≡ Some r
    → IsSource w r source → (accepts : Accepts w asked p) → accepts.source ≡ source
same_asked w asked p r source is source_is accepts =
    one_asked w asked accepts.source source accepts.asks (record { reading = r; asked_is = is; source_is = source_is })

-- they name no faulty netlist
no_faulty_netlist : (w : World) (asked : Option Reading) (p : Plan) (r : Reading) (fault : BlifFault) → asked ≡ Some r
    → HasFaultyNetlist w r fault → ¬ (Accepts w asked p)
no_faulty_netlist w asked p r fault is faulty accepts =
    let readings : accepts.asks.reading ≡ r = one_some accepts.asks.reading r asked accepts.asks.asked_is is in
    netlist_is_good w r accepts.source p fault (subst (λ x. IsSource w x accepts.source) readings accepts.asks.source_is)
    accepts.plans faulty

-- and no faulty script
no_faulty_script : (w : World) (asked : Option Reading) (p : Plan) (r : Reading) (source : Source) (fault : ScriptFault)
    → asked ≡ Some r → IsSource w r source → IsFaulty source fault → ¬ (Accepts w asked p)
no_faulty_script w asked p r source fault is source_is faulty accepts =
    planned_or_faulty source p fault (subst (λ s. Plans s p) (same_asked w asked p r source is source_is accepts) accepts.plans)
    faulty

-- and no list
pub no_list : (w : World) (asked : Option Reading) (p : Plan) (path : List ℕ) → asked ≡ Some (list path) → ¬ (Accepts w asked p)
no_list w asked p path is accepts =
    subst (λ r. IsSource w r accepts.source) (one_some accepts.asks.reading (list path) asked accepts.asks.asked_is is)
    accepts.asks.source_is

-- an image without bytes is sound for every job
pub empty_is_sound : (job : Job) (r : FileNo → List ℕ) → ((f : FileNo) → r f ≡ []) → IsSound job r
empty_is_sound job r empty = record {
  shown = inl (ap (λ bytes. nat_lt 0 (length bytes)) (empty job_gate), empty step_gate);
  resumable = record {
    unstored = λ none s from within. empty (checkpoint_gate s);
    goes_on = none_resumes job (count_in r) r (λ s from within. empty (checkpoint_gate s));
  };
}

-- a folder without files has no other image
pub new_folder_is_sound : (job : Job) (folder : Folder) → ((f : FileNo) → file_in folder f ≡ no_file) → AreSound job folder
new_folder_is_sound job folder empty image is_image =
    empty_is_sound job (bytes_in image) (λ f. only_image [] (bytes_in image f) (subst (λ x. IsLeft x (bytes_in image f)) (empty f) (is_image f)))

-- what holds of each image of a folder holds of each image of what is left of it
of_left : (P : (FileNo → List ℕ) → Type 0) (folder left : Folder) → IsLeftOf folder left → ((image : Image) → IsImage folder image → P (bytes_in image))
    → (image : Image) → IsImage left image → P (bytes_in image)
of_left P folder left leaves all image is_image = all image (leaves image is_image)

-- the images of a folder that another one is like
pub alike : (a b : Folder) → SameFiles a b → (image : Image) → IsImage a image → IsImage b image
alike a b same image is_image f = subst (λ x. IsLeft x (bytes_in image f)) (same f) (is_image f)

alike_back : (a b : Folder) → SameFiles a b → (image : Image) → IsImage b image → IsImage a image
alike_back a b same image is_image f = subst (λ x. IsLeft x (bytes_in image f)) (sym (same f)) (is_image f)

module _ (source : Source) (plan : Plan) (plans : Plans source plan) (folder : Folder) (life : Life) (sound : AreSound (job_of source plan) folder) (is : IsLife folder life) where
  abbrev then : Moment
  then = life.new.moment life.at

  -- a call that left only images that were there, and ran this job only as far as it said nothing
  keeps_images : OnlyOldImages (now life.old) then → (RunsPlan source plan life → life.told ≡ []) → LifeKeeps source plan folder life
  keeps_images old_images silent = record {
    sound = of_left (IsSound (job_of source plan)) then.folder life.left is.leaves (λ image is_image. sound image (was_there image is_image));
    has_old = λ count reaches. of_left (λ r. count ≤ count_in r) then.folder life.left is.leaves (λ image is_image. reaches image (was_there image is_image));
    still_stored = λ stored. of_left (λ r. IsTrue (is_stored r)) then.folder life.left is.leaves (λ image is_image. stored image (was_there image is_image));
    has_said = λ runs. record {
      lines = [];
      told = record { tail = []; told_is = silent runs; tail_is = inl refl };
      has_steps = λ image is_image. omega (arith, none_said);
      has_job = λ some. absurd (omega (arith, some, no_lines));
    };
  }
    where
      was_there : (image : Image) → IsImage then.folder image → IsImage folder image
      was_there image is_image = alike (now life.old).folder folder is.found image (old_images image is_image)

      none_said : said_count (count_in (present folder)) plan.lines [] ≡ 0
      none_said = refl

      no_lines : whole_lines [] ≡ 0
      no_lines = refl

  -- a line was said and no file touched
  keeps_saying : (line : List ℕ) → SaysOnly line life.old life.new → ¬ (RunsPlan source plan life) → LifeKeeps source plan folder life
  keeps_saying line says none = keeps_images
      (λ image is_image. subst (λ (f : Folder). IsImage f image) (says.moments.each life.at is.since is.until).folder_is is_image)
      (λ runs. absurd (none runs))

  -- nothing was said and no file touched
  keeps_silent : OnlyFetched life.old life.new → LifeKeeps source plan folder life
  keeps_silent looked =
      let same : then ≡ now life.old = looked.moments.each life.at is.since is.until in
      keeps_images (λ image is_image. subst (λ (m : Moment). IsImage m.folder image) same is_image) (λ runs.
      append_cancel_left (said life.old) life.told [] (sym is.said_is ∙ ap (λ (m : Moment). m.said) same ∙ sym (append-nil (said life.old))))

  found_sound : AreSound (job_of source plan) (now life.old).folder
  found_sound image is_image = sound image (alike (now life.old).folder folder is.found image is_image)

  -- this job was run
  keeps_run : (path : List ℕ) → RunsIn path (job_of source plan) plan.lines life.status life.old life.new → LifeKeeps source plan folder life
  keeps_run path ran = record {
    sound = of_left (IsSound (job_of source plan)) then.folder life.left is.leaves (λ image is_image. (safe image is_image).sound);
    has_old = λ count reaches. of_left (λ r. count ≤ count_in r) then.folder life.left is.leaves (λ image is_image.
        (safe image is_image).has_old count (λ first is_first. reaches first (alike (now life.old).folder folder is.found first is_first)));
    still_stored = λ stored. of_left (λ r. IsTrue (is_stored r)) then.folder life.left is.leaves (λ image is_image.
        (moment.running.keeps 0 [] refl (λ first is_first. record {
          stored = stored first (alike (now life.old).folder folder is.found first is_first);
          counts = omega arith;
          begins = refl;
        }) image is_image).stored);
    has_said = λ runs. record {
      lines = moment.front;
      told = record { tail = moment.tail; told_is = told_is; tail_is = moment.no_tail found_sound };
      has_steps = of_left (λ r. said_count (count_in (present folder)) plan.lines moment.front ≤ count_in r) then.folder
          life.left is.leaves (λ image is_image.
          subst (λ r. said_count (count_in r) plan.lines moment.front ≤ count_in (bytes_in image)) same_reads
          (safe image is_image).has_said);
      has_job = λ some. of_left (λ r. IsTrue (is_stored r)) then.folder life.left is.leaves
          (λ image is_image. (safe image is_image).stored some);
    };
  }
    where
      moment : IsMoment (job_of source plan) plan.lines (now life.old) then
      moment = ran.leaves.moments.each life.at is.since is.until

      safe : (image : Image) → IsImage then.folder image → IsSafe (job_of source plan) plan.lines (now life.old).folder moment.front (bytes_in image)
      safe = (moment.running.safe_run found_sound).safe

      told_is : life.told ≡ moment.front ++ moment.tail
      told_is = append_cancel_left (said life.old) life.told (moment.front ++ moment.tail)
          (sym is.said_is ∙ moment.said_is)

      same_reads : present (now life.old).folder ≡ present folder
      same_reads = λ i f. ap (λ file. file.bytes) (is.found f) i

  -- another job was to be run, where this one is stored in every image
  keeps_other : (other : Source) (p : Plan) (path : List ℕ) → ¬ (job_bytes 0 other ≡ job_bytes 0 source) → AreStored folder
      → ¬ (RunsPlan source plan life)
      → RunsIn path (job_of other p) p.lines life.status life.old life.new → LifeKeeps source plan folder life
  keeps_other other p path differ stored none ran = keeps_images (refuses.moments.each life.at is.since is.until).1 (λ runs. absurd (none runs))
    where
      first : Image
      first = chosen (λ _ x. x.bytes) (now life.old).folder

      is_first : IsImage (now life.old).folder first
      is_first = standing_image (now life.old).folder is.files

      standing_reads : (f : FileNo) → bytes_in first f ≡ present (now life.old).folder f
      standing_reads = standing (now life.old).folder is.files

      stored_here : IsTrue (is_stored (present (now life.old).folder))
      stored_here = subst (λ a. IsTrue (nat_lt 0 (length a))) (standing_reads job_gate) (stored first (alike (now life.old).folder folder is.found first is_first))

      job_here : without_budget (present (now life.old).folder job_file) ≡ job_bytes 0 source
      job_here = elim (found_sound first is_first).shown [
        | inl unstored ↦ absurd (both (bytes_in first) (present (now life.old).folder) (standing_reads job_gate) stored_here unstored.0)
        | inr shown ↦ ap without_budget (sym (standing_reads job_file)) ∙ shown.job_is
      ]
        where
          both : (r q : FileNo → List ℕ) → r job_gate ≡ q job_gate → IsTrue (is_stored q) → is_stored r ≡ false → ⊥
          both r q same x y = let e : is_stored r ≡ is_stored q = ap (λ bytes. nat_lt 0 (length bytes)) same in cc

      refuses : RefusesOther (job_bytes 0 other) life.status (now life.old) life.old life.new
      refuses = ran.leaves.other (record { stored = stored_here; other = λ same. differ (sym same ∙ job_here) })

  -- this job or another one
  keeps_ran : RunsPlan source plan life ⊎ StaysOut life ⊎ AreStored folder
      → EndsRan (reading_of life.words) life.status life.old life.new → LifeKeeps source plan folder life
  keeps_ran which ran = by_job (bytes_eq here (job_bytes 0 source)) refl
    where
      path : List ℕ
      path = folder_of ran.asks.reading

      here : List ℕ
      here = job_bytes 0 ran.source

      accepts : Accepts life.old (reading_of life.words) ran.runs.plan
      accepts = record { source = ran.source; asks = ran.asks; plans = ran.runs.plans }

      same_bytes : RunsPlan source plan life → here ≡ job_bytes 0 source
      same_bytes runs = ap (job_bytes 0)
          ((one_accepted life.old (reading_of life.words) ran.runs.plan plan accepts runs.accepts).0 ∙ runs.source_is)

      other_job : ¬ (here ≡ job_bytes 0 source) → LifeKeeps source plan folder life
      other_job differ = elim which [
        | inl runs ↦ absurd (differ (same_bytes runs))
        | inr rest ↦ elim rest [
          | inl out ↦ absurd (out ran)
          | inr stored ↦ keeps_other ran.source ran.runs.plan path differ stored (λ runs. differ (same_bytes runs)) ran.runs.run
        ]
      ]

      this_job : here ≡ job_bytes 0 source → LifeKeeps source plan folder life
      this_job same =
          let texts = job_has_texts ran.source source ran.runs.plan plan ran.runs.plans plans same in
          let planned : ran.runs.plan ≡ plan =
          one_planned ran.source source ran.runs.plan plan texts.0 texts.1 ran.runs.plans plans in
          let jobs : job_of ran.source ran.runs.plan ≡ job_of source plan =
          same_job ran.source source ran.runs.plan plan same texts.0 planned in
          keeps_run path (subst (λ (p : Plan). RunsIn path (job_of source plan) p.lines life.status life.old life.new) planned
          (subst (λ (j : Job). RunsIn path j ran.runs.plan.lines life.status life.old life.new) jobs ran.runs.run))

      by_job : (b : Bool) → bytes_eq here (job_bytes 0 source) ≡ b → LifeKeeps source plan folder life
      by_job true e = this_job ((bytes_eq-Decides here (job_bytes 0 source)).0 e)
      by_job false e = other_job (λ same.
          (let equal : bytes_eq here (job_bytes 0 source) ≡ true = (bytes_eq-Decides here (job_bytes 0 source)).1 same in
          not_both (bytes_eq here (job_bytes 0 source)) equal e))
        where
          not_both : (b : Bool) → b ≡ true → b ≡ false → ⊥
          not_both b x y = cc

  -- the source that the words ask for was run
  keeps_asked : (r : Reading) → RunsPlan source plan life ⊎ StaysOut life ⊎ AreStored folder → reading_of life.words ≡ Some r
      → RunsAsked r life.status life.old life.new → LifeKeeps source plan folder life
  keeps_asked r which asked runs = by_end runs.ends
    where
      by_end : EndsSource (folder_of r) runs.source life.status life.old life.new → LifeKeeps source plan folder life
      by_end (inl silent) = keeps_silent silent.1
      by_end (inr (inl refused)) = keeps_saying (refused_line refused.fault) refused.says.only (λ plans_it.
          no_faulty_script life.old (reading_of life.words) plan r runs.source refused.fault asked runs.source_is refused.faulty
          plans_it.accepts)
      by_end (inr (inr ran)) = keeps_ran which (record {
        source = runs.source;
        asks = record { reading = r; asked_is = asked; source_is = runs.source_is };
        runs = ran;
      })

  -- one call, by what its words ask for
  pub life_keeps : RunsPlan source plan life ⊎ StaysOut life ⊎ AreStored folder → LifeKeeps source plan folder life
  life_keeps which = by_words (reading_of life.words) refl
    where
      by_texts : (r : Reading) → reading_of life.words ≡ Some r → RunsTexts r life.status life.old life.new
          → LifeKeeps source plan folder life
      by_texts r asked (inl silent) = keeps_silent silent.1
      by_texts r asked (inr (inl silent)) = keeps_silent silent.1
      by_texts r asked (inr (inr (inl netlist))) = keeps_saying (netlist_line netlist.fault) netlist.says.only (λ runs.
          no_faulty_netlist life.old (reading_of life.words) plan r netlist.fault asked netlist.faulty runs.accepts)
      by_texts r asked (inr (inr (inr runs))) = keeps_asked r which asked runs

      -- diagrams were listed, and no image is new
      by_list : (path : List ℕ) → reading_of life.words ≡ Some (list path)
          → HasNoMemory life.status life.old life.new ⊎ ListsIn path life.status life.old life.new
          → LifeKeeps source plan folder life
      by_list path asked (inl silent) = keeps_silent silent.1
      by_list path asked (inr lists) = keeps_images (lists.leaves.moments.each life.at is.since is.until).images
          (λ runs. absurd (no_list life.old (reading_of life.words) plan path asked runs.accepts))

      by_usage : reading_of life.words ≡ None
          → HasNoMemory life.status life.old life.new ⊎ SaysLine usage_line 2 life.status life.old life.new
          → LifeKeeps source plan folder life
      by_usage unread (inl silent) = keeps_silent silent.1
      by_usage unread (inr says) = keeps_saying usage_line says.only (λ runs.
          some_or_none runs.accepts.asks.reading (reading_of life.words) runs.accepts.asks.asked_is unread)

      by_words : (asked : Option Reading) → reading_of life.words ≡ asked → LifeKeeps source plan folder life
      by_words None is_none = by_usage is_none (is.ends.unread is_none)
      by_words (Some (run path script netlist budget)) asked = by_texts _ asked (is.ends.ran path script netlist budget asked)
      by_words (Some (list path)) asked = by_list path asked (is.ends.listed path asked)
      by_words (Some (gen path size budget)) asked = keeps_asked _ which asked (is.ends.generated path size budget asked)

-- any list of calls, each on what the one before left
pub lives_keep : (source : Source) (plan : Plan) (folder : Folder) (lives : List Life) → Plans source plan
    → AreSound (job_of source plan) folder → AreLives source plan folder lives → LivesKeep source plan folder lives
lives_keep source plan folder [] plans sound are = tt
lives_keep source plan folder (life ∷ lives) plans sound are =
    let keeps : LifeKeeps source plan folder life = life_keeps source plan plans folder life sound are.0 are.1 in
    (keeps, lives_keep source plan life.left lives plans keeps.sound are.2)

-- a run of an accepted script of small steps in a sound folder, without a fault
pub accepted_runs_end : (asked : Option Reading) (plan : Plan) (status : ℕ) (old new : World) (before after : Faults)
    → (accepts : Accepts old asked plan) → AreSound (job_of accepts.source plan) (now old).folder
    → IsSmall (job_of accepts.source plan) → Ends asked status old new → StatusHasCause asked status before after
    → NoneRose asked before after
    → ((status ≡ 0) × (said new ≡ said old ++ run_text (job_of accepts.source plan) plan.lines (present (now old).folder)))
    ⊎ ((status ≡ 9) × OnlyFetched old new)
accepted_runs_end asked plan status old new before after accepts sound small ends causes none =
    by_words accepts.asks.reading accepts.asks.asked_is accepts.asks.source_is
  where
    job : Job
    job = job_of accepts.source plan

    Goal : Type 0
    Goal = ((status ≡ 0) × (said new ≡ said old ++ run_text job plan.lines (present (now old).folder)))
        ⊎ ((status ≡ 9) × OnlyFetched old new)

    by_run : (path : List ℕ) → RunsIn path job plan.lines status old new → EndsRun status
        → (status ≡ 0) × (said new ≡ said old ++ run_text job plan.lines (present (now old).folder))
    by_run path ran which = elim which [
      | inl zero ↦ (zero, ran.leaves.whole sound zero)
      | inr rest ↦ elim rest [
        | inl five ↦ absurd (ran.leaves.goes_on sound (inl five))
        | inr more ↦ elim more [
          | inl seven ↦ absurd (none.folder_same (causes.folder_fault seven))
          | inr last ↦ elim last [
            | inl eight ↦ absurd (none.say_same (causes.say_fault eight))
            | inr end ↦ elim end [
              | inl ten ↦ absurd (ran.leaves.goes_on sound (inr ten))
              | inr eleven ↦ absurd (too_great (ran.leaves.spent eleven))
            ]
          ]
        ]
      ]
    ]
      where
        work : ℕ → ℕ
        work step = work_of job (step_at job step).step

        too_great : NamesSpentStep job plan.lines (now old) old new → ⊥
        too_great names =
            let great : 2 ^ 35 ≤ work names.step = names.spent.work sound in
            let less : work names.step < 2 ^ 35 = small names.step names.spent.within in
            omega (arith, great, less)

    by_asked : (r : Reading) → asked ≡ Some r → RunsAsked r status old new → Goal
    by_asked r is runs = by_end runs.ends
      where
        sources : accepts.source ≡ runs.source
        sources = same_asked old asked plan r runs.source is runs.source_is accepts

        by_end : EndsSource (folder_of r) runs.source status old new → Goal
        by_end (inl silent) = inr silent
        by_end (inr (inl refused)) =
            absurd (no_faulty_script old asked plan r runs.source refused.fault is runs.source_is refused.faulty accepts)
        by_end (inr (inr ran)) = inl (by_run (folder_of r) mine mine.status_is)
          where
            plans : ran.plan ≡ plan
            plans = one_planned runs.source accepts.source ran.plan plan (ap (λ (s : Source). s.script) (sym sources))
                (ap (λ (s : Source). s.netlist) (sym sources)) ran.plans accepts.plans

            mine : RunsIn (folder_of r) job plan.lines status old new
            mine = subst (λ (p : Plan). RunsIn (folder_of r) (job_of accepts.source p) p.lines status old new) plans
                (subst (λ (s : Source). RunsIn (folder_of r) (job_of s ran.plan) ran.plan.lines status old new) (sym sources)
                ran.run)

    by_texts : (r : Reading) → asked ≡ Some r → RunsTexts r status old new → Goal
    by_texts r is (inl silent) = inr silent
    by_texts r is (inr (inl unfetched)) =
        absurd (let fault = causes.text_fault unfetched.0 in none.text_same fault.0 fault.2.0 fault.1 fault.2.1 fault.2.2)
    by_texts r is (inr (inr (inl netlist))) =
        absurd (no_faulty_netlist old asked plan r netlist.fault is netlist.faulty accepts)
    by_texts r is (inr (inr (inr runs))) = by_asked r is runs

    by_words : (r : Reading) → asked ≡ Some r → IsSource old r accepts.source → Goal
    by_words (run folder script netlist budget) is source_is = by_texts _ is (ends.ran folder script netlist budget is)
    by_words (list folder) is source_is = absurd source_is
    by_words (gen folder size budget) is source_is = by_asked _ is (ends.generated folder size budget is)
