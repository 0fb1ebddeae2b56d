-- A run of steps: what stays true at every moment.
use Rattle.std.proofs.Common.{◌≡◌, ◌∙◌, ℕ, ◌+◌, ◌-◌, ◌*◌, ◌<◌, ◌≤◌, Bool, true, false, cond, nat_lt, List, [], ◌∷◌, ◌++◌, length, take, drop, get_or, refl, sym, ap, ap₂, subst, inl, inr, arith, append_assoc}
use Rattle.std.specs.Prelude.{IsTrue, Result, Ok, if◌then◌else◌}
use Rattle.std.specs.List.{flat_map, list_all}
use Rattle.std.proofs.lemmas.Bool.{cases_lt, and_parts}
use Rattle.std.proofs.lemmas.List.{append-nil, take-take}
use Rattle.bool_tables.specs.declared.steps.Step.TheVariants as step
use Rattle.bool_tables.specs.declared.steps.Planned.{Planned}
use Rattle.bool_tables.specs.Plans.{IsWellFormed, is_live, operands}
use Rattle.shelf_model.specs.declared.file_no.FileNo.{FileNo}
use Rattle.shelf_model.specs.File.{IsKept}
use Rattle.shelf_model.specs.Folder.{Folder, Image, file_in, bytes_in, IsImage, AreFiles}
use Rattle.shelf_model.specs.World.{Moment, World, now, said}
use Rattle.shelf_model.specs.Moments.{Throughout, Quiet, Ran, Stays}
use Rattle.shelf_model.proofs.Files.{kept_left}
use Rattle.shelf_model.proofs.Images.{chosen, standing_image, all_kept}
use Rattle.shelf_model.proofs.Runs.{joins, weakens, at_end, ran_end}
use Rattle.catalogue.specs.declared.layout.Entry.{Entry}
use Rattle.catalogue.specs.Files.{job_gate, catalogue, step_gate}
use Rattle.catalogue.specs.Counts.{present, is_stored, count_in, entry_at}
use Rattle.catalogue.specs.Commits.{IsReady}
use Rattle.catalogue.specs.Standings.{without_budget, IsBeginning, DuringAttach}
use Rattle.catalogue.proofs.Counted.{ready_counts}
use Rattle.sound_image.specs.Files.{node_file}
use Rattle.step_work.specs.Plans.{no_step}
use Rattle.sound_image.specs.Jobs.{Job}
use Rattle.sound_image.specs.Entries.{IsEntryOfStep}
use Rattle.sound_image.specs.Holds.{Holds, AreSound, HaveAtLeast}
use Rattle.sound_image.proofs.HoldsLaws.{holds_sound, holds_count}
use Rattle.sound_image.proofs.AttachLaws.{standing, sound_while_attached, count_while_attached}
use Rattle.sound_image.proofs.Live.{live_below}
use Rattle.step_engine.proofs.PlanLaws.{operands_live, follows_at}
use Rattle.script_reader.specs.declared.plan.LineEnd.{LineEnd}
use Rattle.script_reader.specs.Lines.{AreLines}
use Rattle.script_runner.specs.declared.finish.Finish.{Finish}
use Rattle.script_runner.specs.declared.given_job.Job as declared
use Rattle.script_runner.specs.JobOf.{job_in}
use Rattle.script_runner.specs.Text.{said_line, done_line, ended_before, lines_from_step, banner_line, start_line, resume_line, run_text}
use Rattle.script_runner.specs.Shapes.{AreShown, IsShape, IsShapeFront}
use Rattle.script_runner.specs.Said.{whole_lines, acknowledged, said_count, no_line}
use Rattle.diagram_list.specs.Saying.{StaysThere}
use Rattle.diagram_list.proofs.SayingLaws.{stays_then, stays_on_shelf}
use Rattle.script_runner.specs.Running.{IsSafe, Begins, AllBegin, WaitsNot, OthersAre, IsRunning, HasSaid, AreEmptied, IsEntryDamage, IsMetDamage, stood_after}
use Rattle.script_runner.specs.StepRuns.{CountsAbout, IsTaking, HasEntry, HasSteps, HoldsSteps, NoneDrops, KeepsLater, TakesSteps}
use Rattle.script_runner.proofs.LineOrder.{none_before, ended_rises}
use Rattle.script_runner.proofs.SweepDamage.{fault_passes, live_not_dropped}
use Rattle.script_runner.proofs.SaidLaws.{whole_lines-append, start_line_is_one, resume_line_is_one, said_below, acknowledged_least}
use Rattle.script_runner.proofs.Shown.{same_entries, still_shown, shown_lines, below_later, says_no_shape}

-- how many steps were committed when the run began, as reads show
abbrev pub done_at : World → ℕ
done_at old = count_in (present (now old).folder)

-- the banner of a run that begins there
abbrev pub banner_at : List LineEnd → World → List ℕ
banner_at lines old = banner_line (present (now old).folder) lines

-- the whole text of a run that begins there
abbrev pub text_at : Job → List LineEnd → World → List ℕ
text_at job lines old = run_text job lines (present (now old).folder)

-- what remains to be said with these lines
abbrev pub remains : Job → List LineEnd → List ℕ
remains job rest = flat_map (said_line job) rest ++ done_line

-- what is known of a job and its lines
pub record IsPlan (job : Job) (lines : List LineEnd) : Type 0 where
  pub well_formed : IsWellFormed job.n job.text job.steps
  pub are_lines : AreLines job.steps lines

-- the plan of a job that a run is given
pub plan_in : (job : declared.Job) → IsPlan (job_in job) job.lines.now
plan_in job = record { well_formed = job.well_formed; are_lines = job.are_lines }

-- what holds at a moment of a run that began there
abbrev pub IsGoing : Job → List LineEnd → World → Moment → Type 0
IsGoing job lines old m = HasSaid (IsRunning job lines (now old).folder) (now old) m

-- a run so far
pub record Ongoing (job : Job) (lines : List LineEnd) (old new : World) : Type 0 where
  pub moments : Throughout old new (IsGoing job lines old)
  pub stays : StaysThere old new

-- a sound run so far: this was said since, that remains, and so many steps are held
pub record Sounds (job : Job) (lines : List LineEnd) (count : ℕ) (since todo : List ℕ) (old new : World) : Type 0 where
  pub text_is : text_at job lines old ≡ since ++ todo
  pub holds : Holds job count (now new).folder

-- the file of each diagram that was there at first is as it was, unless one of the steps so far drops it
abbrev pub KeepsUndropped : List Planned → ℕ → ℕ → Folder → Folder → Type 0
KeepsUndropped steps done step old new = (k : ℕ) → k < done → NoneDrops steps 0 step k
    → file_in new (node_file k) ≡ file_in old (node_file k)

-- the catalogue so far: the entries that were there at first stay, as they are sure and as they are read, each step since has its entry,
-- what these steps drop is empty, and the diagrams that were there at first and that none drops stay, and so do the files of the steps that remain
pub record HasMade (steps : List Planned) (done step : ℕ) (old new : Folder) : Type 0 where
  pub kept : (front : List ℕ) → length front ≤ 128 * done → IsKept front (file_in old catalogue) → IsKept front (file_in new catalogue)
  pub reads : take (128 * done) (file_in new catalogue).bytes ≡ take (128 * done) (file_in old catalogue).bytes
  pub made : (k : ℕ) → done ≤ k → k < step → (e : Entry) × HasEntry steps k e (present new)
  pub emptied : AreEmptied steps done step new
  pub keeps : KeepsUndropped steps done step old new
  pub later : KeepsLater step old new

-- where a run stands between two steps: so many are committed, and these lines remain to be said
pub record AtStep (job : Job) (lines : List LineEnd) (step : ℕ) (rest : List LineEnd) (old new : World) : Type 0 where
  pub run : Ongoing job lines old new
  pub ready : IsReady step (now new).folder
  pub reached : done_at old ≤ step
  pub upto : step ≤ length job.steps
  pub spoken : List LineEnd
  pub parts : lines_from_step (done_at old) lines ≡ spoken ++ rest
  pub place : ℕ
  pub place_is : place ≡ ended_before (done_at old) lines + length spoken
  pub within : place ≤ length lines
  pub rest_is : rest ≡ drop place lines
  pub earlier : (i : ℕ) → i < place → (get_or lines i no_line).last < step
  pub waits : ended_before (step - 1) lines ≤ place
  pub body : List ℕ
  pub said_is : said new ≡ said old ++ (banner_at lines old ++ body)
  pub shown : AreShown job.steps (present (now new).folder) spoken body
  pub below : IsTrue (list_all (λ (l : LineEnd). nat_lt l.shows step) spoken)
  pub made : HasMade job.steps (done_at old) step (now old).folder (now new).folder
  pub sound : AreSound job (now old).folder → Sounds job lines step (banner_at lines old ++ body) (remains job rest) old new

-- every image of a folder reaches no more than reads show
pub reaches_present : (folder : Folder) (count : ℕ) → AreFiles folder → HaveAtLeast count folder → count ≤ count_in (present folder)
reaches_present folder count files reaches =
    let image : Image = chosen (λ _ x. x.bytes) folder in
    subst (λ c. count ≤ c) (same_count (bytes_in image) (present folder) (standing folder files job_gate) (standing folder files step_gate))
    (reaches image (standing_image folder files))
  where
    same_count : (r q : FileNo → List ℕ) → r job_gate ≡ q job_gate → r step_gate ≡ q step_gate → count_in r ≡ count_in q
    same_count r q jobs steps = ap₂ (λ a b. if nat_lt 0 (length a) then length b else 0) jobs steps

-- reads show the count of a folder that is ready for a commit
pub present_count : (folder : Folder) (count : ℕ) → AreFiles folder → IsReady count folder → count_in (present folder) ≡ count
present_count folder count files ready =
    let image : Image = chosen (λ _ x. x.bytes) folder in
    same_count (present folder) (bytes_in image) (sym (standing folder files job_gate)) (sym (standing folder files step_gate))
    ∙ (ready_counts count folder image ready (standing_image folder files)).count
  where
    same_count : (r q : FileNo → List ℕ) → r job_gate ≡ q job_gate → r step_gate ≡ q step_gate → count_in r ≡ count_in q
    same_count r q jobs steps = ap₂ (λ a b. if nat_lt 0 (length a) then length b else 0) jobs steps

-- an image that has so many steps is safe, where no more were said
pub safe_with : (job : Job) (lines : List LineEnd) (count : ℕ) (old : Folder) (bytes : List ℕ) (r : FileNo → List ℕ) → AreFiles old → HasSteps job count r
    → said_count (count_in (present old)) lines bytes ≤ count → count_in (present old) ≤ count → IsSafe job lines old bytes r
safe_with job lines count old bytes r files has said_few reached = record {
  sound = has.sound;
  has_said = let counts = has.counts in omega (arith, said_few, counts);
  has_old = λ least reaches.
      let low : least ≤ count_in (present old) = reaches_present old least files reaches in
      let counts = has.counts in
      omega (arith, low, reached, counts);
  stored = λ some. has.stored;
}

-- each image of a folder that holds so many steps has them
pub held_steps : (job : Job) (count : ℕ) (folder : Folder) (image : Image) → Holds job count folder → IsImage folder image → HasSteps job count (bytes_in image)
held_steps job count folder image holds is_image =
    let counted : count_in (bytes_in image) ≡ count = holds_count job count folder holds image is_image in
    record {
      sound = holds_sound job count folder holds image is_image;
      counts = omega (arith, counted);
      stored = (ready_counts count folder image holds.ready is_image).stored;
    }

-- other files are as they were, also after a change of a step's or the job's files
pub others_then : (steps : ℕ) (old mid new : Folder) → OthersAre steps old mid → OthersAre steps mid new → OthersAre steps old new
others_then steps old mid new first second f apart = second f apart ∙ first f apart

-- where every image of a folder begins with entries, so does what is read of it, and they are no more than it counts
begun_few : (folder : Folder) (count : ℕ) (front : List ℕ) → AreFiles folder → AllBegin count front folder → IsTrue (is_stored (present folder)) × (count ≤ count_in (present folder))
begun_few folder count front files begins =
    let image : Image = chosen (λ _ x. x.bytes) folder in
    both (bytes_in image) (present folder) (standing folder files job_gate) (standing folder files step_gate) (begins image (standing_image folder files))
  where
    both : (r q : FileNo → List ℕ) → r job_gate ≡ q job_gate → r step_gate ≡ q step_gate → Begins count front r → IsTrue (is_stored q) × (count ≤ count_in q)
    both r q jobs steps has =
        let stored : IsTrue (is_stored q) = subst (λ a. IsTrue (nat_lt 0 (length a))) jobs has.stored in
        (stored, subst (λ b. count ≤ cond b (length (q step_gate)) 0) (sym stored) (subst (λ a. count ≤ length a) steps has.counts))

-- the same of each image where its catalogue keeps them, a job is stored, and no step is lost
still_begins : (old new : Folder) (count : ℕ) (front : List ℕ) → AreFiles old → AllBegin count front old → IsKept front (file_in new catalogue)
    → ((image : Image) → IsImage new image → IsTrue (is_stored (bytes_in image)) × (count_in (present old) ≤ count_in (bytes_in image))) → AllBegin count front new
still_begins old new count front files begins kept has image is_image = record {
  stored = (has image is_image).0;
  counts = gated (bytes_in image) (has image is_image).0 (has image is_image).1;
  begins = kept_left front (file_in new catalogue) (bytes_in image catalogue) kept (is_image catalogue);
}
  where
    low : count ≤ count_in (present old)
    low = (begun_few old count front files begins).1

    gated : (r : FileNo → List ℕ) → IsTrue (is_stored r) → count_in (present old) ≤ count_in r → count ≤ length (r step_gate)
    gated r stored more = let gate : count_in r ≡ length (r step_gate) = ap (λ b. cond b (length (r step_gate)) 0) stored in omega (arith, low, more, gate)

-- the entries that all images had at first are sure
front_kept : (old : Folder) (count : ℕ) (front : List ℕ) → AreFiles old → AllBegin count front old → IsKept front (file_in old catalogue)
front_kept old count front files begins = all_kept old catalogue front files (λ image is_image. (begins image is_image).begins)

-- the lines of all committed steps but the last were said
pub none_waits : (lines : List LineEnd) (old : Folder) (place most : ℕ) (bytes : List ℕ) (image : Image) → place ≤ length lines → ended_before most lines ≤ place
    → count_in (bytes_in image) - 1 ≤ most → 1 + (place - ended_before (count_in (present old)) lines) ≤ whole_lines bytes → WaitsNot lines old bytes image
none_waits lines old place most bytes image within said_them few feeds =
    let a : ended_before (count_in (bytes_in image) - 1) lines ≤ ended_before most lines = ended_rises (count_in (bytes_in image) - 1) most lines few in
    let b : place ≤ acknowledged (count_in (present old)) lines bytes = acknowledged_least (count_in (present old)) lines bytes place within feeds in
    inr (omega (arith, a, b, said_them))

pub banner_is_one : (lines : List LineEnd) (old : World) → whole_lines (banner_at lines old) ≡ 1
banner_is_one lines old = by_stored (is_stored (present (now old).folder))
  where
    by_stored : (b : Bool) → whole_lines (if b then resume_line (ended_before (done_at old) lines) (length lines) else start_line (length lines)) ≡ 1
    by_stored true = resume_line_is_one (ended_before (done_at old) lines) (length lines)
    by_stored false = start_line_is_one (length lines)

-- the step that a step drops comes before it
pub drop_below : (job : Job) (k gone : ℕ) → IsWellFormed job.n job.text job.steps → k < length job.steps → (get_or job.steps k no_step).step ≡ step.Drop gone → gone < k
drop_below job k gone plan within drops_it =
    let live : IsTrue (list_all (is_live (take k job.steps)) (gone ∷ [])) =
    subst (λ s. IsTrue (list_all (is_live (take k job.steps)) (operands s))) drops_it
    (operands_live job.n job.text (take k job.steps) (get_or job.steps k no_step) (follows_at job.n job.text job.steps k no_step within plan)) in
    live_below job.steps k gone (and_parts (is_live (take k job.steps) gone) true live).0

-- what a part of a text that is said next needs to be
pub record PartSaid (job : Job) (lines : List LineEnd) (count : ℕ) (since part : List ℕ) (old mid : World) : Type 0 where
  pub shape : IsShapeFront job.steps lines (present (now old).folder) (present (now mid).folder) (since ++ part)
  pub waits : (image : Image) → IsImage (now mid).folder image → WaitsNot lines (now old).folder (since ++ part) image
  pub sound : AreSound job (now old).folder → (rest : List ℕ) × (text_at job lines old ≡ (since ++ part) ++ rest) × (said_count (done_at old) lines (since ++ part) ≤ count)

-- such a part was said
abbrev pub SaysPart : Job → List LineEnd → ℕ → List ℕ → World → World → Moment → Type 0
SaysPart job lines count since old mid m = (part : List ℕ) × (m.said ≡ said mid ++ part) × PartSaid job lines count since part old mid

module _ (job : Job) (lines : List LineEnd) (plan : IsPlan job lines) (old : World) (files : AreFiles (now old).folder) where
  abbrev so_far_at : (mid : World) (run : Ongoing job lines old mid) → IsGoing job lines old (now mid)
  so_far_at mid run = at_end old mid (IsGoing job lines old) run.moments

  -- each image of an attach is one of the start, or counts nothing
  pub attach_waits : (given : List ℕ) (m : Moment) → DuringAttach given (now old) m → (image : Image) → IsImage m.folder image → (bytes : List ℕ) → WaitsNot lines (now old).folder bytes image
  attach_waits given m during image is_image bytes = elim (during.images image is_image) [
    | inl first ↦ inl first
    | inr new ↦ inr (no_line_yet (count_in (bytes_in image)) (counts_none new.1))
  ]
    where
      counts_none : IsBeginning given (length (present (now old).folder step_gate)) (bytes_in image) → count_in (bytes_in image) ≡ 0
      counts_none (inl unstored) = ap (λ b. cond b (length (bytes_in image step_gate)) 0) unstored.unstored
      counts_none (inr stored) = stored.counts.count

      no_line_yet : (count : ℕ) → count ≡ 0 → ended_before (count - 1) lines ≤ acknowledged (done_at old) lines bytes
      no_line_yet count none =
          let first : count - 1 ≡ 0 = omega (arith, none) in
          subst (λ k. ended_before k lines ≤ acknowledged (done_at old) lines bytes) (sym first)
          (let zero_lines : ended_before 0 lines ≡ 0 = (none_before 0 lines plan.are_lines.in_order).0 in omega (arith, zero_lines))

  -- while the job is attached, by bytes with any budget, nothing is said
  pub attaching : (given : List ℕ) (new : World) → without_budget given ≡ job.bytes → Ran (DuringAttach given (now old)) old new → Ongoing job lines old new
  attaching given new of_job run = record {
    moments = weakens old new (Quiet (said old) (DuringAttach given (now old))) (IsGoing job lines old) (λ m quiet. record {
      front = [];
      said_is = quiet.said_is ∙ sym (append-nil (said old));
      holds = record {
        shape = says_no_shape job.steps lines (present (now old).folder) (present m.folder);
        others = λ f apart. quiet.holds.others f
            (λ e. apart (inr (ap (λ (q : FileNo). q.step) e))) (λ e. apart (inr (ap (λ (q : FileNo). q.step) e))) (λ e. apart (inr (ap (λ (q : FileNo). q.step) e)));
        keeps = λ count front long begins image is_image. elim (quiet.holds.images image is_image) [
          | inl first ↦ begins image first
          | inr new ↦ absurd (stored_and_not (is_stored (present (now old).folder)) (begun_few (now old).folder count front files begins).0 new.0)
        ];
        waits = λ image is_image. attach_waits given m quiet.holds image is_image [];
        safe_run = λ sound. record {
          rest = text_at job lines old;
          text_is = refl;
          safe = λ image is_image. record {
            sound = sound_while_attached job given (now old) m of_job files plan.well_formed.few_steps sound quiet.holds image is_image;
            has_said = omega arith;
            has_old = λ least reaches. count_while_attached given least (now old) m files reaches quiet.holds image is_image;
            stored = λ some. absurd (omega (arith, some));
          };
        };
      };
    }) run.moments;
    stays = stays_on_shelf old new run.station;
  }
    where
      stored_and_not : (b : Bool) → IsTrue b → b ≡ false → ⊥
      stored_and_not b x y = cc

  -- a piece of what remains is said, or a front part of it
  pub saying : (count : ℕ) (since : List ℕ) (mid new : World) → Ongoing job lines old mid → done_at old ≤ count → said mid ≡ said old ++ since
      → (AreSound job (now old).folder → Holds job count (now mid).folder) → Throughout mid new (Stays (now mid)) → StaysThere mid new
      → Throughout mid new (SaysPart job lines count since old mid) → Ongoing job lines old new
  saying count since mid new run reached said_mid holds same stays says = record {
    moments = joins old mid new (IsGoing job lines old) run.moments (record {
      later = same.later;
      past = same.past;
      each = λ k from until.
          let part = says.each k from until in
          record {
            front = since ++ part.0;
            said_is = part.1 ∙ ap (λ bytes. bytes ++ part.0) said_mid ∙ append_assoc (said old) since part.0;
            holds = subst (IsRunning job lines (now old).folder (since ++ part.0)) (sym (same.each k from until)) (running part.0 part.2);
          };
    });
    stays = stays_then old mid new run.stays stays;
  }
    where
      running : (part : List ℕ) → PartSaid job lines count since part old mid → IsRunning job lines (now old).folder (since ++ part) (now mid).folder
      running part is = record {
        shape = is.shape;
        others = (so_far_at mid run).holds.others;
        keeps = (so_far_at mid run).holds.keeps;
        waits = is.waits;
        safe_run = λ sound. record {
          rest = (is.sound sound).0;
          text_is = (is.sound sound).1;
          safe = λ image is_image. safe_with job lines count (now old).folder (since ++ part) (bytes_in image) files
              (held_steps job count (now mid).folder image (holds sound) is_image) (is.sound sound).2 reached;
        };
      }

  -- where a run stands between two steps
  module _ (step : ℕ) (rest : List LineEnd) (mid : World) (at : AtStep job lines step rest old mid) where
    abbrev pub since : List ℕ
    since = banner_at lines old ++ at.body

    pub feeds : whole_lines since ≡ 1 + (at.place - ended_before (done_at old) lines)
    feeds =
        let both : whole_lines since ≡ whole_lines (banner_at lines old) + whole_lines at.body = whole_lines-append (banner_at lines old) at.body in
        let one : whole_lines (banner_at lines old) ≡ 1 = banner_is_one lines old in
        let body_lines : whole_lines at.body ≡ length at.spoken = shown_lines job.steps (present (now mid).folder) at.spoken at.body at.shown in
        let place = at.place_is in
        omega (arith, both, one, body_lines, place)

    -- what was said since stands for no more steps than are held
    pub few_said : said_count (done_at old) lines since ≤ step
    few_said =
        let place = at.place_is in
        said_below (done_at old) lines since at.place step (omega (arith, place)) (inl (omega (arith, feeds))) at.earlier

    -- what was said are whole lines, also where the entries of the steps so far stay
    pub shape_of : (here : FileNo → List ℕ) → ((k : ℕ) → k < step → entry_at k here ≡ entry_at k (present (now mid).folder))
        → IsShape job.steps lines (present (now old).folder) here since
    shape_of here same = record {
      spoken = at.spoken;
      later = rest;
      parts = at.parts;
      body = at.body;
      shown = still_shown job.steps step (present (now mid).folder) here at.spoken at.body same at.below at.shown;
      end = [];
      ends = inl refl;
      text_is = ap (λ b. banner_at lines old ++ b) (sym (append-nil at.body));
    }

    -- a damaged entry that is met was damaged at first
    pub damaged_at_first : (f : FileNo) (place : ℕ) → count_in (present (now mid).folder) ≡ step → IsEntryDamage job.steps f place (present (now mid).folder)
        → IsEntryDamage job.steps f place (present (now old).folder)
    damaged_at_first f place count damage = elim (cases_lt damage.step (done_at old)) [
      | inl early ↦ record {
        step = damage.step;
        counted = early;
        file_is = damage.file_is;
        at_is = damage.at_is;
        none_there = λ e is kind. damage.none_there e (record {
          entry = is.entry;
          number = is.number;
          bytes = same_entries (done_at old) (file_in (now old).folder catalogue).bytes (file_in (now mid).folder catalogue).bytes at.made.reads damage.step early ∙ is.bytes;
        }) kind;
      }
      | inr late ↦
          let counted = damage.counted in
          let made = at.made.made damage.step late (omega (arith, counted, count)) in
          absurd (damage.none_there made.0 made.1.stands made.1.kind_is)
    ]

    -- so was a place that a step met
    pub met_at_first : (f : FileNo) (place : ℕ) (new : World) → count_in (present (now mid).folder) ≡ step
        → IsMetDamage job.n job.steps f place (now mid).folder mid new
        → IsMetDamage job.n job.steps f place (now old).folder old new
    met_at_first f place new count (inl damage) = inl (damaged_at_first f place count damage)
    met_at_first f place new count (inr (inl swept)) = inr (inl (record {
      step = swept.step;
      within = swept.within;
      swept = swept.swept;
      began = swept.began;
      since = let since = swept.since in let later = at.run.moments.later in omega (arith, since, later);
      until = swept.until;
      committed = swept.committed;
      none_gated = swept.none_gated;
      fault = swept.fault;
      uncommitted = let low = swept.uncommitted in let reached = at.reached in omega (arith, low, reached, count);
      at_first = λ k below is.
          let reached = at.reached in
          swept.at_first k (omega (arith, below, reached, count)) is
          ∙ subst (λ (q : FileNo). file_in (now mid).folder q ≡ file_in (now old).folder q) (sym is)
          (at.made.keeps k below (undropped k is));
    }))
      where
        -- the diagram is live as the step begins, so none of the steps before it drops it
        undropped : (k : ℕ) → f ≡ node_file k → NoneDrops job.steps 0 step k
        undropped k is j from until =
            let live = fault_passes (is_live (take swept.step job.steps)) job.n _ (stood_after swept.began new) f place
            swept.swept
            (operands_live job.n job.text (take swept.step job.steps) (get_or job.steps swept.step no_step)
            (follows_at job.n job.text job.steps swept.step no_step swept.within plan.well_formed)) swept.fault in
            let same : live.0 ≡ k = ap (λ (q : FileNo). q.step) (sym live.1 ∙ is) in
            let low = swept.uncommitted in
            let within = swept.within in
            live_not_dropped job.steps swept.step k j (omega (arith, until, low, count)) (omega (arith, within))
            (subst (λ i. IsTrue (is_live (take swept.step job.steps) i)) same live.2)
    met_at_first f place new count (inr (inr point)) = inr (inr (record {
      step = point.step;
      within = point.within;
      swept = point.swept;
      looked = point.looked;
      since = let since = point.since in let later = at.run.moments.later in omega (arith, since, later);
      until = point.until;
      committed = point.committed;
      fault = point.fault;
      uncommitted = let low = point.uncommitted in let reached = at.reached in omega (arith, low, reached, count);
    }))

    -- steps are taken, and no line ends behind one of them but the last one that may be
    module _ (new : World) (until : ℕ) (result : Result Entry Finish) (all_said : ended_before (until - 1) lines ≤ at.place)
        (takes : TakesSteps job step until result mid new) where
      abbrev Takes : Moment → Type 0
      Takes m = IsTaking (length job.steps) step until (now mid).folder m.folder

      pub same_at : (m : Moment) → Takes m → (k : ℕ) → k < step → entry_at k (present m.folder) ≡ entry_at k (present (now mid).folder)
      same_at m is k below = same_entries step (file_in (now mid).folder catalogue).bytes (file_in m.folder catalogue).bytes is.reads k below

      held : AreSound job (now old).folder → HoldsSteps job step result mid new
      held sound = takes.holds (at.sound sound).holds

      pub taking : Ongoing job lines old new
      taking = record {
        moments = joins old mid new (IsGoing job lines old) at.run.moments (record {
          later = takes.run.moments.later;
          past = takes.run.moments.past;
          each = λ k from to.
              let m : Moment = new.moment k in
              let quiet = takes.run.moments.each k from to in
              let is : Takes m = quiet.holds in
              record {
                front = since;
                said_is = quiet.said_is ∙ at.said_is;
                holds = record {
                  shape = record {
                    rest = [];
                    shape = subst (IsShape job.steps lines (present (now old).folder) (present m.folder)) (sym (append-nil since)) (shape_of (present m.folder) (same_at m is));
                  };
                  others = others_then (length job.steps) (now old).folder (now mid).folder m.folder (so_far_at mid at.run).holds.others is.others;
                  keeps = λ count front long begins. still_begins (now old).folder m.folder count front files begins
                      (is.kept front (few_bytes count front long begins) (at.made.kept front (first_bytes count front long begins) (front_kept (now old).folder count front files begins)))
                      (λ image is_image. ((is.counts image is_image).stored, no_fewer image (is.counts image is_image)));
                  waits = λ image is_image. none_waits lines (now old).folder at.place (until - 1) since image at.within all_said
                      (less image (is.counts image is_image)) (omega (arith, feeds));
                  safe_run = λ sound. record {
                    rest = remains job rest;
                    text_is = (at.sound sound).text_is;
                    safe = λ image is_image. safe_with job lines step (now old).folder since (bytes_in image) files
                        ((held sound).images.each k from to image is_image) few_said at.reached;
                  };
                };
              };
        });
        stays = stays_then old mid new at.run.stays (stays_on_shelf mid new takes.run.station);
      }
        where
          first_bytes : (count : ℕ) (front : List ℕ) → length front ≡ 128 * count → AllBegin count front (now old).folder → length front ≤ 128 * done_at old
          first_bytes count front long begins = let low = (begun_few (now old).folder count front files begins).1 in omega (arith, long, low)

          few_bytes : (count : ℕ) (front : List ℕ) → length front ≡ 128 * count → AllBegin count front (now old).folder → length front ≤ 128 * step
          few_bytes count front long begins = let low = (begun_few (now old).folder count front files begins).1 in let reached = at.reached in omega (arith, long, low, reached)

          no_fewer : (image : Image) → CountsAbout step until (bytes_in image) → done_at old ≤ count_in (bytes_in image)
          no_fewer image about = let low = about.no_fewer in let reached = at.reached in omega (arith, low, reached)

          less : (image : Image) → CountsAbout step until (bytes_in image) → count_in (bytes_in image) - 1 ≤ until - 1
          less image about = let high = about.no_more in omega (arith, high)

    pub has_taken : (e : Entry) (new : World) (until : ℕ) → until ≤ length job.steps → ended_before (until - 1) lines ≤ at.place
        → TakesSteps job step until (Ok e) mid new
        → AtStep job lines (e.number + 1) rest old new × (AreSound job (now old).folder → IsEntryOfStep job e.number e)
    has_taken e new until upto all_said takes = (
      record {
        run = taking new until (Ok e) all_said takes;
        ready = takes.ready;
        reached = let reached = at.reached in omega (arith, reached, from_step);
        upto = omega (arith, upto, before_until);
        spoken = at.spoken;
        parts = at.parts;
        place = at.place;
        place_is = at.place_is;
        within = at.within;
        rest_is = at.rest_is;
        earlier = λ i inside. let before : (get_or lines i no_line).last < step = at.earlier i inside in omega (arith, before, from_step);
        waits =
            let fewer : ended_before (e.number + 1 - 1) lines ≤ ended_before (until - 1) lines =
            ended_rises (e.number + 1 - 1) (until - 1) lines (omega (arith, before_until)) in
            omega (arith, fewer, all_said);
        body = at.body;
        said_is = takes.run.station.said_is ∙ at.said_is;
        shown = still_shown job.steps step (present (now mid).folder) (present (now new).folder) at.spoken at.body (same_at new until (Ok e) all_said takes (now new) last) at.below at.shown;
        below = below_later step (e.number + 1) at.spoken (omega (arith, from_step)) at.below;
        made = record {
          kept = λ front short kept. last.kept front (let reached = at.reached in omega (arith, short, reached)) (at.made.kept front short kept);
          reads = shorter (done_at old) (file_in (now mid).folder catalogue).bytes (file_in (now new).folder catalogue).bytes at.reached last.reads ∙ at.made.reads;
          made = λ k from to. elim (cases_lt k step) [
            | inl below ↦
                let found = at.made.made k from below in (
                  found.0,
                  record {
                    stands = record {
                      entry = found.1.stands.entry;
                      number = found.1.stands.number;
                      bytes = same_at new until (Ok e) all_said takes (now new) last k below ∙ found.1.stands.bytes;
                    };
                    kind_is = found.1.kind_is;
                  },
                )
            | inr beyond ↦ elim (cases_lt k e.number) [
              | inl earlier ↦ takes.made k (omega (arith, beyond)) earlier
              | inr latest ↦
                  let here : k ≡ e.number = omega (arith, to, latest) in
                  (e, subst (λ j. HasEntry job.steps j e (present (now new).folder)) (sym here) takes.last)
            ]
          ];
          emptied = λ k from to gone drops_it. elim (cases_lt k step) [
            | inl below ↦
                let gone_below : gone < k =
                drop_below job k gone plan.well_formed (omega (arith, to, before_until, upto)) drops_it in
                takes.still_empty gone (omega (arith, gone_below, below)) (at.made.emptied k from below gone drops_it)
            | inr beyond ↦ takes.emptied k (omega (arith, beyond)) to gone drops_it
          ];
          keeps = λ k below none.
              let reached = at.reached in
              takes.keeps k (omega (arith, below, reached))
              (λ j from to. none j (omega arith) to)
              ∙ at.made.keeps k below (λ j from to. none j from (omega (arith, to, from_step)));
          later = λ f from before. takes.later f from before ∙ at.made.later f (omega (arith, from, from_step)) before;
        };
        sound = λ sound. record { text_is = (at.sound sound).text_is; holds = (holds_it sound).ok.0 };
      },
      λ sound. (holds_it sound).ok.1,
    )
      where
        from_step : step ≤ e.number
        from_step = takes.reached.0

        before_until : e.number < until
        before_until = takes.reached.1

        last : IsTaking (length job.steps) step until (now mid).folder (now new).folder
        last = ran_end mid new (λ m. IsTaking (length job.steps) step until (now mid).folder m.folder) takes.run

        holds_it : AreSound job (now old).folder → HoldsSteps job step (Ok e) mid new
        holds_it sound = takes.holds (at.sound sound).holds

        shorter : (done : ℕ) (xs ys : List ℕ) → done ≤ step → take (128 * step) ys ≡ take (128 * step) xs → take (128 * done) ys ≡ take (128 * done) xs
        shorter done xs ys low same =
            let room : 128 * done ≤ 128 * step = omega (arith, low) in
            sym (take-take (128 * done) (128 * step) ys room) ∙ ap (take (128 * done)) same ∙ take-take (128 * done) (128 * step) xs room
