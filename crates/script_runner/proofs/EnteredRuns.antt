-- A run of a job in a folder, from entering it on.
use Rattle.std.proofs.Common.{◌≡◌, ◌∙◌, ◌⊎◌, ℕ, ◌+◌, ◌≤◌, Bool, List, [], ◌++◌, length, refl, sym, ap, subst, inl, inr, arith, append_assoc}
use Rattle.std.specs.Prelude.{IsTrue, Result, Ok, nat_eq}
use Rattle.std.specs.List.{common_prefix_len}
use Rattle.std.proofs.lemmas.List.{append-nil, append_cancel_left}
use Rattle.shelf_model.specs.declared.file_no.FileNo.{FileNo}
use Rattle.shelf_model.specs.declared.fault.Failed.{Failed}
use Rattle.shelf_model.specs.Folder.{Folder, Image, IsImage}
use Rattle.shelf_model.specs.World.{Moment, World, now, said}
use Rattle.shelf_model.specs.Calls.{Told, Entered}
use Rattle.shelf_model.specs.Moments.{Throughout, OnlyOldImages}
use Rattle.shelf_model.proofs.Runs.{stands, one_call, joins, weakens, at_end, told, told_then}
use Rattle.catalogue.specs.Files.{job_file}
use Rattle.catalogue.specs.Standings.{without_budget}
use Rattle.catalogue.specs.Counts.{present, count_in}
use Rattle.sound_image.specs.Jobs.{Job}
use Rattle.sound_image.specs.Holds.{AreSound}
use Rattle.script_reader.specs.declared.plan.LineEnd.{LineEnd}
use Rattle.script_runner.specs.declared.finish.Finish.{Finish}
use Rattle.script_runner.specs.declared.finish.Finish.TheVariants.{Done, OtherJob, FolderFault, SayFault, Damaged, RunsSpent}
use Rattle.script_runner.specs.declared.ending.Ending.{Ending}
use Rattle.script_runner.specs.declared.ending.Ending.TheVariants as ending
use Rattle.script_runner.specs.Status.{status_of}
use Rattle.script_runner.specs.Said.{whole_lines, said_count}
use Rattle.script_runner.specs.Calls.{most_calls, AreCounted}
use Rattle.script_runner.specs.Text.{run_text, other_job_line, damaged_line, runs_spent_line}
use Rattle.script_runner.specs.Shapes.{IsShape, AreWhole, IsRefusal}
use Rattle.diagram_list.specs.Saying.{SaysFront, IsSaying, StaysThere}
use Rattle.script_runner.specs.Running.{SaysOnly, HasSaid, IsRunning, IsOther, HasOtherJob, RefusesFolder, IsStill, MeetsDamage, MeetsSpent, RunsSteps}
use Rattle.script_runner.specs.Entered.{EndsRun, Refused, RefusesOther, IsFound, IsTrueLine, BeginsTrueLine, StopsSaying, IsSpentTail, IsMoment, RunsFrom, RunsIn}
use Rattle.script_runner.proofs.Shown.{says_no_shape}
use Rattle.diagram_list.proofs.SayingLaws.{says_nothing}
use Rattle.script_runner.proofs.Saying.{stays_and_says}
use Rattle.script_runner.proofs.SweepDamage.{met_since, met_until}

-- the status of a run
abbrev pub status_for : Finish → ℕ
status_for Done = 0
status_for (OtherJob at) = 5
status_for FolderFault = 7
status_for SayFault = 8
status_for (Damaged f at) = 10
status_for (RunsSpent step) = 11

-- the run ended without a line of its own
abbrev pub IsQuiet : Finish → Type 0
IsQuiet Done = Unit {0}
IsQuiet (OtherJob at) = ⊥
IsQuiet FolderFault = Unit {0}
IsQuiet SayFault = Unit {0}
IsQuiet (Damaged f at) = ⊥
IsQuiet (RunsSpent step) = ⊥

-- then it refused nothing
goes_on_quietly : (finish : Finish) → IsQuiet finish → ¬ (RefusesFolder finish)
goes_on_quietly Done quiet = λ x. x
goes_on_quietly (OtherJob at) quiet = absurd quiet
goes_on_quietly FolderFault quiet = λ x. x
goes_on_quietly SayFault quiet = λ x. x
goes_on_quietly (Damaged f at) quiet = absurd quiet
goes_on_quietly (RunsSpent step) quiet = absurd quiet

-- and no step was without a part number
not_spent : (finish : Finish) → IsQuiet finish → status_for finish ≡ 11 → ⊥
not_spent Done quiet eleven = omega (arith, eleven)
not_spent (OtherJob at) quiet eleven = quiet
not_spent FolderFault quiet eleven = omega (arith, eleven)
not_spent SayFault quiet eleven = omega (arith, eleven)
not_spent (Damaged f at) quiet eleven = quiet
not_spent (RunsSpent step) quiet eleven = quiet

not_refused : (finish : Finish) → ¬ (RefusesFolder finish) → Refused (status_for finish) → ⊥
not_refused Done none refused = elim refused [ inl x ↦ omega (arith, x) | inr x ↦ omega (arith, x) ]
not_refused (OtherJob at) none refused = none tt
not_refused FolderFault none refused = elim refused [ inl x ↦ omega (arith, x) | inr x ↦ omega (arith, x) ]
not_refused SayFault none refused = elim refused [ inl x ↦ omega (arith, x) | inr x ↦ omega (arith, x) ]
not_refused (Damaged f at) none refused = none tt
not_refused (RunsSpent step) none refused = elim refused [ inl x ↦ omega (arith, x) | inr x ↦ omega (arith, x) ]

was_done : (finish : Finish) → status_for finish ≡ 0 → finish ≡ Done
was_done Done zero = refl
was_done (OtherJob at) zero = absurd (omega (arith, zero))
was_done FolderFault zero = absurd (omega (arith, zero))
was_done SayFault zero = absurd (omega (arith, zero))
was_done (Damaged f at) zero = absurd (omega (arith, zero))
was_done (RunsSpent step) zero = absurd (omega (arith, zero))

ends_run : (finish : Finish) → EndsRun (status_for finish)
ends_run Done = inl refl
ends_run (OtherJob at) = inr (inl refl)
ends_run FolderFault = inr (inr (inl refl))
ends_run SayFault = inr (inr (inr (inl refl)))
ends_run (Damaged f at) = inr (inr (inr (inr (inl refl))))
ends_run (RunsSpent step) = inr (inr (inr (inr (inr refl))))

-- a run that has only begun
running_first : (job : Job) (lines : List LineEnd) (start : Folder) → IsRunning job lines start [] start
running_first job lines start = record {
  shape = says_no_shape job.steps lines (present start) (present start);
  others = λ f apart. refl;
  keeps = λ count front long begins. begins;
  waits = λ image is_image. inl is_image;
  safe_run = λ sound. record {
    rest = run_text job lines (present start);
    text_is = refl;
    safe = λ image is_image.
        let none : said_count (count_in (present start)) lines [] ≡ 0 = refl in
        let no_lines : whole_lines [] ≡ 0 = refl in
        record {
          sound = sound image is_image;
          has_said = omega (arith, none);
          has_old = λ count reaches. reaches image is_image;
          stored = λ some. absurd (omega (arith, some, no_lines));
        };
  };
}

moment_first : (job : Job) (lines : List LineEnd) (start : Moment) → IsMoment job lines start start
moment_first job lines start = record {
  front = [];
  tail = [];
  said_is = sym (append-nil start.said);
  running = running_first job lines start.folder;
  tail_is = inl refl;
  no_tail = λ sound. inl refl;
}

-- a moment at which no status has said its line
going_moment : (job : Job) (lines : List LineEnd) (start m : Moment) → HasSaid (IsRunning job lines start.folder) start m → IsMoment job lines start m
going_moment job lines start m going = record {
  front = going.front;
  tail = [];
  said_is = going.said_is ∙ ap (λ b. start.said ++ b) (sym (append-nil going.front));
  running = going.holds;
  tail_is = inl refl;
  no_tail = λ sound. inl refl;
}

-- nothing was done before
before : (P : Moment → Type 0) (start : Moment) (old mid new : World) → Throughout old mid (λ m. m ≡ start) → P start → Throughout mid new P → Throughout old new P
before P start old mid new stay here after = joins old mid new P (weakens old mid (λ m. m ≡ start) P (λ m same. subst P (sym same) here) stay) after

-- what was found since a later moment was found since an earlier one
found_since : (job : Job) (text : List ℕ) (f : FileNo) (at : ℕ) (start : Moment) (old mid new : World)
    → Throughout old mid (λ m. m ≡ start) → IsFound job text f at start mid new → IsFound job text f at start old new
found_since job text f at start old mid new stay (inl first) =
    inl (first.0, first.1, before (OnlyOldImages start) start old mid new stay (λ image is_image. is_image) first.2)
found_since job text f at start old mid new stay (inr met) =
    inr (met_since job.n job.steps f at start.folder old mid new stay.later met)

true_since : (job : Job) (start : Moment) (old mid new : World) (text line : List ℕ) → Throughout old mid (λ m. m ≡ start)
    → IsTrueLine job start mid new text line → IsTrueLine job start old new text line
true_since job start old mid new text line stay (inl other) = inl other
true_since job start old mid new text line stay (inr (inl damaged)) =
    inr (inl (damaged.0, damaged.1, damaged.2, found_since job text damaged.0 damaged.1 start old mid new stay damaged.3))
true_since job start old mid new text line stay (inr (inr spent)) = inr (inr spent)

begins_since : (job : Job) (lines : List LineEnd) (start : Moment) (old mid new : World) (text tail : List ℕ)
    → Throughout old mid (λ m. m ≡ start) → (tail ≡ []) ⊎ BeginsTrueLine job lines start mid new text tail
    → (tail ≡ []) ⊎ BeginsTrueLine job lines start old new text tail
begins_since job lines start old mid new text tail stay (inl none) = inl none
begins_since job lines start old mid new text tail stay (inr begins) = inr (record {
  whole = begins.whole;
  rest = begins.rest;
  line_is = true_since job start old mid new text (tail ++ begins.rest) stay begins.line_is;
})

pub earlier : (job : Job) (lines : List LineEnd) (status : ℕ) (start : Moment) (old mid new : World) → Throughout old mid (λ m. m ≡ start)
    → RunsFrom job lines status start mid new → RunsFrom job lines status start old new
earlier job lines status start old mid new stay run = record {
  moments = before (IsMoment job lines start) start old mid new stay (moment_first job lines start) run.moments;
  goes_on = run.goes_on;
  whole = run.whole;
  says = run.says;
  all = run.all;
  emptied = run.emptied;
  emptied_last = run.emptied_last;
  lean = run.lean;
  other = λ other.
      let refuses = run.other other in
      record {
        at = refuses.at;
        place = refuses.place;
        moments = before (λ m. SaysFront start.said (other_job_line refuses.at) m.said × OnlyOldImages start m) start old mid new stay
            (says_nothing start.said (other_job_line refuses.at) start.said refl, λ image is_image. is_image) refuses.moments;
        status_is = refuses.status_is;
        whole = refuses.whole;
      };
  only_other = run.only_other;
  damaged = λ ten.
      let names = run.damaged ten in
      record {
        file = names.file;
        at = names.at;
        before = names.before;
        said_is = names.said_is;
        whole = names.whole;
        place = found_since job names.before names.file names.at start old mid new stay names.place;
      };
  spent = λ eleven.
      let names = run.spent eleven in
      record {
        step = names.step;
        before = names.before;
        said_is = names.said_is;
        whole = names.whole;
        spent = names.spent;
      };
  quiet = run.quiet;
  unsaid = λ eight.
      let stops = run.unsaid eight in
      record {
        before = stops.before;
        tail = stops.tail;
        said_is = stops.said_is;
        shape = stops.shape;
        tail_is = begins_since job lines start old mid new stops.before stops.tail stay stops.tail_is;
      };
}

-- a run in a folder of another job that met a fault before it said so
stood : (job : List ℕ) (old new : World) → IsOther job (present (now old).folder) → Throughout old new (IsStill (now old)) → RefusesOther job 7 (now old) old new
stood job old new other still = record {
  at = common_prefix_len nat_eq (without_budget (present (now old).folder job_file)) job;
  place = record { is_other = other; place = refl };
  moments = weakens old new (IsStill (now old)) (λ m. SaysFront (said old) (other_job_line (common_prefix_len nat_eq (without_budget (present (now old).folder job_file)) job)) m.said × OnlyOldImages (now old) m)
      (λ m is_still. (
        says_nothing (said old) (other_job_line (common_prefix_len nat_eq (without_budget (present (now old).folder job_file)) job)) m.said is_still.said_is,
        is_still.images,
      )) still;
  status_is = inr (inl refl);
  whole = λ five. absurd (omega (arith, five));
}

-- a run that met a fault before it did anything
nothing_ran : (job : Job) (lines : List LineEnd) (w : World) → RunsFrom job lines 7 (now w) w w
nothing_ran job lines w = record {
  moments = stands w (IsMoment job lines (now w)) (moment_first job lines (now w));
  goes_on = λ sound. not_refused FolderFault (λ x. x);
  whole = λ sound x. absurd (omega (arith, x));
  says = λ x. absurd (omega (arith, x));
  all = λ x. absurd (omega (arith, x));
  emptied = λ x. absurd (omega (arith, x));
  emptied_last = λ sound x. absurd (omega (arith, x));
  lean = λ sound x. absurd (omega (arith, x));
  other = λ other. stood job.bytes w w other (stands w (IsStill (now w)) (record { said_is = refl; images = λ image is_image. is_image }));
  only_other = λ x. absurd (omega (arith, x));
  damaged = λ x. absurd (omega (arith, x));
  spent = λ x. absurd (omega (arith, x));
  quiet = λ x. record {
    front = [];
    said_is = sym (append-nil (said w));
    holds = says_no_shape job.steps lines (present (now w).folder) (present (now w).folder);
  };
  unsaid = λ x. absurd (omega (arith, x));
}

-- the steps were run
ran_from : (job : Job) (lines : List LineEnd) (finish : Finish) (old new : World) → IsQuiet finish → RunsSteps job lines finish old new
    → RunsFrom job lines (status_for finish) (now old) old new
ran_from job lines finish old new quiet run = record {
  moments = weakens old new (HasSaid (IsRunning job lines (now old).folder) (now old)) (IsMoment job lines (now old)) (going_moment job lines (now old)) run.moments;
  goes_on = λ sound. not_refused finish none;
  whole = λ sound zero. run.whole sound (was_done finish zero);
  says = λ zero. run.says (was_done finish zero);
  all = λ zero. run.all (was_done finish zero);
  emptied = λ zero. run.emptied (was_done finish zero);
  emptied_last = λ sound zero. run.emptied_last sound (was_done finish zero);
  lean = λ sound zero. run.lean sound (was_done finish zero);
  other = λ other. elim (run.refuses_other other).1 [
    | inl named ↦ absurd (subst IsQuiet named.1 quiet)
    | inr fault ↦ subst (λ f. RefusesOther job.bytes (status_for f) (now old) old new) (sym fault) (stood job.bytes old new other (run.refuses_other other).0)
  ];
  only_other = λ five. absurd (not_refused finish none (inl five));
  damaged = λ ten. absurd (not_refused finish none (inr ten));
  spent = λ eleven. absurd (not_spent finish quiet eleven);
  quiet = λ seven. record { front = end.front; said_is = end.said_is; holds = end.holds.shape };
  unsaid = λ eight. record {
    before = end.front;
    tail = [];
    said_is = end.said_is ∙ ap (λ b. said old ++ b) (sym (append-nil end.front));
    shape = end.holds.shape;
    tail_is = inl refl;
  };
}
  where
    end : HasSaid (IsRunning job lines (now old).folder) (now old) (now new)
    end = at_end old new (HasSaid (IsRunning job lines (now old).folder) (now old)) run.moments

    none : ¬ (RefusesFolder finish)
    none = goes_on_quietly finish quiet

-- the statuses after a line of refusal
abbrev pub SaidOr : ℕ → ℕ → Type 0
SaidOr good status = (status ≡ good) ⊎ (status ≡ 8)

-- a status's line is said behind whole lines, or a front part of it
moments_said : (job : Job) (lines : List LineEnd) (line front : List ℕ) (old mid new : World) → Throughout old mid (HasSaid (IsRunning job lines (now old).folder) (now old))
    → SaysOnly line mid new → IsRefusal line → said mid ≡ said old ++ front → AreWhole job.steps lines (present (now old).folder) (present (now mid).folder) front
    → (AreSound job (now old).folder → (tail rest : List ℕ) → line ≡ tail ++ rest → (tail ≡ []) ⊎ IsSpentTail job tail)
    → Throughout old new (IsMoment job lines (now old))
moments_said job lines line front old mid new run says refusal said_mid whole tails =
    joins old mid new (IsMoment job lines (now old))
    (weakens old mid (HasSaid (IsRunning job lines (now old).folder) (now old)) (IsMoment job lines (now old)) (going_moment job lines (now old)) run)
    (weakens mid new (IsSaying line (now mid)) (IsMoment job lines (now old)) (λ m saying. record {
      front = front;
      tail = saying.says.front;
      said_is = saying.says.said_is ∙ ap (λ b. b ++ saying.says.front) said_mid ∙ append_assoc (said old) front saying.says.front;
      running = subst (IsRunning job lines (now old).folder front) (sym saying.folder_is)
          (subst (λ f. IsRunning job lines (now old).folder f (now mid).folder) (append_cancel_left (said old) end.front front (sym end.said_is ∙ said_mid)) end.holds);
      tail_is = inr (record {
        whole = subst (λ (folder : Folder). AreWhole job.steps lines (present (now old).folder) (present folder) front) (sym saying.folder_is) whole;
        rest = saying.says.rest;
        refusal = subst IsRefusal saying.says.text_is refusal;
      });
      no_tail = λ sound. tails sound saying.says.front saying.says.rest saying.says.text_is;
    }) says.moments)
  where
    end : HasSaid (IsRunning job lines (now old).folder) (now old) (now mid)
    end = at_end old mid (HasSaid (IsRunning job lines (now old).folder) (now old)) run

-- and at the end a front part of the line of a status that is so
stops_said : (job : Job) (lines : List LineEnd) (line text : List ℕ) (old mid new : World)
    → Throughout old mid (HasSaid (IsRunning job lines (now old).folder) (now old)) → SaysOnly line mid new
    → said mid ≡ said old ++ text → AreWhole job.steps lines (present (now old).folder) (present (now mid).folder) text
    → IsTrueLine job (now old) old new text line → StopsSaying job lines (now old) old new
stops_said job lines line text old mid new run says said_mid whole line_is = record {
  before = text;
  tail = saying.says.front;
  said_is = saying.says.said_is ∙ ap (λ b. b ++ saying.says.front) said_mid ∙ append_assoc (said old) text saying.says.front;
  shape = running.shape;
  tail_is = inr (record {
    whole = subst (λ (folder : Folder). AreWhole job.steps lines (present (now old).folder) (present folder) text)
        (sym saying.folder_is) whole;
    rest = saying.says.rest;
    line_is = subst (IsTrueLine job (now old) old new text) saying.says.text_is line_is;
  });
}
  where
    end : HasSaid (IsRunning job lines (now old).folder) (now old) (now mid)
    end = at_end old mid (HasSaid (IsRunning job lines (now old).folder) (now old)) run

    saying : IsSaying line (now mid) (now new)
    saying = at_end mid new (IsSaying line (now mid)) says.moments

    running : IsRunning job lines (now old).folder text (now new).folder
    running = subst (IsRunning job lines (now old).folder text) (sym saying.folder_is)
        (subst (λ f. IsRunning job lines (now old).folder f (now mid).folder)
        (append_cancel_left (said old) end.front text (sym end.said_is ∙ said_mid)) end.holds)

-- no image is new while a line is said
images_said : (line : List ℕ) (start : Moment) (old mid new : World) → Throughout old mid (OnlyOldImages start) → SaysOnly line mid new → Throughout old new (OnlyOldImages start)
images_said line start old mid new kept says =
    joins old mid new (OnlyOldImages start) kept
    (weakens mid new (IsSaying line (now mid)) (OnlyOldImages start)
    (λ m saying. subst (λ (folder : Folder). (image : Image) → IsImage folder image → IsImage start.folder image) (sym saying.folder_is) (at_end old mid (OnlyOldImages start) kept)) says.moments)

-- another job is stored, and that was said, or a front part of it
refused_other : (job : Job) (lines : List LineEnd) (at status : ℕ) (old mid new : World) → SaidOr 5 status → RunsSteps job lines (OtherJob at) old mid
    → SaysOnly (other_job_line at) mid new → (status ≡ 5 → said new ≡ said mid ++ other_job_line at) → RunsFrom job lines status (now old) old new
refused_other job lines at status old mid new which run says whole = record {
  moments = moments_said job lines (other_job_line at) [] old mid new run.moments says (inl (at, refl)) (end.said_is ∙ sym (append-nil (said old))) (inl refl)
      (λ sound tail rest parts. absurd (run.goes_on sound tt));
  goes_on = λ sound. absurd (run.goes_on sound tt);
  whole = λ sound. absurd (run.goes_on sound tt);
  says = λ zero. absurd (elim which [ inl x ↦ omega (arith, x, zero) | inr x ↦ omega (arith, x, zero) ]);
  all = λ zero. absurd (elim which [ inl x ↦ omega (arith, x, zero) | inr x ↦ omega (arith, x, zero) ]);
  emptied = λ zero. absurd (elim which [ inl x ↦ omega (arith, x, zero) | inr x ↦ omega (arith, x, zero) ]);
  emptied_last = λ sound zero. absurd (elim which [ inl x ↦ omega (arith, x, zero) | inr x ↦ omega (arith, x, zero) ]);
  lean = λ sound zero. absurd (elim which [ inl x ↦ omega (arith, x, zero) | inr x ↦ omega (arith, x, zero) ]);
  other = λ differs. record {
    at = at;
    place = has;
    moments = joins old mid new (λ m. SaysFront (said old) (other_job_line at) m.said × OnlyOldImages (now old) m)
        (weakens old mid (IsStill (now old)) (λ m. SaysFront (said old) (other_job_line at) m.said × OnlyOldImages (now old) m)
        (λ m is_still. (says_nothing (said old) (other_job_line at) m.said is_still.said_is, is_still.images)) still)
        (weakens mid new (IsSaying (other_job_line at) (now mid)) (λ m. SaysFront (said old) (other_job_line at) m.said × OnlyOldImages (now old) m) (λ m saying. (
          subst (λ bytes. SaysFront bytes (other_job_line at) m.said) end.said_is saying.says,
          subst (λ (folder : Folder). (image : Image) → IsImage folder image → IsImage (now old).folder image) (sym saying.folder_is) end.images,
        )) says.moments);
    status_is = elim which [ inl x ↦ inl x | inr x ↦ inr (inr x) ];
    whole = λ five. whole five ∙ ap (λ bytes. bytes ++ other_job_line at) end.said_is;
  };
  only_other = λ five. has.is_other;
  damaged = λ ten. absurd (elim which [ inl x ↦ omega (arith, x, ten) | inr x ↦ omega (arith, x, ten) ]);
  spent = λ eleven. absurd (elim which [ inl x ↦ omega (arith, x, eleven) | inr x ↦ omega (arith, x, eleven) ]);
  quiet = λ seven. absurd (elim which [ inl x ↦ omega (arith, x, seven) | inr x ↦ omega (arith, x, seven) ]);
  unsaid = λ eight. stops_said job lines (other_job_line at) [] old mid new run.moments says
      (end.said_is ∙ sym (append-nil (said old))) (inl refl) (inl (at, refl, refl, has));
}
  where
    has : HasOtherJob job.bytes at (present (now old).folder)
    has = run.other_job at refl

    still : Throughout old mid (IsStill (now old))
    still = (run.refuses_other has.is_other).0

    end : IsStill (now old) (now mid)
    end = at_end old mid (IsStill (now old)) still

-- the folder is damaged, and that was said, or a front part of it
refused_damage : (job : Job) (lines : List LineEnd) (f : FileNo) (at status : ℕ) (old mid new : World) → SaidOr 10 status → RunsSteps job lines (Damaged f at) old mid
    → SaysOnly (damaged_line f at) mid new → (status ≡ 10 → said new ≡ said mid ++ damaged_line f at) → RunsFrom job lines status (now old) old new
refused_damage job lines f at status old mid new which run says whole = record {
  moments = moments_said job lines (damaged_line f at) meets.front old mid new run.moments says
      (inr (inl (f, at, refl))) meets.said_is meets.whole (λ sound tail rest parts. absurd (run.goes_on sound tt));
  goes_on = λ sound. absurd (run.goes_on sound tt);
  whole = λ sound. absurd (run.goes_on sound tt);
  says = λ zero. absurd (elim which [ inl x ↦ omega (arith, x, zero) | inr x ↦ omega (arith, x, zero) ]);
  all = λ zero. absurd (elim which [ inl x ↦ omega (arith, x, zero) | inr x ↦ omega (arith, x, zero) ]);
  emptied = λ zero. absurd (elim which [ inl x ↦ omega (arith, x, zero) | inr x ↦ omega (arith, x, zero) ]);
  emptied_last = λ sound zero. absurd (elim which [ inl x ↦ omega (arith, x, zero) | inr x ↦ omega (arith, x, zero) ]);
  lean = λ sound zero. absurd (elim which [ inl x ↦ omega (arith, x, zero) | inr x ↦ omega (arith, x, zero) ]);
  other = λ differs. absurd (not_other (run.refuses_other differs).1);
  only_other = λ five. absurd (elim which [ inl x ↦ omega (arith, x, five) | inr x ↦ omega (arith, x, five) ]);
  damaged = λ ten. record {
    file = f;
    at = at;
    before = meets.front;
    said_is = whole ten ∙ ap (λ b. b ++ damaged_line f at) meets.said_is ∙ append_assoc (said old) meets.front (damaged_line f at);
    whole = subst (λ (folder : Folder). AreWhole job.steps lines (present (now old).folder) (present folder) meets.front)
        (sym (at_end mid new (IsSaying (damaged_line f at) (now mid)) says.moments).folder_is) meets.whole;
    place = found;
  };
  spent = λ eleven. absurd (elim which [ inl x ↦ omega (arith, x, eleven) | inr x ↦ omega (arith, x, eleven) ]);
  quiet = λ seven. absurd (elim which [ inl x ↦ omega (arith, x, seven) | inr x ↦ omega (arith, x, seven) ]);
  unsaid = λ eight. stops_said job lines (damaged_line f at) meets.front old mid new run.moments says meets.said_is
      meets.whole (inr (inl (f, at, refl, found)));
}
  where
    meets : MeetsDamage job lines f at old mid
    meets = run.damaged f at refl

    found : IsFound job meets.front f at (now old) old new
    found = elim meets.place [
      | inl first ↦ inl (
        first.0,
        append_cancel_left (said old) meets.front []
            (sym meets.said_is ∙ (at_end old mid (IsStill (now old)) first.1).said_is ∙ sym (append-nil (said old))),
        images_said (damaged_line f at) (now old) old mid new
            (weakens old mid (IsStill (now old)) (OnlyOldImages (now old)) (λ m still. still.images) first.1) says,
      )
      | inr met ↦ inr (met_until job.n job.steps f at (now old).folder old mid new _ says.moments met)
    ]

    not_other : ((a : ℕ) × (Damaged f at ≡ OtherJob a)) ⊎ (Damaged f at ≡ FolderFault) → ⊥
    not_other (inl x) = let other = x.1 in cc
    not_other (inr x) = cc

-- a step has no part number left, and that was said, or a front part of it
stopped_spent : (job : Job) (lines : List LineEnd) (step status : ℕ) (old mid new : World) → SaidOr 11 status
    → RunsSteps job lines (RunsSpent step) old mid → SaysOnly (runs_spent_line step) mid new
    → (status ≡ 11 → said new ≡ said mid ++ runs_spent_line step) → RunsFrom job lines status (now old) old new
stopped_spent job lines step status old mid new which run says whole = record {
  moments = moments_said job lines (runs_spent_line step) meets.front old mid new run.moments says
      (inr (inr (step, refl))) meets.said_is (inr meets.whole) (λ sound tail rest parts. inr (record {
        step = step;
        within = meets.spent.within;
        work = meets.spent.work sound;
        rest = rest;
        line_is = parts;
      }));
  goes_on = λ sound refused. elim refused [ inl five ↦ not_five five | inr ten ↦ not_ten ten ];
  whole = λ sound zero. absurd (not_zero zero);
  says = λ zero. absurd (not_zero zero);
  all = λ zero. absurd (not_zero zero);
  emptied = λ zero. absurd (not_zero zero);
  emptied_last = λ sound zero. absurd (not_zero zero);
  lean = λ sound zero. absurd (not_zero zero);
  other = λ differs. absurd (not_other (run.refuses_other differs).1);
  only_other = λ five. absurd (not_five five);
  damaged = λ ten. absurd (not_ten ten);
  spent = λ eleven. record {
    step = step;
    before = meets.front;
    said_is = whole eleven ∙ ap (λ b. b ++ runs_spent_line step) meets.said_is
        ∙ append_assoc (said old) meets.front (runs_spent_line step);
    whole = subst (λ (folder : Folder). IsShape job.steps lines (present (now old).folder) (present folder) meets.front)
        (sym (at_end mid new (IsSaying (runs_spent_line step) (now mid)) says.moments).folder_is) meets.whole;
    spent = meets.spent;
  };
  quiet = λ seven. absurd (elim which [ inl x ↦ omega (arith, x, seven) | inr x ↦ omega (arith, x, seven) ]);
  unsaid = λ eight. stops_said job lines (runs_spent_line step) meets.front old mid new run.moments says meets.said_is
      (inr meets.whole) (inr (inr (step, refl, meets.spent)));
}
  where
    meets : MeetsSpent job lines step old mid
    meets = run.spent step refl

    not_zero : status ≡ 0 → ⊥
    not_zero zero = elim which [ inl x ↦ omega (arith, x, zero) | inr x ↦ omega (arith, x, zero) ]

    not_five : status ≡ 5 → ⊥
    not_five five = elim which [ inl x ↦ omega (arith, x, five) | inr x ↦ omega (arith, x, five) ]

    not_ten : status ≡ 10 → ⊥
    not_ten ten = elim which [ inl x ↦ omega (arith, x, ten) | inr x ↦ omega (arith, x, ten) ]

    not_other : ((at : ℕ) × (RunsSpent step ≡ OtherJob at)) ⊎ (RunsSpent step ≡ FolderFault) → ⊥
    not_other (inl x) = let other = x.1 in cc
    not_other (inr x) = cc

-- the folder was entered first
pub enters_then : (folder : List ℕ) (job : Job) (lines : List LineEnd) (status : ℕ) (x : Unit) (old mid new : World) → EndsRun status
    → Entered folder (Ok x) old mid → StaysThere mid new → RunsFrom job lines status (now mid) mid new → RunsIn folder job lines status old new
enters_then folder job lines status x old mid new ends entered stays run = record {
  status_is = ends;
  leaves = earlier job lines status (now old) old mid new (one_call old mid (λ m. m ≡ now old) entered.ticks refl entered.same)
      (subst (λ start. RunsFrom job lines status start mid new) entered.same run);
  texts_are = stays.texts_are ∙ entered.texts_are;
  home_is = stays.home_is ∙ entered.home_is;
  strays_are = λ home. stays.strays_are (entered.ok home) ∙ entered.at_home home;
}

not_entered : (folder : List ℕ) (job : Job) (lines : List LineEnd) (result : Result Unit Failed) (old new : World) → Entered folder result old new
    → RunsIn folder job lines 7 old new
not_entered folder job lines result old new entered = record {
  status_is = inr (inr (inl refl));
  leaves = earlier job lines 7 (now old) old new new (one_call old new (λ m. m ≡ now old) entered.ticks refl entered.same)
      (subst (λ start. RunsFrom job lines 7 start new new) entered.same (nothing_ran job lines new));
  texts_are = entered.texts_are;
  home_is = entered.home_is;
  strays_are = λ home. entered.at_home home;
}

-- the ending of a line of refusal, and its status
pub said_or : (good end : Ending) → (end ≡ good) ⊎ (end ≡ ending.SayFault) → SaidOr (status_of good) (status_of end)
said_or good end (inl same) = inl (ap status_of same)
said_or good end (inr fault) = inr (ap status_of fault)

pub whole_line : (good end : Ending) → (status_of good ≡ 8 → ⊥) → (end ≡ good) ⊎ (end ≡ ending.SayFault) → status_of end ≡ status_of good → end ≡ good
whole_line good end other (inl same) is = same
whole_line good end other (inr fault) is = absurd (other (sym is ∙ ap status_of fault))

module _ {S : Type 0} (tells : S → Bool) (world : S → World) where
  pub enter_failed : (folder : List ℕ) (job : Job) (lines : List LineEnd) (result : Result Unit Failed) (old s : S)
      → Told tells old s (Entered folder result (world old) (world s)) → Told tells old s (RunsIn folder job lines 7 (world old) (world s))
  enter_failed folder job lines result old s entered = told tells old s _ _ entered (λ _ e. not_entered folder job lines result (world old) (world s) e)

  pub entered_runs : (folder : List ℕ) (job : Job) (lines : List LineEnd) (finish : Finish) (x : Unit) (old s t : S) → IsQuiet finish
      → Told tells old s (Entered folder (Ok x) (world old) (world s)) → Told tells s t (RunsSteps job lines finish (world s) (world t))
      → Told tells old t (RunsIn folder job lines (status_for finish) (world old) (world t))
  entered_runs folder job lines finish x old s t quiet entered run =
      told_then tells old s t _ _ _ entered run (λ _ e r. enters_then folder job lines (status_for finish) x (world old) (world s) (world t) (ends_run finish) e r.stays
      (ran_from job lines finish (world s) (world t) quiet r))

  -- a folder is refused, with the line that says so
  pub entered_other : (folder : List ℕ) (job : Job) (lines : List LineEnd) (at status : ℕ) (line : List ℕ) (x : Unit) (old s t u : S) → SaidOr 5 status → line ≡ other_job_line at
      → Told tells old s (Entered folder (Ok x) (world old) (world s)) → Told tells s t (RunsSteps job lines (OtherJob at) (world s) (world t))
      → Told tells t u (SaysOnly line (world t) (world u)) → (status ≡ 5 → IsTrue (tells u) → said (world u) ≡ said (world t) ++ line)
      → Told tells old u (RunsIn folder job lines status (world old) (world u))
  entered_other folder job lines at status line x old s t u which line_is entered run says whole = record {
    before = λ tells_u. entered.before (run.before (says.before tells_u));
    did = λ tells_u.
        let tells_t : IsTrue (tells t) = says.before tells_u in
        let tells_s : IsTrue (tells s) = run.before tells_t in
        let r : RunsSteps job lines (OtherJob at) (world s) (world t) = run.did tells_t in
        let only : SaysOnly (other_job_line at) (world t) (world u) = subst (λ l. SaysOnly l (world t) (world u)) line_is (says.did tells_u) in
        enters_then folder job lines status x (world old) (world s) (world u) (elim which [ inl a ↦ inr (inl a) | inr a ↦ inr (inr (inr (inl a))) ]) (entered.did tells_s)
        (stays_and_says (other_job_line at) (world s) (world t) (world u) r.stays only)
        (refused_other job lines at status (world s) (world t) (world u) which r only (λ five. whole five tells_u ∙ ap (λ l. said (world t) ++ l) line_is));
  }

  pub entered_damage : (folder : List ℕ) (job : Job) (lines : List LineEnd) (f : FileNo) (at status : ℕ) (line : List ℕ) (x : Unit) (old s t u : S) → SaidOr 10 status → line ≡ damaged_line f at
      → Told tells old s (Entered folder (Ok x) (world old) (world s)) → Told tells s t (RunsSteps job lines (Damaged f at) (world s) (world t))
      → Told tells t u (SaysOnly line (world t) (world u)) → (status ≡ 10 → IsTrue (tells u) → said (world u) ≡ said (world t) ++ line)
      → Told tells old u (RunsIn folder job lines status (world old) (world u))
  entered_damage folder job lines f at status line x old s t u which line_is entered run says whole = record {
    before = λ tells_u. entered.before (run.before (says.before tells_u));
    did = λ tells_u.
        let tells_t : IsTrue (tells t) = says.before tells_u in
        let tells_s : IsTrue (tells s) = run.before tells_t in
        let r : RunsSteps job lines (Damaged f at) (world s) (world t) = run.did tells_t in
        let only : SaysOnly (damaged_line f at) (world t) (world u) = subst (λ l. SaysOnly l (world t) (world u)) line_is (says.did tells_u) in
        enters_then folder job lines status x (world old) (world s) (world u) (elim which [ inl a ↦ inr (inr (inr (inr (inl a)))) | inr a ↦ inr (inr (inr (inl a))) ]) (entered.did tells_s)
        (stays_and_says (damaged_line f at) (world s) (world t) (world u) r.stays only)
        (refused_damage job lines f at status (world s) (world t) (world u) which r only (λ ten. whole ten tells_u ∙ ap (λ l. said (world t) ++ l) line_is));
  }

  -- a step has no part number left, with the line that says so
  pub entered_spent : (folder : List ℕ) (job : Job) (lines : List LineEnd) (step status : ℕ) (line : List ℕ) (x : Unit)
      (old s t u : S) → SaidOr 11 status → line ≡ runs_spent_line step
      → Told tells old s (Entered folder (Ok x) (world old) (world s))
      → Told tells s t (RunsSteps job lines (RunsSpent step) (world s) (world t))
      → Told tells t u (SaysOnly line (world t) (world u))
      → (status ≡ 11 → IsTrue (tells u) → said (world u) ≡ said (world t) ++ line)
      → Told tells old u (RunsIn folder job lines status (world old) (world u))
  entered_spent folder job lines step status line x old s t u which line_is entered run says whole = record {
    before = λ tells_u. entered.before (run.before (says.before tells_u));
    did = λ tells_u.
        let tells_t : IsTrue (tells t) = says.before tells_u in
        let tells_s : IsTrue (tells s) = run.before tells_t in
        let r : RunsSteps job lines (RunsSpent step) (world s) (world t) = run.did tells_t in
        let only : SaysOnly (runs_spent_line step) (world t) (world u) =
        subst (λ l. SaysOnly l (world t) (world u)) line_is (says.did tells_u) in
        enters_then folder job lines status x (world old) (world s) (world u)
        (elim which [ inl a ↦ inr (inr (inr (inr (inr a)))) | inr a ↦ inr (inr (inr (inl a))) ]) (entered.did tells_s)
        (stays_and_says (runs_spent_line step) (world s) (world t) (world u) r.stays only)
        (stopped_spent job lines step status (world s) (world t) (world u) which r only
        (λ eleven. whole eleven tells_u ∙ ap (λ l. said (world t) ++ l) line_is));
  }

-- the calls of entering a folder and of a run of a job
pub entered_calls : (job : Job) (lines : List LineEnd) (path : List ℕ) (result : Result Unit Failed) (old mid : World) (end : ℕ)
    → Entered path result old mid
    → ((rest : ℕ) → AreCounted job (now mid).folder rest → end ≤ mid.clock + (most_calls job (length lines) + rest))
    → (rest : ℕ) → AreCounted job (now old).folder rest → end ≤ old.clock + 1 + (most_calls job (length lines) + rest)
entered_calls job lines path result old mid end entered run rest counted =
    within end mid.clock old.clock (most_calls job (length lines) + rest) entered.ticks.clock_is
    (run rest (subst (λ (m : Moment). AreCounted job m.folder rest) (sym entered.same) counted))
  where
    within : (a b c most : ℕ) → b ≡ c + 1 → a ≤ b + most → a ≤ c + 1 + most
    within a b c most one few = omega (arith, one, few)
