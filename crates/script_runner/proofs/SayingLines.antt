-- Saying the lines of a step: what each line needs of the folder, and lines one behind the other.
use Rattle.std.proofs.Common.{◌≡◌, ◌∙◌, ◌⊎◌, ℕ, ◌+◌, ◌<◌, ◌≤◌, Bool, List, [], ◌∷◌, ◌++◌, length, take, drop, get_or, refl, sym, ap, ap₂, subst, inl, inr, arith, append_assoc}
use Rattle.std.specs.Prelude.{IsTrue, Result, Ok, Err, OnOk, IfErr}
use Rattle.std.specs.List.{flat_map}
use Rattle.std.specs.Result.{IsErrAnd}
use Rattle.std.proofs.lemmas.List.{append-nil, take_more, take-append-drop}
use Rattle.std.proofs.lemmas.Grind.{flat_map-append}
use Rattle.bool_tables.specs.declared.steps.Planned.{Planned}
use Rattle.shelf_model.specs.declared.fault.Failed.{Failed}
use Rattle.shelf_model.specs.declared.file_no.FileNo.{FileNo}
use Rattle.shelf_model.specs.Folder.{Folder, AreFiles}
use Rattle.shelf_model.specs.World.{World, now, said}
use Rattle.shelf_model.specs.Calls.{Told, Said}
use Rattle.shelf_model.specs.Moments.{Throughout, Quiet, Stays, Ran}
use Rattle.shelf_model.proofs.Runs.{stands, joins, weakens, at_end, told, told_then, told_here}
use Rattle.catalogue.specs.declared.layout.Entry.{Entry}
use Rattle.catalogue.specs.Counts.{present, count_in}
use Rattle.catalogue.specs.Entries.{IsEntryOf}
use Rattle.catalogue.specs.Commits.{IsReady}
use Rattle.step_work.specs.Plans.{no_step}
use Rattle.sound_image.specs.Jobs.{Job, step_at}
use Rattle.sound_image.specs.Entries.{IsEntryOfStep, kind_of}
use Rattle.sound_image.specs.Holds.{Holds}
use Rattle.sound_image.proofs.EntryLaws.{entry_stands, held_entry}
use Rattle.script_reader.specs.declared.plan.LineEnd.{LineEnd}
use Rattle.script_runner.specs.declared.finish.Finish.{Finish}
use Rattle.script_runner.specs.declared.finish.Finish.TheVariants.{Done, OtherJob, FolderFault, SayFault, Damaged, RunsSpent}
use Rattle.script_runner.specs.Text.{answer_line, said_line}
use Rattle.script_runner.specs.Shapes.{AreShown}
use Rattle.diagram_list.specs.Saying.{SaysFront, IsSaying, StaysThere}
use Rattle.script_runner.specs.Running.{SaysOnly, IsEntryDamage, RefusesFolder}
use Rattle.script_runner.specs.StepRuns.{SpeaksLines, SpokeWhole, SpokeAll, StopsBehind, IsSayStop, SaysRight, SaysLines, IsReadFault}
use Rattle.script_runner.proofs.Shown.{shown_then, one_shown}
use Rattle.diagram_list.proofs.SayingLaws.{says_nothing, longer_front, later_front, stays_then, stays_on_shelf}
use Rattle.script_runner.proofs.Saying.{one_piece, stays_and_says}
use Rattle.script_runner.proofs.RunSteps.{present_count}

-- the text of lines
abbrev text_of : Job → List LineEnd → List ℕ
text_of job lines = flat_map (said_line job) lines

-- none of the lines was said
speaks_none : (steps : List Planned) (lines : List LineEnd) (r : FileNo → List ℕ) (before : List ℕ) → SpeaksLines steps lines r before before
speaks_none steps lines r before = record {
  part = [];
  said_is = sym (append-nil before);
  rest = [];
  lines_are = record { spoken = []; later = lines; parts = refl; shown = refl };
}

-- so they are the first of more lines
speaks_of_more : (steps : List Planned) (xs ys : List LineEnd) (r : FileNo → List ℕ) (before bytes : List ℕ) → SpeaksLines steps xs r before bytes
    → SpeaksLines steps (xs ++ ys) r before bytes
speaks_of_more steps xs ys r before bytes speaks = record {
  part = speaks.part;
  said_is = speaks.said_is;
  rest = speaks.rest;
  lines_are = record {
    spoken = speaks.lines_are.spoken;
    later = speaks.lines_are.later ++ ys;
    parts = ap (λ ls. ls ++ ys) speaks.lines_are.parts ∙ append_assoc speaks.lines_are.spoken speaks.lines_are.later ys;
    shown = speaks.lines_are.shown;
  };
}

spoke_of_more : (steps : List Planned) (xs ys : List LineEnd) (r : FileNo → List ℕ) (before bytes : List ℕ) → SpokeWhole steps xs r before bytes
    → SpokeWhole steps (xs ++ ys) r before bytes
spoke_of_more steps xs ys r before bytes spoke = record {
  part = spoke.part;
  said_is = spoke.said_is;
  lines_are = record {
    spoken = spoke.lines_are.spoken;
    later = spoke.lines_are.later ++ ys;
    parts = ap (λ ls. ls ++ ys) spoke.lines_are.parts ∙ append_assoc spoke.lines_are.spoken spoke.lines_are.later ys;
    shown = spoke.lines_are.shown;
  };
}

-- lines behind lines that were said
speaks_behind : (steps : List Planned) (xs ys : List LineEnd) (r : FileNo → List ℕ) (before mid bytes : List ℕ) → SpokeAll steps xs r before mid
    → SpeaksLines steps ys r mid bytes → SpeaksLines steps (xs ++ ys) r before bytes
speaks_behind steps xs ys r before mid bytes all speaks = record {
  part = all.part ++ speaks.part;
  said_is = speaks.said_is ∙ ap (λ b. b ++ speaks.part) all.said_is ∙ append_assoc before all.part speaks.part;
  rest = speaks.rest;
  lines_are = record {
    spoken = xs ++ speaks.lines_are.spoken;
    later = speaks.lines_are.later;
    parts = ap (λ ls. xs ++ ls) speaks.lines_are.parts ∙ sym (append_assoc xs speaks.lines_are.spoken speaks.lines_are.later);
    shown = subst (AreShown steps r (xs ++ speaks.lines_are.spoken)) (sym (append_assoc all.part speaks.part speaks.rest))
        (shown_then steps r xs speaks.lines_are.spoken all.part (speaks.part ++ speaks.rest) all.shown speaks.lines_are.shown);
  };
}

spoke_behind : (steps : List Planned) (xs ys : List LineEnd) (r : FileNo → List ℕ) (before mid bytes : List ℕ) → SpokeAll steps xs r before mid
    → SpokeWhole steps ys r mid bytes → SpokeWhole steps (xs ++ ys) r before bytes
spoke_behind steps xs ys r before mid bytes all spoke = record {
  part = all.part ++ spoke.part;
  said_is = spoke.said_is ∙ ap (λ b. b ++ spoke.part) all.said_is ∙ append_assoc before all.part spoke.part;
  lines_are = record {
    spoken = xs ++ spoke.lines_are.spoken;
    later = spoke.lines_are.later;
    parts = ap (λ ls. xs ++ ls) spoke.lines_are.parts ∙ sym (append_assoc xs spoke.lines_are.spoken spoke.lines_are.later);
    shown = shown_then steps r xs spoke.lines_are.spoken all.part spoke.part all.shown spoke.lines_are.shown;
  };
}

all_behind : (steps : List Planned) (xs ys : List LineEnd) (r : FileNo → List ℕ) (before mid bytes : List ℕ) → SpokeAll steps xs r before mid
    → SpokeAll steps ys r mid bytes → SpokeAll steps (xs ++ ys) r before bytes
all_behind steps xs ys r before mid bytes all more = record {
  part = all.part ++ more.part;
  said_is = more.said_is ∙ ap (λ b. b ++ more.part) all.said_is ∙ append_assoc before all.part more.part;
  shown = shown_then steps r xs ys all.part more.part all.shown more.shown;
}

-- nothing was said yet
pub says_no_line : (steps : List Planned) (count : ℕ) (e : Entry) (w : World) → SaysLines steps count [] e (Ok tt) w w
says_no_line steps count e w = record {
  files = stands w (Stays (now w)) refl;
  stays = record { texts_are = refl; home_is = refl; inside_is = refl; strays_are = λ _. refl };
  speaks = stands w (λ m. SpeaksLines steps [] (present (now w).folder) (said w) m.said) (speaks_none steps [] (present (now w).folder) (said w));
  ok = record { part = []; said_is = sym (append-nil (said w)); shown = refl };
  stops = tt;
  damaged = tt;
  holds = λ job plan same holds entry. record {
    fronts = stands w (λ m. SaysFront (said w) [] m.said) (says_nothing (said w) [] (said w) refl);
    ok = sym (append-nil (said w));
    err = tt;
  };
}

files_then : (old mid new : World) → Throughout old mid (Stays (now old)) → Throughout mid new (Stays (now mid)) → Throughout old new (Stays (now old))
files_then old mid new first second =
    joins old mid new (Stays (now old)) first (weakens mid new (Stays (now mid)) (Stays (now old)) (λ m same. same ∙ at_end old mid (Stays (now old)) first) second)

-- lines and more lines
pub says_then : (steps : List Planned) (count : ℕ) (xs ys : List LineEnd) (e : Entry) (x : Unit) (result : Result Unit Finish) (old mid new : World)
    → SaysLines steps count xs e (Ok x) old mid → SaysLines steps count ys e result mid new → SaysLines steps count (xs ++ ys) e result old new
says_then steps count xs ys e x result old mid new first second = record {
  files = files_then old mid new first.files second.files;
  stays = stays_then old mid new first.stays second.stays;
  speaks = joins old mid new (λ m. SpeaksLines steps (xs ++ ys) (present (now old).folder) (said old) m.said)
      (weakens old mid (λ m. SpeaksLines steps xs (present (now old).folder) (said old) m.said) (λ m. SpeaksLines steps (xs ++ ys) (present (now old).folder) (said old) m.said)
      (λ m speaks. speaks_of_more steps xs ys (present (now old).folder) (said old) m.said speaks) first.speaks)
      (weakens mid new (λ m. SpeaksLines steps ys (present (now mid).folder) (said mid) m.said) (λ m. SpeaksLines steps (xs ++ ys) (present (now old).folder) (said old) m.said)
      (λ m speaks. speaks_behind steps xs ys (present (now old).folder) (said old) (said mid) m.said first.ok
      (subst (λ (folder : Folder). SpeaksLines steps ys (present folder) (said mid) m.said) same_folder speaks)) second.speaks);
  ok = all_said result second.ok;
  stops = second.stops;
  damaged = all_damaged result second.damaged;
  holds = λ job plan same holds entry.
      let a : SaysRight job xs (Ok x) old mid = first.holds job plan same holds entry in
      let held : Holds job count (now mid).folder = subst (Holds job count) (sym (at_end old mid (Stays (now old)) first.files)) holds in
      let b : SaysRight job ys result mid new = second.holds job plan same held entry in
      let parts : text_of job (xs ++ ys) ≡ text_of job xs ++ text_of job ys = flat_map-append (said_line job) xs ys in
      record {
        fronts = subst (λ text. Throughout old new (λ m. SaysFront (said old) text m.said)) (sym parts)
            (joins old mid new (λ m. SaysFront (said old) (text_of job xs ++ text_of job ys) m.said)
            (weakens old mid (λ m. SaysFront (said old) (text_of job xs) m.said) (λ m. SaysFront (said old) (text_of job xs ++ text_of job ys) m.said)
            (λ m says. longer_front (said old) (text_of job xs) (text_of job ys) m.said says) a.fronts)
            (weakens mid new (λ m. SaysFront (said mid) (text_of job ys) m.said) (λ m. SaysFront (said old) (text_of job xs ++ text_of job ys) m.said)
            (λ m says. later_front (said old) (text_of job xs) (text_of job ys) (said mid) m.said a.ok says) b.fronts));
        ok = whole result job parts a.ok b.ok;
        err = b.err;
      };
}
  where
    same_folder : (now mid).folder ≡ (now old).folder
    same_folder = at_end old mid (Stays (now old)) first.files

    all_said : (r : Result Unit Finish) → OnOk r (SpokeAll steps ys (present (now mid).folder) (said mid) (said new))
        → OnOk r (SpokeAll steps (xs ++ ys) (present (now old).folder) (said old) (said new))
    all_said (Ok y) more = all_behind steps xs ys (present (now old).folder) (said old) (said mid) (said new) first.ok
        (subst (λ (folder : Folder). SpokeAll steps ys (present folder) (said mid) (said new)) same_folder more)
    all_said (Err f) more = tt

    all_damaged : (r : Result Unit Finish) → IfErr r (StopsBehind steps ys mid new) → IfErr r (StopsBehind steps (xs ++ ys) old new)
    all_damaged (Ok y) stops = tt
    all_damaged (Err f) stops = λ g at e.
        let found = subst (λ (folder : Folder). IsEntryDamage steps g at (present folder) × SpokeWhole steps ys (present folder) (said mid) (said new)) same_folder (stops g at e) in
        (found.0, spoke_behind steps xs ys (present (now old).folder) (said old) (said mid) (said new) first.ok found.1)

    whole : (r : Result Unit Finish) (job : Job) → text_of job (xs ++ ys) ≡ text_of job xs ++ text_of job ys → said mid ≡ said old ++ text_of job xs
        → OnOk r (said new ≡ said mid ++ text_of job ys) → OnOk r (said new ≡ said old ++ text_of job (xs ++ ys))
    whole (Ok y) job parts a b =
        b ∙ ap (λ t. t ++ text_of job ys) a ∙ append_assoc (said old) (text_of job xs) (text_of job ys) ∙ ap (λ t. said old ++ t) (sym parts)
    whole (Err f) job parts a b = tt

-- lines that stopped a run, and those that weren't said
pub says_fewer : (steps : List Planned) (count : ℕ) (xs ys : List LineEnd) (e : Entry) (finish : Finish) (old new : World)
    → SaysLines steps count xs e (Err finish) old new → SaysLines steps count (xs ++ ys) e (Err finish) old new
says_fewer steps count xs ys e finish old new says = record {
  files = says.files;
  stays = says.stays;
  speaks = weakens old new (λ m. SpeaksLines steps xs (present (now old).folder) (said old) m.said) (λ m. SpeaksLines steps (xs ++ ys) (present (now old).folder) (said old) m.said)
      (λ m speaks. speaks_of_more steps xs ys (present (now old).folder) (said old) m.said speaks) says.speaks;
  ok = tt;
  stops = says.stops;
  damaged = λ f at e. ((says.damaged f at e).0, spoke_of_more steps xs ys (present (now old).folder) (said old) (said new) (says.damaged f at e).1);
  holds = λ job plan same holds entry.
      let a : SaysRight job xs (Err finish) old new = says.holds job plan same holds entry in
      record {
        fronts = subst (λ text. Throughout old new (λ m. SaysFront (said old) text m.said)) (sym (flat_map-append (said_line job) xs ys))
            (weakens old new (λ m. SaysFront (said old) (text_of job xs) m.said) (λ m. SaysFront (said old) (text_of job xs ++ text_of job ys) m.said)
            (λ m front. longer_front (said old) (text_of job xs) (text_of job ys) m.said front) a.fronts);
        ok = tt;
        err = a.err;
      };
}

-- where the folder holds the steps an entry that is read is right
module _ (job : Job) (count : ℕ) (k : ℕ) (folder : Folder) (holds : Holds job count folder) (within : k < count) where
  read_is_sound : (finish : Finish) → IsReadFault k (kind_of (step_at job k).step) (present folder) finish → ¬ (RefusesFolder finish)
  read_is_sound Done fault refuses = refuses
  read_is_sound (OtherJob at) fault refuses = fault
  read_is_sound FolderFault fault refuses = refuses
  read_is_sound SayFault fault refuses = refuses
  read_is_sound (Damaged f at) fault refuses =
      let found = entry_stands job count k folder holds within in
      fault.2 found.0 (record { entry = found.1.entry_is; number = found.1.number_is; bytes = found.2 }) found.1.kind_is
  read_is_sound (RunsSpent step) fault refuses = refuses

-- such a fault stops the saying of lines
read_stops : (k kind : ℕ) (r : FileNo → List ℕ) (finish : Finish) → IsReadFault k kind r finish → IsSayStop finish
read_stops k kind r Done fault = fault
read_stops k kind r (OtherJob at) fault = fault
read_stops k kind r FolderFault fault = tt
read_stops k kind r SayFault fault = tt
read_stops k kind r (Damaged f at) fault = tt
read_stops k kind r (RunsSpent step) fault = fault

read_names : (steps : List Planned) (k : ℕ) (r : FileNo → List ℕ) (finish : Finish) → k < count_in r
    → IsReadFault k (kind_of (get_or steps k no_step).step) r finish → (f : FileNo) (at : ℕ) → finish ≡ Damaged f at → IsEntryDamage steps f at r
read_names steps k r finish within fault f at same =
    let damage = subst (IsReadFault k (kind_of (get_or steps k no_step).step) r) same fault in
    record { step = k; counted = within; file_is = damage.0; at_is = damage.1; none_there = damage.2 }

-- an entry that was read, or is at hand
abbrev IsShown : ℕ → Entry → Entry → Folder → Type 0
IsShown k made e folder = ((k ≡ made.number) × (e ≡ made)) ⊎ IsEntryOf k (present folder) e

shown_is : (job : Job) (count k : ℕ) (made e : Entry) (folder : Folder) → Holds job count folder → k < count → IsEntryOfStep job made.number made → IsShown k made e folder → IsEntryOfStep job k e
shown_is job count k made e folder holds within entry (inl same) = subst (λ x. IsEntryOfStep job k x) (sym same.1) (subst (λ j. IsEntryOfStep job j made) (sym same.0) entry)
shown_is job count k made e folder holds within entry (inr read) = held_entry job count k folder e holds within read

-- an answer that is known to be an error
pub err_is : (result : Result Unit Finish) (finish : Finish) → IsErrAnd result (λ f. f ≡ finish) → result ≡ Err finish
err_is (Ok x) finish is = absurd is
err_is (Err f) finish is = ap Err is

-- the line of an entry
entry_line : (job : Job) (steps : List Planned) (line : LineEnd) (e : Entry) → job.steps ≡ steps → IsEntryOfStep job line.shows e
    → answer_line line.line (get_or steps line.shows no_step).step e.answer e.count ≡ said_line job line
entry_line job steps line e same entry =
    ap (λ (xs : List Planned). answer_line line.line (get_or xs line.shows no_step).step e.answer e.count) (sym same)
    ∙ ap₂ (λ a c. answer_line line.line (step_at job line.shows).step a c) entry.answer_is entry.count_is

module _ {S : Type 0} (tells : S → Bool) (world : S → World) (law : (s : S) → IsTrue (tells s) → AreFiles (now (world s)).folder)
    (steps : List Planned) (line : LineEnd) (made : Entry) (shown : line.shows ≤ made.number) where
  below : line.shows < made.number + 1
  below = omega (arith, shown)

  -- the entry couldn't be read
  pub not_read : (finish : Finish) (old s : S) → (IsTrue (tells old) → IsReady (made.number + 1) (now (world old)).folder)
      → Told tells old s (Ran (Stays (now (world old))) (world old) (world s))
      → (IsTrue (tells s) → IsReadFault line.shows (kind_of (get_or steps line.shows no_step).step) (present (now (world old)).folder) finish)
      → Told tells old s (SaysLines steps (made.number + 1) (line ∷ []) made (Err finish) (world old) (world s))
  not_read finish old s ready read fault = record {
    before = read.before;
    did = λ tells_s.
        let ran : Ran (Stays (now (world old))) (world old) (world s) = read.did tells_s in
        let tells_old : IsTrue (tells old) = read.before tells_s in
        let kind : ℕ = kind_of (get_or steps line.shows no_step).step in
        let count : count_in (present (now (world old)).folder) ≡ made.number + 1 =
        present_count (now (world old)).folder (made.number + 1) (law old tells_old) (ready tells_old) in
        record {
          files = weakens (world old) (world s) (Quiet (said (world old)) (Stays (now (world old)))) (Stays (now (world old))) (λ m quiet. quiet.holds) ran.moments;
          stays = stays_on_shelf (world old) (world s) ran.station;
          speaks = weakens (world old) (world s) (Quiet (said (world old)) (Stays (now (world old))))
              (λ m. SpeaksLines steps (line ∷ []) (present (now (world old)).folder) (said (world old)) m.said)
              (λ m quiet. subst (SpeaksLines steps (line ∷ []) (present (now (world old)).folder) (said (world old))) (sym quiet.said_is)
              (speaks_none steps (line ∷ []) (present (now (world old)).folder) (said (world old)))) ran.moments;
          ok = tt;
          stops = read_stops line.shows kind (present (now (world old)).folder) finish (fault tells_s);
          damaged = λ f at e. (
            read_names steps line.shows (present (now (world old)).folder) finish (omega (arith, below, count)) (fault tells_s) f at e,
            record {
              part = [];
              said_is = ran.station.said_is ∙ sym (append-nil (said (world old)));
              lines_are = record { spoken = []; later = line ∷ []; parts = refl; shown = refl };
            },
          );
          holds = λ job plan steps_are holds entry. record {
            fronts = weakens (world old) (world s) (Quiet (said (world old)) (Stays (now (world old)))) (λ m. SaysFront (said (world old)) (text_of job (line ∷ [])) m.said)
                (λ m quiet. says_nothing (said (world old)) (text_of job (line ∷ [])) m.said quiet.said_is) ran.moments;
            ok = tt;
            err = read_is_sound job (made.number + 1) line.shows (now (world old)).folder holds below finish
                (subst (λ (xs : List Planned). IsReadFault line.shows (kind_of (get_or xs line.shows no_step).step) (present (now (world old)).folder) finish) (sym steps_are) (fault tells_s));
          };
        };
  }

  -- after an entry was read a line was said, or a front part of it
  module _ (e : Entry) (piece : List ℕ) (said_it : Result Unit Failed) (old s t : S)
      (stands_made : IsTrue (tells old) → IsEntryOf made.number (present (now (world old)).folder) made) (read : Told tells old s (Ran (Stays (now (world old))) (world old) (world s)))
      (is_shown : IsTrue (tells s) → IsShown line.shows made e (now (world old)).folder) (piece_is : piece ≡ answer_line line.line (get_or steps line.shows no_step).step e.answer e.count)
      (says : Told tells s t (Said piece said_it (world s) (world t))) where
    only : IsTrue (tells t) → SaysOnly piece (world s) (world t) × OnOk said_it (said (world t) ≡ said (world s) ++ piece)
    only tells_t = one_piece piece said_it (world s) (world t) (says.did tells_t)

    ran : IsTrue (tells t) → Ran (Stays (now (world old))) (world old) (world s)
    ran tells_t = read.did (says.before tells_t)

    all_files : IsTrue (tells t) → Throughout (world old) (world t) (Stays (now (world old)))
    all_files tells_t = files_then (world old) (world s) (world t)
        (weakens (world old) (world s) (Quiet (said (world old)) (Stays (now (world old)))) (Stays (now (world old))) (λ m quiet. quiet.holds) (ran tells_t).moments)
        (weakens (world s) (world t) (IsSaying piece (now (world s))) (Stays (now (world s))) (λ m saying. saying.folder_is) (only tells_t).0.moments)

    all_stays : IsTrue (tells t) → StaysThere (world old) (world t)
    all_stays tells_t = stays_and_says piece (world old) (world s) (world t) (stays_on_shelf (world old) (world s) (ran tells_t).station) (only tells_t).0

    the_text : (tells_t : IsTrue (tells t)) (job : Job) → job.steps ≡ steps → Holds job (made.number + 1) (now (world old)).folder → IsEntryOfStep job made.number made
        → piece ≡ text_of job (line ∷ [])
    the_text tells_t job same holds entry =
        piece_is
        ∙ entry_line job steps line e same (shown_is job (made.number + 1) line.shows made e (now (world old)).folder holds below entry (is_shown (says.before tells_t)))
        ∙ sym (append-nil (said_line job line))

    all_fronts : (tells_t : IsTrue (tells t)) (text : List ℕ) → piece ≡ text → Throughout (world old) (world t) (λ m. SaysFront (said (world old)) text m.said)
    all_fronts tells_t text same = subst (λ x. Throughout (world old) (world t) (λ m. SaysFront (said (world old)) x m.said)) same
        (joins (world old) (world s) (world t) (λ m. SaysFront (said (world old)) piece m.said)
        (weakens (world old) (world s) (Quiet (said (world old)) (Stays (now (world old)))) (λ m. SaysFront (said (world old)) piece m.said)
        (λ m quiet. says_nothing (said (world old)) piece m.said quiet.said_is) (ran tells_t).moments)
        (subst (λ before. Throughout (world s) (world t) (λ m. SaysFront before piece m.said)) (ran tells_t).station.said_is
        (weakens (world s) (world t) (IsSaying piece (now (world s))) (λ m. SaysFront (said (world s)) piece m.said) (λ m saying. saying.says) (only tells_t).0.moments)))

    -- the line shows the entry that stands at its step's place
    here : IsTrue (tells t) → AreShown steps (present (now (world old)).folder) (line ∷ []) piece
    here tells_t = one_shown steps (present (now (world old)).folder) line e piece (by_case (is_shown (says.before tells_t))) piece_is
      where
        by_case : IsShown line.shows made e (now (world old)).folder → IsEntryOf line.shows (present (now (world old)).folder) e
        by_case (inl same) = subst (λ x. IsEntryOf line.shows (present (now (world old)).folder) x) (sym same.1)
            (subst (λ k. IsEntryOf k (present (now (world old)).folder) made) (sym same.0) (stands_made (read.before (says.before tells_t))))
        by_case (inr found) = found

    speaks_it : IsTrue (tells t) → Throughout (world old) (world t) (λ m. SpeaksLines steps (line ∷ []) (present (now (world old)).folder) (said (world old)) m.said)
    speaks_it tells_t = weakens (world old) (world t) (λ m. SaysFront (said (world old)) piece m.said)
        (λ m. SpeaksLines steps (line ∷ []) (present (now (world old)).folder) (said (world old)) m.said) (λ m front. record {
          part = front.front;
          said_is = front.said_is;
          rest = front.rest;
          lines_are = record {
            spoken = line ∷ [];
            later = [];
            parts = refl;
            shown = subst (AreShown steps (present (now (world old)).folder) (line ∷ [])) front.text_is (here tells_t);
          };
        }) (all_fronts tells_t piece refl)

    pub line_not_said : Told tells old t (SaysLines steps (made.number + 1) (line ∷ []) made (Err SayFault) (world old) (world t))
    line_not_said = record {
      before = λ tells_t. read.before (says.before tells_t);
      did = λ tells_t. record {
        files = all_files tells_t;
        stays = all_stays tells_t;
        speaks = speaks_it tells_t;
        ok = tt;
        stops = tt;
        damaged = λ f at d. cc;
        holds = λ job plan same holds entry. record { fronts = all_fronts tells_t (text_of job (line ∷ [])) (the_text tells_t job same holds entry); ok = tt; err = λ x. x };
      };
    }

    said_whole : (x : Unit) → said_it ≡ Ok x → IsTrue (tells t) → said (world t) ≡ said (world s) ++ piece
    said_whole x ok tells_t = subst (λ r. OnOk r (said (world t) ≡ said (world s) ++ piece)) ok (only tells_t).1

    pub line_said : (x y : Unit) → said_it ≡ Ok x → Told tells old t (SaysLines steps (made.number + 1) (line ∷ []) made (Ok y) (world old) (world t))
    line_said x y ok = record {
      before = λ tells_t. read.before (says.before tells_t);
      did = λ tells_t. record {
        files = all_files tells_t;
        stays = all_stays tells_t;
        speaks = speaks_it tells_t;
        ok = record {
          part = piece;
          said_is = said_whole x ok tells_t ∙ ap (λ b. b ++ piece) (ran tells_t).station.said_is;
          shown = here tells_t;
        };
        stops = tt;
        damaged = tt;
        holds = λ job plan same holds entry.
            let whole : said (world t) ≡ said (world s) ++ piece = said_whole x ok tells_t in
            record {
              fronts = all_fronts tells_t (text_of job (line ∷ [])) (the_text tells_t job same holds entry);
              ok = whole ∙ ap₂ (λ a b. a ++ b) (ran tells_t).station.said_is (the_text tells_t job same holds entry);
              err = tt;
            };
      };
    }

module _ {S : Type 0} (tells : S → Bool) (world : S → World) (steps : List Planned) (made : Entry) where
  -- no line yet
  pub none_said : (s : S) → Told tells s s (SaysLines steps (made.number + 1) [] made (Ok tt) (world s) (world s))
  none_said s = told_here tells s _ (λ _. says_no_line steps (made.number + 1) made (world s))

  -- one line more of a list of lines
  pub line_more : (lines : List LineEnd) (i : ℕ) (d : LineEnd) (x : Unit) (result : Result Unit Finish) (old s t : S) → i < length lines
      → Told tells old s (SaysLines steps (made.number + 1) (take i lines) made (Ok x) (world old) (world s))
      → Told tells s t (SaysLines steps (made.number + 1) (get_or lines i d ∷ []) made result (world s) (world t))
      → Told tells old t (SaysLines steps (made.number + 1) (take (i + 1) lines) made result (world old) (world t))
  line_more lines i d x result old s t within so_far says =
      subst (λ ls. Told tells old t (SaysLines steps (made.number + 1) ls made result (world old) (world t))) (sym (take_more lines i d within))
      (told_then tells old s t _ _ _ so_far says (λ _ a b. says_then steps (made.number + 1) (take i lines) (get_or lines i d ∷ []) made x result (world old) (world s) (world t) a b))

  -- the run stopped in a front part of a list of lines
  pub lines_stopped : (lines : List LineEnd) (i : ℕ) (finish : Finish) (old t : S)
      → Told tells old t (SaysLines steps (made.number + 1) (take i lines) made (Err finish) (world old) (world t))
      → Told tells old t (SaysLines steps (made.number + 1) lines made (Err finish) (world old) (world t))
  lines_stopped lines i finish old t says =
      subst (λ ls. Told tells old t (SaysLines steps (made.number + 1) ls made (Err finish) (world old) (world t))) (take-append-drop i lines)
      (told tells old t _ _ says (λ _ a. says_fewer steps (made.number + 1) (take i lines) (drop i lines) made finish (world old) (world t) a))

  -- the folder is as ready after lines as before
  pub ready_after : (lines : List LineEnd) (result : Result Unit Finish) (count : ℕ) (old s : S) → (IsTrue (tells old) → IsReady count (now (world old)).folder)
      → Told tells old s (SaysLines steps (made.number + 1) lines made result (world old) (world s)) → IsTrue (tells s) → IsReady count (now (world s)).folder
  ready_after lines result count old s ready says tells_s =
      subst (IsReady count) (sym (at_end (world old) (world s) (Stays (now (world old))) (says.did tells_s).files)) (ready (says.before tells_s))

  -- and the entry at hand stands at its place
  pub stands_after : (lines : List LineEnd) (result : Result Unit Finish) (count : ℕ) (old s : S) → (IsTrue (tells old) → IsEntryOf made.number (present (now (world old)).folder) made)
      → Told tells old s (SaysLines steps count lines made result (world old) (world s)) → IsTrue (tells s) → IsEntryOf made.number (present (now (world s)).folder) made
  stands_after lines result count old s stands says tells_s =
      subst (λ (folder : Folder). IsEntryOf made.number (present folder) made) (sym (at_end (world old) (world s) (Stays (now (world old))) (says.did tells_s).files))
      (stands (says.before tells_s))
