-- A run of steps, part by part: the banner, the steps with their lines, and the end.
use Rattle.std.proofs.Common.{◌≡◌, ◌∙◌, ℕ, ◌+◌, ◌-◌, ◌*◌, ◌<◌, ◌≤◌, nat_lt, List, [], ◌++◌, length, take, drop, get_or, refl, sym, ap, subst, inl, inr, arith, append_assoc, length-append}
use Rattle.std.specs.Prelude.{IsTrue, Result, Ok, Err, OnOk}
use Rattle.std.specs.List.{flat_map, list_all}
use Rattle.std.proofs.lemmas.List.{append-nil, append_cancel_left, take-append-drop, drop-drop, get_or-drop, get_or-take, length-take, length-take-le, length-drop}
use Rattle.std.proofs.lemmas.List.Folds.{list_all-append}
use Rattle.std.proofs.lemmas.Grind.{flat_map-append}
use Rattle.std.proofs.lemmas.Bool.{cases_lt, ltb-true, and_from}
use Rattle.shelf_model.specs.declared.fault.Failed.{Failed}
use Rattle.shelf_model.specs.declared.file_no.FileNo.{FileNo}
use Rattle.shelf_model.specs.Folder.{Folder, file_in, bytes_in, AreFiles}
use Rattle.shelf_model.specs.File.{File, IsKept}
use Rattle.shelf_model.specs.World.{Moment, World, now, said}
use Rattle.shelf_model.specs.Calls.{Said}
use Rattle.shelf_model.specs.Moments.{Throughout, Stays, Ran}
use Rattle.shelf_model.proofs.Runs.{weakens, at_end, ran_end}
use Rattle.catalogue.specs.declared.layout.Entry.{Entry}
use Rattle.catalogue.specs.declared.standing.Standing.{Standing}
use Rattle.catalogue.specs.Files.{job_step, catalogue}
use Rattle.catalogue.specs.Counts.{present, count_in}
use Rattle.catalogue.specs.Commits.{IsReady}
use Rattle.catalogue.specs.Standings.{without_budget, DuringAttach, IsAttached}
use Rattle.catalogue.proofs.Counted.{ready_counts, catalogue_not_step_gate, job_gate_not_catalogue}
use Rattle.catalogue.proofs.Stored.{catalogue_not_job_file}
use Rattle.sound_image.specs.Files.{node_file}
use Rattle.sound_image.specs.Jobs.{Job}
use Rattle.sound_image.specs.Entries.{IsEntryOfStep}
use Rattle.sound_image.specs.Holds.{Holds, AreSound, HaveCount}
use Rattle.sound_image.proofs.AttachLaws.{holds_after_attach}
use Rattle.sound_image.proofs.Numbers.{IsOfStep, not_job_file, not_job_gate, not_step_gate}
use Rattle.script_reader.specs.declared.plan.LineEnd.{LineEnd}
use Rattle.script_reader.specs.Lines.{rise_from}
use Rattle.script_runner.specs.declared.finish.Finish.{Finish}
use Rattle.script_runner.specs.Text.{said_line, done_line, ended_before, lines_from_step}
use Rattle.script_runner.specs.Shapes.{AreShown, IsShape, IsWholeShape}
use Rattle.script_runner.specs.Said.{whole_lines, said_count, no_line}
use Rattle.diagram_list.specs.Saying.{SaysFront, IsSaying, StaysThere}
use Rattle.script_runner.specs.Running.{SaysOnly, HasSaid, AreEmptied}
use Rattle.script_runner.specs.StepRuns.{SpeaksLines, SpokeWhole, SpokeAll, SaysRight, SaysLines}
use Rattle.script_runner.proofs.Tests.{each_passes}
use Rattle.script_runner.proofs.LineOrder.{ended_is, ended_rises}
use Rattle.script_runner.proofs.Shown.{shown_then}
use Rattle.script_runner.proofs.SaidLaws.{whole_lines-append, whole_lines-front, lines_are, said_below}
use Rattle.script_runner.proofs.Standing.{IsStanding}
use Rattle.script_runner.proofs.Saying.{one_piece, says_there}
use Rattle.script_runner.proofs.RunSteps.{HasMade, done_at, banner_at, text_at, remains, IsPlan, Ongoing, AtStep, PartSaid, SaysPart, banner_is_one, none_waits, attaching, attach_waits, saying, since, feeds}

-- a front of lines comes before a step, so each of them does
front_each : (step count : ℕ) (lines : List LineEnd) → IsTrue (list_all (λ (l : LineEnd). nat_lt l.last step) (take count lines)) → (i : ℕ) → i < count → i < length lines
    → (get_or lines i no_line).last < step
front_each step count lines front i within inside =
    let there : i < length (take count lines) = omega (arith, within, inside, length-take count lines) in
    let test : IsTrue (nat_lt (get_or (take count lines) i no_line).last step) =
    each_passes (λ (l : LineEnd). nat_lt l.last step) (take count lines) i no_line there front in
    subst (λ (l : LineEnd). l.last < step) (get_or-take count lines i no_line within) (ltb-true (get_or (take count lines) i no_line).last step test)

-- a piece that was said leaves the files and the station's folder
piece_stays : (piece : List ℕ) (mid new : World) → SaysOnly piece mid new → Throughout mid new (Stays (now mid)) × StaysThere mid new
piece_stays piece mid new says = (
  weakens mid new (IsSaying piece (now mid)) (Stays (now mid)) (λ m saying. saying.folder_is) says.moments,
  says_there piece mid new says,
)

piece_fronts : (piece : List ℕ) (mid new : World) → SaysOnly piece mid new → Throughout mid new (λ m. SaysFront (said mid) piece m.said)
piece_fronts piece mid new says = weakens mid new (IsSaying piece (now mid)) (λ m. SaysFront (said mid) piece m.said) (λ m saying. saying.says) says.moments

module _ (job : Job) (lines : List LineEnd) (plan : IsPlan job lines) (old : World) (files : AreFiles (now old).folder) where
  text_parts : (before : ℕ) → before ≤ length lines → IsTrue (list_all (λ (l : LineEnd). nat_lt l.last (done_at old)) (take before lines)) → IsTrue (rise_from (done_at old) (drop before lines))
      → text_at job lines old ≡ banner_at lines old ++ remains job (drop before lines)
  text_parts before within front rest =
      ap (λ ls. banner_at lines old ++ remains job ls) (ended_is (done_at old) lines before within front rest).1

  -- the banner is said, or a front part of it
  module _ (given : List ℕ) (of_job : without_budget given ≡ job.bytes) (s : Standing) (before : ℕ) (piece : List ℕ) (mid : World)
      (mid_files : AreFiles (now mid).folder) (run : Ran (DuringAttach given (now old)) old mid)
      (is_standing : IsStanding job.bytes (length job.steps) s (present (now old).folder))
      (attached : IsAttached given s.done (now mid).folder)
      (within : before ≤ length lines) (front : IsTrue (list_all (λ (l : LineEnd). nat_lt l.last s.done) (take before lines))) (rest : IsTrue (rise_from s.done (drop before lines)))
      (piece_is : piece ≡ banner_at lines old) where
    front_done : IsTrue (list_all (λ (l : LineEnd). nat_lt l.last (done_at old)) (take before lines))
    front_done = subst (λ d. IsTrue (list_all (λ (l : LineEnd). nat_lt l.last d) (take before lines))) is_standing.done front

    rest_done : IsTrue (rise_from (done_at old) (drop before lines))
    rest_done = subst (λ d. IsTrue (rise_from d (drop before lines))) is_standing.done rest

    counted : (ended_before (done_at old) lines ≡ before) × (lines_from_step (done_at old) lines ≡ drop before lines)
    counted = ended_is (done_at old) lines before within front_done rest_done

    one : whole_lines piece ≡ 1
    one = ap whole_lines piece_is ∙ banner_is_one lines old

    earlier : (i : ℕ) → i < before → (get_or lines i no_line).last < s.done
    earlier i inside = front_each s.done before lines front i inside (omega (arith, inside, within))

    -- a front part of the banner
    banner_part : (part back : List ℕ) → piece ≡ part ++ back → PartSaid job lines s.done [] part old mid
    banner_part part back parts = record {
      shape = record {
        rest = back;
        shape = record {
          spoken = [];
          later = lines_from_step (done_at old) lines;
          parts = refl;
          body = [];
          shown = refl;
          end = [];
          ends = inl refl;
          text_is = sym parts ∙ piece_is ∙ sym (append-nil (banner_at lines old));
        };
      };
      waits = λ image is_image. attach_waits job lines plan old files given (now mid) (ran_end old mid (DuringAttach given (now old)) run) image is_image part;
      sound = λ sound. (
        back ++ remains job (drop before lines),
        text_parts before within front_done rest_done ∙ ap (λ p. p ++ remains job (drop before lines)) (sym piece_is ∙ parts) ∙ append_assoc part back (remains job (drop before lines)),
        said_below (done_at old) lines part before s.done (let same : ended_before (done_at old) lines ≡ before = counted.0 in omega (arith, same))
            (inl (let least : whole_lines part ≤ whole_lines (part ++ back) = whole_lines-front part back in
            let whole : whole_lines (part ++ back) ≡ 1 = ap whole_lines (sym parts) ∙ one in
            omega (arith, least, whole))) earlier,
      );
    }

    holds_it : AreSound job (now old).folder → Holds job s.done (now mid).folder
    holds_it sound = holds_after_attach job given s.done (now old) (now mid) of_job files mid_files plan.well_formed.few_steps sound
        (ran_end old mid (DuringAttach given (now old)) run) attached

    catalogue_same : file_in (now mid).folder catalogue ≡ file_in (now old).folder catalogue
    catalogue_same = (ran_end old mid (DuringAttach given (now old)) run).others catalogue catalogue_not_job_file (λ e. job_gate_not_catalogue (sym e)) catalogue_not_step_gate

    -- so is each file of a step
    step_file_same : (f : FileNo) → f.step < job_step → file_in (now mid).folder f ≡ file_in (now old).folder f
    step_file_same f before =
        let of_step : IsOfStep f = record { early = λ e. omega (arith, e, before) } in
        (ran_end old mid (DuringAttach given (now old)) run).others f (not_job_file f of_step) (not_job_gate f of_step) (not_step_gate f of_step)

    -- and the node file of each step that was committed
    node_file_same : (k : ℕ) → k < done_at old
        → file_in (now mid).folder (node_file k) ≡ file_in (now old).folder (node_file k)
    node_file_same k below =
        let done : s.done ≡ done_at old = is_standing.done in
        let few = is_standing.few in
        let few_steps = plan.well_formed.few_steps in
        step_file_same (node_file k) (omega (arith, below, done, few, few_steps))

    pub begun : (result : Result Unit Failed) (new : World) → Said piece result mid new
        → Ongoing job lines old new × OnOk result (AtStep job lines s.done (drop before lines) old new)
    begun result new did = (so_far, at_first result (one_piece piece result mid new did).1)
      where
        says : SaysOnly piece mid new
        says = (one_piece piece result mid new did).0

        so_far : Ongoing job lines old new
        so_far = saying job lines plan old files s.done [] mid new (attaching job lines plan old files given mid of_job run)
            (let same : s.done ≡ done_at old = is_standing.done in omega (arith, same)) (run.station.said_is ∙ sym (append-nil (said old))) holds_it
            (piece_stays piece mid new says).0 (piece_stays piece mid new says).1
            (weakens mid new (λ m. SaysFront (said mid) piece m.said) (SaysPart job lines s.done [] old mid)
            (λ m front. (front.front, front.said_is, banner_part front.front front.rest front.text_is)) (piece_fronts piece mid new says))

        same : (now new).folder ≡ (now mid).folder
        same = at_end mid new (Stays (now mid)) (piece_stays piece mid new says).0

        same_catalogue : file_in (now new).folder catalogue ≡ file_in (now old).folder catalogue
        same_catalogue = ap (λ (folder : Folder). file_in folder catalogue) same ∙ catalogue_same

        at_first : (r : Result Unit Failed) → OnOk r (said new ≡ said mid ++ piece) → OnOk r (AtStep job lines s.done (drop before lines) old new)
        at_first (Ok x) whole = record {
          run = so_far;
          ready = subst (IsReady s.done) (sym same) attached.ready;
          reached = let done : s.done ≡ done_at old = is_standing.done in omega (arith, done);
          upto = is_standing.few;
          spoken = [];
          parts = counted.1;
          place = before;
          place_is = let first : ended_before (done_at old) lines ≡ before = counted.0 in omega (arith, first);
          within = within;
          rest_is = refl;
          earlier = earlier;
          waits =
              let first : ended_before (done_at old) lines ≡ before = counted.0 in
              let done : s.done ≡ done_at old = is_standing.done in
              let up : ended_before (s.done - 1) lines ≤ ended_before (done_at old) lines = ended_rises (s.done - 1) (done_at old) lines (omega (arith, done)) in
              omega (arith, up, first);
          body = [];
          said_is = whole ∙ ap (λ b. b ++ piece) run.station.said_is ∙ ap (λ p. said old ++ p) (piece_is ∙ sym (append-nil (banner_at lines old)));
          shown = refl;
          below = refl;
          made = record {
            kept = λ front short kept. subst (IsKept front) (sym same_catalogue) kept;
            reads = ap (λ (x : File). take (128 * done_at old) x.bytes) same_catalogue;
            made = λ k from until. let done : s.done ≡ done_at old = is_standing.done in absurd (omega (arith, from, until, done));
            emptied = λ k from until. let done : s.done ≡ done_at old = is_standing.done in absurd (omega (arith, from, until, done));
            keeps = λ k below none.
                ap (λ (folder : Folder). file_in folder (node_file k)) same ∙ node_file_same k below;
            later = λ f from before. ap (λ (folder : Folder). file_in folder f) same ∙ step_file_same f before;
          };
          sound = λ sound. record {
            text_is = text_parts before within front_done rest_done ∙ ap (λ p. p ++ remains job (drop before lines)) (sym (append-nil (banner_at lines old)));
            holds = subst (Holds job s.done) (sym same) (holds_it sound);
          };
        }
        at_first (Err e) whole = tt

  -- the lines that come before a step are said, the first of those that remain
  module _ (step count : ℕ) (rest : List LineEnd) (e : Entry) (mid new : World) (result : Result Unit Finish) (at : AtStep job lines step rest old mid) (inside : count ≤ length rest)
      (front : IsTrue (list_all (λ (l : LineEnd). nat_lt l.last step) (take count rest)))
      (shows : IsTrue (list_all (λ (l : LineEnd). nat_lt l.shows step) (take count rest)))
      (entry : AreSound job (now old).folder → IsEntryOfStep job e.number e)
      (says : SaysLines job.steps step (take count rest) e result mid new) where
    abbrev piece : List ℕ
    piece = flat_map (said_line job) (take count rest)

    abbrev lines_since : List ℕ
    lines_since = since job lines plan old files step rest mid at

    begins : lines_since ≡ banner_at lines old ++ at.body
    begins = refl

    room : at.place + count ≤ length lines
    room = let size : length rest ≡ length lines - at.place = ap length at.rest_is ∙ length-drop at.place lines in let within = at.within in omega (arith, size, inside, within)

    taken : length (take count rest) ≡ count
    taken = length-take-le count rest inside

    all_earlier : (i : ℕ) → i < at.place + count → (get_or lines i no_line).last < step
    all_earlier i below = elim (cases_lt i at.place) [
      | inl first ↦ at.earlier i first
      | inr later ↦
          let there : i - at.place < count = omega (arith, below, later) in
          let here : (get_or rest (i - at.place) no_line).last < step =
          front_each step count rest front (i - at.place) there (omega (arith, there, inside)) in
          let back : at.place + (i - at.place) ≡ i = omega (arith, later) in
          subst (λ (l : LineEnd). l.last < step)
          (ap (λ ls. get_or ls (i - at.place) no_line) at.rest_is ∙ get_or-drop at.place lines (i - at.place) no_line ∙ ap (λ j. get_or lines j no_line) back) here
    ]

    parts : remains job rest ≡ piece ++ remains job (drop count rest)
    parts =
        ap (λ ls. flat_map (said_line job) ls ++ done_line) (sym (take-append-drop count rest))
        ∙ ap (λ ls. ls ++ done_line) (flat_map-append (said_line job) (take count rest) (drop count rest))
        ∙ append_assoc (flat_map (said_line job) (take count rest)) (flat_map (said_line job) (drop count rest)) done_line

    size_of : whole_lines piece ≡ count
    size_of = lines_are job (take count rest) ∙ taken

    feeds_at : whole_lines lines_since ≡ 1 + (at.place - ended_before (done_at old) lines)
    feeds_at = feeds job lines plan old files step rest mid at

    right : AreSound job (now old).folder → SaysRight job (take count rest) result mid new
    right sound = says.holds job plan.well_formed refl (at.sound sound).holds (entry sound)

    -- lines behind those that were said before are lines of the run
    shape_behind : (spoken later : List LineEnd) (bytes : List ℕ) → take count rest ≡ spoken ++ later → AreShown job.steps (present (now mid).folder) spoken bytes
        → IsShape job.steps lines (present (now old).folder) (present (now mid).folder) (lines_since ++ bytes)
    shape_behind spoken later bytes split shown = record {
      spoken = at.spoken ++ spoken;
      later = later ++ drop count rest;
      parts = at.parts ∙ ap (λ ls. at.spoken ++ ls) (sym (take-append-drop count rest) ∙ ap (λ ls. ls ++ drop count rest) split ∙ append_assoc spoken later (drop count rest))
          ∙ sym (append_assoc at.spoken spoken (later ++ drop count rest));
      body = at.body ++ bytes;
      shown = shown_then job.steps (present (now mid).folder) at.spoken spoken at.body bytes at.shown shown;
      end = [];
      ends = inl refl;
      text_is = append_assoc (banner_at lines old) at.body bytes ∙ ap (λ b. banner_at lines old ++ b) (sym (append-nil (at.body ++ bytes)));
    }

    -- a front part of the right lines keeps the count
    few_lines : (part back : List ℕ) → piece ≡ part ++ back → said_count (done_at old) lines (lines_since ++ part) ≤ step
    few_lines part back split =
        let least : whole_lines part ≤ whole_lines (part ++ back) = whole_lines-front part back in
        let whole : whole_lines (part ++ back) ≡ count = ap whole_lines (sym split) ∙ size_of in
        let both : whole_lines (lines_since ++ part) ≡ whole_lines lines_since + whole_lines part = whole_lines-append lines_since part in
        let place = at.place_is in
        said_below (done_at old) lines (lines_since ++ part) (at.place + count) step (omega (arith, place)) (inl (omega (arith, least, whole, both, feeds_at, place))) all_earlier

    lines_part : (m : Moment) → SpeaksLines job.steps (take count rest) (present (now mid).folder) (said mid) m.said
        → (AreSound job (now old).folder → SaysFront (said mid) piece m.said) → SaysPart job lines step lines_since old mid m
    lines_part m speaks fronts = (
      speaks.part,
      speaks.said_is,
      record {
        shape = record {
          rest = speaks.rest;
          shape = subst (IsShape job.steps lines (present (now old).folder) (present (now mid).folder)) (sym (append_assoc lines_since speaks.part speaks.rest))
              (shape_behind speaks.lines_are.spoken speaks.lines_are.later (speaks.part ++ speaks.rest) speaks.lines_are.parts speaks.lines_are.shown);
        };
        waits = λ image is_image.
            let count_is : count_in (bytes_in image) ≡ step = (ready_counts step (now mid).folder image at.ready is_image).count in
            let least : whole_lines lines_since ≤ whole_lines (lines_since ++ speaks.part) = whole_lines-front lines_since speaks.part in
            none_waits lines (now old).folder at.place (step - 1) (lines_since ++ speaks.part) image at.within at.waits (omega (arith, count_is)) (omega (arith, least, feeds_at));
        sound = λ sound.
            let f = fronts sound in
            let same : f.front ≡ speaks.part = append_cancel_left (said mid) f.front speaks.part (sym f.said_is ∙ speaks.said_is) in
            let split : piece ≡ speaks.part ++ f.rest = f.text_is ∙ ap (λ b. b ++ f.rest) same in (
              f.rest ++ remains job (drop count rest),
              (at.sound sound).text_is ∙ ap (λ todo. lines_since ++ todo) (parts ∙ ap (λ p. p ++ remains job (drop count rest)) split ∙ append_assoc speaks.part f.rest (remains job (drop count rest)))
                  ∙ sym (append_assoc lines_since speaks.part (f.rest ++ remains job (drop count rest))),
              few_lines speaks.part f.rest split,
            );
      },
    )

    pub says_lines : Ongoing job lines old new
    says_lines = saying job lines plan old files step lines_since mid new at.run at.reached at.said_is (λ sound. (at.sound sound).holds) says.files says.stays (record {
      later = says.files.later;
      past = says.files.past;
      each = λ k from until. lines_part (new.moment k) (says.speaks.each k from until) (λ sound. (right sound).fronts.each k from until);
    })

    same : (now new).folder ≡ (now mid).folder
    same = at_end mid new (Stays (now mid)) says.files

    -- whole lines behind those that were said before
    pub whole_behind : SpokeWhole job.steps (take count rest) (present (now mid).folder) (said mid) (said new)
        → (text : List ℕ) × (said new ≡ said old ++ text) × IsShape job.steps lines (present (now old).folder) (present (now new).folder) text
    whole_behind spoke = (
      lines_since ++ spoke.part,
      spoke.said_is ∙ ap (λ b. b ++ spoke.part) at.said_is ∙ append_assoc (said old) lines_since spoke.part,
      subst (λ (folder : Folder). IsShape job.steps lines (present (now old).folder) (present folder) (lines_since ++ spoke.part)) (sym same)
          (shape_behind spoke.lines_are.spoken spoke.lines_are.later spoke.part spoke.lines_are.parts spoke.lines_are.shown),
    )

    pub has_said_lines : (x : Unit) → result ≡ Ok x → AtStep job lines step (drop count rest) old new
    has_said_lines x ok = record {
      run = says_lines;
      ready = subst (IsReady step) (sym same) at.ready;
      reached = at.reached;
      upto = at.upto;
      spoken = at.spoken ++ take count rest;
      parts = at.parts ∙ ap (λ ls. at.spoken ++ ls) (sym (take-append-drop count rest)) ∙ sym (append_assoc at.spoken (take count rest) (drop count rest));
      place = at.place + count;
      place_is =
          let place = at.place_is in
          let size : length (at.spoken ++ take count rest) ≡ length at.spoken + length (take count rest) = length-append at.spoken (take count rest) in
          omega (arith, place, size, taken);
      within = room;
      rest_is = ap (drop count) at.rest_is ∙ drop-drop count at.place lines;
      earlier = all_earlier;
      waits = let w = at.waits in omega (arith, w);
      body = at.body ++ all.part;
      said_is = all.said_is ∙ ap (λ b. b ++ all.part) at.said_is ∙ append_assoc (said old) lines_since all.part ∙ ap (λ b. said old ++ b) (append_assoc (banner_at lines old) at.body all.part);
      shown = subst (λ (folder : Folder). AreShown job.steps (present folder) (at.spoken ++ take count rest) (at.body ++ all.part)) (sym same)
          (shown_then job.steps (present (now mid).folder) at.spoken (take count rest) at.body all.part at.shown all.shown);
      below = subst IsTrue (sym (list_all-append (λ (l : LineEnd). nat_lt l.shows step) at.spoken (take count rest)))
          (and_from (list_all (λ (l : LineEnd). nat_lt l.shows step) at.spoken) (list_all (λ (l : LineEnd). nat_lt l.shows step) (take count rest)) at.below shows);
      made = subst (HasMade job.steps (done_at old) step (now old).folder) (sym same) at.made;
      sound = λ sound.
          let whole : said new ≡ said mid ++ piece = subst (λ r. OnOk r (said new ≡ said mid ++ piece)) ok (right sound).ok in
          let said_them : all.part ≡ piece = append_cancel_left (said mid) all.part piece (sym all.said_is ∙ whole) in
          record {
            text_is = (at.sound sound).text_is ∙ ap (λ todo. lines_since ++ todo) (parts ∙ ap (λ p. p ++ remains job (drop count rest)) (sym said_them))
                ∙ sym (append_assoc lines_since all.part (remains job (drop count rest)))
                ∙ ap (λ b. b ++ remains job (drop count rest)) (append_assoc (banner_at lines old) at.body all.part);
            holds = subst (Holds job step) (sym same) (at.sound sound).holds;
          };
    }
      where
        all : SpokeAll job.steps (take count rest) (present (now mid).folder) (said mid) (said new)
        all = subst (λ r. OnOk r (SpokeAll job.steps (take count rest) (present (now mid).folder) (said mid) (said new))) ok says.ok

  -- the last line is said
  module _ (rest : List LineEnd) (piece : List ℕ) (mid : World) (none : rest ≡ []) (piece_is : piece ≡ done_line) (at : AtStep job lines (length job.steps) rest old mid) where
    abbrev all_since : List ℕ
    all_since = since job lines plan old files (length job.steps) rest mid at

    all_lines : lines_from_step (done_at old) lines ≡ at.spoken
    all_lines = at.parts ∙ ap (λ ls. at.spoken ++ ls) none ∙ append-nil at.spoken

    todo : remains job rest ≡ piece
    todo = ap (remains job) none ∙ sym piece_is

    last_part : (part back : List ℕ) → piece ≡ part ++ back → PartSaid job lines (length job.steps) all_since part old mid
    last_part part back split =
        let feeds_at : whole_lines all_since ≡ 1 + (at.place - ended_before (done_at old) lines) = feeds job lines plan old files (length job.steps) rest mid at in
        let place = at.place_is in
        record {
          shape = record {
            rest = back;
            shape = record {
              spoken = at.spoken;
              later = rest;
              parts = at.parts;
              body = at.body;
              shown = at.shown;
              end = done_line;
              ends = inr (refl, none);
              text_is = append_assoc all_since part back ∙ ap (λ p. all_since ++ p) (sym split ∙ piece_is) ∙ append_assoc (banner_at lines old) at.body done_line;
            };
          };
          waits = λ image is_image.
              let count_is : count_in (bytes_in image) ≡ length job.steps = (ready_counts (length job.steps) (now mid).folder image at.ready is_image).count in
              let least : whole_lines all_since ≤ whole_lines (all_since ++ part) = whole_lines-front all_since part in
              none_waits lines (now old).folder at.place (length job.steps - 1) (all_since ++ part) image at.within at.waits (omega (arith, count_is)) (omega (arith, least, feeds_at));
          sound = λ sound. (
            back,
            (at.sound sound).text_is ∙ ap (λ t. all_since ++ t) (todo ∙ split) ∙ sym (append_assoc all_since part back),
            said_below (done_at old) lines (all_since ++ part) at.place (length job.steps) (omega (arith, place))
                (inr (let size : length rest ≡ length lines - at.place = ap length at.rest_is ∙ length-drop at.place lines in
                let empty : length rest ≡ 0 = ap length none in omega (arith, size, empty))) at.earlier,
          );
        }

    pub ends : (result : Result Unit Failed) (new : World) → Said piece result mid new
        → Ongoing job lines old new × OnOk result ((AreSound job (now old).folder → said new ≡ said old ++ text_at job lines old)
        × HaveCount (length job.steps) (now new).folder × AreEmptied job.steps (done_at old) (length job.steps) (now new).folder
        × HasSaid (λ text folder. IsWholeShape job.steps lines (present (now old).folder) (present folder) text) (now old) (now new))
    ends result new did = (so_far, when_said result (one_piece piece result mid new did).1)
      where
        says : SaysOnly piece mid new
        says = (one_piece piece result mid new did).0

        so_far : Ongoing job lines old new
        so_far = saying job lines plan old files (length job.steps) all_since mid new at.run at.reached at.said_is (λ sound. (at.sound sound).holds)
            (piece_stays piece mid new says).0 (piece_stays piece mid new says).1
            (weakens mid new (λ m. SaysFront (said mid) piece m.said) (SaysPart job lines (length job.steps) all_since old mid)
            (λ m front. (front.front, front.said_is, last_part front.front front.rest front.text_is)) (piece_fronts piece mid new says))

        same : (now new).folder ≡ (now mid).folder
        same = at_end mid new (Stays (now mid)) (piece_stays piece mid new says).0

        when_said : (r : Result Unit Failed) → OnOk r (said new ≡ said mid ++ piece)
            → OnOk r ((AreSound job (now old).folder → said new ≡ said old ++ text_at job lines old)
            × HaveCount (length job.steps) (now new).folder × AreEmptied job.steps (done_at old) (length job.steps) (now new).folder
            × HasSaid (λ text folder. IsWholeShape job.steps lines (present (now old).folder) (present folder) text) (now old) (now new))
        when_said (Ok x) whole = (
          λ sound.
              whole ∙ ap (λ bytes. bytes ++ piece) at.said_is ∙ append_assoc (said old) all_since piece
              ∙ ap (λ p. said old ++ p) (ap (λ t. all_since ++ t) (sym todo) ∙ sym (at.sound sound).text_is),
          λ image is_image. (ready_counts (length job.steps) (now new).folder image (subst (IsReady (length job.steps)) (sym same) at.ready) is_image).count,
          subst (AreEmptied job.steps (done_at old) (length job.steps)) (sym same) at.made.emptied,
          record {
            front = all_since ++ piece;
            said_is = whole ∙ ap (λ bytes. bytes ++ piece) at.said_is ∙ append_assoc (said old) all_since piece;
            holds = record {
              body = at.body;
              shown = subst (λ (folder : Folder). AreShown job.steps (present folder) (lines_from_step (done_at old) lines) at.body) (sym same)
                  (subst (λ ls. AreShown job.steps (present (now mid).folder) ls at.body) (sym all_lines) at.shown);
              text_is = append_assoc (banner_at lines old) at.body piece ∙ ap (λ p. banner_at lines old ++ (at.body ++ p)) piece_is;
            };
          },
        )
        when_said (Err e) whole = tt
