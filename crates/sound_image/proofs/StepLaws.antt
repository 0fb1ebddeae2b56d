-- What stays sound while a step is made and committed.
use Rattle.std.proofs.Common.{◌≡◌, ◌∙◌, ℕ, ◌+◌, ◌*◌, ◌<◌, ◌≤◌, List, ◌++◌, length, take, drop, refl, sym, ap, subst, inl, inr, arith, length-append}
use Rattle.std.specs.Prelude.{IsTrue}
use Rattle.std.proofs.lemmas.List.{take_at, drop_at, take_all}
use Rattle.std.proofs.lemmas.Bool.{cases_lt}
use Rattle.bool_tables.specs.Plans.{is_live, drops}
use Rattle.shelf_model.specs.declared.file_no.FileNo.{FileNo}
use Rattle.shelf_model.specs.File.{File, firm_file, IsKept}
use Rattle.shelf_model.specs.Folder.{Folder, Image, file_in, bytes_in, IsImage, AreFiles}
use Rattle.shelf_model.specs.World.{Moment}
use Rattle.catalogue.specs.declared.layout.Entry.{Entry}
use Rattle.catalogue.specs.Files.{job_step, job_file, job_gate, catalogue, step_gate}
use Rattle.catalogue.specs.Counts.{is_stored, count_in, entry_at, HasCount}
use Rattle.catalogue.specs.Commits.{IsReady, DuringCommit, IsCommitted}
use Rattle.catalogue.specs.Entries.{entry_bytes}
use Rattle.catalogue.specs.Standings.{without_budget}
use Rattle.catalogue.proofs.Places.{length_entry}
use Rattle.catalogue.proofs.Stored.{catalogue_not_job_file, step_gate_not_job_file}
use Rattle.sound_image.specs.Files.{node_file, checkpoint_gate}
use Rattle.canon_file.specs.Laws.{HasForm}
use Rattle.step_work.specs.Plans.{no_step}
use Rattle.sound_image.specs.Jobs.{Job, table_at, file_of, step_at}
use Rattle.sound_image.specs.Entries.{IsEntryOfStep}
use Rattle.sound_image.specs.Sound.{IsSound, IsResumableAt}
use Rattle.sound_image.specs.Holds.{Holds, IsMade, AreResumable, NoneGated}
use Rattle.sound_image.specs.Steps.{IsOwnFile, OnlyOwnFiles, IsCutBy, IsTidied}
use Rattle.sound_image.proofs.Numbers.{IsOfStep, node_of_step, gate_of_step, not_catalogue, not_step_gate}
use Rattle.sound_image.proofs.HoldsLaws.{entry_in_front, sound_with, kept_entries}
use Rattle.sound_image.proofs.Resuming.{AreFew, RestsOnSteps, early, none_resumes, none_next, none_gated_resumes, none_behind, resumable_kept}
use Rattle.sound_image.proofs.Live.{live_below, live_earlier, live_last, live_undropped}

-- the files of the job stay, and so do those of the diagrams that are live after so many steps; and a run can go on
pub record KeepsHeld (job : Job) (count : ℕ) (old new : Folder) : Type 0 where
  pub of_job : (f : FileNo) → f.step ≡ job_step → file_in new f ≡ file_in old f
  pub nodes : (s : ℕ) → IsTrue (is_live (take count job.steps) s) → file_in new (node_file s) ≡ file_in old (node_file s)
  pub resumable : AreResumable job count new

-- then the steps so far are held
pub holds_kept : (job : Job) (count : ℕ) (old new : Folder) → Holds job count old → KeepsHeld job count old new → Holds job count new
holds_kept job count old new holds keeps =
    let job_same : file_in new job_file ≡ file_in old job_file = keeps.of_job job_file refl in
    let gate_same : file_in new job_gate ≡ file_in old job_gate = keeps.of_job job_gate refl in
    let catalogue_same : file_in new catalogue ≡ file_in old catalogue = keeps.of_job catalogue refl in
    let steps_same : file_in new step_gate ≡ file_in old step_gate = keeps.of_job step_gate refl in
    record {
      job_sure = subst (λ (x : File). x ≡ firm_file x.bytes) (sym job_same) holds.job_sure;
      job_is = ap (λ (x : File). without_budget x.bytes) job_same ∙ holds.job_is;
      ready = record {
        stored = subst (λ (x : File). 0 < x.firm) (sym gate_same) holds.ready.stored;
        gate = steps_same ∙ holds.ready.gate ∙ ap (λ (x : File). firm_file x.bytes) (sym steps_same);
        count = ap (λ (x : File). length x.bytes) steps_same ∙ holds.ready.count;
        covers = subst (λ (x : File). 128 * count ≤ length x.bytes) (sym catalogue_same) holds.ready.covers;
      };
      few = holds.few;
      entries = record {
        front = holds.entries.front;
        size = holds.entries.size;
        kept = subst (IsKept holds.entries.front) (sym catalogue_same) holds.entries.kept;
        each = holds.entries.each;
      };
      files = λ s live. keeps.nodes s live ∙ holds.files s live;
      forms = holds.forms;
      resumable = keeps.resumable;
    }

-- while the files of a step that isn't committed are changed, the steps before it are held, if a run can go on
pub holds_while_made : (job : Job) (k : ℕ) (old new : Folder) → AreFew job → k < length job.steps → Holds job k old → OnlyOwnFiles k old new
    → AreResumable job k new → Holds job k new
holds_while_made job k old new few within holds only resumable = holds_kept job k old new holds (record {
  of_job = λ f step_is. only f (not_own f step_is);
  nodes = λ s live. only (node_file s) (not_node s (live_below job.steps k s live));
  resumable = resumable;
})
  where
    not_own : (f : FileNo) → f.step ≡ job_step → IsOwnFile k f → ⊥
    not_own f step_is own = let no : k ≡ job_step = sym own ∙ step_is in omega (arith, no, early job k few within)

    not_node : (s : ℕ) → s < k → IsOwnFile k (node_file s) → ⊥
    not_node s below own = let same : s ≡ k = own in omega (arith, same, below)

-- while the file of a diagram that a step drops is cut, and the step's files behind its node file, no step behind it
-- has a gated checkpoint
none_while_tidied : (job : Job) (k next : ℕ) (old new : Folder) → NoneGated job (k + 1) old → IsTidied (step_at job k).step k next old new → NoneGated job (k + 1) new
none_while_tidied job k next old new none tidied s from within = tidied.empty (checkpoint_gate s) (none s from within)

-- and the steps up to that one are held
pub holds_while_tidied : (job : Job) (k next : ℕ) (old new : Folder) → AreFew job → k < length job.steps → Holds job (k + 1) old → NoneGated job (k + 1) old
    → ((gone : ℕ) → IsTrue (drops gone (step_at job k).step) → gone < length job.steps) → IsTidied (step_at job k).step k next old new → Holds job (k + 1) new
holds_while_tidied job k next old new few within holds none inside tidied = holds_kept job (k + 1) old new holds (record {
  of_job = λ f step_is. tidied.only f (not_cut f step_is);
  nodes = λ s live. tidied.only (node_file s) (not_live s live);
  resumable = none_gated_resumes job (k + 1) new (none_while_tidied job k next old new none tidied);
})
  where
    not_cut : (f : FileNo) → f.step ≡ job_step → IsCutBy (step_at job k).step k next f → ⊥
    not_cut f step_is (inl (gone, dropped, is)) =
        let no : gone ≡ job_step = sym (ap (λ (q : FileNo). q.step) is) ∙ step_is in
        omega (arith, no, early job gone few (inside gone dropped))
    not_cut f step_is (inr (swept, own)) = let no : k ≡ job_step = sym own.step_is ∙ step_is in omega (arith, no, early job k few within)

    not_live : (s : ℕ) → IsTrue (is_live (take (k + 1) job.steps) s) → IsCutBy (step_at job k).step k next (node_file s) → ⊥
    not_live s live (inl (gone, dropped, is)) =
        live_undropped job.steps k s no_step within
        (subst (λ j. IsTrue (drops j (step_at job k).step)) (sym (ap (λ (q : FileNo). q.step) is)) dropped) live
    not_live s live (inr (swept, own)) = let no : 1 ≤ 0 = own.from in omega (arith, no)

-- a diagram that is live after the step has its file, before and after it
pub live_file : (job : Job) (k s : ℕ) (folder : Folder) → k < length job.steps → Holds job k folder → IsMade job k folder
    → IsTrue (is_live (take (k + 1) job.steps) s) → file_in folder (node_file s) ≡ firm_file (file_of job s)
live_file job k s folder within holds made live = elim (cases_lt s k) [
  | inl below ↦ holds.files s (live_earlier job.steps k s no_step within below live)
  | inr beyond ↦
      let last : s < k + 1 = live_below job.steps (k + 1) s live in
      let same : s ≡ k = omega (arith, beyond, last) in
      subst (λ j. file_in folder (node_file j) ≡ firm_file (file_of job j)) (sym same)
      (made (live_last job.steps k no_step within (subst (λ j. IsTrue (is_live (take (k + 1) job.steps) j)) same live))).0
]

-- and a canonical form that is defined
pub live_form : (job : Job) (k s : ℕ) (folder : Folder) → k < length job.steps → Holds job k folder → IsMade job k folder
    → IsTrue (is_live (take (k + 1) job.steps) s) → HasForm job.n (table_at job s)
live_form job k s folder within holds made live = elim (cases_lt s k) [
  | inl below ↦ holds.forms s (live_earlier job.steps k s no_step within below live)
  | inr beyond ↦
      let last : s < k + 1 = live_below job.steps (k + 1) s live in
      let same : s ≡ k = omega (arith, beyond, last) in
      subst (λ j. HasForm job.n (table_at job j)) (sym same)
      (made (live_last job.steps k no_step within (subst (λ j. IsTrue (is_live (take (k + 1) job.steps) j)) same live))).1
]

-- while a step is committed files of steps stay, so a run can go on from the step
resumable_committed : (job : Job) (k : ℕ) (e : Entry) (old m : Moment) → AreFiles old.folder → AreFew job → RestsOnSteps job → Holds job k old.folder
    → DuringCommit e old m → AreResumable job k m.folder
resumable_committed job k e old m files few rests holds during =
    resumable_kept job few rests k old.folder m.folder files
    (λ f apart. let of_step : IsOfStep f = record { early = apart } in during.others f (not_catalogue f of_step) (not_step_gate f of_step))
    holds.resumable

-- each image is sound then, and has no fewer steps
pub sound_while_committed : (job : Job) (k : ℕ) (e : Entry) (old m : Moment) (image : Image) → AreFiles old.folder → AreFew job → RestsOnSteps job
    → k < length job.steps → Holds job k old.folder → IsMade job k old.folder → IsEntryOfStep job k e → DuringCommit e old m → IsImage m.folder image
    → IsSound job (bytes_in image) × (k ≤ count_in (bytes_in image)) × IsTrue (is_stored (bytes_in image))
sound_while_committed job k e old m image files few rests within holds made is_entry during is_image =
    elim (during.images image is_image) [
      | inl before ↦
          let counted : HasCount k r = subst (λ c. HasCount c r) is_entry.number_is before in (
            sound k counted holds.few resumable earlier (λ s live. (holds.files s live, holds.forms s live)),
            subst (λ c. k ≤ c) (sym counted.count) (omega arith),
            before.stored,
          )
      | inr after ↦
          let counted : HasCount (k + 1) r = subst (λ c. HasCount (c + 1) r) is_entry.number_is after.counts in (
            sound (k + 1) counted (omega (arith, within)) (none_resumes job (k + 1) r (none_next job k r resumable))
                (λ i inside. elim (cases_lt i k) [
                  | inl below ↦ earlier i below
                  | inr beyond ↦
                      let same : i ≡ k = omega (arith, inside, beyond) in
                      subst (λ j. (x : Entry) × IsEntryOfStep job j x × (entry_at j r ≡ entry_bytes x)) (sym same)
                      (e, is_entry, ap (λ j. entry_at j r) (sym is_entry.number_is) ∙ after.placed)
                ])
                (λ s live. (live_file job k s old.folder within holds made live, live_form job k s old.folder within holds made live)),
            subst (λ c. k ≤ c) (sym counted.count) (omega arith),
            after.counts.stored,
          )
    ]
  where
    r : FileNo → List ℕ
    r = bytes_in image

    resumable : IsResumableAt job k r
    resumable = resumable_committed job k e old m files few rests holds during image is_image

    earlier : (i : ℕ) → i < k → (x : Entry) × IsEntryOfStep job i x × (entry_at i r ≡ entry_bytes x)
    earlier i inside =
        let short : length holds.entries.front ≤ 128 * e.number = omega (arith, holds.entries.size, is_entry.number_is) in
        kept_entries job k i old.folder m.folder image holds.entries (during.kept holds.entries.front short holds.entries.kept) is_image inside

    job_same : file_in m.folder job_file ≡ file_in old.folder job_file
    job_same = during.others job_file (λ q. catalogue_not_job_file (sym q)) (λ q. step_gate_not_job_file (sym q))

    sound : (c : ℕ) → HasCount c r → c ≤ length job.steps → IsResumableAt job c r
        → ((i : ℕ) → i < c → (x : Entry) × IsEntryOfStep job i x × (entry_at i r ≡ entry_bytes x))
        → ((s : ℕ) → IsTrue (is_live (take c job.steps) s) → (file_in old.folder (node_file s) ≡ firm_file (file_of job s)) × HasForm job.n (table_at job s))
        → IsSound job r
    sound c counted short resumes entries diagrams =
        sound_with job c m.folder image is_image (subst (λ (x : File). x ≡ firm_file x.bytes) (sym job_same) holds.job_sure)
        (ap (λ (x : File). without_budget x.bytes) job_same ∙ holds.job_is) counted short resumes entries
        (λ s live.
        let below : s < c = live_below job.steps c s live in
        let of_step : IsOfStep (node_file s) = node_of_step s (early job s few (omega (arith, below, short))) in
        (during.others (node_file s) (not_catalogue (node_file s) of_step) (not_step_gate (node_file s) of_step) ∙ (diagrams s live).0, (diagrams s live).1))

-- after it no step behind has a gated checkpoint
pub none_after_commit : (job : Job) (k : ℕ) (e : Entry) (old m : Moment) → AreFiles old.folder → AreFew job → Holds job k old.folder → DuringCommit e old m
    → NoneGated job (k + 1) m.folder
none_after_commit job k e old m files few holds during s from within =
    let of_step : IsOfStep (checkpoint_gate s) = gate_of_step s (early job s few within) in
    during.others (checkpoint_gate s) (not_catalogue (checkpoint_gate s) of_step) (not_step_gate (checkpoint_gate s) of_step)
    ∙ none_behind job k old.folder files holds.resumable s from within

-- and the folder holds one step more
pub holds_after_commit : (job : Job) (k : ℕ) (e : Entry) (old m : Moment) → AreFiles old.folder → AreFew job → k < length job.steps → Holds job k old.folder
    → IsMade job k old.folder → IsEntryOfStep job k e → DuringCommit e old m → IsCommitted e old.folder m.folder → Holds job (k + 1) m.folder
holds_after_commit job k e old m files few within holds made is_entry during committed =
    let number : e.number ≡ k = is_entry.number_is in
    let job_same : file_in m.folder job_file ≡ file_in old.folder job_file =
    during.others job_file (λ q. catalogue_not_job_file (sym q)) (λ q. step_gate_not_job_file (sym q)) in
    let front : List ℕ = holds.entries.front in
    let entry_size : length (entry_bytes e) ≡ 128 = length_entry e is_entry.entry_is.fits in
    let front_size : length front ≡ 128 * e.number = holds.entries.size ∙ ap (λ c. 128 * c) (sym number) in
    record {
      job_sure = subst (λ (x : File). x ≡ firm_file x.bytes) (sym job_same) holds.job_sure;
      job_is = ap (λ (x : File). without_budget x.bytes) job_same ∙ holds.job_is;
      ready = subst (λ c. IsReady (c + 1) m.folder) number committed.ready;
      few = omega (arith, within);
      entries = record {
        front = front ++ entry_bytes e;
        size = length-append front (entry_bytes e) ∙ sums (length front) (length (entry_bytes e)) k holds.entries.size entry_size;
        kept = committed.kept front front_size holds.entries.kept;
        each = λ i inside. elim (cases_lt i k) [
          | inl below ↦
              let found : (x : Entry) × IsEntryOfStep job i x × (take 128 (drop (128 * i) front) ≡ entry_bytes x) = holds.entries.each i below in
              (found.0, found.1, entry_in_front i k front (front ++ entry_bytes e) holds.entries.size below (take_at front (entry_bytes e) (length front) refl) ∙ found.2)
          | inr beyond ↦
              let same : i ≡ k = omega (arith, inside, beyond) in
              subst (λ j. (x : Entry) × IsEntryOfStep job j x × (take 128 (drop (128 * j) (front ++ entry_bytes e)) ≡ entry_bytes x)) (sym same)
              (e, is_entry, ap (take 128) (drop_at front (entry_bytes e) (128 * k) holds.entries.size) ∙ take_all 128 (entry_bytes e) (omega (arith, entry_size)))
        ];
      };
      files = λ s live.
          let of_step : IsOfStep (node_file s) = node_of_step s (early job s few (inside s live)) in
          during.others (node_file s) (not_catalogue (node_file s) of_step) (not_step_gate (node_file s) of_step) ∙ live_file job k s old.folder within holds made live;
      forms = λ s live. live_form job k s old.folder within holds made live;
      resumable = none_gated_resumes job (k + 1) m.folder (none_after_commit job k e old m files few holds during);
    }
  where
    sums : (a b c : ℕ) → a ≡ 128 * c → b ≡ 128 → a + b ≡ 128 * (c + 1)
    sums a b c x y = omega (arith, x, y)

    inside : (s : ℕ) → IsTrue (is_live (take (k + 1) job.steps) s) → s < length job.steps
    inside s live = let below : s < k + 1 = live_below job.steps (k + 1) s live in omega (arith, below, within)
