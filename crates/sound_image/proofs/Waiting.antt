-- What stays sound while steps wait, their entries are put, and all of them are committed.
use Rattle.std.proofs.Common.{◌≡◌, ◌∙◌, ℕ, ◌+◌, ◌*◌, ◌<◌, ◌≤◌, min, false, length, take, drop, refl, sym, ap, subst, inl, inr, arith}
use Rattle.std.specs.Prelude.{IsTrue}
use Rattle.std.proofs.lemmas.List.{length-take, length-take-le}
use Rattle.std.proofs.lemmas.Bool.{cases_lt}
use Rattle.bool_tables.specs.Plans.{is_live, makes_diagram}
use Rattle.shelf_model.specs.declared.file_no.FileNo.{FileNo}
use Rattle.shelf_model.specs.File.{File, firm_file, IsKept}
use Rattle.shelf_model.specs.Folder.{Folder, Image, file_in, bytes_in, IsImage, AreFiles}
use Rattle.shelf_model.specs.World.{Moment}
use Rattle.catalogue.specs.declared.layout.Entry.{Entry}
use Rattle.catalogue.specs.Files.{job_step, job_file, job_gate, catalogue, step_gate}
use Rattle.catalogue.specs.Counts.{present, entry_at, HasCount}
use Rattle.catalogue.specs.Commits.{DuringPut, IsPut, IsCountedWithin, DuringCommits, AreCommitted}
use Rattle.catalogue.specs.Entries.{entry_bytes}
use Rattle.catalogue.specs.Standings.{without_budget}
use Rattle.catalogue.proofs.Counted.{job_gate_not_catalogue, step_gate_not_catalogue}
use Rattle.catalogue.proofs.Waiting.{put_entry_at}
use Rattle.catalogue.proofs.Laws.{entry_stays, counted_entry}
use Rattle.catalogue.proofs.Stored.{catalogue_not_job_file, step_gate_not_job_file}
use Rattle.canon_file.specs.Laws.{HasForm}
use Rattle.step_work.specs.Plans.{no_step}
use Rattle.sound_image.specs.Files.{node_file, checkpoint_gate}
use Rattle.sound_image.specs.Jobs.{Job, AreFew, step_at, table_at, file_of}
use Rattle.sound_image.specs.Entries.{IsEntryOfStep}
use Rattle.sound_image.specs.Sound.{IsResumableAt, RestsOnSteps}
use Rattle.sound_image.specs.Holds.{Holds, IsMade, AreResumable, NoneGated}
use Rattle.sound_image.specs.Steps.{IsOwnFile, OnlyOwnFiles}
use Rattle.sound_image.specs.Waiting.{Waits, IsSoundWithin}
use Rattle.sound_image.proofs.Numbers.{IsOfStep, node_of_step, gate_of_step, not_catalogue, not_step_gate}
use Rattle.sound_image.proofs.HoldsLaws.{entry_in_front, sound_with, kept_entries, holds_sound}
use Rattle.sound_image.proofs.EntryLaws.{entry_stands}
use Rattle.sound_image.proofs.Resuming.{early, none_resumes, none_next, none_gated_resumes, none_behind, resumable_kept}
use Rattle.sound_image.proofs.Live.{live_below, live_sooner, live_last}
use Rattle.sound_image.proofs.StepLaws.{holds_kept}

-- where no step waits
pub waits_none : (job : Job) (committed : ℕ) (folder : Folder) → Holds job committed folder → Waits job committed committed folder
waits_none job committed folder holds = record {
  holds = holds;
  from = omega arith;
  few = holds.few;
  covers = holds.ready.covers;
  entries = λ k least most. absurd (omega (arith, least, most));
  made = λ k least most. absurd (omega (arith, least, most));
}

-- while the files of the next step are changed, those before it wait, if a run can go on from the committed ones
pub waits_while_made : (job : Job) (committed k : ℕ) (old new : Folder) → AreFew job → k < length job.steps → Waits job committed k old → OnlyOwnFiles k old new
    → AreResumable job committed new → Waits job committed k new
waits_while_made job committed k old new few within waits only resumable =
    let same : file_in new catalogue ≡ file_in old catalogue = only catalogue (not_own catalogue refl) in
    record {
      holds = holds_kept job committed old new waits.holds (record {
        of_job = λ f step_is. only f (not_own f step_is);
        nodes = λ s live. let from : committed ≤ k = waits.from in
            let below : s < committed = live_below job.steps committed s live in only (node_file s) (not_node s (omega (arith, below, from)));
        resumable = resumable;
      });
      from = waits.from;
      few = waits.few;
      covers = subst (λ (x : File). 128 * k ≤ length x.bytes) (sym same) waits.covers;
      entries = λ i least most.
          let found = waits.entries i least most in
          (found.0, found.1, ap (λ (x : File). take 128 (drop (128 * i) x.bytes)) same ∙ found.2);
      made = λ i least most makes.
          let there = waits.made i least most makes in
          (only (node_file i) (not_node i most) ∙ there.0, there.1);
    }
  where
    not_own : (f : FileNo) → f.step ≡ job_step → IsOwnFile k f → ⊥
    not_own f step_is own = let no : k ≡ job_step = sym own ∙ step_is in omega (arith, no, early job k few within)

    not_node : (s : ℕ) → s < k → IsOwnFile k (node_file s) → ⊥
    not_node s below own = let same : s ≡ k = own in omega (arith, same, below)

-- an entry of a step that is committed or waits is read in its place
waiting_entry : (job : Job) (committed until i : ℕ) (folder : Folder) → Waits job committed until folder → i < until
    → (e : Entry) × IsEntryOfStep job i e × (entry_at i (present folder) ≡ entry_bytes e)
waiting_entry job committed until i folder waits below = elim (cases_lt i committed) [
  | inl before ↦ entry_stands job committed i folder waits.holds before
  | inr behind ↦ waits.entries i behind below
]

-- a diagram that is live behind some of the steps that wait has its file, and a canonical form that is defined
pub waiting_diagram : (job : Job) (committed until count s : ℕ) (folder : Folder) → Waits job committed until folder → committed ≤ count → count ≤ until → IsTrue (is_live (take count job.steps) s)
    → (file_in folder (node_file s) ≡ firm_file (file_of job s)) × HasForm job.n (table_at job s)
waiting_diagram job committed until count s folder waits least most live =
    let few : until ≤ length job.steps = waits.few in
    let below : s < count = live_below job.steps count s live in
    elim (cases_lt s committed) [
      | inl before ↦
          let lives : IsTrue (is_live (take committed job.steps) s) = live_sooner job.steps committed count s no_step least (omega (arith, most, few)) before live in
          (waits.holds.files s lives, waits.holds.forms s lives)
      | inr behind ↦
          let last : IsTrue (is_live (take (s + 1) job.steps) s) = live_sooner job.steps (s + 1) count s no_step (omega (arith, below)) (omega (arith, most, few)) (omega arith) live in
          waits.made s behind (omega (arith, below, most)) (live_last job.steps s no_step (omega (arith, below, most, few)) last)
    ]

module _ (job : Job) (few : AreFew job) (rests : RestsOnSteps job) where
  -- while an entry is put the committed steps are held
  pub holds_while_put : (committed : ℕ) (e : Entry) (old m : Moment) → AreFiles old.folder → committed ≤ e.number → 128 * e.number ≤ length (file_in old.folder catalogue).bytes
      → Holds job committed old.folder → DuringPut committed e old m → Holds job committed m.folder
  holds_while_put committed e old m files behind covers holds during =
      let job_same : file_in m.folder job_file ≡ file_in old.folder job_file = during.others job_file (λ q. catalogue_not_job_file (sym q)) in
      let gate_same : file_in m.folder job_gate ≡ file_in old.folder job_gate = during.others job_gate job_gate_not_catalogue in
      let steps_same : file_in m.folder step_gate ≡ file_in old.folder step_gate = during.others step_gate step_gate_not_catalogue in
      let reads : length (take (128 * e.number) (file_in m.folder catalogue).bytes) ≡ length (take (128 * e.number) (file_in old.folder catalogue).bytes) = ap length during.reads in
      let before : length (take (128 * e.number) (file_in old.folder catalogue).bytes) ≡ min (128 * e.number) (length (file_in old.folder catalogue).bytes) =
      length-take (128 * e.number) (file_in old.folder catalogue).bytes in
      let after : length (take (128 * e.number) (file_in m.folder catalogue).bytes) ≡ min (128 * e.number) (length (file_in m.folder catalogue).bytes) =
      length-take (128 * e.number) (file_in m.folder catalogue).bytes in
      record {
        job_sure = subst (λ (x : File). x ≡ firm_file x.bytes) (sym job_same) holds.job_sure;
        job_is = ap (λ (x : File). without_budget x.bytes) job_same ∙ holds.job_is;
        ready = record {
          stored = subst (λ (x : File). 0 < x.firm) (sym gate_same) holds.ready.stored;
          gate = subst (λ (x : File). x ≡ firm_file x.bytes) (sym steps_same) holds.ready.gate;
          count = ap (λ (x : File). length x.bytes) steps_same ∙ holds.ready.count;
          covers = omega (arith, behind, covers, reads, before, after);
        };
        few = holds.few;
        entries = record {
          front = holds.entries.front;
          size = holds.entries.size;
          kept = during.kept holds.entries.front (omega (arith, holds.entries.size, behind)) holds.entries.kept;
          each = holds.entries.each;
        };
        files = λ s live. node_stays committed e old m s holds.few live during ∙ holds.files s live;
        forms = holds.forms;
        resumable = resumable_kept job few rests committed old.folder m.folder files
            (λ f apart. during.others f (not_catalogue f (record { early = apart }))) holds.resumable;
      }
    where
      node_stays : (committed : ℕ) (e : Entry) (old m : Moment) (s : ℕ) → committed ≤ length job.steps → IsTrue (is_live (take committed job.steps) s) → DuringPut committed e old m
          → file_in m.folder (node_file s) ≡ file_in old.folder (node_file s)
      node_stays committed e old m s short live during =
          let below : s < committed = live_below job.steps committed s live in
          during.others (node_file s) (not_catalogue (node_file s) (node_of_step s (early job s few (omega (arith, below, short)))))

  -- so each image is sound, and has the committed steps
  pub sound_while_put : (committed k : ℕ) (e : Entry) (old m : Moment) (image : Image) → AreFiles old.folder → Waits job committed k old.folder → e.number ≡ k → DuringPut committed e old m
      → IsImage m.folder image → IsSoundWithin job committed committed (bytes_in image)
  sound_while_put committed k e old m image files waits number during is_image =
      let counted : HasCount committed (bytes_in image) = during.images image is_image in
      let behind : committed ≤ e.number = subst (λ n. committed ≤ n) (sym number) waits.from in
      let covers : 128 * e.number ≤ length (file_in old.folder catalogue).bytes = subst (λ n. 128 * n ≤ length (file_in old.folder catalogue).bytes) (sym number) waits.covers in
      record {
        sound = holds_sound job committed m.folder (holds_while_put committed e old m files behind covers waits.holds during) image is_image;
        stored = counted.stored;
        no_fewer = let count = counted.count in omega (arith, count);
        no_more = let count = counted.count in omega (arith, count);
      }

  -- a step that was made waits, once its entry is put behind those that wait
  pub waits_put : (committed k : ℕ) (e : Entry) (old m : Moment) → AreFiles old.folder → k < length job.steps → Waits job committed k old.folder → IsMade job k old.folder → IsEntryOfStep job k e
      → DuringPut committed e old m → IsPut committed e old.folder m.folder → Waits job committed (k + 1) m.folder
  waits_put committed k e old m files within waits made is_entry during put =
      let number : e.number ≡ k = is_entry.number_is in
      let from : committed ≤ k = waits.from in
      let behind : committed ≤ e.number = omega (arith, from, number) in
      let covers : 128 * e.number ≤ length (file_in old.folder catalogue).bytes = subst (λ n. 128 * n ≤ length (file_in old.folder catalogue).bytes) (sym number) waits.covers in
      let size : length (file_in m.folder catalogue).bytes ≡ 128 * (e.number + 1) = put.size in
      record {
        holds = holds_while_put committed e old m files behind covers waits.holds during;
        from = omega (arith, from);
        few = omega (arith, within);
        covers = omega (arith, size, number);
        entries = λ i least most. elim (cases_lt i k) [
          | inl before ↦
              let found : (x : Entry) × IsEntryOfStep job i x × (entry_at i (present old.folder) ≡ entry_bytes x) = waits.entries i least before in
              (found.0, found.1, entry_stays committed i e old m (omega (arith, before, number)) during ∙ found.2)
          | inr beyond ↦
              let same : i ≡ k = omega (arith, most, beyond) in
              subst (λ j. (x : Entry) × IsEntryOfStep job j x × (entry_at j (present m.folder) ≡ entry_bytes x)) (sym same)
              (e, is_entry, ap (λ j. entry_at j (present m.folder)) (sym number) ∙ put_entry_at committed e old.folder m.folder covers put)
        ];
        made = λ i least most makes.
            let there : (file_in old.folder (node_file i) ≡ firm_file (file_of job i)) × HasForm job.n (table_at job i) = elim (cases_lt i k) [
              | inl before ↦ waits.made i least before makes
              | inr beyond ↦
                  let same : i ≡ k = omega (arith, most, beyond) in
                  subst (λ j. IsMade job j old.folder) (sym same) made makes
            ] in
            (during.others (node_file i) (not_catalogue (node_file i) (node_of_step i (early job i few (omega (arith, most, within))))) ∙ there.0, there.1);
      }

  -- the first one, behind the committed steps
  pub waits_first : (k : ℕ) (e : Entry) (old m : Moment) → AreFiles old.folder → k < length job.steps → Holds job k old.folder → IsMade job k old.folder → IsEntryOfStep job k e
      → DuringPut k e old m → IsPut k e old.folder m.folder → Waits job k (k + 1) m.folder
  waits_first k e old m files within holds made is_entry during put = waits_put k k e old m files within (waits_none job k old.folder holds) made is_entry during put

  -- one more, which was made while the others waited
  pub waits_more : (committed k : ℕ) (e : Entry) (old : Folder) (mid m : Moment) → AreFiles mid.folder → k < length job.steps → Waits job committed k old → OnlyOwnFiles k old mid.folder
      → AreResumable job committed mid.folder → IsMade job k mid.folder → IsEntryOfStep job k e → DuringPut committed e mid m → IsPut committed e mid.folder m.folder
      → Waits job committed (k + 1) m.folder
  waits_more committed k e old mid m files within waits only resumable made is_entry during put =
      waits_put committed k e mid m files within (waits_while_made job committed k old mid.folder few within waits only resumable) made is_entry during put

  -- one more that makes no diagram, as a drop
  pub waits_drop : (committed k : ℕ) (e : Entry) (old m : Moment) → AreFiles old.folder → k < length job.steps → Waits job committed k old.folder → makes_diagram (step_at job k).step ≡ false
      → IsEntryOfStep job k e → DuringPut committed e old m → IsPut committed e old.folder m.folder → Waits job committed (k + 1) m.folder
  waits_drop committed k e old m files within waits none is_entry during put = waits_put committed k e old m files within waits (λ makes. absurd (cc)) is_entry during put

  -- the commit of all that waits
  module _ (committed waiting : ℕ) (old m : Moment) (files : AreFiles old.folder) (waits : Waits job committed (committed + waiting) old.folder) (during : DuringCommits committed waiting old m) where
    stays : (f : FileNo) → IsOfStep f → file_in m.folder f ≡ file_in old.folder f
    stays f of_step = during.others f (not_catalogue f of_step) (not_step_gate f of_step)

    -- a run can go on from the committed steps
    resumable : AreResumable job committed m.folder
    resumable = resumable_kept job few rests committed old.folder m.folder files (λ f apart. stays f (record { early = apart })) waits.holds.resumable

    -- and from each one behind them, as no step behind the first gated a checkpoint
    resumes : (count : ℕ) (image : Image) → committed ≤ count → IsImage m.folder image → IsResumableAt job count (bytes_in image)
    resumes count image least is_image = elim (cases_lt committed count) [
      | inl more ↦ none_resumes job count (bytes_in image) (λ s from within.
          none_next job committed (bytes_in image) (resumable image is_image) s (omega (arith, more, from)) within)
      | inr same ↦ let none : committed ≡ count = omega (arith, least, same) in subst (λ c. IsResumableAt job c (bytes_in image)) none (resumable image is_image)
    ]

    -- the entries that an image counts stand in their places
    entries_of : (image : Image) → IsImage m.folder image → (counted : IsCountedWithin committed waiting (file_in old.folder catalogue).bytes (bytes_in image)) (i : ℕ) → i < counted.count
        → (e : Entry) × IsEntryOfStep job i e × (entry_at i (bytes_in image) ≡ entry_bytes e)
    entries_of image is_image counted i below = elim (cases_lt committed counted.count) [
      | inl more ↦
          let most : counted.count ≤ committed + waiting = counted.most in
          let found : (e : Entry) × IsEntryOfStep job i e × (entry_at i (present old.folder) ≡ entry_bytes e) =
          waiting_entry job committed (committed + waiting) i old.folder waits (omega (arith, below, most)) in
          (found.0, found.1, counted_entry committed waiting i (file_in old.folder catalogue).bytes (bytes_in image) counted more below ∙ found.2)
      | inr none ↦ kept_entries job committed i old.folder m.folder image waits.holds.entries
          (during.kept waits.holds.entries.front waits.holds.entries.kept) is_image (omega (arith, below, none))
    ]

    job_same : file_in m.folder job_file ≡ file_in old.folder job_file
    job_same = during.others job_file (λ q. catalogue_not_job_file (sym q)) (λ q. step_gate_not_job_file (sym q))

    job_sure : file_in m.folder job_file ≡ firm_file (file_in m.folder job_file).bytes
    job_sure = subst (λ (x : File). x ≡ firm_file x.bytes) (sym job_same) waits.holds.job_sure

    job_is : without_budget (file_in m.folder job_file).bytes ≡ job.bytes
    job_is = ap (λ (x : File). without_budget x.bytes) job_same ∙ waits.holds.job_is

    diagrams : (count s : ℕ) → committed ≤ count → count ≤ committed + waiting → IsTrue (is_live (take count job.steps) s)
        → (file_in m.folder (node_file s) ≡ firm_file (file_of job s)) × HasForm job.n (table_at job s)
    diagrams count s least most live =
        let there : (file_in old.folder (node_file s) ≡ firm_file (file_of job s)) × HasForm job.n (table_at job s) =
        waiting_diagram job committed (committed + waiting) count s old.folder waits least most live in
        let below : s < count = live_below job.steps count s live in
        let short : committed + waiting ≤ length job.steps = waits.few in
        (stays (node_file s) (node_of_step s (early job s few (omega (arith, below, most, short)))) ∙ there.0, there.1)

    -- at each moment each image is sound, with the committed steps or more, up to all
    pub sound_while_waiting_committed : (image : Image) → IsImage m.folder image → IsSoundWithin job committed (committed + waiting) (bytes_in image)
    sound_while_waiting_committed image is_image =
        let counted : IsCountedWithin committed waiting (file_in old.folder catalogue).bytes (bytes_in image) = during.images image is_image in
        let least : committed ≤ counted.count = counted.least in
        let most : counted.count ≤ committed + waiting = counted.most in
        let short : committed + waiting ≤ length job.steps = waits.few in
        let count = counted.counts.count in
        record {
          sound = sound_with job counted.count m.folder image is_image job_sure job_is counted.counts (omega (arith, most, short)) (resumes counted.count image least is_image)
              (λ i below. entries_of image is_image counted i below) (λ s live. diagrams counted.count s least most live);
          stored = counted.counts.stored;
          no_fewer = omega (arith, count, least);
          no_more = omega (arith, count, most);
        }

    -- after it no step behind them has a gated checkpoint
    pub none_after_commits : 1 ≤ waiting → NoneGated job (committed + waiting) m.folder
    none_after_commits some s from within =
        stays (checkpoint_gate s) (gate_of_step s (early job s few within))
        ∙ none_behind job committed old.folder files waits.holds.resumable s (omega (arith, some, from)) within

    -- and the folder holds them all
    pub holds_after_commits : 1 ≤ waiting → AreCommitted committed waiting old.folder m.folder → Holds job (committed + waiting) m.folder
    holds_after_commits some all =
        let x : File = file_in old.folder catalogue in
        let size : length (take (128 * (committed + waiting)) x.bytes) ≡ 128 * (committed + waiting) = length-take-le (128 * (committed + waiting)) x.bytes waits.covers in
        let within : 128 * (committed + waiting) ≤ length x.bytes = waits.covers in
        record {
          job_sure = job_sure;
          job_is = job_is;
          ready = all.ready;
          few = waits.few;
          entries = record {
            front = take (128 * (committed + waiting)) x.bytes;
            size = size;
            kept = subst (IsKept (take (128 * (committed + waiting)) x.bytes)) (sym all.catalogue_is) (record {
              sure = omega (arith, size, within);
              same = ap (λ n. take n x.bytes) size;
            });
            each = λ i below.
                let found : (e : Entry) × IsEntryOfStep job i e × (entry_at i (present old.folder) ≡ entry_bytes e) = waiting_entry job committed (committed + waiting) i old.folder waits below in
                (found.0, found.1, sym (entry_in_front i (committed + waiting) (take (128 * (committed + waiting)) x.bytes) x.bytes size below (ap (λ n. take n x.bytes) size)) ∙ found.2);
          };
          files = λ s live. (diagrams (committed + waiting) s (omega arith) (omega arith) live).0;
          forms = λ s live. (diagrams (committed + waiting) s (omega arith) (omega arith) live).1;
          resumable = none_gated_resumes job (committed + waiting) m.folder (none_after_commits some);
        }
