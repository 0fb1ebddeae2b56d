-- What stays sound while a step is committed together with the drops behind it, and while what they leave is cut.
use Rattle.std.proofs.Common.{◌≡◌, ◌∙◌, ℕ, ◌+◌, ◌*◌, ◌<◌, ◌≤◌, false, List, length, take, get_or, refl, sym, ap, subst, inl, inr, arith}
use Rattle.std.specs.Prelude.{IsTrue}
use Rattle.std.proofs.lemmas.Bool.{cases_lt}
use Rattle.std.proofs.lemmas.Cmp.{nat_eq_equiv}
use Rattle.bool_tables.specs.declared.steps.Step.TheVariants.{Drop}
use Rattle.bool_tables.specs.declared.steps.Planned.{Planned}
use Rattle.bool_tables.specs.Plans.{IsWellFormed, is_live, drops, makes_diagram}
use Rattle.shelf_model.specs.declared.file_no.FileNo.{FileNo}
use Rattle.shelf_model.specs.File.{File, firm_file}
use Rattle.shelf_model.specs.Folder.{Image, file_in, bytes_in, IsImage, AreFiles}
use Rattle.shelf_model.specs.World.{Moment}
use Rattle.catalogue.specs.declared.layout.Entry.{Entry}
use Rattle.catalogue.specs.Files.{job_step, job_file}
use Rattle.catalogue.specs.Counts.{is_stored, count_in, entry_at}
use Rattle.catalogue.specs.Entries.{entry_bytes}
use Rattle.catalogue.specs.Standings.{without_budget}
use Rattle.catalogue.proofs.Stored.{catalogue_not_job_file, step_gate_not_job_file}
use Rattle.canon_file.specs.Laws.{HasForm}
use Rattle.step_work.specs.Plans.{no_step}
use Rattle.sound_image.specs.Files.{node_file, checkpoint_gate}
use Rattle.sound_image.specs.Jobs.{Job, table_at, file_of, step_at}
use Rattle.sound_image.specs.Entries.{IsEntryOfStep}
use Rattle.sound_image.specs.Sound.{IsSound, IsResumableAt}
use Rattle.sound_image.specs.Holds.{Holds, IsMade, NoneGated}
use Rattle.sound_image.proofs.Numbers.{IsOfStep, node_of_step, gate_of_step, not_catalogue, not_step_gate}
use Rattle.sound_image.proofs.HoldsLaws.{sound_with, kept_entries, held}
use Rattle.sound_image.proofs.Resuming.{AreFew, RestsOnSteps, early, none_resumes, none_next, none_gated_resumes, none_behind, resumable_kept}
use Rattle.sound_image.proofs.Live.{live_below, live_sooner, live_last, live_undropped}
use Rattle.sound_image.proofs.StepLaws.{holds_kept, live_file, live_form}
use Rattle.step_engine.proofs.EntryLaws.{drop_entry_is}
use Rattle.script_runner.specs.Together.{AreDrops, IsEntryWith, IsCountedTo, DuringTogether, AreTogether, IsCutTogether, TidiedTogether}
use Rattle.script_runner.proofs.RunSteps.{drop_below}

-- what is live behind drops was live before them
live_since : (steps : List Planned) (from until count s : ℕ) → AreDrops steps from until → until ≤ length steps → from ≤ count → count ≤ until
    → IsTrue (is_live (take count steps) s) → IsTrue (is_live (take from steps) s)
live_since steps from until count s are upto least most live = elim (cases_lt s from) [
  | inl earlier ↦ live_sooner steps from count s no_step least (omega (arith, most, upto)) earlier live
  | inr beyond ↦ absurd (no_diagram beyond)
]
  where
    no_diagram : from ≤ s → ⊥
    no_diagram beyond =
        let low : s < count = live_below steps count s live in
        let is = are s beyond (omega (arith, low, most)) in
        let makes : IsTrue (makes_diagram (get_or steps s no_step).step) =
        live_last steps s no_step (omega (arith, low, most, upto))
        (live_sooner steps (s + 1) count s no_step (omega (arith, low)) (omega (arith, most, upto)) (omega arith) live) in
        let none : makes_diagram (get_or steps s no_step).step ≡ false = ap makes_diagram is.1 in
        cc

module _ (job : Job) (plan : IsWellFormed job.n job.text job.steps) (rests : RestsOnSteps job) (k until : ℕ) (within : k < until)
    (upto : until ≤ length job.steps) (e : Entry) (number : e.number ≡ k) (are : AreDrops job.steps (k + 1) until) where
  few : AreFew job
  few = plan.few_steps

  inside : k < length job.steps
  inside = omega (arith, within, upto)

  -- the entries that are committed together are those of their steps
  pub entry_with : IsEntryOfStep job k e → (j : ℕ) (x : Entry) → j < until → IsEntryWith job.steps e j x → IsEntryOfStep job j x
  entry_with is_entry j x below (inl (same, is)) =
      subst (IsEntryOfStep job j) (sym is) (subst (λ i. IsEntryOfStep job i e) (sym (same ∙ number)) is_entry)
  entry_with is_entry j x below (inr (behind, (gone, drops_it, is))) =
      let steps_few = few in
      let earlier : gone < j = drop_below job j gone plan (omega (arith, below, upto)) drops_it in
      subst (IsEntryOfStep job j) (sym is)
      (drop_entry_is job j gone (step_at job j) drops_it (omega (arith, earlier, below, upto, steps_few)) (omega (arith, below, upto, steps_few)) refl)

  module _ (old : Moment) (files : AreFiles old.folder) (holds : Holds job k old.folder) (made : IsMade job k old.folder)
      (is_entry : IsEntryOfStep job k e) where
    module _ (m : Moment) (during : DuringTogether job.steps e until old m) where
      others_same : (f : FileNo) → IsOfStep f → {bytes : List ℕ} → file_in old.folder f ≡ firm_file bytes → file_in m.folder f ≡ firm_file bytes
      others_same f of_step same = during.others f (not_catalogue f of_step) (not_step_gate f of_step) ∙ same

      job_same : file_in m.folder job_file ≡ file_in old.folder job_file
      job_same = during.others job_file (λ q. catalogue_not_job_file (sym q)) (λ q. step_gate_not_job_file (sym q))

      job_sure : file_in m.folder job_file ≡ firm_file (file_in m.folder job_file).bytes
      job_sure = subst (λ (x : File). x ≡ firm_file x.bytes) (sym job_same) holds.job_sure

      job_is : without_budget (file_in m.folder job_file).bytes ≡ job.bytes
      job_is = ap (λ (x : File). without_budget x.bytes) job_same ∙ holds.job_is

      node_is : (s c : ℕ) → c ≤ until → IsTrue (is_live (take c job.steps) s) → IsOfStep (node_file s)
      node_is s c short live =
          let below : s < c = live_below job.steps c s live in
          node_of_step s (early job s few (omega (arith, below, short, upto)))

      -- no step behind has a gated checkpoint
      pub none_together : NoneGated job (k + 1) m.folder
      none_together s from within_all =
          let of_step : IsOfStep (checkpoint_gate s) = gate_of_step s (early job s few within_all) in
          during.others (checkpoint_gate s) (not_catalogue (checkpoint_gate s) of_step) (not_step_gate (checkpoint_gate s) of_step)
          ∙ none_behind job k old.folder files holds.resumable s from within_all

      -- each image is sound
      module _ (image : Image) (is_image : IsImage m.folder image) where
        r : FileNo → List ℕ
        r = bytes_in image

        counted : IsCountedTo job.steps e until (bytes_in image)
        counted = during.images image is_image

        resumable : IsResumableAt job k (bytes_in image)
        resumable = resumable_kept job few rests k old.folder m.folder files
            (λ f apart. let of_step : IsOfStep f = record { early = apart } in during.others f (not_catalogue f of_step) (not_step_gate f of_step))
            holds.resumable image is_image

        resumes : (c : ℕ) → k ≤ c → IsResumableAt job c (bytes_in image)
        resumes c least = elim (cases_lt k c) [
          | inl more ↦ none_resumes job c (bytes_in image) (λ s from within_all.
              none_next job k (bytes_in image) resumable s (omega (arith, from, more)) within_all)
          | inr same ↦ let is : k ≡ c = omega (arith, least, same) in subst (λ n. IsResumableAt job n (bytes_in image)) is resumable
        ]

        entries : (i : ℕ) → i < counted.count → (x : Entry) × IsEntryOfStep job i x × (entry_at i (bytes_in image) ≡ entry_bytes x)
        entries i below = elim (cases_lt i k) [
          | inl earlier ↦
              let size : length holds.entries.front ≡ 128 * k = holds.entries.size in
              let short : length holds.entries.front ≤ 128 * e.number = omega (arith, size, number) in
              kept_entries job k i old.folder m.folder image holds.entries (during.kept holds.entries.front short holds.entries.kept) is_image earlier
          | inr beyond ↦
              let found = counted.placed i (omega (arith, beyond, number)) below in
              let most = counted.no_more in
              (found.0, entry_with is_entry i found.0 (omega (arith, below, most)) found.1, found.2)
        ]

        nodes : (c : ℕ) → k ≤ c → c ≤ until → (s : ℕ) → IsTrue (is_live (take c job.steps) s)
            → (file_in m.folder (node_file s) ≡ firm_file (file_of job s)) × HasForm job.n (table_at job s)
        nodes c least most s live = elim (cases_lt k c) [
          | inl more ↦
              let before : IsTrue (is_live (take (k + 1) job.steps) s) =
              live_since job.steps (k + 1) until c s are upto (omega (arith, more)) most live in (
                others_same (node_file s) (node_is s c most live) (live_file job k s old.folder inside holds made before),
                live_form job k s old.folder inside holds made before,
              )
          | inr same ↦
              let is : c ≡ k = omega (arith, least, same) in
              let lives : IsTrue (is_live (take k job.steps) s) = subst (λ n. IsTrue (is_live (take n job.steps) s)) is live in
              (others_same (node_file s) (node_is s c most live) (holds.files s lives), holds.forms s lives)
        ]

        least_count : k ≤ counted.count
        least_count = let low = counted.no_fewer in omega (arith, low, number)

        pub sound_together : IsSound job (bytes_in image) × (k ≤ count_in (bytes_in image)) × IsTrue (is_stored (bytes_in image))
        sound_together =
            let count : count_in (bytes_in image) ≡ counted.count = counted.counts.count in
            let low : k ≤ counted.count = least_count in
            let most = counted.no_more in (
              sound_with job counted.count m.folder image is_image job_sure job_is counted.counts (omega (arith, most, upto))
                  (resumes counted.count low) entries (nodes counted.count low most),
              omega (arith, count, low),
              counted.counts.stored,
            )

      -- and once all are committed the folder holds them
      pub holds_together : AreFiles m.folder → AreTogether job.steps e until m.folder → Holds job until m.folder
      holds_together files_here committed =
          held job until m.folder files_here committed.ready (λ image is_image. (sound_together image is_image).0) job_sure job_is

  -- while what they leave is cut the folder holds them
  module _ (below : (f : FileNo) → IsCutTogether job.steps e until f → f.step < until) (old m : Moment)
      (tidied : TidiedTogether job.steps e until old m) where
    not_cut : (f : FileNo) → f.step ≡ job_step → IsCutTogether job.steps e until f → ⊥
    not_cut f of_job cut = let own = below f cut in let steps_few = few in omega (arith, own, of_job, upto, steps_few)

    not_live : (s : ℕ) → IsTrue (is_live (take until job.steps) s) → IsCutTogether job.steps e until (node_file s) → ⊥
    not_live s live (inl (inl (gone, dropped, is))) =
        live_undropped job.steps k s no_step inside
        (subst (λ i. IsTrue (drops s (step_at job i).step)) number
        (subst (λ j. IsTrue (drops j (step_at job e.number).step)) (sym (ap (λ (q : FileNo). q.step) is)) dropped))
        (live_since job.steps (k + 1) until until s are upto (omega (arith, within)) (omega arith) live)
    not_live s live (inl (inr (swept, own))) = let no : 1 ≤ 0 = own.from in omega (arith, no)
    not_live s live (inr (j, from, short, (gone, drops_it, is))) =
        let same : s ≡ gone = ap (λ (q : FileNo). q.step) is in
        let since : AreDrops job.steps (j + 1) until = λ i least most. are i (omega (arith, from, least, number)) most in
        live_undropped job.steps j s no_step (omega (arith, short, upto))
        (subst (λ x. IsTrue (drops s x)) (sym drops_it) (subst (λ i. IsTrue (drops s (Drop i))) same (nat_eq_equiv.refl s)))
        (live_since job.steps (j + 1) until until s since upto (omega (arith, short)) (omega arith) live)

    none_after : NoneGated job until old.folder → NoneGated job until m.folder
    none_after none s from within_all = tidied.empty (checkpoint_gate s) (none s from within_all)

    pub holds_while_cut : Holds job until old.folder → NoneGated job until old.folder → Holds job until m.folder
    holds_while_cut holds none = holds_kept job until old.folder m.folder holds (record {
      of_job = λ f of_job. tidied.only f (not_cut f of_job);
      nodes = λ s live. tidied.only (node_file s) (not_live s live);
      resumable = none_gated_resumes job until m.folder (none_after none);
    })
