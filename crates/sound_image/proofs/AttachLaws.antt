-- What stays sound while a job is attached, and what the folder holds afterwards.
use Rattle.std.proofs.Common.{◌≡◌, ◌∙◌, ℕ, ◌<◌, ◌≤◌, nat_lt, if◌then◌else◌, Bool, true, false, List, [], ◌∷◌, length, refl, sym, ap, ap₂, subst, inl, inr, arith}
use Rattle.std.specs.Prelude.{IsTrue}
use Rattle.std.specs.FinMap.{insert}
use Rattle.shelf_model.specs.declared.file_no.FileNo.{FileNo}
use Rattle.shelf_model.specs.File.{IsLeft}
use Rattle.shelf_model.specs.Folder.{Folder, Image, file_in, bytes_in, IsImage, AreFiles}
use Rattle.shelf_model.specs.World.{Moment}
use Rattle.shelf_model.proofs.Images.{chosen, bytes_in-chosen, standing_left, standing_image, one_left}
use Rattle.shelf_model.proofs.Maps.{bytes_in-insert, bytes_in-insert_other}
use Rattle.catalogue.specs.Files.{job_gate, step_gate}
use Rattle.catalogue.specs.Counts.{present, is_stored, count_in}
use Rattle.catalogue.specs.Standings.{without_budget, DuringAttach, IsAttached}
use Rattle.resumable.specs.Resumable as steps
use Rattle.sound_image.specs.Files.{checkpoint_gate}
use Rattle.sound_image.specs.Jobs.{Job}
use Rattle.sound_image.specs.Holds.{Holds, AreSound, HaveAtLeast}
use Rattle.sound_image.proofs.Numbers.{IsOfStep, gate_of_step, not_job_file, not_job_gate, not_step_gate}
use Rattle.sound_image.proofs.HoldsLaws.{held}
use Rattle.sound_image.proofs.Resuming.{AreFew, early, none_resumes}
use Rattle.sound_image.proofs.Live.{live_below}

-- what is read now is an image
pub standing : (folder : Folder) (files : AreFiles folder) (f : FileNo) → bytes_in (chosen (λ _ x. x.bytes) folder) f ≡ present folder f
standing folder files f = bytes_in-chosen (λ _ x. x.bytes) folder f (standing_left (file_in folder f) (files f))

-- the gate of the job says whether one is stored
stored_as : (r q : FileNo → List ℕ) → r job_gate ≡ q job_gate → is_stored r ≡ is_stored q
stored_as r q same = ap (λ bytes. nat_lt 0 (length bytes)) same

-- a sound folder in which no job is stored counts nothing
nothing_counted : (job : Job) (folder : Folder) → AreFiles folder → AreSound job folder → is_stored (present folder) ≡ false → length (present folder step_gate) ≡ 0
nothing_counted job folder files sound unstored =
    let image : Image = chosen (λ _ x. x.bytes) folder in
    elim (sound image (standing_image folder files)).shown [
      | inl none ↦ ap length (sym (standing folder files step_gate) ∙ none.1)
      | inr shown ↦ absurd (not_both (is_stored (bytes_in image)) shown.stored (stored_as (bytes_in image) (present folder) (standing folder files job_gate) ∙ unstored))
    ]
  where
    not_both : (b : Bool) → IsTrue b → b ≡ false → ⊥
    not_both true x y = cc
    not_both false x y = cc

-- and no step behind the first that isn't committed has a gated checkpoint, as it is read
pub none_behind_first : (job : Job) (folder : Folder) → AreFiles folder → AreSound job folder → (s : ℕ) → count_in (present folder) < s → s < length job.steps
    → present folder (checkpoint_gate s) ≡ []
none_behind_first job folder files sound s behind within =
    let image : Image = chosen (λ _ x. x.bytes) folder in
    sym (standing folder files (checkpoint_gate s))
    ∙ (sound image (standing_image folder files)).resumable.goes_on.behind s
    (subst (λ c. c < s) (count_as (present folder) (bytes_in image) (sym (standing folder files job_gate)) (sym (standing folder files step_gate))) behind) within
  where
    count_as : (r q : FileNo → List ℕ) → r job_gate ≡ q job_gate → r step_gate ≡ q step_gate → count_in r ≡ count_in q
    count_as r q jobs steps = ap₂ (λ a b. if nat_lt 0 (length a) then length b else 0) jobs steps

-- nor has a step of it a gated checkpoint in an image where files of steps are as they were
none_checkpointed : (job : Job) (bytes : List ℕ) (old m : Moment) (image : Image) → AreFiles old.folder → AreFew job → AreSound job old.folder
    → is_stored (present old.folder) ≡ false → DuringAttach bytes old m → IsImage m.folder image → steps.HasNone job.steps 0 (bytes_in image)
none_checkpointed job bytes old m image files few sound unstored during is_image s from within =
    let of_step : IsOfStep gate = gate_of_step s (early job s few within) in
    let same : file_in m.folder gate ≡ file_in old.folder gate = during.others gate (not_job_file gate of_step) (not_job_gate gate of_step) (not_step_gate gate of_step) in
    let first : Image = insert (chosen (λ _ x. x.bytes) old.folder) gate (bytes_in image gate) in
    let is_first : IsImage old.folder first = one_left old.folder gate (bytes_in image gate) files (subst (λ x. IsLeft x (bytes_in image gate)) same (is_image gate)) in
    let stored_same : bytes_in first job_gate ≡ present old.folder job_gate =
    bytes_in-insert_other (chosen (λ _ x. x.bytes) old.folder) gate job_gate (bytes_in image gate) (λ e. not_job_gate gate of_step (sym e)) ∙ standing old.folder files job_gate in
    sym (bytes_in-insert (chosen (λ _ x. x.bytes) old.folder) gate (bytes_in image gate))
    ∙ (sound first is_first).resumable.unstored (stored_as (bytes_in first) (present old.folder) stored_same ∙ unstored) s from within
  where
    gate : FileNo
    gate = checkpoint_gate s

-- at each moment of an attach of a job, whose bytes may have any budget, each image is sound
pub sound_while_attached : (job : Job) (bytes : List ℕ) (old m : Moment) → without_budget bytes ≡ job.bytes → AreFiles old.folder → AreFew job → AreSound job old.folder
    → DuringAttach bytes old m → AreSound job m.folder
sound_while_attached job bytes old m of_job files few sound during image is_image = elim (during.images image is_image) [
  | inl old_image ↦ sound image old_image
  | inr new ↦ record {
    shown = elim new.1 [
      | inl unstored ↦ inl (
        unstored.unstored,
        no_bytes (bytes_in image step_gate) (subst (λ c. length (bytes_in image step_gate) ≤ c)
            (nothing_counted job old.folder files sound new.0) unstored.gate),
      )
      | inr stored ↦ inr (record {
        stored = stored.counts.stored;
        job_is = stored.job_is ∙ of_job;
        few = subst (λ c. c ≤ length job.steps) (sym stored.counts.count) (omega arith);
        entries = λ k within. absurd (none (count_in (bytes_in image)) k stored.counts.count within);
        files = λ s live. absurd (none (count_in (bytes_in image)) s stored.counts.count (live_below job.steps (count_in (bytes_in image)) s live));
        forms = λ s live. absurd (none (count_in (bytes_in image)) s stored.counts.count (live_below job.steps (count_in (bytes_in image)) s live));
      })
    ];
    resumable = record {
      unstored = λ unstored. none_checkpointed job bytes old m image files few sound new.0 during is_image;
      goes_on = none_resumes job (count_in (bytes_in image)) (bytes_in image)
          (λ s from within. none_checkpointed job bytes old m image files few sound new.0 during is_image s (omega arith) within);
    };
  }
]
  where
    no_bytes : (xs : List ℕ) → length xs ≤ 0 → xs ≡ []
    no_bytes [] h = refl
    no_bytes (x ∷ xs) h = absurd (omega arith)

    none : (c k : ℕ) → c ≡ 0 → k < c → ⊥
    none c k x y = omega (arith, x, y)

-- and has no fewer steps than each image had at first
pub count_while_attached : (job : List ℕ) (least : ℕ) (old m : Moment) → AreFiles old.folder → HaveAtLeast least old.folder → DuringAttach job old m → HaveAtLeast least m.folder
count_while_attached job least old m files at_least during image is_image = elim (during.images image is_image) [
  | inl old_image ↦ at_least image old_image
  | inr new ↦
      let first : Image = chosen (λ _ x. x.bytes) old.folder in
      let reached : least ≤ count_in (bytes_in first) = at_least first (standing_image old.folder files) in
      let none : count_in (bytes_in first) ≡ 0 = no_count (bytes_in first) (stored_as (bytes_in first) (present old.folder) (standing old.folder files job_gate) ∙ new.0) in
      omega (arith, reached, none)
]
  where
    no_count : (r : FileNo → List ℕ) → is_stored r ≡ false → count_in r ≡ 0
    no_count r unstored = ap (λ b. if b then length (r step_gate) else 0) unstored

-- after an attach to a sound folder its steps are held
pub holds_after_attach : (job : Job) (bytes : List ℕ) (count : ℕ) (old m : Moment) → without_budget bytes ≡ job.bytes → AreFiles old.folder → AreFiles m.folder → AreFew job
    → AreSound job old.folder → DuringAttach bytes old m → IsAttached bytes count m.folder → Holds job count m.folder
holds_after_attach job bytes count old m of_job files new_files few sound during attached =
    held job count m.folder new_files attached.ready (sound_while_attached job bytes old m of_job files few sound during) attached.job_sure
    (attached.job_is ∙ of_job)
