-- A sweep that is saved where it is: what a stop may leave meanwhile, and what stands afterwards.
use Rattle.std.proofs.Common.{◌≡◌, ◌≢◌, ◌⊎◌, ℕ, ◌+◌, ◌*◌, ◌^◌, ◌<◌, ◌≤◌, Bool, IsTrue, List, [], ◌∷◌, ◌++◌, length, take, refl, sym, ap, subst, ◌∙◌, inl, inr, arith}
use Rattle.std.specs.Prelude.{Option, All}
use Rattle.std.proofs.lemmas.List.{length-take-le, length-append}
use Rattle.shelf_model.specs.declared.file_no.FileNo.{FileNo}
use Rattle.shelf_model.specs.File.{File}
use Rattle.shelf_model.specs.Folder.{Folder, Image, file_in, bytes_in, IsImage, AreFiles, OnlyChanges}
use Rattle.shelf_model.specs.World.{Moment, World, now, file}
use Rattle.shelf_model.specs.Calls.{Told}
use Rattle.shelf_model.specs.Moments.{Throughout, Quiet, Ran, OnlyChanged}
use Rattle.shelf_model.proofs.Runs.{weakens, joins, ran_weakens, ran_joins, ran_end, told, told_then}
use Rattle.shelf_model.proofs.Changing.{changes_then}
use Rattle.file_numbers.specs.Files.{checkpoint_file, checkpoint_gate}
use Rattle.run_tiers.specs.declared.run.Run.{Run}
use Rattle.run_tiers.specs.Syncs.{IsFirm}
use Rattle.sweep_core.specs.declared.checkpoint.Checkpoint.{Checkpoint}
use Rattle.sweep_core.specs.Tables.{IsSlot, Names, HasTables}
use Rattle.sweep_core.specs.Saving.{Saving, IsReadPart, IsOfStep, IsRestingPlace, IsFilled, IsSure, reads_of}
use Rattle.sweep_core.specs.Resting.{read_rests}
use Rattle.sweep_core.specs.Carries.{OnlySaved, IsUsed}
use Rattle.sweep_checkpoint.specs.Points.{point_bytes, Fits}
use Rattle.sweep_checkpoint.specs.Saves.{gated_size, IsGateSure, DuringSave, IsSaved}
use Rattle.sweep_checkpoint.specs.Retires.{IsGivenUp}
use Rattle.sweep_checkpoint.specs.Going.{IsOfGoing, IsPaid, IsAsBefore, GoesOn, Stands, AreSure}
use Rattle.sweep_checkpoint.proofs.Parts.{length_point}
use Rattle.sweep_checkpoint.proofs.AsBefore.{of_step_later, as_before, as_before_then, before_saved, points_not_made, gate_not_made, gate_stays}
use Rattle.sweep_checkpoint.proofs.Standing.{operand_firm, Ready, stands_image, stands_retired, ready_goes_on, ready_saved}

-- the files of a step that change meanwhile: first those of the sweep
pub saved_changes : (makes operands : FileNo → Type 0) (step next : ℕ) (old m : Moment) → IsOfStep makes operands step next
    → OnlySaved makes step next old m → OnlyChanged (IsOfGoing makes step) old m
saved_changes makes operands step next old m files saved f outside =
    let parts : 3 ≤ next = files.parts in
    elim (saved.others f (λ mine. outside (inl mine)) (λ free. let from = free.from in outside (inr (free.step_is, omega (arith, from, parts))))) [
      | inl same ↦ same
      | inr firm ↦ let from = firm.0.from in absurd (outside (inr (firm.0.step_is, omega (arith, from))))
    ]

-- then the checkpoints and their gate
pub save_changes : (makes : FileNo → Type 0) (c : Checkpoint) (old m : Moment) → DuringSave c old m → OnlyChanged (IsOfGoing makes c.step) old m
save_changes makes c old m saves f outside =
    saves.others f (λ is. outside (inr (ap (λ (g : FileNo). g.step) is, subst (λ (g : FileNo). 1 ≤ g.part) (sym is) (omega arith))))
    (λ is. outside (inr (ap (λ (g : FileNo). g.step) is, subst (λ (g : FileNo). 1 ≤ g.part) (sym is) (omega arith))))

-- and then the runs that are given up
pub retire_changes : (makes : FileNo → Type 0) (older : Option Checkpoint) (c : Checkpoint) (old m : Moment)
    → OnlyChanged (IsGivenUp older c) old m → OnlyChanged (IsOfGoing makes c.step) old m
retire_changes makes older c old m only f outside =
    only f (λ gone. let from = gone.from in outside (inr (gone.step_is, omega (arith, from))))

-- runs of calls that change these files alone
pub ran_changes : (these : FileNo → Type 0) (old mid new : World) (P : Moment → Type 0) → OnlyChanged these (now old) (now mid)
    → ((m : Moment) → P m → OnlyChanged these (now mid) m) → Ran P mid new → Ran (OnlyChanged these (now old)) mid new
ran_changes these old mid new P first follows run =
    ran_weakens mid new P (OnlyChanged these (now old)) (λ m holds. changes_then these (now old).folder (now mid).folder m.folder first (follows m holds)) run

-- no slot of a lawful table names a part of the checkpoints
no_slot : (next : ℕ) (r : Run) (part : ℕ) → IsSlot next r → r.part ≡ part → 1 ≤ part → part < 3 → ⊥
no_slot next r part (inl none) is from below = let zero_is = none.part in absurd (omega (arith, zero_is, is, from))
no_slot next r part (inr run) is from below = let least = run.from in absurd (omega (arith, least, is, below))

pub not_named : (c : Checkpoint) (part : ℕ) → HasTables c → 1 ≤ part → part < 3 → ¬ Names c part
not_named c part tables from below named =
    let among = named.4 in
    let table : All (IsSlot c.next_part) named.1 = subst (All (IsSlot c.next_part)) named.3 (tables.runs named.0 named.1 named.2) in
    no_slot c.next_part among.1 part (subst (IsSlot c.next_part) among.3 (table among.0 among.1 among.2)) among.4 from below

-- a sweep that was just saved works on no file that a save or the end of older runs changes
pub used_stay : (makes operands : FileNo → Type 0) (c : Checkpoint) (next : ℕ) (older : Option Checkpoint) (old mid m : Moment) (f : FileNo)
    → IsOfStep makes operands c.step next → HasTables c → DuringSave c old mid → OnlyChanges (IsGivenUp older c) mid.folder m.folder
    → IsUsed makes operands c f → file_in m.folder f ≡ file_in old.folder f
used_stay makes operands c next older old mid m f files tables saves only used =
    let stays : f ≢ checkpoint_file c.step → f ≢ checkpoint_gate c.step → ¬ IsGivenUp older c f → file_in m.folder f ≡ file_in old.folder f =
    λ no_points no_gate kept. only f kept ∙ saves.others f no_points no_gate in
    elim used [
      | inl operand ↦
          let rests = read_rests (record c { next_part = next }) f files.parts (files.others f operand) in
          stays rests.no_points rests.no_gate (λ gone. gone.unnamed (rests.named gone.step_is gone.from))
      | inr other ↦ elim other [
        | inl mine ↦ stays (λ is. points_not_made makes operands c.step next files (subst makes is mine)) (λ is. gate_not_made makes operands c.step next files (subst makes is mine))
            (λ gone. let from = gone.from in elim (files.made f mine).part [
              | inl none ↦ absurd (omega (arith, from, none))
              | inr arcs ↦ let most = arcs.1 in absurd (omega (arith, from, most))
            ])
        | inr run ↦ stays (λ is. not_named c 1 tables (omega arith) (omega arith) (subst (Names c) (ap (λ (g : FileNo). g.part) is) run.1))
            (λ is. not_named c 2 tables (omega arith) (omega arith) (subst (Names c) (ap (λ (g : FileNo). g.part) is) run.1))
            (λ gone. gone.unnamed run.1)
      ]
    ]

-- behind a save the gated checkpoints are all there
pub save_covers : (c : Checkpoint) (old new : Folder) → Fits c → IsSaved c old new
    → gated_size c.step new ≤ length (file_in new (checkpoint_file c.step)).bytes
save_covers c old new fits saved =
    let whole : length (point_bytes c) ≡ 16384 = length_point c fits in
    let before : List ℕ = (file_in old (checkpoint_file c.step)).bytes in
    let gate : List ℕ = (file_in old (checkpoint_gate c.step)).bytes in
    let count : length (file_in new (checkpoint_gate c.step)).bytes ≡ length (gate ++ 0 ∷ []) = ap (λ (x : File). length x.bytes) saved.gate_is in
    let more : length (gate ++ 0 ∷ []) ≡ length gate + 1 = length-append gate (0 ∷ []) in
    let points : length (file_in new (checkpoint_file c.step)).bytes ≡ length (take (16384 * length gate) before ++ point_bytes c) = ap (λ (x : File). length x.bytes) saved.points_are in
    let both : length (take (16384 * length gate) before ++ point_bytes c) ≡ length (take (16384 * length gate) before) + length (point_bytes c) = length-append (take (16384 * length gate) before) (point_bytes c) in
    let front : length (take (16384 * length gate) before) ≡ 16384 * length gate = length-take-le (16384 * length gate) before saved.covers in
    omega (arith, whole, count, more, points, both, front)

-- what holds at each moment of runs of calls
pub moments : (old new : World) (P Q : Moment → Type 0) → ((m : Moment) → P m → Q m) → Ran P old new → Throughout old new Q
moments old new P Q follows run = weakens old new (Quiet (now old).said P) Q (λ m quiet. follows m quiet.holds) run.moments

-- an image agrees with one of before, or the step can go on in it
abbrev pub AreLeft : {Task Job : Type 0} → Saving Task Job → (FileNo → Type 0) → ℕ → ℕ → ℕ → Task → Job → ℕ → Folder → Moment → Type 0
AreLeft saving makes step next sweep task job turns old m = (image : Image) → IsImage m.folder image
    → IsAsBefore makes step next old (bytes_in image) ⊎ GoesOn saving step sweep task job turns (bytes_in image)

module _ {Task Job : Type 0} (saving : Saving Task Job)
    (stays : (c : Checkpoint) (text : List ℕ) (old new : FileNo → List ℕ) (job : Job) (turns : ℕ) → saving.fits c text
    → ((f : FileNo) (n : ℕ) → saving.rests c f n → take n (new f) ≡ take n (old f))
    → saving.stands c text old job turns → saving.stands c text new job turns)
    (apart : (c : Checkpoint) (text : List ℕ) (f : FileNo) (n : ℕ) → saving.fits c text → saving.rests c f n → IsRestingPlace c f)
    (makes operands : FileNo → Type 0) (step next sweep : ℕ) (task : Task) (job : Job) (turns : ℕ) where
  -- while the sweep is made ready
  pub ready_left : (old new : World) → AreFiles (now old).folder → IsOfStep makes operands step next
      → Ran (OnlySaved makes step next (now old)) old new → Throughout old new (AreLeft saving makes step next sweep task job turns (now old).folder)
  ready_left old new are_files files run =
      moments old new (OnlySaved makes step next (now old)) (AreLeft saving makes step next sweep task job turns (now old).folder)
      (λ m saved image is_image. inl (as_before makes operands step next (now old) m image are_files files saved is_image)) run

  -- while it is saved
  pub save_left : (old mid new : World) (c : Checkpoint) (later left : ℕ) → AreFiles (now old).folder → AreFiles (now mid).folder → IsOfStep makes operands step next
      → next ≤ later → OnlySaved makes step next (now old) (now mid) → AreSure operands step (now old).folder
      → Ready saving makes operands step later sweep task job turns c left (now mid).folder
      → Ran (DuringSave c (now mid)) mid new → Throughout mid new (AreLeft saving makes step next sweep task job turns (now old).folder)
  save_left old mid new c later left are_files mid_files files more saved sure ready run =
      let mid_of : IsOfStep makes operands step later = of_step_later makes operands step next later more files in
      let c_of : IsOfStep makes operands c.step later = subst (λ s. IsOfStep makes operands s later) (sym ready.step_is) mid_of in
      let gate : IsGateSure c.step (now mid).folder = subst (λ s. IsGateSure s (now mid).folder) (sym ready.step_is)
      (subst IsFirm (sym (gate_stays makes operands step next (now old) (now mid) files saved)) sure.gate) in
      moments mid new (DuringSave c (now mid)) (AreLeft saving makes step next sweep task job turns (now old).folder)
      (λ m saves image is_image. elim (saves.images gate image is_image) [
        | inl was ↦ inl (as_before_then makes operands step next later (now old) (now mid) (bytes_in image) are_files files more saved
            (subst (λ s. IsAsBefore makes s later (now mid).folder (bytes_in image)) ready.step_is
            (before_saved makes operands c later (now mid) m image mid_files c_of saves is_image was)))
        | inr last ↦ inr (ready_goes_on saving stays apart makes operands step later sweep task job turns c left (now mid) m image mid_files ready saves is_image last)
      ]) run

  -- while older runs are given up
  pub retire_left : (old mid new : World) (c : Checkpoint) (later : ℕ) (older : Option Checkpoint)
      → (s : Stands saving makes operands step later sweep task job turns (now mid).folder) → s.goes_on.point ≡ c
      → Ran (OnlyChanged (IsGivenUp older c) (now mid)) mid new → Throughout mid new (AreLeft saving makes step next sweep task job turns (now old).folder)
  retire_left old mid new c later older s is run =
      moments mid new (OnlyChanged (IsGivenUp older c) (now mid)) (AreLeft saving makes step next sweep task job turns (now old).folder)
      (λ m only image is_image. inr (stands_image saving stays apart makes operands step later sweep task job turns m.folder image
      (stands_retired saving stays apart makes operands step later sweep task job turns older (now mid).folder m.folder s
      (subst (λ d. OnlyChanges (IsGivenUp older d) (now mid).folder m.folder) (sym is) only)) is_image)) run

-- the same under the number of the step
pub left_at : {Task Job : Type 0} (saving : Saving Task Job) (makes : FileNo → Type 0) (s step next sweep : ℕ) (task : Task) (job : Job) (turns : ℕ) (old new : World) (folder : Folder)
    → s ≡ step → Throughout old new (AreLeft saving makes s next sweep task job turns folder) → Throughout old new (AreLeft saving makes step next sweep task job turns folder)
left_at saving makes s step next sweep task job turns old new folder at left = subst (λ k. Throughout old new (AreLeft saving makes k next sweep task job turns folder)) at left

-- a sweep was made ready, and filled the checkpoint; then that was saved
module _ {S : Type 0} (tells : S → Bool) (world : S → World) (makes operands : FileNo → Type 0) (next later : ℕ) (d : Checkpoint) where
  pub record IsCarried (old mid : S) : Type 0 where
    pub files : IsOfStep makes operands d.step next
    pub content : Told tells old mid (Ran (OnlySaved makes d.step next (now (world old))) (world old) (world mid))
    pub more : next ≤ later

  saved_by : (old mid : S) → IsCarried old mid → IsTrue (tells mid) → OnlySaved makes d.step next (now (world old)) (now (world mid))
  saved_by old mid carried told_mid = ran_end (world old) (world mid) (OnlySaved makes d.step next (now (world old))) (carried.content.did told_mid)

  pub carried_changes : (old mid : S) → IsCarried old mid → Told tells old mid (Ran (OnlyChanged (IsOfGoing makes d.step) (now (world old))) (world old) (world mid))
  carried_changes old mid carried = told tells old mid _ _ carried.content (λ _ run. ran_weakens (world old) (world mid)
      (OnlySaved makes d.step next (now (world old))) (OnlyChanged (IsOfGoing makes d.step) (now (world old)))
      (λ m saved. saved_changes makes operands d.step next (now (world old)) m carried.files saved) run)

  pub changes_on : (old mid new : S) (P : Moment → Type 0) → Told tells old mid (Ran (OnlyChanged (IsOfGoing makes d.step) (now (world old))) (world old) (world mid))
      → ((m : Moment) → P m → OnlyChanged (IsOfGoing makes d.step) (now (world mid)) m) → Told tells mid new (Ran P (world mid) (world new))
      → Told tells old new (Ran (OnlyChanged (IsOfGoing makes d.step) (now (world old))) (world old) (world new))
  changes_on old mid new P first follows second = told_then tells old mid new _ _ _ first second (λ _ a b.
      ran_joins (world old) (world mid) (world new) (OnlyChanged (IsOfGoing makes d.step) (now (world old))) a
      (ran_changes (IsOfGoing makes d.step) (world old) (world mid) (world new) P
      (ran_end (world old) (world mid) (OnlyChanged (IsOfGoing makes d.step) (now (world old))) a) follows b))

  pub save_on : (old mid new : S) → IsCarried old mid → Told tells mid new (Ran (DuringSave d (now (world mid))) (world mid) (world new))
      → Told tells old new (Ran (OnlyChanged (IsOfGoing makes d.step) (now (world old))) (world old) (world new))
  save_on old mid new carried saves = changes_on old mid new (DuringSave d (now (world mid))) (carried_changes old mid carried)
      (λ m during. save_changes makes d (now (world mid)) m during) saves

  pub retire_on : (older : Option Checkpoint) (old mid new end : S) → IsCarried old mid → Told tells mid new (Ran (DuringSave d (now (world mid))) (world mid) (world new))
      → Told tells new end (Ran (OnlyChanged (IsGivenUp older d) (now (world new))) (world new) (world end))
      → Told tells old end (Ran (OnlyChanged (IsOfGoing makes d.step) (now (world old))) (world old) (world end))
  retire_on older old mid new end carried saves retires = changes_on old new end (OnlyChanged (IsGivenUp older d) (now (world new)))
      (save_on old mid new carried saves) (λ m only. retire_changes makes older d (now (world new)) m only) retires

  -- what the sweep works on stays
  pub works_on : (older : Option Checkpoint) (mid new end : S) → IsOfStep makes operands d.step next → HasTables d
      → Told tells mid new (Ran (DuringSave d (now (world mid))) (world mid) (world new))
      → Told tells new end (Ran (OnlyChanged (IsGivenUp older d) (now (world new))) (world new) (world end))
      → IsTrue (tells end) → (f : FileNo) → IsUsed makes operands d f → file (world end) f ≡ file (world mid) f
  works_on older mid new end files tables saves retires told_end f used =
      let told_new : IsTrue (tells new) = retires.before told_end in
      used_stay makes operands d next older (now (world mid)) (now (world new)) (now (world end)) f files tables
      (ran_end (world mid) (world new) (DuringSave d (now (world mid))) (saves.did told_new))
      (ran_end (world new) (world end) (OnlyChanged (IsGivenUp older d) (now (world new))) (retires.did told_end)) used

  pub covers_on : (older : Option Checkpoint) (mid new end : S) → Fits d
      → (IsTrue (tells new) → IsSaved d (now (world mid)).folder (now (world new)).folder)
      → Told tells new end (Ran (OnlyChanged (IsGivenUp older d) (now (world new))) (world new) (world end))
      → IsTrue (tells end) → gated_size d.step (now (world end)).folder ≤ length (file (world end) (checkpoint_file d.step)).bytes
  covers_on older mid new end fits saved retires told_end =
      let only = ran_end (world new) (world end) (OnlyChanged (IsGivenUp older d) (now (world new))) (retires.did told_end) in
      let points : file (world end) (checkpoint_file d.step) ≡ file (world new) (checkpoint_file d.step) = only (checkpoint_file d.step) (λ is. let from = is.from in absurd (omega (arith, from))) in
      let gate : file (world end) (checkpoint_gate d.step) ≡ file (world new) (checkpoint_gate d.step) = only (checkpoint_gate d.step) (λ is. let from = is.from in absurd (omega (arith, from))) in
      let whole : gated_size d.step (now (world new)).folder ≤ length (file (world new) (checkpoint_file d.step)).bytes =
      save_covers d (now (world mid)).folder (now (world new)).folder fits (saved (retires.before told_end)) in
      let long : length (file (world end) (checkpoint_file d.step)).bytes ≡ length (file (world new) (checkpoint_file d.step)).bytes = ap (λ (x : File). length x.bytes) points in
      let count : length (file (world end) (checkpoint_gate d.step)).bytes ≡ length (file (world new) (checkpoint_gate d.step)).bytes = ap (λ (x : File). length x.bytes) gate in
      omega (arith, whole, long, count)

  pub carried_at : (old mid : S) (step : ℕ) → d.step ≡ step → IsOfStep makes operands step next
      → Told tells old mid (Ran (OnlySaved makes step next (now (world old))) (world old) (world mid)) → next ≤ later → IsCarried old mid
  carried_at old mid step at files content more = record {
    files = subst (λ s. IsOfStep makes operands s next) (sym at) files;
    content = subst (λ s. Told tells old mid (Ran (OnlySaved makes s next (now (world old))) (world old) (world mid))) (sym at) content;
    more = more;
  }

module _ {S Task Job : Type 0} (tells : S → Bool) (world : S → World)
    (files_are : (s : S) → IsTrue (tells s) → AreFiles (now (world s)).folder) (saving : Saving Task Job)
    (stays : (c : Checkpoint) (text : List ℕ) (old new : FileNo → List ℕ) (job : Job) (turns : ℕ) → saving.fits c text
    → ((f : FileNo) (n : ℕ) → saving.rests c f n → take n (new f) ≡ take n (old f))
    → saving.stands c text old job turns → saving.stands c text new job turns)
    (apart : (c : Checkpoint) (text : List ℕ) (f : FileNo) (n : ℕ) → saving.fits c text → saving.rests c f n → IsRestingPlace c f)
    (makes operands : FileNo → Type 0) (next later sweep : ℕ) (task : Task) (d : Checkpoint) (job : Job) (turns left : ℕ) where
  -- the checkpoint is ready: its head was written, and the sweep filled it
  pub ready_by : (old mid : S) → IsCarried tells world makes operands next later d old mid → IsTrue (tells mid) → (turns_made left_before : ℕ) → d.sweep ≡ sweep → d.turns ≡ turns_made
      → d.budget < 2 ^ 32 → sweep ≤ 1 → turns_made < 2 ^ 62 → IsFilled later d → d.next_part ≤ 2 ^ 32 → IsPaid d → Fits d → saving.names d task → saving.fits d (saving.text task)
      → saving.stands d (saving.text task) (reads_of (world mid)) job left → left ≤ left_before → turns ≡ turns_made + left_before
      → AreSure operands d.step (now (world old)).folder
      → ((f : FileNo) (n : ℕ) → saving.rests d f n → IsSure makes operands (world mid) f n)
      → Ready saving makes operands d.step later sweep task job turns d left (now (world mid)).folder
  ready_by old mid carried told_mid turns_made left_before sweep_is turns_are records one few filled most paid words names fits stands fewer all sure rests =
      let least : 3 ≤ next = carried.files.parts in
      let more : next ≤ later = carried.more in
      let next_is : d.next_part ≡ later = filled.next_is in
      record {
        step_is = refl;
        sweep_is = sweep_is;
        paid = paid;
        rules = record {
          step_is = refl;
          budget = records;
          sweep = omega (arith, sweep_is, one);
          parts = (omega (arith, least, more, next_is), most);
          tables = filled.tables.tables;
          runs = filled.tables.runs;
          turns = omega (arith, turns_are, few);
        };
        words = words;
        names = names;
        fits = fits;
        stands = stands;
        few = omega (arith, turns_are, fewer, all);
        sure = λ f n is. elim (rests f n is) [
          | inl operand ↦ inl (
            operand,
            operand_firm makes operands d.step next (now (world old)) (now (world mid)) f carried.files
                (saved_by tells world makes operands next later d old mid carried told_mid) operand (sure.operands_are f operand),
          )
          | inr front ↦ inr front
        ];
        operands_are = λ f operand. operand_firm makes operands d.step next (now (world old)) (now (world mid)) f
            carried.files (saved_by tells world makes operands next later d old mid carried told_mid) operand (sure.operands_are f operand);
        operands_rest = λ f operand. read_rests d f (omega (arith, least, more, next_is))
            (subst (λ m. IsReadPart d.step m f) (sym next_is)
            ((of_step_later makes operands d.step next later more carried.files).others f operand));
        taken = omega (arith, next_is);
      }

  abbrev pub Left : Folder → Moment → Type 0
  Left = AreLeft saving makes d.step next sweep task job turns

  pub images_carry : (old mid : S) → IsCarried tells world makes operands next later d old mid → IsTrue (tells mid) → Throughout (world old) (world mid) (Left (now (world old)).folder)
  images_carry old mid carried told_mid = ready_left saving stays apart makes operands d.step next sweep task job turns (world old) (world mid)
      (files_are old (carried.content.before told_mid)) carried.files (carried.content.did told_mid)

  pub images_save : (old mid new : S) → IsCarried tells world makes operands next later d old mid → AreSure operands d.step (now (world old)).folder
      → Ready saving makes operands d.step later sweep task job turns d left (now (world mid)).folder
      → Told tells mid new (Ran (DuringSave d (now (world mid))) (world mid) (world new)) → IsTrue (tells new)
      → Throughout (world old) (world new) (Left (now (world old)).folder)
  images_save old mid new carried sure ready saves told_new =
      let told_mid : IsTrue (tells mid) = saves.before told_new in
      joins (world old) (world mid) (world new) (Left (now (world old)).folder) (images_carry old mid carried told_mid)
      (save_left saving stays apart makes operands d.step next sweep task job turns (world old) (world mid) (world new) d later left
      (files_are old (carried.content.before told_mid)) (files_are mid told_mid) carried.files carried.more (saved_by tells world makes operands next later d old mid carried told_mid) sure ready (saves.did told_new))

  stands_by : (mid new : S) → Ready saving makes operands d.step later sweep task job turns d left (now (world mid)).folder
      → Told tells mid new (Ran (DuringSave d (now (world mid))) (world mid) (world new))
      → IsTrue (tells new) → IsSaved d (now (world mid)).folder (now (world new)).folder
      → Stands saving makes operands d.step later sweep task job turns (now (world new)).folder
  stands_by mid new ready saves told_new saved =
      ready_saved saving stays apart makes operands d.step later sweep task job turns d left (now (world mid)) (now (world new)) ready
      (ran_end (world mid) (world new) (DuringSave d (now (world mid))) (saves.did told_new)) saved

  pub images_retire : (older : Option Checkpoint) (old mid new end : S) → IsCarried tells world makes operands next later d old mid → AreSure operands d.step (now (world old)).folder
      → Ready saving makes operands d.step later sweep task job turns d left (now (world mid)).folder
      → Told tells mid new (Ran (DuringSave d (now (world mid))) (world mid) (world new))
      → (IsTrue (tells new) → IsSaved d (now (world mid)).folder (now (world new)).folder)
      → Told tells new end (Ran (OnlyChanged (IsGivenUp older d) (now (world new))) (world new) (world end)) → IsTrue (tells end)
      → Throughout (world old) (world end) (Left (now (world old)).folder)
  unfolding stands_by ready_saved
  images_retire older old mid new end carried sure ready saves saved retires told_end =
      let told_new : IsTrue (tells new) = retires.before told_end in
      joins (world old) (world new) (world end) (Left (now (world old)).folder) (images_save old mid new carried sure ready saves told_new)
      (retire_left saving stays apart makes operands d.step next sweep task job turns (world old) (world new) (world end) d later older
      (stands_by mid new ready saves told_new (saved told_new)) refl (retires.did told_end))

  pub stands_retire : (older : Option Checkpoint) (mid new end : S)
      → Ready saving makes operands d.step later sweep task job turns d left (now (world mid)).folder
      → Told tells mid new (Ran (DuringSave d (now (world mid))) (world mid) (world new))
      → (IsTrue (tells new) → IsSaved d (now (world mid)).folder (now (world new)).folder)
      → Told tells new end (Ran (OnlyChanged (IsGivenUp older d) (now (world new))) (world new) (world end)) → IsTrue (tells end)
      → Stands saving makes operands d.step later sweep task job turns (now (world end)).folder
  unfolding stands_by ready_saved
  stands_retire older mid new end ready saves saved retires told_end =
      let told_new : IsTrue (tells new) = retires.before told_end in
      stands_retired saving stays apart makes operands d.step later sweep task job turns older (now (world new)).folder (now (world end)).folder
      (stands_by mid new ready saves told_new (saved told_new))
      (ran_end (world new) (world end) (OnlyChanged (IsGivenUp older d) (now (world new))) (retires.did told_end))
