-- A checkpoint that a step can go on from: what leaves it so.
use Rattle.std.proofs.Common.{◌≡◌, ◌≢◌, ◌⊎◌, ℕ, ◌+◌, ◌*◌, ◌≤◌, List, ◌∷◌, [], ◌++◌, length, take, refl, sym, ap, subst, ◌∙◌, inl, inr, arith}
use Rattle.std.specs.Prelude.{Option, Some}
use Rattle.std.proofs.lemmas.List.{length-take-le, length-append, take-take}
use Rattle.shelf_model.specs.declared.file_no.FileNo.{FileNo}
use Rattle.shelf_model.specs.File.{File, firm_file, IsFile, IsLeft, IsKept}
use Rattle.shelf_model.specs.Folder.{Folder, Image, file_in, bytes_in, IsImage, AreFiles, OnlyChanges}
use Rattle.shelf_model.specs.World.{Moment}
use Rattle.shelf_model.proofs.Files.{only_image}
use Rattle.file_numbers.specs.Files.{checkpoint_file, checkpoint_gate}
use Rattle.run_tiers.specs.Syncs.{IsFirm}
use Rattle.sweep_core.specs.declared.checkpoint.Checkpoint.{Checkpoint}
use Rattle.sweep_core.specs.Accounts.{CanBeTaken}
use Rattle.sweep_core.specs.Saving.{Saving, IsOfStep, IsRestingPlace}
use Rattle.sweep_core.specs.Carries.{OnlySaved}
use Rattle.sweep_checkpoint.specs.Points.{point_bytes, Fits}
use Rattle.sweep_checkpoint.specs.Rules.{KeepsRules}
use Rattle.sweep_checkpoint.specs.Gated.{present, last_of, last_gated}
use Rattle.sweep_checkpoint.specs.Saves.{gated_size, IsGateSure, IsLast, DuringSave, IsSaved}
use Rattle.sweep_checkpoint.specs.Retires.{IsGivenUp}
use Rattle.sweep_checkpoint.specs.Going.{IsPaid, IsAsBefore, GoesOn, Stands}
use Rattle.file_writes.proofs.Sure.{sure_bytes}
use Rattle.sweep_checkpoint.proofs.Saved.{last_of-take}
use Rattle.sweep_checkpoint.proofs.Parts.{length_point}
use Rattle.sweep_checkpoint.proofs.AsBefore.{read_not_taken, points_stay, gate_stays, same_last}

-- what is sure of a file is there in each image
sure_front : (folder : Folder) (image : Image) (f : FileNo) (n : ℕ) → IsImage folder image → n ≤ (file_in folder f).firm
    → take n (bytes_in image f) ≡ take n (file_in folder f).bytes
sure_front folder image f n is_image few =
    sym (take-take n (file_in folder f).firm (bytes_in image f) few) ∙ ap (take n) (is_image f).same
    ∙ take-take n (file_in folder f).firm (file_in folder f).bytes few

-- what stays of a file that a checkpoint rests on: its front gives what it gave, and is as sure as it was
pub record Rests (operands : FileNo → Type 0) (old m : Folder) (f : FileNo) (n : ℕ) : Type 0 where
  pub same : take n (file_in m f).bytes ≡ take n (file_in old f).bytes
  pub operand : operands f → IsFirm (file_in old f) → IsFirm (file_in m f)
  pub sure : n ≤ (file_in old f).firm → n ≤ (file_in m f).firm

-- a file that is as it was
pub rests_same : (operands : FileNo → Type 0) (old m : Folder) (f : FileNo) (n : ℕ) → file_in m f ≡ file_in old f → Rests operands old m f n
rests_same operands old m f n same = record {
  same = ap (λ (x : File). take n x.bytes) same;
  operand = λ _ firm. subst IsFirm (sym same) firm;
  sure = λ few. subst (λ (x : File). n ≤ x.firm) (sym same) few;
}

-- a file that was made sure
rests_firm : (operands : FileNo → Type 0) (old m : Folder) (f : FileNo) (n : ℕ) → IsFile (file_in old f)
    → file_in m f ≡ firm_file (file_in old f).bytes → Rests operands old m f n
rests_firm operands old m f n is_file firm =
    let within : (file_in old f).firm ≤ length (file_in old f).bytes = is_file.firm_within in
    record {
      same = ap (λ (x : File). take n x.bytes) firm;
      operand = λ _ _. subst IsFirm (sym firm) refl;
      sure = λ few. subst (λ (x : File). n ≤ x.firm) (sym firm) (omega (arith, few, within));
    }

-- a file that is made, of which what was kept is kept
rests_made : (operands : FileNo → Type 0) (old m : Folder) (f : FileNo) (n : ℕ) → IsFile (file_in old f) → ¬ (operands f)
    → ((front : List ℕ) → IsKept front (file_in old f) → IsKept front (file_in m f)) → n ≤ (file_in old f).firm → Rests operands old m f n
rests_made operands old m f n is_file other kept few =
    let within : (file_in old f).firm ≤ length (file_in old f).bytes = is_file.firm_within in
    let long : length (take n (file_in old f).bytes) ≡ n = length-take-le n (file_in old f).bytes (omega (arith, few, within)) in
    let front : IsKept (take n (file_in old f).bytes) (file_in old f) = record { sure = omega (arith, long, few); same = ap (λ k. take k (file_in old f).bytes) long } in
    let still : IsKept (take n (file_in old f).bytes) (file_in m f) = kept (take n (file_in old f).bytes) front in
    let far : length (take n (file_in old f).bytes) ≤ (file_in m f).firm = still.sure in
    record {
      same = ap (λ k. take k (file_in m f).bytes) (sym long) ∙ still.same;
      operand = λ is _. absurd (other is);
      sure = λ _. omega (arith, far, long);
    }

-- a checkpoint that a sweep filled, before it is saved: where it is the last one that is gated the step goes on
pub record Ready {Task Job : Type 0} (saving : Saving Task Job) (makes operands : FileNo → Type 0) (step next sweep : ℕ)
    (task : Task) (job : Job) (turns : ℕ) (c : Checkpoint) (left : ℕ) (folder : Folder) : Type 0 where
  pub step_is : c.step ≡ step
  pub rules : KeepsRules step c
  pub paid : IsPaid c
  pub sweep_is : c.sweep ≡ sweep
  pub words : Fits c
  pub names : saving.names c task
  pub fits : saving.fits c (saving.text task)
  pub stands : saving.stands c (saving.text task) (present folder) job left
  pub few : c.turns + left ≤ turns
  pub sure : (f : FileNo) (n : ℕ) → saving.rests c f n
      → (operands f × IsFirm (file_in folder f)) ⊎ ((makes f ⊎ (¬ (makes f))) × (n ≤ (file_in folder f).firm))
  pub operands_are : (f : FileNo) → operands f → IsFirm (file_in folder f)
  pub operands_rest : (f : FileNo) → operands f → IsRestingPlace c f
  pub taken : c.next_part ≤ next

-- operands stay sure
pub operand_firm : (makes operands : FileNo → Type 0) (step next : ℕ) (old m : Moment) (f : FileNo) → IsOfStep makes operands step next
    → OnlySaved makes step next old m → operands f → IsFirm (file_in old.folder f) → IsFirm (file_in m.folder f)
operand_firm makes operands step next old m f files saved operand firm =
    elim (saved.others f (files.apart f operand) (read_not_taken step next f files.parts (files.others f operand))) [
      | inl same ↦ subst IsFirm (sym same) firm
      | inr made ↦ made.1 ∙ ap (λ (x : File). firm_file x.bytes) (sym made.1)
    ]

module _ {Task Job : Type 0} (saving : Saving Task Job)
    (stays : (c : Checkpoint) (text : List ℕ) (old new : FileNo → List ℕ) (job : Job) (turns : ℕ) → saving.fits c text
    → ((f : FileNo) (n : ℕ) → saving.rests c f n → take n (new f) ≡ take n (old f))
    → saving.stands c text old job turns → saving.stands c text new job turns)
    (apart : (c : Checkpoint) (text : List ℕ) (f : FileNo) (n : ℕ) → saving.fits c text → saving.rests c f n → IsRestingPlace c f) where
  -- readings with the same last checkpoint, and the same fronts that it rests on
  pub goes_on_same : (step sweep : ℕ) (task : Task) (job : Job) (turns : ℕ) (r q : FileNo → List ℕ) → (g : GoesOn saving step sweep task job turns r)
      → last_gated step q ≡ last_gated step r → ((f : FileNo) (n : ℕ) → saving.rests g.point f n → take n (q f) ≡ take n (r f))
      → GoesOn saving step sweep task job turns q
  goes_on_same step sweep task job turns r q g last same = record {
    point = g.point;
    last = last ∙ g.last;
    rules = g.rules;
    paid = g.paid;
    sweep_is = g.sweep_is;
    words = g.words;
    names = g.names;
    fits = g.fits;
    left = g.left;
    stands = stays g.point (saving.text task) r q job g.left g.fits same g.stands;
    few = g.few;
  }

  module _ (makes operands : FileNo → Type 0) (step next sweep : ℕ) (task : Task) (job : Job) (turns : ℕ) where
    -- in each image of the folder the step can go on
    pub stands_image : (folder : Folder) (image : Image) → Stands saving makes operands step next sweep task job turns folder
        → IsImage folder image → GoesOn saving step sweep task job turns (bytes_in image)
    stands_image folder image s is_image =
        let gate : bytes_in image (checkpoint_gate step) ≡ (file_in folder (checkpoint_gate step)).bytes =
        sure_bytes (checkpoint_gate step) (file_in folder (checkpoint_gate step)).bytes folder image s.gate is_image in
        let points : take (gated_size step folder) (bytes_in image (checkpoint_file step)) ≡ take (gated_size step folder) (file_in folder (checkpoint_file step)).bytes =
        sure_front folder image (checkpoint_file step) (gated_size step folder) is_image s.points in
        goes_on_same step sweep task job turns (present folder) (bytes_in image) s.goes_on
        ((λ i. last_of (length (gate i)) (bytes_in image (checkpoint_file step)))
        ∙ last_of-take (length (file_in folder (checkpoint_gate step)).bytes) (bytes_in image (checkpoint_file step)) (file_in folder (checkpoint_file step)).bytes points)
        (λ f n is. elim (s.sure f n is) [
          | inl operand ↦ ap (take n) (only_image (file_in folder f).bytes (bytes_in image f) (subst (λ x. IsLeft x (bytes_in image f)) operand.1 (is_image f)))
          | inr made ↦ sure_front folder image f n is_image made.1
        ])

    -- where the checkpoints, their gate, and all that it rests on stay, it stays so
    pub stands_rests : (old m : Folder) → (s : Stands saving makes operands step next sweep task job turns old)
        → file_in m (checkpoint_gate step) ≡ file_in old (checkpoint_gate step) → file_in m (checkpoint_file step) ≡ file_in old (checkpoint_file step)
        → ((f : FileNo) (n : ℕ) → saving.rests s.goes_on.point f n → Rests operands old m f n)
        → ((f : FileNo) → operands f → IsFirm (file_in old f) → IsFirm (file_in m f))
        → Stands saving makes operands step next sweep task job turns m
    unfolding goes_on_same
    stands_rests old m s gate points rests firm = record {
      goes_on = goes_on_same step sweep task job turns (present old) (present m) s.goes_on
          (same_last step (present m) (present old) (ap (λ (x : File). x.bytes) points) (ap (λ (x : File). x.bytes) gate))
          (λ f n is. (rests f n is).same);
      gate = subst IsFirm (sym gate) s.gate;
      points = subst (λ (x : File). 16384 * length x.bytes ≤ (file_in m (checkpoint_file step)).firm) (sym gate)
          (subst (λ (x : File). gated_size step old ≤ x.firm) (sym points) s.points);
      sure = λ f n is. elim (s.sure f n is) [
        | inl operand ↦ inl (operand.0, (rests f n is).operand operand.0 operand.1)
        | inr made ↦ inr (made.0, (rests f n is).sure made.1)
      ];
      operands_are = λ f is. (firm f is (s.operands_are f is).0, (s.operands_are f is).1);
      taken = s.taken;
    }

    -- while a sweep of the step goes on or is made ready to be saved, it stays so
    pub stands_saved : (old m : Moment) → AreFiles old.folder → IsOfStep makes operands step next
        → Stands saving makes operands step next sweep task job turns old.folder → OnlySaved makes step next old m
        → Stands saving makes operands step next sweep task job turns m.folder
    stands_saved old m are_files files s saved =
        let c : Checkpoint = s.goes_on.point in
        let free_before : (f : FileNo) → CanBeTaken step next f → CanBeTaken c.step c.next_part f =
        λ f free. let from = free.from in let taken = s.taken in record { step_is = free.step_is ∙ sym s.goes_on.rules.step_is; from = omega (arith, from, taken) } in
        let other : (f : FileNo) (n : ℕ) → saving.rests c f n → ¬ (makes f) → Rests operands old.folder m.folder f n =
        λ f n is not_made. elim (saved.others f not_made (λ free. (apart c (saving.text task) f n s.goes_on.fits is).taken (free_before f free))) [
          | inl same ↦ rests_same operands old.folder m.folder f n same
          | inr firm ↦ rests_firm operands old.folder m.folder f n (are_files f) firm.1
        ] in
        stands_rests old.folder m.folder s (gate_stays makes operands step next old m files saved) (points_stay makes operands step next old m files saved)
        (λ f n is. elim (s.sure f n is) [
          | inl operand ↦ other f n is (files.apart f operand.0)
          | inr sure ↦ elim sure.0 [
            | inl mine ↦ rests_made operands old.folder m.folder f n (are_files f) (λ operand. files.apart f operand mine) (saved.kept f mine) sure.1
            | inr not_made ↦ other f n is not_made
          ]
        ]) (λ f operand. operand_firm makes operands step next old m f files saved operand)

    -- while the runs are cut that a newer checkpoint gives up, that one stays so
    pub stands_retired : (older : Option Checkpoint) (old m : Folder) → (s : Stands saving makes operands step next sweep task job turns old)
        → OnlyChanges (IsGivenUp older s.goes_on.point) old m → Stands saving makes operands step next sweep task job turns m
    stands_retired older old m s only =
        stands_rests old m s
        (only (checkpoint_gate step) (λ is. let from = is.from in absurd (omega (arith, from))))
        (only (checkpoint_file step) (λ is. let from = is.from in absurd (omega (arith, from))))
        (λ f n is. rests_same operands old m f n (only f (λ gone. gone.unnamed ((apart s.goes_on.point (saving.text task) f n s.goes_on.fits is).named gone.step_is gone.from))))
        (λ f is. subst IsFirm (sym (only f (λ gone. gone.unnamed ((s.operands_are f is).1.named gone.step_is gone.from)))))

    -- a later part number
    pub stands_later : (later : ℕ) (folder : Folder) → next ≤ later → Stands saving makes operands step next sweep task job turns folder
        → Stands saving makes operands step later sweep task job turns folder
    stands_later later folder more s = record {
      goes_on = s.goes_on;
      gate = s.gate;
      points = s.points;
      sure = s.sure;
      operands_are = s.operands_are;
      taken = let taken = s.taken in omega (arith, taken, more);
    }

    -- what agrees with an image of such a folder goes on
    pub as_before_stands : (old : Folder) (r : FileNo → List ℕ) → IsOfStep makes operands step next
        → (s : Stands saving makes operands step next sweep task job turns old) → IsAsBefore makes step next old r
        → GoesOn saving step sweep task job turns r
    unfolding stands_image goes_on_same
    as_before_stands old r files s agrees =
        let c : Checkpoint = s.goes_on.point in
        let other : (f : FileNo) (n : ℕ) → saving.rests c f n → ¬ (makes f) → take n (r f) ≡ take n (bytes_in agrees.before f) =
        λ f n is not_made.
        let place = apart c (saving.text task) f n s.goes_on.fits is in
        ap (take n) (agrees.others f not_made
        (λ free. let from = free.from in let taken = s.taken in place.taken (record { step_is = free.step_is ∙ sym s.goes_on.rules.step_is; from = omega (arith, from, taken) }))
        (λ e. place.no_points (e ∙ ap checkpoint_file (sym s.goes_on.rules.step_is))) (λ e. place.no_gate (e ∙ ap checkpoint_gate (sym s.goes_on.rules.step_is)))) in
        goes_on_same step sweep task job turns (bytes_in agrees.before) r (stands_image old agrees.before s agrees.is_image) agrees.last
        (λ f n is. elim (s.sure f n is) [
          | inl operand ↦ other f n is (files.apart f operand.0)
          | inr sure ↦ elim sure.0 [
            | inl mine ↦ agrees.fronts f mine n sure.1
            | inr not_made ↦ other f n is not_made
          ]
        ])

    -- it rests on no file that a save changes
    pub ready_same : (c : Checkpoint) (left : ℕ) (folder : Folder) (f : FileNo) (n : ℕ) → Ready saving makes operands step next sweep task job turns c left folder → saving.rests c f n
        → (f ≢ checkpoint_file c.step) × (f ≢ checkpoint_gate c.step)
    ready_same c left folder f n o is = let place = apart c (saving.text task) f n o.fits is in (place.no_points, place.no_gate)

    -- an image in which it is the last one that is gated
    pub ready_goes_on : (c : Checkpoint) (left : ℕ) (old m : Moment) (image : Image) → AreFiles old.folder → Ready saving makes operands step next sweep task job turns c left old.folder
        → DuringSave c old m → IsImage m.folder image → IsLast c (bytes_in image) → GoesOn saving step sweep task job turns (bytes_in image)
    ready_goes_on c left old m image are_files o saves is_image last = record {
      point = c;
      last = subst (λ k. last_gated k (bytes_in image) ≡ Some (point_bytes c)) o.step_is last;
      rules = o.rules;
      paid = o.paid;
      sweep_is = o.sweep_is;
      words = o.words;
      names = o.names;
      fits = o.fits;
      left = left;
      stands = stays c (saving.text task) (present old.folder) (bytes_in image) job left o.fits
          (λ f n is.
          let no = ready_same c left old.folder f n o is in
          let still : file_in m.folder f ≡ file_in old.folder f = saves.others f no.0 no.1 in
          let is_left : IsLeft (file_in old.folder f) (bytes_in image f) = subst (λ x. IsLeft x (bytes_in image f)) still (is_image f) in
          elim (o.sure f n is) [
            | inl operand ↦ ap (take n) (only_image (file_in old.folder f).bytes (bytes_in image f) (subst (λ x. IsLeft x (bytes_in image f)) operand.1 is_left))
            | inr sure ↦ sym (take-take n (file_in old.folder f).firm (bytes_in image f) sure.1) ∙ ap (take n) is_left.same
                ∙ take-take n (file_in old.folder f).firm (file_in old.folder f).bytes sure.1
          ]) o.stands;
      few = o.few;
    }

    -- behind the save the step can go on from it, in each image
    unfoldable pub ready_saved : (c : Checkpoint) (left : ℕ) (old m : Moment) → Ready saving makes operands step next sweep task job turns c left old.folder → DuringSave c old m → IsSaved c old.folder m.folder
        → Stands saving makes operands step next sweep task job turns m.folder
    ready_saved c left old m o saves saved =
        let whole : length (point_bytes c) ≡ 16384 = length_point c o.words in
        let gate_bytes : List ℕ = (file_in old.folder (checkpoint_gate c.step)).bytes in
        let before : List ℕ = (file_in old.folder (checkpoint_file c.step)).bytes in
        let count : length (file_in m.folder (checkpoint_gate c.step)).bytes ≡ length (gate_bytes ++ 0 ∷ []) = ap (λ (x : File). length x.bytes) saved.gate_is in
        let more : length (gate_bytes ++ 0 ∷ []) ≡ length gate_bytes + 1 = length-append gate_bytes (0 ∷ []) in
        let firm : (file_in m.folder (checkpoint_file c.step)).firm ≡ length (take (16384 * length gate_bytes) before ++ point_bytes c) = ap (λ (x : File). x.firm) saved.points_are in
        let both : length (take (16384 * length gate_bytes) before ++ point_bytes c) ≡ length (take (16384 * length gate_bytes) before) + length (point_bytes c) = length-append (take (16384 * length gate_bytes) before) (point_bytes c) in
        let front : length (take (16384 * length gate_bytes) before) ≡ 16384 * length gate_bytes = length-take-le (16384 * length gate_bytes) before saved.covers in
        let same : (f : FileNo) (n : ℕ) → saving.rests c f n → file_in m.folder f ≡ file_in old.folder f =
        λ f n is. let no = ready_same c left old.folder f n o is in saves.others f no.0 no.1 in
        record {
          goes_on = record {
            point = c;
            last = subst (λ k. last_gated k (present m.folder) ≡ Some (point_bytes c)) o.step_is saved.reads;
            rules = o.rules;
            paid = o.paid;
            sweep_is = o.sweep_is;
            words = o.words;
            names = o.names;
            fits = o.fits;
            left = left;
            stands = stays c (saving.text task) (present old.folder) (present m.folder) job left o.fits (λ f n is. ap (λ (x : File). take n x.bytes) (same f n is)) o.stands;
            few = o.few;
          };
          gate = subst (λ s. IsGateSure s m.folder) o.step_is (saved.gate_is ∙ ap (λ (x : File). firm_file x.bytes) (sym saved.gate_is));
          points = subst (λ s. gated_size s m.folder ≤ (file_in m.folder (checkpoint_file s)).firm) o.step_is (omega (arith, whole, count, more, firm, both, front));
          sure = λ f n is. elim (o.sure f n is) [
            | inl operand ↦ inl (operand.0, subst IsFirm (sym (same f n is)) operand.1)
            | inr sure ↦ inr (sure.0, subst (λ (x : File). n ≤ x.firm) (sym (same f n is)) sure.1)
          ];
          operands_are = λ f is.
              let rests = o.operands_rest f is in
              (subst IsFirm (sym (saves.others f rests.no_points rests.no_gate)) (o.operands_are f is), rests);
          taken = o.taken;
        }
