-- What a stop may leave while a sweep goes on, beside what it might have left before.
use Rattle.std.proofs.Common.{◌≡◌, ◌≢◌, ℕ, ◌+◌, ◌<◌, ◌≤◌, min, List, ◌++◌, length, take, drop, sym, ap, subst, ◌∙◌, inl, inr, arith}
use Rattle.std.proofs.lemmas.List.{length-take, length-take-le, length-append, take_all, take_at, take-take, take-append-drop}
use Rattle.std.specs.FinMap.{insert}
use Rattle.shelf_model.specs.declared.file_no.FileNo.{FileNo}
use Rattle.shelf_model.specs.File.{File, IsFile, IsLeft, IsKept}
use Rattle.shelf_model.specs.Folder.{Folder, Image, file_in, bytes_in, IsImage, AreFiles}
use Rattle.shelf_model.specs.World.{Moment}
use Rattle.shelf_model.proofs.Files.{kept_left}
use Rattle.shelf_model.proofs.Images.{chosen, bytes_in-chosen, chosen_image, sure_left}
use Rattle.shelf_model.proofs.Maps.{bytes_in-insert, bytes_in-insert_other}
use Rattle.shelf_model.proofs.Numbers.{cases_file}
use Rattle.file_numbers.specs.Files.{inner_part, checkpoint_file, checkpoint_gate}
use Rattle.run_tiers.specs.Syncs.{IsSameOrFirm}
use Rattle.sweep_core.specs.declared.checkpoint.Checkpoint.{Checkpoint}
use Rattle.sweep_core.specs.Accounts.{CanBeTaken}
use Rattle.sweep_core.specs.Saving.{IsMadePart, IsReadPart, IsOfStep}
use Rattle.sweep_core.specs.Carries.{IsBehindPoints, OnlySaved}
use Rattle.sweep_checkpoint.specs.Gated.{last_of, last_gated}
use Rattle.sweep_checkpoint.specs.Saves.{IsLastBefore, DuringSave}
use Rattle.sweep_checkpoint.specs.Going.{IsAsBefore}
use Rattle.sweep_checkpoint.proofs.Saved.{points_not_gate}

-- a front that is sure, and behind it what a stop left, as far as a stop could have left it before
abbrev spliced : File → List ℕ → List ℕ
spliced x left = take x.reach (take x.firm x.bytes ++ drop x.firm left)

-- a stop may leave it
spliced_left : (x : File) (left : List ℕ) → IsFile x → IsLeft x (spliced x left)
spliced_left x left is_file =
    let within : x.firm ≤ length x.bytes = is_file.firm_within in
    let beyond : length x.bytes ≤ x.reach = is_file.reach_beyond in
    let front : length (take x.firm x.bytes) ≡ x.firm = length-take-le x.firm x.bytes within in
    let all : length (take x.firm x.bytes ++ drop x.firm left) ≡ length (take x.firm x.bytes) + length (drop x.firm left) = length-append (take x.firm x.bytes) (drop x.firm left) in
    let cut : length (spliced x left) ≡ min x.reach (length (take x.firm x.bytes ++ drop x.firm left)) = length-take x.reach (take x.firm x.bytes ++ drop x.firm left) in
    record {
      no_shorter = omega (arith, within, beyond, front, all, cut);
      no_longer = omega (arith, cut);
      same = take-take x.firm x.reach (take x.firm x.bytes ++ drop x.firm left) (omega (arith, within, beyond))
          ∙ take_at (take x.firm x.bytes) (drop x.firm left) x.firm front;
    }

-- what a stop might have left before stays as it is
spliced_same : (x : File) (left : List ℕ) → IsLeft x left → spliced x left ≡ left
spliced_same x left is_left =
    ap (λ front. take x.reach (front ++ drop x.firm left)) (sym is_left.same)
    ∙ ap (take x.reach) (take-append-drop x.firm left)
    ∙ take_all x.reach left is_left.no_longer

-- what was kept stays kept, and so it agrees with what a stop left as far as it was sure
spliced_front : (x now : File) (left : List ℕ) (n : ℕ) → IsFile x → ((front : List ℕ) → IsKept front x → IsKept front now)
    → IsLeft now left → n ≤ x.firm → take n left ≡ take n (spliced x left)
spliced_front x now left n is_file kept is_left few =
    let within : x.firm ≤ length x.bytes = is_file.firm_within in
    let long : length (take n x.bytes) ≡ n = length-take-le n x.bytes (omega (arith, few, within)) in
    let front : IsKept (take n x.bytes) x = record { sure = omega (arith, long, few); same = ap (λ k. take k x.bytes) long } in
    let still : take n left ≡ take n x.bytes = ap (λ k. take k left) (sym long) ∙ kept_left (take n x.bytes) now left (kept (take n x.bytes) front) is_left in
    let before : take n (spliced x left) ≡ take n x.bytes =
    sym (take-take n x.firm (spliced x left) few) ∙ ap (take n) (spliced_left x left is_file).same ∙ take-take n x.firm x.bytes few in
    still ∙ sym before

-- what a stop leaves of a file that is as it was, or was made sure, it might have left before
pub left_before : (these : FileNo → Type 0) (f : FileNo) (old m : Moment) (left : List ℕ) → AreFiles old.folder
    → IsSameOrFirm these f old m → IsLeft (file_in m.folder f) left → IsLeft (file_in old.folder f) left
left_before these f old m left are_files (inl same) is_left = subst (λ x. IsLeft x left) same is_left
left_before these f old m left are_files (inr firm) is_left =
    sure_left (file_in old.folder f) left (are_files f) (subst (λ x. IsLeft x left) firm.1 is_left)

-- an image that agrees with this one as far as a stop could have left it then
abbrev pub image_before : Folder → Image → Image
image_before old image = chosen (λ f x. spliced x (bytes_in image f)) old

pub image_before_is : (old : Folder) (image : Image) → AreFiles old → IsImage old (image_before old image)
image_before_is old image are_files =
    chosen_image (λ f x. spliced x (bytes_in image f)) old (λ q. spliced_left (file_in old q) (bytes_in image q) (are_files q))

image_before_has : (old : Folder) (image : Image) (f : FileNo) → AreFiles old
    → bytes_in (image_before old image) f ≡ spliced (file_in old f) (bytes_in image f)
image_before_has old image f are_files =
    bytes_in-chosen (λ f x. spliced x (bytes_in image f)) old f (spliced_left (file_in old f) (bytes_in image f) (are_files f))

pub image_before_same : (old : Folder) (image : Image) (f : FileNo) → AreFiles old
    → IsLeft (file_in old f) (bytes_in image f)
    → bytes_in image f ≡ bytes_in (image_before old image) f
image_before_same old image f are_files is_left =
    sym (image_before_has old image f are_files ∙ spliced_same (file_in old f) (bytes_in image f) is_left)

-- a file that is made is one from a later part number on, and so is one that is read
made_later : (step next later : ℕ) (f : FileNo) → next ≤ later → IsMadePart step next f → IsMadePart step later f
made_later step next later f more is = record {
  step_is = is.step_is;
  part = elim is.part [
    | inl none ↦ inl none
    | inr arcs ↦ let below = arcs.2 in inr (arcs.0, arcs.1, omega (arith, below, more))
  ];
}

read_later : (step next later : ℕ) (f : FileNo) → next ≤ later → IsReadPart step next f → IsReadPart step later f
read_later step next later f more (inl other) = inl other
read_later step next later f more (inr made) = inr (made_later step next later f more made)

-- from a later part number on
pub of_step_later : (makes operands : FileNo → Type 0) (step next later : ℕ) → next ≤ later → IsOfStep makes operands step next → IsOfStep makes operands step later
of_step_later makes operands step next later more files = record {
  parts = let parts = files.parts in omega (arith, parts, more);
  made = λ f mine. made_later step next later f more (files.made f mine);
  others = λ f operand. read_later step next later f more (files.others f operand);
  apart = files.apart;
}

-- the same files
pub of_step_as : (makes makes_now operands : FileNo → Type 0) (step next : ℕ) → ((f : FileNo) → makes_now f → makes f)
    → IsOfStep makes operands step next → IsOfStep makes_now operands step next
of_step_as makes makes_now operands step next made files = record {
  parts = files.parts;
  made = λ f mine. files.made f (made f mine);
  others = files.others;
  apart = λ f operand mine. files.apart f operand (made f mine);
}

-- no part of a file that is read can be taken
pub read_not_taken : (step next : ℕ) (f : FileNo) → inner_part ≤ next → IsReadPart step next f → ¬ CanBeTaken step next f
read_not_taken step next f parts (inl other) free = other free.step_is
read_not_taken step next f parts (inr made) free = elim made.part [
  | inl nodes ↦ let from = free.from in absurd (omega (arith, from, nodes, parts))
  | inr arcs ↦ let from = free.from in let below = arcs.2 in absurd (omega (arith, from, below))
]

-- neither the checkpoints nor their gate are written by a sweep of the step
pub points_not_made : (makes operands : FileNo → Type 0) (step next : ℕ) → IsOfStep makes operands step next → ¬ (makes (checkpoint_file step))
points_not_made makes operands step next files mine = elim ((files.made (checkpoint_file step) mine).part) [
  | inl none ↦ absurd (omega (arith, none))
  | inr arcs ↦ let from = arcs.0 in absurd (omega (arith, from))
]

pub gate_not_made : (makes operands : FileNo → Type 0) (step next : ℕ) → IsOfStep makes operands step next → ¬ (makes (checkpoint_gate step))
gate_not_made makes operands step next files mine = elim ((files.made (checkpoint_gate step) mine).part) [
  | inl none ↦ absurd (omega (arith, none))
  | inr arcs ↦ let from = arcs.0 in absurd (omega (arith, from))
]

pub points_not_taken : (makes operands : FileNo → Type 0) (step next : ℕ) → IsOfStep makes operands step next → ¬ CanBeTaken step next (checkpoint_file step)
points_not_taken makes operands step next files free = let from = free.from in let parts = files.parts in absurd (omega (arith, from, parts))

pub gate_not_taken : (makes operands : FileNo → Type 0) (step next : ℕ) → IsOfStep makes operands step next → ¬ CanBeTaken step next (checkpoint_gate step)
gate_not_taken makes operands step next files free = let from = free.from in let parts = files.parts in absurd (omega (arith, from, parts))

-- a file in front of the runs that isn't made is as it was
stays_below : (f : FileNo) (makes : FileNo → Type 0) (step next : ℕ) (old m : Moment) → f.part < 3 → 3 ≤ next → ¬ (makes f)
    → OnlySaved makes step next old m → file_in m.folder f ≡ file_in old.folder f
stays_below f makes step next old m low parts other saved =
    elim (saved.others f other (λ (free : CanBeTaken step next f). let from = free.from in absurd (omega (arith, from, low, parts)))) [
      | inl same ↦ same
      | inr firm ↦ let from = firm.0.from in absurd (omega (arith, from, low))
    ]

pub points_stay : (makes operands : FileNo → Type 0) (step next : ℕ) (old m : Moment) → IsOfStep makes operands step next
    → OnlySaved makes step next old m → file_in m.folder (checkpoint_file step) ≡ file_in old.folder (checkpoint_file step)
points_stay makes operands step next old m files saved =
    stays_below (checkpoint_file step) makes step next old m (omega arith) files.parts (points_not_made makes operands step next files) saved

pub gate_stays : (makes operands : FileNo → Type 0) (step next : ℕ) (old m : Moment) → IsOfStep makes operands step next
    → OnlySaved makes step next old m → file_in m.folder (checkpoint_gate step) ≡ file_in old.folder (checkpoint_gate step)
gate_stays makes operands step next old m files saved =
    stays_below (checkpoint_gate step) makes step next old m (omega arith) files.parts (gate_not_made makes operands step next files) saved

-- the last checkpoint that is gated, of readings that have the same checkpoints and the same gate
pub same_last : (step : ℕ) (r q : FileNo → List ℕ) → r (checkpoint_file step) ≡ q (checkpoint_file step)
    → r (checkpoint_gate step) ≡ q (checkpoint_gate step) → last_gated step r ≡ last_gated step q
same_last step r q points gate = λ i. last_of (length (gate i)) (points i)

-- while a sweep goes on, and while it is made ready to be saved, an image agrees with one of before
pub as_before : (makes operands : FileNo → Type 0) (step next : ℕ) (old m : Moment) (image : Image) → AreFiles old.folder
    → IsOfStep makes operands step next → OnlySaved makes step next old m → IsImage m.folder image
    → IsAsBefore makes step next old.folder (bytes_in image)
as_before makes operands step next old m image are_files files saved is_image =
    let same : (f : FileNo) → file_in m.folder f ≡ file_in old.folder f → bytes_in image f ≡ bytes_in (image_before old.folder image) f =
    λ f is. image_before_same old.folder image f are_files (subst (λ x. IsLeft x (bytes_in image f)) is (is_image f)) in
    record {
      before = image_before old.folder image;
      is_image = image_before_is old.folder image are_files;
      last = same_last step (bytes_in image) (bytes_in (image_before old.folder image))
          (same (checkpoint_file step) (points_stay makes operands step next old m files saved))
          (same (checkpoint_gate step) (gate_stays makes operands step next old m files saved));
      others = λ f other apart no_points no_gate. image_before_same old.folder image f are_files
          (left_before (IsBehindPoints step) f old m (bytes_in image f) are_files (saved.others f other apart) (is_image f));
      fronts = λ f mine n few. spliced_front (file_in old.folder f) (file_in m.folder f) (bytes_in image f) n (are_files f) (saved.kept f mine) (is_image f) few
          ∙ ap (take n) (sym (image_before_has old.folder image f are_files));
    }

-- what agrees with an image of a moment agrees with one of before it
pub as_before_then : (makes operands : FileNo → Type 0) (step next later : ℕ) (old mid : Moment) (r : FileNo → List ℕ) → AreFiles old.folder
    → IsOfStep makes operands step next → next ≤ later → OnlySaved makes step next old mid → IsAsBefore makes step later mid.folder r
    → IsAsBefore makes step next old.folder r
as_before_then makes operands step next later old mid r are_files files more saved agrees =
    let first : IsAsBefore makes step next old.folder (bytes_in agrees.before) = as_before makes operands step next old mid agrees.before are_files files saved agrees.is_image in
    record {
      before = first.before;
      is_image = first.is_image;
      last = agrees.last ∙ first.last;
      others = λ f other apart no_points no_gate.
          agrees.others f other (λ (free : CanBeTaken step later f). let from = free.from in apart (record { step_is = free.step_is; from = omega (arith, from, more) })) no_points no_gate
          ∙ first.others f other apart no_points no_gate;
      fronts = λ f mine n few.
          let within : (file_in old.folder f).firm ≤ length (file_in old.folder f).bytes = (are_files f).firm_within in
          let long : length (take n (file_in old.folder f).bytes) ≡ n = length-take-le n (file_in old.folder f).bytes (omega (arith, few, within)) in
          let front : IsKept (take n (file_in old.folder f).bytes) (file_in old.folder f) = record { sure = omega (arith, long, few); same = ap (λ k. take k (file_in old.folder f).bytes) long } in
          let still : length (take n (file_in old.folder f).bytes) ≤ (file_in mid.folder f).firm = (saved.kept f mine (take n (file_in old.folder f).bytes) front).sure in
          agrees.fronts f mine n (omega (arith, still, long)) ∙ first.fronts f mine n few;
    }

-- the image that a stop might have left when the save began, with the checkpoints and the gate of one of then
abbrev with_points : ℕ → Image → Image → Image
with_points step image points = insert (insert image (checkpoint_file step) (bytes_in points (checkpoint_file step))) (checkpoint_gate step) (bytes_in points (checkpoint_gate step))

with_points_gate : (step : ℕ) (image points : Image) → bytes_in (with_points step image points) (checkpoint_gate step) ≡ bytes_in points (checkpoint_gate step)
with_points_gate step image points = bytes_in-insert (insert image (checkpoint_file step) (bytes_in points (checkpoint_file step))) (checkpoint_gate step) (bytes_in points (checkpoint_gate step))

with_points_points : (step : ℕ) (image points : Image) → bytes_in (with_points step image points) (checkpoint_file step) ≡ bytes_in points (checkpoint_file step)
with_points_points step image points =
    bytes_in-insert_other (insert image (checkpoint_file step) (bytes_in points (checkpoint_file step))) (checkpoint_gate step) (checkpoint_file step) (bytes_in points (checkpoint_gate step)) (points_not_gate step)
    ∙ bytes_in-insert image (checkpoint_file step) (bytes_in points (checkpoint_file step))

with_points_other : (step : ℕ) (image points : Image) (f : FileNo) → f ≢ checkpoint_file step → f ≢ checkpoint_gate step
    → bytes_in (with_points step image points) f ≡ bytes_in image f
with_points_other step image points f no_points no_gate =
    bytes_in-insert_other (insert image (checkpoint_file step) (bytes_in points (checkpoint_file step))) (checkpoint_gate step) f (bytes_in points (checkpoint_gate step)) no_gate
    ∙ bytes_in-insert_other image (checkpoint_file step) f (bytes_in points (checkpoint_file step)) no_points

with_points_image : (step : ℕ) (folder : Folder) (image points : Image) → IsImage folder image → IsImage folder points → IsImage folder (with_points step image points)
with_points_image step folder image points is_image are_points = λ q. elim (cases_file q (checkpoint_gate step)) [
  | inl gate ↦ subst (λ f. IsLeft (file_in folder f) (bytes_in (with_points step image points) f)) (sym gate)
      (subst (IsLeft (file_in folder (checkpoint_gate step))) (sym (with_points_gate step image points)) (are_points (checkpoint_gate step)))
  | inr no_gate ↦ elim (cases_file q (checkpoint_file step)) [
    | inl point ↦ subst (λ f. IsLeft (file_in folder f) (bytes_in (with_points step image points) f)) (sym point)
        (subst (IsLeft (file_in folder (checkpoint_file step))) (sym (with_points_points step image points)) (are_points (checkpoint_file step)))
    | inr no_points ↦ subst (IsLeft (file_in folder q)) (sym (with_points_other step image points q no_points no_gate)) (is_image q)
  ]
]

-- while a checkpoint is saved, an image whose last one is of before agrees with one of before
pub before_saved : (makes operands : FileNo → Type 0) (c : Checkpoint) (next : ℕ) (old m : Moment) (image : Image) → AreFiles old.folder
    → IsOfStep makes operands c.step next → DuringSave c old m → IsImage m.folder image → IsLastBefore c.step old.folder (bytes_in image)
    → IsAsBefore makes c.step next old.folder (bytes_in image)
before_saved makes operands c next old m image are_files files saves is_image was =
    let base : Image = image_before old.folder image in
    let other_is : (f : FileNo) → f ≢ checkpoint_file c.step → f ≢ checkpoint_gate c.step → bytes_in image f ≡ bytes_in (with_points c.step base was.before) f =
    λ f no_points no_gate. image_before_same old.folder image f are_files (subst (λ x. IsLeft x (bytes_in image f)) (saves.others f no_points no_gate) (is_image f))
    ∙ sym (with_points_other c.step base was.before f no_points no_gate) in
    record {
      before = with_points c.step base was.before;
      is_image = with_points_image c.step old.folder base was.before (image_before_is old.folder image are_files) was.is_image;
      last = was.same ∙ same_last c.step (bytes_in was.before) (bytes_in (with_points c.step base was.before))
          (sym (with_points_points c.step base was.before)) (sym (with_points_gate c.step base was.before));
      others = λ f other apart no_points no_gate. other_is f no_points no_gate;
      fronts = λ f mine n few. ap (take n) (other_is f
          (λ is. points_not_made makes operands c.step next files (subst makes is mine))
          (λ is. gate_not_made makes operands c.step next files (subst makes is mine)));
    }
