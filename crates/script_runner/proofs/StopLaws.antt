-- What the turns that an image shows pay for, and how the costs of runs of calls join.
use Rattle.std.proofs.Common.{◌≡◌, ◌≢◌, ◌∙◌, ℕ, zero, suc, ◌+◌, ◌*◌, ◌<◌, ◌≤◌, nat_lt, cond, List, length, take, drop, refl, sym, ap, subst, inl, inr, arith}
use Rattle.std.proofs.lemmas.Bool.{cases_lt, lt-ltb}
use Rattle.std.proofs.lemmas.List.{take-take, drop-take, take_all}
use Rattle.std.specs.FinMap.{insert}
use Rattle.byteorder.specs.Endian.{big_number}
use Rattle.shelf_model.specs.declared.file_no.FileNo.{FileNo}
use Rattle.shelf_model.specs.File.{IsLeft, IsKept}
use Rattle.shelf_model.specs.Folder.{Folder, Image, file_in, bytes_in, IsImage, AreFiles}
use Rattle.shelf_model.specs.Moments.{Throughout, OnlyOldImages}
use Rattle.shelf_model.specs.World.{Moment, World, now}
use Rattle.shelf_model.proofs.Files.{kept_left}
use Rattle.shelf_model.proofs.Images.{chosen, standing_image}
use Rattle.shelf_model.proofs.Runs.{joins, weakens, at_end}
use Rattle.shelf_model.proofs.Maps.{bytes_in-insert, bytes_in-insert_other}
use Rattle.shelf_model.proofs.Numbers.{cases_file}
use Rattle.file_numbers.specs.Files.{checkpoint_file, checkpoint_gate}
use Rattle.catalogue.specs.declared.layout.Entry.{Entry}
use Rattle.catalogue.specs.Entries.{Fits, entry_bytes}
use Rattle.catalogue.specs.Files.{catalogue}
use Rattle.catalogue.specs.Counts.{count_in, entry_at}
use Rattle.catalogue.proofs.Fields.{entry_reads}
use Rattle.sweep_checkpoint.specs.Gated.{last_of}
use Rattle.sweep_checkpoint.specs.Stops.{turns_in, shown_turns, SamePoints}
use Rattle.sound_image.specs.Jobs.{Job}
use Rattle.diagram_list.specs.Saying.{IsSaying}
use Rattle.script_runner.specs.Fetching.{OnlyFetched}
use Rattle.script_runner.specs.Running.{SaysOnly}
use Rattle.script_runner.specs.Stops.{turns_at, committed_turns, paid_in, PayAtLeast, PaysThrough}

-- the turns that stand in an entry's place are the entry's
pub entry_turns : (k : ℕ) (r : FileNo → List ℕ) (e : Entry) → Fits e → entry_at k r ≡ entry_bytes e → turns_at k r ≡ e.turns
entry_turns k r e fits is = sym (entry_reads e (entry_at k r) fits (sym is)).turns

-- the turns of the first entries are those of each catalogue that begins with these
pub committed_same : (n : ℕ) (r q : FileNo → List ℕ) → take (128 * n) (r catalogue) ≡ take (128 * n) (q catalogue)
    → committed_turns n r ≡ committed_turns n q
unfolding committed_turns
committed_same zero r q same = refl
committed_same (suc n) r q same =
    let all : 128 * suc n ≡ 128 * n + 128 = omega arith in
    let whole : take (128 * n + 128) (r catalogue) ≡ take (128 * n + 128) (q catalogue) =
    ap (λ k. take k (r catalogue)) (sym all) ∙ same ∙ ap (λ k. take k (q catalogue)) all in
    let front : take (128 * n) (r catalogue) ≡ take (128 * n) (q catalogue) =
    sym (take-take (128 * n) (128 * n + 128) (r catalogue) (omega arith)) ∙ ap (take (128 * n)) whole
    ∙ take-take (128 * n) (128 * n + 128) (q catalogue) (omega arith) in
    let entry : entry_at n r ≡ entry_at n q =
    sym (drop-take (128 * n) 128 (r catalogue)) ∙ ap (drop (128 * n)) whole ∙ drop-take (128 * n) 128 (q catalogue) in
    (λ i. committed_same n r q front i + big_number 8 (take 8 (drop 16 (entry i))))

-- the turns of the entries in front
abbrev pub turns_of : ℕ → List ℕ → ℕ
turns_of n front = committed_turns n (λ f. front)

-- each image has them where they are kept
pub kept_turns : (n : ℕ) (folder : Folder) (front : List ℕ) → length front ≡ 128 * n → IsKept front (file_in folder catalogue)
    → (image : Image) → IsImage folder image → committed_turns n (bytes_in image) ≡ turns_of n front
kept_turns n folder front size kept image is_image =
    committed_same n (bytes_in image) (λ f. front)
    (ap (λ k. take k (bytes_in image catalogue)) (sym size)
    ∙ kept_left front (file_in folder catalogue) (bytes_in image catalogue) kept (is_image catalogue)
    ∙ sym (take_all (128 * n) front (omega (arith, size))))

pub one_more_turns : (n : ℕ) (r : FileNo → List ℕ) → committed_turns (n + 1) r ≡ committed_turns n r + turns_at n r
unfolding committed_turns
one_more_turns n r = let next : n + 1 ≡ suc n = omega arith in ap (λ k. committed_turns k r) next

-- what an image pays for that has so many steps
pub paid_here : (job : Job) (k : ℕ) (r : FileNo → List ℕ) → count_in r ≡ k → k < length job.steps
    → paid_in job r ≡ 256 * (committed_turns k r + shown_turns k r)
paid_here job k r count within =
    (λ i. 256 * (committed_turns (count i) r + cond (nat_lt (count i) (length job.steps)) (shown_turns (count i) r) 0))
    ∙ ap (λ b. 256 * (committed_turns k r + cond b (shown_turns k r) 0)) (lt-ltb k (length job.steps) within)

pub paid_least : (job : Job) (k : ℕ) (r : FileNo → List ℕ) → count_in r ≡ k → 256 * committed_turns k r ≤ paid_in job r
paid_least job k r count =
    subst (λ n. 256 * committed_turns n r ≤ paid_in job r) count (omega arith)

-- fewer calls than are allowed, or more than that was paid for
pub pays_more : (job : Job) (before paid most more : ℕ) (old new : World) → before ≤ paid → most + before ≤ more + paid
    → PaysThrough job paid most old new → PaysThrough job before more old new
pays_more job before paid most more old new less within pays k from to image is_image =
    let at = pays k from to image is_image in
    let no_fewer = at.no_fewer in
    let few = at.few in
    record { no_fewer = omega (arith, no_fewer, less); few = omega (arith, few, no_fewer, less, within) }

-- two runs of calls, one behind the other
pub pays_join : (job : Job) (paid most : ℕ) (old mid new : World) → ((k : ℕ) → k ≤ mid.clock → new.moment k ≡ mid.moment k)
    → PaysThrough job paid most old mid → PaysThrough job paid most mid new → PaysThrough job paid most old new
pays_join job paid most old mid new past first second k from to image is_image = elim (cases_lt mid.clock k) [
  | inl beyond ↦ second k (omega (arith, beyond)) to image is_image
  | inr until ↦ first k from until image (subst (λ (m : Moment). IsImage m.folder image) (past k until) is_image)
]

-- while no image is new
pub pays_still : (job : Job) (paid most : ℕ) (old new : World) → Throughout old new (OnlyOldImages (now old))
    → PayAtLeast job paid (now old).folder → new.clock ≤ most → PaysThrough job paid most old new
pays_still job paid most old new run shows few k from to image is_image = record {
  no_fewer = shows image (run.each k from to image is_image);
  few = omega (arith, few, to);
}

-- no image is new while texts are fetched, while a line is said, and in two runs of calls in which none is
pub fetched_old : (old new : World) → OnlyFetched old new → Throughout old new (OnlyOldImages (now old))
fetched_old old new looked =
    weakens old new (λ m. m ≡ now old) (OnlyOldImages (now old))
    (λ m same image is_image. subst (λ (x : Moment). IsImage x.folder image) same is_image) looked.moments

pub says_old : (line : List ℕ) (old new : World) → SaysOnly line old new → Throughout old new (OnlyOldImages (now old))
says_old line old new says =
    weakens old new (IsSaying line (now old)) (OnlyOldImages (now old))
    (λ m saying image is_image. subst (λ (folder : Folder). IsImage folder image) saying.folder_is is_image) says.moments

pub old_then : (old mid new : World) → Throughout old mid (OnlyOldImages (now old)) → Throughout mid new (OnlyOldImages (now mid))
    → Throughout old new (OnlyOldImages (now old))
old_then old mid new first second =
    joins old mid new (OnlyOldImages (now old)) first
    (weakens mid new (OnlyOldImages (now mid)) (OnlyOldImages (now old))
    (λ m is image is_image. at_end old mid (OnlyOldImages (now old)) first image (is image is_image)) second)

-- where the checkpoints of a step and their gate are those of another folder, what is known of the turns that each image
-- of that one shows is known of each image
module _ (step : ℕ) (old new : Folder) (files : AreFiles old) (same : SamePoints step old new) (image : Image)
    (is_image : IsImage new image) where
  abbrev points : FileNo
  points = checkpoint_file step

  abbrev gate : FileNo
  gate = checkpoint_gate step

  points_not_gate : points ≢ gate
  points_not_gate is = let parts : 1 ≡ 2 = ap (λ (q : FileNo). q.part) is in omega (arith, parts)

  abbrev base : Image
  base = chosen (λ _ x. x.bytes) old

  -- an image of it with the checkpoints and the gate of this one
  abbrev with_them : Image
  with_them = insert (insert base points (bytes_in image points)) gate (bytes_in image gate)

  gate_is : bytes_in with_them gate ≡ bytes_in image gate
  gate_is = bytes_in-insert (insert base points (bytes_in image points)) gate (bytes_in image gate)

  points_are : bytes_in with_them points ≡ bytes_in image points
  points_are =
      bytes_in-insert_other (insert base points (bytes_in image points)) gate points (bytes_in image gate) points_not_gate
      ∙ bytes_in-insert base points (bytes_in image points)

  other_is : (f : FileNo) → f ≢ points → f ≢ gate → bytes_in with_them f ≡ bytes_in base f
  other_is f no_points no_gate =
      bytes_in-insert_other (insert base points (bytes_in image points)) gate f (bytes_in image gate) no_gate
      ∙ bytes_in-insert_other base points f (bytes_in image points) no_points

  is_old : IsImage old with_them
  is_old f = elim (cases_file f gate) [
    | inl is ↦ subst (λ g. IsLeft (file_in old g) (bytes_in with_them g)) (sym is)
        (subst (λ v. v) (λ i. IsLeft (same.gate i) (sym gate_is i)) (is_image gate))
    | inr no_gate ↦ elim (cases_file f points) [
      | inl is ↦ subst (λ g. IsLeft (file_in old g) (bytes_in with_them g)) (sym is)
          (subst (λ v. v) (λ i. IsLeft (same.points i) (sym points_are i)) (is_image points))
      | inr no_points ↦ subst (IsLeft (file_in old f)) (sym (other_is f no_points no_gate)) (standing_image old files f)
    ]
  ]

  pub shows_as_then : (P : ℕ → Type 0) → ((before : Image) → IsImage old before → P (shown_turns step (bytes_in before)))
      → P (shown_turns step (bytes_in image))
  shows_as_then P all =
      subst P (λ i. turns_in (last_of (length (gate_is i)) (points_are i))) (all with_them is_old)
