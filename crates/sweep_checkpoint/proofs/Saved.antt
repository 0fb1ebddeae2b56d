-- The images of a folder while a checkpoint is saved.
use Rattle.std.proofs.Common.{◌≡◌, ◌≢◌, ◌⊎◌, ℕ, zero, suc, ◌+◌, ◌*◌, ◌≤◌, min, Bool, List, [], ◌∷◌, ◌++◌, length, take, drop, refl, sym, ap, subst, ◌∙◌, inl, inr, arith}
use Rattle.std.specs.Prelude.{IsTrue, Result, Ok, Err, Some, OnOk}
use Rattle.std.proofs.lemmas.Bool.{cases_lt}
use Rattle.std.proofs.lemmas.List.{append-nil, length-take, length-take-le, length-append, take_all, take_at, drop_at, take-take, drop-take}
use Rattle.shelf_model.specs.declared.file_no.FileNo.{FileNo}
use Rattle.shelf_model.specs.declared.fault.Failed.{Failed}
use Rattle.shelf_model.specs.File.{File, firm_file, IsFile, IsLeft, IsKept}
use Rattle.shelf_model.specs.Folder.{Folder, Image, file_in, bytes_in, IsImage, AreFiles}
use Rattle.shelf_model.specs.World.{Moment, World, now, file}
use Rattle.shelf_model.specs.Calls.{Told, Measured}
use Rattle.shelf_model.specs.Moments.{Ran}
use Rattle.std.specs.FinMap.{insert}
use Rattle.shelf_model.proofs.Files.{kept_left}
use Rattle.shelf_model.proofs.Images.{chosen, standing_left, one_left}
use Rattle.shelf_model.proofs.Maps.{bytes_in-insert}
use Rattle.shelf_model.proofs.Numbers.{other_part}
use Rattle.shelf_model.proofs.Runs.{told, told_then, run_on, ran_call, ran_on, ran_joins, ran_weakens, ran_end}
use Rattle.sweep_core.specs.declared.checkpoint.Checkpoint.{Checkpoint}
use Rattle.file_numbers.specs.Files.{checkpoint_file, checkpoint_gate}
use Rattle.sweep_checkpoint.specs.Points.{point_bytes}
use Rattle.sweep_checkpoint.specs.Gated.{present, gated_count, last_of}
use Rattle.file_writes.specs.Writes.{Growing, Replacing}
use Rattle.file_writes.proofs.Sure.{GrewAtMost, sure_bytes, grown_image}
use Rattle.sweep_checkpoint.specs.Saves.{gated_size, IsGateSure, IsLast, IsLastBefore, DuringSave, IsSaved}

pub points_not_gate : (step : ℕ) → checkpoint_file step ≢ checkpoint_gate step
points_not_gate step = other_part (checkpoint_file step) (checkpoint_gate step) (λ e. omega (arith, e))

pub gate_not_points : (step : ℕ) → checkpoint_gate step ≢ checkpoint_file step
gate_not_points step = other_part (checkpoint_gate step) (checkpoint_file step) (λ e. omega (arith, e))

-- the last of n checkpoints stands in the first n ones
pub last_of-take : (n : ℕ) (xs ys : List ℕ) → take (16384 * n) xs ≡ take (16384 * n) ys → last_of n xs ≡ last_of n ys
last_of-take zero xs ys same = refl
last_of-take (suc n) xs ys same =
    let all : 16384 * suc n ≡ 16384 * n + 16384 = omega arith in
    let whole : take (16384 * n + 16384) xs ≡ take (16384 * n + 16384) ys = ap (λ k. take k xs) (sym all) ∙ same ∙ ap (λ k. take k ys) all in
    ap Some (sym (drop-take (16384 * n) 16384 xs) ∙ ap (drop (16384 * n)) whole ∙ drop-take (16384 * n) 16384 ys)

-- one that is put behind n others is the last of one more
pub last_of-behind : (n k : ℕ) (before bytes : List ℕ) → k ≡ suc n → 16384 * n ≤ length before → length bytes ≡ 16384 → last_of k (take (16384 * n) before ++ bytes) ≡ Some bytes
last_of-behind n k before bytes next covers whole =
    ap (λ m. last_of m (take (16384 * n) before ++ bytes)) next
    ∙ ap (λ xs. Some (take 16384 xs)) (drop_at (take (16384 * n) before) bytes (16384 * n) (length-take-le (16384 * n) before covers))
    ∙ ap Some (take_all 16384 bytes (omega arith))

-- what a stop may leave of a file agrees, as far as what was kept of it stays kept, with what it might have left before
old_left : (at : ℕ) (old new : File) (left : List ℕ) → IsFile old → at ≤ length old.bytes
    → ((front : List ℕ) → length front ≤ at → IsKept front old → IsKept front new) → IsLeft new left
    → (before : List ℕ) × IsLeft old before × (take at left ≡ take at before)
old_left at old new left is_file covers kept is_left =
    let beyond : length old.bytes ≤ old.reach = is_file.reach_beyond in
    let within : old.firm ≤ length old.bytes = is_file.firm_within in
    elim (cases_lt at old.firm) [
      | inl sure ↦
          let count : length (take at old.bytes) ≡ at = length-take-le at old.bytes covers in
          let front : IsKept (take at old.bytes) old = record { sure = omega (arith, count, sure); same = ap (λ k. take k old.bytes) count } in
          let still : IsKept (take at old.bytes) new = kept (take at old.bytes) (omega (arith, count)) front in
          (old.bytes, standing_left old is_file, ap (λ k. take k left) (sym count) ∙ kept_left (take at old.bytes) new left still is_left)
      | inr all ↦
          let count : length (take old.firm old.bytes) ≡ old.firm = length-take-le old.firm old.bytes within in
          let front : IsKept (take old.firm old.bytes) old = record { sure = omega (arith, count); same = ap (λ k. take k old.bytes) count } in
          let still : IsKept (take old.firm old.bytes) new = kept (take old.firm old.bytes) (omega (arith, count, all)) front in
          let firm : length (take old.firm old.bytes) ≤ new.firm = still.sure in
          let long : new.firm ≤ length left = is_left.no_shorter in
          let cut : length (take old.reach left) ≡ min old.reach (length left) = length-take old.reach left in
          let begins : take old.firm left ≡ take old.firm old.bytes = ap (λ k. take k left) (sym count) ∙ kept_left (take old.firm old.bytes) new left still is_left in (
            take old.reach left,
            record {
              no_shorter = omega (arith, count, firm, long, cut, beyond, within);
              no_longer = omega (arith, cut);
              same = take-take old.firm old.reach left (omega (arith, within, beyond)) ∙ begins;
            },
            sym (take-take at old.reach left (omega (arith, covers, beyond))),
          )
    ]

-- where the gated checkpoints agree with what a stop might have left before, the last one is one of before
was_last : (step : ℕ) (old : Folder) (image : Image) (before : List ℕ) → AreFiles old → IsGateSure step old → length (bytes_in image (checkpoint_gate step)) ≡ gated_count step (present old)
    → IsLeft (file_in old (checkpoint_file step)) before → take (gated_size step old) (bytes_in image (checkpoint_file step)) ≡ take (gated_size step old) before → IsLastBefore step old (bytes_in image)
was_last step old image before are_files sure count is_left same =
    let n : ℕ = gated_count step (present old) in
    let image_before : Image = insert (chosen (λ _ x. x.bytes) old) (checkpoint_file step) before in
    let is_image : IsImage old image_before = one_left old (checkpoint_file step) before are_files is_left in
    let gate : bytes_in image_before (checkpoint_gate step) ≡ (file_in old (checkpoint_gate step)).bytes = sure_bytes (checkpoint_gate step) (file_in old (checkpoint_gate step)).bytes old image_before sure is_image in
    let points : bytes_in image_before (checkpoint_file step) ≡ before = bytes_in-insert (chosen (λ _ x. x.bytes) old) (checkpoint_file step) before in
    record {
      before = image_before;
      is_image = is_image;
      same = ap (λ k. last_of k (bytes_in image (checkpoint_file step))) count ∙ last_of-take n (bytes_in image (checkpoint_file step)) before same
          ∙ (λ i. last_of (length (sym gate i)) (sym points i));
    }

-- nothing was done yet
pub during_here : (c : Checkpoint) (m : Moment) → DuringSave c m m
during_here c m = record {
  others = λ q not_points not_gate. refl;
  kept = λ front short kept. kept;
  reads = refl;
  gate_kept = λ front kept. kept;
  gate_reads = ([], sym (append-nil (file_in m.folder (checkpoint_gate c.step)).bytes));
  images = λ sure image is_image. inl (record { before = image; is_image = is_image; same = refl });
}

-- the folder is one whose files can be, and it has as many checkpoints as its gate counts
pub record CanSave (c : Checkpoint) (n : ℕ) (old : Folder) : Type 0 where
  pub are_files : AreFiles old
  pub count : n ≡ gated_count c.step (present old)
  pub covers : 16384 * n ≤ length (file_in old (checkpoint_file c.step)).bytes

-- while the checkpoint is put behind the gated ones
placing : (c : Checkpoint) (n : ℕ) (old m : Moment) → CanSave c n old.folder → Replacing (checkpoint_file c.step) (16384 * n) 16384 old m → DuringSave c old m
placing c n old m can replacing =
    let size : 16384 * n ≡ gated_size c.step old.folder = ap (λ k. 16384 * k) can.count in
    let gate : file_in m.folder (checkpoint_gate c.step) ≡ file_in old.folder (checkpoint_gate c.step) = replacing.others (checkpoint_gate c.step) (gate_not_points c.step) in
    record {
      others = λ q not_points not_gate. replacing.others q not_points;
      kept = λ front short kept. replacing.kept front (omega (arith, short, size)) kept;
      reads = ap (λ k. take k (file_in m.folder (checkpoint_file c.step)).bytes) (sym size) ∙ replacing.reads ∙ ap (λ k. take k (file_in old.folder (checkpoint_file c.step)).bytes) size;
      gate_kept = λ front kept. subst (IsKept front) (sym gate) kept;
      gate_reads = ([], ap (λ (x : File). x.bytes) gate ∙ sym (append-nil (file_in old.folder (checkpoint_gate c.step)).bytes));
      images = λ sure image is_image.
          let left = old_left (16384 * n) (file_in old.folder (checkpoint_file c.step)) (file_in m.folder (checkpoint_file c.step)) (bytes_in image (checkpoint_file c.step)) (can.are_files (checkpoint_file c.step)) can.covers replacing.kept (is_image (checkpoint_file c.step)) in
          let counted : length (bytes_in image (checkpoint_gate c.step)) ≡ gated_count c.step (present old.folder) =
          ap length (sure_bytes (checkpoint_gate c.step) (file_in old.folder (checkpoint_gate c.step)).bytes m.folder image (gate ∙ sure) is_image) in
          inl (was_last c.step old.folder image left.0 can.are_files sure counted left.1
          (ap (λ k. take k (bytes_in image (checkpoint_file c.step))) (sym size) ∙ left.2 ∙ ap (λ k. take k left.0) size));
    }

-- the checkpoint is sure in its place, and the gate is as before
pub record IsPlaced (c : Checkpoint) (n : ℕ) (old m : Moment) : Type 0 where
  pub can : CanSave c n old.folder
  pub whole : length (point_bytes c) ≡ 16384
  pub replacing : Replacing (checkpoint_file c.step) (16384 * n) 16384 old m
  pub points_are : file_in m.folder (checkpoint_file c.step) ≡ firm_file (take (16384 * n) (file_in old.folder (checkpoint_file c.step)).bytes ++ point_bytes c)

opening_image : (c : Checkpoint) (n : ℕ) (old mid m : Moment) (image : Image) → IsPlaced c n old mid → Growing (checkpoint_gate c.step) 1 mid m → IsGateSure c.step old.folder → IsImage m.folder image
    → IsLastBefore c.step old.folder (bytes_in image) ⊎ IsLast c (bytes_in image)
opening_image c n old mid m image placed growing sure is_image =
    let before : List ℕ = (file_in old.folder (checkpoint_file c.step)).bytes in
    let gate_bytes : List ℕ = (file_in old.folder (checkpoint_gate c.step)).bytes in
    let count : n ≡ length gate_bytes = placed.can.count in
    let points : bytes_in image (checkpoint_file c.step) ≡ take (16384 * n) before ++ point_bytes c =
    sure_bytes (checkpoint_file c.step) (take (16384 * n) before ++ point_bytes c) m.folder image (growing.others (checkpoint_file c.step) (points_not_gate c.step) ∙ placed.points_are) is_image in
    let stood : file_in mid.folder (checkpoint_gate c.step) ≡ firm_file gate_bytes = placed.replacing.others (checkpoint_gate c.step) (gate_not_points c.step) ∙ sure in
    let grew : GrewAtMost 1 (length gate_bytes) (length (bytes_in image (checkpoint_gate c.step))) = grown_image (checkpoint_gate c.step) 1 gate_bytes mid m image stood growing is_image in
    let no_shorter : length gate_bytes ≤ length (bytes_in image (checkpoint_gate c.step)) = grew.no_shorter in
    let no_longer : length (bytes_in image (checkpoint_gate c.step)) ≤ length gate_bytes + 1 = grew.no_longer in
    elim (cases_lt (length gate_bytes) (length (bytes_in image (checkpoint_gate c.step)))) [
      | inl more ↦
          let next : length (bytes_in image (checkpoint_gate c.step)) ≡ suc n = omega (arith, more, count, no_longer) in
          inr (ap (last_of (length (bytes_in image (checkpoint_gate c.step)))) points ∙ last_of-behind n (length (bytes_in image (checkpoint_gate c.step))) before (point_bytes c) next placed.can.covers placed.whole)
      | inr same ↦
          let counted : length (bytes_in image (checkpoint_gate c.step)) ≡ length gate_bytes = omega (arith, same, no_shorter) in
          let front : take (16384 * n) (bytes_in image (checkpoint_file c.step)) ≡ take (16384 * n) before =
          ap (take (16384 * n)) points ∙ take_at (take (16384 * n) before) (point_bytes c) (16384 * n) (length-take-le (16384 * n) before placed.can.covers) in
          inl (was_last c.step old.folder image before placed.can.are_files sure counted (standing_left (file_in old.folder (checkpoint_file c.step)) (placed.can.are_files (checkpoint_file c.step)))
          (subst (λ k. take (16384 * k) (bytes_in image (checkpoint_file c.step)) ≡ take (16384 * k) before) count front))
    ]

-- while the gate grows
opening : (c : Checkpoint) (n : ℕ) (old mid m : Moment) → IsPlaced c n old mid → Growing (checkpoint_gate c.step) 1 mid m → DuringSave c old m
opening c n old mid m placed growing =
    let size : 16384 * n ≡ gated_size c.step old.folder = ap (λ k. 16384 * k) placed.can.count in
    let points : file_in m.folder (checkpoint_file c.step) ≡ file_in mid.folder (checkpoint_file c.step) = growing.others (checkpoint_file c.step) (points_not_gate c.step) in
    let gate : file_in mid.folder (checkpoint_gate c.step) ≡ file_in old.folder (checkpoint_gate c.step) = placed.replacing.others (checkpoint_gate c.step) (gate_not_points c.step) in
    record {
      others = λ q not_points not_gate. growing.others q not_gate ∙ placed.replacing.others q not_points;
      kept = λ front short kept. subst (IsKept front) (sym points) (placed.replacing.kept front (omega (arith, short, size)) kept);
      reads = ap (λ (x : File). take (gated_size c.step old.folder) x.bytes) points
          ∙ ap (λ k. take k (file_in mid.folder (checkpoint_file c.step)).bytes) (sym size) ∙ placed.replacing.reads ∙ ap (λ k. take k (file_in old.folder (checkpoint_file c.step)).bytes) size;
      gate_kept = λ front kept. growing.kept front (subst (IsKept front) (sym gate) kept);
      gate_reads = (growing.reads.0, growing.reads.1 ∙ ap (λ (x : File). x.bytes ++ growing.reads.0) gate);
      images = λ sure image is_image. opening_image c n old mid m image placed growing sure is_image;
    }

-- a checkpoint is the last one where the files are so
last_read : (c : Checkpoint) (n : ℕ) (before : List ℕ) (r : FileNo → List ℕ) → length (point_bytes c) ≡ 16384 → 16384 * n ≤ length before
    → r (checkpoint_file c.step) ≡ take (16384 * n) before ++ point_bytes c → length (r (checkpoint_gate c.step)) ≡ suc n → IsLast c r
last_read c n before r whole covers points count = ap (last_of (length (r (checkpoint_gate c.step)))) points ∙ last_of-behind n (length (r (checkpoint_gate c.step))) before (point_bytes c) count covers whole

-- the gate is sure with one byte more
saved : (c : Checkpoint) (n : ℕ) (old mid m : Moment) → IsPlaced c n old mid → Growing (checkpoint_gate c.step) 1 mid m
    → file_in m.folder (checkpoint_gate c.step) ≡ firm_file ((file_in mid.folder (checkpoint_gate c.step)).bytes ++ 0 ∷ []) → IsSaved c old.folder m.folder
saved c n old mid m placed growing gate =
    let before : List ℕ = (file_in old.folder (checkpoint_file c.step)).bytes in
    let gate_bytes : List ℕ = (file_in old.folder (checkpoint_gate c.step)).bytes in
    let count : n ≡ length gate_bytes = placed.can.count in
    let covers : 16384 * n ≤ length before = placed.can.covers in
    let points : file_in m.folder (checkpoint_file c.step) ≡ firm_file (take (16384 * n) before ++ point_bytes c) = growing.others (checkpoint_file c.step) (points_not_gate c.step) ∙ placed.points_are in
    let gate_is : file_in m.folder (checkpoint_gate c.step) ≡ firm_file (gate_bytes ++ 0 ∷ []) =
    gate ∙ ap (λ (x : File). firm_file (x.bytes ++ 0 ∷ [])) (placed.replacing.others (checkpoint_gate c.step) (gate_not_points c.step)) in
    let longer : length (gate_bytes ++ 0 ∷ []) ≡ length gate_bytes + 1 = length-append gate_bytes (0 ∷ []) in
    let next : length (gate_bytes ++ 0 ∷ []) ≡ suc n = omega (arith, longer, count) in
    record {
      covers = subst (λ k. 16384 * k ≤ length before) count covers;
      points_are = points ∙ ap (λ k. firm_file (take (16384 * k) before ++ point_bytes c)) count;
      gate_is = gate_is;
      reads = last_read c n before (present m.folder) placed.whole covers (ap (λ (x : File). x.bytes) points) (ap (λ (x : File). length x.bytes) gate_is ∙ next);
      images = λ image is_image. last_read c n before (bytes_in image) placed.whole covers
          (sure_bytes (checkpoint_file c.step) (take (16384 * n) before ++ point_bytes c) m.folder image points is_image)
          (ap length (sure_bytes (checkpoint_gate c.step) (gate_bytes ++ 0 ∷ []) m.folder image gate_is is_image) ∙ next);
    }

module _ {S : Type 0} (tells : S → Bool) (world : S → World) (c : Checkpoint) where
  -- the files are such that a checkpoint can be put behind n others
  pub can_save : (n : ℕ) (old : S) → ((x : S) → IsTrue (tells x) → AreFiles (now (world x)).folder)
      → (IsTrue (tells old) → n ≡ length (file (world old) (checkpoint_gate c.step)).bytes)
      → (IsTrue (tells old) → 16384 * n ≤ length (file (world old) (checkpoint_file c.step)).bytes)
      → IsTrue (tells old) → CanSave c n (now (world old)).folder
  can_save n old files count covers tells_old = record { are_files = files old tells_old; count = count tells_old; covers = covers tells_old }

  -- the checkpoint is put in its place
  pub placed_so_far : (f : FileNo) (n size : ℕ) (bytes : List ℕ) (old s : S) → f ≡ checkpoint_file c.step → size ≡ 16384 * n → bytes ≡ point_bytes c → length bytes ≡ 16384 → (IsTrue (tells old) → CanSave c n (now (world old)).folder)
      → Told tells old s (Ran (Replacing f size (length bytes) (now (world old))) (world old) (world s))
      → (IsTrue (tells s) → file (world s) f ≡ firm_file (take size (file (world old) f).bytes ++ bytes))
      → Told tells old s (Ran (DuringSave c (now (world old))) (world old) (world s) × IsPlaced c n (now (world old)) (now (world s)))
  placed_so_far f n size bytes old s points at same whole can put is = record {
    before = put.before;
    did = λ tells_new.
        let begins : CanSave c n (now (world old)).folder = can (put.before tells_new) in
        let P : Moment → Type 0 = Replacing (checkpoint_file c.step) (16384 * n) 16384 (now (world old)) in
        let run : Ran P (world old) (world s) =
        subst (λ k. Ran (Replacing (checkpoint_file c.step) (16384 * n) k (now (world old))) (world old) (world s)) whole
        (subst (λ k. Ran (Replacing (checkpoint_file c.step) k (length bytes) (now (world old))) (world old) (world s)) at
        (subst (λ q. Ran (Replacing q size (length bytes) (now (world old))) (world old) (world s)) points (put.did tells_new))) in (
          ran_weakens (world old) (world s) P (DuringSave c (now (world old))) (λ m replacing. placing c n (now (world old)) m begins replacing) run,
          record {
            can = begins;
            whole = ap length (sym same) ∙ whole;
            replacing = ran_end (world old) (world s) P run;
            points_are = subst (λ q. file (world s) q ≡ firm_file (take size (file (world old) q).bytes ++ bytes)) points (is tells_new)
                ∙ (λ i. firm_file (take (at i) (file (world old) (checkpoint_file c.step)).bytes ++ same i));
          },
        );
  }

  -- a part of it
  pub torn_so_far : (f : FileNo) (n size : ℕ) (bytes : List ℕ) (old s : S) → f ≡ checkpoint_file c.step → size ≡ 16384 * n → length bytes ≡ 16384 → (IsTrue (tells old) → CanSave c n (now (world old)).folder)
      → Told tells old s (Ran (Replacing f size (length bytes) (now (world old))) (world old) (world s))
      → Told tells old s (Ran (DuringSave c (now (world old))) (world old) (world s))
  torn_so_far f n size bytes old s points at whole can put = record {
    before = put.before;
    did = λ tells_new.
        let begins : CanSave c n (now (world old)).folder = can (put.before tells_new) in
        let P : Moment → Type 0 = Replacing (checkpoint_file c.step) (16384 * n) 16384 (now (world old)) in
        ran_weakens (world old) (world s) P (DuringSave c (now (world old))) (λ m replacing. placing c n (now (world old)) m begins replacing)
        (subst (λ k. Ran (Replacing (checkpoint_file c.step) (16384 * n) k (now (world old))) (world old) (world s)) whole
        (subst (λ k. Ran (Replacing (checkpoint_file c.step) k (length bytes) (now (world old))) (world old) (world s)) at
        (subst (λ q. Ran (Replacing q size (length bytes) (now (world old))) (world old) (world s)) points (put.did tells_new))));
  }

  -- and the gate grows
  pub saves : (f : FileNo) (n : ℕ) (old s t : S) → f ≡ checkpoint_gate c.step
      → Told tells old s (Ran (DuringSave c (now (world old))) (world old) (world s) × IsPlaced c n (now (world old)) (now (world s)))
      → Told tells s t (Ran (Growing f 1 (now (world s))) (world s) (world t))
      → Told tells old t (Ran (DuringSave c (now (world old))) (world old) (world t) × Growing (checkpoint_gate c.step) 1 (now (world s)) (now (world t)))
  saves f n old s t gate so_far grows =
      run_on tells world (DuringSave c (now (world old))) (Growing (checkpoint_gate c.step) 1 (now (world s)))
      (λ w. IsPlaced c n (now (world old)) (now (world s))) (λ w. Growing (checkpoint_gate c.step) 1 (now (world s)) (now w)) old s t so_far
      (subst (λ q. Told tells s t (Ran (Growing q 1 (now (world s))) (world s) (world t))) gate grows)
      (λ tells_old placed m growing. opening c n (now (world old)) (now (world s)) m placed growing)
      (λ tells_old placed growing. growing)

  pub save_ok : (f : FileNo) (n : ℕ) (result : Result Unit Failed) (old s t : S) → f ≡ checkpoint_gate c.step
      → Told tells old s (Ran (DuringSave c (now (world old))) (world old) (world s) × IsPlaced c n (now (world old)) (now (world s)))
      → Told tells s t (Ran (Growing f 1 (now (world s))) (world s) (world t))
      → OnOk result (IsTrue (tells t) → file (world t) f ≡ firm_file ((file (world s) f).bytes ++ 0 ∷ []))
      → OnOk result (IsTrue (tells t) → IsSaved c (now (world old)).folder (now (world t)).folder)
  save_ok f n (Ok x) old s t gate so_far grows is = λ tells_new.
      let tells_mid : IsTrue (tells s) = grows.before tells_new in
      saved c n (now (world old)) (now (world s)) (now (world t)) (so_far.did tells_mid).1
      (subst (λ q. Growing q 1 (now (world s)) (now (world t))) gate (ran_end (world s) (world t) (Growing f 1 (now (world s))) (grows.did tells_new)))
      (subst (λ q. file (world t) q ≡ firm_file ((file (world s) q).bytes ++ 0 ∷ [])) gate (is tells_new))
  save_ok f n (Err e) old s t gate so_far grows is = tt

  -- a length was asked
  pub asked : (f : FileNo) (result : Result ℕ Failed) (old s : S) → Told tells old s (Measured f result (world old) (world s))
      → Told tells old s (Ran (DuringSave c (now (world old))) (world old) (world s) × (now (world s) ≡ now (world old)))
  asked f result old s call = told tells old s _ _ call (λ _ did. (
    ran_call (world old) (world s) (DuringSave c (now (world old))) did.shelf (during_here c (now (world old))) (subst (DuringSave c (now (world old))) (sym did.same) (during_here c (now (world old)))),
    did.same,
  ))

  pub asked_again : (f : FileNo) (result : Result ℕ Failed) (old s t : S) → Told tells old s (Ran (DuringSave c (now (world old))) (world old) (world s) × (now (world s) ≡ now (world old)))
      → Told tells s t (Measured f result (world s) (world t)) → Told tells old t (Ran (DuringSave c (now (world old))) (world old) (world t) × (now (world t) ≡ now (world old)))
  asked_again f result old s t so_far call = told_then tells old s t _ _ _ so_far call (λ _ before did.
      let same : now (world t) ≡ now (world old) = did.same ∙ before.1 in
      (ran_on (world old) (world s) (world t) (DuringSave c (now (world old))) before.0 did.shelf (subst (DuringSave c (now (world old))) (sym same) (during_here c (now (world old)))), same))

  -- and then the checkpoint is saved
  pub put_next : (old s t : S) → Told tells old s (Ran (DuringSave c (now (world old))) (world old) (world s) × (now (world s) ≡ now (world old)))
      → Told tells s t (Ran (DuringSave c (now (world s))) (world s) (world t)) → Told tells old t (Ran (DuringSave c (now (world old))) (world old) (world t))
  put_next old s t so_far puts = told_then tells old s t _ _ _ so_far puts (λ _ before run.
      ran_joins (world old) (world s) (world t) (DuringSave c (now (world old))) before.0
      (subst (λ m. Ran (DuringSave c m) (world s) (world t)) before.1 run))

  pub asked_only : (old s : S) → Told tells old s (Ran (DuringSave c (now (world old))) (world old) (world s) × (now (world s) ≡ now (world old)))
      → Told tells old s (Ran (DuringSave c (now (world old))) (world old) (world s))
  asked_only old s so_far = told tells old s _ _ so_far (λ _ both. both.0)
