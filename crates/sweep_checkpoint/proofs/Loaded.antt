-- What holds while the last checkpoint is loaded.
use Rattle.std.proofs.Common.{◌≡◌, ◌≢◌, ℕ, suc, ◌+◌, ◌-◌, ◌*◌, ◌<◌, ◌≤◌, min, Bool, true, false, List, [], ◌++◌, length, take, drop, refl, sym, ap, subst, ◌∙◌, arith}
use Rattle.std.specs.Prelude.{IsTrue, Result, Ok, Some, None}
use Rattle.std.proofs.Math.Seq.{take-add}
use borrow.Rule.Slice.PartMut.{put_mid}
use Rattle.std.proofs.lemmas.Slice.{take-put_mid}
use Rattle.std.proofs.lemmas.List.{append-nil, length-take, length-drop, drop-drop, drop_all}
use Rattle.shelf_model.specs.declared.file_no.FileNo.{FileNo}
use Rattle.shelf_model.specs.declared.fault.Failed.{Failed}
use Rattle.shelf_model.specs.declared.fault.StreamFault.{StreamFault}
use Rattle.shelf_model.specs.declared.fault.StreamFault.TheVariants.{Shelf, Damaged}
use Rattle.shelf_model.specs.File.{File, firm_file}
use Rattle.shelf_model.specs.Folder.{Folder, file_in, IsImage, AreFiles}
use Rattle.shelf_model.specs.World.{Moment, World, now, file}
use Rattle.shelf_model.specs.Calls.{Told, Synced, Measured, DidRead, Copied}
use Rattle.shelf_model.specs.Moments.{Ran, Stays}
use Rattle.shelf_model.proofs.Images.{sync_images}
use Rattle.shelf_model.proofs.Runs.{told, told_then, ran_call, ran_on, ran_joins, ran_weakens, ran_end}
use Rattle.sweep_core.specs.declared.checkpoint.Checkpoint.{Checkpoint}
use Rattle.file_writes.proofs.Sure.{synced_reads}
use Rattle.file_numbers.specs.Files.{checkpoint_file, checkpoint_gate}
use Rattle.sweep_checkpoint.specs.Rules.{IsPointOf}
use Rattle.sweep_checkpoint.specs.Gated.{present, gated_count, last_of}
use Rattle.sweep_checkpoint.specs.Saves.{IsGateSure}
use Rattle.sweep_checkpoint.specs.Loads.{DuringLoad, Tells, IsLoaded, IsLoadFault, ReadWhole, IsPointAt, IsPointFault, bytes_at}

-- nothing was done yet
load_here : (step : ℕ) (m : Moment) → DuringLoad step m m
load_here step m = record { others = λ q differ. refl; reads = λ q. refl; images = λ image is_image. is_image }

-- the gate is made sure
load_synced : (step : ℕ) (result : Result Unit Failed) (w v : World) → AreFiles (now w).folder → Synced (checkpoint_gate step) result w v → DuringLoad step (now w) (now v)
load_synced step result w v are_files did = record {
  others = did.others;
  reads = λ q. synced_reads (checkpoint_gate step) q result w v did;
  images = λ image is_image. sync_images (checkpoint_gate step) result w v image are_files did is_image;
}

-- the files stay
load_stays : (step : ℕ) (old mid m : Moment) → Stays mid m → DuringLoad step old mid → DuringLoad step old m
load_stays step old mid m stays so_far = record {
  others = λ q differ. ap (λ folder. file_in folder q) stays ∙ so_far.others q differ;
  reads = λ q. ap (λ folder. (file_in folder q).bytes) stays ∙ so_far.reads q;
  images = λ image is_image. so_far.images image (subst (λ folder. IsImage folder image) stays is_image);
}

-- the gate is sure, and counts so many checkpoints
pub record IsCounted (step count : ℕ) (folder : Folder) : Type 0 where
  pub sure : IsGateSure step folder
  pub count_is : count ≡ gated_count step (present folder)

pub counted : (step count : ℕ) (w v u : World) → Synced (checkpoint_gate step) (Ok tt) w v → Measured (checkpoint_gate step) (Ok count) v u → IsCounted step count (now u).folder
counted step count w v u synced measured =
    let is : file v (checkpoint_gate step) ≡ firm_file (file w (checkpoint_gate step)).bytes = synced.ok in
    let same : file u (checkpoint_gate step) ≡ file v (checkpoint_gate step) = ap (λ (m : Moment). file_in m.folder (checkpoint_gate step)) measured.same in
    record {
      sure = same ∙ is ∙ ap (λ (x : File). firm_file x.bytes) (sym is) ∙ ap (λ (x : File). firm_file x.bytes) (sym same);
      count_is = measured.ok ∙ ap (λ (x : File). length x.bytes) (sym same);
    }

pub counted_stays : (step count : ℕ) (old new : Folder) → new ≡ old → IsCounted step count old → IsCounted step count new
counted_stays step count old new same is = subst (IsCounted step count) (sym same) is

-- nothing is gated
pub loaded_none : (step count : ℕ) (folder : Folder) → count ≡ 0 → IsCounted step count folder → IsLoaded step folder None
loaded_none step count folder none is = record {
  sure = is.sure;
  last = subst (λ k. Tells step (last_of k (present folder (checkpoint_file step))) None) (sym none ∙ is.count_is) tt;
}

-- the last one was read
pub loaded_some : (step count at : ℕ) (folder : Folder) (c : Checkpoint) → count ≢ 0 → at ≡ 16384 * (count - 1) → IsCounted step count folder
    → IsPointAt step at (present folder (checkpoint_file step)) c → IsLoaded step folder (Some c)
loaded_some step count at folder c some place is found = record {
  sure = is.sure;
  last =
      let next : suc (count - 1) ≡ count = omega (arith, some) in
      subst (λ k. Tells step (last_of k (present folder (checkpoint_file step))) (Some c)) (next ∙ is.count_is)
      (subst (λ p. IsPointOf step (take 16384 (drop p (present folder (checkpoint_file step)))) c) place found);
}

-- it breaks a rule
pub load_fault : (step count at : ℕ) (old mid : FileNo → List ℕ) (fault : StreamFault) → count ≢ 0 → at ≡ 16384 * (count - 1) → ((q : FileNo) → mid q ≡ old q) → count ≡ gated_count step mid
    → IsPointFault step at (mid (checkpoint_file step)) fault → IsLoadFault step old fault
load_fault step count at old mid Shelf some place same is found = tt
load_fault step count at old mid (Damaged f p) some place same is found =
    let gate : count ≡ gated_count step old = is ∙ ap length (same (checkpoint_gate step)) in
    let next : gated_count step old ≡ suc (count - 1) = sym gate ∙ (let e : count ≡ suc (count - 1) = omega (arith, some) in e) in
    let bytes : List ℕ = bytes_at at (mid (checkpoint_file step)) in (
      found.0,
      found.1 ∙ place ∙ ap (λ k. 16384 * (k - 1)) gate,
      (
        bytes,
        ap (λ k. last_of k (old (checkpoint_file step))) next ∙ (λ i. Some (take 16384 (drop (sym place i) (sym (same (checkpoint_file step)) i)))),
        found.2,
      ),
    )

-- a file that ends before has no checkpoint there
pub none_short : (step at : ℕ) (bytes : List ℕ) → length bytes < at + 16384 → (c : Checkpoint) → ¬ (IsPointOf step (bytes_at at bytes) c)
none_short step at bytes short c is =
    let whole : length (bytes_at at bytes) ≡ 16384 = is.whole in
    let cut : length (bytes_at at bytes) ≡ min 16384 (length (drop at bytes)) = length-take 16384 (drop at bytes) in
    let behind : length (drop at bytes) ≡ length bytes - at = length-drop at bytes in
    omega arith

-- bytes that are none
pub none_there : (step : ℕ) (bytes read : List ℕ) → read ≡ bytes → ((c : Checkpoint) → IsPointOf step read c → None ≡ Some c) → (c : Checkpoint) → ¬ (IsPointOf step bytes c)
none_there step bytes read same only c is = let differ : None ≡ Some c = only c (subst (λ b. IsPointOf step b c) (sym same) is) in cc

-- a piece more was read
pub read_piece : (source bytes before after : List ℕ) (at done next got : ℕ) → done ≤ next → next ≤ length bytes → length before ≡ next - done → next - done ≤ got
    → take done bytes ≡ take done (drop at source) → Copied source (at + done) before after got
    → take next (put_mid done (next - done) bytes after) ≡ take next (drop at source)
read_piece source bytes before after at done next got from within room whole so_far did =
    let count : got ≡ min (length before) (length source - (at + done)) = did.count in
    let all : got ≡ next - done = omega arith in
    let rest : drop got before ≡ [] = drop_all got before (omega arith) in
    let piece : after ≡ take (next - done) (drop (at + done) source) =
    did.bytes_are ∙ ap (λ xs. take got (drop (at + done) source) ++ xs) rest ∙ append-nil (take got (drop (at + done) source)) ∙ ap (λ n. take n (drop (at + done) source)) all in
    let behind : length (drop (at + done) source) ≡ length source - (at + done) = length-drop (at + done) source in
    let cut : length (take (next - done) (drop (at + done) source)) ≡ min (next - done) (length (drop (at + done) source)) = length-take (next - done) (drop (at + done) source) in
    let long : length after ≡ length (take (next - done) (drop (at + done) source)) = ap length piece in
    let together : done + (next - done) ≡ next = omega arith in
    take-put_mid done (next - done) bytes after next (omega arith) (omega arith)
    ∙ (λ i. so_far i ++ piece i)
    ∙ ap (λ xs. take done (drop at source) ++ take (next - done) xs) (sym (drop-drop done at source))
    ∙ sym (take-add done (next - done) (drop at source)) ∙ ap (λ n. take n (drop at source)) together

module _ {S : Type 0} (tells : S → Bool) (world : S → World) (step : ℕ) where
  -- the gate is made sure, the first call
  pub synced_first : (f : FileNo) (result : Result Unit Failed) (old s : S) → f ≡ checkpoint_gate step → ((x : S) → IsTrue (tells x) → AreFiles (now (world x)).folder)
      → Told tells old s (Synced f result (world old) (world s)) → Told tells old s (Ran (DuringLoad step (now (world old))) (world old) (world s))
  synced_first f result old s gate files call = told tells old s _ _ call (λ tells_old did.
      ran_call (world old) (world s) (DuringLoad step (now (world old))) did.shelf (load_here step (now (world old)))
      (load_synced step result (world old) (world s) (files old tells_old) (subst (λ q. Synced q result (world old) (world s)) gate did)))

  -- a run that only reads
  pub reads_on : (old s t : S) → Told tells old s (Ran (DuringLoad step (now (world old))) (world old) (world s)) → Told tells s t (Ran (Stays (now (world s))) (world s) (world t))
      → Told tells old t (Ran (DuringLoad step (now (world old))) (world old) (world t))
  reads_on old s t so_far reads = told_then tells old s t _ _ _ so_far reads (λ tells_old run did.
      ran_joins (world old) (world s) (world t) (DuringLoad step (now (world old))) run
      (ran_weakens (world s) (world t) (Stays (now (world s))) (DuringLoad step (now (world old)))
      (λ m stays. load_stays step (now (world old)) (now (world s)) m stays (ran_end (world old) (world s) (DuringLoad step (now (world old))) run)) did))

  -- a length is asked
  pub asked_on : (f : FileNo) (result : Result ℕ Failed) (old s t : S) → Told tells old s (Ran (DuringLoad step (now (world old))) (world old) (world s)) → Told tells s t (Measured f result (world s) (world t))
      → Told tells old t (Ran (DuringLoad step (now (world old))) (world old) (world t))
  asked_on f result old s t so_far call = told_then tells old s t _ _ _ so_far call (λ tells_old run did.
      ran_on (world old) (world s) (world t) (DuringLoad step (now (world old))) run did.shelf
      (load_stays step (now (world old)) (now (world s)) (now (world t)) (ap (λ (m : Moment). m.folder) did.same) (ran_end (world old) (world s) (DuringLoad step (now (world old))) run)))

  -- the gate is sure and counted
  counted_so_far : (f : FileNo) (count : ℕ) (old s t : S) → f ≡ checkpoint_gate step → Told tells old s (Synced f (Ok tt) (world old) (world s)) → Told tells s t (Measured f (Ok count) (world s) (world t))
      → IsTrue (tells t) → IsCounted step count (now (world t)).folder
  counted_so_far f count old s t gate synced measured tells_new =
      counted step count (world old) (world s) (world t) (subst (λ q. Synced q (Ok tt) (world old) (world s)) gate (synced.did (measured.before tells_new)))
      (subst (λ q. Measured q (Ok count) (world s) (world t)) gate (measured.did tells_new))

  pub load_none : (f : FileNo) (count : ℕ) (old s t : S) → f ≡ checkpoint_gate step → count ≡ 0 → Told tells old s (Synced f (Ok tt) (world old) (world s))
      → Told tells s t (Measured f (Ok count) (world s) (world t)) → IsTrue (tells t) → IsLoaded step (now (world t)).folder None
  load_none f count old s t gate none synced measured tells_new = loaded_none step count (now (world t)).folder none (counted_so_far f count old s t gate synced measured tells_new)

  pub load_some : (f : FileNo) (count at : ℕ) (c : Checkpoint) (old s t u : S) → f ≡ checkpoint_gate step → count ≢ 0 → at ≡ 16384 * (count - 1) → Told tells old s (Synced f (Ok tt) (world old) (world s))
      → Told tells s t (Measured f (Ok count) (world s) (world t)) → Told tells t u (Ran (Stays (now (world t))) (world t) (world u))
      → (IsTrue (tells u) → IsPointAt step at (file (world t) (checkpoint_file step)).bytes c) → IsTrue (tells u) → IsLoaded step (now (world u)).folder (Some c)
  load_some f count at c old s t u gate some place synced measured reads found tells_new =
      let stays : (now (world u)).folder ≡ (now (world t)).folder = ran_end (world t) (world u) (Stays (now (world t))) (reads.did tells_new) in
      let is : IsCounted step count (now (world t)).folder = counted_so_far f count old s t gate synced measured (reads.before tells_new) in
      loaded_some step count at (now (world u)).folder c some place (counted_stays step count (now (world t)).folder (now (world u)).folder stays is)
      (subst (λ d. IsPointAt step at (file_in d (checkpoint_file step)).bytes c) (sym stays) (found tells_new))

  pub load_fails : (f : FileNo) (count at : ℕ) (fault : StreamFault) (old s t u : S) → f ≡ checkpoint_gate step → count ≢ 0 → at ≡ 16384 * (count - 1) → ((x : S) → IsTrue (tells x) → AreFiles (now (world x)).folder)
      → Told tells old s (Synced f (Ok tt) (world old) (world s))
      → Told tells s t (Measured f (Ok count) (world s) (world t)) → Told tells t u (Ran (Stays (now (world t))) (world t) (world u))
      → (IsTrue (tells u) → IsPointFault step at (file (world t) (checkpoint_file step)).bytes fault) → IsTrue (tells u) → IsLoadFault step (present (now (world old)).folder) fault
  load_fails f count at fault old s t u gate some place files synced measured reads found tells_new =
      let tells_mid : IsTrue (tells t) = reads.before tells_new in
      let run = (asked_on f (Ok count) old s t (synced_first f (Ok tt) old s gate files synced) measured).did tells_mid in
      let during : DuringLoad step (now (world old)) (now (world t)) = ran_end (world old) (world t) (DuringLoad step (now (world old))) run in
      let is : IsCounted step count (now (world t)).folder = counted_so_far f count old s t gate synced measured tells_mid in
      load_fault step count at (present (now (world old)).folder) (present (now (world t)).folder) fault some place during.reads is.count_is (found tells_new)

-- what was read is what stands there
read_all : (source read : List ℕ) (at : ℕ) (whole : Bool) → length read ≡ 16384 → whole ≡ true → ReadWhole source at read whole → read ≡ bytes_at at source
read_all source read at whole long is did = subst (ReadWhole source at read) is did ∙ ap (λ n. take n (drop at source)) long

-- the file ends before
pub short_fault : (step at : ℕ) (source read : List ℕ) (f : FileNo) (whole : Bool) → f ≡ checkpoint_file step → length read ≡ 16384 → whole ≡ false → ReadWhole source at read whole → IsPointFault step at source (Damaged f at)
short_fault step at source read f whole points long is did =
    let short : length source < at + length read = subst (ReadWhole source at read) is did in
    (points, refl, none_short step at source (omega (arith, short, long)))

-- the bytes are no checkpoint
pub rule_fault : (step at : ℕ) (source read : List ℕ) (f : FileNo) (whole : Bool) → f ≡ checkpoint_file step → length read ≡ 16384 → whole ≡ true → ReadWhole source at read whole
    → ((c : Checkpoint) → IsPointOf step read c → None ≡ Some c) → IsPointFault step at source (Damaged f at)
rule_fault step at source read f whole points long is did only =
    (points, refl, none_there step (bytes_at at source) read (read_all source read at whole long is did) only)

-- they are one
pub point_there : (step at : ℕ) (source read : List ℕ) (whole : Bool) (c : Checkpoint) → length read ≡ 16384 → whole ≡ true → ReadWhole source at read whole → IsPointOf step read c → IsPointAt step at source c
point_there step at source read whole c long is did found = subst (λ b. IsPointOf step b c) (read_all source read at whole long is did) found

-- a read leaves the files
pub stays_on : {S : Type 0} (tells : S → Bool) (world : S → World) (f : FileNo) (at : ℕ) (before after : List ℕ) (result : Result ℕ Failed) (old s t : S)
    → Told tells old s (Ran (Stays (now (world old))) (world old) (world s)) → Told tells s t (DidRead f at before after result (world s) (world t))
    → Told tells old t (Ran (Stays (now (world old))) (world old) (world t))
stays_on tells world f at before after result old s t so_far call = told_then tells old s t _ _ _ so_far call (λ tells_old run did.
    ran_on (world old) (world s) (world t) (Stays (now (world old))) run did.shelf
    (ap (λ (m : Moment). m.folder) did.same ∙ ran_end (world old) (world s) (Stays (now (world old))) run))
