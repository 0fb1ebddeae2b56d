-- What holds of a file at each moment while it is written.
use Rattle.std.proofs.Common.{◌≡◌, ◌≢◌, ℕ, ◌+◌, ◌-◌, ◌≤◌, min, max, Bool, List, [], ◌++◌, length, take, drop, refl, sym, ap, ◌∙◌, inl, inr, append_assoc, arith}
use Rattle.std.specs.Prelude.{IsTrue, Result, Ok, Err, OnOk}
use Rattle.std.proofs.Math.Seq.{take-add}
use Rattle.std.proofs.lemmas.List.{length-take, length-drop, length-append, length-take-le, append-nil, take-take, take-append-le, take_all}
use Rattle.shelf_model.specs.declared.file_no.FileNo.{FileNo}
use Rattle.shelf_model.specs.declared.fault.Failed.{Failed}
use Rattle.shelf_model.specs.File.{File, IsKept}
use Rattle.shelf_model.specs.Folder.{file_in}
use Rattle.shelf_model.specs.World.{Moment, World, now, file}
use Rattle.shelf_model.specs.Calls.{Told, Appended, WasCut, Synced}
use Rattle.shelf_model.specs.Moments.{Ran}
use Rattle.shelf_model.proofs.Files.{kept_append, kept_cut, kept_sync, append_failed, same_files}
use Rattle.shelf_model.proofs.Runs.{told, told_then, ran_call, ran_on, ran_joins, ran_weakens, ran_end}
use Rattle.file_writes.specs.Writes.{Growing, Replacing}
use Rattle.file_writes.proofs.Sure.{synced_reads}

-- how far an append reaches, whatever the answer
append_reach : (f : FileNo) (piece : List ℕ) (result : Result Unit Failed) (old new : World) → Appended f piece result old new
    → (file new f).reach ≤ max (file old f).reach (length (file old f).bytes + length piece)
append_reach f piece (Ok x) old new did = let reach : (file new f).reach ≡ max (file old f).reach (length (file old f).bytes + length piece) = ap (λ (y : File). y.reach) did.ok in omega arith
append_reach f piece (Err e) old new did = elim (append_failed f piece e old new did) [
  | inl torn ↦ let reach : (file new f).reach ≡ max (file old f).reach (length (file old f).bytes + length piece) = torn.reach_is in omega arith
  | inr same ↦ let reach : (file new f).reach ≡ (file old f).reach = ap (λ (y : File). y.reach) (same_files f old new same) in omega arith
]

-- a sync reaches no further than the file did
synced_reach : (f : FileNo) (most : ℕ) (result : Result Unit Failed) (w v u : World) → length (file v f).bytes ≤ most → (file v f).reach ≤ max (file w f).reach most → Synced f result v u → (file u f).reach ≤ max (file w f).reach most
synced_reach f most (Ok x) w v u long before did = let reach : (file u f).reach ≡ length (file v f).bytes = ap (λ (y : File). y.reach) did.ok in omega arith
synced_reach f most (Err e) w v u long before did = let reach : (file u f).reach ≡ (file v f).reach = ap (λ (y : File). y.reach) (same_files f v u did.failed) in omega arith

-- nothing was put at the end yet
pub growing_here : (f : FileNo) (n : ℕ) (m : Moment) → Growing f n m m
growing_here f n m = record { others = λ q differ. refl; reads = ([], sym (append-nil (file_in m.folder f).bytes)); kept = λ front kept. kept; reach = omega arith }

-- what an append puts at the end, whatever the answer
append_reads : (f : FileNo) (piece : List ℕ) (result : Result Unit Failed) (old new : World) → Appended f piece result old new
    → (more : List ℕ) × ((file new f).bytes ≡ (file old f).bytes ++ more)
append_reads f piece (Ok x) old new did = (piece, ap (λ (y : File). y.bytes) did.ok)
append_reads f piece (Err e) old new did = elim (append_failed f piece e old new did) [
  | inl torn ↦ (torn.piece, torn.bytes_are)
  | inr same ↦ ([], ap (λ (y : File). y.bytes) (same_files f old new same) ∙ sym (append-nil (file old f).bytes))
]

-- a piece more
growing_on : (f : FileNo) (n : ℕ) (piece : List ℕ) (result : Result Unit Failed) (w v u : World) → length (file v f).bytes + length piece ≤ length (file w f).bytes + n
    → Growing f n (now w) (now v) → Appended f piece result v u → Growing f n (now w) (now u)
growing_on f n piece result w v u fits so_far did = record {
  others = λ q differ. did.others q differ ∙ so_far.others q differ;
  reads =
      let puts = append_reads f piece result v u did in (
        so_far.reads.0 ++ puts.0,
        puts.1 ∙ ap (λ xs. xs ++ puts.0) so_far.reads.1 ∙ append_assoc (file w f).bytes so_far.reads.0 puts.0,
      );
  kept = λ front kept. kept_append f piece result v u front did (so_far.kept front kept);
  reach =
      let before : (file v f).reach ≤ max (file w f).reach (length (file w f).bytes + n) = so_far.reach in
      let call : (file u f).reach ≤ max (file v f).reach (length (file v f).bytes + length piece) = append_reach f piece result v u did in
      omega arith;
}

-- the bytes from done up to next, put behind the first ones
put_more : (bytes before first after : List ℕ) (done next : ℕ) → done ≤ next → first ≡ before ++ take done bytes → after ≡ first ++ take (next - done) (drop done bytes) → after ≡ before ++ take next bytes
put_more bytes before first after done next from has puts =
    let together : done + (next - done) ≡ next = omega arith in
    puts ∙ ap (λ xs. xs ++ take (next - done) (drop done bytes)) has ∙ append_assoc before (take done bytes) (take (next - done) (drop done bytes))
    ∙ ap (λ xs. before ++ xs) (sym (take-add done (next - done) bytes)) ∙ ap (λ k. before ++ take k bytes) together

put_ok : (f : FileNo) (bytes : List ℕ) (done next : ℕ) (result : Result Unit Failed) (w v u : World) → done ≤ next → (file v f).bytes ≡ (file w f).bytes ++ take done bytes
    → Appended f (take (next - done) (drop done bytes)) result v u → OnOk result ((file u f).bytes ≡ (file w f).bytes ++ take next bytes)
put_ok f bytes done next (Ok x) w v u from has did = put_more bytes (file w f).bytes (file v f).bytes (file u f).bytes done next from has (ap (λ (y : File). y.bytes) did.ok)
put_ok f bytes done next (Err e) w v u from has did = tt

-- so many of the bytes were put at the end, and then as many more as the next piece has
pub grow_on : {S : Type 0} (tells : S → Bool) (world : S → World) (f : FileNo) (bytes : List ℕ) (done next : ℕ) (result : Result Unit Failed) (old s t : S) → done ≤ next → next ≤ length bytes
    → Told tells old s (Ran (Growing f (length bytes) (now (world old))) (world old) (world s) × ((file (world s) f).bytes ≡ (file (world old) f).bytes ++ take done bytes))
    → Told tells s t (Appended f (take (next - done) (drop done bytes)) result (world s) (world t))
    → Told tells old t (Ran (Growing f (length bytes) (now (world old))) (world old) (world t) × OnOk result ((file (world t) f).bytes ≡ (file (world old) f).bytes ++ take next bytes))
grow_on {S} tells world f bytes done next result old s t from within so_far call =
    let P : Moment → Type 0 = Growing f (length bytes) (now (world old)) in
    told_then tells old s t (Ran P (world old) (world s) × ((file (world s) f).bytes ≡ (file (world old) f).bytes ++ take done bytes))
    (Appended f (take (next - done) (drop done bytes)) result (world s) (world t))
    (Ran P (world old) (world t) × OnOk result ((file (world t) f).bytes ≡ (file (world old) f).bytes ++ take next bytes)) so_far call
    (λ tells_old before did.
    let stood : length (file (world s) f).bytes ≡ length (file (world old) f).bytes + length (take done bytes) = ap length before.1 ∙ length-append (file (world old) f).bytes (take done bytes) in
    let first : length (take done bytes) ≡ min done (length bytes) = length-take done bytes in
    let piece : length (take (next - done) (drop done bytes)) ≡ min (next - done) (length (drop done bytes)) = length-take (next - done) (drop done bytes) in
    let rest : length (drop done bytes) ≡ length bytes - done = length-drop done bytes in
    let fits : length (file (world s) f).bytes + length (take (next - done) (drop done bytes)) ≤ length (file (world old) f).bytes + length bytes = omega arith in
    let here : P (now (world t)) = growing_on f (length bytes) (take (next - done) (drop done bytes)) result (world old) (world s) (world t) fits (ran_end (world old) (world s) P before.0) did in
    (ran_on (world old) (world s) (world t) P before.0 did.shelf here, put_ok f bytes done next result (world old) (world s) (world t) from before.1 did))

-- the file was cut at the place
pub record CutAway (f : FileNo) (at : ℕ) (w v : World) : Type 0 where
  pub others : (q : FileNo) → q ≢ f → file v q ≡ file w q
  pub kept : (front : List ℕ) → length front ≤ at → IsKept front (file w f) → IsKept front (file v f)
  pub bytes_are : (file v f).bytes ≡ take at (file w f).bytes
  pub reach_is : (file v f).reach ≡ (file w f).reach

cut_away : (f : FileNo) (at : ℕ) (w v : World) → WasCut f at (Ok tt) w v → CutAway f at w v
cut_away f at w v did = record {
  others = did.others;
  kept = λ front behind kept. kept_cut f at (Ok tt) w v front behind did kept;
  bytes_are = ap (λ (y : File). y.bytes) did.ok;
  reach_is = ap (λ (y : File). y.reach) did.ok;
}

-- nothing was replaced yet
pub replacing_here : (f : FileNo) (at n : ℕ) (m : Moment) → Replacing f at n m m
replacing_here f at n m = record { others = λ q differ. refl; reads = refl; kept = λ front behind kept. kept; reach = omega arith }

-- while the bytes are put behind the cut
replacing_grows : (f : FileNo) (at n : ℕ) (w v : World) (m : Moment) → at ≤ length (file w f).bytes → CutAway f at w v → Growing f n (now v) m → Replacing f at n (now w) m
replacing_grows f at n w v m within cut growing = record {
  others = λ q differ. growing.others q differ ∙ cut.others q differ;
  reads =
      let long : length (file v f).bytes ≡ at = ap length cut.bytes_are ∙ length-take-le at (file w f).bytes within in
      ap (take at) growing.reads.1 ∙ take-append-le at (file v f).bytes growing.reads.0 (omega (arith, long)) ∙ take_all at (file v f).bytes (omega (arith, long)) ∙ cut.bytes_are;
  kept = λ front behind kept. growing.kept front (cut.kept front behind kept);
  reach =
      let grown : (file_in m.folder f).reach ≤ max (file v f).reach (length (file v f).bytes + n) = growing.reach in
      let before : (file v f).reach ≡ (file w f).reach = cut.reach_is in
      let long : length (file v f).bytes ≡ min at (length (file w f).bytes) = ap length cut.bytes_are ∙ length-take at (file w f).bytes in
      omega arith;
}

-- and when it is made sure
replacing_synced : (f : FileNo) (at n : ℕ) (result : Result Unit Failed) (w v u : World) → length (file v f).bytes ≤ at + n → Replacing f at n (now w) (now v) → Synced f result v u → Replacing f at n (now w) (now u)
replacing_synced f at n result w v u long so_far did = record {
  others = λ q differ. did.others q differ ∙ so_far.others q differ;
  reads = ap (take at) (synced_reads f f result v u did) ∙ so_far.reads;
  kept = λ front behind kept. kept_sync f result v u front did (so_far.kept front behind kept);
  reach = let before : (file v f).reach ≤ max (file w f).reach (at + n) = so_far.reach in synced_reach f (at + n) result w v u long before did;
}

-- a cut that failed
cut_reads : (f : FileNo) (at : ℕ) (e : Failed) (w v : World) → WasCut f at (Err e) w v → take at (file v f).bytes ≡ take at (file w f).bytes
cut_reads f at e w v did = elim did.failed.which [
  | inl same ↦ ap (take at) same
  | inr cut ↦ ap (take at) cut ∙ take-take at at (file w f).bytes (omega arith)
]

pub not_cut : {S : Type 0} (tells : S → Bool) (world : S → World) (f : FileNo) (at n : ℕ) (e : Failed) (old s : S)
    → Told tells old s (WasCut f at (Err e) (world old) (world s)) → Told tells old s (Ran (Replacing f at n (now (world old))) (world old) (world s))
not_cut tells world f at n e old s cut = told tells old s _ _ cut (λ _ did.
    ran_call (world old) (world s) (Replacing f at n (now (world old))) did.shelf (replacing_here f at n (now (world old))) (record {
      others = did.others;
      reads = cut_reads f at e (world old) (world s) did;
      kept = λ front behind kept. kept_cut f at (Err e) (world old) (world s) front behind did kept;
      reach = let same : (file (world s) f).reach ≡ (file (world old) f).reach = did.failed.reach_is in omega (arith, same);
    }))

-- a cut, and the bytes put behind it
pub replaced_so_far : {S : Type 0} (tells : S → Bool) (world : S → World) (f : FileNo) (at n : ℕ) (old s t : S) → (IsTrue (tells old) → at ≤ length (file (world old) f).bytes)
    → Told tells old s (WasCut f at (Ok tt) (world old) (world s)) → Told tells s t (Ran (Growing f n (now (world s))) (world s) (world t))
    → Told tells old t (Ran (Replacing f at n (now (world old))) (world old) (world t) × CutAway f at (world old) (world s))
replaced_so_far tells world f at n old s t within cut grown =
    let P : Moment → Type 0 = Replacing f at n (now (world old)) in
    told_then tells old s t (WasCut f at (Ok tt) (world old) (world s)) (Ran (Growing f n (now (world s))) (world s) (world t)) (Ran P (world old) (world t) × CutAway f at (world old) (world s)) cut grown
    (λ tells_old did run.
    let away : CutAway f at (world old) (world s) = cut_away f at (world old) (world s) did in
    let grows : (m : Moment) → Growing f n (now (world s)) m → P m = λ m growing. replacing_grows f at n (world old) (world s) m (within tells_old) away growing in (
      ran_joins (world old) (world s) (world t) P
          (ran_call (world old) (world s) P did.shelf (replacing_here f at n (now (world old))) (grows (now (world s)) (growing_here f n (now (world s)))))
          (ran_weakens (world s) (world t) (Growing f n (now (world s))) P grows run),
      away,
    ))

-- and the file made sure
pub replaced : {S : Type 0} (tells : S → Bool) (world : S → World) (f : FileNo) (at : ℕ) (bytes : List ℕ) (result : Result Unit Failed) (old s t u : S) → (IsTrue (tells old) → at ≤ length (file (world old) f).bytes)
    → Told tells old s (WasCut f at (Ok tt) (world old) (world s)) → Told tells s t (Ran (Growing f (length bytes) (now (world s))) (world s) (world t))
    → (IsTrue (tells t) → (file (world t) f).bytes ≡ (file (world s) f).bytes ++ bytes)
    → Told tells t u (Synced f result (world t) (world u))
    → Told tells old u (Ran (Replacing f at (length bytes) (now (world old))) (world old) (world u))
replaced tells world f at bytes result old s t u within cut grown put synced =
    let P : Moment → Type 0 = Replacing f at (length bytes) (now (world old)) in
    let so_far = replaced_so_far tells world f at (length bytes) old s t within cut grown in
    record {
      before = λ tells_new. so_far.before (synced.before tells_new);
      did = λ tells_new.
          let tells_mid : IsTrue (tells t) = synced.before tells_new in
          let both = so_far.did tells_mid in
          let did = synced.did tells_new in
          let away : CutAway f at (world old) (world s) = both.1 in
          let stood : length (file (world t) f).bytes ≡ length (file (world s) f).bytes + length bytes = ap length (put tells_mid) ∙ length-append (file (world s) f).bytes bytes in
          let front : length (file (world s) f).bytes ≡ min at (length (file (world old) f).bytes) = ap length away.bytes_are ∙ length-take at (file (world old) f).bytes in
          let long : length (file (world t) f).bytes ≤ at + length bytes = omega arith in
          ran_on (world old) (world t) (world u) P both.0 did.shelf
          (replacing_synced f at (length bytes) result (world old) (world t) (world u) long (ran_end (world old) (world t) P both.0) did);
    }

-- what was put at the end is made sure
growing_synced : (f : FileNo) (n : ℕ) (result : Result Unit Failed) (w v u : World) → length (file v f).bytes ≤ length (file w f).bytes + n → Growing f n (now w) (now v) → Synced f result v u → Growing f n (now w) (now u)
growing_synced f n result w v u long so_far did = record {
  others = λ q differ. did.others q differ ∙ so_far.others q differ;
  reads = (so_far.reads.0, synced_reads f f result v u did ∙ so_far.reads.1);
  kept = λ front kept. kept_sync f result v u front did (so_far.kept front kept);
  reach = let before : (file v f).reach ≤ max (file w f).reach (length (file w f).bytes + n) = so_far.reach in synced_reach f (length (file w f).bytes + n) result w v u long before did;
}

-- one piece is put at the end
grown : (f : FileNo) (piece : List ℕ) (result : Result Unit Failed) (w v : World) → Appended f piece result w v → Growing f (length piece) (now w) (now v)
grown f piece result w v did = growing_on f (length piece) piece result w w v (omega arith) (growing_here f (length piece) (now w)) did

pub grown_once : {S : Type 0} (tells : S → Bool) (world : S → World) (f : FileNo) (piece : List ℕ) (result : Result Unit Failed) (old s : S)
    → Told tells old s (Appended f piece result (world old) (world s)) → Told tells old s (Ran (Growing f (length piece) (now (world old))) (world old) (world s))
grown_once tells world f piece result old s call = told tells old s _ _ call (λ _ did.
    ran_call (world old) (world s) (Growing f (length piece) (now (world old))) did.shelf (growing_here f (length piece) (now (world old))) (grown f piece result (world old) (world s) did))

-- and made sure
pub grown_sure : {S : Type 0} (tells : S → Bool) (world : S → World) (f : FileNo) (piece : List ℕ) (result : Result Unit Failed) (old s t : S)
    → Told tells old s (Appended f piece (Ok tt) (world old) (world s)) → Told tells s t (Synced f result (world s) (world t))
    → Told tells old t (Ran (Growing f (length piece) (now (world old))) (world old) (world t))
grown_sure tells world f piece result old s t call synced =
    told_then tells old s t (Appended f piece (Ok tt) (world old) (world s)) (Synced f result (world s) (world t)) (Ran (Growing f (length piece) (now (world old))) (world old) (world t)) call synced
    (λ _ did sync.
    let P : Moment → Type 0 = Growing f (length piece) (now (world old)) in
    let here : P (now (world s)) = grown f piece (Ok tt) (world old) (world s) did in
    let long : length (file (world s) f).bytes ≡ length (file (world old) f).bytes + length piece = ap (λ (y : File). length y.bytes) did.ok ∙ length-append (file (world old) f).bytes piece in
    ran_on (world old) (world s) (world t) P
    (ran_call (world old) (world s) P did.shelf (growing_here f (length piece) (now (world old))) here) sync.shelf
    (growing_synced f (length piece) result (world old) (world s) (world t) (omega arith) here sync))
