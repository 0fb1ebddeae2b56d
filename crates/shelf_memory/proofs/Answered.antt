-- What the calls of a folder in memory owe, from what they did.
use Rattle.std.proofs.Common.{◌≡◌, ◌⊎◌, ℕ, ◌+◌, ◌<◌, ◌≤◌, max, true, false, List, [], length, sym, ap, subst, ◌∙◌, inl, inr, arith, append-nil}
use Rattle.std.specs.Prelude.{IsTrue, Result, Ok, Err, OnOk, OnErr, IsErr}
use Rattle.std.proofs.lemmas.Bool.{ltb-true}
use Rattle.shelf_model.specs.declared.file_no.FileNo.{FileNo}
use Rattle.shelf_model.specs.declared.fault.Failed.{Failed}
use Rattle.shelf_model.specs.File.{File, appended}
use Rattle.shelf_model.specs.World.{now, file}
use Rattle.shelf_model.specs.Calls.{Told, OnShelf, SameBut, Measured, DidRead, Copied, Appended, longest}
use Rattle.shelf_model.specs.Faults.{Rose}
use Rattle.shelf_model.proofs.Files.{same_files}
use Rattle.shelf_memory.specs.declared.bench.Bench.{Bench}
use Rattle.shelf_memory.specs.Benches.{tells_of, world_of, file_at, FailsExactly}
use Rattle.shelf_memory.specs.Laws.{present_file}

-- what stands in a file of a station that tells
pub present : (b : Bench) → IsTrue (tells_of b) → (f : FileNo) → file (world_of b) f ≡ file_at b f
present b tells f = present_file b.disk (ltb-true _ _ tells) f

-- what a call that changed nothing did
abbrev pub Looked : Bench → Bench → Type 0
Looked old new = OnShelf (world_of old) (world_of new) × (now (world_of new) ≡ now (world_of old))

-- what a call that changed one file did
abbrev pub Reached : FileNo → (File → File) → Bench → Bench → Type 0
Reached f change old new = OnShelf (world_of old) (world_of new) × SameBut f (world_of old) (world_of new) × (file (world_of new) f ≡ change (file (world_of old) f))

pub measured : (old new : Bench) (f : FileNo) (size : ℕ) → size ≡ length (file_at old f).bytes → Told tells_of old new (Looked old new)
    → Told tells_of old new (Measured f (Ok size) (world_of old) (world_of new))
measured old new f size is call = record {
  before = call.before;
  did = λ tells. record {
    shelf = (call.did tells).0;
    same = (call.did tells).1;
    ok = is ∙ ap (λ (x : File). length x.bytes) (sym (present old (call.before tells) f));
  };
}

pub did_read : (old new : Bench) (f : FileNo) (at k : ℕ) (source before after : List ℕ) → source ≡ (file_at new f).bytes → Copied source at before after k
    → Told tells_of old new (Looked old new) → Told tells_of old new (DidRead f at before after (Ok k) (world_of old) (world_of new))
did_read old new f at k source before after is copied call = record {
  before = call.before;
  did = λ tells. record {
    shelf = (call.did tells).0;
    same = (call.did tells).1;
    ok = subst (λ bytes. Copied bytes at before after k)
        (is ∙ ap (λ (x : File). x.bytes) (sym (present new tells f) ∙ same_files f (world_of old) (world_of new) (call.did tells).1)) copied;
  };
}

-- nothing is owed of the other answer
no_ok : {T E : Type 0} (result : Result T E) (X : Type 0) → IsErr result → OnOk result X
no_ok (Ok x) X failed = let wrong : false ≡ true = failed in cc
no_ok (Err e) X failed = tt

pub on_err : {T E : Type 0} (result : Result T E) (X : Type 0) → X → OnErr result X
on_err (Ok x) X holds = tt
on_err (Err e) X holds = holds

pub on_ok : {T E : Type 0} (result : Result T E) (X : Type 0) → X → OnOk result X
on_ok (Ok x) X holds = holds
on_ok (Err e) X holds = tt

either : {T : Type 0} (A B : Type 0) (result : Result T Failed) (C : Type 0) → (A → B) → OnErr result (A ⊎ C) → OnErr result (B ⊎ C)
either A B (Ok x) C there holds = tt
either A B (Err e) C there holds = elim holds [ inl a ↦ inl (there a) | inr c ↦ inr c ]

-- an append past the longest file
pub append_refused : (old new : Bench) (f : FileNo) (at : ℕ) (piece : List ℕ) (result : Result Unit Failed)
    → (IsTrue (tells_of old) → at ≡ length (file (world_of old) f).bytes) → longest < max at (length (file_at old f).bytes) + length piece
    → IsErr result → Told tells_of old new (Looked old new) → Told tells_of old new (Appended f piece result (world_of old) (world_of new))
append_refused old new f at piece result at_end past failed call = record {
  before = call.before;
  did = λ tells. record {
    shelf = (call.did tells).0;
    others = λ q _. same_files q (world_of old) (world_of new) (call.did tells).1;
    ok = no_ok result _ failed;
    failed = on_err result _ (λ fits.
        let ends : at ≡ length (file (world_of old) f).bytes = at_end (call.before tells) in
        let stands : length (file (world_of old) f).bytes ≡ length (file_at old f).bytes = ap (λ (x : File). length x.bytes) (present old (call.before tells) f) in
        absurd (omega (arith, past, fits, ends, stands)));
    refused = λ _. (call.did tells).1;
  };
}

-- an append that failed, and put nothing
pub append_torn : (old new : Bench) (f : FileNo) (piece : List ℕ) (result : Result Unit Failed) → length (file_at old f).bytes + length piece ≤ longest → IsErr result
    → Told tells_of old new (Reached f (λ x. record { bytes = x.bytes; firm = x.firm; reach = max x.reach (length x.bytes + length piece) }) old new)
    → Told tells_of old new (Appended f piece result (world_of old) (world_of new))
append_torn old new f piece result fits failed call = record {
  before = call.before;
  did = λ tells. record {
    shelf = (call.did tells).0;
    others = (call.did tells).1;
    ok = no_ok result _ failed;
    failed = on_err result _ (λ _. record {
      piece = [];
      short = omega arith;
      bytes_are = ap (λ (x : File). x.bytes) (call.did tells).2 ∙ sym (append-nil (file (world_of old) f).bytes);
      firm_is = ap (λ (x : File). x.firm) (call.did tells).2;
      reach_is = ap (λ (x : File). x.reach) (call.did tells).2;
    });
    refused = λ past.
        let stands : length (file (world_of old) f).bytes ≡ length (file_at old f).bytes = ap (λ (x : File). length x.bytes) (present old (call.before tells) f) in
        absurd (omega (arith, past, fits, stands));
  };
}

-- an append that put the whole piece
pub append_put : (old new : Bench) (f : FileNo) (piece : List ℕ) (result : Result Unit Failed) → length (file_at old f).bytes + length piece ≤ longest
    → Told tells_of old new (Reached f (appended piece) old new) → Told tells_of old new (Appended f piece result (world_of old) (world_of new))
append_put old new f piece result fits call = record {
  before = call.before;
  did = λ tells. record {
    shelf = (call.did tells).0;
    others = (call.did tells).1;
    ok = on_ok result _ (call.did tells).2;
    failed = on_err result _ (λ _. record {
      piece = piece;
      short = omega arith;
      bytes_are = ap (λ (x : File). x.bytes) (call.did tells).2;
      firm_is = ap (λ (x : File). x.firm) (call.did tells).2;
      reach_is = ap (λ (x : File). x.reach) (call.did tells).2;
    });
    refused = λ past.
        let stands : length (file (world_of old) f).bytes ≡ length (file_at old f).bytes = ap (λ (x : File). length x.bytes) (present old (call.before tells) f) in
        absurd (omega (arith, past, fits, stands));
  };
}

-- the same reason in other words
pub fails_as : {T : Type 0} (A B : Type 0) (result : Result T Failed) (old new : Bench) → (A → B) → (B → A) → FailsExactly A result old new → FailsExactly B result old new
fails_as A B result old new there back fails = record {
  cause = either A B result (Rose _ _) there fails.cause;
  due = λ reason. fails.due (back reason);
  starving = fails.starving;
  later = fails.later;
  kept = fails.kept;
  ticks = fails.ticks;
  dark = fails.dark;
  lists_are = fails.lists_are;
  watch_is = fails.watch_is;
}

-- where the station still tells its content, a call failed only for its reason
pub told_cause : {T : Type 0} (Reason : Type 0) (result : Result T Failed) (old new : Bench) → FailsExactly Reason result old new → IsTrue (tells_of new) → OnErr result Reason
told_cause Reason (Ok x) old new fails tells = tt
told_cause Reason (Err e) old new fails tells = elim fails.cause [
  | inl reason ↦ reason
  | inr rose ↦ let none : new.counts.starved ≡ 0 = (new.counts_are (ltb-true _ _ tells)).1 in absurd (omega (arith, none, rose))
]
